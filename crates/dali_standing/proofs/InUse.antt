use Rattle.std.proofs.Common.{◌≡◌, ℕ, ◌<◌, inl, inr, Bool, true, false, Option, Some, None, List, [], ◌∷◌, refl, sym, ap, subst, ◌∙◌, arith, ◌==◌, ◌||◌, nat_lt}
use Rattle.std.{proofs.lemmas.Bool.Decides.nat_tests, specs.List.list_any}
use Rattle.dali_frame.specs.{Random.value_of, declared.numbers.SearchAddress.SearchAddress}
use Rattle.dali_script.specs.{Records.Assignment, Records.Has, Records.HasRandom, Records.IsLeastFree, declared.block.Block.Block, declared.orders.Input.Input}
use Rattle.dali_script.specs.declared.orders.Order.{Order, TheVariants.Put, TheVariants.Commit, TheVariants.Done, TheVariants.Halt}
use Rattle.dali_script.specs.declared.records.Record.TheVariants.{Reserve, Enrol, Release}
use Rattle.dali_script.proofs.Lists.{has_map}
use Rattle.dali_script.specs.declared.orders.Input.TheVariants as input
use Rattle.dali_controller.specs.{Course.Course, Course.address_for, Course.least_open, Machine.Machine, Machine.machine_told, Machine.is_withheld}
use Rattle.dali_controller.specs.Orders.{AfterMask, AfterReserved, AfterMaskBy, AfterMaskSurveyed, AfterMaskOn, IsOrdered, IsAnswered}
use Rattle.dali_controller.specs.declared.way.Way.{Way, TheVariants.Fresh, TheVariants.Surveying}
use Rattle.dali_events.specs.{Runs.LeavesUsed, Used.used_shorts, declared.used.Used.Used}
use Rattle.dali_events.specs.declared.event.Event.TheVariants as event
use Rattle.dali_standing.specs.Seats.{MayAnswer, ReservesUsed, MayReserveUsed}

-- ---------------------------------------------------------------- short addresses that used gear have

pub in_use : (us : List Used) (a : ℕ) → list_any (λ u. u.short == a) us ≡ true → Has (used_shorts us) a
in_use [] a is = absurd (cc)
in_use (u ∷ us) a is = go (u.short == a) refl is (in_use us a) where
  go : (b : Bool) → (u.short == a) ≡ b → (b || list_any (λ v. v.short == a) us) ≡ true → (list_any (λ v. v.short == a) us ≡ true → Has (used_shorts us) a)
      → Has (used_shorts (u ∷ us)) a
  go true here some rest = inl (let same : u.short ≡ a = grind (arith, nat_tests) in same)
  go false here some rest = inr (rest some)

pub not_in_use : (us : List Used) (a : ℕ) → list_any (λ u. u.short == a) us ≡ false → Has (used_shorts us) a → ⊥
not_in_use [] a none has = has
not_in_use (u ∷ us) a none has = go (u.short == a) refl none has (not_in_use us a) where
  go : (b : Bool) → (u.short == a) ≡ b → (b || list_any (λ v. v.short == a) us) ≡ false → Has (used_shorts (u ∷ us)) a
      → (list_any (λ v. v.short == a) us ≡ false → Has (used_shorts us) a → ⊥) → ⊥
  go true here nobody h rest = cc
  go false here nobody (inl same) rest = grind (arith, nat_tests)
  go false here nobody (inr h) rest = rest nobody h

-- an order that reserves none of them leaves used gear alone
pub leaves_acted : (us : List Used) (c : ℕ) (i : Input) (o : Order) → (ReservesUsed us o → ⊥) → LeavesUsed us (event.Acted c i o)
leaves_acted us c i o none d j a r is has =
    let same : o ≡ Commit (Reserve a r) = cc in
    none (subst (λ x. ReservesUsed us x) (sym same) has)

-- ---------------------------------------------------------------- one order alone

-- WHERE A MACHINE MAY ORDER TO RESERVE AN ADDRESS it may order nothing else.

one_least : (b : Block) (xs : List Assignment) (a c : ℕ) → IsLeastFree b xs a → IsLeastFree b xs c → a ≡ c
one_least b xs a c one two = go (nat_lt a c) (nat_lt c a) refl refl where
  go : (below above : Bool) → nat_lt a c ≡ below → nat_lt c a ≡ above → a ≡ c
  go true above is_below is_above =
      let order : a < c = grind (arith, nat_tests) in
      absurd (one.free (two.least a one.within order))
  go false true is_below is_above =
      let order : c < a = grind (arith, nat_tests) in
      absurd (two.free (one.least c two.within order))
  go false false is_below is_above = grind (arith, nat_tests)

mask_alone : (t : Machine) (c d : Course) (n : SearchAddress) (a r : ℕ) (o : Order) → AfterMask t c n (Commit (Reserve a r)) → AfterMask t d n o
    → o ≡ Commit (Reserve a r)
mask_alone t c d n a r (Put p f) one (inl k) =
    absurd (one.1 (subst (λ m. HasRandom t.kept.reserved m) one.0 (has_map (λ x. x.1) t.kept.reserved (k.0, value_of n) k.1)))
mask_alone t c d n a r (Put p f) one (inr k) = absurd (one.2.free (k.1 a one.2.within))
mask_alone t c d n a r (Commit (Reserve b m)) one two =
    ap (λ x. Commit (Reserve x m)) (one_least t.kept.block t.kept.reserved b a two.2 one.2) ∙ ap (λ x. Commit (Reserve a x)) (sym two.0 ∙ one.0)
mask_alone t c d n a r (Commit (Enrol b m)) one two = elim two [ ]
mask_alone t c d n a r (Commit (Release b m)) one two = elim two [ ]
mask_alone t c d n a r (Done e) one two = elim two [ ]
mask_alone t c d n a r (Halt why) one two = elim two [ ]

surveyed_alone : (t : Machine) (n : SearchAddress) (a r : ℕ) (o : Order) → AfterMaskSurveyed t n (Commit (Reserve a r)) → AfterMaskSurveyed t n o
    → o ≡ Commit (Reserve a r)
surveyed_alone t n a r o one two = go (address_for t.kept.reserved (value_of n)) (least_open t.kept t.heard) one two where
  given : (b : ℕ) (withheld : Bool) → AfterReserved t b withheld (Commit (Reserve a r)) → o ≡ Commit (Reserve a r)
  given b true is = absurd (cc)
  given b false is = absurd (cc)

  go : (x free : Option ℕ) → AfterMaskBy t n x free (Commit (Reserve a r)) → AfterMaskBy t n x free o → o ≡ Commit (Reserve a r)
  go (Some b) free is isnt = given b (is_withheld t b (value_of n)) is
  go None (Some b) is same = same ∙ sym is
  go None None is isnt = absurd (cc)

way_alone : (w : Way) (t : Machine) (c d : Course) (n : SearchAddress) (a r : ℕ) (o : Order) → AfterMaskOn w t c n (Commit (Reserve a r))
    → AfterMaskOn w t d n o
    → o ≡ Commit (Reserve a r)
way_alone Fresh t c d n a r o one two = mask_alone t c d n a r o one two
way_alone Surveying t c d n a r o one two = surveyed_alone t n a r o one two

ordered_alone : (t : Machine) (a r : ℕ) (o : Order) → IsOrdered t (Commit (Reserve a r)) → IsOrdered t o → o ≡ Commit (Reserve a r)
ordered_alone t a r o one two =
    let found = one.allowed.warranted in
    way_alone t.course.way t _ _ found.0 a r o (one.unnamed found.0 found.1) (two.unnamed found.0 found.1)

answered_alone : (m : Machine) (i : Input) (a r : ℕ) (o : Order) → IsAnswered m i (Commit (Reserve a r)) → IsAnswered m i o → o ≡ Commit (Reserve a r)
answered_alone m input.CommitFailed a r o one two = absurd (cc)
answered_alone m input.Start a r o one two = ordered_alone (machine_told m input.Start) a r o one two
answered_alone m input.Survey a r o one two = ordered_alone (machine_told m input.Survey) a r o one two
answered_alone m (input.Heard h) a r o one two = ordered_alone (machine_told m (input.Heard h)) a r o one two
answered_alone m input.Destroyed a r o one two = ordered_alone (machine_told m input.Destroyed) a r o one two
answered_alone m input.Lapsed a r o one two = ordered_alone (machine_told m input.Lapsed) a r o one two
answered_alone m input.Committed a r o one two = ordered_alone (machine_told m input.Committed) a r o one two

-- so where it may reserve an address that used gear have, whatever it orders does so
pub reserves_alone : (us : List Used) (m : Option Machine) (i : Input) (o : Order) → MayAnswer m i o → MayReserveUsed us m i → ReservesUsed us o
reserves_alone us None i o answer may = elim answer [ ]
reserves_alone us (Some m) i o answer may = go may.0 may.1 may.2 where
  go : (p : Order) → MayAnswer (Some m) i p → ReservesUsed us p → ReservesUsed us o
  go (Commit (Reserve a r)) is has = subst (λ x. ReservesUsed us x) (sym (answered_alone m i a r o is.answered answer.answered)) has
  go _ is has = elim has [ ]
