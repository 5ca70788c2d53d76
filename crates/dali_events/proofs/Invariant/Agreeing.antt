use Rattle.std.proofs.Common.{arith, inl, inr, Some, ◌≡◌, ℕ, ◌<◌, ◌==◌, true, List, [], ◌∷◌, ◌++◌, refl, sym, ap, subst, ◌∙◌, length}
use Rattle.std.{proofs.lemmas.Bool.Decides.nat_tests, specs.List.AllByRecursion}
use Rattle.dali_frame.specs.{Random.number_of, declared.{frames.{Answer.TheVariants.Byte, Forward.Forward}, numbers.SearchAddress.SearchAddress}}
use Rattle.dali_special.specs.{Command.command_of, declared.command.{Command.{Command, TheVariants.RandomByte}, Part.TheVariants.{High, Middle, Low}}}
use Rattle.dali_script.specs.{Findings.{Asked, two_bytes, asked_of, search_of, found_by}, Records.{Assignment, Has}}
use Rattle.dali_script.{specs.declared.finding.Finding.TheVariants.Resolved, proofs.{Lists.has_map, Members.same_member}}
use Rattle.dali_events.specs.{Allowed.Allowed, Happens.{happens, trace_running, entry}, Laws.{GiftsAreReserved, GiftsAreOwned, KeepsReserved, TablesAgree}}
use Rattle.dali_events.specs.{Laws.{HasFound, FindingsAgree, IsReservedFor, KeepsRecords}, Plan.{Plan, IsPlan}, Promise.{IsEnrolled, NamesGear, Names, IsSafe}}
use Rattle.dali_events.specs.{Promise.HoldsShort, Runs.{after, after_all, AllAllowed, IsRun, AreDrawn, LeavesUsed}, Used.gear_of_used, World.{World, gear_at}}
use Rattle.dali_events.specs.{World.{controller_at, start}, declared.{event.Event.{Event, TheVariants.Sent}, used.Used.Used}}
use Rattle.dali_events.proofs.Invariant.{Controllers.controllers_count, Drawn.drawn_in_front, Gifts.IsOwned, Growing.{after_both, allowed_front, allowed_rest}}
use Rattle.dali_events.proofs.Invariant.{Growing.{all_front, leaves_rest, last_allowed}, Keeping.records_of, Safe.{Holds, keeps_step, stays_step}}
use Rattle.dali_events.proofs.Invariant.{Safe.{holds_step, holds_after, safe, run_front, keeps_promise, finding_named, found_names}, Starting.start_count}
use Rattle.dali_events.proofs.Invariant.Starting.{stands}

-- GIFTS STAY RESERVED
pub gifts_owned : (p : Plan) (capacity : ℕ) (front rest : List Event) → IsRun p capacity (front ++ rest) → GiftsAreOwned p.used (after p capacity front)
gifts_owned p capacity front rest run g a gift = (holds_after p capacity front (run_front p capacity front rest run)).gifts.reserved g a gift

pub gifts_reserved : (p : Plan) (capacity : ℕ) (front rest : List Event) → IsRun p capacity (front ++ rest) → p.used ≡ []
    → GiftsAreReserved (after p capacity front)
gifts_reserved p capacity front rest run none g a gift =
    go (gifts_owned p capacity front rest run g a gift) where
      go : IsOwned p.used (after p capacity front).controllers (a, (gear_at (after p capacity front) g).random)
          → IsReservedFor (after p capacity front) a (gear_at (after p capacity front) g).random
      go (inl h) = h
      go (inr h) = absurd (unused h.0 (subst (λ (us : List Used). Has us h.0) none h.1)) where
        unused : (u : Used) → Has [] u → ⊥
        unused u k = elim k [ ]

held_at : {p : Plan} {w : World} → Holds p w → (g a : ℕ) → Has w.gifts (g, a) → HoldsShort w g a
held_at {p} {w} k g a gift = let there = k.gifts.there g a gift in (there, (k.gifts.holds g a there).1 gift)

reserved_stays : (p : Plan) → IsPlan p → (w : World) (es : List Event) → AllAllowed w es → AllByRecursion (LeavesUsed p.used) es → Holds p w
    → KeepsReserved w (after_all w es)
reserved_stays p plan w [] all leave k = λ c g a there gift h. h
reserved_stays p plan w (e ∷ es) all leave k = λ c g a there gift h.
    let v : World = happens w e in
    let kept = keeps_step p plan w e all.0 leave.0 k g a gift in
    let here : c < length v.controllers = subst (λ n. c < n) (sym (controllers_count w e)) there in
    let before : Has (controller_at w c).records.reserved (a, (gear_at v g).random) =
    subst (λ r. Has (controller_at w c).records.reserved (a, r)) (sym kept.1) h in
    let next : Has (controller_at v c).records.reserved (a, (gear_at v g).random) =
    stays_step p plan w e all.0 leave.0 k c g a there (held_at (holds_step p plan w e all.0 leave.0 k) g a kept.0) before in
    subst (λ r. Has (controller_at (after_all v es) c).records.reserved (a, r)) kept.1
    (reserved_stays p plan v es all.1 leave.1 (holds_step p plan w e all.0 leave.0 k) c g a here kept.0 next)

pub reservations_stay : (p : Plan) (capacity : ℕ) (front later rest : List Event) → IsRun p capacity (front ++ (later ++ rest))
    → KeepsReserved (after p capacity front) (after p capacity (front ++ later))
reservations_stay p capacity front later rest run =
    let allowed : AllAllowed (after p capacity front) later =
    allowed_front (after p capacity front) later rest (allowed_rest (start p capacity) front (later ++ rest) run.allowed) in
    let leaves : AllByRecursion (LeavesUsed p.used) later = all_front (LeavesUsed p.used) later rest (leaves_rest p.used front (later ++ rest) run.leaves) in
    subst (λ v. KeepsReserved (after p capacity front) v) (sym (after_both (start p capacity) front later))
    (reserved_stays p run.plan (after p capacity front) later allowed leaves (holds_after p capacity front (run_front p capacity front (later ++ rest) run)))

-- USED GEAR KEEP what they came with
pub used_kept : (p : Plan) (capacity : ℕ) (front rest : List Event) (u : Used) → IsRun p capacity (front ++ rest) → Has p.used u
    → HoldsShort (after p capacity front) u.gear u.short × ((gear_at (after p capacity front) u.gear).random ≡ u.random)
used_kept p capacity front rest u run has =
    let at : gear_at (start p capacity) u.gear ≡ gear_of_used u = stands p run.plan.used u has in
    let there : u.gear < length (start p capacity).gear =
    subst (λ n. u.gear < n) (sym (start_count p)) (run.plan.used.there u.gear (has_map (λ x. x.gear) p.used u has)) in
    let stays = (keeps_promise p capacity (front ++ rest) run).ever_after [] front rest refl u.gear u.short (there, ap (λ x. x.short) at) in
    (stays.0, stays.1 ∙ ap (λ x. x.random) at)

-- TABLES AGREE
module _ (w : World) (s : IsSafe w) where
  pair : (x y : Assignment) → x.0 ≡ y.0 → x.1 ≡ y.1 → x ≡ y
  pair x y first second = ap (λ a. (a, x.1)) first ∙ ap (λ r. (y.0, r)) second

  -- the same gear, the same entry
  one_entry : (x y : Assignment) (g h : ℕ) → NamesGear w x g → NamesGear w y h → g ≡ h → x ≡ y
  one_entry x y g h n m same =
      let given : Has w.gifts (g, y.0) = subst (λ k. Has w.gifts (k, y.0)) (sym same) m.given in
      let random : (gear_at w g).random ≡ y.1 = subst (λ k. (gear_at w k).random ≡ y.1) (sym same) m.random in
      pair x y (ap (λ gift. gift.1) (same_member (λ gift. gift.0) w.gifts (g, x.0) (g, y.0) s.gear_once n.given given refl)) (sym n.random ∙ random)

  one_address : (x y : Assignment) → Names w x → Names w y → x.0 ≡ y.0 → x ≡ y
  one_address x y n m same =
      let given : Has w.gifts (n.0, y.0) = subst (λ a. Has w.gifts (n.0, a)) same n.2.given in
      one_entry x y n.0 m.0 n.2 m.2 (ap (λ gift. gift.0) (same_member (λ gift. gift.1) w.gifts (n.0, y.0) (m.0, y.0) s.address_once given m.2.given refl))

  one_number : AreDrawn w → (x y : Assignment) → Names w x → Names w y → x.1 ≡ y.1 → x ≡ y
  one_number d x y n m same =
      let drew : Has w.drawn (n.0, y.1) = subst (λ r. Has w.drawn (n.0, r)) same n.2.drawer in
      one_entry x y n.0 m.0 n.2 m.2 (ap (λ draw. draw.0) (same_member (λ draw. draw.1) w.drawn (n.0, y.1) (m.0, y.1) d.once drew m.2.drawer refl))

  pub found_address : (d : ℕ) (x y : Assignment) → Names w x → IsEnrolled w d y → x.0 ≡ y.0 → x ≡ y
  found_address d x y n h same = one_address x y n (s.tables d y h) same

  pub found_number : AreDrawn w → (d : ℕ) (x y : Assignment) → Names w x → IsEnrolled w d y → x.1 ≡ y.1 → x ≡ y
  found_number a d x y n h same = one_number a x y n (s.tables d y h) same

  pub tables_agree : AreDrawn w → TablesAgree w
  tables_agree d = record {
    address = λ c k x y h i same. one_address x y (s.tables c x h) (s.tables k y i) same;
    number = λ c k x y h i same. one_number d x y (s.tables c x h) (s.tables k y i) same;
    gear = λ c k g x y h i n m. one_entry x y g g n m refl;
  }

pub tables_agree_in : (p : Plan) (capacity : ℕ) (front rest : List Event) → IsRun p capacity (front ++ rest) → TablesAgree (after p capacity front)
tables_agree_in p capacity front rest run =
    tables_agree (after p capacity front) (safe p run.plan (after p capacity front) (holds_after p capacity front (run_front p capacity front rest run)))
    (drawn_in_front p capacity front rest run)

-- FINDINGS AGREE
pub findings_agree : (p : Plan) → IsPlan p → (w : World) → Holds p w → AreDrawn w → FindingsAgree w
findings_agree p plan w k d = record {
  named = named;
  address = λ c e x y h i same. found_address w (safe p plan w k) e x y (named c x h) i same;
  number = λ c e x y h i same. found_number w (safe p plan w k) d e x y (named c x h) i same;
} where
  named : (c : ℕ) (x : Assignment) → HasFound w c x → Names w x
  named c x h = subst (Names w) h.1.2 (finding_named p plan w k c h.1.0 h.0 h.1.1)

pub findings_agree_in : (p : Plan) (capacity : ℕ) (front rest : List Event) → IsRun p capacity (front ++ rest) → FindingsAgree (after p capacity front)
findings_agree_in p capacity front rest run =
    findings_agree p run.plan (after p capacity front) (holds_after p capacity front (run_front p capacity front rest run))
    (drawn_in_front p capacity front rest run)

-- RECORDS ARE KEPT
pub records_kept : (p : Plan) (capacity : ℕ) (front rest : List Event) → IsRun p capacity (front ++ rest) → KeepsRecords p (after p capacity front)
records_kept p capacity front rest run = records_of p (after p capacity front) (holds_after p capacity front (run_front p capacity front rest run)).keeps

-- A RANDOM ADDRESS IS TOLD BY ITS GEAR
self : (n : ℕ) → (n == n) ≡ true
self n = grind (arith, nat_tests)

two_asked : (a high middle : ℕ) (f g : Forward) → command_of f ≡ RandomByte a High → command_of g ≡ RandomByte a Middle
    → asked_of (entry f (Byte high) ∷ entry g (Byte middle) ∷ []) ≡ two_bytes a high middle
two_asked a high middle f g first second = rw (first, second, self a) refl

pub told_by_gear : (p : Plan) (capacity : ℕ) (log : List Event) (c a high middle low : ℕ) (f g h : Forward) → IsRun p capacity (log ++ Sent c h (Byte low) ∷ [])
    → trace_running (after p capacity log) c ≡ entry f (Byte high) ∷ entry g (Byte middle) ∷ []
    → command_of f ≡ RandomByte a High → command_of g ≡ RandomByte a Middle → command_of h ≡ RandomByte a Low
    → Names (after p capacity log) (a, number_of high middle low)
told_by_gear p capacity log c a high middle low f g h run running first second third =
    let w : World = after p capacity log in
    let k : Holds p w = holds_after p capacity log (run_front p capacity log (Sent c h (Byte low) ∷ []) run) in
    let here : Allowed w (Sent c h (Byte low)) = last_allowed p capacity log (Sent c h (Byte low)) run in
    found_names p run.plan w k c h (Byte low) here (Resolved a (number_of high middle low))
    (finds (search_of (trace_running w c)) third (ap asked_of running ∙ two_asked a high middle f g first second))
  where
    finds : (s : SearchAddress) {x : Command} {q : Asked} → x ≡ RandomByte a Low → q ≡ two_bytes a high middle
        → found_by s q x (Byte low) ≡ Some (Resolved a (number_of high middle low))
    finds s {x} {q} is asked = rw (is, asked, self a) refl
