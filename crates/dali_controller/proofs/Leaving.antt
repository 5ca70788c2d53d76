use Rattle.std.proofs.Common.{map, ◌≡◌, inl, ℕ, ◌<◌, Bool, true, false, refl, sym, ap, subst, ◌∙◌, arith, Some, None, ◌&&◌, not, is_some}
use Rattle.dali_frame.specs.{Priority.LATER, Random.{value_of, MASK24}, declared.numbers.SearchAddress.SearchAddress}
use Rattle.dali_special.specs.{Command.frame_of, declared.command.Command.TheVariants.Program}
use Rattle.dali_script.specs.{Records.{IsKept, IsMap, InBlock, HasAddress, Kept, Has, HasRandom, Fits, MayAdd}, Stages.stage_of, declared.orders.Order.Order}
use Rattle.dali_script.specs.declared.{orders.Order.TheVariants.{Put, Commit}, records.Record.TheVariants.Reserve, stage.Stage.TheVariants.Unnamed}
use Rattle.dali_controller.specs.{Course.{Course, closing_of, address_for, least_open, is_anothers}, Machine.{Machine, is_withheld, is_withheld_by}}
use Rattle.dali_controller.specs.{Moments.{IsHeard, IsNext, IsFirstFree, IsUngiven}, Next.most_silent, Orders.{AfterReserved, AfterMaskBy, AfterMaskOn}}
use Rattle.dali_controller.specs.{Orders.{IsOrderedTo, is_left_by, machine_ordered}, Whole.IsVisitedOn, declared.purpose.Purpose.TheVariants.Visiting}
use Rattle.dali_controller.{specs.declared.{shorts.Shorts.Shorts, way.Way.{Way, TheVariants.{Fresh, Surveying}}}, proofs.Asked.{least_open_is, open_unreserved}}
use Rattle.dali_controller.proofs.{Courses.address_is, Steps.{IsMasked, calm_less, ordered_on, KnowsFor}}

-- GEAR THAT ANSWERED MASK is given what is reserved for it, or an address is reserved, or it is left.

-- In a survey what is reserved may be another's: then it is not given.
reserved_for : (k : Kept) (r a : ℕ) → IsKept k → Has k.reserved (a, r) → Some a ≡ address_for k.reserved r
reserved_for k r a kept has = address_is k.reserved r (Some a) kept.reserved.random_once has

withheld_opened : (o b : Bool) → (o && b) ≡ true → o ≡ true
withheld_opened true b e = refl
withheld_opened false b e = absurd (cc)

withheld_by : (y : Way) (t : Machine) (a r : ℕ) → is_withheld_by t y a r ≡ true → t.course.opened ≡ true
withheld_by Fresh t a r e = absurd (cc)
withheld_by Surveying t a r e = withheld_opened t.course.opened (is_anothers t.kept t.heard a r) e

pub withheld_searching : (w : Machine) (a m : ℕ) → is_withheld w a m ≡ true → w.course.opened ≡ true
withheld_searching w a m e = withheld_by w.course.way w a m e

left_by_withheld : (y : Way) (w : Machine) (r : SearchAddress) (a : ℕ) → w.course.way ≡ y → IsKept w.kept → Has w.kept.reserved (a, value_of r)
    → is_withheld w a (value_of r) ≡ true → IsUngiven y w r
left_by_withheld Fresh w r a way kept has withheld =
    absurd (let no : is_withheld_by w Fresh a (value_of r) ≡ true = rw way at withheld in cc)
left_by_withheld Surveying w r a way kept has withheld =
    ap (λ o. is_left_by w (value_of r) o (least_open w.kept w.heard)) (sym (reserved_for w.kept (value_of r) a kept has)) ∙ withheld

pub withheld_left : (w : Machine) (r : SearchAddress) (a m : ℕ) → IsKept w.kept → Has w.kept.reserved (a, value_of r) → m ≡ value_of r
    → is_withheld w a m ≡ true → IsUngiven w.course.way w r
withheld_left w r a m kept has is withheld = left_by_withheld w.course.way w r a refl kept has (ap (is_withheld w a) (sym is) ∙ withheld)

given_masked : (y : Way) (w : Machine) (r : SearchAddress) (a : ℕ) → IsKept w.kept → Has w.kept.reserved (a, value_of r)
    → is_withheld w a (value_of r) ≡ false → AfterMaskOn y w w.course r (Put LATER (frame_of (Program (Some a))))
given_masked Fresh w r a kept has given = inl (a, has, refl, refl)
given_masked Surveying w r a kept has given =
    let o : Order = Put LATER (frame_of (Program (Some a))) in
    let here : AfterReserved w a (is_withheld w a (value_of r)) o = subst (λ b. AfterReserved w a b o) (sym given) refl in
    subst (λ x. AfterMaskBy w r x (least_open w.kept w.heard) o) (reserved_for w.kept (value_of r) a kept has) here

pub gives_masked : (w : Machine) (r : SearchAddress) (a m : ℕ) → IsHeard w (Unnamed r) → IsKept w.kept → Has w.kept.reserved (a, value_of r) → m ≡ value_of r
    → is_withheld w a m ≡ false → IsMasked w (Put LATER (frame_of (Program (Some a))))
gives_masked w r a m h kept has is given q stage =
    let same : r ≡ q = cc (sym h.stage ∙ stage) in
    subst (λ x. AfterMaskOn w.course.way w w.course x (Put LATER (frame_of (Program (Some a))))) same
    (given_masked w.course.way w r a kept has (ap (is_withheld w a) (sym is) ∙ given))

-- gear that answered MASK and for whose number nothing is reserved is found by a search
pub free_searching : (w : Machine) (r : SearchAddress) → IsHeard w (Unnamed r) → (HasRandom w.kept.reserved (value_of r) → ⊥) → w.course.opened ≡ true
free_searching w r h free =
    let visiting : KnowsFor w Visiting = subst (KnowsFor w) h.arrived.0 h.knows in
    go w.course.way w.course.opened (subst (λ q. IsVisitedOn w.course.way w.kept (value_of q) w.course.opened) (sym h.arrived.1) visiting.1) where
      go : (y : Way) (o : Bool) → IsVisitedOn y w.kept (value_of r) o → o ≡ true
      go Fresh true may = refl
      go Fresh false may = absurd (free (may refl))
      go Surveying o may = may

-- The next free address is reserved; there is none if nothing is given.
free_within : (y : Way) (k : Kept) (heard : Shorts) (a : ℕ) → IsFirstFree y k heard (Some a) → InBlock k.block a × (HasAddress k.reserved a → ⊥)
free_within Fresh k heard a is = (is.within, is.free)
free_within Surveying k heard a is = let x = least_open_is k heard a (sym is) in (x.0, open_unreserved k heard a x.1)

none_reserved_for : (k : Kept) (r : ℕ) → IsMap k.reserved → (HasRandom k.reserved r → ⊥) → None ≡ address_for k.reserved r
none_reserved_for k r map free = address_is k.reserved r None map.random_once free

pub unfree_left : (y : Way) (w : Machine) (r : SearchAddress) → IsMap w.kept.reserved → (HasRandom w.kept.reserved (value_of r) → ⊥)
    → IsFirstFree y w.kept w.heard None → IsUngiven y w r
unfree_left Fresh w r map free is = (free, is)
unfree_left Surveying w r map free is =
    ap (λ o. is_left_by w (value_of r) o (least_open w.kept w.heard)) (sym (none_reserved_for w.kept (value_of r) map free))
    ∙ ap (λ o. not (is_some o)) (sym is)

reserved_masked : (y : Way) (w : Machine) (c : Course) (r : SearchAddress) (a m : ℕ) → IsMap w.kept.reserved → (HasRandom w.kept.reserved (value_of r) → ⊥)
    → IsFirstFree y w.kept w.heard (Some a) → m ≡ value_of r → AfterMaskOn y w c r (Commit (Reserve a m))
reserved_masked Fresh w c r a m map free is same = (sym same, subst (λ n. HasRandom w.kept.reserved n → ⊥) (sym same) free, is)
reserved_masked Surveying w c r a m map free is same =
    subst (λ x. AfterMaskBy w r x (least_open w.kept w.heard) (Commit (Reserve a m))) (none_reserved_for w.kept (value_of r) map free)
    (subst (λ x. AfterMaskBy w r None x (Commit (Reserve a m))) is (ap (λ n. Commit (Reserve a n)) same))

-- what may be reserved for gear that answered MASK
pub record IsReservable (w : Machine) (a m : ℕ) : Type 0 where
  pub fits : Fits w.kept.block (Reserve a m)
  pub may : MayAdd w.kept (Reserve a m)

pub reservable : (w : Machine) (r : SearchAddress) (a m : ℕ) → IsHeard w (Unnamed r) → (HasRandom w.kept.reserved (value_of r) → ⊥)
    → IsFirstFree w.course.way w.kept w.heard (Some a) → m ≡ value_of r → IsReservable w a m
reservable w r a m h free is same =
    let visiting : KnowsFor w Visiting = subst (KnowsFor w) h.arrived.0 h.knows in
    let x = free_within w.course.way w.kept w.heard a is in
    let drawn : value_of r < MASK24 = subst (λ q. value_of q < MASK24) (sym h.arrived.1) visiting.0 in
    record {
      fits = (x.0, rw same drawn);
      may = (x.1, rw same free);
    }

reserves_at : (w : Machine) (c : Course) (r : SearchAddress) (a m : ℕ) → IsMap w.kept.reserved → IsHeard w (Unnamed r)
    → (HasRandom w.kept.reserved (value_of r) → ⊥) → IsFirstFree w.course.way w.kept w.heard (Some a) → m ≡ value_of r → IsOrderedTo w c (Commit (Reserve a m))
reserves_at w c r a m map h free is same =
    let tries : w.tries < 8 = h.tries in
    let going : closing_of w.course.purpose ≡ None = ap closing_of h.arrived.0 in
    let calm : w.silent < most_silent w.course.way = calm_less w.course.way w.course.purpose w.silent going h.calm in
    let may = reservable w r a m h free is same in
    let stage : stage_of w.trace ≡ Unnamed r = h.stage in
    record {
      allowed = record { fits = may.fits; may = may.may; warranted = (r, h.stage, sym same) };
      addressing = tt;
      caused = going;
      given_up = λ e. absurd (omega arith);
      silent = λ e. absurd (omega arith);
      unnamed = λ q e. let one : r ≡ q = cc (sym stage ∙ e) in subst (λ x. AfterMaskOn w.course.way w c x (Commit (Reserve a m))) one
          (reserved_masked w.course.way w c r a m map free is same);
      found = λ q b e. absurd (cc);
    }

pub reserves : (w : Machine) (r : SearchAddress) (a m : ℕ) (o : Order) (new : Machine) → IsMap w.kept.reserved → IsHeard w (Unnamed r)
    → (HasRandom w.kept.reserved (value_of r) → ⊥) → IsFirstFree w.course.way w.kept w.heard (Some a) → m ≡ value_of r
    → o ≡ Commit (Reserve a m) → new ≡ machine_ordered w o → IsNext w o new
reserves w r a m o new map h free is same order state = record {
  order = rw order (reserves_at w new.course r a m map h free is same);
  state = ordered_on w o new state;
}
