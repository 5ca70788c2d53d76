use Rattle.std.proofs.Common.{◌≡◌, ℕ, true, false, List, [], ◌∷◌, ◌++◌, refl, sym, ap, subst, ◌∙◌, Option, Some, None, ◌||◌, lit<}
use Rattle.dali_frame.specs.declared.{frames.{Answer.Answer, Forward.Forward}, numbers.SearchAddress.SearchAddress}
use Rattle.dali_script.specs.{Due.frame_put, Findings.{later, finding_of}, Records.Kept, Stages.stage_of, declared.{finding.Finding.Finding, stage.Stage.Stage}}
use Rattle.dali_script.{specs.declared.trace.Entry.Entry, proofs.Transactions.stage_none}
use Rattle.dali_search.specs.{Ascending.ascent_at_first, Least.at_first}
use Rattle.dali_controller.specs.{Course.closing_of, Legs.{way_on, is_searching, from_on, silences_on, search_on, ascent_on, with_silences}, Machine.Machine}
use Rattle.dali_controller.specs.Machine.{machine_told, asked_after, heard_after, is_complete, is_ended, is_passed_by, silent_after, tries_after}
use Rattle.dali_controller.specs.{Orders.asked_by, States.machine_with, Whole.{IsOpenedOn, IsUnstarted, IsWhole, Knows, Pending}, declared.leg.Leg.Leg}
use Rattle.dali_controller.specs.declared.{purpose.Purpose.{Purpose, TheVariants.{Opening, Asking}}, shorts.Shorts.Shorts, state.State.State}
use Rattle.dali_controller.{specs.declared.way.Way.TheVariants.{Fresh, Surveying}, proofs.Steps.{heard_by, sending, KnowsFor}}
use Rattle.dali_script.specs.declared.orders.Input.TheVariants as input
use Rattle.dali_controller.specs.declared.leg.Leg.TheVariants as leg

-- THE LEG of a machine, and what contracts see of it.

abbrev on_leg : State → Leg → State
on_leg s l = record s { leg = l }

-- ---------------------------------------------------------------- what is heard

-- the count of silences is the one of the table, on each leg
unasked : (p : Purpose) (s : Stage) (h : Answer) (n : ℕ) → ((a : ℕ) → p ≡ Asking a → ⊥) → asked_after p s h n ≡ 0
unasked (Asking a) s h n other = absurd (other a refl)
unasked _ s h n other = refl

counts_silences : (l : Leg) (k : Kept) (n : SearchAddress) (p : Purpose) (s : Stage) (h : Answer)
    → Knows (way_on l) k n (search_on l) (ascent_on l) (is_searching l) p
    → silences_on (with_silences l (asked_after p s h (silences_on l))) ≡ asked_after p s h (silences_on l)
counts_silences (leg.Revisiting from) k n p s h knows = sym (unasked p s h 0 (λ a e.
    let here = subst (λ q. Knows Fresh k n at_first ascent_at_first false q) e knows in let no : Fresh ≡ Surveying = here.1 in cc))
counts_silences (leg.Asking from silences) k n p s h knows = refl
counts_silences (leg.Searching x) k n p s h knows = sym (unasked p s h 0 (λ a e.
    let here = subst (λ q. Knows Fresh k n x ascent_at_first true q) e knows in let no : true ≡ false = here.0 in cc))
counts_silences (leg.Hunting v) k n p s h knows = sym (unasked p s h 0 (λ a e.
    let here = subst (λ q. Knows Surveying k n at_first v true q) e knows in let no : true ≡ false = here.0 in cc))

counted_on : (s : State) (k : Kept) (l : Leg) (count n : ℕ) → silences_on (with_silences l count) ≡ n
    → machine_with (on_leg s (with_silences l count)) k ≡ record (machine_with (on_leg s l) k) { asked = n }
counted_on s k (leg.Revisiting from) count n is = rw (← is)
counted_on s k _ count n is = rw (← is)

-- the state that has heard a frame
told_state : (s : State) (k : Kept) (f : Forward) (h : Answer) (t : List Entry) (found : Option Finding) (n i : ℕ) (shorts : Shorts) (count : ℕ)
    → IsWhole (machine_with s k) → frame_put s.last ≡ Some f → count ≡ asked_after s.purpose (stage_of t) h (silences_on s.leg)
    → machine_with (record s { trace = t; finding = found; tries = n; silent = i; heard = shorts; leg = with_silences s.leg count }) k
    ≡ record (machine_with s k) { trace = t; finding = found; tries = n; silent = i; heard = shorts; asked = count }
told_state s k f h t found n i shorts count whole put is =
    let knows = (sending (machine_with s k) s.last f put whole).ready.knows in
    counted_on (record s { trace = t; finding = found; tries = n; silent = i; heard = shorts }) k s.leg count count
    (ap (λ c. silences_on (with_silences s.leg c)) is ∙ counts_silences s.leg k s.number s.purpose (stage_of t) h knows ∙ sym is)

pub hears_told : (s noted : State) (k : Kept) (f : Forward) (h : Answer) (t : List Entry) (n i : ℕ) (shorts : Shorts) (count : ℕ) (l : Leg)
    → IsWhole (machine_with s k) → frame_put s.last ≡ Some f → t ≡ s.trace ++ (record { frame = f; heard = h }) ∷ []
    → noted ≡ record s { trace = t; finding = later s.finding (finding_of t) }
    → n ≡ tries_after (is_complete k (closing_of noted.purpose) (stage_of noted.trace) || is_ended noted.purpose noted.number (stage_of noted.trace)
    || is_passed_by (machine_with noted k) (stage_of noted.trace)) noted.tries
    → i ≡ silent_after (stage_of noted.trace) (is_searching noted.leg) noted.silent → shorts ≡ heard_after noted.purpose (stage_of noted.trace) h noted.heard
    → count ≡ asked_after noted.purpose (stage_of noted.trace) h (silences_on noted.leg) → l ≡ with_silences noted.leg count
    → machine_with (record noted { tries = n; silent = i; heard = shorts; leg = l }) k ≡ heard_by (machine_with s k) f h
hears_told s noted k f h t n i shorts count l whole put trace is tries silent marks counts leg =
    rw (leg, tries, silent, marks, counts, is, trace) (told_state s k f h _ _ _ _ _ _ whole put refl)

pub told_is : (w : Machine) (f : Forward) (h : Answer) → frame_put w.last ≡ Some f → heard_by w f h ≡ machine_told w (input.Heard h)
told_is w f h put = rw put refl

-- ---------------------------------------------------------------- what is known of a leg

-- no silence is counted if gear are searched
pub counted_leg : (l : Leg) → silences_on l ≡ asked_by (is_searching l) (silences_on l)
counted_leg (leg.Revisiting from) = refl
counted_leg _ = refl

-- a machine that has not begun
first_leg : (l : Leg) → is_searching l ≡ false → way_on l ≡ Fresh → from_on l ≡ 0 → l ≡ leg.Revisiting 0
first_leg (leg.Revisiting from) early fresh first = ap leg.Revisiting first
first_leg _ early fresh first = absurd (cc)

pub unstarted_leg : (s : State) (k : Kept) → IsWhole (machine_with s k) → s.last ≡ None → s.leg ≡ leg.Revisiting 0
unstarted_leg s k whole none =
    let u : IsUnstarted (machine_with s k) = subst (Pending (machine_with s k)) none whole in
    let early = subst (λ y. IsOpenedOn y (is_searching s.leg)) u.fresh (subst (KnowsFor (machine_with s k)) u.opening u.ready.knows) in
    first_leg s.leg early u.fresh u.first

pub whole_unstarted : (s : State) (k : Kept) → s.trace ≡ [] → s.last ≡ None → s.tries ≡ 0 → s.silent ≡ 0 → s.purpose ≡ Opening → s.leg ≡ leg.Revisiting 0
    → IsWhole (machine_with s k)
whole_unstarted s k trace last tries silent opening begins = rw last (record {
  ready = record { tries = rw tries (lit< tt); calm = rw (opening, silent, begins) (lit< tt); knows = rw (opening, begins) refl };
  free = ap stage_of trace ∙ stage_none;
  opening = opening;
  fresh = ap way_on begins;
  first = ap from_on begins;
})
