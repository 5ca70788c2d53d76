use Rattle.std.proofs.Common.{◌≡◌, ℕ, ◌+◌, ◌<◌, Bool, true, false, List, [], ◌∷◌, ◌++◌, refl, ap, arith, Option, Some, None, is_none, not, ◌==◌, ◌&&◌, nat_lt}
use Rattle.std.proofs.{Common.nat_le, lemmas.Bool.Decides.nat_tests}
use Rattle.dali_frame.specs.Random.{value_of, MASK24}
use Rattle.dali_frame.specs.declared.frames.Answer.{Answer, TheVariants.Silence, TheVariants.Byte, TheVariants.Damaged}
use Rattle.dali_special.specs.{Command.command_of, Command.frame, declared.command.Command.Command, declared.command.Command.TheVariants.QueryShort}
use Rattle.dali_gear.specs.{Row.heard_of, Row.answers_of, declared.row.Reach.TheVariants.Everyone}
use Rattle.dali_script.specs.{Findings.search_of, Stages.stage_of, declared.orders.End.TheVariants.AllFound, declared.orders.Order.TheVariants.Done}
use Rattle.dali_script.{specs.declared.trace.Entry.Entry, proofs.Giving.first_of_both, proofs.Giving.second_of_both, proofs.Transactions.equal}
use Rattle.dali_script.specs.declared.orders.Input.TheVariants as input
use Rattle.dali_audit.specs.{Findings.findings_in, Findings.known_in, Holders.holder_at}
use Rattle.dali_audit.specs.declared.findings.Kind.TheVariants as kind
use Rattle.dali_audit.specs.declared.holders.Holder.TheVariants as holder
use Rattle.dali_events.specs.Happens.{happens, gives_up, trace_running}
use Rattle.dali_events.specs.{Plan.Plan, Plan.plan_of, Runs.AllAllowed, World.World, World.start, declared.event.Event.Event}
use Rattle.dali_events.proofs.Histories.Openings.{at_123456, opening, visit, query, silent}
use Rattle.dali_events.proofs.{Histories.Tested.all_allowed_by, Invariant.Growing.leave_none, Plans.plan_is}
use Rattle.dali_events.specs.declared.event.Event.TheVariants as event
use Rattle.dali_audit_laws.specs.Capture.{capture_of, frames_of, is_randomise, begins_at, ends_at, next_at}
use Rattle.dali_audit_laws.specs.Undisturbed.{DisturbsNothing, DisturbNothing, Since, at_first, open_since, Within, AreInTime, IsUndisturbed}

-- AN UNDISTURBED RUN, proved by computing: one gear and one controller, an opening, a number that is reserved, an address that is
-- given, and TERMINATE. It shows that the law speaks of something.

-- ---------------------------------------------------------------- whether an event disturbs nothing, as a test
abbrev same_answer : Answer → Answer → Bool
same_answer Silence Silence = true
same_answer Silence _ = false
same_answer Damaged Damaged = true
same_answer Damaged _ = false
same_answer (Byte u) (Byte v) = u == v
same_answer (Byte u) _ = false

same_by : (g h : Answer) → same_answer g h ≡ true → g ≡ h
same_by Silence Silence e = refl
same_by Damaged Damaged e = refl
same_by (Byte u) (Byte v) e = ap (λ n. Byte n) (equal u v e)
same_by _ _ e = absurd (cc)

abbrev seeks : Command → ℕ → Bool
seeks QueryShort n = nat_lt n MASK24
seeks _ n = true

seeks_by : (c : Command) (n : ℕ) → seeks c n ≡ true → c ≡ QueryShort → n < MASK24
seeks_by QueryShort n e is = grind (arith, nat_tests)
seeks_by _ n e is = absurd (cc)

abbrev is_calm : World → Event → Bool
is_calm w (event.Acted c i o) = not (gives_up w.bus c o)
is_calm w (event.Sent c f h) =
    same_answer h (heard_of (answers_of Everyone (command_of f) 0 w.gear)) && seeks (command_of f) (value_of (search_of (trace_running w c)))
is_calm w _ = false

kept : (m : Bool) {A : Type 0} → not m ≡ true → m ≡ true → A → ⊥
kept true e is a = cc
kept false e is a = cc

calm_by : (w : World) (e : Event) → is_calm w e ≡ true → DisturbsNothing w e
calm_by w (event.Acted c i o) e = kept (gives_up w.bus c o) e
calm_by w (event.Sent c f h) e = (
  same_by h (heard_of (answers_of Everyone (command_of f) 0 w.gear)) (first_of_both _ _ e),
  seeks_by (command_of f) (value_of (search_of (trace_running w c))) (second_of_both _ _ e),
)
calm_by w _ e = absurd (cc)

abbrev are_calm : World → List Event → Bool
are_calm w [] = true
are_calm w (e ∷ es) = is_calm w e && are_calm (happens w e) es

all_calm_by : (w : World) (es : List Event) → are_calm w es ≡ true → DisturbNothing w es
all_calm_by w [] e = tt
all_calm_by w (x ∷ es) e = (calm_by w x (first_of_both _ _ e), all_calm_by (happens w x) es (second_of_both _ _ e))

-- ---------------------------------------------------------------- the run
abbrev plan : Plan
plan = plan_of 1 ((0, 3) ∷ []) (0x123456 ∷ [])

abbrev log : List Event
log = opening 0 ++ (visit 0 (input.Heard Silence) at_123456 0 ++ (query 0 0x01 ∷ silent 0 0xAB 0 ∷ silent 0 0xA1 0 ∷ []))

-- whether initialisations are ended in time, as a test
abbrev within : Option ℕ → ℕ → Bool
within None at = true
within (Some since) at = nat_le at (since + 900000000)

within_by : (since : Option ℕ) (at : ℕ) → within since at ≡ true → Within since at
within_by None at e = tt
within_by (Some since) at e = grind (arith, nat_tests)

abbrev are_in_time : Since → ℕ → Bool → List Entry → Bool
are_in_time since now drew [] = is_none since.at && not since.is_cut
are_in_time since now drew (x ∷ xs) =
    within since.at (begins_at now drew x)
    && are_in_time (open_since (command_of x.frame) (ends_at now drew x) since) (next_at now drew x) (is_randomise (command_of x.frame)) xs

none_by : (o : Option ℕ) → is_none o ≡ true → o ≡ None
none_by None e = refl
none_by (Some n) e = absurd (cc)

kept_not : (m : Bool) → not m ≡ true → m ≡ false
kept_not true e = absurd (cc)
kept_not false e = refl

in_time_by : (xs : List Entry) (since : Since) (now : ℕ) (drew : Bool) → are_in_time since now drew xs ≡ true → AreInTime since now drew xs
in_time_by [] since now drew e = (none_by since.at (first_of_both _ _ e), kept_not since.is_cut (second_of_both _ _ e))
in_time_by (x ∷ xs) since now drew e = (within_by since.at (begins_at now drew x) (first_of_both _ _ e), in_time_by xs _ _ _ (second_of_both _ _ e))

pub undisturbed : IsUndisturbed plan 8 log
unfolding command_of stage_of
undisturbed = record {
  run = record {
    plan = plan_is 1 ((0, 3) ∷ []) (0x123456 ∷ []) refl;
    allowed = all_allowed_by (start plan 8) log refl;
    leaves = leave_none plan refl log;
  };
  factory = refl;
  calm = all_calm_by (start plan 8) log refl;
  in_time = in_time_by (frames_of log) at_first 0 false refl;
}

-- and what the audit knows after it
verified : holder_at (known_in (capture_of log)).table 0 ≡ holder.Verified 0x123456
unfolding command_of
verified = refl

-- ---------------------------------------------------------------- WITHOUT ONE PREMISE a run has a finding

-- a transaction is given up between the two INITIALISE
abbrev broken : List Event
broken = silent 0 0xA1 0 ∷ silent 0 0xA5 0xFF ∷ event.Acted 0 (input.Heard Silence) (Done AllFound) ∷ silent 0 0xA1 0 ∷ []

broken_is_run : AllAllowed (start plan 8) broken
unfolding command_of stage_of
broken_is_run = all_allowed_by (start plan 8) broken refl

broken_is_told : findings_in (capture_of broken) ≡ record { at = 42523; kind = kind.HalfPair } ∷ []
unfolding command_of
broken_is_told = refl

-- no TERMINATE comes after the last INITIALISE
open_is_run : AllAllowed (start plan 8) (opening 0)
unfolding command_of stage_of
open_is_run = all_allowed_by (start plan 8) (opening 0) refl

open_is_told : findings_in (capture_of (opening 0)) ≡ record { at = 70868; kind = kind.NotTerminated } ∷ []
unfolding command_of
open_is_told = refl

-- two gear that have not drawn are asked under FFFFFF
abbrev two : Plan
two = plan_of 2 ((0, 3) ∷ []) (0x123456 ∷ 0x0ABCDE ∷ [])

abbrev masked : List Event
masked =
    silent 0 0xA1 0 ∷ silent 0 0xA5 0xFF ∷ silent 0 0xA5 0xFF ∷ silent 0 0xB1 0xFF ∷ silent 0 0xB5 0xFF ∷ silent 0 0xB3 0xFF
    ∷ event.Acted 0 (input.Heard Silence) (Done AllFound) ∷ silent 0 0xB1 0xFF ∷ silent 0 0xB3 0xFF ∷ silent 0 0xB5 0xFF
    ∷ event.Sent 0 (frame 0xBB 0) Damaged ∷ silent 0 0xA1 0 ∷ []

masked_is_run : AllAllowed (start two 8) masked
unfolding command_of stage_of
masked_is_run = all_allowed_by (start two 8) masked refl

masked_is_told : findings_in (capture_of masked) ≡ record { at = 269283; kind = kind.DamagedAnswer } ∷ []
unfolding command_of
masked_is_told = refl

-- COMPARE comes when no initialisation is open, and none follows
abbrev cut : List Event
cut =
    silent 0 0xA1 0 ∷ event.Acted 0 (input.Heard Silence) (Done AllFound) ∷ silent 0 0xB1 0xFF ∷ silent 0 0xB3 0xFF ∷ silent 0 0xB5 0xFF
    ∷ silent 0 0xA9 0 ∷ []

cut_is_run : AllAllowed (start plan 8) cut
unfolding command_of stage_of
cut_is_run = all_allowed_by (start plan 8) cut refl

cut_is_told : findings_in (capture_of cut) ≡ record { at = 127558; kind = kind.CutOff } ∷ []
unfolding command_of
cut_is_told = refl
