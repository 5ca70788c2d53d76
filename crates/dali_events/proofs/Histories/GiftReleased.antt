use Rattle.std.proofs.Common.{◌≡◌, ℕ, true, List, [], ◌∷◌, ◌++◌, Some, None, refl, inl, lit<}
use Rattle.dali_frame.specs.declared.frames.Answer.TheVariants.{Silence, Byte}
use Rattle.dali_special.specs.Command.{command_of}
use Rattle.dali_script.specs.{Findings.assigned, Records.MayAdd, Stages.stage_of, declared.{finding.Finding.{Finding, TheVariants.Queried}, orders.Input.Input}}
use Rattle.dali_script.specs.declared.{orders.Order.TheVariants.Commit, records.Record.TheVariants.Release}
use Rattle.dali_events.specs.{Allowed.{Allowed, IsUp, IsDue}, Happens.{happens, controller_informed}, Plan.Plan, Promise.KeepsPromiseNow, Runs.after}
use Rattle.dali_events.{specs.{World.{World, controller_at, start}, declared.event.Event.Event}, proofs.Histories.Openings.{first_block, at_123456}}
use Rattle.dali_events.proofs.Histories.{Openings.{at_0abcde, query, opening, visit, BothHold, breaks}, Tested.{is_allowed, allowed_by, EachIs, after_each}}
use Rattle.dali_events.proofs.Histories.Tested.{each_passes, each_is_by, each_is_after}
use Rattle.dali_script.specs.declared.orders.Input.TheVariants as input
use Rattle.dali_events.specs.declared.event.Event.TheVariants as event

-- THE OTHER ADDRESS MATTERS. A variant of the rules, in which a controller may also release what it has reserved for a gear that
-- has this address; and a list of events that it allows, in which two gear store one address.

-- ---------------------------------------------------------------- the variant

-- what is reserved for the gear of the last finding, whatever address that has
record IsReleased (w : World) (c : ℕ) (i : Input) (a r : ℕ) : Type 0 where
  pub up : IsUp w c
  pub due : IsDue (controller_at w c) i
  pub none : (controller_informed (controller_at w c) i).outstanding ≡ None
  pub reserved : MayAdd (controller_informed (controller_at w c) i).records (Release a r)
  pub found : (x : Finding) × ((controller_at w c).finding ≡ Some x) × (b : ℕ) × (assigned x ≡ (b, r))

abbrev AllowedToo : World → Event → Type 0
AllowedToo w (event.Acted c i (Commit (Release a r))) = IsReleased w c i a r
AllowedToo w e = Allowed w e

abbrev AllAllowedToo : World → List Event → Type 0
AllAllowedToo w es = EachIs AllowedToo happens w es

-- what the rules allow it allows
allowed_too : (w : World) (e : Event) → Allowed w e → AllowedToo w e
allowed_too w (event.Acted c i (Commit (Release a r))) here =
    let other = here.order.1.1 in
    record { up = here.up; due = here.due; none = here.order.0; reserved = here.order.1.0; found = (other.0, other.1, other.2, other.3) }
allowed_too w _ here = here

-- ---------------------------------------------------------------- the events

abbrev plan : Plan
plan = record { gear = 2; blocks = first_block ∷ []; draws = 0x123456 ∷ 0x0ABCDE ∷ []; used = [] }

-- the gear at 123456 is given the address 0 and found with it, and the address is released; then it is given to the gear at
-- 0ABCDE
abbrev giving : List Event
giving = opening 0 ++ (visit 0 (input.Heard Silence) at_123456 0 ++ (query 0 0x01 ∷ []))

abbrev releasing : Event
releasing = event.Acted 0 (input.Heard (Byte 0x01)) (Commit (Release 0 0x123456))

abbrev giving_again : List Event
giving_again = giving ++ (releasing ∷ visit 0 input.Committed at_0abcde 0)

-- events that the rules allow
by_rules : (w : World) (es : List Event) → each_passes is_allowed happens w es ≡ true → AllAllowedToo w es
by_rules w es passes = each_is_by AllowedToo is_allowed happens (λ w e pass. allowed_too w e (allowed_by w e pass)) w es passes

allowed : AllAllowedToo (start plan 8) giving_again
unfolding command_of stage_of
allowed =
    each_is_after AllowedToo happens (start plan 8) giving (releasing ∷ visit 0 input.Committed at_0abcde 0) (by_rules (start plan 8) giving refl) (
      record {
        up = record { known = lit< tt; up = refl };
        due = refl;
        none = refl;
        reserved = inl refl;
        found = (Queried 0 0x123456, refl, 0, refl);
      },
      by_rules (happens (after_each happens (start plan 8) giving) releasing) (visit 0 input.Committed at_0abcde 0) refl,
    )

-- both gear hold the address 0
both_hold : BothHold (after plan 8 giving_again)
unfolding command_of stage_of
both_hold = (lit< tt, refl, refl)

breaks_promise : KeepsPromiseNow (after plan 8 giving_again) → ⊥
breaks_promise = breaks (after plan 8 giving_again) both_hold
