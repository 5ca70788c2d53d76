use Rattle.std.proofs.Common.{◌≡◌, ◌⊎◌, ℕ, Bool, true, false, List, [], ◌∷◌, ◌++◌, Some, None, refl, inl, inr, lit<, lit≤, ◌&&◌, ◌||◌, if◌then◌else◌}
use Rattle.dali_frame.specs.declared.frames.{Answer.{Answer, TheVariants.Silence}, Forward.Forward}
use Rattle.dali_special.specs.{Command.command_of, declared.command.{Command.{Command, TheVariants.{Initialise, Randomise}}, Target.TheVariants.Unaddressed}}
use Rattle.dali_gear.specs.{Row.answers_of, declared.row.Reach.TheVariants.Everyone}
use Rattle.dali_script.specs.{Commands.is_initialise, Records.Assignment, Scripts.{Step, sends, IsFront, Lawful}, Stages.stage_of, declared.block.Block.Block}
use Rattle.dali_script.{specs.declared.trace.Entry.Entry, proofs.Firsts.first_for_all}
use Rattle.dali_events.specs.{Allowed.{Allowed, IsUp, MaySend, HasDraws, Hears}, Happens.{happens, trace_running, entry, goes_on, sent_by, told_sent, taken_by}}
use Rattle.dali_events.specs.{Plan.Plan, Promise.KeepsGifts, World.{World, controller_at, gear_at, controllers_changed, start}, declared.event.Event.Event}
use Rattle.dali_events.proofs.Histories.{Openings.{first_block, at_123456, silent, opening, visit, two_numbers}, Tested.{is_allowed, allowed_by, EachIs}}
use Rattle.dali_events.proofs.Histories.Tested.{after_each, each_is_by, each_is_after}
use Rattle.dali_script.specs.declared.orders.Input.TheVariants as input
use Rattle.dali_events.specs.declared.event.Event.TheVariants as event

-- TERMINATE MATTERS. A variant of the rules, and a list of events that it allows, in which a gear with a short address draws
-- another number.

-- ---------------------------------------------------------------- the variant: an opening may begin without its TERMINATE

abbrev opening_alone : List Step
opening_alone = sends (Initialise Unaddressed) ∷ sends (Initialise Unaddressed) ∷ sends Randomise ∷ sends Randomise ∷ []

abbrev LawfulOrAlone : Block → List Assignment → List Entry → Forward → Type 0
LawfulOrAlone b reserved t f = Lawful b reserved t f ⊎ IsFront t f opening_alone

abbrev is_randomise : Command → Bool
is_randomise Randomise = true
is_randomise _ = false

-- some of it was sent, and more of it may follow
abbrev goes_on_alone : List Entry → Bool
goes_on_alone (a ∷ []) = is_initialise (command_of a.frame)
goes_on_alone (a ∷ b ∷ []) = is_initialise (command_of a.frame) && is_initialise (command_of b.frame)
goes_on_alone (a ∷ b ∷ c ∷ []) = is_initialise (command_of a.frame) && is_initialise (command_of b.frame) && is_randomise (command_of c.frame)
goes_on_alone _ = false

abbrev sent_or_alone : World → ℕ → Forward → Answer → List Entry → Bool → World
sent_or_alone w c f h t more = record (taken_by w Everyone (command_of f)) {
  bus = sent_by w.bus c more;
  trace = (if more then t else []);
  controllers = controllers_changed w.controllers c (told_sent (trace_running w c) f h);
}

abbrev happens_or_alone : World → Event → World
happens_or_alone w (event.Sent c f h) =
    sent_or_alone w c f h (trace_running w c ++ entry f h ∷ [])
    (goes_on w c (trace_running w c ++ entry f h ∷ []) || goes_on_alone (trace_running w c ++ entry f h ∷ []))
happens_or_alone w e = happens w e

abbrev MaySendOrAlone : World → ℕ → Forward → Type 0
MaySendOrAlone w c f =
    ((w.bus.owner ≡ Some c) × LawfulOrAlone (controller_at w c).records.block (controller_at w c).records.reserved w.trace f)
    ⊎ ((w.bus.owner ≡ None) × LawfulOrAlone (controller_at w c).records.block (controller_at w c).records.reserved [] f)

record IsSentOrAlone (w : World) (c : ℕ) (f : Forward) (h : Answer) : Type 0 where
  pub up : IsUp w c
  pub may : MaySendOrAlone w c f
  pub draws : HasDraws w Everyone f
  pub heard : Hears (answers_of Everyone (command_of f) 0 w.gear) h

abbrev AllowedOrAlone : World → Event → Type 0
AllowedOrAlone w (event.Sent c f h) = IsSentOrAlone w c f h
AllowedOrAlone w e = Allowed w e

abbrev after_or_alone : World → List Event → World
after_or_alone w es = after_each happens_or_alone w es

abbrev AllAllowedOrAlone : World → List Event → Type 0
AllAllowedOrAlone w es = EachIs AllowedOrAlone happens_or_alone w es

-- what the rules allow it allows
sends_too : (w : World) (c : ℕ) (f : Forward) → MaySend w c f → MaySendOrAlone w c f
sends_too w c f (inl owner) = inl (owner.0, inl owner.1)
sends_too w c f (inr free) = inr (free.0, inl (first_for_all (controller_at w c).records.block (controller_at w c).records.reserved f free.1))

allowed_too : (w : World) (e : Event) → Allowed w e → AllowedOrAlone w e
allowed_too w (event.Sent c f h) here = record { up = here.up; may = sends_too w c f here.may; draws = here.draws; heard = here.heard }
allowed_too w _ here = here

-- ---------------------------------------------------------------- the events

abbrev plan : Plan
plan = record { gear = 1; blocks = first_block ∷ []; draws = 0x123456 ∷ 0x0ABCDE ∷ []; used = [] }

-- an opening and a visit, and the gear stores the address 0; then the owner loses the bus
abbrev giving : List Event
giving = opening 0 ++ (visit 0 (input.Heard Silence) at_123456 0 ++ (event.Lapsed ∷ []))

-- an opening without its TERMINATE: the gear is still ENABLED
abbrev drawing_again : List Event
drawing_again = silent 0 0xA5 0xFF ∷ silent 0 0xA5 0xFF ∷ silent 0 0xA7 0 ∷ silent 0 0xA7 0 ∷ []

given_by_rules : AllAllowedOrAlone (start plan 8) giving
unfolding command_of stage_of
given_by_rules = each_is_by AllowedOrAlone is_allowed happens_or_alone (λ w e pass. allowed_too w e (allowed_by w e pass)) (start plan 8) giving refl

allowed : AllAllowedOrAlone (start plan 8) (giving ++ drawing_again)
unfolding command_of stage_of
allowed =
    each_is_after AllowedOrAlone happens_or_alone (start plan 8) giving drawing_again given_by_rules (
      record { up = record { known = lit< tt; up = refl }; may = inr (refl, inr refl); draws = lit≤ tt; heard = tt },
      (
        record { up = record { known = lit< tt; up = refl }; may = inl (refl, inr (refl, tt, refl)); draws = lit≤ tt; heard = tt },
        (
          record { up = record { known = lit< tt; up = refl }; may = inl (refl, inr (refl, tt, (refl, tt, refl))); draws = lit≤ tt; heard = tt },
          (
            record { up = record { known = lit< tt; up = refl }; may = inl (refl, inr (refl, tt, (refl, tt, (refl, tt, refl)))); draws = lit≤ tt; heard = tt },
            tt,
          ),
        ),
      ),
    )

-- the gear was given address 0 at 123456, and then has another random address
given : ((after_or_alone (start plan 8) giving).gifts ≡ (0, 0) ∷ [])
    × ((after_or_alone (start plan 8) (giving ++ drawing_again)).drawn ≡ (0, 0x123456) ∷ (0, 0x0ABCDE) ∷ [])
unfolding command_of stage_of
given = (refl, refl)

random_changes : KeepsGifts (after_or_alone (start plan 8) giving) (after_or_alone (start plan 8) (giving ++ drawing_again)) → ⊥
unfolding command_of stage_of
random_changes keeps = two_numbers (gear_at (after_or_alone (start plan 8) (giving ++ drawing_again)) 0).random refl (keeps 0 0 (inl refl)).1
