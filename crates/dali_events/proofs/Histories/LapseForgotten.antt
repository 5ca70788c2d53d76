use Rattle.std.proofs.Common.{◌≡◌, ◌⊎◌, ℕ, Bool, true, false, List, [], ◌∷◌, ◌++◌, Option, Some, None, refl, inl, inr, lit<, lit≤, not, ◌&&◌, if◌then◌else◌}
use Rattle.dali_frame.specs.declared.frames.{Answer.{Answer, TheVariants.Silence}, Forward.Forward}
use Rattle.dali_special.specs.Command.{command_of}
use Rattle.dali_gear.specs.{Row.answers_of, declared.row.Reach.TheVariants.Everyone}
use Rattle.dali_arbiter.specs.Arbiter.{owns}
use Rattle.dali_script.{specs.{Scripts.{Lawful, IsFirst, Open}, Stages.stage_of, declared.trace.Entry.Entry}, proofs.Giving.{first_of_both, second_of_both}}
use Rattle.dali_events.specs.{Allowed.{Allowed, IsUp, MaySend, HasDraws, Hears}, Happens.{happens, entry, goes_on, sent_by, told_sent, taken_by, trace_sent}}
use Rattle.dali_events.specs.{Plan.Plan, Promise.KeepsGifts, World.{World, controller_at, gear_at, controllers_changed, start}, declared.event.Event.Event}
use Rattle.dali_events.proofs.Histories.{Openings.{first_block, second_block, at_123456, silent, opening, visit, two_numbers}, Tested.{is_allowed, allowed_by}}
use Rattle.dali_events.proofs.Histories.Tested.{EachIs, after_each, each_is_by, each_is_after}
use Rattle.dali_script.specs.declared.orders.Input.TheVariants as input
use Rattle.dali_events.specs.declared.event.Event.TheVariants as event

-- A LAPSE MATTERS. A variant of the rules in which nobody owns the bus after a lapse, others may begin, and the old owner may
-- still go on with its trace; and a list of events that it allows, in which a gear with a short address draws another number.

-- ---------------------------------------------------------------- the variant

-- a world, and who lost the bus with which trace
record SiteState : Type 0 where
  pub world : World
  pub old_owner : Option ℕ
  pub old_trace : List Entry

-- the trace that a controller goes on with: its own where it owns the bus, its old one where it lost the bus
abbrev running_on : SiteState → ℕ → List Entry
running_on s c = if owns s.world.bus.owner c then s.world.trace else if owns s.old_owner c then s.old_trace else []

abbrev sent_on : World → ℕ → Forward → Answer → List Entry → World
sent_on w c f h t = record (taken_by w Everyone (command_of f)) {
  bus = sent_by w.bus c (goes_on w c (t ++ entry f h ∷ []));
  trace = trace_sent w c (t ++ entry f h ∷ []);
  controllers = controllers_changed w.controllers c (told_sent t f h);
}

abbrev still_on : SiteState → Event → SiteState
still_on s e = record { world = happens s.world e; old_owner = s.old_owner; old_trace = s.old_trace }

abbrev happens_on : SiteState → Event → SiteState
happens_on s (event.Sent c f h) =
    record { world = sent_on s.world c f h (running_on s c); old_owner = (if owns s.old_owner c then None else s.old_owner); old_trace = s.old_trace }
happens_on s event.Lapsed = record { world = happens s.world event.Lapsed; old_owner = s.world.bus.owner; old_trace = s.world.trace }
happens_on s e = still_on s e

-- the owner, or the old owner where nobody owns the bus, goes on; and anybody else may begin
abbrev MaySendOn : SiteState → ℕ → Forward → Type 0
MaySendOn s c f =
    ((s.world.bus.owner ≡ Some c) × Lawful (controller_at s.world c).records.block (controller_at s.world c).records.reserved s.world.trace f)
    ⊎ (((s.world.bus.owner ≡ None) × (s.old_owner ≡ Some c) × Lawful (controller_at s.world c).records.block
    (controller_at s.world c).records.reserved s.old_trace f)
    ⊎ ((s.world.bus.owner ≡ None) × (owns s.old_owner c ≡ false) × IsFirst f))

record IsSentOn (s : SiteState) (c : ℕ) (f : Forward) (h : Answer) : Type 0 where
  pub up : IsUp s.world c
  pub may : MaySendOn s c f
  pub draws : HasDraws s.world Everyone f
  pub heard : Hears (answers_of Everyone (command_of f) 0 s.world.gear) h

abbrev AllowedOn : SiteState → Event → Type 0
AllowedOn s (event.Sent c f h) = IsSentOn s c f h
AllowedOn s e = Allowed s.world e

abbrev after_on : SiteState → List Event → SiteState
after_on s es = after_each happens_on s es

abbrev AllAllowedOn : SiteState → List Event → Type 0
AllAllowedOn s es = EachIs AllowedOn happens_on s es

-- what the rules allow it allows, but of who lost the bus
abbrev is_allowed_on : SiteState → Event → Bool
is_allowed_on s (event.Sent c f h) = not (owns s.old_owner c) && is_allowed s.world (event.Sent c f h)
is_allowed_on s e = is_allowed s.world e

not_true : (a : Bool) → not a ≡ true → a ≡ false
not_true false e = refl
not_true true e = absurd (cc)

sends_on : (s : SiteState) (c : ℕ) (f : Forward) → owns s.old_owner c ≡ false → MaySend s.world c f → MaySendOn s c f
sends_on s c f other (inl owner) = inl owner
sends_on s c f other (inr free) = inr (inr (free.0, other, free.1))

allowed_on : (s : SiteState) (e : Event) → is_allowed_on s e ≡ true → AllowedOn s e
allowed_on s (event.Sent c f h) pass =
    let here : Allowed s.world (event.Sent c f h) = allowed_by s.world (event.Sent c f h) (second_of_both _ _ pass) in
    record {
      up = here.up;
      may = sends_on s c f (not_true (owns s.old_owner c) (first_of_both _ _ pass)) here.may;
      draws = here.draws;
      heard = here.heard;
    }
allowed_on s e pass = allowed_by s.world e pass

-- ---------------------------------------------------------------- the events

abbrev plan : Plan
plan = record { gear = 1; blocks = first_block ∷ second_block ∷ []; draws = 0x123456 ∷ 0x0ABCDE ∷ []; used = [] }

abbrev site : SiteState
site = record { world = start plan 8; old_owner = None; old_trace = [] }

-- controller 0 begins an opening and loses the bus; controller 1 opens, visits the gear and gives it the address 4
abbrev giving : List Event
giving =
    silent 0 0xA1 0 ∷
    silent 0 0xA5 0xFF ∷
    silent 0 0xA5 0xFF ∷
    event.Lapsed ∷
    (opening 1 ++ (visit 1 (input.Heard Silence) at_123456 4 ++ (silent 1 0xBB 0 ∷ [])))

-- controller 0 goes on with its opening: the gear is still ENABLED
abbrev going_on : List Event
going_on = silent 0 0xA7 0 ∷ silent 0 0xA7 0 ∷ []

given_by_rules : AllAllowedOn site giving
unfolding command_of stage_of
given_by_rules = each_is_by AllowedOn is_allowed_on happens_on allowed_on site giving refl

allowed : AllAllowedOn site (giving ++ going_on)
unfolding command_of stage_of
allowed =
    each_is_after AllowedOn happens_on site giving going_on given_by_rules (
      record {
        up = record { known = lit< tt; up = refl };
        may = inr (inl (refl, refl, (Open, tt, (refl, tt, (refl, tt, (refl, tt, refl))))));
        draws = lit≤ tt;
        heard = tt;
      },
      (
        record {
          up = record { known = lit< tt; up = refl };
          may = inl (refl, (Open, tt, (refl, tt, (refl, tt, (refl, tt, (refl, tt, refl))))));
          draws = lit≤ tt;
          heard = tt;
        },
        tt,
      ),
    )

-- the gear was given address 4 at 123456, and then has another random address
given : ((after_on site giving).world.gifts ≡ (0, 4) ∷ []) × ((after_on site (giving ++ going_on)).world.drawn ≡ (0, 0x123456) ∷ (0, 0x0ABCDE) ∷ [])
unfolding command_of stage_of
given = (refl, refl)

random_changes : KeepsGifts (after_on site giving).world (after_on site (giving ++ going_on)).world → ⊥
unfolding command_of stage_of
random_changes keeps = two_numbers (gear_at (after_on site (giving ++ going_on)).world 0).random refl (keeps 0 4 (inl refl)).1
