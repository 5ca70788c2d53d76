use Rattle.std.specs.Prelude.{◌≡◌, ℕ, true, List, [], ◌∷◌, map}
use Rattle.std.specs.List.{AllByRecursion}
use Rattle.dali_frame.specs.declared.frames.Forward.{Forward}
use Rattle.dali_frame.specs.declared.frames.Answer.TheVariants.{Damaged}
use Rattle.dali_special.specs.Command.{command_of, is_question}
use Rattle.dali_gear.specs.declared.gear_set.GearSet.{GearSet}
use Rattle.dali_gear.specs.declared.row.Reach.TheVariants.{Only}
use Rattle.dali_events.specs.declared.event.Event.{Event}
use Rattle.dali_events.specs.declared.event.Event.TheVariants as event
use Rattle.dali_events.specs.Plan.{Plan, IsPlan}
use Rattle.dali_events.specs.World.{World, start}
use Rattle.dali_events.specs.Happens.{happens, taken_by}
use Rattle.dali_events.specs.Allowed.{Allowed, IsDestroyed}
use Rattle.dali_events.specs.Runs.{LeavesUsed}

-- WHAT A SENDER IS TOLD of a question that was destroyed, by an interface that has one code for
-- that and for a damaged answer.

-- WHAT HAPPENED, and what its sender was told: rightly what it was. Or a question of controller c
-- was destroyed, the gear of the set took it, and c was told that the answer was damaged.
pub data Happening : Type 0 where
  rightly : Event → Happening
  as_damaged : ℕ → Forward → GearSet → Happening

-- the event of which the sender was told
abbrev pub as_told : Happening → Event
as_told (rightly e) = e
as_told (as_damaged c f set) = event.Sent c f Damaged

-- what it does: the gear of the set take the question; the sender goes on, and keeps the bus, as
-- if it was sent
abbrev pub happened : World → Happening → World
happened w (rightly e) = happens w e
happened w (as_damaged c f set) = record (taken_by w (Only set) (command_of f)) {
  bus = (happens w (event.Sent c f Damaged)).bus;
  trace = (happens w (event.Sent c f Damaged)).trace;
  controllers = (happens w (event.Sent c f Damaged)).controllers;
}

-- when it may happen: no other frame than a question is told so
abbrev pub MayHappen : World → Happening → Type 0
MayHappen w (rightly e) = Allowed w e
MayHappen w (as_damaged c f set) = IsDestroyed w c f set × (is_question (command_of f) ≡ true)

abbrev pub happened_all : World → List Happening → World
happened_all w [] = w
happened_all w (x ∷ xs) = happened_all (happened w x) xs

abbrev pub AllMayHappen : World → List Happening → Type 0
AllMayHappen w [] = Unit {0}
AllMayHappen w (x ∷ xs) = MayHappen w x × AllMayHappen (happened w x) xs

-- the world that a list of happenings leaves, and the events of which the senders were told
abbrev pub after_happened : Plan → ℕ → List Happening → World
after_happened p capacity xs = happened_all (start p capacity) xs

abbrev pub all_told : List Happening → List Event
all_told xs = map as_told xs

-- A HISTORY: a plan, and a list of happenings each of which may happen when it does. No controller
-- reserves a short address that used gear have.
pub record IsHistory (p : Plan) (capacity : ℕ) (xs : List Happening) : Type 0 where
  pub plan : IsPlan p
  pub may : AllMayHappen (start p capacity) xs
  pub leaves : AllByRecursion (LeavesUsed p.used) (all_told xs)
