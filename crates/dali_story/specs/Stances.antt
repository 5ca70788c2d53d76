use Rattle.std.specs.Prelude.{ℕ, zero, suc, List, [], ◌∷◌, ◌++◌, Option, Some, None, nat_eq, codes}
use Rattle.std.specs.Prelude.{if◌then◌else◌}
use Rattle.dali_script.specs.Names.{end_name, fault_name}
use Rattle.dali_script.specs.declared.orders.Order.{Order}
use Rattle.dali_script.specs.declared.orders.Order.TheVariants.{Put, Commit, Done, Halt}
use Rattle.dali_events.specs.declared.event.Event.{Event}
use Rattle.dali_events.specs.declared.event.Event.TheVariants as event
use Rattle.dali_replay.specs.Json.{comma}
use Rattle.dali_story.specs.declared.stances.Stance.{Stance}
use Rattle.dali_story.specs.declared.stances.Stance.TheVariants.{AtWork, Ended, Halted, Down}

abbrev pub after_order : Order → Stance
after_order (Put p f) = AtWork
after_order (Commit x) = AtWork
after_order (Done e) = Ended e
after_order (Halt w) = Halted w

-- the controller of which an event says how it stands, and how: by its own order, and as it goes
-- down or comes up
abbrev pub stance_by : Event → Option (ℕ × Stance)
stance_by (event.Acted c i o) = Some (c, after_order o)
stance_by (event.Down c) = Some (c, Down)
stance_by (event.Up c b) = Some (c, AtWork)
stance_by (event.Offered c f) = None
stance_by (event.Sent c f h) = None
stance_by (event.Destroyed c f s) = None
stance_by (event.Collided c f d g) = None
stance_by event.Lapsed = None
stance_by event.Quiet = None
stance_by (event.Foreign f) = None
stance_by (event.Power g b) = None
stance_by (event.Expired g) = None

-- how controller c stands after an event that says this, or nothing
abbrev pub stands_after : ℕ → Stance → Option (ℕ × Stance) → Stance
stands_after c was None = was
stands_after c was (Some told) = if nat_eq told.0 c then told.1 else was

abbrev pub stands_after_all : ℕ → Stance → List Event → Stance
stands_after_all c was [] = was
stands_after_all c was (e ∷ es) = stands_after_all c (stands_after c was (stance_by e)) es

-- HOW A CONTROLLER ENDED: as it stands after the whole log, at whose begin it is at work.
abbrev pub stance_of : ℕ → List Event → Stance
stance_of c log = stands_after_all c AtWork log

-- ---------------------------------------------------------------- its name

abbrev pub stance_text : Stance → List ℕ
stance_text AtWork = codes "at-work"
stance_text Down = codes "down"
stance_text (Ended e) = end_name e
stance_text (Halted w) = codes "halt-" ++ fault_name w

abbrev pub stance_item : ℕ → Stance → List ℕ
stance_item c s = comma c ++ (codes "\"" ++ (stance_text s ++ codes "\""))

-- those of the controllers before number c, with commas between them
abbrev pub stances_before : List Event → ℕ → List ℕ
stances_before log zero = []
stances_before log (suc c) = stances_before log c ++ stance_item c (stance_of c log)
