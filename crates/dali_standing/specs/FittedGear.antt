use Rattle.std.specs.Prelude.{ℕ, List, ◌++◌, map, replicate, Option, None, if◌then◌else◌}
use Rattle.dali_special.specs.declared.command.Command.{Command}
use Rattle.dali_gear.specs.declared.row.Reach.{Reach}
use Rattle.dali_gear.specs.Gear.{Gear, fresh}
use Rattle.dali_gear.specs.Row.{row_after, row_left, takes, stored_short, stored_of}
use Rattle.dali_events.specs.Used.{with_used, earlier_gift}
use Rattle.dali_events.specs.Plan.{Plan}

-- THE GEAR OF A SITE: its gear, the numbers that are left to be drawn, and which gear stored which
-- short address.
pub record FittedGear : Type 0 where
  pub gear : List Gear
  pub left : List ℕ
  pub gifts : List (ℕ × ℕ)

abbrev pub fitted_at : Plan → FittedGear
fitted_at p = record {
  gear = with_used (replicate p.gear fresh) p.used;
  left = p.draws;
  gifts = map earlier_gift p.used;
}

-- the gear that a frame reaches take it
abbrev pub taken_at : Reach → Command → FittedGear → FittedGear
taken_at reach x f = record {
  gear = row_after reach x 0 f.gear f.left;
  left = row_left reach x 0 f.gear f.left;
  gifts = f.gifts ++ stored_of reach x 0 f.gear;
}

abbrev pub changed_at : List Gear → FittedGear → FittedGear
changed_at gs f = record { gear = gs; left = f.left; gifts = f.gifts }

-- the short address that gear k stores at a command, if it takes it
abbrev pub gift_of : Reach → Command → ℕ → Gear → Option ℕ
gift_of reach x k g = if takes reach k g then stored_short x g else None
