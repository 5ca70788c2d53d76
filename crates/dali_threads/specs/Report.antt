use Rattle.std.specs.Prelude.{ℕ, zero, suc, ◌+◌, List, [], ◌∷◌, ◌++◌, length, Bool, true}
use Rattle.std.specs.Prelude.{false, Option, Some, None, codes, decimal}
use Rattle.dali_script.specs.Names.{end_name, fault_name}
use Rattle.dali_events.specs.World.{World, Controller, gear_at, controller_at}
use Rattle.dali_world.specs.Site.{SiteState, world}
use Rattle.dali_line.specs.declared.outcome.Outcome.{Outcome}
use Rattle.dali_line.specs.declared.outcome.Outcome.TheVariants as outcome
use Rattle.dali_replay.specs.Text.{table_text}
use Rattle.dali_replay.specs.SiteReport.{gear_lines}

-- THE REPORT OF A RUN: how each controller ended, in order of their numbers, the state of all gear,
-- the tables of the controllers that are up, and how many gear have a short address.

abbrev pub outcome_text : Outcome → List ℕ
outcome_text (outcome.Ended e) = end_name e
outcome_text (outcome.Halted w) = codes "halt " ++ fault_name w
outcome_text outcome.Down = codes "down"
outcome_text (outcome.Refused e) = codes "refused"
outcome_text outcome.TurnsSpent = codes "turns-spent"
outcome_text outcome.Stopped = codes "stopped"
outcome_text outcome.NoMemory = codes "no-memory"

-- `controller c: END`, and those of the controllers after it
abbrev pub controller_text : ℕ → List ℕ
controller_text c = codes "controller " ++ (decimal c ++ codes ": ")

abbrev pub outcome_line : ℕ → Outcome → List ℕ
outcome_line c o = controller_text c ++ (outcome_text o ++ codes "\n")

abbrev pub outcome_lines : ℕ → List Outcome → List ℕ
outcome_lines c [] = []
outcome_lines c (o ∷ os) = outcome_line c o ++ outcome_lines (c + 1) os

-- the table of controller c, if it is up
abbrev pub table_line : ℕ → Controller → Bool → List ℕ
table_line c x true = table_text c x.records.enrolled
table_line c x false = []

-- the tables of the controllers before number c
abbrev pub tables_up : World → ℕ → List ℕ
tables_up w zero = []
tables_up w (suc c) = tables_up w c ++ table_line c (controller_at w c) (controller_at w c).up

-- how many of the gear before number k have a short address
abbrev pub one_if_some : Option ℕ → ℕ
one_if_some None = 0
one_if_some (Some a) = 1

abbrev pub addressed : World → ℕ → ℕ
addressed w zero = 0
addressed w (suc k) = addressed w k + one_if_some (gear_at w k).short

abbrev pub addressed_text : ℕ → ℕ → List ℕ
addressed_text some all =
    codes "addressed "
    ++ (decimal some ++ (codes " of " ++ (decimal all ++ codes "\n")))

abbrev pub run_text : List Outcome → SiteState → List ℕ
run_text outcomes s =
    outcome_lines 0 outcomes
    ++ (gear_lines (world s) s.plan.gear
    ++ (tables_up (world s) (length s.plan.blocks)
    ++ addressed_text (addressed (world s) s.plan.gear) s.plan.gear))
