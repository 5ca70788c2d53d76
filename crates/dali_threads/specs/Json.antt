use Rattle.std.specs.Prelude.{ℕ, zero, suc, ◌+◌, List, [], ◌∷◌, ◌++◌, length, Bool, true, false}
use Rattle.std.specs.Prelude.{codes, decimal}
use Rattle.dali_events.specs.World.{World, Controller, controller_at}
use Rattle.dali_world.specs.Site.{SiteState, world}
use Rattle.dali_line.specs.declared.outcome.Outcome.{Outcome}
use Rattle.dali_replay.specs.Json.{comma, json_gear_before, json_table}
use Rattle.dali_threads.specs.Report.{outcome_text, addressed}

-- THE REPORT OF A RUN as one line of JSON

-- how each controller ended, from one on, with commas between them
unfoldable pub json_head : ℕ → List ℕ
json_head c = codes "{\"controller\":" ++ (decimal c ++ codes ",\"end\":\"")

abbrev pub json_outcome : ℕ → Outcome → List ℕ
json_outcome c o = comma c ++ (json_head c ++ (outcome_text o ++ codes "\"}"))

abbrev pub json_outcomes : ℕ → List Outcome → List ℕ
json_outcomes c [] = []
json_outcomes c (o ∷ os) = json_outcome c o ++ json_outcomes (c + 1) os

-- whether a table stands before the next one: 1 if so, else 0
abbrev pub one_if_up : ℕ → Bool → ℕ
one_if_up before true = 1
one_if_up before false = before

abbrev pub one_if_any_up : World → ℕ → ℕ
one_if_any_up w zero = 0
one_if_any_up w (suc c) = one_if_up (one_if_any_up w c) (controller_at w c).up

-- the tables of the controllers before number c that are up, with commas between them
abbrev pub json_table_up : ℕ → ℕ → Controller → Bool → List ℕ
json_table_up before c x true = comma before ++ json_table c x.records.enrolled
json_table_up before c x false = []

abbrev pub json_tables_up : World → ℕ → List ℕ
json_tables_up w zero = []
json_tables_up w (suc c) =
    json_tables_up w c
    ++ json_table_up (one_if_any_up w c) c (controller_at w c) (controller_at w c).up

-- the members of the object
unfoldable pub json_controllers : List Outcome → List ℕ
json_controllers outcomes = codes "{\"controllers\":[" ++ json_outcomes 0 outcomes

unfoldable pub json_gear : SiteState → List ℕ
json_gear s = codes "],\"gear\":[" ++ json_gear_before (world s) s.plan.gear

unfoldable pub json_tables : SiteState → List ℕ
json_tables s = codes "],\"tables\":[" ++ json_tables_up (world s) (length s.plan.blocks)

unfoldable pub json_addressed : ℕ → ℕ → List ℕ
json_addressed some all =
    codes "],\"addressed\":"
    ++ (decimal some ++ (codes ",\"of\":" ++ (decimal all ++ codes "}\n")))

abbrev pub json_run : List Outcome → SiteState → List ℕ
json_run outcomes s =
    json_controllers outcomes
    ++ (json_gear s
    ++ (json_tables s ++ json_addressed (addressed (world s) s.plan.gear) s.plan.gear))
