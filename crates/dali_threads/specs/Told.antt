use Rattle.std.specs.Prelude.{◌≡◌, ℕ, List, length, Bool, true, false, Option}
use Rattle.std.specs.Io.KnownBytes.{Appends}
use Rattle.dali_world.specs.Site.{SiteState, world}
use Rattle.dali_line.specs.declared.outcome.Outcome.{Outcome}
use Rattle.dali_story.specs.Site.{story_of_site}
use Rattle.dali_threads.specs.Json.{json_run, json_tables_up}
use Rattle.dali_threads.specs.Ran.{HaveRun}
use Rattle.dali_threads.specs.Report.{run_text}

-- WHAT IS TOLD OF A RUN: its story, or its report as JSON or as lines
abbrev pub told_text : (as_story as_json : Bool) → List Outcome → SiteState → List ℕ
told_text true as_json outcomes s =
    story_of_site s (json_tables_up (world s) (length s.plan.blocks))
told_text false true outcomes s = json_run outcomes s
told_text false false outcomes s = run_text outcomes s

-- WHAT WAS WRITTEN is told of a run of so many controllers' workers, of so many turns each: how
-- they ended, and the site that their line gave back.
abbrev pub Tells : Bool → Bool → ℕ → Bool → ℕ → Option (List ℕ) → Option (List ℕ) → Type 0
Tells as_story as_json turns surveys controllers old new =
    (outcomes : List Outcome) × (s : SiteState) × (length outcomes ≡ controllers)
    × HaveRun turns surveys outcomes s × Appends old new (told_text as_story as_json outcomes s)
