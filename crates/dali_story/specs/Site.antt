use Rattle.std.specs.Prelude.{ℕ, List, ◌++◌, length, codes}
use Rattle.dali_gear.specs.Gear.{Gear}
use Rattle.dali_world.specs.declared.site.SiteState.{SiteState}
use Rattle.dali_world.specs.Site.{world}
use Rattle.dali_replay.specs.Json.{json_row, json_gear_before}
use Rattle.dali_story.specs.Members.{number_member, text_member, list_member}
use Rattle.dali_story.specs.RunGear.{gear_first, moment_first}
use Rattle.dali_story.specs.Story.{end_text}
use Rattle.dali_story.specs.Teller.{Told, counts_first, told_after_all, events_text}

-- THE STORY OF A SITE THAT THREADS RAN: a head, the events of its log, and an end. There is no
-- script.

unfoldable pub threads_head : ℕ → List Gear → List ℕ
threads_head controllers gear =
    codes "{\"story\":1"
    ++ (text_member (codes "source") (codes "threads")
    ++ (number_member (codes "controllers") controllers
    ++ (list_member (codes "gear") (json_row 0 gear) ++ codes "}\n")))

abbrev pub told_first : SiteState → Told
told_first s = record {
  counts = counts_first;
  moment = moment_first s.plan.gear s.plan.used s.plan.draws;
}

-- gear as `show` has them, and these tables
abbrev pub state_text : SiteState → List ℕ → List ℕ
state_text s tables =
    json_gear_before (world s) s.plan.gear ++ (codes "],\"tables\":[" ++ tables)

abbrev pub story_of_site : SiteState → List ℕ → List ℕ
story_of_site s tables =
    threads_head (length s.plan.blocks) (gear_first s.plan.gear s.plan.used)
    ++ (events_text s.log (told_first s)
    ++ end_text (length s.plan.blocks) s.log (told_after_all s.log (told_first s)).counts
    (state_text s tables))
