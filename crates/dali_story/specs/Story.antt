use Rattle.std.specs.Prelude.{ℕ, zero, suc, ◌-◌, List, [], ◌∷◌, ◌++◌, take, drop, codes, decimal}
use Rattle.std.specs.Prelude.{string_bytes}
use Rattle.dali_events.specs.declared.event.Event.{Event}
use Rattle.dali_replay.specs.declared.played.PlayedLine.{PlayedLine}
use Rattle.dali_replay.specs.declared.played.Played.{Played}
use Rattle.dali_replay.specs.Json.{json_row}
use Rattle.dali_story.specs.declared.teller.Counts.{Counts}
use Rattle.dali_story.specs.Members.{number_member, text_member, list_member, json_text}
use Rattle.dali_story.specs.RunGear.{gear_first, moment_first}
use Rattle.dali_story.specs.Stances.{stances_before}
use Rattle.dali_story.specs.Teller.{Told, counts_first, told_after_all, events_text}

-- THE STORY OF A RUN: a head, the lines of the script, each with its events, and an end.

-- ---------------------------------------------------------------- the head

-- no controllers are on a bench alone
abbrev pub source_of : ℕ → List ℕ
source_of zero = codes "bench"
source_of (suc more) = codes "script"

unfoldable pub head_text : Played → List ℕ
head_text x =
    codes "{\"story\":1"
    ++ (text_member (codes "source") (source_of x.controllers)
    ++ (number_member (codes "controllers") x.controllers
    ++ (list_member (codes "gear") (json_row 0 (gear_first x.gear x.used.items))
    ++ (text_member (codes "script") (json_text x.input.now) ++ codes "}\n"))))

-- ---------------------------------------------------------------- a line of the script

-- its number, and what is reported of it
unfoldable pub report_text : ℕ → List ℕ → List ℕ
report_text number report =
    codes "{\"line\":"
    ++ (decimal number ++ (text_member (codes "report") (json_text report) ++ codes "}\n"))

-- what is told so far, and what is left of the log and of the reports: those behind byte `said`
pub record Left : Type 0 where
  pub told : Told
  pub log : List Event
  pub reports : List ℕ
  pub said : ℕ

-- the events and the report of the next line
abbrev pub events_of : PlayedLine → Left → List Event
events_of l s = take (l.after - l.first) s.log

abbrev pub report_of : PlayedLine → Left → List ℕ
report_of l s = take (l.report - s.said) s.reports

unfoldable pub line_text : PlayedLine → Left → List ℕ
line_text l s = report_text l.number (report_of l s) ++ events_text (events_of l s) s.told

abbrev pub left_after : PlayedLine → Left → Left
left_after l s = record {
  told = told_after_all (events_of l s) s.told;
  log = drop (l.after - l.first) s.log;
  reports = drop (l.report - s.said) s.reports;
  said = l.report;
}

abbrev pub left_after_all : List PlayedLine → Left → Left
left_after_all [] s = s
left_after_all (l ∷ ls) s = left_after_all ls (left_after l s)

abbrev pub lines_text : List PlayedLine → Left → List ℕ
lines_text [] s = []
lines_text (l ∷ ls) s = line_text l s ++ lines_text ls (left_after l s)

abbrev pub left_first : Played → Left
left_first x = record {
  told = record { counts = counts_first; moment = moment_first x.gear x.used.items x.draws.items };
  log = x.log.items;
  reports = string_bytes x.reports;
  said = 0;
}

-- ---------------------------------------------------------------- the end

-- how each controller stands, what was counted, and gear and tables as `show` has them
unfoldable pub end_text : ℕ → List Event → Counts → List ℕ → List ℕ
end_text controllers log n state =
    codes "{\"end\":true"
    ++ (list_member (codes "stands") (stances_before log controllers)
    ++ (number_member (codes "frames") n.frames
    ++ (number_member (codes "bits") n.bits
    ++ (list_member (codes "gear") state ++ codes "}\n"))))

-- ---------------------------------------------------------------- all of it

abbrev pub left_last : Played → Left
left_last x = left_after_all x.lines.items (left_first x)

abbrev pub story_of : Played → List ℕ
story_of x =
    head_text x
    ++ (lines_text x.lines.items (left_first x)
    ++ end_text x.controllers x.log.items (left_last x).told.counts (string_bytes x.state))
