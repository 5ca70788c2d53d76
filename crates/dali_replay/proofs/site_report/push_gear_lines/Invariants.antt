use Rattle.std.proofs.Common.{◌≡◌, ◌++◌, string_bytes}
use Rattle.dali_world.specs.Site.{world}
use Rattle.dali_replay.specs.SiteReport.{gear_lines}
use Rattle.dali_replay.proofs.site_report.push_gear_lines.Given as goal

abbrev pub invariant-loop-number : goal.invariant-loop-number
invariant-loop-number l = string_bytes l.text ≡ string_bytes l.fn.text ++ gear_lines (world l.site) l.number
