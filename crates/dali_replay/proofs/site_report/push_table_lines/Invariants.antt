use Rattle.std.proofs.Common.{◌≡◌, ◌++◌, string_bytes}
use Rattle.dali_world.specs.Site.{world}
use Rattle.dali_replay.specs.SiteReport.{table_lines}
use Rattle.dali_replay.proofs.site_report.push_table_lines.Given as goal

abbrev pub invariant-loop-c : goal.invariant-loop-c
invariant-loop-c l = string_bytes l.text ≡ string_bytes l.fn.text ++ table_lines (world l.installation.site) l.c
