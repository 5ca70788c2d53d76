use Rattle.std.proofs.Common.{◌≡◌, ◌++◌, string_bytes}
use Rattle.dali_world.specs.Site.{world}
use Rattle.dali_threads.specs.Json.{one_if_any_up, json_tables_up}
use Rattle.dali_threads.proofs.report.push_json_tables.Given as goal

abbrev pub invariant-loop-c : goal.invariant-loop-c
invariant-loop-c l = record {
  text : string_bytes l.text ≡ string_bytes l.fn.text ++ json_tables_up (world l.site) l.c;
  before : l.before ≡ one_if_any_up (world l.site) l.c;
}
