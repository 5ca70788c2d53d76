use Rattle.std.proofs.Common.{◌≡◌, ◌++◌, string_bytes}
use Rattle.dali_world.specs.Site.{world}
use Rattle.dali_replay.specs.Json.{json_tables}
use Rattle.dali_replay.proofs.json.push_tables.Given as goal

abbrev pub invariant-loop-c : goal.invariant-loop-c
invariant-loop-c l = string_bytes l.text ≡ string_bytes l.fn.text ++ json_tables (world l.installation.site) l.c
