use Rattle.std.proofs.Common.{◌≡◌, ◌++◌, string_bytes}
use Rattle.dali_world.specs.Site.{world}
use Rattle.dali_replay.specs.Json.{json_gear_before}
use Rattle.dali_replay.proofs.json.push_json_gear.Given as goal

abbrev pub invariant-loop-number : goal.invariant-loop-number
invariant-loop-number l = string_bytes l.text ≡ string_bytes l.fn.text ++ json_gear_before (world l.site) l.number
