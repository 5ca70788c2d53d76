use Rattle.std.specs.Prelude.{codes}
use Rattle.dali_replay.{specs.Json.json_controller, specs.Json.json_entries, proofs.TextLemmas.then_two}
use Rattle.dali_replay.proofs.json.push_json_table.Goals as goal

pub returns : goal.returns
returns c =
    then_two _ _ _ _ (json_controller c.args.c) (json_entries 0 c.args.entries.now) (codes "]}")
    c.in_ok-write.ensures.bytes c.in_ok-push_entries.ensures c.in_ok-push_str.ensures.bytes
