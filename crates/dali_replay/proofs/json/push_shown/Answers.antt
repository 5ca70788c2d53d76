use Rattle.std.specs.Prelude.{codes}
use Rattle.dali_replay.{specs.Json.json_number, specs.Json.json_state, proofs.TextLemmas.then_two}
use Rattle.dali_replay.proofs.json.push_shown.Goals as goal

pub returns : goal.returns
returns c =
    then_two _ _ _ _ (json_number c.args.number) (json_state c.args.player.now) (codes "]}\n")
    c.in_ok-write.ensures.bytes c.in_ok-push_state.ensures c.in_ok-push_str.ensures.bytes
