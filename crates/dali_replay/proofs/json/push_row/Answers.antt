use Rattle.std.proofs.Common.{rules, ◌<◌, length, refl, string_bytes}
use Rattle.dali_gear.specs.Gear.{fresh}
use Rattle.dali_replay.{specs.Json.json_gear, specs.Json.json_row, proofs.TextLemmas.one_more}
use Rattle.dali_replay.proofs.json.push_row.Goals as goal

pub loop-number-preserved : goal.loop-number-preserved
loop-number-preserved c =
    let here : c.loop-number.number < length c.args.row.now = search rules in
    one_more json_gear json_row (λ k x xs. refl) (string_bytes c.loop-number.text) (string_bytes c.push_gear.new.text) _ c.loop-number.number
    c.args.row.now fresh c.gear-gear.result here c.gear-gear.ensures c.in_ok-push_gear.ensures c.loop-number.invariant
