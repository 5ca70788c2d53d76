use Rattle.std.proofs.Common.{rules, ◌<◌, length, string_bytes}
use Rattle.dali_replay.proofs.TextLemmas.{gear_texts_more}
use Rattle.dali_replay.proofs.text.push_all_gear.Goals as goal

pub loop-number-preserved : goal.loop-number-preserved
loop-number-preserved c =
    let here : c.loop-number.number < length c.args.row.now = search rules in
    gear_texts_more (string_bytes c.loop-number.text) (string_bytes c.push_gear.new.text) _ c.loop-number.number c.args.row.now
    c.gear-gear.result here c.gear-gear.ensures c.in_ok-push_gear.ensures c.loop-number.invariant
