use Rattle.std.proofs.Common.{rules, ◌<◌, length}
use Rattle.dali_story.proofs.ListLemmas.{listed_more}
use Rattle.dali_story.proofs.lists.push_list.Goals as goal

pub loop-number-preserved : goal.loop-number-preserved
loop-number-preserved c =
    let here : c.loop-number.number < length c.args.was.now = search rules in
    listed_more c.args.listed.now c.args.is.now _ _ _ c.loop-number.first _ c.loop-number.number c.args.was.now c.gear-before.result c.gear_at-after.result
    here c.gear-before.ensures c.gear_at-after.ensures c.in_ok-first.ensures.text c.in_ok-first.ensures.first c.loop-number.invariant
