use Rattle.std.proofs.Common.{rules, refl, ◌+◌, ◌<◌, ◌&&◌, length, drop, get_or, ap, ◌∙◌, length-set}
use Rattle.std.{proofs.lemmas.List.take_rest, specs.Prelude.unwrap_or}
use Rattle.dali_gear.{specs.Gear.fresh, specs.Row.one_after, proofs.RowLemmas.rest_is}
use Rattle.dali_gear.proofs.RowLemmas.{next_is, Turn, gear_more, drawn_more, counted_more, summed_more, byte_bound, bit_bound, one_unpaired, unpaired_set}
use Rattle.dali_gear.proofs.row.Row.take_each.Goals as goal

pub loop-number-preserved : goal.loop-number-preserved
loop-number-preserved c =
    let here : c.loop-number.number < length c.loop-number.self = search rules in
    let old = get_or c.loop-number.self c.loop-number.number fresh in
    let left = drop c.loop-number.drawn c.args.draws.now in
    let gear = rw take_rest at c.take_at-effect.ensures.gear in
    let turn : Turn c.args.reach c.args.command.now c.loop-number.self c.args.self.now c.loop-number.number left old
    (one_after (old.powered && c.includes.result) c.args.command.now left old) c.take_at-effect.result.drew = record {
      here = here;
      untouched = c.loop-number.invariant.untouched;
      next = next_is c.loop-number.self c.args.self.now c.loop-number.number fresh here c.loop-number.invariant.untouched;
      reached = c.includes.result;
      reaches_it = c.includes.ensures;
      takes_it = refl;
      draws_it = c.take_at-effect.ensures.drew;
    } in
    record {
      untouched = rw gear (rest_is c.loop-number.self c.args.self.now c.loop-number.number _ c.loop-number.invariant.untouched);
      gear = rw (gear, c.from-drawn.ensures) (gear_more _ _ _ _ _ _ _ _ _ _ _ turn c.loop-number.invariant.gear);
      drawn = rw c.from-drawn.ensures (drawn_more _ _ _ _ _ _ _ _ _ _ _ turn c.loop-number.invariant.drawn);
      counted = rw (c.from-answers.ensures, c.is_some.ensures)
          (counted_more _ _ _ _ _ _ _ _ _ turn _ c.take_at-effect.ensures.answer _ _ c.loop-number.invariant.counted);
      summed =
          let before = c.loop-number.invariant.summed in
          let byte = byte_bound c.take_at-effect.result.answer (search rules) in (
            before.0 + unwrap_or c.take_at-effect.result.answer 0,
            summed_more _ _ _ _ _ _ _ _ _ turn _ c.take_at-effect.ensures.answer _ _ before.1,
            let kept = before.2 in search rules,
            let small = before.3 in search rules,
          );
      few = let bit = bit_bound c.is_some.result in search rules;
      unpaired = λ off. rw gear (unpaired_set c.loop-number.self c.loop-number.number _ (c.loop-number.invariant.unpaired off)
          (one_unpaired (old.powered && c.includes.result) c.args.command.now left old (c.requires.unpaired off).0
          (c.loop-number.invariant.unpaired off c.loop-number.number)));
      len = ap (λ gs. length gs) gear ∙ length-set c.loop-number.self c.loop-number.number _ ∙ c.loop-number.invariant.len;
    }

pub take_at-effect-requires-clause-unpaired : goal.take_at-effect-requires-clause-unpaired
take_at-effect-requires-clause-unpaired c = λ off. c.loop-number.invariant.unpaired off c.loop-number.number
