use Rattle.std.proofs.Common.{◌<◌, length, arith}
use Rattle.std.proofs.lemmas.List.{take_rest}
use Rattle.dali_grammar.proofs.LineLemmas.{parts_at, parts_none}
use Rattle.dali_grammar.proofs.lines.cut.Goals as goal

pub returns-then-end-text-clause-parts : goal.returns-then-end-text-clause-parts
returns-then-end-text-clause-parts c = parts_none c.args.mark c.args.text.now (λ k below. c.find-end.ensures.before k (omega arith))

pub returns-clause-parts : goal.returns-clause-parts
returns-clause-parts c =
    let here : c.find-end.result < length c.args.text.now = omega arith in
    rw take_rest (parts_at c.args.mark c.args.text.now c.find-end.result here c.find-end.ensures.before (c.find-end.ensures.found here))
