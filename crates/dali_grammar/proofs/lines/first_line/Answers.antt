use Rattle.std.proofs.Common.{◌<◌, length, arith}
use Rattle.std.proofs.lemmas.List.{take_rest}
use Rattle.dali_grammar.proofs.LineLemmas.{lines_at, lines_none}
use Rattle.dali_grammar.proofs.lines.first_line.Goals as goal

pub returns-then-end-input-clause-lines : goal.returns-then-end-input-clause-lines
returns-then-end-input-clause-lines c = lines_none c.args.input.now (omega arith) (λ k below. c.find-end.ensures.before k (omega arith))

pub returns-clause-lines : goal.returns-clause-lines
returns-clause-lines c =
    let here : c.find-end.result < length c.args.input.now = omega arith in
    rw take_rest (lines_at c.args.input.now c.find-end.result here c.find-end.ensures.before (c.find-end.ensures.found here))
