use Rattle.std.proofs.Common.{ℕ, List, ◌++◌, ◌∙◌, ap, arith, map}
use Rattle.std.proofs.lemmas.List.{take_all}
use Rattle.clap.specs.Words.{found_of, raw_values, matched_of}
use Rattle.dali_words.specs.Lines.{pair_of}
use Rattle.dali_words.proofs.LineLemmas.{found_named}
use Rattle.dali_words.proofs.line.CommandLine.take.Goals as goal

pub returns-clause-values : goal.returns-clause-values
returns-clause-values c =
    c.loop-value.invariant.values
    ∙ ap (λ ps. map pair_of c.args.self.now.values.items ++ ps)
    (ap (map {B = List ℕ × List ℕ} (λ value. (c.args.name.now, value.now)))
    (take_all c.loop-value.value-index c.in-Some.values.now (omega (arith, c.loop-value-test.false)))
    ∙ found_named raw_values (matched_of (found_of c.args.found.now) c.args.name.now) c.args.name.now c.in-Some.values.now c.in-Some.ensures)
