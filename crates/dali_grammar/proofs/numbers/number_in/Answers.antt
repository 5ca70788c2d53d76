use Rattle.std.proofs.Common.{ℕ, sym}
use Rattle.dali_grammar.proofs.NumberLemmas.{number_some, number_large, number_err, number_no_text}
use Rattle.dali_grammar.proofs.numbers.number_in.Goals as goal

pub returns-in_default : goal.returns-in_default
returns-in_default c = number_no_text c.args.word.now (sym c.if-not-starts_plain.ensures) c.in_default.ensures.cases.0

pub returns-in_default-parse : goal.returns-in_default-parse
returns-in_default-parse c =
    number_err c.args.word.now c.in_default-parse.field-0 (sym c.if-not-starts_plain.ensures)
    (rw c.in-Ok.ensures.cases.0 at c.in_default-parse.ensures.value.0)

pub returns-then-number-le-LARGEST : goal.returns-then-number-le-LARGEST
returns-then-number-le-LARGEST c =
    number_some ℕ c.args.word.now c.in-Ok-parse.number (sym c.if-not-starts_plain.ensures)
    (rw c.in-Ok.ensures.cases.0 at c.in-Ok-parse.ensures.value.0) c.if-number-le-LARGEST.true

pub returns-else-number-le-LARGEST : goal.returns-else-number-le-LARGEST
returns-else-number-le-LARGEST c =
    number_large ℕ c.args.word.now c.in-Ok-parse.number (sym c.if-not-starts_plain.ensures)
    (rw c.in-Ok.ensures.cases.0 at c.in-Ok-parse.ensures.value.0) c.if-number-le-LARGEST.false
