use Rattle.std.proofs.{Common.sym, Common.◌∙◌, lemmas.Bool.false≢true}
use Rattle.dali_replacement.proofs.Reading.{head_found, numbers_found, not_none, of_some}
use Rattle.dali_replacement.proofs.swapping.numbers_in.Goals as goal

pub returns-in_err-head : goal.returns-in_err-head
returns-in_err-head c = λ a n rest below small is.
    absurd (not_none _ _ (head_found c.args.text.now _ c.line_in.result c.line_in.ensures is) c.in_err-head.was)

pub returns-then-not-is_head : goal.returns-then-not-is_head
returns-then-not-is_head c = λ a n rest below small is.
    let head = of_some _ _ _ (head_found c.args.text.now _ c.line_in.result c.line_in.ensures is) c.in_ok-head.was in
    absurd (false≢true (sym c.if-not-is_head.true ∙ c.is_head.ensures.1 head.0))

pub returns-in_err-numbers : goal.returns-in_err-numbers
returns-in_err-numbers c = λ a n rest below small is.
    let head = of_some _ _ _ (head_found c.args.text.now _ c.line_in.result c.line_in.ensures is) c.in_ok-head.was in
    absurd (not_none _ _ (numbers_found _ rest a n c.line_in-2.result c.line_in-2.ensures below small head.1) c.in_err-numbers.was)

pub returns-in_err-short : goal.returns-in_err-short
returns-in_err-short c = λ a n rest below small is.
    let head = of_some _ _ _ (head_found c.args.text.now _ c.line_in.result c.line_in.ensures is) c.in_ok-head.was in
    let numbers = of_some _ _ _ (numbers_found _ rest a n c.line_in-2.result c.line_in-2.ensures below small head.1) c.in_ok-numbers.was in
    absurd (not_none _ _ (c.numbers_of.ensures a n below small numbers.0) c.in_err-short.was)

pub returns : goal.returns
returns c = λ a n rest below small is.
    let head = of_some _ _ _ (head_found c.args.text.now _ c.line_in.result c.line_in.ensures is) c.in_ok-head.was in
    let numbers = of_some _ _ _ (numbers_found _ rest a n c.line_in-2.result c.line_in-2.ensures below small head.1) c.in_ok-numbers.was in
    let both = of_some _ _ _ (c.numbers_of.ensures a n below small numbers.0) c.in_ok-short.was in
    (both.0, both.1, numbers.1)
