use Rattle.std.proofs.Common.{arith, ◌<◌, subst, sym, ◌∙◌}
use Rattle.dali_replacement.proofs.Reading.{halves, not_none, not_both, of_some, one_value, parsed, short_there}
use Rattle.dali_replacement.proofs.swapping.numbers_of.Goals as goal

pub returns-in_err-short : goal.returns-in_err-short
returns-in_err-short c = λ a n below small is.
    absurd (not_none _ _ (halves c.args.numbers.now c.split_once.result a n c.split_once.ensures.cases below small is) c.in_err-short.was)

pub returns-in_err-ok : goal.returns-in_err-ok
returns-in_err-ok c = λ a n below small is.
    let both = of_some _ _ _ (halves c.args.numbers.now c.split_once.result a n c.split_once.ensures.cases below small is) c.in_ok-short.was in
    absurd (not_both _ _ (parsed 8 a c.in_ok-short.short.now c.parse.result c.ok.result (omega (arith, below)) (omega (arith, below)) both.0
    c.parse.ensures.value.0 c.ok.ensures.value) c.in_err-ok.was)

pub returns-in_err-of : goal.returns-in_err-of
returns-in_err-of c = λ a n below small is.
    let both = of_some _ _ _ (halves c.args.numbers.now c.split_once.result a n c.split_once.ensures.cases below small is) c.in_ok-short.was in
    let same = one_value _ _ _ (parsed 8 a c.in_ok-short.short.now c.parse.result c.ok.result (omega (arith, below)) (omega (arith, below)) both.0
    c.parse.ensures.value.0 c.ok.ensures.value) c.in_ok-ok.was in
    absurd (short_there _ _ c.of.ensures.range (subst (λ m. m < 64) (sym same) below) c.in_err-of.was)

pub returns-in_err-ok-2 : goal.returns-in_err-ok-2
returns-in_err-ok-2 c = λ a n below small is.
    let both = of_some _ _ _ (halves c.args.numbers.now c.split_once.result a n c.split_once.ensures.cases below small is) c.in_ok-short.was in
    absurd (not_both _ _ (parsed 32 n c.in_ok-short.number.now c.parse-2.result c.ok-2.result small (omega (arith, small)) both.1
    c.parse-2.ensures.value.0 c.ok-2.ensures.value) c.in_err-ok-2.was)

pub returns : goal.returns
returns c = λ a n below small is.
    let both = of_some _ _ _ (halves c.args.numbers.now c.split_once.result a n c.split_once.ensures.cases below small is) c.in_ok-short.was in
    let same = one_value _ _ _ (parsed 8 a c.in_ok-short.short.now c.parse.result c.ok.result (omega (arith, below)) (omega (arith, below)) both.0
    c.parse.ensures.value.0 c.ok.ensures.value) c.in_ok-ok.was in
    let same_too = one_value _ _ _ (parsed 32 n c.in_ok-short.number.now c.parse-2.result c.ok-2.result small (omega (arith, small)) both.1
    c.parse-2.ensures.value.0 c.ok-2.ensures.value) c.in_ok-ok-2.was in
    (c.in_ok-of.ensures.value ∙ same, same_too)
