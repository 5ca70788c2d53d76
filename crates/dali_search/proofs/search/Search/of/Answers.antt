use Rattle.std.proofs.Common.{◌≡◌, ◌∙◌, ◌<◌, ◌≤◌, ap, sym, refl, arith, Some}
use Rattle.std.proofs.lemmas.Bool.Decides.{nat_tests}
use Rattle.dali_search.specs.{Least.lowest, Least.step_between, Narrowing.left_of, Narrowing.answers_of}
use Rattle.dali_search.proofs.Led.{narrows_led, is_of, answers_length, told_left, asks_next, asks_other}
use Rattle.dali_search.proofs.search.Search.of.Goals as goal

-- the least number that is left is the one that was told
same : (c : goal.After-step) → c.led_to-left.result.low ≡ c.args.least
same c = c.if-left-value.false ∙ c.value.ensures.value

pub invariant_of-result : goal.invariant_of-result
invariant_of-result c =
    let below : c.args.probe < 0xFFFFFF = grind (arith, nat_tests) in
    let most : c.args.answers ≤ 25 = omega (arith, c.if-answers-gt-MOST.false) in
    narrows_led c.args.answers c.args.least c.led_to-left.result.low c.led_to-left.result.high c.args.probe c.step.result most c.value.ensures.range
    c.led_to-left.ensures.low c.led_to-left.ensures.high (same c) below
    c.step.ensures (λ again. asks_next c.led_to-left.result.low c.led_to-left.result.high c.args.probe c.may_ask.result c.may_ask.ensures c.if-not-may_ask.false
    (sym c.step.ensures ∙ again))

pub returns-clause-numbers : goal.returns-clause-numbers
returns-clause-numbers c =
    let told : lowest (answers_of c.args.answers c.args.least) ≡ (left_of c.args.answers c.args.least).0 =
    (told_left c.args.answers c.args.least (omega (arith, c.value.ensures.range))).0 in (
      answers_length c.args.answers c.led_to-left.result.low,
      ap (λ m. lowest (answers_of c.args.answers m)) (same c) ∙ told ∙ sym c.led_to-left.ensures.low
          ∙ same c,
      refl,
    )

pub returns-clause-same : goal.returns-clause-same
returns-clause-same c s is count least probe =
    let o = is_of c.args.answers c.args.least c.args.probe s is count least probe in
    let step : c.step.result ≡ step_between c.args.least (left_of c.args.answers c.args.least).1 =
    c.step.ensures ∙ ap (λ l. step_between l c.led_to-left.result.high) (same c) ∙ ap (λ h. step_between c.args.least h) c.led_to-left.ensures.high in
    ap Some (ap (λ m. record { answers = answers_of c.args.answers m; probe = c.args.probe; step = c.step.result }) (same c)
    ∙ ap (λ t. record { answers = answers_of c.args.answers c.args.least; probe = c.args.probe; step = t }) step
    ∙ sym o.is)

pub returns-then-left-value-clause-same : goal.returns-then-left-value-clause-same
returns-then-left-value-clause-same c s is count least probe =
    let o = is_of c.args.answers c.args.least c.args.probe s is count least probe in
    absurd (c.if-left-value.true (c.led_to-left.ensures.low ∙ o.least ∙ sym c.value.ensures.value))

pub returns-then-not-may_ask-clause-same : goal.returns-then-not-may_ask-clause-same
returns-then-not-may_ask-clause-same c s is count least probe =
    let o = is_of c.args.answers c.args.least c.args.probe s is count least probe in
    let low : c.led_to-left.result.low ≡ c.args.least = c.if-left-value.false ∙ c.value.ensures.value in
    absurd (asks_other c.led_to-left.result.low c.led_to-left.result.high c.args.probe c.may_ask.result c.may_ask.ensures c.if-not-may_ask.true
    (rw (low, c.led_to-left.ensures.high) o.running))
