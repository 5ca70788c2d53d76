use Rattle.std.proofs.Common.{◌≡◌, false, true, sym, ◌∙◌}
use Rattle.dali_script.{specs.Stages.given, specs.Stages.is_drawn_if, proofs.Senders.comes_if, proofs.Senders.comes_not}
use Rattle.dali_script.proofs.stage.Stage.led_by.Goals as goal

pub returns-then-is_given_drawn-clause-comes : goal.returns-then-is_given_drawn-clause-comes
returns-then-is_given_drawn-clause-comes c =
    let drawn : is_drawn_if (given c.args.self c.args.command) ≡ true = sym c.is_given_drawn.ensures ∙ c.if-is_given_drawn.true in
    let comes = comes_if c.args.self c.args.command c.args.heard drawn in
    rw c.next.ensures (λ some. comes ∙ some, λ may. sym comes ∙ may)

pub returns-else-is_given_drawn-clause-comes : goal.returns-else-is_given_drawn-clause-comes
returns-else-is_given_drawn-clause-comes c =
    let drawn : is_drawn_if (given c.args.self c.args.command) ≡ false = sym c.is_given_drawn.ensures ∙ c.if-is_given_drawn.false in
    (λ some. absurd (cc), λ may. absurd (let not = comes_not c.args.self c.args.command drawn in cc))
