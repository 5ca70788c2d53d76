use Rattle.std.proofs.Common.{◌≡◌, ◌∙◌, ap, subst, arith, length}
use Rattle.dali_line.specs.{Calls.PumpsFrom, Calls.LapsesFrom, Counts.others_of, Counts.shares_of, Driving.Drives, Found.FromDriver, Found.IsStuck}
use Rattle.dali_threads.{specs.Ran.EachHasRun, specs.Ran.line_facts, proofs.Running.have_run}
use Rattle.dali_threads.proofs.run.commission.Goals as goal

-- The workers and the pumper ran over the line that is closed, with the ports and the driver that it gave.
pub returns-in-Ok-clause-run : goal.returns-in-Ok-clause-run
returns-in-Ok-clause-run g c =
    let ports : c.in_ok-ports.ports.items ≡ shares_of c.args.site = c.in_ok-ports.ensures ∙ c.new-line.ensures.ports in
    let left = c.in_ok-ended.field-0 in let ended = left.ended.items in
    let all : length ended ≡ length (shares_of c.args.site) = omega (arith, c.in_ok-ended.ensures.count, ap length ports) in
    let ran : EachHasRun (line_facts c.args.surveys) (λ port. port) (shares_of c.args.site) c.args.turns ended =
    subst (λ ps. EachHasRun (line_facts c.args.surveys) (λ port. port) ps c.args.turns ended) ports c.in_ok-ended.ensures.ran in
    let driven : Drives PumpsFrom (λ d. FromDriver d IsStuck) LapsesFrom 0 left.driver c.args.turns =
    subst (λ d. Drives PumpsFrom (λ d. FromDriver d IsStuck) LapsesFrom d left.driver c.args.turns)
    (c.new-line.ensures.driver ∙ ap others_of c.requires.log) c.in_ok-ended.ensures.drives in
    have_run c.args.turns c.args.surveys c.args.site c.in-Ok.site ended c.in_ok-outcomes.outcomes.items c.in_ok-outcomes.ports.items left.driver
    c.requires.log all ran c.in_ok-outcomes.ensures.outcomes c.in_ok-outcomes.ensures.ports c.in-Ok.ensures.all.1 c.in-Ok.ensures.all.0 driven
