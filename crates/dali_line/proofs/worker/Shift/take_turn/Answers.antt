use Rattle.std.proofs.Common.{rules, ◌≡◌, ◌∙◌, false, None, inl, inr, refl, ⊎_elim}
use Rattle.dali_line.specs.{Facts.facts_of, declared.outcome.Outcome.TheVariants.Stopped, declared.outcome.Outcome.TheVariants.Down}
use Rattle.dali_line.proofs.Running.{no_steps_on, runs_ended, runs_idle, runs_acted, tells_other}
use Rattle.dali_line.proofs.worker.Shift.take_turn.Goals as goal

pub returns-then-is_stopped-clause-runs : goal.returns-then-is_stopped-clause-runs
returns-then-is_stopped-clause-runs g c =
    runs_ended _ _ _ _ _ _ _ _ _ _ _ _ _ Stopped (no_steps_on, c.is_stopped.ensures c.if-is_stopped.true) (λ is. absurd (cc)) refl
    c.wait.ensures.same refl refl

pub returns-else-is_stopped-clause-runs : goal.returns-else-is_stopped-clause-runs
returns-else-is_stopped-clause-runs g c =
    let vain : c.wait.result ≡ false = search rules in
    let found = ⊎_elim (λ stopped. inl stopped) (λ down. inr (inl down)) (c.wait.ensures.ended vain) in
    runs_ended _ _ _ _ _ _ _ _ _ _ _ _ _ Down (no_steps_on, found) (λ is. absurd (cc)) refl c.wait.ensures.same refl refl

pub returns-in_default-clause-runs : goal.returns-in_default-clause-runs
returns-in_default-clause-runs g c =
    let none : c.given.result ≡ None = search rules in
    let idle = c.given.ensures.none none in
    runs_idle _ _ _ _ _ _ _ _ _ _ _ _ _ (rw c.wait.ensures.same at idle.1) c.given.ensures.last (c.given.ensures.port ∙ c.wait.ensures.same) idle.0 refl

pub returns-clause-runs : goal.returns-clause-runs
returns-clause-runs g c =
    runs_acted _ _ _ _ _ _ _ _ _ _ _ _ _ _ _ _ c.in-Some.input _ _ (rw c.wait.ensures.same at c.in-Some.ensures.gives) c.given.ensures.block
    c.given.ensures.last (c.given.ensures.port ∙ c.wait.ensures.same) c.tell-outcome.ensures.keep (c.tell-outcome.ensures.tells c.args.surveys)

pub returns-clause-unspent : goal.returns-clause-unspent
returns-clause-unspent g c =
    tells_other
    (facts_of g.B.Bus.acted g.B.Bus.refused g.B.Bus.told g.B.Bus.untold g.B.Bus.unordered g.B.Bus.ordered g.B.Bus.is_down
    (g.B.Bus.is_stopped c.args.bus.now) c.args.surveys)
    _ _ _ _ _ _ _ _ _ (c.tell-outcome.ensures.tells c.args.surveys)
