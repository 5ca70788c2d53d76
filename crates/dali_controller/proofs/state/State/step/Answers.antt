use Rattle.std.proofs.Common.{◌≡◌, Some, subst}
use Rattle.dali_script.specs.declared.{orders.Order.TheVariants.Commit, records.Record.TheVariants.Reserve}
use Rattle.dali_controller.{specs.Steps.IsBefore, proofs.Keeping.visited_now}
use Rattle.dali_controller.proofs.state.State.step.Goals as goal

pub committed-requires-clause-reserved : goal.committed-requires-clause-reserved
committed-requires-clause-reserved c a n is =
    let last : c.args.self.now.last ≡ Some (Commit (Reserve a n)) = cc in
    visited_now c.args.self.now c.requires.0 c.args.kept.now a n
    (subst (λ i. IsBefore c.args.self.now c.requires.0 i c.args.kept.now) c.in-Some-Commit-Committed.is-1 c.requires.1) last
