use Rattle.std.proofs.Common.{ap₂, List, ℕ}
use Rattle.dali_script.specs.declared.{orders.Order.TheVariants.Done, trace.Entry.Entry}
use Rattle.dali_controller.{specs.Orders.machine_ordered, specs.States.machine_with, proofs.Legs.counted_leg}
use Rattle.dali_controller.proofs.state.State.done.Goals as goal

pub returns-clause-state : goal.returns-clause-state
returns-clause-state c =
    ap₂ (λ (u : List Entry) (a : ℕ). record (machine_ordered (machine_with c.args.self.now c.args.kept.now) (Done c.args.end)) { trace = u; asked = a })
    c.new-self.ensures (counted_leg c.args.self.now.leg)
