use Rattle.std.proofs.Common.{ap₂, List, ℕ}
use Rattle.dali_script.specs.declared.{orders.Order.TheVariants.Commit, trace.Entry.Entry}
use Rattle.dali_controller.{specs.Orders.machine_ordered, specs.States.machine_with, proofs.Legs.counted_leg, proofs.Steps.commit_whole}
use Rattle.dali_controller.proofs.state.State.commit.Goals as goal

pub returns-clause-state : goal.returns-clause-state
returns-clause-state c =
    ap₂ (λ (u : List Entry) (a : ℕ). record (machine_ordered (machine_with c.args.self.now c.args.kept.now) (Commit c.args.added)) { trace = u; asked = a })
    c.new-self.ensures (counted_leg c.args.self.now.leg)

pub returns-clause-whole : goal.returns-clause-whole
returns-clause-whole c =
    commit_whole (machine_with c.args.self.now c.args.kept.now) c.args.added _ c.requires.ready c.requires.going c.requires.fits c.requires.may
    c.requires.stored c.new-self.ensures
