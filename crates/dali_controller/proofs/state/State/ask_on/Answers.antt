use Rattle.std.proofs.Common.{ap₂, ℕ}
use Rattle.dali_frame.specs.Priority.{LATER}
use Rattle.dali_script.specs.declared.orders.Order.TheVariants.{Put}
use Rattle.dali_controller.specs.{Course.taking, Orders.machine_ordered_on, States.course_of, States.machine_with, declared.purpose.Purpose.Purpose}
use Rattle.dali_controller.{specs.declared.purpose.Purpose.TheVariants.Hunting, proofs.Legs.counted_leg}
use Rattle.dali_controller.proofs.state.State.ask_on.Goals as goal

pub returns-clause-state : goal.returns-clause-state
returns-clause-state c =
    ap₂ (λ (p : Purpose) (a : ℕ). record
    (machine_ordered_on (machine_with c.args.self.now c.args.kept.now) (taking (course_of c.args.self.now) Hunting c.args.number)
    (Put LATER c.write-frame.result)) {
      course = record (course_of c.args.self.now) { purpose = p; number = c.args.number };
      asked = a;
    }) c.requires (counted_leg c.args.self.now.leg)
