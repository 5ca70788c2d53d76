use Rattle.std.proofs.Common.{rules, ◌≡◌, ap, length}
use Rattle.dali_events.proofs.Invariant.Takes.{row_length}
use Rattle.dali_standing.proofs.fitted.FittedGear.interrupt.Goals as goal

pub invariant_of-self : goal.invariant_of-self
invariant_of-self c =
    let same : length c.take.new.self ≡ length c.self.inside.gear = rw (row_length) at (ap (λ gs. length gs) c.take.ensures.gear) in
    (c.self.invariant.0, c.self.invariant.1, c.self.invariant.2, search rules)
