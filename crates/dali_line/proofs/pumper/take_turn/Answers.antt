use Rattle.std.proofs.Common.{ℕ, subst}
use Rattle.dali_line.{specs.Driving.Drives, proofs.Driving.drives_pump}
use Rattle.dali_line.proofs.pumper.take_turn.Goals as goal

pub returns-in_ok-pump-in-Next-clause-drives : goal.returns-in_ok-pump-in-Next-clause-drives
returns-in_ok-pump-in-Next-clause-drives g c =
    subst (λ (n : ℕ). Drives g.B.Bus.pumped g.B.Bus.is_stuck g.B.Bus.lapsed n (g.B.Bus.driven c.pump.new.driver) 1) c.in-Next.ensures.same
    (drives_pump g.B.Bus.pumped g.B.Bus.is_stuck g.B.Bus.lapsed _ _ c.in_ok-pump-in-Next.field-0 c.in_ok-pump-in-Next.ensures.pumped)
