use Rattle.std.proofs.{Common.{ap, w64, ◌==◌}, lemmas.Nat.Bits.{bit_at_clear_same, bit_at_clear_other}}
use Rattle.dali_controller.proofs.shorts.Shorts.without.Goals as goal

pub returns-clause-removed : goal.returns-clause-removed
returns-clause-removed c = rw c.number.ensures.value (ap (λ b. b == 1) (bit_at_clear_same w64 c.args.self.bits c.args.address c.number.ensures.range))

pub returns-clause-others : goal.returns-clause-others
returns-clause-others c a small apart =
    rw c.number.ensures.value (ap (λ b. b == 1) (bit_at_clear_other w64 c.args.self.bits c.args.address c.number.ensures.range a small apart))
