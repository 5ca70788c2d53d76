use Rattle.std.proofs.{Common.{ap, w64, ◌==◌}, lemmas.Nat.Bits.{bit_at_set_same, bit_at_set_other}}
use Rattle.dali_controller.proofs.shorts.Shorts.with.Goals as goal

pub returns-clause-added : goal.returns-clause-added
returns-clause-added c = rw c.number.ensures.value (ap (λ b. b == 1) (bit_at_set_same w64 c.args.self.bits c.args.address c.number.ensures.range))

pub returns-clause-others : goal.returns-clause-others
returns-clause-others c a apart =
    rw c.number.ensures.value (ap (λ b. b == 1) (bit_at_set_other w64 c.args.self.bits c.args.address c.number.ensures.range a apart))
