use Rattle.std.proofs.Common.{sym, ◌∙◌}
use Rattle.dali_port.proofs.Levels.{within_bits, beyond_bits, first_half, second_half}
use Rattle.dali_port.proofs.frames.level.Goals as goal

pub returns-then-half-ge34 : goal.returns-then-half-ge34
returns-then-half-ge34 c = sym (beyond_bits c.args.frame c.args.half c.if-half-ge34.true)

pub returns-then-half-eq0 : goal.returns-then-half-eq0
returns-then-half-eq0 c =
    sym (within_bits c.args.frame c.bits.result c.args.half c.bits.ensures.bits c.bits.ensures.count c.if-half-ge34.false
    ∙ first_half _ c.args.half c.if-half-eq0.true)

pub returns-else-half-eq0 : goal.returns-else-half-eq0
returns-else-half-eq0 c =
    sym (within_bits c.args.frame c.bits.result c.args.half c.bits.ensures.bits c.bits.ensures.count c.if-half-ge34.false
    ∙ second_half _ c.args.half c.if-half-eq0.false)
