use Rattle.std.proofs.Common.{◌≡◌, ◌<◌, ◌*◌, ◌^◌, ◌%◌, sym, arith}
use Rattle.std.proofs.Math.Pow.{shl_exact}
use Rattle.dali_search.proofs.Blocks.{ones_are}
use Rattle.dali_search.proofs.ascent.with_ones.Goals as goal

pub returns : goal.returns
returns c =
    let few : c.args.bits < 30 = c.requires.bits in
    let one : (1 * 2 ^ c.args.bits) % 4294967296 ≡ 1 * 2 ^ c.args.bits = shl_exact 1 c.args.bits 32 (omega arith) (omega (arith, few)) in
    let size : (1 * 2 ^ c.args.bits) % 4294967296 ≡ 2 ^ c.args.bits = omega (arith, one) in
    rw size (sym (ones_are c.args.bits c.args.number))
