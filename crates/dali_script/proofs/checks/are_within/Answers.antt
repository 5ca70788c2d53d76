use Rattle.std.proofs.Common.{◌≤◌, arith}
use Rattle.dali_script.{specs.Records.InBlock, proofs.Fronts.address_at, proofs.Fronts.within_more}
use Rattle.dali_script.proofs.checks.are_within.Goals.{then-address-first-via-then-address-first, then-address-first-via-else-address-first+then-last-address}
use Rattle.dali_script.proofs.checks.are_within.Goals as goal

pub returns-then-address-first : goal.returns-then-address-first
returns-then-address-first c = (
  λ e. absurd (cc),
  λ all.
      let here : InBlock c.args.block c.pair-item.result.0 =
      all c.pair-item.result.0 (address_at c.args.pairs.now _ c.pair-item.result c.loop-pair-test.true c.pair-item.is) in
      elim c.then-address-first.branch [
        | then-address-first-via-then-address-first w ↦ absurd
            (omega (arith, here.0, here.1, c.loop-pair.invariant.first, c.address-address.ensures, w.if-address-first))
        | then-address-first-via-else-address-first+then-last-address w ↦ absurd
            (omega (arith, here.0, here.1, c.loop-pair.invariant.last, c.address-address.ensures, w.if-last-address))
      ],
)

pub loop-pair-preserved : goal.loop-pair-preserved
loop-pair-preserved c =
    let first : c.args.block.first ≤ c.pair-item.result.0 = omega (arith, c.loop-pair.invariant.first, c.address-address.ensures, c.if-address-first.false) in
    let last : c.pair-item.result.0 ≤ c.args.block.last = omega (arith, c.loop-pair.invariant.last, c.address-address.ensures, c.if-last-address.false) in
    record {
      first = c.loop-pair.invariant.first;
      last = c.loop-pair.invariant.last;
      within = within_more c.args.block c.args.pairs.now c.loop-pair.pair-index c.pair-item.result c.loop-pair-test.true c.pair-item.is
          c.loop-pair.invariant.within (first, last);
    }
