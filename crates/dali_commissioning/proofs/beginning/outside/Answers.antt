use Rattle.std.proofs.Common.{◌<◌, ◌⊎◌, inl, inr, sym, ◌∙◌, arith}
use Rattle.dali_script.proofs.Lists.{has_map, next_there}
use Rattle.dali_commissioning.proofs.{Blocks.outside_here, Blocks.short_is, beginning.outside.Goals.then-address-first-via-then-address-first}
use Rattle.dali_commissioning.proofs.beginning.outside.Goals.{then-address-first-via-else-address-first+then-last-address}
use Rattle.dali_commissioning.proofs.beginning.outside.Goals as goal

pub returns-then-address-first : goal.returns-then-address-first
returns-then-address-first c =
    let xs = c.reserved-pair-items.result.now in
    let p = c.pair-item.result in
    let here : (p.0 < c.args.block.first) ⊎ (c.args.block.last < p.0) = elim c.then-address-first.branch [
      | then-address-first-via-then-address-first w ↦ inl (omega (arith, c.loop-pair.invariant.first, c.address-address.ensures, w.if-address-first.true))
      | then-address-first-via-else-address-first+then-last-address w ↦ inr
          (omega (arith, c.loop-pair.invariant.last, c.address-address.ensures, w.if-last-address.true))
    ] in
    let small : p.0 < 64 =
    c.reserved-pair-items.ensures.kept.reserved.short p.0
    (rw (← c.reserved-pair-items.ensures.value) (has_map (λ q. q.0) xs p (next_there xs c.loop-pair.pair-index p c.loop-pair-test.true c.pair-item.is)))
    in
    short_is c.of.result p.0 (rw c.address-address.ensures at c.of.ensures.range) (rw c.address-address.ensures at c.of.ensures.value) small
    ∙ sym (rw (← c.reserved-pair-items.ensures.value) (outside_here c.args.block xs c.loop-pair.pair-index p c.loop-pair-test.true c.pair-item.is here
    c.loop-pair.invariant.rest))
