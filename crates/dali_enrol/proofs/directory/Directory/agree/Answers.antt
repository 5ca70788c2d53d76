use Rattle.std.proofs.Common.{◌<◌, length, ap, sym, ◌∙◌, arith}
use Rattle.dali_enrol.proofs.Passes.{same_at}
use Rattle.dali_enrol.proofs.directory.Directory.agree.Goals as goal

pub compare-requires : goal.compare-requires
compare-requires c =
    let i = c.from-at.result in
    let ones = c.one.inside.notes in
    let others = c.other.inside.notes in
    let in_ones : i < length ones.items = omega (arith, ones.ok.0) in
    let in_others : i < length others.items = omega (arith, others.ok.0) in
    let same = ap (λ p. p.places) c.one.view_is ∙ c.requires ∙ sym (ap (λ p. p.places) c.other.view_is) in
    same_at (λ n. n.cell) (λ n. n.cell) ones.items others.items i c.index_mut.result.now c.index_mut-2.result.now same in_ones in_others
    c.index_mut.ensures.value c.index_mut-2.ensures.value
