use Rattle.std.proofs.Common.{sym, refl, ◌==◌}
use Rattle.std.specs.List.{list_any}
use Rattle.dali_grammar.{specs.Clues.number_of, proofs.ClueLemmas.none_next, proofs.ClueLemmas.pair_at, proofs.ClueLemmas.any_next}
use Rattle.dali_grammar.proofs.reason.clue.shared.Goals as goal

pub returns-in-Some-place_in : goal.returns-in-Some-place_in
returns-in-Some-place_in c =
    rw (pair_at (λ u v. number_of c.args.mark u == number_of c.args.mark v) c.args.used.now c.loop-index.index c.index-used-index.result
    c.loop-index-test.true (rw (c.of-number.ensures, c.index-used-index.is) at (sym c.in-Some-place_in.ensures.there))) refl

pub loop-index-preserved : goal.loop-index-preserved
loop-index-preserved c = (
  none_next (λ u v. number_of c.args.mark u == number_of c.args.mark v) c.args.used.now c.loop-index.index c.index-used-index.result
      c.loop-index-test.true c.loop-index.invariant.0 (rw (c.of-number.ensures, c.index-used-index.is) at (sym c.in_default-place_in.ensures.there)),
  any_next (λ u. list_any (λ draw. number_of c.args.mark u == draw) c.args.draws.now) c.args.used.now c.loop-index.index
      c.index-used-index.result _ c.loop-index-test.true c.loop-index.invariant.1
      (rw (c.of-number.ensures, c.index-used-index.is) at (sym c.in_default.ensures.same)),
)
