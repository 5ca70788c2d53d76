use Rattle.std.proofs.Common.{arith}
use Rattle.dali_gear.proofs.RowLemmas.{seen_more}
use Rattle.dali_gear.proofs.row.Row.look_for_pairs.Goals as goal

pub loop-number-init : goal.loop-number-init
loop-number-init c = record { seen = λ none k below. absurd (omega arith) }

pub loop-number-preserved : goal.loop-number-preserved
loop-number-preserved c = record { seen = seen_more c.loop-number.some c.self.inside.paired c.loop-number.number c.loop-number.invariant.seen }

pub invariant_of-self : goal.invariant_of-self
invariant_of-self c = record {
  few = c.self.invariant.few;
  random = c.self.invariant.random;
  search = c.self.invariant.search;
  unpaired = λ none k below. c.loop-number.invariant.seen none k (let end = c.loop-number-test.false in omega arith);
}
