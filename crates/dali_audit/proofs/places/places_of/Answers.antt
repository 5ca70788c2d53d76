use Rattle.std.proofs.Common.{arith}
use Rattle.std.proofs.lemmas.List.{take_rest}
use Rattle.dali_audit.proofs.Walking.{places, count}
use Rattle.dali_audit.proofs.places.places_of.Goals as goal

pub loop-rest-preserved : goal.loop-rest-preserved
loop-rest-preserved c = record {
  places = places c.loop-rest.before _ c.loop-rest.reading c.take.new.self c.loop-rest.number c.loop-rest.rest.now _ c.first_of.result
      c.seen_of-seen.result c.revealed.result c.loop-rest.places.items c.add.new.places.items _ (omega arith) (take_rest c.loop-rest.rest.now 1)
      c.first_of.ensures c.seen_of-seen.ensures c.revealed.ensures c.in_ok-add.ensures c.in_ok-take.ensures c.loop-rest.invariant.places;
  count = count c.loop-rest.number _ c.loop-rest.rest.now _ (omega arith) (take_rest c.loop-rest.rest.now 1) c.loop-rest.invariant.count;
}
