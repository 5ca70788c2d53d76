use Rattle.std.proofs.Common.{◌≡◌, ◌<◌, true}
use Rattle.dali_commissioning.{specs.Drivers.talk_of, specs.Drivers.is_lost, proofs.Tried.HaveTried}
use Rattle.dali_commissioning.proofs.unaddressed.put_to_the_end.Given as goal

abbrev pub invariant-loop : goal.invariant-loop
invariant-loop g l = record {
  tried : HaveTried l.puttings l.counter (talk_of g.R.Read.remaining g.W.Write.contents l.fn.driver)
      (talk_of g.R.Read.remaining g.W.Write.contents l.driver);
  lost : 0 < l.counter → is_lost l.driver ≡ true;
}
