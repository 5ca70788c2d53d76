use Rattle.std.proofs.Common.{◌<◌, ◌≤◌, ◌+◌, ◌*◌}
use Rattle.dali_commissioning.{specs.Drivers.talk_of, proofs.Asked.HasAsked}
use Rattle.dali_commissioning.proofs.census.hear.Given as goal

abbrev pub invariant-loop : goal.invariant-loop
invariant-loop g l = record {
  asked : HasAsked l.short (talk_of g.R.Read.remaining g.W.Write.contents l.fn.driver)
      (talk_of g.R.Read.remaining g.W.Write.contents l.driver) l.heard l.lost;
  few : l.heard.asked < l.wanted;
  fewer : l.lost < 8;
  tried : l.counter ≤ 8 * l.heard.asked + l.lost;
}
