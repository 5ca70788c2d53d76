use Rattle.std.proofs.Common.{◌≡◌, length}
use Rattle.dali_commissioning.specs.Drivers.{talk_of}
use Rattle.dali_replacement.specs.Standing.{AreHeard}
use Rattle.dali_replacement.proofs.standing.hear_all.Given as goal

abbrev pub invariant-loop-number : goal.invariant-loop-number
invariant-loop-number g l = record {
  heard : AreHeard l.table 0 l.replies.items (talk_of g.R.Read.remaining g.W.Write.contents l.fn.driver)
      (talk_of g.R.Read.remaining g.W.Write.contents l.driver);
  all : length l.replies.items ≡ l.number;
}
