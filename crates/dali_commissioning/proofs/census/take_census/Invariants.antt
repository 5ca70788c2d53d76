use Rattle.std.proofs.Common.{◌≡◌, length}
use Rattle.dali_commissioning.specs.{Census.AreCounted, Drivers.talk_of}
use Rattle.dali_commissioning.proofs.census.take_census.Given as goal

abbrev pub invariant-loop-number : goal.invariant-loop-number
invariant-loop-number g l = record {
  counted : AreCounted l.kept l.others 0 l.replies.items (talk_of g.R.Read.remaining g.W.Write.contents l.fn.driver)
      (talk_of g.R.Read.remaining g.W.Write.contents l.driver);
  all : length l.replies.items ≡ l.number;
}
