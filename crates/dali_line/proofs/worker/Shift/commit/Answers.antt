use Rattle.dali_line.proofs.Storing.{stores_one, takes_stored, takes_failed}
use Rattle.dali_line.proofs.worker.Shift.commit.Goals as goal

pub returns-then-try_commit-clause-takes : goal.returns-then-try_commit-clause-takes
returns-then-try_commit-clause-takes g c = λ sound up xs held.
    takes_stored g.K.Keep.holds _ _ xs _ (c.try_commit.ensures.kept c.if-try_commit.true sound up xs held)

pub returns-then-try_commit-clause-stored : goal.returns-then-try_commit-clause-stored
returns-then-try_commit-clause-stored g c =
    stores_one g.K.Keep.is_up g.K.Keep.is_sound g.K.Keep.holds g.K.Keep.block _ _ _ (c.try_commit.ensures.kept c.if-try_commit.true)

pub returns-else-try_commit-clause-takes : goal.returns-else-try_commit-clause-takes
returns-else-try_commit-clause-takes g c =
    λ sound up xs held. takes_failed g.K.Keep.holds (g.K.Keep.block c.try_commit.new.keep) _ xs _ (c.try_commit.ensures.list sound up xs held)
