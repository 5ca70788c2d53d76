use Rattle.dali_events.{specs.World.start, proofs.Invariant.Growing.after_more, proofs.Invariant.Growing.run_more}
use Rattle.dali_events.proofs.laws.histories_grow_at_the_end.Goals as goal

pub returns : goal.returns
returns c = record { world = λ p capacity log e. after_more (start p capacity) log e; run = run_more }
