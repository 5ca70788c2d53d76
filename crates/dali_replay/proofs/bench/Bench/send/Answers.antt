use Rattle.std.proofs.Common.{subst, ℕ, List}
use Rattle.dali_script.specs.Records.{Has}
use Rattle.dali_replay.proofs.BenchLemmas.{left_below}
use Rattle.dali_replay.proofs.bench.Bench.send.Goals as goal

pub take-heard-requires-clause-below_mask : goal.take-heard-requires-clause-below_mask
take-heard-requires-clause-below_mask c =
    left_below c.draws.result.now _ _ (λ r has. c.draws.ensures.plan.draws_below r (subst (λ (xs : List ℕ). Has xs r) c.draws.ensures.value has))
