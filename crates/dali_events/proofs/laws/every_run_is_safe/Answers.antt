use Rattle.dali_events.proofs.Invariant.Safe.{keeps_promise, safe_history}
use Rattle.dali_events.proofs.laws.every_run_is_safe.Goals as goal

pub returns : goal.returns
returns c = record { promise = keeps_promise; history = safe_history }
