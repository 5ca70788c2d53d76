use Rattle.dali_statement.proofs.Befores.{sent, destroyed}
use Rattle.dali_statement.proofs.laws.records_are_kept_before_frames.Goals as goal

pub returns : goal.returns
returns c = record { sent = sent; destroyed = destroyed }
