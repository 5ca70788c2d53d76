use Rattle.dali_script.proofs.Transactions.{follows_lawful, lawful_follows, follows_test, follows_from_test}
use Rattle.dali_script.proofs.laws.lawful_frames_follow_at_the_stage.Goals as goal

pub returns : goal.returns
returns c = record { at_stage = follows_lawful; from_stage = lawful_follows; as_test = λ b xs s c. (follows_from_test b xs s c, follows_test b xs s c) }
