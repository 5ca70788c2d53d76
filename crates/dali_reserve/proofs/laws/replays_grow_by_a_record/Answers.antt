use Rattle.dali_reserve.proofs.Replays.{replay_none, replay_more, replay_less, replay_one, replay_block, replay_kept}
use Rattle.dali_reserve.proofs.laws.replays_grow_by_a_record.Goals as goal

pub returns : goal.returns
returns c = record { none = replay_none; more = replay_more; less = replay_less; one = replay_one; block = replay_block; kept = replay_kept }
