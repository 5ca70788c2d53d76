use denote.{Param.Send.IsSend, RattleType.RattleType}
use Rattle.dali_ring.{specs.contracts.block.Places.the_row, proofs.Sending.places_send}

pub send : (R : RattleType) → IsSend R → IsSend (the_row R)
send = places_send
