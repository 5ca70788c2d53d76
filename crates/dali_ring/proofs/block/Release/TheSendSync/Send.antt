use Rattle.core.specs.declared.alloc.Allocator.{Ghosts}
use denote.{Param.Send.IsSend, Param.Send.Frees, RattleType.RattleType}
use Rattle.dali_ring.{specs.contracts.block.Release.the_row, proofs.Sending.release_send}

pub send : (R A : RattleType) (g : Ghosts A.Denot) → IsSend A → Frees g g.dealloc_token → IsSend (the_row R A g)
send R A g crosses = release_send R A g
