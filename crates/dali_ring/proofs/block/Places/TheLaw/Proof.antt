-- A `&` to the places shows each value. Assumes `Logic`.
use Rattle.core.specs.contracts.marker.PhantomData as marker
use base.Fml.{Incl-trans}
use contract.BorrowLft.{meet_⊑_left}
use denote.{Param.Laws.Laws, Param.Shared.copy_shared, RattleType.RattleType, RawPtr.RawPtr, Struct.Laws.field_copy, Struct.Lending.of_Lends}
use mathlib.Core.List.{[], ◌++◌}
use Rattle.dali_ring.proofs.{Shared.block_lends_laws, Shared.lends_block, block.Places.TheLaw.Statement.statement}
use Rattle.dali_ring.specs.contracts.block.Places as places

pub shares : (R : RattleType) (L : Laws R) → statement R L
shares R L =
    let codes = places.the_codes R.Denot R.coded (marker.the_row RawPtr).coded in
    let within = Incl-trans (meet_⊑_left (R.lives ++ []) _) (meet_⊑_left R.lives []) in
    of_Lends (places.struct R) codes (places.the_heap R) (places.the_lent R)
    (λ d p. block_lends_laws R L.shr_laws d.origin d.count d.items)
    (copy_shared (marker.the_field RawPtr) (field_copy (marker.the_type RawPtr) tt), tt)
    (λ M 𝓤 𝓛 d p. lends_block 𝓛 (places.the_row R).lives R L within d.origin d.count d.items)
