-- The places of a block may go to another thread if their values may, and the right to free it if its allocator may.
use Rattle.std.specs.Mem.{type_size}
use Rattle.std.specs.Prelude.{List, [], ◌∷◌}
use Rattle.core.specs.declared.alloc.Allocator.{Ghosts}
use Rattle.std_alloc.proofs.SendSync.{FreesAnywhere, quiet}
use Prim.Native.Nat.{ℕ, zero, suc, ◌+◌}
use base.{Fraction.full_share, Shift.Keyless}
use denote.Param.Send.{IsSend, AllSend, part_keyless, owning_send, struct_send, sendable}
use denote.{RattleType.RattleType, RawPtr.Ptr, RawPtr.block_ptr, RawPtr.null_ptr}
use denote.Struct.{Owning.shape, Owning.fields, Owning.to, Struct.exits_of}
use Rattle.dali_ring.specs.Block.{filled, block_owns}
use Rattle.dali_ring.specs.contracts.block.Places as places
use Rattle.dali_ring.specs.contracts.block.Release as release

module _ (R : RattleType) where
  values : IsSend R → (b o n : ℕ) (xs : List R.Denot) → Keyless (filled R b o n xs)
  values send b o n [] = tt
  values send b o zero (x ∷ xs) = tt
  values send b o (suc n) (x ∷ xs) = (part_keyless R send full_share x b o, values send b (o + type_size R) n xs)

  block : IsSend R → (p : Ptr) (n : ℕ) (xs : List R.Denot) → Keyless (block_owns R p n xs)
  block send (block_ptr b o) n xs = (tt, values send b o n xs)
  block send null_ptr n xs = tt

  pub places_send : IsSend R → IsSend (places.the_row R)
  places_send send =
      let O = places.the_type R in
      let all : AllSend (fields O) = (search sendable, tt) in
      owning_send O all (λ p. block send p.origin p.count p.items) (λ k. quiet (to O) (exits_of k (fields O)) ((struct_send (shape O) all).leaving k))

  pub release_send : (A : RattleType) (g : Ghosts A.Denot) → FreesAnywhere A.Denot g → IsSend (release.the_row R A g)
  release_send A g anywhere =
      let O = release.the_type R A g in
      let all : AllSend (fields O) = (search sendable, tt) in
      owning_send O all (λ r. anywhere.frees r.alloc _ r.origin) (λ k. quiet (to O) (exits_of k (fields O)) ((struct_send (shape O) all).leaving k))
