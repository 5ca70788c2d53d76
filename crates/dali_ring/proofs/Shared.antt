-- A `&` to the places is made if one to a value is. Assumes `Logic`.
use Rattle.std.specs.Mem.{type_size}
use Rattle.std.specs.Prelude.{List, [], ◌∷◌}
use Prim.Native.Nat.{ℕ, zero, suc, ◌+◌}
use base.{Fml.Lft, Fml.Incl, Fml.ffalse, Fraction.full_share}
use denote.Memory.{part_at, shared_of}
use denote.{Param.Laws.Laws, RattleType.RattleType, RattleType.RowLaws, RawPtr.Ptr, RawPtr.block_ptr, RawPtr.null_ptr, Shares.Shares-less, Sharing.ShrLaws}
use denote.{Sharing.said, SharingLaws.beside_shr_laws, SharingLaws.said_shr_laws, Slice.elements_shared, Slice.elements_shr_laws}
use denote.Struct.Lending.{Lends, Lends-both, Lends-nothing, Lends-said, Lends-false}
use seplogic.Ra.Ura.{Ura}
use types.Logic.{Logic}
use Rattle.dali_ring.specs.Block.{filled, fits, block_owns, block_lends}

pub block_lends_laws : (R : RattleType) → RowLaws R → (p : Ptr) (n : ℕ) (xs : List R.Denot) → ShrLaws (block_lends R p n xs)
block_lends_laws R L (block_ptr b o) n xs = beside_shr_laws _ _ (said_shr_laws (fits R n) tt) (elements_shr_laws R L xs b o)
block_lends_laws R L null_ptr n xs = said_shr_laws ffalse tt

module _ {M : Type 1} {𝓤 : Ura M} (𝓛 : Logic 𝓤) (l : Lft) (R : RattleType) (L : Laws R) (inc : Incl l R.lives) where
  lends_each : (xs : List R.Denot) (b o n : ℕ) → Lends 𝓛 (filled R b o n xs) (elements_shared R xs b o) l
  lends_each [] b o n = Lends-nothing 𝓛 (filled R b o n []) l
  lends_each (x ∷ xs) b o zero = Lends-false 𝓛 (elements_shared R (x ∷ xs) b o) l
  lends_each (x ∷ xs) b o (suc n) =
      Lends-both 𝓛 (part_at R full_share x b o) (filled R b (o + type_size R) n xs) (shared_of R x b o) (elements_shared R xs b (o + type_size R)) l
      (λ κ ts. Shares-less 𝓛 R R.lives l inc (L.shares 𝓛) x κ ts b o) (lends_each xs b (o + type_size R) n)

  pub lends_block : (p : Ptr) (n : ℕ) (xs : List R.Denot) → Lends 𝓛 (block_owns R p n xs) (block_lends R p n xs) l
  lends_block (block_ptr b o) n xs =
      Lends-both 𝓛 (fits R n) (filled R b o n xs) (said (fits R n)) (elements_shared R xs b o) l (Lends-said 𝓛 (fits R n) tt l) (lends_each xs b o n)
  lends_block null_ptr n xs = Lends-false 𝓛 (said ffalse) l
