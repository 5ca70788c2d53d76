-- What the parts of a block own, at values of the row R.
use Rattle.std.specs.Prelude.{ℕ, zero, suc, ◌+◌, ◌*◌, ◌^◌, List, [], ◌∷◌, ◌++◌, take, drop}
use Rattle.std.specs.Mem.{type_size}
use base.Fraction.{full_share}
use base.Fml.{Lft, Fml, ffalse, fsep, flt, froom}
use mir.Syntax.{Ty, ty_array}
use mir.Raw.{raw}
use denote.RattleType.{RattleType}
use denote.Memory.{lone, part_at}
use denote.Slice.{elements_shared}
use denote.Sharing.{said, beside}
use denote.RawPtr.{Ptr, block_ptr, null_ptr}

-- the list with x as item i, which may be the one behind the last
abbrev pub put_at : {X : Type 0} → ℕ → X → List X → List X
put_at i x xs = take i xs ++ x ∷ drop (suc i) xs

module _ (R : RattleType) where
  -- n places from o bytes into block b on: the first hold these values, the others are room
  abbrev pub filled : ℕ → ℕ → ℕ → List R.Denot → Fml
  filled b o n [] = froom (raw (ty_array (lone R.mir) n)) b o
  filled b o zero (x ∷ xs) = ffalse
  filled b o (suc n) (x ∷ xs) = fsep (part_at R full_share x b o) (filled b (o + type_size R) n xs)

  -- n places have fewer than 2 ^ 63 bytes
  abbrev pub fits : ℕ → Fml
  fits n = flt (n * type_size R) (2 ^ 63)

  abbrev pub block_owns : Ptr → ℕ → List R.Denot → Fml
  block_owns (block_ptr b o) n xs = fsep (fits n) (filled b o n xs)
  block_owns null_ptr n xs = ffalse

  -- what a `&` to the places shows: each value, and nothing of the places behind them
  abbrev pub block_lends : Ptr → ℕ → List R.Denot → Lft → Fml
  block_lends (block_ptr b o) n xs = beside (said (fits n)) (elements_shared R xs b o)
  block_lends null_ptr n xs = said ffalse

  -- the allocator's token for a block of n places
  abbrev pub release_owns : (Ty → Ptr → Fml) → Ptr → ℕ → Fml
  release_owns token p n = token (raw (ty_array (lone R.mir) n)) p
