use Rattle.std.specs.Prelude.{◌≡◌, ℕ, ◌<◌, ◌≤◌, ◌⊎◌, ◌↔◌, List, [], ◌∷◌, ◌++◌, map, length}
use Rattle.std.specs.Prelude.{Bool, true, false, not, ◌==◌, ◌&&◌, filter, slice_index_or}
use Rattle.dali_frame.specs.Random.{MASK24}
use Rattle.dali_script.specs.declared.block.Block.{Block}
use Rattle.dali_script.specs.declared.records.Record.{Record}
use Rattle.dali_script.specs.declared.records.Record.TheVariants.{Reserve, Enrol}
use Rattle.dali_script.specs.declared.records.Record.TheVariants.{Release}

-- a short address and the random address that it is for
abbrev pub Assignment : Type 0
Assignment = ℕ × ℕ

-- What a controller keeps: its block of short addresses, and its reservations and enrolments, each
-- in the order of their records.
pub record Kept : Type 0 where
  pub block : Block
  pub reserved : List Assignment
  pub enrolled : List Assignment

abbrev pub without_records : Block → Kept
without_records b = record { block = b; reserved = []; enrolled = [] }

-- the value stands in the list
abbrev pub Has : {A : Type 0} → List A → A → Type 0
Has [] x = ⊥
Has (y ∷ ys) x = (y ≡ x) ⊎ Has ys x

-- each value stands in the list once
abbrev pub IsOnce : List ℕ → Type 0
IsOnce [] = Unit {0}
IsOnce (x ∷ xs) = (Has xs x → ⊥) × IsOnce xs

abbrev pub addresses : List Assignment → List ℕ
addresses xs = map (λ p. p.0) xs

abbrev pub randoms : List Assignment → List ℕ
randoms xs = map (λ p. p.1) xs

abbrev pub HasAddress : List Assignment → ℕ → Type 0
HasAddress xs a = Has (addresses xs) a

abbrev pub HasRandom : List Assignment → ℕ → Type 0
HasRandom xs r = Has (randoms xs) r

-- for each of the 64 short addresses, whether a pair has it
pub record Marks (xs : List Assignment) (marks : List Bool) : Type 0 where
  pub all : length marks ≡ 64
  pub marked : (a : ℕ) → a < 64 → (slice_index_or marks a false ≡ true) ↔ HasAddress xs a

-- The same of whether a pair has it for a number that none of the others may have: if it is not
-- marked, they have the number.
pub record MayBeUnmatched (xs ys : List Assignment) (marks : List Bool) : Type 0 where
  pub all : length marks ≡ 64
  pub matched :
      (a r : ℕ) → Has xs (a, r) → slice_index_or marks a false ≡ false → HasRandom ys r

-- the short address lies in the block
abbrev pub InBlock : Block → ℕ → Type 0
InBlock b a = (b.first ≤ a) × (a ≤ b.last)

-- An ordered map of short addresses to random addresses, both ways: each address once, each number
-- once; there are 64 addresses.
pub record IsMap (xs : List Assignment) : Type 0 where
  pub address_once : IsOnce (addresses xs)
  pub random_once : IsOnce (randoms xs)
  pub short : (a : ℕ) → HasAddress xs a → a < 64
  pub room : length xs ≤ 64

-- the random addresses are ones that gear draw
abbrev pub AllDrawn : List Assignment → Type 0
AllDrawn xs = (r : ℕ) → HasRandom xs r → r < MASK24

-- What holds of all records that are kept.
pub record IsKept (k : Kept) : Type 0 where
  pub reserved : IsMap k.reserved
  pub enrolled : IsMap k.enrolled
  pub reserved_drawn : AllDrawn k.reserved
  pub enrolled_drawn : AllDrawn k.enrolled
  pub within : (a : ℕ) → HasAddress k.reserved a → InBlock k.block a

-- the same of each of its lists
pub record AreReserved (b : Block) (xs : List Assignment) : Type 0 where
  pub map : IsMap xs
  pub drawn : AllDrawn xs
  pub within : (a : ℕ) → HasAddress xs a → InBlock b a

pub record AreEnrolled (xs : List Assignment) : Type 0 where
  pub map : IsMap xs
  pub drawn : AllDrawn xs

-- A record fits a block: a reserved address lies in it, and so does one that is released; and the
-- number is one that gear draw.
abbrev pub Fits : Block → Record → Type 0
Fits b (Reserve a r) = InBlock b a × (r < MASK24)
Fits b (Enrol a r) = r < MASK24
Fits b (Release a r) = InBlock b a × (r < MASK24)

abbrev pub address_of : Record → ℕ
address_of (Reserve a r) = a
address_of (Enrol a r) = a
address_of (Release a r) = a

abbrev pub random_of : Record → ℕ
random_of (Reserve a r) = r
random_of (Enrol a r) = r
random_of (Release a r) = r

-- neither the address nor the number stands in a pair
abbrev pub IsFresh : List Assignment → Assignment → Type 0
IsFresh xs x = (HasAddress xs x.0 → ⊥) × (HasRandom xs x.1 → ⊥)

-- WHICH RECORDS MAY BE ADDED: a reservation whose address and whose number no other has, an
-- enrolment likewise, and the release of what is reserved so.
abbrev pub MayAdd : Kept → Record → Type 0
MayAdd k (Reserve a r) = IsFresh k.reserved (a, r)
MayAdd k (Enrol a r) = IsFresh k.enrolled (a, r)
MayAdd k (Release a r) = Has k.reserved (a, r)

-- and why one may not: a record of its kind has the address; or none has it, but one has the
-- number; or the address is not reserved for the number
abbrev pub IsAddressTaken : Kept → Record → Type 0
IsAddressTaken k (Reserve a r) = HasAddress k.reserved a
IsAddressTaken k (Enrol a r) = HasAddress k.enrolled a
IsAddressTaken k (Release a r) = ⊥

abbrev pub IsRandomTaken : Kept → Record → Type 0
IsRandomTaken k (Reserve a r) = (HasAddress k.reserved a → ⊥) × HasRandom k.reserved r
IsRandomTaken k (Enrol a r) = (HasAddress k.enrolled a → ⊥) × HasRandom k.enrolled r
IsRandomTaken k (Release a r) = ⊥

abbrev pub IsNotReserved : Kept → Record → Type 0
IsNotReserved k (Reserve a r) = ⊥
IsNotReserved k (Enrol a r) = ⊥
IsNotReserved k (Release a r) = Has k.reserved (a, r) → ⊥

-- the pairs but this one, in their order
abbrev pub is_pair : Assignment → Assignment → Bool
is_pair x y = (y.0 == x.0) && (y.1 == x.1)

abbrev pub without_pair : Assignment → List Assignment → List Assignment
without_pair x xs = filter (λ y. not (is_pair x y)) xs

-- what is kept with one record more: a reservation or an enrolment is the last of its kind; a
-- release takes its reservation away
abbrev pub with_record : Kept → Record → Kept
with_record k (Reserve a r) = record k { reserved = k.reserved ++ (a, r) ∷ [] }
with_record k (Enrol a r) = record k { enrolled = k.enrolled ++ (a, r) ∷ [] }
with_record k (Release a r) = record k { reserved = without_pair (a, r) k.reserved }

-- records that show that this one was added: its pair is reserved or enrolled, or reserved no
-- longer
abbrev pub Shows : Kept → Record → Type 0
Shows k (Reserve a r) = Has k.reserved (a, r)
Shows k (Enrol a r) = Has k.enrolled (a, r)
Shows k (Release a r) = Has k.reserved (a, r) → ⊥

-- a record that takes a pair away, so that records show it also if it was never added
abbrev pub TakesAway : Record → Type 0
TakesAway (Reserve a r) = ⊥
TakesAway (Enrol a r) = ⊥
TakesAway (Release a r) = Unit {0}

-- the least address of the block that no reservation has
pub record IsLeastFree (b : Block) (reserved : List Assignment) (a : ℕ) : Type 0 where
  pub within : InBlock b a
  pub free : HasAddress reserved a → ⊥
  pub least : (c : ℕ) → InBlock b c → c < a → HasAddress reserved c

-- each address of the block is reserved
abbrev pub IsFull : Block → List Assignment → Type 0
IsFull b reserved = (a : ℕ) → InBlock b a → HasAddress reserved a
