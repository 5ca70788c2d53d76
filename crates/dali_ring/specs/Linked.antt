use Rattle.std.specs.Prelude.{◌≡◌, ℕ, zero, suc, ◌+◌, ◌<◌, ◌≤◌, List, [], ◌∷◌, ◌++◌, length}
use Rattle.std.specs.Prelude.{Option, Some, None, slice_index_or, nat_lt, if◌then◌else◌, sum_by}
use Rattle.std.specs.Prelude.{map, take}
use Rattle.dali_ring.specs.declared.slots.Slot.{Slot}

-- the slot of a number
abbrev pub slot_at : {X : Type 0} → List (Slot X) → ℕ → Slot X
slot_at s i = slice_index_or s i (record { link = 0; item = None })

-- where the slot of a number leads to
abbrev pub link_at : {X : Type 0} → List (Slot X) → ℕ → ℕ
link_at s i = (slot_at s i).link

-- the item of the slot of a number
abbrev pub item_at : {X : Type 0} → List (Slot X) → ℕ → Option X
item_at s i = (slot_at s i).item

-- The way of the links from a to t, behind each link a slot below n, with these items.
abbrev pub Leads : {X : Type 0} → (ℕ → ℕ) → (ℕ → X) → ℕ → ℕ → ℕ → List X → Type 0
Leads link item n t a [] = a ≡ t
Leads link item n t a (x ∷ xs) =
    (link a < n) × (item (link a) ≡ x) × Leads link item n t (link a) xs

-- A list that begins behind a, whose last slot is t, or a if it is empty, and leads to e.
abbrev pub IsList : {X : Type 0} → (ℕ → ℕ) → (ℕ → X) → ℕ → ℕ → ℕ → ℕ → List X → Type 0
IsList link item n e t a xs = Leads link item n t a xs × (link t ≡ e)

-- the items that the links lead to from a, at most this many
abbrev pub follow : {X : Type 0} → (ℕ → ℕ) → (ℕ → X) → ℕ → ℕ → ℕ → List X
follow link item n zero a = []
follow link item n (suc k) a =
    if nat_lt (link a) n then item (link a) ∷ follow link item n k (link a) else []

-- Six lists of n slots and six beyond them, where the lists begin: list p begins behind slot n + p,
-- and leads back to it. Each slot below n is in one of them.
pub record Holds {X : Type 0} (s : List (Slot X)) (n : ℕ) (tails : List ℕ)
    (ls : List (List (Option X))) : Type 0 where
  pub six : length ls ≡ 6
  pub slots : length s ≡ n + 6
  pub ends : length tails ≡ 6
  pub lists : (p : ℕ) → p < 6
      → IsList (link_at s) (item_at s) n (n + p) (slice_index_or tails p 0) (n + p)
      (slice_index_or ls p [])
  pub whole : sum_by length ls ≡ n

-- the items of list p
abbrev pub line : {X : Type 0} → List (Slot X) → ℕ → ℕ → List (Option X)
line s n p = follow (link_at s) (item_at s) n n (n + p)

-- the items of the six lists
abbrev pub lines : {X : Type 0} → List (Slot X) → ℕ → List (List (Option X))
lines s n =
    line s n 0 ∷ line s n 1 ∷ line s n 2 ∷ line s n 3 ∷ line s n 4 ∷ line s n 5 ∷ []

-- Slot b is the one before item x of list p, which has the items us before x and rest behind it.
pub record IsBefore {X : Type 0} (s : List (Slot X)) (n p b : ℕ) (us : List (Option X))
    (x : Option X) (rest : List (Option X)) : Type 0 where
  pub items : slice_index_or (lines s n) p [] ≡ us ++ x ∷ rest
  pub way : Leads (link_at s) (item_at s) n b (n + p) us

-- the items of a list that are there
abbrev pub somes : {X : Type 0} → List (Option X) → List X
somes [] = []
somes (None ∷ xs) = somes xs
somes (Some x ∷ xs) = x ∷ somes xs

-- the items of the five lists that wait
abbrev pub waiting : {X : Type 0} → List (Slot X) → ℕ → List (List X)
waiting s n = map somes (take 5 (lines s n))

-- Five lists of items wait, and all other slots are free.
pub record IsLinked {X : Type 0} (s : List (Slot X)) (n : ℕ) (tails : List ℕ) : Type 0 where
  pub held : Holds s n tails (map (map Some) (waiting s n) ++ line s n 5 ∷ [])
  pub five : length (waiting s n) ≡ 5
  pub least : 1 ≤ n
  pub most : n ≤ 1024

-- Slot b is the last of the items us of list p that waits, or where it begins if there are none;
-- behind it are these.
pub record IsAt {X : Type 0} (s : List (Slot X)) (n p b : ℕ) (us rest : List X) : Type 0 where
  pub items : slice_index_or (waiting s n) p [] ≡ us ++ rest
  pub way : Leads (link_at s) (item_at s) n b (n + p) (map Some us)
