use Rattle.std.specs.Prelude.{ℕ, ◌+◌, ◌-◌, List, [], ◌∷◌, length, map, filter, not, replicate}
use Rattle.std.specs.Prelude.{sum_by, ◌==◌, slice_index_or, slice_set, Option, Some, None}

-- What waits: five lists, that of priority 1 first and each oldest first, and how many items may
-- wait.
pub record Queues (X : Type 0) : Type 0 where
  pub lists : List (List X)
  pub capacity : ℕ

-- nothing waits
abbrev pub no_items : {X : Type 0} → ℕ → Queues X
no_items capacity = record { lists = replicate 5 []; capacity = capacity }

-- how many items wait
abbrev pub total : {X : Type 0} → Queues X → ℕ
total q = sum_by length q.lists

-- the items of a priority, 1 to 5
abbrev pub list_of : {X : Type 0} → Queues X → ℕ → List X
list_of q p = slice_index_or q.lists (p - 1) []

-- the queues with these as the items of a priority
abbrev pub with_list : {X : Type 0} → Queues X → ℕ → List X → Queues X
with_list q p xs = record { lists = slice_set q.lists (p - 1) xs; capacity = q.capacity }

-- of lists of which the first has number p, the number of the first that is not empty
abbrev pub first_from : {X : Type 0} → ℕ → List (List X) → Option ℕ
first_from p [] = None
first_from p ([] ∷ lists) = first_from (p + 1) lists
first_from p ((x ∷ xs) ∷ lists) = Some p

-- the highest priority of which an item waits
abbrev pub best : {X : Type 0} → Queues X → Option ℕ
best q = first_from 1 q.lists

-- a list without the items of a sender, in their order
abbrev pub without : {X : Type 0} → (X → ℕ) → ℕ → List X → List X
without from sender xs = filter (λ x. not (from x == sender)) xs

-- the queues without the items of a sender
abbrev pub all_without : {X : Type 0} → (X → ℕ) → ℕ → Queues X → Queues X
all_without from sender q = record {
  lists = map (without from sender) q.lists;
  capacity = q.capacity;
}
