use Rattle.std.specs.Prelude.{ℕ, ◌+◌, Bool, true, false, not, List, [], ◌∷◌, ◌++◌, length, map}
use Rattle.std.specs.Prelude.{filter, take, replicate, sum_by, slice_index_or, Option, Some, None}
use Rattle.std.specs.Prelude.{is_some, ◌==◌, ◌&&◌, if◌then◌else◌}
use Rattle.std.specs.Option.{option_map}
use Rattle.dali_frame.specs.declared.frames.Forward.{Forward}
use Rattle.dali_arbiter.specs.declared.request.Request.{Request}
use Rattle.dali_arbiter.specs.declared.error.OfferError.{OfferError}
use Rattle.dali_arbiter.specs.declared.error.OfferError.TheVariants.{QueueFull, NotOwner}

-- A bus that several controllers share, as this project's profile has it: the requests that wait,
-- in five lists, those of priority 1 first and each list oldest first; who owns the bus; and how
-- many requests may wait.
pub record Arbiter : Type 0 where
  pub lists : List (List Request)
  pub owner : Option ℕ
  pub capacity : ℕ

-- the bus on which nothing waits, and which has no owner
abbrev pub idle : ℕ → Arbiter
idle capacity = record { lists = replicate 5 []; owner = None; capacity = capacity }

-- how many requests wait
abbrev pub total : Arbiter → ℕ
total b = sum_by length b.lists

-- list 1
abbrev pub first_list : Arbiter → List Request
first_list b = slice_index_or b.lists 0 []

-- whether this sender owns the bus
abbrev pub owns : Option ℕ → ℕ → Bool
owns None sender = false
owns (Some owner) sender = owner == sender

-- ---------------------------------------------------------------- which request is next

-- the first of the first list that is not empty
abbrev pub first_waiting : List (List Request) → Option Request
first_waiting [] = None
first_waiting ([] ∷ lists) = first_waiting lists
first_waiting ((r ∷ rs) ∷ lists) = Some r

-- if the bus has an owner, the first of list 1 alone; if it has none, the first of the first
-- list that is not empty
abbrev pub next : Arbiter → Option Request
next b = first_waiting (if is_some b.owner then take 1 b.lists else b.lists)

-- ---------------------------------------------------------------- what an offer does

abbrev pub request_of : ℕ → ℕ → Forward → Request
request_of sender priority frame = record { sender = sender; priority = priority; frame = frame }

-- priority 1 is for the owner alone
abbrev pub is_barred : Option ℕ → ℕ → ℕ → Bool
is_barred owner sender priority = (priority == 1) && not (owns owner sender)

-- why a request may not wait: its sender may not use its priority, which is asked first; or the
-- queue is full
abbrev pub offer_refusal : Arbiter → Request → Option OfferError
offer_refusal b r =
    if is_barred b.owner r.sender r.priority then Some NotOwner
    else if total b == b.capacity then Some QueueFull
    else None

-- the lists, of which the first has number p, with this request put last in the list of its
-- priority
abbrev pub put_last : Request → ℕ → List (List Request) → List (List Request)
put_last r p [] = []
put_last r p (l ∷ lists) = (if r.priority == p then l ++ r ∷ [] else l) ∷ put_last r (p + 1) lists

abbrev pub bus_offered : Arbiter → Request → Arbiter
bus_offered b r = record { lists = put_last r 1 b.lists; owner = b.owner; capacity = b.capacity }

-- ---------------------------------------------------------------- how ownership ends

-- the lists with list 1 emptied
abbrev pub first_emptied : List (List Request) → List (List Request)
first_emptied [] = []
first_emptied (l ∷ lists) = [] ∷ lists

-- the bus has no owner, and list 1 is empty
abbrev pub bus_freed : Arbiter → Arbiter
bus_freed b = record { lists = first_emptied b.lists; owner = None; capacity = b.capacity }

abbrev pub bus_lapsed : Arbiter → Arbiter
bus_lapsed b = bus_freed b

-- -------------------------------------------------------- what happens to the request that is next

-- the lists without the first of the first list that is not empty
abbrev pub without_first : List (List Request) → List (List Request)
without_first [] = []
without_first ([] ∷ lists) = [] ∷ without_first lists
without_first ((r ∷ rs) ∷ lists) = rs ∷ lists

-- the bus without the request that is next; if one is next, it is the first of the first list
-- that is not empty
abbrev pub bus_taken : Arbiter → Arbiter
bus_taken b = record { lists = without_first b.lists; owner = b.owner; capacity = b.capacity }

-- the sender of the request that is next, if one is
abbrev pub next_sender : Arbiter → Option ℕ
next_sender b = option_map (λ r. r.sender) (next b)

-- the next request was sent: it leaves, and its sender owns the bus exactly if more frames of
-- its transaction come
abbrev pub bus_sent : Arbiter → Bool → Arbiter
bus_sent b true = record {
  lists = without_first b.lists;
  owner = next_sender b;
  capacity = b.capacity;
}
bus_sent b false = bus_freed (bus_taken b)

-- the next request was destroyed on the bus: it leaves, and the bus has no owner
abbrev pub bus_destroyed : Arbiter → Arbiter
bus_destroyed b = bus_freed (bus_taken b)

-- the request behind r in its list, if another sender has put it there
abbrev pub rival : Request → List Request → Option Request
rival r [] = None
rival r (s ∷ rs) = if r.sender == s.sender then None else Some s

-- the request that collides with the first of the first list that is not empty
abbrev pub collision : List (List Request) → Option Request
collision [] = None
collision ([] ∷ lists) = collision lists
collision ((r ∷ rs) ∷ lists) = rival r rs

-- the next request collided: it is destroyed, and so is the one that collided with it
abbrev pub bus_collided : Arbiter → Arbiter
bus_collided b =
    bus_freed (if is_some (collision b.lists) then bus_taken (bus_taken b) else bus_taken b)

-- ---------------------------------------------------------------- what silence does

-- a list without this sender's requests
abbrev pub without_sender : ℕ → List Request → List Request
without_sender sender rs = filter (λ r. not (r.sender == sender)) rs

-- the bus without this sender's requests
abbrev pub bus_muted : Arbiter → ℕ → Arbiter
bus_muted b sender = record {
  lists = map (without_sender sender) b.lists;
  owner = b.owner;
  capacity = b.capacity;
}

-- a sender falls silent: its requests leave, the others keep their order, and its ownership ends
abbrev pub bus_silenced : Arbiter → ℕ → Arbiter
bus_silenced b sender =
    if owns b.owner sender then bus_freed (bus_muted b sender) else bus_muted b sender
