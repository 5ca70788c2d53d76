use Rattle.std.specs.Prelude.{◌≡◌, ℕ, List, length, Option, Some, is_some, if◌then◌else◌}
use Rattle.std.specs.List.{AllByRecursion}
use Rattle.dali_ring.specs.Queues.{Queues, list_of}
use Rattle.dali_arbiter.specs.declared.request.Request.{Request}
use Rattle.dali_arbiter.specs.Arbiter.{without_first, collision}

-- What waits for the bus: five lists, of which that of priority 1 is the owner's.
pub record IsHeld (waiting : Queues Request) (owner : Option ℕ) : Type 0 where
  pub five : length waiting.lists ≡ 5
  pub owned : AllByRecursion (λ r. owner ≡ Some r.sender) (list_of waiting 1)

-- the lists without the requests that collide
abbrev pub without_collision : List (List Request) → List (List Request)
without_collision lists =
    if is_some (collision lists) then without_first (without_first lists) else without_first lists
