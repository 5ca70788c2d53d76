use Rattle.std.specs.Prelude.{◌≡◌, ◌≤◌, ℕ, ◌+◌, Bool, List, ◌++◌, length, Some, Option}
use Rattle.std.specs.Io.KnownBytes.{Appends, Consumes}
use Rattle.dali_frame.specs.declared.frames.Forward.{Forward}
use Rattle.dali_script.specs.declared.records.Record.{Record}
use Rattle.dali_script.specs.declared.orders.Input.{Input}
use Rattle.dali_script.specs.declared.orders.Order.{Order}
use Rattle.dali_script.specs.declared.orders.Order.TheVariants.{Done, Halt}
use Rattle.dali_commissioning.specs.declared.conducting.Ended.{Ended}
use Rattle.dali_commissioning.specs.declared.conducting.Ended.TheVariants as ended
use Rattle.dali_controller.specs.Machine.{Machine}
use Rattle.dali_commissioning.specs.Drivers.{Talk}
use Rattle.dali_commissioning.specs.Steps.{Step, AreSteps, first_told, last_order, written_by}
use Rattle.dali_commissioning.specs.Steps.{HaveRead, AreTold, open_after, committed_by}
use Rattle.dali_commissioning.specs.Steps.{has_committed}

-- a machine took these steps, by these lines
pub record Conducted (m n : Machine) (steps : List Step) (x y : Talk) : Type 0 where
  pub taken : AreSteps m steps n
  pub wrote : Appends x.written y.written (written_by steps)
  pub bytes : List ℕ
  pub read : Consumes x.left y.left bytes
  pub told : HaveRead steps bytes

-- lines were read that tell this, or none if it is not of the bus
abbrev pub Hears : Talk → Talk → Input → Type 0
Hears x y told = (bytes : List ℕ) × Consumes x.left y.left bytes × AreTold told bytes

-- A STORE TAKES RECORDS: it holds the list that it held, and then these.
abbrev pub Commits : {S : Type 0} (is_up is_sound : S → Type 0)
    (holds : S → List Record → Type 0) → S → S → List Record → Type 0
Commits is_up is_sound holds old new records =
    is_sound old → is_up new → (xs : List Record) → holds old xs → holds new (xs ++ records)

-- a store that stays what it is
pub record Stays {S : Type 0} (is_up is_sound : S → Type 0) (old new : S) : Type 0 where
  pub up : is_up new → is_up old
  pub sound : is_sound old → is_up new → is_sound new

-- the same, and then one record more or none
abbrev pub MayCommit : {S : Type 0} (is_up is_sound : S → Type 0)
    (holds : S → List Record → Type 0) → S → S → List Record → Type 0
MayCommit is_up is_sound holds old new records =
    is_sound old → is_up new → (xs : List Record) → holds old xs
    → (more : List Record) × (length more ≤ 1) × holds new (xs ++ (records ++ more))

-- the order at which a machine ended
abbrev pub order_of : Ended → Order
order_of (ended.Done end) = Done end
order_of (ended.Halted fault) = Halt fault

-- A MACHINE IS CONDUCTED up to its last order, which is not done yet. `first` is what it was told
-- first, `waiting` the first frame of a pair that waits for its second one, `committed` whether a
-- record was committed, `count` how many orders were done.
pub record IsAt {S : Type 0} (is_up is_sound : S → Type 0) (holds : S → List Record → Type 0)
    (was keep : S) (m n : Machine) (x y : Talk) (first : Input) (waiting : Option Forward)
    (order : Order) (committed : Bool) (count : ℕ) : Type 0 where
  pub steps : List Step
  pub begun : first_told steps ≡ Some first
  pub conducted : Conducted m n steps x y
  pub counted : length steps ≡ count + 1
  pub last : last_order steps ≡ Some order
  pub ordered : n.last ≡ Some order
  pub stands : waiting ≡ open_after steps
  pub commits : Commits is_up is_sound holds was keep (committed_by steps)
  pub has : committed ≡ has_committed steps
  pub stays : Stays is_up is_sound was keep

-- A MACHINE IS LEFT before its end. The store has the records of which it was told, and maybe the
-- one that it ordered last.
abbrev pub IsLeft : {S : Type 0} (is_up is_sound : S → Type 0) (holds : S → List Record → Type 0)
    → S → S → Machine → Machine → Type 0
IsLeft is_up is_sound holds was keep m n =
    (steps : List Step)
    × AreSteps m steps n
    × MayCommit is_up is_sound holds was keep (committed_by steps)

-- A MACHINE IS CONDUCTED for so many orders, and has one more, which is not done
abbrev pub HasTaken : {S : Type 0} (is_up is_sound : S → Type 0)
    (holds : S → List Record → Type 0) → S → S → Machine → Machine → Talk → Talk → Input → ℕ
    → Type 0
HasTaken is_up is_sound holds was keep m n x y first count =
    (waiting : Option Forward)
    × (order : Order)
    × (committed : Bool)
    × IsAt is_up is_sound holds was keep m n x y first waiting order committed count
