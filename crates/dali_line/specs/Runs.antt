use Rattle.std.specs.Prelude.{◌≡◌, ◌⊎◌, ℕ, List, [], ◌∷◌, ◌++◌, length, Option, None, Some}
use Rattle.std.specs.Prelude.{IfSome, MatchOption}
use Rattle.dali_script.specs.declared.block.Block.{Block}
use Rattle.dali_script.specs.declared.records.Record.{Record}
use Rattle.dali_script.specs.declared.orders.Input.{Input}
use Rattle.dali_script.specs.declared.orders.Order.{Order}
use Rattle.dali_script.specs.declared.orders.Order.TheVariants as order
use Rattle.dali_standing.specs.declared.refusal.Refusal.{Refusal}
use Rattle.dali_standing.specs.declared.refusal.Refusal.TheVariants as refusal
use Rattle.dali_enrol.specs.Directory.{Pass}
use Rattle.dali_line.specs.declared.outcome.Outcome.{Outcome}
use Rattle.dali_line.specs.declared.outcome.Outcome.TheVariants as outcome
use Rattle.dali_line.specs.Leaves.{Learns}
use Rattle.dali_line.specs.Shares.{PortShare}
use Rattle.dali_line.specs.Steps.{Step, last_order, due_then, IsDueFor, AreDue}
use Rattle.dali_line.specs.Steps.{TakesIn, TakeIn, told_at, first_of, told_of}
use Rattle.dali_line.specs.Posted.{StillStands, HasPosted, ArePosted, LearnsOf}
use Rattle.dali_line.specs.Facts.{Facts}
use Rattle.dali_line.specs.Ends.{end_of, end_when_refused, IsEnd, IsCount, IsLeft}

-- A TURN in which the controller did not act. Nothing was due for it, or what was due was gone when
-- it was to act. Or the record that was due is not the one that the run's last step ordered.
abbrev pub IsIdle : Facts → Option Order → PortShare → Type 0
IsIdle bus before p =
    (bus.untold p × bus.unordered p) ⊎ ((i : Input) × bus.refused p i refusal.NotDue)
    ⊎ ((r : Record) × bus.ordered p r × MatchOption before ⊥ (λ o. o ≡ order.Commit r → ⊥))

-- turns that were taken with a port one after the other, as its bus says of each; and the steps
-- among them
abbrev pub AreTaken : Facts → Option Order → PortShare → List (Option Step) → PortShare → Type 0
AreTaken bus before from [] to = to ≡ from
AreTaken bus before from (Some s ∷ ts) to =
    (next : PortShare) × bus.acted from s.input s.order next × bus.gives from s.input
    × AreTaken bus (Some s.order) next ts to
AreTaken bus before from (None ∷ ts) to = IsIdle bus before from × AreTaken bus before from ts to

abbrev pub steps_in : List (Option Step) → List Step
steps_in [] = []
steps_in (Some s ∷ ts) = s ∷ steps_in ts
steps_in (None ∷ ts) = steps_in ts

-- a record that is due: by the order before, or, if none came before, by what the bus answered
abbrev pub IsKnownDue : Facts → Option Order → PortShare → Option Record → Type 0
IsKnownDue bus before from due =
    IfSome due (λ r. MatchOption before (bus.ordered from r) (λ o. o ≡ order.Commit r))

-- WHAT A CONTROLLER IS GIVEN to act on, and what its store has taken in until then; and the record
-- that is to be posted once it was told.
pub record Gives {S : Type 0} (is_up is_sound : S → Type 0) (holds : S → List Record → Type 0)
    (block_of : S → Block) (bus : Facts) (before : Option Order) (from : PortShare)
    (old new : S) (i : Input) (kept : Option Record) : Type 0 where
  pub due : Option Record
  pub known : IsKnownDue bus before from due
  pub given : bus.gives from i
  pub commits : IsDueFor due i
  pub kept_is : kept ≡ first_of (told_at due i)
  pub list : is_sound old → is_up new → (xs : List Record) → holds old xs
      → (more : List Record) × TakesIn (block_of new) xs due i more × holds new (xs ++ more)

-- WHAT CAME OF GIVING IT. Either the controller acted, the record was posted, and the run ends as
-- the order says, or for want of memory. Or the controller was refused, and the run ends as the
-- refusal says.
abbrev pub Tells : Facts → Option Order → Option Order → PortShare → PortShare → Input → Pass → Pass
    → Option Record → Option Outcome → Type 0
Tells bus before after from to i was is kept end =
    ((o : Order) × bus.acted from i o to × (after ≡ Some o) × LearnsOf was is kept
    × StillStands was is
    × (((end ≡ end_of o) × HasPosted is kept) ⊎ (end ≡ Some outcome.NoMemory)))
    ⊎ ((e : Refusal) × bus.refused from i e × (to ≡ from) × (after ≡ before) × (is ≡ was)
    × (end ≡ end_when_refused e i) × (e ≡ refusal.QueueFull → bus.is_stopped))

-- A WORKER'S RUN of at most so many turns, with its store and its pass. It has the turns that were
-- taken with its port, how it ended, and what its store took in during these turns. The store took
-- in records that were due, each once and in the order of the steps that ordered them. What the
-- pass learned are enrolments of which the controller was told, and each of these is posted.
-- `before` is the order before the first turn, if that was a step of this run too; else it is None,
-- and the bus tells what was due.
pub record Runs {S : Type 0} (is_up is_sound : S → Type 0) (holds : S → List Record → Type 0)
    (block_of : S → Block) (bus : Facts) (before after : Option Order) (from to : PortShare)
    (old new : S) (was is : Pass) (most : ℕ) (end : Option Outcome) : Type 0 where
  pub due : Option Record
  pub known : IsKnownDue bus before from due
  pub turns : List (Option Step)
  pub taken : AreTaken bus before from turns to
  pub count : IsCount end (length turns) most
  pub last : after ≡ last_order before (steps_in turns)
  pub ends : IsEnd bus to end (steps_in turns)
  pub commits : AreDue due (steps_in turns)
  pub learned : Learns was is (told_of due (steps_in turns))
  pub still : StillStands was is
  pub posted : ArePosted end is (told_of due (steps_in turns))
  pub block : block_of new ≡ block_of old
  pub list : is_sound old → is_up new → (xs : List Record) → holds old xs
      → (more left : List Record) × TakeIn (block_of new) xs due (steps_in turns) more
      × IsLeft end (due_then due (steps_in turns)) left × holds new ((xs ++ more) ++ left)
