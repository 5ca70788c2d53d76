use Rattle.std.specs.Prelude.{◌≡◌, ◌⊎◌, ℕ, zero, suc, ◌+◌, Bool, true, false, List, [], ◌∷◌}
use Rattle.std.specs.Prelude.{◌++◌, ◌<◌, length, Option, Some, None, if◌then◌else◌}
use Rattle.dali_script.specs.declared.block.Block.{Block}
use Rattle.dali_script.specs.declared.records.Record.{Record}
use Rattle.dali_script.specs.declared.finding.Finding.{Finding}
use Rattle.dali_script.specs.declared.orders.End.TheVariants.{AllFound}
use Rattle.dali_script.specs.declared.orders.Input.{Input}
use Rattle.dali_script.specs.declared.orders.Input.TheVariants.{Start}
use Rattle.dali_script.specs.Records.{Kept, Assignment, without_records}
use Rattle.dali_script.specs.Stages.{in_block}
use Rattle.dali_reserve.specs.Store.{IsReplay}
use Rattle.dali_controller.specs.declared.shorts.Shorts.{Shorts}
use Rattle.dali_controller.specs.declared.tally.Tally.{Tally}
use Rattle.dali_controller.specs.Machine.{Machine, at_first}
use Rattle.dali_commissioning.specs.declared.conducting.Ended.{Ended}
use Rattle.dali_commissioning.specs.declared.conducting.Ended.TheVariants.{Done}
use Rattle.dali_commissioning.specs.declared.conducting.PassEnd.{PassEnd}
use Rattle.dali_commissioning.specs.declared.census.Reply.{Reply}
use Rattle.dali_commissioning.specs.declared.beginning.Begun.{Begun}
use Rattle.dali_commissioning.specs.declared.beginning.Begun.TheVariants as begun
use Rattle.dali_commissioning.specs.Drivers.{Talk}
use Rattle.dali_commissioning.specs.declared.beginning.Checked.{Checked}
use Rattle.dali_commissioning.specs.Census.{AreCounted, IsLost, is_addressed}
use Rattle.dali_commissioning.specs.Unaddressed.{asking, AreLeftOver, AreLostSo}
use Rattle.dali_commissioning.specs.Steps.{Step, first_told, last_order, committed_by}
use Rattle.dali_commissioning.specs.Steps.{has_committed}
use Rattle.dali_commissioning.specs.Conducted.{Conducted, Commits, Stays, order_of}

-- A RUN of a machine: the records that its store gave it, its steps, how it ended, under which
-- short addresses its survey heard gear that it does not know, the gear that it found last, how
-- often in a row its transaction was lost, and what its survey has counted.
pub record Run : Type 0 where
  pub start : Kept
  pub steps : List Step
  pub ended : Ended
  pub heard : Shorts
  pub found : Option Finding
  pub tries : ℕ
  pub tally : Tally

-- a run that begins so, from one moment of its store and of the talk with its driver to another
pub record IsRun {S : Type 0} (is_up is_sound : S → Type 0) (holds : S → List Record → Type 0)
    (block : Block) (first : Input) (was keep : S) (x y : Talk) (run : Run) : Type 0 where
  pub machine : Machine
  pub conducted : Conducted (at_first 0 run.start) machine run.steps x y
  pub begun : first_told run.steps ≡ Some first
  pub last : last_order run.steps ≡ Some (order_of run.ended)
  pub marks : run.heard ≡ machine.heard
  pub finds : run.found ≡ machine.finding
  pub tried : run.tries ≡ machine.tries
  pub counted : run.tally ≡ machine.course.tally
  pub read : is_sound was → is_up keep → (xs : List Record) → holds was xs
      → IsReplay block xs run.start
  pub commits : Commits is_up is_sound holds was keep (committed_by run.steps)
  pub stays : Stays is_up is_sound was keep

-- A RUN IS SPENT, from one moment of its store and of the talk with its driver to another. It began
-- so, with the records that its store gave it. It was told of just those records that its store
-- took, and by lines of its driver. It has done a million orders, and has one more.
pub record IsSpent {S : Type 0} (is_up is_sound : S → Type 0) (holds : S → List Record → Type 0)
    (block : Block) (first : Input) (was keep : S) (x y : Talk) : Type 0 where
  pub start : Kept
  pub steps : List Step
  pub machine : Machine
  pub conducted : Conducted (at_first 0 start) machine steps x y
  pub begun : first_told steps ≡ Some first
  pub counted : length steps ≡ 1000001
  pub read : is_sound was → is_up keep → (xs : List Record) → holds was xs
      → IsReplay block xs start
  pub commits : Commits is_up is_sound holds was keep (committed_by steps)

-- RUNS that each begin so, one after the other, last first
abbrev pub AreRuns : {S : Type 0} (is_up is_sound : S → Type 0)
    (holds : S → List Record → Type 0) → Block → Input → S → S → Talk → Talk → List Run → Type 0
AreRuns is_up is_sound holds block first was keep x y [] = (keep ≡ was) × (y ≡ x)
AreRuns {S = S} is_up is_sound holds block first was keep x y (run ∷ before) =
    (mid : S)
    × (at : Talk)
    × AreRuns is_up is_sound holds block first was mid x at before
    × IsRun is_up is_sound holds block first mid keep at y run

-- each run found no gear any more
abbrev pub AreAllFound : List Run → Type 0
AreAllFound [] = Unit {0}
AreAllFound (run ∷ before) = (run.ended ≡ Done AllFound) × AreAllFound before

-- the last run ended so, and each before it found no gear any more
abbrev pub EndWith : Ended → List Run → Type 0
EndWith ended [] = ⊥
EndWith ended (run ∷ before) = (run.ended ≡ ended) × AreAllFound before

-- the last run came to this
abbrev pub ComeTo : PassEnd → List Run → Type 0
ComeTo pass [] = ⊥
ComeTo pass (run ∷ before) =
    (run.heard ≡ pass.heard)
    × (run.found ≡ pass.found)
    × (run.tries ≡ pass.tries)
    × (run.tally ≡ pass.tally)
    × (pass.committed ≡ has_committed run.steps)

-- SO MANY RUNS, one after the other, and none of them found any gear more
abbrev pub HaveRun : {S : Type 0} (is_up is_sound : S → Type 0)
    (holds : S → List Record → Type 0) → Block → Input → S → S → Talk → Talk → ℕ → Type 0
HaveRun is_up is_sound holds block first was keep x y count =
    (runs : List Run)
    × AreRuns is_up is_sound holds block first was keep x y runs
    × AreAllFound runs
    × (length runs ≡ count)

-- a run is spent after runs that found no gear any more, fewer than so many
abbrev pub IsSpentBefore : {S : Type 0} (is_up is_sound : S → Type 0)
    (holds : S → List Record → Type 0) → Block → Input → S → S → Talk → Talk → ℕ → Type 0
IsSpentBefore {S = S} is_up is_sound holds block first was keep x y most =
    (runs : List Run)
    × (mid : S)
    × (at : Talk)
    × AreRuns is_up is_sound holds block first was mid x at runs
    × AreAllFound runs
    × (length runs < most)
    × IsSpent is_up is_sound holds block first mid keep at y

-- so many runs in a row, the last one among them, committed nothing
abbrev pub AreQuiet : ℕ → List Run → Type 0
AreQuiet zero runs = Unit {0}
AreQuiet (suc n) [] = ⊥
AreQuiet (suc n) (run ∷ before) = (committed_by run.steps ≡ []) × AreQuiet n before

abbrev pub quiet_after : ℕ → Bool → ℕ
quiet_after n true = 0
quiet_after n false = n + 1

-- a store has what it had, and maybe more
abbrev pub Grows : {S : Type 0} (is_up is_sound : S → Type 0) (holds : S → List Record → Type 0)
    → S → S → Type 0
Grows is_up is_sound holds old new =
    is_sound old → is_up new → (xs : List Record) → holds old xs
    → (more : List Record) × holds new (xs ++ more)

-- A store was read, and has what it had: these are its records.
pub record IsRead {S : Type 0} (is_up is_sound : S → Type 0) (holds : S → List Record → Type 0)
    (block : Block) (was keep : S) (k : Kept) : Type 0 where
  pub replay : is_sound was → is_up keep → (xs : List Record) → holds was xs → IsReplay block xs k
  pub same : is_sound was → is_up keep → (xs : List Record) → holds was xs → holds keep xs
  pub stays : Stays is_up is_sound was keep

-- WHAT CAME OF A BEGINNING, after a census of all 64 short addresses. If a gear answers to one
-- that no record names, nothing is begun: the questions are all that was put, and the store has
-- what it had. Else machines run, each of which begins with Start.
abbrev pub IsBegun : {S : Type 0} (is_up is_sound : S → Type 0)
    (holds : S → List Record → Type 0) → Block → List Block → ℕ → S → S → Talk → Talk → Begun
    → Type 0
IsBegun is_up is_sound holds block others wanted was keep x y (begun.Addressed replies) =
    (k : Kept)
    × IsRead is_up is_sound holds block was keep k
    × AreCounted k others 0 replies.items x y
    × (length replies.items ≡ 64)
    × (is_addressed replies.items ≡ true)
IsBegun {S = S} is_up is_sound holds block others wanted was keep x y
    (begun.Commissioned pass) =
    (k : Kept)
    × (mid : S)
    × (at : Talk)
    × (replies : List Reply)
    × (runs : List Run)
    × IsRead is_up is_sound holds block was mid k
    × AreCounted k others 0 replies x at
    × (length replies ≡ 64)
    × (is_addressed replies ≡ false)
    × AreRuns is_up is_sound holds block Start mid keep at y runs
    × EndWith pass.ended runs
    × ComeTo pass runs
    × (pass.ended ≡ Done AllFound → AreQuiet wanted runs)

-- WHAT A CHECK FOUND: all short addresses were asked, but those in the blocks of other controllers,
-- and then gear that have none. The store has what it had.
pub record IsChecked {S : Type 0} (is_up is_sound : S → Type 0) (holds : S → List Record → Type 0)
    (block : Block) (others : List Block) (was keep : S) (x y : Talk) (found : Checked)
    : Type 0 where
  pub read : IsRead is_up is_sound holds block was keep found.kept
  pub at : Talk
  pub counted : AreCounted (without_records block) others 0 found.replies.items x at
  pub all : length found.replies.items ≡ 64
  pub unaddressed : AreLeftOver asking found.has_unaddressed at y

-- a question of a check was given up
abbrev pub IsCheckLost : Block → List Block → Talk → Talk → Type 0
IsCheckLost block others x y =
    IsLost (without_records block) others x y
    ⊎ ((replies : List Reply)
    × (at : Talk)
    × AreCounted (without_records block) others 0 replies x at
    × (length replies ≡ 64)
    × AreLostSo asking at y)

-- the first reserved short address outside of a block
abbrev pub outside : Block → List Assignment → Option ℕ
outside block [] = None
outside block (pair ∷ more) =
    if in_block block pair.0 then outside block more else Some pair.0
