use Rattle.std.specs.Prelude.{◌≡◌, ◌⊎◌, ℕ, false, List, [], ◌∷◌, ◌++◌, length}
use Rattle.std.specs.Io.KnownBytes.{Appends}
use Rattle.dali_script.specs.declared.block.Block.{Block}
use Rattle.dali_script.specs.declared.orders.Input.TheVariants.{Start}
use Rattle.dali_script.specs.declared.records.Record.{Record}
use Rattle.dali_script.specs.Records.{Kept}
use Rattle.dali_reserve.specs.Store.{IsReplay}
use Rattle.dali_statement.specs.Own.{Own, Act, Puts, Loses, Begins, Keeps, AreOwn}
use Rattle.dali_commissioning.specs.declared.fault.CommissionFault.{CommissionFault}
use Rattle.dali_commissioning.specs.declared.fault.CommissionFault.TheVariants.{QuestionLost}
use Rattle.dali_commissioning.specs.declared.census.Reply.{Reply}
use Rattle.dali_commissioning.specs.Acts.{records_of, sender_of, HasWritten, RunsLeaveRules}
use Rattle.dali_commissioning.specs.Census.{AreCounted, IsLost, is_addressed}
use Rattle.dali_commissioning.specs.Conducted.{Commits, Stays}
use Rattle.dali_commissioning.specs.Done.{PutsFrame, AreDone}
use Rattle.dali_commissioning.specs.Drivers.{Talk}
use Rattle.dali_commissioning.specs.Runs.{IsRead}

-- WHAT IS ASKED KEEPS THE RULES, whoever asks and whatever its records are: none is kept.
pub record AsksByRules (x y : Talk) : Type 0 where
  pub acts : List Act
  pub done : AreDone acts x y
  pub none : records_of acts ≡ []
  pub own : (v : Own) → AreOwn v acts

-- WHAT IS PUT KEEPS THE RULES, by the records of a store, from one moment of it to another: those
-- that it had when the sender began, and those that the sender has kept since.
pub record PutsByRules {S : Type 0} (is_up is_sound : S → Type 0)
    (holds : S → List Record → Type 0) (block : Block) (was keep : S) (x y : Talk)
    : Type 0 where
  pub acts : List Act
  pub done : AreDone acts x y
  pub stays : Stays is_up is_sound was keep
  pub commits : Commits is_up is_sound holds was keep (records_of acts)
  pub own : is_sound was → is_up keep → (xs : List Record) → holds was xs
      → (k : Kept) × IsReplay block xs k × AreOwn (sender_of k) acts

-- ---------------------------------------------------------------- if it is left before its end

-- what may have been written for an act that is not done: nothing, its line, or a part of that
abbrev pub IsTextOf : List Act → List ℕ → Type 0
IsTextOf (Loses f ∷ []) text = PutsFrame f text
IsTextOf _ text = text ≡ []

abbrev pub IsBegun : CommissionFault → List Act → Talk → Talk → Type 0
IsBegun reason last x y =
    Appends x.written y.written []
    ⊎ ((text : List ℕ) × IsTextOf last text × HasWritten reason x y text)

-- WHAT WAS PUT BEFORE A FAULT KEEPS THE RULES, and so does the last act, which is not done.
pub record LeavesByRules {S : Type 0} (is_up is_sound : S → Type 0)
    (holds : S → List Record → Type 0) (block : Block) (reason : CommissionFault) (was keep : S)
    (x y : Talk) : Type 0 where
  pub acts : List Act
  pub last : List Act
  pub at : Talk
  pub done : AreDone acts x at
  pub begun : IsBegun reason last at y
  pub stays : Stays is_up is_sound was keep
  pub commits : is_sound was → is_up keep → (xs : List Record) → holds was xs
      → (more : List Record) × ((more ≡ []) ⊎ (more ≡ records_of last))
      × holds keep (xs ++ (records_of acts ++ more))
  pub own : is_sound was → is_up keep → (xs : List Record) → holds was xs
      → (k : Kept) → IsReplay block xs k → AreOwn (sender_of k) (acts ++ last)

-- WHAT WAS PUT BY A BEGINNING that came to no end: nothing, if the records could not be read; a
-- part of the census; or all of it, and what machines put then
abbrev pub LeavesBegun : {S : Type 0} (is_up is_sound : S → Type 0)
    (holds : S → List Record → Type 0) → Block → List Block → CommissionFault → S → S → Talk → Talk
    → Type 0
LeavesBegun {S = S} is_up is_sound holds block others reason was keep x y =
    (y ≡ x)
    ⊎ (((k : Kept) × IsRead is_up is_sound holds block was keep k
    × (reason ≡ QuestionLost → IsLost k others x y))
    ⊎ ((k : Kept)
    × (mid : S)
    × (at : Talk)
    × (replies : List Reply)
    × IsRead is_up is_sound holds block was mid k
    × AreCounted k others 0 replies x at
    × (length replies ≡ 64)
    × (is_addressed replies ≡ false)
    × RunsLeaveRules is_up is_sound holds block Start reason mid keep at y))
