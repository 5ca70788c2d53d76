use Rattle.std.specs.Prelude.{◌≡◌, ℕ, List, Option, Result, Ok, Err}
use Rattle.std.specs.Io.KnownBytes.{Appends, Keeps}
use Rattle.dali_grammar.specs.declared.fault.ReplayFault.{ReplayFault}
use Rattle.dali_grammar.specs.declared.fault.ReplayFault.TheVariants.{BadLine, BadPlan, Memory}
use Rattle.dali_grammar.specs.declared.fault.ReplayFault.TheVariants.{Read, Write}
use Rattle.dali_grammar.specs.declared.reason.Explained.{Explained}
use Rattle.dali_grammar.specs.Reason.{Gives}
use Rattle.dali_grammar.specs.Setting.{setting_of}
use Rattle.dali_replay.specs.declared.played.Played.{Played}
use Rattle.dali_replay.specs.Played.{IsPlayedBy, StopsBy}
use Rattle.dali_story.specs.Story.{story_of}

-- the story of a script was written, as it was played
abbrev pub IsTold : List ℕ → Option (List ℕ) → Option (List ℕ) → Type 0
IsTold input old new =
    (x : Played) × IsPlayedBy (setting_of input) x × (x.input.now ≡ input)
    × Appends old new (story_of x)

-- WHY NO STORY IS TOLD, with nothing written but if the output cannot be written
abbrev pub TellsNot : List ℕ → Option (List ℕ) → Option (List ℕ) → ReplayFault → Type 0
TellsNot input old new (BadLine n) = StopsBy (setting_of input) (BadLine n) × Keeps old new
TellsNot input old new (BadPlan e) = StopsBy (setting_of input) (BadPlan e) × Keeps old new
TellsNot input old new Memory = Keeps old new
TellsNot input old new Read = Keeps old new
TellsNot input old new Write = Unit {0}

-- WHAT A RUN OVER A READER SAYS: a bad line and a refused plan come with a reason, and no other
-- fault does.
abbrev pub Tells : List ℕ → Option (List ℕ) → Option (List ℕ) → Result (Unit {0}) Explained
    → Type 0
Tells input old new (Ok x) = IsTold input old new
Tells input old new (Err e) = TellsNot input old new e.fault × Gives e.fault e.reason
