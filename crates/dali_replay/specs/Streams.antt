use Rattle.std.specs.Prelude.{ℕ, List, Option, Result, Ok, Err}
use Rattle.dali_grammar.specs.declared.reason.Explained.{Explained}
use Rattle.dali_grammar.specs.Reason.{Gives}
use Rattle.dali_grammar.specs.Setting.{setting_of}
use Rattle.dali_replay.specs.declared.form.Form.{Form}
use Rattle.dali_replay.specs.Replay.{Tells}

-- WHAT A RUN OVER A READER SAYS whose fault comes with a reason. It says what `Tells` says, and
-- that a reason is given of a bad line and of a refused plan.
abbrev pub Explains : Form → List ℕ → Option (List ℕ) → Option (List ℕ)
    → Result (Unit {0}) Explained → Type 0
Explains form input old new (Ok x) = Tells form (setting_of input) old new (Ok x)
Explains form input old new (Err e) =
    Tells {A = Unit {0}} form (setting_of input) old new (Err e.fault)
    × Gives e.fault e.reason
