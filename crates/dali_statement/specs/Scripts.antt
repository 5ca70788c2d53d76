use Rattle.std.specs.Prelude.{List, [], ◌∷◌}
use Rattle.dali_frame.specs.declared.frames.Answer.{Answer}
use Rattle.dali_frame.specs.declared.frames.Answer.TheVariants as answer
use Rattle.dali_special.specs.Command.{command_of}
use Rattle.dali_script.specs.declared.trace.Entry.{Entry}
use Rattle.dali_statement.specs.Page.{Command, Heard, Byte, Nothing}
use Rattle.dali_statement.specs.Gear.{command_seen}

-- TRANSACTIONS AS THE PAGE SEES THEM: the traces of `dali_script`.

abbrev pub heard_seen : Answer → Heard
heard_seen answer.Silence = Nothing
heard_seen (answer.Byte v) = Byte v
heard_seen answer.Damaged = Nothing

abbrev pub entry_seen : Entry → Command × Heard
entry_seen e = (command_seen (command_of e.frame), heard_seen e.heard)

-- what a transaction has said after a trace, the newest first, if it has said this before
abbrev pub said_on : List (Command × Heard) → List Entry → List (Command × Heard)
said_on said [] = said
said_on said (e ∷ t) = said_on (entry_seen e ∷ said) t

abbrev pub said_of : List Entry → List (Command × Heard)
said_of t = said_on [] t
