use Rattle.std.specs.Prelude.{◌≡◌, ℕ, Bool, true, false, Option, Some, None, option_and_then}
use Rattle.dali_grammar.specs.declared.fault.ReplayFault.{ReplayFault}
use Rattle.dali_grammar.specs.declared.fault.ReplayFault.TheVariants.{BadLine, BadPlan, Memory}
use Rattle.dali_grammar.specs.declared.fault.ReplayFault.TheVariants.{Read, Write}
use Rattle.dali_grammar.specs.declared.reason.Explained.{Explained}
use Rattle.dali_grammar.specs.declared.reason.quote.Quote.{Quote}
use Rattle.dali_replay.specs.declared.form.Form.{Form}
use Rattle.dali_replay.specs.declared.form.Form.TheVariants.{Text, Json}

-- The statuses of these calls that no program has or that a page relies on.
abbrev pub DONE : ℕ
DONE = 0

abbrev pub NO_ROOM : ℕ
NO_ROOM = 4

-- what is to be written: texts, or JSON
abbrev pub form_of : Bool → Form
form_of true = Json
form_of false = Text

-- the word of which something is said
abbrev pub word_of : Explained → Option Quote
word_of e = option_and_then (λ reason. reason.word) e.reason

-- the line of a fault of which no word is named
abbrev pub line_of : ReplayFault → ℕ
line_of (BadLine n) = n
line_of (BadPlan e) = 0
line_of Memory = 0
line_of Read = 0
line_of Write = 0

-- where that word stands, 0 if nowhere
abbrev pub place_of : ReplayFault → Option Quote → ℕ × ℕ
place_of fault None = (line_of fault, 0)
place_of fault (Some quote) = (quote.line, quote.word)

-- WHERE A FAULT STANDS in a script: line and word
abbrev pub StandsAt : Explained → ℕ → ℕ → Type 0
StandsAt e line word = (line, word) ≡ place_of e.fault (word_of e)
