use Rattle.std.specs.Prelude.{◌≡◌, ℕ, ◌-◌, List, take, slice_get, Option, Some, IsSome, IsNone}
use Rattle.std.specs.Prelude.{option_map, option_and_then}
use Rattle.dali_grammar.specs.declared.fault.ReplayFault.{ReplayFault}
use Rattle.dali_grammar.specs.declared.fault.ReplayFault.TheVariants.{BadLine, BadPlan, Memory}
use Rattle.dali_grammar.specs.declared.fault.ReplayFault.TheVariants.{Read, Write}
use Rattle.dali_grammar.specs.declared.reason.excerpt.Excerpt.{Excerpt}
use Rattle.dali_grammar.specs.declared.reason.quote.Quote.{Quote}
use Rattle.dali_grammar.specs.Lines.{parts_of, words_of}

-- A REASON IS GIVEN of each bad line and each refused plan, and of no other fault.
abbrev pub Gives : {A : Type 0} → ReplayFault → Option A → Type 0
Gives (BadLine n) reason = IsSome reason
Gives (BadPlan e) reason = IsSome reason
Gives Memory reason = IsNone reason
Gives Read reason = IsNone reason
Gives Write reason = IsNone reason

-- ---------------------------------------------------------------- words that are named

-- The word of a script at a place: lines stand between line feeds, and lines and words are counted
-- from 1.
abbrev pub word_at : List ℕ → ℕ → ℕ → Option (List ℕ)
word_at input line word =
    option_and_then (λ text. slice_get (words_of text) (word - 1))
    (slice_get (parts_of 10 input) (line - 1))

-- what is shown of a word: its first bytes
abbrev pub shown : Excerpt → List ℕ
shown e = take e.len e.bytes

-- what is quoted stands there: at most 24 bytes of the word are shown
abbrev pub Quotes : List ℕ → Quote → Type 0
Quotes input q = option_map (take 24) (word_at input q.line q.word) ≡ Some (shown q.excerpt)

-- of a bad line, a word of that line
abbrev pub IsOfLine : ReplayFault → Quote → Type 0
IsOfLine (BadLine n) q = q.line ≡ n
IsOfLine (BadPlan e) q = Unit {0}
IsOfLine Memory q = Unit {0}
IsOfLine Read q = Unit {0}
IsOfLine Write q = Unit {0}
