use Rattle.std.specs.Prelude.{◌≡◌, ◌+◌, ◌≤◌, true, List, [], ◌∷◌, ◌++◌, Option, Some, None}
use Rattle.std.specs.Prelude.{Ok, Err}
use Rattle.dali_port.specs.declared.orders.Word.{Word}
use Rattle.dali_port.specs.State.{Port}
use Rattle.dali_port.specs.Calls.{Answered}
use Rattle.dali_port.specs.Laws.{is_sending}
use Rattle.dali_port.specs.Runs.{Call, after, told_by, time_of}
use Rattle.dali_port.specs.Stretches.{IsWhole}
use Rattle.dali_bus_laws.specs.Table.{Table}
use Rattle.dali_bus_laws.specs.Breaks.{IsDestroyed}

-- THE WORD OF A FRAME: the first one that a port tells, by its calls since the frame began
abbrev pub word_of : Answered → Option Word
word_of (Ok event) = event.word
word_of (Err refusal) = None

abbrev pub or_next : Option Word → Option Word → Option Word
or_next (Some word) next = Some word
or_next None next = next

abbrev pub first_word : Port → List Call → Option Word
first_word p [] = None
first_word p (c ∷ calls) = or_next (word_of (told_by p c)) (first_word (after p c) calls)

-- while it sends, its host calls it in time
abbrev pub IsCalled : Table → Port → List Call → Type 0
IsCalled t p [] = Unit {0}
IsCalled t p (c ∷ calls) =
    (is_sending p.phase ≡ true → time_of c ≤ p.called + t.stall) × IsCalled t (after p c) calls

-- the first of these calls are those of a frame that was sent whole, or that was destroyed
abbrev pub IsSentWhole : Port → List Call → Type 0
IsSentWhole p calls =
    (some : List Call) × (more : List Call) × (calls ≡ some ++ more) × IsWhole p some

abbrev pub IsBrokenOff : Table → Port → List Call → Type 0
IsBrokenOff t p calls =
    (some : List Call) × (more : List Call) × (calls ≡ some ++ more) × IsDestroyed t p some
