use Rattle.std.specs.Prelude.{◌≡◌, ℕ, ◌+◌, ◌-◌, ◌<◌, ◌^◌, min, length, List, [], ◌∷◌, ◌++◌, Bool}
use Rattle.std.specs.Prelude.{◌==◌, ◌&&◌, ◌||◌}
use Rattle.std.specs.Prelude.{nat_le, Option, Result, Ok, Err, if◌then◌else◌, option_to_list}
use Rattle.dali_capture.specs.declared.fault.Reason.{Reason}
use Rattle.dali_capture.specs.declared.fault.Mistake.{Mistake}
use Rattle.dali_capture.specs.declared.fault.CaptureFault.{CaptureFault}
use Rattle.dali_capture.specs.declared.fault.CaptureFault.TheVariants.{Bad, Memory, Read, TooLong}
use Rattle.dali_capture.specs.declared.item.Item.{Item}
use Rattle.dali_capture.specs.declared.source.Source.{Source}
use Rattle.dali_capture.specs.declared.source.Source.TheVariants.{Unknown}
use Rattle.dali_capture.specs.Results.{then_ok}
use Rattle.dali_capture.specs.Sources.{source_word, source_line_end, source_end}

-- WHAT WAS READ so far: in which line the capture stands, the bytes of the word that has begun, and
-- the items
pub record SoFar : Type 0 where
  pub source : Source
  pub line : ℕ
  pub word : List ℕ
  pub items : List Item

abbrev pub so_far_at_first : SoFar
so_far_at_first = record { source = Unknown; line = 1; word = []; items = [] }

-- words stand between blanks: spaces, tabs, and the ends of lines and pages
abbrev pub is_blank : ℕ → Bool
is_blank b = b == 32 || (nat_le 9 b && nat_le b 13)

-- a word has ended, and what it tells is joined
abbrev pub word_told : SoFar → Result (Source × Option Item) Reason → Result SoFar Mistake
word_told r (Ok told) = Ok (record {
  source = told.0;
  line = r.line;
  word = [];
  items = r.items ++ option_to_list told.1;
})
word_told r (Err reason) = Err (record { line = r.line; reason = reason })

abbrev pub word_end_at : List ℕ → Option (List ℕ) → Bool → SoFar → Result SoFar Mistake
word_end_at [] wanted inverted r = Ok r
word_end_at (c ∷ cs) wanted inverted r =
    word_told r (source_word r.source wanted inverted (c ∷ cs))

abbrev pub word_end : Option (List ℕ) → Bool → SoFar → Result SoFar Mistake
word_end wanted inverted r = word_end_at r.word wanted inverted r

-- a line has ended; lines are counted as far as 64 bits go
abbrev pub line_told : SoFar → Result Source Reason → Result SoFar Mistake
line_told r (Ok source) = Ok (record r { source = source; line = min (r.line + 1) (2 ^ 64 - 1) })
line_told r (Err reason) = Err (record { line = r.line; reason = reason })

abbrev pub line_end : SoFar → Result SoFar Mistake
line_end r = line_told r (source_line_end r.source)

-- BYTE BY BYTE
abbrev pub read_byte : Option (List ℕ) → Bool → SoFar → ℕ → Result SoFar Mistake
read_byte wanted inverted r b =
    if b == 10 then then_ok (word_end wanted inverted r) line_end
    else if is_blank b then word_end wanted inverted r
    else Ok (record r { word = r.word ++ b ∷ [] })

abbrev pub read_bytes : Option (List ℕ) → Bool → SoFar → List ℕ → Result SoFar Mistake
read_bytes wanted inverted r [] = Ok r
read_bytes wanted inverted r (b ∷ bs) =
    then_ok (read_byte wanted inverted r b) (λ next. read_bytes wanted inverted next bs)

-- the last word and line end with the capture
abbrev pub end_told : SoFar → Result (Option Item) Reason → Result (List Item) Mistake
end_told r (Ok told) = Ok (r.items ++ option_to_list told)
end_told r (Err reason) = Err (record { line = r.line; reason = reason })

abbrev pub read_end : Option (List ℕ) → Bool → SoFar → Result (List Item) Mistake
read_end wanted inverted r =
    then_ok (word_end wanted inverted r) (λ last. end_told last (source_end last.source))

abbrev pub capture_of : Option (List ℕ) → Bool → List ℕ → Result (List Item) Mistake
capture_of wanted inverted text =
    then_ok (read_bytes wanted inverted so_far_at_first text) (read_end wanted inverted)

-- WHY A CAPTURE IS NOT READ: its first mistake, or it is too long; of what the system refuses
-- nothing is known
abbrev pub IsFaultOf : Result (List Item) Mistake → List ℕ → CaptureFault → Type 0
IsFaultOf wanted text (Bad mistake) = wanted ≡ Err mistake
IsFaultOf wanted text Memory = Unit {0}
IsFaultOf wanted text Read = Unit {0}
IsFaultOf wanted text TooLong = 67108864 < length text

-- the same amid a capture, of bytes that are in hand
abbrev pub IsFaultAmid : {A : Type 0} → Result A Mistake → CaptureFault → Type 0
IsFaultAmid wanted (Bad mistake) = wanted ≡ Err mistake
IsFaultAmid wanted Memory = Unit {0}
IsFaultAmid wanted Read = ⊥
IsFaultAmid wanted TooLong = ⊥

abbrev pub Reads : Result SoFar Mistake → SoFar → Result (Unit {0}) CaptureFault → Type 0
Reads wanted new (Ok done) = wanted ≡ Ok new
Reads wanted new (Err fault) = IsFaultAmid wanted fault
