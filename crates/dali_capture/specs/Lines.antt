use Rattle.std.specs.Prelude.{ℕ, List, [], ◌∷◌, Bool, true, false, ◌==◌, Option, Result, Ok, filter}
use Rattle.std.specs.List.{slice_split}
use Rattle.dali_capture.specs.declared.fault.Mistake.{Mistake}
use Rattle.dali_capture.specs.declared.item.Item.{Item}
use Rattle.dali_capture.specs.Results.{then_ok}
use Rattle.dali_capture.specs.Sources.{source_word, source_end}
use Rattle.dali_capture.specs.Captures.{SoFar, so_far_at_first, is_blank, word_told, line_end}
use Rattle.dali_capture.specs.Captures.{end_told}

-- A CAPTURE BY ITS LINES, each of which ends at its line feed, and by their words, which stand
-- between blanks
abbrev pub lines_of : List ℕ → List (List ℕ)
lines_of text = slice_split (λ b. b == 10) text

abbrev pub has_bytes : List ℕ → Bool
has_bytes [] = false
has_bytes (b ∷ bs) = true

abbrev pub words_of : List ℕ → List (List ℕ)
words_of line = filter has_bytes (slice_split is_blank line)

abbrev pub read_words : Option (List ℕ) → Bool → SoFar → List (List ℕ) → Result SoFar Mistake
read_words wanted inverted r [] = Ok r
read_words wanted inverted r (word ∷ words) =
    then_ok (word_told r (source_word r.source wanted inverted word))
    (λ next. read_words wanted inverted next words)

-- the last line lacks its line feed
abbrev pub read_lines : Option (List ℕ) → Bool → SoFar → List (List ℕ) → Result SoFar Mistake
read_lines wanted inverted r [] = Ok r
read_lines wanted inverted r (line ∷ []) = read_words wanted inverted r (words_of line)
read_lines wanted inverted r (line ∷ next ∷ lines) =
    then_ok (then_ok (read_words wanted inverted r (words_of line)) line_end)
    (λ n. read_lines wanted inverted n (next ∷ lines))

abbrev pub ended_by : SoFar → Result (List Item) Mistake
ended_by r = end_told r (source_end r.source)

abbrev pub capture_by_lines : Option (List ℕ) → Bool → List ℕ → Result (List Item) Mistake
capture_by_lines wanted inverted text =
    then_ok (read_lines wanted inverted so_far_at_first (lines_of text)) ended_by
