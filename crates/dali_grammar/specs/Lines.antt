use Rattle.std.specs.Prelude.{ℕ, ◌+◌, List, [], ◌∷◌, Bool, true, Option, Some, None, ◌==◌}
use Rattle.std.specs.Prelude.{if◌then◌else◌, option_map, option_and_then}
use Rattle.std.specs.List.{onto_first, slice_split}

-- The lines of an input: each ends at its line feed, which the last line may lack.
abbrev pub lines_of : List ℕ → List (List ℕ)
lines_of [] = []
lines_of (b ∷ bs) = if b == 10 then [] ∷ lines_of bs else onto_first b (lines_of bs)

-- an empty line and a comment are skipped
abbrev pub is_skipped : List ℕ → Bool
is_skipped [] = true
is_skipped (b ∷ bs) = b == 35

-- the lines that are not skipped, each with its number, where the first of the lines is line n
abbrev pub numbered_from : ℕ → List (List ℕ) → List (ℕ × List ℕ)
numbered_from n [] = []
numbered_from n (line ∷ lines) =
    if is_skipped line then numbered_from (n + 1) lines else (n, line) ∷ numbered_from (n + 1) lines

-- the same of the rest of an input of which some lines were read
abbrev pub numbered_after : ℕ → List ℕ → List (ℕ × List ℕ)
numbered_after read rest = numbered_from (read + 1) (lines_of rest)

-- The parts of a text stand between single marks: two in a row make an empty part.
abbrev pub parts_of : ℕ → List ℕ → List (List ℕ)
parts_of mark text = slice_split (λ b. b == mark) text

-- the parts of what follows a mark, if anything does
abbrev pub parts_after : ℕ → Option (List ℕ) → List (List ℕ)
parts_after mark None = []
parts_after mark (Some rest) = parts_of mark rest

-- The words of a line stand between single spaces: no form accepts an empty word.
abbrev pub words_of : List ℕ → List (List ℕ)
words_of line = parts_of 32 line

-- Parts that are read from left to right: none; one, which is read so; or two.
abbrev pub none_of : {A : Type 0} → A → List (List ℕ) → Option A
none_of a [] = Some a
none_of a (part ∷ parts) = None

abbrev pub one_of : {A : Type 0} → (List ℕ → Option A) → List (List ℕ) → Option A
one_of reads [] = None
one_of reads (part ∷ parts) = option_and_then (λ a. none_of a parts) (reads part)

abbrev pub two_of : {A B : Type 0} → (List ℕ → Option A) → (List ℕ → Option B) → List (List ℕ)
    → Option (A × B)
two_of reads next [] = None
two_of reads next (part ∷ parts) =
    option_and_then (λ a. option_map (λ b. (a, b)) (one_of next parts)) (reads part)
