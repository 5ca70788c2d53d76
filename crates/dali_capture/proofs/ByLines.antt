use Rattle.std.proofs.Common.{◌≡◌, ℕ, Bool, true, false, List, [], ◌∷◌, ◌++◌, Option, Result, Ok, Err, refl, sym, ap, append_assoc, append-nil, filter, ◌==◌}
use Rattle.std.specs.List.{onto_first, slice_split}
use Rattle.dali_capture.specs.Captures.{SoFar, so_far_at_first, is_blank, word_told, word_end, line_told, line_end, read_bytes, read_end, capture_of}
use Rattle.dali_capture.specs.Lines.{lines_of, has_bytes, words_of, read_words, read_lines, ended_by, capture_by_lines}
use Rattle.dali_capture.specs.{Results.then_ok, Sources.source_word, Sources.source_line_end}
use Rattle.dali_capture.specs.declared.{fault.Mistake.Mistake, fault.Reason.Reason, item.Item.Item, source.Source.Source}

-- a word that has begun, before the first of some parts
abbrev onto : List ℕ → List (List ℕ) → List (List ℕ)
onto word [] = word ∷ []
onto word (part ∷ parts) = (word ++ part) ∷ parts

abbrev words_with : List ℕ → List ℕ → List (List ℕ)
words_with word line = filter has_bytes (onto word (slice_split is_blank line))

onto_none : (parts : List (List ℕ)) → filter has_bytes (onto [] parts) ≡ filter has_bytes parts
onto_none [] = refl
onto_none (part ∷ parts) = refl

onto_more : (word : List ℕ) (b : ℕ) (parts : List (List ℕ)) → onto word (onto_first b parts) ≡ onto (word ++ (b ∷ [])) parts
onto_more word b [] = refl
onto_more word b (part ∷ parts) = simp append_assoc

-- there is a first line
record Split (parts : List (List ℕ)) : Type 0 where
  first : List ℕ
  more : List (List ℕ)
  is : parts ≡ first ∷ more

split_onto : (b : ℕ) (parts : List (List ℕ)) → Split (onto_first b parts)
split_onto b [] = record { first = b ∷ []; more = []; is = refl }
split_onto b (part ∷ parts) = record { first = b ∷ part; more = parts; is = refl }

split : (text : List ℕ) → Split (lines_of text)
split [] = record { first = []; more = []; is = refl }
split (b ∷ bs) = go (b == 10) refl where
  go : (t : Bool) → (b == 10) ≡ t → Split (lines_of (b ∷ bs))
  go true h = record { first = []; more = lines_of bs; is = rw h refl }
  go false h = rw h (split_onto b (lines_of bs))

then_all : {A B E : Type 0} (x : Result A E) (f : A → Result B E) → then_ok (then_ok x (λ a. Ok a)) f ≡ then_ok x f
then_all (Ok a) f = refl
then_all (Err e) f = refl

joined_of : {A B C D E : Type 0} (x : Result A E) (f : A → Result B E) (g : B → Result C E) (k : C → Result D E)
    → then_ok (then_ok (then_ok x f) g) k ≡ then_ok x (λ a. then_ok (then_ok (f a) g) k)
joined_of (Ok a) f g k = refl
joined_of (Err e) f g k = refl

-- nothing of a word has begun
abbrev bare : SoFar → SoFar
bare r = record r { word = [] }

bare_is : (r : SoFar) → r.word ≡ [] → bare r ≡ r
bare_is r h = ap (λ w. record r { word = w }) (sym h)

abbrev IsBare : Result SoFar Mistake → Type 0
IsBare (Ok r) = r.word ≡ []
IsBare (Err e) = Unit {0}

word_told_bare : (r : SoFar) (told : Result (Source × Option Item) Reason) → IsBare (word_told r told)
word_told_bare r (Ok told) = refl
word_told_bare r (Err reason) = tt

line_told_bare : (r : SoFar) (told : Result Source Reason) → r.word ≡ [] → IsBare (line_told r told)
line_told_bare r (Ok source) h = h
line_told_bare r (Err reason) h = tt

bare_line : (x : Result SoFar Mistake) → IsBare x → IsBare (then_ok x line_end)
bare_line (Ok r) h = line_told_bare r (source_line_end r.source) h
bare_line (Err e) h = tt

module _ (wanted : Option (List ℕ)) (inverted : Bool) where
  -- a capture from here on, whose first line has a word that has begun
  abbrev read_on : SoFar → List (List ℕ) → Result SoFar Mistake
  read_on r [] = Ok r
  read_on r (line ∷ []) = read_words wanted inverted (bare r) (words_with r.word line)
  read_on r (line ∷ next ∷ lines) =
      then_ok (then_ok (read_words wanted inverted (bare r) (words_with r.word line)) line_end)
      (λ n. read_lines wanted inverted n (next ∷ lines))

  word_end_bare : (source : Source) (line : ℕ) (word : List ℕ) (items : List Item)
      → IsBare (word_end wanted inverted (record { source = source; line = line; word = word; items = items }))
  word_end_bare source line [] items = refl
  word_end_bare source line (c ∷ cs) items =
      word_told_bare (record { source = source; line = line; word = c ∷ cs; items = items }) (source_word source wanted inverted (c ∷ cs))

  -- the word that has begun, and the words behind it
  word_first : (source : Source) (line : ℕ) (word : List ℕ) (items : List Item) (parts : List (List ℕ))
      → read_words wanted inverted (record { source = source; line = line; word = []; items = items }) (filter has_bytes ((word ++ []) ∷ parts))
      ≡ then_ok (word_end wanted inverted (record { source = source; line = line; word = word; items = items }))
      (λ next. read_words wanted inverted next (filter has_bytes parts))
  word_first source line [] items parts = refl
  word_first source line (c ∷ cs) items parts = told (source_word source wanted inverted (c ∷ cs)) refl where
    told : (x : Result (Source × Option Item) Reason) → source_word source wanted inverted (c ∷ cs) ≡ x
        → read_words wanted inverted (record { source = source; line = line; word = []; items = items })
        (filter has_bytes (((c ∷ cs) ++ []) ∷ parts))
        ≡ then_ok (word_end wanted inverted (record { source = source; line = line; word = c ∷ cs; items = items }))
        (λ next. read_words wanted inverted next (filter has_bytes parts))
    told (Ok t) h = rw (append-nil cs, h) refl
    told (Err e) h = rw (append-nil cs, h) refl

  -- if no word has begun, a line is its words
  on_bare : (r : SoFar) (lines : List (List ℕ)) → r.word ≡ [] → read_on r lines ≡ read_lines wanted inverted r lines
  on_bare r [] h = refl
  on_bare r (line ∷ []) h =
      let same = bare_is r h in
      rw (h, onto_none (slice_split is_blank line), same) refl
  on_bare r (line ∷ next ∷ lines) h =
      let same = bare_is r h in
      rw (h, onto_none (slice_split is_blank line), same) refl

  -- the argument for the bytes behind the first one
  abbrev IsRead : List ℕ → Type 0
  IsRead bytes = (r : SoFar) → then_ok (read_bytes wanted inverted r bytes) (read_end wanted inverted)
      ≡ then_ok (read_on r (lines_of bytes)) ended_by

  behind : (bytes : List ℕ) → IsRead bytes → (x : Result SoFar Mistake) → IsBare x → (lines : List (List ℕ)) → lines_of bytes ≡ lines
      → then_ok (then_ok x (λ n. read_bytes wanted inverted n bytes)) (read_end wanted inverted)
      ≡ then_ok (then_ok x (λ n. read_lines wanted inverted n lines)) ended_by
  behind bytes ih (Ok r) b lines e =
      let first = ih r in
      let second = rw e at first in
      let third = on_bare r lines b in
      rw third at second
  behind bytes ih (Err e) b lines is = refl

  after_feed : (b : ℕ) (bytes : List ℕ) → IsRead bytes → (r : SoFar) → (b == 10) ≡ true → Split (lines_of bytes)
      → then_ok (read_bytes wanted inverted r (b ∷ bytes)) (read_end wanted inverted) ≡ then_ok (read_on r (lines_of (b ∷ bytes))) ended_by
  after_feed b bytes ih r h s =
      let next = behind bytes ih (then_ok (word_end wanted inverted r) line_end)
      (bare_line (word_end wanted inverted r) (word_end_bare r.source r.line r.word r.items)) (s.first ∷ s.more) s.is in
      let is = s.is in
      rw (h, is, word_first r.source r.line r.word r.items [], then_all (word_end wanted inverted r) line_end) next

  after_blank : (b : ℕ) (bytes : List ℕ) → IsRead bytes → (r : SoFar) → (b == 10) ≡ false → is_blank b ≡ true
      → (first : List ℕ) (more : List (List ℕ)) → lines_of bytes ≡ first ∷ more
      → then_ok (read_bytes wanted inverted r (b ∷ bytes)) (read_end wanted inverted) ≡ then_ok (read_on r (lines_of (b ∷ bytes))) ended_by
  after_blank b bytes ih r h blank first [] is =
      rw (h, blank, is, blank, word_first r.source r.line r.word r.items (slice_split is_blank first))
      (behind bytes ih (word_end wanted inverted r) (word_end_bare r.source r.line r.word r.items) (first ∷ []) is)
  after_blank b bytes ih r h blank first (line ∷ lines) is =
      let joined = joined_of (word_end wanted inverted r) (λ n. read_words wanted inverted n (words_of first)) line_end
      (λ n. read_lines wanted inverted n (line ∷ lines)) in
      rw (h, blank, is, blank, word_first r.source r.line r.word r.items (slice_split is_blank first), joined)
      (behind bytes ih (word_end wanted inverted r) (word_end_bare r.source r.line r.word r.items) (first ∷ line ∷ lines) is)

  in_word : (b : ℕ) (bytes : List ℕ) → IsRead bytes → (r : SoFar) → (b == 10) ≡ false → is_blank b ≡ false
      → (first : List ℕ) (more : List (List ℕ)) → lines_of bytes ≡ first ∷ more
      → then_ok (read_bytes wanted inverted r (b ∷ bytes)) (read_end wanted inverted) ≡ then_ok (read_on r (lines_of (b ∷ bytes))) ended_by
  in_word b bytes ih r h inside first [] is =
      let next = ih (record r { word = r.word ++ (b ∷ []) }) in
      let last = rw is at next in
      rw (h, inside, is, inside, onto_more r.word b (slice_split is_blank first)) last
  in_word b bytes ih r h inside first (line ∷ lines) is =
      let next = ih (record r { word = r.word ++ (b ∷ []) }) in
      let last = rw is at next in
      rw (h, inside, is, inside, onto_more r.word b (slice_split is_blank first)) last

  by_parts : (bytes : List ℕ) → IsRead bytes
  by_parts [] r = rw (word_first r.source r.line r.word r.items []) (sym (then_all (word_end wanted inverted r) ended_by))
  by_parts (b ∷ bs) r =
      let ih : IsRead bs = λ n. by_parts bs n in
      let s = split bs in
      elim (b == 10) as (λ t. (b == 10) ≡ t → then_ok (read_bytes wanted inverted r (b ∷ bs)) (read_end wanted inverted)
      ≡ then_ok (read_on r (lines_of (b ∷ bs))) ended_by) [
        | true ↦ λ h. after_feed b bs ih r h s
        | false ↦ λ h. elim (is_blank b) as (λ t. is_blank b ≡ t → then_ok (read_bytes wanted inverted r (b ∷ bs)) (read_end wanted inverted)
            ≡ then_ok (read_on r (lines_of (b ∷ bs))) ended_by) [
              | true ↦ λ blank. after_blank b bs ih r h blank s.first s.more s.is
              | false ↦ λ inside. in_word b bs ih r h inside s.first s.more s.is
            ] refl
      ] refl

pub by_lines : (wanted : Option (List ℕ)) (inverted : Bool) (text : List ℕ)
    → capture_of wanted inverted text ≡ capture_by_lines wanted inverted text
by_lines wanted inverted text =
    let whole = by_parts wanted inverted text so_far_at_first in
    let same = on_bare wanted inverted so_far_at_first (lines_of text) refl in
    rw same at whole
