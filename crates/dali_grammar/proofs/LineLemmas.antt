use Rattle.std.proofs.Common.{◌≡◌, ◌≢◌, ℕ, zero, suc, ◌+◌, ◌<◌, true, false, List, [], ◌∷◌, length, get_or, take, drop, None, refl, arith, add-one, ◌==◌}
use Rattle.std.{proofs.lemmas.Bool.Decides.nat_tests, proofs.lemmas.List.Splits.length-slice_split, specs.List.count_by}
use Rattle.dali_grammar.specs.Lines.{lines_of, parts_of, none_of}

is_not : (b c : ℕ) → b ≢ c → (b == c) ≡ false
is_not b c ne = grind (arith, nat_tests)

is_same : (b c : ℕ) → b ≡ c → (b == c) ≡ true
is_same b c e = grind (arith, nat_tests)

-- the first line ends at the first line feed
lines_at_suc : (input : List ℕ) (n : ℕ) → n < length input → ((k : ℕ) → k < n → get_or input k 0 ≢ 10) → get_or input n 0 ≡ 10
    → lines_of input ≡ take n input ∷ lines_of (drop (suc n) input)
lines_at_suc [] n here before found = absurd (omega arith)
lines_at_suc (b ∷ bs) zero here before found = rw (is_same b 10 found) refl
lines_at_suc (b ∷ bs) (suc n) here before found =
    let first : b ≢ 10 = before 0 (omega arith) in
    let inside : n < length bs = omega arith in
    rw (is_not b 10 first, lines_at_suc bs n inside (λ k below. before (suc k) (omega arith)) found) refl

pub lines_at : (input : List ℕ) (n : ℕ) → n < length input → ((k : ℕ) → k < n → get_or input k 0 ≢ 10) → get_or input n 0 ≡ 10
    → lines_of input ≡ take n input ∷ lines_of (drop (n + 1) input)
lines_at input n here before found = rw add-one (lines_at_suc input n here before found)

-- if no line feed is left, the rest is the last line
pub lines_none : (input : List ℕ) → 0 < length input → ((k : ℕ) → k < length input → get_or input k 0 ≢ 10) → lines_of input ≡ input ∷ []
lines_none [] some before = absurd (omega arith)
lines_none (b ∷ []) some before = let first : b ≢ 10 = before 0 (omega arith) in rw (is_not b 10 first) refl
lines_none (b ∷ c ∷ bs) some before =
    let first : b ≢ 10 = before 0 (omega arith) in
    rw (is_not b 10 first, lines_none (c ∷ bs) (omega arith) (λ k below. before (suc k) (omega arith))) refl

-- the first part ends at the first mark
parts_at_suc : (mark : ℕ) (text : List ℕ) (n : ℕ) → n < length text → ((k : ℕ) → k < n → get_or text k 0 ≢ mark) → get_or text n 0 ≡ mark
    → parts_of mark text ≡ take n text ∷ parts_of mark (drop (suc n) text)
parts_at_suc mark [] n here before found = absurd (omega arith)
parts_at_suc mark (b ∷ bs) zero here before found = rw (is_same b mark found) refl
parts_at_suc mark (b ∷ bs) (suc n) here before found =
    let first : b ≢ mark = before 0 (omega arith) in
    let inside : n < length bs = omega arith in
    rw (is_not b mark first, parts_at_suc mark bs n inside (λ k below. before (suc k) (omega arith)) found) refl

pub parts_at : (mark : ℕ) (text : List ℕ) (n : ℕ) → n < length text → ((k : ℕ) → k < n → get_or text k 0 ≢ mark) → get_or text n 0 ≡ mark
    → parts_of mark text ≡ take n text ∷ parts_of mark (drop (n + 1) text)
parts_at mark text n here before found = rw add-one (parts_at_suc mark text n here before found)

-- if no mark is left, the text is one part
pub parts_none : (mark : ℕ) (text : List ℕ) → ((k : ℕ) → k < length text → get_or text k 0 ≢ mark) → parts_of mark text ≡ text ∷ []
parts_none mark [] before = refl
parts_none mark (b ∷ bs) before =
    let first : b ≢ mark = before 0 (omega arith) in
    rw (is_not b mark first, parts_none mark bs (λ k below. before (suc k) (omega arith))) refl

-- what stands behind a mark is a part at least, so none ends there
pub none_of_more : {A : Type 0} (a : A) (mark : ℕ) (text : List ℕ) → None ≡ none_of a (parts_of mark text)
none_of_more {A} a mark text = go (parts_of mark text) (length-slice_split (λ b. b == mark) text) where
  go : (parts : List (List ℕ)) → length parts ≡ count_by (λ b. b == mark) text + 1 → None ≡ none_of a parts
  go [] len = absurd (omega arith)
  go (part ∷ parts) len = refl
