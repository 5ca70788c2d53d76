use Rattle.std.proofs.Common.{◌≡◌, ℕ, ◌+◌, ◌<◌, Bool, Some, List, [], ◌∷◌, zero, suc, arith, ap, sym, ◌∙◌, subst, length, take, drop}
use Rattle.std.proofs.{Math.ListN.set, Math.Seq.take-length, lemmas.List.length-set}
use Rattle.dali_c.specs.{Codes.bool_of, Levels.AreLevels}

-- ONE LEVEL MORE is written.
one_more : (codes : List ℕ) (levels : List Bool) (at code : ℕ) (low : Bool) (rest : List Bool) → at < length codes
    → AreLevels (take at codes) (take at levels) → drop at levels ≡ low ∷ rest → bool_of code ≡ Some low
    → AreLevels (take (suc at) (set codes at code)) (take (suc at) levels) × (drop (suc at) levels ≡ rest)
one_more [] levels at code low rest inside are next is = absurd (omega arith)
one_more (c ∷ codes) [] zero code low rest inside are next is = absurd (cc)
one_more (c ∷ codes) [] (suc at) code low rest inside are next is = absurd (cc)
one_more (c ∷ codes) (l ∷ levels) zero code low rest inside are next is = (cc, cc)
one_more (c ∷ codes) (l ∷ levels) (suc at) code low rest inside are next is =
    let more = one_more codes levels at code low rest (omega arith) (cc) next is in
    let first : bool_of c ≡ Some l = cc in
    (cc, more.1)

pub written : (codes after : List ℕ) (levels left rest : List Bool) (at code : ℕ) (low : Bool) → after ≡ set codes at code
    → length codes ≡ 40 → at < 40 → AreLevels (take at codes) (take at levels) → left ≡ drop at levels → left ≡ low ∷ rest → bool_of code ≡ Some low
    → (length after ≡ 40) × AreLevels (take (at + 1) after) (take (at + 1) levels) × (rest ≡ drop (at + 1) levels)
written codes after levels left rest at code low is long inside are now next spelled =
    let one : suc at ≡ at + 1 = omega arith in
    let more = one_more codes levels at code low rest (subst (λ n. at < n) (sym long) inside) are (sym now ∙ next) spelled in
    let all : AreLevels (take (at + 1) after) (take (at + 1) levels) =
    subst (λ n. AreLevels (take n after) (take n levels)) one (subst (λ x. AreLevels (take (suc at) x) (take (suc at) levels)) (sym is) more.0) in
    (ap length is ∙ length-set codes at code ∙ long, all, subst (λ n. rest ≡ drop n levels) one (sym more.1))

-- Where all are written, they are the levels.
pub all_written : (codes : List ℕ) (levels : List Bool) (at : ℕ) → length codes ≡ at → length levels ≡ at
    → AreLevels (take at codes) (take at levels) → AreLevels codes levels
all_written codes levels at one other are =
    let first : take at codes ≡ codes = subst (λ n. take n codes ≡ codes) one (take-length codes) in
    let second : take at levels ≡ levels = subst (λ n. take n levels ≡ levels) other (take-length levels) in
    subst (λ x. AreLevels x levels) first (subst (λ y. AreLevels (take at codes) y) second are)

-- Before that there is a next one.
pub there_is : (levels : List Bool) (at : ℕ) → at < length levels → drop at levels ≡ [] → ⊥
there_is [] at inside none = absurd (omega arith)
there_is (l ∷ levels) zero inside none = absurd (cc)
there_is (l ∷ levels) (suc at) inside none = there_is levels at (omega arith) none
