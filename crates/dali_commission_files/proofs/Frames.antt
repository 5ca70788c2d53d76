use Rattle.std.proofs.Common.{◌≡◌, ◌≢◌, inl, inr, refl, sym, ◌∙◌, subst, ℕ, ◌<◌, ◌≤◌, ◌+◌, ◌/◌, ◌↔◌}
use Rattle.std.proofs.Common.{Bool, true, false, List, length, drop, IsTrue, arith, below_more, nat_eq, take, length-drop}
use Rattle.std.proofs.Math.Seq.{take-length}
use Rattle.std.proofs.lemmas.Bool.{cases_lt}
use Rattle.std.specs.Prelude.{not, slice_range}
use Rattle.sqlite_wal.specs.Format.{be32, commit_size, page_number, count_page}
use Rattle.dali_commission_files.specs.Logs.{begins_log, head_of, IsSigned, IsOf, frame_at, Holds, EndsBetween, BeginsAt}
use Rattle.dali_commission_files.specs.Logs.{BeginsBehind, IsBroken, IsDamaged}

module _ (head : List ℕ) (size : ℕ) (frames : List ℕ) (from : ℕ) where
  ended_more : (i : ℕ) → EndsBetween head size frames from i → EndsBetween head size frames from (i + 1)
  ended_more i (k, low, up, of, ends) = (k, low, omega arith, of, ends)

  none_more : (i : ℕ) → (EndsBetween head size frames from i → ⊥)
      → (IsOf head (frame_at size frames i) → commit_size (frame_at size frames i) ≢ 0 → ⊥)
      → EndsBetween head size frames from (i + 1) → ⊥
  none_more i none here (k, low, up, of, ends) =
      below_more (λ k. from ≤ k → IsOf head (frame_at size frames k) → commit_size (frame_at size frames k) ≢ 0 → ⊥) i
      (λ k up low of ends. none (k, low, up, of, ends)) (λ low of ends. here of ends) k up low of ends

  not_begun_more : (i : ℕ) → (BeginsBehind head size frames from i → ⊥) → (BeginsAt head size frames from i → ⊥)
      → BeginsBehind head size frames from (i + 1) → ⊥
  not_begun_more i none here (k, up, at) =
      below_more (λ k. BeginsAt head size frames from k → ⊥) i (λ k up at. none (k, up, at)) here k up at

  -- what is known of the frames before the one at i
  abbrev pub Known : Bool → ℕ → Type 0
  Known is_ended n =
      (is_ended ≡ true → EndsBetween head size frames from n) × (is_ended ≡ false → EndsBetween head size frames from n → ⊥)
      × (BeginsBehind head size frames from n → ⊥)

  pub passed : (i : ℕ) (was is : Bool) → is ≡ was → Known was i → (IsOf head (frame_at size frames i) → ⊥) → Known is (i + 1)
  passed i was is e known not_of = (
    (λ so. ended_more i (known.0 (sym e ∙ so))),
    (λ so. none_more i (known.1 (sym e ∙ so)) (λ of ends. not_of of)),
    not_begun_more i known.2 (λ at. not_of at.0),
  )

  pub met : (i : ℕ) (is : Bool) → Known false i → from ≤ i → IsOf head (frame_at size frames i)
      → (is ≡ true → commit_size (frame_at size frames i) ≢ 0) → (is ≡ false → commit_size (frame_at size frames i) ≡ 0)
      → (from < i → page_number (frame_at size frames i) ≡ count_page → ⊥) → Known is (i + 1)
  met i is known low of ends goes_on none = (
    (λ so. (i, low, omega arith, of, ends so)),
    (λ so. none_more i (known.1 refl) (λ _ differs. differs (goes_on so))),
    not_begun_more i known.2 (λ at. elim (at.1) [ inl here ↦ none here.0 here.1 | inr between ↦ known.1 refl between ]),
  )

-- what the numbers of a frame say
pub commits : (f g : List ℕ) → f ≡ g → (r : ℕ) (b : Bool) → r ≡ be32 f 4 → b ≡ not (nat_eq r 0)
    → (b ≡ true → commit_size g ≢ 0) × (b ≡ false → commit_size g ≡ 0)
commits f g e r b s t = ((λ so none. grind arith), (λ so. grind arith))

pub uncounted : (f g : List ℕ) → f ≡ g → (r : ℕ) (b : Bool) → r ≡ be32 f 0 → b ≡ nat_eq r count_page → b ≡ false
    → page_number g ≡ count_page → ⊥
uncounted f g e r b s t so page = grind arith

-- from a frame on that does not hold, with all before it held, as from any that does not
module _ (head : List ℕ) (size : ℕ) (frames : List ℕ) where
  after_from : (from j : ℕ) → BeginsAt head size frames from j → from < j
  after_from from j (of, inl here) = here.0
  after_from from j (of, inr (i, low, up, is, ends)) = omega arith

  earlier : (from k j : ℕ) → from ≤ k → BeginsAt head size frames k j → BeginsAt head size frames from j
  earlier from k j le (of, inl here) = let lt : k < j = here.0 in (of, inl (omega arith, here.1))
  earlier from k j le (of, inr (i, low, up, is, ends)) = (of, inr (i, omega arith, up, is, ends))

  first_torn : (from k : ℕ) → ((i : ℕ) → i < from → Holds head size frames i) → (Holds head size frames k → ⊥) → from ≤ k
  first_torn from k holds torn = elim (cases_lt k from) [ inl lt ↦ absurd (torn (holds k lt)) | inr le ↦ le ]

  pub broken : (from : ℕ) (r : Bool) → ((i : ℕ) → i < from → Holds head size frames i)
      → (from < length frames / size → Holds head size frames from → ⊥)
      → (IsTrue r ↔ BeginsBehind head size frames from (length frames / size)) → IsTrue r ↔ IsBroken head size frames
  broken from r holds torn says = (
    (λ so. let (j, up, at) = says.0 so in
        let lt : from < j = after_from from j at in let below : from < length frames / size = omega arith in (from, below, torn below, (j, up, at))),
    (λ (k, below, differs, (j, up, at)). says.1 (j, up, earlier from k j (first_torn from k holds differs) at)),
  )

-- a header that SQLite reads
pub damaged : (log head frames : List ℕ) (size : ℕ) (r : Bool) → 32 ≤ length log → head ≡ head_of log
    → frames ≡ slice_range log 32 (length log) → size ≡ be32 head 8 → begins_log log ≡ true → IsSigned head → size ≤ 65536
    → (IsTrue r ↔ IsBroken head (24 + size) frames) → IsTrue r ↔ IsDamaged log
damaged log head frames size r long he fe se begins signed small says =
    let all : frames ≡ drop 32 log = fe ∙ subst (λ n. take n (drop 32 log) ≡ drop 32 log) (length-drop 32 log) (take-length (drop 32 log)) in
    let at : IsTrue r ↔ IsBroken (head_of log) (24 + be32 (head_of log) 8) (drop 32 log) =
    subst (λ h. IsTrue r ↔ IsBroken h (24 + be32 h 8) (drop 32 log)) he (subst (λ f. IsTrue r ↔ IsBroken head (24 + be32 head 8) f) all
    (subst (λ n. IsTrue r ↔ IsBroken head (24 + n) frames) se says)) in
    let sig : IsSigned (head_of log) = subst (λ h. IsSigned h) he signed in
    let low : be32 (head_of log) 8 ≤ 65536 = subst (λ h. be32 h 8 ≤ 65536) he (subst (λ n. n ≤ 65536) se small) in (
      (λ so. (long, inl ((begins, sig, low), at.0 so))),
      (λ is. elim (is.1) [ inl both ↦ at.1 both.1 | inr neither ↦ absurd (neither.0 (begins, sig, low)) ]),
    )
