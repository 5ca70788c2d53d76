use Rattle.std.proofs.Common.{◌≡◌, ℕ, ◌+◌, ◌-◌, ◌<◌, ◌≤◌, subst, Bool, true, false, List, Option, Some, None, refl, sym, ap, ◌∙◌, arith, ◌↔◌, ◌==◌, IsSome}
use Rattle.std.proofs.Common.{IfSome, MatchOption, is_some, not, ◌&&◌, ◌||◌, zero, suc, slice_index_or, if◌then◌else◌}
use Rattle.dali_script.{specs.Records.{Assignment, Kept, Has, HasAddress, InBlock, Marks}, proofs.Lists.has_map}
use Rattle.dali_controller.specs.{Course.{number_at, is_asked, asked_among, is_open, open_among, least_open, is_another, is_anothers}, Shorts.has_short}
use Rattle.dali_controller.{specs.declared.shorts.Shorts.Shorts, proofs.Courses.found_number}

-- WHAT A SURVEY ASKS AND GIVES, one short address after the other.

-- a mark tells whether some pair has the short address
pub mark_is : (xs : List Assignment) (marks : List Bool) (a : ℕ) → Marks xs marks → a < 64 → slice_index_or marks a false ≡ is_some (number_at xs a)
mark_is xs marks a m small = go (slice_index_or marks a false) refl (number_at xs a) (found_number xs a) where
  go : (b : Bool) → slice_index_or marks a false ≡ b → (o : Option ℕ) → MatchOption o (HasAddress xs a → ⊥) (λ r. Has xs (a, r)) → b ≡ is_some o
  go true is None none = absurd (none ((m.marked a small).0 is))
  go true is (Some r) there = refl
  go false is None none = refl
  go false is (Some r) there = sym is ∙ (m.marked a small).1 (has_map (λ (q : Assignment). q.0) xs (a, r) there)

-- the mark at a place that is the short address
pub mark_at : (marks : List Bool) (i a : ℕ) (b : Bool) → i ≡ a → slice_index_or marks i false ≡ b → slice_index_or marks a false ≡ b
mark_at marks i a b same e = subst (λ x. slice_index_or marks x false ≡ b) same e

-- ---------------------------------------------------------------- what is asked

pub asked_by : (k : Kept) (reserved enrolled : List Bool) (a : ℕ) → Marks k.reserved reserved → Marks k.enrolled enrolled → a < 64
    → is_asked k a ≡ (not (slice_index_or enrolled a false) || slice_index_or reserved a false)
asked_by k reserved enrolled a are_reserved are_enrolled small =
    ap (λ b. not b || is_some (number_at k.reserved a)) (sym (mark_is k.enrolled enrolled a are_enrolled small))
    ∙ ap (λ b. not (slice_index_or enrolled a false) || b) (sym (mark_is k.reserved reserved a are_reserved small))

pub asked_more : (k : Kept) (a : ℕ) → a < 64 → asked_among k (64 - a) a ≡ (if is_asked k a then Some a else asked_among k (64 - (a + 1)) (a + 1))
asked_more k a small = let more : 64 - a ≡ suc (64 - (a + 1)) = omega arith in ap (λ n. asked_among k n a) more

-- ---------------------------------------------------------------- what is open

pub open_by : (k : Kept) (heard : Shorts) (reserved enrolled : List Bool) (a : ℕ) → Marks k.reserved reserved → Marks k.enrolled enrolled → a < 64
    → is_open k heard a ≡ (not (slice_index_or reserved a false) && not (slice_index_or enrolled a false) && not (has_short heard a))
open_by k heard reserved enrolled a are_reserved are_enrolled small =
    ap (λ b. not b && not (is_some (number_at k.enrolled a)) && not (has_short heard a)) (sym (mark_is k.reserved reserved a are_reserved small))
    ∙ ap (λ b. not (slice_index_or reserved a false) && not b && not (has_short heard a)) (sym (mark_is k.enrolled enrolled a are_enrolled small))

pub open_tested : (k : Kept) (heard : Shorts) (reserved enrolled : List Bool) (a : ℕ) (one two three : Bool) → Marks k.reserved reserved
    → Marks k.enrolled enrolled → a < 64 → slice_index_or reserved a false ≡ one → slice_index_or enrolled a false ≡ two → has_short heard a ≡ three
    → is_open k heard a ≡ (not one && not two && not three)
open_tested k heard reserved enrolled a one two three are_reserved are_enrolled small is_reserved is_enrolled is_heard =
    open_by k heard reserved enrolled a are_reserved are_enrolled small
    ∙ ap (λ b. not b && not (slice_index_or enrolled a false) && not (has_short heard a)) is_reserved
    ∙ ap (λ b. not one && not b && not (has_short heard a)) is_enrolled ∙ ap (λ b. not one && not two && not b) is_heard

pub open_more : (k : Kept) (heard : Shorts) (a last : ℕ) → a < last + 1
    → open_among k heard (last + 1 - a) a ≡ (if is_open k heard a then Some a else open_among k heard (last + 1 - (a + 1)) (a + 1))
open_more k heard a last small = let more : last + 1 - a ≡ suc (last + 1 - (a + 1)) = omega arith in ap (λ n. open_among k heard n a) more

-- ---------------------------------------------------------------- what is another's

pub anothers_none : (k : Kept) (heard : Shorts) (a r : ℕ) → None ≡ number_at k.enrolled a → is_anothers k heard a r ≡ has_short heard a
anothers_none k heard a r is = ap (λ o. has_short heard a || is_another r o) (sym is) ∙ or_false (has_short heard a) where
  or_false : (b : Bool) → (b || false) ≡ b
  or_false true = refl
  or_false false = refl

pub anothers_some : (k : Kept) (heard : Shorts) (a r n : ℕ) → Some n ≡ number_at k.enrolled a → is_anothers k heard a r ≡ (has_short heard a || not (n == r))
anothers_some k heard a r n is = ap (λ o. has_short heard a || is_another r o) (sym is)

-- ---------------------------------------------------------------- what the least open one is

pub open_among_is : (k : Kept) (heard : Shorts) (n from a : ℕ) → open_among k heard n from ≡ Some a → (from ≤ a) × (a < from + n) × (is_open k heard a ≡ true)
open_among_is k heard zero from a e = absurd (cc)
open_among_is k heard (suc n) from a e = go (is_open k heard from) refl e (open_among_is k heard n (from + 1) a) where
  go : (b : Bool) → is_open k heard from ≡ b → (if b then Some from else open_among k heard n (from + 1)) ≡ Some a
      → (open_among k heard n (from + 1) ≡ Some a → (from + 1 ≤ a) × (a < from + 1 + n) × (is_open k heard a ≡ true))
      → (from ≤ a) × (a < from + suc n) × (is_open k heard a ≡ true)
  go true is e later =
      let same : from ≡ a = cc in (omega (arith, same), omega (arith, same), subst (λ x. is_open k heard x ≡ true) same is)
  go false is e later = let rest = later e in (omega (arith, rest.0), omega (arith, rest.1), rest.2)

pub least_open_is : (k : Kept) (heard : Shorts) (a : ℕ) → least_open k heard ≡ Some a → InBlock k.block a × (is_open k heard a ≡ true)
least_open_is k heard a e =
    let x = open_among_is k heard (k.block.last + 1 - k.block.first) k.block.first a e in
    ((x.0, omega (arith, x.0, x.1)), x.2)

pub open_unreserved : (k : Kept) (heard : Shorts) (a : ℕ) → is_open k heard a ≡ true → HasAddress k.reserved a → ⊥
open_unreserved k heard a e has = go (number_at k.reserved a) (found_number k.reserved a) e where
  go : (o : Option ℕ) → MatchOption o (HasAddress k.reserved a → ⊥) (λ r. Has k.reserved (a, r))
      → (not (is_some o) && not (is_some (number_at k.enrolled a)) && not (has_short heard a)) ≡ true → ⊥
  go None none e = none has
  go (Some r) there e = cc

-- a short address of a number below 64
pub short_some : (o : Option ℕ) (n : ℕ) → IsSome o ↔ (n < 64) → IfSome o (λ s. s ≡ n) → n < 64 → o ≡ Some n
short_some None n range value small = absurd (let some : false ≡ true = range.1 small in cc)
short_some (Some s) n range value small = ap Some value
