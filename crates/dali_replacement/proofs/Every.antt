use Rattle.std.proofs.Common.{◌≡◌, ◌≢◌, ℕ, ◌<◌, inl, inr, Bool, true, false, List, [], ◌∷◌, refl, subst, not, cond}
use Rattle.dali_script.specs.declared.records.Record.{Record}
use Rattle.dali_script.specs.declared.records.Record.TheVariants.{Reserve, Enrol, Release}
use Rattle.dali_script.specs.Records.{Kept, Assignment, IsKept, Has, HasAddress, HasRandom, is_pair, without_pair, with_record, Shows}
use Rattle.dali_script.proofs.Lists.{has_last, has_before, has_map, is_other}
use Rattle.dali_replacement.specs.Tables.{AreShort, HasAllBut, Keeps}

-- WHAT HOLDS OF EACH of a list with one more in front
pub each : {A : Type 0} (P : A → Type 0) (x : A) (xs : List A) → P x → ((y : A) → Has xs y → P y) → (y : A) → Has (x ∷ xs) y → P y
each P x xs first more y (inl same) = subst P same first
each P x xs first more y (inr has) = more y has

pub all_but_more : (a : ℕ) (p : Assignment) (ps : List Assignment) (k later : Kept) → (p.0 ≢ a → Has k.enrolled p) → Keeps k later
    → HasAllBut a ps later → HasAllBut a (p ∷ ps) later
all_but_more a p ps k later first keeps rest = each (λ q. q.0 ≢ a → Has later.enrolled q) p ps (λ other. keeps p (first other)) rest

are_short : (xs : List Assignment) → ((a : ℕ) → HasAddress xs a → a < 64) → AreShort xs
are_short [] below = tt
are_short (p ∷ xs) below = (below p.0 (inl refl), are_short xs (λ a has. below a (inr has)))

pub kept_are_short : (k : Kept) → IsKept k → AreShort k.enrolled
kept_are_short k kept = are_short k.enrolled kept.enrolled.short

pub has_its_address : (xs : List Assignment) (a r : ℕ) → Has xs (a, r) → HasAddress xs a
has_its_address xs a r has = has_map (λ p. p.0) xs (a, r) has

pub has_its_random : (xs : List Assignment) (a r : ℕ) → Has xs (a, r) → HasRandom xs r
has_its_random xs a r has = has_map (λ p. p.1) xs (a, r) has

-- WHAT RECORDS WITH ONE MORE SHOW
without_itself : (x : Assignment) (xs : List Assignment) → Has (without_pair x xs) x → ⊥
without_itself x [] h = h
without_itself x (z ∷ xs) h = go (is_pair x z) refl h (without_itself x xs) where
  go : (b : Bool) → is_pair x z ≡ b → Has (cond (not b) (z ∷ without_pair x xs) (without_pair x xs)) x → (Has (without_pair x xs) x → ⊥) → ⊥
  go true is k rest = rest k
  go false is (inl e) rest = is_other x z is e
  go false is (inr k) rest = rest k

pub added_shows : (k : Kept) (x : Record) → Shows (with_record k x) x
added_shows k (Reserve a r) = has_last k.reserved (a, r)
added_shows k (Enrol a r) = has_last k.enrolled (a, r)
added_shows k (Release a r) = without_itself (a, r) k.reserved

pub enrolled_has : (k : Kept) (a r : ℕ) → Has (with_record k (Enrol a r)).enrolled (a, r)
enrolled_has k a r = has_last k.enrolled (a, r)

pub enrolled_keeps : (k : Kept) (a r : ℕ) → Keeps k (with_record k (Enrol a r))
enrolled_keeps k a r p has = has_before k.enrolled (a, r) p has
