use Rattle.std.proofs.Common.{◌≡◌, ◌≢◌, ℕ, ◌+◌, ◌<◌, ◌⊎◌, inl, inr, Bool, true, false, List, ◌∷◌, sym, ap, subst, ◌∙◌, length, get_or, set, length-set}
use Rattle.std.proofs.{Common.get_or-set_same, Common.get_or-set_other, Common.drop, lemmas.Bool.cases_eq, lemmas.List.drop_more}
use Rattle.dali_script.specs.Records.{Assignment, Has, HasRandom}

-- WHICH PAIRS MAY BE UNMATCHED, while these are still to be looked at.
pub record Matching (xs rest ys : List Assignment) (marks : List Bool) : Type 0 where
  pub all : length marks ≡ 64
  pub told : (a r : ℕ) → Has xs (a, r) → (get_or marks a false ≡ true) ⊎ (HasRandom ys r ⊎ Has rest (a, r))

-- the next pair is matched
pub matching_one : (xs ys : List Assignment) (i : ℕ) (p : Assignment) (marks : List Bool) → i < length xs → p ≡ get_or xs i p → HasRandom ys p.1
    → Matching xs (drop i xs) ys marks → Matching xs (drop (i + 1) xs) ys marks
matching_one xs ys i p marks inside is there m = record { all = m.all; told = λ a r h. go a r (m.told a r h) } where
  this : (a r : ℕ) → Has (get_or xs i p ∷ drop (i + 1) xs) (a, r) → HasRandom ys r ⊎ Has (drop (i + 1) xs) (a, r)
  this a r (inl e) = inl (subst (λ (q : Assignment). HasRandom ys q.1) (is ∙ e) there)
  this a r (inr h) = inr h

  go : (a r : ℕ) → (get_or marks a false ≡ true) ⊎ (HasRandom ys r ⊎ Has (drop i xs) (a, r))
      → (get_or marks a false ≡ true) ⊎ (HasRandom ys r ⊎ Has (drop (i + 1) xs) (a, r))
  go a r (inl marked) = inl marked
  go a r (inr (inl found)) = inr (inl found)
  go a r (inr (inr later)) = inr (this a r (subst (λ zs. Has zs (a, r)) (drop_more xs i p inside) later))

-- its address is marked
pub matching_marked : (xs ys : List Assignment) (i : ℕ) (p : Assignment) (marks : List Bool) → i < length xs → p ≡ get_or xs i p → p.0 < 64
    → Matching xs (drop i xs) ys marks → Matching xs (drop (i + 1) xs) ys (set marks p.0 true)
matching_marked xs ys i p marks inside is small m = record {
  all = length-set marks p.0 true ∙ m.all;
  told = λ a r h. go a r (cases_eq a p.0) (m.told a r h);
} where
  there : p.0 < length marks
  there = rw m.all small

  this : (a r : ℕ) → (a ≢ p.0) → Has (get_or xs i p ∷ drop (i + 1) xs) (a, r) → Has (drop (i + 1) xs) (a, r)
  this a r not_it (inl e) = absurd (not_it (sym (ap (λ (q : Assignment). q.0) (is ∙ e))))
  this a r not_it (inr h) = h

  go : (a r : ℕ) → (a ≡ p.0) ⊎ (a ≢ p.0) → (get_or marks a false ≡ true) ⊎ (HasRandom ys r ⊎ Has (drop i xs) (a, r))
      → (get_or (set marks p.0 true) a false ≡ true) ⊎ (HasRandom ys r ⊎ Has (drop (i + 1) xs) (a, r))
  go a r (inl same) before = inl (ap (λ b. get_or (set marks p.0 true) b false) same ∙ get_or-set_same marks p.0 true false there)
  go a r (inr not_it) (inl marked) = inl (get_or-set_other marks p.0 a true false not_it ∙ marked)
  go a r (inr not_it) (inr (inl found)) = inr (inl found)
  go a r (inr not_it) (inr (inr later)) = inr (inr (this a r not_it (subst (λ zs. Has zs (a, r)) (drop_more xs i p inside) later)))
