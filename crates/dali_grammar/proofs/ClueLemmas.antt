use Rattle.std.proofs.Common.{◌≡◌, ℕ, suc, ◌<◌, ◌+◌, Bool, true, false, ◌||◌, List, [], ◌∷◌, ◌++◌, length, take, drop, get_or, refl, sym, ap, ◌∙◌, subst}
use Rattle.std.proofs.{Common.add-one, Math.Bool.or-true, Math.Seq.drop-cons, lemmas.List.take_more, lemmas.List.take-append-drop}
use Rattle.std.{proofs.lemmas.List.Folds.list_any-append, specs.List.list_any}
use Rattle.dali_events.specs.Plan.{any_pair}

neither_left : (a b : Bool) → (a || b) ≡ false → a ≡ false
neither_left true b is = cc
neither_left false b is = refl

neither_right : (a b : Bool) → (a || b) ≡ false → b ≡ false
neither_right true b is = cc
neither_right false b is = is

-- One item more makes no pair with those before it, or it makes one.
none_more : {A : Type 0} (test : A → A → Bool) (xs : List A) (x : A) → any_pair test xs ≡ false → list_any (λ y. test y x) xs ≡ false
    → any_pair test (xs ++ x ∷ []) ≡ false
none_more test [] x none apart = refl
none_more test (y ∷ xs) x none apart =
    rw (
      list_any-append (test y) xs (x ∷ []),
      neither_left (list_any (test y) xs) (any_pair test xs) none,
      neither_left (test y x) (list_any (λ z. test z x) xs) apart,
    )
    (none_more test xs x (neither_right (list_any (test y) xs) (any_pair test xs) none)
    (neither_right (test y x) (list_any (λ z. test z x) xs) apart))

pair_there : {A : Type 0} (test : A → A → Bool) (xs : List A) (x : A) (ys : List A) → list_any (λ y. test y x) xs ≡ true
    → any_pair test (xs ++ x ∷ ys) ≡ true
pair_there test [] x ys there = absurd (cc)
pair_there test (y ∷ xs) x ys there = go (test y x) refl there (pair_there test xs x ys)
  where
    go : (b : Bool) → test y x ≡ b → (b || list_any (λ z. test z x) xs) ≡ true
        → (list_any (λ z. test z x) xs ≡ true → any_pair test (xs ++ x ∷ ys) ≡ true) → any_pair test (y ∷ xs ++ x ∷ ys) ≡ true
    go true is any more = rw (list_any-append (test y) xs (x ∷ ys), is, or-true (list_any (test y) xs)) refl
    go false is any more = rw (more any) (or-true (list_any (test y) (xs ++ x ∷ ys)))

-- the same of a place in a list
pub none_next : {A : Type 0} (test : A → A → Bool) (xs : List A) (i : ℕ) (d : A) → i < length xs → any_pair test (take i xs) ≡ false
    → list_any (λ y. test y (get_or xs i d)) (take i xs) ≡ false → any_pair test (take (i + 1) xs) ≡ false
none_next test xs i d inside none apart = rw (take_more xs i d inside) (none_more test (take i xs) (get_or xs i d) none apart)

pub pair_at : {A : Type 0} (test : A → A → Bool) (xs : List A) (i : ℕ) (d : A) → i < length xs
    → list_any (λ y. test y (get_or xs i d)) (take i xs) ≡ true → any_pair test xs ≡ true
pair_at test xs i d inside there =
    let parts : take i xs ++ get_or xs i d ∷ drop (suc i) xs ≡ xs =
    ap (λ r. take i xs ++ r) (sym (drop-cons xs i d inside)) ∙ take-append-drop i xs in
    subst (λ ys. any_pair test ys ≡ true) parts (pair_there test (take i xs) (get_or xs i d) (drop (suc i) xs) there)

-- The item at a place does not pass, so one behind it does, or none.
pub any_next : {A : Type 0} (test : A → Bool) (xs : List A) (i : ℕ) (d : A) (b : Bool) → i < length xs → list_any test (drop i xs) ≡ b
    → test (get_or xs i d) ≡ false → list_any test (drop (i + 1) xs) ≡ b
any_next test xs i d b inside any passes_not = rw add-one (rw (drop-cons xs i d inside, passes_not) at any)
