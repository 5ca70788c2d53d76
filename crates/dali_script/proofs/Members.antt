use Rattle.std.proofs.Common.{◌≡◌, ℕ, ◌<◌, ◌⊎◌, inl, inr, Bool, true, false, List, [], ◌∷◌, ◌++◌, refl, sym, ap, subst, ◌∙◌, arith, length, length-set, map}
use Rattle.std.proofs.Common.{get_or, set, get_or-set_same, get_or-set_other, nat_eq}
use Rattle.std.proofs.lemmas.{Bool.Decides.nat_tests, List.get_or-map, List.length-map}
use Rattle.dali_script.{specs.Records.Has, specs.Records.IsOnce, proofs.Lists.has_map}

-- MEMBERS OF A LIST
pub has_left : {A : Type 0} (xs ys : List A) (x : A) → Has xs x → Has (xs ++ ys) x
has_left [] ys x h = elim h [ ]
has_left (y ∷ xs) ys x (inl e) = inl e
has_left (y ∷ xs) ys x (inr h) = inr (has_left xs ys x h)

pub has_right : {A : Type 0} (xs ys : List A) (x : A) → Has ys x → Has (xs ++ ys) x
has_right [] ys x h = h
has_right (y ∷ xs) ys x h = inr (has_right xs ys x h)

pub has_either : {A : Type 0} (xs ys : List A) (x : A) → Has (xs ++ ys) x → Has xs x ⊎ Has ys x
has_either [] ys x h = inr h
has_either (y ∷ xs) ys x (inl e) = inl (inl e)
has_either (y ∷ xs) ys x (inr h) = go (has_either xs ys x h) where
  go : Has xs x ⊎ Has ys x → Has (y ∷ xs) x ⊎ Has ys x
  go (inl k) = inl (inr k)
  go (inr k) = inr k

pub mapped_from : {A B : Type 0} (f : A → B) (xs : List A) (y : B) → Has (map f xs) y → (x : A) × Has xs x × (f x ≡ y)
mapped_from f [] y h = elim h [ ]
mapped_from f (x ∷ xs) y (inl e) = (x, inl refl, e)
mapped_from f (x ∷ xs) y (inr h) = let k = mapped_from f xs y h in (k.0, inr k.1, k.2)

-- VALUES THAT STAND ONCE
pub once_append : (xs ys : List ℕ) → IsOnce xs → IsOnce ys → ((x : ℕ) → Has xs x → Has ys x → ⊥) → IsOnce (xs ++ ys)
once_append [] ys o q apart = q
once_append (x ∷ xs) ys o q apart = (λ h. go (has_either xs ys x h), once_append xs ys o.1 q (λ y h k. apart y (inr h) k)) where
  go : Has xs x ⊎ Has ys x → ⊥
  go (inl h) = o.0 h
  go (inr h) = apart x (inl refl) h

pub once_front : (xs ys : List ℕ) → IsOnce (xs ++ ys) → IsOnce xs
once_front [] ys o = tt
once_front (x ∷ xs) ys o = (λ h. o.0 (has_left xs ys x h), once_front xs ys o.1)

-- two members with one key are equal
pub same_member : {A : Type 0} (key : A → ℕ) (xs : List A) (x y : A) → IsOnce (map key xs) → Has xs x → Has xs y → key x ≡ key y → x ≡ y
same_member key [] x y o h k e = elim h [ ]
same_member key (z ∷ xs) x y o (inl d) (inl f) e = sym d ∙ f
same_member key (z ∷ xs) x y o (inl d) (inr k) e = absurd (o.0 (subst (λ n. Has (map key xs) n) (sym e ∙ ap key (sym d)) (has_map key xs y k)))
same_member key (z ∷ xs) x y o (inr h) (inl f) e = absurd (o.0 (subst (λ n. Has (map key xs) n) (e ∙ ap key (sym f)) (has_map key xs x h)))
same_member key (z ∷ xs) x y o (inr h) (inr k) e = same_member key xs x y o.1 h k e

-- if members with one second part have one first part, the second parts stand once
pub once_seconds : (xs : List (ℕ × ℕ)) → IsOnce (map (λ p. p.0) xs) → ((g h a : ℕ) → Has xs (g, a) → Has xs (h, a) → g ≡ h) → IsOnce (map (λ p. p.1) xs)
once_seconds [] o same = tt
once_seconds (x ∷ xs) o same = (λ h. go (mapped_from (λ p. p.1) xs x.1 h), once_seconds xs o.1 (λ g h a m n. same g h a (inr m) (inr n))) where
  go : (y : ℕ × ℕ) × Has xs y × (y.1 ≡ x.1) → ⊥
  go k =
      let there : Has (x ∷ xs) (k.0.0, x.1) = inr (subst (λ n. Has xs (k.0.0, n)) k.2 k.1) in
      let one : x.0 ≡ k.0.0 = same x.0 k.0.0 x.1 (inl refl) there in
      o.0 (subst (λ n. Has (map (λ p. p.0) xs) n) (sym one) (has_map (λ p. p.0) xs k.0 k.1))

-- EACH ELEMENT OF A LIST, BY ITS INDEX
abbrev pub Each : {A : Type 0} → A → (ℕ → A → Type 0) → List A → Type 0
Each d P xs = (i : ℕ) → i < length xs → P i (get_or xs i d)

pub each_set : {A : Type 0} (d : A) (P : ℕ → A → Type 0) (xs : List A) (n : ℕ) (y : A) → Each d P xs → (n < length xs → P n y) → Each d P (set xs n y)
each_set d P xs n y each new i h = go (nat_eq i n) refl (subst (λ m. i < m) (length-set xs n y) h) where
  go : (b : Bool) → nat_eq i n ≡ b → i < length xs → P i (get_or (set xs n y) i d)
  go true e there =
      let same : n ≡ i = grind (arith, nat_tests) in
      let here : n < length xs = omega arith in
      subst (λ m. P m (get_or (set xs n y) m d)) same (subst (λ x. P n x) (sym (get_or-set_same xs n y d here)) (new here))
  go false e there =
      let other : i ≡ n → ⊥ = grind (arith, nat_tests) in
      subst (λ x. P i x) (sym (get_or-set_other xs n i y d other)) (each i there)

pub each_changed : {A : Type 0} (d : A) (P : ℕ → A → Type 0) (f : A → A) (xs : List A) (n : ℕ) → (n < length xs → P n (get_or xs n d) → P n (f (get_or xs n d)))
    → Each d P xs → Each d P (set xs n (f (get_or xs n d)))
each_changed d P f xs n step each = each_set d P xs n (f (get_or xs n d)) each (λ h. step h (each n h))

pub each_map : {A : Type 0} (d : A) (P : ℕ → A → Type 0) (f : A → A) (xs : List A) → ((k : ℕ) (x : A) → P k x → P k (f x)) → Each d P xs → Each d P (map f xs)
each_map d P f xs step each i h =
    let there : i < length xs = subst (λ m. i < m) (length-map xs f) h in
    subst (λ x. P i x) (sym (get_or-map f xs i d d there)) (step i (get_or xs i d) (each i there))
