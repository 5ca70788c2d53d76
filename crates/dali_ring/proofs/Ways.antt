-- The ways that links lead, what is left of them when one slot is moved to the end of another list, and that
-- one way has one end.
use Rattle.std.proofs.Common.{◌≡◌, ◌≢◌, ℕ, zero, suc, ◌+◌, ◌<◌, ◌≤◌, List, [], ◌∷◌, ◌++◌, length, refl, sym, ap, ◌∙◌, arith, subst, nat_lt, true, false}
use Rattle.std.proofs.lemmas.Bool.Decides.{nat_tests}
use Rattle.dali_ring.specs.Linked.{Leads, IsList, follow}

-- from i, k links lead to slots, and the next one to the end e
abbrev pub Far : (ℕ → ℕ) → ℕ → ℕ → ℕ → ℕ → Type 0
Far link n e zero i = link i ≡ e
Far link n e (suc k) i = (link i < n) × Far link n e k (link i)

-- as many more as the list is long
abbrev pub more : {X : Type 0} → List X → ℕ → ℕ
more [] j = j
more (x ∷ xs) j = suc (more xs j)

pub more_is : {X : Type 0} (xs : List X) (j : ℕ) → more xs j ≡ length xs + j
more_is [] j = omega arith
more_is (x ∷ xs) j = omega (arith, more_is xs j)

module _ (link : ℕ → ℕ) (n : ℕ) where
  -- if two ways begin in one slot, they are one
  pub one_way : (e f k j i : ℕ) → n ≤ e → n ≤ f → Far link n e k i → Far link n f j i → (k ≡ j) × (e ≡ f)
  one_way e f zero zero i le lf p q = (refl, sym p ∙ q)
  one_way e f zero (suc j) i le lf p q = absurd (omega (arith, p, q.0))
  one_way e f (suc k) zero i le lf p q = absurd (omega (arith, p.0, q))
  one_way e f (suc k) (suc j) i le lf p q = let r = one_way e f k j (link i) le lf p.1 q.1 in (ap suc r.0, r.1)

module _ {X : Type 0} (link : ℕ → ℕ) (item : ℕ → X) (n : ℕ) where
  pub far : (f j t a : ℕ) (xs : List X) → Leads link item n t a xs → Far link n f j t → Far link n f (more xs j) a
  far f j t a [] p q = rw p q
  far f j t a (x ∷ xs) p q = (p.0, far f j t (link a) xs p.2 q)

  pub joined : (t b a : ℕ) (xs ys : List X) → Leads link item n b a xs → Leads link item n t b ys → Leads link item n t a (xs ++ ys)
  joined t b a [] ys p q = rw p q
  joined t b a (x ∷ xs) ys p q = (p.0, p.1, joined t b (link a) xs ys p.2 q)

  pub parted : (t b a : ℕ) (xs ys : List X) → Leads link item n b a xs → Leads link item n t a (xs ++ ys) → Leads link item n t b ys
  parted t b a [] ys p q = rw (← p) q
  parted t b a (x ∷ xs) ys p q = parted t b (link a) xs ys p.2 q.2

  pub followed : (e t a k : ℕ) (xs : List X) → n ≤ e → IsList link item n e t a xs → length xs ≤ k → follow link item n k a ≡ xs
  followed e t a zero [] le p m = refl
  followed e t a zero (x ∷ xs) le p m = absurd (omega (arith, m))
  followed e t a (suc k) [] le p m =
      let there : link a ≡ e = rw p.0 p.1 in
      let out : nat_lt (link a) n ≡ false = grind (arith, nat_tests) in
      rw out refl
  followed e t a (suc k) (x ∷ xs) le p m =
      let within : nat_lt (link a) n ≡ true = grind (arith, nat_tests, p.0.0) in
      rw (within, p.0.1, followed e t (link a) k xs le (p.0.2, p.1) (omega (arith, m))) refl

module _ {X : Type 0} (link link' : ℕ → ℕ) (item item' : ℕ → X) (n : ℕ) where
  -- a way on which nothing is changed
  pub kept : (f j t a : ℕ) (xs : List X) → Leads link item n t a xs → Far link n f j t
      → ((i k : ℕ) → Far link n f k i → j < k → k ≤ more xs j → link' i ≡ link i)
      → ((i k : ℕ) → Far link n f k i → j ≤ k → k < more xs j → item' i ≡ item i)
      → Leads link' item' n t a xs
  kept f j t a [] p q links items = p
  kept f j t a (x ∷ xs) p q links items =
      let behind : Far link n f (more xs j) (link a) = far link item n f j t (link a) xs p.2 q in
      let same : link' a ≡ link a = links a (suc (more xs j)) (p.0, behind) (omega (arith, more_is xs j)) (omega arith) in
      rw same (
        p.0,
        items (link a) (more xs j) behind (omega (arith, more_is xs j)) (omega arith) ∙ p.1,
        kept f j t (link a) xs p.2 q (λ i k w l m. links i k w l (omega (arith, m))) (λ i k w l m. items i k w l (omega (arith, m))),
      )

-- the last slot of what is left of a list, when the slot behind b is taken out and this is behind it
abbrev pub last_left : {X : Type 0} → List X → ℕ → ℕ → ℕ
last_left [] b t = b
last_left (y ∷ ys) b t = t

-- The slot behind b leaves the list that ends in e, and becomes the last of the one that ends in g.
pub record Move {X : Type 0} (link link' : ℕ → ℕ) (item item' : ℕ → X) (n e g t a b c d : ℕ) (us rest vs : List X) (x new : X) : Type 0 where
  pub le : n ≤ e
  pub lg : n ≤ g
  pub other : e ≢ g
  pub start : Leads link item n b a us
  pub old : IsList link item n e t a (us ++ x ∷ rest)
  pub last : IsList link item n g c d vs
  pub from_b : link' b ≡ link (link b)
  pub from_at : link' (link b) ≡ g
  pub from_c : link' c ≡ link b
  pub item_new : item' (link b) ≡ new
  pub links : (i : ℕ) → i ≢ b → i ≢ link b → i ≢ c → link' i ≡ link i
  pub items : (i : ℕ) → i ≢ link b → item' i ≡ item i

module _ {X : Type 0} (link link' : ℕ → ℕ) (item item' : ℕ → X) (n e g t a b c d : ℕ) (us rest vs : List X) (x new : X)
    (m : Move link link' item item' n e g t a b c d us rest vs x new) where
  behind : Leads link item n t b (x ∷ rest)
  behind = parted link item n t b a us (x ∷ rest) m.start m.old.0

  far_at : Far link n e (more rest 0) (link b)
  far_at = far link item n e 0 t (link b) rest behind.2 m.old.1

  far_b : Far link n e (suc (more rest 0)) b
  far_b = (behind.0, far_at)

  link_same : (f i k : ℕ) → n ≤ f → Far link n f k i → (f ≡ e → k ≢ more rest 0) → (f ≡ e → k ≢ suc (more rest 0)) → (f ≡ g → k ≢ 0) → link' i ≡ link i
  link_same f i k lf w at before end = m.links i
      (λ same. let o = one_way link n f e k (suc (more rest 0)) b lf m.le (subst (λ j. Far link n f k j) same w) far_b in before o.1 o.0)
      (λ same. let o = one_way link n f e k (more rest 0) (link b) lf m.le (subst (λ j. Far link n f k j) same w) far_at in at o.1 o.0)
      (λ same. let o = one_way link n f g k 0 c lf m.lg (subst (λ j. Far link n f k j) same w) m.last.1 in end o.1 o.0)

  item_same : (f i k : ℕ) → n ≤ f → Far link n f k i → (f ≡ e → k ≢ more rest 0) → item' i ≡ item i
  item_same f i k lf w at = m.items i
      (λ same. let o = one_way link n f e k (more rest 0) (link b) lf m.le (subst (λ j. Far link n f k j) same w) far_at in at o.1 o.0)

  -- every other list stays as it is
  pub others : (f u h : ℕ) (xs : List X) → n ≤ f → f ≢ e → f ≢ g → IsList link item n f u h xs → IsList link' item' n f u h xs
  others f u h xs lf fe fg p = (
    kept link link' item item' n f 0 u h xs p.0 p.1
        (λ i k w l q. link_same f i k lf w (λ s. absurd (fe s)) (λ s. absurd (fe s)) (λ s. absurd (fg s)))
        (λ i k w l q. item_same f i k lf w (λ s. absurd (fe s))),
    link_same f u 0 lf p.1 (λ s. absurd (fe s)) (λ s. absurd (fe s)) (λ s. absurd (fg s)) ∙ p.1,
  )

  -- so does the way to b
  pub started : Leads link' item' n b a us
  started = kept link link' item item' n e (suc (more rest 0)) b a us m.start far_b
      (λ i k w l q. link_same e i k m.le w (λ _ s. absurd (omega (arith, l, s))) (λ _ s. absurd (omega (arith, l, s))) (λ s. absurd (m.other s)))
      (λ i k w l q. item_same e i k m.le w (λ _ s. absurd (omega (arith, l, s))))

  second : (ys : List X) → Leads link item n t (link b) ys
      → ((i k : ℕ) → Far link n e k i → k < more ys 0 → (link' i ≡ link i) × (item' i ≡ item i))
      → IsList link' item' n e (last_left ys b t) b ys
  second [] p same = (refl, m.from_b ∙ rw p m.old.1)
  second (y ∷ ys) p same =
      let next : Far link n e (more ys 0) (link (link b)) = far link item n e 0 t (link (link b)) ys p.2 m.old.1 in
      let rest : Leads link' item' n t (link (link b)) ys = kept link link' item item' n e 0 t (link (link b)) ys p.2 m.old.1
      (λ i k w l q. (same i k w (omega (arith, q))).0) (λ i k w l q. (same i k w (omega (arith, q))).1) in (
        rw m.from_b (p.0, (same (link (link b)) (more ys 0) next (omega arith)).1 ∙ p.1, rest),
        (same t 0 m.old.1 (omega (arith, more_is ys 0))).0 ∙ m.old.1,
      )

  -- what is left of the list that the slot left
  pub left : IsList link' item' n e (last_left rest b t) a (us ++ rest)
  left =
      let two : IsList link' item' n e (last_left rest b t) b rest = second rest behind.2 (λ i k w l. (
        link_same e i k m.le w (λ _ s. absurd (omega (arith, l, s))) (λ _ s. absurd (omega (arith, l, s))) (λ s. absurd (m.other s)),
        item_same e i k m.le w (λ _ s. absurd (omega (arith, l, s))),
      )) in
      (joined link' item' n (last_left rest b t) b a us rest started two.0, two.1)

  -- what becomes of the one that it is the last of
  pub grown : IsList link' item' n g (link b) d (vs ++ new ∷ [])
  grown =
      let first : Leads link' item' n c d vs = kept link link' item item' n g 0 c d vs m.last.0 m.last.1
      (λ i k w l q. link_same g i k m.lg w (λ s. absurd (m.other (sym s))) (λ s. absurd (m.other (sym s))) (λ _ s. absurd (omega (arith, l, s))))
      (λ i k w l q. item_same g i k m.lg w (λ s. absurd (m.other (sym s)))) in
      (joined link' item' n (link b) c d vs (new ∷ []) first (rw m.from_c (behind.0, m.item_new, refl)), m.from_at)
