-- A slot that moves, in the slots themselves.
use Rattle.std.proofs.Common.{◌≡◌, ◌≢◌, ℕ, suc, ◌+◌, ◌<◌, ◌≤◌, List, [], ◌∷◌, ◌++◌, length, refl, sym, ap, ◌∙◌, arith, subst, get_or, set, ⊎_elim}
use Rattle.std.proofs.{Common.length-append, lemmas.Bool.cases_eq, lemmas.List.get_or-set_same, lemmas.List.get_or-set_other, lemmas.List.length-set}
use Rattle.std.{proofs.lemmas.List.Sums.sum_by-set, proofs.lemmas.Option.get_or_from_slice_get, specs.List.slice_get, specs.List.sum_by}
use Rattle.std.specs.declared.option.Option.{Option, TheVariants.Some, TheVariants.None}
use Rattle.dali_ring.specs.Linked.{Leads, IsList, link_at, item_at, slot_at, Holds, line, lines, IsBefore}
use Rattle.dali_ring.specs.declared.slots.Slot.{Slot}
use Rattle.dali_ring.proofs.Ways.{Far, one_way, far, more, followed, Move, last_left, others, left, grown, started, parted}

-- a way from a slot below m leads to one
pub within : {X : Type 0} (link : ℕ → ℕ) (item : ℕ → X) (n m t a : ℕ) (xs : List X) → n ≤ m → a < m → Leads link item n t a xs → t < m
within link item n m t a [] le low p = rw (← p) low
within link item n m t a (x ∷ xs) le low p = within link item n m t (link a) xs le (omega (arith, p.0)) p.2

module _ {X : Type 0} (s : List (Slot X)) (n : ℕ) (tails : List ℕ) (ls : List (List (Option X))) (h : Holds s n tails ls) where
  -- each list is shorter than there are slots
  pub line_is : (p : ℕ) → p < 6 → line s n p ≡ get_or ls p []
  line_is p low = followed (link_at s) (item_at s) n (n + p) (get_or tails p 0) (n + p) n (get_or ls p []) (omega arith) (h.lists p low)
      (let all : sum_by length (set ls p []) + length (get_or ls p []) ≡ sum_by length ls + 0 = sum_by-set length ls p [] [] (omega (arith, h.six)) in
      omega (arith, all, h.whole))

  pub lines_are : lines s n ≡ ls
  lines_are = go ls refl h.six where
    go : (xs : List (List (Option X))) → xs ≡ ls → length xs ≡ 6 → lines s n ≡ ls
    go (a ∷ b ∷ c ∷ d ∷ e ∷ f ∷ []) is six =
        rw (
          line_is 0 (omega arith),
          line_is 1 (omega arith),
          line_is 2 (omega arith),
          line_is 3 (omega arith),
          line_is 4 (omega arith),
          line_is 5 (omega arith),
        ) (rw (← is) refl)
    go _ is six = absurd (omega (arith, six))

  pub tail_within : (p : ℕ) → p < 6 → get_or tails p 0 < length s
  tail_within p low = within (link_at s) (item_at s) n (length s) (get_or tails p 0) (n + p) (get_or ls p []) (omega (arith, h.slots)) (omega (arith, h.slots))
      (h.lists p low).0

-- what a list has at a place after two writes
two_first : {X : Type 0} (xs : List X) (i j : ℕ) (x y d : X) → j < length xs → get_or (set (set xs i x) j y) j d ≡ y
two_first xs i j x y d low = get_or-set_same (set xs i x) j y d (omega (arith, low, length-set xs i x))

two_second : {X : Type 0} (xs : List X) (i j : ℕ) (x y d : X) → i < length xs → i ≢ j → get_or (set (set xs i x) j y) i d ≡ x
two_second xs i j x y d low other = get_or-set_other (set xs i x) j i y d other ∙ get_or-set_same xs i x d low

two_other : {X : Type 0} (xs : List X) (i j k : ℕ) (x y d : X) → k ≢ i → k ≢ j → get_or (set (set xs i x) j y) k d ≡ get_or xs k d
two_other xs i j k x y d one two = get_or-set_other (set xs i x) j k y d two ∙ get_or-set_other xs i k x d one

module _ {X : Type 0} (s : List (Slot X)) (n from to b : ℕ) (tails : List ℕ) (us rest : List (Option X)) (x new : Option X)
    (h : Holds s n tails (lines s n)) (lf : from < 6) (lt : to < 6) (unlike : from ≡ to → ⊥) (p : IsBefore s n from b us x rest) where
  abbrev at : ℕ
  at = link_at s b

  abbrev t : ℕ
  t = get_or tails from 0

  abbrev c : ℕ
  c = get_or tails to 0

  old : IsList (link_at s) (item_at s) n (n + from) t (n + from) (us ++ x ∷ rest)
  old = subst (λ l. IsList (link_at s) (item_at s) n (n + from) t (n + from) l) p.items (h.lists from lf)

  last : IsList (link_at s) (item_at s) n (n + to) c (n + to) (get_or (lines s n) to [])
  last = h.lists to lt

  behind : Leads (link_at s) (item_at s) n t b (x ∷ rest)
  behind = parted (link_at s) (item_at s) n t b (n + from) us (x ∷ rest) p.way old.0

  pub b_within : b < length s
  b_within = within (link_at s) (item_at s) n (length s) b (n + from) us (omega (arith, h.slots)) (omega (arith, h.slots)) p.way

  pub at_low : at < n
  at_low = behind.0

  pub at_within : at < length s
  at_within = omega (arith, at_low, h.slots)

  c_within : c < length s
  c_within = tail_within s n tails (lines s n) h to lt

  far_at : Far (link_at s) n (n + from) (more rest 0) at
  far_at = far (link_at s) (item_at s) n (n + from) 0 t at rest behind.2 old.1

  far_b : Far (link_at s) n (n + from) (suc (more rest 0)) b
  far_b = (behind.0, far_at)

  b_at : b ≢ at
  b_at same =
      let o = one_way (link_at s) n (n + from) (n + from) (suc (more rest 0)) (more rest 0) at (omega arith) (omega arith)
      (subst (λ j. Far (link_at s) n (n + from) (suc (more rest 0)) j) same far_b) far_at in
      absurd (omega (arith, o.0))

  b_c : b ≢ c
  b_c same =
      let o = one_way (link_at s) n (n + from) (n + to) (suc (more rest 0)) 0 c (omega arith) (omega arith)
      (subst (λ j. Far (link_at s) n (n + from) (suc (more rest 0)) j) same far_b) last.1 in
      absurd (omega (arith, o.0))

  at_c : at ≢ c
  at_c same =
      let o = one_way (link_at s) n (n + from) (n + to) (more rest 0) 0 c (omega arith) (omega arith)
      (subst (λ j. Far (link_at s) n (n + from) (more rest 0) j) same far_at) last.1 in
      absurd (unlike (omega (arith, o.1)))

  abbrev A : Slot X
  A = record { link = link_at s at; item = item_at s b }

  abbrev B : Slot X
  B = record { link = n + to; item = new }

  abbrev C : Slot X
  C = record { link = at; item = item_at s c }

  abbrev after : List (Slot X)
  after = set (set (set s b A) c C) at B

  abbrev none : Slot X
  none = record { link = 0; item = None }

  read_b : slot_at after b ≡ A
  read_b = get_or-set_other (set (set s b A) c C) at b B none b_at ∙ two_second s b c A C none b_within b_c

  read_at : slot_at after at ≡ B
  read_at = two_first (set s b A) c at C B none (omega (arith, at_within, length-set s b A))

  read_c : slot_at after c ≡ C
  read_c = get_or-set_other (set (set s b A) c C) at c B none (λ same. at_c (sym same)) ∙ two_first s b c A C none c_within

  read_other : (i : ℕ) → i ≢ b → i ≢ at → i ≢ c → slot_at after i ≡ slot_at s i
  read_other i ub ua uc = get_or-set_other (set (set s b A) c C) at i B none ua ∙ two_other s b c i A C none ub uc

  items_same : (i : ℕ) → i ≢ at → item_at after i ≡ item_at s i
  items_same i ua = ⊎_elim (λ (is : i ≡ b). rw is (ap (λ (q : Slot X). q.item) read_b))
      (λ ub. ⊎_elim (λ (is : i ≡ c). rw is (ap (λ (q : Slot X). q.item) read_c)) (λ uc. ap (λ (q : Slot X). q.item) (read_other i ub ua uc)) (cases_eq i c))
      (cases_eq i b)

  the_move : Move (link_at s) (link_at after) (item_at s) (item_at after) n (n + from) (n + to) t (n + from) b c (n + to) us rest
      (get_or (lines s n) to []) x new
  the_move = record {
    le = omega arith;
    lg = omega arith;
    other = λ same. unlike (omega (arith, same));
    start = p.way;
    old = old;
    last = last;
    from_b = ap (λ (q : Slot X). q.link) read_b;
    from_at = ap (λ (q : Slot X). q.link) read_at;
    from_c = ap (λ (q : Slot X). q.link) read_c;
    item_new = ap (λ (q : Slot X). q.item) read_at;
    links = λ i ub ua uc. ap (λ (q : Slot X). q.link) (read_other i ub ua uc);
    items = items_same;
  }

  -- what the code tells of the slot that was last in the list that the slot left
  pub left_is : (l : ℕ) → (link_at s at < n → l ≡ t) → (n ≤ link_at s at → l ≡ b) → last_left rest b t ≡ l
  left_is l more_of none_of = go rest behind.2 where
    go : (ys : List (Option X)) → Leads (link_at s) (item_at s) n t at ys → last_left ys b t ≡ l
    go [] way = sym (none_of (rw way (omega (arith, old.1))))
    go (y ∷ ys) way = sym (more_of way.0)

  pub held : (l : ℕ) → last_left rest b t ≡ l
      → Holds after n (set (set tails from l) to at) (set (set (lines s n) from (us ++ rest)) to (get_or (lines s n) to [] ++ new ∷ []))
  held l is = record {
    six = omega (arith, length-set (set (lines s n) from (us ++ rest)) to (get_or (lines s n) to [] ++ new ∷ []), length-set (lines s n) from (us ++ rest));
    slots = omega (arith, h.slots, length-set (set (set s b A) c C) at B, length-set (set s b A) c C, length-set s b A);
    ends = omega (arith, h.ends, length-set (set tails from l) to at, length-set tails from l);
    lists = λ q low. ⊎_elim
        (λ (same : q ≡ to). rw (
          same,
          two_first tails from to l at 0 (omega (arith, h.ends)),
          two_first (lines s n) from to (us ++ rest) (get_or (lines s n) to [] ++ new ∷ []) [] (omega arith),
        )
        (grown (link_at s) (link_at after) (item_at s) (item_at after) n (n + from) (n + to) t (n + from) b c (n + to) us rest
        (get_or (lines s n) to []) x new the_move))
        (λ ut. ⊎_elim
        (λ (same : q ≡ from). rw (
          same,
          two_second tails from to l at 0 (omega (arith, h.ends)) unlike,
          two_second (lines s n) from to (us ++ rest) (get_or (lines s n) to [] ++ new ∷ []) [] (omega arith) unlike,
          ← is,
        )
        (left (link_at s) (link_at after) (item_at s) (item_at after) n (n + from) (n + to) t (n + from) b c (n + to) us rest
        (get_or (lines s n) to []) x new the_move))
        (λ uf. rw (two_other tails from to q l at 0 uf ut, two_other (lines s n) from to q (us ++ rest) (get_or (lines s n) to [] ++ new ∷ []) [] uf ut)
        (others (link_at s) (link_at after) (item_at s) (item_at after) n (n + from) (n + to) t (n + from) b c (n + to) us rest
        (get_or (lines s n) to []) x new the_move
        (n + q) (get_or tails q 0) (n + q) (get_or (lines s n) q []) (omega arith) (λ same. uf (omega (arith, same))) (λ same. ut (omega (arith, same)))
        (h.lists q low)))
        (cases_eq q from)) (cases_eq q to);
    whole =
        let one : sum_by length (set (lines s n) from (us ++ rest)) + length (get_or (lines s n) from []) ≡ sum_by length (lines s n) + length (us ++ rest)
        = sum_by-set length (lines s n) from (us ++ rest) [] (omega arith) in
        let two : sum_by length (set (set (lines s n) from (us ++ rest)) to (get_or (lines s n) to [] ++ new ∷ [])) + length
        (get_or (set (lines s n) from (us ++ rest)) to [])
        ≡ sum_by length (set (lines s n) from (us ++ rest)) + length (get_or (lines s n) to [] ++ new ∷ [])
        = sum_by-set length (set (lines s n) from (us ++ rest)) to (get_or (lines s n) to [] ++ new ∷ []) []
        (omega (arith, length-set (lines s n) from (us ++ rest))) in
        let three : get_or (set (lines s n) from (us ++ rest)) to [] ≡ get_or (lines s n) to [] =
        get_or-set_other (lines s n) from to (us ++ rest) [] (λ e. unlike (sym e)) in
        let four : length (get_or (lines s n) from []) ≡ length (us ++ x ∷ rest) = ap length p.items in
        omega (
          arith,
          one,
          two,
          ap length three,
          four,
          h.whole,
          length-append us rest,
          length-append us (x ∷ rest),
          length-append (get_or (lines s n) to []) (new ∷ []),
        );
  }

  -- the way to the slot before the one that moved
  pub still : Leads (link_at after) (item_at after) n b (n + from) us
  still = started (link_at s) (link_at after) (item_at s) (item_at after) n (n + from) (n + to) t (n + from) b c (n + to) us rest
      (get_or (lines s n) to []) x new the_move

  -- the same, as the code reads and writes
  pub moved : (first second : Slot X) → slice_get s b ≡ Some first → slice_get s first.link ≡ Some second
      → (one two three : List (Slot X)) → one ≡ set s b (record (slot_at s b) { link = second.link })
      → two ≡ set one c (record (slot_at one c) { link = first.link }) → three ≡ set two first.link (record { link = n + to; item = new })
      → (l : ℕ) → (second.link < n → l ≡ t) → (n ≤ second.link → l ≡ b)
      → Holds three n (set (set tails from l) to first.link) (set (set (lines s n) from (us ++ rest)) to (get_or (lines s n) to [] ++ new ∷ []))
      × Leads (link_at three) (item_at three) n b (n + from) us
  moved first second f1 f2 one two three w1 w2 w3 l low_is high_is =
      let e1 : slot_at s b ≡ first = get_or_from_slice_get s b first none f1 in
      let e2 : slot_at s at ≡ second = ap (λ (q : Slot X). slot_at s q.link) e1 ∙ get_or_from_slice_get s first.link second none f2 in
      let e3 : slot_at one c ≡ slot_at s c = ap (λ xs. slot_at xs c) w1 ∙ get_or-set_other s b c _ none (λ is. b_c (sym is)) in
      let same : last_left rest b t ≡ l =
      left_is l (λ low. low_is (subst (λ (q : Slot X). q.link < n) e2 low)) (λ high. high_is (subst (λ (q : Slot X). n ≤ q.link) e2 high)) in
      rw (w3, w2, e3, w1, ← e1, ← e2) (held l same, still)

  pub first_low : (first : Slot X) → slice_get s b ≡ Some first → first.link < n
  first_low first f1 = subst (λ (q : Slot X). q.link < n) (get_or_from_slice_get s b first none f1) at_low
