-- The five lists that wait, and the free slots, as six lists.
use Rattle.std.proofs.Common.{◌≡◌, ℕ, ◌+◌, ◌<◌, ◌≤◌, List, [], ◌∷◌, ◌++◌, length, refl, sym, ap, ◌∙◌, arith, subst, get_or, set, map, take}
use Rattle.std.proofs.lemmas.List.{set-append_left, set_at, map-set, map-append, get_or_append_left, get_or_at, length-map, length-set, get_or-map}
use Rattle.std.proofs.lemmas.{List.get_or-set_same, List.Sums.sum_by-append, List.Sums.sum_by-cons, Option.get_or_from_slice_get}
use Rattle.std.specs.List.{slice_get, sum_by}
use Rattle.std.specs.declared.option.Option.{Option, TheVariants.Some, TheVariants.None}
use Rattle.dali_ring.specs.Linked.{Leads, IsList, link_at, item_at, slot_at, Holds, line, lines, IsBefore, somes, waiting, IsLinked, IsAt}
use Rattle.dali_ring.{specs.declared.slots.Slot.Slot, proofs.Moves.line_is, proofs.Moves.lines_are, proofs.Moves.within, proofs.Ways.parted}

pub somes_map : {X : Type 0} (xs : List X) → somes (map Some xs) ≡ xs
somes_map [] = refl
somes_map (x ∷ xs) = ap (λ l. x ∷ l) (somes_map xs)

module _ {X : Type 0} where
  abbrev pub six : List (List X) → List (Option X) → List (List (Option X))
  six qs fs = map (map Some) qs ++ fs ∷ []

  pub sum_six : (qs : List (List X)) (fs : List (Option X)) → sum_by length (six qs fs) ≡ sum_by length qs + length fs
  sum_six qs fs = sum_by-append length (map (map Some) qs) (fs ∷ []) ∙ (omega (arith, go qs)) where
    go : (ys : List (List X)) → sum_by length (map (map Some) ys) ≡ sum_by length ys
    go [] = refl
    go (y ∷ ys) = sum_by-cons length (map Some y) (map (map Some) ys) ∙ omega (arith, go ys, length-map y (λ (x : X). Some x), sum_by-cons length y ys)

  pub get_waiting : (qs : List (List X)) (fs : List (Option X)) (p : ℕ) → length qs ≡ 5 → p < 5 → get_or (six qs fs) p [] ≡ map Some (get_or qs p [])
  get_waiting qs fs p five low =
      get_or_append_left (map (map Some) qs) (fs ∷ []) [] p (omega (arith, length-map qs (map Some)))
      ∙ get_or-map (map Some) qs p [] [] (omega (arith, five))

  pub get_free : (qs : List (List X)) (fs : List (Option X)) → length qs ≡ 5 → get_or (six qs fs) 5 [] ≡ fs
  get_free qs fs five = get_or_at (map (map Some) qs) fs [] [] 5 (omega (arith, length-map qs (map Some), five))

  pub set_free : (qs : List (List X)) (fs gs : List (Option X)) → length qs ≡ 5 → set (six qs fs) 5 gs ≡ six qs gs
  set_free qs fs gs five = set_at (map (map Some) qs) fs [] gs 5 (omega (arith, length-map qs (map Some), five))

  pub set_waiting : (qs : List (List X)) (fs : List (Option X)) (p : ℕ) (xs : List X) → length qs ≡ 5 → p < 5
      → set (six qs fs) p (map Some xs) ≡ six (set qs p xs) fs
  set_waiting qs fs p xs five low =
      set-append_left (map (map Some) qs) (fs ∷ []) p (map Some xs) (omega (arith, length-map qs (map Some), five))
      ∙ ap (λ l. l ++ fs ∷ []) (sym (map-set (map Some) qs p xs))

  somes_six : (qs : List (List X)) (fs : List (Option X)) → length qs ≡ 5 → map somes (take 5 (six qs fs)) ≡ qs
  somes_six (a ∷ b ∷ c ∷ d ∷ e ∷ []) fs five = rw (somes_map a, somes_map b, somes_map c, somes_map d, somes_map e) refl
  somes_six _ fs five = absurd (omega (arith, five))

  module _ (s : List (Slot X)) (n : ℕ) (tails : List ℕ) (qs : List (List X)) (fs : List (Option X)) (five : length qs ≡ 5)
      (h : Holds s n tails (six qs fs)) where
    pub waiting_is : waiting s n ≡ qs
    waiting_is = ap (λ l. map somes (take 5 l)) (lines_are s n tails (six qs fs) h) ∙ somes_six qs fs five

    pub free_is : line s n 5 ≡ fs
    free_is = line_is s n tails (six qs fs) h 5 (omega arith) ∙ get_free qs fs five

    pub linked_is : 1 ≤ n → n ≤ 1024 → IsLinked s n tails
    linked_is least most = record {
      held = subst (λ (q : List (List X)). Holds s n tails (six q (line s n 5))) (sym waiting_is)
          (subst (λ (f : List (Option X)). Holds s n tails (six qs f)) (sym free_is) h);
      five = ap length waiting_is ∙ five;
      least = least;
      most = most;
    }

  module _ (s : List (Slot X)) (n : ℕ) (tails : List ℕ) (l : IsLinked s n tails) where
    pub lines_six : lines s n ≡ six (waiting s n) (line s n 5)
    lines_six = lines_are s n tails (six (waiting s n) (line s n 5)) l.held

    pub held_lines : Holds s n tails (lines s n)
    held_lines = subst (λ ls. Holds s n tails ls) (sym lines_six) l.held

    pub free_length : sum_by length (waiting s n) + length (line s n 5) ≡ n
    free_length = sym (sum_six (waiting s n) (line s n 5)) ∙ l.held.whole

    -- a place in a list that waits, as one of six
    pub place_is : (p b : ℕ) (us rest : List X) (x : X) → p < 5 → IsAt s n p b us (x ∷ rest) → IsBefore s n p b (map Some us) (Some x) (map Some rest)
    place_is p b us rest x low at = record {
      items = ap (λ ls. get_or ls p []) lines_six ∙ get_waiting (waiting s n) (line s n 5) p l.five low ∙ ap (map Some) at.items
          ∙ map-append Some us (x ∷ rest);
      way = at.way;
    }

module _ {X : Type 0} (s : List (Slot X)) (n : ℕ) (tails : List ℕ) (l : IsLinked s n tails) where
  abbrev qs : List (List X)
  qs = waiting s n

  abbrev fs : List (Option X)
  fs = line s n 5

  pub h : Holds s n tails (lines s n)
  h = held_lines s n tails l

  -- the first free slot, if there is one
  pub free_place : sum_by length (waiting s n) < n → (us : List (Option X)) × (x : Option X) × (rest : List (Option X)) × IsBefore s n 5 (n + 5) us x rest
  free_place fewer = go fs refl where
    go : (ys : List (Option X)) → ys ≡ fs → (us : List (Option X)) × (x : Option X) × (rest : List (Option X)) × IsBefore s n 5 (n + 5) us x rest
    go [] is = absurd (omega (arith, free_length s n tails l, ap length is))
    go (y ∷ ys) is = ([], y, ys, record { items = sym is; way = refl })

  list_is : (p : ℕ) → p < 5 → get_or (lines s n) p [] ≡ map Some (get_or qs p [])
  list_is p low = ap (λ ls. get_or ls p []) (lines_six s n tails l) ∙ get_waiting qs fs p l.five low

  five_set : (p : ℕ) (xs : List X) → length (set qs p xs) ≡ 5
  five_set p xs = length-set qs p xs ∙ l.five

  -- an item that comes last in a list
  pub appended : (s2 : List (Slot X)) (n2 : ℕ) (tails2 : List ℕ) (p : ℕ) (item : X) → p < 5 → sum_by length qs < n → n2 ≡ n
      → ((us : List (Option X)) (x : Option X) (rest : List (Option X)) → IsBefore s n 5 (n + 5) us x rest
      → Holds s2 n2 tails2 (set (set (lines s n) 5 (us ++ rest)) p (get_or (lines s n) p [] ++ Some item ∷ [])))
      → (waiting s2 n2 ≡ set qs p (get_or qs p [] ++ item ∷ [])) × IsLinked s2 n2 tails2
  appended s2 n2 tails2 p item low fewer same move =
      let place = free_place fewer in
      let gs : List (Option X) = place.0 ++ place.2 in
      let now : set (set (lines s n) 5 gs) p (get_or (lines s n) p [] ++ Some item ∷ []) ≡ six (set qs p (get_or qs p [] ++ item ∷ [])) gs =
      ap (λ ls. set (set ls 5 gs) p (get_or (lines s n) p [] ++ Some item ∷ [])) (lines_six s n tails l)
      ∙ ap (λ ls. set ls p (get_or (lines s n) p [] ++ Some item ∷ [])) (set_free qs fs gs l.five)
      ∙ ap (λ xs. set (six qs gs) p (xs ++ Some item ∷ [])) (list_is p low)
      ∙ ap (λ xs. set (six qs gs) p xs) (sym (map-append Some (get_or qs p []) (item ∷ [])))
      ∙ set_waiting qs gs p (get_or qs p [] ++ item ∷ []) l.five low in
      let held : Holds s2 n2 tails2 (six (set qs p (get_or qs p [] ++ item ∷ [])) gs) =
      subst (λ ls. Holds s2 n2 tails2 ls) now (move place.0 place.1 place.2 place.3) in (
        waiting_is s2 n2 tails2 (set qs p (get_or qs p [] ++ item ∷ [])) gs (five_set p _) held,
        linked_is s2 n2 tails2 (set qs p (get_or qs p [] ++ item ∷ [])) gs (five_set p _) held (omega (arith, l.least)) (omega (arith, l.most)),
      )

  -- an item that leaves a list
  pub detached : (s2 : List (Slot X)) (n2 : ℕ) (tails2 : List ℕ) (p b : ℕ) (us rest : List X) (x : X) → p < 5 → n2 ≡ n → IsAt s n p b us (x ∷ rest)
      → ((vs : List (Option X)) (y : Option X) (ys : List (Option X)) → IsBefore s n p b vs y ys
      → Holds s2 n2 tails2 (set (set (lines s n) p (vs ++ ys)) 5 (get_or (lines s n) 5 [] ++ None ∷ [])))
      → (waiting s2 n2 ≡ set qs p (us ++ rest)) × IsLinked s2 n2 tails2
  detached s2 n2 tails2 p b us rest x low same at move =
      let gs : List (Option X) = get_or (lines s n) 5 [] ++ None ∷ [] in
      let now : set (set (lines s n) p (map Some us ++ map Some rest)) 5 gs ≡ six (set qs p (us ++ rest)) gs =
      ap (λ ls. set (set ls p (map Some us ++ map Some rest)) 5 gs) (lines_six s n tails l)
      ∙ ap (λ xs. set (set (six qs fs) p xs) 5 gs) (sym (map-append Some us rest))
      ∙ ap (λ ls. set ls 5 gs) (set_waiting qs fs p (us ++ rest) l.five low)
      ∙ set_free (set qs p (us ++ rest)) fs gs (five_set p _) in
      let held : Holds s2 n2 tails2 (six (set qs p (us ++ rest)) gs) =
      subst (λ ls. Holds s2 n2 tails2 ls) now (move (map Some us) (Some x) (map Some rest) (place_is s n tails l p b us rest x low at)) in (
        waiting_is s2 n2 tails2 (set qs p (us ++ rest)) gs (five_set p _) held,
        linked_is s2 n2 tails2 (set qs p (us ++ rest)) gs (five_set p _) held (omega (arith, l.least)) (omega (arith, l.most)),
      )

  module _ (p b : ℕ) (us rest : List X) (low : p < 5) (at : IsAt s n p b us rest) where
    whole : IsList (link_at s) (item_at s) n (n + p) (get_or tails p 0) (n + p) (map Some us ++ map Some rest)
    whole = subst (λ xs. IsList (link_at s) (item_at s) n (n + p) (get_or tails p 0) (n + p) xs)
        (list_is p low ∙ ap (map Some) at.items ∙ map-append Some us rest) (h.lists p (omega arith))

    -- what is behind a place
    pub behind_is : IsList (link_at s) (item_at s) n (n + p) (get_or tails p 0) b (map Some rest)
    behind_is = (parted (link_at s) (item_at s) n (get_or tails p 0) b (n + p) (map Some us) (map Some rest) at.way whole.0, whole.1)

    pub place_within : b < length s
    place_within = within (link_at s) (item_at s) n (length s) b (n + p) (map Some us) (omega (arith, h.slots)) (omega (arith, h.slots)) at.way

  pub first_at : (p : ℕ) → IsAt s n p (n + p) [] (get_or qs p [])
  first_at p = record { items = refl; way = refl }

-- what is read behind a place
module _ {X : Type 0} (s : List (Slot X)) (n : ℕ) (tails : List ℕ) (l : IsLinked s n tails) (p b : ℕ) (us rest : List X) (low : p < 5)
    (at : IsAt s n p b us rest) where
  pub read_some : (first second : Slot X) → slice_get s b ≡ Some first → first.link < n → slice_get s first.link ≡ Some second → second.item ≡ slice_get rest 0
  read_some first second f1 less f2 =
      let none : Slot X = record { link = 0; item = None } in
      let e1 : slot_at s b ≡ first = get_or_from_slice_get s b first none f1 in
      let e2 : slot_at s (link_at s b) ≡ second = ap (λ (q : Slot X). slot_at s q.link) e1 ∙ get_or_from_slice_get s first.link second none f2 in
      let e3 : link_at s b < n = subst (λ (q : Slot X). q.link < n) (sym e1) less in
      sym (ap (λ (q : Slot X). q.item) e2) ∙ go rest e3 (behind_is s n tails l p b us rest low at) where
        go : (ys : List X) → link_at s b < n → IsList (link_at s) (item_at s) n (n + p) (get_or tails p 0) b (map Some ys)
            → item_at s (link_at s b) ≡ slice_get ys 0
        go [] lt is = absurd (omega (arith, lt, ap (link_at s) is.0, is.1))
        go (y ∷ ys) lt is = is.0.1

  pub read_none : (first : Slot X) → slice_get s b ≡ Some first → n ≤ first.link → None ≡ slice_get rest 0
  read_none first f1 more =
      let none : Slot X = record { link = 0; item = None } in
      let e3 : n ≤ link_at s b = subst (λ (q : Slot X). n ≤ q.link) (sym (get_or_from_slice_get s b first none f1)) more in
      go rest e3 (behind_is s n tails l p b us rest low at) where
        go : (ys : List X) → n ≤ link_at s b → IsList (link_at s) (item_at s) n (n + p) (get_or tails p 0) b (map Some ys) → None ≡ slice_get ys 0
        go [] le is = refl
        go (y ∷ ys) le is = absurd (omega (arith, le, is.0.0))

-- what stands behind a place that lost the item behind it
pub place_left : {X : Type 0} (s s2 : List (Slot X)) (n n2 p b : ℕ) (us rest : List X) → length (waiting s n) ≡ 5 → p < 5
    → waiting s2 n2 ≡ set (waiting s n) p (us ++ rest) → Leads (link_at s2) (item_at s2) n2 b (n2 + p) (map Some us) → IsAt s2 n2 p b us rest
place_left s s2 n n2 p b us rest five low now way = record {
  items = ap (λ ls. get_or ls p []) now ∙ get_or-set_same (waiting s n) p (us ++ rest) [] (omega (arith, five));
  way = way;
}
