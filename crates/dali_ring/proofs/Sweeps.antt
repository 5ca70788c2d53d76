-- A list that a sender's items leave, slot by slot.
use Rattle.std.proofs.Common.{◌≡◌, ◌≢◌, ℕ, suc, ◌+◌, ◌<◌, ◌≤◌, List, [], ◌∷◌, ◌++◌, length, refl, sym, ap, ◌∙◌, arith, subst, get_or, set, map, true, false}
use Rattle.std.proofs.Common.{◌==◌, append_assoc, length-append}
use Rattle.std.proofs.lemmas.{Bool.Decides.nat_tests, List.set-set, List.set-get_or, List.map-append, List.length-map, List.Sums.sum_by-set}
use Rattle.std.{proofs.lemmas.Option.get_or_from_slice_get, specs.List.sum_by, specs.List.slice_get}
use Rattle.std.specs.declared.option.Option.TheVariants.{Some, None}
use Rattle.dali_ring.specs.Linked.{Leads, follow, link_at, item_at, waiting, IsLinked, IsAt}
use Rattle.dali_ring.specs.{Queues.without, declared.slots.Slot.Slot}
use Rattle.dali_ring.proofs.{Waiting.behind_is, Waiting.free_length, Waiting.first_at, Ways.joined, Ways.followed}

-- List p of the slots s0, of which the sender's items before slot b have left: the slots are s now.
pub record Swept {X : Type 0} (from : X → ℕ) (sender : ℕ) (s0 : List (Slot X)) (n0 : ℕ) (s : List (Slot X)) (n : ℕ) (tails : List ℕ) (p b gone : ℕ)
    (us rest : List X) : Type 0 where
  pub linked : IsLinked s n tails
  pub same : n ≡ n0
  pub at : IsAt s n p b us rest
  pub kept : without from sender (get_or (waiting s0 n0) p []) ≡ us ++ without from sender rest
  pub now : waiting s n ≡ set (waiting s0 n0) p (us ++ rest)
  pub count : gone + sum_by length (waiting s n) ≡ sum_by length (waiting s0 n0)

abbrev pub SweptTo : {X : Type 0} → (X → ℕ) → ℕ → List (Slot X) → ℕ → List (Slot X) → ℕ → List ℕ → ℕ → ℕ → ℕ → Type 0
SweptTo {X} from sender s0 n0 s n tails p b gone = (us : List X) × (rest : List X) × Swept from sender s0 n0 s n tails p b gone us rest

pub swept_first : {X : Type 0} (from : X → ℕ) (sender : ℕ) (s : List (Slot X)) (n : ℕ) (tails : List ℕ) (p : ℕ) → IsLinked s n tails
    → SweptTo from sender s n s n tails p (n + p) 0
swept_first from sender s n tails p l = (
  [],
  get_or (waiting s n) p [],
  record {
    linked = l;
    same = refl;
    at = first_at s n tails l p;
    kept = refl;
    now = sym (set-get_or (waiting s n) p []);
    count = omega arith;
  },
)

module _ {X : Type 0} (s : List (Slot X)) (n : ℕ) (tails : List ℕ) (p b : ℕ) (low : p < 5) where
  -- how many are left to be looked at
  pub left_is : (us rest : List X) → IsLinked s n tails → IsAt s n p b us rest → length (follow (link_at s) (item_at s) n n b) ≡ length rest
  left_is us rest l at =
      let one : sum_by length (set (waiting s n) p []) + length (get_or (waiting s n) p []) ≡ sum_by length (waiting s n) + 0 =
      sum_by-set length (waiting s n) p [] [] (omega (arith, low, l.five)) in
      let two : length (get_or (waiting s n) p []) ≡ length us + length rest = ap length at.items ∙ length-append us rest in
      let fits : length (map (λ (x : X). Some x) rest) ≤ n = omega (arith, one, two, free_length s n tails l, length-map rest (λ (x : X). Some x)) in
      ap length (followed (link_at s) (item_at s) n (n + p) (get_or tails p 0) b n (map Some rest) (omega arith)
      (behind_is s n tails l p b us rest low at) fits)
      ∙ length-map rest (λ (x : X). Some x)

module _ {X : Type 0} (from : X → ℕ) (sender : ℕ) (s0 : List (Slot X)) (n0 : ℕ) (s : List (Slot X)) (n : ℕ) (tails : List ℕ) (p b gone : ℕ) (low : p < 5) where
  pub swept_end : (us rest : List X) → Swept from sender s0 n0 s n tails p b gone us rest → None ≡ slice_get rest 0
      → waiting s n ≡ set (waiting s0 n0) p (without from sender (get_or (waiting s0 n0) p []))
  swept_end us [] w is = w.now ∙ ap (λ xs. set (waiting s0 n0) p xs) (sym w.kept)
  swept_end us (x ∷ rest) w is = absurd (cc)

  -- the sender's item leaves
  pub swept_out : (us rest : List X) (item : X) → Swept from sender s0 n0 s n tails p b gone us rest → Some item ≡ slice_get rest 0 → from item ≡ sender
      → (s2 : List (Slot X)) (n2 : ℕ) (tails2 : List ℕ) → IsLinked s2 n2 tails2 → n2 ≡ n
      → ((vs : List X) (y : X) (ys : List X) → IsAt s n p b vs (y ∷ ys) → waiting s2 n2 ≡ set (waiting s n) p (vs ++ ys))
      → ((vs : List X) (y : X) (ys : List X) → IsAt s n p b vs (y ∷ ys) → IsAt s2 n2 p b vs ys)
      → SweptTo from sender s0 n0 s2 n2 tails2 p b (gone + 1)
      × (length (follow (link_at s2) (item_at s2) n2 n2 b) < length (follow (link_at s) (item_at s) n n b))
  swept_out us [] item w is mine s2 n2 tails2 l2 same now2 at2 = absurd (cc)
  swept_out us (x ∷ rest) item w is mine s2 n2 tails2 l2 same now2 at2 =
      let this : item ≡ x = cc in
      let test : (from x == sender) ≡ true = grind (arith, nat_tests, ap from this, mine) in
      let one : sum_by length (set (waiting s n) p (us ++ rest)) + length (get_or (waiting s n) p []) ≡ sum_by length (waiting s n) + length (us ++ rest) =
      sum_by-set length (waiting s n) p (us ++ rest) [] (omega (arith, low, w.linked.five)) in
      let two : length (get_or (waiting s n) p []) ≡ length us + suc (length rest) = ap length w.at.items ∙ length-append us (x ∷ rest) in
      let three : waiting s2 n2 ≡ set (waiting s n) p (us ++ rest) = now2 us x rest w.at in
      let four : length (us ++ rest) ≡ length us + length rest = length-append us rest in
      let five : sum_by length (waiting s2 n2) ≡ sum_by length (set (waiting s n) p (us ++ rest)) = ap (sum_by length) three in
      let next : Swept from sender s0 n0 s2 n2 tails2 p b (gone + 1) us rest = record {
        linked = l2;
        same = same ∙ w.same;
        at = at2 us x rest w.at;
        kept = w.kept ∙ ap (λ zs. us ++ zs) (skipped x rest test);
        now = three ∙ ap (λ ls. set ls p (us ++ rest)) w.now ∙ set-set (waiting s0 n0) p (us ++ x ∷ rest) (us ++ rest);
        count = omega (arith, w.count, one, two, four, five);
      } in
      ((us, rest, next), omega (arith, left_is s n tails p b low us (x ∷ rest) w.linked w.at, left_is s2 n2 tails2 p b low us rest l2 (at2 us x rest w.at)))
    where
      skipped : (y : X) (ys : List X) → (from y == sender) ≡ true → without from sender (y ∷ ys) ≡ without from sender ys
      skipped y ys test = rw test refl

  -- another's item stays
  pub swept_on : (us rest : List X) (item : X) → Swept from sender s0 n0 s n tails p b gone us rest → Some item ≡ slice_get rest 0 → from item ≢ sender
      → (slot : Slot X) → slice_get s b ≡ Some slot
      → SweptTo from sender s0 n0 s n tails p slot.link gone
      × (length (follow (link_at s) (item_at s) n n slot.link) < length (follow (link_at s) (item_at s) n n b))
  swept_on us [] item w is other slot read = absurd (cc)
  swept_on us (x ∷ rest) item w is other slot read =
      let next : ℕ = slot.link in
      let to : link_at s b ≡ next = ap (λ (q : Slot X). q.link) (get_or_from_slice_get s b slot (record { link = 0; item = None }) read) in
      let this : item ≡ x = cc in
      let test : (from x == sender) ≡ false = grind (arith, nat_tests, ap from this, other) in
      let way = behind_is s n tails w.linked p b us (x ∷ rest) low w.at in
      let there : Leads (link_at s) (item_at s) n next (n + p) (map Some us ++ Some x ∷ []) =
      joined (link_at s) (item_at s) n next b (n + p) (map Some us) (Some x ∷ []) w.at.way (way.0.0, way.0.1, to) in
      let at : IsAt s n p next (us ++ x ∷ []) rest = record {
        items = w.at.items ∙ sym (append_assoc us (x ∷ []) rest);
        way = subst (λ xs. Leads (link_at s) (item_at s) n next (n + p) xs) (sym (map-append Some us (x ∷ []))) there;
      } in (
        (
          us ++ x ∷ [],
          rest,
          record {
            linked = w.linked;
            same = w.same;
            at = at;
            kept = w.kept ∙ ap (λ zs. us ++ zs) (passed x rest test) ∙ sym (append_assoc us (x ∷ []) (without from sender rest));
            now = w.now ∙ ap (λ xs. set (waiting s0 n0) p xs) (sym (append_assoc us (x ∷ []) rest));
            count = w.count;
          },
        ),
        omega (arith, left_is s n tails p b low us (x ∷ rest) w.linked w.at, left_is s n tails p next low (us ++ x ∷ []) rest w.linked at),
      )
    where
      passed : (y : X) (ys : List X) → (from y == sender) ≡ false → without from sender (y ∷ ys) ≡ y ∷ without from sender ys
      passed y ys test = rw test refl

-- there is an item behind slot b, if one was read
pub swept_place : {X : Type 0} (s : List (Slot X)) (n p b : ℕ) (us rest : List X) (item : X) → IsAt s n p b us rest → Some item ≡ slice_get rest 0
    → (vs : List X) × (y : X) × (ys : List X) × IsAt s n p b vs (y ∷ ys)
swept_place s n p b us [] item at is = absurd (cc)
swept_place s n p b us (x ∷ rest) item at is = (us, x, rest, at)
