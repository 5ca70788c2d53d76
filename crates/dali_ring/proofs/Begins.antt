-- Slots in which nothing waits.
use Rattle.std.proofs.Common.{◌≡◌, ◌≢◌, ℕ, zero, suc, ◌+◌, ◌<◌, ◌≤◌, List, [], ◌∷◌, length, refl, sym, ap, ◌∙◌, arith, subst, get_or, set, replicate, ⊎_elim}
use Rattle.std.proofs.{Common.length-append, lemmas.Bool.cases_eq}
use Rattle.std.proofs.lemmas.List.{get_or_append_left, get_or_at, length-set, get_or-set_same, get_or-set_other, length-replicate}
use Rattle.std.specs.declared.option.Option.{Option, TheVariants.None}
use Rattle.dali_ring.specs.{Fresh.fresh_to, Linked.Leads, Linked.IsList, Linked.link_at, Linked.item_at, Linked.slot_at, Linked.Holds, Linked.IsLinked}
use Rattle.dali_ring.specs.{Linked.waiting, declared.slots.Slot.Slot}
use Rattle.dali_ring.proofs.Waiting.{six, sum_six, waiting_is, linked_is}

abbrev empty : {X : Type 0} → ℕ → Slot X
empty i = record { link = i; item = None }

module _ (X : Type 0) where
  pub fresh_length : (m : ℕ) → length (fresh_to {X = X} m) ≡ m
  fresh_length zero = refl
  fresh_length (suc m) = length-append (fresh_to {X = X} m) (empty (m + 1) ∷ []) ∙ omega (arith, fresh_length m)

  fresh_slot : (m i : ℕ) → i < m → slot_at (fresh_to {X = X} m) i ≡ empty (i + 1)
  fresh_slot zero i low = absurd (omega arith)
  fresh_slot (suc m) i low = ⊎_elim
      (λ (same : i ≡ m). rw same (get_or_at (fresh_to {X = X} m) (empty (m + 1)) [] (empty 0) m (fresh_length m)))
      (λ other. get_or_append_left (fresh_to {X = X} m) (empty (m + 1) ∷ []) (empty 0) i (omega (arith, fresh_length m, other))
      ∙ fresh_slot m i (omega (arith, other)))
      (cases_eq i m)

module _ {X : Type 0} where
  -- slots of which none is in a list yet, but that the first k lists begin
  pub record Begun (s : List (Slot X)) (n k : ℕ) : Type 0 where
    pub slots : length s ≡ n + 6
    pub free : (i : ℕ) → i < n → slot_at s i ≡ empty (i + 1)
    pub begin : (p : ℕ) → p < k → slot_at s (n + p) ≡ empty (n + p)

  pub begun_first : (s : List (Slot X)) (n : ℕ) → s ≡ fresh_to (n + 6) → Begun s n 0
  begun_first s n is = record {
    slots = ap length is ∙ fresh_length X (n + 6);
    free = λ i low. ap (λ l. slot_at l i) is ∙ fresh_slot X (n + 6) i (omega (arith, low));
    begin = λ p low. absurd (omega (arith, low));
  }

  module _ (s one two : List (Slot X)) (n last : ℕ) (b : Begun s n 5) (before : last + 1 ≡ n)
      (w1 : one ≡ set s last (empty (n + 5))) (w2 : two ≡ set one (n + 5) (empty 0)) where
    same_else : (i : ℕ) → i ≢ last → i ≢ n + 5 → slot_at two i ≡ slot_at s i
    same_else i ul ur = ap (λ l. slot_at l i) w2 ∙ get_or-set_other one (n + 5) i (empty 0) (empty 0) ur
        ∙ ap (λ l. slot_at l i) w1 ∙ get_or-set_other s last i (empty (n + 5)) (empty 0) ul

    at_last : slot_at two last ≡ empty (n + 5)
    at_last = ap (λ l. slot_at l last) w2 ∙ get_or-set_other one (n + 5) last (empty 0) (empty 0) (λ e. absurd (omega (arith, e, before)))
        ∙ ap (λ l. slot_at l last) w1 ∙ get_or-set_same s last (empty (n + 5)) (empty 0) (omega (arith, b.slots, before))

    one_length : length one ≡ n + 6
    one_length = ap length w1 ∙ length-set s last (empty (n + 5)) ∙ b.slots

    at_root : slot_at two (n + 5) ≡ empty 0
    at_root = ap (λ l. slot_at l (n + 5)) w2 ∙ get_or-set_same one (n + 5) (empty 0) (empty 0) (omega (arith, one_length))

    -- the free slots from i on
    chain : (k i : ℕ) → i + k ≡ last → Leads (link_at two) (item_at two) n last i (replicate k None)
    chain zero i is = omega (arith, is)
    chain (suc k) i is =
        let here : slot_at two i ≡ empty (i + 1) =
        same_else i (λ e. absurd (omega (arith, e, is))) (λ e. absurd (omega (arith, e, is, before))) ∙ b.free i (omega (arith, is, before)) in
        let link : link_at two i ≡ i + 1 = ap (λ (q : Slot X). q.link) here in
        rw link (omega (arith, is, before), no_item (i + 1) (omega (arith, is, before)), chain k (i + 1) (omega (arith, is)))
      where
        no_item : (j : ℕ) → j < n → item_at two j ≡ None
        no_item j low = ⊎_elim (λ (same : j ≡ last). ap (λ q. item_at two q) same ∙ ap (λ (q : Slot X). q.item) at_last)
            (λ other. ap (λ (q : Slot X). q.item) (same_else j other (λ e. absurd (omega (arith, e, low))) ∙ b.free j low)) (cases_eq j last)

    root_is : (p : ℕ) → p < 5 → link_at two (n + p) ≡ n + p
    root_is p low = ap (λ (q : Slot X). q.link) (same_else (n + p) (λ e. absurd (omega (arith, e, before))) (λ e. absurd (omega (arith, e, low)))
        ∙ b.begin p low)

    abbrev tails : List ℕ
    tails = n ∷ (n + 1) ∷ (n + 2) ∷ (n + 3) ∷ (n + 4) ∷ last ∷ []

    free_list : IsList (link_at two) (item_at two) n (n + 5) last (n + 5) (replicate n None)
    free_list =
        let link : link_at two (n + 5) ≡ 0 = ap (λ (q : Slot X). q.link) at_root in
        let nothing : Option X = None in
        let whole : replicate (suc last) nothing ≡ replicate n nothing =
        (let count : suc last ≡ n = omega (arith, before) in ap (λ k. replicate k nothing) count) in
        subst (λ xs. IsList (link_at two) (item_at two) n (n + 5) last (n + 5) xs) whole
        (rw link (omega (arith, before), first, chain last 0 (omega arith)), ap (λ (q : Slot X). q.link) at_last)
      where
        first : item_at two 0 ≡ None
        first = ⊎_elim (λ (same : 0 ≡ last). ap (λ q. item_at two q) same ∙ ap (λ (q : Slot X). q.item) at_last)
            (λ other. ap (λ (q : Slot X). q.item) (same_else 0 other (λ e. absurd (omega (arith, e))) ∙ b.free 0 (omega (arith, before)))) (cases_eq 0 last)

    begun_held : Holds two n tails (six {X = X} (replicate 5 []) (replicate n None))
    begun_held = record {
      six = refl;
      slots = ap length w2 ∙ length-set one (n + 5) (empty 0) ∙ one_length;
      ends = refl;
      lists = go;
      whole = let nothing : Option X = None in sum_six {X = X} (replicate 5 []) (replicate n None) ∙ omega (arith, length-replicate n nothing);
    } where
      go : (p : ℕ) → p < 6
          → IsList (link_at two) (item_at two) n (n + p) (get_or tails p 0) (n + p) (get_or (six {X = X} (replicate 5 []) (replicate n None)) p [])
      go zero low = let here : n + 0 ≡ n = omega arith in (here, ap (link_at two) (sym here) ∙ root_is 0 (omega arith))
      go (suc zero) low = (refl, root_is 1 (omega arith))
      go (suc (suc zero)) low = (refl, root_is 2 (omega arith))
      go (suc (suc (suc zero))) low = (refl, root_is 3 (omega arith))
      go (suc (suc (suc (suc zero)))) low = (refl, root_is 4 (omega arith))
      go (suc (suc (suc (suc (suc zero))))) low = free_list
      go (suc (suc (suc (suc (suc (suc k)))))) low = absurd (omega (arith, low))

    pub begun_linked : n ≤ 1024 → IsLinked two n tails
    begun_linked most = linked_is two n tails (replicate 5 []) (replicate n None) refl begun_held (omega (arith, before)) most

    pub begun_waiting : waiting two n ≡ replicate 5 []
    begun_waiting = waiting_is two n tails (replicate 5 []) (replicate n None) refl begun_held
