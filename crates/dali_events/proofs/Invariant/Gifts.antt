use Rattle.std.proofs.Common.{◌≡◌, ◌↔◌, ℕ, ◌<◌, ◌⊎◌, inl, inr, true, List, [], ◌++◌, refl, sym, ap, subst, ◌∙◌, length, map, get_or, append-nil, Some, None}
use Rattle.std.proofs.lemmas.List.{map-append}
use Rattle.dali_special.specs.declared.command.Command.{Command}
use Rattle.dali_gear.specs.{Gear.Gear, Gear.fresh, Row.takes, Row.row_after, Row.drawn_of, Row.stored_short, Row.stored_of, declared.row.Reach.Reach}
use Rattle.dali_script.specs.Records.{Assignment, Has, IsOnce}
use Rattle.dali_script.proofs.Members.{Each, has_left, has_right, has_either, mapped_from, once_append, once_seconds, same_member}
use Rattle.dali_events.specs.{Laws.IsOfUsed, World.Controller, World.nobody, declared.used.Used.Used}
use Rattle.dali_events.proofs.Invariant.{Answers.stored_by, Answers.stores_at, Answers.stored_once, Known.short_from, Known.short_stored, Known.random_stored}
use Rattle.dali_events.proofs.Invariant.{Sending.takes_powered, Takes.Moved, Takes.stays, Takes.goes, Takes.moves_at, Takes.row_length}

-- WHAT HOLDS OF GIFTS: a gear holds an address where it was given it; its random address it has drawn, and somebody has
-- reserved the address for it; each gear and each address was given once.
pub record Gifts (R : Assignment → Type 0) (gs : List Gear) (ds gf : List (ℕ × ℕ)) : Type 0 where
  pub there : (g a : ℕ) → Has gf (g, a) → g < length gs
  pub holds : (g a : ℕ) → g < length gs → ((get_or gs g fresh).short ≡ Some a) ↔ Has gf (g, a)
  pub drawn : (g a : ℕ) → Has gf (g, a) → Has ds (g, (get_or gs g fresh).random)
  pub reserved : (g a : ℕ) → Has gf (g, a) → R (a, (get_or gs g fresh).random)
  pub gear_once : IsOnce (map (λ gift. gift.0) gf)
  pub address_once : IsOnce (map (λ gift. gift.1) gf)

-- two gear that hold one short address are the same
pub one_holder : (R : Assignment → Type 0) (gs : List Gear) (ds gf : List (ℕ × ℕ)) → Gifts R gs ds gf → (g h a : ℕ) → g < length gs → h < length gs
    → (get_or gs g fresh).short ≡ Some a → (get_or gs h fresh).short ≡ Some a → g ≡ h
one_holder R gs ds gf k g h a one two first second =
    ap (λ gift. gift.0) (same_member (λ gift. gift.1) gf (g, a) (h, a) k.address_once ((k.holds g a one).0 first) ((k.holds h a two).0 second) refl)

-- WHOSE AN ADDRESS IS: some controller has reserved it for the number, or a gear came with both.
abbrev pub IsOwned : List Used → List Controller → Assignment → Type 0
IsOwned us cs x = ((c : ℕ) × (c < length cs) × Has (get_or cs c nobody).records.reserved x) ⊎ IsOfUsed us x

-- gear g had no address, and stores one that is reserved for the number that it has drawn
pub record Given (R : Assignment → Type 0) (gs : List Gear) (ds : List (ℕ × ℕ)) (hs : List Gear) (g a : ℕ) : Type 0 where
  pub there : g < length gs
  pub before : (get_or gs g fresh).short ≡ None
  pub now : (get_or hs g fresh).short ≡ Some a
  pub random : (get_or hs g fresh).random ≡ (get_or gs g fresh).random
  pub reserved : R (a, (get_or gs g fresh).random)
  pub drawn : Has ds (g, (get_or gs g fresh).random)

-- ONE EVENT: what a gear was given stays, and what it is given is new
pub record Change (R : Assignment → Type 0) (gs : List Gear) (ds gf : List (ℕ × ℕ)) (hs : List Gear) (dt gt : List (ℕ × ℕ)) : Type 0 where
  pub new : List (ℕ × ℕ)
  pub more : List (ℕ × ℕ)
  pub gifts : gt ≡ gf ++ new
  pub draws : dt ≡ ds ++ more
  pub count : length hs ≡ length gs
  pub stays_short : (g a : ℕ) → g < length gs → (get_or gs g fresh).short ≡ Some a → (get_or hs g fresh).short ≡ Some a
  pub stays_random : (g a : ℕ) → g < length gs → (get_or gs g fresh).short ≡ Some a → (get_or hs g fresh).random ≡ (get_or gs g fresh).random
  pub from : (g a : ℕ) → g < length gs → (get_or hs g fresh).short ≡ Some a → ((get_or gs g fresh).short ≡ Some a) ⊎ Has new (g, a)
  pub given : (g a : ℕ) → Has new (g, a) → Given R gs ds hs g a
  pub once : IsOnce (map (λ gift. gift.0) new)

-- an event that leaves the addresses of all gear
abbrev pub SameAddresses : List Gear → ℕ → Gear → Type 0
SameAddresses gs k h = (h.short ≡ (get_or gs k fresh).short) × (h.random ≡ (get_or gs k fresh).random)

pub no_change : (R : Assignment → Type 0) (gs hs : List Gear) (ds gf : List (ℕ × ℕ)) → length hs ≡ length gs → Each fresh (SameAddresses gs) hs
    → Change R gs ds gf hs ds gf
no_change R gs hs ds gf count same = record {
  new = [];
  more = [];
  gifts = sym (append-nil gf);
  draws = sym (append-nil ds);
  count = count;
  stays_short = λ g a h e. (same g (subst (λ n. g < n) (sym count) h)).0 ∙ e;
  stays_random = λ g a h e. (same g (subst (λ n. g < n) (sym count) h)).1;
  from = λ g a h e. inl (sym (same g (subst (λ n. g < n) (sym count) h)).0 ∙ e);
  given = λ g a h. elim h [ ];
  once = tt;
}

-- A FRAME. Who stores a short address has none, has drawn its random address, and the address is reserved for it.
module _ (R : Assignment → Type 0) (c : Command) (reach : Reach) where
  moved_from : (ds : List (ℕ × ℕ)) (k a : ℕ) (g g' : Gear) → Moved reach c ds k g g' → g'.short ≡ Some a
      → (g.short ≡ Some a) ⊎ ((takes reach k g ≡ true) × (stored_short c g ≡ Some a))
  moved_from ds k a g _ (stays e) h = inl h
  moved_from ds k a g _ (goes r e drew) h = go (short_from c g a h) where
    go : (g.short ≡ Some a) ⊎ (stored_short c g ≡ Some a) → (g.short ≡ Some a) ⊎ ((takes reach k g ≡ true) × (stored_short c g ≡ Some a))
    go (inl is) = inl is
    go (inr is) = inr (e, is)

  moved_stores : (ds : List (ℕ × ℕ)) (k a : ℕ) (g g' : Gear) → Moved reach c ds k g g' → takes reach k g ≡ true → stored_short c g ≡ Some a
      → (g'.short ≡ Some a) × (g'.random ≡ g.random)
  moved_stores ds k a g _ (stays off) e is = absurd (cc)
  moved_stores ds k a g _ (goes r there drew) e is = (short_stored c g a is, random_stored c g r a is)

  pub frame_changes : (gs : List Gear) (left : List ℕ) (ds gf : List (ℕ × ℕ))
      → ((g a : ℕ) → g < length gs → (get_or gs g fresh).short ≡ Some a
      → ((get_or (row_after reach c 0 gs left) g fresh).short ≡ Some a)
      × ((get_or (row_after reach c 0 gs left) g fresh).random ≡ (get_or gs g fresh).random))
      → ((g a : ℕ) → g < length gs → (get_or gs g fresh).powered ≡ true → stored_short c (get_or gs g fresh) ≡ Some a
      → ((get_or gs g fresh).short ≡ None) × R (a, (get_or gs g fresh).random) × Has ds (g, (get_or gs g fresh).random))
      → Change R gs ds gf (row_after reach c 0 gs left) (ds ++ drawn_of reach c 0 gs left) (gf ++ stored_of reach c 0 gs)
  frame_changes gs left ds gf keeps news = record {
    new = stored_of reach c 0 gs;
    more = drawn_of reach c 0 gs left;
    gifts = refl;
    draws = refl;
    count = row_length reach c 0 gs left;
    stays_short = λ g a h e. (keeps g a h e).0;
    stays_random = λ g a h e. (keeps g a h e).1;
    from = λ g a h e. stores g a h (moved_from (drawn_of reach c 0 gs left) g a (get_or gs g fresh) (get_or (row_after reach c 0 gs left) g fresh)
        (moves_at reach c gs left g h) e);
    given = λ g a h. given g a (stored_by reach c gs g a h);
    once = stored_once reach c gs;
  } where
    stores : (g a : ℕ) → g < length gs
        → ((get_or gs g fresh).short ≡ Some a) ⊎ ((takes reach g (get_or gs g fresh) ≡ true) × (stored_short c (get_or gs g fresh) ≡ Some a))
        → ((get_or gs g fresh).short ≡ Some a) ⊎ Has (stored_of reach c 0 gs) (g, a)
    stores g a h (inl e) = inl e
    stores g a h (inr e) = inr (stores_at reach c gs g a h e.0 e.1)

    given : (g a : ℕ) → (g < length gs) × (takes reach g (get_or gs g fresh) ≡ true) × (stored_short c (get_or gs g fresh) ≡ Some a)
        → Given R gs ds (row_after reach c 0 gs left) g a
    given g a h =
        let new = news g a h.0 (takes_powered reach g (get_or gs g fresh) h.1) h.2 in
        let stored_it = moved_stores (drawn_of reach c 0 gs left) g a (get_or gs g fresh) (get_or (row_after reach c 0 gs left) g fresh)
        (moves_at reach c gs left g h.0) h.1 h.2 in
        record { there = h.0; before = new.0; now = stored_it.0; random = stored_it.1; reserved = new.1; drawn = new.2 }

-- GIFTS STAY TRUE if no two gear have one short address afterwards
module _ (R : Assignment → Type 0) (gs hs : List Gear) (ds gf dt gt : List (ℕ × ℕ))
    (one : (g h a : ℕ) → g < length hs → h < length hs → (get_or hs g fresh).short ≡ Some a → (get_or hs h fresh).short ≡ Some a → g ≡ h)
    (old : Gifts R gs ds gf) (ch : Change R gs ds gf hs dt gt) where
  given_is : (g a : ℕ) → Has gf (g, a) → (get_or gs g fresh).short ≡ Some a
  given_is g a h = (old.holds g a (old.there g a h)).1 h

  in_row : (g : ℕ) → g < length gs → g < length hs
  in_row g there = subst (λ n. g < n) (sym ch.count) there

  -- who is given an address had none before
  not_given : (g a b : ℕ) → Has gf (g, a) → Has ch.new (g, b) → ⊥
  not_given g a b h k = absurd (let has = given_is g a h in let none = (ch.given g b k).before in cc)

  old_gear : (n : ℕ) → Has (map (λ gift. gift.0) gf) n → Has (map (λ gift. gift.0) ch.new) n → ⊥
  old_gear n h k = go (mapped_from (λ gift. gift.0) gf n h) (mapped_from (λ gift. gift.0) ch.new n k) where
    go : (x : ℕ × ℕ) × Has gf x × (x.0 ≡ n) → (y : ℕ × ℕ) × Has ch.new y × (y.0 ≡ n) → ⊥
    go x y = not_given n x.0.1 y.0.1 (subst (λ m. Has gf (m, x.0.1)) x.2 x.1) (subst (λ m. Has ch.new (m, y.0.1)) y.2 y.1)

  old_address : (n : ℕ) → Has (map (λ gift. gift.1) gf) n → Has (map (λ gift. gift.1) ch.new) n → ⊥
  old_address n h k = go (mapped_from (λ gift. gift.1) gf n h) (mapped_from (λ gift. gift.1) ch.new n k) where
    go : (x : ℕ × ℕ) × Has gf x × (x.1 ≡ n) → (y : ℕ × ℕ) × Has ch.new y × (y.1 ≡ n) → ⊥
    go x y =
        let had : Has gf (x.0.0, n) = subst (λ m. Has gf (x.0.0, m)) x.2 x.1 in
        let has : Has ch.new (y.0.0, n) = subst (λ m. Has ch.new (y.0.0, m)) y.2 y.1 in
        let there = old.there x.0.0 n had in
        let new = ch.given y.0.0 n has in
        let same = one y.0.0 x.0.0 n (in_row y.0.0 new.there) (in_row x.0.0 there) new.now (ch.stays_short x.0.0 n there (given_is x.0.0 n had)) in
        not_given x.0.0 n n had (subst (λ m. Has ch.new (m, n)) same has)

  new_once : IsOnce (map (λ gift. gift.1) ch.new)
  new_once = once_seconds ch.new ch.once (λ g h a m n. one g h a (in_row g (ch.given g a m).there) (in_row h (ch.given h a n).there) (ch.given g a m).now
      (ch.given h a n).now)

  pub KeepsOne : ℕ → ℕ → Type 0
  KeepsOne g a = (g < length gs) × ((get_or hs g fresh).short ≡ Some a) × ((get_or hs g fresh).random ≡ (get_or gs g fresh).random)
      × R (a, (get_or gs g fresh).random) × Has ds (g, (get_or gs g fresh).random)

  each_gift : (g a : ℕ) → Has gf (g, a) ⊎ Has ch.new (g, a) → KeepsOne g a
  unfolding KeepsOne
  each_gift g a (inl h) =
      let there : g < length gs = old.there g a h in
      (there, ch.stays_short g a there (given_is g a h), ch.stays_random g a there (given_is g a h), old.reserved g a h, old.drawn g a h)
  each_gift g a (inr h) = let k = ch.given g a h in (k.there, k.now, k.random, k.reserved, k.drawn)

  gift_of : (g a : ℕ) → Has gt (g, a) → KeepsOne g a
  gift_of g a h = each_gift g a (has_either gf ch.new (g, a) (subst (λ xs. Has xs (g, a)) ch.gifts h))

  holding : (g a : ℕ) → g < length gs → (get_or hs g fresh).short ≡ Some a → Has gt (g, a)
  holding g a there e = subst (λ xs. Has xs (g, a)) (sym ch.gifts) (go (ch.from g a there e)) where
    go : ((get_or gs g fresh).short ≡ Some a) ⊎ Has ch.new (g, a) → Has (gf ++ ch.new) (g, a)
    go (inl is) = has_left gf ch.new (g, a) ((old.holds g a there).0 is)
    go (inr h) = has_right gf ch.new (g, a) h

  pub gifts_step : Gifts R hs dt gt
  unfolding KeepsOne
  gifts_step = record {
    there = λ g a h. subst (λ n. g < n) (sym ch.count) (gift_of g a h).0;
    holds = λ g a h. (λ e. holding g a (subst (λ n. g < n) ch.count h) e, λ k. (gift_of g a k).1);
    drawn = λ g a h. subst (λ xs. Has xs (g, (get_or hs g fresh).random)) (sym ch.draws)
        (has_left ds ch.more (g, (get_or hs g fresh).random) (subst (λ r. Has ds (g, r)) (sym (gift_of g a h).2) (gift_of g a h).4));
    reserved = λ g a h. subst (λ r. R (a, r)) (sym (gift_of g a h).2) (gift_of g a h).3;
    gear_once = subst (λ xs. IsOnce (map (λ gift. gift.0) xs)) (sym ch.gifts)
        (rw map-append (once_append (map (λ gift. gift.0) gf) (map (λ gift. gift.0) ch.new) old.gear_once ch.once old_gear));
    address_once = subst (λ xs. IsOnce (map (λ gift. gift.1) xs)) (sym ch.gifts)
        (rw map-append (once_append (map (λ gift. gift.1) gf) (map (λ gift. gift.1) ch.new) old.address_once new_once old_address));
  }

  -- what was given stays given
  pub gift_stays : (g a : ℕ) → Has gf (g, a) → Has gt (g, a)
  gift_stays g a h = subst (λ xs. Has xs (g, a)) (sym ch.gifts) (has_left gf ch.new (g, a) h)
