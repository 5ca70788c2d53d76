use Rattle.std.proofs.Common.{◌≡◌, ◌⊎◌, inl, inr, ℕ, ◌<◌, Bool, true, false, refl, sym, ap, subst, ◌∙◌, Option, Some, None, ◌==◌, ◌&&◌, not, nat_lt}
use Rattle.std.{proofs.Common.{if◌then◌else◌, is_none}, specs.List.list_any}
use Rattle.dali_statement.{specs.Page.{Gear, holds, Plan, Site, is_told, Reserves, Enrols, Releases, happens, are_apart, allowed}, proofs.Moved.At}
use Rattle.dali_statement.proofs.{Sound.{one_at, apart_at}, Steps.{Safe, told_gear}, Tests.{first_of_both, second_of_both, either, equal, equals, below}}
use Rattle.dali_statement.proofs.Tests.{some_is, holds_is, not_true}

-- RECORDS keep what is sound.

none_by : {A : Type 0} (o : Option A) → is_none o ≡ true → o ≡ None
none_by {A} None e = refl
none_by {A} (Some x) e = absurd (cc)

module _ (p : Plan) (s : Site) (safe : Safe p s) where
  pub enrols : (c a r : ℕ) → allowed p s (Enrols c a r) ≡ true → Safe p (happens s (Enrols c a r))
  enrols c a r may = record {
    sound = record {
      once = safe.sound.once;
      short = safe.sound.short;
      within = safe.sound.within;
      for_gear = safe.sound.for_gear;
      owned = safe.sound.owned;
      told_of = safe.sound.told_of;
      tables = λ d b n e. go d b n (either (s.enrolled d b n) _ e);
    };
    knows = safe.knows;
  } where
    go : (d b n : ℕ) → (s.enrolled d b n ≡ true) ⊎ (((d == c) && ((b == a) && (n == r))) ≡ true)
        → (g : ℕ) × (x : Gear) × At s.gear g x × (x.short ≡ Some b) × (x.random ≡ n)
    go d b n (inl was) = safe.sound.tables d b n was
    go d b n (inr new) =
        let told = told_gear p s safe a r may in
        let rest = second_of_both (d == c) ((b == a) && (n == r)) new in
        (told.0, told.1, told.2, told.3 ∙ ap (λ k. Some k) (sym (equal b a (first_of_both _ _ rest))), told.4 ∙ sym (equal n r (second_of_both _ _ rest)))

  -- no gear has an address that its owner has not reserved, and that no gear came with
  free : (c a : ℕ) → p.block a ≡ c → s.reserved c a ≡ None → (list_any (λ y. holds a y.short) p.gear ≡ true → ⊥)
      → (g : ℕ) (x : Gear) → At s.gear g x → x.short ≡ Some a → ⊥
  free c a own none unused g x at is = go (safe.sound.owned g a x at is) where
    go : (list_any (λ y. holds a y.short) p.gear ≡ true) ⊎ ((d : ℕ) × (s.reserved d a ≡ Some x.random)) → ⊥
    go (inl used) = unused used
    go (inr by) =
        let same : by.0 ≡ c = sym (safe.sound.within by.0 a x.random by.1).0 ∙ own in
        let is : None ≡ Some x.random = sym none ∙ ap (λ d. s.reserved d a) (sym same) ∙ by.1 in absurd (cc)

  pub reserves : (c a r : ℕ) → allowed p s (Reserves c a r) ≡ true → Safe p (happens s (Reserves c a r))
  reserves c a r may = record {
    sound = record {
      once = safe.sound.once;
      short = safe.sound.short;
      within = λ d b n e. within d b n ((d == c) && (b == a)) refl e;
      for_gear = λ d b n g x e at is. for_gear d b n g x at is ((d == c) && (b == a)) refl e;
      owned = λ g b x at is. owned g b x at is (safe.sound.owned g b x at is);
      told_of = safe.sound.told_of;
      tables = safe.sound.tables;
    };
    knows = safe.knows;
  } where
    rest : (nat_lt a 64 && (is_none (s.reserved c a) && (not (list_any (λ g. holds a g.short) p.gear) && nat_lt r 0xFFFFFF))) ≡ true
    rest = second_of_both (p.block a == c) (nat_lt a 64 && (is_none (s.reserved c a) && (not (list_any (λ g. holds a g.short) p.gear) && nat_lt r 0xFFFFFF)))
        may

    more : (is_none (s.reserved c a) && (not (list_any (λ g. holds a g.short) p.gear) && nat_lt r 0xFFFFFF)) ≡ true
    more = second_of_both (nat_lt a 64) (is_none (s.reserved c a) && (not (list_any (λ g. holds a g.short) p.gear) && nat_lt r 0xFFFFFF)) rest

    last : (not (list_any (λ g. holds a g.short) p.gear) && nat_lt r 0xFFFFFF) ≡ true
    last = second_of_both (is_none (s.reserved c a)) (not (list_any (λ g. holds a g.short) p.gear) && nat_lt r 0xFFFFFF) more

    own : p.block a ≡ c
    own = equal (p.block a) c (first_of_both (p.block a == c)
        (nat_lt a 64 && (is_none (s.reserved c a) && (not (list_any (λ g. holds a g.short) p.gear) && nat_lt r 0xFFFFFF))) may)

    none : s.reserved c a ≡ None
    none = none_by (s.reserved c a) (first_of_both (is_none (s.reserved c a)) (not (list_any (λ g. holds a g.short) p.gear) && nat_lt r 0xFFFFFF) more)

    nobody : (g : ℕ) (x : Gear) → At s.gear g x → x.short ≡ Some a → ⊥
    nobody = free c a own none (not_true (list_any (λ g. holds a g.short) p.gear)
        (first_of_both (not (list_any (λ g. holds a g.short) p.gear)) (nat_lt r 0xFFFFFF) last))

    within : (d b n : ℕ) (t : Bool) → ((d == c) && (b == a)) ≡ t → (if t then Some r else s.reserved d b) ≡ Some n → (p.block b ≡ d) × (b < 64) × (n < 0xFFFFFF)
    within d b n true here e =
        let is : b ≡ a = equal b a (second_of_both _ _ here) in (
          ap p.block is ∙ own ∙ sym (equal d c (first_of_both _ _ here)),
          subst (λ k. k < 64) (sym is)
              (below a 64 (first_of_both (nat_lt a 64) (is_none (s.reserved c a) && (not (list_any (λ g. holds a g.short) p.gear) && nat_lt r 0xFFFFFF)) rest)),
          subst (λ k. k < 0xFFFFFF) (some_is e) (below r 0xFFFFFF (second_of_both (not (list_any (λ g. holds a g.short) p.gear)) (nat_lt r 0xFFFFFF) last)),
        )
    within d b n false here e = safe.sound.within d b n e

    for_gear : (d b n g : ℕ) (x : Gear) → At s.gear g x → x.short ≡ Some b → (t : Bool) → ((d == c) && (b == a)) ≡ t
        → (if t then Some r else s.reserved d b) ≡ Some n → x.random ≡ n
    for_gear d b n g x at is true here e = absurd (nobody g x at (is ∙ ap (λ k. Some k) (equal b a (second_of_both _ _ here))))
    for_gear d b n g x at is false here e = safe.sound.for_gear d b n g x e at is

    owned : (g b : ℕ) (x : Gear) → At s.gear g x → x.short ≡ Some b
        → (list_any (λ y. holds b y.short) p.gear ≡ true) ⊎ ((d : ℕ) × (s.reserved d b ≡ Some x.random))
        → (list_any (λ y. holds b y.short) p.gear ≡ true) ⊎ ((d : ℕ) × ((if (d == c) && (b == a) then Some r else s.reserved d b) ≡ Some x.random))
    owned g b x at is (inl used) = inl used
    owned g b x at is (inr by) = inr (by.0, go ((by.0 == c) && (b == a)) refl) where
      go : (t : Bool) → ((by.0 == c) && (b == a)) ≡ t → (if t then Some r else s.reserved by.0 b) ≡ Some x.random
      go true here = absurd (nobody g x at (is ∙ ap (λ k. Some k) (equal b a (second_of_both _ _ here))))
      go false here = by.1

  pub releases : are_apart s.gear ≡ true → (c a r b : ℕ) → allowed p s (Releases c a r b) ≡ true → Safe p (happens s (Releases c a r b))
  releases apart c a r b may = record {
    sound = record {
      once = safe.sound.once;
      short = safe.sound.short;
      within = λ d e n is. let was = kept d e n ((d == c) && (e == a)) is in safe.sound.within d e n was;
      for_gear = λ d e n g x is at has. safe.sound.for_gear d e n g x (kept d e n ((d == c) && (e == a)) is) at has;
      owned = λ g e x at is. owned g e x at is (safe.sound.owned g e x at is);
      told_of = safe.sound.told_of;
      tables = safe.sound.tables;
    };
    knows = safe.knows;
  } where
    is_for : s.reserved c a ≡ Some r
    is_for = holds_is r (s.reserved c a) (first_of_both (holds r (s.reserved c a)) (is_told s b r && not (a == b)) may)

    rest : (is_told s b r && not (a == b)) ≡ true
    rest = second_of_both (holds r (s.reserved c a)) (is_told s b r && not (a == b)) may

    kept : (d e n : ℕ) (t : Bool) → (if t then None else s.reserved d e) ≡ Some n → s.reserved d e ≡ Some n
    kept d e n true is = absurd (cc)
    kept d e n false is = is

    -- the gear with the number has the other address
    nobody : (g : ℕ) (x : Gear) → At s.gear g x → x.short ≡ Some a → ⊥
    nobody g x at is =
        let told = told_gear p s safe b r (first_of_both (is_told s b r) (not (a == b)) rest) in
        let number : x.random ≡ r = safe.sound.for_gear c a r g x is_for at is in
        let small = subst (λ n. n < 0xFFFFFF) (sym number) (safe.sound.within c a r is_for).2 in
        let here = apart_at s.gear g told.0 x told.1 apart at told.2 (number ∙ sym told.4) small in
        let one = one_at s.gear told.0 x told.1 (subst (λ k. At s.gear k x) here at) told.2 in
        let both : a ≡ b = some_is (sym is ∙ ap (λ y. y.short) one ∙ told.3) in
        not_true (a == b) (second_of_both (is_told s b r) (not (a == b)) rest) (equals a b both)

    owned : (g e : ℕ) (x : Gear) → At s.gear g x → x.short ≡ Some e
        → (list_any (λ y. holds e y.short) p.gear ≡ true) ⊎ ((d : ℕ) × (s.reserved d e ≡ Some x.random))
        → (list_any (λ y. holds e y.short) p.gear ≡ true) ⊎ ((d : ℕ) × ((if (d == c) && (e == a) then None else s.reserved d e) ≡ Some x.random))
    owned g e x at is (inl used) = inl used
    owned g e x at is (inr by) = inr (by.0, go ((by.0 == c) && (e == a)) refl) where
      go : (t : Bool) → ((by.0 == c) && (e == a)) ≡ t → (if t then None else s.reserved by.0 e) ≡ Some x.random
      go true here = absurd (nobody g x at (is ∙ ap (λ k. Some k) (equal e a (second_of_both _ _ here))))
      go false here = by.1
