use Rattle.std.proofs.Common.{◌≡◌, ◌⊎◌, inl, inr, ℕ, ◌<◌, ◌+◌, ◌*◌, Bool, true, false, refl, sym, ap, subst, ◌∙◌, arith, List, ◌∷◌, Option, Some, None, ◌&&◌}
use Rattle.std.{proofs.Common.{nat_lt, if◌then◌else◌, option_map, slice_get}, specs.{Prelude.unwrap_or, List.list_all}}
use Rattle.dali_statement.proofs.{Tests.{both, first_of_both, second_of_both, equal, below, below_by, holds_is, any_at, all_at}, Moved.{At, Becomes, befallen}}
use Rattle.dali_statement.proofs.{Moved.{befalling, Takes, taken, taking}, One.{Knows, Few, Given, HeardOf, kept_by, new_by, knows_after, knows_missed}}
use Rattle.dali_statement.{proofs.{One.{searched, found_live, found_random}, Sound.{Sound, Moves, one_at, same_bytes, apart_at}}, specs.Page.{Part, High}}
use Rattle.dali_statement.specs.Page.{Middle, Low, same, byte, Command, QueryShort, QueryRandom, Other, Gear, is_found, takes, holds, answer, code, Heard, Byte}
use Rattle.dali_statement.specs.Page.{Sent, Destroyed, Plan, Site, number_sent, is_told, tells, frame_at, gear_after, hears, are_apart, may_send}

-- EACH MOMENT that is allowed keeps what is sound.

pub record Safe (p : Plan) (s : Site) : Type 0 where
  pub sound : Sound p s.gear s.reserved s.enrolled s.told
  pub knows : (c g : ℕ) (x : Gear) → At s.gear g x → Knows (s.said c) x

-- ---------------------------------------------------------------- a frame

answered : (x : Gear) (v : ℕ) → holds v (answer QueryShort x) ≡ true → (is_found x ≡ true) × (code x.short ≡ v)
answered x v e = go (is_found x) refl e where
  go : (t : Bool) → is_found x ≡ t → holds v (if t then Some (code x.short) else None) ≡ true → (is_found x ≡ true) × (code x.short ≡ v)
  go true found e = (found, equal (code x.short) v e)
  go false found e = absurd (cc)

-- a gear takes a frame that some sender may send
abbrev pub Took : Site → Gear → Gear → Type 0
Took s x y = (y ≡ x) ⊎ ((c : ℕ) × (m : Command) × (n : ℕ) × (may_send s c m ≡ true) × (y ≡ takes m n x))

module _ (p : Plan) (s : Site) (safe : Safe p s) where
  few : (c : ℕ) → Few s c
  few c a r e = (safe.sound.within c a r e).2

  module _ (hs : List Gear) (to : (g : ℕ) (x : Gear) → At s.gear g x → (y : Gear) × At hs g y × Took s x y)
      (from : (g : ℕ) (y : Gear) → At hs g y → (x : Gear) × At s.gear g x × Took s x y) where
    took_to : (g a : ℕ) (x : Gear) → At s.gear g x → x.short ≡ Some a → (y : Gear) × At hs g y × (y.short ≡ Some a) × (y.random ≡ x.random)
    took_to g a x at is = let now = to g x at in let here = go now.0 now.2 in (now.0, now.1, here.0, here.1) where
      go : (y : Gear) → Took s x y → (y.short ≡ Some a) × (y.random ≡ x.random)
      go y (inl missed) = (ap (λ z. z.short) missed ∙ is, ap (λ z. z.random) missed)
      go y (inr took) =
          let kept = kept_by s took.0 took.1 took.2 a x (few took.0) (safe.knows took.0 g x at) took.3 is in
          (ap (λ z. z.short) took.4 ∙ kept.0, ap (λ z. z.random) took.4 ∙ kept.1)

    took_from : (g a : ℕ) (y : Gear) → At hs g y → y.short ≡ Some a
        → (x : Gear) × At s.gear g x × (y.random ≡ x.random) × ((x.short ≡ Some a) ⊎ ((d : ℕ) × (s.reserved d a ≡ Some x.random)))
    took_from g a y at is = let was = from g y at in let here = go was.0 was.1 was.2 in (was.0, was.1, here.0, here.1) where
      go : (x : Gear) → At s.gear g x → Took s x y → (y.random ≡ x.random) × ((x.short ≡ Some a) ⊎ ((d : ℕ) × (s.reserved d a ≡ Some x.random)))
      go x there (inl missed) = (ap (λ z. z.random) missed, inl (ap (λ z. z.short) (sym missed) ∙ is))
      go x there (inr took) =
          by (new_by s took.0 took.1 took.2 a x (few took.0) (safe.knows took.0 g x there) took.3 (ap (λ z. z.short) (sym took.4) ∙ is)) where
            by : (x.short ≡ Some a) ⊎ (Given s took.0 a x × ((takes took.1 took.2 x).random ≡ x.random))
                → (y.random ≡ x.random) × ((x.short ≡ Some a) ⊎ ((d : ℕ) × (s.reserved d a ≡ Some x.random)))
            by (inl had) = (ap (λ z. z.random) took.4 ∙ (kept_by s took.0 took.1 took.2 a x (few took.0) (safe.knows took.0 g x there) took.3 had).1, inl had)
            by (inr new) = (ap (λ z. z.random) took.4 ∙ new.1, inr (took.0, new.0))

    pub took_moves : Moves s.reserved s.gear hs
    took_moves = record { to = took_to; from = took_from }

  -- ---------------------------------------------------------------- a frame that is whole

  heard_of : are_apart s.gear ≡ true → (c : ℕ) (m : Command) (h : Heard) → hears m h s.gear ≡ true → (g : ℕ) (x : Gear) → At s.gear g x
      → HeardOf (s.said c) m h x
  heard_of apart c QueryShort (Byte v) e g x at =
      let any = any_at (λ y. holds v (answer QueryShort y)) s.gear e in
      let has = answered any.1 v any.3 in
      λ r sent small is. let other : any.1.random ≡ r =
      found_random any.1 has.0 ∙ searched (s.said c) any.1 r (safe.knows c any.0 any.1 any.2) sent (found_live any.1 has.0) in
      let here : g ≡ any.0 =
      apart_at s.gear g any.0 x any.1 apart at any.2 (is ∙ sym other) (subst (λ n. n < 0xFFFFFF) (sym is) small) in
      ap (λ y. code y.short) (one_at s.gear any.0 x any.1 (subst (λ k. At s.gear k x) here at) any.2) ∙ has.1
  heard_of apart c _ _ e g x at = tt

  module _ (m : Command) (ws : List (ℕ × Heard)) (reach : List (Option ℕ)) where
    pub frame_moves : (c : ℕ) → may_send s c m ≡ true → Moves s.reserved s.gear (gear_after (Sent m ws reach) s.gear)
    frame_moves c may = took_moves (gear_after (Sent m ws reach) s.gear)
        (λ g x at. let now = taking m ws reach s.gear g x at in (now.0, now.1, go x now.0 now.2))
        (λ g y at. let was = taken m ws reach s.gear g y at in (was.0, was.1, go was.0 y was.2)) where
          go : (x y : Gear) → Takes m x y → Took s x y
          go x y (inl missed) = inl missed.1
          go x y (inr took) = inr (c, m, took.0, may, took.1)

    pub frame_knows : are_apart s.gear ≡ true → (c : ℕ) (h : Heard) → may_send s c m ≡ true → hears m h s.gear ≡ true → (g : ℕ) (y : Gear)
        → At (gear_after (Sent m ws reach) s.gear) g y → Knows ((m, h) ∷ s.said c) y
    frame_knows apart c h may heard g y at = let was = taken m ws reach s.gear g y at in go was.0 was.1 was.2 where
      go : (x : Gear) → At s.gear g x → Takes m x y → Knows ((m, h) ∷ s.said c) y
      go x there (inl missed) = subst (λ z. Knows ((m, h) ∷ s.said c) z) (sym missed.1) (knows_missed (s.said c) m h x missed.0 (safe.knows c g x there))
      go x there (inr took) = subst (λ z. Knows ((m, h) ∷ s.said c) z) (sym took.1) (knows_after s c m h took.0 x (safe.sound.short g x there)
          (safe.knows c g x there) may (heard_of apart c m h heard g x there))

  -- ---------------------------------------------------------------- frames that are destroyed

  pub destroyed_moves : (frames : List (ℕ × Command)) (reach : List (Option (ℕ × ℕ))) → list_all (λ f. may_send s f.0 f.1) frames ≡ true
      → Moves s.reserved s.gear (gear_after (Destroyed frames reach) s.gear)
  destroyed_moves frames reach may = took_moves (gear_after (Destroyed frames reach) s.gear)
      (λ g x at. let now = befalling change reach s.gear g x at in (now.0, now.1, go x now.0 now.2))
      (λ g y at. let was = befallen change reach s.gear g y at in (was.0, was.1, go was.0 y was.2)) where
        change : ℕ × ℕ → Gear → Gear
        change = λ w g. takes (frame_at frames w.0) w.1 g

        go : (x y : Gear) → Becomes change x y → Took s x y
        go x y (inl missed) = inl missed
        go x y (inr took) = by (slice_get frames took.0.0) refl took.1 where
          by : (o : Option (ℕ × Command)) → slice_get frames took.0.0 ≡ o
              → y ≡ takes (unwrap_or (option_map (λ f. f.1) (slice_get frames took.0.0)) Other) took.0.1 x → Took s x y
          by None at e = inl (e ∙ ap (λ o. takes (unwrap_or (option_map (λ f. f.1) o) Other) took.0.1 x) at)
          by (Some f) at e = inr (
            f.0,
            f.1,
            took.0.1,
            all_at (λ k. may_send s k.0 k.1) frames took.0.0 f may at,
            e ∙ ap (λ o. takes (unwrap_or (option_map (λ k. k.1) o) Other) took.0.1 x) at,
          )

-- ---------------------------------------------------------------- what an answer tells

code_is : (a : ℕ) (o : Option ℕ) → a < 64 → ((b : ℕ) → o ≡ Some b → b < 64) → code o ≡ code (Some a) → o ≡ Some a
code_is a None small short e = absurd (omega arith)
code_is a (Some b) small short e = ap (λ n. Some n) (omega arith)

told_byte : (q : Part) (v : ℕ) (o : Option ℕ) → holds v (option_map (byte q) o) ≡ true → (r : ℕ) × (o ≡ Some r) × (byte q r ≡ v)
told_byte q v None e = absurd (cc)
told_byte q v (Some r) e = (r, refl, equal (byte q r) v e)

spelled : (x : Gear) (b w : ℕ) (q : Part) → holds w (answer (QueryRandom b q) x) ≡ true → (x.short ≡ Some b) × (byte q x.random ≡ w)
spelled x b w q e = go (holds b x.short) refl e where
  go : (t : Bool) → holds b x.short ≡ t → holds w (if t then Some (byte q x.random) else None) ≡ true → (x.short ≡ Some b) × (byte q x.random ≡ w)
  go true has e = (holds_is b x.short has, equal (byte q x.random) w e)
  go false has e = absurd (cc)

same_is : (q r : Part) → same q r ≡ true → q ≡ r
same_is High High e = refl
same_is Middle Middle e = refl
same_is Low Low e = refl
same_is _ _ e = absurd (cc)

pub told_true : (p : Plan) (s : Site) (c : ℕ) (m : Command) (h : Heard) → Safe p s → hears m h s.gear ≡ true → (q : Part) (a v : ℕ) → a < 64
    → tells m h (s.said c) q a v ≡ true → (g : ℕ) × (x : Gear) × At s.gear g x × (x.short ≡ Some a) × (byte q x.random ≡ v)
told_true p s c QueryShort (Byte w) safe heard q a v small e =
    let any = any_at (λ x. holds w (answer QueryShort x)) s.gear heard in
    let sent = told_byte q v (number_sent (s.said c)) (second_of_both _ _ e) in
    let x = any.1 in
    let has = answered x w any.3 in
    let at : x.random ≡ sent.0 = found_random x has.0 ∙ searched (s.said c) x sent.0 (safe.knows c any.0 x any.2) sent.1 (found_live x has.0) in (
      any.0,
      x,
      any.2,
      code_is a x.short small (safe.sound.short any.0 x any.2) (has.1 ∙ equal w (code (Some a)) (first_of_both _ _ e)),
      ap (byte q) at ∙ sent.2,
    )
told_true p s c (QueryRandom b r) (Byte w) safe heard q a v small e =
    let any = any_at (λ x. holds w (answer (QueryRandom b r) x)) s.gear heard in
    let has = spelled any.1 b w r any.3 in
    let rest = second_of_both _ _ e in (
      any.0,
      any.1,
      any.2,
      has.0 ∙ ap (λ n. Some n) (sym (equal a b (first_of_both _ _ e))),
      ap (λ t. byte t any.1.random) (same_is q r (first_of_both _ _ rest)) ∙ has.1 ∙ sym (equal v w (second_of_both _ _ rest)),
    )
told_true p s c _ _ safe heard q a v small e = absurd (cc)

-- the gear that was told to have a random address, if all that was told is true
abbrev pub Told : Type 0
Told = Part → ℕ → ℕ → Bool

abbrev pub told_so : Told → ℕ → ℕ → Bool
told_so told a r = nat_lt a 64 && (told High a (byte High r) && (told Middle a (byte Middle r) && told Low a (byte Low r)))

abbrev pub IsTrue : Told → List Gear → Type 0
IsTrue told gs = (q : Part) (a v : ℕ) → a < 64 → told q a v ≡ true → (g : ℕ) × (x : Gear) × At gs g x × (x.short ≡ Some a) × (byte q x.random ≡ v)

pub told_by : (p : Plan) (s : Site) → Safe p s → (told : Told) → IsTrue told s.gear → (a r : ℕ) → told_so told a r ≡ true
    → (g : ℕ) × (x : Gear) × At s.gear g x × (x.short ≡ Some a) × (x.random ≡ r)
told_by p s safe told true_of a r e =
    let small = below a 64 (first_of_both _ _ e) in
    let rest = second_of_both _ _ e in
    let more = second_of_both _ _ rest in
    let high = true_of High a (byte High r) small (first_of_both _ _ rest) in
    let middle = true_of Middle a (byte Middle r) small (first_of_both _ _ more) in
    let low = true_of Low a (byte Low r) small (second_of_both _ _ more) in
    let x = high.1 in
    let same_as : (g : ℕ) (y : Gear) → At s.gear g y → y.short ≡ Some a → y ≡ x =
    λ g y at has. one_at s.gear high.0 y x (subst (λ k. At s.gear k y) (safe.sound.once g high.0 a y x at high.2 has high.3) at) high.2 in (
      high.0,
      x,
      high.2,
      high.3,
      same_bytes x.random r high.4
          (ap (λ y. byte Middle y.random) (sym (same_as middle.0 middle.1 middle.2 middle.3)) ∙ middle.4)
          (ap (λ y. byte Low y.random) (sym (same_as low.0 low.1 low.2 low.3)) ∙ low.4),
    )

pub told_gear : (p : Plan) (s : Site) → Safe p s → (a r : ℕ) → is_told s a r ≡ true → (g : ℕ) × (x : Gear) × At s.gear g x × (x.short ≡ Some a) × (x.random ≡ r)
told_gear p s safe a r e = told_by p s safe s.told safe.sound.told_of a r e

-- three bytes that were told of one gear are those of its random address
pub bytes_tell : (p : Plan) (s : Site) → Safe p s → (a high middle low : ℕ) → a < 64 → s.told High a high ≡ true → s.told Middle a middle ≡ true
    → s.told Low a low ≡ true → is_told s a (high * 65536 + middle * 256 + low) ≡ true
bytes_tell p s safe a high middle low small told_high told_middle told_low =
    let first = safe.sound.told_of High a high small told_high in
    let second = safe.sound.told_of Middle a middle small told_middle in
    let third = safe.sound.told_of Low a low small told_low in
    let x = first.1 in
    let same_as : (g : ℕ) (y : Gear) → At s.gear g y → y.short ≡ Some a → y ≡ x =
    λ g y at has. one_at s.gear first.0 y x (subst (λ k. At s.gear k y) (safe.sound.once g first.0 a y x at first.2 has first.3) at) first.2 in
    let is_middle : byte Middle x.random ≡ middle = ap (λ y. byte Middle y.random) (sym (same_as second.0 second.1 second.2 second.3)) ∙ second.4 in
    let is_low : byte Low x.random ≡ low = ap (λ y. byte Low y.random) (sym (same_as third.0 third.1 third.2 third.3)) ∙ third.4 in
    let is : x.random ≡ high * 65536 + middle * 256 + low = all_bytes x.random high middle low first.4 is_middle is_low in
    subst (λ n. is_told s a n ≡ true) is (whole_told x.random first.4 is_middle is_low) where
      all_bytes : (n h m l : ℕ) → byte High n ≡ h → byte Middle n ≡ m → byte Low n ≡ l → n ≡ h * 65536 + m * 256 + l
      all_bytes n h m l is_h is_m is_l = omega (arith, is_h, is_m, is_l)

      whole_told : (n : ℕ) → byte High n ≡ high → byte Middle n ≡ middle → byte Low n ≡ low → is_told s a n ≡ true
      whole_told n is_h is_m is_l = both (below_by a 64 small) (both (ap (s.told High a) is_h ∙ told_high)
          (both (ap (s.told Middle a) is_m ∙ told_middle) (ap (s.told Low a) is_l ∙ told_low)))
