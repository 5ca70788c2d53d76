use Rattle.std.proofs.Common.{◌≡◌, ◌⊎◌, inl, inr, ℕ, ◌<◌, ◌+◌, ◌*◌, ◌/◌, ◌%◌, Bool, true, false, refl, sym, ap, subst, ◌∙◌, arith, List, Option, Some, None}
use Rattle.std.{proofs.Common.{◌==◌, if◌then◌else◌}, specs.List.list_any}
use Rattle.dali_statement.{specs.Page.{Part, High, Middle, Low, byte, Gear, holds, Plan, are_apart}, proofs.{Moved.At, One.IsShort, Tests.{equal, some_is}}}
use Rattle.dali_statement.proofs.Tests.{differ_at}

-- WHAT IS SOUND of gear, records and what was told.

pub record Sound (p : Plan) (gs : List Gear) (reserved : ℕ → ℕ → Option ℕ) (enrolled : ℕ → ℕ → ℕ → Bool) (told : Part → ℕ → ℕ → Bool) : Type 0 where
  pub once : (g h a : ℕ) (x y : Gear) → At gs g x → At gs h y → x.short ≡ Some a → y.short ≡ Some a → g ≡ h
  pub short : (g : ℕ) (x : Gear) → At gs g x → IsShort x
  -- an address that is reserved is one of the block, for a number below FFFFFF; a gear that has it has the number
  pub within : (c a r : ℕ) → reserved c a ≡ Some r → (p.block a ≡ c) × (a < 64) × (r < 0xFFFFFF)
  pub for_gear : (c a r g : ℕ) (x : Gear) → reserved c a ≡ Some r → At gs g x → x.short ≡ Some a → x.random ≡ r
  -- an address that a gear has is one that gear came with, or reserved for its number
  pub owned : (g a : ℕ) (x : Gear) → At gs g x → x.short ≡ Some a → (list_any (λ y. holds a y.short) p.gear ≡ true) ⊎ ((c : ℕ) × (reserved c a ≡ Some x.random))
  pub told_of : (q : Part) (a v : ℕ) → a < 64 → told q a v ≡ true → (g : ℕ) × (x : Gear) × At gs g x × (x.short ≡ Some a) × (byte q x.random ≡ v)
  pub tables : (c a r : ℕ) → enrolled c a r ≡ true → (g : ℕ) × (x : Gear) × At gs g x × (x.short ≡ Some a) × (x.random ≡ r)

-- ---------------------------------------------------------------- gear and numbers

pub one_at : (gs : List Gear) (g : ℕ) (x y : Gear) → At gs g x → At gs g y → x ≡ y
one_at gs g x y at there = some_is (sym at ∙ there)

-- two gear with one number are the same
pub apart_at : (gs : List Gear) (g h : ℕ) (x y : Gear) → are_apart gs ≡ true → At gs g x → At gs h y → x.random ≡ y.random → x.random < 0xFFFFFF → g ≡ h
apart_at gs g h x y apart at there same drawn =
    differ_at (λ z. if z.random == 0xFFFFFF then None else Some z.random) gs apart g h x.random x y at there (key x.random x.random drawn refl)
    (key y.random x.random (subst (λ n. n < 0xFFFFFF) same drawn) (sym same)) where
      key : (n m : ℕ) → n < 0xFFFFFF → n ≡ m → (if n == 0xFFFFFF then None else Some n) ≡ Some m
      key n m drawn is = go (n == 0xFFFFFF) refl where
        go : (t : Bool) → (n == 0xFFFFFF) ≡ t → (if t then None else Some n) ≡ Some m
        go true mask = absurd (let e : n ≡ 0xFFFFFF = equal n 0xFFFFFF mask in omega arith)
        go false mask = ap (λ k. Some k) is

whole : (n : ℕ) → n / 65536 * 65536 + n / 256 % 256 * 256 + n % 256 ≡ n
whole n = omega arith

pub same_bytes : (n m : ℕ) → byte High n ≡ byte High m → byte Middle n ≡ byte Middle m → byte Low n ≡ byte Low m → n ≡ m
same_bytes n m high middle low = sym (whole n) ∙ rw (high, middle, low) (whole m)

-- ---------------------------------------------------------------- a change of gear

-- each keeps what it has; what is new was reserved for its number
pub record Moves (reserved : ℕ → ℕ → Option ℕ) (gs hs : List Gear) : Type 0 where
  pub to : (g a : ℕ) (x : Gear) → At gs g x → x.short ≡ Some a → (y : Gear) × At hs g y × (y.short ≡ Some a) × (y.random ≡ x.random)
  pub from : (g a : ℕ) (y : Gear) → At hs g y → y.short ≡ Some a
      → (x : Gear) × At gs g x × (y.random ≡ x.random) × ((x.short ≡ Some a) ⊎ ((c : ℕ) × (reserved c a ≡ Some x.random)))

module _ (p : Plan) (gs hs : List Gear) (reserved : ℕ → ℕ → Option ℕ) (enrolled : ℕ → ℕ → ℕ → Bool) (told : Part → ℕ → ℕ → Bool)
    (apart : are_apart gs ≡ true) (sound : Sound p gs reserved enrolled told) (moves : Moves reserved gs hs) where
  abbrev Was : ℕ → Gear → Type 0
  Was a x = (x.short ≡ Some a) ⊎ ((c : ℕ) × (reserved c a ≡ Some x.random))

  -- whoever had the address or has got it has the number for which it is reserved
  number_of : (c a r g : ℕ) (x : Gear) → reserved c a ≡ Some r → At gs g x → Was a x → x.random ≡ r
  number_of c a r g x is at (inl had) = sound.for_gear c a r g x is at had
  number_of c a r g x is at (inr new) =
      some_is (sym (ap (λ d. reserved d a) (sym (sound.within c a r is).0 ∙ (sound.within new.0 a x.random new.1).0) ∙ new.1) ∙ is)

  same_gear : (g h a : ℕ) (x y : Gear) → At gs g x → At gs h y → Was a x → Was a y → g ≡ h
  same_gear g h a x y at there (inl had) (inl has) = sound.once g h a x y at there had has
  same_gear g h a x y at there (inr new) other =
      apart_at gs g h x y apart at there (sym (number_of new.0 a x.random h y new.1 there other)) (sound.within new.0 a x.random new.1).2
  same_gear g h a x y at there (inl had) (inr new) =
      apart_at gs g h x y apart at there (number_of new.0 a y.random g x new.1 at (inl had))
      (subst (λ n. n < 0xFFFFFF) (sym (number_of new.0 a y.random g x new.1 at (inl had))) (sound.within new.0 a y.random new.1).2)

  pub sound_after : Sound p hs reserved enrolled told
  sound_after = record {
    once = λ g h a x y at there is same. let first = moves.from g a x at is in let second = moves.from h a y there same in
        same_gear g h a first.0 second.0 first.1 second.1 first.3 second.3;
    short = λ g y at a is. let was = moves.from g a y at is in is_short g a was.0 was.1 was.3;
    within = sound.within;
    for_gear = λ c a r g y is at has. let was = moves.from g a y at has in was.2 ∙ number_of c a r g was.0 is was.1 was.3;
    owned = λ g a y at is. let was = moves.from g a y at is in is_owned g a was.0 y was.1 was.2 was.3;
    told_of = λ q a v small e. let of = sound.told_of q a v small e in let now = moves.to of.0 a of.1 of.2 of.3 in
        (of.0, now.0, now.1, now.2, ap (byte q) now.3 ∙ of.4);
    tables = λ c a r e. let of = sound.tables c a r e in let now = moves.to of.0 a of.1 of.2 of.3 in (of.0, now.0, now.1, now.2, now.3 ∙ of.4);
  } where
    is_short : (g a : ℕ) (x : Gear) → At gs g x → (x.short ≡ Some a) ⊎ ((c : ℕ) × (reserved c a ≡ Some x.random)) → a < 64
    is_short g a x at (inl had) = sound.short g x at a had
    is_short g a x at (inr new) = (sound.within new.0 a x.random new.1).1

    is_owned : (g a : ℕ) (x y : Gear) → At gs g x → y.random ≡ x.random → (x.short ≡ Some a) ⊎ ((c : ℕ) × (reserved c a ≡ Some x.random))
        → (list_any (λ z. holds a z.short) p.gear ≡ true) ⊎ ((c : ℕ) × (reserved c a ≡ Some y.random))
    is_owned g a x y at same (inr new) = inr (new.0, new.1 ∙ ap (λ n. Some n) (sym same))
    is_owned g a x y at same (inl had) = go (sound.owned g a x at had) where
      go : (list_any (λ z. holds a z.short) p.gear ≡ true) ⊎ ((c : ℕ) × (reserved c a ≡ Some x.random))
          → (list_any (λ z. holds a z.short) p.gear ≡ true) ⊎ ((c : ℕ) × (reserved c a ≡ Some y.random))
      go (inl used) = inl used
      go (inr by) = inr (by.0, by.1 ∙ ap (λ n. Some n) (sym same))
