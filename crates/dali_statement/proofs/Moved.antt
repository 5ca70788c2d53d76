use Rattle.std.proofs.Common.{◌≡◌, ◌⊎◌, inl, inr, ℕ, zero, suc, Bool, true, false, refl, sym, ap, List, [], ◌∷◌, map, Option, Some, None}
use Rattle.std.specs.Prelude.{if◌then◌else◌, slice_get}
use Rattle.dali_statement.{specs.Page.{Command, Gear, takes, Heard, Sent, may_miss, befalls, gear_after}, proofs.Tests.some_is}

-- WHAT BECOMES OF GEAR, place by place.

-- ---------------------------------------------------------------- who executes what

-- what becomes of a gear at a moment: it stays as it is, or takes it
abbrev pub Becomes : {A : Type 0} → (A → Gear → Gear) → Gear → Gear → Type 0
Becomes {A} change x y = (y ≡ x) ⊎ ((n : A) × (y ≡ change n x))

abbrev pub At : List Gear → ℕ → Gear → Type 0
At gs g x = slice_get gs g ≡ Some x

-- what is there afterwards was there before, and the other way round
pub befallen : {A : Type 0} (change : A → Gear → Gear) (reach : List (Option A)) (gs : List Gear) (g : ℕ) (y : Gear) → At (befalls change reach gs) g y
    → (x : Gear) × At gs g x × Becomes change x y
befallen {A} change (None ∷ reach) (x ∷ gs) zero y at = (x, refl, inl (sym (some_is at)))
befallen {A} change (Some n ∷ reach) (x ∷ gs) zero y at = (x, refl, inr (n, sym (some_is at)))
befallen {A} change (None ∷ reach) (x ∷ gs) (suc g) y at = befallen change reach gs g y at
befallen {A} change (Some n ∷ reach) (x ∷ gs) (suc g) y at = befallen change reach gs g y at
befallen {A} change _ _ g y at = (y, at, inl refl)

pub befalling : {A : Type 0} (change : A → Gear → Gear) (reach : List (Option A)) (gs : List Gear) (g : ℕ) (x : Gear) → At gs g x
    → (y : Gear) × At (befalls change reach gs) g y × Becomes change x y
befalling {A} change (None ∷ reach) (z ∷ gs) zero x at = (z, refl, inl (some_is at))
befalling {A} change (Some n ∷ reach) (z ∷ gs) zero x at = (change n z, refl, inr (n, ap (change n) (some_is at)))
befalling {A} change (None ∷ reach) (z ∷ gs) (suc g) x at = befalling change reach gs g x at
befalling {A} change (Some n ∷ reach) (z ∷ gs) (suc g) x at = befalling change reach gs g x at
befalling {A} change _ _ g x at = (x, at, inl refl)

mapped_from : (f : Gear → Gear) (gs : List Gear) (g : ℕ) (y : Gear) → At (map f gs) g y → (x : Gear) × At gs g x × (y ≡ f x)
mapped_from f [] g y at = absurd (cc)
mapped_from f (x ∷ gs) zero y at = (x, refl, sym (some_is at))
mapped_from f (x ∷ gs) (suc g) y at = mapped_from f gs g y at

mapped_to : (f : Gear → Gear) (gs : List Gear) (g : ℕ) (x : Gear) → At gs g x → At (map f gs) g (f x)
mapped_to f [] g x at = absurd (cc)
mapped_to f (z ∷ gs) zero x at = ap (λ v. Some (f v)) (some_is at)
mapped_to f (z ∷ gs) (suc g) x at = mapped_to f gs g x at

-- A FRAME: a gear missed it, which it may, or executed it
abbrev pub Takes : Command → Gear → Gear → Type 0
Takes m x y = ((may_miss m ≡ true) × (y ≡ x)) ⊎ ((n : ℕ) × (y ≡ takes m n x))

pub taken : (m : Command) (ws : List (ℕ × Heard)) (reach : List (Option ℕ)) (gs : List Gear) (g : ℕ) (y : Gear) → At (gear_after (Sent m ws reach) gs) g y
    → (x : Gear) × At gs g x × Takes m x y
taken m ws reach gs g y at = go (may_miss m) refl at where
  by : {x : Gear} → may_miss m ≡ true → Becomes (takes m) x y → Takes m x y
  by {x} miss (inl same) = inl (miss, same)
  by {x} miss (inr new) = inr new

  go : (t : Bool) → may_miss m ≡ t → At (if t then befalls (takes m) reach gs else map (takes m 0) gs) g y → (x : Gear) × At gs g x × Takes m x y
  go true miss at = let from = befallen (takes m) reach gs g y at in (from.0, from.1, by miss from.2)
  go false miss at = let from = mapped_from (takes m 0) gs g y at in (from.0, from.1, inr (0, from.2))

pub taking : (m : Command) (ws : List (ℕ × Heard)) (reach : List (Option ℕ)) (gs : List Gear) (g : ℕ) (x : Gear) → At gs g x
    → (y : Gear) × At (gear_after (Sent m ws reach) gs) g y × Takes m x y
taking m ws reach gs g x at = go (may_miss m) refl where
  by : {y : Gear} → may_miss m ≡ true → Becomes (takes m) x y → Takes m x y
  by {y} miss (inl same) = inl (miss, same)
  by {y} miss (inr new) = inr new

  go : (t : Bool) → may_miss m ≡ t → (y : Gear) × At (if t then befalls (takes m) reach gs else map (takes m 0) gs) g y × Takes m x y
  go true miss = let to = befalling (takes m) reach gs g x at in (to.0, to.1, by miss to.2)
  go false miss = (takes m 0 x, mapped_to (takes m 0) gs g x at, inr (0, refl))
