use Rattle.std.proofs.Common.{◌≡◌, ◌≢◌, ◌⊎◌, inl, inr, ⊎_elim, ℕ, zero, suc, ◌<◌, ◌==◌, ◌&&◌, ◌||◌, not, nat_lt, if◌then◌else◌, Bool, true, false}
use Rattle.std.proofs.Common.{refl, sym, ap, subst, ◌∙◌, map, List, [], ◌∷◌, Option, Some, None, slice_get}
use Rattle.std.specs.{List.{list_any, list_all}, Prelude.unwrap_or}
use Rattle.dali_gear.specs.Gear.{Gear, has_short}
use Rattle.dali_statement.specs.{Gear.gear_seen, Page.{Gear as Seen, Plan, IsPlan, holds, differ, are_apart}}
use Rattle.dali_statement.proofs.Tests.{both, first_of_both, second_of_both, equal, equals, some_is, holds_is, holds_by, any_at, any_by, all_at, all_by}
use Rattle.dali_statement.proofs.Tests.{differ_at, differ_by, mapped_at}
use Rattle.dali_mending.specs.Rows.{Site, Sending, all_sent, Each, Keeps, IsGivenNone, AllSpare}
use Rattle.dali_mending.specs.Planned.{Mended, all_mended, IsMended, IsTabled, AreSpared, AllHave, IsOneNumber, IsPlanBut, with_gear}
use Rattle.dali_mending.proofs.Sparing.{same, onward, each_same, all_others_keep}
use Rattle.dali_mending.proofs.Tabled.{all_tabled_keep, none_is_given}

-- GEAR THAT WERE MENDED ARE THOSE OF A PLAN AGAIN.

-- ---------------------------------------------------------------- rows

each_then : (P Q K : Gear → Gear → Type 0) → ((g h i : Gear) → P g h → Q h i → K g i) → (gs hs is : List Gear) → Each P gs hs → Each Q hs is
    → Each K gs is
each_then P Q K joins [] [] [] p q = tt
each_then P Q K joins [] [] (i ∷ is) p q = absurd q
each_then P Q K joins [] (h ∷ hs) is p q = absurd p
each_then P Q K joins (g ∷ gs) [] is p q = absurd p
each_then P Q K joins (g ∷ gs) (h ∷ hs) [] p q = absurd q
each_then P Q K joins (g ∷ gs) (h ∷ hs) (i ∷ is) p q = (joins g h i p.0 q.0, each_then P Q K joins gs hs is p.1 q.1)

-- the gear at one place
before_at : (P : Gear → Gear → Type 0) (gs hs : List Gear) (i : ℕ) (h : Gear) → Each P gs hs → slice_get hs i ≡ Some h
    → (g : Gear) × (slice_get gs i ≡ Some g) × P g h
before_at P [] [] i h each at = absurd (cc)
before_at P [] (k ∷ hs) i h each at = absurd each
before_at P (g ∷ gs) [] i h each at = absurd each
before_at P (g ∷ gs) (k ∷ hs) zero h each at = (g, refl, subst (P g) (some_is at) each.0)
before_at P (g ∷ gs) (k ∷ hs) (suc i) h each at = before_at P gs hs i h each.1 at

after_at : (P : Gear → Gear → Type 0) (gs hs : List Gear) (i : ℕ) (g : Gear) → Each P gs hs → slice_get gs i ≡ Some g
    → (h : Gear) × (slice_get hs i ≡ Some h) × P g h
after_at P [] [] i g each at = absurd (cc)
after_at P [] (k ∷ hs) i g each at = absurd each
after_at P (k ∷ gs) [] i g each at = absurd each
after_at P (k ∷ gs) (h ∷ hs) zero g each at = (h, refl, subst (λ it. P it h) (some_is at) each.0)
after_at P (k ∷ gs) (h ∷ hs) (suc i) g each at = after_at P gs hs i g each.1 at

map_at : (gs : List Gear) (i : ℕ) (g : Gear) → slice_get gs i ≡ Some g → slice_get (map gear_seen gs) i ≡ Some (gear_seen g)
map_at [] i g at = absurd (cc)
map_at (k ∷ gs) zero g at = ap (λ it. Some (gear_seen it)) (some_is at)
map_at (k ∷ gs) (suc i) g at = map_at gs i g at

-- ---------------------------------------------------------------- all mendings

-- what is true of each gear before and after
record Mends (p : Plan) (ms : List Mended) (g h : Gear) : Type 0 where
  given : IsGivenNone g h
  others : (a : ℕ) → g.short ≡ Some a → (IsMended a ms → ⊥) → Keeps g h
  tabled : (a r : ℕ) → IsTabled p a r → g.short ≡ Some a → g.random ≡ r → Keeps g h

-- and of one
record MendsOne (p : Plan) (m : Mended) (g h : Gear) : Type 0 where
  given : IsGivenNone g h
  others : has_short m.short g.short ≡ false → Keeps g h
  tabled : (r : ℕ) → IsTabled p m.short r → g.random ≡ r → Keeps g h

not_short : (a : ℕ) (o : Option ℕ) (b : ℕ) → o ≡ Some b → (a ≡ b → ⊥) → has_short a o ≡ false
not_short a o b is other = ap (has_short a) is ∙ go (a == b) refl where
  go : (t : Bool) → (a == b) ≡ t → (a == b) ≡ false
  go true e = absurd (other (equal a b e))
  go false e = e

given_on : (g h i : Gear) → IsGivenNone g h → IsGivenNone h i → IsGivenNone g i
given_on g h i (inl one) (inl more) = inl (more ∙ one)
given_on g h i (inr none) (inl more) = inr (more ∙ none)
given_on g h i one (inr none) = inr none

is_it : (m : ℕ) (a : ℕ) → (m ≡ a) ⊎ (m ≡ a → ⊥)
is_it m a = go (m == a) refl where
  go : (t : Bool) → (m == a) ≡ t → (m ≡ a) ⊎ (m ≡ a → ⊥)
  go true e = inl (equal m a e)
  go false e = inr (λ same. absurd (let no : true ≡ false = sym (equals m a same) ∙ e in cc))

mends_on : (p : Plan) (m : Mended) (ms : List Mended) (g h i : Gear) → MendsOne p m g h → Mends p ms h i → Mends p (m ∷ ms) g i
mends_on p m ms g h i one more = record {
  given = given_on g h i one.given more.given;
  others = λ a is none.
      let first = one.others (not_short m.short g.short a is (λ same. none (inl same))) in
      onward g h i first (more.others a (first.short ∙ is) (λ later. none (inr later)));
  tabled = λ a r has is numbered.
      let first = go a r has is numbered (is_it m.short a) in
      onward g h i first (more.tabled a r has (first.short ∙ is) (first.random ∙ numbered));
} where
  go : (a r : ℕ) → IsTabled p a r → g.short ≡ Some a → g.random ≡ r → (m.short ≡ a) ⊎ (m.short ≡ a → ⊥) → Keeps g h
  go a r has is numbered (inl it) = one.tabled r (subst (λ b. IsTabled p b r) (sym it) has) numbered
  go a r has is numbered (inr other) = one.others (not_short m.short g.short a is other)

one_mends : (p : Plan) (m : Mended) (s : Site) → ((r : ℕ) → IsTabled p m.short r → AllSpare r m.sendings)
    → Each (MendsOne p m) s.gear (all_sent m.short m.sendings s).gear
one_mends p m s spares =
    joined s.gear (all_sent m.short m.sendings s).gear (none_is_given m.short m.sendings s) (all_others_keep m.short m.sendings s)
    (λ r has. all_tabled_keep m.short r m.sendings s (spares r has)) where
      joined : (gs hs : List Gear) → Each IsGivenNone gs hs → Each (λ g h. has_short m.short g.short ≡ false → Keeps g h) gs hs
          → ((r : ℕ) → IsTabled p m.short r → Each (λ g h. g.random ≡ r → Keeps g h) gs hs) → Each (MendsOne p m) gs hs
      joined [] [] given others tabled = tt
      joined [] (h ∷ hs) given others tabled = absurd given
      joined (g ∷ gs) [] given others tabled = absurd given
      joined (g ∷ gs) (h ∷ hs) given others tabled = (
        record { given = given.0; others = others.0; tabled = λ r has. (tabled r has).0 },
        joined gs hs given.1 others.1 (λ r has. (tabled r has).1),
      )

all_mend : (p : Plan) (ms : List Mended) (s : Site) → AreSpared p ms → Each (Mends p ms) s.gear (all_mended ms s).gear
all_mend p [] s spared =
    each_same (Mends p []) (λ g. record { given = inl refl; others = λ a is none. same g; tabled = λ a r has is numbered. same g }) s.gear
all_mend p (m ∷ ms) s spared =
    each_then (MendsOne p m) (Mends p ms) (Mends p (m ∷ ms)) (mends_on p m ms) s.gear (all_sent m.short m.sendings s).gear
    (all_mended (m ∷ ms) s).gear (one_mends p m s spared.0) (all_mend p ms (all_sent m.short m.sendings s) spared.1)

-- ---------------------------------------------------------------- the plan

abbrev number : Seen → Option ℕ
number g = if g.random == 0xFFFFFF then None else Some g.random

number_is : (g : Seen) (r : ℕ) → g.random ≡ r → r ≢ 0xFFFFFF → number g ≡ Some r
number_is g r is other = go (g.random == 0xFFFFFF) refl where
  go : (t : Bool) → (g.random == 0xFFFFFF) ≡ t → (if t then None else Some g.random) ≡ Some r
  go true e = absurd (other (sym is ∙ equal g.random 0xFFFFFF e))
  go false e = ap Some is

small_by : (o q : Option ℕ) → (o ≡ q) ⊎ (o ≡ None) → nat_lt (unwrap_or q 0) 64 ≡ true → nat_lt (unwrap_or o 0) 64 ≡ true
small_by o q (inl is) few = ap (λ it. nat_lt (unwrap_or it 0) 64) is ∙ few
small_by o q (inr is) few = ap (λ it. nat_lt (unwrap_or it 0) 64) is

numbered_by : (a r : ℕ) (g : Seen) → (g.short ≡ Some a → g.random ≡ r) → (not (holds a g.short) || (g.random == r)) ≡ true
numbered_by a r g same = go (holds a g.short) refl where
  go : (t : Bool) → holds a g.short ≡ t → (not t || (g.random == r)) ≡ true
  go true has = equals g.random r (same (holds_is a g.short has))
  go false has = refl

given_short : (g h : Gear) (y : Seen) → IsGivenNone g h → y ≡ gear_seen h → (y.short ≡ g.short) ⊎ (y.short ≡ None)
given_short g h y (inl is) seen = inl (ap (λ k. k.short) seen ∙ is)
given_short g h y (inr none) seen = inr (ap (λ k. k.short) seen ∙ none)

is_mended : (a : ℕ) (ms : List Mended) → IsMended a ms ⊎ (IsMended a ms → ⊥)
is_mended a [] = inr (λ never. never)
is_mended a (m ∷ ms) = go (is_it m.short a) (is_mended a ms) where
  go : (m.short ≡ a) ⊎ (m.short ≡ a → ⊥) → IsMended a ms ⊎ (IsMended a ms → ⊥) → IsMended a (m ∷ ms) ⊎ (IsMended a (m ∷ ms) → ⊥)
  go (inl it) later = inl (inl it)
  go (inr other) (inl it) = inl (inr it)
  go (inr other) (inr none) = inr (⊎_elim other none)

kept_short : (g h : Gear) (a : ℕ) → IsGivenNone g h → h.short ≡ Some a → g.short ≡ Some a
kept_short g h a (inl is) has = sym is ∙ has
kept_short g h a (inr none) has = absurd (let no : None ≡ Some a = sym none ∙ has in cc)

module _ (p : Plan) (ms : List Mended) (s : Site) (gear : p.gear ≡ map gear_seen s.gear) (plan : IsPlanBut (λ a. IsMended a ms) p)
    (spared : AreSpared p ms) (drawn : are_apart (map gear_seen (all_mended ms s).gear) ≡ true)
    (alone : (a : ℕ) → IsMended a ms → IsOneNumber a (map gear_seen (all_mended ms s).gear)) where
  -- a gear that is seen now, and what it was
  was : (i : ℕ) (y : Seen) → slice_get (map gear_seen (all_mended ms s).gear) i ≡ Some y
      → (g : Gear) × (h : Gear) × (slice_get p.gear i ≡ Some (gear_seen g)) × (y ≡ gear_seen h) × Mends p ms g h
  was i y at =
      let (h, at_h, is) = mapped_at gear_seen (all_mended ms s).gear i y at in
      let (g, at_g, mends) = before_at (Mends p ms) s.gear (all_mended ms s).gear i h (all_mend p ms s spared) at_h in
      (g, h, subst (λ gs. slice_get gs i ≡ Some (gear_seen g)) (sym gear) (map_at s.gear i g at_g), is, mends)

  was_short : (i a : ℕ) (y : Seen) → slice_get (map gear_seen (all_mended ms s).gear) i ≡ Some y → y.short ≡ Some a
      → (x : Seen) × (slice_get p.gear i ≡ Some x) × (x.short ≡ Some a)
  was_short i a y at has =
      let (g, h, at_g, is, mends) = was i y at in
      (gear_seen g, at_g, kept_short g h a mends.given (ap (λ k. k.short) (sym is) ∙ has))

  -- a gear that a table names is there
  there : (a r : ℕ) → IsTabled p a r
      → (i : ℕ) × (y : Seen) × (slice_get (map gear_seen (all_mended ms s).gear) i ≡ Some y) × (y.short ≡ Some a) × (y.random ≡ r)
  there a r (c, has) =
      let (i, x, at, is) = any_at (λ g. holds a g.short && (g.random == r)) p.gear (plan.enrolled c a r has) in
      let (g, at_g, seen) = mapped_at gear_seen s.gear i x (subst (λ gs. slice_get gs i ≡ Some x) gear at) in
      let short = ap (λ k. k.short) (sym seen) ∙ holds_is a x.short (first_of_both (holds a x.short) (x.random == r) is) in
      let random = ap (λ k. k.random) (sym seen) ∙ equal x.random r (second_of_both (holds a x.short) (x.random == r) is) in
      let (h, at_h, mends) = after_at (Mends p ms) s.gear (all_mended ms s).gear i g (all_mend p ms s spared) at_g in
      let keeps = mends.tabled a r (c, has) short random in
      (i, gear_seen h, map_at (all_mended ms s).gear i h at_h, keeps.short ∙ short, keeps.random ∙ random)

  one_place : (i j a : ℕ) (x y : Seen) → slice_get (map gear_seen (all_mended ms s).gear) i ≡ Some x
      → slice_get (map gear_seen (all_mended ms s).gear) j ≡ Some y → x.short ≡ Some a → y.short ≡ Some a → i ≡ j
  one_place i j a x y at there_too first second =
      let (u, at_u, had) = was_short i a x at first in
      let (v, at_v, had_too) = was_short j a y there_too second in
      go (plan.shorts i j a u v at_u at_v had had_too) where
        go : (i ≡ j) ⊎ IsMended a ms → i ≡ j
        go (inl is) = is
        go (inr mended) =
            let (r, other, have) = alone a mended in
            differ_at number (map gear_seen (all_mended ms s).gear) drawn i j r x y at there_too (number_is x r (have i x at first) other)
            (number_is y r (have j y there_too second) other)

  -- who has a reserved address has its number
  has_number : (c a r i : ℕ) (y : Seen) → p.reserved c a ≡ Some r → slice_get (map gear_seen (all_mended ms s).gear) i ≡ Some y
      → y.short ≡ Some a → y.random ≡ r
  has_number c a r i y reserved at has = go (is_mended a ms) where
    go : IsMended a ms ⊎ (IsMended a ms → ⊥) → y.random ≡ r
    go (inl mended) =
        let (n, other, have) = alone a mended in
        let (j, z, at_z, short, random) = there a r ((plan.reserved c a r reserved).4 mended) in
        have i y at has ∙ sym (have j z at_z short) ∙ random
    go (inr none) =
        let (g, h, at_g, is, mends) = was i y at in
        let short = kept_short g h a mends.given (ap (λ k. k.short) (sym is) ∙ has) in
        ap (λ k. k.random) is ∙ (mends.others a short none).random ∙ (plan.reserved c a r reserved).3 none i (gear_seen g) at_g short

  pub mended_is_plan : IsPlan (with_gear p (all_mended ms s))
  mended_is_plan = record {
    shorts = differ_by (λ g. g.short) (map gear_seen (all_mended ms s).gear) (λ i j n x y at there_too first second.
        one_place i j n x y at there_too first second);
    short = all_by (λ g. nat_lt (unwrap_or g.short 0) 64) (map gear_seen (all_mended ms s).gear) (λ i y at.
        let (g, h, at_g, is, mends) = was i y at in
        small_by y.short g.short (given_short g h y mends.given is)
        (all_at (λ k. nat_lt (unwrap_or k.short 0) 64) p.gear i (gear_seen g) plan.short at_g));
    reserved = λ c a r e.
        let old = plan.reserved c a r e in (
          old.0,
          old.1,
          old.2,
          all_by (λ g. not (holds a g.short) || (g.random == r)) (map gear_seen (all_mended ms s).gear) (λ i y at.
              numbered_by a r y (λ has. has_number c a r i y e at has)),
        );
    enrolled = λ c a r e.
        let (i, y, at, short, random) = there a r (c, e) in
        any_by (λ g. holds a g.short && (g.random == r)) (map gear_seen (all_mended ms s).gear) i y at
        (both (holds_by a y.short short) (equals y.random r random));
  }

-- ---------------------------------------------------------------- gear without short address

pub cleared_is_plan : (p : Plan) → ((i : ℕ) (g : Seen) → slice_get p.gear i ≡ Some g → g.short ≡ None) → ((c a : ℕ) → p.reserved c a ≡ None)
    → ((c a r : ℕ) → p.enrolled c a r ≡ false) → IsPlan p
cleared_is_plan p none unreserved untabled = record {
  shorts = differ_by (λ g. g.short) p.gear (λ i j n x y at there_too first second. absurd (let no : None ≡ Some n = sym (none i x at) ∙ first in cc));
  short = all_by (λ g. nat_lt (unwrap_or g.short 0) 64) p.gear (λ i y at. ap (λ it. nat_lt (unwrap_or it 0) 64) (none i y at));
  reserved = λ c a r e. absurd (let no : None ≡ Some r = sym (unreserved c a) ∙ e in cc);
  enrolled = λ c a r e. absurd (let no : false ≡ true = sym (untabled c a r) ∙ e in cc);
}
