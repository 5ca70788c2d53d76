use Rattle.std.proofs.Common.{◌≡◌, ◌≤◌, ◌-◌, arith, ℕ, Bool, false, List, [], ◌∷◌, ◌++◌, length, take, drop, subst, sym, ap, ◌∙◌, inl, inr}
use Rattle.std.proofs.{Common.Result, Common.Ok, Common.Err, Common.OnOk, Math.ListN.get_or, lemmas.List.take_all}
use Rattle.std.specs.Prelude.{if◌then◌else◌, ◌↔◌, IsTrue, string_bytes}
use Rattle.std.specs.declared.alloc.Global.{Global}
use Rattle.std.specs.declared.string.String.{String}
use Rattle.dali_script.specs.Records.{Kept}
use Rattle.dali_commission_said.specs.declared.said.Said.{Said}
use Rattle.dali_commission_stores.specs.{Calls.{Call, Look, Has, Read}, Seen.LiesOnLine}
use Rattle.dali_commission_cleared.specs.Clearing.{AddsFilled, AreFilled, IsNewAside, AreNewAside}
use Rattle.dali_commission_stores.specs.Keeping.{IsAside}

-- a file is not there, at the place of a name
pub not_there : {F : Type 0} (saw : F → Look → Type 0) (x : F) (name at : List ℕ) (place : String Global) (before after : List (String Global))
    → LiesOnLine saw x name (string_bytes place) → at ≡ string_bytes place → saw x (Has at false) → after ≡ before
    → AddsFilled saw x name before after
not_there saw x name at place before after lies is none same =
    (place, lies, inl (subst (λ (a : List ℕ). saw x (Has a false)) is none, same))

-- it was read there
pub was_read : {F : Type 0} (saw : F → Look → Type 0) (x : F) (name at : List ℕ) (place : String Global) (before after : List (String Global))
    (k : Kept) (bare : Bool) → LiesOnLine saw x name (string_bytes place) → at ≡ string_bytes place → saw x (Read at k)
    → IsTrue bare ↔ ((k.reserved ≡ []) × (k.enrolled ≡ [])) → after ≡ (if bare then before else before ++ place ∷ [])
    → AddsFilled saw x name before after
was_read saw x name at place before after k bare lies is seen told same =
    (place, lies, inr (k, bare, subst (λ (a : List ℕ). saw x (Read a k)) is seen, told, same))

-- and its place was added
pub added : {F E : Type 0} (saw : F → Look → Type 0) (x : F) (name at : List ℕ) (place : String Global) (before after : List (String Global))
    (k : Kept) (r : Result (Unit {0}) E) → LiesOnLine saw x name (string_bytes place) → at ≡ string_bytes place → saw x (Read at k)
    → IsTrue false ↔ ((k.reserved ≡ []) × (k.enrolled ≡ [])) → OnOk r (after ≡ before ++ place ∷ [])
    → OnOk r (AddsFilled saw x name before after)
added saw x name at place before after k (Ok done) lies is seen told same =
    was_read saw x name at place before after k false lies is seen told same
added saw x name at place before after k (Err e) lies is seen told same = tt

-- a first name and the others
pub split : (all : List (String Global)) (name : String Global) → name ≡ get_or all 0 name → 1 ≤ length all
    → all ≡ name ∷ take (length all - 1) (drop 1 all)
split [] name is some = absurd (omega (arith, some))
split (x ∷ more) name is some =
    ap (λ n. n ∷ more) (sym is) ∙ ap (λ l. name ∷ l) (sym (take_all (length (x ∷ more) - 1) more (omega arith)))

-- and so on
pub one_more : {F E : Type 0} (saw : F → Look → Type 0) (x : F) (at : List ℕ) (name : String Global) (all more before mid after : List (String Global))
    (r : Result (Unit {0}) E) → all ≡ name ∷ more → at ≡ string_bytes name → AddsFilled saw x at before mid → OnOk r (AreFilled saw x mid more after)
    → OnOk r (AreFilled saw x before all after)
one_more saw x at name all more before mid after (Ok done) begins is adds rest =
    subst (λ (l : List (String Global)). AreFilled saw x before l after) (sym begins)
    (mid, subst (λ (a : List ℕ). AddsFilled saw x a before mid) is adds, rest)
one_more saw x at name all more before mid after (Err e) begins is adds rest = tt

-- the new file of a name is put aside, at its place
pub new_aside : {F E : Type 0} (made : F → F → Call → Type 0) (saw : F → Look → Type 0) (told : Said → Type 0) (x y : F) (name at : List ℕ)
    (place : String Global) (r : Result (Unit {0}) E) → LiesOnLine saw x name (string_bytes place) → at ≡ string_bytes place
    → OnOk r (IsAside made saw told at x y) → OnOk r (IsNewAside made saw told name x y)
new_aside made saw told x y name at place (Ok done) lies is aside = (place, lies, subst (λ (a : List ℕ). IsAside made saw told a x y) is aside)
new_aside made saw told x y name at place (Err e) lies is aside = tt

pub more_aside : {F E : Type 0} (made : F → F → Call → Type 0) (saw : F → Look → Type 0) (told : Said → Type 0) (x y z : F) (at : List ℕ)
    (name : String Global) (all more : List (String Global)) (r : Result (Unit {0}) E) → all ≡ name ∷ more → at ≡ string_bytes name
    → IsNewAside made saw told at x y → OnOk r (AreNewAside made saw told more y z) → OnOk r (AreNewAside made saw told all x z)
more_aside made saw told x y z at name all more (Ok done) begins is one rest =
    subst (λ (l : List (String Global)). AreNewAside made saw told l x z) (sym begins)
    (y, subst (λ (a : List ℕ). IsNewAside made saw told a x y) is one, rest)
more_aside made saw told x y z at name all more (Err e) begins is one rest = tt
