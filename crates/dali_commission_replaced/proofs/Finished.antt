use Rattle.std.proofs.Common.{◌≡◌, ◌∙◌, ◌≤◌, ◌-◌, arith, ℕ, List, [], ◌∷◌, ◌++◌, length, take, drop, subst, sym, ap, inl, inr}
use Rattle.std.proofs.{Common.Option, Common.Some, Common.Result, Common.Ok, Common.Err, Common.OnOk, Common.OnErr}
use Rattle.std.proofs.{Math.ListN.get_or, lemmas.List.take_all}
use Rattle.std.specs.Prelude.{IfOk, string_bytes}
use Rattle.std.specs.declared.{alloc.Global.Global, string.String.String}
use Rattle.dali_replacement.specs.declared.swapping.Swap.{Swap}
use Rattle.dali_commission_said.specs.declared.{failure.Failure.Failure, said.Said.Said}
use Rattle.dali_commission_stores.specs.{Calls.{Call, Look}, Seen.{IsFound, LiesOnLine}, Settled.IsSettledInPart}
use Rattle.dali_commission_replaced.specs.{Finishing.{IsFinished, IsFoundSo, IsFoundInPart, AreFinished, AreFinishedInPart, last_of}, Replacing.AreAtPlaces}

-- a first name and the others
pub split : {T : Type 0} (all : List T) (name : T) → name ≡ get_or all 0 name → 1 ≤ length all
    → all ≡ name ∷ take (length all - 1) (drop 1 all)
split [] name is some = absurd (omega (arith, some))
split (x ∷ more) name is some =
    ap (λ n. n ∷ more) (sym is) ∙ ap (λ l. name ∷ l) (sym (take_all (length (x ∷ more) - 1) more (omega arith)))

-- a journal was found beside a file, and its swap was brought to its end
pub found_so : {F : Type 0} (made : F → F → Call → Type 0) (saw : F → Look → Type 0) (told : Said → Type 0) (a : ℕ) (name : List ℕ) (x y : F)
    (swap : Swap) (was : Option Swap) (looked : Result (Option Swap) Failure) (r : Result (Option Swap) Failure) → was ≡ Some swap → Ok was ≡ looked
    → IfOk looked (IsFound saw x name) → IfOk r (IsFinished made saw told a swap x y) → IfOk r (IsFoundSo made saw told a name x y)
found_so made saw told a name x y swap was looked (Ok answer) is same found finished =
    let it : IsFound saw x name was = subst (λ (l : Result (Option Swap) Failure). IfOk l (IsFound saw x name)) (sym same) found in
    inr (swap, subst (λ (o : Option Swap). IsFound saw x name o) is it, finished)
found_so made saw told a name x y swap was looked (Err e) is same found finished = tt

-- and so beside the others
pub more_finished : {F : Type 0} (made : F → F → Call → Type 0) (saw : F → Look → Type 0) (told : Said → Type 0) (a : ℕ) (at : List ℕ)
    (name : String Global) (all more : List (String Global)) (x z y : F) (first later answer : Option Swap) → all ≡ name ∷ more → at ≡ string_bytes name
    → IsFoundSo made saw told a at x z first → AreFinished made saw told a more z y later → answer ≡ last_of first later
    → AreFinished made saw told a all x y answer
more_finished made saw told a at name all more x z y first later answer begins is one rest same =
    subst (λ (l : List (String Global)). AreFinished made saw told a l x y answer) (sym begins)
    (z, first, later, subst (λ (n : List ℕ). IsFoundSo made saw told a n x z first) is one, rest, same)

-- or it was done in part, and nothing beside the others
pub found_in_part : {F : Type 0} (made began : F → F → Call → Type 0) (saw : F → Look → Type 0) (name : List ℕ) (x y : F) (swap : Swap)
    (was : Option Swap) (looked r : Result (Option Swap) Failure) → was ≡ Some swap → Ok was ≡ looked → IfOk looked (IsFound saw x name)
    → OnErr r (IsSettledInPart made began saw swap x y) → OnErr r (IsFoundInPart made began saw name x y)
found_in_part made began saw name x y swap was looked (Ok answer) is same found left = tt
found_in_part made began saw name x y swap was looked (Err e) is same found left =
    let it : IsFound saw x name was = subst (λ (l : Result (Option Swap) Failure). IfOk l (IsFound saw x name)) (sym same) found in
    inr (swap, subst (λ (o : Option Swap). IsFound saw x name o) is it, left)

pub first_in_part : {F : Type 0} {T : Type 0} (made began : F → F → Call → Type 0) (saw : F → Look → Type 0) (told : Said → Type 0) (a : ℕ)
    (at : List ℕ) (name : String Global) (all more : List (String Global)) (x y : F) (why : Failure) (did : Result (Option Swap) Failure)
    (r : Result T Failure) → did ≡ Err why → all ≡ name ∷ more → at ≡ string_bytes name → OnErr did (IsFoundInPart made began saw at x y)
    → OnErr r (AreFinishedInPart made began saw told a all x y)
first_in_part made began saw told a at name all more x y why did (Ok it) fails begins is left = tt
first_in_part made began saw told a at name all more x y why did (Err e) fails begins is left =
    subst (λ (l : List (String Global)). AreFinishedInPart made began saw told a l x y) (sym begins)
    (inl (subst (λ (n : List ℕ). IsFoundInPart made began saw n x y) is
    (subst (λ (d : Result (Option Swap) Failure). OnErr d (IsFoundInPart made began saw at x y)) fails left)))

pub more_in_part : {F : Type 0} {T : Type 0} (made began : F → F → Call → Type 0) (saw : F → Look → Type 0) (told : Said → Type 0) (a : ℕ)
    (at : List ℕ) (name : String Global) (all more : List (String Global)) (x z y : F) (why : Failure) (first : Option Swap)
    (did : Result (Option Swap) Failure) (r : Result T Failure) → did ≡ Err why → all ≡ name ∷ more → at ≡ string_bytes name
    → IsFoundSo made saw told a at x z first → OnErr did (AreFinishedInPart made began saw told a more z y)
    → OnErr r (AreFinishedInPart made began saw told a all x y)
more_in_part made began saw told a at name all more x z y why first did (Ok it) fails begins is one left = tt
more_in_part made began saw told a at name all more x z y why first did (Err e) fails begins is one left =
    subst (λ (l : List (String Global)). AreFinishedInPart made began saw told a l x y) (sym begins)
    (inr (
      z,
      first,
      subst (λ (n : List ℕ). IsFoundSo made saw told a n x z first) is one,
      subst (λ (d : Result (Option Swap) Failure). OnErr d (AreFinishedInPart made began saw told a more z y)) fails left,
    ))

-- a place more
pub more_placed : {F E : Type 0} (saw : F → Look → Type 0) (x : F) (at : List ℕ) (name place : String Global) (all more before mid after : List (String Global))
    (r : Result (Unit {0}) E) → all ≡ name ∷ more → at ≡ string_bytes name → LiesOnLine saw x at (string_bytes place) → mid ≡ before ++ place ∷ []
    → OnOk r (AreAtPlaces saw x more mid after) → OnOk r (AreAtPlaces saw x all before after)
more_placed saw x at name place all more before mid after (Ok done) begins is lies adds rest =
    subst (λ (l : List (String Global)). AreAtPlaces saw x l before after) (sym begins) (
      place,
      subst (λ (a : List ℕ). LiesOnLine saw x a (string_bytes place)) is lies,
      subst (λ (m : List (String Global)). AreAtPlaces saw x more m after) adds rest,
    )
more_placed saw x at name place all more before mid after (Err e) begins is lies adds rest = tt
