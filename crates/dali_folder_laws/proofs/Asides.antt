use Rattle.std.proofs.Common.{◌≡◌, ℕ, zero, suc, ◌⊎◌, inl, inr, Bool, true, false, List, [], ◌∷◌, ◌++◌, Option, Some, None, refl, ap, subst, sym, ◌∙◌}
use Rattle.std.specs.Prelude.{◌≢◌, IsSome, is_some, bytes_eq, if◌then◌else◌, string_bytes, codes, decimal}
use Rattle.std.specs.declared.{alloc.Global.Global, string.String.String}
use Rattle.std.proofs.lemmas.Slice.Eq.{bytes_eq-Decides}
use Rattle.std.proofs.lemmas.List.{append-nil, append_assoc, append_cancel_right}
use Rattle.dali_commission_stores.specs.Calls.{Call, Renamed, AreMade}
use Rattle.dali_commission_stores.specs.Keeping.{AreFree}
use Rattle.dali_commission_stores.specs.Settling.{kept_at}
use Rattle.dali_commission_cleared.specs.Clearing.{asides, AddsFilled, AreFilled}
use Rattle.dali_folder_laws.specs.Folder.{Folder, IsSame, IsAfter}
use Rattle.dali_folder_laws.specs.Stops.{Program, starting, HasMade, Makes, Sees}
use Rattle.dali_folder_laws.specs.Asides.{PutsAside, AreAway, HasStill, PutAsideOften, HasBehind}
use Rattle.dali_folder_laws.proofs.Stopped.{none_done}

same_or_not : (a b : List ℕ) → (a ≡ b) ⊎ (a ≢ b)
same_or_not a b = go (bytes_eq a b) refl
  where
    go : (e : Bool) → bytes_eq a b ≡ e → (a ≡ b) ⊎ (a ≢ b)
    go true is = inl ((bytes_eq-Decides a b).0 is)
    go false not = inr (λ same. let is = (bytes_eq-Decides a b).1 same in cc)

-- names that have something, and whose kept ones have nothing
abbrev pub AreThere : List (String Global) → Folder → Type 0
AreThere [] x = Unit {0}
AreThere (name ∷ more) x = IsSome (x (string_bytes name)) × AreThere more x

abbrev pub AreVacant : ℕ → List (String Global) → Folder → Type 0
AreVacant number [] x = Unit {0}
AreVacant number (name ∷ more) x = (x (kept_at (string_bytes name) number) ≡ None) × AreVacant number more x

pub not_there : (o : Option (List ℕ)) → false ≡ is_some o → o ≡ None
not_there None is = refl
not_there (Some it) is = absurd (cc)

vacant : (number : ℕ) (records names : List (String Global)) (x : Folder) → AreFree Sees (starting x) records number names → AreVacant number names x
vacant number records [] x free = tt
vacant number records (name ∷ more) x (one, elsewhere, rest) = (not_there _ (one refl), vacant number records more x rest)

some_none : (o : Option (List ℕ)) → IsSome o → o ≡ None → ⊥
some_none None some none = absurd (cc)
some_none (Some it) some none = absurd (cc)

-- ONE CALL
abbrev pub Had : ℕ → Folder → Folder → Type 0
Had number x y = (at had : List ℕ) → x at ≡ Some had → HasStill number x y at had

had_same : (number : ℕ) (x y z : Folder) → Had number x y → IsSame y z → Had number x z
had_same number x y z had same at it is = elim (had at it is) [
  | inl stays ↦ inl (same at ∙ stays)
  | inr away ↦ inr (same at ∙ away.0, away.1, same (kept_at at number) ∙ away.2)
]

renamed : (number : ℕ) (name : List ℕ) (x y z : Folder) → IsSome (x name) → x (kept_at name number) ≡ None → Had number x y
    → IsAfter (Renamed name (kept_at name number)) y z → Had number x z
renamed number name x y z there free had (some, none, put, rest) at it is = elim (same_or_not at name) [
  | inl same ↦ elim (had at it is) [
    | inl stays ↦ inr (
      ap z same ∙ none,
      ap (λ (n : List ℕ). x (kept_at n number)) same ∙ free,
      ap (λ (n : List ℕ). z (kept_at n number)) same ∙ put ∙ sym (ap y same) ∙ stays,
    )
    | inr away ↦ absurd (some_none (y name) some (sym (ap y same) ∙ away.0))
  ]
  | inr other ↦
      let not_kept : at ≢ kept_at name number = λ same. some_none (x at) (ap is_some is) (ap x same ∙ free) in
      elim (had at it is) [
        | inl stays ↦ inl (rest at other not_kept ∙ stays)
        | inr away ↦
            let not_name : kept_at at number ≢ name = λ same. some_none (x name) there (sym (ap x same) ∙ away.1) in
            let not_its : kept_at at number ≢ kept_at name number = λ same. other (append_cancel_right at name _ same) in
            inr (rest at other not_kept ∙ away.0, away.1, rest (kept_at at number) not_name not_its ∙ away.2)
      ]
]

once : (number : ℕ) (name : List ℕ) (x : Folder) (y z : Program) → IsSome (x name) → x (kept_at name number) ≡ None → Had number x y.folder
    → Makes y z (Renamed name (kept_at name number)) → Had number x z.folder
once number name x y z there free had made = go y.runs z.runs made
  where
    go : (a b : Bool) → HasMade a b y.folder z.folder (Renamed name (kept_at name number)) → Had number x z.folder
    go true true after = renamed number name x y.folder z.folder there free had after
    go true false (inl same) = had_same number x y.folder z.folder had same
    go true false (inr after) = renamed number name x y.folder z.folder there free had after
    go false true not = absurd (not)
    go false false same = had_same number x y.folder z.folder had same

-- ALL OF THEM
pub put : (number : ℕ) (names : List (String Global)) (x : Folder) (y z : Program) → AreThere names x → AreVacant number names x → Had number x y.folder
    → AreMade Makes (asides names number) y z → Had number x z.folder
put number [] x y z there free had same = subst (λ (p : Program). Had number x p.folder) same had
put number (name ∷ more) x y z there free had (w, first, rest) =
    put number more x w z there.1 free.1 (once number (string_bytes name) x y w there.0 free.0 had first) rest

pub running : (calls : List Call) (x y : Program) → AreMade Makes calls x y → y.runs ≡ true → x.runs ≡ true
running calls x y made runs = go x.runs refl
  where
    go : (a : Bool) → x.runs ≡ a → x.runs ≡ true
    go true is = is
    go false not = let stopped = (none_done calls x y made not).0 in absurd (cc)

pub well : (call : Call) (x y : Program) → x.runs ≡ true → y.runs ≡ true → Makes x y call → IsAfter call x.folder y.folder
well call x y before runs made =
    subst (λ (a : Bool). HasMade a true x.folder y.folder call) before (subst (λ (b : Bool). HasMade x.runs b x.folder y.folder call) runs made)

-- what is away stays away
stays_away : (number : ℕ) (names : List (String Global)) (x : Folder) (y z : Program) (at : List ℕ) → IsSome (x at) → AreVacant number names x
    → y.folder at ≡ None → AreMade Makes (asides names number) y z → z.runs ≡ true → z.folder at ≡ None
stays_away number [] x y z at there free none same runs = subst (λ (p : Program). p.folder at ≡ None) same none
stays_away number (name ∷ more) x y z at there free none (w, first, rest) runs =
    let mid = running (asides more number) w z rest runs in
    let here = running (Renamed (string_bytes name) (kept_at (string_bytes name) number) ∷ []) y w (w, first, refl) mid in
    let after = well _ y w here mid first in
    let kept : at ≢ kept_at (string_bytes name) number = λ same. some_none (x at) there (ap x same ∙ free.0) in
    let gone : w.folder at ≡ None = elim (same_or_not at (string_bytes name)) [
      | inl same ↦ ap w.folder same ∙ after.1
      | inr other ↦ after.3 at other kept ∙ none
    ] in
    stays_away number more x w z at there free.1 gone rest runs

pub away : (number : ℕ) (names : List (String Global)) (x : Folder) (y z : Program) → AreThere names x → AreVacant number names x
    → AreMade Makes (asides names number) y z → z.runs ≡ true → AreAway names z.folder
away number [] x y z there free same runs = tt
away number (name ∷ more) x y z there free (w, first, rest) runs =
    let mid = running (asides more number) w z rest runs in
    let here = running (Renamed (string_bytes name) (kept_at (string_bytes name) number) ∷ []) y w (w, first, refl) mid in
    let after = well _ y w here mid first in
    (stays_away number more x w z (string_bytes name) there.0 free.1 after.1 rest runs, away number more x w z there.1 free.1 rest runs)

-- those that are not empty are there
added : (x : Folder) (names : List (String Global)) (place : String Global) → AreThere names x → IsSome (x (string_bytes place))
    → AreThere (names ++ place ∷ []) x
added x [] place there some = (some, tt)
added x (name ∷ more) place there some = (there.0, added x more place there.1 some)

one_filled : (x : Folder) (name : List ℕ) (before after : List (String Global)) → AreThere before x → AddsFilled Sees (starting x) name before after
    → AreThere after x
one_filled x name before after there (place, lies, (inl none)) = subst (λ (ns : List (String Global)). AreThere ns x) (sym none.1) there
one_filled x name before after there (place, lies, (inr (k, bare, read, is, so))) = go bare refl (x (string_bytes place)) refl
  where
    go : (b : Bool) → bare ≡ b → (o : Option (List ℕ)) → x (string_bytes place) ≡ o → AreThere after x
    go true it o has = subst (λ (ns : List (String Global)). AreThere ns x)
        (sym (so ∙ ap (λ (b : Bool). if b then before else before ++ place ∷ []) it)) there
    go false it (Some file) has = subst (λ (ns : List (String Global)). AreThere ns x)
        (sym (so ∙ ap (λ (b : Bool). if b then before else before ++ place ∷ []) it)) (added x before place there (ap is_some has))
    go false it None has = let empty = is.1 (read refl has) in absurd (cc)

filled : (x : Folder) (records before after : List (String Global)) → AreThere before x → AreFilled Sees (starting x) before records after → AreThere after x
filled x [] before after there same = subst (λ (ns : List (String Global)). AreThere ns x) (sym same) there
filled x (name ∷ more) before after there (mid, one, rest) =
    filled x more mid after (one_filled x (string_bytes name) before mid there one) rest

-- WHAT IS PUT ASIDE, over every stop
pub kept : (records names : List (String Global)) (number : ℕ) (x : Folder) (y : Program) (at had : List ℕ) → PutsAside records names number x y
    → x at ≡ Some had → HasStill number x y.folder at had
kept records names number x y at had (seen, (free, made)) =
    put number names x (starting x) y (filled x records [] names tt seen) (vacant number records names x free) (λ at had is. inl is) made at had

pub gone : (records names : List (String Global)) (number : ℕ) (x : Folder) (y : Program) → PutsAside records names number x y → y.runs ≡ true
    → AreAway names y.folder
gone records names number x y (seen, (free, made)) runs =
    away number names x (starting x) y (filled x records [] names tt seen) (vacant number records names x free) made runs

pub often : (records : List (String Global)) (count : ℕ) (x y : Folder) (at had : List ℕ) → PutAsideOften records count x y → x at ≡ Some had
    → HasBehind y at had
often records zero x y at had same is = ([], ap y (append-nil at) ∙ same at ∙ is)
often records (suc more) x y at had (names, number, z, one, rest) is = elim (kept records names number x z at had one is) [
  | inl stays ↦ often records more z.folder y at had rest stays
  | inr away ↦
      let behind = often records more z.folder y (kept_at at number) had rest away.2 in
      (_, ap y (sym (append_assoc at (codes ".before-" ++ decimal number) behind.0)) ∙ behind.1)
]
