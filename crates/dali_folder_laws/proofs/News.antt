use Rattle.std.proofs.Common.{◌≡◌, ℕ, ◌⊎◌, inl, inr, Bool, true, false, List, [], ◌∷◌, None, refl, ap, subst, sym, ◌∙◌}
use Rattle.dali_commission_stores.specs.Calls.{Call, Renamed, Opened, Closed, AreMade}
use Rattle.dali_commission_stores.specs.Keeping.{aside_at, IsAside}
use Rattle.dali_commission_stores.specs.Lent.{lent_calls}
use Rattle.dali_commission_stores.specs.Settling.{new_at}
use Rattle.dali_folder_laws.specs.Asides.{LiesOrAside}
use Rattle.dali_folder_laws.specs.Folder.{Folder, IsSame, IsUsed, IsAfter}
use Rattle.dali_folder_laws.specs.Stops.{Program, starting, HasMade, Makes, Sees}
use Rattle.dali_folder_laws.proofs.Asides.{running, well, not_there}

-- RECORDS ARE USED, call by call
same_used : (name : List ℕ) (x y z : Folder) → IsUsed name x y → IsSame y z → IsUsed name x z
same_used name x y z used same at not log = same at ∙ used at not log

used_more : (name : List ℕ) (x y z : Folder) → IsUsed name x y → IsUsed name y z → IsUsed name x z
used_more name x y z used more at not log = more at not log ∙ used at not log

used : (name : List ℕ) (call : Call) (x : Folder) (y z : Program) → ((f g : Folder) → IsAfter call f g → IsUsed name f g) → IsUsed name x y.folder
    → Makes y z call → IsUsed name x z.folder
used name call x y z uses was made = go y.runs z.runs made
  where
    go : (a b : Bool) → HasMade a b y.folder z.folder call → IsUsed name x z.folder
    go true true after = used_more name x y.folder z.folder was (uses y.folder z.folder after)
    go true false (inl same) = same_used name x y.folder z.folder was same
    go true false (inr after) = used_more name x y.folder z.folder was (uses y.folder z.folder after)
    go false true not = absurd (not)
    go false false same = same_used name x y.folder z.folder was same

both : (name : List ℕ) (x y z w : Program) → Makes x y (Opened name) → Makes y z (Closed name) → z ≡ w → IsUsed name x.folder w.folder
both name x y z w opened closed same =
    subst (λ (p : Program). IsUsed name x.folder p.folder) same
    (used name (Closed name) x.folder y z (λ f g it. it) (used name (Opened name) x.folder x y (λ f g it. it) (λ at not log. refl) opened) closed)

pub lent : (name : List ℕ) (x : Folder) (y : Program) → AreMade Makes (lent_calls name) (starting x) y → IsUsed name x y.folder
lent name x y (a, opened, (b, closed, same)) = both name (starting x) a b y opened closed same

-- A NEW FILE
put_or_not : (from to : List ℕ) (y z : Program) → Makes y z (Renamed from to) → IsSame y.folder z.folder ⊎ IsAfter (Renamed from to) y.folder z.folder
put_or_not from to y z made = go y.runs z.runs made
  where
    go : (a b : Bool) → HasMade a b y.folder z.folder (Renamed from to) → IsSame y.folder z.folder ⊎ IsAfter (Renamed from to) y.folder z.folder
    go true true after = inr after
    go true false left = left
    go false true not = absurd (not)
    go false false same = inl same

pub lies : (name : List ℕ) (x : Folder) (y : Program) → IsAside Makes Sees (λ _. Unit {0}) name (starting x) y → LiesOrAside name x y.folder
lies name x y (inl none) =
    (x, (λ at not log. refl), inl (λ at. sym (ap (λ (p : Program). p.folder at) none.1)))
lies name x y (inr (number, free, (a, opened, (b, closed, (c, renamed, same))), said)) =
    subst (λ (p : Program). LiesOrAside name x p.folder) same (
      b.folder,
      both (new_at name) (starting x) a b b opened closed refl,
      elim (put_or_not (new_at name) (aside_at name number) b c renamed) [
        | inl still ↦ inl still
        | inr put ↦ inr (number, not_there _ (free refl), put)
      ],
    )

pub away : (name : List ℕ) (x : Folder) (y : Program) → IsAside Makes Sees (λ _. Unit {0}) name (starting x) y → y.runs ≡ true
    → y.folder (new_at name) ≡ None
away name x y (inl none) runs = sym (ap (λ (p : Program). p.folder (new_at name)) none.1) ∙ not_there _ (none.0 refl)
away name x y (inr (number, free, (a, opened, (b, closed, (c, renamed, same))), said)) runs =
    let call : Call = Renamed (new_at name) (aside_at name number) in
    let ended : c.runs ≡ true = ap (λ (p : Program). p.runs) same ∙ runs in
    let before = running (call ∷ []) b c (c, renamed, refl) ended in
    let after = well call b c before ended renamed in
    ap (λ (p : Program). p.folder (new_at name)) (sym same) ∙ after.1
