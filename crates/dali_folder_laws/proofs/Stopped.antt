use Rattle.std.proofs.Common.{◌≡◌, ℕ, zero, suc, ◌+◌, ◌*◌, ◌<◌, ◌≤◌, ◌⊎◌, inl, inr, Bool, true, false, List, [], ◌∷◌}
use Rattle.std.proofs.Common.{Some, None, refl, subst, ◌∙◌, arith}
use Rattle.dali_replacement.specs.declared.swap.Step.{Step}
use Rattle.dali_replacement.specs.declared.swap.Step.TheVariants.{Announce, SetAside, Place, Forget}
use Rattle.dali_replacement.specs.declared.swapping.Swap.{Swap}
use Rattle.std.specs.declared.{alloc.Global.Global, string.String.String}
use Rattle.std.specs.Prelude.{string_bytes}
use Rattle.dali_replacement.specs.Swap.{step_after}
use Rattle.dali_commission_stores.specs.Calls.{Call, Synced, AreMade}
use Rattle.dali_commission_stores.specs.Settled.{syncing}
use Rattle.dali_commission_stores.specs.Settling.{IsDone, count_of, GoesOn, GoesBack}
use Rattle.dali_folder_laws.specs.Folder.{Folder, IsSame, IsAfter}
use Rattle.dali_folder_laws.specs.Moments.{AreApart, Files, IsAt, IsAtSome}
use Rattle.dali_folder_laws.specs.Stops.{Program, HasMade, Makes}
use Rattle.dali_folder_laws.proofs.Times.{last}
use Rattle.dali_folder_laws.proofs.Parts.{same_at, announced, kept, put, forgotten, taken_back}

-- A PROGRAM AT A MOMENT: if it runs still, its folder is at that one; if it was stopped, at some one
abbrev pub Stands : Swap → Files → ℕ → Program → Type 0
Stands swap files m x = IsAtSome swap files x.folder × (x.runs ≡ true → IsAt swap files m x.folder)

pub same_at_some : (swap : Swap) (files : Files) (x y : Folder) → IsAtSome swap files x → IsSame x y → IsAtSome swap files y
same_at_some swap files x y at same = (at.0, at.1, same_at swap files at.0 x y at.2 same)

-- A CALL leads from one moment to another, if it does when it ends well
pub once : (swap : Swap) (files : Files) (m l : ℕ) (call : Call) (x y : Program)
    → l ≤ 4 * count_of swap
    → (IsAt swap files m x.folder → IsAfter call x.folder y.folder → IsAt swap files l y.folder)
    → Stands swap files m x → Makes x y call → Stands swap files l y
once swap files m l call x y inside well stands made = go x.runs y.runs refl refl made
  where
    left : IsAt swap files m x.folder → IsSame x.folder y.folder ⊎ IsAfter call x.folder y.folder → IsAtSome swap files y.folder
    left at (inl same) = same_at_some swap files x.folder y.folder stands.0 same
    left at (inr after) = (l, inside, well at after)

    go : (a b : Bool) → x.runs ≡ a → y.runs ≡ b → HasMade a b x.folder y.folder call → Stands swap files l y
    go true true isA isB after = ((l, inside, well (stands.1 isA) after), λ runs. well (stands.1 isA) after)
    go true false isA isB stopped = (left (stands.1 isA) stopped, λ runs. absurd (cc))
    go false true isA isB not = absurd (not)
    go false false isA isB same = (same_at_some swap files x.folder y.folder stands.0 same, λ runs. absurd (cc))

-- what syncs folders changes nothing of what programs see
pub synced : (swap : Swap) (files : Files) (m : ℕ) (names : List (String Global)) (x y : Program) → m ≤ 4 * count_of swap
    → AreMade Makes (syncing names) x y → Stands swap files m x → Stands swap files m y
synced swap files m [] x y inside same stands = subst (λ (p : Program). Stands swap files m p) same stands
synced swap files m (name ∷ more) x y inside (z, first, rest) stands =
    synced swap files m more z y inside rest
    (once swap files m m (Synced (string_bytes name)) x z inside (same_at swap files m x.folder z.folder) stands first)

-- a program that was stopped does nothing more
pub idle : (call : Call) (x y : Program) → x.runs ≡ false → Makes x y call
    → (y.runs ≡ false) × IsSame x.folder y.folder
idle call x y stopped made = go x.runs y.runs refl refl made
  where
    go : (a b : Bool) → x.runs ≡ a → y.runs ≡ b → HasMade a b x.folder y.folder call → (y.runs ≡ false) × IsSame x.folder y.folder
    go true b isA isB some = absurd (cc)
    go false true isA isB not = absurd (not)
    go false false isA isB same = (isB, same)

-- A STEP
step_done : (swap : Swap) (files : Files) (m : ℕ) (s : Step) (x y : Program) → AreApart swap
    → step_after (count_of swap) m ≡ Some s → m + 1 ≤ 4 * count_of swap → IsDone Makes swap s x y → Stands swap files m x
    → Stands swap files (m + 1) y
step_done swap files m (Announce k) x y apart due inside (name, named, (z, call, end)) stands =
    subst (λ (p : Program). Stands swap files (m + 1) p) end
    (once swap files m (m + 1) _ x z inside (announced swap files m k name x.folder z.folder apart named due) stands call)
step_done swap files m (SetAside k) x y apart due inside (name, named, (z, call, end)) stands =
    subst (λ (p : Program). Stands swap files (m + 1) p) end
    (once swap files m (m + 1) _ x z inside (kept swap files m k name x.folder z.folder apart named due) stands call)
step_done swap files m (Place k) x y apart due inside (name, named, (w, first, (z, call, end))) stands =
    subst (λ (p : Program). Stands swap files (m + 1) p) end
    (once swap files m (m + 1) _ w z inside (put swap files m k name w.folder z.folder apart named due)
    (once swap files m m _ x w (omega (arith, inside)) (same_at swap files m x.folder w.folder) stands first) call)
step_done swap files m (Forget k) x y apart due inside (name, named, (z, call, end)) stands =
    subst (λ (p : Program). Stands swap files (m + 1) p) end
    (once swap files m (m + 1) _ x z inside (forgotten swap files m k name x.folder z.folder apart named due) stands call)

-- STEP BY STEP
pub goes_on : (swap : Swap) (files : Files) (from to : ℕ) (steps : List Step) (x y : Program)
    → AreApart swap → from ≤ to → to ≤ 4 * count_of swap → GoesOn Makes swap from to steps x y → Stands swap files from x → Stands swap files to y
goes_on swap files from to [] x y apart before inside (over, same) stands =
    subst (λ (p : Program). Stands swap files to p) same (subst (λ (m : ℕ). Stands swap files m x) (at over) stands)
  where
    at : (to ≤ from) ⊎ (step_after (count_of swap) from ≡ None) → from ≡ to
    at (inl after) = omega (arith, after, before)
    at (inr none) = let end = last (count_of swap) from none in omega (arith, end, before, inside)
goes_on swap files from to (s ∷ more) x y apart before inside (due, under, (z, first, rest)) stands =
    goes_on swap files (from + 1) to more z y apart (omega (arith, under)) inside rest
    (step_done swap files from s x z apart due (omega (arith, under, inside)) first stands)

pub goes_back : (swap : Swap) (files : Files) (m : ℕ) (x y : Program) → AreApart swap
    → m ≤ count_of swap → GoesBack Makes swap m x y → Stands swap files m x → Stands swap files 0 y
goes_back swap files zero x y apart inside same stands = subst (λ (p : Program). Stands swap files 0 p) same stands
goes_back swap files (suc m) x y apart inside (z, (name, named, (w, call, end)), rest) stands =
    let here : m < count_of swap = omega (arith, inside) in
    let same : suc m ≡ m + 1 = omega arith in
    let at : Stands swap files m w =
    once swap files (m + 1) m _ x w (omega (arith, inside)) (taken_back swap files m name x.folder w.folder apart named here)
    (subst (λ (l : ℕ). Stands swap files l x) same stands) call in
    goes_back swap files m z y apart (omega (arith, inside)) rest (subst (λ (p : Program). Stands swap files m p) end at)

-- a program that was stopped goes on nowhere
pub none_done : (calls : List Call) (x y : Program) → AreMade Makes calls x y → x.runs ≡ false
    → (y.runs ≡ false) × IsSame x.folder y.folder
none_done [] x y same stopped = subst (λ (p : Program). (p.runs ≡ false) × IsSame x.folder p.folder) same (stopped, λ at. refl)
none_done (call ∷ more) x y (z, first, rest) stopped =
    let one = idle call x z stopped first in
    let all = none_done more z y rest one.0 in
    (all.0, λ at. all.1 at ∙ one.1 at)

pub goes_nowhere : (swap : Swap) (from to : ℕ) (steps : List Step) (x y : Program)
    → GoesOn Makes swap from to steps x y → x.runs ≡ false → (y.runs ≡ false) × IsSame x.folder y.folder
goes_nowhere swap from to [] x y (over, same) stopped =
    subst (λ (p : Program). (p.runs ≡ false) × IsSame x.folder p.folder) same (stopped, λ at. refl)
goes_nowhere swap from to (s ∷ more) x y (due, under, (z, first, rest)) stopped =
    let one = none_done _ x z first.2 stopped in
    let all = goes_nowhere swap (from + 1) to more z y rest one.0 in
    (all.0, λ at. all.1 at ∙ one.1 at)

pub goes_back_nowhere : (swap : Swap) (m : ℕ) (x y : Program) → GoesBack Makes swap m x y → x.runs ≡ false
    → (y.runs ≡ false) × IsSame x.folder y.folder
goes_back_nowhere swap zero x y same stopped =
    subst (λ (p : Program). (p.runs ≡ false) × IsSame x.folder p.folder) same (stopped, λ at. refl)
goes_back_nowhere swap (suc m) x y (z, (name, named, (w, call, end)), rest) stopped =
    let one = idle _ x w stopped call in
    let all = goes_back_nowhere swap m z y rest (subst (λ (p : Program). p.runs ≡ false) end one.0) in
    (all.0, λ at. all.1 at ∙ subst (λ (p : Program). p.folder at ≡ x.folder at) end (one.1 at))
