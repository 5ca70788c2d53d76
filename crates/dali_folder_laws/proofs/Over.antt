use Rattle.std.proofs.Common.{◌≡◌, ℕ, zero, suc, ◌*◌, ◌≤◌, Bool, true, false}
use Rattle.std.proofs.Common.{refl, subst, sym, ◌∙◌, arith}
use Rattle.std.specs.Prelude.{if◌then◌else◌}
use Rattle.dali_replacement.specs.declared.swapping.Swap.{Swap}
use Rattle.dali_replacement.specs.Swapping.{names_of}
use Rattle.dali_commission_stores.specs.Settled.{IsEnded, IsSettled}
use Rattle.dali_commission_stores.specs.Settling.{count_of}
use Rattle.dali_folder_laws.specs.Folder.{Folder, IsSame}
use Rattle.dali_folder_laws.specs.Moments.{Files, MayBegin, IsAt, IsAtSome}
use Rattle.dali_folder_laws.specs.Stops.{Program, starting, Makes, Sees, Exchanges, SettleOften, ended_as}
use Rattle.dali_folder_laws.proofs.Looked.{found}
use Rattle.dali_folder_laws.proofs.Truths.{from_first, from_last}
use Rattle.dali_folder_laws.proofs.Stopped.{Stands, same_at_some, synced, goes_on, goes_back, goes_nowhere, goes_back_nowhere}

-- how a swap ends
abbrev pub end_of : Swap → Bool → ℕ
end_of swap done = if done then 4 * count_of swap else 0

pub starts : (swap : Swap) (files : Files) (m : ℕ) (x : Program) → m ≤ 4 * count_of swap → IsAt swap files m x.folder → Stands swap files m x
starts swap files m x inside is = ((m, inside, is), λ runs. is)

-- IT IS SETTLED from the moment at which it is
ends : (swap : Swap) (files : Files) (m : ℕ) (x y : Program) (done : Bool) → MayBegin swap
    → x.runs ≡ true → m ≤ 4 * count_of swap → IsAt swap files m x.folder → IsEnded Makes Sees swap x y done
    → Stands swap files (end_of swap done) y
ends swap files m x y true may runs inside is (l, seen, late, (steps, goes)) =
    let same = found swap files m l x may.most runs inside is seen in
    goes_on swap files l (4 * count_of swap) steps x y may.apart (subst (λ (k : ℕ). k ≤ 4 * count_of swap) (sym same) inside) (omega arith) goes
    (subst (λ (k : ℕ). Stands swap files k x) (sym same) (starts swap files m x inside is))
ends swap files m x y false may runs inside is (l, seen, early, goes) =
    let same = found swap files m l x may.most runs inside is seen in
    goes_back swap files l x y may.apart (omega (arith, early)) goes
    (subst (λ (k : ℕ). Stands swap files k x) (sym same) (starts swap files m x inside is))

nowhere : (swap : Swap) (x y : Program) (done : Bool) → x.runs ≡ false → IsEnded Makes Sees swap x y done
    → (y.runs ≡ false) × IsSame x.folder y.folder
nowhere swap x y true stopped (l, seen, late, (steps, goes)) = goes_nowhere swap l (4 * count_of swap) steps x y goes stopped
nowhere swap x y false stopped (l, seen, early, goes) = goes_back_nowhere swap l x y goes stopped

pub ended_so : (swap : Swap) (files : Files) (m : ℕ) (x y : Program) (done : Bool) → MayBegin swap
    → m ≤ 4 * count_of swap → Stands swap files m x → IsEnded Makes Sees swap x y done → Stands swap files (end_of swap done) y
ended_so swap files m x y done may inside stands end = go x.runs refl
  where
    go : (a : Bool) → x.runs ≡ a → Stands swap files (end_of swap done) y
    go true runs = ends swap files m x y done may runs inside (stands.1 runs) end
    go false stopped =
        let none = nowhere swap x y done stopped end in
        (same_at_some swap files x.folder y.folder stands.0 none.1, λ runs. let both = sym none.0 ∙ runs in absurd (cc))

pub settled : (swap : Swap) (files : Files) (m : ℕ) (x y : Program) (done : Bool) → MayBegin swap
    → m ≤ 4 * count_of swap → Stands swap files m x → IsSettled Makes Sees swap x y done → Stands swap files (end_of swap done) y
settled swap files m x y done may inside stands (z, syncs, end) =
    ended_so swap files m z y done may inside (synced swap files m (names_of swap) x z inside syncs stands) end

-- AN EXCHANGE, from the beginning
pub exchanged : (swap : Swap) (files : Files) (x : Folder) (y : Program) → MayBegin swap
    → IsAt swap files 0 x → Exchanges swap x y → Stands swap files (4 * count_of swap) y
exchanged swap files x y may is (z, (steps, announced), alone, end) =
    settled swap files (count_of swap) z y true may (omega arith)
    (goes_on swap files 0 (count_of swap) steps (starting x) z may.apart (omega arith) (omega arith) announced
    (starts swap files 0 (starting x) (omega arith) is)) end

-- and whatever program settles it then
pub settled_often : (swap : Swap) (files : Files) (often : ℕ) (x y : Folder) → MayBegin swap
    → IsAtSome swap files x → SettleOften swap often x y → IsAtSome swap files y
settled_often swap files zero x y may at same = same_at_some swap files x y at same
settled_often swap files (suc more) x y may at (z, done, one, rest) =
    let next = settled swap files at.0 (starting x) z done may at.1 (starts swap files at.0 (starting x) at.1 at.2) one in
    settled_often swap files more z.folder y may next.0 rest

-- HOW IT ENDS
pub ended : (swap : Swap) (files : Files) (done : Bool) (x : Folder) → IsAt swap files (end_of swap done) x → ended_as swap files done x
ended swap files true x is = from_last swap files x is
ended swap files false x is = from_first swap files x is
