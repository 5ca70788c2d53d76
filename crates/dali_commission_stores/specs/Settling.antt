use Rattle.std.specs.Prelude.{◌≡◌, ◌≤◌, ◌<◌, ℕ, zero, suc, ◌+◌, List, []}
use Rattle.std.specs.Prelude.{◌∷◌, ◌++◌, ◌⊎◌, Some, None, option_map, slice_get, codes, decimal}
use Rattle.std.specs.Prelude.{length, min, string_bytes}
use Rattle.dali_replacement.specs.declared.swap.Step.{Step}
use Rattle.dali_replacement.specs.declared.swap.Step.TheVariants.{Announce, SetAside, Place, Forget}
use Rattle.dali_replacement.specs.declared.swapping.Swap.{Swap}
use Rattle.dali_replacement.specs.Swap.{file_of, step_after}
use Rattle.dali_replacement.specs.Swapping.{names_of, number_of, swap_text}
use Rattle.dali_commission_stores.specs.Calls.{Call, Wrote, Renamed, Likened, Removed, AreMade}

-- THE CALLS OF A STEP of a swap, with the names of what lies beside its file: first the journal is
-- written; then what is at the place becomes what is kept; then the new file gets its rights, and
-- its place; at last the journal is removed
abbrev pub new_at : List ℕ → List ℕ
new_at name = name ++ codes ".new"

abbrev pub journal_at : List ℕ → List ℕ
journal_at name = name ++ codes ".replacing"

abbrev pub kept_at : List ℕ → ℕ → List ℕ
kept_at name number = name ++ (codes ".before-" ++ decimal number)

abbrev pub calls_of : Step → List ℕ → ℕ → List ℕ → List Call
calls_of (Announce i) name number text = Wrote (journal_at name) text ∷ []
calls_of (SetAside i) name number text = Renamed name (kept_at name number) ∷ []
calls_of (Place i) name number text =
    Likened (new_at name) (kept_at name number) ∷ Renamed (new_at name) name ∷ []
calls_of (Forget i) name number text = Removed (journal_at name) ∷ []

abbrev pub IsNamed : Swap → ℕ → List ℕ → Type 0
IsNamed swap i name = option_map (λ it. string_bytes it) (slice_get (names_of swap) i) ≡ Some name

abbrev pub IsDone : {F : Type 0} → (F → F → Call → Type 0) → Swap → Step → F → F → Type 0
IsDone made swap step x y =
    (name : List ℕ)
    × IsNamed swap (file_of step) name
    × AreMade made (calls_of step name (number_of swap) (swap_text swap)) x y

-- A STEP THAT FAILED: none of its calls was made, or some, and perhaps a part of the next one
abbrev pub AreBegun : {F : Type 0} (made began : F → F → Call → Type 0) → List Call → F → F → Type 0
AreBegun made began [] x y = x ≡ y
AreBegun made began (call ∷ more) x y =
    (x ≡ y) ⊎ (began x y call ⊎ ((z : _) × made x z call × AreBegun made began more z y))

abbrev pub IsBegun : {F : Type 0} (made began : F → F → Call → Type 0) → Swap → Step → F → F
    → Type 0
IsBegun made began swap step x y =
    (x ≡ y)
    ⊎ ((name : List ℕ)
    × IsNamed swap (file_of step) name
    × AreBegun made began (calls_of step name (number_of swap) (swap_text swap)) x y)

-- THE STEPS FROM A MOMENT ON up to another one, or to the end of the swap
abbrev pub count_of : Swap → ℕ
count_of swap = min (length (names_of swap)) 64

abbrev pub GoesOn : {F : Type 0} → (F → F → Call → Type 0) → Swap → ℕ → ℕ → List Step → F → F
    → Type 0
GoesOn made swap from to [] x y =
    ((to ≤ from) ⊎ (step_after (count_of swap) from ≡ None)) × (x ≡ y)
GoesOn made swap from to (step ∷ more) x y =
    (step_after (count_of swap) from ≡ Some step)
    × (from < to)
    × ((z : _) × IsDone made swap step x z × GoesOn made swap (from + 1) to more z y)

-- A SWAP THAT IS TAKEN BACK: the journals are removed, the last one first
abbrev pub GoesBack : {F : Type 0} → (F → F → Call → Type 0) → Swap → ℕ → F → F → Type 0
GoesBack made swap zero x y = x ≡ y
GoesBack made swap (suc i) x y =
    (z : _) × IsDone made swap (Forget i) x z × GoesBack made swap i z y

-- WHAT IS DONE IF A STEP FAILS: all steps before it, and of that one what it came to
abbrev pub GoesOnInPart : {F : Type 0} (made began : F → F → Call → Type 0) → Swap → ℕ → ℕ
    → List Step → F → F → Type 0
GoesOnInPart made began swap from to [] x y = ⊥
GoesOnInPart made began swap from to (step ∷ more) x y =
    (step_after (count_of swap) from ≡ Some step)
    × (from < to)
    × (IsBegun made began swap step x y
    ⊎ ((z : _) × IsDone made swap step x z × GoesOnInPart made began swap (from + 1) to more z y))

abbrev pub GoesBackInPart : {F : Type 0} (made began : F → F → Call → Type 0) → Swap → ℕ → F → F
    → Type 0
GoesBackInPart made began swap zero x y = ⊥
GoesBackInPart made began swap (suc i) x y =
    IsBegun made began swap (Forget i) x y
    ⊎ ((z : _) × IsDone made swap (Forget i) x z × GoesBackInPart made began swap i z y)
