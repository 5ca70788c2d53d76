use Rattle.std.specs.Prelude.{◌≡◌, ◌⊎◌, ◌≤◌, ◌<◌, ℕ, ◌*◌, Bool, true, false, List, [], ◌∷◌}
use Rattle.std.specs.Prelude.{Option, IfSome, string_bytes}
use Rattle.std.specs.declared.alloc.Global.{Global}
use Rattle.std.specs.declared.string.String.{String}
use Rattle.dali_replacement.specs.declared.swap.Step.{Step}
use Rattle.dali_replacement.specs.declared.swapping.Swap.{Swap}
use Rattle.dali_replacement.specs.Swapping.{names_of}
use Rattle.dali_commission_stores.specs.Calls.{Call, Synced, AreMade, Look, Alone}
use Rattle.dali_commission_stores.specs.Seen.{IsMoment, IsFirstJournal}
use Rattle.dali_commission_stores.specs.Settling.{AreBegun, count_of, GoesOn, GoesBack}
use Rattle.dali_commission_stores.specs.Settling.{GoesOnInPart, GoesBackInPart}

-- WHAT AN EARLIER CALL HAS LEFT in the folders of these files is put on the disk: if that one was
-- killed, it may not be there yet
abbrev pub syncing : List (String Global) → List Call
syncing [] = []
syncing (name ∷ more) = Synced (string_bytes name) ∷ syncing more

-- ITS END: by the moment at which it is, it goes on to the last moment if each journal
-- was written, else it is taken back
abbrev pub IsEnded : {F : Type 0} → (F → F → Call → Type 0) → (F → Look → Type 0) → Swap → F → F
    → Bool → Type 0
IsEnded made saw swap x y true =
    (moment : ℕ)
    × IsMoment saw swap x moment
    × (count_of swap ≤ moment)
    × ((steps : List Step) × GoesOn made swap moment (4 * count_of swap) steps x y)
IsEnded made saw swap x y false =
    (moment : ℕ)
    × IsMoment saw swap x moment
    × (moment < count_of swap)
    × GoesBack made swap moment x y

abbrev pub IsSettled : {F : Type 0} → (F → F → Call → Type 0) → (F → Look → Type 0) → Swap → F → F
    → Bool → Type 0
IsSettled made saw swap x y done =
    (z : _) × AreMade made (syncing (names_of swap)) x z × IsEnded made saw swap z y done

-- what is done of that if it fails
abbrev pub IsEndedInPart : {F : Type 0} (made began : F → F → Call → Type 0) → (F → Look → Type 0)
    → Swap → F → F → Type 0
IsEndedInPart made began saw swap x y =
    (x ≡ y)
    ⊎ ((moment : ℕ)
    × IsMoment saw swap x moment
    × (((count_of swap ≤ moment)
    × ((steps : List Step)
    × GoesOnInPart made began swap moment (4 * count_of swap) steps x y))
    ⊎ ((moment < count_of swap) × GoesBackInPart made began swap moment x y)))

abbrev pub IsSettledInPart : {F : Type 0} (made began : F → F → Call → Type 0)
    → (F → Look → Type 0) → Swap → F → F → Type 0
IsSettledInPart made began saw swap x y =
    (x ≡ y)
    ⊎ (AreBegun made began (syncing (names_of swap)) x y
    ⊎ ((z : _)
    × AreMade made (syncing (names_of swap)) x z
    × IsEndedInPart made began saw swap z y))

-- ALL OTHERS ARE KEPT from acting by the first journal of a swap that lies there, if one does
abbrev pub IsAlone : {F : Type 0} → (F → Look → Type 0) → Swap → F → Type 0
IsAlone saw swap x =
    (at : Option (List ℕ))
    × IsFirstJournal saw x (names_of swap) at
    × IfSome at (λ journal. saw x (Alone journal))

-- AN EXCHANGE: first each journal is written, and then it goes on to its end
abbrev pub IsExchanged : {F : Type 0} → (F → F → Call → Type 0) → (F → Look → Type 0) → Swap → F → F
    → Type 0
IsExchanged made saw swap x y =
    (z : _)
    × ((steps : List Step) × GoesOn made swap 0 (count_of swap) steps x z)
    × IsAlone saw swap z
    × IsSettled made saw swap z y true

-- what is done of that if it fails: some journals are written; or all, and the rest in part, or it
-- is taken back
abbrev pub IsExchangedInPart : {F : Type 0} (made began : F → F → Call → Type 0)
    → (F → Look → Type 0) → Swap → F → F → Type 0
IsExchangedInPart made began saw swap x y =
    (x ≡ y)
    ⊎ (((steps : List Step) × GoesOnInPart made began swap 0 (count_of swap) steps x y)
    ⊎ ((z : _)
    × ((steps : List Step) × GoesOn made swap 0 (count_of swap) steps x z)
    × (IsSettledInPart made began saw swap z y ⊎ IsSettled made saw swap z y false)))
