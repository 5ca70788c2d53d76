use Rattle.std.specs.Prelude.{◌≡◌, ◌⊎◌, ℕ, true, false, List, [], ◌∷◌, ◌++◌, Result, Ok, Err, IsErr}
use Rattle.std.specs.Prelude.{IfOk, string_bytes}
use Rattle.std.specs.declared.alloc.Global.{Global}
use Rattle.std.specs.declared.string.String.{String}
use Rattle.dali_script.specs.declared.block.Block.{Block}
use Rattle.dali_script.specs.declared.records.Record.{Record}
use Rattle.dali_script.specs.Records.{Kept}
use Rattle.dali_commissioning.specs.Runs.{IsRead}
use Rattle.dali_reserve.specs.declared.error.KeepError.{KeepError}
use Rattle.dali_commission_said.specs.declared.failure.Failure.{Failure}
use Rattle.dali_commission_said.specs.declared.failure.Failure.TheVariants.{Store}
use Rattle.dali_commission_said.specs.declared.failure.StoreFault.TheVariants as store
use Rattle.dali_commission_stores.specs.Calls.{Call, Opened, Closed, Look, Has, Read, Alone}
use Rattle.dali_commission_stores.specs.declared.records.Seen.{Seen}
use Rattle.dali_commission_stores.specs.Seen.{IsBeside, IsSeen}

-- RECORDS ARE LENT, and something beside them: they cannot be had, and what is lent beside them is
-- as it was; or they are opened so, and the borrower does what it does. If all ends well, then as
-- the borrower did.
abbrev pub IsLent : {K D Out : Type 0} → (K → Type 0)
    → (K → K → D → D → Result Out Failure → Type 0) → D → D → Result Out Failure → Type 0
IsLent {K = K} {Out = Out} opens came x y result =
    (IsErr result × (y ≡ x))
    ⊎ ((from : K)
    × (to : K)
    × (done : Result Out Failure)
    × opens from
    × came from to x y done
    × IfOk result (λ out. done ≡ Ok out))

-- A COPY of the records of a name, as of a controller that has all short addresses: what is read of
-- it is what was seen
abbrev pub Copies : {F K : Type 0} (is_up is_sound : K → Type 0) (holds : K → List Record → Type 0)
    (block : K → Block) → (F → Look → Type 0) → F → List ℕ → K → Type 0
Copies {K = K} is_up is_sound holds block saw stores name copy =
    ((block copy).first ≡ 0)
    × ((block copy).last ≡ 63)
    × ((at : K) (k : Kept) → IsRead is_up is_sound holds (block copy) copy at k
    → saw stores (Read name k))

-- it is there, and no journal lay beside it, before it was copied and then
abbrev pub IsCopied : {F K : Type 0} (is_up is_sound : K → Type 0)
    (holds : K → List Record → Type 0)
    (block : K → Block) → (F → Look → Type 0) → F → List ℕ → K → Type 0
IsCopied is_up is_sound holds block saw stores name copy =
    saw stores (Has name true)
    × ((journal : List ℕ) × IsBeside saw stores name journal × saw stores (Has journal false))
    × Copies is_up is_sound holds block saw stores name copy

-- and records that are open cannot be read
abbrev pub IsUnread : Failure → Type 0
IsUnread failure = (e : KeepError) × (failure ≡ Store (store.Store e))

-- RECORDS ARE READ, those of each name, behind others
abbrev pub AreRead : {F : Type 0} → (F → Look → Type 0) → F → List (String Global) → List Kept
    → List Kept → Type 0
AreRead saw stores [] before after = after ≡ before
AreRead saw stores (name ∷ more) before after =
    (k : Kept)
    × saw stores (Read (string_bytes name) k)
    × AreRead saw stores more (before ++ k ∷ []) after

-- RECORDS OF SEVERAL NAMES ARE HELD, and something is lent beside them: they cannot be had, and all
-- is as it was; or the holder does with those of all names what it does, and then, if that ended
-- well, what was due. Why it failed is answered, or that the files could not be closed, or why what
-- was due failed.
abbrev pub HeldSo : {F H Due Out : Type 0} → (H → F → F → Due → Result Out Failure → Type 0)
    → F → F → Result Due Failure → Result Out Failure → Type 0
HeldSo {H = H} {Due = Due} ends at now done (Ok out) =
    (by : H) × (due : Due) × (done ≡ Ok due) × ends by at now due (Ok out)
HeldSo {H = H} {Due = Due} ends at now done (Err failure) =
    ((done ≡ Err failure) × (now ≡ at))
    ⊎ ((due : Due)
    × (done ≡ Ok due)
    × ((now ≡ at) ⊎ ((by : H) × ends by at now due (Err failure))))

abbrev pub IsHeld : {F D H Due Out : Type 0} → (F → Look → Type 0) → List (String Global)
    → (List Kept → F → F → D → D → Result Due Failure → Type 0)
    → (H → F → F → Due → Result Out Failure → Type 0) → F → F → D → D → Result Out Failure → Type 0
IsHeld {F = F} {Due = Due} saw names dues ends was now x y result =
    (IsErr result × (now ≡ was) × (y ≡ x))
    ⊎ ((all : List Kept)
    × AreRead saw was names [] all
    × (at : F)
    × (done : Result Due Failure)
    × dues all was at x y done
    × HeldSo ends at now done result)

-- ALL OTHERS ARE KEPT from acting by a name, and the actor does what it does; or they could not be
-- kept from it, and all is as it was
abbrev pub ActsAlone : {F Out : Type 0} → (F → Look → Type 0) → List ℕ
    → (F → F → Result Out Failure → Type 0) → F → F → Result Out Failure → Type 0
ActsAlone saw name acts was now result =
    (IsErr result × (now ≡ was)) ⊎ (saw was (Alone name) × acts was now result)

-- RECORDS THAT WERE SEEN ARE OPENED, for a controller with a block
abbrev pub IsOpened : {F K : Type 0} → (K → Block) → (F → Look → Type 0) → (F → Seen → K → Type 0)
    → F → List ℕ → Block → K → Type 0
IsOpened block_of saw opens stores name block lent =
    ((seen : Seen) × IsSeen saw stores name block seen × opens stores seen lent)
    × (block_of lent ≡ block)

-- and that changes nothing else than that they are opened, and closed
abbrev pub lent_calls : List ℕ → List Call
lent_calls name = Opened name ∷ Closed name ∷ []
