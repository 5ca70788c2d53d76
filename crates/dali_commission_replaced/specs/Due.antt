use Rattle.std.specs.Prelude.{◌≡◌, ◌⊎◌, ℕ, List, Option, Result, Ok, Err}
use Rattle.std.specs.declared.alloc.Global.{Global}
use Rattle.std.specs.declared.string.String.{String}
use Rattle.dali_script.specs.declared.block.Block.{Block}
use Rattle.dali_script.specs.declared.records.Record.{Record}
use Rattle.dali_script.specs.Records.{Kept}
use Rattle.dali_commissioning.specs.Drivers.{lines_of}
use Rattle.dali_replacement.specs.Permit.{confirmed_random}
use Rattle.dali_commission_said.specs.declared.failure.Failure.{Failure}
use Rattle.dali_commission_said.specs.declared.report.Session.{Session}
use Rattle.dali_commission_said.specs.declared.said.Said.{Said}
use Rattle.dali_commission_stores.specs.Calls.{Call, Look}
use Rattle.dali_commission_stores.specs.declared.records.Seen.{Seen}
use Rattle.dali_commission_stores.specs.Settled.{IsExchanged, IsExchangedInPart}
use Rattle.dali_commission_tasks.specs.declared.tasks.Replacement.{Replacement}
use Rattle.dali_commission_replaced.specs.declared.replacing.DueSwap.{DueSwap}
use Rattle.dali_commission_replaced.specs.Asking.{HasReplacedSo, FailsSo}
use Rattle.dali_commission_replaced.specs.Replacing.{AreUnannounced, IsDue}

-- WHAT IS DONE WHILE THE RECORDS ARE HELD: a swap is due then, or nothing is put, or a beginning
abbrev pub Dues : {F K R W : Type 0} (is_up is_sound : K → Type 0)
    (holds : K → List Record → Type 0) (kept_of : K → Kept) (block_of : K → Block)
    → (F → F → Call → Type 0) → (F → Look → Type 0) → (F → Seen → K → Type 0)
    → (R → Option (List ℕ)) → (W → Option (List ℕ)) → (Said → Type 0) → Replacement
    → List (String Global) → List Kept → F → F → Session R W → Session R W
    → Result DueSwap Failure → Type 0
Dues is_up is_sound holds kept_of block_of made saw opens remaining contents told wanted names all
    was at x y (Ok due) =
    AreUnannounced saw was names
    × IsDue saw at wanted.short names all due
    × HasReplacedSo is_up is_sound holds kept_of block_of made saw opens remaining contents told
    wanted names all due.news.items (confirmed_random due.confirmed) was at x.driver y.driver
    × (y.report ≡ record x.report { frames = lines_of y.driver })
Dues is_up is_sound holds kept_of block_of made saw opens remaining contents told wanted names all
    was at x y (Err failure) =
    ((y ≡ x) × (at ≡ was))
    ⊎ (AreUnannounced saw was names
    × FailsSo is_up is_sound holds kept_of block_of made saw opens remaining contents told wanted
    names all failure was x y)

-- and once their files are closed: these are exchanged, or in part
abbrev pub EndsDue : {F : Type 0} (made began : F → F → Call → Type 0) → (F → Look → Type 0) → F → F
    → DueSwap → Result DueSwap Failure → Type 0
EndsDue made began saw from to due (Ok out) = IsExchanged made saw due.swap from to × (out ≡ due)
EndsDue made began saw from to due (Err failure) = IsExchangedInPart made began saw due.swap from to
