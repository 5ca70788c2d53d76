use Rattle.std.specs.Prelude.{◌≡◌, ℕ, Bool, List, Option, Some, Ok}
use Rattle.std.specs.declared.alloc.Global.{Global}
use Rattle.std.specs.declared.string.String.{String}
use Rattle.dali_script.specs.declared.block.Block.{Block}
use Rattle.dali_script.specs.declared.records.Record.{Record}
use Rattle.dali_script.specs.Records.{Kept}
use Rattle.dali_commissioning.specs.declared.driver.DriverLink.{DriverLink}
use Rattle.dali_commissioning.specs.Drivers.{Talk, talk_of}
use Rattle.dali_replacement.specs.declared.come.Come.{Come}
use Rattle.dali_replacement.specs.declared.come.Come.TheVariants.{Nowhere}
use Rattle.dali_replacement.specs.declared.refusal.ReplaceRefusal.{ReplaceRefusal}
use Rattle.dali_commission_said.specs.declared.failure.Failure.TheVariants.{NotReplaced}
use Rattle.dali_commission_said.specs.declared.report.Report.{Report}
use Rattle.dali_commission_said.specs.declared.report.Session.{Session}
use Rattle.dali_commission_said.specs.declared.said.Said.{Said}
use Rattle.dali_commission_stores.specs.Calls.{Call, Look}
use Rattle.dali_commission_stores.specs.declared.records.Seen.{Seen}
use Rattle.dali_commission_tasks.specs.declared.tasks.Replacement.{Replacement}
use Rattle.dali_commission_tasks.specs.declared.tasks.Task.{Task}
use Rattle.dali_commission_tasks.specs.declared.tasks.Task.TheVariants as task
use Rattle.dali_commission_replaced.specs.Asking.{HasReplacedSo}
use Rattle.dali_commission_replaced.specs.Cut.{HasNotAskedOthers}
use Rattle.dali_commission_program.specs.Done.{HasDone}

-- NOTHING WAS PUT from one moment of the talk with a driver to another: all that was written is
-- known, and it is the same
abbrev pub IsNothingPut : Talk → Talk → Type 0
IsNothingPut x y = (bytes : List ℕ) × (x.written ≡ Some bytes) × (y.written ≡ Some bytes)

-- A TASK THAT ENDED WELL HAS PUT SOMETHING, whatever its records are, and those of others
abbrev pub PutsSomething : {F K R W : Type 0} (is_up is_sound : K → Type 0)
    (holds : K → List Record → Type 0) (kept_of : K → Kept) (block_of : K → Block)
    (made began : F → F → Call → Type 0) → (F → Look → Type 0) → (F → Seen → K → Type 0)
    → (R → Option (List ℕ)) → (W → Option (List ℕ)) → (Said → Type 0) → (List ℕ → Type 0) → Task
    → Type 0
PutsSomething {F = F} {R = R} {W = W} is_up is_sound holds kept_of block_of made began saw opens
    remaining contents told wrote task =
    (records : List (String Global)) (others : List Block) (was now : F) (x y : Session R W)
    → HasDone is_up is_sound holds kept_of block_of made began saw opens remaining contents told
    wrote records others was now x y (Ok (tt {0})) task
    → IsNothingPut (talk_of remaining contents x.driver) (talk_of remaining contents y.driver) → ⊥

-- A REPLACEMENT THAT IS REFUSED because the others are not all there HAS PUT SOMETHING
abbrev pub RefusedPutsSomething : Type 0
RefusedPutsSomething =
    (heard : Bool) (a : ℕ) (come : Come) (table : Kept) (gone : List ℕ) (why : ReplaceRefusal)
    (before after : Report) (x y : Talk)
    → HasNotAskedOthers heard a come table gone (NotReplaced a why) before after x y
    → IsNothingPut x y → ⊥

-- A GEAR WITHOUT SHORT ADDRESS WAS LOOKED FOR in a replacement
abbrev pub HasLookedIn : {F K R W : Type 0} (is_up is_sound : K → Type 0)
    (holds : K → List Record → Type 0) (kept_of : K → Kept) (block_of : K → Block)
    → (F → F → Call → Type 0) → (F → Look → Type 0) → (F → Seen → K → Type 0)
    → (R → Option (List ℕ)) → (W → Option (List ℕ)) → (Said → Type 0) → Replacement → ℕ
    → DriverLink R W → DriverLink R W → Type 0
HasLookedIn {F = F} is_up is_sound holds kept_of block_of made saw opens remaining contents told
    wanted random x y =
    (names : List (String Global))
    × (all : List Kept)
    × (news : List Kept)
    × (was : F)
    × (at : F)
    × (it : HasReplacedSo is_up is_sound holds kept_of block_of made saw opens remaining contents
    told wanted names all news random was at x y)
    × (it.plan.come ≡ Nowhere)

-- A REPLACEMENT THAT ENDED WELL HAS PUT SOMETHING, or it has looked for a gear: what is put until
-- that has its random address is not told
abbrev pub PutsOrLooks : {F K R W : Type 0} (is_up is_sound : K → Type 0)
    (holds : K → List Record → Type 0) (kept_of : K → Kept) (block_of : K → Block)
    (made began : F → F → Call → Type 0) → (F → Look → Type 0) → (F → Seen → K → Type 0)
    → (R → Option (List ℕ)) → (W → Option (List ℕ)) → (Said → Type 0) → (List ℕ → Type 0)
    → Replacement → Type 0
PutsOrLooks {F = F} {R = R} {W = W} is_up is_sound holds kept_of block_of made began saw opens
    remaining contents told wrote wanted =
    (records : List (String Global)) (others : List Block) (was now : F) (x y : Session R W)
    → HasDone is_up is_sound holds kept_of block_of made began saw opens remaining contents told
    wrote
    records others was now x y (Ok (tt {0})) (task.Replace wanted)
    → IsNothingPut (talk_of remaining contents x.driver) (talk_of remaining contents y.driver)
    → (random : ℕ)
    × HasLookedIn is_up is_sound holds kept_of block_of made saw opens remaining contents told
    wanted random x.driver y.driver
