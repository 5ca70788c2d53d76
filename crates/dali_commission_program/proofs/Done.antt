use Rattle.std.proofs.Common.{◌≡◌, ℕ, List, Option, Some, Result, subst, sym}
use Rattle.std.specs.Prelude.{IfErr, OnOk, MatchOption, option_map, slice_get, string_bytes}
use Rattle.std.specs.declared.{alloc.Global.Global, string.String.String}
use Rattle.dali_script.specs.{declared.block.Block.Block, declared.records.Record.Record, Records.Kept}
use Rattle.dali_commissioning.specs.Drivers.{talk_of, has_heard, lines_of}
use Rattle.dali_commission_said.specs.{declared.failure.Failure.Failure, declared.report.Session.Session, declared.said.Said.Said, Tables.only}
use Rattle.dali_commission_tasks.specs.declared.tasks.{Replacement.Replacement, Setup.Setup, Task.{Task, TheVariants.{Run, Check, Replace, Accept}}}
use Rattle.dali_commission_stores.specs.{Calls.{Call, Look}, declared.records.Seen.Seen, Lent.{IsLent, IsOpened}}
use Rattle.dali_commission_asked.specs.Came.{IsCheckOf}
use Rattle.dali_commission_mended.specs.Tellings.{HasRunOver}
use Rattle.dali_commission_replaced.{specs.Accepting.{HasAccepted, HasNotAccepted, IsAcceptance}, proofs.Accepted.acceptance}
use Rattle.dali_commission_replaced.{specs.Asking.{HasReplaced, HasNotReplaced, IsReplacement}, proofs.Given.replacement}
use Rattle.dali_commission_program.specs.Done.{HasDone}

-- A TASK THAT IS A RUN is done by one, over records that are lent.
pub run_done : {F K R W : Type 0} (is_up is_sound : K → Type 0) (holds : K → List Record → Type 0) (kept_of : K → Kept) (block_of : K → Block)
    (made began : F → F → Call → Type 0) (saw : F → Look → Type 0) (opens : F → Seen → K → Type 0) (remaining : R → Option (List ℕ))
    (contents : W → Option (List ℕ)) (told : Said → Type 0) (wrote : List ℕ → Type 0) (records : List (String Global)) (name : List ℕ)
    (at others : List Block) (was now : F) (x y : Session R W) (result : Result (Unit {0}) Failure) (task : Task) (setup : Setup)
    → task ≡ Run setup → name ≡ only records → at ≡ others
    → IsLent (IsOpened block_of saw opens was name setup.block)
    (λ from to p q done. HasRunOver is_up is_sound holds kept_of (block_of from) remaining contents told at setup from to p q
    done) x y result
    → HasDone is_up is_sound holds kept_of block_of made began saw opens remaining contents told wrote records others was now x y result task
run_done is_up is_sound holds kept_of block_of made began saw opens remaining contents told wrote records name at others was now x y result task setup is named
    same lent =
    subst (λ (t : Task). HasDone is_up is_sound holds kept_of block_of made began saw opens remaining contents told wrote records others was now x y result t)
    (sym is)
    (subst (λ (o : List Block). IsLent (IsOpened block_of saw opens was (only records) setup.block)
    (λ from to p q done. HasRunOver is_up is_sound holds kept_of (block_of from) remaining contents told o setup from to p q
    done) x y result) same
    (subst (λ (n : List ℕ). IsLent (IsOpened block_of saw opens was n setup.block)
    (λ from to p q done. HasRunOver is_up is_sound holds kept_of (block_of from) remaining contents told at setup from to p q
    done) x y result) named lent))

-- and one that is a check by that, beside the records of the first name
pub check_done : {F K R W : Type 0} (is_up is_sound : K → Type 0) (holds : K → List Record → Type 0) (kept_of : K → Kept) (block_of : K → Block)
    (made began : F → F → Call → Type 0) (saw : F → Look → Type 0) (opens : F → Seen → K → Type 0) (remaining : R → Option (List ℕ))
    (contents : W → Option (List ℕ)) (told : Said → Type 0) (wrote : List ℕ → Type 0) (records : List (String Global)) (first : Option (List ℕ))
    (at others : List Block) (was now : F) (x y : Session R W) (result : Result (Unit {0}) Failure) (task : Task)
    → task ≡ Check → first ≡ option_map (λ it. string_bytes it) (slice_get records 0) → at ≡ others
    → IsCheckOf saw was told at (has_heard y.driver) (lines_of y.driver) (talk_of remaining contents x.driver) (talk_of remaining contents y.driver)
    x.report y.report result first
    → HasDone is_up is_sound holds kept_of block_of made began saw opens remaining contents told wrote records others was now x y result task
check_done is_up is_sound holds kept_of block_of made began saw opens remaining contents told wrote records first at others was now x y result task is named
    same checks =
    subst (λ (t : Task). HasDone is_up is_sound holds kept_of block_of made began saw opens remaining contents told wrote records others was now x y result t)
    (sym is)
    (subst (λ (o : List Block). IsCheckOf saw was told o (has_heard y.driver) (lines_of y.driver) (talk_of remaining contents x.driver)
    (talk_of remaining contents y.driver) x.report y.report result (option_map (λ it. string_bytes it) (slice_get records 0))) same
    (subst (λ (n : Option (List ℕ)). IsCheckOf saw was told at (has_heard y.driver) (lines_of y.driver) (talk_of remaining contents x.driver)
    (talk_of remaining contents y.driver) x.report y.report result n) named checks))

-- and one that is a replacement by that, well or not
pub replace_done : {F K R W : Type 0} (is_up is_sound : K → Type 0) (holds : K → List Record → Type 0) (kept_of : K → Kept) (block_of : K → Block)
    (made began : F → F → Call → Type 0) (saw : F → Look → Type 0) (opens : F → Seen → K → Type 0) (remaining : R → Option (List ℕ))
    (contents : W → Option (List ℕ)) (told : Said → Type 0) (wrote : List ℕ → Type 0) (at records : List (String Global)) (others : List Block)
    (was now : F) (x y : Session R W) (result : Result (Unit {0}) Failure) (task : Task) (wanted : Replacement) → task ≡ Replace wanted → at ≡ records
    → OnOk result ((random : ℕ)
    × HasReplaced is_up is_sound holds kept_of block_of made saw opens remaining contents told wanted at random was now x y)
    → IfErr result (λ e. HasNotReplaced is_up is_sound holds kept_of block_of made began saw opens remaining contents told wanted at e was now x y)
    → HasDone is_up is_sound holds kept_of block_of made began saw opens remaining contents told wrote records others was now x y result task
replace_done is_up is_sound holds kept_of block_of made began saw opens remaining contents told wrote at records others was now x y result task wanted is
    same so not =
    subst (λ (t : Task). HasDone is_up is_sound holds kept_of block_of made began saw opens remaining contents told wrote records others was now x y result t)
    (sym is)
    (subst (λ (l : List (String Global)). IsReplacement is_up is_sound holds kept_of block_of made began saw opens remaining contents told wanted l
    was now x y result) same
    (replacement is_up is_sound holds kept_of block_of made saw opens remaining contents told wanted began at was now x y result so not))

pub accept_done : {F K R W : Type 0} (is_up is_sound : K → Type 0) (holds : K → List Record → Type 0) (kept_of : K → Kept) (block_of : K → Block)
    (made began : F → F → Call → Type 0) (saw : F → Look → Type 0) (opens : F → Seen → K → Type 0) (remaining : R → Option (List ℕ))
    (contents : W → Option (List ℕ)) (told : Said → Type 0) (wrote : List ℕ → Type 0) (at records : List (String Global)) (others : List Block)
    (was now : F) (x y : Session R W) (result : Result (Unit {0}) Failure) (task : Task) (wanted : Replacement) → task ≡ Accept wanted → at ≡ records
    → OnOk result ((random : ℕ) × HasAccepted kept_of block_of made saw opens remaining contents told wanted at random was now x y)
    → IfErr result (λ e. HasNotAccepted kept_of block_of made began saw opens remaining contents told wanted at e was now x y)
    → HasDone is_up is_sound holds kept_of block_of made began saw opens remaining contents told wrote records others was now x y result task
accept_done is_up is_sound holds kept_of block_of made began saw opens remaining contents told wrote at records others was now x y result task wanted is
    same so not =
    subst (λ (t : Task). HasDone is_up is_sound holds kept_of block_of made began saw opens remaining contents told wrote records others was now x y result t)
    (sym is)
    (subst (λ (l : List (String Global)). IsAcceptance kept_of block_of made began saw opens remaining contents told wanted l was now x y result) same
    (acceptance kept_of block_of made saw opens remaining contents told wanted began at was now x y result so not))

-- what holds of whatever was found, if that is this
pub some_of : {A : Type 0} (found : Option A) (one : A) (none : Type 0) (P : A → Type 0) → found ≡ Some one → MatchOption found none P → P one
some_of found one none P is it = subst (λ o. MatchOption o none P) is it
