use Rattle.std.specs.Prelude.{◌≡◌, ◌⊎◌, ◌↔◌, ℕ, ◌<◌, Bool, true, false, List, Option, Some, Ok, Err}
use Rattle.std.specs.declared.alloc.Global.{Global}
use Rattle.std.specs.declared.string.String.{String}
use Rattle.dali_script.specs.declared.block.Block.{Block}
use Rattle.dali_script.specs.declared.records.Record.{Record}
use Rattle.dali_script.specs.Records.{Kept, Has, InBlock}
use Rattle.dali_reserve.specs.Store.{IsReplay}
use Rattle.dali_statement.specs.Own.{Own, Act, IsProgram, Follows, rest_all_allowed}
use Rattle.dali_statement.specs.Page.{IsPlan, KeepsPromise, Moment, Plan, start}
use Rattle.dali_commissioning.specs.Acts.{sender_of}
use Rattle.dali_commissioning.specs.Done.{AreDone}
use Rattle.dali_commissioning.specs.Drivers.{Talk, talk_of}
use Rattle.dali_commissioning.specs.Rules.{AsksByRules, PutsByRules, LeavesByRules}
use Rattle.dali_commissioning.specs.Runs.{IsRead}
use Rattle.dali_commissioning.specs.declared.fault.CommissionFault.{CommissionFault}
use Rattle.dali_commission_said.specs.declared.failure.Failure.{Failure}
use Rattle.dali_commission_said.specs.declared.report.Session.{Session}
use Rattle.dali_commission_said.specs.declared.said.Said.{Said}
use Rattle.dali_commission_stores.specs.Calls.{Call, Look}
use Rattle.dali_commission_stores.specs.declared.records.Seen.{Seen}
use Rattle.dali_commission_tasks.specs.declared.tasks.Start.TheVariants as start
use Rattle.dali_commission_tasks.specs.declared.tasks.Task.{Task}
use Rattle.dali_commission_mended.specs.Runs.{HasNotBegun}
use Rattle.dali_commission_program.specs.Done.{HasDone}

-- WHAT A TASK PUT KEEPS THE RULES OF THE PAGE of `dali_statement`: it is what the acts of a sender
-- put that keeps to its scripts, by the records of a store that was opened so
abbrev pub PutsOver : {K : Type 0} (is_up is_sound : K → Type 0) (holds : K → List Record → Type 0)
    (block_of : K → Block) → (K → Type 0) → Talk → Talk → Type 0
PutsOver {K = K} is_up is_sound holds block_of opened x y =
    (was : K)
    × (keep : K)
    × opened was
    × PutsByRules is_up is_sound holds (block_of was) was keep x y

-- ---------------------------------------------------------------- if it is left before its end

-- WHAT A RUN LEAVES that could not begin, or was left while its machines ran, keeps the rules too,
-- with the act that was not done. Of a census that was left it is told that no record was kept.
abbrev pub WhatASurveyLeavesKeepsRules : {K : Type 0} (is_up is_sound : K → Type 0)
    (holds : K → List Record → Type 0) → Type 0
WhatASurveyLeavesKeepsRules {K = K} is_up is_sound holds =
    (block : Block) (others : List Block) (was keep : K) (x y : Talk) (fault : CommissionFault)
    → HasNotBegun is_up is_sound holds block others was keep x y start.Survey fault
    → LeavesByRules is_up is_sound holds block fault was keep x y

abbrev pub WhatAStartLeavesKeepsRules : {K : Type 0} (is_up is_sound : K → Type 0)
    (holds : K → List Record → Type 0) → Type 0
WhatAStartLeavesKeepsRules {K = K} is_up is_sound holds =
    (block : Block) (others : List Block) (was keep : K) (x y : Talk) (fault : CommissionFault)
    → HasNotBegun is_up is_sound holds block others was keep x y start.Fresh fault
    → (y ≡ x)
    ⊎ (((k : Kept) × IsRead is_up is_sound holds block was keep k)
    ⊎ LeavesByRules is_up is_sound holds block fault was keep x y)

-- ---------------------------------------------------------------- on a bus

-- records that a plan of the page has for a sender
pub record Fits (p : Plan) (c : ℕ) (k : Kept) : Type 0 where
  pub block : (a : ℕ) → InBlock k.block a → (p.block a ≡ c) × (a < 64)
  pub reserved : (a r : ℕ) → Has k.reserved (a, r) ↔ (p.reserved c a ≡ Some r)

-- ON A BUS that is true these acts of a sender keep the promise, beside other programs and other
-- senders that keep the rules
abbrev pub KeepPromise : Kept → List Act → Type 0
KeepPromise k acts =
    (p : Plan) (c : ℕ) (ours : ℕ → Bool) (own : ℕ → Own) (all : ℕ → List Act) (ms : List Moment)
    → IsPlan p → Fits p c k → Follows c (sender_of k) acts ms → own c ≡ sender_of k → all c ≡ acts
    → ((d : ℕ) → ours d ≡ true → (d ≡ c) ⊎ IsProgram p d (own d) (all d) ms)
    → rest_all_allowed p ours (start p) ms ≡ true → KeepsPromise p ms

-- so does what was asked, whatever the records of the sender are
abbrev pub AsksOnBus : Talk → Talk → Type 0
AsksOnBus x y = (acts : List Act) × AreDone acts x y × ((k : Kept) → KeepPromise k acts)

-- and what was put by the records of a store
abbrev pub PutsOnBus : {K : Type 0} (is_up is_sound : K → Type 0) (holds : K → List Record → Type 0)
    → Block → K → K → Talk → Talk → Type 0
PutsOnBus is_up is_sound holds block was keep x y =
    (acts : List Act)
    × AreDone acts x y
    × (is_sound was → is_up keep → (xs : List Record) → holds was xs
    → (k : Kept) × IsReplay block xs k × KeepPromise k acts)

abbrev pub WhatWasPutKeepsPromise : {K : Type 0} (is_up is_sound : K → Type 0)
    (holds : K → List Record → Type 0) → Type 0
WhatWasPutKeepsPromise {K = K} is_up is_sound holds =
    (block : Block) (was keep : K) (x y : Talk)
    → PutsByRules is_up is_sound holds block was keep x y
    → PutsOnBus is_up is_sound holds block was keep x y

-- ---------------------------------------------------------------- by task

-- WHAT A TASK THAT ENDED WELL PUT IS SO, whatever its records are, and those of others
abbrev pub PutsSo : {F K R W : Type 0} (is_up is_sound : K → Type 0)
    (holds : K → List Record → Type 0) (kept_of : K → Kept) (block_of : K → Block)
    (made began : F → F → Call → Type 0) → (F → Look → Type 0) → (F → Seen → K → Type 0)
    → (R → Option (List ℕ)) → (W → Option (List ℕ)) → (Said → Type 0) → (List ℕ → Type 0) → Task
    → (F → List (String Global) → Talk → Talk → Type 0) → Type 0
PutsSo {F = F} {R = R} {W = W} is_up is_sound holds kept_of block_of made began saw opens remaining
    contents told wrote task so =
    (records : List (String Global)) (others : List Block) (was now : F) (x y : Session R W)
    → HasDone is_up is_sound holds kept_of block_of made began saw opens remaining contents told
    wrote records others was now x y (Ok (tt {0})) task
    → so was records (talk_of remaining contents x.driver) (talk_of remaining contents y.driver)

-- and so is what one has put that failed
abbrev pub FailsSo : {F K R W : Type 0} (is_up is_sound : K → Type 0)
    (holds : K → List Record → Type 0) (kept_of : K → Kept) (block_of : K → Block)
    (made began : F → F → Call → Type 0) → (F → Look → Type 0) → (F → Seen → K → Type 0)
    → (R → Option (List ℕ)) → (W → Option (List ℕ)) → (Said → Type 0) → (List ℕ → Type 0) → Task
    → (Talk → Talk → Type 0) → Type 0
FailsSo {F = F} {R = R} {W = W} is_up is_sound holds kept_of block_of made began saw opens remaining
    contents told wrote task so =
    (records : List (String Global)) (others : List Block) (failure : Failure) (was now : F)
    (x y : Session R W)
    → HasDone is_up is_sound holds kept_of block_of made began saw opens remaining contents told
    wrote records others was now x y (Err failure) task
    → so (talk_of remaining contents x.driver) (talk_of remaining contents y.driver)
