use Rattle.std.specs.Prelude.{◌≡◌, ◌⊎◌, ℕ, true, List, Result, Ok, Option, Err, IsErr, IfSome, OnOk}
use Rattle.std.specs.Prelude.{option_map, slice_get, string_bytes}
use Rattle.std.specs.Borrow.{Bor}
use Rattle.std.specs.declared.alloc.Global.{Global}
use Rattle.std.specs.declared.string.String.{String}
use Rattle.dali_console.specs.Status.{status_after}
use Rattle.dali_script.specs.declared.block.Block.{Block}
use Rattle.dali_script.specs.declared.records.Record.{Record}
use Rattle.dali_script.specs.Records.{Kept}
use Rattle.dali_commissioning.specs.Drivers.{talk_of, has_heard, lines_of}
use Rattle.dali_commission_said.specs.declared.failure.Failure.{Failure}
use Rattle.dali_commission_said.specs.declared.report.Session.{Session}
use Rattle.dali_commission_said.specs.declared.said.Said.{Said}
use Rattle.dali_commission_said.specs.Failures.{end_name, or_refused, status_of}
use Rattle.dali_commission_said.specs.Reports.{no_report}
use Rattle.dali_commission_said.specs.Said.{why_said}
use Rattle.dali_commission_said.specs.Tables.{only, table_text}
use Rattle.dali_commission_tasks.specs.declared.tasks.Asked.{Asked}
use Rattle.dali_commission_tasks.specs.declared.tasks.TableForm.{TableForm}
use Rattle.dali_commission_tasks.specs.declared.tasks.Task.{Task}
use Rattle.dali_commission_tasks.specs.declared.tasks.Task.TheVariants as task
use Rattle.dali_commission_stores.specs.Calls.{Call, Look, Read}
use Rattle.dali_commission_stores.specs.declared.records.Seen.{Seen}
use Rattle.dali_commission_stores.specs.Lent.{IsLent, IsOpened}
use Rattle.dali_commission_asked.specs.Came.{IsShowing, IsCheckOf}
use Rattle.dali_commission_cleared.specs.Clearing.{HasCleared}
use Rattle.dali_commission_mended.specs.Tellings.{HasRunOver, IsMendOf}
use Rattle.dali_commission_replaced.specs.Accepting.{IsAcceptance}
use Rattle.dali_commission_replaced.specs.Asking.{IsReplacement}
use Rattle.dali_commission_words.specs.Words.{Values, IsAsked}
use Rattle.dali_commission_program.specs.Object.{report_text}

-- A TABLE was written: that of the records of a name, as they were read
abbrev pub HasTabled : {F : Type 0} → (F → Look → Type 0) → (List ℕ → Type 0) → F → List ℕ
    → TableForm → Type 0
HasTabled saw wrote stores name form =
    (k : Kept) × saw stores (Read name k) × wrote (table_text form k.enrolled)

-- WHAT IS DONE, how it ends and what is reported of it, from one moment of the places and of the
-- session with a driver to another, by what is asked for: with records of these names, beside the
-- blocks of others
abbrev pub HasDone : {F K R W : Type 0} (is_up is_sound : K → Type 0)
    (holds : K → List Record → Type 0) (kept_of : K → Kept) (block_of : K → Block)
    (made began : F → F → Call → Type 0) → (F → Look → Type 0) → (F → Seen → K → Type 0)
    → (R → Option (List ℕ)) → (W → Option (List ℕ)) → (Said → Type 0) → (List ℕ → Type 0)
    → List (String Global) → List Block → F → F → Session R W → Session R W
    → Result (Unit {0}) Failure → Task → Type 0
HasDone is_up is_sound holds kept_of block_of made began saw opens remaining contents told wrote
    records others was now x y result (task.Run setup) =
    IsLent (IsOpened block_of saw opens was (only records) setup.block)
    (λ from to p q done. HasRunOver is_up is_sound holds kept_of (block_of from) remaining contents
    told others setup from to p q done) x y result
HasDone is_up is_sound holds kept_of block_of made began saw opens remaining contents told wrote
    records others was now x y result task.Check =
    IsCheckOf saw was told others (has_heard y.driver) (lines_of y.driver)
    (talk_of remaining contents x.driver) (talk_of remaining contents y.driver) x.report y.report
    result (option_map (λ it. string_bytes it) (slice_get records 0))
HasDone is_up is_sound holds kept_of block_of made began saw opens remaining contents told wrote
    records others was now x y result (task.Identify a) =
    IsShowing a result (lines_of y.driver) (talk_of remaining contents x.driver)
    (talk_of remaining contents y.driver)
    × (y.report ≡ record no_report { frames = lines_of y.driver })
HasDone is_up is_sound holds kept_of block_of made began saw opens remaining contents told wrote
    records others was now x y result (task.Table form) =
    (y ≡ x) × OnOk result (HasTabled saw wrote was (only records) form)
HasDone is_up is_sound holds kept_of block_of made began saw opens remaining contents told wrote
    records others was now x y result (task.Replace wanted) =
    IsReplacement is_up is_sound holds kept_of block_of made began saw opens remaining contents told
    wanted records was now x y result
HasDone is_up is_sound holds kept_of block_of made began saw opens remaining contents told wrote
    records others was now x y result (task.Accept wanted) =
    IsAcceptance kept_of block_of made began saw opens remaining contents told wanted records was
    now x y result
HasDone is_up is_sound holds kept_of block_of made began saw opens remaining contents told wrote
    records others was now x y result (task.Mend wanted) =
    IsMendOf is_up is_sound holds kept_of block_of saw opens remaining contents told others wanted
    was x y result records
HasDone is_up is_sound holds kept_of block_of made began saw opens remaining contents told wrote
    records others was now x y result task.Clear =
    HasCleared made saw told records was now (talk_of remaining contents x.driver)
    (talk_of remaining contents y.driver) (lines_of y.driver) x.report y.report result

-- and what is reported is written as an object of JSON, if that is asked for: what was done, or why
-- it was not. Nothing was reported before.
abbrev pub begun : {R W : Type 0} → Session R W → Session R W
begun x = record x { report = no_report }

abbrev pub HasAnswered : {F K R W : Type 0} (is_up is_sound : K → Type 0)
    (holds : K → List Record → Type 0) (kept_of : K → Kept) (block_of : K → Block)
    (made began : F → F → Call → Type 0) → (F → Look → Type 0) → (F → Seen → K → Type 0)
    → (R → Option (List ℕ)) → (W → Option (List ℕ)) → (Said → Type 0) → (List ℕ → Type 0)
    → Asked → F → F → Session R W → Session R W → Result (Unit {0}) Failure → Type 0
HasAnswered is_up is_sound holds kept_of block_of made began saw opens remaining contents told wrote
    asked was now x y result =
    (done : Result (Unit {0}) Failure)
    × (written : Result (Unit {0}) Failure)
    × HasDone is_up is_sound holds kept_of block_of made began saw opens remaining contents told
    wrote asked.records.items asked.others.items was now (begun x) y done asked.task
    × (result ≡ or_refused done written)
    × OnOk written (asked.as_json ≡ true
    → wrote (report_text (end_name asked.task done) (status_after status_of done) y.report))

-- THE PROGRAM has done what its command line asks for; or it has shown help, or cannot tell what it
-- is asked for, and nothing is put
abbrev pub HasServed : {F K R W : Type 0} (is_up is_sound : K → Type 0)
    (holds : K → List Record → Type 0) (kept_of : K → Kept) (block_of : K → Block)
    (made began : F → F → Call → Type 0) → (F → Look → Type 0) → (F → Seen → K → Type 0)
    → (R → Option (List ℕ)) → (W → Option (List ℕ)) → (Said → Type 0) → (List ℕ → Type 0)
    → Type 0 → F → F → Session R W → Session R W → Result (Unit {0}) Failure → Type 0
HasServed is_up is_sound holds kept_of block_of made began saw opens remaining contents told wrote
    shown was now x y result =
    ((IsErr result ⊎ shown) × (now ≡ was) × (y ≡ x))
    ⊎ ((name : List ℕ)
    × (values : Values)
    × (asked : Asked)
    × IsAsked name values asked
    × HasAnswered is_up is_sound holds kept_of block_of made began saw opens remaining contents told
    wrote asked was now x y result)

-- WHY THE PROGRAM ENDED was said, if it did not end well and that needs to be said
abbrev pub WhyTold : (Said → Type 0) → Result (Unit {0}) Failure → Option (Bor (List ℕ)) → Type 0
WhyTold told (Ok done) records = Unit {0}
WhyTold told (Err failure) records = IfSome (why_said failure records) told
