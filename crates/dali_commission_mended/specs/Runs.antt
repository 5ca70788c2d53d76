use Rattle.std.specs.Prelude.{◌≡◌, ◌⊎◌, ℕ, List, Some, Result, Ok, Err}
use Rattle.dali_script.specs.declared.block.Block.{Block}
use Rattle.dali_script.specs.declared.orders.End.TheVariants.{AllFound}
use Rattle.dali_script.specs.declared.orders.Input.TheVariants.{Survey}
use Rattle.dali_script.specs.declared.records.Record.{Record}
use Rattle.dali_script.specs.Records.{Kept}
use Rattle.dali_commissioning.specs.declared.beginning.Begun.{Begun}
use Rattle.dali_commissioning.specs.declared.beginning.Begun.TheVariants as begun
use Rattle.dali_commissioning.specs.declared.conducting.Ended.TheVariants.{Done}
use Rattle.dali_commissioning.specs.declared.conducting.PassEnd.{PassEnd}
use Rattle.dali_commissioning.specs.declared.fault.CommissionFault.{CommissionFault}
use Rattle.dali_commissioning.specs.declared.fault.CommissionFault.TheVariants as fault
use Rattle.dali_commissioning.specs.Acts.{RunsLeaveRules}
use Rattle.dali_commissioning.specs.Acts as acts
use Rattle.dali_commissioning.specs.Drivers.{Talk, IsCutBeside}
use Rattle.dali_commissioning.specs.Places.{places}
use Rattle.dali_commissioning.specs.Runs.{Run, AreRuns, EndWith, ComeTo, AreQuiet, IsBegun}
use Rattle.dali_commissioning.specs.Rules.{LeavesBegun}
use Rattle.dali_commissioning.specs.Runs.{IsRead}
use Rattle.dali_commission_said.specs.declared.failure.Failure.{Failure}
use Rattle.dali_commission_said.specs.declared.failure.Failure.TheVariants.{AddressedBefore}
use Rattle.dali_commission_said.specs.declared.progress.Aim.{Aim}
use Rattle.dali_commission_said.specs.declared.report.Report.{Report}
use Rattle.dali_commission_tasks.specs.declared.tasks.Start.{Start}
use Rattle.dali_commission_tasks.specs.declared.tasks.Start.TheVariants as start
use Rattle.dali_commission_asked.specs.Ending.{HasAskedAtLast, pass_at_last}
use Rattle.dali_commission_asked.specs.declared.ending.AtLast.{AtLast}
use Rattle.dali_commission_said.specs.Failures.{ended_as, failure_of}
use Rattle.dali_commission_said.specs.Reports.{addressed_said, RunSaid, no_report, places_reported}
use Rattle.dali_commission_said.specs.Reports.{run_reported}
use Rattle.dali_commission_asked.specs.Sharing.{left_open}

-- HOW A RUN BEGINS: with a census, and then machines that start, or with machines that survey
abbrev pub HasBegun : {S : Type 0} (is_up is_sound : S → Type 0)
    (holds : S → List Record → Type 0) → Block → List Block → ℕ → S → S → Talk → Talk → Start
    → Begun → Type 0
HasBegun is_up is_sound holds block others wanted was keep x y start.Fresh came =
    IsBegun is_up is_sound holds block others wanted was keep x y came
HasBegun is_up is_sound holds block others wanted was keep x y start.Survey
    (begun.Addressed replies) = ⊥
HasBegun is_up is_sound holds block others wanted was keep x y start.Survey
    (begun.Commissioned pass) =
    (runs : List Run)
    × AreRuns is_up is_sound holds block Survey was keep x y runs
    × EndWith pass.ended runs
    × ComeTo pass runs
    × (pass.ended ≡ Done AllFound → AreQuiet wanted runs)

-- WHAT WAS PUT BY A RUN THAT COULD NOT BEGIN, or was left while its machines ran: it keeps the
-- rules of the page
abbrev pub HasNotBegun : {S : Type 0} (is_up is_sound : S → Type 0)
    (holds : S → List Record → Type 0) → Block → List Block → S → S → Talk → Talk → Start
    → CommissionFault → Type 0
HasNotBegun is_up is_sound holds block others was keep x y start.Fresh fault =
    LeavesBegun is_up is_sound holds block others fault was keep x y
HasNotBegun is_up is_sound holds block others was keep x y start.Survey fault =
    RunsLeaveRules is_up is_sound holds block Survey fault was keep x y

-- WHY IT DOES NOT BEGIN
abbrev pub HasNotSurveyed : {S : Type 0} (is_up is_sound : S → Type 0)
    (holds : S → List Record → Type 0) → Block → CommissionFault → S → S → Talk → Talk → Type 0
HasNotSurveyed is_up is_sound holds block (fault.Driver f) was keep x y = y.fault ≡ Some f
HasNotSurveyed is_up is_sound holds block fault.QuestionLost was keep x y = ⊥
HasNotSurveyed is_up is_sound holds block (fault.Store e) was keep x y =
    RunsLeaveRules is_up is_sound holds block Survey (fault.Store e) was keep x y
HasNotSurveyed is_up is_sound holds block fault.StepsSpent was keep x y =
    RunsLeaveRules is_up is_sound holds block Survey fault.StepsSpent was keep x y
HasNotSurveyed is_up is_sound holds block fault.RunsSpent was keep x y =
    RunsLeaveRules is_up is_sound holds block Survey fault.RunsSpent was keep x y

abbrev pub HasNotBegunSo : {S : Type 0} (is_up is_sound : S → Type 0)
    (holds : S → List Record → Type 0) → Block → List Block → CommissionFault → S → S → Talk → Talk
    → Start → Type 0
HasNotBegunSo is_up is_sound holds block others reason was keep x y start.Fresh =
    acts.HasNotBegun is_up is_sound holds block others reason was keep x y
HasNotBegunSo is_up is_sound holds block others reason was keep x y start.Survey =
    HasNotSurveyed is_up is_sound holds block reason was keep x y

-- HOW A RUN ENDS, as the last machine did: the records are read, and at last gear are asked until
-- one answers. It does not end well if none does, or if something is still heard where the last
-- survey left gear alone.
abbrev pub EndsSo : {S : Type 0} (is_up is_sound : S → Type 0) (holds : S → List Record → Type 0)
    → Block → PassEnd → Kept → Aim → S → S → Talk → Talk → ℕ → Report → Result (Unit {0}) Failure
    → Type 0
EndsSo is_up is_sound holds block pass before aim was keep x y frames report ended =
    (after : Kept)
    × (last : AtLast)
    × IsRead is_up is_sound holds block was keep after
    × HasAskedAtLast pass after.enrolled last x y
    × (ended ≡ left_open (ended_as (pass_at_last pass last).ended last.is_there) last.left)
    × RunSaid (pass_at_last pass last) before after aim frames report.said.items
    × (report ≡ run_reported (pass_at_last pass last) before after report.said.items)

-- WHAT A RUN COMES TO that began so, after so many frames: gear that no record names are said, and
-- nothing else is done beside them; else it ends as its last machine, or is cut short at last; or
-- it did not begin. Nothing is reported of one that is cut short.
abbrev pub IsStopped : ℕ → Report → Result (Unit {0}) Failure → Talk → Talk → Type 0
IsStopped frames report ended x y =
    (reason : CommissionFault)
    × (ended ≡ Err (failure_of reason frames))
    × (report ≡ no_report)
    × IsCutBeside reason x y

abbrev pub ComesTo : {S : Type 0} (is_up is_sound : S → Type 0) (holds : S → List Record → Type 0)
    → Block → Kept → List Block → Result Begun CommissionFault → S → S → Talk → Talk → ℕ → Report
    → Result (Unit {0}) Failure → Type 0
ComesTo is_up is_sound holds block k others (Ok (begun.Addressed replies)) was keep x y frames
    report ended =
    (report ≡ places_reported (places k others replies.items)
    (addressed_said (places k others replies.items)))
    × (ended ≡ Err AddressedBefore)
    × (keep ≡ was)
    × (y ≡ x)
ComesTo is_up is_sound holds block k others (Ok (begun.Commissioned pass)) was keep x y frames
    report ended =
    IsStopped frames report ended x y
    ⊎ ((aim : Aim)
    × EndsSo is_up is_sound holds block pass k aim was keep x y frames report ended)
ComesTo is_up is_sound holds block k others (Err reason) was keep x y frames report ended =
    (ended ≡ Err (failure_of reason frames)) × (report ≡ no_report) × (keep ≡ was) × (y ≡ x)
