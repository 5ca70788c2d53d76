use Rattle.std.proofs.Common.{◌≡◌, arith, ℕ, Bool, List, ap, inl, inr}
use Rattle.dali_script.specs.Records.{Kept}
use Rattle.dali_commissioning.specs.Drivers.{Talk}
use Rattle.dali_commissioning.specs.declared.driver.DriverFault.TheVariants as driver
use Rattle.dali_commissioning.specs.declared.fault.CommissionFault.{CommissionFault}
use Rattle.dali_commissioning.specs.declared.fault.CommissionFault.TheVariants as fault
use Rattle.dali_replacement.specs.declared.come.Come.{Come}
use Rattle.dali_replacement.specs.declared.refusal.ReplaceFault.TheVariants.{Refused, Commission}
use Rattle.dali_replacement.specs.declared.refusal.ReplaceRefusal.{ReplaceRefusal}
use Rattle.dali_commission_said.specs.declared.failure.Failure.TheVariants.{NotReplaced}
use Rattle.dali_commission_said.specs.declared.report.Report.{Report}
use Rattle.dali_commission_said.specs.Failures.{failure_of, status_of}
use Rattle.dali_commission_replaced.specs.Cut.{HasNotAskedOthers}
use Rattle.dali_commission_program.specs.Nothing.{RefusedPutsSomething}
use Rattle.dali_commission_program.proofs.Growing.{IsMore, more_then, more_is_not_nothing}
use Rattle.dali_commission_program.proofs.{Asking.answered_more, Replaced.all_heard}

-- A REPLACEMENT THAT IS REFUSED because the others are not all there has asked: what is cut short is told otherwise.

not_cut : (reason : CommissionFault) (line a : ℕ) (why : ReplaceRefusal) → NotReplaced a why ≡ failure_of reason line → ⊥
not_cut (fault.Driver driver.Write) line a why is = absurd (omega (arith, ap status_of is))
not_cut (fault.Driver driver.Read) line a why is = absurd (omega (arith, ap status_of is))
not_cut (fault.Driver driver.Ended) line a why is = absurd (omega (arith, ap status_of is))
not_cut (fault.Driver driver.TornLine) line a why is = absurd (omega (arith, ap status_of is))
not_cut (fault.Driver driver.LongLine) line a why is = absurd (omega (arith, ap status_of is))
not_cut (fault.Driver driver.BadLine) line a why is = absurd (omega (arith, ap status_of is))
not_cut (fault.Driver driver.Memory) line a why is = absurd (omega (arith, ap status_of is))
not_cut (fault.Store e) line a why is = absurd (omega (arith, ap status_of is))
not_cut fault.QuestionLost line a why is = absurd (omega (arith, ap status_of is))
not_cut fault.StepsSpent line a why is = absurd (omega (arith, ap status_of is))
not_cut fault.RunsSpent line a why is = absurd (omega (arith, ap status_of is))

refused_more : (heard : Bool) (a : ℕ) (come : Come) (table : Kept) (gone : List ℕ) (why : ReplaceRefusal) (before after : Report) (x y : Talk)
    → HasNotAskedOthers heard a come table gone (NotReplaced a why) before after x y → IsMore x y
refused_more heard a come table gone why before after x y (inl (Commission reason, line, is, cut, none)) = absurd (not_cut reason line a why is)
refused_more heard a come table gone why before after x y (inl (Refused w, line, is, (reply, answered, may, same), none)) = answered_more a reply x y answered
refused_more heard a come table gone why before after x y (inr (reply, at, answered, may, inl (line, (reason, cut, is), none))) =
    absurd (not_cut reason line a why is)
refused_more heard a come table gone why before after x y (inr (reply, at, answered, may, inr (replies, all, are, not, so))) =
    more_then (answered_more a reply x at answered) (all_heard table 0 replies at y are)

pub refused_puts : RefusedPutsSomething
refused_puts heard a come table gone why before after x y not nothing =
    more_is_not_nothing x y (refused_more heard a come table gone why before after x y not) nothing
