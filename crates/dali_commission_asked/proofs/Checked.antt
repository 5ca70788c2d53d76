use Rattle.std.proofs.Common.{◌≡◌, ◌∙◌, ap, inl, inr, ℕ, Bool, List, Option, Some, Result, Ok, Err, subst, sym}
use Rattle.std.specs.Prelude.{IfOk, IfErr}
use Rattle.dali_script.specs.{declared.block.Block.Block, declared.records.Record.Record, Records.Kept}
use Rattle.dali_commissioning.specs.declared.{beginning.Checked.Checked, fault.CommissionFault.CommissionFault}
use Rattle.dali_commissioning.specs.{Drivers.{Talk, has_heard, lines_of, talk_of, IsCutBeside}, Runs.{IsChecked, IsRead}}
use Rattle.dali_commission_said.specs.{declared.{failure.Failure.Failure, report.{Report.Report, Session.Session}, said.Said.Said}, Said.AreTold}
use Rattle.dali_commission_stores.specs.{Calls.{Look}, Lent.{IsLent, IsCopied}}
use Rattle.dali_commission_asked.specs.Came.{check_ended, check_reported, HasAskedAll, HasChecked, IsCheckOf}

-- WHAT A CHECK FOUND over a store is what was asked, beside its records.
asked_all : {S : Type 0} (is_up is_sound : S → Type 0) (holds : S → List Record → Type 0) (block : Block) (others : List Block) (was keep : S) (x y : Talk)
    (found : Result Checked CommissionFault) → IfOk found (IsChecked is_up is_sound holds block others was keep x y)
    → IfOk found (λ it. IsRead is_up is_sound holds block was keep it.kept × HasAskedAll others it x y)
asked_all is_up is_sound holds block others was keep x y (Ok it) is = (is.read, (block, is.at, is.counted, is.all, is.unaddressed))
asked_all is_up is_sound holds block others was keep x y (Err fault) is = tt

pub has_checked : {S : Type 0} (is_up is_sound : S → Type 0) (holds : S → List Record → Type 0) (block : Block) (told : Said → Type 0)
    (others : List Block) (was keep : S) (heard : Bool) (line : ℕ) (x y : Talk) (found : Result Checked CommissionFault) (came report : Report)
    (ended result : Result (Unit {0}) Failure) → IfOk found (IsChecked is_up is_sound holds block others was keep x y)
    → ended ≡ check_ended found others heard line → came ≡ check_reported found others → report ≡ record came { frames = line }
    → AreTold told came.said.items → result ≡ ended
    → IfErr found (λ reason. IsCutBeside reason x y) → HasChecked (IsRead is_up is_sound holds block was keep) told others heard line x y report result
has_checked is_up is_sound holds block told others was keep heard line x y found came report ended result is ends reports same_report tells same
    cut = (
      found,
      asked_all is_up is_sound holds block others was keep x y found is,
      same ∙ ends,
      same_report ∙ ap (λ (r : Report). record r { frames = line }) reports,
      subst (λ (r : Report). AreTold told r.said.items) (sym same_report) tells,
      cut,
    )

-- and it is one beside records that are so if these are
beside_so : (beside besides : Kept → Type 0) (others : List Block) (x y : Talk) (found : Result Checked CommissionFault)
    → ((k : Kept) → beside k → besides k) → IfOk found (λ it. beside it.kept × HasAskedAll others it x y)
    → IfOk found (λ it. besides it.kept × HasAskedAll others it x y)
beside_so beside besides others x y (Ok it) so is = (so it.kept is.0, is.1)
beside_so beside besides others x y (Err fault) so is = tt

pub checked_beside : (beside besides : Kept → Type 0) (told : Said → Type 0) (others : List Block) (heard : Bool) (line : ℕ) (x y : Talk) (report : Report)
    (result : Result (Unit {0}) Failure) → ((k : Kept) → beside k → besides k) → HasChecked beside told others heard line x y report result
    → HasChecked besides told others heard line x y report result
checked_beside beside besides told others heard line x y report result so is =
    (is.0, beside_so beside besides others x y is.0 so is.1, is.2, is.3, is.4, is.5)

pub check_of : {F K R W : Type 0} (is_up is_sound : K → Type 0) (holds : K → List Record → Type 0) (block : K → Block) (saw : F → Look → Type 0)
    (remaining : R → Option (List ℕ)) (contents : W → Option (List ℕ)) (told : Said → Type 0) (others : List Block) (stores : F) (name : List ℕ)
    (x y : Session R W) (result : Result (Unit {0}) Failure)
    → IsLent (IsCopied is_up is_sound holds block saw stores name)
    (λ from to p q done. HasChecked (IsRead is_up is_sound holds (block from) from to) told others (has_heard q.driver) (lines_of q.driver)
    (talk_of remaining contents p.driver) (talk_of remaining contents q.driver) q.report done) x y result
    → IsCheckOf saw stores told others (has_heard y.driver) (lines_of y.driver) (talk_of remaining contents x.driver)
    (talk_of remaining contents y.driver) x.report y.report result (Some name)
check_of is_up is_sound holds block saw remaining contents told others stores name x y result (inl not) =
    inl (not.0, ap (λ s. talk_of remaining contents s.driver) not.1, ap (λ s. s.report) not.1)
check_of is_up is_sound holds block saw remaining contents told others stores name x y result (inr is) =
    inr (is.2, checked_beside _ _ told others _ _ _ _ y.report is.2 (λ k reads. is.3.2.2 is.1 k reads) is.4, is.5)
