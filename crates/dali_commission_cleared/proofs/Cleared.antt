use Rattle.std.proofs.Common.{◌≡◌, ℕ, List, [], ◌∷◌, Bool, Result, Ok, Err, ap, subst, sym, ◌∙◌, inl}
use Rattle.std.specs.Prelude.{IfErr, IsErrAnd}
use Rattle.dali_script.specs.Records.{without_records}
use Rattle.dali_commissioning.specs.{Drivers.Talk, Places.places, declared.{census.Reply.Reply, fault.CommissionFault.CommissionFault}}
use Rattle.dali_commission_said.specs.declared.said.Said.{Said}
use Rattle.dali_commission_said.specs.{Failures.failure_of, Reports.no_report, Said.AreTold, declared.{report.Came.Came, report.Report.Report}}
use Rattle.dali_commission_cleared.specs.Clearing.{AreCleared, IsFollowed, ClearsTo, cleared_as, clear_reported, all_shorts}
use Rattle.dali_commission_cleared.specs.Clearing.{AreRoundsCut, IsClearCut, IsClearedSo}
use Rattle.dali_commission_said.specs.declared.failure.Failure.{Failure}

-- what a clear comes to, by what was seen and told of the replies
pub cleared : (replies seen told : List Reply) (found : Bool) (x at y : Talk) (ended : Result (Unit {0}) Failure) (came : Report)
    → AreCleared (1 ∷ 2 ∷ 3 ∷ 4 ∷ []) [] replies x at → seen ≡ replies → IsFollowed seen found at y → told ≡ replies
    → ended ≡ cleared_as told found → came ≡ clear_reported (places (without_records all_shorts) [] told) (cleared_as told found)
    → ClearsTo came ended x y
cleared replies seen told found x at y ended came are is follows so ends reports = (
  replies,
  found,
  at,
  are,
  subst (λ (r : List Reply). IsFollowed r found at y) is follows,
  ends ∙ ap (λ (r : List Reply). cleared_as r found) so,
  reports ∙ ap (λ (e : Result (Unit {0}) Failure). clear_reported (places (without_records all_shorts) [] told) e) (sym ends)
      ∙ ap (λ (r : List Reply). clear_reported (places (without_records all_shorts) [] r) ended) so,
)

-- it is cut short if a round is, with the same reason
pub rounds_cut : {T : Type 0} (reason : CommissionFault) (x y : Talk) (r : Result T CommissionFault) → IsErrAnd r (λ e. e ≡ reason)
    → AreRoundsCut (1 ∷ 2 ∷ 3 ∷ 4 ∷ []) reason x y → IfErr r (λ e. IsClearCut e x y)
rounds_cut reason x y (Ok done) is cut = tt
rounds_cut reason x y (Err e) is cut = inl (subst (λ (f : CommissionFault). AreRoundsCut (1 ∷ 2 ∷ 3 ∷ 4 ∷ []) f x y) (sym is) cut)

-- and so it ends, cut short or not
pub ends_cut : (reason : CommissionFault) (line frames : ℕ) (x y : Talk) (why : Failure) (from came : Came) (result : Result (Unit {0}) Failure)
    (report : Report) → from ≡ came → result ≡ from.ended → report ≡ record from.report { frames = frames }
    → came ≡ record { report = no_report; ended = Err why } → why ≡ failure_of reason line → line ≡ frames → IsClearCut reason x y
    → (r : CommissionFault) × (result ≡ Err (failure_of r frames)) × (report ≡ record no_report { frames = frames }) × IsClearCut r x y
ends_cut reason line frames x y why from came result report same ends reports is of counts cut = (
  reason,
  ends ∙ ap (λ (c : Came). c.ended) (same ∙ is) ∙ ap (λ (f : Failure). Err f) (of ∙ ap (λ (n : ℕ). failure_of reason n) counts),
  reports ∙ ap (λ (c : Came). record c.report { frames = frames }) (same ∙ is),
  cut,
)

pub ends_so : (told : Said → Type 0) (x y : Talk) (frames : ℕ) (from came : Came) (result : Result (Unit {0}) Failure) (report : Report)
    → from ≡ came → result ≡ from.ended → report ≡ record from.report { frames = frames } → AreTold told from.report.said.items
    → ClearsTo came.report came.ended x y → IsClearedSo told x y frames report result
ends_so told x y frames from came result report same ends reports tells clears = (
  came.report,
  subst (λ (e : Result (Unit {0}) Failure). ClearsTo came.report e x y) (sym (ends ∙ ap (λ (c : Came). c.ended) same)) clears,
  reports ∙ ap (λ (c : Came). record c.report { frames = frames }) same,
  subst (λ (c : Came). AreTold told c.report.said.items) same tells,
)
