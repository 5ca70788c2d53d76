use Rattle.std.proofs.Common.{◌≡◌, ◌∙◌, ℕ, List, [], ◌∷◌, Bool, Option, Some, None, Result, Ok, Err, refl, sym, inl, inr}
use Rattle.std.{proofs.lemmas.Bool.false≢true, specs.Prelude.IfOk}
use Rattle.dali_script.specs.{Records.Kept, Records.without_records, declared.block.Block.Block}
use Rattle.dali_commissioning.specs.{Drivers.Talk, declared.beginning.Checked.Checked, declared.fault.CommissionFault.CommissionFault}
use Rattle.dali_commission_said.specs.declared.{failure.Failure.Failure, report.Report.Report, said.Said.Said}
use Rattle.dali_commission_stores.specs.Calls.{Look}
use Rattle.dali_commission_asked.specs.Came.{IsLitOnce, IsLitBy, IsLit, HasBlinked, HasShown, HasAskedAll, HasChecked, IsCheckOf, check_ended}
use Rattle.dali_commission_program.proofs.Growing.{Grows, IsMore, stays, joined, more_then, then_more, grown, put_more}
use Rattle.dali_commission_program.proofs.Asking.{answered_more, counted, left_over_more}
use Rattle.dali_commission_program.proofs.Ending.{ok_err, either}

-- ---------------------------------------------------------------- identify

lit_once : (a level : ℕ) (sent : Bool) (x y : Talk) → IsLitOnce a level sent x y → Grows x y
unfolding IsLitOnce
lit_once a level sent x y (told, put, is) = grown (put_more put)

lit_by : (a level : ℕ) (tries : List ℕ) (x y : Talk) → IsLitBy a level tries x y → Grows x y
lit_by a level [] x y never = absurd never
lit_by a level (_ ∷ more) x y (sent, at, once, next) = joined (lit_once a level sent x at once) (either sent _ _ _ (stays at y) (lit_by a level more at y) next)

lit : (a level : ℕ) (x y : Talk) → IsLit a level x y → Grows x y
unfolding IsLit
lit a level x y is = lit_by a level (1 ∷ 2 ∷ 3 ∷ 4 ∷ 5 ∷ 6 ∷ 7 ∷ 8 ∷ []) x y is

blinked : (a : ℕ) (times : List ℕ) (x y : Talk) → HasBlinked a times x y → Grows x y
blinked a [] x y is = lit a 254 x y is
blinked a (_ ∷ more) x y (bright, dark, on, off, next) =
    joined (lit a 254 x bright on) (joined (lit a 0 bright dark off) (blinked a more dark y next))

pub shown_more : (a : ℕ) (x y : Talk) → HasShown a x y → IsMore x y
shown_more a x y (heard, at, answered, loud, shown) =
    more_then (answered_more a heard x at answered) (blinked a (1 ∷ 2 ∷ 3 ∷ 4 ∷ 5 ∷ []) at y shown)

-- ---------------------------------------------------------------- check

asked_all_more : (others : List Block) (found : Checked) (x y : Talk) → HasAskedAll others found x y → IsMore x y
asked_all_more others found x y (block, at, are, all, left) =
    then_more (counted (without_records block) others 0 found.replies.items x at are)
    (left_over_more _ _ found.has_unaddressed at y left)

checked_so : (beside : Kept → Type 0) (others : List Block) (heard : Bool) (line : ℕ) (x y : Talk) (found : Result Checked CommissionFault)
    → IfOk found (λ it. beside it.kept × HasAskedAll others it x y) → Ok (tt {0}) ≡ check_ended found others heard line → IsMore x y
checked_so beside others heard line x y (Ok found) (is, asked) ended = asked_all_more others found x y asked
checked_so beside others heard line x y (Err fault) none ended = absurd (ok_err _ ended)

checked_more : (beside : Kept → Type 0) (told : Said → Type 0) (others : List Block) (heard : Bool) (line : ℕ) (x y : Talk) (report : Report)
    (ended : Result (Unit {0}) Failure) → ended ≡ Ok (tt {0}) → HasChecked beside told others heard line x y report ended → IsMore x y
checked_more beside told others heard line x y report ended well (found, is, so, reports, said, cut) =
    checked_so beside others heard line x y found is (sym well ∙ so)

pub check_more : {F : Type 0} (saw : F → Look → Type 0) (stores : F) (told : Said → Type 0) (others : List Block) (heard : Bool)
    (line : ℕ) (x y : Talk) (before report : Report) (first : Option (List ℕ))
    → IsCheckOf saw stores told others heard line x y before report (Ok (tt {0})) first → IsMore x y
check_more saw stores told others heard line x y before report None is = checked_more _ told others heard line x y report (Ok (tt {0})) refl is
check_more saw stores told others heard line x y before report (Some name) (inl (err, same, kept)) = absurd (false≢true err)
check_more saw stores told others heard line x y before report (Some name) (inr (done, is, so)) =
    checked_more _ told others heard line x y report done so is
