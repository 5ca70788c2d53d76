use Rattle.std.proofs.Common.{◌≡◌, ◌∙◌, ◌⊎◌, ℕ, ◌<◌, ◌≤◌, ◌+◌, ◌*◌, ◌%◌, ◌==◌, arith, List, [], ◌∷◌, ◌++◌, Bool, true, false}
use Rattle.std.proofs.Common.{Option, Some, None, Result, Ok, Err, refl, sym, ap, inl, inr}
use Rattle.std.proofs.lemmas.Bool.{false≢true, Decides.nat_tests}
use Rattle.std.specs.Prelude.{IfOk, is_err}
use Rattle.dali_special.proofs.Table.{read_written}
use Rattle.dali_special.specs.{Command.command_of, Command.frame, declared.command.Command.TheVariants.Arc}
use Rattle.dali_script.specs.{Records.Kept, Records.Assignment, Records.addresses, Records.without_records, declared.block.Block.Block}
use Rattle.dali_script.specs.declared.orders.{End.TheVariants.AllFound, End.TheVariants.BlockFull, End.TheVariants.GaveUp}
use Rattle.dali_script.specs.declared.sending.Half.TheVariants.{Whole}
use Rattle.dali_commissioning.specs.{Drivers.Talk, Rules.AsksByRules, declared.beginning.Checked.Checked, declared.census.Reply.Reply}
use Rattle.dali_commissioning.specs.declared.{conducting.PassEnd.PassEnd, fault.CommissionFault.CommissionFault}
use Rattle.dali_commissioning.specs.declared.conducting.{Ended.Ended, Ended.TheVariants.Done, Ended.TheVariants.Halted}
use Rattle.dali_commissioning.proofs.{Questions.asks_both, Questions.asks_none, Questions.answered, Questions.cleared, Questions.counted, Questions.arc_power}
use Rattle.dali_commissioning.proofs.Puttings.{unaddressed}
use Rattle.dali_commission_said.specs.{Reports.heard_of, declared.failure.Failure.Failure, declared.report.Report.Report, declared.said.Said.Said}
use Rattle.dali_commission_stores.specs.Calls.{Look}
use Rattle.dali_commission_asked.specs.Came.{IsLitOnce, IsLitBy, IsLit, HasBlinked, HasShown, HasAskedAll, HasChecked, IsCheckOf, check_ended}
use Rattle.dali_commission_asked.specs.Ending.{AnswersAt, If, IsAnyAt, is_asked, all_if, OrUnaddressed, HasAsked, IsAskedAgain, AreAskedAgain, none_left}
use Rattle.dali_commission_asked.specs.{Ending.HasAskedAtLast, declared.ending.AtLast.AtLast, declared.sharing.Left.Left}

-- WHAT IS ASKED, AND WHAT A GEAR IS SHOWN BY, KEEPS THE RULES OF THE PAGE.

pub ok_err : {E : Type 0} (e : E) → Ok (tt {0}) ≡ Err e → ⊥
ok_err e is = false≢true (ap (λ r. is_err r) is)

either : (b : Bool) (A B G : Type 0) → (A → G) → (B → G) → If b A B → G
either true A B G left right is = left is
either false A B G left right is = right is

-- ---------------------------------------------------------------- identify

even : (a : ℕ) → ((2 * a) % 2 == 0) ≡ true
even a = grind (arith, nat_tests)

arc : (a level : ℕ) → command_of (frame (2 * a) level) ≡ Arc (frame (2 * a) level)
arc a level = read_written (Arc (frame (2 * a) level)) (even a)

lit_once : (a level : ℕ) (sent : Bool) (x y : Talk) → IsLitOnce a level sent x y → AsksByRules x y
unfolding IsLitOnce
lit_once a level sent x y (told, put, is) = arc_power 2 (frame (2 * a) level) Whole told x y (arc a level) put

lit_by : (a level : ℕ) (tries : List ℕ) (x y : Talk) → IsLitBy a level tries x y → AsksByRules x y
lit_by a level [] x y never = absurd never
lit_by a level (_ ∷ more) x y (sent, at, once, next) =
    asks_both x at y (lit_once a level sent x at once) (either sent _ _ _ (asks_none at y) (lit_by a level more at y) next)

lit : (a level : ℕ) (x y : Talk) → IsLit a level x y → AsksByRules x y
unfolding IsLit
lit a level x y is = lit_by a level (1 ∷ 2 ∷ 3 ∷ 4 ∷ 5 ∷ 6 ∷ 7 ∷ 8 ∷ []) x y is

blinked : (a : ℕ) (times : List ℕ) (x y : Talk) → HasBlinked a times x y → AsksByRules x y
blinked a [] x y is = lit a 254 x y is
blinked a (_ ∷ more) x y (bright, dark, on, off, next) =
    asks_both x bright y (lit a 254 x bright on) (asks_both bright dark y (lit a 0 bright dark off) (blinked a more dark y next))

pub shown : (a : ℕ) (x y : Talk) → a < 64 → HasShown a x y → AsksByRules x y
shown a x y short (reply, at, is, loud, on) =
    asks_both x at y (answered a reply x at short is) (blinked a (1 ∷ 2 ∷ 3 ∷ 4 ∷ 5 ∷ []) at y on)

-- ---------------------------------------------------------------- check

asked_all : (others : List Block) (found : Checked) (x y : Talk) → HasAskedAll others found x y → AsksByRules x y
asked_all others found x y (block, at, are, all, left) =
    asks_both x at y (counted (without_records block) others found.replies.items x at (omega (arith, all)) are)
    (unaddressed found.has_unaddressed at y left)

checked_so : (beside : Kept → Type 0) (others : List Block) (heard : Bool) (line : ℕ) (x y : Talk) (found : Result Checked CommissionFault)
    → IfOk found (λ it. beside it.kept × HasAskedAll others it x y) → Ok (tt {0}) ≡ check_ended found others heard line → AsksByRules x y
checked_so beside others heard line x y (Ok found) (is, asked) ended = asked_all others found x y asked
checked_so beside others heard line x y (Err fault) none ended = absurd (ok_err _ ended)

checked : (beside : Kept → Type 0) (told : Said → Type 0) (others : List Block) (heard : Bool) (line : ℕ) (x y : Talk) (report : Report)
    (ended : Result (Unit {0}) Failure) → ended ≡ Ok (tt {0}) → HasChecked beside told others heard line x y report ended → AsksByRules x y
checked beside told others heard line x y report ended well (found, is, so, reports, said, cut) =
    checked_so beside others heard line x y found is (sym well ∙ so)

pub check : {F : Type 0} (saw : F → Look → Type 0) (stores : F) (told : Said → Type 0) (others : List Block) (heard : Bool)
    (line : ℕ) (x y : Talk) (before report : Report) (first : Option (List ℕ))
    → IsCheckOf saw stores told others heard line x y before report (Ok (tt {0})) first → AsksByRules x y
check saw stores told others heard line x y before report None is = checked _ told others heard line x y report (Ok (tt {0})) refl is
check saw stores told others heard line x y before report (Some name) (inl (err, same, kept)) = absurd (false≢true err)
check saw stores told others heard line x y before report (Some name) (inr (done, is, so)) =
    checked _ told others heard line x y report done so is

-- ---------------------------------------------------------------- what is asked at last

answers_at : (a : ℕ) (found : Bool) (x y : Talk) → AnswersAt a found x y → AsksByRules x y
answers_at a found x y (inl (beyond, none, same)) = asks_none x y same
answers_at a found x y (inr (short, r, is, so)) = answered a r x y short is

any_at : (shorts : List ℕ) (found : Bool) (x y : Talk) → IsAnyAt shorts found x y → AsksByRules x y
any_at [] found x y (none, same) = asks_none x y same
any_at (a ∷ more) found x y (one, at, first, next) =
    asks_both x at y (answers_at a one x at first) (either one _ _ _ (λ it. asks_none at y it.1) (any_at more found at y) next)

or_unaddressed : (ended : Ended) (one found : Bool) (x y : Talk) → OrUnaddressed ended one found x y → AsksByRules x y
or_unaddressed (Done GaveUp) false found x y is = unaddressed found x y is
or_unaddressed (Done GaveUp) true found x y is = asks_none x y is.1
or_unaddressed (Done AllFound) one found x y is = asks_none x y is.1
or_unaddressed (Done BlockFull) one found x y is = asks_none x y is.1
or_unaddressed (Halted why) one found x y is = asks_none x y is.1

asked_so : (pass : PassEnd) (shorts : List ℕ) (found : Bool) (x y : Talk)
    → ((one : Bool) × (at : Talk) × IsAnyAt shorts one x at × OrUnaddressed pass.ended one found at y) → AsksByRules x y
asked_so pass shorts found x y (one, at, any, more) =
    asks_both x at y (any_at shorts one x at any) (or_unaddressed pass.ended one found at y more)

asked : (pass : PassEnd) (enrolled : List Assignment) (heard found : Bool) (x y : Talk) → HasAsked pass enrolled heard found x y → AsksByRules x y
asked pass enrolled heard found x y is =
    either (is_asked pass) _ _ _ (asked_so pass (addresses enrolled ++ all_if heard) found x y) (λ it. asks_none x y it.1) is

again_one : (a : ℕ) (before after : Left) (x y : Talk) → IsAskedAgain a before after x y → AsksByRules x y
again_one a before after x y (inl (beyond, is, same)) = asks_none x y same
again_one a before after x y (inr (short, r, is, so)) = cleared a r x y short is

again : (shorts : List ℕ) (before after : Left) (x y : Talk) → AreAskedAgain shorts before after x y → AsksByRules x y
again [] before after x y (is, same) = asks_none x y same
again (a ∷ more) before after x y (left, at, first, rest) =
    asks_both x at y (again_one a before left x at first) (again more left after at y rest)

pub at_last : (pass : PassEnd) (enrolled : List Assignment) (last : AtLast) (x y : Talk) → HasAskedAtLast pass enrolled last x y → AsksByRules x y
at_last pass enrolled last x y it =
    asks_both x it.at y (asked pass enrolled it.heard last.is_there x it.at it.asked)
    (either last.is_there _ _ _ (again (heard_of pass.heard) none_left last.left it.at y) (λ none. asks_none it.at y none.1) it.left)
