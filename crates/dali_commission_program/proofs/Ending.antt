use Rattle.std.proofs.Common.{◌≡◌, ◌∙◌, ◌⊎◌, ℕ, ◌++◌, List, [], ◌∷◌, Bool, true, false, Result, Ok, Err, refl, sym, ap, inl, inr}
use Rattle.std.{proofs.lemmas.Bool.false≢true, specs.Prelude.is_err, specs.Prelude.IsErr}
use Rattle.dali_script.specs.Records.{Assignment, addresses}
use Rattle.dali_script.specs.declared.orders.{End.TheVariants.AllFound, End.TheVariants.BlockFull, End.TheVariants.GaveUp}
use Rattle.dali_script.specs.declared.orders.Fault.TheVariants as fault
use Rattle.dali_commissioning.specs.declared.conducting.{Ended.Ended, Ended.TheVariants.Done, Ended.TheVariants.Halted, PassEnd.PassEnd}
use Rattle.dali_commissioning.specs.Drivers.{Talk}
use Rattle.dali_commission_said.specs.{Failures.ended_as, Reports.heard_of}
use Rattle.dali_commission_said.specs.{declared.failure.Failure.Failure, declared.failure.Failure.TheVariants.NotAsRecorded}
use Rattle.dali_commission_asked.specs.Ending.{AnswersAt, If, IsAnyAt, is_asked, all_if, OrUnaddressed, HasAsked, IsAskedAgain, AreAskedAgain, none_left}
use Rattle.dali_commission_asked.specs.Ending.{HasAskedAtLast}
use Rattle.dali_commission_asked.specs.declared.{ending.AtLast.AtLast, sharing.Left.Left}
use Rattle.dali_commission_asked.specs.Sharing.{or_open}
use Rattle.dali_commission_program.proofs.Growing.{Grows, IsMore, stays, joined, more_then, then_more, grown}
use Rattle.dali_commission_program.proofs.Asking.{answered_more, cleared_more, left_over_more}

-- ---------------------------------------------------------------- results

pub ok_err : {E : Type 0} (e : E) → Ok (tt {0}) ≡ Err e → ⊥
ok_err e is = false≢true (ap (λ r. is_err r) is)

pub err_ok : {E : Type 0} (r : Result (Unit {0}) E) → r ≡ Ok (tt {0}) → IsErr r → ⊥
err_ok r well err = false≢true (sym (ap (λ it. is_err it) well) ∙ err)

pub either : (b : Bool) (A B G : Type 0) → (A → G) → (B → G) → If b A B → G
either true A B G left right is = left is
either false A B G left right is = right is

-- only a task that some gear answered at last has ended well
pub open_well : (ended : Result (Unit {0}) Failure) (any shared : Bool) → or_open ended any shared ≡ Ok (tt {0}) → ended ≡ Ok (tt {0})
open_well ended false shared is = is
open_well (Ok done) true shared is = absurd (ok_err _ (sym is))
open_well (Err NotAsRecorded) true shared is = absurd (ok_err _ (sym is))
open_well (Err failure) true shared is = absurd (ok_err _ (sym is))

pub ended_there : (ended : Ended) (there : Bool) → ended_as ended there ≡ Ok (tt {0}) → there ≡ true
ended_there ended true is = refl
ended_there (Done AllFound) false is = absurd (ok_err _ (sym is))
ended_there (Done BlockFull) false is = absurd (ok_err _ (sym is))
ended_there (Done GaveUp) false is = absurd (ok_err _ (sym is))
ended_there (Halted fault.Conflict) false is = absurd (ok_err _ (sym is))
ended_there (Halted fault.Store) false is = absurd (ok_err _ (sym is))

-- ---------------------------------------------------------------- whether any gear answers

answers_at : (a : ℕ) (found : Bool) (x y : Talk) → AnswersAt a found x y → Grows x y
answers_at a found x y (inl (beyond, none, same)) = stays x y same
answers_at a found x y (inr (short, r, answered, is)) = grown (answered_more a r x y answered)

answers_more : (a : ℕ) (found : Bool) (x y : Talk) → found ≡ true → AnswersAt a found x y → IsMore x y
answers_more a found x y there (inl (beyond, none, same)) = absurd (false≢true (sym none ∙ there))
answers_more a found x y there (inr (short, r, answered, is)) = answered_more a r x y answered

any_at : (shorts : List ℕ) (found : Bool) (x y : Talk) → IsAnyAt shorts found x y → Grows x y
any_at [] found x y (none, same) = stays x y same
any_at (a ∷ more) found x y (one, at, first, next) =
    joined (answers_at a one x at first) (either one _ _ _ (λ it. stays at y it.1) (any_at more found at y) next)

any_more : (shorts : List ℕ) (found : Bool) (x y : Talk) → found ≡ true → IsAnyAt shorts found x y → IsMore x y
any_more [] found x y there (none, same) = absurd (false≢true (sym none ∙ there))
any_more (a ∷ more) found x y there (true, at, first, next) = more_then (answers_more a true x at refl first) (stays at y next.1)
any_more (a ∷ more) found x y there (false, at, first, next) =
    then_more (answers_at a false x at first) (any_more more found at y there next)

or_unaddressed : (ended : Ended) (one found : Bool) (x y : Talk) → OrUnaddressed ended one found x y → Grows x y
or_unaddressed (Done GaveUp) false found x y is = grown (left_over_more _ _ found x y is)
or_unaddressed (Done GaveUp) true found x y is = stays x y is.1
or_unaddressed (Done AllFound) one found x y is = stays x y is.1
or_unaddressed (Done BlockFull) one found x y is = stays x y is.1
or_unaddressed (Halted why) one found x y is = stays x y is.1

unaddressed_more : (ended : Ended) (one found : Bool) (x y : Talk) → found ≡ true → OrUnaddressed ended one found x y
    → (one ≡ true) ⊎ IsMore x y
unaddressed_more (Done GaveUp) false found x y there is = inr (left_over_more _ _ found x y is)
unaddressed_more (Done GaveUp) true found x y there is = inl refl
unaddressed_more (Done AllFound) one found x y there is = inl (sym is.0 ∙ there)
unaddressed_more (Done BlockFull) one found x y there is = inl (sym is.0 ∙ there)
unaddressed_more (Halted why) one found x y there is = inl (sym is.0 ∙ there)

one_or_more : (shorts : List ℕ) (one : Bool) (x at y : Talk) → IsAnyAt shorts one x at → Grows at y → (one ≡ true) ⊎ IsMore at y → IsMore x y
one_or_more shorts one x at y is grows (inl there) = more_then (any_more shorts one x at there is) grows
one_or_more shorts one x at y is grows (inr more) = then_more (any_at shorts one x at is) more

asked_so : (pass : PassEnd) (shorts : List ℕ) (found : Bool) (x y : Talk) → found ≡ true
    → ((one : Bool) × (at : Talk) × IsAnyAt shorts one x at × OrUnaddressed pass.ended one found at y) → IsMore x y
asked_so pass shorts found x y there (one, at, any, more) =
    one_or_more shorts one x at y any (or_unaddressed pass.ended one found at y more) (unaddressed_more pass.ended one found at y there more)

asked_more : (pass : PassEnd) (enrolled : List Assignment) (heard found : Bool) (x y : Talk) → found ≡ true
    → HasAsked pass enrolled heard found x y → IsMore x y
asked_more pass enrolled heard found x y there is =
    either (is_asked pass) _ _ _ (asked_so pass (addresses enrolled ++ all_if heard) found x y there)
    (λ it. absurd (false≢true (sym it.0 ∙ there))) is

asked_grows : (pass : PassEnd) (shorts : List ℕ) (found : Bool) (x y : Talk)
    → ((one : Bool) × (at : Talk) × IsAnyAt shorts one x at × OrUnaddressed pass.ended one found at y) → Grows x y
asked_grows pass shorts found x y (one, at, any, more) = joined (any_at shorts one x at any) (or_unaddressed pass.ended one found at y more)

asked : (pass : PassEnd) (enrolled : List Assignment) (heard found : Bool) (x y : Talk) → HasAsked pass enrolled heard found x y → Grows x y
asked pass enrolled heard found x y is =
    either (is_asked pass) _ _ _ (asked_grows pass (addresses enrolled ++ all_if heard) found x y) (λ it. stays x y it.1) is

-- ---------------------------------------------------------------- what is asked at last

again_one : (a : ℕ) (before after : Left) (x y : Talk) → IsAskedAgain a before after x y → Grows x y
again_one a before after x y (inl (beyond, is, same)) = stays x y same
again_one a before after x y (inr (short, r, cleared, is)) = grown (cleared_more a r x y cleared)

again : (shorts : List ℕ) (before after : Left) (x y : Talk) → AreAskedAgain shorts before after x y → Grows x y
again [] before after x y (is, same) = stays x y same
again (a ∷ more) before after x y (left, at, first, rest) =
    joined (again_one a before left x at first) (again more left after at y rest)

left_again : (pass : PassEnd) (enrolled : List Assignment) (last : AtLast) (x y : Talk) (it : HasAskedAtLast pass enrolled last x y)
    → Grows it.at y
left_again pass enrolled last x y it =
    either last.is_there _ _ _ (again (heard_of pass.heard) none_left last.left it.at y) (λ none. stays it.at y none.1) it.left

pub at_last : (pass : PassEnd) (enrolled : List Assignment) (last : AtLast) (x y : Talk) → HasAskedAtLast pass enrolled last x y → Grows x y
at_last pass enrolled last x y it =
    joined (asked pass enrolled it.heard last.is_there x it.at it.asked) (left_again pass enrolled last x y it)

pub at_last_more : (pass : PassEnd) (enrolled : List Assignment) (last : AtLast) (x y : Talk) → last.is_there ≡ true
    → HasAskedAtLast pass enrolled last x y → IsMore x y
at_last_more pass enrolled last x y there it =
    more_then (asked_more pass enrolled it.heard last.is_there x it.at there it.asked)
    (left_again pass enrolled last x y it)
