use Rattle.std.proofs.Common.{◌≡◌, ℕ, List, [], ◌∷◌, Bool, true, false, Option, Result, Ok, Err, inl, inr}
use Rattle.std.{proofs.lemmas.Bool.false≢true, specs.Prelude.if◌then◌else◌, specs.declared.alloc.Global.Global, specs.declared.string.String.String}
use Rattle.dali_script.specs.{Records.without_records, declared.orders.Input.Input}
use Rattle.dali_commissioning.specs.{Drivers.Talk, declared.census.Reply.Reply}
use Rattle.dali_commission_said.specs.declared.{failure.Failure.Failure, report.Report.Report, said.Said.Said}
use Rattle.dali_commission_stores.specs.Calls.{Call, Look}
use Rattle.dali_commission_asked.specs.Frames.{AreFrames}
use Rattle.dali_commission_cleared.specs.Clearing.{all_shorts, IsRound, AreCleared, ClearsTo, HasCleared}
use Rattle.dali_commission_cleared.specs.Erasing.{begun, erasing_next, erasing_told}
use Rattle.dali_commission_program.proofs.Growing.{Grows, IsMore, stays, joined, then_more, grown, put_more}
use Rattle.dali_commission_program.proofs.Asking.{counted, left_over_more}
use Rattle.dali_commission_program.proofs.Ending.{ok_err}

-- the frames of a machine
pub frames : {M : Type 0} (next : M → Option _) (after : M → Input → M) (m : M) (told : List Input) (n : M) (x y : Talk)
    → AreFrames next after m told n x y → Grows x y
frames next after m [] n x y (is, same) = stays x y same
frames next after m (told ∷ before) n x y (mid, at, so_far, (put, is, placed, goes_on)) =
    joined (frames next after m before mid x at so_far) (grown (put_more placed))

round : (replies : List Reply) (x y : Talk) → IsRound replies x y → Grows x y
round replies x y (e, at, (told, put), none, few, are) =
    joined (frames erasing_next erasing_told begun told e x at put) (counted (without_records all_shorts) [] 0 replies at y are)

rounds : (numbers : List ℕ) (last replies : List Reply) (x y : Talk) → AreCleared numbers last replies x y → Grows x y
rounds [] last replies x y (is, same) = stays x y same
rounds (number ∷ more) last replies x y (one, at, first, inl (none, is, same)) = joined (round one x at first) (stays at y same)
rounds (number ∷ more) last replies x y (one, at, first, inr (any, next)) =
    joined (round one x at first) (rounds more one replies at y next)

not_any : (any : Bool) (failure : Failure) (r : Result (Unit {0}) Failure) → any ≡ true
    → Ok (tt {0}) ≡ (if any then Err failure else r) → ⊥
not_any true failure r is well = ok_err failure well
not_any false failure r is well = false≢true is

cleared_more : (came : Report) (x y : Talk) → ClearsTo came (Ok (tt {0})) x y → IsMore x y
cleared_more came x y (replies, found, at, are, inl (any, same), is, reports) = absurd (not_any _ _ _ any is)
cleared_more came x y (replies, found, at, are, inr (none, left), is, reports) =
    then_more (rounds (1 ∷ 2 ∷ 3 ∷ 4 ∷ []) [] replies x at are) (left_over_more _ _ found at y left)

pub clear_more : {F : Type 0} (made : F → F → Call → Type 0) (saw : F → Look → Type 0) (told : Said → Type 0)
    (records : List (String Global)) (was now : F) (x y : Talk) (frames : ℕ) (before report : Report)
    → HasCleared made saw told records was now x y frames before report (Ok (tt {0})) → IsMore x y
clear_more made saw told records was now x y frames before report (inl (err, same, kept)) = absurd (false≢true err)
clear_more made saw told records was now x y frames before report (inr (mid, aside, new, inl (reason, so, reports, cut))) = absurd (ok_err _ so)
clear_more made saw told records was now x y frames before report (inr (mid, aside, new, inr (came, clears, reports, said))) =
    cleared_more came x y clears
