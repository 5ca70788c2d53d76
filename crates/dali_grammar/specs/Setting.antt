use Rattle.std.specs.Prelude.{◌≡◌, ℕ, ◌+◌, List, [], ◌∷◌, ◌++◌, length, Bool}
use Rattle.std.specs.Prelude.{Option, Some, None, Result, Ok, Err, if◌then◌else◌}
use Rattle.dali_events.specs.declared.plan.PlanError.{PlanError}
use Rattle.dali_events.specs.declared.used.Used.{Used}
use Rattle.dali_events.specs.Plan.{Plan, plan_of, refusal_of, plan_with, used_refusal_of}
use Rattle.dali_grammar.specs.declared.fault.ReplayFault.{ReplayFault}
use Rattle.dali_grammar.specs.declared.fault.ReplayFault.TheVariants.{BadLine, BadPlan, Memory}
use Rattle.dali_grammar.specs.declared.fault.ReplayFault.TheVariants.{Read, Write}
use Rattle.dali_grammar.specs.Lines.{lines_of, numbered_after, words_of}
use Rattle.dali_grammar.specs.Heading.{Heading, heading_of, draws_of, is_used_line, used_line_of}

-- lines that are not skipped, each with its number
abbrev pub NumberedLines : Type 0
NumberedLines = List (ℕ × List ℕ)

-- how a run ends: after the last line, at a bad line, or at a plan that is refused
pub data End : Type 0 where
  Done : End
  AtLine : (n : ℕ) → End
  Refused : (e : PlanError) → End

-- ---------------------------------------------------------------- the first lines

-- the next line, read by one of the readers of words; `last` is the number of the line that is
-- missing at the end
abbrev pub or_at : {A : Type 0} → ℕ → Option A → NumberedLines → Result (A × NumberedLines) End
or_at n None lines = Err (AtLine n)
or_at n (Some a) lines = Ok (a, lines)

abbrev pub next_as : {A : Type 0} → (List (List ℕ) → Option A) → ℕ → NumberedLines
    → Result (A × NumberedLines) End
next_as reads last [] = Err (AtLine last)
next_as reads last (line ∷ lines) = or_at line.0 (reads (words_of line.1)) lines

-- What is set up: whether it is a bench, and the plan.
abbrev pub Setting : Type 0
Setting = Bool × Plan

-- the used gear that the next lines name, after those that were named
abbrev pub naming : ℕ → Option Used → (Used → Result (List Used × NumberedLines) End)
    → Result (List Used × NumberedLines) End
naming n None next = Err (AtLine n)
naming n (Some u) next = next u

abbrev pub used_of : List Used → NumberedLines → Result (List Used × NumberedLines) End
used_of us [] = Ok (us, [])
used_of us (line ∷ lines) =
    if is_used_line (words_of line.1)
    then naming line.0 (used_line_of (words_of line.1)) (λ u. used_of (us ++ u ∷ []) lines)
    else Ok (us, line ∷ lines)

abbrev pub with_used_by : Bool → Plan → List Used → NumberedLines → Option PlanError
    → Result (Setting × NumberedLines) End
with_used_by is_bench p us lines None = Ok ((is_bench, plan_with p us), lines)
with_used_by is_bench p us lines (Some e) = Err (Refused e)

abbrev pub then_used : Bool → Plan → Result (List Used × NumberedLines) End
    → Result (Setting × NumberedLines) End
then_used is_bench p (Err end) = Err end
then_used is_bench p (Ok used) =
    with_used_by is_bench p used.0 used.1 (used_refusal_of p used.0)

abbrev pub set_up : Heading → List ℕ → NumberedLines → Option PlanError
    → Result (Setting × NumberedLines) End
set_up heading draws lines None =
    then_used heading.is_bench (plan_of heading.gear heading.blocks draws) (used_of [] lines)
set_up heading draws lines (Some e) = Err (Refused e)

abbrev pub then_draws : Heading → Result (List ℕ × NumberedLines) End
    → Result (Setting × NumberedLines) End
then_draws heading (Err end) = Err end
then_draws heading (Ok draws) =
    set_up heading draws.0 draws.1 (refusal_of heading.gear heading.blocks draws.0)

abbrev pub then_heading : ℕ → Result (Heading × NumberedLines) End
    → Result (Setting × NumberedLines) End
then_heading last (Err end) = Err end
then_heading last (Ok heading) = then_draws heading.0 (next_as draws_of last heading.1)

abbrev pub planned : ℕ → NumberedLines → Result (Setting × NumberedLines) End
planned last lines = then_heading last (next_as heading_of last lines)

-- of a whole input: what its first lines set up, with the lines that follow
abbrev pub setting_of : List ℕ → Result (Setting × NumberedLines) End
setting_of input = planned (length (lines_of input) + 1) (numbered_after 0 input)

-- what a fault of the first lines says of them: want of memory says nothing of them
abbrev pub PlansNot : {A : Type 0} → Result A End → ReplayFault → Type 0
PlansNot plan (BadLine n) = plan ≡ Err (AtLine n)
PlansNot plan (BadPlan e) = plan ≡ Err (Refused e)
PlansNot plan Memory = Unit {0}
PlansNot plan Read = ⊥
PlansNot plan Write = ⊥
