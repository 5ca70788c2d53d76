use Rattle.std.proofs.Common.{◌≡◌, ◌⊎◌, inl, inr, refl, sym, ap, subst, ◌∙◌, arith, ℕ, ◌==◌, ◌≤◌, Bool, true, false, List, [], ◌∷◌, ◌++◌, length, is_some}
use Rattle.std.proofs.lemmas.{Bool.false≢true}
use Rattle.dali_frame.specs.{Random.high_of, Random.middle_of, Random.low_of, declared.frames.Answer.Answer, declared.numbers.SearchAddress.SearchAddress}
use Rattle.dali_special.specs.{Command.command_of, declared.command.Command.Command, declared.command.Command.TheVariants.Compare}
use Rattle.dali_script.specs.{Records.Kept, Records.Assignment, Scripts.Lawful, Scripts.Open, Scripts.Hunt, Scripts.PassOver, Scripts.Close}
use Rattle.dali_script.specs.{Scripts.AreAsking, Scripts.ASKING, declared.block.Block.Block, declared.trace.Entry.Entry, declared.orders.Input.Input}
use Rattle.dali_script.specs.declared.orders.Input.TheVariants.{Start, Survey, Heard, Destroyed, Lapsed, Committed, CommitFailed}
use Rattle.dali_statement.specs.Own.{Own, Act, Begins, own_after, AreOwn}
use Rattle.dali_commissioning.specs.{Acts.records_of, Census.is_sent, Drivers.Talk, Done.AreDone, Rules.AsksByRules}
use Rattle.dali_commissioning.specs.Unaddressed.{asking, asking_beside, asked_to_the_end, ArePut, AreTried, AreLeftOver}
use Rattle.dali_commissioning.specs.declared.unaddressed.Putting.{Putting}
use Rattle.dali_commissioning.proofs.Acts.{records_both}
use Rattle.dali_commissioning.proofs.Done.{done_both, none_done, anew_done, act_told, put_done}
use Rattle.dali_commissioning.proofs.Questions.{asks_both, asks_none, told_own, told_keeps_none}

-- GEAR WITHOUT SHORT ADDRESS ARE ASKED BY THE RULES, whoever asks.

-- a transaction begins at priority 3
abbrev anew : Putting → Bool
anew p = p.priority == 3

abbrev acts_from : Bool → List Act → List Act
acts_from true acts = Begins ∷ acts
acts_from false acts = acts

abbrev trace_from : Bool → List Entry → List Entry
trace_from true t = []
trace_from false t = t

abbrev acts_put : List Putting → List Input → List Act
acts_put puttings [] = []
acts_put [] (told ∷ more) = []
acts_put (p ∷ puttings) (told ∷ more) = acts_from (anew p) (act_told p.frame told ∷ acts_put puttings more)

-- each may be put, whatever was heard of those before
abbrev MayPut : Block → List Assignment → List Entry → List Putting → Type 0
MayPut b reserved t [] = Unit {0}
MayPut b reserved t (p ∷ puttings) =
    Lawful b reserved (trace_from (anew p) t) p.frame
    × ((h : Answer) → MayPut b reserved (trace_from (anew p) t ++ (record { frame = p.frame; heard = h }) ∷ []) puttings)

from_done : (is_anew : Bool) (acts : List Act) (x y : Talk) → AreDone acts x y → AreDone (acts_from is_anew acts) x y
from_done true acts x y it = anew_done acts x y it
from_done false acts x y it = it

put_all_done : (puttings : List Putting) (told : List Input) (x y : Talk) → ArePut puttings told x y → AreDone (acts_put puttings told) x y
put_all_done puttings [] x y same = none_done x y same
put_all_done [] (told ∷ more) x y never = absurd never
put_all_done (p ∷ puttings) (told ∷ more) x y (mid, put, heard, rest) =
    from_done (anew p) (act_told p.frame told ∷ acts_put puttings more) x y
    (done_both (act_told p.frame told ∷ []) (acts_put puttings more) x mid y (put_done put) (put_all_done puttings more mid y rest))

from_none : (is_anew : Bool) (acts : List Act) → records_of acts ≡ [] → records_of (acts_from is_anew acts) ≡ []
from_none true acts none = none
from_none false acts none = none

told_none : (a : Act) (acts : List Act) → records_of (a ∷ []) ≡ [] → records_of acts ≡ [] → records_of (a ∷ acts) ≡ []
told_none a acts one more = records_both (a ∷ []) acts ∙ ap (λ xs. xs ++ records_of acts) one ∙ more

put_none : (puttings : List Putting) (told : List Input) → records_of (acts_put puttings told) ≡ []
put_none puttings [] = refl
put_none [] (told ∷ more) = refl
put_none (p ∷ puttings) (told ∷ more) =
    from_none (anew p) (act_told p.frame told ∷ acts_put puttings more)
    (told_none (act_told p.frame told) (acts_put puttings more) (told_keeps_none p.frame told) (put_none puttings more))

from_own : (is_anew : Bool) (v : Own) (acts : List Act)
    → ((w : Own) → w.kept ≡ v.kept → w.trace ≡ trace_from is_anew v.trace → AreOwn w acts) → AreOwn v (acts_from is_anew acts)
from_own true v acts own = (tt, own (own_after v Begins) refl refl)
from_own false v acts own = own v refl refl

-- the rest is put only if it was heard
rest_own : (p : Putting) (puttings : List Putting) (told : Input) (more : List Input) (w : Own) → (is_sent told ≡ true) ⊎ (more ≡ [])
    → ((h : Answer) → told ≡ Heard h → AreOwn (own_after w (act_told p.frame (Heard h))) (acts_put puttings more))
    → AreOwn (own_after w (act_told p.frame told)) (acts_put puttings more)
rest_own p puttings told [] w heard own = tt
rest_own p puttings (Heard h) (next ∷ later) w heard own = own h refl
rest_own p puttings told (next ∷ later) w (inr none) own = absurd (let same : next ∷ later ≡ [] = none in cc)
rest_own p puttings Start (next ∷ later) w (inl heard) own = absurd (false≢true heard)
rest_own p puttings Survey (next ∷ later) w (inl heard) own = absurd (false≢true heard)
rest_own p puttings Destroyed (next ∷ later) w (inl heard) own = absurd (false≢true heard)
rest_own p puttings Lapsed (next ∷ later) w (inl heard) own = absurd (false≢true heard)
rest_own p puttings Committed (next ∷ later) w (inl heard) own = absurd (false≢true heard)
rest_own p puttings CommitFailed (next ∷ later) w (inl heard) own = absurd (false≢true heard)

put_own : (puttings : List Putting) (told : List Input) (x y : Talk) (v : Own) → ArePut puttings told x y
    → MayPut v.kept.block v.kept.reserved v.trace puttings → AreOwn v (acts_put puttings told)
put_own puttings [] x y v are may = tt
put_own [] (told ∷ more) x y v never may = absurd never
put_own (p ∷ puttings) (told ∷ more) x y v (mid, put, heard, rest) may =
    from_own (anew p) v (act_told p.frame told ∷ acts_put puttings more) (λ w kept trace.
    let is_lawful : Lawful w.kept.block w.kept.reserved w.trace p.frame =
    subst (λ t. Lawful w.kept.block w.kept.reserved t p.frame) (sym trace)
    (subst (λ (k : Kept). Lawful k.block k.reserved (trace_from (anew p) v.trace) p.frame) (sym kept) may.0) in (
      told_own p.frame told w is_lawful,
      rest_own p puttings told more w heard (λ h is.
          put_own puttings more mid y (own_after w (act_told p.frame (Heard h))) rest
          (subst (λ t. MayPut w.kept.block w.kept.reserved (t ++ (record { frame = p.frame; heard = h }) ∷ []) puttings) (sym trace)
          (subst (λ (k : Kept). MayPut k.block k.reserved (trace_from (anew p) v.trace ++ (record { frame = p.frame; heard = h }) ∷ []) puttings)
          (sym kept) (may.1 h)))),
    ))

put_so : (puttings : List Putting) (told : List Input) (x y : Talk)
    → ((b : Block) (reserved : List Assignment) (t : List Entry) → MayPut b reserved t puttings) → ArePut puttings told x y → AsksByRules x y
put_so puttings told x y may are = record {
  acts = acts_put puttings told;
  done = put_all_done puttings told x y are;
  none = put_none puttings told;
  own = λ v. put_own puttings told x y v are (may v.kept.block v.kept.reserved v.trace);
}

tried : (puttings : List Putting) (all : List (List Input)) (x y : Talk)
    → ((b : Block) (reserved : List Assignment) (t : List Entry) → MayPut b reserved t puttings) → AreTried puttings all x y → AsksByRules x y
tried puttings [] x y may same = asks_none x y same
tried puttings (told ∷ before) x y may (mid, so_far, are, lost) =
    asks_both x mid y (tried puttings before x mid may so_far) (put_so puttings told mid y may are)

left_over : (puttings : List Putting) (found : Bool) (x y : Talk)
    → ((b : Block) (reserved : List Assignment) (t : List Entry) → MayPut b reserved t puttings) → AreLeftOver puttings found x y → AsksByRules x y
left_over puttings found x y may (before, told, mid, so_far, are, is) =
    asks_both x mid y (tried puttings before x mid may so_far) (put_so puttings told mid y may are)

-- ---------------------------------------------------------------- the frames by which they are asked

abbrev all_ones : SearchAddress
all_ones = record { high = 255; middle = 255; low = 255 }

abbrev asks : List Command
asks = Compare ∷ Compare ∷ Compare ∷ []

asks_few : AreAsking asks × (length asks ≤ ASKING)
asks_few = ((refl, (refl, (refl, tt))), omega arith)

ends : (b : Block) (reserved : List Assignment) (t : List Entry) → MayPut b reserved t asked_to_the_end
unfolding command_of
ends b reserved t = (
  (Hunt all_ones asks, asks_few, refl),
  λ h. (
    (Hunt all_ones asks, asks_few, (refl, tt, refl)),
    λ i. (
      (Hunt all_ones asks, asks_few, (refl, tt, (refl, tt, refl))),
      λ j. (
        (Hunt all_ones asks, asks_few, (refl, tt, (refl, tt, (refl, tt, refl)))),
        λ k. (
          (Hunt all_ones asks, asks_few, (refl, tt, (refl, tt, (refl, tt, (refl, tt, refl))))),
          λ l. (
            (Hunt all_ones asks, asks_few, (refl, tt, (refl, tt, (refl, tt, (refl, tt, (refl, tt, refl)))))),
            λ m. ((Close, tt, refl), λ n. tt),
          ),
        ),
      ),
    ),
  ),
)

asks_all : (b : Block) (reserved : List Assignment) (t : List Entry) → MayPut b reserved t asking
unfolding command_of
asks_all b reserved t = (
  (Open, tt, refl),
  λ h. ((Open, tt, (refl, tt, refl)), λ i. ((Open, tt, (refl, tt, (refl, tt, refl))), λ j. ends b reserved [])),
)

abbrev at_number : ℕ → SearchAddress
at_number r = record { high = high_of r; middle = middle_of r; low = low_of r }

asks_beside : (r : ℕ) (b : Block) (reserved : List Assignment) (t : List Entry) → MayPut b reserved t (asking_beside r)
unfolding command_of
asks_beside r b reserved t = (
  (Open, tt, refl),
  λ h. (
    (Open, tt, (refl, tt, refl)),
    λ i. (
      (Open, tt, (refl, tt, (refl, tt, refl))),
      λ j. (
        (PassOver (at_number r), tt, refl),
        λ k. (
          (PassOver (at_number r), tt, (refl, tt, refl)),
          λ l. (
            (PassOver (at_number r), tt, (refl, tt, (refl, tt, refl))),
            λ m. ((PassOver (at_number r), tt, (refl, tt, (refl, tt, (refl, tt, refl)))), λ n. ends b reserved []),
          ),
        ),
      ),
    ),
  ),
)

pub unaddressed : (found : Bool) (x y : Talk) → AreLeftOver asking found x y → AsksByRules x y
unaddressed found x y are = left_over asking found x y asks_all are

pub beside : (r : ℕ) (found : Bool) (x y : Talk) → AreLeftOver (asking_beside r) found x y → AsksByRules x y
beside r found x y are = left_over (asking_beside r) found x y (asks_beside r) are
