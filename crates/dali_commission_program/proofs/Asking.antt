use Rattle.std.proofs.Common.{◌≡◌, ◌<◌, arith, ℕ, ◌+◌, List, [], ◌∷◌, Bool, Some, ap, inl, inr}
use Rattle.std.proofs.lemmas.Option.{none-some}
use Rattle.dali_script.specs.{Records.Kept, declared.block.Block.Block, declared.orders.Input.Input}
use Rattle.dali_commissioning.specs.Census.{IsAsked, AreAsked, IsHeard, IsAnswered, IsAskedMore, IsCleared, IsCounted, AreCounted, heard_in}
use Rattle.dali_commissioning.specs.{Drivers.Talk, declared.census.Reply.Reply}
use Rattle.dali_commissioning.specs.Unaddressed.{ArePut, AreTried, AreLeftOver, found_by}
use Rattle.dali_commissioning.specs.declared.unaddressed.Putting.{Putting}
use Rattle.dali_commission_program.proofs.Growing.{Grows, IsMore, stays, joined, more_then, then_more, grown, put_more}

-- ---------------------------------------------------------------- questions

asked : (a : ℕ) (told : List Input) (x y : Talk) → IsAsked a told x y → Grows x y
asked a [] x y same = stays x y same
asked a (told ∷ before) x y (mid, so_far, heard, few, put) = joined (asked a before x mid so_far) (grown (put_more put))

all_asked : (a : ℕ) (questions : List (List Input)) (x y : Talk) → AreAsked a questions x y → Grows x y
all_asked a [] x y same = stays x y same
all_asked a (told ∷ before) x y (mid, so_far, last) = joined (all_asked a before x mid so_far) (asked a told mid y last)

-- a question that was told whole has put frames
asked_more : (a : ℕ) (questions : List (List Input)) (x y : Talk) → 0 < (heard_in questions).asked → AreAsked a questions x y
    → IsMore x y
asked_more a [] x y some are = absurd (omega (arith, some))
asked_more a ([] ∷ before) x y some (mid, so_far, same) = more_then (asked_more a before x mid some so_far) (stays mid y same)
asked_more a ((told ∷ more) ∷ before) x y some (mid, so_far, (at, first, heard, few, put)) =
    then_more (joined (all_asked a before x mid so_far) (asked a more mid at first)) (put_more put)

pub heard_more : (n a : ℕ) (h : _) (x y : Talk) → 0 < n → IsHeard n a h x y → IsMore x y
heard_more n a h x y some (questions, are, is, counted) =
    asked_more a questions x y (omega (arith, some, counted, ap (λ it. it.asked) is)) are

pub answered_more : (a : ℕ) (r : Reply) (x y : Talk) → IsAnswered a r x y → IsMore x y
answered_more a r x y (h, heard, is) = heard_more 3 a h x y (omega arith) heard

asked_on : (a : ℕ) (first r : Reply) (x y : Talk) → IsAskedMore a first r x y → Grows x y
asked_on a first r x y (inl (clear, is, same)) = stays x y same
asked_on a first r x y (inr (unclear, (h, heard, is))) = grown (heard_more 9 a h x y (omega arith) heard)

pub cleared_more : (a : ℕ) (r : Reply) (x y : Talk) → IsCleared a r x y → IsMore x y
cleared_more a r x y it = more_then (answered_more a it.first x it.mid it.answered) (asked_on a it.first r it.mid y it.more)

-- ---------------------------------------------------------------- the census

counted_one : (k : Kept) (others : List Block) (a : ℕ) (r : Reply) (x y : Talk) → IsCounted k others a r x y → Grows x y
counted_one k others a r x y (inl (known, is, same)) = stays x y same
counted_one k others a r x y (inr (unknown, it)) = grown (cleared_more a r x y it)

pub counted : (k : Kept) (others : List Block) (a : ℕ) (replies : List Reply) (x y : Talk) → AreCounted k others a replies x y
    → Grows x y
counted k others a [] x y same = stays x y same
counted k others a (r ∷ more) x y (mid, first, rest) =
    joined (counted_one k others a r x mid first) (counted k others (a + 1) more mid y rest)

-- ---------------------------------------------------------------- gear without short address

puttings_put : (puttings : List Putting) (told : List Input) (x y : Talk) → ArePut puttings told x y → Grows x y
puttings_put puttings [] x y same = stays x y same
puttings_put [] (told ∷ more) x y never = absurd never
puttings_put (p ∷ puttings) (told ∷ more) x y (mid, put, heard, rest) =
    joined (grown (put_more put)) (puttings_put puttings more mid y rest)

tried : (puttings : List Putting) (all : List (List Input)) (x y : Talk) → AreTried puttings all x y → Grows x y
tried puttings [] x y same = stays x y same
tried puttings (told ∷ before) x y (mid, so_far, are, lost) =
    joined (tried puttings before x mid so_far) (puttings_put puttings told mid y are)

-- they were asked to the end, so at least the first frame was put
put_to_the_end : (p : Putting) (puttings : List Putting) (told : List Input) (found : Bool) (x y : Talk)
    → ArePut (p ∷ puttings) told x y → found_by (p ∷ puttings) told ≡ Some found → IsMore x y
put_to_the_end p puttings [] found x y are is = absurd (none-some found is)
put_to_the_end p puttings (told ∷ more) found x y (mid, put, heard, rest) is =
    more_then (put_more put) (puttings_put puttings more mid y rest)

pub left_over_more : (p : Putting) (puttings : List Putting) (found : Bool) (x y : Talk) → AreLeftOver (p ∷ puttings) found x y
    → IsMore x y
left_over_more p puttings found x y (before, told, mid, so_far, are, is) =
    then_more (tried (p ∷ puttings) before x mid so_far) (put_to_the_end p puttings told found mid y are is)
