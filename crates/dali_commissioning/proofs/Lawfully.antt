use Rattle.std.proofs.Common.{◌≡◌, ◌<◌, ◌≤◌, arith, ℕ, List, [], ◌∷◌, length, refl}
use Rattle.std.proofs.lemmas.Bool.{false≢true}
use Rattle.dali_frame.specs.{Random.high_of, Random.middle_of, Random.low_of, declared.frames.Answer.Answer, declared.numbers.SearchAddress.SearchAddress}
use Rattle.dali_special.specs.{Command.command_of, declared.command.Command.Command, declared.command.Command.TheVariants.RandomByte}
use Rattle.dali_special.{specs.declared.command.Command.TheVariants.Compare, proofs.Table.read_written}
use Rattle.dali_script.specs.{Records.Assignment, Scripts.Lawful, Scripts.Resolve, Scripts.Open, Scripts.Hunt, Scripts.PassOver, Scripts.Close}
use Rattle.dali_script.specs.{Scripts.AreAsking, Scripts.ASKING, declared.block.Block.Block, declared.orders.Input.Input}
use Rattle.dali_script.specs.declared.orders.Input.TheVariants.{Start, Survey, Heard, Destroyed, Lapsed, Committed, CommitFailed}
use Rattle.dali_commissioning.specs.Census.{AreHeard, entries_of, query_at, part_at}
use Rattle.dali_commissioning.specs.Unaddressed.{waking, withdrawing, comparing, ending, AreLawful}

queried : (a n : ℕ) → a < 64 → command_of (query_at a n) ≡ RandomByte a (part_at n)
queried a n short = read_written (RandomByte a (part_at n)) short

pub lawful : (b : Block) (reserved : List Assignment) (a : ℕ) (told : List Input) → a < 64 → AreHeard told
    → length told < 3 → Lawful b reserved (entries_of a told) (query_at a (length told))
lawful b reserved a [] short heard few = (Resolve a, tt, queried a 0 short)
lawful b reserved a (Heard h ∷ []) short heard few = (Resolve a, tt, (queried a 0 short, tt, queried a 1 short))
lawful b reserved a (Heard m ∷ Heard h ∷ []) short heard few =
    (Resolve a, tt, (queried a 0 short, tt, (queried a 1 short, tt, queried a 2 short)))
lawful b reserved a (_ ∷ _ ∷ _ ∷ more) short heard few = absurd (omega (arith, few))
lawful b reserved a (Start ∷ more) short heard few = absurd (false≢true heard.0)
lawful b reserved a (Survey ∷ more) short heard few = absurd (false≢true heard.0)
lawful b reserved a (Destroyed ∷ more) short heard few = absurd (false≢true heard.0)
lawful b reserved a (Lapsed ∷ more) short heard few = absurd (false≢true heard.0)
lawful b reserved a (Committed ∷ more) short heard few = absurd (false≢true heard.0)
lawful b reserved a (CommitFailed ∷ more) short heard few = absurd (false≢true heard.0)
lawful b reserved a (Heard m ∷ Start ∷ more) short heard few = absurd (false≢true heard.1.0)
lawful b reserved a (Heard m ∷ Survey ∷ more) short heard few = absurd (false≢true heard.1.0)
lawful b reserved a (Heard m ∷ Destroyed ∷ more) short heard few = absurd (false≢true heard.1.0)
lawful b reserved a (Heard m ∷ Lapsed ∷ more) short heard few = absurd (false≢true heard.1.0)
lawful b reserved a (Heard m ∷ Committed ∷ more) short heard few = absurd (false≢true heard.1.0)
lawful b reserved a (Heard m ∷ CommitFailed ∷ more) short heard few = absurd (false≢true heard.1.0)

-- ---------------------------------------------------------------- gear without short address

pub woken : (b : Block) (reserved : List Assignment) (heard : List Answer) → AreLawful b reserved [] waking heard
unfolding command_of
woken b reserved [] = (Open, tt, refl)
woken b reserved (h ∷ []) = ((Open, tt, refl), (Open, tt, (refl, tt, refl)))
woken b reserved (h ∷ i ∷ []) =
    ((Open, tt, refl), ((Open, tt, (refl, tt, refl)), (Open, tt, (refl, tt, (refl, tt, refl)))))
woken b reserved (h ∷ i ∷ j ∷ more) =
    ((Open, tt, refl), ((Open, tt, (refl, tt, refl)), ((Open, tt, (refl, tt, (refl, tt, refl))), tt)))

pub ended : (b : Block) (reserved : List Assignment) (heard : List Answer) → AreLawful b reserved [] ending heard
unfolding command_of
ended b reserved [] = (Close, tt, refl)
ended b reserved (h ∷ more) = ((Close, tt, refl), tt)

abbrev at_number : ℕ → SearchAddress
at_number r = record { high = high_of r; middle = middle_of r; low = low_of r }

pub withdrawn : (b : Block) (reserved : List Assignment) (r : ℕ) (heard : List Answer) → AreLawful b reserved [] (withdrawing r) heard
unfolding command_of
withdrawn b reserved r [] = (PassOver (at_number r), tt, refl)
withdrawn b reserved r (h ∷ []) = ((PassOver (at_number r), tt, refl), (PassOver (at_number r), tt, (refl, tt, refl)))
withdrawn b reserved r (h ∷ i ∷ []) = (
  (PassOver (at_number r), tt, refl),
  ((PassOver (at_number r), tt, (refl, tt, refl)), (PassOver (at_number r), tt, (refl, tt, (refl, tt, refl)))),
)
withdrawn b reserved r (h ∷ i ∷ j ∷ []) = (
  (PassOver (at_number r), tt, refl),
  (
    (PassOver (at_number r), tt, (refl, tt, refl)),
    ((PassOver (at_number r), tt, (refl, tt, (refl, tt, refl))), (PassOver (at_number r), tt, (refl, tt, (refl, tt, (refl, tt, refl))))),
  ),
)
withdrawn b reserved r (h ∷ i ∷ j ∷ k ∷ more) = (
  (PassOver (at_number r), tt, refl),
  (
    (PassOver (at_number r), tt, (refl, tt, refl)),
    (
      (PassOver (at_number r), tt, (refl, tt, (refl, tt, refl))),
      ((PassOver (at_number r), tt, (refl, tt, (refl, tt, (refl, tt, refl)))), tt),
    ),
  ),
)

abbrev all_ones : SearchAddress
all_ones = record { high = 255; middle = 255; low = 255 }

abbrev asked : List Command
asked = Compare ∷ Compare ∷ Compare ∷ []

may : AreAsking asked × (length asked ≤ ASKING)
may = ((refl, (refl, (refl, tt))), omega arith)

pub compared : (b : Block) (reserved : List Assignment) (heard : List Answer) → AreLawful b reserved [] comparing heard
unfolding command_of
compared b reserved [] = (Hunt all_ones asked, may, refl)
compared b reserved (h ∷ []) = ((Hunt all_ones asked, may, refl), (Hunt all_ones asked, may, (refl, tt, refl)))
compared b reserved (h ∷ i ∷ []) =
    ((Hunt all_ones asked, may, refl), ((Hunt all_ones asked, may, (refl, tt, refl)), (Hunt all_ones asked, may, (refl, tt, (refl, tt, refl)))))
compared b reserved (h ∷ i ∷ j ∷ []) = (
  (Hunt all_ones asked, may, refl),
  (
    (Hunt all_ones asked, may, (refl, tt, refl)),
    ((Hunt all_ones asked, may, (refl, tt, (refl, tt, refl))), (Hunt all_ones asked, may, (refl, tt, (refl, tt, (refl, tt, refl))))),
  ),
)
compared b reserved (h ∷ i ∷ j ∷ k ∷ []) = (
  (Hunt all_ones asked, may, refl),
  (
    (Hunt all_ones asked, may, (refl, tt, refl)),
    (
      (Hunt all_ones asked, may, (refl, tt, (refl, tt, refl))),
      (
        (Hunt all_ones asked, may, (refl, tt, (refl, tt, (refl, tt, refl)))),
        (Hunt all_ones asked, may, (refl, tt, (refl, tt, (refl, tt, (refl, tt, refl))))),
      ),
    ),
  ),
)
compared b reserved (h ∷ i ∷ j ∷ k ∷ l ∷ []) = (
  (Hunt all_ones asked, may, refl),
  (
    (Hunt all_ones asked, may, (refl, tt, refl)),
    (
      (Hunt all_ones asked, may, (refl, tt, (refl, tt, refl))),
      (
        (Hunt all_ones asked, may, (refl, tt, (refl, tt, (refl, tt, refl)))),
        (
          (Hunt all_ones asked, may, (refl, tt, (refl, tt, (refl, tt, (refl, tt, refl))))),
          (Hunt all_ones asked, may, (refl, tt, (refl, tt, (refl, tt, (refl, tt, (refl, tt, refl)))))),
        ),
      ),
    ),
  ),
)
compared b reserved (h ∷ i ∷ j ∷ k ∷ l ∷ m ∷ more) = (
  (Hunt all_ones asked, may, refl),
  (
    (Hunt all_ones asked, may, (refl, tt, refl)),
    (
      (Hunt all_ones asked, may, (refl, tt, (refl, tt, refl))),
      (
        (Hunt all_ones asked, may, (refl, tt, (refl, tt, (refl, tt, refl)))),
        (
          (Hunt all_ones asked, may, (refl, tt, (refl, tt, (refl, tt, (refl, tt, refl))))),
          ((Hunt all_ones asked, may, (refl, tt, (refl, tt, (refl, tt, (refl, tt, (refl, tt, refl)))))), tt),
        ),
      ),
    ),
  ),
)
