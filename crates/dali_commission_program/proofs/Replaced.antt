use Rattle.std.proofs.Common.{◌≡◌, ◌⊎◌, ℕ, ◌+◌, List, [], ◌∷◌, Option, Some, None, Result, Ok, Err, refl, sym, ap, inl, inr}
use Rattle.std.{proofs.lemmas.Bool.false≢true, specs.declared.alloc.Global.Global, specs.declared.string.String.String}
use Rattle.dali_script.specs.{Records.Kept, declared.block.Block.Block, declared.orders.Input.TheVariants.Survey, declared.records.Record.Record}
use Rattle.dali_commissioning.specs.{Drivers.Talk, Drivers.talk_of, declared.census.Reply.Reply}
use Rattle.dali_commissioning.specs.declared.census.Reply.TheVariants as heard
use Rattle.dali_commissioning.specs.declared.driver.DriverLink.{DriverLink}
use Rattle.dali_replacement.specs.declared.come.Come.{Come, TheVariants.Nowhere, TheVariants.Reserved, TheVariants.Given}
use Rattle.dali_replacement.specs.{Standing.{IsHeard, AreHeard}, Swapping.names_of}
use Rattle.dali_commission_said.specs.declared.{failure.Failure.Failure, report.Session.Session, said.Said.Said}
use Rattle.dali_commission_tasks.specs.declared.tasks.Replacement.{Replacement}
use Rattle.dali_commission_stores.specs.{Calls.{Call, Look}, declared.records.Seen.Seen}
use Rattle.dali_commission_replaced.specs.Asking.{HasAskedOthers, IsConfirmed, HasGivenSo, GivesFirst, HasReplacedSo, HasReplaced}
use Rattle.dali_commission_replaced.specs.Accepting.{HasAcceptedSo, HasAccepted}
use Rattle.dali_commission_program.specs.Nothing.{IsNothingPut, HasLookedIn}
use Rattle.dali_commission_program.proofs.Growing.{Grows, IsMore, stays, joined, more_then, grown, more_is_not_nothing}
use Rattle.dali_commission_program.proofs.{Asking.answered_more, Ending.ok_err, Ending.at_last, Mended.runs_put}

heard_one : (table : Kept) (a : ℕ) (r : Reply) (x y : Talk) → IsHeard table a r x y → Grows x y
heard_one table a r x y (inl (none, is, same)) = stays x y same
heard_one table a r x y (inr (some, answered)) = grown (answered_more a r x y answered)

pub all_heard : (table : Kept) (a : ℕ) (replies : List Reply) (x y : Talk) → AreHeard table a replies x y → Grows x y
all_heard table a [] x y same = stays x y same
all_heard table a (r ∷ more) x y (mid, first, rest) = joined (heard_one table a r x mid first) (all_heard table (a + 1) more mid y rest)

others_more : (a : ℕ) (come : Come) (table : Kept) (gone : List ℕ) (x y : Talk) → HasAskedOthers a come table gone x y → IsMore x y
others_more a come table gone x y (reply, at, replies, answered, may, all, are, there) =
    more_then (answered_more a reply x at answered) (all_heard table 0 replies at y are)

confirmed_more : {F : Type 0} (saw : F → Look → Type 0) (told : Said → Type 0) (a : ℕ) (gone : List ℕ) (stores : F) (names : List (String Global))
    (random : ℕ) (x y : Talk) → IsConfirmed saw told a gone stores names random x y → IsMore x y
confirmed_more saw told a gone stores names random x y (tables, read, (table, given, at, gathered, others, answered), says) =
    more_then (others_more a (Given given) table gone x at others) (grown (answered_more a (heard.Random random) at y answered))

given_so : {S : Type 0} (is_up is_sound : S → Type 0) (holds : S → List Record → Type 0) (kept_of : S → Kept) (block : Block) (told : Said → Type 0)
    (a : ℕ) (table : Kept) (keep : S) (x y : Talk) (r : Result (Unit {0}) Failure)
    → HasGivenSo is_up is_sound holds kept_of block told a table keep x y r → Grows x y
given_so is_up is_sound holds kept_of block told a table keep x y r it =
    joined (runs_put is_up is_sound holds block Survey it.gave.filled it.mid x it.at it.gave.runs it.gave.ran)
    (at_last it.pass it.after.enrolled it.last it.at y it.asked)

-- the address is given, once a gear was looked for, or without that
given_first : {F K R W : Type 0} (is_up is_sound : K → Type 0) (holds : K → List Record → Type 0) (kept_of : K → Kept) (block_of : K → Block)
    (made : F → F → Call → Type 0) (saw : F → Look → Type 0) (opens : F → Seen → K → Type 0) (remaining : R → Option (List ℕ))
    (contents : W → Option (List ℕ)) (told : Said → Type 0) (a : ℕ) (come : Come) (table : Kept) (name : List ℕ) (stores given : F) (x y : DriverLink R W)
    → GivesFirst is_up is_sound holds kept_of block_of made saw opens remaining contents told a come table name stores given x y
    → (come ≡ Nowhere) ⊎ Grows (talk_of remaining contents x) (talk_of remaining contents y)
given_first is_up is_sound holds kept_of block_of made saw opens remaining contents told a come table name stores given x y (inl (is, as_was, same)) =
    inr (stays _ _ (ap (λ d. talk_of remaining contents d) same))
given_first is_up is_sound holds kept_of block_of made saw opens remaining contents told a come table name stores given x y
    (inr (none, calls, (mid, looked, inl (err, same)))) = absurd (false≢true err)
given_first is_up is_sound holds kept_of block_of made saw opens remaining contents told a come table name stores given x y
    (inr (none, calls, (mid, looked, inr (from, to, Err failure, open_so, came, well)))) = absurd (ok_err failure (sym well))
given_first is_up is_sound holds kept_of block_of made saw opens remaining contents told a Nowhere table name stores given x y
    (inr (none, calls, (mid, looked, inr (from, to, Ok done, open_so, came, well)))) = inl refl
given_first is_up is_sound holds kept_of block_of made saw opens remaining contents told a (Reserved r) table name stores given x y
    (inr (none, calls, (mid, looked, inr (from, to, Ok done, open_so, came, well)))) =
    inr (joined (stays (talk_of remaining contents x) (talk_of remaining contents mid) looked)
    (given_so is_up is_sound holds kept_of (block_of from) told a table to (talk_of remaining contents mid) (talk_of remaining contents y) (Ok done) came))
given_first is_up is_sound holds kept_of block_of made saw opens remaining contents told a (Given r) table name stores given x y
    (inr (none, calls, (mid, looked, inr (from, to, Ok done, open_so, came, well)))) = absurd (false≢true (sym none))

looked_or_more : (come : Come) (x before after y : Talk) → IsMore x before → (come ≡ Nowhere) ⊎ Grows before after → IsMore after y
    → (come ≡ Nowhere) ⊎ IsMore x y
looked_or_more come x before after y first (inl is) last = inl is
looked_or_more come x before after y first (inr given) last = inr (more_then (more_then first given) (grown last))

nothing_looked : (come : Come) (x y : Talk) → IsNothingPut x y → (come ≡ Nowhere) ⊎ IsMore x y → come ≡ Nowhere
nothing_looked come x y nothing (inl is) = is
nothing_looked come x y nothing (inr more) = absurd (more_is_not_nothing x y more nothing)

pub replaced : {F K R W : Type 0} (is_up is_sound : K → Type 0) (holds : K → List Record → Type 0) (kept_of : K → Kept) (block_of : K → Block)
    (made : F → F → Call → Type 0) (saw : F → Look → Type 0) (opens : F → Seen → K → Type 0) (remaining : R → Option (List ℕ))
    (contents : W → Option (List ℕ)) (told : Said → Type 0) (wanted : Replacement) (records : List (String Global)) (random : ℕ) (was now : F)
    (x y : Session R W)
    → HasReplaced is_up is_sound holds kept_of block_of made saw opens remaining contents told wanted records random was now x y
    → IsNothingPut (talk_of remaining contents x.driver) (talk_of remaining contents y.driver)
    → HasLookedIn is_up is_sound holds kept_of block_of made saw opens remaining contents told wanted random x.driver y.driver
replaced is_up is_sound holds kept_of block_of made saw opens remaining contents told wanted records random was now x y
    (names, at, Some swap, lies, apart, settled, (same, is, notes)) nothing =
    absurd (more_is_not_nothing _ _ (confirmed_more saw told wanted.short wanted.missing.items at (names_of swap) random
    (talk_of remaining contents x.driver) (talk_of remaining contents y.driver) is) nothing)
replaced is_up is_sound holds kept_of block_of made saw opens remaining contents told wanted records random was now x y
    (names, at, None, lies, apart, settled, anew) nothing =
    let it : HasReplacedSo is_up is_sound holds kept_of block_of made saw opens remaining contents told wanted names anew.all anew.news random at anew.at
    x.driver y.driver = anew.replaced in (
      names,
      anew.all,
      anew.news,
      at,
      anew.at,
      it,
      nothing_looked it.plan.come (talk_of remaining contents x.driver) (talk_of remaining contents y.driver) nothing
          (looked_or_more it.plan.come _ (talk_of remaining contents it.before) (talk_of remaining contents it.after) _
          (others_more wanted.short it.plan.come it.plan.table wanted.missing.items _ _ it.others)
          (given_first is_up is_sound holds kept_of block_of made saw opens remaining contents told wanted.short it.plan.come it.plan.table it.name
          it.plan.stores it.given it.before it.after it.gave)
          (answered_more wanted.short (heard.Random random) _ _ it.last)),
    )

-- a luminaire was accepted
pub accepted : {F K R W : Type 0} (kept_of : K → Kept) (block_of : K → Block) (made : F → F → Call → Type 0) (saw : F → Look → Type 0)
    (opens : F → Seen → K → Type 0) (remaining : R → Option (List ℕ)) (contents : W → Option (List ℕ)) (told : Said → Type 0) (wanted : Replacement)
    (records : List (String Global)) (random : ℕ) (was now : F) (x y : Session R W)
    → HasAccepted kept_of block_of made saw opens remaining contents told wanted records random was now x y
    → IsMore (talk_of remaining contents x.driver) (talk_of remaining contents y.driver)
accepted kept_of block_of made saw opens remaining contents told wanted records random was now x y
    (names, at, Some swap, lies, apart, settled, (same, is, notes)) =
    confirmed_more saw told wanted.short wanted.missing.items at (names_of swap) random (talk_of remaining contents x.driver)
    (talk_of remaining contents y.driver) is
accepted kept_of block_of made saw opens remaining contents told wanted records random was now x y
    (names, at, None, lies, apart, settled, anew) =
    let it : HasAcceptedSo kept_of block_of made saw opens told wanted names anew.all anew.news random at anew.at (talk_of remaining contents x.driver)
    (talk_of remaining contents y.driver) = anew.accepted in
    more_then (more_then (answered_more wanted.short (heard.Random it.given) (talk_of remaining contents x.driver) it.there.0 it.there.1)
    (grown (others_more wanted.short (Given it.given) it.table wanted.missing.items it.there.0 it.before it.there.2)))
    (grown (answered_more wanted.short (heard.Random random) it.before (talk_of remaining contents y.driver) it.last))
