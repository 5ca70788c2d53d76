use Rattle.std.proofs.Common.{ℕ, ◌<◌, ◌≤◌, ◌+◌, arith, List, [], ◌∷◌, Option, Some, None, Result, Ok, Err, false, sym, ap, subst, inl, inr, length}
use Rattle.std.{proofs.lemmas.Bool.false≢true, specs.declared.alloc.Global.Global, specs.declared.string.String.String}
use Rattle.dali_script.specs.{Records.Kept, declared.block.Block.Block, declared.records.Record.Record}
use Rattle.dali_script.specs.declared.{orders.Input.Input, orders.Input.TheVariants.Survey}
use Rattle.dali_commissioning.specs.{Drivers.Talk, Drivers.talk_of, Rules.AsksByRules, Rules.PutsByRules, Runs.Run, Runs.AreRuns, Runs.EndWith}
use Rattle.dali_commissioning.specs.declared.{census.Reply.Reply, conducting.Ended.Ended, driver.DriverLink.DriverLink}
use Rattle.dali_commissioning.specs.declared.census.Reply.TheVariants as heard
use Rattle.dali_commissioning.proofs.{Questions.asks_both, Questions.asks_none, Questions.answered, Puttings.beside, Rules.runs_keep_rules, Ruled.runs_put}
use Rattle.dali_commissioning.proofs.Ruled.{puts_read, puts_ask, ask_puts, runs_leave}
use Rattle.dali_commissioning.specs.Looking.{HoldsAll, keep_of}
use Rattle.dali_reserve.specs.Store.{HasRecords}
use Rattle.dali_replacement.specs.Swapping.{names_of}
use Rattle.dali_replacement.specs.declared.come.Come.{Come, TheVariants.Nowhere, TheVariants.Reserved, TheVariants.Given}
use Rattle.dali_replacement.specs.{Standing.IsHeard, Standing.AreHeard, Permit.HasLooked, Permit.alone}
use Rattle.dali_commission_said.specs.declared.{failure.Failure.Failure, report.Session.Session, said.Said.Said}
use Rattle.dali_commission_tasks.specs.declared.tasks.Replacement.{Replacement}
use Rattle.dali_commission_stores.specs.{Calls.{Call, Look}, declared.records.Seen.Seen}
use Rattle.dali_commission_asked.proofs.Ruled.{at_last, ok_err}
use Rattle.dali_commission_replaced.specs.Asking.{HasAskedOthers, IsConfirmed, HasGivenSo, GivesFirst, HasReplacedSo, HasReplaced}
use Rattle.dali_commission_replaced.specs.Accepting.{HasAcceptedSo, HasAccepted}
use Rattle.dali_commission_replaced.specs.Ruled.{GivesByRules, ReplacesByRules}

-- WHAT A REPLACEMENT PUTS KEEPS THE RULES OF THE PAGE.

heard_one : (table : Kept) (a : ℕ) (r : Reply) (x y : Talk) → a < 64 → IsHeard table a r x y → AsksByRules x y
heard_one table a r x y short (inl (none, is, same)) = asks_none x y same
heard_one table a r x y short (inr (some, is)) = answered a r x y short is

pub all_heard : (table : Kept) (a : ℕ) (replies : List Reply) (x y : Talk) → a + length replies ≤ 64 → AreHeard table a replies x y
    → AsksByRules x y
all_heard table a [] x y few same = asks_none x y same
all_heard table a (r ∷ more) x y few (mid, first, rest) =
    asks_both x mid y (heard_one table a r x mid (omega (arith, few)) first) (all_heard table (a + 1) more mid y (omega (arith, few)) rest)

pub others_asked : (a : ℕ) (come : Come) (table : Kept) (gone : List ℕ) (x y : Talk) → a < 64 → HasAskedOthers a come table gone x y → AsksByRules x y
others_asked a come table gone x y short (reply, at, replies, is, may, all, are, there) =
    asks_both x at y (answered a reply x at short is) (all_heard table 0 replies at y (omega (arith, all)) are)

confirmed : {F : Type 0} (saw : F → Look → Type 0) (told : Said → Type 0) (a : ℕ) (gone : List ℕ) (stores : F) (names : List (String Global))
    (random : ℕ) (x y : Talk) → a < 64 → IsConfirmed saw told a gone stores names random x y → AsksByRules x y
confirmed saw told a gone stores names random x y short (tables, read, (table, given, at, gathered, others, is), says) =
    asks_both x at y (others_asked a (Given given) table gone x at short others) (answered a (heard.Random random) at y short is)

module _ {K : Type 0} (is_up is_sound : K → Type 0) (holds : K → List Record → Type 0) where
  pub runs_so : (block : Block) (first : Input) (was keep : K) (x y : Talk) (ended : Ended) (runs : List Run)
      → AreRuns is_up is_sound holds block first was keep x y runs → EndWith ended runs → PutsByRules is_up is_sound holds block was keep x y
  runs_so block first was keep x y ended [] are never = absurd never
  runs_so block first was keep x y ended (run ∷ before) are ends =
      runs_put is_up is_sound holds block first was keep x y (runs_keep_rules is_up is_sound holds block first was keep x y run before are)

  pub given_so : (kept_of : K → Kept) (block : Block) (told : Said → Type 0) (a : ℕ) (table : Kept) (keep : K) (x y : Talk)
      (r : Result (Unit {0}) Failure) → (it : HasGivenSo is_up is_sound holds kept_of block told a table keep x y r)
      → PutsByRules is_up is_sound holds (alone a) it.gave.filled keep x y
  given_so kept_of block told a table keep x y r it =
      subst (λ b. PutsByRules is_up is_sound holds b it.gave.filled keep x y) it.gave.of
      (puts_read is_up is_sound holds block it.of it.after it.gave.filled it.mid keep x y
      (puts_ask is_up is_sound holds block it.gave.filled it.mid x it.at y
      (runs_so block Survey it.gave.filled it.mid x it.at it.pass.ended it.gave.runs it.gave.ran it.gave.ended)
      (at_last it.pass it.after.enrolled it.last it.at y it.asked)) it.reads)

  pub gives : (a : ℕ) (table : Kept) (come : Come) (was keep : K) (x mid y : Talk) → HasLooked a table come x mid
      → PutsByRules is_up is_sound holds (alone a) was keep mid y → GivesByRules is_up is_sound holds a x y
  gives a table Nowhere was keep x mid y (random, (k, has, of, (reason, at, (mem, kept, same, wanted, leaves), left))) puts =
      inr (
        was,
        keep,
        inr (
          at,
          table,
          (
            k,
            mem,
            kept,
            reason,
            has,
            of,
            same,
            runs_leave (λ s. Unit {0}) (λ s. HasRecords (keep_of s)) HoldsAll (keep_of mem).block Survey reason mem kept x at leaves,
          ),
          ask_puts is_up is_sound holds (alone a) was keep at mid y (beside random false at mid left) puts,
        ),
      )
  gives a table (Reserved r) was keep x mid y same puts =
      inr (was, keep, inl (ask_puts is_up is_sound holds (alone a) was keep x mid y (asks_none x mid same) puts))
  gives a table (Given r) was keep x mid y same puts =
      inr (was, keep, inl (ask_puts is_up is_sound holds (alone a) was keep x mid y (asks_none x mid same) puts))

  pub gives_between : (a : ℕ) (x before after y : Talk) → AsksByRules x before → GivesByRules is_up is_sound holds a before after → AsksByRules after y
      → ReplacesByRules is_up is_sound holds a x y
  gives_between a x before after y first (inl asks) last = inl (asks_both x before y first (asks_both before after y asks last))
  gives_between a x before after y first (inr (was, keep, inl puts)) last =
      inr (
        was,
        keep,
        inl (ask_puts is_up is_sound holds (alone a) was keep x before y first
            (puts_ask is_up is_sound holds (alone a) was keep before after y puts last)),
      )
  gives_between a x before after y first (inr (was, keep, inr (at, table, looks, puts))) last =
      inr (was, keep, inr (before, at, table, first, looks, puts_ask is_up is_sound holds (alone a) was keep at after y puts last))

pub given_first : {F K R W : Type 0} (is_up is_sound : K → Type 0) (holds : K → List Record → Type 0) (kept_of : K → Kept) (block_of : K → Block)
    (made : F → F → Call → Type 0) (saw : F → Look → Type 0) (opens : F → Seen → K → Type 0) (remaining : R → Option (List ℕ))
    (contents : W → Option (List ℕ)) (told : Said → Type 0) (a : ℕ) (come : Come) (table : Kept) (name : List ℕ) (stores given : F) (x y : DriverLink R W)
    → GivesFirst is_up is_sound holds kept_of block_of made saw opens remaining contents told a come table name stores given x y
    → GivesByRules is_up is_sound holds a (talk_of remaining contents x) (talk_of remaining contents y)
given_first is_up is_sound holds kept_of block_of made saw opens remaining contents told a come table name stores given x y (inl (is, as_was, same)) =
    inl (asks_none _ _ (ap (λ d. talk_of remaining contents d) same))
given_first is_up is_sound holds kept_of block_of made saw opens remaining contents told a come table name stores given x y
    (inr (none, calls, (mid, looked, inl (err, same)))) = absurd (false≢true err)
given_first is_up is_sound holds kept_of block_of made saw opens remaining contents told a come table name stores given x y
    (inr (none, calls, (mid, looked, inr (from, to, Err failure, open_so, came, well)))) = absurd (ok_err failure (sym well))
given_first is_up is_sound holds kept_of block_of made saw opens remaining contents told a come table name stores given x y
    (inr (none, calls, (mid, looked, inr (from, to, Ok done, open_so, came, well)))) =
    gives is_up is_sound holds a table come came.gave.filled to (talk_of remaining contents x) (talk_of remaining contents mid)
    (talk_of remaining contents y) looked
    (given_so is_up is_sound holds kept_of (block_of from) told a table to (talk_of remaining contents mid) (talk_of remaining contents y) (Ok done) came)

pub replaced_so : {F K R W : Type 0} (is_up is_sound : K → Type 0) (holds : K → List Record → Type 0) (kept_of : K → Kept) (block_of : K → Block)
    (made : F → F → Call → Type 0) (saw : F → Look → Type 0) (opens : F → Seen → K → Type 0) (remaining : R → Option (List ℕ))
    (contents : W → Option (List ℕ)) (told : Said → Type 0) (wanted : Replacement) (names : List (String Global)) (all news : List Kept) (random : ℕ)
    (was at : F) (x y : DriverLink R W) → wanted.short < 64
    → HasReplacedSo is_up is_sound holds kept_of block_of made saw opens remaining contents told wanted names all news random was at x y
    → ReplacesByRules is_up is_sound holds wanted.short (talk_of remaining contents x) (talk_of remaining contents y)
replaced_so is_up is_sound holds kept_of block_of made saw opens remaining contents told wanted names all news random was at x y short it =
    gives_between is_up is_sound holds wanted.short (talk_of remaining contents x) (talk_of remaining contents it.before)
    (talk_of remaining contents it.after) (talk_of remaining contents y)
    (others_asked wanted.short it.plan.come it.plan.table wanted.missing.items (talk_of remaining contents x) (talk_of remaining contents it.before) short
    it.others)
    (given_first is_up is_sound holds kept_of block_of made saw opens remaining contents told wanted.short it.plan.come it.plan.table it.name it.plan.stores
    it.given it.before it.after it.gave)
    (answered wanted.short (heard.Random random) (talk_of remaining contents it.after) (talk_of remaining contents y) short it.last)

pub replaced : {F K R W : Type 0} (is_up is_sound : K → Type 0) (holds : K → List Record → Type 0) (kept_of : K → Kept) (block_of : K → Block)
    (made : F → F → Call → Type 0) (saw : F → Look → Type 0) (opens : F → Seen → K → Type 0) (remaining : R → Option (List ℕ))
    (contents : W → Option (List ℕ)) (told : Said → Type 0) (wanted : Replacement) (records : List (String Global)) (random : ℕ) (was now : F)
    (x y : Session R W) → wanted.short < 64
    → HasReplaced is_up is_sound holds kept_of block_of made saw opens remaining contents told wanted records random was now x y
    → ReplacesByRules is_up is_sound holds wanted.short (talk_of remaining contents x.driver) (talk_of remaining contents y.driver)
replaced is_up is_sound holds kept_of block_of made saw opens remaining contents told wanted records random was now x y short
    (names, at, Some swap, lies, apart, settled, (same, is, notes)) =
    inl (confirmed saw told wanted.short wanted.missing.items at (names_of swap) random (talk_of remaining contents x.driver)
    (talk_of remaining contents y.driver)
    short is)
replaced is_up is_sound holds kept_of block_of made saw opens remaining contents told wanted records random was now x y short
    (names, at, None, lies, apart, settled, anew) =
    replaced_so is_up is_sound holds kept_of block_of made saw opens remaining contents told wanted names anew.all anew.news random at anew.at x.driver
    y.driver short anew.replaced

-- WHAT `replace --accept` PUTS KEEPS THEM: questions alone.
pub accepted : {F K R W : Type 0} (kept_of : K → Kept) (block_of : K → Block) (made : F → F → Call → Type 0) (saw : F → Look → Type 0)
    (opens : F → Seen → K → Type 0) (remaining : R → Option (List ℕ)) (contents : W → Option (List ℕ)) (told : Said → Type 0) (wanted : Replacement)
    (records : List (String Global)) (random : ℕ) (was now : F) (x y : Session R W) → wanted.short < 64
    → HasAccepted kept_of block_of made saw opens remaining contents told wanted records random was now x y
    → AsksByRules (talk_of remaining contents x.driver) (talk_of remaining contents y.driver)
accepted kept_of block_of made saw opens remaining contents told wanted records random was now x y short
    (names, at, Some swap, lies, apart, settled, (same, is, notes)) =
    confirmed saw told wanted.short wanted.missing.items at (names_of swap) random (talk_of remaining contents x.driver)
    (talk_of remaining contents y.driver) short is
accepted kept_of block_of made saw opens remaining contents told wanted records random was now x y short
    (names, at, None, lies, apart, settled, anew) =
    let it : HasAcceptedSo kept_of block_of made saw opens told wanted names anew.all anew.news random at anew.at (talk_of remaining contents x.driver)
    (talk_of remaining contents y.driver) = anew.accepted in
    asks_both (talk_of remaining contents x.driver) it.before (talk_of remaining contents y.driver)
    (asks_both (talk_of remaining contents x.driver) it.there.0 it.before
    (answered wanted.short (heard.Random it.given) (talk_of remaining contents x.driver) it.there.0 short it.there.1)
    (others_asked wanted.short (Given it.given) it.table wanted.missing.items it.there.0 it.before short it.there.2))
    (answered wanted.short (heard.Random random) it.before (talk_of remaining contents y.driver) short it.last)
