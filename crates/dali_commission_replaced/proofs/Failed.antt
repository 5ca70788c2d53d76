use Rattle.std.proofs.Common.{◌≡◌, ◌⊎◌, ℕ, ◌<◌, arith, List, Option, Some, None, Bool, true, false, Ok, Err, refl, sym, ap, subst, inl}
use Rattle.std.proofs.Common.{inr}
use Rattle.std.specs.declared.{alloc.Global.Global, string.String.String}
use Rattle.dali_script.specs.{Records.Kept, declared.block.Block.Block, declared.records.Record.Record}
use Rattle.dali_script.specs.declared.orders.Input.TheVariants.{Survey}
use Rattle.dali_reserve.specs.Store.{HasRecords}
use Rattle.dali_commissioning.specs.{Drivers.{Talk, talk_of, IsCut, has_heard}, Rules.AsksByRules, Rules.PutsByRules, Rules.LeavesByRules}
use Rattle.dali_commissioning.specs.declared.{conducting.Ended.Ended, driver.DriverLink.DriverLink}
use Rattle.dali_commissioning.specs.declared.fault.CommissionFault.{CommissionFault}
use Rattle.dali_commissioning.specs.declared.newcomers.Newcomers.TheVariants as new
use Rattle.dali_commissioning.specs.declared.fault.CommissionFault.TheVariants as fault
use Rattle.dali_commissioning.specs.declared.census.Reply.TheVariants as heard
use Rattle.dali_commissioning.specs.Looking.{HoldsAll, keep_of, IsSurveyed, IsSurveyLeft, HasNotLooked}
use Rattle.dali_commissioning.proofs.{Questions.asks_both, Questions.asks_none, Questions.answered, Puttings.beside, Ruled.{ask_leaves, runs_leave}}
use Rattle.dali_replacement.specs.declared.come.Come.{Come, TheVariants.Nowhere, TheVariants.Reserved, TheVariants.Given}
use Rattle.dali_replacement.specs.declared.refusal.ReplaceFault.{ReplaceFault, TheVariants.Refused, TheVariants.Commission}
use Rattle.dali_replacement.specs.{Permit.{alone, HasLooked, IsNotLooked, HasNotGiven, IsGivingLeft}, Swapping.names_of, Tables.Keeps}
use Rattle.dali_replacement.specs.declared.swapping.Swap.{Swap}
use Rattle.dali_commission_said.specs.declared.{failure.Failure.Failure, report.Report.Report, report.Session.Session, said.Said.Said}
use Rattle.dali_commission_tasks.specs.declared.tasks.Replacement.{Replacement}
use Rattle.dali_commission_stores.specs.{Calls.{Call, Look}, declared.records.Seen.Seen}
use Rattle.dali_commission_replaced.specs.Cut.{HasNotAskedOthers, IsGivingCut, IsNotInFirst, IsNotHeardOf}
use Rattle.dali_commission_replaced.specs.Asking.{HasAskedOthers, IsNotConfirmedBy, IsGivenIn, GivesCut, HasNotReplacedSo, FailsSo, FailsAfter, HasNotReplaced}
use Rattle.dali_commission_replaced.specs.Ruled.{LooksByRules, GivesByRules, BreaksOff, FailsByRules}
use Rattle.dali_commission_replaced.proofs.Ruled.{all_heard, others_asked, runs_so, given_so, gives, gives_between, given_first, replaced_so}

-- WHAT A REPLACEMENT THAT FAILED HAS PUT KEEPS THE RULES OF THE PAGE.

abbrev Cuts : Talk → Type 0
Cuts y = (reason : CommissionFault) × IsCut reason y

-- the new gear is not heard, or the first new table does not have it
last_missing : (a : ℕ) (news : List Kept) (failure : Failure) (x y : Talk) → a < 64 → IsNotHeardOf a news failure x y → Cuts y ⊎ AsksByRules x y
last_missing a news failure x y short (Commission reason, line, is, why) = inl (reason, why)
last_missing a news failure x y short (Refused w, line, is, inl (so, same)) = inr (asks_none x y same)
last_missing a news failure x y short (Refused w, line, is, inr (random, reply, given, is_heard, not, why)) = inr (answered a reply x y short is_heard)

first_missing : (a : ℕ) (failure : Failure) (x y : Talk) → a < 64 → IsNotInFirst a failure x y → Cuts y ⊎ AsksByRules x y
first_missing a failure x y short (Ok reply, line, is, so, why) = inr (answered a reply x y short is)
first_missing a failure x y short (Err reason, line, is, so, why) = inl (reason, why)

looks : (a : ℕ) (table k : Kept) (wanted : Option ℕ) (reason : CommissionFault) (x y : Talk) → Keeps table k → k.block ≡ alone a
    → IsSurveyLeft k wanted reason x y → LooksByRules a table x y
looks a table k wanted reason x y has of (mem, kept, same, wants, left) = (
  k,
  mem,
  kept,
  reason,
  has,
  of,
  same,
  runs_leave (λ s. Unit {0}) (λ s. HasRecords (keep_of s)) HoldsAll (keep_of mem).block Survey reason mem kept x y left,
)

module _ {K : Type 0} (is_up is_sound : K → Type 0) (holds : K → List Record → Type 0) where
  -- what follows questions
  late : (a : ℕ) (x before y : Talk) → AsksByRules x before → Cuts y ⊎ (AsksByRules before y ⊎ BreaksOff is_up is_sound holds a before y)
      → FailsByRules is_up is_sound holds a x y
  late a x before y first (inl cut) = inl cut
  late a x before y first (inr (inl asks)) = inr (inl (inl (asks_both x before y first asks)))
  late a x before y first (inr (inr off)) = inr (inr (before, first, off))

  between : (a : ℕ) (x before after y : Talk) → AsksByRules x before → GivesByRules is_up is_sound holds a before after
      → Cuts y ⊎ AsksByRules after y → FailsByRules is_up is_sound holds a x y
  between a x before after y first given (inl cut) = inl cut
  between a x before after y first given (inr last) = inr (inl (gives_between is_up is_sound holds a x before after y first given last))

  others_missing : (is_heard : Bool) (a : ℕ) (come : Come) (table : Kept) (gone : List ℕ) (failure : Failure) (before after : Report) (x y : Talk)
      → a < 64 → HasNotAskedOthers is_heard a come table gone failure before after x y → FailsByRules is_up is_sound holds a x y
  others_missing is_heard a come table gone failure before after x y short (inl (Commission reason, line, is, why, none)) = inl (reason, why)
  others_missing is_heard a come table gone failure before after x y short (inl (Refused w, line, is, (reply, answers, may, why), none)) =
      inr (inl (inl (answered a reply x y short answers)))
  others_missing is_heard a come table gone failure before after x y short (inr (reply, at, is, may, inl (line, (reason, why, so), none))) =
      inl (reason, why)
  others_missing is_heard a come table gone failure before after x y short (inr (reply, at, is, may, inr (replies, all, are, not, so))) =
      inr (inl (inl (asks_both x at y (answered a reply x at short is) (all_heard table 0 replies at y (omega (arith, all)) are))))

  -- it was looked for gear without short address
  looked : (a : ℕ) (table : Kept) (come : Come) (x y : Talk) → HasLooked a table come x y → AsksByRules x y ⊎ BreaksOff is_up is_sound holds a x y
  looked a table Nowhere x y (random, (k, has, of, (reason, at, left, then))) =
      inr (inr (inl (table, at, looks a table k (Some random) reason x at has of left, inl (beside random false at y then))))
  looked a table (Reserved r) x y same = inl (asks_none x y same)
  looked a table (Given r) x y same = inl (asks_none x y same)

  to_end : (a : ℕ) (table k : Kept) (ended : Ended) (x y : Talk) → Keeps table k → k.block ≡ alone a → IsSurveyed k ended x y
      → BreaksOff is_up is_sound holds a x y
  to_end a table k ended x y has of (was, keep, runs, same, are, ends) = inl (
    table,
    (
      k,
      was,
      keep,
      has,
      of,
      same,
      runs_so (λ s. Unit {0}) (λ s. HasRecords (keep_of s)) HoldsAll (keep_of was).block Survey was keep x y ended runs are ends,
    ),
  )

  not_learned : (a : ℕ) (table k : Kept) (reason : CommissionFault) (x y : Talk) → Keeps table k → k.block ≡ alone a → HasNotLooked k reason x y
      → Cuts y ⊎ (AsksByRules x y ⊎ BreaksOff is_up is_sound holds a x y)
  not_learned a table k (fault.Driver f) x y has of why = inl (fault.Driver f, why)
  not_learned a table k fault.QuestionLost x y has of (r, (reason, at, left, lost)) =
      inr (inr (inr (inl (table, at, looks a table k (Some r) reason x at has of left, inr (r, lost)))))
  not_learned a table k (fault.Store e) x y has of left =
      inr (inr (inr (inl (table, y, looks a table k None (fault.Store e) x y has of left, inl (asks_none y y refl)))))
  not_learned a table k fault.StepsSpent x y has of left =
      inr (inr (inr (inl (table, y, looks a table k None fault.StepsSpent x y has of left, inl (asks_none y y refl)))))
  not_learned a table k fault.RunsSpent x y has of left =
      inr (inr (inr (inl (table, y, looks a table k None fault.RunsSpent x y has of left, inl (asks_none y y refl)))))

  not_looked : (a : ℕ) (table : Kept) (come : Come) (why : ReplaceFault) (x y : Talk) → IsNotLooked a table come why x y
      → Cuts y ⊎ (AsksByRules x y ⊎ BreaksOff is_up is_sound holds a x y)
  not_looked a table Nowhere (Commission reason) x y (inl (k, has, of, not)) = not_learned a table k reason x y has of not
  not_looked a table Nowhere (Commission reason) x y (inr (e, is, same)) = inr (inl (asks_none x y same))
  not_looked a table Nowhere (Refused w) x y (new.Nobody, (k, has, of, is), why) = inr (inr (to_end a table k _ x y has of is))
  not_looked a table Nowhere (Refused w) x y (new.Unclear ended, (k, has, of, is), why) = inr (inr (to_end a table k ended x y has of is))
  not_looked a table Nowhere (Refused w) x y (new.One r, (k, has, of, (reason, at, left, then)), why) =
      inr (inr (inr (inl (table, at, looks a table k (Some r) reason x at has of left, inl (beside r false at y then)))))
  not_looked a table Nowhere (Refused w) x y (new.Several, (k, has, of, (r, (reason, at, left, then))), why) =
      inr (inr (inr (inl (table, at, looks a table k (Some r) reason x at has of left, inl (beside r true at y then)))))
  not_looked a table (Reserved r) why x y never = absurd never
  not_looked a table (Given r) why x y never = absurd never

  -- the surveys of the one short address were left
  left_after : (a : ℕ) (table : Kept) (come : Come) (reason : CommissionFault) (was keep : K) (x mid y : Talk) → HasLooked a table come x mid
      → LeavesByRules is_up is_sound holds (alone a) reason was keep mid y → BreaksOff is_up is_sound holds a x y
  left_after a table Nowhere reason was keep x mid y (random, (k, has, of, (why, at, left, then))) it =
      inr (inr (
        was,
        keep,
        reason,
        inr (
          table,
          at,
          looks a table k (Some random) why x at has of left,
          ask_leaves is_up is_sound holds (alone a) reason was keep at mid y (beside random false at mid then) it,
        ),
      ))
  left_after a table (Reserved r) reason was keep x mid y same it =
      inr (inr (was, keep, reason, inl (ask_leaves is_up is_sound holds (alone a) reason was keep x mid y (asks_none x mid same) it)))
  left_after a table (Given r) reason was keep x mid y same it =
      inr (inr (was, keep, reason, inl (ask_leaves is_up is_sound holds (alone a) reason was keep x mid y (asks_none x mid same) it)))

  giving_left : (kept_of : K → Kept) (block : Block) (a : ℕ) (table : Kept) (come : Come) (reason : CommissionFault) (keep : K) (x mid y : Talk)
      → HasLooked a table come x mid → IsGivingLeft is_up is_sound holds kept_of block a table reason keep mid y
      → Cuts y ⊎ (AsksByRules x y ⊎ BreaksOff is_up is_sound holds a x y)
  giving_left kept_of block a table come reason keep x mid y was (filled, of, has, left) =
      inr (inr (left_after a table come reason filled keep x mid y was
      (subst (λ b. LeavesByRules is_up is_sound holds b reason filled keep mid y) of
      (runs_leave is_up is_sound holds block Survey reason filled keep mid y left))))

  not_given : (kept_of : K → Kept) (block : Block) (a : ℕ) (table : Kept) (come : Come) (reason : CommissionFault) (keep : K) (x mid y : Talk)
      → HasLooked a table come x mid → HasNotGiven is_up is_sound holds kept_of block a table reason keep mid y
      → Cuts y ⊎ (AsksByRules x y ⊎ BreaksOff is_up is_sound holds a x y)
  not_given kept_of block a table come (fault.Driver f) keep x mid y was why = inl (fault.Driver f, why)
  not_given kept_of block a table come fault.QuestionLost keep x mid y was never = absurd never
  not_given kept_of block a table come (fault.Store e) keep x mid y was (inl same) =
      inr (looked a table come x y (subst (λ t. HasLooked a table come x t) (sym same) was))
  not_given kept_of block a table come (fault.Store e) keep x mid y was (inr left) = giving_left kept_of block a table come _ keep x mid y was left
  not_given kept_of block a table come fault.StepsSpent keep x mid y was left = giving_left kept_of block a table come _ keep x mid y was left
  not_given kept_of block a table come fault.RunsSpent keep x mid y was left = giving_left kept_of block a table come _ keep x mid y was left

  giving_cut : (kept_of : K → Kept) (block : Block) (a : ℕ) (table : Kept) (come : Come) (failure : Failure) (keep : K) (x before mid y : Talk)
      → AsksByRules x before → HasLooked a table come before mid → IsGivingCut is_up is_sound holds kept_of block a table failure keep mid y
      → FailsByRules is_up is_sound holds a x y
  giving_cut kept_of block a table come failure keep x before mid y first was (inl (reason, line, is, not)) =
      late a x before y first (not_given kept_of block a table come reason keep before mid y was not)
  giving_cut kept_of block a table come failure keep x before mid y first was (inr (pass, now, at, gave, inr (line, (reason, why, so)))) =
      inl (reason, why)
  giving_cut kept_of block a table come failure keep x before mid y first was (inr (pass, now, at, gave, inl same)) =
      between a x before at y first
      (gives is_up is_sound holds a table come gave.filled now before mid at was
      (subst (λ b. PutsByRules is_up is_sound holds b gave.filled now mid at) gave.of
      (runs_so is_up is_sound holds block Survey gave.filled now mid at pass.ended gave.runs gave.ran gave.ended)))
      (inr (asks_none at y same))

module _ {F K R W : Type 0} (is_up is_sound : K → Type 0) (holds : K → List Record → Type 0) (kept_of : K → Kept) (block_of : K → Block)
    (saw : F → Look → Type 0) (opens : F → Seen → K → Type 0) (remaining : R → Option (List ℕ)) (contents : W → Option (List ℕ)) (told : Said → Type 0)
  where
    given_in : (a : ℕ) (come : Come) (table : Kept) (stores : F) (name : List ℕ) (failure : Failure) (x : Talk) (before y : DriverLink R W)
        → AsksByRules x (talk_of remaining contents before)
        → IsGivenIn is_up is_sound holds kept_of block_of saw opens remaining contents told a come table stores name before y (Err failure)
        → FailsByRules is_up is_sound holds a x (talk_of remaining contents y)
    given_in a come table stores name failure x before y first (mid, was, inl (err, same)) =
        late is_up is_sound holds a x (talk_of remaining contents before) (talk_of remaining contents y) first
        (inr (looked is_up is_sound holds a table come (talk_of remaining contents before) (talk_of remaining contents y)
        (subst (λ d. HasLooked a table come (talk_of remaining contents before) (talk_of remaining contents d)) (sym same) was)))
    given_in a come table stores name failure x before y first (mid, was, inr (from, to, Ok done, open_so, came, well)) =
        between is_up is_sound holds a x (talk_of remaining contents before) (talk_of remaining contents y) (talk_of remaining contents y) first
        (gives is_up is_sound holds a table come came.gave.filled to (talk_of remaining contents before) (talk_of remaining contents mid)
        (talk_of remaining contents y) was
        (given_so is_up is_sound holds kept_of (block_of from) told a table to (talk_of remaining contents mid) (talk_of remaining contents y) (Ok done)
        came)) (inr (asks_none _ _ refl))
    given_in a come table stores name failure x before y first (mid, was, inr (from, to, Err e, open_so, inl came, well)) =
        between is_up is_sound holds a x (talk_of remaining contents before) (talk_of remaining contents y) (talk_of remaining contents y) first
        (gives is_up is_sound holds a table come came.gave.filled to (talk_of remaining contents before) (talk_of remaining contents mid)
        (talk_of remaining contents y) was
        (given_so is_up is_sound holds kept_of (block_of from) told a table to (talk_of remaining contents mid) (talk_of remaining contents y) (Err e)
        came)) (inr (asks_none _ _ refl))
    given_in a come table stores name failure x before y first (mid, was, inr (from, to, Err e, open_so, inr cut, well)) =
        giving_cut is_up is_sound holds kept_of (block_of from) a table come e to x (talk_of remaining contents before) (talk_of remaining contents mid)
        (talk_of remaining contents y) first was cut

    gives_cut : (made : F → F → Call → Type 0) (a : ℕ) (come : Come) (table : Kept) (names : List (String Global)) (all : List Kept) (giver : ℕ)
        (stores : F) (failure : Failure) (x : Talk) (before y : DriverLink R W) → a < 64 → AsksByRules x (talk_of remaining contents before)
        → GivesCut is_up is_sound holds kept_of block_of made saw opens remaining contents told a come table names all giver stores failure before y
        → FailsByRules is_up is_sound holds a x (talk_of remaining contents y)
    gives_cut made a come table names all giver stores failure x before y short first (inl (inl same)) =
        late is_up is_sound holds a x (talk_of remaining contents before) (talk_of remaining contents y) first
        (inr (inl (asks_none _ _ (ap (λ d. talk_of remaining contents d) same))))
    gives_cut made a come table names all giver stores failure x before y short first (inl (inr (name, named, none, inl (why, line, is, not)))) =
        late is_up is_sound holds a x (talk_of remaining contents before) (talk_of remaining contents y) first
        (not_looked is_up is_sound holds a table come why (talk_of remaining contents before) (talk_of remaining contents y) not)
    gives_cut made a come table names all giver stores failure x before y short first (inl (inr (name, named, none, inr gives_in))) =
        given_in a come table stores name failure x before y first gives_in
    gives_cut made a come table names all giver stores failure x before y short first (inr (name, named, given, after, gave, new, read, inl (without, not))) =
        between is_up is_sound holds a x (talk_of remaining contents before) (talk_of remaining contents after) (talk_of remaining contents y) first
        (given_first is_up is_sound holds kept_of block_of made saw opens remaining contents told a come table name stores given before after gave)
        (first_missing a failure (talk_of remaining contents after) (talk_of remaining contents y) short not)
    gives_cut made a come table names all giver stores failure x before y short first
        (inr (name, named, given, after, gave, new, read, inr (has, inl same))) =
        between is_up is_sound holds a x (talk_of remaining contents before) (talk_of remaining contents after) (talk_of remaining contents y) first
        (given_first is_up is_sound holds kept_of block_of made saw opens remaining contents told a come table name stores given before after gave)
        (inr (asks_none _ _ same))
    gives_cut made a come table names all giver stores failure x before y short first
        (inr (name, named, given, after, gave, new, read, inr (has, inr (at, news, renewed, inl not)))) =
        between is_up is_sound holds a x (talk_of remaining contents before) (talk_of remaining contents after) (talk_of remaining contents y) first
        (given_first is_up is_sound holds kept_of block_of made saw opens remaining contents told a come table name stores given before after gave)
        (last_missing a news failure (talk_of remaining contents after) (talk_of remaining contents y) short not)
    gives_cut made a come table names all giver stores failure x before y short first
        (inr (name, named, given, after, gave, new, read, inr (has, inr (at, news, renewed, inr (random, are, is))))) =
        between is_up is_sound holds a x (talk_of remaining contents before) (talk_of remaining contents after) (talk_of remaining contents y) first
        (given_first is_up is_sound holds kept_of block_of made saw opens remaining contents told a come table name stores given before after gave)
        (inr (answered a (heard.Random random) _ _ short is))

module _ {F K R W : Type 0} (is_up is_sound : K → Type 0) (holds : K → List Record → Type 0) (kept_of : K → Kept) (block_of : K → Block)
    (made began : F → F → Call → Type 0) (saw : F → Look → Type 0) (opens : F → Seen → K → Type 0) (remaining : R → Option (List ℕ))
    (contents : W → Option (List ℕ)) (told : Said → Type 0) (wanted : Replacement) where
  not_so : (names : List (String Global)) (all : List Kept) (failure : Failure) (was : F) (before after : Report) (x y : DriverLink R W)
      → wanted.short < 64 → HasNotReplacedSo is_up is_sound holds kept_of block_of made saw opens remaining contents told wanted names all failure was
      before after x y → FailsByRules is_up is_sound holds wanted.short (talk_of remaining contents x) (talk_of remaining contents y)
  not_so names all failure was before after x y short it = go it.puts where
    go : HasNotAskedOthers (has_heard y) wanted.short it.plan.come it.plan.table wanted.missing.items failure before after
        (talk_of remaining contents x) (talk_of remaining contents y)
        ⊎ ((mid : DriverLink R W)
        × HasAskedOthers wanted.short it.plan.come it.plan.table wanted.missing.items (talk_of remaining contents x) (talk_of remaining contents mid)
        × GivesCut is_up is_sound holds kept_of block_of made saw opens remaining contents told wanted.short it.plan.come it.plan.table names all
        it.plan.giver it.plan.stores failure mid y
        × (after ≡ before)) → FailsByRules is_up is_sound holds wanted.short (talk_of remaining contents x) (talk_of remaining contents y)
    go (inl missing) =
        others_missing is_up is_sound holds (has_heard y) wanted.short it.plan.come it.plan.table wanted.missing.items failure before after
        (talk_of remaining contents x) (talk_of remaining contents y) short missing
    go (inr (mid, asked, cut, none)) =
        gives_cut is_up is_sound holds kept_of block_of saw opens remaining contents told made wanted.short it.plan.come it.plan.table names all
        it.plan.giver it.plan.stores failure (talk_of remaining contents x) mid y short
        (others_asked wanted.short it.plan.come it.plan.table wanted.missing.items (talk_of remaining contents x) (talk_of remaining contents mid) short
        asked) cut

  fails_so : (names : List (String Global)) (all : List Kept) (failure : Failure) (was : F) (x y : Session R W) → wanted.short < 64
      → FailsSo is_up is_sound holds kept_of block_of made saw opens remaining contents told wanted names all failure was x y
      → FailsByRules is_up is_sound holds wanted.short (talk_of remaining contents x.driver) (talk_of remaining contents y.driver)
  fails_so names all failure was x y short (inl (same, counts)) = inr (inl (inl (asks_none _ _ (ap (λ d. talk_of remaining contents d) same))))
  fails_so names all failure was x y short (inr (after, not, counts)) = not_so names all failure was x.report after x.driver y.driver short not

  not_confirmed : (names : List (String Global)) (failure : Failure) (was : F) (x y : Session R W) → wanted.short < 64
      → IsNotConfirmedBy saw remaining contents wanted.short wanted.missing.items was names failure x y
      → FailsByRules is_up is_sound holds wanted.short (talk_of remaining contents x.driver) (talk_of remaining contents y.driver)
  not_confirmed names failure was x y short (tables, failed, after, read, inl (same, none, why), is, counts) = inr (inl (inl (asks_none _ _ same)))
  not_confirmed names failure was x y short (tables, failed, after, read, inr (table, given, gathered, inl missing), is, counts) =
      others_missing is_up is_sound holds (has_heard y.driver) wanted.short (Given given) table wanted.missing.items failed x.report after
      (talk_of remaining contents x.driver) (talk_of remaining contents y.driver) short missing
  not_confirmed names failure was x y short (tables, failed, after, read, inr (table, given, gathered, inr (at, asked, not, none)), is, counts) =
      last_of (others_asked wanted.short (Given given) table wanted.missing.items (talk_of remaining contents x.driver) at short asked)
      (last_missing wanted.short tables failed at (talk_of remaining contents y.driver) short not) where
        last_of : AsksByRules (talk_of remaining contents x.driver) at
            → Cuts (talk_of remaining contents y.driver) ⊎ AsksByRules at (talk_of remaining contents y.driver)
            → FailsByRules is_up is_sound holds wanted.short (talk_of remaining contents x.driver) (talk_of remaining contents y.driver)
        last_of first (inl cut) = inl cut
        last_of first (inr last) = inr (inl (inl (asks_both (talk_of remaining contents x.driver) at (talk_of remaining contents y.driver) first last)))

  fails_after : (names : List (String Global)) (failure : Failure) (earlier : Option Swap) (was now : F) (x y : Session R W) → wanted.short < 64
      → FailsAfter is_up is_sound holds kept_of block_of made began saw opens remaining contents told wanted names failure earlier was now x y
      → FailsByRules is_up is_sound holds wanted.short (talk_of remaining contents x.driver) (talk_of remaining contents y.driver)
  fails_after names failure (Some swap) was now x y short (same, not) = not_confirmed (names_of swap) failure was x y short not
  fails_after names failure None was now x y short (all, read, bare, inl fails) = fails_so names all failure was x y short fails
  fails_after names failure None was now x y short (all, read, bare, inr (due, at, is, it, left, counts)) =
      inr (inl (replaced_so is_up is_sound holds kept_of block_of made saw opens remaining contents told wanted names all due.news.items _ was at
      x.driver y.driver short it))

  pub failed : (records : List (String Global)) (failure : Failure) (was now : F) (x y : Session R W) → wanted.short < 64
      → HasNotReplaced is_up is_sound holds kept_of block_of made began saw opens remaining contents told wanted records failure was now x y
      → FailsByRules is_up is_sound holds wanted.short (talk_of remaining contents x.driver) (talk_of remaining contents y.driver)
  failed records failure was now x y short (inl (same, stops)) =
      inr (inl (inl (asks_none _ _ (ap (λ (s : Session R W). talk_of remaining contents s.driver) same))))
  failed records failure was now x y short (inr (names, at, earlier, places, apart, finished, fails)) =
      fails_after names failure earlier at now x y short fails
