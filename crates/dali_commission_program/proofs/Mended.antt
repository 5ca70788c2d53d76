use Rattle.std.proofs.Common.{◌≡◌, ◌∙◌, ℕ, ◌+◌, ◌++◌, List, [], ◌∷◌, Bool, Option, Some, None, Result, Ok, Err, sym, ap, inl, inr}
use Rattle.std.specs.Prelude.{IfOk}
use Rattle.std.{proofs.lemmas.Bool.false≢true, specs.declared.alloc.Global.Global, specs.declared.string.String.String}
use Rattle.dali_script.specs.{Records.Kept, Records.Assignment, Records.without_records}
use Rattle.dali_script.specs.declared.{block.Block.Block, orders.Input.Input}
use Rattle.dali_script.specs.declared.{orders.Input.TheVariants.Start, orders.Input.TheVariants.Survey, records.Record.Record}
use Rattle.dali_commissioning.specs.{Drivers.Talk, Drivers.talk_of, Runs.Run, Runs.AreRuns, Steps.written_by, declared.census.Reply.Reply}
use Rattle.dali_commissioning.specs.declared.{beginning.Begun.Begun, conducting.PassEnd.PassEnd}
use Rattle.dali_commissioning.specs.declared.fault.CommissionFault.{CommissionFault}
use Rattle.dali_commissioning.specs.declared.beginning.Begun.TheVariants as begun
use Rattle.dali_commissioning.specs.declared.driver.DriverFault.TheVariants as driver
use Rattle.dali_commissioning.specs.declared.fault.CommissionFault.TheVariants as commission
use Rattle.dali_commission_said.specs.declared.failure.Failure.{Failure, TheVariants.{AddressedBefore, Shared}}
use Rattle.dali_commission_said.specs.{declared.report.Report.Report, declared.report.Session.Session, declared.said.Said.Said, Failures.failure_of}
use Rattle.dali_commission_tasks.specs.declared.tasks.{Mend.Mend, Setup.Setup, Start.Start as WayToStart}
use Rattle.dali_commission_tasks.specs.declared.tasks.Start.TheVariants as start
use Rattle.dali_commission_stores.specs.{Calls.Look, declared.records.Seen.Seen, Lent.IsLent}
use Rattle.dali_commission_asked.specs.Sharing.{meant_from}
use Rattle.dali_commission_mended.specs.Hanging.{AnswersUnder, HangsAt, IsLookedFor, AreLookedFor, sought_at}
use Rattle.dali_commission_mended.specs.Mends.{AreMended, Follows, MendsBeside, MendsFrom}
use Rattle.dali_commission_mended.specs.Runs.{HasBegun, ComesTo}
use Rattle.dali_commission_mended.specs.Tellings.{HasRun, HasRunOver, HasMended, IsMendBeside, IsMendOf}
use Rattle.dali_commission_program.proofs.Growing.{Grows, IsMore, stays, joined, more_then, then_more, grown, grows_by}
use Rattle.dali_commission_program.proofs.{Asking.counted, Asking.left_over_more, Clearing.frames}
use Rattle.dali_commission_program.proofs.Ending.{ok_err, err_ok, either, open_well, ended_there, at_last, at_last_more}

-- ---------------------------------------------------------------- runs of machines

pub runs_put : {S : Type 0} (is_up is_sound : S → Type 0) (holds : S → List Record → Type 0) (block : Block) (first : Input) (was keep : S)
    (x y : Talk) (runs : List Run) → AreRuns is_up is_sound holds block first was keep x y runs → Grows x y
runs_put is_up is_sound holds block first was keep x y [] (stores, same) = stays x y same
runs_put is_up is_sound holds block first was keep x y (run ∷ before) (mid, at, so_far, is) =
    joined (runs_put is_up is_sound holds block first was mid x at before so_far) (grows_by at y (written_by run.steps) is.conducted.wrote)

begun_so : {S : Type 0} (is_up is_sound : S → Type 0) (holds : S → List Record → Type 0) (block : Block) (others : List Block) (wanted : ℕ)
    (was keep : S) (x y : Talk) (by : WayToStart) (pass : PassEnd)
    → HasBegun is_up is_sound holds block others wanted was keep x y by (begun.Commissioned pass) → Grows x y
begun_so is_up is_sound holds block others wanted was keep x y start.Survey pass (runs, are, ended, come, quiet) =
    runs_put is_up is_sound holds block Survey was keep x y runs are
begun_so is_up is_sound holds block others wanted was keep x y start.Fresh pass
    (k, mid, at, replies, runs, read, are, all, none, ran, ended, come, quiet) =
    joined (counted k others 0 replies x at are) (runs_put is_up is_sound holds block Start mid keep at y runs ran)

-- a run that ended well has asked gear at last, and one answered
run_so : {S : Type 0} (is_up is_sound : S → Type 0) (holds : S → List Record → Type 0) (block : Block) (before : Kept) (others : List Block)
    (wanted : ℕ) (by : WayToStart) (was mid keep : S) (x at y : Talk) (frames : ℕ) (report : Report) (came : Result Begun CommissionFault)
    (ended : Result (Unit {0}) Failure) → ended ≡ Ok (tt {0})
    → IfOk came (HasBegun is_up is_sound holds block others wanted was mid x at by)
    → ComesTo is_up is_sound holds block before others came mid keep at y frames report ended → IsMore x y
run_so is_up is_sound holds block before others wanted by was mid keep x at y frames report (Ok (begun.Addressed replies)) ended well is
    (reports, so, stores, same) = absurd (ok_err _ (sym well ∙ so))
run_so is_up is_sound holds block before others wanted by was mid keep x at y frames report (Ok (begun.Commissioned pass)) ended well is
    (inl (fault, so, reports, cut)) = absurd (ok_err _ (sym well ∙ so))
run_so is_up is_sound holds block before others wanted by was mid keep x at y frames report (Ok (begun.Commissioned pass)) ended well is
    (inr (aim, (after, last, read, asked, so, says, reports))) =
    then_more (begun_so is_up is_sound holds block others wanted was mid x at by pass is)
    (at_last_more pass after.enrolled last at y (ended_there _ last.is_there (open_well _ _ _ (sym so ∙ well))) asked)
run_so is_up is_sound holds block before others wanted by was mid keep x at y frames report (Err why) ended well is (so, reports, stores, same) =
    absurd (ok_err _ (sym well ∙ so))

-- and one that ended since gear share an address, as none does that stops for a fault
-- what a call ends with that failed
failed : Failure → Result (Unit {0}) Failure
failed why = Err why

no_stranger : failed AddressedBefore ≡ failed Shared → ⊥
unfolding failed
no_stranger is = cc

no_fault : (fault : CommissionFault) (line : ℕ) → failed (failure_of fault line) ≡ failed Shared → ⊥
unfolding failed
no_fault (commission.Driver driver.BadLine) line is = cc
no_fault (commission.Driver driver.LongLine) line is = cc
no_fault (commission.Driver driver.TornLine) line is = cc
no_fault (commission.Driver driver.Ended) line is = cc
no_fault (commission.Driver driver.Read) line is = cc
no_fault (commission.Driver driver.Write) line is = cc
no_fault (commission.Driver driver.Memory) line is = cc
no_fault (commission.Store error) line is = cc
no_fault commission.QuestionLost line is = cc
no_fault commission.StepsSpent line is = cc
no_fault commission.RunsSpent line is = cc

run_shared : {S : Type 0} (is_up is_sound : S → Type 0) (holds : S → List Record → Type 0) (block : Block) (before : Kept) (others : List Block)
    (wanted : ℕ) (by : WayToStart) (was mid keep : S) (x at y : Talk) (frames : ℕ) (report : Report) (came : Result Begun CommissionFault)
    (ended : Result (Unit {0}) Failure) → ended ≡ Err Shared
    → IfOk came (HasBegun is_up is_sound holds block others wanted was mid x at by)
    → ComesTo is_up is_sound holds block before others came mid keep at y frames report ended → Grows x y
unfolding failed
run_shared is_up is_sound holds block before others wanted by was mid keep x at y frames report (Ok (begun.Addressed replies)) ended shared is
    (reports, so, stores, same) = absurd (no_stranger (sym so ∙ shared))
run_shared is_up is_sound holds block before others wanted by was mid keep x at y frames report (Ok (begun.Commissioned pass)) ended shared is
    (inl (fault, so, reports, cut)) = absurd (no_fault fault frames (sym so ∙ shared))
run_shared is_up is_sound holds block before others wanted by was mid keep x at y frames report (Ok (begun.Commissioned pass)) ended shared is
    (inr (aim, (after, last, read, asked, so, says, reports))) =
    joined (begun_so is_up is_sound holds block others wanted was mid x at by pass is) (at_last pass after.enrolled last at y asked)
run_shared is_up is_sound holds block before others wanted by was mid keep x at y frames report (Err why) ended shared is
    (so, reports, stores, same) = absurd (no_fault why frames (sym so ∙ shared))

run_more : {S R W : Type 0} (is_up is_sound : S → Type 0) (holds : S → List Record → Type 0) (block : Block) (remaining : R → Option (List ℕ))
    (contents : W → Option (List ℕ)) (told : Said → Type 0) (others : List Block) (setup : Setup) (before : Kept) (was keep : S) (x y : Session R W)
    (ended : Result (Unit {0}) Failure) → ended ≡ Ok (tt {0})
    → HasRun is_up is_sound holds block remaining contents told others setup before was keep x y ended
    → IsMore (talk_of remaining contents x.driver) (talk_of remaining contents y.driver)
run_more is_up is_sound holds block remaining contents told others setup before was keep x y ended well
    (came, mid, at, report, is, stops, comes, reports, said, failed) =
    run_so is_up is_sound holds block before others setup.idle_passes setup.start was mid keep _ at _ _ report came ended well is comes

-- ---------------------------------------------------------------- gear that are away

under : (r b : ℕ) (found : Bool) (x y : Talk) → AnswersUnder r b found x y → Grows x y
unfolding AnswersUnder
under r b found x y is = grown (left_over_more _ _ found x y is)

hangs : (r : ℕ) (shorts : List ℕ) (found : Option ℕ) (x y : Talk) → HangsAt r shorts found x y → Grows x y
hangs r [] found x y (none, same) = stays x y same
hangs r (b ∷ more) found x y (one, at, first, next) =
    joined (under r b one x at first) (either one _ _ _ (λ it. stays at y it.1) (hangs r more found at y) next)

looked_for : (a : ℕ) (sought : Option ℕ) (shorts : List ℕ) (before after : List Assignment) (x y : Talk)
    → IsLookedFor a sought shorts before after x y → Grows x y
looked_for a None shorts before after x y (is, same) = stays x y same
looked_for a (Some r) shorts before after x y (found, at, is) = hangs r shorts found x y at

all_looked_for : (table records : Kept) (others : List Block) (wanted : Mend) (shorts : List ℕ) (a : ℕ) (replies : List Reply)
    (before after : List Assignment) (x y : Talk) → AreLookedFor table records others wanted shorts a replies before after x y → Grows x y
all_looked_for table records others wanted shorts a [] before after x y (is, same) = stays x y same
all_looked_for table records others wanted shorts a (r ∷ more) before after x y (mid, at, first, rest) =
    joined (looked_for a (sought_at table records others wanted a r) shorts before mid x at first)
    (all_looked_for table records others wanted shorts (a + 1) more mid after at y rest)

-- ---------------------------------------------------------------- mend

mended : (table : Kept) (shorts : List ℕ) (before after : List _) (x y : Talk) → AreMended table shorts before after x y → Grows x y
mended table [] before after x y (is, same) = stays x y same
mended table (a ∷ more) before after x y (m, at, ((told, put), none), rest) =
    joined (frames _ _ _ told m x at put) (mended table more (before ++ m ∷ []) after at y rest)

follows_more : {S : Type 0} (is_up is_sound : S → Type 0) (holds : S → List Record → Type 0) (kept_of : S → Kept) (block : Block) (table : Kept)
    (hanging : List Assignment) (before : Kept) (replies : List Reply) (ms : List _) (was keep : S) (x y : Talk) (n : ℕ) (report : Report)
    → Follows is_up is_sound holds kept_of block table hanging before replies ms was keep x y n report (Ok (tt {0})) → IsMore x y
follows_more is_up is_sound holds kept_of block table hanging before replies ms was keep x y n report (inl (bare, is, reports, stores, same)) =
    absurd (ok_err _ is)
follows_more is_up is_sound holds kept_of block table hanging before replies ms was keep x y n report
    (inr (none, (pass, mid, at, surveyed, (last, asked, is, reports, said)))) =
    then_more (runs_put is_up is_sound holds block Survey surveyed.filled mid x at surveyed.runs surveyed.ran)
    (at_last_more pass (kept_of keep).enrolled last at y (ended_there _ last.is_there (open_well _ _ _ (sym is))) asked)

beside_more : {S : Type 0} (is_up is_sound : S → Type 0) (holds : S → List Record → Type 0) (kept_of : S → Kept) (block : Block) (table : Kept)
    (others : List Block) (wanted : Mend) (hanging : List Assignment) (before : Kept) (replies : List Reply) (ms : List _) (was keep : S) (x y : Talk) (n : ℕ)
    (report : Report)
    → MendsBeside is_up is_sound holds kept_of block table others wanted hanging before replies ms was keep x y n report (Ok (tt {0})) → IsMore x y
beside_more is_up is_sound holds kept_of block table others wanted hanging before replies ms was keep x y n report
    (inl (failure, refused, is, reports, stores, same)) = absurd (ok_err _ is)
beside_more is_up is_sound holds kept_of block table others wanted hanging before replies ms was keep x y n report (inr (none, (at, are, follows))) =
    then_more (mended table (meant_from wanted.named.items 0 replies) [] ms x at are)
    (follows_more is_up is_sound holds kept_of block table hanging before replies ms was keep at y n report follows)

mends_more : {S : Type 0} (is_up is_sound : S → Type 0) (holds : S → List Record → Type 0) (kept_of : S → Kept) (block : Block)
    (table records : Kept) (others : List Block) (wanted : Mend) (ms : List _) (was keep : S) (x y : Talk) (n : ℕ) (report : Report)
    → MendsFrom is_up is_sound holds kept_of block table records others wanted ms was keep x y n report (Ok (tt {0})) → IsMore x y
mends_more is_up is_sound holds kept_of block table records others wanted ms was keep x y n report (replies, at, are, (hanging, after, looked, beside)) =
    then_more
    (joined (counted (without_records table.block) others 0 replies x at are)
    (all_looked_for table records others wanted (meant_from wanted.named.items 0 replies) 0 replies [] hanging at after looked))
    (beside_more is_up is_sound holds kept_of block table others wanted hanging records replies ms was keep after y n report beside)

mended_so : {S : Type 0} (is_up is_sound : S → Type 0) (holds : S → List Record → Type 0) (kept_of : S → Kept) (block : Block)
    (told : Said → Type 0) (others : List Block) (wanted : Mend) (tables : List Kept) (was keep : S) (x y : Talk) (frames : ℕ) (report : Report)
    → HasMended is_up is_sound holds kept_of block told others wanted tables was keep x y frames report → IsMore x y
mended_so is_up is_sound holds kept_of block told others wanted tables was keep x y frames report it =
    mends_more is_up is_sound holds kept_of block it.table it.before others wanted it.ms it.opened it.mid x y frames it.came it.mends

pub mend_more : {F K R W : Type 0} (is_up is_sound : K → Type 0) (holds : K → List Record → Type 0) (kept_of : K → Kept) (block_of : K → Block)
    (saw : F → Look → Type 0) (opens : F → Seen → K → Type 0) (remaining : R → Option (List ℕ)) (contents : W → Option (List ℕ))
    (told : Said → Type 0) (others : List Block) (wanted : Mend) (stores : F) (x y : Session R W) (records : List (String Global))
    → IsMendOf is_up is_sound holds kept_of block_of saw opens remaining contents told others wanted stores x y (Ok (tt {0})) records
    → IsMore (talk_of remaining contents x.driver) (talk_of remaining contents y.driver)
unfolding IsMendBeside
mend_more is_up is_sound holds kept_of block_of saw opens remaining contents told others wanted stores x y [] (err, same) =
    absurd (false≢true err)
mend_more is_up is_sound holds kept_of block_of saw opens remaining contents told others wanted stores x y (name ∷ more) (inl (err, same)) =
    absurd (false≢true err)
mend_more is_up is_sound holds kept_of block_of saw opens remaining contents told others wanted stores x y (name ∷ more)
    (inr (tables, read, none, inl (err, same))) = absurd (false≢true err)
mend_more is_up is_sound holds kept_of block_of saw opens remaining contents told others wanted stores x y (name ∷ more)
    (inr (tables, read, none, inr (from, to, Ok done, open_so, came, well))) =
    mended_so is_up is_sound holds kept_of (block_of from) told others wanted tables from to _ _ _ y.report came
mend_more is_up is_sound holds kept_of block_of saw opens remaining contents told others wanted stores x y (name ∷ more)
    (inr (tables, read, none, inr (from, to, Err failure, open_so, came, well))) = absurd (ok_err failure (sym well))

-- ---------------------------------------------------------------- run

-- over records that are open, also if it mends what gear share
module _ {S R W : Type 0} (is_up is_sound : S → Type 0) (holds : S → List Record → Type 0) (kept_of : S → Kept)
    (remaining : R → Option (List ℕ)) (contents : W → Option (List ℕ)) (told : Said → Type 0) (others : List Block) (setup : Setup) where
  run_over_more : (block : Block) (was keep : S) (x y : Session R W) (done : Result (Unit {0}) Failure)
      → done ≡ Ok (tt {0}) → HasRunOver is_up is_sound holds kept_of block remaining contents told others setup was keep x y done
      → IsMore (talk_of remaining contents x.driver) (talk_of remaining contents y.driver)
  run_over_more block was keep x y done well (inl (err, same)) = absurd (err_ok done well err)
  run_over_more block was keep x y done well (inr (before, opened, ended, mid, at, read, run, inl (other, so, stores, same))) =
      more_then (run_more is_up is_sound holds block remaining contents told others setup before opened mid x at ended (sym so ∙ well) run)
      (stays _ _ (ap (λ s. talk_of remaining contents s.driver) same))
  run_over_more block was keep x y (Ok done) well
      (inr (
        before,
        opened,
        ended,
        mid,
        at,
        read,
        (came, first, then, report, is, stops, comes, reports, said, failed),
        inr (mends, shared, (wanted, named, missing, of, (z, it, counts))),
      )) =
      then_more
      (run_shared is_up is_sound holds block before others setup.idle_passes setup.start opened first mid _ then _ _ report came ended shared is comes)
      (more_then (mended_so is_up is_sound holds kept_of block told others wanted [] mid keep (talk_of remaining contents at.driver)
      (talk_of remaining contents z.driver) _ z.report it) (stays _ _ (ap (λ s. talk_of remaining contents s.driver) counts)))
  run_over_more block was keep x y (Err failure) well (inr (before, opened, ended, mid, at, read, run, inr (mends, shared, so))) =
      absurd (ok_err failure (sym well))

  pub run_lent_more : (block_of : S → Block) (opens : S → Type 0) (x y : Session R W)
      → IsLent opens (λ from to p q done. HasRunOver is_up is_sound holds kept_of (block_of from) remaining contents told others setup from to p q done)
      x y (Ok (tt {0})) → IsMore (talk_of remaining contents x.driver) (talk_of remaining contents y.driver)
  run_lent_more block_of opens x y (inl (err, same)) = absurd (false≢true err)
  run_lent_more block_of opens x y (inr (from, to, done, open_so, came, well)) = run_over_more (block_of from) from to x y done well came
