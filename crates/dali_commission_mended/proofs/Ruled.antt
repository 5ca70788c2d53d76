use Rattle.std.proofs.Common.{◌≡◌, ◌∙◌, ◌⊎◌, ℕ, arith, List, [], ◌∷◌, false, Option, Result, Ok, Err, sym, ap, subst, inl, inr}
use Rattle.std.{proofs.lemmas.Bool.false≢true, specs.Prelude.IfOk, specs.Prelude.IsErr, specs.Prelude.is_err}
use Rattle.dali_script.specs.{Records.Kept, declared.block.Block.Block, declared.records.Record.Record}
use Rattle.dali_script.specs.declared.{orders.Input.Input, orders.Input.TheVariants.Start, orders.Input.TheVariants.Survey}
use Rattle.dali_commissioning.specs.{Drivers.Talk, Drivers.talk_of, Rules.PutsByRules, Rules.LeavesByRules, Runs.Run, Runs.AreRuns, Runs.EndWith, Runs.IsRead}
use Rattle.dali_commissioning.specs.declared.{beginning.Begun.Begun, conducting.Ended.Ended, conducting.PassEnd.PassEnd}
use Rattle.dali_commissioning.specs.declared.fault.CommissionFault.{CommissionFault}
use Rattle.dali_commissioning.specs.declared.beginning.Begun.TheVariants as begun
use Rattle.dali_commissioning.proofs.{Questions.counted, Rules.runs_keep_rules, Ruled.runs_put, Ruled.read_puts, Ruled.puts_read, Ruled.puts_ask}
use Rattle.dali_commissioning.proofs.Ruled.{ask_puts, runs_leave, read_leaves, ask_leaves}
use Rattle.dali_commission_said.specs.declared.{failure.Failure.Failure, report.Report.Report, report.Session.Session, said.Said.Said}
use Rattle.dali_commission_tasks.specs.declared.tasks.{Setup.Setup, Start.Start as WayToStart}
use Rattle.dali_commission_tasks.specs.declared.tasks.Start.TheVariants as start
use Rattle.dali_commission_asked.proofs.Ruled.{at_last, ok_err}
use Rattle.dali_commission_mended.specs.{Runs.HasBegun, Runs.HasNotBegun, Runs.ComesTo, Tellings.HasRunOver}

-- WHAT A RUN PUTS KEEPS THE RULES OF THE PAGE, if it mends nothing.

err_ok : {E : Type 0} (r : Result (Unit {0}) E) → r ≡ Ok (tt {0}) → IsErr r → ⊥
err_ok r well err = false≢true (sym (ap (λ it. is_err it) well) ∙ err)

module _ {K : Type 0} (is_up is_sound : K → Type 0) (holds : K → List Record → Type 0) where
  pub runs_so : (block : Block) (first : Input) (was keep : K) (x y : Talk) (ended : Ended) (runs : List Run)
      → AreRuns is_up is_sound holds block first was keep x y runs → EndWith ended runs → PutsByRules is_up is_sound holds block was keep x y
  runs_so block first was keep x y ended [] are never = absurd never
  runs_so block first was keep x y ended (run ∷ before) are ends =
      runs_put is_up is_sound holds block first was keep x y (runs_keep_rules is_up is_sound holds block first was keep x y run before are)

  begun_so : (block : Block) (others : List Block) (wanted : ℕ) (was keep : K) (x y : Talk) (by : WayToStart) (pass : PassEnd)
      → HasBegun is_up is_sound holds block others wanted was keep x y by (begun.Commissioned pass)
      → PutsByRules is_up is_sound holds block was keep x y
  begun_so block others wanted was keep x y start.Survey pass (runs, are, ended, come, quiet) =
      runs_so block Survey was keep x y pass.ended runs are ended
  begun_so block others wanted was keep x y start.Fresh pass (k, mid, at, replies, runs, read, are, all, none, ran, ended, come, quiet) =
      read_puts is_up is_sound holds block block k was mid keep x y read
      (ask_puts is_up is_sound holds block mid keep x at y (counted k others replies x at (omega (arith, all)) are)
      (runs_so block Start mid keep at y pass.ended runs ran ended))

  run_so : (block : Block) (before : Kept) (others : List Block) (wanted : ℕ) (by : WayToStart) (was mid keep : K) (x at y : Talk) (frames : ℕ)
      (report : Report) (came : Result Begun CommissionFault) (ended : Result (Unit {0}) Failure) → ended ≡ Ok (tt {0})
      → IfOk came (HasBegun is_up is_sound holds block others wanted was mid x at by)
      → ComesTo is_up is_sound holds block before others came mid keep at y frames report ended → PutsByRules is_up is_sound holds block was keep x y
  run_so block before others wanted by was mid keep x at y frames report (Ok (begun.Addressed replies)) ended well is (says, so, stores, same) =
      absurd (ok_err _ (sym well ∙ so))
  run_so block before others wanted by was mid keep x at y frames report (Ok (begun.Commissioned pass)) ended well is (inl (fault, so, reports, cut)) =
      absurd (ok_err _ (sym well ∙ so))
  run_so block before others wanted by was mid keep x at y frames report (Ok (begun.Commissioned pass)) ended well is
      (inr (aim, (after, last, read, asked, so, says, reports))) =
      puts_read is_up is_sound holds block block after was mid keep x y
      (puts_ask is_up is_sound holds block was mid x at y (begun_so block others wanted was mid x at by pass is)
      (at_last pass after.enrolled last at y asked)) read
  run_so block before others wanted by was mid keep x at y frames report (Err why) ended well is (so, reports, stores, same) =
      absurd (ok_err _ (sym well ∙ so))

  pub over : {R W : Type 0} (kept_of : K → Kept) (block : Block) (remaining : R → Option (List ℕ)) (contents : W → Option (List ℕ))
      (told : Said → Type 0) (others : List Block) (setup : Setup) (was keep : K) (x y : Session R W)
      (done : Result (Unit {0}) Failure) → done ≡ Ok (tt {0}) → setup.mends ≡ false
      → HasRunOver is_up is_sound holds kept_of block remaining contents told others setup was keep x y done
      → PutsByRules is_up is_sound holds block was keep (talk_of remaining contents x.driver) (talk_of remaining contents y.driver)
  over kept_of block remaining contents told others setup was keep x y done well none (inl (err, same)) = absurd (err_ok done well err)
  over kept_of block remaining contents told others setup was keep x y done well none
      (inr (before, opened, ended, mid, at, read, (came, first, then, report, is, stops, comes, reports, said, failed), inl (other, so, stores, same))) =
      read_puts is_up is_sound holds block block before was opened keep _ _ read
      (subst (λ (s : Session _ _). PutsByRules is_up is_sound holds block opened keep (talk_of remaining contents x.driver)
      (talk_of remaining contents s.driver)) (sym same)
      (subst (λ s. PutsByRules is_up is_sound holds block opened s (talk_of remaining contents x.driver) (talk_of remaining contents at.driver))
      (sym stores)
      (run_so block before others setup.idle_passes setup.start opened first mid (talk_of remaining contents x.driver) then
      (talk_of remaining contents at.driver) _ report came ended (sym so ∙ well) is comes)))
  over kept_of block remaining contents told others setup was keep x y done well none
      (inr (before, opened, ended, mid, at, read, run, inr (mends, shared, it))) = absurd (false≢true (sym none ∙ mends))

  -- ---------------------------------------------------------------- if it is left

  pub survey_left : (block : Block) (others : List Block) (was keep : K) (x y : Talk) (fault : CommissionFault)
      → HasNotBegun is_up is_sound holds block others was keep x y start.Survey fault → LeavesByRules is_up is_sound holds block fault was keep x y
  survey_left block others was keep x y fault it = runs_leave is_up is_sound holds block Survey fault was keep x y it

  pub start_left : (block : Block) (others : List Block) (was keep : K) (x y : Talk) (fault : CommissionFault)
      → HasNotBegun is_up is_sound holds block others was keep x y start.Fresh fault
      → (y ≡ x) ⊎ (((k : Kept) × IsRead is_up is_sound holds block was keep k) ⊎ LeavesByRules is_up is_sound holds block fault was keep x y)
  start_left block others was keep x y fault (inl same) = inl same
  start_left block others was keep x y fault (inr (inl (k, read, lost))) = inr (inl (k, read))
  start_left block others was keep x y fault (inr (inr (k, mid, at, replies, read, are, all, none, left))) =
      inr (inr (read_leaves is_up is_sound holds block block k fault was mid keep x y read
      (ask_leaves is_up is_sound holds block fault mid keep x at y (counted k others replies x at (omega (arith, all)) are)
      (runs_leave is_up is_sound holds block Start fault mid keep at y left))))
