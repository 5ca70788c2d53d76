use Rattle.std.proofs.Common.{◌≡◌, Err, rules, sym, ◌∙◌}
use Rattle.std.proofs.lemmas.Result.{err_from_is_err_and}
use Rattle.dali_commissioning.proofs.{Ran.of_block, Ran.ran_more, Ran.ended_otherwise, Ran.ended_quiet, Ran.grows_further, Ran.spent_after, Steps.stays_further}
use Rattle.dali_commissioning.proofs.runs.commission.Goals as goal
use Rattle.dali_commissioning.proofs.Rules.{one_more_keeps, runs_left, runs_spent_rules}

pub returns-in_err-pass-clause-left : goal.returns-in_err-pass-clause-left
returns-in_err-pass-clause-left g c =
    let p = err_from_is_err_and c.from_residual.result c.from_residual.ensures.1 in
    rw p.1 (grows_further g.K.Keep.is_up g.K.Keep.is_sound g.K.Keep.holds _ _ _
    c.loop.invariant.ran.stays c.run.ensures.stays c.loop.invariant.ran.grows c.in_err-pass.ensures.left)

pub returns-then-not-is_all_found-clause-rules : goal.returns-then-not-is_all_found-clause-rules
returns-then-not-is_all_found-clause-rules g c =
    one_more_keeps g.K.Keep.is_up g.K.Keep.is_sound g.K.Keep.holds _ _ _ _ _ _ _ _ _ _ _ c.loop.invariant.ran
    (of_block g.K.Keep.is_up g.K.Keep.is_sound g.K.Keep.holds _ _ _ _ _ _ _ _ c.loop.invariant.block c.in_ok-pass.ensures.ran)

pub returns-then-quiet-quiet_runs-clause-rules : goal.returns-then-quiet-quiet_runs-clause-rules
returns-then-quiet-quiet_runs-clause-rules g c =
    one_more_keeps g.K.Keep.is_up g.K.Keep.is_sound g.K.Keep.holds _ _ _ _ _ _ _ _ _ _ _ c.loop.invariant.ran
    (of_block g.K.Keep.is_up g.K.Keep.is_sound g.K.Keep.holds _ _ _ _ _ _ _ _ c.loop.invariant.block c.in_ok-pass.ensures.ran)

pub returns-clause-left_rules : goal.returns-clause-left_rules
returns-clause-left_rules g c = runs_spent_rules g.K.Keep.is_up g.K.Keep.is_sound g.K.Keep.holds _ _ _ _ _ _ _ _ c.loop.invariant.ran

pub returns-in_err-pass-clause-left_rules : goal.returns-in_err-pass-clause-left_rules
returns-in_err-pass-clause-left_rules g c =
    let p = err_from_is_err_and c.from_residual.result c.from_residual.ensures.1 in
    rw p.1 (rw p.2 (runs_left g.K.Keep.is_up g.K.Keep.is_sound g.K.Keep.holds _ _ _ _ _ _ _ _ _ _ _ _
    c.loop.invariant.ran c.run.ensures.stays c.loop.invariant.block c.in_err-pass.ensures.left_rules))

pub returns-in_err-pass-clause-stays : goal.returns-in_err-pass-clause-stays
returns-in_err-pass-clause-stays g c =
    stays_further g.K.Keep.is_up g.K.Keep.is_sound _ _ _ c.loop.invariant.ran.stays c.run.ensures.stays

pub returns-then-not-is_all_found-clause-stays : goal.returns-then-not-is_all_found-clause-stays
returns-then-not-is_all_found-clause-stays g c =
    stays_further g.K.Keep.is_up g.K.Keep.is_sound _ _ _ c.loop.invariant.ran.stays c.run.ensures.stays

pub returns-then-quiet-quiet_runs-clause-stays : goal.returns-then-quiet-quiet_runs-clause-stays
returns-then-quiet-quiet_runs-clause-stays g c =
    stays_further g.K.Keep.is_up g.K.Keep.is_sound _ _ _ c.loop.invariant.ran.stays c.run.ensures.stays

pub returns-clause-left : goal.returns-clause-left
returns-clause-left g c = c.loop.invariant.ran.grows

pub returns-clause-stays : goal.returns-clause-stays
returns-clause-stays g c = c.loop.invariant.ran.stays

pub returns-then-not-is_all_found-clause-ran : goal.returns-then-not-is_all_found-clause-ran
returns-then-not-is_all_found-clause-ran g c =
    ended_otherwise g.K.Keep.is_up g.K.Keep.is_sound g.K.Keep.holds _ _ _ _ _ _ _ _ _ _ _ _ c.loop.invariant.ran
    (of_block g.K.Keep.is_up g.K.Keep.is_sound g.K.Keep.holds _ _ _ _ _ _ _ _ c.loop.invariant.block c.in_ok-pass.ensures.ran)
    (search rules)

pub returns-then-quiet-quiet_runs-clause-ran : goal.returns-then-quiet-quiet_runs-clause-ran
returns-then-quiet-quiet_runs-clause-ran g c =
    ended_quiet g.K.Keep.is_up g.K.Keep.is_sound g.K.Keep.holds _ _ _ _ _ _ _ _ _ _ _ _ c.loop.invariant.ran
    (of_block g.K.Keep.is_up g.K.Keep.is_sound g.K.Keep.holds _ _ _ _ _ _ _ _ c.loop.invariant.block c.in_ok-pass.ensures.ran)
    (sym c.quiet_after-quiet.ensures ∙ c.if-quiet-quiet_runs.true)

pub loop-preserved : goal.loop-preserved
loop-preserved g c = record {
  ran = ran_more g.K.Keep.is_up g.K.Keep.is_sound g.K.Keep.holds _ _ _ _ _ _ _ _ _ _ _ c.in_ok-pass.pass c.loop.invariant.ran
      (of_block g.K.Keep.is_up g.K.Keep.is_sound g.K.Keep.holds _ _ _ _ _ _ _ _ c.loop.invariant.block c.in_ok-pass.ensures.ran)
      (search rules) c.quiet_after-quiet.ensures;
  few = search rules;
  block = c.run.ensures.block ∙ c.loop.invariant.block;
}

pub returns-in_err-pass-clause-steps : goal.returns-in_err-pass-clause-steps
returns-in_err-pass-clause-steps g c =
    let same : c.from_residual.result ≡ Err c.in_err-pass.field-0.0 = search rules in
    let is : c.run.result ≡ Err c.in_err-pass.field-0.0 = search rules in
    λ spent. spent_after g.K.Keep.is_up g.K.Keep.is_sound g.K.Keep.holds _ _ _ _ _ _ _ _ _ _ _ _ c.loop.invariant.block
    (search rules) c.loop.invariant.ran (c.run.ensures.steps (is ∙ sym same ∙ spent))
