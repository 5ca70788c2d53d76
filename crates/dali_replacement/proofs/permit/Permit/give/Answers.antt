use Prim.{grind}
use Rattle.std.proofs.Common.{arith, subst, ◌∙◌}
use Rattle.std.proofs.lemmas.Grind.{common_steps}
use Rattle.std.proofs.lemmas.Result.{IfOk-weaker}
use Rattle.dali_script.specs.declared.orders.Input.TheVariants.{Survey}
use Rattle.dali_commissioning.specs.Drivers.{talk_of}
use Rattle.dali_commissioning.specs.Runs.{AreRuns}
use Rattle.dali_replacement.proofs.permit.Permit.give.Goals as goal

pub returns-clause-given : goal.returns-clause-given
returns-clause-given g c =
    IfOk-weaker c.commission.result _ _ (λ pass r. record {
      of = grind (arith, common_steps);
      filled = c.fill.new.store;
      has = c.in_default.ensures.all;
      runs = r.0;
      ran =
          subst
          (λ block. AreRuns g.K.Keep.is_up g.K.Keep.is_sound g.K.Keep.holds block Survey c.fill.new.store c.commission.new.keep
          (talk_of g.R.Read.remaining g.W.Write.contents c.args.driver.now) (talk_of g.R.Read.remaining g.W.Write.contents c.commission.new.driver) r.0)
          (c.in_default.ensures.block ∙ c.read.ensures.block) r.1;
      ended = r.2;
      quiet = r.4;
    }) c.commission.ensures.ran
