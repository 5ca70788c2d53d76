use Rattle.std.proofs.Common.{◌≤◌, true, sym, subst, ◌∙◌, arith}
use Rattle.dali_controller.specs.{Next.most_silent, States.machine_with}
use Rattle.dali_c.proofs.Stops.{is_calm, sends_terminate}
use Rattle.dali_c.proofs.stopping.end.Goals as goal

pub returns-then-may_end-clause-whole : goal.returns-then-may_end-clause-whole
returns-then-may_end-clause-whole c =
    let m = machine_with c.args.state.now c.args.kept.now in
    record {
      ready = record {
        tries = omega arith;
        calm = subst (λ y. m.silent ≤ most_silent y) (sym c.searched-state.ensures.way) (is_calm m (sym c.may_end.ensures ∙ c.if-may_end.true) c.requires);
        knows = c.searched-state.ensures.searching;
      };
      sends = sends_terminate c.args.kept.now c.args.state.now.number c.new-state.result c.write.result c.new-state.ensures c.write.ensures.table;
    }
