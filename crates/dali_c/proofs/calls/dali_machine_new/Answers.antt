use Rattle.std.proofs.Common.{ap, sym}
use Rattle.dali_c.specs.Records.{kept_of}
use Rattle.dali_c.proofs.calls.dali_machine_new.Goals as goal

pub returns-clause-machine : goal.returns-clause-machine
returns-clause-machine c ok =
    let k = kept_of c.args.records.now in
    record {
      state = c.new.result;
      held = record { spells = c.set.ensures.spells; records = c.in-Some.ensures.0; whole = c.new.ensures.whole k };
      is = sym (c.new.ensures.first k);
    }

pub set-requires : goal.set-requires
set-requires c = ap (λ m. m.id) (c.new.ensures.first (kept_of c.args.records.now))
