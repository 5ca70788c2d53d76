use Rattle.dali_controller.proofs.Keeping.{kept_may, before_is}
use Rattle.dali_c.specs.Records.{kept_of}
use Rattle.dali_c.proofs.calls.step.Goals as goal

pub keep-requires-clause-may : goal.keep-requires-clause-may
keep-requires-clause-may c = rw c.kept_by-added.ensures (kept_may c.args.state.now (kept_of c.args.records.now) c.args.told c.requires.whole)

pub step-requires : goal.step-requires
step-requires c = (
  kept_of c.args.records.now,
  before_is c.args.state.now (kept_of c.args.records.now) (kept_of c.keep.new.self)
      c.known.result c.kept_by-added.result c.args.told c.requires.whole c.kept_by-added.ensures c.keep.ensures.added c.known.ensures,
)
