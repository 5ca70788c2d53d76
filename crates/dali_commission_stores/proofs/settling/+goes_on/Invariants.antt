use Rattle.std.proofs.Common.{◌-◌}
use Rattle.dali_commission_stores.proofs.settling.+goes_on.Given as goal

abbrev pub decreases-goes_on : goal.decreases-goes_on
decreases-goes_on g l = l.to - l.from
