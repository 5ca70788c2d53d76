use Rattle.dali_world.proofs.Logs.{safe_now}
use Rattle.dali_world.proofs.site.SiteState.gifts.Goals as goal

pub returns-clause-gear_once : goal.returns-clause-gear_once
returns-clause-gear_once c = rw (c.gifts.ensures, c.self.invariant.stands) (safe_now _ _ _ c.self.invariant.run).gear_once

pub returns-clause-address_once : goal.returns-clause-address_once
returns-clause-address_once c = rw (c.gifts.ensures, c.self.invariant.stands) (safe_now _ _ _ c.self.invariant.run).address_once
