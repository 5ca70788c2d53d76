use Rattle.dali_events.proofs.Invariant.Safe.{keeps_promise}
use Rattle.dali_world.proofs.Logs.{safe_now, page_now, agreeing_now, records_now}
use Rattle.dali_world.proofs.site.SiteState.is_safe.Goals as goal

pub returns-clause-promise : goal.returns-clause-promise
returns-clause-promise c = rw (← c.self.view_is) (keeps_promise _ _ _ c.self.invariant.run)

pub returns-clause-page : goal.returns-clause-page
returns-clause-page c = rw (← c.self.view_is) (page_now _ _ _ c.self.invariant.run)

pub returns-clause-now : goal.returns-clause-now
returns-clause-now c = rw (← c.self.view_is) (safe_now _ _ _ c.self.invariant.run)

pub returns-clause-agree : goal.returns-clause-agree
returns-clause-agree c = rw (← c.self.view_is) (agreeing_now _ _ _ c.self.invariant.run)

pub returns-clause-records : goal.returns-clause-records
returns-clause-records c = rw (← c.self.view_is) (records_now _ _ _ c.self.invariant.run)
