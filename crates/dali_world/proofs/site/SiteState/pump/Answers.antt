use Rattle.std.proofs.Common.{rules}
use Rattle.dali_world.proofs.Logs.{request_may, sendable_of}
use Rattle.dali_world.proofs.site.SiteState.pump.Goals as goal

pub destroy-requires-clause-may : goal.destroy-requires-clause-may
destroy-requires-clause-may c = request_may _ _ _ _ _ c.in-Some.request c.self.view_is c.self.invariant (rw c.in-Some.is at c.next_request.ensures.may)

pub collide-requires-clause-may : goal.collide-requires-clause-may
collide-requires-clause-may c = request_may _ _ _ _ _ c.in-Some.request c.self.view_is c.self.invariant (rw c.in-Some.is at c.next_request.ensures.may)

pub send-requires : goal.send-requires
send-requires c = record {
  next = search rules;
  read = c.read-command.ensures.table;
  may = request_may _ _ _ _ _ c.in-Some.request c.self.view_is c.self.invariant (rw c.in-Some.is at c.next_request.ensures.may);
  draws = search rules;
  room = c.in_ok-check_room.ensures.ok;
  sendable = sendable_of c.args.trouble c.in-None.is;
}
