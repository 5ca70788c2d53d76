use Rattle.dali_replay.proofs.InstallationLemmas.{gone}
use Rattle.dali_replay.proofs.installation.Installation.turn.Goals as goal

pub returns : goal.returns
returns c =
    gone c.args.self.now c.given.new.self c.act.new.self c.args.c c.in-Some.input c.in_ok-order.order c.in-Some.ensures.up c.in-Some.ensures.given
    c.in_ok-order.ensures.stepped
