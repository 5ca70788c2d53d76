use Rattle.dali_replay.proofs.InstallationLemmas.{goes}
use Rattle.dali_replay.proofs.installation.Installation.go.Goals as goal

pub returns : goal.returns
returns c =
    goes c.args.self.now c.given.new.self c.act.new.self c.args.c c.in_ok-known.known c.in-Some.input c.act.result
    c.in_ok-known.ensures.known.0 c.in-Some.ensures.up c.in-Some.ensures.given c.act.ensures.stepped c.act.ensures.refused c.act.ensures.unchanged
