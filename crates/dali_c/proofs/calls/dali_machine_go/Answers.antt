use Rattle.std.proofs.Common.{subst}
use Rattle.dali_c.{specs.Machines.IsHeld, proofs.Machines.spells_once, proofs.Machines.read_of}
use Rattle.dali_c.proofs.Hosts.{stepped}
use Rattle.dali_c.proofs.calls.dali_machine_go.Goals as goal

pub go_on-requires : goal.go_on-requires
go_on-requires c =
    let p = c.args.machine.now in
    let held = c.requires.1.held in
    read_of p c.in-Some.state (subst (IsHeld p) (spells_once p.state c.requires.1.state c.in-Some.state held.spells c.in-Some.ensures.spelled) held)

pub returns-clause-ok : goal.returns-clause-ok
returns-clause-ok c ok =
    stepped _ _ c.args.input c.args.byte _ _ _ c.requires.1 c.go_on.ensures.done c.go_on.ensures.not_due c.go_on.ensures.bad ok
