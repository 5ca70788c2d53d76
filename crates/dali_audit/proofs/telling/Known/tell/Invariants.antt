use Rattle.std.proofs.Common.{◌≡◌, ◌++◌, drop}
use Rattle.dali_audit.specs.Findings.{told_of}
use Rattle.dali_audit.proofs.telling.Known.tell.Given as goal

abbrev pub invariant-loop-kind : goal.invariant-loop-kind
invariant-loop-kind l =
    l.findings.items ++ told_of l.self l.item l.seen (drop l.kind-index l.kinds)
    ≡ l.fn.findings.items ++ told_of l.self l.item l.seen l.kinds
