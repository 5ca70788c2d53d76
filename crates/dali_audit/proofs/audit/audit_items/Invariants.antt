use Rattle.std.proofs.Common.{◌≡◌, ◌++◌, length}
use Rattle.dali_audit.specs.Findings.{findings_from, findings_in, known_from, known_in}
use Rattle.dali_audit.proofs.audit.audit_items.Given as goal

abbrev pub invariant-loop-rest : goal.invariant-loop-rest
invariant-loop-rest l = record {
  findings : l.findings.items ++ findings_from l.known l.before l.rest ≡ findings_in l.items;
  known : known_from l.known l.before l.rest ≡ known_in l.items;
}

abbrev pub decreases-loop-rest : goal.decreases-loop-rest
decreases-loop-rest l = length l.rest
