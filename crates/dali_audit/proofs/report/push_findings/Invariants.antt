use Rattle.std.proofs.Common.{◌≡◌, ◌++◌, string_bytes, drop}
use Rattle.dali_audit.specs.Report.{findings_text}
use Rattle.dali_audit.proofs.report.push_findings.Given as goal

abbrev pub invariant-loop-finding : goal.invariant-loop-finding
invariant-loop-finding l =
    string_bytes l.text ++ findings_text (drop l.finding-index l.findings) ≡ string_bytes l.fn.text ++ findings_text l.findings
