use Rattle.std.proofs.Common.{◌≡◌, ◌++◌, string_bytes, drop}
use Rattle.dali_audit.specs.Report.{json_findings}
use Rattle.dali_audit.proofs.report.push_json_findings.Given as goal

abbrev pub invariant-loop-number : goal.invariant-loop-number
invariant-loop-number l =
    string_bytes l.text ++ json_findings l.number (drop l.number l.findings) ≡ string_bytes l.fn.text ++ json_findings 0 l.findings
