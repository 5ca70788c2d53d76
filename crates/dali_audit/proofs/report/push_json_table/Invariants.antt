use Rattle.std.proofs.Common.{◌≡◌, ◌++◌, string_bytes, drop}
use Rattle.dali_audit.specs.Report.{json_table}
use Rattle.dali_audit.proofs.report.push_json_table.Given as goal

abbrev pub invariant-loop-number : goal.invariant-loop-number
invariant-loop-number l =
    string_bytes l.text ++ json_table l.number (drop l.number l.table) ≡ string_bytes l.fn.text ++ json_table 0 l.table
