use Rattle.std.proofs.Common.{◌≡◌, ◌++◌, string_bytes, drop}
use Rattle.dali_audit.specs.Report.{table_text}
use Rattle.dali_audit.proofs.report.push_table.Given as goal

abbrev pub invariant-loop-number : goal.invariant-loop-number
invariant-loop-number l =
    string_bytes l.text ++ table_text l.number (drop l.number l.table) ≡ string_bytes l.fn.text ++ table_text 0 l.table
