use Rattle.dali_audit_laws.proofs.Begin.{no_finding, same_table}
use Rattle.dali_audit_laws.proofs.laws.undisturbed_runs_have_no_finding.Goals as goal

pub returns : goal.returns
returns c = record { findings = no_finding; table = same_table }
