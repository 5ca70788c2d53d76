use Rattle.dali_progress.proofs.{Beginnings.begins_so, Beginnings.begins_settled, Logged.begins_new, Survey.Again.surveys_again, Survey.Again.kept_again}
use Rattle.dali_progress.proofs.laws.who_begins_alone.Goals as goal

pub returns : goal.returns
returns c = record { new = begins_new; starts = begins_so; settled = begins_settled; again = surveys_again; kept = kept_again }
