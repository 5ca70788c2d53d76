use Rattle.dali_script.proofs.Found.{searched_lawful, asked_lawful, finding_lawful, searched_after, finding_after}
use Rattle.dali_script.proofs.laws.stages_say_what_was_sent_and_found.Goals as goal

pub returns : goal.returns
returns c = record { search = searched_lawful; asked = asked_lawful; found = finding_lawful; searched_after = searched_after; finding_after = finding_after }
