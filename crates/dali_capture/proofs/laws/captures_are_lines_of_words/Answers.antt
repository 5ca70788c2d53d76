use Rattle.dali_capture.proofs.ByLines.{by_lines}
use Rattle.dali_capture.proofs.laws.captures_are_lines_of_words.Goals as goal

pub returns : goal.returns
returns c = by_lines
