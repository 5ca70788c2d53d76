use Rattle.dali_frame.proofs.HexLemmas.{text_is_random, random_is_text}
use Rattle.dali_frame.proofs.laws.random_addresses_are_spelled.Goals as goal

pub returns-clause-read : goal.returns-clause-read
returns-clause-read c = text_is_random

pub returns-clause-only : goal.returns-clause-only
returns-clause-only c = random_is_text
