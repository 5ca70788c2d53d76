use Rattle.dali_progress.proofs.{Accounted.accounted, Accounted.never_reserved, Accounted.never_given, Census.Silent.reserved_silent}
use Rattle.dali_progress.proofs.laws.nothing_is_given_where_somebody_was_heard.Goals as goal

pub returns-clause-accounted : goal.returns-clause-accounted
returns-clause-accounted c = accounted

pub returns-clause-reserved : goal.returns-clause-reserved
returns-clause-reserved c = never_reserved

pub returns-clause-given : goal.returns-clause-given
returns-clause-given c = never_given

pub returns-clause-silent : goal.returns-clause-silent
returns-clause-silent c = reserved_silent
