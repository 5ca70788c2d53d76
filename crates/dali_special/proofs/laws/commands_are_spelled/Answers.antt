use Rattle.dali_special.proofs.Table.{written_read, read_written, read_spelled, one_frame}
use Rattle.dali_special.proofs.laws.commands_are_spelled.Goals as goal

pub returns : goal.returns
returns c = record { written = written_read; read = read_written; spelled = read_spelled; one_frame = one_frame }
