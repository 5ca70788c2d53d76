use Rattle.dali_c.proofs.Bytes.{records_once}
use Rattle.dali_c.proofs.laws.records_have_their_bytes.Goals as goal

pub returns : goal.returns
returns c = records_once
