use Rattle.dali_commission_stores.proofs.Lines.{line}
use Rattle.dali_commission_stores.proofs.keeping.is_line.Goals as goal

pub returns : goal.returns
returns c = line c.args.name.now c.as_bytes.result.now c.contains.result c.as_bytes.ensures.value c.contains.ensures.value
