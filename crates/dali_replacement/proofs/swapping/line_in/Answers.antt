use Rattle.std.proofs.Common.{arith}
use Rattle.dali_replacement.proofs.Reading.{line_first}
use Rattle.dali_replacement.proofs.swapping.line_in.Goals as goal

pub returns : goal.returns
returns c = λ line rest none is. line_first 10 c.args.text.now line rest c.split_once.result c.split_once.ensures.cases (omega arith) none is
