use Rattle.std.proofs.Common.{refl}
use Rattle.dali_script.{specs.Records.Has, proofs.Lists.has_place}
use Rattle.dali_script.proofs.pairs.not_there.Goals as goal

there : (c : goal.In-Some) → Has c.args.pairs.now (c.args.address, c.args.random)
there c = rw (← c.of.ensures.pair) (has_place c.args.pairs.now c.in-Some.field-0 c.of.result c.of.result c.in-Some.ensures.0 c.in-Some.ensures.1)

pub returns-in-Some-clause-there : goal.returns-in-Some-clause-there
returns-in-Some-clause-there c = (λ _. there c, λ _. refl)

pub returns-in-Some-clause-not_reserved : goal.returns-in-Some-clause-not_reserved
returns-in-Some-clause-not_reserved c = (λ e. absurd (cc), λ no. absurd (no (there c)))
