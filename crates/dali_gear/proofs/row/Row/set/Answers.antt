use Rattle.std.proofs.Common.{ap, ◌∙◌, set}
use Rattle.std.proofs.lemmas.List.{set-set}
use Rattle.dali_gear.proofs.row.Row.set.Goals.{in-Some, in_default}
use Rattle.dali_gear.proofs.row.Row.set.Goals as goal

pub returns : goal.returns
returns c = elim c.match-half.branch [
  | in-Some w ↦ c.put.ensures ∙ ap (λ gs. set gs c.args.number c.args.gear) (w.self-is ∙ w.pair.ensures) ∙ set-set c.args.self.now c.args.number _ c.args.gear
  | in_default w ↦ c.put.ensures ∙ ap (λ gs. set gs c.args.number c.args.gear) w.self-is
]
