use Rattle.std.proofs.Common.{rules, ◌≡◌, ◌∙◌, ap, length, length-drop, arith}
use Rattle.std.proofs.lemmas.List.{take_rest}
use Rattle.dali_events.proofs.Invariant.Takes.{row_length}
use Rattle.dali_standing.proofs.Rows.{taken_is}
use Rattle.dali_standing.proofs.fitted.FittedGear.take.Goals as goal

pub invariant_of-self : goal.invariant_of-self
invariant_of-self c =
    let same : length c.take-heard.new.self ≡ length c.self.inside.gear = ap (λ gs. length gs) c.take-heard.ensures.gear ∙ row_length _ _ _ _ _ in
    let enough = rw (← c.self.view_is, length-drop) at c.requires.draws in
    let used = c.self.invariant.0 in
    (omega arith, search rules, c.self.invariant.2, search rules)

pub returns-clause-state : goal.returns-clause-state
returns-clause-state c =
    let taken = rw (take_rest, c.deref.ensures.value) at c.take-heard.ensures.gear in
    taken_is c.args.reach _ _ c.self.inside.gear _ c.self.inside.draws.items c.self.inside.used c.take-heard.result.drawn c.self.inside.gifts.items _
    c.self.view_is (search rules) taken (search rules)
