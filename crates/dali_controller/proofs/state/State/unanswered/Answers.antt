use Rattle.std.proofs.Common.{inl, sym, ap, ◌∙◌, Some}
use Rattle.dali_controller.{specs.Course.address_for, specs.States.machine_with, proofs.Beginnings.resolved_moment, proofs.Courses.address_is}
use Rattle.dali_controller.proofs.state.State.unanswered.Goals as goal

pub silenced-requires-clause-heard : goal.silenced-requires-clause-heard
silenced-requires-clause-heard c = (c.args.number, inl c.requires)

pub returns-in-Some : goal.returns-in-Some
returns-in-Some c =
    let w = (machine_with c.args.self.now c.args.kept.now) in
    let k = c.in-Some.ensures.kept in
    let reserved = address_is w.kept.reserved c.value.result (Some c.in-Some.short) k.reserved.random_once c.in-Some.ensures.value in
    resolved_moment w c.args.number c.in-Some.short _ _ c.requires (sym c.is_searching.ensures ∙ c.if-not-is_searching.true)
    (ap (address_for w.kept.reserved) (sym c.value.ensures) ∙ sym reserved) c.resolve.ensures
