use Rattle.std.proofs.{Common.{◌≡◌, ◌∙◌, arith}, lemmas.Bool.Decides.nat_tests}
use Rattle.dali_script.proofs.{Giving.one_address, Lists.{has_map, reserved_fits}}
use Rattle.dali_controller.{specs.States.machine_with, proofs.{Beginnings.enrolled_moment, state.State.enrolled.Goals.in_default-via-in-Some+else-ne}}
use Rattle.dali_controller.proofs.state.State.enrolled.Goals.{in_default-via-in_default}
use Rattle.dali_controller.proofs.state.State.enrolled.Goals as goal

pub commit-requires-clause-fits : goal.commit-requires-clause-fits
commit-requires-clause-fits c = reserved_fits c.args.kept.now c.in-Some.other c.args.random c.in-Some.ensures.kept c.in-Some.ensures.value

-- the address that is reserved is the one that it has, or none is reserved
pub returns-in_default-clause-enrolled : goal.returns-in_default-clause-enrolled
returns-in_default-clause-enrolled c =
    let reserved = c.args.kept.now.reserved in
    let once = c.reserved_for.ensures.kept.reserved.random_once in
    rw c.go_on.ensures.order (elim c.in_default.branch [
      | in_default-via-in-Some+else-ne w ↦ λ a has.
          let same : w.in-Some.other ≡ c.args.short = grind (arith, nat_tests, w.if-ne.false) in
          one_address reserved a w.in-Some.other c.args.random once has w.in-Some.ensures.value ∙ same
      | in_default-via-in_default w ↦ λ a has. absurd (w.in_default.ensures.value (has_map (λ q. q.1) reserved (a, c.args.random) has))
    ])

pub returns-in_default-clause-moment : goal.returns-in_default-clause-moment
returns-in_default-clause-moment c = enrolled_moment (machine_with c.args.self.now c.args.kept.now) c.args.short c.args.random _ _ c.requires c.go_on.ensures
