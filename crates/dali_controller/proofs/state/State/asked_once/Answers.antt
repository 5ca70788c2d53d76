use Rattle.std.proofs.Common.{sym, ap, ◌∙◌, ◌==◌}
use Rattle.dali_controller.{specs.{Next.{asked_once, begins_at}, States.machine_with}, proofs.Beginnings.{goes_on_moment, again_moment, high_between}}
use Rattle.dali_controller.proofs.state.State.asked_once.Goals as goal

pub returns-then-silences-eq0 : goal.returns-then-silences-eq0
returns-then-silences-eq0 c =
    let w = machine_with c.args.self.now c.args.kept.now in
    let h = c.requires.heard in
    let none = sym c.silences.ensures ∙ c.if-silences-eq0.true in
    goes_on_moment w _ _ (high_between w h.0 h.1 h.2) (ap (begins_at w) h.2.stage ∙ ap (λ n. asked_once w (n == 0)) none) c.go_on.ensures

pub begin-requires : goal.begin-requires
begin-requires c = c.requires.heard.2.knows

pub returns : goal.returns
returns c =
    let w = machine_with c.args.self.now c.args.kept.now in
    let h = c.requires.heard in
    again_moment w h.0 h.1 _ _ h.2 (λ e. c.if-silences-eq0.false (c.silences.ensures ∙ e)) c.begin.ensures
