use Rattle.std.proofs.Common.{ap, sym, ◌∙◌}
use Rattle.dali_controller.specs.{Legs.way_on, Next.{beginning, most_silent}, States.machine_with, declared.way.Way.TheVariants.{Fresh, Surveying}}
use Rattle.dali_controller.proofs.Beginnings.{silenced_moment, silenced_closes, silenced_anew, visited_leg, failed_visit}
use Rattle.dali_controller.proofs.state.State.silenced.Goals as goal

pub returns-then-self-most_silent-clause-moment : goal.returns-then-self-most_silent-clause-moment
returns-then-self-most_silent-clause-moment c =
    let w = machine_with c.args.self.now c.args.kept.now in
    silenced_moment w c.requires.heard.0 _ _ c.requires.heard.1 c.requires.next
    (silenced_closes w _ _ (c.if-self-most_silent.true ∙ c.most_silent.ensures ∙ ap most_silent c.way.ensures) c.close.ensures)

pub returns-in-Hunting-clause-moment : goal.returns-in-Hunting-clause-moment
returns-in-Hunting-clause-moment c =
    let w = machine_with c.args.self.now c.args.kept.now in
    silenced_moment w c.requires.heard.0 _ _ c.requires.heard.1 c.requires.next
    (silenced_anew w Surveying _ _ (λ e. c.if-self-most_silent.false (e ∙ sym (c.most_silent.ensures ∙ ap most_silent c.way.ensures)))
    (ap way_on c.in-Hunting.is) c.missed.ensures)

pub returns-in-Revisiting : goal.returns-in-Revisiting
returns-in-Revisiting c =
    let w = machine_with c.args.self.now c.args.kept.now in
    let fresh = visited_leg c.args.self.now.leg c.args.kept.now c.args.self.now.number c.in-Revisiting.is
    (failed_visit w c.requires.heard.0 c.requires.heard.1) in
    let begun = silenced_anew w Fresh _ _ (λ e. c.if-self-most_silent.false (e ∙ sym (c.most_silent.ensures ∙ ap most_silent c.way.ensures))) fresh
    c.go_on.ensures in
    record {
      starts = begun.order ∙ ap beginning (sym c.requires.next);
      moment = silenced_moment w c.requires.heard.0 _ _ c.requires.heard.1 c.requires.next begun;
    }
