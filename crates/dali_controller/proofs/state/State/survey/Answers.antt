use Rattle.dali_controller.{specs.States.machine_with, proofs.{Beginnings.{unstarted_moment, moment_ordered, moment_state}, Courses.followed_survey}}
use Rattle.dali_controller.proofs.Legs.{unstarted_leg}
use Rattle.dali_controller.proofs.state.State.survey.Goals as goal

pub returns : goal.returns
returns c =
    let w = machine_with c.args.self.now c.args.kept.now in
    let b = c.go_on.ensures in
    let m = unstarted_moment w _ _ _ (machine_with c.go_on.new.self c.args.kept.now) c.requires.whole c.requires.unstarted
    (rw (unstarted_leg c.args.self.now c.args.kept.now c.requires.whole c.requires.unstarted) (record { order = b.order; state = b.state; knows = b.knows })) in
    record {
      followed = followed_survey w c.go_on.result c.requires.whole c.requires.unstarted;
      begins = m.begins;
      step = record { order = moment_ordered _ _ _ m; state = moment_state _ _ _ m };
      whole = m.whole;
    }
