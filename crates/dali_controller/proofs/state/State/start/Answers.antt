use Rattle.dali_controller.{specs.States.machine_with, proofs.{Beginnings.{unstarted_moment, moment_ordered, moment_state}, Courses.followed_start}}
use Rattle.dali_controller.proofs.state.State.start.Goals as goal

pub returns : goal.returns
returns c =
    let w = machine_with c.args.self.now c.args.kept.now in
    let m = unstarted_moment w _ _ _ _ c.requires.whole c.requires.unstarted c.go_on.ensures in
    record {
      followed = followed_start w c.go_on.result c.requires.whole c.requires.unstarted;
      begins = m.begins;
      step = record { order = moment_ordered _ _ _ m; state = moment_state _ _ _ m };
      whole = m.whole;
    }
