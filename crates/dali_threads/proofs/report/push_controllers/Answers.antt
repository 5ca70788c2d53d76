use Rattle.dali_threads.proofs.Pushed.{pushed, controllers_are}
use Rattle.dali_threads.proofs.report.push_controllers.Goals as goal

pub returns : goal.returns
returns c =
    pushed c.push_json_outcomes.result _ _ _ _ _ _ (controllers_are c.args.outcomes.now) c.in_ok-push_str.ensures.bytes c.push_json_outcomes.ensures
