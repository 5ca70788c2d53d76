use Rattle.dali_threads.proofs.Pushed.{pushed, tables_are}
use Rattle.dali_threads.proofs.report.push_up_tables.Goals as goal

pub returns : goal.returns
returns c =
    pushed c.push_json_tables.result _ _ _ _ _ _ (tables_are c.args.site.now) c.in_ok-push_str.ensures.bytes c.push_json_tables.ensures
