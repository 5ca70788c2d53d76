use Rattle.std.specs.Prelude.{codes}
use Rattle.dali_world.specs.Site.{world}
use Rattle.dali_replay.specs.Json.{json_gear_before}
use Rattle.dali_replay.proofs.TextLemmas.{then_two}
use Rattle.dali_story.proofs.site.push_state.Goals as goal

pub returns : goal.returns
returns c =
    then_two _ _ _ _ (json_gear_before (world c.args.site.now) c.args.site.now.plan.gear) (codes "],\"tables\":[") c.args.tables.now
    c.in_ok-push_json_gear.ensures c.in_ok-push_str.ensures.bytes c.in_ok-push_str-2.ensures.bytes
