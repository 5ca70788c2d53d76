use Rattle.dali_replay.proofs.TextLemmas.{then_two}
use Rattle.dali_replay.proofs.json.push_state.Goals as goal

pub returns-in_ok-push_tables-in-Site : goal.returns-in_ok-push_tables-in-Site
returns-in_ok-push_tables-in-Site c =
    rw c.in-Site.is (then_two _ _ _ _ _ _ _ (rw c.site.ensures at c.in_ok-push_json_gear-in-Site.ensures)
    c.in_ok-push_str-in-Site.ensures.bytes c.in_ok-push_tables-in-Site.ensures)
