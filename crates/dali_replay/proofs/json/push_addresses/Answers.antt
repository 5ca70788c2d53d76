use Rattle.std.specs.Prelude.{codes}
use Rattle.dali_replay.{specs.Json.json_numbers, specs.Json.json_short, proofs.TextLemmas.then_two}
use Rattle.dali_replay.proofs.json.push_addresses.Goals as goal

pub returns : goal.returns
returns c =
    then_two _ _ _ _ (json_numbers c.args.gear.now) (json_short c.args.gear.now.short) (codes "}")
    (rw (c.random-random.ensures, c.value-search.ensures, c.search.ensures) at c.in_ok-write.ensures.bytes)
    (rw c.short.ensures at c.in_ok-push_short.ensures) c.in_ok-push_str.ensures.bytes
