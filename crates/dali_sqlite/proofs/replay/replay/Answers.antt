use Rattle.std.proofs.Common.{◌≡◌, ◌∙◌, length, rules}
use Rattle.dali_sqlite.proofs.Known.{counted, replayed_block, replayed}
use Rattle.dali_sqlite.proofs.replay.replay.Goals as goal

pub returns-clause-block : goal.returns-clause-block
returns-clause-block g c = let made =
    c.in_ok-take_all.ensures.ok in replayed_block c.args.block c.new-kept.result c.take_all.new.kept made.0 c.new-kept.ensures made.3

pub returns-clause-known : goal.returns-clause-known
returns-clause-known g c clean has =
    let made = c.in_ok-take_all.ensures.ok in
    let rows = rw c.deref.ensures.value at made.1 in
    let count : c.len-count.result ≡ length c.in_ok-rows.rows.items = search rules in (
      made.0,
      c.in_ok-rows.ensures.found clean has made.0 rows,
      (
        replayed c.args.block c.new-kept.result c.take_all.new.kept made.0 c.new-kept.ensures made.2 made.3,
        count
            ∙ counted c.in_ok-rows.rows.items made.0 rows,
      ),
    )
