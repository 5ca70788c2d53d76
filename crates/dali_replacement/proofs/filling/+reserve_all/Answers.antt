use Rattle.dali_replacement.specs.Filling.{Fills}
use Rattle.dali_replacement.proofs.Putting.{puts_further, puts_wider, split, reserves_first, reserves_more}
use Rattle.dali_replacement.proofs.filling.+reserve_all.Goals as goal

pub returns-clause-only : goal.returns-clause-only
returns-clause-only g t c =
    puts_further g.K.Keep.is_up g.K.Keep.is_sound g.K.Keep.holds (Fills c.args.table.now.enrolled c.args.pairs.now) c.args.store.now
    c.reserve_if.new.store c.reserve_all.new.store
    (puts_wider g.K.Keep.is_up g.K.Keep.is_sound g.K.Keep.holds _ _ _ _
    (reserves_first c.args.table.now.enrolled c.pair-item.result _ c.args.pairs.now (split _ _ c.pair-item.is c.in-len1-up.len_at_least))
    c.reserve_if.ensures.only)
    (puts_wider g.K.Keep.is_up g.K.Keep.is_sound g.K.Keep.holds _ _ _ _
    (reserves_more c.args.table.now.enrolled c.pair-item.result _ c.args.pairs.now (split _ _ c.pair-item.is c.in-len1-up.len_at_least))
    c.reserve_all.ensures.only)
