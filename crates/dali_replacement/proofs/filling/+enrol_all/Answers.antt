use Rattle.std.proofs.Common.{[]}
use Rattle.dali_replacement.specs.Filling.{Fills}
use Rattle.dali_replacement.proofs.Putting.{puts_further, puts_wider, split, split, enrols_first, enrols_more}
use Rattle.dali_replacement.proofs.filling.+enrol_all.Goals as goal

pub returns-clause-only : goal.returns-clause-only
returns-clause-only g t c =
    puts_further g.K.Keep.is_up g.K.Keep.is_sound g.K.Keep.holds (Fills c.args.pairs.now []) c.args.store.now c.enrol.new.store c.enrol_all.new.store
    (puts_wider g.K.Keep.is_up g.K.Keep.is_sound g.K.Keep.holds _ _ _ _
    (enrols_first c.pair-item.result _ c.args.pairs.now (split _ _ c.pair-item.is c.in-len1-up.len_at_least)) c.enrol.ensures.only)
    (puts_wider g.K.Keep.is_up g.K.Keep.is_sound g.K.Keep.holds _ _ _ _
    (enrols_more c.pair-item.result _ c.args.pairs.now (split _ _ c.pair-item.is c.in-len1-up.len_at_least)) c.enrol_all.ensures.only)
