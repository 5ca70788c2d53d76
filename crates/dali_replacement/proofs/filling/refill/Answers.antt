use Rattle.dali_replacement.specs.Filling.{Fills}
use Rattle.dali_replacement.proofs.Putting.{puts_same, puts_further, puts_wider, enrols_also}
use Rattle.dali_replacement.proofs.filling.refill.Goals as goal

pub returns-clause-only : goal.returns-clause-only
returns-clause-only g c =
    puts_further g.K.Keep.is_up g.K.Keep.is_sound g.K.Keep.holds (Fills c.args.table.now.enrolled c.args.reserved.now) c.args.store.now
    c.read.new.self c.reserve_all.new.store
    (puts_same g.K.Keep.is_up g.K.Keep.is_sound g.K.Keep.holds _ _ _ c.read.ensures.up c.read.ensures.sound c.read.ensures.same)
    (puts_further g.K.Keep.is_up g.K.Keep.is_sound g.K.Keep.holds _ _ c.enrol_all.new.store _
    (puts_wider g.K.Keep.is_up g.K.Keep.is_sound g.K.Keep.holds _ _ _ _
    (enrols_also c.enrolled.result.now c.args.table.now.enrolled c.args.reserved.now c.enrolled.ensures.value)
    c.enrol_all.ensures.only)
    c.reserve_all.ensures.only)
