use Rattle.std.proofs.Common.{◌∙◌, ap}
use Rattle.dali_script.specs.Records.{without_records}
use Rattle.dali_commissioning.specs.Drivers.{talk_of}
use Rattle.dali_commission_mended.proofs.Cut.{to_cut}
use Rattle.dali_commission_mended.proofs.mending.came_to.Goals as goal

pub returns-then-has_heard-clause-failed : goal.returns-then-has_heard-clause-failed
returns-then-has_heard-clause-failed g c =
    to_cut g.K.Keep.is_up g.K.Keep.is_sound g.K.Keep.holds g.K.Keep.kept (g.K.Keep.block c.args.store.now) c.args.site.now.table.now
    c.args.site.now.before.now c.args.site.now.others.now c.args.site.now.wanted.now c.new.result c.in-Ok.replies.items c.deref.result.now
    c.mends_by.new.store (talk_of g.R.Read.remaining g.W.Write.contents c.args.driver.now)
    (talk_of g.R.Read.remaining g.W.Write.contents c.take_census.new.driver) (talk_of g.R.Read.remaining g.W.Write.contents c.mends_by.new.driver)
    c.mends_by.result (c.new.ensures ∙ ap (λ b. without_records b) c.block.ensures.value) c.in-Ok.ensures.counted c.deref.ensures.0
    c.mends_by.ensures.failed
