use Rattle.std.proofs.Common.{◌∙◌, ap, subst, [], ◌∷◌, ◌++◌}
use Rattle.dali_replacement.specs.Tables.{IsGathered, AreOf}
use Rattle.dali_commission_mended.specs.Tellings.{AreMendsTold}
use Rattle.dali_commission_mended.proofs.Mended.{unread_over, mended_so}
use Rattle.dali_commission_mended.proofs.mending.Mender.over.Goals as goal

pub returns : goal.returns
returns g c =
    unread_over _ _ _ _ _ (g.K.Keep.block c.kept.new.store) g.R.Read.remaining g.W.Write.contents (g.S.Voice.told c.args.self.system.now)
    c.args.self.others.now c.args.self.wanted.now c.args.self.tables.items c.args.store.now c.kept.new.store c.came_to_or_not-came.new.store
    c.kept-2.new.store c.args.session.now (record { driver = c.came_to_or_not-came.new.driver; report = c.note_lines.new.self }) c.note_lines.result
    c.in_ok-before.before c.in-Ok.table c.came_to_or_not-came.new.mended.items c.came_to_or_not-came.result.report
    c.came_to_or_not-came.result.ended c.in-Err-kept.failure
    c.in_ok-before.ensures.block c.in_ok-before.ensures.read
    (subst (λ ts. IsGathered 64 ts c.in-Ok.table)
    (c.deref.ensures.value ∙ c.in_ok-add.ensures ∙ ap (λ k. c.args.self.tables.items ++ k ∷ []) c.copy.ensures) c.in-Ok.ensures.all)
    (subst (λ ts. AreOf c.in-Ok.table.enrolled [] ts)
    (c.deref.ensures.value ∙ c.in_ok-add.ensures ∙ ap (λ k. c.args.self.tables.items ++ k ∷ []) c.copy.ensures) c.in-Ok.ensures.of)
    c.came_to_or_not-came.ensures c.note_lines.ensures.ended c.in-Err-kept.ensures.failed c.note_lines.ensures.report

pub returns-in-Ok-kept : goal.returns-in-Ok-kept
returns-in-Ok-kept g c =
    mended_so _ _ _ _ _ (g.K.Keep.block c.kept.new.store) g.R.Read.remaining g.W.Write.contents (g.S.Voice.told c.args.self.system.now)
    c.args.self.others.now c.args.self.wanted.now c.args.self.tables.items c.args.store.now c.kept.new.store c.came_to_or_not-came.new.store
    c.kept-2.new.store c.args.session.now (record { driver = c.came_to_or_not-came.new.driver; report = c.told.new.report }) c.told.result
    c.in_ok-before.before c.in-Ok.table c.in-Ok-kept.after c.came_to_or_not-came.new.mended.items _ c.came_to_or_not-came.result.report
    c.came_to_or_not-came.result.ended
    c.in_ok-before.ensures.block c.in_ok-before.ensures.read
    (subst (λ ts. IsGathered 64 ts c.in-Ok.table)
    (c.deref.ensures.value ∙ c.in_ok-add.ensures ∙ ap (λ k. c.args.self.tables.items ++ k ∷ []) c.copy.ensures) c.in-Ok.ensures.all)
    (subst (λ ts. AreOf c.in-Ok.table.enrolled [] ts)
    (c.deref.ensures.value ∙ c.in_ok-add.ensures ∙ ap (λ k. c.args.self.tables.items ++ k ∷ []) c.copy.ensures) c.in-Ok.ensures.of)
    c.came_to_or_not-came.ensures c.in-Ok-kept.ensures.read
    (subst (AreMendsTold (g.S.Voice.told c.args.self.system.now) c.in-Ok-kept.after) c.deref-in-Ok-kept.ensures.value c.say_mended.ensures)
    c.told.ensures.told c.told.ensures.ended c.told.ensures.report
