use Rattle.std.proofs.Common.{◌∙◌}
use Rattle.dali_commission_stores.proofs.Steps.{then, unless, announced, set_aside, placed, forgotten}
use Rattle.dali_commission_stores.proofs.Steps.{announced_in_part, set_aside_in_part, placed_in_part, forgotten_in_part}
use Rattle.dali_commission_stores.proofs.settling.does.Goals as goal

pub returns-in_ok-text-in-Announce-clause-done : goal.returns-in_ok-text-in-Announce-clause-done
returns-in_ok-text-in-Announce-clause-done g c =
    then _ _ _ (λ done. announced g.F.Stores.made c.args.swap.now c.args.step c.in-Announce.number _ _ _ c.args.stores.now c.write.new.self c.in-Announce.is
    c.in_ok-name_at-in-Announce.ensures
    (c.deref.ensures ∙ c.in_ok-journal-in-Announce.ensures) (c.deref-in-Announce.ensures ∙ c.in_ok-text-in-Announce.ensures) done) c.write.ensures.made

pub returns-in_ok-text-in-Announce-clause-left : goal.returns-in_ok-text-in-Announce-clause-left
returns-in_ok-text-in-Announce-clause-left g c =
    unless _ _ _ (λ begun. announced_in_part g.F.Stores.made g.F.Stores.began c.args.swap.now c.args.step
    c.in-Announce.number _ _ _ c.args.stores.now c.write.new.self c.in-Announce.is
    c.in_ok-name_at-in-Announce.ensures
    (c.deref.ensures ∙ c.in_ok-journal-in-Announce.ensures) (c.deref-in-Announce.ensures ∙ c.in_ok-text-in-Announce.ensures) begun) c.write.ensures.began

pub returns-in_ok-kept_of-in-SetAside-clause-done : goal.returns-in_ok-kept_of-in-SetAside-clause-done
returns-in_ok-kept_of-in-SetAside-clause-done g c =
    then _ _ _ (λ done. set_aside g.F.Stores.made c.args.swap.now c.args.step c.in-SetAside.number c.number.result _ _ c.args.stores.now
    c.rename.new.self c.in-SetAside.is c.in_ok-name-in-SetAside.ensures c.number.ensures
    (c.deref-in-SetAside.ensures ∙ c.in_ok-kept_of-in-SetAside.ensures) done) c.rename.ensures.made

pub returns-in_ok-kept_of-in-SetAside-clause-left : goal.returns-in_ok-kept_of-in-SetAside-clause-left
returns-in_ok-kept_of-in-SetAside-clause-left g c =
    unless _ _ _ (λ begun. set_aside_in_part g.F.Stores.made g.F.Stores.began c.args.swap.now c.args.step
    c.in-SetAside.number c.number.result _ _ c.args.stores.now
    c.rename.new.self c.in-SetAside.is c.in_ok-name-in-SetAside.ensures c.number.ensures
    (c.deref-in-SetAside.ensures ∙ c.in_ok-kept_of-in-SetAside.ensures) begun) c.rename.ensures.began

pub returns-in_ok-kept_of-in-Place-clause-done : goal.returns-in_ok-kept_of-in-Place-clause-done
returns-in_ok-kept_of-in-Place-clause-done g c =
    then _ _ _ (λ done. placed g.F.Stores.made c.args.swap.now c.args.step c.in-Place.number c.number-in-Place.result _ _ _ _ c.args.stores.now
    c.liken.new.self c.rename-in-Place.new.self c.in-Place.is
    c.in_ok-name-in-Place.ensures c.number-in-Place.ensures
    (c.deref-in-Place.ensures ∙ c.in_ok-new-in-Place.ensures) (c.deref-in-Place-2.ensures ∙ c.in_ok-kept_of-in-Place.ensures)
    (c.deref-in-Place-3.ensures ∙ c.in_ok-new-in-Place.ensures) c.liken.ensures done) c.rename-in-Place.ensures.made

pub returns-in_ok-kept_of-in-Place-clause-left : goal.returns-in_ok-kept_of-in-Place-clause-left
returns-in_ok-kept_of-in-Place-clause-left g c =
    unless _ _ _ (λ begun. placed_in_part g.F.Stores.made g.F.Stores.began c.args.swap.now c.args.step
    c.in-Place.number c.number-in-Place.result _ _ _ _ c.args.stores.now
    c.liken.new.self c.rename-in-Place.new.self c.in-Place.is
    c.in_ok-name-in-Place.ensures c.number-in-Place.ensures
    (c.deref-in-Place.ensures ∙ c.in_ok-new-in-Place.ensures) (c.deref-in-Place-2.ensures ∙ c.in_ok-kept_of-in-Place.ensures)
    (c.deref-in-Place-3.ensures ∙ c.in_ok-new-in-Place.ensures) c.liken.ensures begun) c.rename-in-Place.ensures.began

pub returns-in_ok-journal_of-in-Forget-clause-done : goal.returns-in_ok-journal_of-in-Forget-clause-done
returns-in_ok-journal_of-in-Forget-clause-done g c =
    then _ _ _ (λ done. forgotten g.F.Stores.made c.args.swap.now c.args.step c.in-Forget.number _ _ c.args.stores.now c.remove.new.self c.in-Forget.is
    c.in_ok-name_at-in-Forget.ensures
    (c.deref-in-Forget.ensures ∙ c.in_ok-journal_of-in-Forget.ensures) done) c.remove.ensures.made

pub returns-in_ok-journal_of-in-Forget-clause-left : goal.returns-in_ok-journal_of-in-Forget-clause-left
returns-in_ok-journal_of-in-Forget-clause-left g c =
    unless _ _ _ (λ begun. forgotten_in_part g.F.Stores.made g.F.Stores.began c.args.swap.now c.args.step
    c.in-Forget.number _ _ c.args.stores.now c.remove.new.self c.in-Forget.is
    c.in_ok-name_at-in-Forget.ensures
    (c.deref-in-Forget.ensures ∙ c.in_ok-journal_of-in-Forget.ensures) begun) c.remove.ensures.began
