use Rattle.std.proofs.Common.{◌≡◌, List, length, ◌∙◌, sym, subst, All, ◌↔◌, IsTrue}
use Rattle.dali_world.specs.Site.{SiteState}
use Rattle.dali_line.{specs.Counts.AreInOrder, specs.Shares.PortShare, proofs.Closing.IsExact, proofs.Closing.all_there}
use Rattle.dali_line.proofs.counted.CountedSite.close.Goals as goal

pub returns-clause-ports : goal.returns-clause-ports
returns-clause-ports g c =
    subst (λ (s : SiteState). All (IsExact s.log) c.args.ports.items) (sym c.audit_all.ensures.site)
    (subst (All (IsExact c.audit_driver.new.self.site.log)) c.as_mut_slice-ports.ensures.value c.audit_all.ensures.exact)

pub returns-clause-all : goal.returns-clause-all
returns-clause-all g c =
    let whole = c.has_all-has_all.result in
    let given = subst (λ (ps : List PortShare). IsTrue whole ↔ ((length ps ≡ length c.audit_all.new.self.site.plan.blocks) × AreInOrder ps))
    (c.audit_all.ensures.ports ∙ c.as_mut_slice-ports.ensures.value) c.has_all-has_all.ensures.all in
    all_there c.audit_all.new.self.site c.args.ports.items whole c.has_all-has_all.ensures.few (returns-clause-ports g c) given
