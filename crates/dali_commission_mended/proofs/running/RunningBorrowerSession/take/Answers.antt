use Rattle.std.proofs.Common.{refl, sym, ◌∙◌}
use Rattle.std.proofs.lemmas.Bool.{false≢true}
use Rattle.dali_commission_mended.proofs.Mended.{ran_only, ran_and_mended}
use Rattle.dali_commission_mended.proofs.running.RunningBorrowerSession.take.Goals as goal
use Rattle.dali_commission_mended.proofs.running.RunningBorrowerSession.take.Goals.{else-self-via-then-self+else-has_shared, else-self-via-else-self}

pub returns-then-has_shared : goal.returns-then-has_shared
returns-then-has_shared g c =
    ran_and_mended _ _ _ _ _ (g.K.Keep.block c.kept.new.store) (g.K.Keep.block c.runs-ended.new.store) _ _ _ _ c.args.self.setup.now _ c.kept.new.store
    c.runs-ended.new.store _ _ _ _ c.in_ok-before.before c.runs-ended.result c.mends.result c.in_ok-before.ensures.block
    (c.runs-ended.ensures.block ∙ c.in_ok-before.ensures.block) c.in_ok-before.ensures.read c.runs-ended.ensures.ran
    c.if-self.true (c.if-has_shared.ensures.0 refl) c.mends.ensures

pub returns-else-self : goal.returns-else-self
returns-else-self g c =
    ran_only _ _ _ _ _ (g.K.Keep.block c.kept.new.store) _ _ _ _ c.args.self.setup.now _ c.kept.new.store _ _ _ c.in_ok-before.before
    c.runs-ended.result c.in_ok-before.ensures.block c.in_ok-before.ensures.read c.runs-ended.ensures.ran (elim (c.else-self.branch) [
      | else-self-via-then-self+else-has_shared w ↦ λ mends shared. absurd (false≢true (w.if-has_shared.ensures.1 shared))
      | else-self-via-else-self w ↦ λ mends shared. absurd (false≢true (sym w.if-self.false ∙ mends))
    ])
