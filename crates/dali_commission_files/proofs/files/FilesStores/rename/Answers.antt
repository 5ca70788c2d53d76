use Rattle.std.proofs.Common.{List, ℕ, subst, ◌∙◌}
use Rattle.dali_folder.specs.Events.{AreTried, renaming}
use Rattle.dali_folder.proofs.Tried.{some_begun}
use Rattle.dali_commission_files.proofs.files.FilesStores.rename.Goals as goal

pub returns-clause-began : goal.returns-clause-began
returns-clause-began g c =
    some_begun g.F.Folder.did _ c.args.self.now.folder c.rename_whole.new.folder c.rename_whole.result c.answered.result
    (subst (λ (at : List ℕ). AreTried g.F.Folder.did (renaming at c.args.from.now c.args.to.now)
    c.args.self.now.folder c.rename_whole.new.folder c.rename_whole.result)
    (c.deref.ensures ∙ c.in_ok-log.ensures.made) c.rename_whole.ensures)
