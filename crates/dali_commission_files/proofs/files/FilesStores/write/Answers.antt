use Rattle.std.proofs.Common.{List, ℕ, subst, ◌∙◌}
use Rattle.dali_folder.specs.Events.{AreTried, writing}
use Rattle.dali_folder.proofs.Tried.{some_begun}
use Rattle.dali_commission_files.proofs.files.FilesStores.write.Goals as goal

pub returns-clause-began : goal.returns-clause-began
returns-clause-began g c =
    some_begun g.F.Folder.did _ c.args.self.now.folder c.write_whole.new.folder c.write_whole.result c.answered.result
    (subst (λ (at : List ℕ). AreTried g.F.Folder.did (writing at c.args.name.now c.args.text.now)
    c.args.self.now.folder c.write_whole.new.folder c.write_whole.result)
    (c.deref.ensures ∙ c.in_ok-part.ensures.made) c.write_whole.ensures)
