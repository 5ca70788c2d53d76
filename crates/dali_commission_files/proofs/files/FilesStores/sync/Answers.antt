use Rattle.std.proofs.Common.{[], ◌∷◌}
use Rattle.dali_folder.specs.Events.{SyncsFolder}
use Rattle.dali_folder.proofs.Tried.{some_begun}
use Rattle.dali_commission_files.proofs.files.FilesStores.sync.Goals as goal

pub returns-clause-began : goal.returns-clause-began
returns-clause-began g c =
    some_begun g.F.Folder.did (SyncsFolder c.args.name.now ∷ []) c.args.self.now.folder c.sync_folder.new.self c.sync_folder.result c.answered.result
    c.sync_folder.ensures
