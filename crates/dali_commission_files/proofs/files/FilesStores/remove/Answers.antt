use Rattle.dali_folder.specs.Events.{removing}
use Rattle.dali_folder.proofs.Tried.{some_begun}
use Rattle.dali_commission_files.proofs.files.FilesStores.remove.Goals as goal

pub returns-clause-began : goal.returns-clause-began
returns-clause-began g c =
    some_begun g.F.Folder.did (removing c.args.name.now) c.args.self.now.folder c.remove_whole.new.folder c.remove_whole.result c.answered.result
    c.remove_whole.ensures
