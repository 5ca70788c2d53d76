use Rattle.std.proofs.Common.{[], ◌∷◌, ◌++◌}
use Rattle.dali_folder.specs.Events.{Renames, SyncsFolder, removing}
use Rattle.dali_folder.proofs.Tried.{goes_on, stops}
use Rattle.dali_folder.proofs.whole.rename_whole.Goals as goal

pub returns-in_err-remove_whole : goal.returns-in_err-remove_whole
returns-in_err-remove_whole g c =
    stops g.D.Folder.did (removing c.args.log.now) (Renames c.args.from.now c.args.to.now ∷ SyncsFolder c.args.to.now ∷ []) c.args.folder.now
    c.remove_whole.new.folder c.from_residual.result c.from_residual.ensures.0 c.in_err-remove_whole.ensures

pub returns-in_err-rename : goal.returns-in_err-rename
returns-in_err-rename g c =
    goes_on g.D.Folder.did (removing c.args.log.now) (Renames c.args.from.now c.args.to.now ∷ SyncsFolder c.args.to.now ∷ []) c.args.folder.now
    c.remove_whole.new.folder c.rename.new.self c.from_residual-in_err-rename.result c.in_ok-remove_whole.ensures
    (stops g.D.Folder.did (Renames c.args.from.now c.args.to.now ∷ []) (SyncsFolder c.args.to.now ∷ []) c.remove_whole.new.folder c.rename.new.self
    c.from_residual-in_err-rename.result c.from_residual-in_err-rename.ensures.0 c.in_err-rename.ensures)

pub returns : goal.returns
returns g c =
    goes_on g.D.Folder.did (removing c.args.log.now) (Renames c.args.from.now c.args.to.now ∷ SyncsFolder c.args.to.now ∷ []) c.args.folder.now
    c.remove_whole.new.folder c.sync_folder.new.self c.sync_folder.result c.in_ok-remove_whole.ensures
    (goes_on g.D.Folder.did (Renames c.args.from.now c.args.to.now ∷ []) (SyncsFolder c.args.to.now ∷ []) c.remove_whole.new.folder
    c.rename.new.self c.sync_folder.new.self c.sync_folder.result c.in_ok-rename.ensures c.sync_folder.ensures)
