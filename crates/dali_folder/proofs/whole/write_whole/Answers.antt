use Rattle.std.proofs.Common.{[], ◌∷◌, ◌++◌}
use Rattle.dali_folder.specs.Events.{Creates, Writes, Syncs, Renames, SyncsFolder}
use Rattle.dali_folder.proofs.Tried.{goes_on, stops}
use Rattle.dali_folder.proofs.whole.write_whole.Goals as goal

pub returns-in_err-write_new : goal.returns-in_err-write_new
returns-in_err-write_new g c =
    stops g.D.Folder.did (Creates c.args.part.now ∷ Writes c.args.part.now c.args.text.now ∷ Syncs c.args.part.now ∷ [])
    (Renames c.args.part.now c.args.name.now ∷ SyncsFolder c.args.name.now ∷ []) c.args.folder.now
    c.write_new.new.folder c.from_residual.result c.from_residual.ensures.0 c.in_err-write_new.ensures

pub returns-in_err-rename : goal.returns-in_err-rename
returns-in_err-rename g c =
    goes_on g.D.Folder.did (Creates c.args.part.now ∷ Writes c.args.part.now c.args.text.now ∷ Syncs c.args.part.now ∷ [])
    (Renames c.args.part.now c.args.name.now ∷ SyncsFolder c.args.name.now ∷ []) c.args.folder.now
    c.write_new.new.folder c.rename.new.self c.from_residual-in_err-rename.result c.in_ok-write_new.ensures
    (stops g.D.Folder.did (Renames c.args.part.now c.args.name.now ∷ []) (SyncsFolder c.args.name.now ∷ []) c.write_new.new.folder
    c.rename.new.self c.from_residual-in_err-rename.result c.from_residual-in_err-rename.ensures.0 c.in_err-rename.ensures)

pub returns : goal.returns
returns g c =
    goes_on g.D.Folder.did (Creates c.args.part.now ∷ Writes c.args.part.now c.args.text.now ∷ Syncs c.args.part.now ∷ [])
    (Renames c.args.part.now c.args.name.now ∷ SyncsFolder c.args.name.now ∷ []) c.args.folder.now
    c.write_new.new.folder c.sync_folder.new.self c.sync_folder.result c.in_ok-write_new.ensures
    (goes_on g.D.Folder.did (Renames c.args.part.now c.args.name.now ∷ []) (SyncsFolder c.args.name.now ∷ []) c.write_new.new.folder
    c.rename.new.self c.sync_folder.new.self c.sync_folder.result c.in_ok-rename.ensures c.sync_folder.ensures)
