use Rattle.std.proofs.Common.{[], ◌∷◌}
use Rattle.dali_folder.specs.Events.{Removes, SyncsFolder}
use Rattle.dali_folder.proofs.Tried.{goes_on, stops}
use Rattle.dali_folder.proofs.whole.remove_whole.Goals as goal

pub returns-in_err-remove : goal.returns-in_err-remove
returns-in_err-remove g c =
    stops g.D.Folder.did (Removes c.args.at.now ∷ []) (SyncsFolder c.args.at.now ∷ []) c.args.folder.now c.remove.new.self
    c.from_residual.result c.from_residual.ensures.0 c.in_err-remove.ensures

pub returns : goal.returns
returns g c =
    goes_on g.D.Folder.did (Removes c.args.at.now ∷ []) (SyncsFolder c.args.at.now ∷ []) c.args.folder.now c.remove.new.self
    c.sync_folder.new.self c.sync_folder.result c.in_ok-remove.ensures c.sync_folder.ensures
