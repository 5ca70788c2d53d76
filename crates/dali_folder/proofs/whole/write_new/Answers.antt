use Rattle.std.proofs.Common.{[], ◌∷◌}
use Rattle.dali_folder.specs.Events.{Creates, Writes, Syncs}
use Rattle.dali_folder.proofs.Tried.{goes_on, stops}
use Rattle.dali_folder.proofs.whole.write_new.Goals as goal

pub returns-in_err-file : goal.returns-in_err-file
returns-in_err-file g c =
    stops g.D.Folder.did (Creates c.args.name.now ∷ []) (Writes c.args.name.now c.args.text.now ∷ Syncs c.args.name.now ∷ [])
    c.args.folder.now c.create.new.self c.from_residual.result c.from_residual.ensures.0 c.in_err-file.ensures.done

pub returns-in_err-write : goal.returns-in_err-write
returns-in_err-write g c =
    goes_on g.D.Folder.did (Creates c.args.name.now ∷ []) (Writes c.args.name.now c.args.text.now ∷ Syncs c.args.name.now ∷ [])
    c.args.folder.now c.create.new.self c.write.new.self c.from_residual-in_err-write.result c.in_ok-file.ensures.done
    (stops g.D.Folder.did (Writes c.args.name.now c.args.text.now ∷ []) (Syncs c.args.name.now ∷ []) c.create.new.self c.write.new.self
    c.from_residual-in_err-write.result c.from_residual-in_err-write.ensures.0
    (c.in_err-write.ensures.done c.args.name.now c.in_ok-file.ensures.named))

pub returns : goal.returns
returns g c =
    let named = c.in_ok-file.ensures.named in
    goes_on g.D.Folder.did (Creates c.args.name.now ∷ []) (Writes c.args.name.now c.args.text.now ∷ Syncs c.args.name.now ∷ [])
    c.args.folder.now c.create.new.self c.sync.new.self c.sync.result c.in_ok-file.ensures.done
    (goes_on g.D.Folder.did (Writes c.args.name.now c.args.text.now ∷ []) (Syncs c.args.name.now ∷ []) c.create.new.self c.write.new.self
    c.sync.new.self c.sync.result (c.in_ok-write.ensures.done c.args.name.now named)
    (c.sync.ensures c.args.name.now (c.in_ok-write.ensures.named c.args.name.now named)))
