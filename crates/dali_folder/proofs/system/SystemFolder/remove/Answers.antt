use Rattle.std.proofs.Common.{refl}
use Rattle.dali_folder.proofs.system.SystemFolder.remove.Goals as goal

pub returns-in_default : goal.returns-in_default
returns-in_default g c = (c.args.self.now, tt, refl)

pub returns-in_default-2 : goal.returns-in_default-2
returns-in_default-2 g c = (c.args.self.now, tt, refl)
