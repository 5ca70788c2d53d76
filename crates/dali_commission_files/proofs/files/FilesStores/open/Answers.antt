use Rattle.dali_commission_files.proofs.Found.{lends}
use Rattle.dali_commission_files.proofs.files.FilesStores.open.Goals as goal

pub returns-in-Ok-clause-opens : goal.returns-in-Ok-clause-opens
returns-in-Ok-clause-opens g c =
    lends g.F.Databases.lies c.args.self.now.folder c.name-name.result.now c.args.seen.now.name.now c.in_ok-conn.conn c.in-Ok.keep c.name-name.ensures
    c.in_ok-conn.ensures.found c.in-Ok.ensures.sound c.in-Ok.ensures.same c.in-Ok.ensures.up
