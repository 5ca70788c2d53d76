use Rattle.dali_commission_files.specs.Folders.{HasSeen}
use Rattle.dali_commission_files.proofs.Told.{split, one_read}
use Rattle.dali_commission_files.proofs.files.+open_all.Goals as goal

pub returns-clause-read : goal.returns-clause-read
returns-clause-read g n c =
    one_read (HasSeen g.B.Folder.saw g.B.Databases.lies) c.args.databases.now c.name-item.result c.as_str.result.now _ _ _ _ _ c.open_all.result
    (split _ _ c.name-item.is c.in-len1-up.len_at_least) c.as_str.ensures.value c.in_default-open_one.ensures.kept c.open_all.ensures.read
