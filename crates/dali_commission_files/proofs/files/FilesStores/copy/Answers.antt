use Rattle.std.proofs.Common.{Bool, inl, subst}
use Rattle.dali_folder.specs.Events.{Has}
use Rattle.dali_sqlite.specs.Keep.{block_of}
use Rattle.dali_commission_files.proofs.files.FilesStores.copy.Goals as goal

pub returns : goal.returns
returns g c =
    let (image, there, whole, ours, store) = c.in_ok-keep.ensures.copy in let all = c.in_ok-keep.ensures.all in (
      subst (λ (b : Bool). g.F.Folder.saw c.args.self.now.folder (Has c.args.journal.now b)) c.if-has.false c.has.ensures,
      (
        all.0,
        all.1,
        λ at kept read. (
          image,
          there,
          inl (
            at,
            (
              block_of c.in_ok-keep.keep,
              all.0,
              all.1,
              λ up xs held. let so = store (read.stays.up up) xs held in read.replay so.0 up xs so.1,
            ),
          ),
        ),
      ),
    )
