use Rattle.std.proofs.Common.{inr}
use Rattle.dali_commission_files.proofs.Found.{read_by}
use Rattle.dali_commission_files.proofs.Told.{one_more}
use Rattle.dali_commission_files.proofs.files.open_one.Goals as goal

pub returns-clause-named : goal.returns-clause-named
returns-clause-named g c = one_more c.args.held.now.items c.add.new.list.items c.args.name _ c.in_ok-add.ensures.items

pub returns-clause-kept : goal.returns-clause-kept
returns-clause-kept g c =
    let (image, there, shown) = c.in_ok-conn.ensures.found in let read = c.in_ok-keep.ensures in (
      c.in_ok-keep.kept,
      c.in_ok-add-2.ensures.items,
      (
        image,
        there,
        inr (
          record { keep = c.in_ok-keep.keep },
          read_by image c.in_ok-conn.conn c.in_ok-keep.keep c.in_ok-keep.kept shown read.all.0 read.all.1 read.up read.kept,
        ),
      ),
    )
