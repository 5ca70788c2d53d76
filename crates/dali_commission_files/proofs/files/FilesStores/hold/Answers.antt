use Rattle.std.proofs.Common.{inl, inr, sym, subst}
use Rattle.dali_commission_files.specs.declared.files.Files.{Files}
use Rattle.dali_commission_files.specs.Folders.{HasSeen}
use Rattle.dali_commission_files.proofs.Told.{held_badly, not_closed, then_done, not_both, read_held}
use Rattle.dali_commission_files.proofs.files.FilesStores.hold.Goals.{in-Ok, in-Err}
use Rattle.dali_commission_files.proofs.files.FilesStores.hold.Goals as goal

pub returns-in_err-due : goal.returns-in_err-due
returns-in_err-due g c = elim (c.match-open_all.branch) [
  | in-Ok w ↦ inr (
    w.deref.result.now,
    read_held (λ (files : Files g.row.F.Denot) look. HasSeen g.F.Folder.saw g.F.Databases.lies files.folder look) c.args.self.now
        (HasSeen g.F.Folder.saw g.F.Databases.lies) c.args.self.now.folder (λ _ _ it. it) c.args.names.now
        c.new-all.result.items c.open_all.new.all.items w.deref.result.now c.new-all.ensures.items w.deref.ensures.value
        w.in-Ok.ensures.read,
    w.take-due.new.stores,
    w.take-due.result,
    subst (λ b. g.H.Holder.dues c.args.holder w.deref.result.now c.args.self.now w.take-due.new.stores c.args.beside.now b w.take-due.result)
        (sym w.beside-is) w.take-due.ensures,
    held_badly g.H.Holder.ends w.take-due.new.stores c.match-open_all.self w.take-due.result c.match-open_all.due _ c.from_residual.result
        c.from_residual.ensures.0 c.from_residual.ensures.1 c.in_err-due.was w.due-is w.self-is,
  )
  | in-Err w ↦ inl (c.from_residual.ensures.0, w.self-is, w.beside-is)
]

pub returns-in_err-_files : goal.returns-in_err-_files
returns-in_err-_files g c = elim (c.match-open_all.branch) [
  | in-Ok w ↦ inr (
    w.deref.result.now,
    read_held (λ (files : Files g.row.F.Denot) look. HasSeen g.F.Folder.saw g.F.Databases.lies files.folder look) c.args.self.now
        (HasSeen g.F.Folder.saw g.F.Databases.lies) c.args.self.now.folder (λ _ _ it. it) c.args.names.now
        c.new-all.result.items c.open_all.new.all.items w.deref.result.now c.new-all.ensures.items w.deref.ensures.value
        w.in-Ok.ensures.read,
    w.take-due.new.stores,
    w.take-due.result,
    subst (λ b. g.H.Holder.dues c.args.holder w.deref.result.now c.args.self.now w.take-due.new.stores c.args.beside.now b w.take-due.result)
        (sym w.beside-is) w.take-due.ensures,
    not_closed g.H.Holder.ends w.take-due.new.stores c.match-open_all.self w.take-due.result c.match-open_all.due c.in_ok-due.due
        c.from_residual-in_err-_files.result c.from_residual-in_err-_files.ensures.0 c.in_ok-due.was w.due-is w.self-is,
  )
  | in-Err w ↦ inl (c.from_residual-in_err-_files.ensures.0, w.self-is, w.beside-is)
]

pub returns : goal.returns
returns g c = elim (c.match-open_all.branch) [
  | in-Ok w ↦ let all =
      w.deref.result.now in inr (
        all,
        read_held (λ (files : Files g.row.F.Denot) look. HasSeen g.F.Folder.saw g.F.Databases.lies files.folder look) c.args.self.now
            (HasSeen g.F.Folder.saw g.F.Databases.lies) c.args.self.now.folder (λ _ _ it. it) c.args.names.now
            c.new-all.result.items c.open_all.new.all.items w.deref.result.now c.new-all.ensures.items w.deref.ensures.value
            w.in-Ok.ensures.read,
        c.match-open_all.self,
        c.match-open_all.due,
        subst (λ b. g.H.Holder.dues c.args.holder all c.args.self.now c.match-open_all.self c.args.beside.now b c.match-open_all.due) (sym w.beside-is)
            (subst (λ s. g.H.Holder.dues c.args.holder all c.args.self.now s c.args.beside.now w.take-due.new.beside c.match-open_all.due) (sym w.self-is)
            (subst (λ d. g.H.Holder.dues c.args.holder all c.args.self.now w.take-due.new.stores c.args.beside.now w.take-due.new.beside d) (sym w.due-is)
            w.take-due.ensures)),
        then_done g.H.Holder.ends c.match-open_all.self c.then.new.stores c.match-open_all.due c.match-open_all.holder c.in_ok-due.due c.then.result
            c.in_ok-due.was c.then.ensures,
      )
  | in-Err w ↦ absurd (not_both c.match-open_all.due c.in_ok-due.due w.in-Err.failure c.in_ok-due.was w.due-is)
]
