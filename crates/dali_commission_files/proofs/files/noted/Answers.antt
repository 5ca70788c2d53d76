use Rattle.std.proofs.Common.{inr, sym, subst}
use Rattle.dali_reserve.specs.Store.{IsReplay}
use Rattle.dali_commission_files.proofs.files.noted.Goals as goal

pub returns-in-Ok-read-clause-kept : goal.returns-in-Ok-read-clause-kept
returns-in-Ok-read-clause-kept g c up xs held =
    let opened = c.in-Ok.ensures in let read = c.in-Ok-read.ensures in
    let was = read.up up in
    let sound = opened.sound was (inr held.has.table) in
    let here = read.same sound up xs (opened.same was xs held) in
    let known = (read.sound sound up).known read.is_read xs here in
    subst (λ k. IsReplay k.block xs k) (sym read.answer) known.0

pub returns-in-Ok-read-clause-up : goal.returns-in-Ok-read-clause-up
returns-in-Ok-read-clause-up g c up = c.in-Ok.ensures.up (c.in-Ok-read.ensures.up up)
