use Rattle.std.proofs.Common.{sym, ◌∙◌}
use Rattle.dali_commission_files.proofs.Frames.{damaged}
use Rattle.dali_commission_files.proofs.log.is_damaged.Goals as goal

pub returns-in-Some-get : goal.returns-in-Some-get
returns-in-Some-get c =
    let h = c.in-Some.ensures in let g = c.in-Some-get.ensures in
    damaged c.args.log.now c.in-Some.head c.in-Some-get.frames.now c.number_at-size.result c.is_broken.result g.lookup.0.0 h.1 g.lookup.0.2
    c.number_at-size.ensures (sym c.begins_log.ensures ∙ c.if-not-begins_log.false) (c.is_signed.ensures.0 c.if-not-is_signed.false)
    c.if-size-gt65536.false c.is_broken.ensures
