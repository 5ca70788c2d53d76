use Rattle.std.proofs.Common.{subst, arith}
use Rattle.dali_commission_files.proofs.Frames.{passed, met, Known, commits, uncounted}
use Rattle.dali_commission_files.specs.Logs.{IsOf, frame_at}
use Rattle.dali_commission_files.proofs.log.begins_behind.Goals as goal
use Rattle.dali_commission_files.proofs.log.begins_behind.Goals.{then-is_of+else-is_ended+else-number_at, then-i-from, else-i-from, else-is_of}

pub loop-i-preserved : goal.loop-i-preserved
loop-i-preserved c =
    let head = c.args.head.now in let size = c.args.size in let frames = c.args.frames.now in let from = c.args.from in
    let i = c.loop-i.i in let frame = c.frame_at-frame.ensures.frame in
    elim c.if-is_of.branch [
      | then-is_of+else-is_ended+else-number_at w ↦
          let said = commits c.frame_at-frame.result.now (frame_at size frames i) frame _ _ w.number_at-is_ended.ensures w.is_ended-is in
          met head size frames from i _ (subst (λ b. Known head size frames from b i) w.if-is_ended.false c.loop-i.invariant) c.loop-i.auto.i
          (subst (λ f. IsOf head f) frame (c.is_of.ensures.0 w.if-is_of.true)) said.0 said.1
          (elim w.if-i-from.branch [
            | then-i-from z ↦ (λ lt page.
                uncounted c.frame_at-frame.result.now (frame_at size frames i) frame _ _ z.number_at.ensures z.value-is w.if-number_at.false page)
            | else-i-from z ↦ (λ lt page. omega (arith, lt, z.if-i-from.false))
          ])
      | else-is_of w ↦ passed head size frames from i _ _ w.is_ended-is c.loop-i.invariant
          (λ of. grind (arith, of, c.is_of.ensures, frame, w.if-is_of.false))
    ]
