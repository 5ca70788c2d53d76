use Rattle.std.proofs.Common.{◌≡◌, ◌<◌, ◌∙◌, arith, sym, ap, true, false, not, ◌||◌, slice_index_or}
use Rattle.dali_controller.{specs.Course.is_asked, proofs.Asked.{mark_at, asked_by, short_some, asked_more}}
use Rattle.dali_controller.proofs.surveying.next_asked.Goals.{then-not-enrolled-from-via-then-not-enrolled-from}
use Rattle.dali_controller.proofs.surveying.next_asked.Goals.{then-not-enrolled-from-via-else-not-enrolled-from+then-reserved-from}
use Rattle.dali_controller.proofs.surveying.next_asked.Goals as goal

pub loop-address-preserved : goal.loop-address-preserved
loop-address-preserved c =
    let small : c.loop-address.address < 64 = omega arith in
    let reserved = c.reserved_marks-reserved.result in
    let none : is_asked c.args.kept.now c.loop-address.address ≡ false =
    asked_by c.args.kept.now reserved c.enrolled_marks-enrolled.result c.loop-address.address c.reserved_marks-reserved.ensures
    c.enrolled_marks-enrolled.ensures small
    ∙ ap (λ b. not b || slice_index_or reserved c.loop-address.address false) (mark_at _ _ _ _ c.from.ensures c.if-not-enrolled-from.false)
    ∙ mark_at _ _ _ _ c.from-else-not-enrolled-from.ensures c.if-reserved-from.false in
    c.loop-address.invariant ∙ asked_more c.args.kept.now c.loop-address.address small ∙ rw none

pub returns-then-not-enrolled-from-clause-next : goal.returns-then-not-enrolled-from-clause-next
returns-then-not-enrolled-from-clause-next c =
    let small : c.loop-address.address < 64 = omega arith in
    let a = c.loop-address.address in
    let reserved = c.reserved_marks-reserved.result in
    let enrolled = c.enrolled_marks-enrolled.result in
    let tests = asked_by c.args.kept.now reserved enrolled a c.reserved_marks-reserved.ensures c.enrolled_marks-enrolled.ensures small in
    let asked : is_asked c.args.kept.now a ≡ true = elim c.then-not-enrolled-from.branch [
      | then-not-enrolled-from-via-then-not-enrolled-from w ↦
          tests ∙ ap (λ b. not b || slice_index_or reserved a false) (mark_at _ _ _ _ c.from.ensures w.if-not-enrolled-from.true)
      | then-not-enrolled-from-via-else-not-enrolled-from+then-reserved-from w ↦
          tests ∙ ap (λ b. not b || slice_index_or reserved a false) (mark_at _ _ _ _ c.from.ensures w.if-not-enrolled-from.false)
          ∙ mark_at _ _ _ _ w.from-else-not-enrolled-from.ensures w.if-reserved-from.true
    ] in
    short_some c.of.result a c.of.ensures.range c.of.ensures.value small ∙ sym (c.loop-address.invariant ∙ asked_more c.args.kept.now a small ∙ rw asked)
