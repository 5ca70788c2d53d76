use Rattle.std.proofs.Common.{◌≡◌, ◌<◌, ◌+◌, ◌∙◌, arith, sym, ap, subst, refl, true, false, Some}
use Rattle.dali_controller.{specs.{Course.is_open, Shorts.has_short}, proofs.Asked.{mark_at, open_tested, open_more}}
use Rattle.dali_controller.proofs.surveying.least_open.Goals.{then-not-reserved-place+then-not-enrolled-place+in_ok-short+else-not-has, else-not-reserved-place}
use Rattle.dali_controller.proofs.surveying.least_open.Goals.{else-not-reserved-place-via-else-not-reserved-place}
use Rattle.dali_controller.proofs.surveying.least_open.Goals.{else-not-reserved-place-via-then-not-reserved-place+else-not-enrolled-place}
use Rattle.dali_controller.proofs.surveying.least_open.Goals as goal

pub loop-number-preserved : goal.loop-number-preserved
loop-number-preserved c =
    let k = c.args.kept.now in
    let n = c.loop-number.number in
    let last : c.number-number-end.result ≡ k.block.last = c.number-number-end.ensures.value ∙ ap (λ b. b.last) c.block-block.ensures.value in
    let range = c.number-number-end.ensures.range in
    let within : n < c.number-number-end.result + 1 = c.loop-number-test.true in
    let below : n < k.block.last + 1 = subst (λ l. n < l + 1) last within in
    let small : n < 64 = omega (arith, within, c.number-number-end.ensures.value, range) in
    let tested = open_tested k c.args.heard c.reserved_marks-reserved.result c.enrolled_marks-enrolled.result n in
    let reserved = c.reserved_marks-reserved.ensures in
    let enrolled = c.enrolled_marks-enrolled.ensures in
    let shut : is_open k c.args.heard n ≡ false = elim c.if-not-reserved-place.branch [
      | then-not-reserved-place+then-not-enrolled-place+in_ok-short+else-not-has w ↦
          tested false false true reserved enrolled small (mark_at _ _ n _ c.from-place.ensures w.if-not-reserved-place.true)
          (mark_at _ _ n _ c.from-place.ensures w.if-not-enrolled-place.true)
          (subst (λ s. has_short c.args.heard s ≡ true) w.in_ok-short.ensures.value (sym w.has.ensures ∙ w.if-not-has.false))
      | else-not-reserved-place w ↦ elim w.else-not-reserved-place.branch [
        | else-not-reserved-place-via-then-not-reserved-place+else-not-enrolled-place v ↦
            tested false true (has_short c.args.heard n) reserved enrolled small (mark_at _ _ n _ c.from-place.ensures v.if-not-reserved-place.true)
            (mark_at _ _ n _ c.from-place.ensures v.if-not-enrolled-place.false) refl
        | else-not-reserved-place-via-else-not-reserved-place v ↦
            tested true _ (has_short c.args.heard n) reserved enrolled small (mark_at _ _ n _ c.from-place.ensures v.if-not-reserved-place.false) refl refl
      ]
    ] in
    c.loop-number.invariant ∙ open_more k c.args.heard n k.block.last below ∙ rw shut

pub returns-then-not-has : goal.returns-then-not-has
returns-then-not-has c =
    let k = c.args.kept.now in
    let n = c.loop-number.number in
    let last : c.number-number-end.result ≡ k.block.last = c.number-number-end.ensures.value ∙ ap (λ b. b.last) c.block-block.ensures.value in
    let range = c.number-number-end.ensures.range in
    let within : n < c.number-number-end.result + 1 = c.loop-number-test.true in
    let below : n < k.block.last + 1 = subst (λ l. n < l + 1) last within in
    let small : n < 64 = omega (arith, within, c.number-number-end.ensures.value, range) in
    let same = c.in_ok-short.ensures.value in
    let free : is_open k c.args.heard n ≡ true =
    open_tested k c.args.heard c.reserved_marks-reserved.result c.enrolled_marks-enrolled.result n false false false c.reserved_marks-reserved.ensures
    c.enrolled_marks-enrolled.ensures small (mark_at _ _ n _ c.from-place.ensures c.if-not-reserved-place.true)
    (mark_at _ _ n _ c.from-place.ensures c.if-not-enrolled-place.true)
    (subst (λ s. has_short c.args.heard s ≡ false) same (sym c.has.ensures ∙ c.if-not-has.true)) in
    ap Some same ∙ sym (c.loop-number.invariant ∙ open_more k c.args.heard n k.block.last below ∙ rw free)
