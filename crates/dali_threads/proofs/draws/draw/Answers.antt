use Rattle.std.proofs.Common.{◌≡◌, ◌-◌, suc, ap, refl, ◌∙◌, arith, nat_eq, false, length, rules}
use Rattle.rand_pcg.specs.Pcg.{pcg32}
use Rattle.dali_threads.proofs.Numbers.{drawn_one}
use Rattle.dali_threads.proofs.draws.draw.Goals as goal

pub loop-left-preserved : goal.loop-left-preserved
loop-left-preserved c =
    let some = c.loop-left-test.true in
    let left : c.loop-left.left ≡ suc (c.loop-left.left - 1) = omega arith in
    let room : nat_eq (length c.loop-left.numbers.keys) c.args.most ≡ false = search rules in
    let word : c.next_word.result ≡ (pcg32 c.loop-left.generator).0 = ap (λ p. p.0) c.next_word.ensures in
    let next : c.next_word.new.self ≡ (pcg32 c.loop-left.generator).1 = ap (λ p. p.1) c.next_word.ensures in
    c.loop-left.invariant
    ∙ drawn_one c.loop-left.left (c.loop-left.left - 1) c.args.most c.loop-left.generator c.loop-left.numbers.keys left room
    ∙ rw (c.in_ok-add.ensures, word, next) refl
