use Rattle.std.proofs.Common.{◌≡◌, ◌<◌, take, length, get_or, sym, ap, subst, ◌∙◌, arith, IsTrue}
use Rattle.dali_script.specs.{Pairs.random_at, Pairs.last_bits, Pairs.IsLast, Records.HasRandom, Records.IsFresh}
use Rattle.dali_script.proofs.Befores.{random_here, before_none, are_last_none, before_more, last_more}
use Rattle.dali_script.proofs.Fronts.{enrolled_none, enrolled_more, next_enrolled, marks_none, marks_more, unmarked}
use Rattle.dali_script.proofs.checks.are_enrolled.Goals.{then-not-is_free-via-then-not-is_free, then-not-is_free-via-else-not-is_free+then-is_among}
use Rattle.dali_script.proofs.checks.are_enrolled.Goals as goal

pub loop-place-init : goal.loop-place-init
loop-place-init c = record {
  before = enrolled_none;
  taken = marks_none;
  befores = before_none c.args.pairs.now;
  lasts = are_last_none c.args.pairs.now;
}

pub returns-then-not-is_free : goal.returns-then-not-is_free
returns-then-not-is_free c = (
  λ e. absurd (cc),
  λ are.
      let xs = c.args.pairs.now in
      let i = c.loop-place.place in
      let p = c.index-pairs-from.result in
      let inside : i < length xs = omega (arith, c.loop-place-test.true) in
      let is = rw c.from.ensures at c.index-pairs-from.is in
      let next = next_enrolled xs i p inside is are in
      let free : IsTrue c.is_free.result =
      c.is_free.ensures.1 (next.1, unmarked (take i xs) p c.loop-place.taken c.loop-place.invariant.taken next.1 next.0.0, next.2) in
      elim c.then-not-is_free.branch [
        | then-not-is_free-via-then-not-is_free w ↦ sym w.if-not-is_free.true ∙ free
        | then-not-is_free-via-else-not-is_free+then-is_among w ↦
            absurd (next.0.1 (subst (λ n. HasRandom (take n xs) p.1) w.from-else-not-is_free.ensures (w.is_among.ensures.0 w.if-is_among.true)))
      ],
)

pub loop-place-preserved : goal.loop-place-preserved
loop-place-preserved c =
    let xs = c.args.pairs.now in
    let i = c.loop-place.place in
    let p = c.index-pairs-from.result in
    let inside : i < length xs = omega (arith, c.loop-place-test.true) in
    let is = rw c.from.ensures at c.index-pairs-from.is in
    let free = c.is_free.ensures.0 c.if-not-is_free.false in
    let address : c.from-in-loop-place.result ≡ p.0 = cc in
    let here : random_at xs i ≡ p.1 = random_here xs i p inside is in
    let bits : c.from-bits.result ≡ last_bits (random_at xs i) = c.from-bits.ensures ∙ c.last_bits.ensures.bits ∙ ap last_bits (sym here) in
    let small : c.from-bits.result < 64 = omega (arith, c.last_bits.ensures.small) in
    let room : i < 64 = omega (arith, c.if-pairs-gt-ROOM.false) in
    let last = c.loop-place.invariant.lasts.last c.from-bits.result small in
    let apart : HasRandom (take i xs) p.1 → ⊥ =
    (λ has. absurd (let among = c.is_among.ensures.1 (subst (λ n. HasRandom (take n xs) p.1) (sym c.from-else-not-is_free.ensures) has) in cc)) in
    let fresh : IsFresh (take i xs) p = ((λ has. absurd (let marked = (c.loop-place.invariant.taken.marked p.0 free.0).1 has in cc)), apart) in
    record {
      before = enrolled_more xs i p inside is c.loop-place.invariant.before (fresh, free.0, free.2);
      taken = rw address (marks_more xs i p c.loop-place.taken inside is free.0 c.loop-place.invariant.taken);
      befores = rw c.from-in-loop-place-2.ensures (before_more xs i (get_or c.loop-place.lasts c.from-bits.result 0) c.loop-place.befores room
          c.loop-place.invariant.befores (subst (λ n. IsLast xs i n (get_or c.loop-place.lasts c.from-bits.result 0)) bits last));
      lasts = last_more xs i c.from-bits.result c.loop-place.lasts bits small c.loop-place.invariant.lasts;
    }
