use Rattle.std.proofs.Common.{◌≡◌, ℕ, ◌<◌, ◌≤◌, true, false, arith, subst, sym, ◌∙◌}
use Rattle.dali_script.{specs.Records.HasAddress, specs.Records.IsLeastFree, proofs.Fronts.least_found, proofs.Lists.reserved_more}
use Rattle.dali_script.proofs.reading.Records.first_free.Goals as goal

pub loop-number-preserved : goal.loop-number-preserved
loop-number-preserved c =
    let small : c.loop-number.number < 64 = omega arith in
    let has : HasAddress c.self.inside.reserved.now c.loop-number.number =
    (c.marks-taken.ensures.marked c.loop-number.number small).0 c.if-not-taken-number.false in
    reserved_more c.args.self.now.block c.args.self.now.reserved c.loop-number.number c.loop-number.invariant
    (subst (λ k. HasAddress k.reserved c.loop-number.number) c.self.view_is has)

pub returns-then-not-taken-number : goal.returns-then-not-taken-number
returns-then-not-taken-number c =
    let small : c.loop-number.number < 64 = omega arith in
    let first : c.number-number.result ≡ c.self.inside.block.first = c.number-number.ensures.value in
    let last : c.number-number-end.result ≡ c.self.inside.block.last = c.number-number-end.ensures.value in
    let below : (d : ℕ) → c.self.inside.block.first ≤ d → d < c.loop-number.number → HasAddress c.self.inside.reserved.now d =
    subst (λ k. (d : ℕ) → k.block.first ≤ d → d < c.loop-number.number → HasAddress k.reserved d) (sym c.self.view_is) c.loop-number.invariant in
    let least : IsLeastFree c.self.inside.block c.self.inside.reserved.now c.loop-number.number = record {
      within = (omega (arith, first), omega (arith, last));
      free = λ h. let no : false ≡ true = sym c.if-not-taken-number.true ∙ (c.marks-taken.ensures.marked c.loop-number.number small).1 h in cc;
      least = λ d within less. below d within.0 (omega arith);
    } in
    rw (← c.self.view_is) (least_found c.of.result _ _ c.loop-number.number c.of.ensures.range c.of.ensures.value small least)
