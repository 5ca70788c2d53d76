use Rattle.std.proofs.Common.{◌≡◌, ◌+◌, ◌<◌, length, sym, subst, refl, ◌∙◌, arith}
use Rattle.dali_script.proofs.Befores.{Searched, random_here, searched_first, searched_more, searched_found, searched_none}
use Rattle.dali_script.proofs.checks.is_among.Goals as goal

pub loop-at-init : goal.loop-at-init
loop-at-init c = searched_first c.args.before.now c.args.wanted.now.1 c.args.last c.requires.last

pub returns-then-shares_random : goal.returns-then-shares_random
returns-then-shares_random c =
    let inside : c.from-place.result < length c.args.before.now = omega (arith, c.loop-at.invariant.inside) in
    let here = random_here c.args.before.now c.from-place.result c.index-before-place.result inside c.index-before-place.is in (
      λ e. searched_found c.args.before.now c.args.wanted.now.1 c.from-place.result inside (here ∙ c.shares_random.ensures.0 c.if-shares_random.true),
      λ has. refl,
    )

pub loop-at-preserved : goal.loop-at-preserved
loop-at-preserved c =
    let inside : c.from-place.result < length c.args.before.now = omega (arith, c.loop-at.invariant.inside) in
    let here = random_here c.args.before.now c.from-place.result c.index-before-place.result inside c.index-before-place.is in
    let at : c.loop-at.at ≡ c.from-place.result + 1 = omega (arith, c.loop-at-test.true) in
    searched_more c.args.before.now c.args.befores.now c.args.wanted.now.1 c.from-place.result c.requires.befores
    (subst (Searched c.args.before.now c.args.wanted.now.1) at c.loop-at.invariant)
    (λ same. absurd (let shared = c.shares_random.ensures.1 (sym here ∙ same) in cc))

pub returns : goal.returns
returns c =
    let none : c.loop-at.at ≡ 0 = omega (arith, c.loop-at-test.false) in
    let searched = subst (Searched c.args.before.now c.args.wanted.now.1) none c.loop-at.invariant in
    (λ e. absurd (cc), λ has. absurd (searched_none c.args.before.now c.args.wanted.now.1 searched has))
