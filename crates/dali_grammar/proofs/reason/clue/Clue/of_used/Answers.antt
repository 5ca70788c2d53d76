use Rattle.std.proofs.Common.{rules, refl, ◌≡◌, ◌∙◌, Bool, true, false, ◌||◌, Option, Some, None, is_some, IsSome, if◌then◌else◌}
use Rattle.dali_events.specs.Plan.{used_refusal_of}
use Rattle.dali_events.specs.declared.plan.PlanError.TheVariants.{UnknownGear, GearTwice, ShortTwice, RandomTooLarge, RandomTwice}
use Rattle.dali_grammar.proofs.reason.clue.Clue.of_used.Goals as goal

there : {A : Type 0} (o : Option A) → is_some o ≡ true → IsSome o
there o is = search rules

-- the two causes of one refusal
either : (a b c d e f : Bool)
    → (if a then Some UnknownGear else if b then Some GearTwice else if c then Some ShortTwice else if d then Some RandomTooLarge
    else if e then Some RandomTwice else if f then Some RandomTwice else None) ≡ Some RandomTwice → (e || f) ≡ true
either true b c d e f is = cc
either false true c d e f is = cc
either false false true d e f is = cc
either false false false true e f is = cc
either false false false false true f is = refl
either false false false false false true is = refl
either false false false false false false is = cc

pub returns-in-RandomTwice : goal.returns-in-RandomTwice
returns-in-RandomTwice c = λ plan gear draws some refused.
    let cause : used_refusal_of plan c.args.used.now ≡ Some RandomTwice = rw c.in-RandomTwice.is at refused in
    there c.shared-in-RandomTwice.result (c.shared-in-RandomTwice.ensures ∙ rw draws at (either _ _ _ _ _ _ cause))
