use Rattle.std.proofs.Common.{◌≡◌, ◌∙◌, sym, true, false, Bool, refl, not}
use Rattle.dali_script.{specs.Stages.may_follow, specs.Stages.stage_of, proofs.Transactions.complete_at, proofs.Transactions.goes_on_at}
use Rattle.dali_script.proofs.trace.Trace.complete_by.Goals as goal

false_where_not : (b : Bool) → not b ≡ true → b ≡ false
false_where_not true e = cc
false_where_not false e = refl

true_where_not : (b : Bool) → not b ≡ false → b ≡ true
true_where_not true e = refl
true_where_not false e = cc

pub returns-clause-complete : goal.returns-clause-complete
returns-clause-complete c =
    let k = c.args.records.now in
    let t = c.args.self.now in
    let answer : c.goes_on.result ≡ may_follow k.block k.reserved (stage_of t) = cc in
    λ e. complete_at k.block k.reserved t (sym answer ∙ false_where_not c.goes_on.result e)

pub returns-clause-goes_on : goal.returns-clause-goes_on
returns-clause-goes_on c =
    let k = c.args.records.now in
    let t = c.args.self.now in
    let answer : c.goes_on.result ≡ may_follow k.block k.reserved (stage_of t) = cc in
    λ e. goes_on_at k.block k.reserved t c.block.ensures.kept.reserved.short (sym answer ∙ true_where_not c.goes_on.result e)
