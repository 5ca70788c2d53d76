use Rattle.std.proofs.Common.{◌≡◌, None, subst, []}
use Rattle.dali_arbiter.{specs.Arbiter.Arbiter, specs.Arbiter.first_list, proofs.Lists.none_owned}
use Rattle.dali_arbiter.proofs.arbiter.Arbiter.owner.Goals as goal

pub returns-clause-free : goal.returns-clause-free
returns-clause-free c = subst (λ (b : Arbiter). b.owner ≡ None → first_list b ≡ []) c.self.view_is (none_owned _ _ c.self.invariant.owned)
