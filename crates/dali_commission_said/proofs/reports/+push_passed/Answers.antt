use Rattle.std.proofs.Common.{◌≡◌, ◌≤◌, ◌-◌, ℕ, arith, ◌∷◌, [], List, drop, take, length, length-drop, get_or, ap, ◌∙◌}
use Rattle.std.proofs.lemmas.List.{take_all}
use Rattle.dali_commission_said.specs.Said.{with_passed, with_all_passed}
use Rattle.dali_commission_said.specs.declared.said.Said.{Said}
use Rattle.dali_commission_said.proofs.reports.+push_passed.Goals as goal

one_more : (numbers tail : List ℕ) (d number : ℕ) (lines mid : List Said) → 1 ≤ length numbers → tail ≡ drop 1 numbers
    → number ≡ get_or numbers 0 d → mid ≡ with_passed lines number → with_all_passed mid tail ≡ with_all_passed lines numbers
one_more [] tail d number lines mid some behind is added = absurd (omega arith)
one_more (x ∷ xs) tail d number lines mid some behind is added =
    let first : mid ≡ with_passed lines x = added ∙ ap (λ (n : ℕ). with_passed lines n) is in
    ap (λ (t : List ℕ). with_all_passed mid t) behind ∙ ap (λ (m : List Said). with_all_passed m xs) first

all_behind : (numbers : List ℕ) → 1 ≤ length numbers → take (length numbers - 1) (drop 1 numbers) ≡ drop 1 numbers
all_behind numbers some = take_all (length numbers - 1) (drop 1 numbers) (omega (arith, length-drop 1 numbers))

pub returns-in-len1-up-clause-said : goal.returns-in-len1-up-clause-said
returns-in-len1-up-clause-said t c =
    c.push_passed.ensures.said
    ∙ one_more c.args.numbers.now _ c.number-item.result c.number-item.result _ _ c.in-len1-up.len_at_least
    (all_behind c.args.numbers.now c.in-len1-up.len_at_least) c.number-item.is c.push_one_passed.ensures.said
