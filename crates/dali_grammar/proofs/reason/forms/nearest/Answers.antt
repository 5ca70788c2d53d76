use Rattle.std.proofs.Common.{rules, tests, ◌≡◌, ℕ, List, true, bytes_eq}
use Rattle.std.proofs.lemmas.List.Folds.{list_any_at}
use Rattle.dali_grammar.proofs.reason.forms.nearest.Goals as goal

same : (xs : List ℕ) → bytes_eq xs xs ≡ true
same xs = search (rules, tests)

pub returns-then-is_near : goal.returns-then-is_near
returns-then-is_near c = search (rules, list_any_at, same)
