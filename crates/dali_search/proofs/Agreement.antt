use Rattle.std.proofs.Common.{ℕ, Bool, List, [], ◌∷◌, ◌++◌}
use Rattle.dali_search.specs.Least.{Agrees, Gives}

-- a set that agrees with the answers, and gives one more
pub agrees_more : (has : ℕ → Bool) (answers : List (ℕ × Bool)) (probe : ℕ) (said : Bool)
    → Agrees has answers → Gives has probe said → Agrees has (answers ++ (probe, said) ∷ [])
agrees_more has [] probe said agrees gives = (gives, tt)
agrees_more has (a ∷ later) probe said agrees gives = (agrees.0, agrees_more has later probe said agrees.1 gives)

pub agrees_before : (has : ℕ → Bool) (answers : List (ℕ × Bool)) (probe : ℕ) (said : Bool)
    → Agrees has (answers ++ (probe, said) ∷ []) → Agrees has answers × Gives has probe said
agrees_before has [] probe said agrees = (tt, agrees.0)
agrees_before has (a ∷ later) probe said agrees =
    let rest : Agrees has later × Gives has probe said = agrees_before has later probe said agrees.1 in
    ((agrees.0, rest.0), rest.1)
