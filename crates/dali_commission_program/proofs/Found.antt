use Rattle.std.proofs.Common.{ℕ, List, Option, Some, None, Result, Ok, Err}
use Rattle.std.specs.Prelude.{IfOk, MatchOption}
use Rattle.dali_commission_tasks.specs.declared.tasks.Asked.{Asked}
use Rattle.dali_commission_words.specs.Words.{Values, IsAsked}

-- What a line asks for, if that is what its reading says.
pub found_so : {A B E : Type 0} (shown : Type 0) (reads : A → B → Asked → Type 0) (name : B → List ℕ) (values : B → Values)
    (r : Result (Option Asked) E) → ((a : A) (b : B) (it : Asked) → reads a b it → IsAsked (name b) (values b) it)
    → IfOk r (λ found. MatchOption found shown (λ it. (a : A) × (b : B) × reads a b it))
    → IfOk r (λ found. MatchOption found shown (λ it. (n : List ℕ) × (v : Values) × IsAsked n v it))
found_so shown reads name values (Ok (Some it)) so is = (name is.1, values is.1, so is.0 is.1 it is.2)
found_so shown reads name values (Ok None) so is = is
found_so shown reads name values (Err e) so is = tt
