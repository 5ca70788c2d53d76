use Rattle.std.proofs.Common.{◌≡◌, ℕ, sym, subst, Result, IfOk}
use Rattle.dali_script.specs.Records.{Kept}
use Rattle.dali_commissioning.specs.Drivers.{Talk}
use Rattle.dali_commissioning.specs.declared.newcomers.Newcomers.TheVariants as new
use Rattle.dali_replacement.specs.{Permit.HasLooked, Permit.HasLookedBeside, declared.come.Come.Come, declared.come.Come.TheVariants.Nowhere}
use Rattle.dali_replacement.specs.declared.{permit.Permit.Permit, refusal.ReplaceFault.ReplaceFault}

-- IF NO EARLIER CALL had come anywhere, one gear alone was looked for beside the table
pub looked_from_nowhere : (a : ℕ) (was table : Kept) (come : Come) (x y : Talk) (r : Result Permit ReplaceFault) → come ≡ Nowhere → was ≡ table
    → IfOk r (λ _. (random : ℕ) × HasLookedBeside a was (new.One random) x y) → IfOk r (λ _. HasLooked a table come x y)
looked_from_nowhere a was table come x y r none same seen =
    subst (λ c. IfOk r (λ _. HasLooked a table c x y)) (sym none)
    (subst (λ t. IfOk r (λ _. (random : ℕ) × HasLookedBeside a t (new.One random) x y)) same seen)
