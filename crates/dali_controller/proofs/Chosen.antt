use Rattle.std.proofs.Common.{◌≡◌, ◌↔◌, ℕ, Bool, Option, Some, IsTrue, refl}
use Rattle.dali_frame.specs.declared.{frames.Answer.Answer, numbers.SearchAddress.SearchAddress}
use Rattle.dali_special.specs.declared.command.Command.{Command}
use Rattle.dali_script.specs.declared.stage.Stage.{Stage, TheVariants.Free, TheVariants.Hunted, TheVariants.Unnamed}
use Rattle.dali_controller.specs.{Course.turn_of, Whole.IsMet, Whole.IsChosen, declared.purpose.Purpose.Purpose}

-- At a stage past the first, unless PROGRAM SHORT ADDRESS follows, the command is that of the transaction's turn.
pub chosen : (n : SearchAddress) (p : Purpose) (s : Stage) (c : Command) (b : Bool) → (s ≡ Free → ⊥) → ((r : SearchAddress) → s ≡ Unnamed r → ⊥)
    → ((r : SearchAddress) (last : Option Answer) (left : ℕ) → s ≡ Hunted r last left → ⊥)
    → IsTrue b ↔ ((turn_of p n s ≡ Some c) × IsMet s p n) → IsTrue b ↔ IsChosen n p s c
chosen n p Free c b free unnamed hunted is = absurd (free refl)
chosen n p (Unnamed r) c b free unnamed hunted is = absurd (unnamed r refl)
chosen n p (Hunted r last left) c b free unnamed hunted is = absurd (hunted r last left refl)
chosen n p _ c b free unnamed hunted is = is
