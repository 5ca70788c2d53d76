use Rattle.std.proofs.Common.{◌≡◌, ℕ, List, ◌⊎◌, inl, inr, Option, Some, None, Err, refl}
use Rattle.std.specs.Prelude.{IfSome}
use Rattle.std.specs.Io.KnownBytes.{Keeps}
use Rattle.dali_grammar.specs.declared.fault.ReplayFault.{ReplayFault}
use Rattle.dali_grammar.specs.declared.fault.ReplayFault.TheVariants.{Memory, Read}
use Rattle.dali_grammar.specs.declared.reason.Explained.{Explained}
use Rattle.dali_grammar.specs.declared.reason.Reason.{Reason}
use Rattle.dali_grammar.specs.Reason.{Gives}
use Rattle.dali_story.specs.Tells.{Tells, TellsNot}

keeps_same : (a : Option (List ℕ)) → Keeps a a
keeps_same None = tt
keeps_same (Some xs) = refl

-- the input was not read: nothing was written, and there is no reason
unread : (input : List ℕ) (a : Option (List ℕ)) (e : ReplayFault) (r : Option Reason) → r ≡ None → (e ≡ Memory) ⊎ (e ≡ Read)
    → TellsNot input a a e × Gives e r
unread input a e r none (inl is) = rw (is, none) (keeps_same a, refl)
unread input a e r none (inr is) = rw (is, none) (keeps_same a, refl)

pub tells_unread : (left a : Option (List ℕ)) (e : ReplayFault) (x : Explained) → x.fault ≡ e → x.reason ≡ None → (e ≡ Memory) ⊎ (e ≡ Read)
    → IfSome left (λ input. Tells input a a (Err x))
tells_unread None a e x fault reason cause = tt
tells_unread (Some input) a e x fault reason cause = unread input a x.fault x.reason reason (rw fault cause)
