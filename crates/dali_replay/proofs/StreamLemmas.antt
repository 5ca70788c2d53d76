use Rattle.std.proofs.Common.{◌≡◌, ℕ, List, ◌⊎◌, inl, inr, Option, Some, None, Err, refl, IfSome}
use Rattle.dali_grammar.specs.{Reason.Gives, Setting.setting_of, declared.fault.ReplayFault.ReplayFault, declared.fault.ReplayFault.TheVariants.Memory}
use Rattle.dali_grammar.specs.declared.{fault.ReplayFault.TheVariants.Read, reason.Explained.Explained, reason.Reason.Reason}
use Rattle.dali_replay.specs.{Replay.Replays, Streams.Explains, declared.form.Form.Form}
use Rattle.dali_replay.proofs.ReplayLemmas.{tells_of_replays, tells_fault}

-- the input was not read: then there is no reason
unread_gives : (e : ReplayFault) (r : Option Reason) → r ≡ None → (e ≡ Memory) ⊎ (e ≡ Read) → Gives e r
unread_gives e r none (inl is) = rw (none, is) refl
unread_gives e r none (inr is) = rw (none, is) refl

pub explains_unread : (form : Form) (left a : Option (List ℕ)) (e : ReplayFault) (x : Explained) → x.fault ≡ e → x.reason ≡ None
    → (e ≡ Memory) ⊎ (e ≡ Read) → IfSome left (λ input. Explains form input a a (Err x))
explains_unread form None a e x fault reason cause = tt
explains_unread form (Some input) a e x fault reason cause =
    (rw fault (tells_fault form a input e cause), unread_gives x.fault x.reason reason (rw fault cause))

-- what a run over bytes says, with the reason of its fault
pub explains_fault : (form : Form) (input : List ℕ) (a b : Option (List ℕ)) (e : ReplayFault) (x : Explained)
    → Replays {A = Unit {0}} form (setting_of input) a b (Err e) → x.fault ≡ e → Gives x.fault x.reason → Explains form input a b (Err x)
explains_fault form input a b e x told fault gives = (rw fault (tells_of_replays form (setting_of input) a b (Err e) told), gives)
