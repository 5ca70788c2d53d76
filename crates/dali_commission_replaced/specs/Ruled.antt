use Rattle.std.specs.Prelude.{◌≡◌, ◌⊎◌, ℕ, List}
use Rattle.dali_script.specs.declared.records.Record.{Record}
use Rattle.dali_script.specs.Records.{Kept}
use Rattle.dali_reserve.specs.Store.{HasRecords}
use Rattle.dali_commissioning.specs.declared.fault.CommissionFault.{CommissionFault}
use Rattle.dali_commissioning.specs.Drivers.{Talk, IsCut}
use Rattle.dali_commissioning.specs.Looking.{HoldsAll, keep_of}
use Rattle.dali_commissioning.specs.Rules.{AsksByRules, PutsByRules, LeavesByRules}
use Rattle.dali_commissioning.specs.Unaddressed.{AreLostSo, asking_beside}
use Rattle.dali_replacement.specs.Permit.{alone}
use Rattle.dali_replacement.specs.Tables.{Keeps}

-- WHAT A REPLACEMENT PUTS KEEPS THE RULES OF THE PAGE of `dali_statement`.

-- The new gear is looked for by a survey over records in memory, which have the gear of a table. It
-- is left once it wants to give the address.
abbrev pub LooksByRules : ℕ → Kept → Talk → Talk → Type 0
LooksByRules a table x y =
    (k : Kept)
    × (was : _)
    × (keep : _)
    × (reason : CommissionFault)
    × Keeps table k
    × (k.block ≡ alone a)
    × (keep_of was ≡ k)
    × LeavesByRules (λ s. Unit {0}) (λ s. HasRecords (keep_of s)) HoldsAll (keep_of was).block
    reason was keep x y

-- while it gives the address: questions, or surveys over a store of the one short address, once the
-- new gear was looked for, or without that
abbrev pub GivesByRules : {S : Type 0} (is_up is_sound : S → Type 0)
    (holds : S → List Record → Type 0) → ℕ → Talk → Talk → Type 0
GivesByRules {S = S} is_up is_sound holds a x y =
    AsksByRules x y
    ⊎ ((was : S)
    × (keep : S)
    × (PutsByRules is_up is_sound holds (alone a) was keep x y
    ⊎ ((at : Talk)
    × (table : Kept)
    × LooksByRules a table x at
    × PutsByRules is_up is_sound holds (alone a) was keep at y)))

-- and all that it puts, before that and after
abbrev pub ReplacesByRules : {S : Type 0} (is_up is_sound : S → Type 0)
    (holds : S → List Record → Type 0) → ℕ → Talk → Talk → Type 0
ReplacesByRules {S = S} is_up is_sound holds a x y =
    AsksByRules x y
    ⊎ ((was : S)
    × (keep : S)
    × (PutsByRules is_up is_sound holds (alone a) was keep x y
    ⊎ ((before : Talk)
    × (at : Talk)
    × (table : Kept)
    × AsksByRules x before
    × LooksByRules a table before at
    × PutsByRules is_up is_sound holds (alone a) was keep at y)))

-- ---------------------------------------------------------------- if it fails

-- gear were looked for by a survey over records in memory that came to its end
abbrev pub LooksToEnd : ℕ → Kept → Talk → Talk → Type 0
LooksToEnd a table x y =
    (k : Kept)
    × (was : _)
    × (keep : _)
    × Keeps table k
    × (k.block ≡ alone a)
    × (keep_of was ≡ k)
    × PutsByRules (λ s. Unit {0}) (λ s. HasRecords (keep_of s)) HoldsAll (keep_of was).block was
    keep x y

-- what was put once the others were asked, if no gear was told apart or the surveys were left: no
-- gear alone has no short address, or that is not learned; or the store was left, also once the new
-- gear was looked for
abbrev pub BreaksOff : {S : Type 0} (is_up is_sound : S → Type 0)
    (holds : S → List Record → Type 0) → ℕ → Talk → Talk → Type 0
BreaksOff {S = S} is_up is_sound holds a x y =
    ((table : Kept) × LooksToEnd a table x y)
    ⊎ (((table : Kept)
    × (at : Talk)
    × LooksByRules a table x at
    × (AsksByRules at y ⊎ ((r : ℕ) × AreLostSo (asking_beside r) at y)))
    ⊎ ((was : S)
    × (keep : S)
    × (reason : CommissionFault)
    × (LeavesByRules is_up is_sound holds (alone a) reason was keep x y
    ⊎ ((table : Kept)
    × (at : Talk)
    × LooksByRules a table x at
    × LeavesByRules is_up is_sound holds (alone a) reason was keep at y))))

-- WHAT A REPLACEMENT THAT FAILED HAS PUT KEEPS THE RULES TOO, but if the talk shows that it was cut
-- short: by a fault, or by a question that was lost
abbrev pub FailsByRules : {S : Type 0} (is_up is_sound : S → Type 0)
    (holds : S → List Record → Type 0) → ℕ → Talk → Talk → Type 0
FailsByRules is_up is_sound holds a x y =
    ((reason : CommissionFault) × IsCut reason y)
    ⊎ (ReplacesByRules is_up is_sound holds a x y
    ⊎ ((before : Talk) × AsksByRules x before × BreaksOff is_up is_sound holds a before y))
