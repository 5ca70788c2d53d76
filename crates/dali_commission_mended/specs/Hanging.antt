use Rattle.std.specs.Prelude.{◌≡◌, ℕ, ◌+◌, ◌==◌, ◌&&◌, Bool, not, List, [], ◌∷◌, ◌++◌, Option, Some}
use Rattle.std.specs.Prelude.{None, if◌then◌else◌}
use Rattle.std.specs.List.{list_any}
use Rattle.dali_script.specs.declared.block.Block.{Block}
use Rattle.dali_script.specs.Records.{Kept, Assignment}
use Rattle.dali_script.specs.Stages.{in_block}
use Rattle.dali_commissioning.specs.declared.census.Reply.{Reply}
use Rattle.dali_commissioning.specs.Drivers.{Talk}
use Rattle.dali_commissioning.specs.Places.{random_at}
use Rattle.dali_commissioning.specs.Unaddressed.{AreLeftOver, asking_under}
use Rattle.dali_commission_said.specs.declared.failure.MendRefusal.{MendRefusal}
use Rattle.dali_commission_said.specs.declared.failure.MendRefusal.TheVariants as refusal
use Rattle.dali_commission_tasks.specs.declared.tasks.Mend.{Mend}
use Rattle.dali_commission_asked.specs.Ending.{If}
use Rattle.dali_commission_asked.specs.Sharing.{why_not}

-- A GEAR ANSWERS AT A SHORT ADDRESS under its random address, or is asked in vain
unfoldable pub AnswersUnder : ℕ → ℕ → Bool → Talk → Talk → Type 0
AnswersUnder r b found x y = AreLeftOver (asking_under b r) found x y

-- WHERE A GEAR HANGS: it is asked so at short addresses, one after the other, until it answers at
-- one
abbrev pub HangsAt : ℕ → List ℕ → Option ℕ → Talk → Talk → Type 0
HangsAt r [] found x y = (found ≡ None) × (y ≡ x)
HangsAt r (b ∷ more) found x y =
    (one : Bool)
    × (at : Talk)
    × AnswersUnder r b one x at
    × If one ((found ≡ Some b) × (y ≡ at)) (HangsAt r more found at y)

-- WHO IS LOOKED FOR: a gear of the table whose absence would let none be mended, if a survey over
-- the records may give it its short address again: the block has that, and nothing is reserved that
-- stands against it
abbrev pub stands_against : Assignment → ℕ → ℕ → Bool
stands_against p a r = if p.0 == a then not (p.1 == r) else p.1 == r

abbrev pub is_returnable : Kept → ℕ → ℕ → Bool
is_returnable k a r =
    in_block k.block a
    && not (list_any (λ p. stands_against p a r) k.reserved)

abbrev pub sought_by : Option MendRefusal → Kept → ℕ → Option ℕ → Option ℕ
sought_by (Some refusal.NotThere) before a (Some r) =
    if is_returnable before a r then Some r else None
sought_by _ before a _ = None

abbrev pub sought_at : Kept → Kept → List Block → Mend → ℕ → Reply → Option ℕ
sought_at table before others wanted a r =
    sought_by (why_not table others wanted [] a r) before a (random_at table.enrolled a)

-- LOOKED FOR at these short addresses, behind those that were found before
abbrev pub with_hanging : List Assignment → ℕ → ℕ → Option ℕ → List Assignment
with_hanging found a r None = found
with_hanging found a r (Some at) = found ++ (a, r) ∷ []

abbrev pub IsLookedFor : ℕ → Option ℕ → List ℕ → List Assignment → List Assignment → Talk → Talk
    → Type 0
IsLookedFor a None shorts before after x y = (after ≡ before) × (y ≡ x)
IsLookedFor a (Some r) shorts before after x y =
    (found : Option ℕ) × HangsAt r shorts found x y × (after ≡ with_hanging before a r found)

-- one after the other, by what was heard of each short address, from one on
abbrev pub AreLookedFor : Kept → Kept → List Block → Mend → List ℕ → ℕ → List Reply
    → List Assignment → List Assignment → Talk → Talk → Type 0
AreLookedFor table records others wanted shorts a [] before after x y =
    (after ≡ before) × (y ≡ x)
AreLookedFor table records others wanted shorts a (r ∷ more) before after x y =
    (mid : List Assignment)
    × (at : Talk)
    × IsLookedFor a (sought_at table records others wanted a r) shorts before mid x at
    × AreLookedFor table records others wanted shorts (a + 1) more mid after at y
