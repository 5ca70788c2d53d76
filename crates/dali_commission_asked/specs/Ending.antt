use Rattle.std.specs.Prelude.{◌≡◌, ◌⊎◌, ℕ, ◌<◌, ◌≤◌, ◌-◌, ◌^◌, Bool, true, false, not, List, []}
use Rattle.std.specs.Prelude.{◌∷◌, ◌++◌, ◌||◌, nat_le, if◌then◌else◌}
use Rattle.dali_controller.specs.declared.shorts.Shorts.{Shorts}
use Rattle.dali_controller.specs.Shorts.{with_short}
use Rattle.dali_script.specs.declared.orders.End.TheVariants.{AllFound, GaveUp}
use Rattle.dali_script.specs.Records.{Assignment, addresses}
use Rattle.dali_commissioning.specs.declared.census.Reply.{Reply}
use Rattle.dali_commissioning.specs.declared.conducting.Ended.{Ended}
use Rattle.dali_commissioning.specs.declared.conducting.Ended.TheVariants.{Done}
use Rattle.dali_commissioning.specs.declared.conducting.PassEnd.{PassEnd}
use Rattle.dali_commissioning.specs.Census.{IsAnswered, IsCleared, is_silent}
use Rattle.dali_commissioning.specs.Drivers.{Talk}
use Rattle.dali_commissioning.specs.Unaddressed.{AreLeftOver, asking}
use Rattle.dali_commission_said.specs.Reports.{heard_of}
use Rattle.dali_commission_asked.specs.Sharing.{is_shared}
use Rattle.dali_commission_asked.specs.declared.ending.AtLast.{AtLast}
use Rattle.dali_commission_asked.specs.declared.sharing.Left.{Left}

-- SHORT ADDRESSES ARE ASKED one after the other, until a gear answers at one
abbrev pub AnswersAt : ℕ → Bool → Talk → Talk → Type 0
AnswersAt a found x y =
    ((64 ≤ a) × (found ≡ false) × (y ≡ x))
    ⊎ ((a < 64) × (r : Reply) × IsAnswered a r x y × (found ≡ not (is_silent r)))

abbrev pub If : Bool → Type 0 → Type 0 → Type 0
If true A B = A
If false A B = B

abbrev pub IsAnyAt : List ℕ → Bool → Talk → Talk → Type 0
IsAnyAt [] found x y = (found ≡ false) × (y ≡ x)
IsAnyAt (a ∷ more) found x y =
    (one : Bool)
    × (at : Talk)
    × AnswersAt a one x at
    × If one ((found ≡ true) × (y ≡ at)) (IsAnyAt more found at y)

-- WHEN THEY ARE ASKED: if all gear seem to be found, or searches led to none
abbrev pub is_asked_by : Ended → ℕ → Bool
is_asked_by (Done AllFound) tries = true
is_asked_by (Done GaveUp) tries = not (nat_le 8 tries)
is_asked_by _ tries = false

abbrev pub is_asked : PassEnd → Bool
is_asked pass = is_asked_by pass.ended pass.tries

-- WHICH ARE ASKED: those of the table; and then all, if any gear was heard
abbrev pub all_shorts : Shorts
all_shorts = record { bits = 2 ^ 64 - 1 }

abbrev pub all_if : Bool → List ℕ
all_if true = heard_of all_shorts
all_if false = []

-- and gear without short address, if searches led to none
abbrev pub OrUnaddressed : Ended → Bool → Bool → Talk → Talk → Type 0
OrUnaddressed (Done GaveUp) false found x y = AreLeftOver asking found x y
OrUnaddressed ended one found x y = (found ≡ one) × (y ≡ x)

-- WHETHER ANY GEAR ANSWERS at the end of a task, by the last that was asked
abbrev pub HasAsked : PassEnd → List Assignment → Bool → Bool → Talk → Talk → Type 0
HasAsked pass enrolled heard found x y =
    If (is_asked pass)
    ((one : Bool)
    × (at : Talk)
    × IsAnyAt (addresses enrolled ++ all_if heard) one x at
    × OrUnaddressed pass.ended one found at y)
    ((found ≡ false) × (y ≡ x))

-- THE SHORT ADDRESSES THAT A SURVEY LEFT ALONE are asked again, until it is clear what answers: one
-- after the other, with what is left so far
abbrev pub with_reply : Left → ℕ → Reply → Left
with_reply left a r = record {
  heard = (if is_silent r then left.heard else with_short left.heard a);
  shared = left.shared || is_shared r;
}

abbrev pub IsAskedAgain : ℕ → Left → Left → Talk → Talk → Type 0
IsAskedAgain a before after x y =
    ((64 ≤ a) × (after ≡ before) × (y ≡ x))
    ⊎ ((a < 64) × (r : Reply) × IsCleared a r x y × (after ≡ with_reply before a r))

abbrev pub AreAskedAgain : List ℕ → Left → Left → Talk → Talk → Type 0
AreAskedAgain [] before after x y = (after ≡ before) × (y ≡ x)
AreAskedAgain (a ∷ more) before after x y =
    (left : Left)
    × (at : Talk)
    × IsAskedAgain a before left x at
    × AreAskedAgain more left after at y

abbrev pub none_left : Left
none_left = record { heard = record { bits = 0 }; shared = false }

-- WHAT IS ASKED AT LAST, in this order; the second only if a gear answers
pub record HasAskedAtLast (pass : PassEnd) (enrolled : List Assignment) (last : AtLast)
    (x y : Talk) : Type 0 where
  pub heard : Bool
  pub at : Talk
  pub asked : HasAsked pass enrolled heard last.is_there x at
  pub left : If last.is_there (AreAskedAgain (heard_of pass.heard) none_left last.left at y)
      ((last.left ≡ record { heard = pass.heard; shared = false }) × (y ≡ at))

-- WHAT THE LAST MACHINE CAME TO with that: searches that led to none say nothing of the gear if
-- none answers any more
abbrev pub ended_by : Ended → Bool → Bool → Ended
ended_by (Done GaveUp) true false = Done AllFound
ended_by ended asked found = ended

abbrev pub pass_at_last : PassEnd → AtLast → PassEnd
pass_at_last pass last = record pass {
  ended = ended_by pass.ended (is_asked pass) last.is_there;
  heard = last.left.heard;
}
