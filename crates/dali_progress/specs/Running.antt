use Rattle.std.specs.Prelude.{◌≡◌, ◌⊎◌, ℕ, ◌+◌, ◌<◌, Bool, true, false, List, ◌++◌, length, Ok}
use Rattle.dali_script.specs.declared.orders.Order.{Order}
use Rattle.dali_script.specs.declared.orders.End.{End}
use Rattle.dali_events.specs.declared.event.Event.{Event}
use Rattle.dali_events.specs.Plan.{Plan}
use Rattle.dali_world.specs.Site.{SiteState}
use Rattle.dali_replay.specs.declared.rounds.Round.TheVariants as round
use Rattle.dali_replay.specs.Installation.{Installation, controller}
use Rattle.dali_replay.specs.Installation as replayed
use Rattle.dali_replay.specs.Rounds.{IsRoundOf, controllers, has_turn, Ran}
use Rattle.dali_replay.specs.Rounds as replay
use Rattle.dali_progress.specs.Rounds.{Beginning, by_survey, BeginsAlone, bare, most_events}
use Rattle.dali_progress.specs.Rounds.{HasEnded, Rounds, site_after}
use Rattle.dali_progress.specs.Ends.{IsTrueEnd, table_at, NamesAll}
use Rattle.dali_progress.specs.Spared.{IsUsedOf, HavePower}

-- A RUN OF ROUNDS of an installation in which one controller is alone. Nothing is due for the
-- others: they are down, or have ended. As the run begins, a controller that is to start has done
-- nothing, and one that is to survey has begun so (`survey 0` of a script), which is one event.
abbrev pub HasBegun : Bool → ℕ → Installation → Installation → Type 0
HasBegun false c n between = between ≡ n
HasBegun true c n between = (o : Order) × replayed.Surveys n c (Ok o) between

pub record HasTurnAlone (n : Installation) (c : ℕ) : Type 0 where
  pub known : c < controllers n
  pub others : (d : ℕ) → d < controllers n → (d ≡ c → ⊥) → has_turn (controller n d) ≡ false

abbrev pub begun : Bool → ℕ
begun false = 0
begun true = 1

pub record RanAlone (b : Beginning) (c limit : ℕ) (n between : Installation) (sent : ℕ)
    (text : List ℕ) (m : Installation) : Type 0 where
  pub alone : BeginsAlone b n.site c
  pub turns : HasTurnAlone n c
  pub has_begun : HasBegun (by_survey b) c n between
  pub ran : Ran limit between sent text m

-- Used gear are left alone: none of them has an address of the block, or the controller begins by
-- a survey, and all of them have power, as they have on a new site.
abbrev pub HasNoneUsed : Plan → ℕ → Type 0
HasNoneUsed p c = (a : ℕ) → IsUsedOf p c a → ⊥

abbrev pub SparesUsed : Beginning → SiteState → ℕ → Type 0
SparesUsed b s c = HasNoneUsed s.plan c ⊎ ((by_survey b ≡ true) × HavePower s)

abbrev pub SparesUsedOf : Beginning → Plan → Type 0
SparesUsedOf b p = HasNoneUsed p 0 ⊎ (by_survey b ≡ true)

-- room for it: used gear are left alone, a request may wait, and all events find room in the log
pub record HasRoom (b : Beginning) (s : SiteState) (c : ℕ) : Type 0 where
  pub spares : SparesUsed b s c
  pub waits : 0 < s.queue
  pub fits : length s.log + most_events b (bare s) < s.room

-- HOW IT ENDS: by rounds alone the controller has ended, and what it says is true; if the site
-- was once as `before`
pub record HasEndedBy (b : Beginning) (before s : SiteState) (c : ℕ) : Type 0 where
  pub events : List Event
  pub rounds : Rounds (by_survey b) before c events
  pub is : s ≡ site_after before events
  pub outcome : End
  pub ended : HasEnded s c outcome
  pub is_true : IsTrueEnd b before s c outcome
  pub named : NamesAll (by_survey b) before (table_at s c) s

-- or, after some rounds, which sent these frames, a call of the next round was refused
pub record WasRefused (n : Installation) (frames : ℕ) (text : List ℕ)
    (m : Installation) : Type 0 where
  pub rounds : ℕ
  pub front : List ℕ
  pub between : Installation
  pub last : List ℕ
  pub played : replay.Rounds n rounds frames front between
  pub refused : IsRoundOf between round.Refused last m
  pub whole : text ≡ front ++ last
