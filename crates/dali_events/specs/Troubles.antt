use Rattle.std.specs.Prelude.{ℕ, List, [], Option, Some, None, bytes_eq, codes, if◌then◌else◌}
use Rattle.dali_frame.specs.declared.frames.Answer.{Answer}
use Rattle.dali_frame.specs.declared.frames.Answer.TheVariants.{Silence, Damaged}
use Rattle.dali_gear.specs.declared.gear_set.GearSet.{GearSet}
use Rattle.dali_gear.specs.declared.row.Reach.{Reach}
use Rattle.dali_gear.specs.declared.row.Reach.TheVariants.{Everyone, Only}
use Rattle.dali_events.specs.declared.trouble.Trouble.{Trouble}
use Rattle.dali_events.specs.declared.trouble.Trouble.TheVariants as trouble

-- what is heard under a trouble, if this would be heard without it
abbrev pub heard_under : Trouble → Answer → Answer
heard_under trouble.None plain = plain
heard_under trouble.AnswerLost plain = Silence
heard_under trouble.Noise plain = Damaged
heard_under (trouble.Destroyed set) plain = plain
heard_under trouble.Collision plain = plain

-- the set of no gear
abbrev pub nobody_at_all : GearSet
nobody_at_all = 0

-- the gear that a frame reaches under a trouble
abbrev pub reach_under : Trouble → Reach
reach_under trouble.None = Everyone
reach_under trouble.AnswerLost = Everyone
reach_under trouble.Noise = Everyone
reach_under (trouble.Destroyed set) = Only set
reach_under trouble.Collision = Only nobody_at_all

-- THE NAMES of troubles in a script. If nothing disturbs there is none; if a frame is
-- destroyed, the set of gear that take it follows the name.
abbrev pub trouble_name : Trouble → List ℕ
trouble_name trouble.None = []
trouble_name trouble.AnswerLost = codes "lost"
trouble_name trouble.Noise = codes "noise"
trouble_name (trouble.Destroyed set) = codes "destroyed"
trouble_name trouble.Collision = codes "collision"

-- the trouble with this name, of those that stand alone
abbrev pub trouble_named : List ℕ → Option Trouble
trouble_named name =
    if bytes_eq name (codes "lost") then Some trouble.AnswerLost
    else if bytes_eq name (codes "noise") then Some trouble.Noise
    else if bytes_eq name (codes "collision") then Some trouble.Collision
    else None

-- that it does so
abbrev pub StandsAlone : Trouble → Type 0
StandsAlone trouble.None = ⊥
StandsAlone trouble.AnswerLost = Unit {0}
StandsAlone trouble.Noise = Unit {0}
StandsAlone (trouble.Destroyed set) = ⊥
StandsAlone trouble.Collision = Unit {0}

-- the trouble with this name and this set of gear
abbrev pub destroying_named : List ℕ → GearSet → Option Trouble
destroying_named name set =
    if bytes_eq name (codes "destroyed") then Some (trouble.Destroyed set) else None
