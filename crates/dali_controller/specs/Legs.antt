use Rattle.std.specs.Prelude.{ℕ, Bool, true, false}
use Rattle.dali_search.specs.Least.{Search, at_first}
use Rattle.dali_search.specs.Ascending.{Ascent, ascent_at_first}
use Rattle.dali_controller.specs.declared.leg.Leg.{Leg}
use Rattle.dali_controller.specs.declared.leg.Leg.TheVariants.{Revisiting, Asking, Searching}
use Rattle.dali_controller.specs.declared.leg.Leg.TheVariants.{Hunting}
use Rattle.dali_controller.specs.declared.way.Way.{Way}
use Rattle.dali_controller.specs.declared.way.Way.TheVariants.{Fresh, Surveying}

-- WHAT A LEG SAYS of a machine.

-- how it began
abbrev pub way_on : Leg → Way
way_on (Revisiting from) = Fresh
way_on (Asking from silences) = Surveying
way_on (Searching s) = Fresh
way_on (Hunting a) = Surveying

-- whether gear are searched
abbrev pub is_searching : Leg → Bool
is_searching (Revisiting from) = false
is_searching (Asking from silences) = false
is_searching (Searching s) = true
is_searching (Hunting a) = true

-- the first short address that was not looked at; 64 if none is looked at any more
abbrev pub from_on : Leg → ℕ
from_on (Revisiting from) = from
from_on (Asking from silences) = from
from_on (Searching s) = 64
from_on (Hunting a) = 64

-- how often in a row the short address that is asked was silent
abbrev pub silences_on : Leg → ℕ
silences_on (Revisiting from) = 0
silences_on (Asking from silences) = silences
silences_on (Searching s) = 0
silences_on (Hunting a) = 0

-- its search, and the one that goes up: if it has none, one that has asked nothing
abbrev pub search_on : Leg → Search
search_on (Revisiting from) = at_first
search_on (Asking from silences) = at_first
search_on (Searching s) = s
search_on (Hunting a) = at_first

abbrev pub ascent_on : Leg → Ascent
ascent_on (Revisiting from) = ascent_at_first
ascent_on (Asking from silences) = ascent_at_first
ascent_on (Searching s) = ascent_at_first
ascent_on (Hunting a) = a

-- WHAT CHANGES ON A LEG.

-- the count of silences, if short addresses are asked
abbrev pub with_silences : Leg → ℕ → Leg
with_silences (Asking from silences) n = Asking from n
with_silences l n = l
