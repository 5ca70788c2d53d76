use Rattle.std.specs.Prelude.{ℕ, ◌+◌, List, [], ◌∷◌, ◌++◌, Bool, true, false, not, ◌==◌, ◌&&◌}
use Rattle.std.specs.Prelude.{Option, Some, None, codes, decimal, slice_index_or, if◌then◌else◌}
use Rattle.dali_frame.specs.Hex.{byte_text}
use Rattle.dali_special.specs.Command.{command_of}
use Rattle.dali_gear.specs.declared.row.Reach.TheVariants.{Only}
use Rattle.dali_gear.specs.declared.state.InitialisationState.{InitialisationState}
use Rattle.dali_gear.specs.declared.state.InitialisationState.TheVariants as state
use Rattle.dali_gear.specs.Gear.{Gear, fresh, answer_to}
use Rattle.dali_gear.specs.Row.{reaches}
use Rattle.dali_replay.specs.Json.{json_condition, json_addresses}
use Rattle.dali_story.specs.declared.lists.Listed.{Listed}
use Rattle.dali_story.specs.declared.lists.Listed.TheVariants.{Answers, Takers, Changes}

-- GEAR THAT AN EVENT NAMES, in order of their number: those that answer, those that a destroyed
-- frame reaches, those that were changed.

-- a gear that answers, with its backward frame
abbrev pub answer_item : ℕ → Option ℕ → Option (List ℕ)
answer_item k None = None
answer_item k (Some byte) =
    Some
    (codes "{\"gear\":"
    ++ (decimal k ++ (codes ",\"byte\":\"" ++ (byte_text byte ++ codes "\"}"))))

-- whether two gear show the same: power, initialisation state, random and short address
abbrev pub state_number : InitialisationState → ℕ
state_number state.Disabled = 0
state_number state.Enabled = 1
state_number state.Withdrawn = 2

abbrev pub same_short : Option ℕ → Option ℕ → Bool
same_short None None = true
same_short None (Some b) = false
same_short (Some a) None = false
same_short (Some a) (Some b) = a == b

abbrev pub shows_same : Gear → Gear → Bool
shows_same g h =
    (((if g.powered then h.powered else not h.powered)
    && (state_number g.state == state_number h.state))
    && (g.random == h.random))
    && same_short g.short h.short

-- a gear as JSON
unfoldable pub gear_object : ℕ → Gear → List ℕ
gear_object k g = json_condition k g ++ json_addresses g

-- what is listed of gear k, by what it was before the event and is after it
abbrev pub item_of : Listed → ℕ → Gear → Gear → Option (List ℕ)
item_of (Answers f) k was is = answer_item k (answer_to (command_of f) was)
item_of (Takers set) k was is = if reaches (Only set) k then Some (decimal k) else None
item_of Changes k was is = if shows_same was is then None else Some (gear_object k is)

-- items with commas between them, and whether the next one is the first
abbrev pub between : Bool → List ℕ
between true = []
between false = codes ","

abbrev pub item_text : Bool → Option (List ℕ) → List ℕ
item_text first None = []
item_text first (Some item) = between first ++ item

abbrev pub still_first : Bool → Option (List ℕ) → Bool
still_first first None = first
still_first first (Some item) = false

-- the gear from number k on, by all gear after the event
abbrev pub list_from : Listed → List Gear → Bool → ℕ → List Gear → List ℕ
list_from l is first k [] = []
list_from l is first k (g ∷ gs) =
    item_text first (item_of l k g (slice_index_or is k fresh))
    ++ list_from l is (still_first first (item_of l k g (slice_index_or is k fresh))) (k + 1) gs

unfoldable pub list_text : Listed → List Gear → List Gear → List ℕ
list_text l was is = list_from l is true 0 was
