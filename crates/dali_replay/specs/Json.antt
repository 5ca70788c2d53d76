use Rattle.std.specs.Prelude.{ℕ, zero, suc, ◌+◌, List, [], ◌∷◌, ◌++◌, length, Option, Some, None}
use Rattle.std.specs.Prelude.{bytes_eq, codes, decimal, if◌then◌else◌}
use Rattle.dali_frame.specs.Hex.{random_text}
use Rattle.dali_frame.specs.Random.{value_of}
use Rattle.dali_gear.specs.Gear.{Gear}
use Rattle.dali_script.specs.Records.{Assignment}
use Rattle.dali_events.specs.World.{World, gear_at, controller_at}
use Rattle.dali_world.specs.Site.{world}
use Rattle.dali_replay.specs.declared.form.Form.{Form}
use Rattle.dali_replay.specs.declared.form.Form.TheVariants as form
use Rattle.dali_replay.specs.declared.player.Player.{Player}
use Rattle.dali_replay.specs.declared.player.Player.TheVariants as player
use Rattle.dali_replay.specs.Text.{power_text, state_text}

-- WHAT IS SHOWN AS JSON: the same gear and tables as in the texts.

-- a comma, but before the first item
abbrev pub comma : ℕ → List ℕ
comma zero = []
comma (suc k) = codes ","

-- the state of one gear
abbrev pub json_short : Option ℕ → List ℕ
json_short None = codes "null"
json_short (Some a) = decimal a

abbrev pub json_condition : ℕ → Gear → List ℕ
json_condition k g =
    codes "{\"gear\":"
    ++ (decimal k
    ++ (codes ",\"power\":\""
    ++ (power_text g.powered ++ (codes "\",\"state\":\"" ++ (state_text g.state ++ codes "\"")))))

abbrev pub json_numbers : Gear → List ℕ
json_numbers g =
    codes ",\"random\":\""
    ++ (random_text g.random
    ++ (codes "\",\"search\":\""
    ++ (random_text (value_of g.search) ++ codes "\",\"short\":")))

abbrev pub json_addresses : Gear → List ℕ
json_addresses g = json_numbers g ++ (json_short g.short ++ codes "}")

abbrev pub json_gear : ℕ → Gear → List ℕ
json_gear k g = comma k ++ (json_condition k g ++ json_addresses g)

-- the gear of a bench, from number k on; and those of a site, before number k
abbrev pub json_row : ℕ → List Gear → List ℕ
json_row k [] = []
json_row k (g ∷ gs) = json_gear k g ++ json_row (k + 1) gs

abbrev pub json_gear_before : World → ℕ → List ℕ
json_gear_before w zero = []
json_gear_before w (suc k) = json_gear_before w k ++ json_gear k (gear_at w k)

-- the entries of a table, from number k on
abbrev pub json_entry : ℕ → Assignment → List ℕ
json_entry k x =
    comma k
    ++ (codes "{\"short\":"
    ++ (decimal x.0 ++ (codes ",\"random\":\"" ++ (random_text x.1 ++ codes "\"}"))))

abbrev pub json_entries : ℕ → List Assignment → List ℕ
json_entries k [] = []
json_entries k (x ∷ xs) = json_entry k x ++ json_entries (k + 1) xs

abbrev pub json_controller : ℕ → List ℕ
json_controller c = codes "{\"controller\":" ++ (decimal c ++ codes ",\"entries\":[")

abbrev pub json_table : ℕ → List Assignment → List ℕ
json_table c entries = json_controller c ++ (json_entries 0 entries ++ codes "]}")

-- the tables of the controllers before number c
abbrev pub json_table_at : ℕ → List Assignment → List ℕ
json_table_at c entries = comma c ++ json_table c entries

abbrev pub json_tables : World → ℕ → List ℕ
json_tables w zero = []
json_tables w (suc c) =
    json_tables w c ++ json_table_at c (controller_at w c).records.enrolled

-- ---------------------------------------------------------------- a line of a script

-- the gear and the tables; a bench has no tables
abbrev pub json_state : Player → List ℕ
json_state (player.Bench w) = json_row 0 w.gear ++ codes "],\"tables\":["
json_state (player.Site n) =
    json_gear_before (world n.site) n.site.plan.gear
    ++ (codes "],\"tables\":[" ++ json_tables (world n.site) (length n.site.plan.blocks))

-- with the number of the line
abbrev pub json_number : ℕ → List ℕ
json_number n = codes "{\"line\":" ++ (decimal n ++ codes ",\"gear\":[")

abbrev pub json_line : ℕ → Player → List ℕ
json_line n s = json_number n ++ (json_state s ++ codes "]}\n")

-- WHAT IS WRITTEN of a line, by what stands after it and by its report: the report itself; or as
-- JSON what `show` shows, and nothing of any other line.
abbrev pub written : Form → ℕ → List ℕ → Player → List ℕ → List ℕ
written form.Text n line s report = report
written form.Json n line s report =
    if bytes_eq line (codes "show") then json_line n s else []
