use Rattle.std.specs.Prelude.{◌≡◌, ℕ, ◌+◌, List, [], ◌∷◌, ◌++◌, Bool, true, false, Option, Some}
use Rattle.std.specs.Prelude.{None, Result, Ok, Err, codes, decimal}
use Rattle.dali_frame.specs.declared.frames.Forward.{Forward}
use Rattle.dali_frame.specs.declared.frames.Answer.{Answer}
use Rattle.dali_frame.specs.declared.frames.Answer.TheVariants.{Silence, Byte, Damaged}
use Rattle.dali_frame.specs.Hex.{forward_text, byte_text, random_text}
use Rattle.dali_frame.specs.Random.{value_of}
use Rattle.dali_frame.specs.Priority.{ARC}
use Rattle.dali_gear.specs.declared.state.InitialisationState.{InitialisationState}
use Rattle.dali_gear.specs.declared.state.InitialisationState.TheVariants.{Disabled, Enabled}
use Rattle.dali_gear.specs.declared.state.InitialisationState.TheVariants.{Withdrawn}
use Rattle.dali_gear.specs.Gear.{Gear}
use Rattle.dali_script.specs.declared.records.Record.{Record}
use Rattle.dali_script.specs.Records.{Assignment, address_of, random_of}
use Rattle.dali_script.specs.Names.{record_name, end_name, fault_name}
use Rattle.dali_script.specs.declared.orders.Order.{Order}
use Rattle.dali_script.specs.declared.orders.Order.TheVariants.{Put, Commit, Done, Halt}
use Rattle.dali_standing.specs.declared.refusal.Refusal.{Refusal}
use Rattle.dali_standing.specs.declared.report.Report.{Report}
use Rattle.dali_standing.specs.declared.report.Report.TheVariants as report
use Rattle.dali_standing.specs.Refusals.{refusal_number, name_of}

-- THE TEXTS of reports, of benches and of sites. A report ends with a line feed.

-- what was heard
abbrev pub answer_text : Answer → List ℕ
answer_text Silence = codes "silence"
answer_text (Byte byte) = codes "byte " ++ byte_text byte
answer_text Damaged = codes "damaged"

-- `HHHH ANSWER`
abbrev pub heard_text : Forward → Answer → List ℕ
heard_text frame answer = forward_text frame ++ (codes " " ++ (answer_text answer ++ codes "\n"))

-- the line of a call that answers nothing
abbrev pub ok_text : List ℕ
ok_text = codes "ok\n"

-- the state of one gear: `gear g POWER STATE RANDOM SEARCH SHORT`
abbrev pub power_text : Bool → List ℕ
power_text true = codes "on"
power_text false = codes "off"

abbrev pub state_text : InitialisationState → List ℕ
state_text Disabled = codes "disabled"
state_text Enabled = codes "enabled"
state_text Withdrawn = codes "withdrawn"

abbrev pub short_text : Option ℕ → List ℕ
short_text None = codes "-"
short_text (Some a) = decimal a

abbrev pub addresses_text : Gear → List ℕ
addresses_text g =
    random_text g.random
    ++ (codes " " ++ (random_text (value_of g.search) ++ (codes " " ++ short_text g.short)))

abbrev pub condition_text : ℕ → Gear → List ℕ
condition_text k g =
    codes "gear "
    ++ (decimal k
    ++ (codes " " ++ (power_text g.powered ++ (codes " " ++ (state_text g.state ++ codes " ")))))

abbrev pub gear_text : ℕ → Gear → List ℕ
gear_text k g = condition_text k g ++ (addresses_text g ++ codes "\n")

-- the gear from number k on, a line each
abbrev pub gear_texts : ℕ → List Gear → List ℕ
gear_texts k [] = []
gear_texts k (g ∷ gs) = gear_text k g ++ gear_texts (k + 1) gs

-- ---------------------------------------------------------------- refusals

-- `refused K NAME`
abbrev pub refused_text : Refusal → List ℕ
refused_text e =
    codes "refused " ++ (decimal (refusal_number e) ++ (codes " " ++ (name_of e ++ codes "\n")))

-- the text of a call that answers nothing
abbrev pub ok_of : Unit {0} → List ℕ
ok_of _ = ok_text

-- what a call answers: its text, or that of the refusal
abbrev pub answer_or_refusal : {A : Type 0} → (A → List ℕ) → Result A Refusal → List ℕ
answer_or_refusal text (Ok a) = text a
answer_or_refusal text (Err e) = refused_text e

-- ---------------------------------------------------------------- orders

abbrev pub commit_text : Record → List ℕ
commit_text x =
    record_name x
    ++ (codes " " ++ (decimal (address_of x) ++ (codes " " ++ random_text (random_of x))))

abbrev pub put_text : ℕ → Forward → List ℕ
put_text p f = codes "put " ++ (decimal p ++ (codes " " ++ forward_text f))

abbrev pub order_text : Order → List ℕ
order_text (Put p f) = put_text p f
order_text (Commit x) = codes "commit " ++ commit_text x
order_text (Done e) = codes "done " ++ end_name e
order_text (Halt w) = codes "halt " ++ fault_name w

-- `c: ORDER`
abbrev pub ordered_text : ℕ → Order → List ℕ
ordered_text c o = decimal c ++ (codes ": " ++ (order_text o ++ codes "\n"))

-- a run reports of its orders those that are no Put
abbrev pub kept_text : ℕ → Order → List ℕ
kept_text c (Put p f) = []
kept_text c (Commit x) = ordered_text c (Commit x)
kept_text c (Done e) = ordered_text c (Done e)
kept_text c (Halt w) = ordered_text c (Halt w)

-- `c: put 2 HHHH`
abbrev pub offered_text : ℕ → Forward → List ℕ
offered_text c f = decimal c ++ (codes ": " ++ (put_text ARC f ++ codes "\n"))

abbrev pub offered_of : ℕ → Forward → Unit {0} → List ℕ
offered_of c f _ = offered_text c f

-- ---------------------------------------------------------------- the bus

abbrev pub destroyed_text : ℕ → Forward → List ℕ
destroyed_text c f = decimal c ++ (codes ": destroyed " ++ forward_text f)

abbrev pub collided_text : ℕ → Forward → ℕ → Forward → List ℕ
collided_text c f d g = destroyed_text c f ++ (codes ", " ++ (destroyed_text d g ++ codes "\n"))

abbrev pub sent_text : ℕ → Forward → Answer → List ℕ
sent_text c f h = decimal c ++ (codes ": sent " ++ heard_text f h)

abbrev pub report_text : Report → List ℕ
report_text report.Idle = codes "idle\n"
report_text (report.Sent c f h) = sent_text c f h
report_text (report.Destroyed c f) = destroyed_text c f ++ codes "\n"
report_text (report.Collided c f d g) = collided_text c f d g

abbrev pub owner_text : Option ℕ → List ℕ
owner_text None = codes "-"
owner_text (Some c) = decimal c

-- `lapse c`, or `lapse -`
abbrev pub lapse_text : Option ℕ → List ℕ
lapse_text owner = codes "lapse " ++ (owner_text owner ++ codes "\n")

-- `ran F`
abbrev pub ran_text : ℕ → List ℕ
ran_text frames = codes "ran " ++ (decimal frames ++ codes "\n")

-- ---------------------------------------------------------------- tables

-- ` a=RRRRRR` for each entry
abbrev pub entry_text : Assignment → List ℕ
entry_text x = codes " " ++ (decimal x.0 ++ (codes "=" ++ random_text x.1))

abbrev pub entries_text : List Assignment → List ℕ
entries_text [] = []
entries_text (x ∷ xs) = entry_text x ++ entries_text xs

-- `table c:`, and its entries
abbrev pub table_text : ℕ → List Assignment → List ℕ
table_text c entries =
    codes "table " ++ (decimal c ++ (codes ":" ++ (entries_text entries ++ codes "\n")))

-- ---------------------------------------------------------------- appending

-- a text was appended, of which this is said
abbrev pub Writes : List ℕ → List ℕ → (List ℕ → Type 0) → Type 0
Writes old new Is = (more : List ℕ) × (new ≡ old ++ more) × Is more
