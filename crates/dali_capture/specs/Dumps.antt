use Rattle.std.specs.Prelude.{ℕ, List, [], ◌∷◌, Bool, true, false, ◌==◌, ◌||◌, nat_lt}
use Rattle.std.specs.Prelude.{Option, Some, None, Result, Ok, Err, bytes_eq, codes, if◌then◌else◌}
use Rattle.dali_capture.specs.declared.fault.Reason.{Reason}
use Rattle.dali_capture.specs.declared.fault.Reason.TheVariants as reason
use Rattle.dali_capture.specs.declared.header.Timescale.{Timescale}
use Rattle.dali_capture.specs.declared.header.Unit.{Unit as TimeUnit}
use Rattle.dali_capture.specs.declared.item.Item.{Item}
use Rattle.dali_capture.specs.declared.ear.Ear.{Ear}
use Rattle.dali_capture.specs.declared.dump.Dump.{Dump}
use Rattle.dali_capture.specs.declared.dump.Mark.{Mark}
use Rattle.dali_capture.specs.declared.dump.Mark.TheVariants as mark
use Rattle.dali_capture.specs.declared.dump.Section.{Section}
use Rattle.dali_capture.specs.declared.dump.Section.TheVariants as at
use Rattle.dali_capture.specs.Results.{then_ok, map_ok}
use Rattle.dali_capture.specs.Words.{number_of, code_of, is_code}
use Rattle.dali_capture.specs.Headers.{scale_in, unit_in, micros_of}
use Rattle.dali_capture.specs.Ears.{is_same, ear_after_level, level_told, edge_told}

-- A VALUE CHANGE DUMP is words between blanks (IEEE 1364-2005, 18.2). Of one wire is heard what its
-- levels are; all else is passed over.
abbrev pub dump_at_first : Dump
dump_at_first = record { section = at.Open; timescale = None; wire = None; now = 0; ear = None }

-- THE HEAD: sections that end with `$end`. `$timescale` has a number and a unit, in one word or
-- two; `$var` has a type, a size, an identifier, a name, and what follows; others are passed over.
abbrev pub after_skipped : List ℕ → Section
after_skipped word = if bytes_eq word (codes "$end") then at.Open else at.Skipped

abbrev pub scaled_by : Dump → ℕ → Option TimeUnit → Result Dump Reason
scaled_by dump times None = Err reason.BadTimescale
scaled_by dump times (Some unit) =
    Ok (record dump {
      section = at.Skipped;
      timescale = Some (record { times = times; unit = unit });
    })

abbrev pub scaled : Dump → ℕ → List ℕ → Result Dump Reason
scaled dump times unit = scaled_by dump times (unit_in unit)

abbrev pub scale_read : Dump → Option (ℕ × List ℕ) → Result Dump Reason
scale_read dump None = Err reason.BadTimescale
scale_read dump (Some (times, [])) = Ok (record dump { section = at.Unit times })
scale_read dump (Some (times, c ∷ cs)) = scaled dump times (c ∷ cs)

abbrev pub scale_word : Dump → List ℕ → Result Dump Reason
scale_word dump word = scale_read dump (scale_in word)

abbrev pub no_end : List ℕ → Result (Unit {0}) Reason
no_end word = if bytes_eq word (codes "$end") then Err reason.BadVariable else Ok tt

-- a variable of a text is no wire, whatever its size
abbrev pub typed : List ℕ → Section
typed word = if bytes_eq word (codes "string") then at.Skipped else at.Size

abbrev pub sized : List ℕ → Section
sized word = if bytes_eq word (codes "1") then at.Identifier else at.Skipped

abbrev pub identified : Dump → Option ℕ → Result Dump Reason
identified dump None = Err reason.LongIdentifier
identified dump (Some code) = Ok (record dump { section = at.Name code })

-- THE WIRE is the variable of one bit that has the wanted name; without one it is the only variable
-- of one bit. One that has two names is one.
abbrev pub is_wanted : Option (List ℕ) → List ℕ → Bool
is_wanted None name = true
is_wanted (Some wanted) name = bytes_eq wanted name

abbrev pub may_be : Option ℕ → ℕ → Bool
may_be None code = true
may_be (Some wire) code = wire == code

abbrev pub named : Dump → Option (List ℕ) → ℕ → List ℕ → Result Dump Reason
named dump wanted code name =
    if is_wanted wanted name
    then (if may_be dump.wire code
    then Ok (record dump { section = at.Skipped; wire = Some code })
    else Err reason.SeveralWires)
    else Ok (record dump { section = at.Skipped })

abbrev pub head_word : Section → Dump → Option (List ℕ) → List ℕ → Result Dump Reason
head_word at.Skipped dump wanted word = Ok (record dump { section = after_skipped word })
head_word at.Scale dump wanted word = scale_word dump word
head_word (at.Unit times) dump wanted word = scaled dump times word
head_word at.Type dump wanted word =
    map_ok (λ _. record dump { section = typed word }) (no_end word)
head_word at.Size dump wanted word =
    map_ok (λ _. record dump { section = sized word }) (no_end word)
head_word at.Identifier dump wanted word =
    then_ok (no_end word) (λ _. identified dump (code_of word))
head_word (at.Name code) dump wanted word =
    then_ok (no_end word) (λ _. named dump wanted code word)
head_word at.Open dump wanted word = Ok dump
head_word (at.Value level) dump wanted word = Ok dump

-- BETWEEN SECTIONS stand keywords, ..
abbrev pub holds_changes : List ℕ → Bool
holds_changes word =
    bytes_eq word (codes "$dumpvars") || (bytes_eq word (codes "$dumpall")
    || (bytes_eq word (codes "$dumpon") || (bytes_eq word (codes "$dumpoff")
    || bytes_eq word (codes "$end"))))

abbrev pub head_ended : Option ℕ → Result Section Reason
head_ended None = Err reason.NoWire
head_ended (Some wire) = Ok at.Skipped

abbrev pub section_of : Option ℕ → List ℕ → Result Section Reason
section_of wire word =
    if bytes_eq word (codes "$timescale") then Ok at.Scale
    else if bytes_eq word (codes "$var") then Ok at.Type
    else if bytes_eq word (codes "$enddefinitions") then head_ended wire
    else if holds_changes word then Ok at.Open
    else Ok at.Skipped

-- .. times, `#T`, in ticks, none less than the one before, ..
abbrev pub scaled_time : Option Timescale → ℕ → Result ℕ Reason
scaled_time None ticks = Err reason.NoTimescale
scaled_time (Some scale) ticks = micros_of scale ticks

abbrev pub at_time : Dump → List ℕ → Result Dump Reason
at_time dump word =
    then_ok (then_ok (number_of reason.BadWord word) (scaled_time dump.timescale))
    (λ now. if nat_lt now dump.now then Err reason.TimeBack else Ok (record dump { now = now }))

-- .. and changes: `0`, `1`, `x` or `z` before an identifier, or in two words a vector `b..`, a
-- number `r..` or a text `s..` and an identifier. The wire is low while it is 0; inverted, while it
-- is 1. What is neither 0 nor 1 says nothing of the wire: its level stays as it was.
abbrev pub changed : Dump → Bool → List ℕ → Bool → Dump × Option Item
changed dump inverted identifier high =
    if is_code dump.wire (code_of identifier)
    then (
      record dump { ear = ear_after_level dump.ear (is_same high inverted) dump.now },
      level_told dump.ear (is_same high inverted) dump.now,
    )
    else (dump, None)

abbrev pub level_in : List ℕ → Option Bool
level_in word =
    if bytes_eq word (codes "0") then Some false
    else if bytes_eq word (codes "1") then Some true
    else None

abbrev pub value_word : Dump → Bool → Option Bool → List ℕ → Dump × Option Item
value_word dump inverted None identifier = (record dump { section = at.Open }, None)
value_word dump inverted (Some high) identifier =
    changed (record dump { section = at.Open }) inverted identifier high

abbrev pub level_word : Dump → Bool → Option Bool → List ℕ → Result (Dump × Option Item) Reason
level_word dump inverted level [] = Err reason.BadWord
level_word dump inverted None (c ∷ cs) = Ok (dump, None)
level_word dump inverted (Some high) (c ∷ cs) = Ok (changed dump inverted (c ∷ cs) high)

-- which of these a word is, its first byte says
abbrev pub mark_of : ℕ → Mark
mark_of b =
    if b == 35 then mark.Time
    else if b == 36 then mark.Keyword
    else if b == 98 || b == 66 then mark.Vector
    else if (b == 114 || b == 82) || (b == 115 || b == 83) then mark.Number
    else if b == 48 then mark.Level (Some false)
    else if b == 49 then mark.Level (Some true)
    else if (b == 120 || b == 88) || (b == 122 || b == 90) then mark.Level None
    else mark.None

abbrev pub marked_word : Dump → Bool → Mark → List ℕ → List ℕ
    → Result (Dump × Option Item) Reason
marked_word dump inverted mark.Time word rest = map_ok (λ next. (next, None)) (at_time dump rest)
marked_word dump inverted mark.Keyword word rest =
    map_ok (λ section. (record dump { section = section }, None)) (section_of dump.wire word)
marked_word dump inverted mark.Vector word rest =
    Ok (record dump { section = at.Value (level_in rest) }, None)
marked_word dump inverted mark.Number word rest = Ok (record dump { section = at.Value None }, None)
marked_word dump inverted (mark.Level level) word rest = level_word dump inverted level rest
marked_word dump inverted mark.None word rest = Err reason.BadWord

abbrev pub open_word : Dump → Bool → List ℕ → Result (Dump × Option Item) Reason
open_word dump inverted [] = Err reason.BadWord
open_word dump inverted (first ∷ rest) =
    marked_word dump inverted (mark_of first) (first ∷ rest) rest

-- WORD BY WORD: what is read of a dump after one word more, and the item that had ended before it
abbrev pub word_at : Section → Dump → Option (List ℕ) → Bool → List ℕ
    → Result (Dump × Option Item) Reason
word_at at.Open dump wanted inverted word = open_word dump inverted word
word_at (at.Value level) dump wanted inverted word = Ok (value_word dump inverted level word)
word_at at.Skipped dump wanted inverted word =
    map_ok (λ next. (next, None)) (head_word at.Skipped dump wanted word)
word_at at.Scale dump wanted inverted word =
    map_ok (λ next. (next, None)) (head_word at.Scale dump wanted word)
word_at (at.Unit times) dump wanted inverted word =
    map_ok (λ next. (next, None)) (head_word (at.Unit times) dump wanted word)
word_at at.Type dump wanted inverted word =
    map_ok (λ next. (next, None)) (head_word at.Type dump wanted word)
word_at at.Size dump wanted inverted word =
    map_ok (λ next. (next, None)) (head_word at.Size dump wanted word)
word_at at.Identifier dump wanted inverted word =
    map_ok (λ next. (next, None)) (head_word at.Identifier dump wanted word)
word_at (at.Name code) dump wanted inverted word =
    map_ok (λ next. (next, None)) (head_word (at.Name code) dump wanted word)

abbrev pub dump_word : Dump → Option (List ℕ) → Bool → List ℕ
    → Result (Dump × Option Item) Reason
dump_word dump wanted inverted word = word_at dump.section dump wanted inverted word

-- THE END: the last item is told if the bus is at rest since, by the last time
abbrev pub told_at_end : Option Ear → ℕ → Option Item
told_at_end None now = None
told_at_end (Some ear) now = edge_told ear now

abbrev pub wire_end : Option ℕ → Option Ear → ℕ → Result (Option Item) Reason
wire_end None ear now = Err reason.NoWire
wire_end (Some wire) ear now = Ok (told_at_end ear now)

abbrev pub end_at : Section → Dump → Result (Option Item) Reason
end_at at.Open dump = wire_end dump.wire dump.ear dump.now
end_at _ dump = Err reason.Torn

abbrev pub dump_end : Dump → Result (Option Item) Reason
dump_end dump = end_at dump.section dump
