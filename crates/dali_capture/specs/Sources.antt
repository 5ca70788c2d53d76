use Rattle.std.specs.Prelude.{ℕ, List, Bool, Option, None, Result, Ok, is_some, if◌then◌else◌}
use Rattle.dali_capture.specs.declared.fault.Reason.{Reason}
use Rattle.dali_capture.specs.declared.item.Item.{Item}
use Rattle.dali_capture.specs.declared.source.Source.{Source}
use Rattle.dali_capture.specs.declared.source.Source.TheVariants.{Unknown, Log, Dump}
use Rattle.dali_capture.specs.Results.{map_ok}
use Rattle.dali_capture.specs.Words.{after_mark}
use Rattle.dali_capture.specs.Logs.{log_at_first, log_word, log_line_end}
use Rattle.dali_capture.specs.Dumps.{dump_at_first, dump_word, dump_end}

-- A CAPTURE IS A DUMP if its first word begins with `$`, else a log.
abbrev pub source_of : List ℕ → Source
source_of word = if is_some (after_mark 36 word) then Dump dump_at_first else Log log_at_first

abbrev pub begun : Source → List ℕ → Source
begun Unknown word = source_of word
begun (Log log) word = Log log
begun (Dump dump) word = Dump dump

abbrev pub begun_word : Source → Option (List ℕ) → Bool → List ℕ
    → Result (Source × Option Item) Reason
begun_word Unknown wanted inverted word = Ok (Unknown, None)
begun_word (Log log) wanted inverted word = map_ok (λ r. (Log r.0, r.1)) (log_word log word)
begun_word (Dump dump) wanted inverted word =
    map_ok (λ r. (Dump r.0, r.1)) (dump_word dump wanted inverted word)

abbrev pub source_word : Source → Option (List ℕ) → Bool → List ℕ
    → Result (Source × Option Item) Reason
source_word source wanted inverted word = begun_word (begun source word) wanted inverted word

-- lines end in logs alone
abbrev pub source_line_end : Source → Result Source Reason
source_line_end Unknown = Ok Unknown
source_line_end (Log log) = map_ok (λ l. Log l) (log_line_end log)
source_line_end (Dump dump) = Ok (Dump dump)

abbrev pub source_end : Source → Result (Option Item) Reason
source_end Unknown = Ok None
source_end (Log log) = map_ok (λ _. None) (log_line_end log)
source_end (Dump dump) = dump_end dump
