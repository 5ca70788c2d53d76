-- The first bytes of a database file (SQLite's file format, section 1.3).
use Rattle.std.specs.Prelude.{ℕ, Bool, true, false, ◌&&◌, ◌==◌, not, List, [], ◌∷◌, ◌++◌, codes}
use Rattle.std.specs.Prelude.{take, slice_index_or, bytes_eq, if◌then◌else◌}

-- the string that every database begins with
abbrev pub header_string : List ℕ
header_string = codes "SQLite format 3" ++ 0 ∷ []

abbrev pub is_database : List ℕ → Bool
is_database db = bytes_eq (take 16 db) header_string

-- a byte of the header
abbrev pub byte_at : List ℕ → ℕ → ℕ
byte_at db n = slice_index_or db n 0

-- it is written and read by a log (write version and read version 2)
abbrev pub has_log : List ℕ → Bool
has_log db = byte_at db 18 == 2 && byte_at db 19 == 2

-- its user version was never set
abbrev pub has_no_version : List ℕ → Bool
has_no_version db =
    byte_at db 60 == 0 && (byte_at db 61 == 0 && (byte_at db 62 == 0 && byte_at db 63 == 0))

-- A LATER FORM of the store sets the user version, as another program may.
abbrev pub is_newer : List ℕ → Bool
is_newer db = is_database db && not (has_no_version db)

-- A FILE OF RECORDS has such a header.
abbrev pub is_header_of_records : List ℕ → Bool
is_header_of_records db = is_database db && (has_log db && has_no_version db)

-- What may be one: nothing, such a header, or, beside a log, what the making of a file left of it.
abbrev pub is_empty : List ℕ → Bool
is_empty [] = true
is_empty (byte ∷ bytes) = false

abbrev pub may_be_records : List ℕ → List ℕ → Bool
may_be_records db log =
    if is_empty db
    then true
    else if is_database db then is_header_of_records db else not (is_empty log)
