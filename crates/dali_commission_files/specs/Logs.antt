use Rattle.std.specs.Prelude.{◌≡◌, ◌≢◌, ◌⊎◌, ℕ, zero, suc, ◌==◌, ◌<◌, ◌≤◌, ◌+◌, ◌*◌, ◌/◌, nat_le}
use Rattle.std.specs.Prelude.{Bool, true, false, ◌||◌, List, [], ◌∷◌, Option, Some, None}
use Rattle.std.specs.Prelude.{length, drop, slice_range, slice_set}
use Rattle.sqlite_wal.specs.Format.{be32, stored_sum, checksum, is_big, count_page}
use Rattle.sqlite_wal.specs.Format.{page_number, commit_size}

-- A LOG begins with a byte of its own, or, if it is emptied, with another one (SQLite's file
-- format, section 4)
abbrev pub begins_log : List ℕ → Bool
begins_log [] = false
begins_log (first ∷ more) = first == 0x37 || first == 0

-- its header: 32 bytes, with the first one of a log that is not emptied
abbrev pub head_of : List ℕ → List ℕ
head_of log = slice_set (slice_range log 0 32) 0 0x37

abbrev pub IsHeadOf : List ℕ → Option (List ℕ) → Type 0
IsHeadOf log None = nat_le 32 (length log) ≡ false
IsHeadOf log (Some head) = (nat_le 32 (length log) ≡ true) × (head ≡ head_of log)

-- the checksum of a header holds
abbrev pub IsSigned : List ℕ → Type 0
IsSigned head = checksum (is_big head) (0, 0) (slice_range head 0 24) ≡ stored_sum head 24

-- A FRAME IS OF THE LOG as it is now, if it has the numbers of the header
abbrev pub IsOf : List ℕ → List ℕ → Type 0
IsOf head frame = slice_range frame 8 16 ≡ slice_range head 16 24

-- the checksum of a frame that holds behind that of the one before
abbrev pub HoldsBehind : List ℕ → ℕ × ℕ → List ℕ → ℕ × ℕ → Type 0
HoldsBehind head before frame sum =
    IsOf head frame
    × (sum ≡ checksum (is_big head) (checksum (is_big head) before (slice_range frame 0 8))
    (slice_range frame 24 (length frame)))
    × (sum ≡ stored_sum frame 16)

-- THE FRAMES of a log lie one behind the other, all of one size; what is left at the end is none
abbrev pub frame_at : ℕ → List ℕ → ℕ → List ℕ
frame_at size frames i = slice_range frames (i * size) ((i + 1) * size)

-- the checksum before a frame is that of the frame before, and of the first one that of the header
abbrev pub sum_before : List ℕ → ℕ → List ℕ → ℕ → ℕ × ℕ
sum_before head size frames zero = stored_sum head 24
sum_before head size frames (suc i) = stored_sum (frame_at size frames i) 16

abbrev pub Holds : List ℕ → ℕ → List ℕ → ℕ → Type 0
Holds head size frames i =
    HoldsBehind head (sum_before head size frames i) (frame_at size frames i)
    (stored_sum (frame_at size frames i) 16)

-- A TRANSACTION ends with a frame that commits, and begins, if it is counted, with the page of the
-- count. Another one begins at a frame behind this one if it does so there, or if one ends between.
abbrev pub EndsBetween : List ℕ → ℕ → List ℕ → ℕ → ℕ → Type 0
EndsBetween head size frames from to =
    (i : ℕ)
    × (from ≤ i)
    × (i < to)
    × IsOf head (frame_at size frames i)
    × (commit_size (frame_at size frames i) ≢ 0)

abbrev pub BeginsAt : List ℕ → ℕ → List ℕ → ℕ → ℕ → Type 0
BeginsAt head size frames from j =
    IsOf head (frame_at size frames j)
    × (((from < j) × (page_number (frame_at size frames j) ≡ count_page))
    ⊎ EndsBetween head size frames from j)

-- of so many frames
abbrev pub BeginsBehind : List ℕ → ℕ → List ℕ → ℕ → ℕ → Type 0
BeginsBehind head size frames from count =
    (j : ℕ) × (j < count) × BeginsAt head size frames from j

-- A LOG IS BROKEN if another transaction begins behind a frame that does not hold. All that lies
-- before was on the disk when it began, so it is damaged, and not torn.
abbrev pub IsBroken : List ℕ → ℕ → List ℕ → Type 0
IsBroken head size frames =
    (k : ℕ)
    × (k < length frames / size)
    × (Holds head size frames k → ⊥)
    × BeginsBehind head size frames k (length frames / size)

-- SQLite reads frames behind a header only if the log begins as one, its checksum holds, and a page
-- has at most 65536 bytes
abbrev pub IsRead : List ℕ → Type 0
IsRead log =
    (begins_log log ≡ true) × IsSigned (head_of log) × (be32 (head_of log) 8 ≤ 65536)

-- A LOG IS DAMAGED before its end if SQLite reads no frame of it though it has one, or if it is
-- broken
abbrev pub IsDamaged : List ℕ → Type 0
IsDamaged log =
    (32 ≤ length log)
    × ((IsRead log × IsBroken (head_of log) (24 + be32 (head_of log) 8) (drop 32 log))
    ⊎ ((IsRead log → ⊥) × (56 < length log)))
