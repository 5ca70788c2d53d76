use Rattle.std.specs.Prelude.{ℕ, List, [], ◌∷◌, ◌++◌, codes}
use Rattle.sqlite.specs.Recovery.{Image}
use Rattle.dali_folder.specs.Events.{Event, Likens, SyncsFolder, Sight, writing, removing}
use Rattle.dali_folder.specs.Events.{renaming}
use Rattle.dali_folder.specs.Events as folder
use Rattle.dali_folder.specs.Lying as lying
use Rattle.dali_commission_stores.specs.Calls.{Call, Wrote, Renamed, Likened, Removed, Synced}
use Rattle.dali_commission_stores.specs.Calls.{Opened, Closed, Look, Has, Text, Lies, Read, Alone}
use Rattle.dali_commission_files.specs.Opened.{AreReadOf}

-- WHAT A CALL of the places where records are kept does in folders: a text is written to a file
-- that lies beside, and a log of SQLite that was left under a name is removed before a file gets
-- it; what SQLite does to a file that is open is its own
abbrev pub events_of : Call → List Event
events_of (Wrote name text) = writing (name ++ codes ".part") name text
events_of (Renamed from to) = renaming (to ++ codes "-wal") from to
events_of (Likened name to) = Likens name to ∷ []
events_of (Removed name) = removing name
events_of (Synced name) = SyncsFolder name ∷ []
events_of (Opened name) = []
events_of (Closed name) = []

-- WHAT A LOOK at them has shown, as a look at folders; records were read of what lies under their
-- name; of locks nothing is said
abbrev pub HasSeen : {F : Type 0} → (F → Sight → Type 0) → (F → List ℕ → Image → Type 0) → F → Look
    → Type 0
HasSeen saw lies x (Has name is_there) = saw x (folder.Has name is_there)
HasSeen saw lies x (Text name text) = saw x (folder.Reads name text)
HasSeen saw lies x (Lies name at) = lying.Lies name at
HasSeen saw lies x (Read name kept) = (image : Image) × lies x name image × AreReadOf image kept
HasSeen saw lies x (Alone name) = Unit {0}
