use Rattle.std.specs.Prelude.{◌≡◌, ◌⊎◌, ◌↔◌, ℕ, ◌<◌, Bool, true, not, ◌&&◌, ◌||◌, Option}
use Rattle.std.specs.Prelude.{Some, None, is_some, List, [], ◌∷◌, ◌++◌, slice_get}
use Rattle.std.specs.List.{list_any, list_all}
use Rattle.dali_frame.specs.declared.frames.Forward.{Forward}
use Rattle.dali_frame.specs.declared.frames.Answer.{Answer}
use Rattle.dali_frame.specs.Random.{MASK24}
use Rattle.dali_special.specs.Command.{command_of}
use Rattle.dali_script.specs.declared.trace.Entry.{Entry}
use Rattle.dali_script.specs.declared.finding.Finding.{Finding}
use Rattle.dali_script.specs.declared.records.Record.{Record}
use Rattle.dali_script.specs.declared.records.Record.TheVariants.{Reserve, Enrol, Release}
use Rattle.dali_script.specs.Records.{Assignment, Kept, Has, HasAddress, InBlock, with_record}
use Rattle.dali_script.specs.Findings.{search_of, asked_of, found_by, assigned}
use Rattle.dali_script.specs.Scripts.{Lawful}
use Rattle.dali_statement.specs.Page.{Command, Heard, Moment, Sent, Destroyed, Reserves, Enrols}
use Rattle.dali_statement.specs.Page.{Releases, Power, Expires, Plan, Site, holds, heard_by}
use Rattle.dali_statement.specs.Page.{happens, hears, are_apart, may_send, allowed}
use Rattle.dali_statement.specs.Gear.{command_seen}
use Rattle.dali_statement.specs.Scripts.{heard_seen}

-- A SENDER ALONE, that runs the transactions of `dali_script`: its records, the frames of its
-- transaction with what was heard, and what it was told: short addresses, each with the random
-- address of its gear.
pub record Own : Type 0 where
  pub kept : Kept
  pub trace : List Entry
  pub told : List Assignment

-- WHAT IT DOES, as far as it knows.
pub data Act : Type 0 where
  -- it put a frame, which was sent whole, and was told what was heard
  Puts : Forward → Answer → Act
  -- it put a frame, and was told that it was destroyed
  Loses : Forward → Act
  -- its transaction is over, or it restarts
  Begins : Act
  -- its store has committed a record
  Keeps : Record → Act

abbrev pub told_more : Option Finding → List Assignment → List Assignment
told_more None told = told
told_more (Some x) told = assigned x ∷ told

abbrev pub own_after : Own → Act → Own
own_after v (Puts f h) = record v {
  trace = v.trace ++ (record { frame = f; heard = h }) ∷ [];
  told = told_more (found_by (search_of v.trace) (asked_of v.trace) (command_of f) h) v.told;
}
own_after v (Loses f) = record v { trace = [] }
own_after v Begins = record v { trace = [] }
own_after v (Keeps x) = record v { kept = with_record v.kept x }

abbrev pub own_all : Own → List Act → Own
own_all v [] = v
own_all v (a ∷ acts) = own_all (own_after v a) acts

-- IT KEEPS TO ITS SCRIPTS: each frame is lawful after its trace, by the records that its store has
-- committed; and each record is one that it may add, of what it was told.
abbrev pub IsOwn : Own → Act → Type 0
IsOwn v (Puts f h) = Lawful v.kept.block v.kept.reserved v.trace f
IsOwn v (Loses f) = Lawful v.kept.block v.kept.reserved v.trace f
IsOwn v Begins = Unit {0}
IsOwn v (Keeps (Reserve a r)) =
    InBlock v.kept.block a × (r < MASK24) × (HasAddress v.kept.reserved a → ⊥)
IsOwn v (Keeps (Enrol a r)) = Has v.told (a, r)
IsOwn v (Keeps (Release a r)) =
    Has v.kept.reserved (a, r) × (b : ℕ) × Has v.told (b, r) × (b ≡ a → ⊥)

abbrev pub AreOwn : Own → List Act → Type 0
AreOwn v [] = Unit {0}
AreOwn v (a ∷ acts) = IsOwn v a × AreOwn (own_after v a) acts

-- ---------------------------------------------------------------- on a bus

-- WHAT IT DOES AT A MOMENT of the page. A frame of others finds it without a transaction.
abbrev pub IsSender : Own → List Act → Command → Option Heard → Type 0
IsSender v acts x (Some h) =
    (f : Forward) × (g : Answer) × (acts ≡ Puts f g ∷ []) × (x ≡ command_seen (command_of f))
    × (h ≡ heard_seen g)
IsSender v acts x None = (acts ≡ []) × (v.trace ≡ [])

abbrev pub IsLoser : ℕ → Own → List Act → List (ℕ × Command) → Type 0
IsLoser c v acts frames =
    ((acts ≡ []) × (v.trace ≡ [])
    × ((k : ℕ) (x : Command) → slice_get frames k ≡ Some (c, x) → ⊥))
    ⊎ ((f : Forward) × (acts ≡ Loses f ∷ [])
    × ((k : ℕ) (x : Command) → slice_get frames k ≡ Some (c, x)
    → x ≡ command_seen (command_of f)))

abbrev pub IsKeeper : ℕ → ℕ → List Act → Record → Type 0
IsKeeper c d acts x =
    ((d ≡ c) × (acts ≡ Keeps x ∷ [])) ⊎ ((d ≡ c → ⊥) × (acts ≡ []))

abbrev pub IsShown : ℕ → Own → List Act → Moment → Type 0
IsShown c v acts (Sent x senders reach) = IsSender v acts x (heard_by c senders)
IsShown c v acts (Destroyed frames reach) = IsLoser c v acts frames
IsShown c v acts (Reserves d a r) = IsKeeper c d acts (Reserve a r)
IsShown c v acts (Enrols d a r) = IsKeeper c d acts (Enrol a r)
IsShown c v acts (Releases d a r b) =
    IsKeeper c d acts (Release a r) × (d ≡ c → Has v.told (b, r) × (b ≡ a → ⊥))
IsShown c v acts (Power reach) = acts ≡ []
IsShown c v acts (Expires reach) = acts ≡ []

abbrev pub AreBegins : List Act → Type 0
AreBegins [] = Unit {0}
AreBegins (Begins ∷ acts) = AreBegins acts
AreBegins _ = ⊥

-- these acts, in their order, are its part of the moments; it may begin anew at any time
abbrev pub Follows : ℕ → Own → List Act → List Moment → Type 0
Follows c v acts [] = AreBegins acts
Follows c v acts (m ∷ ms) =
    (begins : List Act) × (now : List Act) × (later : List Act)
    × (acts ≡ begins ++ (now ++ later)) × AreBegins begins
    × IsShown c (own_all v begins) now m × Follows c (own_all (own_all v begins) now) later ms

-- A PROGRAM ON A BUS, from its start: it keeps to its scripts, and its acts are its part.
pub record IsProgram (p : Plan) (c : ℕ) (v : Own) (acts : List Act)
    (ms : List Moment) : Type 0 where
  pub block : (a : ℕ) → InBlock v.kept.block a → (p.block a ≡ c) × (a < 64)
  pub reserved : (a r : ℕ) → Has v.kept.reserved (a, r) ↔ (p.reserved c a ≡ Some r)
  pub idle : v.trace ≡ []
  pub untold : v.told ≡ []
  pub own : AreOwn v acts
  pub follows : Follows c v acts ms

-- THE REST: what the bus does is true, used gear are left alone, and all other senders keep the
-- rules.
abbrev pub rest_allowed : Plan → (ℕ → Bool) → Site → Moment → Bool
rest_allowed p ours s (Sent x senders reach) =
    is_some (slice_get senders 0)
    && list_all (λ w. (ours w.0 || may_send s w.0 x) && hears x w.1 s.gear) senders
rest_allowed p ours s (Destroyed frames reach) =
    list_all (λ f. ours f.0 || may_send s f.0 f.1) frames
rest_allowed p ours s (Reserves c a r) =
    not (list_any (λ g. holds a g.short) p.gear) && (ours c || allowed p s (Reserves c a r))
rest_allowed p ours s (Enrols c a r) = ours c || allowed p s (Enrols c a r)
rest_allowed p ours s (Releases c a r b) = ours c || allowed p s (Releases c a r b)
rest_allowed p ours s m = true

abbrev pub rest_all_allowed : Plan → (ℕ → Bool) → Site → List Moment → Bool
rest_all_allowed p ours s [] = true
rest_all_allowed p ours s (m ∷ ms) =
    (are_apart s.gear && rest_allowed p ours s m) && rest_all_allowed p ours (happens s m) ms
