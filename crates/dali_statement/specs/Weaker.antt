use Rattle.std.specs.Prelude.{◌≡◌, ℕ, ◌==◌, nat_lt, Bool, true, false, not, ◌&&◌, ◌||◌}
use Rattle.std.specs.Prelude.{if◌then◌else◌, Option, Some, None, is_none, is_some, option_map}
use Rattle.std.specs.Prelude.{unwrap_or, List, [], ◌∷◌, ◌++◌, map}
use Rattle.std.specs.List.{list_any, list_all}
use Rattle.dali_statement.specs.Page.{Part, High, Middle, Low, same, number, byte, Command}
use Rattle.dali_statement.specs.Page.{Initialise, Randomise, Search}
use Rattle.dali_statement.specs.Page.{Program, QueryShort, QueryRandom, Terminate, holds, Gear}
use Rattle.dali_statement.specs.Page.{takes, Heard, Byte, Nothing, Moment, Sent, Destroyed}
use Rattle.dali_statement.specs.Page.{Reserves, Enrols, Releases, Plan, Site, start, number_sent}
use Rattle.dali_statement.specs.Page.{is_vacant, befalls, gear_after, heard_by, happens}
use Rattle.dali_statement.specs.Page.{hears, differ, are_apart, may_send, allowed, IsPlan}
use Rattle.dali_statement.specs.Page.{KeepsNow, KeepsAddresses}

-- THE PAGE WITH ONE CLAUSE LEFT OUT: of the rules, of what a moment does, or of what a plan is.
-- Each differs from the page in one row.

abbrev pub Rules : Type 0
Rules = Plan → Site → Moment → Bool

abbrev pub Changes : Type 0
Changes = Site → Moment → Site

abbrev pub after_by : Changes → Site → List Moment → Site
after_by change s [] = s
after_by change s (m ∷ ms) = after_by change (change s m) ms

abbrev pub all_by : Rules → Changes → Plan → Site → List Moment → Bool
all_by rules change p s [] = true
all_by rules change p s (m ∷ ms) = rules p s m && all_by rules change p (change s m) ms

-- some moments keep these rules, and break the promise in their end: at that moment, or since the
-- earlier ones
abbrev pub Break : (Plan → Type 0) → Rules → Changes → Type 0
Break is_plan rules change =
    (p : Plan) × (earlier : List Moment) × (later : List Moment) × is_plan p
    × (all_by rules change p (start p) (earlier ++ later) ≡ true)
    × (KeepsNow (after_by change (start p) (earlier ++ later))
    → KeepsAddresses (after_by change (start p) earlier)
    (after_by change (start p) (earlier ++ later)) → ⊥)

-- with the premise of draws
abbrev pub drawing : Rules → Rules
drawing rules p s m = are_apart s.gear && rules p s m

-- other rules; another change; another plan
abbrev pub BreakUnder : Rules → Type 0
BreakUnder rules = Break IsPlan (drawing rules) happens

abbrev pub BreakIf : Changes → Type 0
BreakIf change = Break IsPlan (drawing allowed) change

abbrev pub BreakFrom : (Plan → Type 0) → Type 0
BreakFrom is_plan = Break is_plan (drawing allowed) happens

-- ---------------------------------------------------------------- PROGRAM SHORT ADDRESS

-- another rule for a frame, for those that send it in step
abbrev pub each : (ℕ → Heard → Bool) → List (ℕ × Heard) → Bool
each rule senders = list_any (λ w. true) senders && list_all (λ w. rule w.0 w.1) senders

abbrev pub with_program : (Site → ℕ → ℕ → Bool) → Rules
with_program rule p s (Sent (Program (Some a)) senders reach) = each (λ c h. rule s c a) senders
with_program rule p s m = allowed p s m

-- the address is reserved for a number
abbrev pub is_for : Site → ℕ → ℕ → Option ℕ → Bool
is_for s c a sent = unwrap_or (option_map (λ r. holds r (s.reserved c a)) sent) false

-- the address is reserved for some number, whichever was sent
abbrev pub unnumbered : Site → ℕ → ℕ → Bool
unnumbered s c a = is_vacant (s.said c) && is_some (s.reserved c a)

-- the bytes were sent, and INITIALISE perhaps since
abbrev pub byte_ever : Part → List (Command × Heard) → Option ℕ
byte_ever p [] = None
byte_ever p ((Search q v, h) ∷ before) = if same p q then Some v else byte_ever p before
byte_ever p (e ∷ before) = byte_ever p before

abbrev pub initialised_since : Site → ℕ → ℕ → Bool
initialised_since s c a =
    is_vacant (s.said c)
    && is_for s c a (Some (number (λ p. unwrap_or (byte_ever p (s.said c)) 0)))

-- QUERY SHORT ADDRESS was not heard as FF
abbrev pub unqueried : Site → ℕ → ℕ → Bool
unqueried s c a = is_for s c a (number_sent (s.said c))

-- it was, or no answer was heard
abbrev pub was_silent : List (Command × Heard) → Bool
was_silent [] = false
was_silent ((QueryShort, Byte v) ∷ before) = (v == 0xFF) || was_silent before
was_silent ((QueryShort, Nothing) ∷ before) = true
was_silent ((Search p v, h) ∷ before) = false
was_silent ((Program a, h) ∷ before) = false
was_silent (e ∷ before) = was_silent before

abbrev pub unanswered : Site → ℕ → ℕ → Bool
unanswered s c a = was_silent (s.said c) && is_for s c a (number_sent (s.said c))

-- it was, and search bytes were sent since
abbrev pub was_vacant : List (Command × Heard) → Bool
was_vacant [] = false
was_vacant ((QueryShort, Byte v) ∷ before) = (v == 0xFF) || was_vacant before
was_vacant ((Program a, h) ∷ before) = false
was_vacant (e ∷ before) = was_vacant before

abbrev pub searched_since : Site → ℕ → ℕ → Bool
searched_since s c a = was_vacant (s.said c) && is_for s c a (number_sent (s.said c))

-- it was, and PROGRAM was sent since
abbrev pub still_vacant : List (Command × Heard) → Bool
still_vacant [] = false
still_vacant ((QueryShort, Byte v) ∷ before) = (v == 0xFF) || still_vacant before
still_vacant ((Search p v, h) ∷ before) = false
still_vacant (e ∷ before) = still_vacant before

abbrev pub programmed_since : Site → ℕ → ℕ → Bool
programmed_since s c a = still_vacant (s.said c) && is_for s c a (number_sent (s.said c))

-- nothing is reserved
abbrev pub unreserved : Site → ℕ → ℕ → Bool
unreserved s c a = is_vacant (s.said c) && is_some (number_sent (s.said c))

-- the short address of the gear at the search address may be erased
abbrev pub erasing : Rules
erasing p s (Sent (Program None) senders reach) = each (λ c h. true) senders
erasing p s m = allowed p s m

-- ---------------------------------------------------------------- INITIALISE and RANDOMISE

-- INITIALISE to any gear
abbrev pub initialising_all : Rules
initialising_all p s (Sent (Initialise d) senders reach) = each (λ c h. true) senders
initialising_all p s m = allowed p s m

abbrev pub with_randomise : (List (Command × Heard) → Bool) → Rules
with_randomise rule p s (Sent Randomise senders reach) = each (λ c h. rule (s.said c)) senders
with_randomise rule p s m = allowed p s m

-- no PROGRAM was sent, and no TERMINATE either
abbrev pub none_programmed : List (Command × Heard) → Bool
none_programmed [] = true
none_programmed ((Program a, h) ∷ before) = false
none_programmed (e ∷ before) = none_programmed before

-- TERMINATE was sent, and PROGRAM perhaps since
abbrev pub is_terminated : List (Command × Heard) → Bool
is_terminated [] = false
is_terminated ((Terminate, h) ∷ before) = true
is_terminated (e ∷ before) = is_terminated before

-- ---------------------------------------------------------------- who sends

-- a frame that no sender sent
abbrev pub unsent : Rules
unsent p s (Sent x senders reach) =
    list_all (λ w. may_send s w.0 x && hears x w.1 s.gear) senders
unsent p s m = allowed p s m

-- destroyed frames may be any
abbrev pub destroying_any : Rules
destroying_any p s (Destroyed frames reach) = true
destroying_any p s m = allowed p s m

-- ---------------------------------------------------------------- records

-- enrol what was not told
abbrev pub enrolling : Rules
enrolling p s (Enrols c a r) = true
enrolling p s m = allowed p s m

-- enrol what FF told, as if it were a short address
abbrev pub enrolling_beyond : Rules
enrolling_beyond p s (Enrols c a r) =
    s.told High a (byte High r) && (s.told Middle a (byte Middle r) && s.told Low a (byte Low r))
enrolling_beyond p s m = allowed p s m

abbrev pub with_reserve : (Plan → Site → ℕ → ℕ → ℕ → Bool) → Rules
with_reserve rule p s (Reserves c a r) = rule p s c a r
with_reserve rule p s m = allowed p s m

abbrev pub is_used : Plan → ℕ → Bool
is_used p a = list_any (λ g. holds a g.short) p.gear

-- an address that is reserved; of another block; that a used gear has; that is none; for FFFFFF
abbrev pub twice : Plan → Site → ℕ → ℕ → ℕ → Bool
twice p s c a r =
    (p.block a == c) && (nat_lt a 64 && (not (is_used p a) && nat_lt r 0xFFFFFF))

abbrev pub elsewhere : Plan → Site → ℕ → ℕ → ℕ → Bool
elsewhere p s c a r =
    nat_lt a 64
    && (is_none (s.reserved c a) && (not (is_used p a) && nat_lt r 0xFFFFFF))

abbrev pub used : Plan → Site → ℕ → ℕ → ℕ → Bool
used p s c a r =
    (p.block a == c)
    && (nat_lt a 64 && (is_none (s.reserved c a) && nat_lt r 0xFFFFFF))

abbrev pub beyond : Plan → Site → ℕ → ℕ → ℕ → Bool
beyond p s c a r =
    (p.block a == c)
    && (is_none (s.reserved c a) && (not (is_used p a) && nat_lt r 0xFFFFFF))

abbrev pub undrawn : Plan → Site → ℕ → ℕ → ℕ → Bool
undrawn p s c a r =
    (p.block a == c) && (nat_lt a 64 && (is_none (s.reserved c a) && not (is_used p a)))

abbrev pub with_release : (Site → ℕ → ℕ → ℕ → ℕ → Bool) → Rules
with_release rule p s (Releases c a r b) = rule s c a r b
with_release rule p s m = allowed p s m

-- ---------------------------------------------------------------- the premises

-- what is heard of QUERY SHORT ADDRESS need not be answered
abbrev pub mishearing : Rules
mishearing p s (Sent QueryShort senders reach) = each (λ c h. true) senders
mishearing p s m = allowed p s m

-- or of a query of the random address
abbrev pub mishearing_bytes : Rules
mishearing_bytes p s (Sent (QueryRandom a q) senders reach) = each (λ c h. true) senders
mishearing_bytes p s m = allowed p s m

-- THE ROWS OF A PLAN
pub data Row : Type 0 where
  Shorts : Row
  Short : Row
  Block : Row
  Small : Row
  Below : Row
  Numbered : Row
  Tabled : Row

abbrev pub is_row : Row → Row → Bool
is_row Shorts Shorts = true
is_row Short Short = true
is_row Block Block = true
is_row Small Small = true
is_row Below Below = true
is_row Numbered Numbered = true
is_row Tabled Tabled = true
is_row _ _ = false

-- a plan that holds, but for one row
pub record IsPlanBut (left : Row) (p : Plan) : Type 0 where
  pub shorts : (is_row left Shorts || differ (map (λ g. g.short) p.gear)) ≡ true
  pub short : (is_row left Short
      || list_all (λ g. nat_lt (unwrap_or g.short 0) 64) p.gear) ≡ true
  pub reserved : (c a r : ℕ) → p.reserved c a ≡ Some r
      → ((is_row left Block || (p.block a == c)) ≡ true)
      × ((is_row left Small || nat_lt a 64) ≡ true)
      × ((is_row left Below || nat_lt r 0xFFFFFF) ≡ true)
      × ((is_row left Numbered
      || list_all (λ g. not (holds a g.short) || (g.random == r)) p.gear) ≡ true)
  pub enrolled : (c a r : ℕ) → p.enrolled c a r ≡ true
      → (is_row left Tabled
      || list_any (λ g. holds a g.short && (g.random == r)) p.gear) ≡ true

-- ---------------------------------------------------------------- what a moment does to lists

abbrev pub Lists : Type 0
Lists = Site → Moment → ℕ → List (Command × Heard)

abbrev pub with_lists : Lists → Changes
with_lists lists s m = record (happens s m) { said = lists s m }

-- a frame empties no list of others
abbrev pub kept_by_others : Lists
kept_by_others s (Sent x senders reach) c =
    unwrap_or (option_map (λ h. (x, h) ∷ s.said c) (heard_by c senders)) (s.said c)
kept_by_others s m c = (happens s m).said c

-- a destroyed frame empties no list of those that sent it; none of the others
abbrev pub is_sender : List (ℕ × Command) → ℕ → Bool
is_sender frames c = list_any (λ f. f.0 == c) frames

abbrev pub kept_by_its_sender : Lists
kept_by_its_sender s (Destroyed frames reach) c = if is_sender frames c then s.said c else []
kept_by_its_sender s m c = (happens s m).said c

abbrev pub kept_from_destroyed : Lists
kept_from_destroyed s (Destroyed frames reach) c = if is_sender frames c then [] else s.said c
kept_from_destroyed s m c = (happens s m).said c

-- a frame that was destroyed counts as sent
abbrev pub counted : Lists
counted s (Destroyed ((d, x) ∷ frames) reach) c = if d == c then (x, Nothing) ∷ s.said c else []
counted s m c = (happens s m).said c

-- ---------------------------------------------------------------- what a moment does to gear

abbrev pub with_gear : (Moment → List Gear → List Gear) → Changes
with_gear change s m = record (happens s m) { gear = change m s.gear }

-- a gear may miss a frame that was sent whole, whichever it is
abbrev pub missing : Moment → List Gear → List Gear
missing (Sent x senders reach) gs = befalls (takes x) reach gs
missing m gs = gear_after m gs

-- gear take another frame than the sender counts: its search bytes as FF
abbrev pub misreading : Moment → List Gear → List Gear
misreading (Sent (Search p v) senders reach) gs = map (takes (Search p 0xFF) 0) gs
misreading m gs = gear_after m gs

-- a gear executes all of the frames that overlap, one after the other
abbrev pub takes_all : List (ℕ × Command) → ℕ → Gear → Gear
takes_all [] n g = g
takes_all (f ∷ frames) n g = takes_all frames n (takes f.1 n g)

abbrev pub executing_all : Moment → List Gear → List Gear
executing_all (Destroyed frames reach) gs = befalls (λ w g. takes_all frames w.1 g) reach gs
executing_all m gs = gear_after m gs
