use Rattle.std.specs.Prelude.{◌≡◌, ℕ, ◌+◌, ◌*◌, ◌/◌, ◌%◌, ◌<◌, ◌==◌, nat_lt, Bool, true, false, not}
use Rattle.std.specs.Prelude.{◌&&◌, ◌||◌, if◌then◌else◌, Option, Some, None, is_none, is_some}
use Rattle.std.specs.Prelude.{option_map, unwrap_or, List, [], ◌∷◌, ◌++◌, map, slice_get}
use Rattle.std.specs.List.{list_any, list_all}

-- THE PROMISE ON A PAGE, for control gear (gear) on one bus and any number of senders.

-- ---------------------------------------------------------------- gear (IEC 62386-102:2014)

-- the bytes of a 24-bit address, and the number that they are
pub data Part : Type 0 where
  High : Part
  Middle : Part
  Low : Part

abbrev pub same : Part → Part → Bool
same High High = true
same Middle Middle = true
same Low Low = true
same _ _ = false

abbrev pub number : (Part → ℕ) → ℕ
number bytes = bytes High * 65536 + bytes Middle * 256 + bytes Low

abbrev pub byte : Part → ℕ → ℕ
byte High n = n / 65536
byte Middle n = n / 256 % 256
byte Low n = n % 256

-- A COMMAND to gear. `Other` is one that changes nothing of the four fields below, and whose answer
-- no rule reads: COMPARE, WITHDRAW, VERIFY SHORT ADDRESS, DAPC and most others. It is not RESET or
-- SET SHORT ADDRESS: no sender sends these.
pub data Command : Type 0 where
  Terminate : Command
  -- with its data byte: 00 for all gear, FF for those without short address, else for one gear
  Initialise : ℕ → Command
  Randomise : Command
  -- SEARCHADDRH, SEARCHADDRM and SEARCHADDRL
  Search : Part → ℕ → Command
  -- PROGRAM SHORT ADDRESS; None, data FF, erases the short address
  Program : Option ℕ → Command
  QueryShort : Command
  -- QUERY RANDOM ADDRESS (H), (M) and (L), to the gear with a short address
  QueryRandom : ℕ → Part → Command
  Other : Command

-- A GEAR. It is live if it has power and its initialisation is not DISABLED.
pub record Gear : Type 0 where
  pub live : Bool
  pub random : ℕ
  pub search : Part → ℕ
  pub short : Option ℕ

abbrev pub is_found : Gear → Bool
is_found g = g.live && (g.random == number g.search)

-- a short address as a byte
abbrev pub code : Option ℕ → ℕ
code None = 0xFF
code (Some a) = 2 * a + 1

-- what it becomes when it executes a command; n is the number that it draws at RANDOMISE
abbrev pub takes : Command → ℕ → Gear → Gear
takes Terminate n g = record g { live = false }
takes (Initialise data_byte) n g =
    record g { live = g.live || ((data_byte == 0) || (data_byte == code g.short)) }
takes Randomise n g = record g { random = if g.live then n else g.random }
takes (Search p v) n g =
    record g { search = λ q. if g.live && same q p then v else g.search q }
takes (Program a) n g = record g { short = if is_found g then a else g.short }
takes QueryShort n g = g
takes (QueryRandom a p) n g = g
takes Other n g = g

abbrev pub holds : ℕ → Option ℕ → Bool
holds n None = false
holds n (Some m) = m == n

-- and what it answers
abbrev pub answer : Command → Gear → Option ℕ
answer QueryShort g = if is_found g then Some (code g.short) else None
answer (QueryRandom a p) g = if holds a g.short then Some (byte p g.random) else None
answer _ g = None

-- ---------------------------------------------------------------- what happens

-- What the sender of a frame hears: a byte, or silence or a damaged answer.
pub data Heard : Type 0 where
  Byte : ℕ → Heard
  Nothing : Heard

-- A MOMENT. A list says for each gear, in order, whether something befalls it: None, or Some n,
-- with the number that it draws then, if it draws.
pub data Moment : Type 0 where
  -- a frame was sent whole, by one sender or by several in step, each with what it heard; of
  -- INITIALISE and RANDOMISE these gear executed it, of all others each gear did. A sender whose
  -- frame gave way to it is none of them.
  Sent : Command → List (ℕ × Heard) → List (Option ℕ) → Moment
  -- frames were destroyed, one or several that overlap, each with its sender; these gear executed
  -- one of them, by its place in the list
  Destroyed : List (ℕ × Command) → List (Option (ℕ × ℕ)) → Moment
  -- a sender keeps a record: short address, then random address
  Reserves : ℕ → ℕ → ℕ → Moment
  Enrols : ℕ → ℕ → ℕ → Moment
  -- the random address is that of the gear with the last short address
  Releases : ℕ → ℕ → ℕ → ℕ → Moment
  -- the power of these gear comes or goes; their initialisation runs out
  Power : List (Option ℕ) → Moment
  Expires : List (Option ℕ) → Moment

-- THE PLAN of a site: its gear as they come, new ones and used ones; whose block a short address
-- lies in, so blocks are disjoint; and the records that senders have already.
pub record Plan : Type 0 where
  pub gear : List Gear
  pub block : ℕ → ℕ
  pub reserved : ℕ → ℕ → Option ℕ
  pub enrolled : ℕ → ℕ → ℕ → Bool

-- A SITE at one moment.
pub record Site : Type 0 where
  pub gear : List Gear
  -- the list of each sender: its frames with what it heard, the newest first
  pub said : ℕ → List (Command × Heard)
  -- the gear with this short address was told to have this byte in its random address
  pub told : Part → ℕ → ℕ → Bool
  -- the random address for which a sender has reserved a short address
  pub reserved : ℕ → ℕ → Option ℕ
  -- the table of a sender has this short address with this random address
  pub enrolled : ℕ → ℕ → ℕ → Bool

abbrev pub start : Plan → Site
start p = record {
  gear = p.gear;
  said = λ c. [];
  told = λ p a v. false;
  reserved = p.reserved;
  enrolled = p.enrolled;
}

-- ---------------------------------------------------------------- what a sender has said

-- the search byte that was sent last, since the last INITIALISE; and the number, if all three were
abbrev pub byte_sent : Part → List (Command × Heard) → Option ℕ
byte_sent p [] = None
byte_sent p ((Search q v, h) ∷ before) = if same p q then Some v else byte_sent p before
byte_sent p ((Initialise d, h) ∷ before) = None
byte_sent p (e ∷ before) = byte_sent p before

abbrev pub number_sent : List (Command × Heard) → Option ℕ
number_sent said =
    if is_some (byte_sent High said)
    && (is_some (byte_sent Middle said) && is_some (byte_sent Low said))
    then Some (number (λ p. unwrap_or (byte_sent p said) 0))
    else None

-- QUERY SHORT ADDRESS was heard as FF, and since then no search byte or PROGRAM was sent
abbrev pub is_vacant : List (Command × Heard) → Bool
is_vacant [] = false
is_vacant ((QueryShort, Byte v) ∷ before) = (v == 0xFF) || is_vacant before
is_vacant ((Search p v, h) ∷ before) = false
is_vacant ((Program a, h) ∷ before) = false
is_vacant (e ∷ before) = is_vacant before

-- TERMINATE was sent, and no PROGRAM since
abbrev pub is_open : List (Command × Heard) → Bool
is_open [] = false
is_open ((Terminate, h) ∷ before) = true
is_open ((Program a, h) ∷ before) = false
is_open (e ∷ before) = is_open before

-- what an answer tells: the gear with short address a has the byte v in its random address
abbrev pub tells : Command → Heard → List (Command × Heard) → Part → ℕ → ℕ → Bool
tells QueryShort (Byte w) said p a v =
    (w == code (Some a)) && holds v (option_map (byte p) (number_sent said))
tells (QueryRandom b q) (Byte w) said p a v = (a == b) && (same p q && (v == w))
tells _ _ said p a v = false

-- the gear with short address a was told to have the random address r
abbrev pub is_told : Site → ℕ → ℕ → Bool
is_told s a r =
    nat_lt a 64
    && (s.told High a (byte High r)
    && (s.told Middle a (byte Middle r) && s.told Low a (byte Low r)))

-- ---------------------------------------------------------------- what a moment does

-- a gear may miss a frame, though it was sent whole
abbrev pub may_miss : Command → Bool
may_miss (Initialise d) = true
may_miss Randomise = true
may_miss x = false

abbrev pub befalls : {A : Type 0} → (A → Gear → Gear) → List (Option A) → List Gear → List Gear
befalls {A} change [] gs = gs
befalls {A} change (n ∷ reach) [] = []
befalls {A} change (None ∷ reach) (g ∷ gs) = g ∷ befalls change reach gs
befalls {A} change (Some n ∷ reach) (g ∷ gs) = change n g ∷ befalls change reach gs

abbrev pub frame_at : List (ℕ × Command) → ℕ → Command
frame_at frames k = unwrap_or (option_map (λ f. f.1) (slice_get frames k)) Other

abbrev pub gear_after : Moment → List Gear → List Gear
gear_after (Sent x senders reach) gs =
    if may_miss x then befalls (takes x) reach gs else map (takes x 0) gs
gear_after (Destroyed frames reach) gs =
    befalls (λ w g. takes (frame_at frames w.0) w.1 g) reach gs
gear_after (Power reach) gs =
    befalls (λ n g. record g { live = false; search = λ p. 0xFF }) reach gs
gear_after (Expires reach) gs = befalls (λ n g. record g { live = false }) reach gs
gear_after _ gs = gs

-- what a sender heard, if it is one of these
abbrev pub heard_by : ℕ → List (ℕ × Heard) → Option Heard
heard_by c [] = None
heard_by c (w ∷ senders) = if w.0 == c then Some w.1 else heard_by c senders

-- a frame joins the list of each sender that sent it, and empties all other lists
abbrev pub list_after : Command → Option Heard → List (Command × Heard) → List (Command × Heard)
list_after x (Some h) said = (x, h) ∷ said
list_after x None said = []

abbrev pub happens : Site → Moment → Site
happens s (Sent x senders reach) = record s {
  gear = gear_after (Sent x senders reach) s.gear;
  said = λ c. list_after x (heard_by c senders) (s.said c);
  told = λ p a v. s.told p a v || list_any (λ w. tells x w.1 (s.said w.0) p a v) senders;
}
-- a destroyed frame empties all lists, whoever sent it
happens s (Destroyed frames reach) =
    record s { gear = gear_after (Destroyed frames reach) s.gear; said = λ c. [] }
happens s (Reserves c a r) =
    record s { reserved = λ d b. if (d == c) && (b == a) then Some r else s.reserved d b }
happens s (Enrols c a r) =
    record s { enrolled = λ d b n. s.enrolled d b n || ((d == c) && ((b == a) && (n == r))) }
happens s (Releases c a r b) =
    record s { reserved = λ d e. if (d == c) && (e == a) then None else s.reserved d e }
happens s (Power reach) = record s { gear = gear_after (Power reach) s.gear }
happens s (Expires reach) = record s { gear = gear_after (Expires reach) s.gear }

-- ---------------------------------------------------------------- premises

-- HEARING. A byte is heard only if a gear answers so.
abbrev pub hears : Command → Heard → List Gear → Bool
hears QueryShort (Byte v) gs = list_any (λ g. holds v (answer QueryShort g)) gs
hears (QueryRandom a p) (Byte v) gs = list_any (λ g. holds v (answer (QueryRandom a p) g)) gs
hears _ _ gs = true

-- no number stands twice
abbrev pub differ : List (Option ℕ) → Bool
differ [] = true
differ (None ∷ ns) = differ ns
differ (Some n ∷ ns) = not (list_any (holds n) ns) && differ ns

-- DRAWS. No two gear have one random address, but for FFFFFF.
abbrev pub are_apart : List Gear → Bool
are_apart gs = differ (map (λ g. if g.random == 0xFFFFFF then None else Some g.random) gs)

-- ---------------------------------------------------------------- the five rules for senders

-- RULE 1: PROGRAM a only if by your list, since its last INITIALISE, all bytes of r were sent;
-- QUERY SHORT ADDRESS after them was heard as FF, and no search byte or PROGRAM sent since; and you
-- have reserved a for r. Never erase.
-- RULE 2: INITIALISE only to gear without short address; RANDOMISE only if by your list TERMINATE
-- was sent, and no PROGRAM since.
abbrev pub may_send : Site → ℕ → Command → Bool
may_send s c (Program None) = false
may_send s c (Program (Some a)) =
    is_vacant (s.said c)
    && unwrap_or (option_map (λ r. holds r (s.reserved c a)) (number_sent (s.said c))) false
may_send s c (Initialise d) = d == 0xFF
may_send s c Randomise = is_open (s.said c)
may_send s c _ = true

abbrev pub allowed : Plan → Site → Moment → Bool
-- RULE 5: know your list: you missed no frame and no disturbance while it was not empty, and only
-- frames that went out as your own joined it. You may forget it at any time.
allowed p s (Sent x senders reach) =
    is_some (slice_get senders 0)
    && list_all (λ w. may_send s w.0 x && hears x w.1 s.gear) senders
allowed p s (Destroyed frames reach) = list_all (λ f. may_send s f.0 f.1) frames
-- RULE 3: enrol only what was told.
allowed p s (Enrols c a r) = is_told s a r
-- RULE 4: reserve an address of your block that you have not reserved and no gear came with, for a
-- number below FFFFFF; release it only if its gear was told to have another address.
allowed p s (Reserves c a r) =
    (p.block a == c) && (nat_lt a 64 && (is_none (s.reserved c a)
    && (not (list_any (λ g. holds a g.short) p.gear) && nat_lt r 0xFFFFFF)))
allowed p s (Releases c a r b) = holds r (s.reserved c a) && (is_told s b r && not (a == b))
allowed p s _ = true

-- ---------------------------------------------------------------- histories

-- A PLAN that holds: short addresses are different, and records are true.
pub record IsPlan (p : Plan) : Type 0 where
  pub shorts : differ (map (λ g. g.short) p.gear) ≡ true
  pub short : list_all (λ g. nat_lt (unwrap_or g.short 0) 64) p.gear ≡ true
  pub reserved : (c a r : ℕ) → p.reserved c a ≡ Some r
      → (p.block a ≡ c) × (a < 64) × (r < 0xFFFFFF)
      × (list_all (λ g. not (holds a g.short) || (g.random == r)) p.gear ≡ true)
  pub enrolled : (c a r : ℕ) → p.enrolled c a r ≡ true
      → list_any (λ g. holds a g.short && (g.random == r)) p.gear ≡ true

abbrev pub after : Site → List Moment → Site
after s [] = s
after s (m ∷ ms) = after (happens s m) ms

-- A HISTORY: each moment keeps the rules and the premises, at the site that those before it leave.
abbrev pub all_allowed : Plan → Site → List Moment → Bool
all_allowed p s [] = true
all_allowed p s (m ∷ ms) =
    (are_apart s.gear && allowed p s m) && all_allowed p (happens s m) ms

abbrev pub IsHistory : Plan → List Moment → Type 0
IsHistory p ms = IsPlan p × (all_allowed p (start p) ms ≡ true)

-- ---------------------------------------------------------------- the promise

-- gear g is there, with short address a and random address r
abbrev pub Holds : Site → ℕ → ℕ → ℕ → Type 0
Holds s g a r = (x : Gear) × (slice_get s.gear g ≡ Some x) × (x.short ≡ Some a) × (x.random ≡ r)

-- AT ONE MOMENT: no two gear hold one short address, and all tables are true.
pub record KeepsNow (s : Site) : Type 0 where
  pub one_gear : (g h a r q : ℕ) → Holds s g a r → Holds s h a q → g ≡ h
  pub tables : (c a r : ℕ) → s.enrolled c a r ≡ true → (g : ℕ) × Holds s g a r

-- FROM ONE MOMENT ON: a gear that holds a short address keeps it, with its random address.
abbrev pub KeepsAddresses : Site → Site → Type 0
KeepsAddresses earlier now = (g a r : ℕ) → Holds earlier g a r → Holds now g a r

-- THE PROMISE: at every moment of a history, and from each one on.
pub record KeepsPromise (p : Plan) (ms : List Moment) : Type 0 where
  pub always : (earlier more : List Moment) → earlier ++ more ≡ ms
      → KeepsNow (after (start p) earlier)
  pub ever_after : (earlier later rest : List Moment) → earlier ++ (later ++ rest) ≡ ms
      → KeepsAddresses (after (start p) earlier) (after (start p) (earlier ++ later))
