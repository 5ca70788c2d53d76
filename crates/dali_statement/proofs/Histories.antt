use Rattle.std.proofs.Common.{◌≡◌, ℕ, true, false, List, [], ◌∷◌, ◌++◌, Option, Some, None, refl, sym, ap, ◌∙◌, arith, nat_lt, Bool, map}
use Rattle.std.{proofs.Common.{if◌then◌else◌, slice_get, not, ◌==◌, ◌&&◌, ◌||◌}, specs.{Prelude.unwrap_or, List.list_all}}
use Rattle.dali_statement.specs.Page.{High, Middle, Low, Command, Terminate, Initialise, Randomise, Search, Program, QueryShort, QueryRandom, Gear, Heard, Byte}
use Rattle.dali_statement.specs.Page.{Nothing, Moment, Sent, Destroyed, Reserves, Enrols, Releases, Plan, Site, start, holds, is_told, happens, allowed, differ}
use Rattle.dali_statement.specs.{Page.{IsPlan, Holds}, Weaker.{Rules, Changes, after_by, all_by, Break, drawing, BreakUnder, BreakIf, BreakFrom}}
use Rattle.dali_statement.specs.Weaker.{with_program, unnumbered, initialised_since, unqueried, unanswered, searched_since, programmed_since, unreserved}
use Rattle.dali_statement.specs.Weaker.{erasing, initialising_all, with_randomise, none_programmed, is_terminated, unsent, destroying_any, enrolling}
use Rattle.dali_statement.specs.Weaker.{enrolling_beyond, with_reserve, twice, elsewhere, used, beyond, undrawn, with_release, mishearing, mishearing_bytes}
use Rattle.dali_statement.specs.Weaker.{Row, Shorts, Short, Block, Small, Below, Numbered, Tabled, is_row, IsPlanBut, with_lists, kept_by_others}
use Rattle.dali_statement.specs.{Weaker.{kept_by_its_sender, kept_from_destroyed, counted, with_gear, missing, misreading, executing_all}, Whole.IsKeptByAll}
use Rattle.dali_statement.{specs.Whole.IsKeptInStep, proofs.Tests.{first_of_both, second_of_both, equal, equals, some_is, holds_by, all_at, not_true}}

-- SHORT HISTORIES, proved by computing: one that keeps all rules, and for each clause of a rule one that keeps all else and breaks
-- the promise.

abbrev fresh : Gear
fresh = record { live = false; random = 0xFFFFFF; search = λ p. 0xFF; short = None }

abbrev addressed : Gear
addressed = record { live = false; random = 0x123456; search = λ p. 0xFF; short = Some 0 }

-- a plan without records: the addresses below 4 are in the block of sender 0, the others in that of sender 1
abbrev planned : List Gear → Plan
planned gs = record { gear = gs; block = λ a. if nat_lt a 4 then 0 else 1; reserved = λ c a. None; enrolled = λ c a r. false }

abbrev plan : Plan
plan = planned (fresh ∷ fresh ∷ [])

is_planned : (gs : List Gear) → differ (map (λ g. g.short) gs) ≡ true → list_all (λ g. nat_lt (unwrap_or g.short 0) 64) gs ≡ true → IsPlan (planned gs)
is_planned gs shorts short = record { shorts = shorts; short = short; reserved = λ c a r e. absurd (cc); enrolled = λ c a r e. absurd (cc) }

is_plan : IsPlan plan
is_plan = is_planned (fresh ∷ fresh ∷ []) refl refl

-- ---------------------------------------------------------------- what breaks the promise

abbrev short_of : Option Gear → Option ℕ
short_of None = None
short_of (Some g) = g.short

abbrev random_of : Option Gear → ℕ
random_of None = 0
random_of (Some g) = g.random

-- a gear that has a short address holds it, with its random address
holds_at : (s : Site) (g a : ℕ) → short_of (slice_get s.gear g) ≡ Some a → Holds s g a (random_of (slice_get s.gear g))
holds_at s g a is = go (slice_get s.gear g) refl is where
  go : (o : Option Gear) → slice_get s.gear g ≡ o → short_of o ≡ Some a → Holds s g a (random_of o)
  go None at is = absurd (cc)
  go (Some x) at is = (x, at, is, refl)

-- moments that keep these rules, and what breaks the promise in their end
module _ (rules : Rules) (change : Changes) (IsOne : Plan → Type 0) (p : Plan) (plan : IsOne p) (earlier later : List Moment)
    (kept : all_by rules change p (start p) (earlier ++ later) ≡ true) where
  abbrev end : Site
  end = after_by change (start p) (earlier ++ later)

  abbrev before : Site
  before = after_by change (start p) earlier

  -- two gear hold one short address
  two_hold : (a : ℕ) → short_of (slice_get end.gear 0) ≡ Some a → short_of (slice_get end.gear 1) ≡ Some a → Break IsOne rules change
  two_hold a first second = (
    p,
    earlier,
    later,
    plan,
    kept,
    λ now since.
        let same : 0 ≡ 1 = now.one_gear 0 1 a _ _ (holds_at end 0 a first) (holds_at end 1 a second) in omega arith,
  )

  -- a gear has lost its short address, or its random address
  short_lost : (a : ℕ) → short_of (slice_get before.gear 0) ≡ Some a → holds a (short_of (slice_get end.gear 0)) ≡ false → Break IsOne rules change
  short_lost a held other = (
    p,
    earlier,
    later,
    plan,
    kept,
    λ now since. let still = since 0 a _ (holds_at before 0 a held) in
        let is = holds_by a (short_of (slice_get end.gear 0)) (ap short_of still.1 ∙ still.2) in cc,
  )

  random_lost : (a : ℕ) → short_of (slice_get before.gear 0) ≡ Some a
      → (random_of (slice_get end.gear 0) == random_of (slice_get before.gear 0)) ≡ false → Break IsOne rules change
  random_lost a held other = (
    p,
    earlier,
    later,
    plan,
    kept,
    λ now since. let still = since 0 a _ (holds_at before 0 a held) in
        let is = equals (random_of (slice_get end.gear 0)) (random_of (slice_get before.gear 0)) (ap random_of still.1 ∙ still.3) in cc,
  )

  -- a table names no gear
  none_named : (c a r : ℕ) → end.enrolled c a r ≡ true → list_all (λ g. not (holds a g.short)) end.gear ≡ true → Break IsOne rules change
  none_named c a r named none = (
    p,
    earlier,
    later,
    plan,
    kept,
    λ now since. let of = now.tables c a r named in
        not_true (holds a of.1.0.short) (all_at (λ g. not (holds a g.short)) end.gear of.0 of.1.0 none of.1.1) (holds_by a of.1.0.short of.1.2),
  )

-- ---------------------------------------------------------------- frames

abbrev each : List (Option ℕ)
each = Some 0 ∷ Some 0 ∷ []

abbrev send : ℕ → Command → Moment
send c x = Sent x ((c, Nothing) ∷ []) []

abbrev query : ℕ → ℕ → Moment
query c v = Sent QueryShort ((c, Byte v) ∷ []) []

abbrev under : ℕ → ℕ → ℕ → ℕ → List Moment → List Moment
under c high middle low more = send c (Search High high) ∷ send c (Search Middle middle) ∷ send c (Search Low low) ∷ more

-- gear 0 has the number 123456, and gear 1 has 0ABCDE
abbrev first : ℕ → List Moment → List Moment
first c more = under c 0x12 0x34 0x56 more

abbrev second : ℕ → List Moment → List Moment
second c more = under c 0x0A 0xBC 0xDE more

abbrev initialise : ℕ → Moment
initialise c = Sent (Initialise 0xFF) ((c, Nothing) ∷ []) each

abbrev randomise : ℕ → Option ℕ → Option ℕ → Moment
randomise c n m = Sent Randomise ((c, Nothing) ∷ []) (n ∷ m ∷ [])

abbrev opening : ℕ → List Moment
opening c = send c Terminate ∷ initialise c ∷ randomise c (Some 0x123456) (Some 0x0ABCDE) ∷ []

-- sender c finds a gear without short address at a number, and gives it the address a
abbrev found : ℕ → ℕ → List Moment
found c a = query c 0xFF ∷ send c (Program (Some a)) ∷ []

abbrev first_gets : ℕ → ℕ → List Moment
first_gets c a = Reserves c a 0x123456 ∷ first c (found c a)

abbrev second_gets : ℕ → ℕ → List Moment
second_gets c a = Reserves c a 0x0ABCDE ∷ second c (found c a)

abbrev given : List Moment
given = opening 0 ++ first_gets 0 0

-- ---------------------------------------------------------------- all rules are kept

-- each sender gives one gear an address and enrols it
abbrev whole : List Moment
whole = given ++ (query 0 1 ∷ Enrols 0 0 0x123456 ∷ (second_gets 1 4 ++ (query 1 9 ∷ Enrols 1 4 0x0ABCDE ∷ [])))

pub whole_is_kept : IsKeptByAll
whole_is_kept = (plan, whole, (is_plan, refl), (_, refl, refl, refl), (_, refl, refl, refl), refl, refl)

-- two senders search in step
abbrev in_step : Command → Heard → Moment
in_step x h = Sent x ((0, h) ∷ (1, h) ∷ []) []

abbrev stepping : List Moment
stepping = opening 0 ++ (Reserves 0 0 0x123456 ∷ Reserves 1 4 0x123456 ∷ in_step (Search High 0x12) Nothing ∷ in_step (Search Middle 0x34) Nothing
    ∷ in_step (Search Low 0x56) Nothing ∷ in_step QueryShort (Byte 0xFF) ∷ [])

pub in_step_is_kept : IsKeptInStep
in_step_is_kept = (plan, stepping, send 0 (Program (Some 0)), (is_plan, refl), refl, refl, refl, (_, refl, refl, refl))

-- ---------------------------------------------------------------- PROGRAM SHORT ADDRESS

-- two gear take an address that is given under no number
pub number_is_needed : BreakUnder (with_program unnumbered)
number_is_needed =
    two_hold (drawing (with_program unnumbered)) happens IsPlan plan is_plan [] (send 0 Terminate ∷ initialise 0 ∷ Reserves 0 0 5 ∷ found 0 0) refl 0 refl refl

-- no gear listens yet when the bytes are sent
abbrev initialise_history : List Moment
initialise_history = send 0 Terminate ∷ under 0 0 0 5 (initialise 0 ∷ Reserves 0 0 5 ∷ found 0 0)

pub initialise_is_needed : BreakUnder (with_program initialised_since)
initialise_is_needed = two_hold (drawing (with_program initialised_since)) happens IsPlan plan is_plan [] initialise_history refl 0 refl refl

-- sender 1 gives the gear another address
abbrev after_query : List Moment
after_query = Reserves 1 4 0x123456 ∷ first 1 (send 1 (Program (Some 4)) ∷ [])

pub query_is_needed : BreakUnder (with_program unqueried)
query_is_needed = short_lost (drawing (with_program unqueried)) happens IsPlan plan is_plan given after_query refl 0 refl refl

-- the answer of the gear was lost
abbrev after_silence : List Moment
after_silence = Reserves 1 4 0x123456 ∷ first 1 (send 1 QueryShort ∷ send 1 (Program (Some 4)) ∷ [])

pub silence_is_needed : BreakUnder (with_program unanswered)
silence_is_needed = short_lost (drawing (with_program unanswered)) happens IsPlan plan is_plan given after_silence refl 0 refl refl

-- QUERY SHORT ADDRESS was heard as FF under another number
abbrev after_search : List Moment
after_search = second 0 (query 0 0xFF ∷ Reserves 0 1 0x123456 ∷ first 0 (send 0 (Program (Some 1)) ∷ []))

pub search_is_needed : BreakUnder (with_program searched_since)
search_is_needed = short_lost (drawing (with_program searched_since)) happens IsPlan plan is_plan given after_search refl 0 refl refl

-- two addresses are reserved for the gear
abbrev after_program : List Moment
after_program = Reserves 0 1 0x123456 ∷ send 0 (Program (Some 1)) ∷ []

pub program_is_needed : BreakUnder (with_program programmed_since)
program_is_needed = short_lost (drawing (with_program programmed_since)) happens IsPlan plan is_plan given after_program refl 0 refl refl

-- two gear are given one address
pub reservation_is_needed : BreakUnder (with_program unreserved)
reservation_is_needed =
    two_hold (drawing (with_program unreserved)) happens IsPlan plan is_plan [] (opening 0 ++ (first 0 (found 0 0) ++ second 0 (found 0 0))) refl 0 refl refl

pub no_erasing_is_needed : BreakUnder erasing
no_erasing_is_needed = short_lost (drawing erasing) happens IsPlan plan is_plan given (send 0 (Program None) ∷ []) refl 0 refl refl

-- ---------------------------------------------------------------- INITIALISE and RANDOMISE

-- a gear with a short address draws
abbrev after_unaddressed : List Moment
after_unaddressed = send 0 Terminate ∷ Sent (Initialise 0) ((0, Nothing) ∷ []) each ∷ randomise 0 (Some 0x222222) None ∷ []

pub unaddressed_is_needed : BreakUnder initialising_all
unaddressed_is_needed = random_lost (drawing initialising_all) happens IsPlan plan is_plan given after_unaddressed refl 0 refl refl

-- by another sender, since the gear is still live
pub terminate_is_needed : BreakUnder (with_randomise none_programmed)
terminate_is_needed =
    random_lost (drawing (with_randomise none_programmed)) happens IsPlan plan is_plan given (randomise 1 (Some 0x222222) None ∷ []) refl 0 refl refl

-- and by the same one
pub none_programmed_is_needed : BreakUnder (with_randomise is_terminated)
none_programmed_is_needed =
    random_lost (drawing (with_randomise is_terminated)) happens IsPlan plan is_plan given (randomise 0 (Some 0x222222) None ∷ []) refl 0 refl refl

-- ---------------------------------------------------------------- who sends

pub sender_is_needed : BreakUnder unsent
sender_is_needed = short_lost (drawing unsent) happens IsPlan plan is_plan given (Sent (Program (Some 1)) [] [] ∷ []) refl 0 refl refl

pub destroyed_rules_are_needed : BreakUnder destroying_any
destroyed_rules_are_needed =
    short_lost (drawing destroying_any) happens IsPlan plan is_plan given (Destroyed ((0, Program (Some 1)) ∷ []) (Some (0, 0) ∷ []) ∷ []) refl 0 refl refl

-- ---------------------------------------------------------------- records

-- the table names no gear
abbrev told_history : List Moment
told_history = Enrols 0 5 7 ∷ []

pub told_is_needed : BreakUnder enrolling
told_is_needed = none_named (drawing enrolling) happens IsPlan (planned []) (is_planned [] refl refl) [] told_history refl 0 5 7 refl refl

-- gear without short address answer FF
abbrev within_history : List Moment
within_history = opening 0 ++ first 0 (query 0 0xFF ∷ Enrols 0 127 0x123456 ∷ [])

pub within_is_needed : BreakUnder enrolling_beyond
within_is_needed = none_named (drawing enrolling_beyond) happens IsPlan plan is_plan [] within_history refl 0 127 0x123456 refl refl

-- one sender gives an address under two numbers; two senders do
pub free_is_needed : BreakUnder (with_reserve twice)
free_is_needed = two_hold (drawing (with_reserve twice)) happens IsPlan plan is_plan given (second_gets 0 0) refl 0 refl refl

pub block_is_needed : BreakUnder (with_reserve elsewhere)
block_is_needed = two_hold (drawing (with_reserve elsewhere)) happens IsPlan plan is_plan given (second_gets 1 0) refl 0 refl refl

-- a used gear has the address
abbrev second_opens : List Moment → List Moment
second_opens more = send 0 Terminate ∷ Sent (Initialise 0xFF) ((0, Nothing) ∷ []) (None ∷ Some 0 ∷ []) ∷ randomise 0 None (Some 0x0ABCDE) ∷ more

pub unused_is_needed : BreakUnder (with_reserve used)
unused_is_needed =
    two_hold (drawing (with_reserve used)) happens IsPlan (planned (addressed ∷ fresh ∷ [])) (is_planned _ refl refl) []
    (second_opens (second_gets 0 0)) refl 0 refl refl

-- the code of 127 is FF
abbrev after_short : List Moment
after_short = query 1 0xFF ∷ Reserves 1 4 0x123456 ∷ send 1 (Program (Some 4)) ∷ []

pub short_is_needed : BreakUnder (with_reserve beyond)
short_is_needed = short_lost (drawing (with_reserve beyond)) happens IsPlan plan is_plan (opening 1 ++ first_gets 1 127) after_short refl 127 refl refl

-- all gear that drew no number have FFFFFF
abbrev masked : List Moment
masked = under 0 0xFF 0xFF 0xFF (found 0 0)

pub below_is_needed : BreakUnder (with_reserve undrawn)
below_is_needed =
    two_hold (drawing (with_reserve undrawn)) happens IsPlan plan is_plan [] (send 0 Terminate ∷ initialise 0 ∷ Reserves 0 0 0xFFFFFF ∷ masked) refl 0 refl refl

-- an address is released while its gear has it, and given again
pub told_of_release_is_needed : BreakUnder (with_release (λ s c a r b. holds r (s.reserved c a) && not (a == b)))
told_of_release_is_needed =
    two_hold (drawing (with_release (λ s c a r b. holds r (s.reserved c a) && not (a == b)))) happens IsPlan plan is_plan given
    (Releases 0 0 0x123456 9 ∷ second_gets 0 0) refl 0 refl refl

pub another_is_needed : BreakUnder (with_release (λ s c a r b. holds r (s.reserved c a) && is_told s b r))
another_is_needed =
    two_hold (drawing (with_release (λ s c a r b. holds r (s.reserved c a) && is_told s b r))) happens IsPlan plan is_plan given
    (query 0 1 ∷ Releases 0 0 0x123456 0 ∷ second_gets 0 0) refl 0 refl refl

-- for another number than it is reserved for, which a further used gear has
abbrev elder : Gear
elder = record { live = false; random = 0x222222; search = λ p. 0xFF; short = Some 9 }

abbrev asks : List Moment → List Moment
asks more = Sent (QueryRandom 9 High) ((0, Byte 0x22) ∷ []) [] ∷ Sent (QueryRandom 9 Middle) ((0, Byte 0x22) ∷ []) []
    ∷ Sent (QueryRandom 9 Low) ((0, Byte 0x22) ∷ []) [] ∷ more

pub its_number_is_needed : BreakUnder (with_release (λ s c a r b. is_told s b r && not (a == b)))
its_number_is_needed =
    two_hold (drawing (with_release (λ s c a r b. is_told s b r && not (a == b)))) happens IsPlan (planned (fresh ∷ fresh ∷ elder ∷ []))
    (is_planned _ refl refl) given (asks (Releases 0 0 0x222222 9 ∷ second_gets 0 0)) refl 0 refl refl

-- ---------------------------------------------------------------- the premises

-- the answer of the gear with address 0 is heard as FF
pub hearing_is_needed : BreakUnder mishearing
hearing_is_needed = short_lost (drawing mishearing) happens IsPlan plan is_plan given (Reserves 1 4 0x123456 ∷ first 1 (found 1 4)) refl 0 refl refl

-- no gear answers
abbrev bytes_history : List Moment
bytes_history = Sent (QueryRandom 5 High) ((0, Byte 0) ∷ []) [] ∷ Sent (QueryRandom 5 Middle) ((0, Byte 0) ∷ []) []
    ∷ Sent (QueryRandom 5 Low) ((0, Byte 7) ∷ []) [] ∷ told_history

pub bytes_are_needed : BreakUnder mishearing_bytes
bytes_are_needed = none_named (drawing mishearing_bytes) happens IsPlan (planned []) (is_planned [] refl refl) [] bytes_history refl 0 5 7 refl refl

abbrev draws_history : List Moment
draws_history = send 0 Terminate ∷ initialise 0 ∷ randomise 0 (Some 0x123456) (Some 0x123456) ∷ first_gets 0 0

pub draws_are_needed : Break IsPlan allowed happens
draws_are_needed = two_hold allowed happens IsPlan plan is_plan [] draws_history refl 0 refl refl

-- no gear takes the bytes
abbrev missed : ℕ → Command → Moment
missed c x = Sent x ((c, Nothing) ∷ []) []

abbrev missing_history : List Moment
missing_history = send 0 Terminate ∷ initialise 0 ∷ under 0 0 0 5 (Reserves 0 0 5 ∷ query 0 0xFF ∷ Sent (Program (Some 0)) ((0, Nothing) ∷ []) each ∷ [])

pub whole_is_needed : BreakIf (with_gear missing)
whole_is_needed = two_hold (drawing allowed) (with_gear missing) IsPlan plan is_plan [] missing_history refl 0 refl refl

-- all gear take other bytes
abbrev misread_history : List Moment
misread_history = send 0 Terminate ∷ initialise 0 ∷ under 0 0 0 5 (Reserves 0 0 5 ∷ found 0 0)

pub as_its_own_is_needed : BreakIf (with_gear misreading)
as_its_own_is_needed = two_hold (drawing allowed) (with_gear misreading) IsPlan plan is_plan [] misread_history refl 0 refl refl

-- gear 1 takes INITIALISE and PROGRAM
abbrev both_history : List Moment
both_history = send 0 Terminate ∷ Sent (Initialise 0xFF) ((0, Nothing) ∷ []) (Some 0 ∷ []) ∷ randomise 0 (Some 0x123456) None ∷ Reserves 0 0 0x123456
    ∷ first 0 (query 0 0xFF ∷ Destroyed ((1, Initialise 0xFF) ∷ (0, Program (Some 0)) ∷ []) (Some (0, 0) ∷ Some (0, 0) ∷ []) ∷ [])

pub one_frame_is_needed : BreakIf (with_gear executing_all)
one_frame_is_needed = two_hold (drawing allowed) (with_gear executing_all) IsPlan plan is_plan [] both_history refl 0 refl refl

-- ---------------------------------------------------------------- lists

-- sender 0 sends the bytes before the INITIALISE of sender 1
pub others_are_needed : BreakIf (with_lists kept_by_others)
others_are_needed =
    two_hold (drawing allowed) (with_lists kept_by_others) IsPlan plan is_plan [] (under 0 0 0 5 (initialise 1 ∷ Reserves 0 0 5 ∷ found 0 0)) refl 0 refl refl

-- two senders in step give one gear two addresses
pub in_step_is_needed : BreakIf (with_lists kept_by_others)
in_step_is_needed =
    short_lost (drawing allowed) (with_lists kept_by_others) IsPlan plan is_plan (stepping ++ (send 0 (Program (Some 0)) ∷ []))
    (send 1 (Program (Some 4)) ∷ []) refl 0 refl refl

-- gear 1 takes bytes of sender 0 that were destroyed
abbrev taken : ℕ → Command → Moment
taken c x = Destroyed ((c, x) ∷ []) (None ∷ Some (0, 0) ∷ [])

abbrev own_history : List Moment
own_history = opening 0 ++ first 0 (taken 0 (Search High 0x0A) ∷ taken 0 (Search Middle 0xBC) ∷ taken 0 (Search Low 0xDE) ∷ Reserves 0 0 0x123456 ∷ found 0 0)

pub own_destroyed_is_needed : BreakIf (with_lists kept_by_its_sender)
own_destroyed_is_needed = two_hold (drawing allowed) (with_lists kept_by_its_sender) IsPlan plan is_plan [] own_history refl 0 refl refl

-- and a byte of sender 1, between the QUERY and PROGRAM of sender 0
abbrev between_history : List Moment
between_history = send 0 Terminate ∷ initialise 0 ∷ randomise 0 (Some 0x123456) (Some 0x123457) ∷ Reserves 0 0 0x123456
    ∷ first 0 (query 0 0xFF ∷ taken 1 (Search Low 0x57) ∷ send 0 (Program (Some 0)) ∷ [])

pub destroyed_is_needed : BreakIf (with_lists kept_from_destroyed)
destroyed_is_needed = two_hold (drawing allowed) (with_lists kept_from_destroyed) IsPlan plan is_plan [] between_history refl 0 refl refl

-- the bytes are destroyed, and no gear takes them
abbrev lost_frame : Command → Moment
lost_frame x = Destroyed ((0, x) ∷ []) []

abbrev counted_history : List Moment
counted_history = send 0 Terminate ∷ initialise 0 ∷ lost_frame (Search High 0) ∷ lost_frame (Search Middle 0) ∷ lost_frame (Search Low 5)
    ∷ Reserves 0 0 5 ∷ found 0 0

pub counted_is_needed : BreakIf (with_lists counted)
counted_is_needed = two_hold (drawing allowed) (with_lists counted) IsPlan plan is_plan [] counted_history refl 0 refl refl

-- ---------------------------------------------------------------- the rows of a plan

-- a plan in which one address is reserved
abbrev with_one : List Gear → ℕ → ℕ → ℕ → Plan
with_one gs d b n =
    record { gear = gs; block = λ a. if nat_lt a 4 then 0 else 1; reserved = λ c a. if (c == d) && (a == b) then Some n else None; enrolled = λ c a r. false }

is_one : (d b n c a r : ℕ) → (if (c == d) && (a == b) then Some n else None) ≡ Some r → (c ≡ d) × (a ≡ b) × (r ≡ n)
is_one d b n c a r e = go ((c == d) && (a == b)) refl e where
  go : (t : Bool) → ((c == d) && (a == b)) ≡ t → (if t then Some n else None) ≡ Some r → (c ≡ d) × (a ≡ b) × (r ≡ n)
  go true same e = (equal c d (first_of_both _ _ same), equal a b (second_of_both _ _ same), sym (some_is e))
  go false other e = absurd (cc)

-- its rows, by the one record
one_row : (test : ℕ → ℕ → ℕ → Bool) (d b n c a r : ℕ) → test d b n ≡ true → (if (c == d) && (a == b) then Some n else None) ≡ Some r → test c a r ≡ true
one_row test d b n c a r is e = let one = is_one d b n c a r e in
    ap (λ k. test k a r) one.0 ∙ ap (λ k. test d k r) one.1 ∙ ap (λ k. test d b k) one.2 ∙ is

is_but : (left : Row) (gs : List Gear) (d b n : ℕ) → (is_row left Shorts || differ (map (λ g. g.short) gs)) ≡ true
    → (is_row left Short || list_all (λ g. nat_lt (unwrap_or g.short 0) 64) gs) ≡ true → (is_row left Block || ((if nat_lt b 4 then 0 else 1) == d)) ≡ true
    → (is_row left Small || nat_lt b 64) ≡ true → (is_row left Below || nat_lt n 0xFFFFFF) ≡ true
    → (is_row left Numbered || list_all (λ g. not (holds b g.short) || (g.random == n)) gs) ≡ true → IsPlanBut left (with_one gs d b n)
is_but left gs d b n shorts short block small below numbered = record {
  shorts = shorts;
  short = short;
  reserved = λ c a r e. (
    one_row (λ c a r. is_row left Block || ((if nat_lt a 4 then 0 else 1) == c)) d b n c a r block e,
    one_row (λ c a r. is_row left Small || nat_lt a 64) d b n c a r small e,
    one_row (λ c a r. is_row left Below || nat_lt r 0xFFFFFF) d b n c a r below e,
    one_row (λ c a r. is_row left Numbered || list_all (λ g. not (holds a g.short) || (g.random == r)) gs) d b n c a r numbered e,
  );
  enrolled = λ c a r e. absurd (cc);
}

pub shorts_are_needed : BreakFrom (IsPlanBut Shorts)
shorts_are_needed =
    two_hold (drawing allowed) happens (IsPlanBut Shorts) (with_one (addressed ∷ addressed ∷ []) 0 1 5)
    (is_but Shorts (addressed ∷ addressed ∷ []) 0 1 5 refl refl refl refl refl refl) [] [] refl 0 refl refl

-- it came with an address whose code is FF
abbrev last_one : Gear
last_one = record { live = false; random = 0x123456; search = λ p. 0xFF; short = Some 127 }

pub short_row_is_needed : BreakFrom (IsPlanBut Short)
short_row_is_needed =
    short_lost (drawing allowed) happens (IsPlanBut Short) (with_one (last_one ∷ []) 1 4 0x123456)
    (is_but Short (last_one ∷ []) 1 4 0x123456 refl refl refl refl refl refl) [] (initialise 1 ∷ first 1 (found 1 4)) refl 127 refl refl

-- sender 1 has reserved an address of sender 0
pub block_row_is_needed : BreakFrom (IsPlanBut Block)
block_row_is_needed =
    two_hold (drawing allowed) happens (IsPlanBut Block) (with_one (fresh ∷ fresh ∷ []) 1 0 0x0ABCDE)
    (is_but Block (fresh ∷ fresh ∷ []) 1 0 0x0ABCDE refl refl refl refl refl refl) given (second 1 (found 1 0)) refl 0 refl refl

pub small_row_is_needed : BreakFrom (IsPlanBut Small)
small_row_is_needed =
    short_lost (drawing allowed) happens (IsPlanBut Small) (with_one (fresh ∷ fresh ∷ []) 1 127 0x123456)
    (is_but Small (fresh ∷ fresh ∷ []) 1 127 0x123456 refl refl refl refl refl refl) (opening 1 ++ first 1 (found 1 127)) after_short refl 127 refl refl

pub below_row_is_needed : BreakFrom (IsPlanBut Below)
below_row_is_needed =
    two_hold (drawing allowed) happens (IsPlanBut Below) (with_one (fresh ∷ fresh ∷ []) 0 0 0xFFFFFF)
    (is_but Below (fresh ∷ fresh ∷ []) 0 0 0xFFFFFF refl refl refl refl refl refl) [] (initialise 0 ∷ masked) refl 0 refl refl

-- a gear came with the address that is reserved for another
pub numbered_row_is_needed : BreakFrom (IsPlanBut Numbered)
numbered_row_is_needed =
    two_hold (drawing allowed) happens (IsPlanBut Numbered) (with_one (addressed ∷ fresh ∷ []) 0 0 0x0ABCDE)
    (is_but Numbered (addressed ∷ fresh ∷ []) 0 0 0x0ABCDE refl refl refl refl refl refl) [] (second_opens (second 0 (found 0 0))) refl 0 refl refl

abbrev tabled : Plan
tabled = record { gear = []; block = λ a. 0; reserved = λ c a. None; enrolled = λ c a r. true }

pub tables_are_needed : BreakFrom (IsPlanBut Tabled)
tables_are_needed =
    none_named (drawing allowed) happens (IsPlanBut Tabled) tabled
    (record { shorts = refl; short = refl; reserved = λ c a r e. absurd (cc); enrolled = λ c a r e. refl }) [] [] refl
    0 5 7 refl refl
