use Rattle.std.proofs.Common.{◌≡◌, ℕ, List, [], ◌∷◌, Option, Some, None, refl}
use Rattle.dali_frame.specs.declared.numbers.SearchAddress.{SearchAddress}
use Rattle.dali_special.specs.declared.command.Command.{Command}
use Rattle.dali_special.specs.declared.command.Command.TheVariants.{Terminate, Initialise, Randomise, Program, Verify, QueryShort}
use Rattle.dali_special.specs.declared.command.Target.TheVariants.{All, Addressed}
use Rattle.dali_gear.specs.Gear.{Gear, addressed, answer}
use Rattle.dali_gear.specs.declared.{row.Reach.TheVariants.Everyone, row.Reach.TheVariants.Only, state.InitialisationState.TheVariants.Enabled}
use Rattle.dali_mending.specs.Rows.{Site, Moment, taken, sent}
use Rattle.dali_mending.specs.Transactions.{drawing, erasing, keeping, opening, under}

-- SHORT HISTORIES that break without a premise, and one that does not. They are proved by computing the definitions. All are of
-- the short address 5, of gear with the numbers 123456 and ABCDEF.

-- all gear take these, whoever sends them
abbrev all_take : List Command → Site → Site
all_take [] s = s
all_take (c ∷ cs) s = all_take cs (taken Everyone c s)

abbrev randoms : List Gear → List ℕ
randoms [] = []
randoms (g ∷ gs) = g.random ∷ randoms gs

abbrev site : List Gear → Site
site gs = record { gear = gs; left = 0x400000 ∷ 0x500000 ∷ [] }

abbrev before : Moment
before = record { before = []; reach = Everyone }

abbrev moments : List Moment
moments = before ∷ before ∷ before ∷ before ∷ before ∷ before ∷ before ∷ before ∷ []

abbrev shorts : List Gear → List (Option ℕ)
shorts [] = []
shorts (g ∷ gs) = g.short ∷ shorts gs

abbrev two : Site
two = site (addressed 0x123456 5 ∷ addressed 0xABCDEF 5 ∷ [])

-- a gear of another address that another controller has left initialised, beside one at 5
abbrev left_over : Site
left_over = all_take (Initialise All ∷ Initialise All ∷ []) (site (addressed 0x123456 6 ∷ addressed 0xABCDEF 5 ∷ []))

-- as it should be: one of two loses the address
erased : shorts (sent (erasing 5 0xABCDEF) moments two).gear ≡ Some 5 ∷ None ∷ []
erased = refl

-- as it should be: a gear that was left initialised keeps its number, since TERMINATE comes first
spared : randoms (sent (drawing 5) moments left_over).gear ≡ 0x123456 ∷ 0x400000 ∷ []
spared = refl

-- 1. TERMINATE was destroyed, no gear took it, and the transaction went on all the same: the other gear draws too
unheard_terminate : randoms (all_take (Initialise (Addressed 5) ∷ Initialise (Addressed 5) ∷ Randomise ∷ Randomise ∷ [])
    (taken (Only 0) Terminate left_over)).gear ≡ 0x400000 ∷ 0x500000 ∷ []
unheard_terminate = refl

-- 2. another controller's frames come between: it finds a gear and gives it the address 40, and PROGRAM SHORT ADDRESS takes
-- that away
abbrev between : List Command
between = Terminate ∷ Initialise All ∷ Initialise All ∷ under 0x123456 (Program (Some 40) ∷ [])

interrupted : shorts (all_take (Program None ∷ []) (all_take between (all_take (opening 5 (under 0xABCDEF []))
    (site (addressed 0x123456 6 ∷ addressed 0xABCDEF 5 ∷ []))))).gear
    ≡ None ∷ Some 5 ∷ []
interrupted = refl

-- 3. a bare PROGRAM SHORT ADDRESS, with no INITIALISE before, hits whoever was found
bare : shorts (all_take (Program None ∷ []) (all_take between (site (addressed 0x123456 6 ∷ addressed 0xABCDEF 5 ∷ [])))).gear
    ≡ None ∷ Some 5 ∷ []
bare = refl

-- 4. gear draw though a table has the address: the gear of the table has lost its number, also if it was withdrawn
drawn : randoms (sent (drawing 5) moments two).gear ≡ 0x400000 ∷ 0x500000 ∷ []
drawn = refl

withdrawn_draw : randoms (all_take (Randomise ∷ Randomise ∷ []) (sent (keeping 5 0x123456) moments two)).gear ≡ 0x400000 ∷ 0x500000 ∷ []
withdrawn_draw = refl

-- 5. the number of the table is erased
table_erased : shorts (sent (erasing 5 0x123456) moments two).gear ≡ None ∷ Some 5 ∷ []
table_erased = refl

-- 6. the gear of the table was RESET: it answers VERIFY SHORT ADDRESS as before, and is erased with all that have FFFFFF
abbrev at_table : SearchAddress
at_table = record { high = 0x12; middle = 0x34; low = 0x56 }

abbrev reset : Gear
reset = record (addressed 0xFFFFFF 5) { state = Enabled; search = at_table }

verified : answer (Verify 5) reset ≡ Some 255
verified = refl

not_queried : answer QueryShort reset ≡ None
not_queried = refl

all_erased : shorts (sent (erasing 5 0xFFFFFF) moments (site (addressed 0xFFFFFF 5 ∷ addressed 0xFFFFFF 5 ∷ []))).gear ≡ None ∷ None ∷ []
all_erased = refl
