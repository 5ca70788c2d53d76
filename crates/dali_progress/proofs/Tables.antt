use Rattle.dali_progress.proofs.Below.{◌≡◌, ℕ, ◌<◌, ◌⊎◌, inl, inr, Bool, true, false, List, ◌∷◌, refl, sym, ap, subst, ◌∙◌, length, Some, ◌==◌, value_of}
use Rattle.dali_progress.proofs.Below.{Answer, SearchAddress, Command, Terminate, Initialise, Randomise, Compare, Withdraw, SearchHigh, SearchMiddle, SearchLow}
use Rattle.dali_progress.proofs.Below.{Program, QueryShort, Unaddressed, Gear, is_active, draws_a_number, gear_taken, row_after, Everyone, Assignment, Kept}
use Rattle.dali_progress.proofs.Below.{Has, next_stage, verified, End, Stage, Search, Purpose, Opening, Probing, Visiting, Closing, gear_of, OfPowered, Seek}
use Rattle.dali_progress.proofs.Below.{row_length, AreOpening, after_at, same_number, number_same, AreTabled}
use Rattle.dali_script.specs.declared.stage.Stage.TheVariants as stage
use Rattle.dali_events.proofs.Search.Programming as programming
use Rattle.dali_progress.proofs.{Frames.Seeks, Later.verified_by, Stands.{to_come, Opens, VisitsAt, Probes, Closes, At, Sends, some_is, visit_by}}

-- THE TABLE NAMES THE GEAR, while frames are sent. A gear that has a short address keeps it, with its random address;
-- and the one that is given an address is the one whose entry is to come.

-- a gear with a short address had it, with its random address
abbrev KeepsName : Gear → Gear → Type 0
KeepsName g h = (a : ℕ) → h.short ≡ Some a → (g.short ≡ Some a) × (h.random ≡ g.random)

-- frames that neither draw nor give an address
abbrev pub LeavesNames : Command → Type 0
LeavesNames Randomise = ⊥
LeavesNames (Program short) = ⊥
LeavesNames _ = Unit {0}

names_taken : (c : Command) (g : Gear) (x : ℕ) → LeavesNames c → KeepsName g (gear_taken c x g)
names_taken Randomise g x leaves = absurd leaves
names_taken (Program short) g x leaves = absurd leaves
names_taken _ g x leaves = λ a short. (short, refl)

names_drawn : (g : Gear) (x : ℕ) → ((a : ℕ) → g.short ≡ Some a → draws_a_number Randomise g ≡ false) → KeepsName g (gear_taken Randomise x g)
names_drawn g x still a short = (short, rw (still a short) refl)

names_self : (g : Gear) → KeepsName g g
names_self g a short = (short, refl)

tabled_by : (before : List Gear) (xs : List Assignment) (gs hs : List Gear) → length hs ≡ length gs
    → ((k : ℕ) → k < length gs → KeepsName (gear_of gs k) (gear_of hs k)) → AreTabled before xs gs → AreTabled before xs hs
tabled_by before xs gs hs same keeps tabled k a in_row short =
    let there : k < length gs = subst (λ n. k < n) same in_row in
    let kept = keeps k there a short in
    subst (λ r. ((gear_of before k).short ≡ Some a) ⊎ Has xs (a, r)) (sym kept.1) (tabled k a there kept.0)

pub tabled_left : (before : List Gear) (xs : List Assignment) (gs : List Gear) (numbers : List ℕ) (c : Command) → LeavesNames c → AreTabled before xs gs
    → AreTabled before xs (row_after Everyone c 0 gs numbers)
tabled_left before xs gs numbers c leaves tabled =
    tabled_by before xs gs (row_after Everyone c 0 gs numbers) (row_length Everyone c 0 gs numbers)
    (after_at c KeepsName (λ g off. names_self g) (λ g x on. names_taken c g x leaves) gs numbers) tabled

-- RANDOMISE, if no gear with a short address draws
abbrev pub StandsStill : Gear → Type 0
StandsStill g = (a : ℕ) → g.short ≡ Some a → draws_a_number Randomise g ≡ false

pub tabled_drawn : (before : List Gear) (xs : List Assignment) (gs : List Gear) (numbers : List ℕ) → OfPowered gs StandsStill → AreTabled before xs gs
    → AreTabled before xs (row_after Everyone Randomise 0 gs numbers)
tabled_drawn before xs gs numbers still tabled =
    tabled_by before xs gs (row_after Everyone Randomise 0 gs numbers) (row_length Everyone Randomise 0 gs numbers)
    (λ k in_row. after_at Randomise (λ g h. (g.powered ≡ true → StandsStill g) → KeepsName g h) (λ g off was. names_self g)
    (λ g x on was. names_drawn g x (was on)) gs numbers k in_row (still k in_row)) tabled

pub still_once : (gs : List Gear) → AreOpening stage.Initialised gs → OfPowered gs StandsStill
still_once gs all k in_row on a short = rw ((all k in_row on).0) refl

pub still_twice : (gs : List Gear) → AreOpening stage.RandomisedOnce gs → OfPowered gs StandsStill
still_twice gs all k in_row on a short = rw ((all k in_row on).0, (all k in_row on).1.1 a short) refl

-- PROGRAM SHORT ADDRESS names the one that is visited
tabled_given : (before : List Gear) (xs : List Assignment) (gs : List Gear) (numbers : List ℕ) (r : SearchAddress) (a : ℕ) → Seek gs r → AreTabled before xs gs
    → AreTabled before ((a, value_of r) ∷ xs) (row_after Everyone (Program (Some a)) 0 gs numbers)
tabled_given before xs gs numbers r a seek tabled k b in_row short =
    go (gear_of gs k).powered refl (is_active (gear_of gs k).state) refl ((gear_of gs k).random == value_of r) refl where
      there : k < length gs
      there = subst (λ n. k < n) (row_length Everyone (Program (Some a)) 0 gs numbers) in_row

      kept : (gear_of (row_after Everyone (Program (Some a)) 0 gs numbers) k).random ≡ (gear_of gs k).random
      kept = (programming.programs_at gs numbers r a seek k there).same_random

      other : ((gear_of gs k).powered ≡ true → is_active (gear_of gs k).state ≡ true → (gear_of gs k).random ≡ value_of r → ⊥)
          → ((gear_of before k).short ≡ Some b) ⊎ Has ((a, value_of r) ∷ xs) (b, (gear_of (row_after Everyone (Program (Some a)) 0 gs numbers) k).random)
      other none = more (tabled k b there (sym ((programming.programs_at gs numbers r a seek k there).others none) ∙ short)) where
        more : ((gear_of before k).short ≡ Some b) ⊎ Has xs (b, (gear_of gs k).random)
            → ((gear_of before k).short ≡ Some b) ⊎ Has ((a, value_of r) ∷ xs) (b, (gear_of (row_after Everyone (Program (Some a)) 0 gs numbers) k).random)
        more (inl had) = inl had
        more (inr has) = inr (inr (subst (λ n. Has xs (b, n)) (sym kept) has))

      go : (p : Bool) → (gear_of gs k).powered ≡ p → (s : Bool) → is_active (gear_of gs k).state ≡ s → (t : Bool) → ((gear_of gs k).random == value_of r) ≡ t
          → ((gear_of before k).short ≡ Some b) ⊎ Has ((a, value_of r) ∷ xs) (b, (gear_of (row_after Everyone (Program (Some a)) 0 gs numbers) k).random)
      go false on s active t found = other (λ up awake random. (let no : false ≡ true = sym on ∙ up in cc))
      go true on false active t found = other (λ up awake random. (let no : false ≡ true = sym active ∙ awake in cc))
      go true on true active false found =
          other (λ up awake random. (let no : false ≡ true = sym found ∙ number_same (gear_of gs k).random (value_of r) random in cc))
      go true on true active true found =
          let random : (gear_of gs k).random ≡ value_of r = same_number (gear_of gs k).random (value_of r) found in
          let given : (gear_of (row_after Everyone (Program (Some a)) 0 gs numbers) k).short ≡ Some a =
          (programming.programs_at gs numbers r a seek k there).programmed on active random in
          let same : a ≡ b = one a b (sym given ∙ short) in
          inr (inl (ap (λ m. (m, value_of r)) same ∙ ap (λ m. (b, m)) (sym (kept ∙ random))))
        where
          one : (m n : ℕ) → Some m ≡ Some n → m ≡ n
          one m n e = cc

-- ---------------------------------------------------------------- of whatever transaction

-- whatever stage comes next, it has these entries at least
come_more : (s : Stage) (n : SearchAddress) (xs : List Assignment) (x : Assignment) → Has xs x → Has (to_come s n xs) x
come_more (stage.Programmed r a) n xs x has = inr has
come_more (stage.Confirmed r a) n xs x has = inr has
come_more (stage.Withdrawn r a) n xs x has = inr has
come_more _ n xs x has = has

pub tabled_over : (before : List Gear) (xs ys : List Assignment) (gs : List Gear) → ((x : Assignment) → Has xs x → Has ys x) → AreTabled before xs gs
    → AreTabled before ys gs
tabled_over before xs ys gs more tabled k a in_row short = go (tabled k a in_row short) where
  go : ((gear_of before k).short ≡ Some a) ⊎ Has xs (a, (gear_of gs k).random) → ((gear_of before k).short ≡ Some a) ⊎ Has ys (a, (gear_of gs k).random)
  go (inl had) = inl had
  go (inr has) = inr (more (a, (gear_of gs k).random) has)

-- the table after a frame
abbrev pub IsTabledTo : List Gear → Stage → SearchAddress → List Assignment → List Gear → List ℕ → Command → Answer → Type 0
IsTabledTo before s n xs gs numbers c h = AreTabled before (to_come (next_stage s c h) n xs) (row_after Everyone c 0 gs numbers)

left_to : (before : List Gear) (s : Stage) (n : SearchAddress) (xs : List Assignment) (gs : List Gear) (numbers : List ℕ) (c d : Command) (h : Answer) → d ≡ c
    → LeavesNames d → AreTabled before xs gs → IsTabledTo before s n xs gs numbers c h
left_to before s n xs gs numbers c d h is leaves tabled =
    subst (λ e. IsTabledTo before s n xs gs numbers e h) is
    (tabled_over before xs (to_come (next_stage s d h) n xs) (row_after Everyone d 0 gs numbers) (come_more (next_stage s d h) n xs)
    (tabled_left before xs gs numbers d leaves tabled))

opening_tabled : (before : List Gear) (s : Stage) (k : Kept) (opened : Bool) (n : SearchAddress) (gs : List Gear) (numbers : List ℕ) (left : ℕ) (c : Command)
    (h : Answer) → Opens s gs left → Sends Opening n k s c → AreTabled before (to_come s n k.enrolled) gs → IsTabledTo before s n k.enrolled gs numbers c h
opening_tabled before stage.Free k opened n gs numbers left c h o is tabled = left_to before stage.Free n k.enrolled gs numbers c Terminate h (sym is) tt tabled
opening_tabled before stage.Terminated k opened n gs numbers left c h o is tabled =
    left_to before stage.Terminated n k.enrolled gs numbers c (Initialise Unaddressed) h (some_is (Initialise Unaddressed) c is) tt tabled
opening_tabled before stage.InitialisedOnce k opened n gs numbers left c h o is tabled =
    left_to before stage.InitialisedOnce n k.enrolled gs numbers c (Initialise Unaddressed) h (some_is (Initialise Unaddressed) c is) tt tabled
opening_tabled before stage.Initialised k opened n gs numbers left c h o is tabled =
    subst (λ e. IsTabledTo before stage.Initialised n k.enrolled gs numbers e h) (some_is Randomise c is)
    (tabled_drawn before k.enrolled gs numbers (still_once gs o.gear) tabled)
opening_tabled before stage.RandomisedOnce k opened n gs numbers left c h o is tabled =
    subst (λ e. IsTabledTo before stage.RandomisedOnce n k.enrolled gs numbers e h) (some_is Randomise c is)
    (tabled_drawn before k.enrolled gs numbers (still_twice gs o.gear) tabled)
opening_tabled before stage.Opened k opened n gs numbers left c h o is tabled = absurd (cc)
opening_tabled before _ k opened n gs numbers left c h o is tabled = absurd o.stage_is

probing_tabled : (before : List Gear) (s : Stage) (k : Kept) (x : Search) (n : SearchAddress) (gs : List Gear) (numbers : List ℕ) (left : ℕ) (c : Command)
    (h : Answer) → Probes s x n gs left → Sends Probing n k s c → AreTabled before (to_come s n k.enrolled) gs → IsTabledTo before s n k.enrolled gs numbers c h
probing_tabled before stage.Free k x n gs numbers left c h p is tabled =
    left_to before stage.Free n k.enrolled gs numbers c (SearchHigh n.high) h (sym is) tt tabled
probing_tabled before (stage.HighSent high) k x n gs numbers left c h p is tabled =
    left_to before (stage.HighSent high) n k.enrolled gs numbers c (SearchMiddle n.middle) h (some_is (SearchMiddle n.middle) c is) tt tabled
probing_tabled before (stage.MiddleSent high middle) k x n gs numbers left c h p is tabled =
    left_to before (stage.MiddleSent high middle) n k.enrolled gs numbers c (SearchLow n.low) h (some_is (SearchLow n.low) c is) tt tabled
probing_tabled before (stage.NumberSent r) k x n gs numbers left c h p is tabled =
    left_to before (stage.NumberSent r) n k.enrolled gs numbers c Compare h (some_is Compare c is) tt tabled
probing_tabled before (stage.Probed r g) k x n gs numbers left c h p is tabled = absurd (cc)
probing_tabled before _ k x n gs numbers left c h p is tabled = absurd p.stage_is

-- what follows PROGRAM SHORT ADDRESS is its confirmation, if the visit goes on
confirmed : (r : SearchAddress) (a : ℕ) (h : Answer) (k : Kept) (n : SearchAddress) (gs : List Gear) (left : ℕ) → VisitsAt (verified r a h) k n gs left
    → verified r a h ≡ stage.Confirmed r a
confirmed r a h k n gs left = verified_by (λ q. VisitsAt q k n gs left → q ≡ stage.Confirmed r a) r a (λ at. refl) (λ o at. absurd at.stage_is) h

visiting_tabled : (before : List Gear) (s : Stage) (k : Kept) (n : SearchAddress) (gs : List Gear) (numbers : List ℕ) (left rest : ℕ) (c : Command) (h : Answer)
    → VisitsAt s k n gs left → Sends Visiting n k s c → Seeks s gs → VisitsAt (next_stage s c h) k n (row_after Everyone c 0 gs numbers) rest
    → AreTabled before (to_come s n k.enrolled) gs → IsTabledTo before s n k.enrolled gs numbers c h
visiting_tabled before s k n gs numbers left rest c h v is seek next tabled =
    visit_by (λ t d. VisitsAt t k n gs left → Seeks t gs → VisitsAt (next_stage t d h) k n (row_after Everyone d 0 gs numbers) rest
    → AreTabled before (to_come t n k.enrolled) gs → IsTabledTo before t n k.enrolled gs numbers d h) n k gs left
    (λ w by on was. left_to before stage.Free n k.enrolled gs numbers _ (SearchHigh n.high) h refl tt was)
    (λ high w by on was. left_to before (stage.HighSent high) n k.enrolled gs numbers _ (SearchMiddle n.middle) h refl tt was)
    (λ high middle w by on was. left_to before (stage.MiddleSent high middle) n k.enrolled gs numbers _ (SearchLow n.low) h refl tt was)
    (λ r w by on was. left_to before (stage.NumberSent r) n k.enrolled gs numbers _ QueryShort h refl tt was) (λ r a small has w by on was. subst
    (λ (m : SearchAddress). AreTabled before ((a, value_of m) ∷ k.enrolled) (row_after Everyone (Program (Some a)) 0 gs numbers))
    (sym w.searched) (tabled_given before k.enrolled gs numbers r a (by r refl) was))
    (λ r a w by on was. subst (λ q. AreTabled before (to_come q n k.enrolled) (row_after Everyone QueryShort 0 gs numbers))
    (sym (confirmed r a h k n (row_after Everyone QueryShort 0 gs numbers) rest on))
    (tabled_left before ((a, value_of n) ∷ k.enrolled) gs numbers QueryShort tt was))
    (λ r a w by on was. tabled_left before ((a, value_of n) ∷ k.enrolled) gs numbers Withdraw tt was)
    s c v is v seek next tabled

closing_tabled : (before : List Gear) (s : Stage) (k : Kept) (n : SearchAddress) (gs : List Gear) (numbers : List ℕ) (left : ℕ) (c : Command) (h : Answer)
    (e : End) → Closes e s k gs left → Sends (Closing e) n k s c → AreTabled before (to_come s n k.enrolled) gs
    → IsTabledTo before s n k.enrolled gs numbers c h
closing_tabled before stage.Free k n gs numbers left c h e v is tabled = left_to before stage.Free n k.enrolled gs numbers c Terminate h (sym is) tt tabled
closing_tabled before stage.Terminated k n gs numbers left c h e v is tabled = absurd (cc)
closing_tabled before _ k n gs numbers left c h e v is tabled = absurd v.stage_is

pub at_tabled : (before : List Gear) (p : Purpose) (s : Stage) (k : Kept) (opened now : Bool) (x : Search) (n : SearchAddress) (gs : List Gear)
    (numbers : List ℕ) (left rest : ℕ) (c : Command) (h : Answer) → At p s k opened x n gs left → Sends p n k s c → Seeks s gs
    → At p (next_stage s c h) k now x n (row_after Everyone c 0 gs numbers) rest → AreTabled before (to_come s n k.enrolled) gs
    → IsTabledTo before s n k.enrolled gs numbers c h
at_tabled before Opening s k opened now x n gs numbers left rest c h at is seek next tabled =
    opening_tabled before s k opened n gs numbers left c h at.1 is tabled
at_tabled before Probing s k opened now x n gs numbers left rest c h at is seek next tabled = probing_tabled before s k x n gs numbers left c h at.1 is tabled
at_tabled before Visiting s k opened now x n gs numbers left rest c h at is seek next tabled =
    visiting_tabled before s k n gs numbers left rest c h at.1 is seek next.1 tabled
at_tabled before (Closing e) s k opened now x n gs numbers left rest c h at is seek next tabled = closing_tabled before s k n gs numbers left c h e at is tabled
at_tabled before _ s k opened now x n gs numbers left rest c h at is seek next tabled = absurd at
