use Rattle.dali_progress.proofs.Below.{◌≡◌, ℕ, ◌+◌, ◌-◌, ◌*◌, ◌<◌, ◌≤◌, ◌⊎◌, Bool, true, false, zero, suc, List, ◌∷◌, length, Option, Some, sym, subst}
use Rattle.dali_progress.proofs.Below.{count_by, value_of, MASK24, Answer, SearchAddress, Command, SearchHigh, SearchMiddle, SearchLow, QueryShort, Program}
use Rattle.dali_progress.proofs.Below.{Withdraw, Gear, is_active, Assignment, Kept, Has, HasRandom, IsSearched, IsTrace, stage_of, End, Stage, Search, Agrees}
use Rattle.dali_progress.proofs.Below.{Gives, IsNarrowing, Again, first_of, turn_of, sought, is_yes, byte_to_send, call_turn, Machine, AsksOn}
use Rattle.dali_progress.proofs.Below.{Sends as SendsWhole, Purpose, Opening, Probing, Visiting, Closing, Hunting, Calling, Fresh, is_wanted, wants, is_bare}
use Rattle.dali_progress.proofs.Below.{OfPowered, IsOpened, NoneNamed, NoneNamedBut, AreOpening, EndsWell, AreTabled}
use Rattle.dali_script.specs.declared.stage.Stage.TheVariants as stage

-- HOW FAR COMMISSIONING IS, if nothing is disturbed: what is true of gear, records and search at each stage of the
-- running transaction, and how many frames are left to be sent, at the most.

-- so many frames of the transaction were sent
abbrev pub sent_at : Stage → ℕ
sent_at stage.Terminated = 1
sent_at stage.InitialisedOnce = 2
sent_at stage.Initialised = 3
sent_at stage.RandomisedOnce = 4
sent_at stage.Opened = 5
sent_at (stage.HighSent high) = 1
sent_at (stage.MiddleSent high middle) = 2
sent_at (stage.NumberSent r) = 3
sent_at (stage.Probed r h) = 4
sent_at (stage.Unnamed r) = 4
sent_at (stage.Programmed r a) = 5
sent_at (stage.Confirmed r a) = 6
sent_at _ = 0

-- so many frames take a search for so many gear, and the close after it
abbrev pub search_frames : ℕ → ℕ
search_frames n = 111 * n + 5

-- a probe after so many answers, and what may follow it
abbrev pub probe_frames : ℕ → ℕ → ℕ
probe_frames answers zero = 5
probe_frames answers (suc more) = 4 + (4 * (24 - answers) + 11 + search_frames more)

-- ---------------------------------------------------------------- an opening

abbrev pub OpeningStage : Stage → Type 0
OpeningStage stage.Free = Unit {0}
OpeningStage stage.Terminated = Unit {0}
OpeningStage stage.InitialisedOnce = Unit {0}
OpeningStage stage.Initialised = Unit {0}
OpeningStage stage.RandomisedOnce = Unit {0}
OpeningStage stage.Opened = Unit {0}
OpeningStage _ = ⊥

pub record Opens (s : Stage) (gs : List Gear) (left : ℕ) : Type 0 where
  pub stage_is : OpeningStage s
  pub gear : AreOpening s gs
  pub frames : 5 + search_frames (count_by is_bare gs) ≤ left + sent_at s

-- ---------------------------------------------------------------- a probe

abbrev pub ProbeStage : Stage → List Gear → ℕ → Type 0
ProbeStage stage.Free gs probe = Unit {0}
ProbeStage (stage.HighSent high) gs probe = Unit {0}
ProbeStage (stage.MiddleSent high middle) gs probe = Unit {0}
ProbeStage (stage.NumberSent r) gs probe = Unit {0}
ProbeStage (stage.Probed r h) gs probe = Gives (wants gs) probe (is_yes h)
ProbeStage _ gs probe = ⊥

-- what is known of a search
pub record Searches (x : Search) (gs : List Gear) : Type 0 where
  pub running : x.step ≡ Again
  pub narrowing : IsNarrowing x
  pub agrees : Agrees (wants gs) x.answers

pub record Probes (s : Stage) (x : Search) (n : SearchAddress) (gs : List Gear) (left : ℕ) : Type 0 where
  pub stage_is : ProbeStage s gs x.probe
  pub searched : IsSearched s n
  pub ready : IsOpened gs
  pub unnamed : NoneNamed gs
  pub searches : Searches x gs
  pub number : n ≡ sought x.probe
  pub frames : probe_frames (length x.answers) (count_by is_wanted gs) ≤ left + sent_at s

-- ---------------------------------------------------------------- a visit

abbrev pub VisitStage : Stage → Type 0
VisitStage stage.Free = Unit {0}
VisitStage (stage.HighSent high) = Unit {0}
VisitStage (stage.MiddleSent high middle) = Unit {0}
VisitStage (stage.NumberSent r) = Unit {0}
VisitStage (stage.Unnamed r) = Unit {0}
VisitStage _ = ⊥

-- a gear is visited, whose number is wanted and is a random address
pub record IsVisited (n : SearchAddress) (gs : List Gear) (more : ℕ) : Type 0 where
  pub wanted : wants gs (value_of n) ≡ true
  pub number : ℕ
  pub number_is : n ≡ sought number
  pub drawn : number < MASK24
  pub count : count_by is_wanted gs ≡ suc more

-- before its address is programmed: if one is reserved for it, this is the last visit
abbrev pub VisitFrames : Kept → SearchAddress → ℕ → ℕ → Type 0
VisitFrames k n more left = (HasRandom k.reserved (value_of n) × (7 + search_frames more ≤ left)) ⊎ (11 + search_frames more ≤ left)

pub record Visits (s : Stage) (k : Kept) (n : SearchAddress) (gs : List Gear) (left : ℕ) : Type 0 where
  pub stage_is : VisitStage s
  pub searched : IsSearched s n
  pub ready : IsOpened gs
  pub unnamed : NoneNamed gs
  pub more : ℕ
  pub visited : IsVisited n gs more
  pub frames : VisitFrames k n more (left + sent_at s)

-- afterwards it has the address
abbrev pub HaveShort : List Gear → ℕ → ℕ → Type 0
HaveShort gs n a = OfPowered gs (λ g. is_active g.state ≡ true → g.random ≡ n → g.short ≡ Some a)

pub record Names (s : Stage) (r : SearchAddress) (a : ℕ) (k : Kept) (n : SearchAddress) (gs : List Gear) (left : ℕ) : Type 0 where
  pub searched : r ≡ n
  pub ready : IsOpened gs
  pub unnamed : NoneNamedBut gs (value_of n)
  pub named : HaveShort gs (value_of n) a
  pub address : a < 64
  pub reserved : Has k.reserved (a, value_of n)
  pub more : ℕ
  pub visited : IsVisited n gs more
  pub frames : 7 + search_frames more ≤ left + sent_at s

-- and it is withdrawn
pub record Leaves (r : SearchAddress) (a : ℕ) (k : Kept) (n : SearchAddress) (gs : List Gear) (left : ℕ) : Type 0 where
  pub searched : r ≡ n
  pub ready : IsOpened gs
  pub unnamed : NoneNamed gs
  pub address : a < 64
  pub number : ℕ
  pub number_is : n ≡ sought number
  pub drawn : number < MASK24
  pub reserved : Has k.reserved (a, value_of n)
  pub frames : search_frames (count_by is_wanted gs) ≤ left

abbrev pub VisitsAt : Stage → Kept → SearchAddress → List Gear → ℕ → Type 0
VisitsAt (stage.Programmed r a) k n gs left = Names (stage.Programmed r a) r a k n gs left
VisitsAt (stage.Confirmed r a) k n gs left = Names (stage.Confirmed r a) r a k n gs left
VisitsAt (stage.Withdrawn r a) k n gs left = Leaves r a k n gs left
VisitsAt s k n gs left = Visits s k n gs left

-- ---------------------------------------------------------------- the close

abbrev pub CloseStage : Stage → Type 0
CloseStage stage.Free = Unit {0}
CloseStage stage.Terminated = Unit {0}
CloseStage _ = ⊥

-- and what its end says
pub record Closes (e : End) (s : Stage) (k : Kept) (gs : List Gear) (left : ℕ) : Type 0 where
  pub stage_is : CloseStage s
  pub well : EndsWell e k gs
  pub frames : 1 ≤ left + sent_at s

-- ---------------------------------------------------------------- the table

abbrev pub At : Purpose → Stage → Kept → Bool → Search → SearchAddress → List Gear → ℕ → Type 0
At Opening s k opened x n gs left = (opened ≡ false) × Opens s gs left
At Probing s k opened x n gs left = (opened ≡ true) × Probes s x n gs left
At Visiting s k opened x n gs left = (opened ≡ true) × VisitsAt s k n gs left
At (Closing e) s k opened x n gs left = Closes e s k gs left
At _ s k opened x n gs left = ⊥

-- what is enrolled is reserved
abbrev pub IsWithin : Kept → Type 0
IsWithin k = (x : Assignment) → Has k.enrolled x → Has k.reserved x

-- the entries of its table, with the one that is to come of a visit
abbrev pub to_come : Stage → SearchAddress → List Assignment → List Assignment
to_come (stage.Programmed r a) n xs = (a, value_of n) ∷ xs
to_come (stage.Confirmed r a) n xs = (a, value_of n) ∷ xs
to_come (stage.Withdrawn r a) n xs = (a, value_of n) ∷ xs
to_come _ n xs = xs

pub record Stands (before : List Gear) (m : Machine) (gs : List Gear) (left : ℕ) : Type 0 where
  pub tries : m.tries ≡ 0
  pub fresh : m.course.way ≡ Fresh
  pub silent : m.silent ≡ 0
  pub trace : IsTrace (stage_of m.trace) m.trace
  pub within : IsWithin m.kept
  pub tabled : AreTabled before (to_come (stage_of m.trace) m.course.number m.kept.enrolled) gs
  pub at : At m.course.purpose (stage_of m.trace) m.kept m.course.opened m.course.search m.course.number gs left

-- ---------------------------------------------------------------- the frame that is to be sent

-- the next question of a hunt, or COMPARE of a roll call
abbrev pub AsksBy : Purpose → SearchAddress → SearchAddress → Option Answer → ℕ → Command → Type 0
AsksBy Hunting n r last left c = c ≡ byte_to_send n r
AsksBy Calling n r last left c = call_turn last left ≡ Some c
AsksBy p n r last left c = ⊥

abbrev pub Sends : Purpose → SearchAddress → Kept → Stage → Command → Type 0
Sends p n k stage.Free c = c ≡ first_of p n
Sends p n k (stage.Unnamed r) c = (a : ℕ) × (a < 64) × Has k.reserved (a, value_of r) × (c ≡ Program (Some a))
Sends p n k (stage.Hunted r last left) c = AsksBy p n r last left c
Sends p n k s c = turn_of p n s ≡ Some c

-- it is so of every frame that a whole machine sends
asks_of : (p : Purpose) (n r : SearchAddress) (last : Option Answer) (left : ℕ) (c : Command) → AsksOn p n r last left c → AsksBy p n r last left c
asks_of Hunting n r last left c is = is.0
asks_of Calling n r last left c is = is.0
asks_of _ n r last left c is = absurd is

pub sends_of : (p : Purpose) (n : SearchAddress) (k : Kept) (s : Stage) (c : Command) → SendsWhole k n p s c → Sends p n k s c
sends_of p n k stage.Free c is = is.0
sends_of p n k (stage.Unnamed r) c (visits, same, (a, small, may, gives)) = (a, small, may.reserved_for, gives)
sends_of p n k (stage.Hunted r last left) c is = asks_of p n r last left c is
sends_of p n k _ c is = is.0

-- A FRAME OF A VISIT, by its stage: a byte of the number, a question, the address, or that the gear is withdrawn.
pub some_is : (x c : Command) → Some x ≡ Some c → x ≡ c
some_is x c e = cc

pub visit_by : (P : Stage → Command → Type 0) (n : SearchAddress) (k : Kept) (gs : List Gear) (left : ℕ) → P stage.Free (SearchHigh n.high)
    → ((high : ℕ) → P (stage.HighSent high) (SearchMiddle n.middle)) → ((high middle : ℕ) → P (stage.MiddleSent high middle) (SearchLow n.low))
    → ((r : SearchAddress) → P (stage.NumberSent r) QueryShort)
    → ((r : SearchAddress) (a : ℕ) → a < 64 → Has k.reserved (a, value_of r) → P (stage.Unnamed r) (Program (Some a)))
    → ((r : SearchAddress) (a : ℕ) → P (stage.Programmed r a) QueryShort) → ((r : SearchAddress) (a : ℕ) → P (stage.Confirmed r a) Withdraw)
    → (s : Stage) (c : Command) → VisitsAt s k n gs left → Sends Visiting n k s c → P s c
visit_by P n k gs left high middle low asked given asked_again withdrawn stage.Free c v is = subst (P stage.Free) (sym is) high
visit_by P n k gs left high middle low asked given asked_again withdrawn (stage.HighSent one) c v is =
    subst (P (stage.HighSent one)) (some_is (SearchMiddle n.middle) c is) (middle one)
visit_by P n k gs left high middle low asked given asked_again withdrawn (stage.MiddleSent one two) c v is =
    subst (P (stage.MiddleSent one two)) (some_is (SearchLow n.low) c is) (low one two)
visit_by P n k gs left high middle low asked given asked_again withdrawn (stage.NumberSent r) c v is =
    subst (P (stage.NumberSent r)) (some_is QueryShort c is) (asked r)
visit_by P n k gs left high middle low asked given asked_again withdrawn (stage.Unnamed r) c v is =
    subst (P (stage.Unnamed r)) (sym is.3) (given r is.0 is.1 is.2)
visit_by P n k gs left high middle low asked given asked_again withdrawn (stage.Programmed r a) c v is =
    subst (P (stage.Programmed r a)) (some_is QueryShort c is) (asked_again r a)
visit_by P n k gs left high middle low asked given asked_again withdrawn (stage.Confirmed r a) c v is =
    subst (P (stage.Confirmed r a)) (some_is Withdraw c is) (withdrawn r a)
visit_by P n k gs left high middle low asked given asked_again withdrawn (stage.Withdrawn r a) c v is = absurd (cc)
visit_by P n k gs left high middle low asked given asked_again withdrawn _ c v is = absurd v.stage_is
