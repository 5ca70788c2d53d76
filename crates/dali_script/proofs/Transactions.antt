use Rattle.std.proofs.Common.{◌≡◌, ◌⊎◌, inl, inr, ℕ, ◌<◌, ◌≤◌, Bool, true, false, List, [], ◌∷◌, ◌++◌, refl, sym, ap, subst, ◌∙◌, arith, length, lit<, lit≤}
use Rattle.std.proofs.Common.{Option, Some, None, ◌==◌, ◌-◌, if◌then◌else◌, not, map, is_some, IfSome}
use Rattle.std.{proofs.lemmas.Bool.Decides.nat_tests, proofs.lemmas.List.length-map, specs.Prelude.unwrap_or}
use Rattle.dali_frame.specs.{Random.value_of, Short.code_of, Short.short_of, declared.frames.Answer.Answer}
use Rattle.dali_frame.specs.declared.frames.Answer.TheVariants.{Silence, Byte, Damaged}
use Rattle.dali_frame.specs.declared.{frames.Forward.Forward, numbers.SearchAddress.SearchAddress}
use Rattle.dali_special.specs.Command.{MASK, command_of, frame_of, IsSpelled}
use Rattle.dali_special.specs.declared.command.Command.{Command, TheVariants.Terminate, TheVariants.Initialise, TheVariants.Randomise, TheVariants.Compare}
use Rattle.dali_special.specs.declared.command.Command.TheVariants.{Withdraw, SearchHigh, SearchMiddle, SearchLow, Program, QueryShort, RandomByte, Arc}
use Rattle.dali_special.specs.declared.command.Part.TheVariants.{High, Middle, Low}
use Rattle.dali_special.specs.declared.command.Target.{Target, TheVariants.Unaddressed}
use Rattle.dali_special.proofs.Table.{code_of_short, short_of_code, short_small, read_spelled, read_written}
use Rattle.dali_script.specs.Records.{Assignment, HasAddress}
use Rattle.dali_script.specs.Scripts.{nobody, no_address, some_address, address, IsHeard, Step, sends, queries, search_at, Script, Open, Call, Draw, Probe}
use Rattle.dali_script.specs.Scripts.{Hunt, Look, Give, PassOver, Resolve, woken, drawing, hunts, CALLING, is_asking, AreAsking, ASKING, Close, ArcPower, steps}
use Rattle.dali_script.specs.Scripts.{MayGive, MaySend, IsFront, Lawful, IsComplete, IsFrame, GoesOn}
use Rattle.dali_script.specs.Stages.{leads, hunted, IsHunting, IsBeforeDraw, IsDoubting, given, may_give_if, follows, may_follow, doubted, named, queried}
use Rattle.dali_script.specs.Stages.{answered, verified, byte_heard, bytes_heard, number_heard, next_stage, stage_from, stage_of, Follows}
use Rattle.dali_script.specs.declared.{block.Block.Block, stage.Stage.Stage}
use Rattle.dali_script.specs.declared.stage.Stage.TheVariants.{Free, Terminated, InitialisedOnce, Initialised, RandomisedOnce, Opened, HighSent, MiddleSent}
use Rattle.dali_script.specs.declared.stage.Stage.TheVariants.{LowSent, Hunted, WokenHigh, WokenLow, WokenMiddle, DrawFree, NumberSent, Probed, Found, Unnamed}
use Rattle.dali_script.specs.declared.stage.Stage.TheVariants.{Unanswered, Inconclusive, Programmed, Confirmed, HighAsked, MiddleAsked, Spelled, Over}
use Rattle.dali_script.{specs.declared.trace.Entry.Entry, proofs.Giving.first_of_both, proofs.Giving.second_of_both}
use Rattle.dali_script.proofs.{Giving.may_give_by, Giving.may_give_from, Giving.may_give_some_by, Giving.may_give_some_from, Lists.has_map}

pub turn : {b : Block} {xs : List Assignment} {s : Stage} {c : Command} → is_some (leads s c Silence) ≡ true → given s c ≡ None → Follows b xs s c
turn {b} {xs} {s} {c} on none = record { leads_on = on; may = rw none tt }

pub gives : {b : Block} {xs : List Assignment} {s : Stage} {c : Command} → is_some (leads s c Silence) ≡ true → IfSome (given s c) (λ g. MayGive b xs g.0 g.1)
    → Follows b xs s c
gives {b} {xs} {s} {c} on may = record { leads_on = on; may = may }

-- LAWFUL FRAMES FOLLOW. From a stage on, steps keep to what may come next.
unfoldable pub Tracks : Block → List Assignment → Stage → List Step → Type 0
Tracks b xs s [] = Unit {0}
Tracks b xs s (step ∷ more) =
    Follows b xs s step.command × (IsSpelled step.command → (h : Answer) → IsHeard step.wanted h → Tracks b xs (next_stage s step.command h) more)

pub self : (n : ℕ) → (n == n) ≡ true
self n = grind (arith, nat_tests)

pub equal : (m n : ℕ) → (m == n) ≡ true → m ≡ n
equal m n e = grind (arith, nat_tests)

queried_named : (r : SearchAddress) (c : ℕ) → c < 64 → queried r (Byte (code_of c)) ≡ Found r c
queried_named r c small = rw (short_of_code c small) refl

verified_named : (r : SearchAddress) (a : ℕ) → a < 64 → verified r a (Byte (code_of a)) ≡ Confirmed r a
verified_named r a small = rw (short_of_code a small) (go (a == a) (self a)) where
  go : (t : Bool) → t ≡ true → (if t then Confirmed r a else Inconclusive r (Some a)) ≡ Confirmed r a
  go true e = refl
  go false e = cc

tracks_look : (b : Block) (xs : List Assignment) (r : SearchAddress) (h : Answer) → IsHeard some_address h → Tracks b xs (queried r h) (sends Withdraw ∷ [])
unfolding Tracks
tracks_look b xs r h heard =
    let there : queried r h ≡ Found r heard.0 = ap (λ x. queried r x) heard.2 ∙ queried_named r heard.0 heard.1 in
    subst (λ s. Tracks b xs s (sends Withdraw ∷ [])) (sym there) (turn refl refl, λ spelled x y. tt)

tracks_verify : (b : Block) (xs : List Assignment) (r : SearchAddress) (a : ℕ) → MayGive b xs r a → a < 64 → (h : Answer) → IsHeard (address a) h
    → Tracks b xs (verified r a h) (sends Withdraw ∷ [])
unfolding Tracks
tracks_verify b xs r a may small h heard =
    let there : verified r a h ≡ Confirmed r a = ap (λ x. verified r a x) heard ∙ verified_named r a small in
    subst (λ s. Tracks b xs s (sends Withdraw ∷ [])) (sym there) (gives refl may, λ spelled x y. tt)

tracks_give : (b : Block) (xs : List Assignment) (r : SearchAddress) (a : ℕ) → MayGive b xs r a → (h : Answer) → IsHeard no_address h
    → Tracks b xs (queried r h) (sends (Program (Some a)) ∷ queries (address a) ∷ sends Withdraw ∷ [])
unfolding Tracks
tracks_give b xs r a may h heard =
    let there : queried r h ≡ Unnamed r = ap (λ x. queried r x) heard in
    subst (λ s. Tracks b xs s (sends (Program (Some a)) ∷ queries (address a) ∷ sends Withdraw ∷ [])) (sym there)
    (gives refl may, λ small x y. (gives refl may, λ spelled z w. tracks_verify b xs r a may small z w))

-- the next query to the same short address leads on, and one to another does not
pub middle_next : (a : ℕ) (high : Option ℕ) (h : Answer) → next_stage (HighAsked a high) (RandomByte a Middle) h ≡ MiddleAsked a (bytes_heard high h)
middle_next a high h = rw (self a) refl

pub low_next : (a : ℕ) (bytes : Option (ℕ × ℕ)) (h : Answer) → next_stage (MiddleAsked a bytes) (RandomByte a Low) h ≡ Spelled a (number_heard bytes h)
low_next a bytes h = rw (self a) refl

pub middle_same : (a c : ℕ) (high : Option ℕ) → is_some (leads (HighAsked a high) (RandomByte c Middle) Silence) ≡ true → c ≡ a
middle_same a c high on = go (c == a) refl on where
  go : (t : Bool) → (c == a) ≡ t → is_some (if t then Some (MiddleAsked a (bytes_heard high Silence)) else None) ≡ true → c ≡ a
  go true is on = equal c a is
  go false is on = absurd (cc)

pub low_same : (a c : ℕ) (bytes : Option (ℕ × ℕ)) → is_some (leads (MiddleAsked a bytes) (RandomByte c Low) Silence) ≡ true → c ≡ a
low_same a c bytes on = go (c == a) refl on where
  go : (t : Bool) → (c == a) ≡ t → is_some (if t then Some (Spelled a (number_heard bytes Silence)) else None) ≡ true → c ≡ a
  go true is on = equal c a is
  go false is on = absurd (cc)

tracks_low : (b : Block) (xs : List Assignment) (a : ℕ) (bytes : Option (ℕ × ℕ)) → Tracks b xs (MiddleAsked a bytes) (sends (RandomByte a Low) ∷ [])
unfolding Tracks
tracks_low b xs a bytes = (turn (rw (self a) refl) refl, λ spelled h w. tt)

tracks_middle : (b : Block) (xs : List Assignment) (a : ℕ) (high : Option ℕ)
    → Tracks b xs (HighAsked a high) (sends (RandomByte a Middle) ∷ sends (RandomByte a Low) ∷ [])
unfolding Tracks
tracks_middle b xs a high = (
  turn (rw (self a) refl) refl,
  λ spelled h w. subst (λ s. Tracks b xs s (sends (RandomByte a Low) ∷ [])) (sym (middle_next a high h))
      (tracks_low b xs a (bytes_heard high h)),
)

-- a hunt goes on with what it asks with, as long as frames may follow
abbrev HuntGoesOn : ℕ → (Answer → Option Stage) → Type 0
HuntGoesOn left go =
    (is_some (go Silence) ≡ true) × ((h : Answer) → (r : SearchAddress) × (last : Option Answer) × (unwrap_or (go h) Over ≡ Hunted r last left))

hunt_asks : (r : SearchAddress) (left : ℕ) (c : Command) → is_asking c ≡ true → HuntGoesOn left (λ h. hunted r left c h)
hunt_asks r left (SearchHigh high) asks = (refl, λ h. (_, _, refl))
hunt_asks r left (SearchMiddle middle) asks = (refl, λ h. (_, _, refl))
hunt_asks r left (SearchLow low) asks = (refl, λ h. (_, _, refl))
hunt_asks r left Compare asks = (refl, λ h. (_, _, refl))
hunt_asks r left _ asks = absurd (cc)

pub positive : (left : ℕ) → 0 < left → (left == 0) ≡ false
positive left some = grind (arith, nat_tests)

hunt_leads : (r : SearchAddress) (last : Option Answer) (left : ℕ) (c : Command) → 0 < left → is_asking c ≡ true
    → HuntGoesOn (left - 1) (λ h. leads (Hunted r last left) c h)
hunt_leads r last left c some asks = rw (positive left some) (hunt_asks r (left - 1) c asks)

tracks_hunt : (b : Block) (xs : List Assignment) (r : SearchAddress) (last : Option Answer) (left : ℕ) (cs : List Command) → AreAsking cs → length cs ≤ left
    → Tracks b xs (Hunted r last left) (map sends cs)
unfolding Tracks
tracks_hunt b xs r last left [] ask few = tt
tracks_hunt b xs r last left (c ∷ cs) ask few =
    let on = hunt_leads r last left c (omega arith) ask.0 in (
      turn on.0 refl,
      λ spelled h w. let there = on.1 h in
          subst (λ s. Tracks b xs s (map sends cs)) (sym there.2) (tracks_hunt b xs there.0 there.1 (left - 1) cs ask.1 (omega arith)),
    )

-- once gear were initialised
tracks_woken : (b : Block) (xs : List Assignment) (ss : List Step) → Tracks b xs Initialised ss → Tracks b xs Free (woken ss)
unfolding Tracks
tracks_woken b xs ss rest = (turn refl refl, λ a h w. (turn refl refl, λ a h w. (turn refl refl, λ a h w. rest)))

tracks_call : (b : Block) (xs : List Assignment) (r : SearchAddress) (cs : List Command) → AreAsking cs → length cs ≤ CALLING
    → Tracks b xs Initialised (hunts r cs)
unfolding Tracks
tracks_call b xs r cs ask few = (
  turn refl refl,
  λ a h w. (
    turn refl refl,
    λ a h w. (
      turn refl refl,
      λ a h w. tracks_hunt b xs (record { high = r.high; middle = r.middle; low = r.low })
          None CALLING cs ask few,
    ),
  ),
)

tracks_draw : (b : Block) (xs : List Assignment) (high middle : ℕ)
    → Tracks b xs Initialised (sends (SearchHigh high) ∷ sends (SearchMiddle middle) ∷ record { command = Compare; wanted = nobody } ∷ drawing)
unfolding Tracks
tracks_draw b xs high middle = (
  turn refl refl,
  λ a h w. (
    turn refl refl,
    λ a h w. (
      turn refl refl,
      λ a h silence. subst (λ x. Tracks b xs (doubted x) drawing) (sym silence) (turn refl refl, λ a h w. (turn refl refl, λ a h w. tt)),
    ),
  ),
)

pub tracks : (b : Block) (xs : List Assignment) (s : Script) → MaySend b xs s → Tracks b xs Free (steps s)
unfolding Tracks
tracks b xs Open may = tracks_woken b xs drawing (turn refl refl, λ a h w. (turn refl refl, λ a h w. tt))
tracks b xs (Call r cs) may = tracks_woken b xs (hunts r cs) (tracks_call b xs r cs may.0 may.1)
tracks b xs (Draw high middle) may =
    tracks_woken b xs (sends (SearchHigh high) ∷ sends (SearchMiddle middle) ∷ record { command = Compare; wanted = nobody } ∷ drawing)
    (tracks_draw b xs high middle)
tracks b xs (PassOver r) may =
    (turn refl refl, λ a h w. (turn refl refl, λ a h w. (turn refl refl, λ a h w. (turn refl refl, λ a h w. tt))))
tracks b xs (Probe r) may =
    (turn refl refl, λ a h w. (turn refl refl, λ a h w. (turn refl refl, λ a h w. (turn refl refl, λ a h w. tt))))
tracks b xs (Hunt r cs) may = (
  turn refl refl,
  λ a h w. (
    turn refl refl,
    λ a h w. (
      turn refl refl,
      λ a h w.
          tracks_hunt b xs (record { high = r.high; middle = r.middle; low = r.low }) None ASKING cs may.0 may.1,
    ),
  ),
)
tracks b xs (Look r) may =
    (turn refl refl, λ a h w. (turn refl refl, λ a h w. (turn refl refl, λ a h w. (turn refl refl, λ a h w. tracks_look b xs r h w))))
tracks b xs (Give r n) may =
    (turn refl refl, λ a h w. (turn refl refl, λ a h w. (turn refl refl, λ a h w. (turn refl refl, λ a h w. tracks_give b xs r n may h w))))
tracks b xs (Resolve a) may = (turn refl refl, λ spelled h w. tracks_middle b xs a (byte_heard h))
tracks b xs Close may = (turn refl refl, λ a h w. tt)
tracks b xs (ArcPower f) may = (turn refl refl, λ a h w. tt)

follows_from : (b : Block) (xs : List Assignment) (t : List Entry) (s : Stage) (f : Forward) (ss : List Step) → IsFront t f ss → Tracks b xs s ss
    → Follows b xs (stage_from s t) (command_of f)
unfolding Tracks
follows_from b xs [] s f [] front tr = absurd front
follows_from b xs (e ∷ t) s f [] front tr = absurd front
follows_from b xs [] s f (step ∷ more) front tr = subst (λ c. Follows b xs s c) (sym front) tr.0
follows_from b xs (e ∷ t) s f (step ∷ more) front tr =
    let spelled : IsSpelled step.command = subst IsSpelled front.0 (read_spelled e.frame) in
    let rest : Tracks b xs (next_stage s step.command e.heard) more = tr.1 spelled e.heard front.1 in
    follows_from b xs t (next_stage s (command_of e.frame) e.heard) f more front.2 (subst (λ c. Tracks b xs (next_stage s c e.heard) more) (sym front.0) rest)

-- a frame that may follow a trace follows at its stage
pub follows_lawful : (b : Block) (xs : List Assignment) (t : List Entry) (f : Forward) → Lawful b xs t f → Follows b xs (stage_of t) (command_of f)
unfolding stage_of
follows_lawful b xs t f lawful = follows_from b xs t Free f (steps lawful.0) lawful.2 (tracks b xs lawful.0 lawful.1)

-- FRAMES THAT FOLLOW ARE LAWFUL. What may be left of a script once its search address was sent, and at each stage.
data Tail (b : Block) (xs : List Assignment) (r : SearchAddress) : List Step → Type 0 where
  probing : Tail b xs r (sends Compare ∷ [])
  passing : Tail b xs r (sends Withdraw ∷ [])
  looking : Tail b xs r (queries some_address ∷ sends Withdraw ∷ [])
  giving : (a : ℕ) → MayGive b xs r a → Tail b xs r (queries no_address ∷ sends (Program (Some a)) ∷ queries (address a) ∷ sends Withdraw ∷ [])

-- and once gear were initialised
data Woken (b : Block) (xs : List Assignment) : List Step → Type 0 where
  opening : Woken b xs drawing
  calling : (r : SearchAddress) (cs : List Command) → AreAsking cs → length cs ≤ CALLING → Woken b xs (hunts r cs)
  doubting : (high middle : ℕ) → Woken b xs (sends (SearchHigh high) ∷ sends (SearchMiddle middle) ∷ record { command = Compare; wanted = nobody } ∷ drawing)

data Rest (b : Block) (xs : List Assignment) : Stage → List Step → Type 0 where
  at_free : (s : Script) → MaySend b xs s → Rest b xs Free (steps s)
  at_terminated : (ss : List Step) → Woken b xs ss → Rest b xs Terminated (sends (Initialise Unaddressed) ∷ sends (Initialise Unaddressed) ∷ ss)
  at_initialised_once : (ss : List Step) → Woken b xs ss → Rest b xs InitialisedOnce (sends (Initialise Unaddressed) ∷ ss)
  at_initialised : (ss : List Step) → Woken b xs ss → Rest b xs Initialised ss
  at_woken_high_low : (r : SearchAddress) (cs : List Command) → AreAsking cs → length cs ≤ CALLING
      → Rest b xs (WokenHigh r.high) (sends (SearchLow r.low) ∷ sends (SearchMiddle r.middle) ∷ map sends cs)
  at_woken_low : (r : SearchAddress) (cs : List Command) → AreAsking cs → length cs ≤ CALLING
      → Rest b xs (WokenLow r.high r.low) (sends (SearchMiddle r.middle) ∷ map sends cs)
  at_woken_high : (high middle : ℕ) → Rest b xs (WokenHigh high) (sends (SearchMiddle middle) ∷ record { command = Compare; wanted = nobody } ∷ drawing)
  at_woken_middle : (high middle : ℕ) → Rest b xs (WokenMiddle high middle) (record { command = Compare; wanted = nobody } ∷ drawing)
  at_draw_free : Rest b xs DrawFree drawing
  at_randomised_once : Rest b xs RandomisedOnce (sends Randomise ∷ [])
  at_high : (high middle low : ℕ) (ss : List Step) → Tail b xs (record { high = high; middle = middle; low = low }) ss
      → Rest b xs (HighSent high) (sends (SearchMiddle middle) ∷ sends (SearchLow low) ∷ ss)
  at_middle : (high middle low : ℕ) (ss : List Step) → Tail b xs (record { high = high; middle = middle; low = low }) ss
      → Rest b xs (MiddleSent high middle) (sends (SearchLow low) ∷ ss)
  at_number : (r : SearchAddress) (ss : List Step) → Tail b xs r ss → Rest b xs (NumberSent r) ss
  at_high_low : (r : SearchAddress) (cs : List Command) → AreAsking cs → length cs ≤ ASKING
      → Rest b xs (HighSent r.high) (sends (SearchLow r.low) ∷ sends (SearchMiddle r.middle) ∷ map sends cs)
  at_low : (r : SearchAddress) (cs : List Command) → AreAsking cs → length cs ≤ ASKING
      → Rest b xs (LowSent r.high r.low) (sends (SearchMiddle r.middle) ∷ map sends cs)
  at_hunted : (r : SearchAddress) (last : Option Answer) (left : ℕ) (cs : List Command) → AreAsking cs → length cs ≤ left
      → Rest b xs (Hunted r last left) (map sends cs)
  at_found : (r : SearchAddress) (c : ℕ) → Rest b xs (Found r c) (sends Withdraw ∷ [])
  at_unnamed : (r : SearchAddress) (a : ℕ) → MayGive b xs r a → Rest b xs (Unnamed r) (sends (Program (Some a)) ∷ queries (address a) ∷ sends Withdraw ∷ [])
  at_programmed : (r : SearchAddress) (a : ℕ) → MayGive b xs r a → Rest b xs (Programmed r a) (queries (address a) ∷ sends Withdraw ∷ [])
  at_confirmed : (r : SearchAddress) (a : ℕ) → MayGive b xs r a → Rest b xs (Confirmed r a) (sends Withdraw ∷ [])
  at_high_asked : (a : ℕ) (high : Option ℕ) → Rest b xs (HighAsked a high) (sends (RandomByte a Middle) ∷ sends (RandomByte a Low) ∷ [])
  at_middle_asked : (a : ℕ) (bytes : Option (ℕ × ℕ)) → Rest b xs (MiddleAsked a bytes) (sends (RandomByte a Low) ∷ [])

-- a step of a script that is left at a stage, before the rest
abbrev Before : Block → List Assignment → Stage → Command → Answer → List Step → Type 0
Before b xs s c h ss = (step : Step) × (c ≡ step.command) × IsHeard step.wanted h × Rest b xs s (step ∷ ss)

nothing_unanswered : (b : Block) (xs : List Assignment) (r : SearchAddress) (ss : List Step) → Rest b xs (Unanswered r) ss → ⊥
nothing_unanswered b xs r ss k = elim k [ ]

nothing_inconclusive : (b : Block) (xs : List Assignment) (r : SearchAddress) (o : Option ℕ) (ss : List Step) → Rest b xs (Inconclusive r o) ss → ⊥
nothing_inconclusive b xs r o ss k = elim k [ ]

nothing_spelled : (b : Block) (xs : List Assignment) (a : ℕ) (number : Option ℕ) (ss : List Step) → Rest b xs (Spelled a number) ss → ⊥
nothing_spelled b xs a number ss k = elim k [ ]

nothing_over : (b : Block) (xs : List Assignment) (ss : List Step) → Rest b xs Over ss → ⊥
nothing_over b xs ss k = elim k [ ]

whole : (b : Block) (xs : List Assignment) (r : SearchAddress) (ss : List Step) → Tail b xs r ss → Rest b xs Free (search_at r ss)
whole b xs r _ probing = at_free (Probe r) tt
whole b xs r _ passing = at_free (PassOver r) tt
whole b xs r _ looking = at_free (Look r) tt
whole b xs r _ (giving a may) = at_free (Give r a) may

whole_woken : (b : Block) (xs : List Assignment) (ss : List Step) → Woken b xs ss → Rest b xs Free (woken ss)
whole_woken b xs _ opening = at_free Open tt
whole_woken b xs _ (calling r cs ask few) = at_free (Call r cs) (ask, few)
whole_woken b xs _ (doubting high middle) = at_free (Draw high middle) tt

-- who draws was initialised just before, or was asked for once more
before_draw : (b : Block) (xs : List Assignment) (high middle : ℕ) (h : Answer) (ss : List Step) → Rest b xs (doubted h) ss
    → Before b xs (WokenMiddle high middle) Compare h ss
before_draw b xs high middle Silence _ at_draw_free = (_, refl, refl, at_woken_middle high middle)
before_draw b xs high middle (Byte v) ss k = elim k [ ]
before_draw b xs high middle Damaged ss k = elim k [ ]

before_number : (b : Block) (xs : List Assignment) (high middle low : ℕ) (r : SearchAddress) (h : Answer) (ss : List Step)
    → r ≡ record { high = high; middle = middle; low = low }
    → Rest b xs (NumberSent r) ss → Before b xs (MiddleSent high middle) (SearchLow low) h ss
before_number b xs high middle low _ h _ is (at_number r ss tail) =
    (sends (SearchLow low), refl, tt, at_middle high middle low ss (subst (λ n. Tail b xs n ss) is tail))

before_found : (b : Block) (xs : List Assignment) (r : SearchAddress) (c : ℕ) (h : Answer) (ss : List Step) → IsHeard some_address h → Rest b xs (Found r c) ss
    → Before b xs (NumberSent r) QueryShort h ss
before_found b xs _ _ h _ heard (at_found r c) = (queries some_address, refl, heard, at_number r _ looking)

before_unnamed : (b : Block) (xs : List Assignment) (r : SearchAddress) (h : Answer) (ss : List Step) → IsHeard no_address h → Rest b xs (Unnamed r) ss
    → Before b xs (NumberSent r) QueryShort h ss
before_unnamed b xs _ h _ heard (at_unnamed r a may) = (queries no_address, refl, heard, at_number r _ (giving a may))

before_queried : (b : Block) (xs : List Assignment) (r : SearchAddress) (h : Answer) (ss : List Step) → Rest b xs (queried r h) ss
    → Before b xs (NumberSent r) QueryShort h ss
before_queried b xs r Silence ss k = absurd (nothing_unanswered b xs r ss k)
before_queried b xs r Damaged ss k = absurd (nothing_inconclusive b xs r None ss k)
before_queried b xs r (Byte v) ss k = go (short_of v) (v == MASK) refl refl k where
  go : (o : Option ℕ) (m : Bool) → short_of v ≡ o → (v == MASK) ≡ m → Rest b xs (named r o m) ss → Before b xs (NumberSent r) QueryShort (Byte v) ss
  go (Some c) m short mask k = before_found b xs r c (Byte v) ss (c, short_small v c short, ap (λ n. Byte n) (sym (code_of_short v c short))) k
  go None true short mask k = before_unnamed b xs r (Byte v) ss (ap (λ n. Byte n) (let same : v ≡ MASK = grind (arith, nat_tests) in same)) k
  go None false short mask k = absurd (nothing_inconclusive b xs r None ss k)

before_confirmed : (b : Block) (xs : List Assignment) (r : SearchAddress) (a : ℕ) (h : Answer) (ss : List Step) → IsHeard (address a) h
    → Rest b xs (Confirmed r a) ss → Before b xs (Programmed r a) QueryShort h ss
before_confirmed b xs _ _ h _ heard (at_confirmed r a may) = (queries (address a), refl, heard, at_programmed r a may)

before_verified : (b : Block) (xs : List Assignment) (r : SearchAddress) (a : ℕ) (h : Answer) (ss : List Step) → Rest b xs (verified r a h) ss
    → Before b xs (Programmed r a) QueryShort h ss
before_verified b xs r a Silence ss k = absurd (nothing_inconclusive b xs r None ss k)
before_verified b xs r a Damaged ss k = absurd (nothing_inconclusive b xs r None ss k)
before_verified b xs r a (Byte v) ss k = go (short_of v) refl k where
  go : (o : Option ℕ) → short_of v ≡ o → Rest b xs (answered r a o) ss → Before b xs (Programmed r a) QueryShort (Byte v) ss
  go None short k = absurd (nothing_inconclusive b xs r None ss k)
  go (Some c) short k = same (c == a) refl k where
    same : (m : Bool) → (c == a) ≡ m → Rest b xs (if m then Confirmed r a else Inconclusive r (Some c)) ss → Before b xs (Programmed r a) QueryShort (Byte v) ss
    same true is k = before_confirmed b xs r a (Byte v) ss
        (ap (λ n. Byte n) (sym (code_of_short v c short) ∙ ap (λ n. code_of n) (let e : c ≡ a = grind (arith, nat_tests) in e))) k
    same false is k = absurd (nothing_inconclusive b xs r (Some c) ss k)

before_high_asked : (b : Block) (xs : List Assignment) (a : ℕ) (high : Option ℕ) (h : Answer) (ss : List Step) → Rest b xs (HighAsked a high) ss
    → Before b xs Free (RandomByte a High) h ss
before_high_asked b xs _ _ h _ (at_high_asked a high) = (_, refl, tt, at_free (Resolve a) tt)

before_middle_asked : (b : Block) (xs : List Assignment) (a : ℕ) (high : Option ℕ) (bytes : Option (ℕ × ℕ)) (h : Answer) (ss : List Step)
    → Rest b xs (MiddleAsked a bytes) ss
    → Before b xs (HighAsked a high) (RandomByte a Middle) h ss
before_middle_asked b xs _ high _ h _ (at_middle_asked a bytes) = (_, refl, tt, at_high_asked a high)

before_middle : (b : Block) (xs : List Assignment) (a c : ℕ) (high : Option ℕ) (h : Answer) (ss : List Step)
    → Rest b xs (next_stage (HighAsked a high) (RandomByte c Middle) h) ss
    → Before b xs (HighAsked a high) (RandomByte c Middle) h ss
before_middle b xs a c high h ss k = go (c == a) refl k where
  go : (t : Bool) → (c == a) ≡ t → Rest b xs (unwrap_or (if t then Some (MiddleAsked a (bytes_heard high h)) else None) Over) ss
      → Before b xs (HighAsked a high) (RandomByte c Middle) h ss
  go true is k = subst (λ n. Before b xs (HighAsked a high) (RandomByte n Middle) h ss) (sym (equal c a is))
      (before_middle_asked b xs a high (bytes_heard high h) h ss k)
  go false is k = absurd (nothing_over b xs ss k)

before_low : (b : Block) (xs : List Assignment) (a c : ℕ) (bytes : Option (ℕ × ℕ)) (h : Answer) (ss : List Step)
    → Rest b xs (next_stage (MiddleAsked a bytes) (RandomByte c Low) h) ss
    → Before b xs (MiddleAsked a bytes) (RandomByte c Low) h ss
before_low b xs a c bytes h ss k = go (c == a) k where
  go : (t : Bool) → Rest b xs (unwrap_or (if t then Some (Spelled a (number_heard bytes h)) else None) Over) ss
      → Before b xs (MiddleAsked a bytes) (RandomByte c Low) h ss
  go true k = absurd (nothing_spelled b xs a (number_heard bytes h) ss k)
  go false k = absurd (nothing_over b xs ss k)

before_calling : (b : Block) (xs : List Assignment) (high middle low left : ℕ) (r : SearchAddress) (last : Option Answer) (h : Answer) (ss : List Step)
    → r ≡ record { high = high; middle = middle; low = low } → left ≡ CALLING → Rest b xs (Hunted r last left) ss
    → Before b xs (WokenLow high low) (SearchMiddle middle) h ss
before_calling b xs high middle low _ _ _ h _ is room (at_hunted r last left cs ask few) =
    let n : SearchAddress = record { high = high; middle = middle; low = low } in
    (sends (SearchMiddle middle), refl, tt, at_woken_low n cs ask (subst (λ m. length cs ≤ m) room few))

before_hunting : (b : Block) (xs : List Assignment) (high middle low left : ℕ) (r : SearchAddress) (last : Option Answer) (h : Answer) (ss : List Step)
    → r ≡ record { high = high; middle = middle; low = low } → left ≡ ASKING → Rest b xs (Hunted r last left) ss
    → Before b xs (LowSent high low) (SearchMiddle middle) h ss
before_hunting b xs high middle low _ _ _ h _ is room (at_hunted r last left cs ask few) =
    let n : SearchAddress = record { high = high; middle = middle; low = low } in
    (sends (SearchMiddle middle), refl, tt, at_low n cs ask (subst (λ m. length cs ≤ m) room few))

-- one more frame of a hunt, before what is left of it
before_asking : (b : Block) (xs : List Assignment) (r n : SearchAddress) (last next : Option Answer) (left : ℕ) (c : Command) (h : Answer) (ss : List Step)
    → is_asking c ≡ true → 0 < left → Rest b xs (Hunted n next (left - 1)) ss → Before b xs (Hunted r last left) c h ss
before_asking b xs r n last next left c h ss asks some k = go (left - 1) ss k refl where
  go : (less : ℕ) (ss : List Step) → Rest b xs (Hunted n next less) ss → less ≡ left - 1 → Before b xs (Hunted r last left) c h ss
  go _ _ (at_hunted _ _ less cs ask few) is = (sends c, refl, tt, at_hunted r last left (c ∷ cs) (asks, ask) (omega (arith, is)))

before_hunted : (b : Block) (xs : List Assignment) (r : SearchAddress) (last : Option Answer) (left : ℕ) (c : Command) (h : Answer) (ss : List Step)
    → Rest b xs (next_stage (Hunted r last left) c h) ss → Before b xs (Hunted r last left) c h ss
before_hunted b xs r last left c h ss k = go (left == 0) refl k where
  asked : (c : Command) → 0 < left → Rest b xs (unwrap_or (hunted r (left - 1) c h) Over) ss → Before b xs (Hunted r last left) c h ss
  asked (SearchHigh high) some k = before_asking b xs r _ last _ left (SearchHigh high) h ss refl some k
  asked (SearchMiddle middle) some k = before_asking b xs r _ last _ left (SearchMiddle middle) h ss refl some k
  asked (SearchLow low) some k = before_asking b xs r _ last _ left (SearchLow low) h ss refl some k
  asked Compare some k = before_asking b xs r _ last _ left Compare h ss refl some k
  asked _ some k = absurd (nothing_over b xs ss k)

  go : (t : Bool) → (left == 0) ≡ t → Rest b xs (unwrap_or (if t then None else hunted r (left - 1) c h) Over) ss → Before b xs (Hunted r last left) c h ss
  go true none k = absurd (nothing_over b xs ss k)
  go false some k = asked c (let there : 0 < left = grind (arith, nat_tests) in there) k

before : (b : Block) (xs : List Assignment) (s : Stage) (c : Command) (h : Answer) (ss : List Step) → Rest b xs (next_stage s c h) ss → Before b xs s c h ss
before b xs Free Terminate h _ (at_terminated ss w) = (_, refl, tt, whole_woken b xs ss w)
before b xs Free (SearchHigh _) h _ (at_high high middle low ss tail) = (_, refl, tt, whole b xs (record { high = high; middle = middle; low = low }) ss tail)
before b xs Free (SearchHigh _) h _ (at_high_low r cs ask few) = (_, refl, tt, at_free (Hunt r cs) (ask, few))
before b xs Free (RandomByte a High) h ss k = before_high_asked b xs a (byte_heard h) h ss k
before b xs Terminated (Initialise Unaddressed) h _ (at_initialised_once ss w) = (_, refl, tt, at_terminated ss w)
before b xs InitialisedOnce (Initialise Unaddressed) h _ (at_initialised ss w) = (_, refl, tt, at_initialised_once ss w)
before b xs Initialised Randomise h _ at_randomised_once = (_, refl, tt, at_initialised _ opening)
before b xs Initialised (SearchHigh _) h _ (at_woken_high_low r cs ask few) = (_, refl, tt, at_initialised _ (calling r cs ask few))
before b xs Initialised (SearchHigh _) h _ (at_woken_high high middle) = (_, refl, tt, at_initialised _ (doubting high middle))
before b xs (WokenHigh _) (SearchLow _) h _ (at_woken_low r cs ask few) = (_, refl, tt, at_woken_high_low r cs ask few)
before b xs (WokenHigh _) (SearchMiddle _) h _ (at_woken_middle high middle) = (_, refl, tt, at_woken_high high middle)
before b xs (WokenLow high low) (SearchMiddle middle) h ss k =
    before_calling b xs high middle low CALLING (record { high = high; middle = middle; low = low }) None h ss refl refl k
before b xs (WokenMiddle high middle) Compare h ss k = before_draw b xs high middle h ss k
before b xs DrawFree Randomise h _ at_randomised_once = (_, refl, tt, at_draw_free)
before b xs RandomisedOnce Randomise h ss k = elim k [ ]
before b xs (HighSent _) (SearchMiddle _) h _ (at_middle high middle low ss tail) = (_, refl, tt, at_high high middle low ss tail)
before b xs (HighSent _) (SearchLow _) h _ (at_low r cs ask few) = (_, refl, tt, at_high_low r cs ask few)
before b xs (LowSent high low) (SearchMiddle middle) h ss k =
    before_hunting b xs high middle low ASKING (record { high = high; middle = middle; low = low }) None h ss refl refl k
before b xs (Hunted r last left) c h ss k = before_hunted b xs r last left c h ss k
before b xs (MiddleSent high middle) (SearchLow low) h ss k =
    before_number b xs high middle low (record { high = high; middle = middle; low = low }) h ss refl k
before b xs (NumberSent r) Compare h ss k = elim k [ ]
before b xs (NumberSent r) QueryShort h ss k = before_queried b xs r h ss k
before b xs (NumberSent r) Withdraw h ss k = elim k [ ]
before b xs (Found r c) Withdraw h ss k = elim k [ ]
before b xs (Unnamed _) (Program (Some _)) h _ (at_programmed r a may) = (_, refl, tt, at_unnamed r a may)
before b xs (Programmed r a) QueryShort h ss k = before_verified b xs r a h ss k
before b xs (Confirmed r a) Withdraw h ss k = elim k [ ]
before b xs (HighAsked a high) (RandomByte c Middle) h ss k = before_middle b xs a c high h ss k
before b xs (MiddleAsked a bytes) (RandomByte c Low) h ss k = before_low b xs a c bytes h ss k
before b xs _ _ h ss k = elim k [ ]

-- what leads on in a hunt asks, and there is room for it
pub asks_hunting : (r : SearchAddress) (last : Option Answer) (left : ℕ) (c : Command) → is_some (leads (Hunted r last left) c Silence) ≡ true
    → (0 < left) × (is_asking c ≡ true)
asks_hunting r last left c on = go (left == 0) refl on where
  asked : (c : Command) → is_some (hunted r (left - 1) c Silence) ≡ true → is_asking c ≡ true
  asked (SearchHigh high) on = refl
  asked (SearchMiddle middle) on = refl
  asked (SearchLow low) on = refl
  asked Compare on = refl
  asked _ on = absurd (cc)

  go : (t : Bool) → (left == 0) ≡ t → is_some (if t then None else hunted r (left - 1) c Silence) ≡ true → (0 < left) × (is_asking c ≡ true)
  go true none on = absurd (cc)
  go false some on = (let there : 0 < left = grind (arith, nat_tests) in there, asked c on)

abbrev Ends : Block → List Assignment → Stage → Command → Type 0
Ends b xs s c = (step : Step) × (more : List Step) × (c ≡ step.command) × Rest b xs s (step ∷ more)

ends : (b : Block) (xs : List Assignment) (s : Stage) (c : Command) → Follows b xs s c → Ends b xs s c
ends b xs Free Terminate on = (_, _, refl, at_free Close tt)
ends b xs Free (SearchHigh high) on = (_, _, refl, at_free (Probe (record { high = high; middle = 0; low = 0 })) tt)
ends b xs Free (Arc f) on = (_, _, refl, at_free (ArcPower f) tt)
ends b xs Terminated (Initialise Unaddressed) on = (_, _, refl, at_terminated _ opening)
ends b xs InitialisedOnce (Initialise Unaddressed) on = (_, _, refl, at_initialised_once _ opening)
ends b xs Initialised Randomise on = (_, _, refl, at_initialised _ opening)
ends b xs Initialised (SearchHigh high) on = (_, _, refl, at_initialised _ (doubting high 0))
ends b xs (WokenHigh high) (SearchLow low) on =
    (_, _, refl, at_woken_high_low (record { high = high; middle = 0; low = low }) [] tt (lit≤ tt))
ends b xs (WokenHigh high) (SearchMiddle middle) on = (_, _, refl, at_woken_high high middle)
ends b xs (WokenLow high low) (SearchMiddle middle) on =
    (_, _, refl, at_woken_low (record { high = high; middle = middle; low = low }) [] tt (lit≤ tt))
ends b xs (WokenMiddle high middle) Compare on = (_, _, refl, at_woken_middle high middle)
ends b xs DrawFree Randomise on = (_, _, refl, at_draw_free)
ends b xs RandomisedOnce Randomise on = (_, _, refl, at_randomised_once)
ends b xs (HighSent high) (SearchMiddle middle) on = (_, _, refl, at_high high middle 0 _ probing)
ends b xs (HighSent high) (SearchLow low) on =
    (_, _, refl, at_high_low (record { high = high; middle = 0; low = low }) [] tt (lit≤ tt))
ends b xs (LowSent high low) (SearchMiddle middle) on =
    (_, _, refl, at_low (record { high = high; middle = middle; low = low }) [] tt (lit≤ tt))
ends b xs (Hunted r last left) c on =
    let asks = asks_hunting r last left c on.leads_on in
    (_, _, refl, at_hunted r last left (c ∷ []) (asks.1, tt) (let some = asks.0 in omega arith))
ends b xs (MiddleSent high middle) (SearchLow low) on = (_, _, refl, at_middle high middle low _ probing)
ends b xs (NumberSent r) Compare on = (_, _, refl, at_number r _ probing)
ends b xs (NumberSent r) QueryShort on = (_, _, refl, at_number r _ looking)
ends b xs (NumberSent r) Withdraw on = (_, _, refl, at_number r _ passing)
ends b xs (Found r c) Withdraw on = (_, _, refl, at_found r c)
ends b xs (Unnamed r) (Program (Some a)) on = (_, _, refl, at_unnamed r a on.may)
ends b xs (Programmed r a) QueryShort on = (_, _, refl, at_programmed r a on.may)
ends b xs Free (RandomByte a High) on = (_, _, refl, at_free (Resolve a) tt)
ends b xs (HighAsked a high) (RandomByte c Middle) on = (_, _, ap (λ n. RandomByte n Middle) (middle_same a c high on.leads_on), at_high_asked a high)
ends b xs (MiddleAsked a bytes) (RandomByte c Low) on = (_, _, ap (λ n. RandomByte n Low) (low_same a c bytes on.leads_on), at_middle_asked a bytes)
ends b xs (Confirmed r a) Withdraw on = (_, _, refl, at_confirmed r a on.may)
ends b xs _ _ on = absurd (let none = on.leads_on in cc)

front_from : (b : Block) (xs : List Assignment) (t : List Entry) (s : Stage) (f : Forward) → Follows b xs (stage_from s t) (command_of f)
    → (ss : List Step) × Rest b xs s ss × IsFront t f ss
front_from b xs [] s f k = let e = ends b xs s (command_of f) k in (e.0 ∷ e.1, e.3, e.2)
front_from b xs (e ∷ t) s f k =
    let later = front_from b xs t (next_stage s (command_of e.frame) e.heard) f k in
    let now = before b xs s (command_of e.frame) e.heard later.0 later.1 in
    (now.0 ∷ later.0, now.3, (now.1, now.2, later.2))

script_of : (b : Block) (xs : List Assignment) (t : List Entry) (f : Forward) (ss : List Step) → Rest b xs Free ss → IsFront t f ss → Lawful b xs t f
script_of b xs t f _ (at_free s may) front = (s, may, front)

-- a frame that follows at a trace's stage may follow the trace
pub lawful_follows : (b : Block) (xs : List Assignment) (t : List Entry) (f : Forward) → Follows b xs (stage_of t) (command_of f) → Lawful b xs t f
unfolding stage_of
lawful_follows b xs t f k = let whole = front_from b xs t Free f k in script_of b xs t f whole.0 whole.1 whole.2

-- THE TESTS
may_give_if_by : (b : Block) (xs : List Assignment) (o : Option (SearchAddress × ℕ)) → IfSome o (λ g. MayGive b xs g.0 g.1) → may_give_if b xs o ≡ true
may_give_if_by b xs None may = refl
may_give_if_by b xs (Some g) may = may_give_by b xs g.0 g.1 may

may_give_if_from : (b : Block) (xs : List Assignment) (o : Option (SearchAddress × ℕ)) → may_give_if b xs o ≡ true → IfSome o (λ g. MayGive b xs g.0 g.1)
may_give_if_from b xs None e = tt
may_give_if_from b xs (Some g) e = may_give_from b xs g.0 g.1 e

pub follows_test : (b : Block) (xs : List Assignment) (s : Stage) (c : Command) → Follows b xs s c → follows b xs s c ≡ true
follows_test b xs s c on = rw (on.leads_on, may_give_if_by b xs (given s c) on.may) refl

pub follows_from_test : (b : Block) (xs : List Assignment) (s : Stage) (c : Command) → follows b xs s c ≡ true → Follows b xs s c
follows_from_test b xs s c e = record {
  leads_on = first_of_both _ _ e;
  may = may_give_if_from b xs (given s c) (second_of_both _ _ e);
}

-- if no frame may follow, none is lawful
pub over : (b : Block) (xs : List Assignment) (s : Stage) (c : Command) → may_follow b xs s ≡ false → Follows b xs s c → ⊥
over b xs (Hunted r last left) c e on =
    let asks = asks_hunting r last left c on.leads_on in
    let some : (left == 0) ≡ false = positive left asks.0 in
    let none : not (left == 0) ≡ false = e in cc
over b xs (Unnamed r) (Program (Some a)) e on = let some = may_give_some_by b xs r a on.may in cc
over b xs (Programmed r a) c e on = let given = may_give_by b xs r a on.may in cc
over b xs (Confirmed r a) c e on = let given = may_give_by b xs r a on.may in cc
over b xs _ _ e on = let none = on.leads_on in cc

pub complete_at : (b : Block) (xs : List Assignment) (t : List Entry) → may_follow b xs (stage_of t) ≡ false → IsComplete b xs t
complete_at b xs t e f lawful = over b xs (stage_of t) (command_of f) e (follows_lawful b xs t f lawful)

-- the short address of a query that was sent is one
abbrev Small : Stage → Type 0
Small (HighAsked a high) = a < 64
Small (MiddleAsked a bytes) = a < 64
Small _ = Unit {0}

small_doubted : (h : Answer) → Small (doubted h)
small_doubted Silence = tt
small_doubted (Byte v) = tt
small_doubted Damaged = tt

small_queried : (r : SearchAddress) (h : Answer) → Small (queried r h)
small_queried r Silence = tt
small_queried r Damaged = tt
small_queried r (Byte v) = go (short_of v) (v == MASK) where
  go : (o : Option ℕ) (m : Bool) → Small (named r o m)
  go (Some c) m = tt
  go None true = tt
  go None false = tt

small_verified : (r : SearchAddress) (a : ℕ) (h : Answer) → Small (verified r a h)
small_verified r a Silence = tt
small_verified r a Damaged = tt
small_verified r a (Byte v) = go (short_of v) where
  go : (o : Option ℕ) → Small (answered r a o)
  go None = tt
  go (Some c) = same (c == a) where
    same : (m : Bool) → Small (if m then Confirmed r a else Inconclusive r (Some c))
    same true = tt
    same false = tt

small_middle : (a c : ℕ) (high : Option ℕ) (h : Answer) → a < 64 → Small (next_stage (HighAsked a high) (RandomByte c Middle) h)
small_middle a c high h small = go (c == a) where
  go : (t : Bool) → Small (unwrap_or (if t then Some (MiddleAsked a (bytes_heard high h)) else None) Over)
  go true = small
  go false = tt

small_low : (a c : ℕ) (bytes : Option (ℕ × ℕ)) (h : Answer) → Small (next_stage (MiddleAsked a bytes) (RandomByte c Low) h)
small_low a c bytes h = go (c == a) where
  go : (t : Bool) → Small (unwrap_or (if t then Some (Spelled a (number_heard bytes h)) else None) Over)
  go true = tt
  go false = tt

small_hunted : (r : SearchAddress) (last : Option Answer) (left : ℕ) (c : Command) (h : Answer) → Small (next_stage (Hunted r last left) c h)
small_hunted r last left c h = go (left == 0) where
  asked : (c : Command) → Small (unwrap_or (hunted r (left - 1) c h) Over)
  asked (SearchHigh high) = tt
  asked (SearchMiddle middle) = tt
  asked (SearchLow low) = tt
  asked Compare = tt
  asked _ = tt

  go : (t : Bool) → Small (unwrap_or (if t then None else hunted r (left - 1) c h) Over)
  go true = tt
  go false = asked c

small_next : (s : Stage) (c : Command) (h : Answer) → IsSpelled c → Small s → Small (next_stage s c h)
small_next Free (RandomByte a High) h spelled small = spelled
small_next Terminated (Initialise Unaddressed) h spelled small = tt
small_next InitialisedOnce (Initialise Unaddressed) h spelled small = tt
small_next Initialised Randomise h spelled small = tt
small_next Initialised (SearchHigh high) h spelled small = tt
small_next (WokenHigh high) (SearchLow low) h spelled small = tt
small_next (WokenHigh high) (SearchMiddle middle) h spelled small = tt
small_next (WokenLow high low) (SearchMiddle middle) h spelled small = tt
small_next (WokenMiddle high middle) Compare h spelled small = small_doubted h
small_next DrawFree Randomise h spelled small = tt
small_next RandomisedOnce Randomise h spelled small = tt
small_next (HighSent high) (SearchMiddle middle) h spelled small = tt
small_next (MiddleSent high middle) (SearchLow low) h spelled small = tt
small_next (HighSent high) (SearchLow low) h spelled small = tt
small_next (LowSent high low) (SearchMiddle middle) h spelled small = tt
small_next (Hunted r last left) c h spelled small = small_hunted r last left c h
small_next (Found r c) Withdraw h spelled small = tt
small_next (Unnamed r) (Program (Some a)) h spelled small = tt
small_next (Confirmed r a) Withdraw h spelled small = tt
small_next (NumberSent r) QueryShort h spelled small = small_queried r h
small_next (Programmed r a) QueryShort h spelled small = small_verified r a h
small_next (HighAsked a high) (RandomByte c Middle) h spelled small = small_middle a c high h small
small_next (MiddleAsked a bytes) (RandomByte c Low) h spelled small = small_low a c bytes h
small_next _ _ h spelled small = tt

small_from : (s : Stage) (t : List Entry) → Small s → Small (stage_from s t)
small_from s [] small = small
small_from s (e ∷ t) small = small_from (next_stage s (command_of e.frame) e.heard) t (small_next s (command_of e.frame) e.heard (read_spelled e.frame) small)

small_stage : (t : List Entry) → Small (stage_of t)
unfolding stage_of
small_stage t = small_from Free t tt

-- if one may follow, there is such a frame
abbrev Next : Block → List Assignment → Stage → Type 0
Next b xs s = (c : Command) × IsSpelled c × IsFrame (frame_of c) × Follows b xs s c

next_program : (b : Block) (xs : List Assignment) (r : SearchAddress) (a : ℕ) → a < 64 → MayGive b xs r a → Next b xs (Unnamed r)
next_program b xs r a small may = (Program (Some a), small, (lit< tt, omega arith), gives refl may)

next_query : (b : Block) (xs : List Assignment) (s : Stage) (a : ℕ) → a < 64 → is_some (leads s (RandomByte a Middle) Silence) ≡ true
    → given s (RandomByte a Middle) ≡ None → Next b xs s
next_query b xs s a small on none = (RandomByte a Middle, small, (omega arith, lit< tt), turn on none)

next_last : (b : Block) (xs : List Assignment) (s : Stage) (a : ℕ) → a < 64 → is_some (leads s (RandomByte a Low) Silence) ≡ true
    → given s (RandomByte a Low) ≡ None → Next b xs s
next_last b xs s a small on none = (RandomByte a Low, small, (omega arith, lit< tt), turn on none)

may_ask : (left : ℕ) → not (left == 0) ≡ true → 0 < left
may_ask left e = go (left == 0) refl e where
  go : (t : Bool) → (left == 0) ≡ t → not t ≡ true → 0 < left
  go true none e = absurd (cc)
  go false some e = grind (arith, nat_tests)

pub next_at : (b : Block) (xs : List Assignment) → ((a : ℕ) → HasAddress xs a → a < 64) → (s : Stage) → Small s → may_follow b xs s ≡ true → Next b xs s
next_at b xs small Free here e = (Terminate, tt, (lit< tt, lit< tt), turn refl refl)
next_at b xs small Terminated here e = (Initialise Unaddressed, tt, (lit< tt, lit< tt), turn refl refl)
next_at b xs small InitialisedOnce here e = (Initialise Unaddressed, tt, (lit< tt, lit< tt), turn refl refl)
next_at b xs small Initialised here e = (Randomise, tt, (lit< tt, lit< tt), turn refl refl)
next_at b xs small (WokenHigh high) here e = (SearchLow 0, tt, (lit< tt, lit< tt), turn refl refl)
next_at b xs small (WokenLow high low) here e = (SearchMiddle 0, tt, (lit< tt, lit< tt), turn refl refl)
next_at b xs small (WokenMiddle high middle) here e = (Compare, tt, (lit< tt, lit< tt), turn refl refl)
next_at b xs small DrawFree here e = (Randomise, tt, (lit< tt, lit< tt), turn refl refl)
next_at b xs small RandomisedOnce here e = (Randomise, tt, (lit< tt, lit< tt), turn refl refl)
next_at b xs small Opened here e = absurd (cc)
next_at b xs small (HighSent high) here e = (SearchMiddle 0, tt, (lit< tt, lit< tt), turn refl refl)
next_at b xs small (MiddleSent high middle) here e = (SearchLow 0, tt, (lit< tt, lit< tt), turn refl refl)
next_at b xs small (LowSent high low) here e = (SearchMiddle 0, tt, (lit< tt, lit< tt), turn refl refl)
next_at b xs small (Hunted r last left) here e =
    let on = hunt_leads r last left Compare (may_ask left e) refl in
    (Compare, tt, (lit< tt, lit< tt), turn on.0 refl)
next_at b xs small (NumberSent r) here e = (Compare, tt, (lit< tt, lit< tt), turn refl refl)
next_at b xs small (Probed r h) here e = absurd (cc)
next_at b xs small (Found r c) here e = (Withdraw, tt, (lit< tt, lit< tt), turn refl refl)
next_at b xs small (Unnamed r) here e =
    let found = may_give_some_from b xs r e in
    next_program b xs r found.0 (small found.0 (has_map (λ p. p.0) xs (found.0, value_of r) found.1.reserved_for)) found.1
next_at b xs small (Programmed r a) here e = (QueryShort, tt, (lit< tt, lit< tt), gives refl (may_give_from b xs r a e))
next_at b xs small (Confirmed r a) here e = (Withdraw, tt, (lit< tt, lit< tt), gives refl (may_give_from b xs r a e))
next_at b xs small (HighAsked a high) here e = next_query b xs (HighAsked a high) a here (rw (self a) refl) refl
next_at b xs small (MiddleAsked a bytes) here e = next_last b xs (MiddleAsked a bytes) a here (rw (self a) refl) refl
next_at b xs small _ here e = absurd (cc)

pub goes_on_at : (b : Block) (xs : List Assignment) (t : List Entry) → ((a : ℕ) → HasAddress xs a → a < 64) → may_follow b xs (stage_of t) ≡ true
    → GoesOn b xs t
goes_on_at b xs t small e =
    let next = next_at b xs small (stage_of t) (small_stage t) e in
    let read : command_of (frame_of next.0) ≡ next.0 = read_written next.0 next.1 in
    (frame_of next.0, next.2, lawful_follows b xs t (frame_of next.0) (subst (λ c. Follows b xs (stage_of t) c) (sym read) next.3))

-- ONE MORE FRAME
stage_from_more : (s : Stage) (t : List Entry) (e : Entry) → stage_from s (t ++ e ∷ []) ≡ next_stage (stage_from s t) (command_of e.frame) e.heard
stage_from_more s [] e = refl
stage_from_more s (x ∷ t) e = stage_from_more (next_stage s (command_of x.frame) x.heard) t e

pub stage_more : (t : List Entry) (e : Entry) → stage_of (t ++ e ∷ []) ≡ next_stage (stage_of t) (command_of e.frame) e.heard
unfolding stage_of
stage_more t e = stage_from_more Free t e

pub stage_none : stage_of [] ≡ Free
unfolding stage_of
stage_none = refl

-- THERE IS ROOM: no script has more than eight frames
front_short : (t : List Entry) (f : Forward) (ss : List Step) → IsFront t f ss → length t < length ss
front_short [] f [] front = absurd front
front_short (e ∷ t) f [] front = absurd front
front_short [] f (s ∷ ss) front = omega arith
front_short (e ∷ t) f (s ∷ ss) front = let less : length t < length ss = front_short t f ss front.2 in omega arith

script_short : (b : Block) (xs : List Assignment) (s : Script) → MaySend b xs s → length (steps s) ≤ 8
script_short b xs (Call r cs) may = let few : length cs ≤ 2 = may.1 in let same : length (map sends cs) ≡ length cs = length-map cs sends in omega arith
script_short b xs (Hunt r cs) may = let few : length cs ≤ 5 = may.1 in let same : length (map sends cs) ≡ length cs = length-map cs sends in omega arith
script_short b xs _ may = lit≤ tt

pub room : (b : Block) (xs : List Assignment) (t : List Entry) (f : Forward) → Lawful b xs t f → length t < 8
room b xs t f lawful =
    let front : length t < length (steps lawful.0) = front_short t f (steps lawful.0) lawful.2 in
    let short : length (steps lawful.0) ≤ 8 = script_short b xs lawful.0 lawful.1 in
    omega arith

-- nothing but what a hunt asks with comes in one
none_else : (r : SearchAddress) (last : Option Answer) (left : ℕ) (c : Command) → is_some (leads (Hunted r last left) c Silence) ≡ true → is_asking c ≡ false
    → ⊥
none_else r last left c on other = let asks = (asks_hunting r last left c on).1 in cc

-- which stage each command comes at
at_initialise : (b : Block) (xs : List Assignment) (s : Stage) (c : Command) (g : Target) → Follows b xs s c → c ≡ Initialise g
    → (g ≡ Unaddressed) × ((s ≡ Terminated) ⊎ (s ≡ InitialisedOnce))
at_initialise b xs Terminated (Initialise Unaddressed) g on e = (cc, inl refl)
at_initialise b xs InitialisedOnce (Initialise Unaddressed) g on e = (cc, inr refl)
at_initialise b xs (Hunted r last left) c g k e = absurd (none_else r last left c k.leads_on (ap is_asking e))
at_initialise b xs _ _ g k e = absurd (let none = k.leads_on in cc)

at_randomise : (b : Block) (xs : List Assignment) (s : Stage) (c : Command) → Follows b xs s c → c ≡ Randomise → IsBeforeDraw s ⊎ (s ≡ RandomisedOnce)
at_randomise b xs Initialised Randomise on e = inl tt
at_randomise b xs DrawFree Randomise on e = inl tt
at_randomise b xs RandomisedOnce Randomise on e = inr refl
at_randomise b xs (Hunted r last left) c k e = absurd (none_else r last left c k.leads_on (ap is_asking e))
at_randomise b xs _ _ k e = absurd (let none = k.leads_on in cc)

at_compare : (b : Block) (xs : List Assignment) (s : Stage) (c : Command) → Follows b xs s c → c ≡ Compare
    → ((r : SearchAddress) × (s ≡ NumberSent r)) ⊎ (IsHunting s ⊎ IsDoubting s)
at_compare b xs (NumberSent r) Compare on e = inl (r, refl)
at_compare b xs (WokenMiddle high middle) Compare on e = inr (inr tt)
at_compare b xs (Hunted r last left) c on e = inr (inl (asks_hunting r last left c on.leads_on).0)
at_compare b xs _ _ k e = absurd (let none = k.leads_on in cc)

at_query : (b : Block) (xs : List Assignment) (s : Stage) (c : Command) → Follows b xs s c → c ≡ QueryShort
    → (r : SearchAddress) × ((s ≡ NumberSent r) ⊎ ((a : ℕ) × (s ≡ Programmed r a) × MayGive b xs r a))
at_query b xs (NumberSent r) QueryShort on e = (r, inl refl)
at_query b xs (Programmed r a) QueryShort on e = (r, inr (a, refl, on.may))
at_query b xs (Hunted r last left) c k e = absurd (none_else r last left c k.leads_on (ap is_asking e))
at_query b xs _ _ k e = absurd (let none = k.leads_on in cc)

at_program : (b : Block) (xs : List Assignment) (s : Stage) (c : Command) (o : Option ℕ) → Follows b xs s c → c ≡ Program o
    → (a : ℕ) × (r : SearchAddress) × (o ≡ Some a) × (s ≡ Unnamed r) × MayGive b xs r a
at_program b xs (Unnamed r) (Program (Some a)) o on e = (a, r, cc, refl, on.may)
at_program b xs (Hunted r last left) c o k e = absurd (none_else r last left c k.leads_on (ap is_asking e))
at_program b xs _ _ o k e = absurd (let none = k.leads_on in cc)

at_withdraw : (b : Block) (xs : List Assignment) (s : Stage) (c : Command) → Follows b xs s c → c ≡ Withdraw
    → (r : SearchAddress) × ((s ≡ NumberSent r) ⊎ ((a : ℕ) × ((s ≡ Found r a) ⊎ ((s ≡ Confirmed r a) × MayGive b xs r a))))
at_withdraw b xs (NumberSent r) Withdraw on e = (r, inl refl)
at_withdraw b xs (Found r a) Withdraw on e = (r, inr (a, inl refl))
at_withdraw b xs (Confirmed r a) Withdraw on e = (r, inr (a, inr (refl, on.may)))
at_withdraw b xs (Hunted r last left) c k e = absurd (none_else r last left c k.leads_on (ap is_asking e))
at_withdraw b xs _ _ k e = absurd (let none = k.leads_on in cc)

pub initialise_at : (b : Block) (xs : List Assignment) (t : List Entry) (f : Forward) (g : Target) → Lawful b xs t f → command_of f ≡ Initialise g
    → (g ≡ Unaddressed) × ((stage_of t ≡ Terminated) ⊎ (stage_of t ≡ InitialisedOnce))
initialise_at b xs t f g lawful e = at_initialise b xs (stage_of t) (command_of f) g (follows_lawful b xs t f lawful) e

pub randomise_at : (b : Block) (xs : List Assignment) (t : List Entry) (f : Forward) → Lawful b xs t f → command_of f ≡ Randomise
    → IsBeforeDraw (stage_of t) ⊎ (stage_of t ≡ RandomisedOnce)
randomise_at b xs t f lawful e = at_randomise b xs (stage_of t) (command_of f) (follows_lawful b xs t f lawful) e

pub compare_at : (b : Block) (xs : List Assignment) (t : List Entry) (f : Forward) → Lawful b xs t f → command_of f ≡ Compare
    → ((r : SearchAddress) × (stage_of t ≡ NumberSent r)) ⊎ (IsHunting (stage_of t) ⊎ IsDoubting (stage_of t))
compare_at b xs t f lawful e = at_compare b xs (stage_of t) (command_of f) (follows_lawful b xs t f lawful) e

pub query_at : (b : Block) (xs : List Assignment) (t : List Entry) (f : Forward) → Lawful b xs t f → command_of f ≡ QueryShort
    → (r : SearchAddress) × ((stage_of t ≡ NumberSent r) ⊎ ((a : ℕ) × (stage_of t ≡ Programmed r a) × MayGive b xs r a))
query_at b xs t f lawful e = at_query b xs (stage_of t) (command_of f) (follows_lawful b xs t f lawful) e

pub program_at : (b : Block) (xs : List Assignment) (t : List Entry) (f : Forward) (o : Option ℕ) → Lawful b xs t f → command_of f ≡ Program o
    → (a : ℕ) × (r : SearchAddress) × (o ≡ Some a) × (stage_of t ≡ Unnamed r) × MayGive b xs r a
program_at b xs t f o lawful e = at_program b xs (stage_of t) (command_of f) o (follows_lawful b xs t f lawful) e

pub withdraw_at : (b : Block) (xs : List Assignment) (t : List Entry) (f : Forward) → Lawful b xs t f → command_of f ≡ Withdraw
    → (r : SearchAddress) × ((stage_of t ≡ NumberSent r) ⊎ ((a : ℕ) × ((stage_of t ≡ Found r a) ⊎ ((stage_of t ≡ Confirmed r a) × MayGive b xs r a))))
withdraw_at b xs t f lawful e = at_withdraw b xs (stage_of t) (command_of f) (follows_lawful b xs t f lawful) e
