use Rattle.std.proofs.Common.{◌≡◌, ℕ, ◌<◌, ◌⊎◌, inl, inr, Bool, true, false, List, refl, sym, ap, subst, ◌∙◌, length, get_or, Option, Some, None, ◌&&◌, not}
use Rattle.std.proofs.Common.{nat_le, if◌then◌else◌, is_none, ◌||◌}
use Rattle.dali_frame.specs.Random.{value_of}
use Rattle.dali_frame.specs.declared.frames.{Answer.Answer, Answer.TheVariants.Silence, Answer.TheVariants.Byte, Answer.TheVariants.Damaged, Forward.Forward}
use Rattle.dali_special.specs.{Command.program_data, Command.command_of, declared.command.Command.Command}
use Rattle.dali_special.specs.declared.command.Command.TheVariants.{Terminate, Initialise, Withdraw, Compare, Verify, QueryShort}
use Rattle.dali_special.specs.declared.command.Target.{Target, TheVariants.All, TheVariants.Unaddressed, TheVariants.Addressed}
use Rattle.dali_gear.specs.Gear.{Gear, fresh, answer, is_active, is_enabled, is_found, is_second, concerns, has_short, state_after, YES}
use Rattle.dali_gear.specs.{Row.answers_of, Row.heard_of, Row.row_after, Row.drawn_of, declared.row.Reach.TheVariants.Everyone}
use Rattle.dali_gear.specs.declared.state.InitialisationState.{InitialisationState, TheVariants.Disabled, TheVariants.Enabled, TheVariants.Withdrawn}
use Rattle.dali_capture.specs.declared.item.Item.{Item}
use Rattle.dali_audit.specs.{Bus.repeats, Bus.misled, declared.bus.First.First}
use Rattle.dali_audit.specs.{Bus.sent_by, Bus.passed, Bus.is_over, Findings.asks_initialised, Seen.is_silence, declared.bus.Begun.Begun, declared.bus.Bus.Bus}
use Rattle.dali_events.proofs.Invariant.{Sending.powered_takes, Takes.Moved, Takes.stays, Takes.goes, Takes.moves_at, Takes.row_length}
use Rattle.dali_audit_laws.proofs.Grammar.{Paired, alone, twice}
use Rattle.dali_audit_laws.{specs.Undisturbed.Since, specs.Undisturbed.open_since, proofs.Replies.Replies, proofs.Replies.somebody, proofs.Replies.several}

-- AFTER TERMINATE NO GEAR TAKES PART, until an INITIALISE is complete

abbrev pub AllIdle : List Gear → Type 0
AllIdle gs = (i : ℕ) → i < length gs → (get_or gs i fresh).powered ≡ true → is_active (get_or gs i fresh).state ≡ false

abbrev pub NoneHalf : List Gear → Type 0
NoneHalf gs = (i : ℕ) → i < length gs → (get_or gs i fresh).powered ≡ true → (get_or gs i fresh).half ≡ None

-- what a command leaves idle
abbrev LeavesIdle : Command → Gear → Type 0
LeavesIdle Terminate g = Unit {0}
LeavesIdle (Initialise target) g = (is_active g.state ≡ false) × (g.half ≡ None)
LeavesIdle _ g = is_active g.state ≡ false

idle_after : (c : Command) (g : Gear) → LeavesIdle c g → is_active (state_after c g) ≡ false
idle_after Terminate g k = refl
idle_after (Initialise target) g k = rw k.1 (first target) where
  first : (t : Target) → is_active (if is_second (Initialise t) None && concerns t g.short then Enabled else g.state) ≡ false
  first t = k.0
idle_after Withdraw g k = go g.state k refl where
  go : (st : InitialisationState) → is_active g.state ≡ false → g.state ≡ st
      → is_active (if is_enabled g.state && is_found g then Withdrawn else g.state) ≡ false
  go Disabled off e = rw e refl
  go Enabled off e = absurd (let on : is_active g.state ≡ true = ap is_active e in cc)
  go Withdrawn off e = absurd (let on : is_active g.state ≡ true = ap is_active e in cc)
idle_after _ g k = k

idle_moved : (c : Command) (ds : List (ℕ × ℕ)) (k : ℕ) (g g' : Gear) → Moved Everyone c ds k g g' → g'.powered ≡ true → (g.powered ≡ true → LeavesIdle c g)
    → is_active g'.state ≡ false
idle_moved c ds k g _ (stays off) on leaves = absurd (let there = powered_takes k g on in cc)
idle_moved c ds k g _ (goes r there drew) on leaves = idle_after c g (leaves on)

pub idle_taken : (c : Command) (gs : List Gear) (left : List ℕ)
    → ((i : ℕ) → i < length gs → (get_or gs i fresh).powered ≡ true → LeavesIdle c (get_or gs i fresh))
    → AllIdle (row_after Everyone c 0 gs left)
idle_taken c gs left leaves i in_row on =
    let there : i < length gs = subst (λ n. i < n) (row_length Everyone c 0 gs left) in_row in
    idle_moved c (drawn_of Everyone c 0 gs left) i (get_or gs i fresh) (get_or (row_after Everyone c 0 gs left) i fresh)
    (moves_at Everyone c gs left i there) on
    (leaves i there)

half_moved : (ds : List (ℕ × ℕ)) (k : ℕ) (g g' : Gear) → Moved Everyone Terminate ds k g g' → g'.powered ≡ true → g'.half ≡ None
half_moved ds k g _ (stays off) on = absurd (let there = powered_takes k g on in cc)
half_moved ds k g _ (goes r there drew) on = refl

-- TERMINATE ends half pairs
pub half_taken : (gs : List Gear) (left : List ℕ) → NoneHalf (row_after Everyone Terminate 0 gs left)
half_taken gs left i in_row on =
    let there : i < length gs = subst (λ n. i < n) (row_length Everyone Terminate 0 gs left) in_row in
    half_moved (drawn_of Everyone Terminate 0 gs left) i (get_or gs i fresh) (get_or (row_after Everyone Terminate 0 gs left) i fresh)
    (moves_at Everyone Terminate gs left i there) on

-- what an idle gear does not answer
reply_active : (c : Command) (g : Gear) (v : ℕ) → asks_initialised c ≡ true → answer c g ≡ Some v → is_active g.state ≡ true
reply_active Compare g v asks e = go g.state refl e where
  go : (st : InitialisationState) → g.state ≡ st → (if is_enabled st && nat_le g.random (value_of g.search) then Some YES else None) ≡ Some v
      → is_active g.state ≡ true
  go Disabled is e = absurd (cc)
  go Enabled is e = ap is_active is
  go Withdrawn is e = absurd (cc)
reply_active (Verify a) g v asks e = go (is_active g.state) e where
  go : (m : Bool) → (if m && has_short a g.short then Some YES else None) ≡ Some v → m ≡ true
  go true e = refl
  go false e = absurd (cc)
reply_active QueryShort g v asks e = go (is_active g.state) e where
  go : (m : Bool) → (if m && is_found g then Some (program_data g.short) else None) ≡ Some v → m ≡ true
  go true e = refl
  go false e = absurd (cc)
reply_active _ g v asks e = absurd (cc)

replies_idle : (c : Command) (gs : List Gear) (i : ℕ) → AllIdle gs → asks_initialised c ≡ true → Replies c gs i → ⊥
replies_idle c gs i idle asks k =
    let on : is_active (get_or gs i fresh).state ≡ true = reply_active c (get_or gs i fresh) k.byte asks k.reply in
    let off : is_active (get_or gs i fresh).state ≡ false = idle i k.in_row k.powered in
    cc

idle_silent : (c : Command) (gs : List Gear) (h : Answer) → AllIdle gs → h ≡ heard_of (answers_of Everyone c 0 gs) → asks_initialised c ≡ true
    → is_silence h ≡ true
idle_silent c gs Silence idle e asks = refl
idle_silent c gs (Byte v) idle e asks = absurd (let k = somebody c gs v e in replies_idle c gs k.0 idle asks k.1)
idle_silent c gs Damaged idle e asks = absurd (let k = several c gs e in replies_idle c gs k.first idle asks k.replies)

pub initialised : (closed : Bool) (c : Command) (gs : List Gear) (h : Answer) → (closed ≡ true → AllIdle gs) → h ≡ heard_of (answers_of Everyone c 0 gs)
    → (closed && (asks_initialised c && not (is_silence h))) ≡ false
initialised false c gs h idle e = refl
initialised true c gs h idle e = go (asks_initialised c) refl where
  go : (m : Bool) → asks_initialised c ≡ m → (m && not (is_silence h)) ≡ false
  go false asks = refl
  go true asks = rw (idle_silent c gs h (idle refl) e asks) refl

-- ---------------------------------------------------------------- the bus as the audit knows it
pub closed_from : (c : Command) (again second : Bool) (x : Item) (f : Forward) (h : Answer) (b : Bus)
    → (sent_by c again second x h (passed x f b)).is_closed ≡ true
    → (c ≡ Terminate) ⊎ ((b.is_closed ≡ true) × ((t : Target) → c ≡ Initialise t → again ≡ false))
closed_from Terminate again second x f h b e = inl refl
closed_from (Initialise t) again second x f h b e = inr (go b.is_closed again e) where
  go : (m n : Bool) → (m && not n) ≡ true → (m ≡ true) × ((t' : Target) → Initialise t ≡ Initialise t' → n ≡ false)
  go true false e = (refl, λ t' is. refl)
  go true true e = absurd (cc)
  go false n e = absurd (cc)
closed_from _ again second x f h b e = inr (e, λ t is. absurd (cc))

-- the last INITIALISE that was complete is the one since which an initialisation is open
pub begun_from : (c : Command) (again second : Bool) (since : Since) (x : Item) (f : Forward) (h : Answer) (b : Bus)
    → ((t : Target) → c ≡ Initialise t → second ≡ false → b.begun ≡ None) → is_over b.begun x.at f ≡ false
    → ((y : Begun) → b.begun ≡ Some y → since.at ≡ Some y.until)
    → (y : Begun) → (sent_by c again second x h (passed x f b)).begun ≡ Some y → (open_since c x.until since).at ≡ Some y.until
begun_from Terminate again second since x f h b none short k y e = absurd (cc)
begun_from (Initialise t) again true since x f h b none short k y e = ap (λ (z : Option Begun). until_of z) e where
  until_of : Option Begun → Option ℕ
  until_of None = None
  until_of (Some z) = Some z.until
begun_from (Initialise t) again false since x f h b none short k y e =
    absurd (let was : b.begun ≡ None = none t refl refl in let now : Some y ≡ None = sym e ∙ rw (short, was) refl in cc)
begun_from _ again second since x f h b none short k y e = k y (rw short at e)

-- ---------------------------------------------------------------- searches that are cut off
-- the first frame of a pair that waits is INITIALISE
abbrev pub IsBegun : Option First → Type 0
IsBegun None = ⊥
IsBegun (Some y) = (u : Target) × (command_of y.frame ≡ Initialise u)

not_begun : (half : Option First) (f : Forward) (until : ℕ) → Paired half f until → ((u : Target) → command_of f ≡ Initialise u → ⊥) → IsBegun half → ⊥
not_begun half f until (alone none) other is = let no : IsBegun None = subst IsBegun none is in no
not_begun half f until (twice t e in_time) other is =
    let k : IsBegun (Some (record { frame = f; at = t; is_told = false })) = subst IsBegun e is in other k.0 k.1

-- after TERMINATE no initialisation is open, but between the two frames of INITIALISE
abbrev pub Shut : Since → Bus → Type 0
Shut since b = b.is_closed ≡ true → (since.at ≡ None) ⊎ IsBegun b.half

pub shut_from : (c : Command) (second : Bool) (since : Since) (x : Item) (f : Forward) (h : Answer) (b : Bus) → command_of f ≡ c
    → Paired b.half f x.until → Shut since b → Shut (open_since c x.until since) (sent_by c (repeats b.half f) second x h (passed x f b))
shut_from c second since x f h b is pair shut e = go c is (closed_from c (repeats b.half f) second x f h b e) where
  still : (d : Command) → command_of f ≡ d → ((u : Target) → d ≡ Initialise u → ⊥) → (since.at ≡ None) ⊎ IsBegun b.half → since.at ≡ None
  still d at other (inl none) = none
  still d at other (inr begun) = absurd (not_begun b.half f x.until pair (λ u k. other u (sym at ∙ k)) begun)

  go : (d : Command) → command_of f ≡ d → (d ≡ Terminate) ⊎ ((b.is_closed ≡ true) × ((t : Target) → d ≡ Initialise t → repeats b.half f ≡ false))
      → ((open_since d x.until since).at ≡ None) ⊎ IsBegun (sent_by d (repeats b.half f) second x h (passed x f b)).half
  go Terminate at k = inl refl
  go (Initialise u) at (inl k) = absurd (cc)
  go (Initialise u) at (inr k) = inr (rw (at, k.1 u refl) (u, at))
  go d at (inl k) = absurd (cc)
  go d at (inr k) = inl (still d at (λ u no. cc) (shut k.0))

pub cut_from : (c : Command) (again second : Bool) (since : Since) (x : Item) (f : Forward) (h : Answer) (b : Bus) → command_of f ≡ c
    → Paired b.half f x.until → Shut since b → ((t : ℕ) → b.cut ≡ Some t → since.is_cut ≡ true)
    → (t : ℕ) → (sent_by c again second x h (passed x f b)).cut ≡ Some t → (open_since c x.until since).is_cut ≡ true
cut_from (Initialise All) again second since x f h b is pair shut k t e = absurd (cc)
cut_from (Initialise Unaddressed) again second since x f h b is pair shut k t e = absurd (cc)
cut_from (Initialise (Addressed a)) again second since x f h b is pair shut k t e = rw (k t e) refl
cut_from Compare again second since x f h b is pair shut k t e = was b.cut refl e where
  always : (m : Bool) → (m || true) ≡ true
  always true = refl
  always false = refl

  none : (since.at ≡ None) ⊎ IsBegun b.half → (since.is_cut || is_none since.at) ≡ true
  none (inl shut) = rw shut (always since.is_cut)
  none (inr begun) = absurd (not_begun b.half f x.until pair (λ u y. let no : Compare ≡ Initialise u = sym is ∙ y in cc) begun)

  was : (o : Option ℕ) → b.cut ≡ o → misled b.is_closed x.at h o ≡ Some t → (since.is_cut || is_none since.at) ≡ true
  was (Some n) at e = rw (k n at) refl
  was None at e = closed b.is_closed refl e where
    closed : (m : Bool) → b.is_closed ≡ m → misled m x.at h None ≡ Some t → (since.is_cut || is_none since.at) ≡ true
    closed true y e = none (shut y)
    closed false y e = absurd (cc)
cut_from _ again second since x f h b is pair shut k t e = k t e
