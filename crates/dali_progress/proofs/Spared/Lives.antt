use Rattle.dali_progress.proofs.Below.{◌≡◌, ℕ, ◌+◌, ◌<◌, ◌≤◌, ◌⊎◌, inl, inr, Bool, true, false, List, [], ◌∷◌, refl, sym, ap, subst, ◌∙◌, arith, Option, Some}
use Rattle.dali_progress.proofs.Below.{None, ◌==◌, if◌then◌else◌, LATER, Answer, Silence, Forward, command_of, RandomByte, High, Middle, Low, read_spelled}
use Rattle.dali_progress.proofs.Below.{due_after, accepts, frame_put, record_ordered, Kept, Has, InBlock, stage_of, next_stage, bytes_heard, number_heard}
use Rattle.dali_progress.proofs.Below.{Block, Input, Order, Put, Commit, Done, Halt, Record, Reserve, block_stays, stage_more, stage_none, Machine, at_first}
use Rattle.dali_progress.proofs.Below.{machine_told, machine_heard, machine_committed, IsGiven, MayCommit, machine_after, machine_ordered, IsWhole, IsReady}
use Rattle.dali_progress.proofs.Below.{IsUnstarted, IsOpenedOn, Pending, Sends, Opening, Asking, Fresh, Surveying, IsDue, IsCommit, controller_acted, entry}
use Rattle.dali_progress.proofs.Below.{used_shorts, Controller, Used, ReservesUsed, BeginsBySurvey, AreWhole, FallsSilent, WasSilent, Step, IsTaken, IsCourse}
use Rattle.dali_progress.proofs.{Below.{ArePlain, stage_told, IsPlain, IsAccounted}, Accounted.{accounted_stays, unreserved, told_keeps}, Census.Asked.Asks}
use Rattle.dali_progress.proofs.Census.{Asked.{asks_of, self, sending_of}, Coming.{IsToCome, IsEnded, Watched, no_reservation, counting_ready, storing_of}}
use Rattle.dali_progress.proofs.{Census.{Coming.{unreserved_on, over_ends}, Course.ordered_way, Silent.{IsLooked, watched_looked}}, Spared.Bytes.IsByteOf}
use Rattle.dali_progress.proofs.Spared.{Bytes.{IsRead, read_plain, next_read}, Counted.{IsCounted, counted_more, counted_on}}
use Rattle.dali_controller.specs.Whole.{Knows}
use Rattle.dali_script.specs.declared.orders.Due.TheVariants as due
use Rattle.dali_script.specs.declared.orders.Input.TheVariants as input
use Rattle.dali_script.specs.declared.stage.Stage.TheVariants as stage

-- THE LIFE OF A CONTROLLER since it began, by what its machine was told and ordered.

-- what is heard of a frame: each silence of a used gear that is asked is counted; and bytes of random addresses
abbrev pub IsAnswered : (ℕ → Type 0) → (ℕ → ℕ) → Bool → ℕ → Forward → Answer → Type 0
IsAnswered U n opened asked f h = opened ≡ false → (a : ℕ) → U a → command_of f ≡ RandomByte a High → h ≡ Silence → asked + 1 ≤ n a

abbrev pub IsWellHeard : (ℕ → Type 0) → (ℕ → ℕ) → Bool → ℕ → Forward → Answer → Type 0
IsWellHeard U n opened asked f h = IsAnswered U n opened asked f h × IsByteOf (command_of f) h

-- what it was told is of the frame that it put, and it is told to start if it has ordered nothing
abbrev pub IsFair : (ℕ → Type 0) → (ℕ → ℕ) → Bool → ℕ → Option Order → Option Input → Type 0
IsFair U n opened asked last (Some (input.Heard h)) = (f : Forward) × (frame_put last ≡ Some f) × IsWellHeard U n opened asked f h
IsFair U n opened asked last (Some input.Start) = last ≡ None
IsFair U n opened asked last _ = Unit {0}

-- it began by a survey, if it has begun
abbrev pub HasBegun : List Step → Machine → Type 0
HasBegun [] m = (id : ℕ) × (k : Kept) × (m ≡ at_first id k)
HasBegun (s ∷ earlier) m = BeginsBySurvey (s ∷ earlier) × (m.course.way ≡ Fresh → ⊥)

-- it has ended, or the gear that has the address is accounted for: so it never reserves it
abbrev pub IsSafe : Machine → ℕ → Type 0
IsSafe m a = IsEnded m ⊎ IsAccounted m a

-- while it asks, the address was silent less than three times; or it is safe
abbrev pub IsFewAt : (ℕ → ℕ) → Machine → ℕ → Type 0
IsFewAt n m a = (m.course.opened ≡ false → n a < 3) ⊎ IsSafe m a

-- its steps, and what they show, however silences are counted
pub record Life (U : ℕ → Type 0) (z : Block) (m : Machine) : Type 0 where
  pub steps : List Step
  pub course : IsCourse steps m
  pub plain : ArePlain steps
  pub were : AreWhole steps
  pub whole : IsWhole m
  pub begun : HasBegun steps m
  pub read : IsRead (stage_of m.trace)
  pub unsilent : (a : ℕ) → U a → WasSilent steps a → IsSafe m a
  pub block : m.kept.block ≡ z

pub record Lives (U : ℕ → Type 0) (z : Block) (n : ℕ → ℕ) (k : Controller) (m : Machine) : Type 0 where
  pub life : Life U z m
  pub open life use *
  pub counted : IsCounted U n m
  pub few : (a : ℕ) → U a → IsFewAt n m a
  pub last : m.last ≡ k.last
  pub told : IsFair U n m.course.opened m.asked k.last k.told

-- ---------------------------------------------------------------- it begins, and it is told something

free_read : IsRead (stage_of [])
free_read = subst IsRead (sym stage_none) tt

first_whole : (id : ℕ) (kept : Kept) → IsWhole (at_first id kept)
first_whole id kept =
    record { ready = record { tries = omega arith; calm = omega arith; knows = refl }; free = stage_none; opening = refl; fresh = refl; first = refl }

pub lives_first : (U : ℕ → Type 0) (z : Block) (n : ℕ → ℕ) (k : Controller) (id : ℕ) (kept : Kept) → kept.block ≡ z → ((a : ℕ) → U a → n a < 3)
    → k.told ≡ Some input.Start → k.last ≡ None → Lives U z n k (at_first id kept)
lives_first U z n k id kept block few told last = record {
  life = record {
    steps = [];
    course = tt;
    plain = tt;
    were = tt;
    whole = first_whole id kept;
    begun = (id, kept, refl);
    read = free_read;
    unsilent = λ a used silent. absurd silent;
    block = block;
  };
  counted = inl refl;
  few = λ a used. inl (λ early. few a used);
  last = sym last;
  told = subst (λ t. IsFair U n false 0 k.last t) (sym told) last;
}

pub lives_told : (U : ℕ → Type 0) (z : Block) (n : ℕ → ℕ) (k k' : Controller) (m : Machine) → Lives U z n k m → k'.last ≡ k.last
    → IsFair U n m.course.opened m.asked k.last k'.told → Lives U z n k' m
lives_told U z n k k' m l last told = record {
  life = l.life;
  counted = l.counted;
  few = l.few;
  last = l.last ∙ sym last;
  told = subst (λ o. IsFair U n m.course.opened m.asked o k'.told) (sym last) told;
}

-- silences are counted on
fair_more : (U : ℕ → Type 0) (n n' : ℕ → ℕ) (opened : Bool) (asked : ℕ) (last : Option Order) (told : Option Input) → ((a : ℕ) → U a → n a ≤ n' a)
    → IsFair U n opened asked last told → IsFair U n' opened asked last told
fair_more U n n' opened asked last (Some (input.Heard h)) more (f, put, well) = (
  f,
  put,
  (
    λ early a used asks silent. (let less : asked + 1 ≤ n a = well.0 early a used asks silent in let on : n a ≤ n' a = more a used in
        omega (arith, less, on)),
    well.1,
  ),
)
fair_more U n n' opened asked last (Some input.Start) more fair = fair
fair_more U n n' opened asked last _ more fair = tt

pub lives_more : (U : ℕ → Type 0) (z : Block) (n n' : ℕ → ℕ) (k : Controller) (m : Machine) → ((a : ℕ) → U a → n a ≤ n' a) → ((a : ℕ) → U a → IsFewAt n' m a)
    → Lives U z n k m → Lives U z n' k m
lives_more U z n n' k m more few l = record {
  life = l.life;
  counted = counted_more U n n' m more l.counted;
  few = few;
  last = l.last;
  told = fair_more U n n' m.course.opened m.asked k.last k.told more l.told;
}

-- ---------------------------------------------------------------- what was told and put

-- what was heard, if that is due
heard_of : (U : ℕ → Type 0) (z : Block) (n : ℕ → ℕ) (k : Controller) (m : Machine) (h : Answer) → Lives U z n k m → k.told ≡ Some (input.Heard h)
    → (f : Forward) × (frame_put m.last ≡ Some f) × IsWellHeard U n m.course.opened m.asked f h
heard_of U z n k m h l due =
    let fair : IsFair U n m.course.opened m.asked k.last (Some (input.Heard h)) = subst (λ t. IsFair U n m.course.opened m.asked k.last t) due l.told in
    (fair.0, ap frame_put l.last ∙ fair.1, fair.2)

put_of_frame : (last : Option Order) (f : Forward) → frame_put last ≡ Some f → (p : ℕ) × (last ≡ Some (Put p f))
put_of_frame (Some (Put p g)) f e = (p, let same : g ≡ f = cc in ap (λ x. Some (Put p x)) same)
put_of_frame _ f e = absurd (cc)

heard_is : (m : Machine) (h : Answer) (f : Forward) → frame_put m.last ≡ Some f → machine_told m (input.Heard h) ≡ machine_heard m (Some f) h
heard_is m h f put = ap (λ o. machine_heard m o h) put

stage_heard : (m : Machine) (h : Answer) (f : Forward) → frame_put m.last ≡ Some f
    → stage_of (machine_told m (input.Heard h)).trace ≡ next_stage (stage_of m.trace) (command_of f) h
stage_heard m h f put = ap (λ (t : Machine). stage_of t.trace) (heard_is m h f put) ∙ stage_more m.trace (entry f h)

-- all that was read is bytes
told_read : (U : ℕ → Type 0) (z : Block) (n : ℕ → ℕ) (k : Controller) (m : Machine) (i : Input) → Lives U z n k m → IsDue k i
    → IsRead (stage_of (machine_told m i).trace)
told_read U z n k m (input.Heard h) l due =
    let heard = heard_of U z n k m h l due in
    subst IsRead (sym (stage_heard m h heard.0 heard.1)) (next_read (stage_of m.trace) (command_of heard.0) h (read_spelled heard.0) heard.2.1 l.read)
told_read U z n k m input.Start l due = l.read
told_read U z n k m input.Survey l due = l.read
told_read U z n k m input.Destroyed l due = free_read
told_read U z n k m input.Lapsed l due = free_read
told_read U z n k m input.Committed l due = go (record_ordered m.last) where
  go : (x : Option Record) → IsRead (stage_of (machine_committed m x).trace)
  go None = l.read
  go (Some x) = l.read
told_read U z n k m input.CommitFailed l due = l.read

ordered_read : (t : Machine) (o : Order) → IsRead (stage_of t.trace) → IsRead (stage_of (machine_ordered t o).trace)
ordered_read t (Put p f) read = go (p == LATER) where
  go : (b : Bool) → IsRead (stage_of (if b then t.trace else []))
  go true = read
  go false = free_read
ordered_read t (Commit x) read = free_read
ordered_read t (Done e) read = free_read
ordered_read t (Halt w) read = free_read

-- ---------------------------------------------------------------- who surveyed has surveyed

told_surveyed : (m : Machine) (i : Input) → (m.course.way ≡ Fresh → ⊥) → (machine_told m i).course.way ≡ Fresh → ⊥
told_surveyed m i other = told_keeps (λ t. t.course.way ≡ Fresh → ⊥) m i other (λ e. cc) (λ f h. other) other (λ x. other)

ordered_surveyed : (t : Machine) (o : Order) → (t.course.way ≡ Fresh → ⊥) → (machine_ordered t o).course.way ≡ Fresh → ⊥
ordered_surveyed t o other e = other (sym (ordered_way t o) ∙ e)

-- what begins is a start or a survey
surveys : (i : Input) → accepts due.Start i ≡ true → (i ≡ input.Start → ⊥) → i ≡ input.Survey
surveys input.Start due unstarted = absurd (unstarted refl)
surveys input.Survey due unstarted = refl
surveys _ due unstarted = absurd (cc)

begun_on : (m : Machine) (i : Input) (o : Order) (steps : List Step) → HasBegun steps m → (i ≡ input.Start → ⊥) → accepts (due_after m.last) i ≡ true
    → HasBegun ((record { before = m; told = i; order = o }) ∷ steps) (machine_after m i o)
begun_on m i o [] b unstarted waits =
    let none : m.last ≡ None = ap (λ (x : Machine). x.last) b.2 in
    let survey : i ≡ input.Survey = surveys i (subst (λ l. accepts (due_after l) i ≡ true) none waits) unstarted in
    let told : (machine_told m i).course.way ≡ Surveying = ap (λ j. (machine_told m j).course.way) survey in
    ((survey, b), ordered_surveyed (machine_told m i) o (λ e. let never : Surveying ≡ Fresh = sym told ∙ e in cc))
begun_on m i o (r ∷ earlier) b unstarted waits = (b.0, ordered_surveyed (machine_told m i) o (told_surveyed m i b.1))

-- ---------------------------------------------------------------- it acts

-- the first query of a short address
question_is : (m : Machine) (p : ℕ) (f : Forward) (h : Answer) (a : ℕ) → m.course.purpose ≡ Asking a → m.last ≡ Some (Put p f) → IsWhole m
    → next_stage (stage_of m.trace) (command_of f) h ≡ stage.HighAsked a None → command_of f ≡ RandomByte a High
question_is m p f h a purpose last whole at = asked (asks_of m.kept m.course.number a (stage_of m.trace) (command_of f) sends) where
  sends : Sends m.kept m.course.number (Asking a) (stage_of m.trace) (command_of f)
  sends = subst (λ q. Sends m.kept m.course.number q (stage_of m.trace) (command_of f)) purpose (sending_of m p f last whole).sends

  asked : Asks a (stage_of m.trace) (command_of f) → command_of f ≡ RandomByte a High
  asked (inl (free, high)) = high
  asked (inr (inl (b, x, same, middle, here))) =
      let next : next_stage (stage_of m.trace) (command_of f) h ≡ stage.MiddleAsked b (bytes_heard (Some x) h) = rw (same, middle, self b) refl in
      absurd (let never : stage.MiddleAsked b (bytes_heard (Some x) h) ≡ stage.HighAsked a None = sym next ∙ at in cc)
  asked (inr (inr (b, x, same, low, here))) =
      let next : next_stage (stage_of m.trace) (command_of f) h ≡ stage.Spelled b (number_heard (Some x) h) = rw (same, low, self b) refl in
      absurd (let never : stage.Spelled b (number_heard (Some x) h) ≡ stage.HighAsked a None = sym next ∙ at in cc)

some_frame : (f g : Forward) → Some f ≡ Some g → f ≡ g
some_frame f g e = cc

-- a silence that it acts on was counted
answered : (U : ℕ → Type 0) (z : Block) (n : ℕ → ℕ) (k : Controller) (m : Machine) (h : Answer) (f : Forward) → Lives U z n k m → k.told ≡ Some (input.Heard h)
    → frame_put m.last ≡ Some f → (a : ℕ) → m.course.purpose ≡ Asking a → stage_of (machine_heard m (Some f) h).trace ≡ stage.HighAsked a None → h ≡ Silence
    → U a → m.asked + 1 ≤ n a
answered U z n k m h f l due put a purpose at silent used =
    let heard = heard_of U z n k m h l due in
    let same : f ≡ heard.0 = some_frame f heard.0 (sym put ∙ heard.1) in
    let last = put_of_frame m.last heard.0 heard.1 in
    let next : next_stage (stage_of m.trace) (command_of heard.0) h ≡ stage.HighAsked a None =
    sym (stage_more m.trace (entry heard.0 h)) ∙ subst (λ g. stage_of (machine_heard m (Some g) h).trace ≡ stage.HighAsked a None) same at in
    heard.2.0 (counting_ready m a purpose (sending_of m last.0 heard.0 last.1 l.whole).ready).opened a used
    (question_is m last.0 heard.0 h a purpose last.1 l.whole next) silent

-- how often the address that is asked was silent in a row, if it is asked now
pub counted_asked : (U : ℕ → Type 0) (z : Block) (n : ℕ → ℕ) (k : Controller) (m : Machine) (f : Forward) (a : ℕ) → Lives U z n k m → frame_put m.last ≡ Some f
    → command_of f ≡ RandomByte a High → U a → m.asked ≤ n a
counted_asked U z n k m f a l put asks used = go l.counted where
  last : (p : ℕ) × (m.last ≡ Some (Put p f))
  last = put_of_frame m.last f put

  go : IsCounted U n m → m.asked ≤ n a
  go (inl zero) = omega (arith, zero)
  go (inr (inl (inl ends))) = absurd (let never : Some (Done ends.0) ≡ Some (Put last.0 f) = sym ends.1 ∙ last.1 in cc)
  go (inr (inl (inr ends))) = absurd (let never : Some (Halt ends.0) ≡ Some (Put last.0 f) = sym ends.1 ∙ last.1 in cc)
  go (inr (inr (b, purpose, on, less))) =
      by (asks_of m.kept m.course.number b (stage_of m.trace) (command_of f)
      (subst (λ q. Sends m.kept m.course.number q (stage_of m.trace) (command_of f)) purpose (sending_of m last.0 f last.1 l.whole).sends))
    where
      by : Asks b (stage_of m.trace) (command_of f) → m.asked ≤ n a
      by (inl (free, high)) =
          let both : RandomByte b High ≡ RandomByte a High = sym high ∙ asks in
          let same : b ≡ a = cc in
          subst (λ x. U x → m.asked ≤ n x) same less used
      by (inr (inl (d, x, same, middle, here))) = absurd (let never : RandomByte d Middle ≡ RandomByte a High = sym middle ∙ asks in cc)
      by (inr (inr (d, x, same, low, here))) = absurd (let never : RandomByte d Low ≡ RandomByte a High = sym low ∙ asks in cc)

-- no used gear falls silent
asked_silent : (U : ℕ → Type 0) (z : Block) (n : ℕ → ℕ) (k : Controller) (m : Machine) (i : Input) (o : Order) (a : ℕ) → Lives U z n k m → IsDue k i → U a
    → FallsSilent (record { before = m; told = i; order = o }) a → IsSafe m a
asked_silent U z n k m i o a l due used falls =
    let now : k.told ≡ Some (input.Heard Silence) = subst (λ j. IsDue k j) falls.told due in
    let heard = heard_of U z n k m Silence l now in
    let last = put_of_frame m.last heard.0 heard.1 in
    let at : stage_of (machine_heard m (Some heard.0) Silence).trace ≡ stage.HighAsked a None =
    ap (λ (t : Machine). stage_of t.trace) (sym (heard_is m Silence heard.0 heard.1)) ∙ ap (λ j. stage_of (machine_told m j).trace) (sym falls.told)
    ∙ falls.question in
    let more : m.asked + 1 ≤ n a = answered U z n k m Silence heard.0 l now heard.1 a falls.asking at refl used in
    let early : m.course.opened ≡ false = (counting_ready m a falls.asking (sending_of m last.0 heard.0 last.1 l.whole).ready).opened in
    let two : m.asked ≡ 2 = falls.twice in
    go early more two (l.few a used)
  where
    go : m.course.opened ≡ false → m.asked + 1 ≤ n a → m.asked ≡ 2 → IsFewAt n m a → IsSafe m a
    go early more two (inl few) = absurd (let less : n a < 3 = few early in omega (arith, more, less, two))
    go early more two (inr safe) = safe

-- its records are of one block
pub told_block : (m : Machine) (i : Input) → (machine_told m i).kept.block ≡ m.kept.block
told_block m i = told_keeps (λ t. t.kept.block ≡ m.kept.block) m i refl refl (λ f h. refl) refl (λ x. block_stays m.kept x)

-- once its questions are over, each of them is safe
safe_opened : (U : ℕ → Type 0) (z : Block) (n : ℕ → ℕ) (k : Controller) (m : Machine) (a : ℕ) → Lives U z n k m → (m.last ≡ None → ⊥) → U a → a < 64
    → m.course.opened ≡ true → IsSafe m a
safe_opened U z n k m a l running used small opened = by l.steps l.course l.plain l.were l.begun l.unsilent where
  by : (steps : List Step) → IsCourse steps m → ArePlain steps → AreWhole steps → HasBegun steps m → ((b : ℕ) → U b → WasSilent steps b → IsSafe m b)
      → IsSafe m a
  by [] course plain were begun unsilent = absurd (running (ap (λ (x : Machine). x.last) begun.2))
  by (s ∷ earlier) course plain were begun unsilent = go w.seen where
    w : Watched IsLooked (s ∷ earlier) m a
    w = watched_looked (s ∷ earlier) m a small course begun.0 plain were l.whole

    go : IsEnded m ⊎ (IsLooked (s ∷ earlier) m a ⊎ IsToCome m a) → IsSafe m a
    go (inl ends) = inl ends
    go (inr (inl (inl silent))) = unsilent a used silent
    go (inr (inl (inr counts))) = inr counts
    go (inr (inr comes)) = by_last m.last refl where
      never : IsReady m → IsSafe m a
      never ready =
          let early : m.course.opened ≡ false = (counting_ready m comes.0 comes.1 ready).opened in
          absurd (let both : true ≡ false = sym opened ∙ early in cc)

      by_last : (last : Option Order) → m.last ≡ last → IsSafe m a
      by_last None is = absurd (running is)
      by_last (Some (Put p f)) is = never (sending_of m p f is l.whole).ready
      by_last (Some (Commit x)) is = never (storing_of m x is l.whole)
      by_last (Some (Done e)) is = inl (inl (e, is))
      by_last (Some (Halt why)) is = inl (inr (why, is))

-- and it stays so
safe_acted : (m : Machine) (i : Input) (o : Order) (a : ℕ) → a < 64 → accepts (due_after m.last) i ≡ true → IsGiven m i o
    → IsPlain (stage_of (machine_told m i).trace) → IsSafe m a → IsSafe (machine_after m i o) a
safe_acted m i o a small waits given plain (inl ends) = absurd (over_ends m.last i ends waits)
safe_acted m i o a small waits given plain (inr counts) =
    inr (accounted_stays (record { before = m; told = i; order = o }) (machine_after m i o) a small
    (record { due = waits; given = given; after = refl }) plain counts)

pub unstarted_unopened : (m : Machine) → m.last ≡ None → IsWhole m → m.course.opened ≡ true → ⊥
unstarted_unopened m = go m.last where
  early : (m : Machine) → IsUnstarted m → m.course.opened ≡ false
  early m u =
      let knows : Knows m.course.way m.kept m.course.number m.course.search m.course.ascent m.course.opened Opening =
      subst (λ p. Knows m.course.way m.kept m.course.number m.course.search m.course.ascent m.course.opened p) u.opening u.ready.knows in
      subst (λ y. IsOpenedOn y m.course.opened) u.fresh knows

  go : (l : Option Order) → l ≡ None → Pending m l → m.course.opened ≡ true → ⊥
  go None e w opened = let never : true ≡ false = sym opened ∙ early m w in cc
  go (Some o) e w opened = cc

pub lives_acted : (U : ℕ → Type 0) (z : Block) (n : ℕ → ℕ) (k : Controller) (m : Machine) (i : Input) (o : Order) → ((a : ℕ) → U a → a < 64) → Lives U z n k m
    → IsDue k i → (i ≡ input.Start → ⊥) → accepts (due_after m.last) i ≡ true → IsGiven m i o → IsWhole (machine_after m i o)
    → Lives U z n (controller_acted k i o) (machine_after m i o)
lives_acted U z n k m i o below l due unstarted waits given whole = record {
  life = record {
    steps = (record { before = m; told = i; order = o }) ∷ l.steps;
    course = (l.course, record { due = waits; given = given; after = refl });
    plain = (plain, l.plain);
    were = (l.whole, l.were);
    whole = whole;
    begun = begun_on m i o l.steps l.begun unstarted waits;
    read = ordered_read (machine_told m i) o (told_read U z n k m i l due);
    unsilent = λ a used silent. go a used silent;
    block = told_block m i ∙ l.block;
  };
  counted =
      counted_on U n m i o waits given l.whole (λ h f is put b purpose at silent used. answered U z n k m h f l
      (subst (λ j. IsDue k j) is due) put b purpose at silent used) l.counted;
  few = λ a used. few_on a used m.course.opened refl;
  last = refl;
  told = tt;
} where
  plain : IsPlain (stage_of (machine_told m i).trace)
  plain = read_plain (stage_of (machine_told m i).trace) (told_read U z n k m i l due)

  stays : (a : ℕ) → U a → IsSafe m a → IsSafe (machine_after m i o) a
  stays a used safe = safe_acted m i o a (below a used) waits given plain safe

  few_on : (a : ℕ) → U a → (b : Bool) → m.course.opened ≡ b → IsFewAt n (machine_after m i o) a
  few_on a used true is = inr (stays a used (safe_opened U z n k m a l (λ none. unstarted_unopened m none l.whole is) used (below a used) is))
  few_on a used false is = by (l.few a used) where
    by : IsFewAt n m a → IsFewAt n (machine_after m i o) a
    by (inl few) = inl (λ early. few is)
    by (inr safe) = inr (stays a used safe)

  go : (a : ℕ) → U a → FallsSilent (record { before = m; told = i; order = o }) a ⊎ WasSilent l.steps a → IsSafe (machine_after m i o) a
  go a used (inl falls) = stays a used (asked_silent U z n k m i o a l due used falls)
  go a used (inr before) = stays a used (l.unsilent a used before)

-- ---------------------------------------------------------------- it would reserve none of their addresses

start_free : (m : Machine) → m.last ≡ None → IsWhole m → stage_of m.trace ≡ stage.Free
start_free m = go m.last where
  go : (l : Option Order) → l ≡ None → Pending m l → stage_of m.trace ≡ stage.Free
  go None e w = w.free
  go (Some o) e w = absurd (cc)

commit_free : (m : Machine) (last : Option Order) → m.last ≡ last → IsCommit last → IsWhole m → stage_of m.trace ≡ stage.Free
commit_free m last is commit whole = go last commit (subst (Pending m) is whole) where
  go : (l : Option Order) → IsCommit l → Pending m l → stage_of m.trace ≡ stage.Free
  go (Some (Commit x)) c w = w.free
  go _ c w = absurd c

free_reserves : (t : Machine) (a r : ℕ) → stage_of t.trace ≡ stage.Free → MayCommit t (Reserve a r) → ⊥
free_reserves t a r free may = no_reservation t stage.Free a r free (λ n e. cc) may

heard_reserves : (U : ℕ → Type 0) (z : Block) (n : ℕ → ℕ) (k : Controller) (m : Machine) (h : Answer) (a r : ℕ) → Lives U z n k m
    → k.told ≡ Some (input.Heard h) → ((b : ℕ) → U b → b < 64) → (InBlock z a → U a) → IsGiven m (input.Heard h) (Commit (Reserve a r)) → ⊥
heard_reserves U z n k m h a r l due below its given = by l.steps l.course l.plain l.were l.begun l.unsilent where
  heard : (f : Forward) × (frame_put m.last ≡ Some f) × IsWellHeard U n m.course.opened m.asked f h
  heard = heard_of U z n k m h l due

  put : (p : ℕ) × (m.last ≡ Some (Put p heard.0))
  put = put_of_frame m.last heard.0 heard.1

  used : U a
  used = its (subst (λ b. InBlock b a) (told_block m (input.Heard h) ∙ l.block) given.answered.allowed.fits.0)

  small : a < 64
  small = below a used

  waits : accepts (due_after m.last) (input.Heard h) ≡ true
  waits = ap (λ o. accepts (due_after o) (input.Heard h)) put.1

  step : Step
  step = record { before = m; told = input.Heard h; order = Commit (Reserve a r) }

  next : Machine
  next = machine_after m (input.Heard h) (Commit (Reserve a r))

  by : (steps : List Step) → IsCourse steps m → ArePlain steps → AreWhole steps → HasBegun steps m → ((b : ℕ) → U b → WasSilent steps b → IsSafe m b) → ⊥
  by [] course plain were begun unsilent =
      let none : m.last ≡ None = ap (λ (x : Machine). x.last) begun.2 in
      let never : None ≡ Some (Put put.0 heard.0) = sym none ∙ put.1 in cc
  by (s ∷ earlier) course plain were begun unsilent = go w.seen where
    w : Watched IsLooked (s ∷ earlier) m a
    w = watched_looked (s ∷ earlier) m a small course begun.0 plain were l.whole

    taken : IsTaken step next
    taken = record { due = waits; given = given; after = refl }

    surveyed : next.course.way ≡ Fresh → ⊥
    surveyed = ordered_surveyed (machine_told m (input.Heard h)) (Commit (Reserve a r)) (told_surveyed m (input.Heard h) begun.1)

    purpose : (b : ℕ) → m.course.purpose ≡ Asking b → (machine_told m (input.Heard h)).course.purpose ≡ Asking b
    purpose b asks = ap (λ (t : Machine). t.course.purpose) (heard_is m h heard.0 heard.1) ∙ asks

    safe : IsSafe m a → ⊥
    safe (inl ends) = over_ends m.last (input.Heard h) ends waits
    safe (inr counts) =
        unreserved step next a r taken refl surveyed (accounted_stays step next a small taken
        (read_plain (stage_told step) (told_read U z n k m (input.Heard h) l due)) counts)

    go : IsEnded m ⊎ (IsLooked (s ∷ earlier) m a ⊎ IsToCome m a) → ⊥
    go (inl ends) = over_ends m.last (input.Heard h) ends waits
    go (inr (inl (inl silent))) = safe (unsilent a used silent)
    go (inr (inl (inr counts))) = safe (inr counts)
    go (inr (inr comes)) = unreserved_on m (input.Heard h) comes.0 a r w.running waits given l.whole w.alone (purpose comes.0 comes.1)

reserves_none : (U : ℕ → Type 0) (z : Block) (n : ℕ → ℕ) (k : Controller) (m : Machine) (i : Input) (a r : ℕ) → Lives U z n k m → IsDue k i
    → ((b : ℕ) → U b → b < 64) → (InBlock z a → U a) → IsGiven m i (Commit (Reserve a r)) → ⊥
reserves_none U z n k m (input.Heard h) a r l due below its given = heard_reserves U z n k m h a r l due below its given
reserves_none U z n k m input.Start a r l due below its given =
    let none : k.last ≡ None = subst (λ t. IsFair U n m.course.opened m.asked k.last t) due l.told in
    free_reserves m a r (start_free m (l.last ∙ none) l.whole) given.answered.allowed
reserves_none U z n k m input.Survey a r l due below its given =
    let none : k.last ≡ None = subst (λ t. IsFair U n m.course.opened m.asked k.last t) due l.told in
    free_reserves (machine_told m input.Survey) a r (start_free m (l.last ∙ none) l.whole) given.answered.allowed
reserves_none U z n k m input.Destroyed a r l due below its given = free_reserves (machine_told m input.Destroyed) a r stage_none given.answered.allowed
reserves_none U z n k m input.Lapsed a r l due below its given = free_reserves (machine_told m input.Lapsed) a r stage_none given.answered.allowed
reserves_none U z n k m input.Committed a r l due below its given =
    free_reserves (machine_told m input.Committed) a r (go (record_ordered m.last)) given.answered.allowed
  where
    go : (x : Option Record) → stage_of (machine_committed m x).trace ≡ stage.Free
    go None = commit_free m k.last l.last due l.whole
    go (Some x) = commit_free m k.last l.last due l.whole
reserves_none U z n k m input.CommitFailed a r l due below its given = let other = given.answered in cc

pub leaves_used : (U : ℕ → Type 0) (z : Block) (n : ℕ → ℕ) (us : List Used) (k : Controller) (m : Machine) (i : Input) (o : Order) → ((a : ℕ) → U a → a < 64)
    → ((a : ℕ) → InBlock z a → Has (used_shorts us) a → U a) → Lives U z n k m → IsDue k i → IsGiven m i o → ReservesUsed us o → ⊥
leaves_used U z n us k m i (Commit (Reserve a r)) below its l due given used = reserves_none U z n k m i a r l due below (λ within. its a within used) given
leaves_used U z n us k m i _ below its l due given used = used
