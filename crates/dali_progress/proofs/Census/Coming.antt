use Rattle.dali_progress.proofs.Below.{◌≡◌, ℕ, ◌+◌, ◌<◌, ◌≤◌, ◌⊎◌, inl, inr, Bool, true, false, List, [], ◌∷◌, refl, sym, ap, subst, ◌∙◌, arith, Option, Some}
use Rattle.dali_progress.proofs.Below.{None, ◌==◌, ◌-◌, ◌||◌, nat_lt, not, zero, suc, is_some, MatchOption, if◌then◌else◌, nat_tests, AllByRecursion, FIRST}
use Rattle.dali_progress.proofs.Below.{LATER, number_of, Answer, Silence, Byte, Damaged, Forward, command_of, due_after, accepts, frame_put, record_ordered}
use Rattle.dali_progress.proofs.Below.{finding_of, Kept, Has, HasAddress, stage_of, next_stage, leads, given, byte_heard, bytes_heard, number_heard, finding_at}
use Rattle.dali_progress.proofs.Below.{End, Fault, Input, Order, Put, Commit, Done, Halt, Record, Reserve, Enrol, Stage, finding_after, stage_more, stage_none}
use Rattle.dali_progress.proofs.Below.{lawful_follows, Course, number_at, is_asked, asked_among, next_asked, going_on, going_on_early, ask_or_call, Machine}
use Rattle.dali_progress.proofs.Below.{at_first, machine_told, machine_heard, machine_committed, asked_at, asked_after, asked_after_silence, next_course}
use Rattle.dali_progress.proofs.Below.{begins_at, goes_on_to, at_rest, asked_once, course_by, course_on, IsGiven, IsAllowed, MayCommit, machine_after}
use Rattle.dali_progress.proofs.Below.{machine_ordered, asked_by, IsWhole, IsReady, IsSending, Pending, Sends, Purpose, Asking, Surveying, found_number}
use Rattle.dali_progress.proofs.Below.{unwarranted, IsSurveyed, BeginsBySurvey, AreWhole, Step, IsTaken, IsCourse, IsPlain, ArePlain, stage_told}
use Rattle.dali_progress.proofs.{Accounted.{unreserved, told_keeps}, Census.{Asked.{by_order, Asks, asks_of, self, sending_of, by_kind}, Course.IsAlone}}
use Rattle.dali_progress.proofs.{Census.Course.{alone_after, put_is, commit_is, started, runs_after}, Later.{IsUnasked, asking_unasked, stays_at, some_same}}
use Rattle.dali_controller.specs.Whole.{Knows}
use Rattle.dali_script.specs.declared.orders.Fault.TheVariants as fault
use Rattle.dali_script.specs.declared.orders.Input.TheVariants as input
use Rattle.dali_script.specs.declared.stage.Stage.TheVariants as stage

-- WHAT A CENSUS SEES of a short address: until it was asked, or the table names it, it is still to come.

-- ---------------------------------------------------------------- which address is asked next

-- what holds of no number from one on holds of that one neither
pub from_next : (has : ℕ → Bool) (from a : ℕ) → from ≤ a → has from ≡ false → (from + 1 ≤ a → has a ≡ false) → has a ≡ false
from_next has from a low is more = go (from == a) refl where
  go : (t : Bool) → (from == a) ≡ t → has a ≡ false
  go true same = subst (λ c. has c ≡ false) (let at : from ≡ a = grind (arith, nat_tests, same) in at) is
  go false other = let apart : from ≡ a → ⊥ = grind (arith, nat_tests, other) in more (omega (arith, low, apart))

pub asked_later : (k : Kept) (n from : ℕ) → asked_among k n from ≡ None → (a : ℕ) → from ≤ a → a < from + n → is_asked k a ≡ false
asked_later k zero from none a low high = absurd (omega (arith, low, high))
asked_later k (suc n) from none a low high = go (is_asked k from) refl none (asked_later k n (from + 1)) where
  go : (b : Bool) → is_asked k from ≡ b → (if b then Some from else asked_among k n (from + 1)) ≡ None
      → (asked_among k n (from + 1) ≡ None → (c : ℕ) → from + 1 ≤ c → c < (from + 1) + n → is_asked k c ≡ false) → is_asked k a ≡ false
  go true is e more = absurd (cc)
  go false is e more = from_next (is_asked k) from a low is (λ up. more e a up (omega (arith, high)))

pub asked_before : (k : Kept) (n from c : ℕ) → asked_among k n from ≡ Some c → (a : ℕ) → from ≤ a → a < c → is_asked k a ≡ false
asked_before k zero from c some a low high = absurd (cc)
asked_before k (suc n) from c some a low high = go (is_asked k from) refl some (asked_before k n (from + 1) c) where
  go : (b : Bool) → is_asked k from ≡ b → (if b then Some from else asked_among k n (from + 1)) ≡ Some c
      → (asked_among k n (from + 1) ≡ Some c → (d : ℕ) → from + 1 ≤ d → d < c → is_asked k d ≡ false) → is_asked k a ≡ false
  go true is e more = absurd (let same : from ≡ c = cc in omega (arith, low, high, same))
  go false is e more = from_next (is_asked k) from a low is (λ up. more e a up high)

-- who is not asked is enrolled
pub unasked_enrolled : (k : Kept) (a : ℕ) → is_asked k a ≡ false → (r : ℕ) × Has k.enrolled (a, r)
unasked_enrolled k a none = go (number_at k.enrolled a) (is_some (number_at k.reserved a)) (found_number k.enrolled a) none where
  go : (o : Option ℕ) (reserved : Bool) → MatchOption o (HasAddress k.enrolled a → ⊥) (λ r. Has k.enrolled (a, r)) → (not (is_some o) || reserved) ≡ false
      → (r : ℕ) × Has k.enrolled (a, r)
  go (Some r) reserved has e = (r, has)
  go None reserved has e = absurd (cc)

-- ---------------------------------------------------------------- who was looked at, and who is to come

-- the table names it
abbrev pub IsTabled : Machine → ℕ → Type 0
IsTabled n a = (r : ℕ) × Has n.kept.enrolled (a, r)

-- it comes later, or it is asked now
abbrev pub IsToCome : Machine → ℕ → Type 0
IsToCome n a = (b : ℕ) × (n.course.purpose ≡ Asking b) × ((n.course.from ≤ a) ⊎ ((b ≡ a) × ((x : Record) → n.last ≡ Some (Commit x) → ⊥)))

abbrev pub IsEnded : Machine → Type 0
IsEnded n = ((e : End) × (n.last ≡ Some (Done e))) ⊎ ((w : Fault) × (n.last ≡ Some (Halt w)))

abbrev pub IsSeen : Machine → ℕ → Type 0
IsSeen n a = IsEnded n ⊎ (IsTabled n a ⊎ IsToCome n a)

-- a transaction that begins: the next short address is asked, or all are accounted for
pub begins_on : (t : Machine) (f : Forward) (a : ℕ) → a < 64 → t.course.way ≡ Surveying → t.course.opened ≡ false → t.course.from ≤ a
    → next_course t ≡ goes_on_to t → IsTabled (machine_ordered t (Put FIRST f)) a ⊎ IsToCome (machine_ordered t (Put FIRST f)) a
begins_on t f a small surveys opened low on =
    go (next_asked t.kept t.course.from) (on ∙ course) (asked_later t.kept (64 - t.course.from) t.course.from)
    (asked_before t.kept (64 - t.course.from) t.course.from) where
      course : goes_on_to t ≡ ask_or_call t.course (next_asked t.kept t.course.from)
      course = ap (λ b. going_on t.kept b t.course) opened ∙ ap (λ y. going_on_early t.kept y t.course) surveys

      go : (o : Option ℕ) → next_course t ≡ ask_or_call t.course o
          → (o ≡ None → (c : ℕ) → t.course.from ≤ c → c < t.course.from + (64 - t.course.from) → is_asked t.kept c ≡ false)
          → ((d : ℕ) → o ≡ Some d → (c : ℕ) → t.course.from ≤ c → c < d → is_asked t.kept c ≡ false)
          → IsTabled (machine_ordered t (Put FIRST f)) a ⊎ IsToCome (machine_ordered t (Put FIRST f)) a
      go None is none some = inl ((unasked_enrolled t.kept a (none refl a low (omega (arith, low, small)))))
      go (Some d) is none some = by (nat_lt a d) refl where
        by : (b : Bool) → nat_lt a d ≡ b → IsTabled (machine_ordered t (Put FIRST f)) a ⊎ IsToCome (machine_ordered t (Put FIRST f)) a
        by true less = inl ((unasked_enrolled t.kept a (some d refl a low (let under : a < d = grind (arith, nat_tests) in under))))
        by false over = inr (d, ap (λ c. c.purpose) is, here (d == a) refl) where
          here : (b : Bool) → (d == a) ≡ b
              → ((next_course t).from ≤ a) ⊎ ((d ≡ a) × ((x : Record) → (machine_ordered t (Put FIRST f)).last ≡ Some (Commit x) → ⊥))
          here true same = inr ((let at : d ≡ a = grind (arith, nat_tests) in at), λ x e. cc)
          here false other =
              let apart : d ≡ a → ⊥ = grind (arith, nat_tests) in
              let past : a < d → ⊥ = grind (arith, nat_tests) in
              inl (subst (λ (c : Course). c.from ≤ a) (sym is) (omega (arith, apart, past)))

-- ---------------------------------------------------------------- a question that is heard

pub none_found : finding_of [] ≡ None
none_found = refl

-- if nothing is found, and no gear answered MASK, no record is ordered
pub no_record : (t : Machine) (s : Stage) (x : Record) → stage_of t.trace ≡ s → ((n : _) → s ≡ stage.Unnamed n → ⊥) → finding_of t.trace ≡ None
    → ((b n : ℕ) → t.last ≡ Some (Commit (Enrol b n)) → ⊥) → MayCommit t x → ⊥
no_record t s x at named none last may = unwarranted t x (λ n e. named n (sym at ∙ e)) none last may.warranted

-- nor is an address reserved while a short address is asked
pub no_reservation : (t : Machine) (s : Stage) (c r : ℕ) → stage_of t.trace ≡ s → ((n : _) → s ≡ stage.Unnamed n → ⊥) → MayCommit t (Reserve c r) → ⊥
no_reservation t s c r at named may = named may.warranted.0 (sym at ∙ may.warranted.1)

-- WHAT A MACHINE KNOWS that has just heard what came of a question to address b
pub record Hearing (m t : Machine) (b : ℕ) (h : Answer) : Type 0 where
  pub course : t.course ≡ m.course
  pub last : t.last ≡ m.last
  pub opened : t.course.opened ≡ false
  pub finding : finding_of t.trace ≡ finding_at (stage_of t.trace)
  pub at : ((stage_of t.trace ≡ stage.HighAsked b (byte_heard h)) × (t.asked ≡ asked_at (stage.HighAsked b (byte_heard h)) h m.asked))
      ⊎ (((y : Option (ℕ × ℕ)) × (stage_of t.trace ≡ stage.MiddleAsked b y)) ⊎ ((y : Option ℕ) × (stage_of t.trace ≡ stage.Spelled b y)))
  pub clean : (v : ℕ) → h ≡ Byte v → (stage_of t.trace ≡ stage.HighAsked b (Some v))
      ⊎ (((y : ℕ × ℕ) × (stage_of t.trace ≡ stage.MiddleAsked b (Some y))) ⊎ ((r : ℕ) × (stage_of t.trace ≡ stage.Spelled b (Some r))))

pub record Counting (m : Machine) (b : ℕ) : Type 0 where
  pub way : m.course.way ≡ Surveying
  pub opened : m.course.opened ≡ false

pub counting_ready : (m : Machine) (b : ℕ) → m.course.purpose ≡ Asking b → IsReady m → Counting m b
counting_ready m b purpose ready =
    let knows = subst (λ q. Knows m.course.way m.kept m.course.number m.course.search m.course.ascent m.course.opened q) purpose ready.knows in
    record { way = knows.1; opened = knows.0 }

pub storing_of : (m : Machine) (x : Record) → m.last ≡ Some (Commit x) → IsWhole m → IsReady m
storing_of m x = go m.last where
  go : (l : Option Order) → l ≡ Some (Commit x) → Pending m l → IsReady m
  go None e w = absurd (cc)
  go (Some (Put q g)) e w = absurd (cc)
  go (Some (Commit y)) e w = w.ready
  go (Some (Done y)) e w = absurd (cc)
  go (Some (Halt y)) e w = absurd (cc)

pub hearing_of : (m : Machine) (h : Answer) (p : ℕ) (f : Forward) (b : ℕ) → m.course.purpose ≡ Asking b → m.last ≡ Some (Put p f) → IsWhole m
    → Hearing m (machine_heard m (Some f) h) b h
hearing_of m h p f b purpose last whole = go (asks_of m.kept m.course.number b (stage_of m.trace) (command_of f) sends) where
  sending : IsSending m f
  sending = sending_of m p f last whole

  counting : Counting m b
  counting = counting_ready m b purpose sending.ready

  sends : Sends m.kept m.course.number (Asking b) (stage_of m.trace) (command_of f)
  sends = subst (λ q. Sends m.kept m.course.number q (stage_of m.trace) (command_of f)) purpose sending.sends

  at : stage_of (machine_heard m (Some f) h).trace ≡ next_stage (stage_of m.trace) (command_of f) h
  at = stage_more m.trace (record { frame = f; heard = h })

  found : is_some (leads (stage_of m.trace) (command_of f) Silence) ≡ true → given (stage_of m.trace) (command_of f) ≡ None
      → finding_of (machine_heard m (Some f) h).trace ≡ finding_at (stage_of (machine_heard m (Some f) h).trace)
  found on none =
      finding_after m.kept.block m.kept.reserved m.trace (record { frame = f; heard = h })
      (lawful_follows m.kept.block m.kept.reserved m.trace f (record { leads_on = on; may = rw none tt }))

  go : Asks b (stage_of m.trace) (command_of f) → Hearing m (machine_heard m (Some f) h) b h
  go (inl (free, high)) =
      let next : next_stage (stage_of m.trace) (command_of f) h ≡ stage.HighAsked b (byte_heard h) = rw (free, high) refl in
      record {
        course = refl;
        last = refl;
        opened = counting.opened;
        finding = found (rw (free, high) refl) (rw free refl);
        at = inl (at ∙ next, rw (purpose, at ∙ next) refl);
        clean = λ v is. inl (at ∙ next ∙ ap (λ k. stage.HighAsked b (byte_heard k)) is);
      }
  go (inr (inl (c, x, same, middle, here))) =
      let next : next_stage (stage_of m.trace) (command_of f) h ≡ stage.MiddleAsked b (bytes_heard (Some x) h) = rw (same, middle, self c, here) refl in
      record {
        course = refl;
        last = refl;
        opened = counting.opened;
        finding = found (rw (same, middle, self c) refl) (rw same refl);
        at = inr (inl (bytes_heard (Some x) h, at ∙ next));
        clean = λ v is. inr (inl ((x, v), at ∙ next ∙ ap (λ k. stage.MiddleAsked b (bytes_heard (Some x) k)) is));
      }
  go (inr (inr (c, x, same, low, here))) =
      let next : next_stage (stage_of m.trace) (command_of f) h ≡ stage.Spelled b (number_heard (Some x) h) = rw (same, low, self c, here) refl in
      record {
        course = refl;
        last = refl;
        opened = counting.opened;
        finding = found (rw (same, low, self c) refl) (rw same refl);
        at = inr (inr (number_heard (Some x) h, at ∙ next));
        clean = λ v is. inr (inr (number_of x.0 x.1 v, at ∙ next ∙ ap (λ k. stage.Spelled b (number_heard (Some x) k)) is));
      }

-- ---------------------------------------------------------------- a step while it counts

-- the next course is the same, or that of the next short address
abbrev pub StaysOrGoes : Machine → Type 0
StaysOrGoes t = (next_course t ≡ t.course) ⊎ (next_course t ≡ goes_on_to t)

-- an address that comes later
pub ahead : (t : Machine) (a b : ℕ) → a < 64 → t.course.purpose ≡ Asking b → t.course.way ≡ Surveying → t.course.opened ≡ false → t.course.from ≤ a
    → IsUnasked (stage_of t.trace) t.course.purpose → StaysOrGoes t → (o : Order) → IsAllowed t o → IsSeen (machine_ordered t o) a
ahead t a b small purpose surveys opened low unasked next =
    by_order t (λ o. IsSeen (machine_ordered t o) a) (λ f. first f next)
    (λ f running. inr (inr (b, ap (λ c. c.purpose) stays ∙ purpose, inl (subst (λ (c : Course). c.from ≤ a) (sym stays) low))))
    (λ x. inr (inr (b, purpose, inl low))) (λ e. inl (inl (e, refl))) (λ w. inl (inr (w, refl))) where
      stays : course_on t (stage_of t.trace) ≡ t.course
      stays = stays_at t (stage_of t.trace) unasked

      first : (f : Forward) → StaysOrGoes t → IsSeen (machine_ordered t (Put FIRST f)) a
      first f (inl same) = inr (inr (b, ap (λ c. c.purpose) same ∙ purpose, inl (subst (λ (c : Course). c.from ≤ a) (sym same) low)))
      first f (inr goes) = inr (begins_on t f a small surveys opened low goes)

-- the one that is asked, if the question is put again
pub again : (t : Machine) (a b : ℕ) (s : Stage) → t.course.purpose ≡ Asking b → b ≡ a → next_course t ≡ t.course → stage_of t.trace ≡ s
    → ((n : _) → s ≡ stage.Unnamed n → ⊥) → finding_of t.trace ≡ None → ((c n : ℕ) → t.last ≡ Some (Commit (Enrol c n)) → ⊥)
    → ((f : Forward) → (t.trace ≡ [] → ⊥) → IsWhole (machine_ordered t (Put LATER f)) → ⊥) → (o : Order) → IsAllowed t o → IsWhole (machine_ordered t o)
    → IsEnded (machine_ordered t o) ⊎ IsToCome (machine_ordered t o) a
again t a b s purpose here same at named none last later =
    by_kind t (λ o. IsWhole (machine_ordered t o) → IsEnded (machine_ordered t o) ⊎ IsToCome (machine_ordered t o) a)
    (λ f whole. inr (b, ap (λ c. c.purpose) same ∙ purpose, inr (here, λ x e. cc))) (λ f running whole. absurd (later f running whole))
    (λ x may whole. absurd (no_record t s x at named none last may)) (λ e whole. inl (inl (e, refl))) (λ w whole. inl (inr (w, refl)))

-- ---------------------------------------------------------------- a course

-- WHAT IS SEEN OF A SHORT ADDRESS along a course from a survey: L holds of it, or it is to come, or the machine has ended
pub record Watched (L : List Step → Machine → ℕ → Type 0) (steps : List Step) (n : Machine) (a : ℕ) : Type 0 where
  pub running : n.last ≡ None → ⊥
  pub alone : IsAlone n
  pub asked : n.asked ≤ 2
  pub unreserving : (b : ℕ) → n.course.purpose ≡ Asking b → (c r : ℕ) → n.last ≡ Some (Commit (Reserve c r)) → ⊥
  pub seen : IsEnded n ⊎ (L steps n a ⊎ IsToCome n a)

silence_small : (k : ℕ) → asked_after_silence k ≤ 2
silence_small zero = omega arith
silence_small (suc zero) = omega arith
silence_small (suc (suc k)) =
    let past : nat_lt (suc (suc k)) 2 ≡ false = grind (arith, nat_tests) in
    rw past (omega arith)

asked_at_small : (s : Stage) (h : Answer) (k : ℕ) → asked_at s h k ≤ 2
asked_at_small (stage.HighAsked a None) Silence k = silence_small k
asked_at_small (stage.HighAsked a None) (Byte v) k = omega arith
asked_at_small (stage.HighAsked a None) Damaged k = omega arith
asked_at_small _ h k = omega arith

asked_after_small : (p : Purpose) (s : Stage) (h : Answer) (k : ℕ) → k ≤ 2 → asked_after p s h k ≤ 2
asked_after_small (Asking a) s h k small = asked_at_small s h k
asked_after_small _ s h k small = omega arith

told_small : (m : Machine) (i : Input) → m.asked ≤ 2 → (machine_told m i).asked ≤ 2
told_small m i small =
    told_keeps (λ t. t.asked ≤ 2) m i small small (λ f h. asked_after_small m.course.purpose (stage_of (machine_heard m (Some f) h).trace) h m.asked small)
    small (λ x. small)

asked_small : (opened : Bool) (n : ℕ) → n ≤ 2 → asked_by opened n ≤ 2
asked_small true n small = omega arith
asked_small false n small = small

-- no stage of a question is one after MASK was answered
hears_no_mask : (m t : Machine) (b : ℕ) (h : Answer) (c r : ℕ) → Hearing m t b h → MayCommit t (Reserve c r) → ⊥
hears_no_mask m t b h c r hears may = go hears.at where
  go : ((stage_of t.trace ≡ stage.HighAsked b (byte_heard h)) × (t.asked ≡ asked_at (stage.HighAsked b (byte_heard h)) h m.asked))
      ⊎ (((y : Option (ℕ × ℕ)) × (stage_of t.trace ≡ stage.MiddleAsked b y)) ⊎ ((y : Option ℕ) × (stage_of t.trace ≡ stage.Spelled b y))) → ⊥
  go (inl is) = no_reservation t (stage.HighAsked b (byte_heard h)) c r is.0 (λ n e. cc) may
  go (inr (inl is)) = no_reservation t (stage.MiddleAsked b is.0) c r is.1 (λ n e. cc) may
  go (inr (inr is)) = no_reservation t (stage.Spelled b is.0) c r is.1 (λ n e. cc) may

free_no_mask : (t : Machine) (c r : ℕ) → t.trace ≡ [] → MayCommit t (Reserve c r) → ⊥
free_no_mask t c r free may = no_reservation t stage.Free c r (ap stage_of free ∙ stage_none) (λ n e. cc) may

-- while a short address is asked nothing is reserved
pub unreserved_on : (m : Machine) (i : Input) (b c r : ℕ) → (m.last ≡ None → ⊥) → accepts (due_after m.last) i ≡ true → IsGiven m i (Commit (Reserve c r))
    → IsWhole m → IsAlone m → (machine_told m i).course.purpose ≡ Asking b → ⊥
unreserved_on m input.Start b c r running due given whole alone purpose = running (started m.last input.Start refl due)
unreserved_on m input.Survey b c r running due given whole alone purpose = running (started m.last input.Survey refl due)
unreserved_on m (input.Heard h) b c r running due given whole alone purpose =
    let put = put_is m.last (input.Heard h) refl due in
    let told : machine_told m (input.Heard h) ≡ machine_heard m (Some put.1) h = ap (λ l. machine_heard m (frame_put l) h) put.2 in
    let asks : m.course.purpose ≡ Asking b = ap (λ (t : Machine). t.course.purpose) (sym told) ∙ purpose in
    hears_no_mask m (machine_heard m (Some put.1) h) b h c r (hearing_of m h put.0 put.1 b asks put.2 whole)
    (subst (λ t. MayCommit t (Reserve c r)) told given.answered.allowed)
unreserved_on m input.Destroyed b c r running due given whole alone purpose = free_no_mask (machine_told m input.Destroyed) c r refl given.answered.allowed
unreserved_on m input.Lapsed b c r running due given whole alone purpose = free_no_mask (machine_told m input.Lapsed) c r refl given.answered.allowed
unreserved_on m input.Committed b c r running due given whole alone purpose =
    let kept = commit_is m.last due in
    let told : machine_told m input.Committed ≡ machine_committed m (Some kept.0) = ap (λ l. machine_committed m (record_ordered l)) kept.1 in
    free_no_mask (machine_committed m (Some kept.0)) c r (alone kept.0 kept.1) (subst (λ t. MayCommit t (Reserve c r)) told given.answered.allowed)
unreserved_on m input.CommitFailed b c r running due given whole alone purpose = let other = given.answered in cc

unreserving_after : (m : Machine) (i : Input) (o : Order) → (m.last ≡ None → ⊥) → accepts (due_after m.last) i ≡ true → IsGiven m i o → IsWhole m → IsAlone m
    → (b : ℕ) → (machine_after m i o).course.purpose ≡ Asking b → (c r : ℕ) → (machine_after m i o).last ≡ Some (Commit (Reserve c r)) → ⊥
unreserving_after m i o running due given whole alone b purpose c r last =
    let is : o ≡ Commit (Reserve c r) = some_same o (Commit (Reserve c r)) last in
    unreserved_on m i b c r running due (subst (λ q. IsGiven m i q) is given) whole alone
    (subst (λ q. (machine_after m i q).course.purpose ≡ Asking b) is purpose)

-- a short address that is to come, after one more step: its question was heard, or it is still to come
abbrev ComesNext : Machine → Input → Order → ℕ → ℕ → Type 0
ComesNext m i o a b = ((h : Answer) × (i ≡ input.Heard h) × (b ≡ a)) ⊎ (IsSeen (machine_after m i o) a)

begins_by_stage : (t : Machine) (b : ℕ) (h : Answer) (m : Machine) → Hearing m t b h → StaysOrGoes t
begins_by_stage t b h m hears = go hears.at where
  once : (e : Bool) → (asked_once t e ≡ t.course) ⊎ (asked_once t e ≡ goes_on_to t)
  once true = inr refl
  once false = inl refl

  go : ((stage_of t.trace ≡ stage.HighAsked b (byte_heard h)) × (t.asked ≡ asked_at (stage.HighAsked b (byte_heard h)) h m.asked))
      ⊎ (((y : Option (ℕ × ℕ)) × (stage_of t.trace ≡ stage.MiddleAsked b y)) ⊎ ((y : Option ℕ) × (stage_of t.trace ≡ stage.Spelled b y))) → StaysOrGoes t
  go (inl is) = by (once (t.asked == 0)) where
    by : (asked_once t (t.asked == 0) ≡ t.course) ⊎ (asked_once t (t.asked == 0) ≡ goes_on_to t) → StaysOrGoes t
    by (inl e) = inl (ap (begins_at t) is.0 ∙ e)
    by (inr e) = inr (ap (begins_at t) is.0 ∙ e)
  go (inr (inl is)) = inr (ap (begins_at t) is.1)
  go (inr (inr is)) = inr (ap (begins_at t) is.1)

-- while another one is asked
heard_next : (m : Machine) (h : Answer) (o : Order) (a b p : ℕ) (f : Forward) → a < 64 → m.course.purpose ≡ Asking b → m.last ≡ Some (Put p f)
    → IsGiven m (input.Heard h) o → IsWhole m → ((m.course.from ≤ a) ⊎ ((b ≡ a) × ((x : Record) → m.last ≡ Some (Commit x) → ⊥)))
    → ComesNext m (input.Heard h) o a b
heard_next m h o a b p f small purpose last given whole (inr (here, none)) = inl (h, refl, here)
heard_next m h o a b p f small purpose last given whole (inl low) =
    inr (subst (λ t. IsSeen (machine_ordered t o) a) (sym told) (ahead (machine_heard m (Some f) h) a b small purpose counts.way hears.opened low
    (asking_unasked (stage_of (machine_heard m (Some f) h).trace) m.course.purpose b purpose)
    (begins_by_stage (machine_heard m (Some f) h) b h m hears) o (subst (λ t. IsAllowed t o) told given.answered.allowed))) where
      told : machine_told m (input.Heard h) ≡ machine_heard m (Some f) h
      told = ap (λ l. machine_heard m (frame_put l) h) last

      hears : Hearing m (machine_heard m (Some f) h) b h
      hears = hearing_of m h p f b purpose last whole

      counts : Counting m b
      counts = counting_ready m b purpose (sending_of m p f last whole).ready

-- a question that was lost is put again
lost_next : (m t : Machine) (o : Order) (a b p : ℕ) (f : Forward) → a < 64 → m.course.purpose ≡ Asking b → m.last ≡ Some (Put p f) → IsWhole m
    → t.course ≡ m.course → t.last ≡ m.last → t.trace ≡ [] → IsAllowed t o → IsWhole (machine_ordered t o)
    → ((m.course.from ≤ a) ⊎ ((b ≡ a) × ((x : Record) → m.last ≡ Some (Commit x) → ⊥))) → IsSeen (machine_ordered t o) a
lost_next m t o a b p f small purpose last whole course same_last free may after which = go which where
  counts : Counting m b
  counts = counting_ready m b purpose (sending_of m p f last whole).ready

  at : stage_of t.trace ≡ stage.Free
  at = ap stage_of free ∙ stage_none

  same : next_course t ≡ t.course
  same = ap (begins_at t) at ∙ ap (at_rest t) (same_last ∙ last)

  asks : t.course.purpose ≡ Asking b
  asks = ap (λ c. c.purpose) course ∙ purpose

  go : (m.course.from ≤ a) ⊎ ((b ≡ a) × ((x : Record) → m.last ≡ Some (Commit x) → ⊥)) → IsSeen (machine_ordered t o) a
  go (inl low) =
      ahead t a b small asks (ap (λ (c : Course). c.way) course ∙ counts.way) (ap (λ (c : Course). c.opened) course ∙ counts.opened)
      (subst (λ (c : Course). c.from ≤ a) (sym course) low) (asking_unasked (stage_of t.trace) t.course.purpose b asks) (inl same) o may
  go (inr (here, none)) =
      by (again t a b stage.Free asks here same at (λ n e. cc) (ap finding_of free ∙ none_found)
      (λ c n e. let other : Some (Put p f) ≡ Some (Commit (Enrol c n)) = sym last ∙ (sym same_last ∙ e) in cc)
      (λ g running whole. absurd (running free)) o may after)
    where
      by : IsEnded (machine_ordered t o) ⊎ IsToCome (machine_ordered t o) a → IsSeen (machine_ordered t o) a
      by (inl ends) = inl ends
      by (inr comes) = inr (inr comes)

-- once a record is kept the next one is asked
kept_next : (m : Machine) (x : Record) (o : Order) (a b : ℕ) → a < 64 → m.course.purpose ≡ Asking b → m.last ≡ Some (Commit x) → IsWhole m → m.trace ≡ []
    → ((c r : ℕ) → x ≡ Reserve c r → ⊥) → IsAllowed (machine_committed m (Some x)) o
    → ((m.course.from ≤ a) ⊎ ((b ≡ a) × ((y : Record) → m.last ≡ Some (Commit y) → ⊥))) → IsSeen (machine_ordered (machine_committed m (Some x)) o) a
kept_next m x o a b small purpose last whole free unreserved may (inr (here, none)) = absurd (none x last)
kept_next m x o a b small purpose last whole free unreserved may (inl low) =
    ahead (machine_committed m (Some x)) a b small purpose counts.way counts.opened low (asking_unasked (stage_of m.trace) m.course.purpose b purpose)
    (inr (ap (begins_at (machine_committed m (Some x))) at ∙ ap (at_rest (machine_committed m (Some x))) last ∙ goes x unreserved)) o may where
      counts : Counting m b
      counts = counting_ready m b purpose (storing_of m x last whole)

      at : stage_of m.trace ≡ stage.Free
      at = ap stage_of free ∙ stage_none

      goes : (y : Record) → ((c r : ℕ) → y ≡ Reserve c r → ⊥)
          → at_rest (machine_committed m (Some x)) (Some (Commit y)) ≡ goes_on_to (machine_committed m (Some x))
      goes (Reserve c r) other = absurd (other c r refl)
      goes _ other = refl

comes_next : (m : Machine) (i : Input) (o : Order) (a b : ℕ) → a < 64 → (m.last ≡ None → ⊥) → m.course.purpose ≡ Asking b → accepts (due_after m.last) i ≡ true
    → IsGiven m i o → IsWhole m → IsAlone m → IsWhole (machine_after m i o) → ((c r : ℕ) → m.last ≡ Some (Commit (Reserve c r)) → ⊥)
    → ((m.course.from ≤ a) ⊎ ((b ≡ a) × ((x : Record) → m.last ≡ Some (Commit x) → ⊥))) → ComesNext m i o a b
comes_next m input.Start o a b small running purpose due given whole alone after unreserved which = absurd (running (started m.last input.Start refl due))
comes_next m input.Survey o a b small running purpose due given whole alone after unreserved which = absurd (running (started m.last input.Survey refl due))
comes_next m (input.Heard h) o a b small running purpose due given whole alone after unreserved which =
    let put = put_is m.last (input.Heard h) refl due in heard_next m h o a b put.0 put.1 small purpose put.2 given whole which
comes_next m input.Destroyed o a b small running purpose due given whole alone after unreserved which =
    let put = put_is m.last input.Destroyed refl due in
    inr (lost_next m (machine_told m input.Destroyed) o a b put.0 put.1 small purpose put.2 whole refl refl refl given.answered.allowed after which)
comes_next m input.Lapsed o a b small running purpose due given whole alone after unreserved which =
    let put = put_is m.last input.Lapsed refl due in
    inr (lost_next m (machine_told m input.Lapsed) o a b put.0 put.1 small purpose put.2 whole refl refl refl given.answered.allowed after which)
comes_next m input.Committed o a b small running purpose due given whole alone after unreserved which =
    let kept = commit_is m.last due in
    let told : machine_told m input.Committed ≡ machine_committed m (Some kept.0) = ap (λ l. machine_committed m (record_ordered l)) kept.1 in
    inr (subst (λ t. IsSeen (machine_ordered t o) a) (sym told)
    (kept_next m kept.0 o a b small purpose kept.1 whole (alone kept.0 kept.1) (λ c r is. unreserved c r (kept.1 ∙ ap (λ x. Some (Commit x)) is))
    (subst (λ t. IsAllowed t o) told given.answered.allowed) which))
comes_next m input.CommitFailed o a b small running purpose due given whole alone after unreserved which =
    inr (inl (inr (fault.Store, ap (λ q. Some q) given.answered)))

pub over_ends : (last : Option Order) (i : Input) → ((e : End) × (last ≡ Some (Done e))) ⊎ ((w : Fault) × (last ≡ Some (Halt w)))
    → accepts (due_after last) i ≡ true → ⊥
over_ends last i (inl ends) e = let never : false ≡ true = subst (λ l. accepts (due_after l) i ≡ true) ends.1 e in cc
over_ends last i (inr ends) e = let never : false ≡ true = subst (λ l. accepts (due_after l) i ≡ true) ends.1 e in cc

-- WHAT IS WATCHED FOR: it stays, an entry of the table says so, and what is heard of a question says so or leaves it to come. Q is
-- what is supposed of each step.
pub record Looks (Q : Step → Type 0) (L : List Step → Machine → ℕ → Type 0) (a : ℕ) : Type 0 where
  pub stays : (s : Step) (earlier : List Step) (n : Machine) → IsTaken s n → IsPlain (stage_told s) → L earlier s.before a → L (s ∷ earlier) n a
  pub tabled : (steps : List Step) (n : Machine) → IsTabled n a → L steps n a
  pub now : (s : Step) (earlier : List Step) (h : Answer) (b p : ℕ) (f : Forward) → Q s → s.before.asked ≤ 2 → s.told ≡ input.Heard h
      → s.before.course.purpose ≡ Asking b → b ≡ a → s.before.last ≡ Some (Put p f) → accepts (due_after s.before.last) (input.Heard h) ≡ true
      → IsGiven s.before (input.Heard h) s.order → IsPlain (stage_of (machine_told s.before (input.Heard h)).trace) → IsWhole s.before
      → IsWhole (machine_after s.before (input.Heard h) s.order) → L (s ∷ earlier) (machine_after s.before (input.Heard h) s.order) a
      ⊎ (IsEnded (machine_after s.before (input.Heard h) s.order) ⊎ IsToCome (machine_after s.before (input.Heard h) s.order) a)

seen_first : (id : ℕ) (k : Kept) (o : Order) (a : ℕ) → a < 64 → IsAllowed (machine_told (at_first id k) input.Survey) o
    → IsSeen (machine_after (at_first id k) input.Survey o) a
seen_first id k o a small =
    by_kind (machine_told (at_first id k) input.Survey) (λ o. IsSeen (machine_after (at_first id k) input.Survey o) a)
    (λ f. inr (begins_on (machine_told (at_first id k) input.Survey) f a small refl refl (omega arith) goes)) (λ f running. absurd (running refl))
    (λ x may. absurd (no_record (machine_told (at_first id k) input.Survey) stage.Free x stage_none (λ n e. cc) none_found (λ b n e. cc) may))
    (λ e. inl (inl (e, refl))) (λ w. inl (inr (w, refl))) o where
      goes : next_course (machine_told (at_first id k) input.Survey) ≡ goes_on_to (machine_told (at_first id k) input.Survey)
      goes = ap (begins_at (machine_told (at_first id k) input.Survey)) stage_none

module _ (Q : Step → Type 0) (L : List Step → Machine → ℕ → Type 0) (a : ℕ) (small : a < 64) (looks : Looks Q L a) where
  -- by what was seen before
  seen_more : (s : Step) (earlier : List Step) (n : Machine) → IsTaken s n → IsPlain (stage_told s) → Q s → IsWhole s.before → IsWhole n
      → Watched L earlier s.before a → IsEnded n ⊎ (L (s ∷ earlier) n a ⊎ IsToCome n a)
  seen_more s earlier n taken plain supposed whole after was = go was.seen where
    next : Machine
    next = machine_after s.before s.told s.order

    there : IsEnded (machine_after s.before s.told s.order)
        ⊎ (L (s ∷ earlier) (machine_after s.before s.told s.order) a ⊎ IsToCome (machine_after s.before s.told s.order) a)
        → IsEnded n ⊎ (L (s ∷ earlier) n a ⊎ IsToCome n a)
    there k = subst (λ (x : Machine). IsEnded x ⊎ (L (s ∷ earlier) x a ⊎ IsToCome x a)) (sym taken.after) k

    heard : (h : Answer) (b : ℕ) → s.told ≡ input.Heard h → s.before.course.purpose ≡ Asking b → b ≡ a → IsEnded n ⊎ (L (s ∷ earlier) n a ⊎ IsToCome n a)
    heard h b is purpose here =
        let due : accepts (due_after s.before.last) (input.Heard h) ≡ true = subst (λ i. accepts (due_after s.before.last) i ≡ true) is taken.due in
        let put = put_is s.before.last (input.Heard h) refl due in
        let whole_after : IsWhole (machine_after s.before (input.Heard h) s.order) =
        subst (λ i. IsWhole (machine_after s.before i s.order)) is (subst IsWhole taken.after after) in
        there (subst (λ i. IsEnded (machine_after s.before i s.order)
        ⊎ (L (s ∷ earlier) (machine_after s.before i s.order) a ⊎ IsToCome (machine_after s.before i s.order) a)) (sym is)
        (turn (looks.now s earlier h b put.0 put.1 supposed was.asked is purpose here put.2 due (subst (λ i. IsGiven s.before i s.order) is taken.given)
        (subst (λ i. IsPlain (stage_of (machine_told s.before i).trace)) is plain) whole whole_after))) where
          turn : {x y z : Type 0} → x ⊎ (y ⊎ z) → y ⊎ (x ⊎ z)
          turn (inl k) = inr (inl k)
          turn (inr (inl k)) = inl k
          turn (inr (inr k)) = inr (inr k)

    comes : (b : ℕ) → s.before.course.purpose ≡ Asking b → ComesNext s.before s.told s.order a b → IsEnded n ⊎ (L (s ∷ earlier) n a ⊎ IsToCome n a)
    comes b purpose (inl (h, is, here)) = heard h b is purpose here
    comes b purpose (inr (inl ends)) = there (inl ends)
    comes b purpose (inr (inr (inl table))) = there (inr (inl (looks.tabled (s ∷ earlier) (machine_after s.before s.told s.order) table)))
    comes b purpose (inr (inr (inr later))) = there (inr (inr later))

    go : IsEnded s.before ⊎ (L earlier s.before a ⊎ IsToCome s.before a) → IsEnded n ⊎ (L (s ∷ earlier) n a ⊎ IsToCome n a)
    go (inl ends) = absurd (over_ends s.before.last s.told ends taken.due)
    go (inr (inl k)) = inr (inl (looks.stays s earlier n taken plain k))
    go (inr (inr k)) =
        comes k.0 k.1 (comes_next s.before s.told s.order a k.0 small was.running k.1 taken.due taken.given whole was.alone (subst IsWhole taken.after after)
        (λ c r last. was.unreserving k.0 k.1 c r last) k.2)

  watched_more : (s : Step) (earlier : List Step) (n : Machine) → IsTaken s n → IsPlain (stage_told s) → Q s → IsWhole s.before → IsWhole n
      → Watched L earlier s.before a → Watched L (s ∷ earlier) n a
  watched_more s earlier n taken plain supposed whole after was = record {
    running = subst (λ (x : Machine). x.last ≡ None → ⊥) (sym taken.after) (runs_after (machine_told s.before s.told) s.order);
    alone = subst IsAlone (sym taken.after) (alone_after (machine_told s.before s.told) s.order);
    asked = subst (λ (x : Machine). x.asked ≤ 2) (sym taken.after)
        (asked_small (course_by (machine_told s.before s.told) s.order).opened (machine_told s.before s.told).asked (told_small s.before s.told was.asked));
    unreserving =
        subst (λ (x : Machine). (b : ℕ) → x.course.purpose ≡ Asking b → (c r : ℕ) → x.last ≡ Some (Commit (Reserve c r)) → ⊥) (sym taken.after)
        (unreserving_after s.before s.told s.order was.running taken.due taken.given whole was.alone);
    seen = seen_more s earlier n taken plain supposed whole after was;
  }

  watched_first : (s : Step) (n : Machine) → IsSurveyed s → IsTaken s n → Watched L (s ∷ []) n a
  watched_first s n begins taken =
      subst (λ (x : Machine). Watched L (s ∷ []) x a) (sym taken.after) (from s.before s.told begins.1.0 begins.1.1 begins.1.2 begins.0 taken.given) where
        from : (m : Machine) (i : Input) (id : ℕ) (k : Kept) → m ≡ at_first id k → i ≡ input.Survey → IsGiven m i s.order
            → Watched L (s ∷ []) (machine_after m i s.order) a
        from m i id k is told given =
            subst (λ (x : Machine). IsGiven x i s.order → Watched L (s ∷ []) (machine_after x i s.order) a) (sym is)
            (subst (λ j. IsGiven (at_first id k) j s.order → Watched L (s ∷ []) (machine_after (at_first id k) j s.order) a) (sym told) first) given where
              first : IsGiven (at_first id k) input.Survey s.order → Watched L (s ∷ []) (machine_after (at_first id k) input.Survey s.order) a
              first g = record {
                running = runs_after (machine_told (at_first id k) input.Survey) s.order;
                alone = alone_after (machine_told (at_first id k) input.Survey) s.order;
                asked = asked_small (course_by (machine_told (at_first id k) input.Survey) s.order).opened 0 (omega arith);
                unreserving = λ b purpose c r last. unreserved b c r purpose last;
                seen = by (seen_first id k s.order a small g.answered.allowed);
              } where
                unreserved : (b c r : ℕ) → (machine_after (at_first id k) input.Survey s.order).course.purpose ≡ Asking b
                    → (machine_after (at_first id k) input.Survey s.order).last ≡ Some (Commit (Reserve c r)) → ⊥
                unreserved b c r purpose last =
                    let order : s.order ≡ Commit (Reserve c r) = some_same s.order (Commit (Reserve c r)) last in
                    free_no_mask (machine_told (at_first id k) input.Survey) c r refl
                    (subst (λ q. IsGiven (at_first id k) input.Survey q) order g).answered.allowed

                by : IsSeen (machine_after (at_first id k) input.Survey s.order) a → IsEnded (machine_after (at_first id k) input.Survey s.order)
                    ⊎ (L (s ∷ []) (machine_after (at_first id k) input.Survey s.order) a ⊎ IsToCome (machine_after (at_first id k) input.Survey s.order) a)
                by (inl ends) = inl ends
                by (inr (inl table)) = inr (inl (looks.tabled (s ∷ []) (machine_after (at_first id k) input.Survey s.order) table))
                by (inr (inr comes)) = inr (inr comes)

  pub watched : (steps : List Step) (n : Machine) → IsCourse steps n → BeginsBySurvey steps → ArePlain steps → AllByRecursion Q steps → AreWhole steps
      → IsWhole n → Watched L steps n a
  watched [] n course begins plain supposed are whole = elim begins [ ]
  watched (s ∷ []) n course begins plain supposed are whole = watched_first s n begins course.1
  watched (s ∷ (r ∷ earlier)) n course begins plain supposed are whole =
      watched_more s (r ∷ earlier) n course.1 plain.0 supposed.0 are.0 whole (watched (r ∷ earlier) s.before course.0 begins plain.1 supposed.1 are.1 are.0)
