use Rattle.std.proofs.Common.{◌≡◌, ℕ, ◌+◌, ◌-◌, ◌<◌, inl, inr, Bool, true, false, List, [], ◌∷◌, ◌++◌, refl, sym, ap, subst, ◌∙◌, arith, Option, Some, None}
use Rattle.std.proofs.{Common.{◌==◌, nat_lt, MatchOption, is_some, suc, if◌then◌else◌, ◌⊎◌}, lemmas.Bool.Decides.nat_tests}
use Rattle.dali_frame.specs.{Priority.LATER, Random.value_of, declared.frames.{Answer.{Answer}, Forward.Forward}}
use Rattle.dali_frame.specs.declared.numbers.SearchAddress.{SearchAddress}
use Rattle.dali_special.specs.{Command.frame_of, declared.command.Command.Command}
use Rattle.dali_script.specs.{Due.{due_after, frame_put}, Records.{Assignment, Kept, Has, IsOnce, addresses, randoms, HasAddress, HasRandom}, Stages.stage_of}
use Rattle.dali_script.specs.declared.{orders.Order.{Order, TheVariants.{Put, Commit}}, records.Record.TheVariants.{Reserve, Enrol}, stage.Stage.Stage}
use Rattle.dali_script.specs.declared.stage.Stage.TheVariants.{Free, Opened, Probed, Unnamed, Unanswered, Inconclusive, HighAsked, Spelled, Hunted, DrawBarred}
use Rattle.dali_script.{specs.declared.stage.Stage.TheVariants.PassedOver, proofs.{Lists.has_map, Members.same_member, Transactions.stage_none}}
use Rattle.dali_search.specs.{Ascending.{leads_to, ascent_at_first}, Least.{Search, step_after, probe_after, next_probe, answered}, declared.step.Step.Step}
use Rattle.dali_search.specs.declared.step.Step.TheVariants.{Again, Found, Nobody}
use Rattle.dali_controller.specs.Course.{Course, turn_of, call_turn, is_yes, after_step, number_at, address_for, unless_enrolled, unfinished_at}
use Rattle.dali_controller.specs.Course.{unfinished_among, hunted, searching_on, searching_first, here_or_later, going_on, ask_or_call, next_asked}
use Rattle.dali_controller.specs.Course.{going_on_early, visit_or_opening, next_unfinished, searching_anew, visiting, asking, hunting_on, opening}
use Rattle.dali_controller.specs.{Course.{calling_first, asking_again}, Machine.{Machine, machine_lost, machine_told}, Moments.{IsMoment, IsNext}}
use Rattle.dali_controller.specs.Next.{begins_at, course_by, course_on, asked_on, next_course, beginning, full, asks_again, undrawn, has_open, BeginsWith}
use Rattle.dali_controller.specs.Next.{silenced, silenced_on, missed_again, is_failed, most_silent, goes_on_to, hunted_to, compared_in, called_to, is_blocked}
use Rattle.dali_controller.specs.{Next.{may_draw, ungiven, question, unanswered, at_rest, asked_once, hunted_in}, Orders.{machine_ordered, AfterFinding}}
use Rattle.dali_controller.specs.{Orders.{IsFollowed, IsSought}, Whole.{IsWhole, Pending}, declared.purpose.Purpose.{Purpose, TheVariants.{Opening, Hunting}}}
use Rattle.dali_controller.specs.{declared.{purpose.Purpose.TheVariants.Calling, way.Way.{Way, TheVariants.{Fresh, Surveying}}}, Tally.asked_again}
use Rattle.dali_script.specs.declared.orders.Due.TheVariants as due
use Rattle.dali_script.specs.declared.orders.Input.TheVariants as input

-- THE COURSE OF A MACHINE is the one of the table of moments.

-- an order that leaves the course is a moment
pub stays_moment : (t : Machine) (o : Order) (new : Machine) → BeginsWith new.course o → new ≡ machine_ordered t o → IsNext t o new → IsWhole new
    → IsMoment t o new
stays_moment t o new begins state next whole = record { begins = begins; course = ap (λ (m : Machine). m.course) state; next = next; whole = whole }

-- a transaction that goes on by its turn leaves the course
course_stays : (t : Machine) (s : Stage) (c : Command) → turn_of t.course.purpose t.course.number s ≡ Some c → course_on t s ≡ t.course
course_stays t (Hunted r (Some h) left) c e = go t.course.purpose e where
  go : (p : Purpose) → turn_of p t.course.number (Hunted r (Some h) left) ≡ Some c → asked_on t p h ≡ t.course
  go Hunting e = absurd (cc)
  go _ e = refl
course_stays t _ c e = refl

pub put_moment : (w : Machine) (s : Stage) (c : Command) (o : Order) (new : Machine) → stage_of w.trace ≡ s
    → turn_of w.course.purpose w.course.number s ≡ Some c → o ≡ Put LATER (frame_of c) → new.course ≡ w.course → IsNext w o new → IsWhole new → IsMoment w o new
put_moment w s c o new stage turn is same next whole = record {
  begins = rw is (λ e. absurd (cc));
  course = same ∙ sym (ap (course_by w) is ∙ ap (course_on w) stage ∙ course_stays w s c turn);
  next = next;
  whole = whole;
}

-- ---------------------------------------------------------------- a search that is answered

whole : (s : Search) (answers : List (ℕ × Bool)) (probe : ℕ) (step : Step) → s.answers ≡ answers → s.probe ≡ probe → s.step ≡ step
    → s ≡ record { answers = answers; probe = probe; step = step }
whole s answers probe step one two three = rw (← one, ← two, ← three) refl

probe_is : (s t : Step) (last next now : ℕ) → s ≡ t → (s ≡ Again → now ≡ next) → ((s ≡ Again → ⊥) → now ≡ last) → now ≡ next_probe t last next
probe_is Again t last next now is again ended = rw (← is) (again refl)
probe_is _ t last next now is again ended = rw (← is) (ended (λ e. cc))

pub answered_is : (old new : Search) (said : Bool) (s : Step) → old.step ≡ Again → (old.step ≡ Again → new.answers ≡ old.answers ++ (old.probe, said) ∷ [])
    → (old.step ≡ Again → s ≡ step_after new.answers)
    → (s ≡ Again → new.probe ≡ probe_after new.answers) → ((s ≡ Again → ⊥) → new.probe ≡ old.probe) → new.step ≡ s → new ≡ answered old said
answered_is old new said s running asked step next last kept =
    let answers : new.answers ≡ old.answers ++ (old.probe, said) ∷ [] = asked running in
    let after : s ≡ step_after (old.answers ++ (old.probe, said) ∷ []) = step running ∙ ap step_after answers in
    whole new _ _ _ answers (probe_is s _ old.probe _ new.probe after (λ e. next e ∙ ap probe_after answers) last) (kept ∙ after)

-- ---------------------------------------------------------------- what is reserved, and what is enrolled

pub found_number : (xs : List Assignment) (a : ℕ) → MatchOption (number_at xs a) (HasAddress xs a → ⊥) (λ r. Has xs (a, r))
found_number [] a = λ h. h
found_number (p ∷ xs) a = go (p.0 == a) refl (number_at xs a) (found_number xs a) where
  go : (b : Bool) → (p.0 == a) ≡ b → (o : Option ℕ) → MatchOption o (HasAddress xs a → ⊥) (λ r. Has xs (a, r))
      → MatchOption (if b then Some p.1 else o) (HasAddress (p ∷ xs) a → ⊥) (λ r. Has (p ∷ xs) (a, r))
  go true is o later = inl (let same : p.0 ≡ a = grind (arith, nat_tests) in ap (λ x. (x, p.1)) same)
  go false is None none = none_of where
    none_of : HasAddress (p ∷ xs) a → ⊥
    none_of (inl e) = grind (arith, nat_tests)
    none_of (inr h) = none h
  go false is (Some r) there = inr there

found_address : (xs : List Assignment) (r : ℕ) → MatchOption (address_for xs r) (HasRandom xs r → ⊥) (λ a. Has xs (a, r))
found_address [] r = λ h. h
found_address (p ∷ xs) r = go (p.1 == r) refl (address_for xs r) (found_address xs r) where
  go : (b : Bool) → (p.1 == r) ≡ b → (o : Option ℕ) → MatchOption o (HasRandom xs r → ⊥) (λ a. Has xs (a, r))
      → MatchOption (if b then Some p.0 else o) (HasRandom (p ∷ xs) r → ⊥) (λ a. Has (p ∷ xs) (a, r))
  go true is o later = inl (let same : p.1 ≡ r = grind (arith, nat_tests) in ap (λ x. (p.0, x)) same)
  go false is None none = none_of where
    none_of : HasRandom (p ∷ xs) r → ⊥
    none_of (inl e) = grind (arith, nat_tests)
    none_of (inr h) = none h
  go false is (Some a) there = inr there

pub number_is : (xs : List Assignment) (a : ℕ) (o : Option ℕ) → IsOnce (addresses xs) → MatchOption o (HasAddress xs a → ⊥) (λ r. Has xs (a, r))
    → o ≡ number_at xs a
number_is xs a o once said = go o (number_at xs a) said (found_number xs a) where
  go : (o p : Option ℕ) → MatchOption o (HasAddress xs a → ⊥) (λ r. Has xs (a, r)) → MatchOption p (HasAddress xs a → ⊥) (λ r. Has xs (a, r)) → o ≡ p
  go None None h k = refl
  go None (Some r) h k = absurd (h (has_map (λ (q : Assignment). q.0) xs (a, r) k))
  go (Some r) None h k = absurd (k (has_map (λ (q : Assignment). q.0) xs (a, r) h))
  go (Some r) (Some s) h k = ap Some (ap (λ (q : Assignment). q.1) (same_member (λ (q : Assignment). q.0) xs (a, r) (a, s) once h k refl))

pub address_is : (xs : List Assignment) (r : ℕ) (o : Option ℕ) → IsOnce (randoms xs) → MatchOption o (HasRandom xs r → ⊥) (λ a. Has xs (a, r))
    → o ≡ address_for xs r
address_is xs r o once said = go o (address_for xs r) said (found_address xs r) where
  go : (o p : Option ℕ) → MatchOption o (HasRandom xs r → ⊥) (λ a. Has xs (a, r)) → MatchOption p (HasRandom xs r → ⊥) (λ a. Has xs (a, r)) → o ≡ p
  go None None h k = refl
  go None (Some a) h k = absurd (h (has_map (λ (q : Assignment). q.1) xs (a, r) k))
  go (Some a) None h k = absurd (k (has_map (λ (q : Assignment). q.1) xs (a, r) h))
  go (Some a) (Some b) h k = ap Some (ap (λ (q : Assignment). q.0) (same_member (λ (q : Assignment). q.1) xs (a, r) (b, r) once h k refl))

-- ---------------------------------------------------------------- what is unfinished

pub none_reserved : (k : Kept) (a : ℕ) → None ≡ number_at k.reserved a → unfinished_at k a ≡ None
none_reserved k a is = ap (unless_enrolled k.enrolled) (sym is)

pub unfinished_is : (k : Kept) (a r : ℕ) (o : Option ℕ) → Some r ≡ number_at k.reserved a → o ≡ address_for k.enrolled r
    → unfinished_at k a ≡ (if is_some o then None else Some r)
unfinished_is k a r o reserved enrolled = ap (unless_enrolled k.enrolled) (sym reserved) ∙ ap (λ x. if is_some x then None else Some r) (sym enrolled)

-- one whose number is surely enrolled is finished
pub surely_finished : (k : Kept) (a : ℕ) → ((r : ℕ) → Has k.reserved (a, r) → HasRandom k.enrolled r) → unfinished_at k a ≡ None
surely_finished k a sure = go (number_at k.reserved a) (found_number k.reserved a) where
  is_enrolled : (r : ℕ) (o : Option ℕ) → MatchOption o (HasRandom k.enrolled r → ⊥) (λ b. Has k.enrolled (b, r)) → HasRandom k.enrolled r
      → (if is_some o then None else Some r) ≡ None
  is_enrolled r None none there = absurd (none there)
  is_enrolled r (Some b) found there = refl

  go : (o : Option ℕ) → MatchOption o (HasAddress k.reserved a → ⊥) (λ r. Has k.reserved (a, r)) → unless_enrolled k.enrolled o ≡ None
  go None none = refl
  go (Some r) there = is_enrolled r (address_for k.enrolled r) (found_address k.enrolled r) (sure r there)

-- the next one is looked for one address after the other
pub one_more : (k : Kept) (a : ℕ) → a < 64 → unfinished_among k (64 - a) a ≡ here_or_later a (unfinished_at k a) (unfinished_among k (64 - (a + 1)) (a + 1))
one_more k a small = let more : 64 - a ≡ suc (64 - (a + 1)) = omega arith in ap (λ n. unfinished_among k n a) more

-- ---------------------------------------------------------------- what follows

no_turn : (p : Purpose) (n : SearchAddress) (s : Stage) (c : Command) → s ≡ Free → turn_of p n s ≡ Some c → ⊥
no_turn p n s c free e = go p (subst (λ x. turn_of p n x ≡ Some c) free e) where
  go : (p : Purpose) → turn_of p n Free ≡ Some c → ⊥
  go Opening e = cc
  go _ e = cc

-- the start, and a transaction that was lost, follow neither queries nor an enrolment
followed_free : (t : Machine) (o : Order) → stage_of t.trace ≡ Free → ((b n : ℕ) → t.last ≡ Some (Commit (Enrol b n)) → ⊥) → IsFollowed t o
followed_free t o free unenrolled = record {
  sent = λ c e. absurd (no_turn t.course.purpose t.course.number (stage_of t.trace) c free e);
  told = λ b n s e. absurd (cc (sym free ∙ s));
  another = λ b n s e. absurd (cc (sym free ∙ s));
  unconfirmed = λ r x s. absurd (cc (sym free ∙ s));
  hunted = λ r h left s p. absurd (cc (sym free ∙ s));
  called = λ r h left s p x. absurd (cc (sym free ∙ s));
  enrolled = λ b n e. absurd (unenrolled b n e);
}

pub followed_start : (w : Machine) (o : Order) → IsWhole w → w.last ≡ None → IsFollowed (machine_told w input.Start) o
followed_start w o whole none = followed_free w o (subst (Pending w) none whole).free (λ b n e. cc (sym none ∙ e))

pub followed_survey : (w : Machine) (o : Order) → IsWhole w → w.last ≡ None → IsFollowed (machine_told w input.Survey) o
followed_survey w o whole none = followed_free (machine_told w input.Survey) o (subst (Pending w) none whole).free (λ b n e. cc (sym none ∙ e))

pub followed_lost : (w : Machine) (o : Order) → due_after w.last ≡ due.Bus → IsFollowed (machine_lost w) o
followed_lost w o bus = followed_free (machine_lost w) o stage_none (λ b n e. let there = subst (λ l. due_after l ≡ due.Bus) e bus in cc)

heard_last : (m : Machine) (f : Forward) (h : Answer) → frame_put m.last ≡ Some f → (machine_told m (input.Heard h)).last ≡ m.last
heard_last m f h put = rw put refl

-- a frame that was heard follows no enrolment
pub followed_heard : (w mid : Machine) (o : Order) (f : Forward) (h : Answer) → frame_put w.last ≡ Some f → mid ≡ machine_told w (input.Heard h)
    → ((c : Command) → turn_of mid.course.purpose mid.course.number (stage_of mid.trace) ≡ Some c → o ≡ Put LATER (frame_of c))
    → ((b n : ℕ) → stage_of mid.trace ≡ Spelled b (Some n) → IsSought mid.course.purpose mid.course.number n → AfterFinding mid b n o)
    → ((b n : ℕ) → stage_of mid.trace ≡ Spelled b (Some n) → (IsSought mid.course.purpose mid.course.number n → ⊥) → o ≡ beginning (next_course mid))
    → ((r : SearchAddress) (x : Option ℕ) → stage_of mid.trace ≡ Inconclusive r x → o ≡ beginning (next_course mid))
    → ((r : SearchAddress) (g : Answer) (left : ℕ) → stage_of mid.trace ≡ Hunted r (Some g) left → mid.course.purpose ≡ Hunting
    → o ≡ question (next_course mid) r left)
    → ((r : SearchAddress) (g : Answer) (left : ℕ) → stage_of mid.trace ≡ Hunted r (Some g) left → mid.course.purpose ≡ Calling
    → call_turn (Some g) left ≡ None → o ≡ beginning (next_course mid)) → IsFollowed (machine_told w (input.Heard h)) o
followed_heard w mid o f h put is sent told another unconfirmed hunted called = subst (λ t. IsFollowed t o) is (record {
  sent = sent;
  told = told;
  another = another;
  unconfirmed = unconfirmed;
  hunted = hunted;
  called = called;
  enrolled = λ b n e. absurd (let there = subst (λ l. frame_put l ≡ Some f) (sym (heard_last w f h put) ∙ ap (λ (t : Machine). t.last) (sym is) ∙ e) put in cc);
})

-- ---------------------------------------------------------------- what a course keeps

-- one of two courses, by a test
pub either : (P : Course → Type 0) {new other : Course} (b : Bool) → P new → P other → P (if b then new else other)
either P true one two = one
either P false one two = two

-- what holds of each course with which a machine goes on
asks_by : (P : Course → Type 0) (c : Course) (next : Option ℕ) → P (calling_first c) → ((a : ℕ) → P (asking c a)) → P (ask_or_call c next)
asks_by P c None calls asks = calls
asks_by P c (Some a) calls asks = asks a

abbrev again : Course → Course
again c = record c { from = 0; opened = false; ascent = ascent_at_first; tally = asked_again c.tally }

pub asks_again_with : (P : Course → Type 0) (k : Kept) (c : Course) → P (calling_first (again c)) → ((a : ℕ) → P (asking (again c) a)) → P (asking_again k c)
asks_again_with P k c calls asks = asks_by P (again c) (next_asked k 0) calls asks

pub goes_on_with : (P : Course → Type 0) (k : Kept) (o : Bool) (c : Course) → P (searching_anew c) → P (hunting_on c) → P (opening c)
    → ((from r : ℕ) → P (visiting (record c { from = from }) r)) → P (calling_first c) → ((a : ℕ) → P (asking c a)) → P (going_on k o c)
goes_on_with P k true c anew on opens visits calls asks = go c.way where
  go : (y : Way) → P (searching_on y c)
  go Fresh = anew
  go Surveying = on
goes_on_with P k false c anew on opens visits calls asks = go c.way where
  visit : (next : Option (ℕ × ℕ)) → P (visit_or_opening c next)
  visit None = opens
  visit (Some next) = visits next.0 next.1

  go : (y : Way) → P (going_on_early k y c)
  go Fresh = visit (next_unfinished k c.from)
  go Surveying = asks_by P c (next_asked k c.from) calls asks

-- how a machine began stays as it is, and no silent roll call is counted that was not counted before; nor one that gear
-- answered, and then gear draw no more often
pub record Keeps (c new : Course) : Type 0 where
  pub way : new.way ≡ c.way
  pub silent : new.tally.is_silent ≡ true → c.tally.is_silent ≡ true
  pub heard : new.tally.is_heard ≡ true → (c.tally.is_heard ≡ true) × (new.tally.draws ≡ c.tally.draws)

abbrev marks : Course → Way × Bool × Bool × ℕ
marks c = (c.way, c.tally.is_silent, c.tally.is_heard, c.tally.draws)

stays : {c new : Course} → marks new ≡ marks c → Keeps c new
stays {c} {new} same = record {
  way = ap (λ (m : Way × Bool × Bool × ℕ). m.0) same;
  silent = λ s. sym (ap (λ (m : Way × Bool × Bool × ℕ). m.1) same) ∙ s;
  heard = λ h. (sym (ap (λ (m : Way × Bool × Bool × ℕ). m.2) same) ∙ h, ap (λ (m : Way × Bool × Bool × ℕ). m.3) same);
}

-- gear draw: no roll call counts as answered
draws : {c new : Course} → new.way ≡ c.way → new.tally.is_silent ≡ c.tally.is_silent → new.tally.is_heard ≡ false → Keeps c new
draws {c} {new} way same none = record { way = way; silent = λ s. sym same ∙ s; heard = λ h. absurd (let no : false ≡ true = sym none ∙ h in cc) }

pub goes_on_keeps : (t : Machine) → Keeps t.course (goes_on_to t)
goes_on_keeps t =
    goes_on_with (Keeps t.course) t.kept t.course.opened t.course (stays refl) (stays refl) (stays refl) (λ a r. stays refl)
    (stays refl) (λ a. stays refl)

pub searches_first_keeps : (y : Way) (c : Course) → Keeps c (searching_first y c)
searches_first_keeps Fresh c = stays refl
searches_first_keeps Surveying c = stays refl

full_keeps : (t : Machine) (c : Course) → Keeps c (full t c)
full_keeps t c = either (Keeps c) (asks_again t) (asks_again_with (Keeps c) t.kept c (stays refl) (λ a. stays refl)) (stays refl)

undrawn_keeps : (t : Machine) (c : Course) → Keeps c (undrawn t c)
undrawn_keeps t c =
    either (Keeps c) (has_open t)
    (either (Keeps c) (nat_lt c.tally.draws 3) (draws refl refl refl) (either (Keeps c) c.tally.is_heard (stays refl) (stays refl)))
    (full_keeps t c)

hunts_keep : (t : Machine) (s : Step) (c : Course) → Keeps c (hunted_to t s c)
hunts_keep t Nobody c = either (Keeps c) (c.ascent.found == 0) (undrawn_keeps t c) (stays refl)
hunts_keep t Again c = stays refl
hunts_keep t (Found r) c = stays refl

pub hunted_keeps : (t : Machine) (h : Answer) → Keeps t.course (hunted_in t h)
hunted_keeps t h = let k = hunts_keep t (leads_to (hunted t.course h).ascent) (hunted t.course h) in record { way = k.way; silent = k.silent; heard = k.heard }

-- gear answered a roll call, or it was silent
pub record Calls (said : Bool) (c new : Course) : Type 0 where
  pub way : new.way ≡ c.way
  pub silent : new.tally.is_silent ≡ true → (c.tally.is_silent ≡ true) ⊎ (said ≡ false)
  pub heard : new.tally.is_heard ≡ true → ((c.tally.is_heard ≡ true) ⊎ (said ≡ true)) × (new.tally.draws ≡ c.tally.draws)

calls_of : {c new : Course} (said : Bool) → Keeps c new → Calls said c new
calls_of said k = record { way = k.way; silent = λ s. inl (k.silent s); heard = λ h. (inl (k.heard h).0, (k.heard h).1) }

called_calls : (t : Machine) (said : Bool) → Calls said t.course (called_to t said t.course)
called_calls t false =
    either (Calls false t.course) t.course.tally.is_silent (calls_of false (stays refl))
    (record { way = refl; silent = λ s. inr refl; heard = λ h. (inl h, refl) })
called_calls t true =
    either (Calls true t.course) (is_blocked t.course.tally)
    (either (Calls true t.course) (may_draw t) (record { way = refl; silent = λ s. absurd (cc); heard = λ h. absurd (cc) }) (calls_of true (stays refl)))
    (record { way = refl; silent = λ s. absurd (cc); heard = λ h. (inr refl, refl) })

ungiven_keeps : (t : Machine) (y : Way) → Keeps t.course (ungiven t y)
ungiven_keeps t Fresh = stays refl
ungiven_keeps t Surveying = either (Keeps t.course) (may_draw t) (draws refl refl refl) (full_keeps t t.course)

silenced_keeps : (t : Machine) → Keeps t.course (silenced t)
silenced_keeps t = either (Keeps t.course) (t.silent == most_silent t.course.way) (stays refl) (on t.course.way) where
  again : (b : Bool) → Keeps t.course (missed_again b t.course)
  again true = stays refl
  again false = stays refl

  on : (y : Way) → Keeps t.course (silenced_on t y)
  on Fresh = goes_on_keeps t
  on Surveying = again (is_failed t.course.tally.failed (value_of t.course.number))

-- a COMPARE of a roll call was heard
pub record IsCalledAt (t : Machine) (s : Stage) : Type 0 where
  pub number : SearchAddress
  pub heard : Answer
  pub left : ℕ
  pub stage : s ≡ Hunted number (Some heard) left
  pub calling : t.course.purpose ≡ Calling
  pub calls : Calls (is_yes heard) t.course (begins_at t s)

-- the transaction that begins at a stage
pub keeps : (t : Machine) (s : Stage) → Keeps t.course (begins_at t s) ⊎ IsCalledAt t s
keeps t (Hunted r (Some h) left) = go t.course.purpose refl where
  go : (p : Purpose) → t.course.purpose ≡ p → Keeps t.course (compared_in t p h) ⊎ IsCalledAt t (Hunted r (Some h) left)
  go Calling is = inr (record {
    number = r;
    heard = h;
    left = left;
    stage = refl;
    calling = is;
    calls = subst (λ p. Calls (is_yes h) t.course (compared_in t p h)) (sym is) (called_calls t (is_yes h));
  })
  go _ is = inl (hunted_keeps t h)
keeps t Free = inl (go t.last) where
  go : (last : Option Order) → Keeps t.course (at_rest t last)
  go (Some (Put p f)) = stays refl
  go (Some (Commit (Reserve a n))) = stays refl
  go _ = goes_on_keeps t
keeps t (HighAsked a high) = inl (go (t.asked == 0)) where
  go : (b : Bool) → Keeps t.course (asked_once t b)
  go true = goes_on_keeps t
  go false = stays refl
keeps t (Probed r h) = inl (go (answered t.course.search (is_yes h))) where
  go : (x : Search) → Keeps t.course (after_step x.step (record t.course { search = x }))
  go x = on x.step where
    on : (s : Step) → Keeps t.course (after_step s (record t.course { search = x }))
    on Again = stays refl
    on (Found r) = stays refl
    on Nobody = stays refl
keeps t (Unanswered r) = inl (go t.course.opened (address_for t.kept.reserved (value_of r))) where
  go : (opened : Bool) (a : Option ℕ) → Keeps t.course (unanswered t r opened a)
  go false (Some a) = stays refl
  go _ _ = silenced_keeps t
keeps t Opened = inl (searches_first_keeps t.course.way t.course)
keeps t DrawBarred = inl (searches_first_keeps t.course.way t.course)
keeps t (Unnamed r) = inl (ungiven_keeps t t.course.way)
keeps t (Inconclusive r other) = inl (silenced_keeps t)
keeps t (PassedOver r) = inl (stays refl)
keeps t _ = inl (goes_on_keeps t)

pub keeps_way : (t : Machine) → (next_course t).way ≡ t.course.way
keeps_way t = elim (keeps t (stage_of t.trace)) [ inl k ↦ k.way | inr x ↦ x.calls.way ]

pub keeps_fresh : (t : Machine) → t.course.way ≡ Fresh → (next_course t).way ≡ Fresh
keeps_fresh t fresh = keeps_way t ∙ fresh

-- before its opening a machine that was begun by Start visits what is unfinished
pub goes_on_fresh : (t : Machine) → t.course.way ≡ Fresh → t.course.opened ≡ false
    → goes_on_to t ≡ visit_or_opening t.course (next_unfinished t.kept t.course.from)
goes_on_fresh t fresh closed = ap (λ o. going_on t.kept o t.course) closed ∙ ap (λ y. going_on_early t.kept y t.course) fresh
