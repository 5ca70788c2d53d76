use Rattle.std.proofs.Common.{◌≡◌, ℕ, ◌<◌, ◌⊎◌, inl, inr, true, false, List, [], ◌∷◌, ◌++◌, refl, sym, ap, subst, ◌∙◌, arith, Option, Some, None, if◌then◌else◌}
use Rattle.dali_frame.specs.Priority.{FIRST, LATER}
use Rattle.dali_frame.specs.declared.frames.Answer.{Answer, TheVariants.Silence, TheVariants.Byte, TheVariants.Damaged}
use Rattle.dali_frame.specs.declared.{frames.Forward.Forward, numbers.SearchAddress.SearchAddress}
use Rattle.dali_special.specs.{Command.command_of, Command.frame_of, declared.command.Command.Command, declared.command.Command.TheVariants.Compare}
use Rattle.dali_script.specs.{Due.due_after, Due.accepts, Due.frame_put, Due.record_ordered, Records.Kept, Scripts.IsFront, Stages.stage_of}
use Rattle.dali_script.specs.declared.orders.{Input.Input, Order.Order, Order.TheVariants.Put, Order.TheVariants.Commit, Order.TheVariants.Done}
use Rattle.dali_script.specs.declared.{orders.Order.TheVariants.Halt, records.Record.Record, stage.Stage.Stage, stage.Stage.TheVariants.Free}
use Rattle.dali_script.{specs.declared.stage.Stage.TheVariants.Hunted, specs.declared.trace.Entry.Entry, proofs.Transactions.stage_none}
use Rattle.dali_script.specs.declared.orders.Input.TheVariants as input
use Rattle.dali_controller.specs.{Course.Course, Course.byte_to_send, Machine.Machine, Machine.machine_told, Machine.machine_heard, Machine.machine_committed}
use Rattle.dali_controller.specs.Next.{next_course, begins_at, compared_in, hunted_in, course_by, course_on, asked_on, question, has_room, beginning}
use Rattle.dali_controller.specs.Orders.{IsGiven, IsAnswered, IsFollowed, MayOrderPut, machine_after, trace_by}
use Rattle.dali_controller.specs.{Whole.IsWhole, Whole.Sends, Whole.Knows, declared.purpose.Purpose.Purpose, declared.purpose.Purpose.TheVariants.Calling}
use Rattle.dali_controller.{specs.declared.purpose.Purpose.TheVariants.Hunting, proofs.Given.IsGivenBy, proofs.Given.given_by}
use Rattle.dali_events.specs.{Calling.roll_call, Happens.entry}
use Rattle.dali_events.proofs.Search.Rolled.{stage_1, stage_2, stage_3, stage_4, stage_5, stage_6, stage_7, stage_8}
use Rattle.dali_world.specs.Site.{IsCalling}

-- A MACHINE CALLS THE ROLL: which frames it has put, and what it was told.

-- ---------------------------------------------------------------- what a machine was told

-- what was heard of the frame that it put last
pub record HeardOf (m : Machine) (i : Input) : Type 0 where
  pub priority : ℕ
  pub frame : Forward
  pub answer : Answer
  pub is : i ≡ input.Heard answer
  pub last : m.last ≡ Some (Put priority frame)

committed_trace : (m : Machine) (x : Option Record) → (machine_committed m x).trace ≡ m.trace
committed_trace m None = refl
committed_trace m (Some x) = refl

-- where a roll call runs, else nothing does then
pub told_calling : (m : Machine) (i : Input) (n : SearchAddress) → accepts (due_after m.last) i ≡ true → IsCalling n m.trace m.last
    → HeardOf m i ⊎ ((machine_told m i).trace ≡ [])
told_calling m i n waits calls = go m.last refl waits calls where
  put : (q : ℕ) (g : Forward) (j : Input) → m.last ≡ Some (Put q g) → accepts (due_after (Some (Put q g))) j ≡ true
      → HeardOf m j ⊎ ((machine_told m j).trace ≡ [])
  put q g (input.Heard h) is waits = inl (record { priority = q; frame = g; answer = h; is = refl; last = is })
  put q g input.Destroyed is waits = inr refl
  put q g input.Lapsed is waits = inr refl
  put q g _ is waits = absurd (cc)

  commit : (x : Record) (j : Input) → m.trace ≡ [] → accepts (due_after (Some (Commit x))) j ≡ true → HeardOf m j ⊎ ((machine_told m j).trace ≡ [])
  commit x input.Committed none waits = inr (committed_trace m (record_ordered m.last) ∙ none)
  commit x input.CommitFailed none waits = inr none
  commit x _ none waits = absurd (cc)

  go : (l : Option Order) → m.last ≡ l → accepts (due_after l) i ≡ true → IsCalling n m.trace l → HeardOf m i ⊎ ((machine_told m i).trace ≡ [])
  go None is waits calls = elim calls [ ]
  go (Some (Put q g)) is waits calls = put q g i is waits
  go (Some (Commit x)) is waits none = commit x i none waits
  go (Some (Done e)) is waits none = absurd (cc)
  go (Some (Halt why)) is waits none = absurd (cc)

pub heard_course : (m : Machine) (f : Option Forward) (h : Answer) → (machine_heard m f h).course ≡ m.course
heard_course m None h = refl
heard_course m (Some f) h = refl

pub committed_course : (m : Machine) (x : Option Record) → (machine_committed m x).course ≡ m.course
committed_course m None = refl
committed_course m (Some x) = refl

pub told_purpose : (m : Machine) (i : Input) → (machine_told m i).course.purpose ≡ m.course.purpose
told_purpose m (input.Heard h) = ap (λ (c : Course). c.purpose) (heard_course m (frame_put m.last) h)
told_purpose m input.Committed = ap (λ (c : Course). c.purpose) (committed_course m (record_ordered m.last))
told_purpose m _ = refl

told_number : (m : Machine) (i : Input) → (machine_told m i).course.number ≡ m.course.number
told_number m (input.Heard h) = ap (λ (c : Course). c.number) (heard_course m (frame_put m.last) h)
told_number m input.Committed = ap (λ (c : Course). c.number) (committed_course m (record_ordered m.last))
told_number m _ = refl

-- only a survey that begins changes how a machine began
pub told_way : (m : Machine) (i : Input) → (i ≡ input.Survey → ⊥) → (machine_told m i).course.way ≡ m.course.way
told_way m (input.Heard h) other = ap (λ (c : Course). c.way) (heard_course m (frame_put m.last) h)
told_way m input.Committed other = ap (λ (c : Course). c.way) (committed_course m (record_ordered m.last))
told_way m input.Survey other = absurd (other refl)
told_way m _ other = refl

pub survey_first : (l : Option Order) → accepts (due_after l) input.Survey ≡ true → l ≡ None
survey_first None waits = refl
survey_first (Some (Put p f)) waits = absurd (cc)
survey_first (Some (Commit x)) waits = absurd (cc)
survey_first (Some (Done e)) waits = absurd (cc)
survey_first (Some (Halt why)) waits = absurd (cc)

pub heard_trace : (m : Machine) (i : Input) (h : HeardOf m i) → (machine_told m i).trace ≡ m.trace ++ entry h.frame h.answer ∷ []
heard_trace m i h = ap (λ j. (machine_told m j).trace) h.is ∙ ap (λ l. (machine_heard m (frame_put l) h.answer).trace) h.last

-- ---------------------------------------------------------------- a roll call goes on

asks_silence : (h : Answer) (n : SearchAddress) (k : Kept) (c : Command) → Sends k n Calling (Hunted n (Some h) 1) c → (h ≡ Silence) × (c ≡ Compare)
asks_silence Silence n k c sends = (refl, let is = sends.0 in cc)
asks_silence (Byte v) n k c sends = absurd (let is = sends.0 in cc)
asks_silence Damaged n k c sends = absurd (let is = sends.0 in cc)

asks_nothing : (h : Option Answer) (n : SearchAddress) (k : Kept) (c : Command) → Sends k n Calling (Hunted n h 0) c → ⊥
asks_nothing h n k c sends = let some : 0 < 0 = sends.2 in omega (arith, some)

same_command : (c d : Command) → Some c ≡ Some d → d ≡ c
same_command c d e = cc

at_stage : (k : Kept) (n : SearchAddress) (c : Command) (s u : Stage) → s ≡ u → Sends k n Calling s c → Sends k n Calling u c
at_stage k n c s u is sends = subst (λ x. Sends k n Calling x c) is sends

front_grows : (k : Kept) (n : SearchAddress) (t : List Entry) (x : Entry) (f : Forward) → IsFront t x.frame (roll_call n)
    → Sends k n Calling (stage_of (t ++ x ∷ [])) (command_of f) → IsFront (t ++ x ∷ []) f (roll_call n)
front_grows k n [] x f q sends =
    let now = at_stage k n (command_of f) _ _ (stage_1 x q) sends in (q, tt, same_command _ (command_of f) now.0)
front_grows k n (a ∷ []) x f q sends =
    let now = at_stage k n (command_of f) _ _ (stage_2 a x q.0 q.2) sends in (q.0, tt, (q.2, tt, same_command _ (command_of f) now.0))
front_grows k n (a ∷ b ∷ []) x f q sends =
    let now = at_stage k n (command_of f) _ _ (stage_3 a b x q.0 q.2.0 q.2.2) sends in
    (q.0, tt, (q.2.0, tt, (q.2.2, tt, same_command _ (command_of f) now.0)))
front_grows k n (a ∷ b ∷ c ∷ []) x f q sends =
    let now = at_stage k n (command_of f) _ _ (stage_4 n a b c x q.0 q.2.0 q.2.2.0 q.2.2.2) sends in
    (q.0, tt, (q.2.0, tt, (q.2.2.0, tt, (q.2.2.2, tt, same_command _ (command_of f) now.0))))
front_grows k n (a ∷ b ∷ c ∷ d ∷ []) x f q sends =
    let now = at_stage k n (command_of f) _ _ (stage_5 n a b c d q.0 q.2.0 q.2.2.0 q.2.2.2.0 x q.2.2.2.2) sends in
    (q.0, tt, (q.2.0, tt, (q.2.2.0, tt, (q.2.2.2.0, tt, (q.2.2.2.2, tt, same_command _ (command_of f) now.0)))))
front_grows k n (a ∷ b ∷ c ∷ d ∷ e ∷ []) x f q sends =
    let now = at_stage k n (command_of f) _ _ (stage_6 n a b c d q.0 q.2.0 q.2.2.0 q.2.2.2.0 e x q.2.2.2.2.0 q.2.2.2.2.2) sends in
    (q.0, tt, (q.2.0, tt, (q.2.2.0, tt, (q.2.2.2.0, tt, (q.2.2.2.2.0, tt, (q.2.2.2.2.2, tt, same_command _ (command_of f) now.0))))))
front_grows k n (a ∷ b ∷ c ∷ d ∷ e ∷ g ∷ []) x f q sends =
    let now = asks_silence x.heard n k (command_of f)
    (at_stage k n (command_of f) _ _ (stage_7 n a b c d q.0 q.2.0 q.2.2.0 q.2.2.2.0 e g x q.2.2.2.2.0 q.2.2.2.2.2.0 q.2.2.2.2.2.2) sends) in
    (q.0, tt, (q.2.0, tt, (q.2.2.0, tt, (q.2.2.2.0, tt, (q.2.2.2.2.0, tt, (q.2.2.2.2.2.0, tt, (q.2.2.2.2.2.2, now.0, now.1)))))))
front_grows k n (a ∷ b ∷ c ∷ d ∷ e ∷ g ∷ h ∷ []) x f q sends =
    absurd (asks_nothing (Some x.heard) n k (command_of f)
    (at_stage k n (command_of f) _ _ (stage_8 n a b c d q.0 q.2.0 q.2.2.0 q.2.2.2.0 e g h x q.2.2.2.2.0 q.2.2.2.2.2.0 q.2.2.2.2.2.2.0 q.2.2.2.2.2.2.2) sends))
front_grows k n (a ∷ b ∷ c ∷ d ∷ e ∷ g ∷ h ∷ i ∷ t) x f q sends = elim q.2.2.2.2.2.2.2.2 [ ]

-- a later frame leaves the course of a machine that calls the roll then: it was no hunt
no_question : (c : Course) (r : SearchAddress) (left : ℕ) (f : Forward) → c.purpose ≡ Calling → Put LATER f ≡ question c r left → ⊥
no_question c r left f calls is =
    let none : has_room c r left ≡ false = rw calls refl in
    let other : Put LATER f ≡ beginning c = is ∙ ap (λ b. if b then Put LATER (frame_of (byte_to_send c.number r)) else beginning c) none in
    cc

later_course : (t : Machine) (f : Forward) → IsFollowed t (Put LATER f) → (course_on t (stage_of t.trace)).purpose ≡ Calling
    → course_on t (stage_of t.trace) ≡ t.course
later_course t f followed calls = go (stage_of t.trace) refl calls where
  on : (r : SearchAddress) (h : Answer) (left : ℕ) → stage_of t.trace ≡ Hunted r (Some h) left → (p : Purpose) → t.course.purpose ≡ p
      → (asked_on t p h).purpose ≡ Calling → asked_on t p h ≡ t.course
  on r h left stage Hunting is calls =
      let next : next_course t ≡ hunted_in t h = ap (begins_at t) stage ∙ ap (λ p. compared_in t p h) is in
      absurd (no_question (hunted_in t h) r left f calls (followed.hunted r h left stage is ∙ ap (λ c. question c r left) next))
  on r h left stage _ is calls = refl

  go : (s : Stage) → stage_of t.trace ≡ s → (course_on t s).purpose ≡ Calling → course_on t s ≡ t.course
  go (Hunted r (Some h) left) stage calls = on r h left stage t.course.purpose refl calls
  go _ stage calls = refl

-- the machine, its trace and its course after an order that is put
pub put_first : (t : Machine) (p : ℕ) (f : Forward) → p ≡ FIRST → (trace_by t (Put p f) ≡ []) × (course_by t (Put p f) ≡ next_course t)
put_first t p f is = rw is (refl, refl)

pub put_later : (t : Machine) (p : ℕ) (f : Forward) → p ≡ LATER → (trace_by t (Put p f) ≡ t.trace) × (course_by t (Put p f) ≡ course_on t (stage_of t.trace))
put_later t p f is = rw is (refl, refl)

-- what the whole machine then sends
sends_after : (m : Machine) (i : Input) (p : ℕ) (f : Forward) → IsWhole (machine_after m i (Put p f))
    → (machine_after m i (Put p f)).course.purpose ≡ Calling
    → Sends (machine_after m i (Put p f)).kept (machine_after m i (Put p f)).course.number Calling
    (stage_of (machine_after m i (Put p f)).trace) (command_of f)
sends_after m i p f whole calls =
    subst (λ q. Sends (machine_after m i (Put p f)).kept (machine_after m i (Put p f)).course.number q
    (stage_of (machine_after m i (Put p f)).trace) (command_of f)) calls whole.sends

first_calls : (m : Machine) (i : Input) (p : ℕ) (f : Forward) → IsWhole (machine_after m i (Put p f)) → p ≡ FIRST
    → (machine_after m i (Put p f)).course.purpose ≡ Calling
    → IsFront (machine_after m i (Put p f)).trace f (roll_call (machine_after m i (Put p f)).course.number)
first_calls m i p f whole is calls =
    let free : (machine_after m i (Put p f)).trace ≡ [] = (put_first (machine_told m i) p f is).0 in
    let sends = at_stage (machine_after m i (Put p f)).kept (machine_after m i (Put p f)).course.number (command_of f) _ Free
    (ap stage_of free ∙ stage_none) (sends_after m i p f whole calls) in
    subst (λ t. IsFront t f (roll_call (machine_after m i (Put p f)).course.number)) (sym free) sends.0

later_calls : (m : Machine) (i : Input) (p : ℕ) (f : Forward) → accepts (due_after m.last) i ≡ true
    → (m.course.purpose ≡ Calling → IsCalling m.course.number m.trace m.last)
    → IsFollowed (machine_told m i) (Put p f) → IsWhole (machine_after m i (Put p f)) → p ≡ LATER → ((machine_told m i).trace ≡ [] → ⊥)
    → (machine_after m i (Put p f)).course.purpose ≡ Calling
    → IsFront (machine_after m i (Put p f)).trace f (roll_call (machine_after m i (Put p f)).course.number)
later_calls m i p f waits called followed whole is running calls = go (told_calling m i m.course.number waits called_now) where
  t : Machine
  t = machine_told m i

  n : SearchAddress
  n = m.course.number

  parts : (trace_by t (Put p f) ≡ t.trace) × (course_by t (Put p f) ≡ course_on t (stage_of t.trace))
  parts = put_later t p f is

  course : (machine_after m i (Put p f)).course ≡ t.course
  course = parts.1 ∙ later_course t f (subst (λ q. IsFollowed t (Put q f)) is followed) (ap (λ (c : Course). c.purpose) (sym parts.1) ∙ calls)

  number : (machine_after m i (Put p f)).course.number ≡ n
  number = ap (λ (c : Course). c.number) course ∙ told_number m i

  called_now : IsCalling n m.trace m.last
  called_now = called (sym (told_purpose m i) ∙ sym (ap (λ (c : Course). c.purpose) course) ∙ calls)

  go : HeardOf m i ⊎ (t.trace ≡ []) → IsFront (machine_after m i (Put p f)).trace f (roll_call (machine_after m i (Put p f)).course.number)
  go (inr none) = absurd (running none)
  go (inl h) =
      let trace : (machine_after m i (Put p f)).trace ≡ m.trace ++ entry h.frame h.answer ∷ [] = parts.0 ∙ heard_trace m i h in
      let front : IsFront m.trace h.frame (roll_call n) = (subst (IsCalling n m.trace) h.last called_now).0 in
      let sends : Sends (machine_after m i (Put p f)).kept n Calling (stage_of (m.trace ++ entry h.frame h.answer ∷ [])) (command_of f) =
      subst (λ u. Sends (machine_after m i (Put p f)).kept n Calling (stage_of u) (command_of f)) trace
      (subst (λ a. Sends (machine_after m i (Put p f)).kept a Calling (stage_of (machine_after m i (Put p f)).trace) (command_of f)) number
      (sends_after m i p f whole calls)) in
      subst (λ a. IsFront (machine_after m i (Put p f)).trace f (roll_call a)) (sym number)
      (subst (λ u. IsFront u f (roll_call n)) (sym trace)
      (front_grows (machine_after m i (Put p f)).kept n m.trace (entry h.frame h.answer) f front sends))

-- no commit that failed is followed by a frame
pub put_given : (m : Machine) (i : Input) (p : ℕ) (f : Forward) → IsGiven m i (Put p f) → IsGivenBy (machine_told m i) (Put p f)
put_given m i p f given = given_by m i (Put p f) (not_failed i given.answered) given where
  not_failed : (j : Input) → IsAnswered m j (Put p f) → j ≡ input.CommitFailed → ⊥
  not_failed input.CommitFailed answered is = cc
  not_failed (input.Heard h) answered is = cc
  not_failed input.Start answered is = cc
  not_failed input.Survey answered is = cc
  not_failed input.Destroyed answered is = cc
  not_failed input.Lapsed answered is = cc
  not_failed input.Committed answered is = cc

pub calling_kept : (m : Machine) (i : Input) (o : Order) → accepts (due_after m.last) i ≡ true
    → (m.course.purpose ≡ Calling → IsCalling m.course.number m.trace m.last) → IsGiven m i o → IsWhole (machine_after m i o)
    → (machine_after m i o).course.purpose ≡ Calling → IsCalling (machine_after m i o).course.number (machine_after m i o).trace (Some o)
calling_kept m i (Put p f) waits called given whole calls = (go (put_given m i p f given).ordered.allowed, all.1) where
  all : Knows (machine_after m i (Put p f)).course.way (machine_after m i (Put p f)).kept (machine_after m i (Put p f)).course.number
      (machine_after m i (Put p f)).course.search (machine_after m i (Put p f)).course.ascent (machine_after m i (Put p f)).course.opened Calling
  all = subst (Knows (machine_after m i (Put p f)).course.way (machine_after m i (Put p f)).kept (machine_after m i (Put p f)).course.number
      (machine_after m i (Put p f)).course.search (machine_after m i (Put p f)).course.ascent (machine_after m i (Put p f)).course.opened) calls
      whole.ready.knows

  go : MayOrderPut (machine_told m i) p f → IsFront (machine_after m i (Put p f)).trace f (roll_call (machine_after m i (Put p f)).course.number)
  go (inl first) = first_calls m i p f whole first.0 calls
  go (inr later) = later_calls m i p f waits called (put_given m i p f given).followed whole later.0 later.1 calls
calling_kept m i (Commit x) waits called given whole calls = refl
calling_kept m i (Done e) waits called given whole calls = refl
calling_kept m i (Halt why) waits called given whole calls = refl
