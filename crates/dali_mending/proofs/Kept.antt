use Rattle.std.proofs.Common.{◌≡◌, ◌≢◌, ℕ, zero, suc, ◌<◌, ◌≤◌, Bool, true, false, ◌||◌, List, [], ◌∷◌, Option, Some, None, is_some, IfSome, length}
use Rattle.std.proofs.Common.{length-append, ◌++◌, refl, sym, ap, ◌∙◌, subst, arith, if◌then◌else◌, ◌==◌, ◌+◌, nat_le, nat_lt, min, slice_get}
use Rattle.std.proofs.lemmas.Bool.Decides.{nat_tests}
use Rattle.dali_frame.specs.Random.{MASK24}
use Rattle.dali_frame.specs.declared.frames.{Answer.Answer, Answer.TheVariants.Silence, Answer.TheVariants.Byte, Answer.TheVariants.Damaged, Forward.Forward}
use Rattle.dali_script.specs.declared.trace.Entry.{Entry}
use Rattle.dali_search.specs.Ascending.{Ascent, ascent_at_first, ascended, asked_next, leads_to}
use Rattle.dali_search.specs.declared.step.Step.{Step, TheVariants.Again, TheVariants.Found, TheVariants.Nobody}
use Rattle.dali_commissioning.specs.{Census.reply_of, declared.census.Reply.Reply}
use Rattle.dali_commissioning.specs.declared.census.Reply.TheVariants as reply
use Rattle.dali_mending.specs.Course.{at_stage, kept_by, kind_of, times_after, outcome_told, told, unnumbered, unclear, again, answered, stage_found, found}
use Rattle.dali_mending.specs.Course.{searched, left, kept, is_placed, passed, owned, gone_by, gone, silent, alike, unlike, unkept, queried, erased}
use Rattle.dali_mending.specs.Course.{stage_spent, spent}
use Rattle.dali_mending.specs.Course.{IsCourse, IsFit, IsOfTable}
use Rattle.dali_mending.specs.Mending.{Mending, is_heard, ascent_after, course_after, spent_if, IsSought, tells_apart, is_added, with_number, left_after}
use Rattle.dali_mending.specs.Mending.{finished}
use Rattle.dali_mending.specs.Transactions.{is_own, answer_at, frame_next, frame_at, is_withheld, commands_of, as_frames}
use Rattle.dali_mending.specs.declared.{course.Course.Course, stage.Stage.Stage}
use Rattle.dali_mending.specs.declared.course.Outcome.TheVariants as outcome
use Rattle.dali_mending.specs.declared.stage.Stage.TheVariants as stage

-- A COURSE STAYS ONE, and its search goes on with the number that is asked.
pub record IsNext (x : Ascent) (c : Course) : Type 0 where
  pub course : IsCourse c
  pub sought : IsSought c.stage x

either : (x : Ascent) (b : Bool) (c d : Course) → IsNext x c → IsNext x d → IsNext x (if b then c else d)
either x true c d one other = one
either x false c d one other = other

module _ (x : Ascent) (c : Course) (is : IsCourse c) where
  at_is : (s : Stage) → IsFit c.table c.keeper s → IsSought s x → IsNext x (at_stage c s)
  at_is s fit sought = record { course = record { keeper = is.keeper; fit = fit }; sought = sought }

  unnumbered_is : IsNext x (unnumbered c)
  unnumbered_is = at_is (kept_by c.keeper stage.Drawing) (go c.table c.keeper is.keeper) (sought c.keeper) where
    go : (table keeper : Option ℕ) → IsOfTable table keeper → IsFit table keeper (kept_by keeper stage.Drawing)
    go table (Some k) of = refl
    go None None of = refl
    go (Some r) None of = absurd (cc)

    sought : (keeper : Option ℕ) → IsSought (kept_by keeper stage.Drawing) x
    sought (Some k) = tt
    sought None = tt

  unclear_is : IsNext x (unclear c)
  unclear_is = at_is (kept_by c.keeper stage.Beginning) (go c.table c.keeper) (sought c.keeper) where
    go : (table keeper : Option ℕ) → IsFit table keeper (kept_by keeper stage.Beginning)
    go table (Some k) = refl
    go table None = tt

    sought : (keeper : Option ℕ) → IsSought (kept_by keeper stage.Beginning) x
    sought (Some k) = tt
    sought None = tt

  erased_is : IsNext x (erased c)
  erased_is = at_is (kept_by c.keeper stage.Closing) (go c.table c.keeper) (sought c.keeper) where
    go : (table keeper : Option ℕ) → IsFit table keeper (kept_by keeper stage.Closing)
    go table (Some k) = refl
    go table None = tt

    sought : (keeper : Option ℕ) → IsSought (kept_by keeper stage.Closing) x
    sought (Some k) = tt
    sought None = tt

  told_is : (r : ℕ) → IsNext x (told c r)
  told_is r = either x (r == MASK24) (unnumbered c) (at_stage c (stage.Ended (outcome_told c.table r))) unnumbered_is (at_is _ tt tt)

  answered_is : (r : Reply) (n : ℕ) → IsNext x (answered c r n)
  answered_is (reply.Random r) n = either x (nat_le 3 n) (told c r) (again c (reply.Random r) n) (told_is r) (at_is _ tt tt)
  answered_is reply.Silence n =
      either x (nat_le 3 n) (at_stage c (stage.Ended outcome.Nobody)) (again c reply.Silence n) (at_is _ tt tt) (at_is _ tt tt)
  answered_is reply.Unclear n = either x (nat_le 3 n) (unclear c) (again c reply.Unclear n) unclear_is (at_is _ tt tt)
  answered_is reply.Noise n = either x (nat_le 3 n) (unclear c) (again c reply.Noise n) unclear_is (at_is _ tt tt)
  answered_is reply.Several n = either x (nat_le 3 n) (unclear c) (again c reply.Several n) unclear_is (at_is _ tt tt)

  found_is : (n : ℕ) → IsNext x (found c n)
  found_is n = at_is (stage_found c.keeper n) (go c.table c.keeper is.keeper) (sought c.keeper) where
    differ : (k : ℕ) → (n == k) ≡ false → k ≢ n
    differ k unlike_it same = grind (arith, nat_tests)

    by : (table : Option ℕ) (k : ℕ) (b : Bool) → (n == k) ≡ b → IsFit table (Some k) (if b then stage.Keeping k 0 else stage.Erasing n)
    by table k true same = refl
    by table k false unlike_it = (k, refl, differ k unlike_it)

    go : (table keeper : Option ℕ) → IsOfTable table keeper → IsFit table keeper (stage_found keeper n)
    go table (Some k) of = by table k (n == k) refl
    go table None of = tt

    sought_by : (b : Bool) (k : ℕ) → IsSought (if b then stage.Keeping k 0 else stage.Erasing n) x
    sought_by true k = tt
    sought_by false k = tt

    sought : (keeper : Option ℕ) → IsSought (stage_found keeper n) x
    sought (Some k) = sought_by (n == k) k
    sought None = tt

  searched_is : IsNext x (searched c (leads_to x) (asked_next x))
  searched_is = go (leads_to x) refl where
    go : (step : Step) → leads_to x ≡ step → IsNext x (searched c step (asked_next x))
    go Again leads = at_is (stage.Searching (asked_next x)) tt (leads, refl)
    go (Found n) leads = found_is n
    go Nobody leads = found_is MASK24

  gone_is : IsNext x (gone c)
  gone_is = go c.table refl where
    go : (table : Option ℕ) → c.table ≡ table → IsNext x (gone_by table c)
    go (Some r) has = at_is _ tt tt
    go None has = record {
      course = record { keeper = subst (λ t. IsOfTable t None) (sym has) tt; fit = tt };
      sought = tt;
    }

  silent_is : IsNext x (silent c)
  silent_is = either x (nat_le 3 (min (c.missed + 1) 255)) (gone c) _ gone_is (record {
    course = record { keeper = is.keeper; fit = tt };
    sought = tt;
  })

  alike_is : (r : ℕ) → IsNext x (alike c r)
  alike_is r = either x (r == MASK24) (unnumbered c) (at_stage c (stage.Ending (outcome.Twins r))) unnumbered_is (at_is _ tt tt)

  unlike_is : (r n : ℕ) → IfSome c.keeper (λ k. k ≡ r) → IsNext x (unlike c r n)
  unlike_is r n same = either x (nat_le 6 n) (alike c r) (at_stage c (stage.Keeping r n)) (alike_is r) (at_is _ same tt)

  unkept_is : (r n : ℕ) (h : Answer) → IfSome c.keeper (λ k. k ≡ r) → IsNext x (unkept c r n h)
  unkept_is r n Silence same = silent_is
  unkept_is r n (Byte byte) same = unlike_is r (min (n + 1) 255) same
  unkept_is r n Damaged same = unlike_is r (min (n + 1) 255) same

  kept_is : (r : ℕ) → IfSome c.keeper (λ k. k ≡ r) → IsNext x (kept c r)
  kept_is r same = record { course = record { keeper = go c.table c.keeper is.keeper same; fit = tt }; sought = tt } where
    go : (table keeper : Option ℕ) → IsOfTable table keeper → IfSome keeper (λ k. k ≡ r) → IsOfTable table (Some r)
    go None keeper of same = tt
    go (Some k) None of same = absurd (cc)
    go (Some k) (Some j) of same = cc

  queried_is : (a : ℕ) (placed : List ℕ) (r n : ℕ) (h : Answer) → IfSome c.keeper (λ k. k ≡ r) → IsNext x (queried a placed c r n h)
  queried_is a placed r n h same =
      either x (is_own a h) (owned placed c r) (unkept c r n h)
      (either x (r == MASK24) (unnumbered c) (if is_placed placed r then passed c else kept c r) unnumbered_is
      (either x (is_placed placed r) (passed c) (kept c r) (at_is stage.Left tt tt) (kept_is r same))) (unkept_is r n h same)

  spent_is : IsNext x (spent c)
  spent_is = at_is (stage_spent c.stage) (fit c.stage) (sought c.stage) where
    fit : (s : Stage) → IsFit c.table c.keeper (stage_spent s)
    fit (stage.Ending o) = tt
    fit (stage.Ended o) = tt
    fit _ = tt

    sought : (s : Stage) → IsSought (stage_spent s) x
    sought (stage.Ending o) = tt
    sought (stage.Ended o) = tt
    sought _ = tt

left_is : (c : Course) → IsCourse c → (b : Bool) → IsNext ascent_at_first (left c b (asked_next ascent_at_first))
left_is c is true = at_is ascent_at_first c is (stage.Searching (asked_next ascent_at_first)) tt (refl, refl)
left_is c is false = at_is ascent_at_first c is stage.Closing tt tt

-- after a transaction
pub next_is : (a : ℕ) (placed : List ℕ) (c : Course) (t : List Entry) (x : Ascent) → IsCourse c
    → IsNext (ascent_after c.stage t x) (course_after a placed c.stage c t (ascent_after c.stage t x))
next_is a placed c t x is = go c.stage is.fit refl where
  go : (s : Stage) → IsFit c.table c.keeper s → c.stage ≡ s → IsNext (ascent_after s t x) (course_after a placed s c t (ascent_after s t x))
  go (stage.Asking last n) fit at =
      answered_is x c is (kind_of (reply_of (answer_at t 0) (answer_at t 1) (answer_at t 2)))
      (times_after last n (kind_of (reply_of (answer_at t 0) (answer_at t 1) (answer_at t 2))))
  go stage.Drawing fit at = at_is x c is stage.Closing tt tt
  go stage.Beginning fit at = at_is x c is stage.Left tt tt
  go stage.Left fit at = left_is c is (is_heard (answer_at t 3))
  go (stage.Searching n) fit at = searched_is (ascended x (is_heard (answer_at t 3))) c is
  go (stage.Keeping r n) fit at = queried_is x c is a placed r n (answer_at t 6) fit
  go (stage.Erasing n) fit at = erased_is x c is
  go stage.Closing fit at = at_is x c is (stage.Asking reply.Noise 0) tt tt
  go (stage.Ending o) fit at = at_is x c is (stage.Ended o) tt tt
  go (stage.Ended o) fit at = record { course = is; sought = subst (λ s. IsSought s x) (sym at) tt }

pub spent_if_is : (x : Ascent) (n : ℕ) (c : Course) → IsNext x c → IsNext x (spent_if n c)
spent_if_is x n c is = either x (n == 0) (spent c) c (spent_is x c is.course) is

-- what is made of it field by field
pub made_is : (a n : ℕ) (placed : List ℕ) (c d e : Course) (t u v : List Entry) (x y : Ascent) → IsCourse c → u ≡ t → v ≡ t → y ≡ ascent_after c.stage u x
    → d ≡ course_after a placed c.stage c v y → e ≡ spent_if n d → IsNext y e
made_is a n placed c d e t u v x y is first second ascended_so followed spent_so =
    let ascent : y ≡ ascent_after c.stage t x = ascended_so ∙ ap (λ z. ascent_after c.stage z x) first in
    let follows : d ≡ course_after a placed c.stage c t (ascent_after c.stage t x) =
    followed ∙ (ap (λ z. course_after a placed c.stage c z y) second ∙ ap (λ z. course_after a placed c.stage c t z) ascent) in
    subst (λ z. IsNext z e) (sym ascent)
    (subst (λ z. IsNext (ascent_after c.stage t x) z) (sym (spent_so ∙ ap (λ z. spent_if n z) follows))
    (spent_if_is (ascent_after c.stage t x) n (course_after a placed c.stage c t (ascent_after c.stage t x)) (next_is a placed c t x is)))

pub made : (m : Mending) (placed : List ℕ) (d e : Course) (t u v : List Entry) (y : Ascent) (apart : Option ℕ) (added : Bool) (n : ℕ) (xs : List ℕ)
    → placed ≡ m.placed → t ≡ m.entries → u ≡ m.entries → v ≡ m.entries → y ≡ ascent_after m.course.stage t m.ascent
    → d ≡ course_after m.short placed m.course.stage m.course u y
    → apart ≡ tells_apart m.course.stage v → added ≡ is_added m.erased apart → xs ≡ with_number m.erased apart → n ≡ left_after m.left added
    → e ≡ spent_if n d
    → record { short = m.short; placed = m.placed; course = e; ascent = y; entries = []; lost = 0; left = n; erased = xs } ≡ finished m
made m placed d e t u v y apart added n xs places first second third ascended_so followed apart_so added_so erased_so left_so spent_so =
    let ascent : y ≡ ascent_after m.course.stage m.entries m.ascent = ascended_so ∙ ap (λ z. ascent_after m.course.stage z m.ascent) first in
    let follows : d ≡ course_after m.short m.placed m.course.stage m.course m.entries (ascent_after m.course.stage m.entries m.ascent) =
    followed ∙ (ap (λ z. course_after m.short z m.course.stage m.course u y) places
    ∙ (ap (λ z. course_after m.short m.placed m.course.stage m.course z y) second
    ∙ ap (λ z. course_after m.short m.placed m.course.stage m.course m.entries z) ascent)) in
    let parted : apart ≡ tells_apart m.course.stage m.entries = apart_so ∙ ap (λ z. tells_apart m.course.stage z) third in
    let counted : n ≡ left_after m.left (is_added m.erased apart) = left_so ∙ ap (λ z. left_after m.left z) added_so in
    let course : e ≡ spent_if (left_after m.left (is_added m.erased apart)) d = spent_so ∙ ap (λ z. spent_if z d) counted in
    rw (course, counted, erased_so, follows, parted, ascent) refl

pub has_room : (xs ys : List ℕ) (apart : Option ℕ) → length xs ≤ 64 → ys ≡ with_number xs apart → length ys ≤ 64
has_room xs ys None room is = rw is room
has_room xs ys (Some n) room is = rw is (go (nat_lt (length xs) 64) refl) where
  go : (b : Bool) → nat_lt (length xs) 64 ≡ b → length (if b then xs ++ n ∷ [] else xs) ≤ 64
  go true less = rw (length-append xs (n ∷ [])) (grind (arith, nat_tests))
  go false more = room

-- ---------------------------------------------------------------- eight frames are enough

get_short : (fs : List Forward) (k : ℕ) (f : Forward) → slice_get fs k ≡ Some f → k < length fs
get_short [] k f is = absurd (cc)
get_short (g ∷ fs) zero f is = omega arith
get_short (g ∷ fs) (suc k) f is = let less = get_short fs k f is in omega arith

few_frames : (a : ℕ) (s : Stage) → length (as_frames (commands_of a s)) ≤ 8
few_frames a (stage.Asking reply times) = omega arith
few_frames a stage.Drawing = omega arith
few_frames a stage.Beginning = omega arith
few_frames a stage.Left = omega arith
few_frames a (stage.Searching n) = omega arith
few_frames a (stage.Keeping r times) = omega arith
few_frames a (stage.Erasing r) = omega arith
few_frames a stage.Closing = omega arith
few_frames a (stage.Ending o) = omega arith
few_frames a (stage.Ended o) = omega arith

pub next_is_few : (a : ℕ) (s : Stage) (t : List Entry) (f : Forward) → frame_next a s t ≡ Some f → length t < 8
next_is_few a s t f is = go (is_withheld a s t) is where
  go : (b : Bool) → (if b then None else frame_at a s (length t)) ≡ Some f → length t < 8
  go true is = absurd (cc)
  go false is = omega (arith, get_short (as_frames (commands_of a s)) (length t) f is, few_frames a s)
