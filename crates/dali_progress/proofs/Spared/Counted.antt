use Rattle.dali_progress.proofs.Below.{◌≡◌, ℕ, ◌+◌, ◌≤◌, ◌⊎◌, inl, inr, Bool, true, false, [], refl, sym, ap, subst, ◌∙◌, arith, Option, Some, None, ◌==◌}
use Rattle.dali_progress.proofs.Below.{nat_lt, if◌then◌else◌, nat_tests, Answer, Silence, Byte, Damaged, Forward, due_after, accepts, frame_put, record_ordered}
use Rattle.dali_progress.proofs.Below.{finding_of, stage_of, byte_heard, finding_at, Input, Order, Put, Commit, Record, Enrol, Stage, stage_none, Machine}
use Rattle.dali_progress.proofs.Below.{machine_told, machine_heard, machine_committed, asked_at, asked_after, asked_after_silence, next_course, course_by}
use Rattle.dali_progress.proofs.Below.{begins_at, at_rest, asked_once, IsGiven, IsAllowed, machine_after, machine_ordered, asked_by, IsWhole, Purpose, Asking}
use Rattle.dali_progress.proofs.Census.{Asked.by_kind, Coming.{IsEnded, Hearing, hearing_of, none_found, no_record, over_ends}, Course.put_is}
use Rattle.dali_progress.proofs.Later.{IsUnasked, course_stays, asked_none}
use Rattle.dali_script.specs.declared.orders.Input.TheVariants as input
use Rattle.dali_script.specs.declared.stage.Stage.TheVariants as stage

-- HOW OFTEN IN A ROW the address that is asked was silent is at most how often it was silent at all, by a count that only grows.

abbrev pub IsPut : Option Order → Type 0
IsPut last = (p : ℕ) × (f : Forward) × (last ≡ Some (Put p f))

-- U is the gear that it concerns, and n the count of each address
abbrev pub IsCounted : (ℕ → Type 0) → (ℕ → ℕ) → Machine → Type 0
IsCounted U n m = (m.asked ≡ 0) ⊎ (IsEnded m ⊎ ((b : ℕ) × (m.course.purpose ≡ Asking b) × IsPut m.last × (U b → m.asked ≤ n b)))

pub counted_more : (U : ℕ → Type 0) (n n' : ℕ → ℕ) (m : Machine) → ((a : ℕ) → U a → n a ≤ n' a) → IsCounted U n m → IsCounted U n' m
counted_more U n n' m more (inl zero) = inl zero
counted_more U n n' m more (inr (inl ends)) = inr (inl ends)
counted_more U n n' m more (inr (inr (b, purpose, put, bound))) =
    inr (inr (b, purpose, put, λ used. let less : m.asked ≤ n b = bound used in let on : n b ≤ n' b = more b used in omega (arith, less, on)))

-- the question that is asked again stays the one that is asked
stays_or_ends : (t : Machine) (b : ℕ) (s : Stage) → t.course.purpose ≡ Asking b → next_course t ≡ t.course → stage_of t.trace ≡ s → IsUnasked s t.course.purpose
    → ((n : _) → s ≡ stage.Unnamed n → ⊥) → finding_of t.trace ≡ None → ((c n : ℕ) → t.last ≡ Some (Commit (Enrol c n)) → ⊥) → (o : Order) → IsAllowed t o
    → IsEnded (machine_ordered t o) ⊎ (((machine_ordered t o).course.purpose ≡ Asking b) × IsPut (machine_ordered t o).last)
stays_or_ends t b s purpose same at unasked named none last =
    by_kind t (λ o. IsEnded (machine_ordered t o) ⊎ (((machine_ordered t o).course.purpose ≡ Asking b) × IsPut (machine_ordered t o).last))
    (λ f. inr (ap (λ c. c.purpose) same ∙ purpose, (_, f, refl))) (λ f running. inr (ap (λ c. c.purpose) (course_stays t s at unasked) ∙ purpose, (_, f, refl)))
    (λ x may. absurd (no_record t s x at named none last may)) (λ e. inl (inl (e, refl))) (λ w. inl (inr (w, refl)))

-- no silence is counted any more once gear are searched
asked_less : (opened : Bool) (k most : ℕ) → k ≤ most → asked_by opened k ≤ most
asked_less true k most less = omega arith
asked_less false k most less = less

counted_by : (U : ℕ → Type 0) (n : ℕ → ℕ) (t : Machine) (b : ℕ) (o : Order) → (U b → t.asked ≤ n b)
    → IsEnded (machine_ordered t o) ⊎ (((machine_ordered t o).course.purpose ≡ Asking b) × IsPut (machine_ordered t o).last)
    → IsCounted U n (machine_ordered t o)
counted_by U n t b o bound (inl ends) = inr (inl ends)
counted_by U n t b o bound (inr on) = inr (inr (b, on.0, on.1, λ used. asked_less (course_by t o).opened t.asked (n b) (bound used)))

never_commits : (last : Option Order) → IsPut last → (c n : ℕ) → last ≡ Some (Commit (Enrol c n)) → ⊥
never_commits last put c n is = let other : Some (Put put.0 put.1) ≡ Some (Commit (Enrol c n)) = sym put.2 ∙ is in cc

-- ---------------------------------------------------------------- an answer was heard

silent_next : (k : ℕ) → (asked_after_silence k ≡ 0) ⊎ (asked_after_silence k ≡ k + 1)
silent_next k = go (nat_lt k 2) where
  go : (b : Bool) → ((if b then k + 1 else 0) ≡ 0) ⊎ ((if b then k + 1 else 0) ≡ k + 1)
  go true = inr refl
  go false = inl refl

-- no gear was heard, or the count in a row is none
first_asked : (b : ℕ) (h : Answer) (k : ℕ) → (h ≡ Silence) ⊎ (asked_at (stage.HighAsked b (byte_heard h)) h k ≡ 0)
first_asked b Silence k = inl refl
first_asked b (Byte v) k = inr refl
first_asked b Damaged k = inr refl

heard_counted : (U : ℕ → Type 0) (n : ℕ → ℕ) (m : Machine) (h : Answer) (p : ℕ) (f : Forward) (b : ℕ) (o : Order) → m.course.purpose ≡ Asking b
    → m.last ≡ Some (Put p f) → IsWhole m → (stage_of (machine_heard m (Some f) h).trace ≡ stage.HighAsked b None → h ≡ Silence → U b → m.asked + 1 ≤ n b)
    → IsAllowed (machine_heard m (Some f) h) o → IsCounted U n (machine_ordered (machine_heard m (Some f) h) o)
heard_counted U n m h p f b o purpose last whole bound may = go hears.at where
  t : Machine
  t = machine_heard m (Some f) h

  hears : Hearing m (machine_heard m (Some f) h) b h
  hears = hearing_of m h p f b purpose last whole

  zero_at : (s : Stage) → stage_of (machine_heard m (Some f) h).trace ≡ s → asked_at s h m.asked ≡ 0 → (machine_heard m (Some f) h).asked ≡ 0
  zero_at s at none = ap (λ q. asked_after q (stage_of (machine_heard m (Some f) h).trace) h m.asked) purpose ∙ ap (λ r. asked_at r h m.asked) at ∙ none

  silent : h ≡ Silence → stage_of (machine_heard m (Some f) h).trace ≡ stage.HighAsked b None → (machine_heard m (Some f) h).asked ≡ m.asked + 1
      → IsCounted U n (machine_ordered (machine_heard m (Some f) h) o)
  silent is none more =
      let again : (t.asked == 0) ≡ false = ap (λ k. k == 0) more ∙ (let test : (m.asked + 1 == 0) ≡ false = grind (arith, nat_tests) in test) in
      counted_by U n t b o (λ used. let most : m.asked + 1 ≤ n b = bound none is used in omega (arith, most, more))
      (stays_or_ends t b (stage.HighAsked b None) purpose (ap (begins_at t) none ∙ ap (asked_once t) again) none tt (λ r e. cc)
      (hears.finding ∙ ap finding_at none) (never_commits t.last (p, f, hears.last ∙ last)) o may)

  go : ((stage_of (machine_heard m (Some f) h).trace ≡ stage.HighAsked b (byte_heard h))
      × ((machine_heard m (Some f) h).asked ≡ asked_at (stage.HighAsked b (byte_heard h)) h m.asked))
      ⊎ (((y : Option (ℕ × ℕ)) × (stage_of (machine_heard m (Some f) h).trace ≡ stage.MiddleAsked b y))
      ⊎ ((y : Option ℕ) × (stage_of (machine_heard m (Some f) h).trace ≡ stage.Spelled b y))) → IsCounted U n (machine_ordered (machine_heard m (Some f) h) o)
  go (inr (inl (y, at))) = inl (asked_none (course_by t o).opened t.asked (zero_at (stage.MiddleAsked b y) at refl))
  go (inr (inr (y, at))) = inl (asked_none (course_by t o).opened t.asked (zero_at (stage.Spelled b y) at refl))
  go (inl (at, asked)) = by (first_asked b h m.asked) where
    by : (h ≡ Silence) ⊎ (asked_at (stage.HighAsked b (byte_heard h)) h m.asked ≡ 0) → IsCounted U n (machine_ordered (machine_heard m (Some f) h) o)
    by (inr none) = inl (asked_none (course_by t o).opened t.asked (asked ∙ none))
    by (inl is) =
        let none : stage_of (machine_heard m (Some f) h).trace ≡ stage.HighAsked b None = at ∙ ap (λ k. stage.HighAsked b (byte_heard k)) is in
        let count : (machine_heard m (Some f) h).asked ≡ asked_after_silence m.asked =
        asked ∙ ap (λ k. asked_at (stage.HighAsked b (byte_heard k)) k m.asked) is in
        next none count (silent_next m.asked)
      where
        next : stage_of (machine_heard m (Some f) h).trace ≡ stage.HighAsked b None → (machine_heard m (Some f) h).asked ≡ asked_after_silence m.asked
            → (asked_after_silence m.asked ≡ 0) ⊎ (asked_after_silence m.asked ≡ m.asked + 1) → IsCounted U n (machine_ordered (machine_heard m (Some f) h) o)
        next none count (inl zero) = inl (asked_none (course_by t o).opened t.asked (count ∙ zero))
        next none count (inr more) = silent is none (count ∙ more)

-- whether a short address is asked, or nothing is counted
asked_or : (p : Purpose) → ((b : ℕ) × (p ≡ Asking b)) ⊎ ((s : Stage) (h : Answer) (k : ℕ) → asked_after p s h k ≡ 0)
asked_or (Asking b) = inl (b, refl)
asked_or _ = inr (λ s h k. refl)

heard_on : (U : ℕ → Type 0) (n : ℕ → ℕ) (m : Machine) (h : Answer) (p : ℕ) (f : Forward) (o : Order) → m.last ≡ Some (Put p f) → IsWhole m
    → ((b : ℕ) → m.course.purpose ≡ Asking b → stage_of (machine_heard m (Some f) h).trace ≡ stage.HighAsked b None → h ≡ Silence → U b → m.asked + 1 ≤ n b)
    → IsCounted U n m → IsAllowed (machine_heard m (Some f) h) o → IsCounted U n (machine_ordered (machine_heard m (Some f) h) o)
heard_on U n m h p f o last whole bound was may = go was where
  go : IsCounted U n m → IsCounted U n (machine_ordered (machine_heard m (Some f) h) o)
  go (inr (inl ends)) = absurd (over_ends m.last (input.Heard h) ends (ap (λ l. accepts (due_after l) (input.Heard h)) last))
  go (inr (inr (b, purpose, put, less))) = heard_counted U n m h p f b o purpose last whole (bound b purpose) may
  go (inl zero) = by (asked_or m.course.purpose) where
    by : ((b : ℕ) × (m.course.purpose ≡ Asking b)) ⊎ ((s : Stage) (h : Answer) (k : ℕ) → asked_after m.course.purpose s h k ≡ 0)
        → IsCounted U n (machine_ordered (machine_heard m (Some f) h) o)
    by (inl (b, purpose)) = heard_counted U n m h p f b o purpose last whole (bound b purpose) may
    by (inr none) =
        inl (asked_none (course_by (machine_heard m (Some f) h) o).opened (machine_heard m (Some f) h).asked
        (none (stage_of (machine_heard m (Some f) h).trace) h m.asked))

-- ---------------------------------------------------------------- nothing was heard

lost_on : (U : ℕ → Type 0) (n : ℕ → ℕ) (m t : Machine) (i : Input) (o : Order) → accepts (due_after m.last) i ≡ true → t.course ≡ m.course → t.last ≡ m.last
    → t.asked ≡ m.asked → t.trace ≡ [] → IsCounted U n m → IsAllowed t o → IsCounted U n (machine_ordered t o)
lost_on U n m t i o waits course last asked free was may = go was where
  at : stage_of t.trace ≡ stage.Free
  at = ap stage_of free ∙ stage_none

  go : IsCounted U n m → IsCounted U n (machine_ordered t o)
  go (inl zero) = inl (asked_none (course_by t o).opened t.asked (asked ∙ zero))
  go (inr (inl ends)) = absurd (over_ends m.last i ends waits)
  go (inr (inr (b, purpose, put, less))) =
      counted_by U n t b o (λ used. let most : m.asked ≤ n b = less used in omega (arith, most, asked))
      (stays_or_ends t b stage.Free (ap (λ c. c.purpose) course ∙ purpose) (ap (begins_at t) at ∙ ap (at_rest t) (last ∙ put.2)) at tt (λ r e. cc)
      (ap finding_of free ∙ none_found) (never_commits t.last (put.0, put.1, last ∙ put.2)) o may)

-- what is no answer of the bus
never_put : (m : Machine) (i : Input) → accepts (due_after m.last) i ≡ true → IsPut m.last
    → ((p : ℕ) (f : Forward) → accepts (due_after (Some (Put p f))) i ≡ false) → ⊥
never_put m i waits put none =
    let here : accepts (due_after (Some (Put put.0 put.1))) i ≡ true = subst (λ l. accepts (due_after l) i ≡ true) put.2 waits in
    let never : true ≡ false = sym here ∙ none put.0 put.1 in cc

rest_on : (U : ℕ → Type 0) (n : ℕ → ℕ) (m : Machine) (i : Input) (o : Order) → accepts (due_after m.last) i ≡ true → (machine_told m i).asked ≡ m.asked
    → ((p : ℕ) (f : Forward) → accepts (due_after (Some (Put p f))) i ≡ false) → IsCounted U n m → IsCounted U n (machine_after m i o)
rest_on U n m i o waits asked none (inl zero) = inl (asked_none (course_by (machine_told m i) o).opened (machine_told m i).asked (asked ∙ zero))
rest_on U n m i o waits asked none (inr (inl ends)) = absurd (over_ends m.last i ends waits)
rest_on U n m i o waits asked none (inr (inr (b, purpose, put, less))) = absurd (never_put m i waits put none)

committed_asked : (m : Machine) (x : Option Record) → (machine_committed m x).asked ≡ m.asked
committed_asked m None = refl
committed_asked m (Some x) = refl

-- ONE STEP MORE
pub counted_on : (U : ℕ → Type 0) (n : ℕ → ℕ) (m : Machine) (i : Input) (o : Order) → accepts (due_after m.last) i ≡ true → IsGiven m i o → IsWhole m
    → ((h : Answer) (f : Forward) → i ≡ input.Heard h → frame_put m.last ≡ Some f → (b : ℕ) → m.course.purpose ≡ Asking b
    → stage_of (machine_heard m (Some f) h).trace ≡ stage.HighAsked b None → h ≡ Silence → U b
    → m.asked + 1 ≤ n b) → IsCounted U n m → IsCounted U n (machine_after m i o)
counted_on U n m (input.Heard h) o waits given whole bound was =
    let put = put_is m.last (input.Heard h) refl waits in
    let told : machine_told m (input.Heard h) ≡ machine_heard m (Some put.1) h = ap (λ l. machine_heard m (frame_put l) h) put.2 in
    subst (λ t. IsCounted U n (machine_ordered t o)) (sym told)
    (heard_on U n m h put.0 put.1 o put.2 whole (bound h put.1 refl (ap frame_put put.2)) was (subst (λ t. IsAllowed t o) told given.answered.allowed))
counted_on U n m input.Destroyed o waits given whole bound was =
    lost_on U n m (machine_told m input.Destroyed) input.Destroyed o waits refl refl refl refl was given.answered.allowed
counted_on U n m input.Lapsed o waits given whole bound was =
    lost_on U n m (machine_told m input.Lapsed) input.Lapsed o waits refl refl refl refl was given.answered.allowed
counted_on U n m input.Start o waits given whole bound was = rest_on U n m input.Start o waits refl (λ p f. refl) was
counted_on U n m input.Survey o waits given whole bound was = rest_on U n m input.Survey o waits refl (λ p f. refl) was
counted_on U n m input.Committed o waits given whole bound was =
    rest_on U n m input.Committed o waits (committed_asked m (record_ordered m.last)) (λ p f. refl) was
counted_on U n m input.CommitFailed o waits given whole bound was = rest_on U n m input.CommitFailed o waits refl (λ p f. refl) was
