use Rattle.std.proofs.Common.{arith, ◌≡◌, ◌⊎◌, inl, inr, ℕ, true, List, [], refl, sym, ap, subst, ◌∙◌, Option, Some, None, is_some, ap₂}
use Rattle.dali_frame.specs.{Priority.{FIRST, LATER}, Random.value_of, declared.frames.{Answer.TheVariants.Silence, Forward.Forward}}
use Rattle.dali_frame.specs.declared.numbers.SearchAddress.{SearchAddress}
use Rattle.dali_special.specs.{Command.{command_of, frame_of}, declared.command.Command.{Command, TheVariants.{Terminate, Program}}}
use Rattle.dali_script.specs.{Findings.{assigned, finding_of}, Records.{Assignment, Has, HasAddress, HasRandom, IsLeastFree, IsFull, IsMap, IsFresh, MayAdd}}
use Rattle.dali_script.specs.{Scripts.Lawful, Stages.{leads, stage_of}, declared.{finding.Finding.{Finding, TheVariants.{Queried, Resolved}}, orders.End.End}}
use Rattle.dali_script.specs.declared.orders.{End.TheVariants.{BlockFull, GaveUp}, Input.Input, Order.{Order, TheVariants.{Put, Commit, Done, Halt}}}
use Rattle.dali_script.specs.declared.{records.Record.{Record, TheVariants.{Reserve, Enrol, Release}}, stage.Stage.{Stage, TheVariants.{Free, Terminated}}}
use Rattle.dali_script.{specs.declared.stage.Stage.TheVariants.{Opened, Probed, Unnamed, Unanswered, Inconclusive, Withdrawn, Spelled}, proofs.Lists.has_map}
use Rattle.dali_script.proofs.{Members.same_member, Transactions.{follows_lawful, stage_none}}
use Rattle.dali_controller.specs.{Course.{Course, closing_of, turn_of, going_on}, Machine.{Machine, machine_told}, Next.{next_course, begins_at, course_by}}
use Rattle.dali_controller.specs.{Next.{course_on, beginning, BeginsWith}, Orders.{IsAllowed, MayEnrolOn, MayOrderPut, IsWarranted, IsBegun, IsCaused}}
use Rattle.dali_controller.specs.Orders.{Contradicts, AfterMask, AfterMaskOn, AfterFinding, AfterEnrolled, IsFollowed, IsSought, IsOrdered, IsGiven}
use Rattle.dali_controller.specs.{Orders.running_close, declared.{purpose.Purpose.TheVariants.Closing, way.Way.{Way, TheVariants.{Fresh, Surveying}}}}
use Rattle.dali_controller.proofs.Courses.{goes_on_with}
use Rattle.dali_script.specs.declared.orders.Input.TheVariants as input
use Rattle.dali_script.specs.declared.orders.Fault.TheVariants as fault

-- WHICH ORDER A MACHINE GIVES at which stage, once it was told its input: what is told of a step leaves no other.
pub record IsGivenBy (t : Machine) (o : Order) : Type 0 where
  pub ordered : IsOrdered t o
  pub begins : BeginsWith (course_by t o) o
  pub followed : IsFollowed t o

-- each input but a commit that failed is followed so
pub given_by : (m : Machine) (i : Input) (o : Order) → (i ≡ input.CommitFailed → ⊥) → IsGiven m i o → IsGivenBy (machine_told m i) o
given_by m input.CommitFailed o other given = absurd (other refl)
given_by m _ o other given = record { ordered = given.answered; begins = given.begins; followed = given.followed }

-- what is enrolled is the pair of a finding
pub enrols_assigned : (y : Way) (reserved : List Assignment) (x : Finding) (p : Assignment) → MayEnrolOn y reserved x p → p ≡ assigned x
enrols_assigned Fresh reserved (Queried a r) p may = may
enrols_assigned Fresh reserved (Resolved a r) p may = may.0
enrols_assigned Surveying reserved x p may = may

-- the last order was the commit of no enrolment
abbrev pub IsNoEnrolment : Option Order → Type 0
IsNoEnrolment last = (b n : ℕ) → last ≡ Some (Commit (Enrol b n)) → ⊥

-- A TRANSACTION THAT GOES ON. Its next frame is the one of its turn.
pub turns : (t : Machine) (o : Order) (c : Command) → IsGivenBy t o → turn_of t.course.purpose t.course.number (stage_of t.trace) ≡ Some c
    → o ≡ Put LATER (frame_of c)
turns t o c given turn = given.followed.sent c turn

-- A TRANSACTION THAT BEGINS. A first frame is that of the transaction that begins; it is put if no later one may be.
abbrev NothingLater : Machine → Type 0
NothingLater t = (f : Forward) → (t.trace ≡ [] → ⊥) → Lawful t.kept.block t.kept.reserved t.trace f → ⊥

put_begins : (t : Machine) (p : ℕ) (f : Forward) → MayOrderPut t p f → BeginsWith (course_by t (Put p f)) (Put p f) → NothingLater t
    → Put p f ≡ beginning (next_course t)
put_begins t p f (inl may) begins none =
    let here : BeginsWith (next_course t) (Put FIRST f) = subst (λ q. BeginsWith (course_by t (Put q f)) (Put q f)) may.0 begins in
    ap₂ Put may.0 (here refl)
put_begins t p f (inr may) begins none = absurd (none f may.1 may.2)

-- a transaction is over at these stages, and has found nothing
abbrev pub IsSpent : Stage → Type 0
IsSpent Opened = Unit {0}
IsSpent (Probed r h) = Unit {0}
IsSpent (Unanswered r) = Unit {0}
IsSpent (Inconclusive r None) = Unit {0}
IsSpent (Spelled a None) = Unit {0}
IsSpent _ = ⊥

spent_ends : (s : Stage) (c : Command) → IsSpent s → is_some (leads s c Silence) ≡ true → ⊥
spent_ends Opened c spent e = cc
spent_ends (Probed r h) c spent e = cc
spent_ends (Unanswered r) c spent e = cc
spent_ends (Inconclusive r None) c spent e = cc
spent_ends (Spelled a None) c spent e = cc
spent_ends _ c spent e = elim spent [ ]

nothing_after : (t : Machine) (s : Stage) → stage_of t.trace ≡ s → ((c : Command) → is_some (leads s c Silence) ≡ true → ⊥) → NothingLater t
nothing_after t s stage ends f running lawful =
    ends (command_of f) (subst (λ x. is_some (leads x (command_of f) Silence) ≡ true) stage
    (follows_lawful t.kept.block t.kept.reserved t.trace f lawful).leads_on)

-- no record is ordered without a cause
pub unwarranted : (t : Machine) (x : Record) → ((r : SearchAddress) → stage_of t.trace ≡ Unnamed r → ⊥) → finding_of t.trace ≡ None → IsNoEnrolment t.last
    → IsWarranted t x → ⊥
unwarranted t (Reserve a r) named none last w = named w.0 w.1
unwarranted t (Release a r) named none last w = last w.0 r w.1
unwarranted t _ named none last w = grind (arith, w)

no_conflict : (t : Machine) (c : Course) → finding_of t.trace ≡ None → IsCaused t c (Halt fault.Conflict) → ⊥
no_conflict t c none cause = let found = cause.2 in cc

begins_anew : (t : Machine) (o : Order) → IsGivenBy t o → NothingLater t → ((r : SearchAddress) → stage_of t.trace ≡ Unnamed r → ⊥)
    → (stage_of t.trace ≡ Terminated → ⊥) → finding_of t.trace ≡ None → IsNoEnrolment t.last → (t.tries ≡ 8 → ⊥) → o ≡ beginning (next_course t)
begins_anew t (Put p f) given none named unclosed found last tries = put_begins t p f given.ordered.allowed given.begins none
begins_anew t (Commit x) given none named unclosed found last tries = absurd (unwarranted t x named found last given.ordered.allowed.warranted)
begins_anew t (Done e) given none named unclosed found last tries =
    elim given.ordered.caused [ inl cause ↦ absurd (tries cause.1) | inr cause ↦ absurd (unclosed cause.1) ]
begins_anew t (Halt fault.Conflict) given none named unclosed found last tries = absurd (no_conflict t t.course found given.ordered.caused)
begins_anew t (Halt fault.Store) given none named unclosed found last tries = elim given.ordered.caused [ ]

-- after a transaction that found nothing
pub begins_after : (t : Machine) (o : Order) (s : Stage) → IsGivenBy t o → stage_of t.trace ≡ s → IsSpent s → finding_of t.trace ≡ None → IsNoEnrolment t.last
    → (t.tries ≡ 8 → ⊥) → o ≡ beginning (next_course t)
begins_after t o s given stage spent found last tries =
    begins_anew t o given (nothing_after t s stage (λ c. spent_ends s c spent)) (λ r e. subst IsSpent (sym stage ∙ e) spent)
    (λ e. subst IsSpent (sym stage ∙ e) spent) found last tries

-- if no transaction runs
pub begins_free : (t : Machine) (o : Order) → IsGivenBy t o → t.trace ≡ [] → IsNoEnrolment t.last → (t.tries ≡ 8 → ⊥) → o ≡ beginning (next_course t)
begins_free t o given free last tries =
    let stage : stage_of t.trace ≡ Free = ap stage_of free ∙ stage_none in
    begins_anew t o given (λ f running lawful. running free) (λ r e. cc (sym stage ∙ e)) (λ e. cc (sym stage ∙ e)) (ap finding_of free) last tries

-- A VISIT WHERE MASK WAS ANSWERED. The address that is reserved for the number is programmed; else the least free one
-- is reserved; else the close begins.
abbrev pub IsUnnamedBy : Machine → SearchAddress → Order → Type 0
IsUnnamedBy t r o =
    ((a : ℕ) × Has t.kept.reserved (a, value_of r) × (o ≡ Put LATER (frame_of (Program (Some a)))))
    ⊎ (((HasRandom t.kept.reserved (value_of r) → ⊥) × ((a : ℕ) × IsLeastFree t.kept.block t.kept.reserved a × (o ≡ Commit (Reserve a (value_of r)))))
    ⊎ ((HasRandom t.kept.reserved (value_of r) → ⊥) × IsFull t.kept.block t.kept.reserved × (o ≡ Put FIRST (frame_of Terminate))
    × ((course_by t o).purpose ≡ Closing BlockFull)))

closes : (t : Machine) (c : Course) (p : ℕ) (f : Forward) → c.purpose ≡ Closing BlockFull → IsCaused t c (Put p f) → Put p f ≡ Put FIRST (frame_of Terminate)
closes t c p f full cause = elim cause.1 [ inl none ↦ absurd (cc (sym (ap closing_of full) ∙ none)) | inr is ↦ ap₂ Put is.0 is.1 ]

pub unnamed : (t : Machine) (o : Order) (r : SearchAddress) → t.course.way ≡ Fresh → IsGivenBy t o → stage_of t.trace ≡ Unnamed r → IsUnnamedBy t r o
unnamed t o r fresh given stage = go o (subst (λ y. AfterMaskOn y t (course_by t o) r o) fresh (given.ordered.unnamed r stage)) given.ordered.caused where
  go : (o : Order) → AfterMask t (course_by t o) r o → IsCaused t (course_by t o) o → IsUnnamedBy t r o
  go (Put p f) (inl is) cause = inl (is.0, is.1, ap (λ q. Put q f) is.2 ∙ ap (λ g. Put LATER g) is.3)
  go (Put p f) (inr is) cause = inr (inr (is.0, is.1, closes t (course_by t (Put p f)) p f is.2 cause, is.2))
  go (Commit (Reserve a n)) is cause =
      inr (inl (subst (λ m. HasRandom t.kept.reserved m → ⊥) (sym is.0) is.1, (a, is.2, ap (λ m. Commit (Reserve a m)) (sym is.0))))
  go (Commit _) is cause = elim is [ ]
  go (Done e) is cause = elim is [ ]
  go (Halt why) is cause = elim is [ ]

-- A VISIT THAT FOUND ITS GEAR. It is enrolled if no entry has its address or its number.
has_address : (xs : List Assignment) (a n : ℕ) → Has xs (a, n) → HasAddress xs a
has_address xs a n has = has_map (λ (q : Assignment). q.0) xs (a, n) has

has_random : (xs : List Assignment) (a n : ℕ) → Has xs (a, n) → HasRandom xs n
has_random xs a n has = has_map (λ (q : Assignment). q.1) xs (a, n) has

uncontradicted : (xs : List Assignment) (b n : ℕ) → (HasAddress xs b → ⊥) → (HasRandom xs n → ⊥) → Contradicts xs b n → ⊥
uncontradicted xs b n address number (inl is) = address (has_address xs b is.0 is.1)
uncontradicted xs b n address number (inr is) = number (has_random xs is.0 n is.1)

enrols_found : (t : Machine) (b n : ℕ) (o : Order) → (HasAddress t.kept.enrolled b → ⊥) → (HasRandom t.kept.enrolled n → ⊥) → AfterFinding t b n o
    → o ≡ Commit (Enrol b n)
enrols_found t b n (Put p f) address number is = absurd (address (has_address t.kept.enrolled b n is))
enrols_found t b n (Commit x) address number is = ap Commit is
enrols_found t b n (Done e) address number is = elim is [ ]
enrols_found t b n (Halt why) address number is = absurd (uncontradicted t.kept.enrolled b n address number is)

-- the same if the queries of a random address told the number that was visited
pub spelled : (t : Machine) (o : Order) (b n : ℕ) → IsGivenBy t o → stage_of t.trace ≡ Spelled b (Some n) → IsSought t.course.purpose t.course.number n
    → (HasAddress t.kept.enrolled b → ⊥) → (HasRandom t.kept.enrolled n → ⊥) → o ≡ Commit (Enrol b n)
spelled t o b n given stage visited address number = enrols_found t b n o address number (given.followed.told b n stage visited)

-- and if it is enrolled already, a transaction begins
agrees_with : (xs : List Assignment) (b n : ℕ) → IsMap xs → Has xs (b, n) → Contradicts xs b n → ⊥
agrees_with xs b n map has (inl is) =
    is.2 (ap (λ (q : Assignment). q.1) (same_member (λ (q : Assignment). q.0) xs (b, is.0) (b, n) map.address_once is.1 has refl))
agrees_with xs b n map has (inr is) =
    is.2 (ap (λ (q : Assignment). q.0) (same_member (λ (q : Assignment). q.1) xs (is.0, n) (b, n) map.random_once is.1 has refl))

begins_known : (t : Machine) (o : Order) (b n : ℕ) → IsGivenBy t o → NothingLater t → IsMap t.kept.enrolled → Has t.kept.enrolled (b, n) → AfterFinding t b n o
    → o ≡ beginning (next_course t)
begins_known t (Put p f) b n given none map has is = put_begins t p f given.ordered.allowed given.begins none
begins_known t (Commit x) b n given none map has is =
    let fresh : IsFresh t.kept.enrolled (b, n) = subst (λ y. MayAdd t.kept y) is given.ordered.allowed.may in
    absurd (fresh.0 (has_address t.kept.enrolled b n has))
begins_known t (Done e) b n given none map has is = elim is [ ]
begins_known t (Halt why) b n given none map has is = absurd (agrees_with t.kept.enrolled b n map has is)

pub withdrawn_known : (t : Machine) (o : Order) (r : SearchAddress) (b : ℕ) → IsGivenBy t o → stage_of t.trace ≡ Withdrawn r b
    → IsMap t.kept.enrolled → Has t.kept.enrolled (b, value_of r) → o ≡ beginning (next_course t)
withdrawn_known t o r b given stage map has =
    begins_known t o b (value_of r) given (nothing_after t (Withdrawn r b) stage (λ c e. let none : is_some (leads (Withdrawn r b) c Silence) ≡ true = e in cc))
    map has (given.ordered.found r b stage)

pub spelled_known : (t : Machine) (o : Order) (b n : ℕ) → IsGivenBy t o → stage_of t.trace ≡ Spelled b (Some n)
    → IsSought t.course.purpose t.course.number n → IsMap t.kept.enrolled → Has t.kept.enrolled (b, n) → o ≡ beginning (next_course t)
spelled_known t o b n given stage visited map has =
    begins_known t o b n given (nothing_after t (Spelled b (Some n)) stage (λ c e. let none : is_some (leads (Spelled b (Some n)) c Silence) ≡ true = e in cc))
    map has (given.followed.told b n stage visited)

-- AN ENROLMENT THAT IS KEPT. A transaction begins if no other address is reserved for the number; else one is
-- released.
pub enrolled : (t : Machine) (o : Order) (b n : ℕ) → IsGivenBy t o → t.last ≡ Some (Commit (Enrol b n)) → t.trace ≡ []
    → ((a : ℕ) → Has t.kept.reserved (a, n) → a ≡ b) → o ≡ beginning (next_course t)
enrolled t o b n given last free own = go o given (given.followed.enrolled b n last) where
  go : (o : Order) → IsGivenBy t o → AfterEnrolled t b n o → o ≡ beginning (next_course t)
  go (Put p f) given is = put_begins t p f given.ordered.allowed given.begins (λ f running lawful. running free)
  go (Commit x) given is =
      let other : IsWarranted t (Release is.0 n) = subst (λ y. IsWarranted t y) is.2 given.ordered.allowed.warranted in
      let same : other.0 ≡ b = cc (sym last ∙ other.1) in absurd (other.2 (same ∙ sym (own is.0 is.1)))
  go (Done e) given is = elim is [ ]
  go (Halt why) given is = elim is [ ]

-- A CLOSE THAT WAS HEARD is the end that it was begun with.
pub goes_on_open : (t : Machine) → closing_of (going_on t.kept t.course.opened t.course).purpose ≡ None
goes_on_open t = goes_on_with (λ c. closing_of c.purpose ≡ None) t.kept t.course.opened t.course refl refl refl (λ a r. refl) refl (λ a. refl)

-- no frame is put if a close was heard: it would be none of the close, and begin no other
no_put : (t : Machine) (p : ℕ) (f : Forward) (e : End) → running_close t ≡ Some e → stage_of t.trace ≡ Terminated → MayOrderPut t p f
    → IsCaused t (course_by t (Put p f)) (Put p f) → ⊥
no_put t p f e runs stage (inl may) cause =
    let unclosed : closing_of (next_course t).purpose ≡ None = ap (λ s. closing_of (begins_at t s).purpose) stage ∙ goes_on_open t in
    let here : IsBegun t (closing_of (next_course t).purpose) = (subst (λ q. IsCaused t (course_by t (Put q f)) (Put q f)) may.0 cause).0 in
    let ends : running_close t ≡ None = subst (λ c. IsBegun t c) unclosed here in cc
no_put t p f e runs stage (inr may) cause =
    let here : (running_close t ≡ None) ⊎ ((LATER ≡ FIRST) × (f ≡ frame_of Terminate)) =
    subst (λ s. (closing_of (course_on t s).purpose ≡ None) ⊎ ((LATER ≡ FIRST) × (f ≡ frame_of Terminate))) stage
    (subst (λ q. IsCaused t (course_by t (Put q f)) (Put q f)) may.0 cause).1 in
    elim here [ inl none ↦ cc | inr is ↦ omega (arith, is.0) ]

pub closed : (t : Machine) (o : Order) (e : End) → IsGivenBy t o → running_close t ≡ Some e → stage_of t.trace ≡ Terminated → finding_of t.trace ≡ None
    → (t.tries ≡ 8 → ⊥) → o ≡ Done e
closed t o e given runs stage found tries = go o given.ordered.allowed given.ordered.caused where
  ended : (x : End) → ((x ≡ GaveUp) × (t.tries ≡ 8)) ⊎ ((running_close t ≡ Some x) × (stage_of t.trace ≡ Terminated)) → Done x ≡ Done e
  ended x (inl is) = absurd (tries is.1)
  ended x (inr is) = let same : x ≡ e = cc (sym is.0 ∙ runs) in ap Done same

  go : (o : Order) → IsAllowed t o → IsCaused t (course_by t o) o → o ≡ Done e
  go (Put p f) may cause = absurd (no_put t p f e runs stage may cause)
  go (Commit x) may cause = absurd (let none : running_close t ≡ None = cause in cc)
  go (Done x) may cause = ended x cause
  go (Halt fault.Conflict) may cause = absurd (no_conflict t t.course found cause)
  go (Halt fault.Store) may cause = elim cause [ ]
