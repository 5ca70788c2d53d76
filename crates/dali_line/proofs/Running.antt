use Rattle.std.proofs.Common.{◌≡◌, ℕ, ◌+◌, ◌≤◌, arith, length, ◌⊎◌, inl, inr, List, [], ◌∷◌, ◌++◌, refl, sym, ap, ◌∙◌, subst, ⊎_elim, IfSome, IsSome, IsSomeAnd}
use Rattle.std.proofs.Common.{MatchOption}
use Rattle.std.proofs.lemmas.List.{append-nil, append_assoc, length-append, Elements.All-nil, Elements.All-cons, Elements.All-append}
use Rattle.std.specs.declared.option.Option.{Option, TheVariants.None, TheVariants.Some}
use Rattle.dali_script.specs.{Due.record_ordered, Records.Has, Table.Enrolled}
use Rattle.dali_script.specs.declared.{block.Block.Block, orders.Input.Input, orders.Order.Order, records.Record.Record}
use Rattle.dali_script.specs.declared.records.Record.TheVariants.{Reserve, Enrol, Release}
use Rattle.dali_script.specs.declared.orders.Input.TheVariants as input
use Rattle.dali_script.specs.declared.orders.Order.TheVariants as order
use Rattle.dali_enrol.specs.Directory.{Pass, known_at, stands_at}
use Rattle.dali_standing.specs.declared.refusal.Refusal.{Refusal}
use Rattle.dali_standing.specs.declared.refusal.Refusal.TheVariants as refusal
use Rattle.dali_line.specs.Ends.{GoesOn, GoOn, EndsAt, IsEnd, IsLeft, IsCount, end_of, end_when_refused}
use Rattle.dali_line.specs.{Facts.Facts, Leaves.Leaves, Leaves.Learns, Posted.IsPosted, Posted.HasPosted, Posted.ArePosted, Posted.StillStands, Posted.LearnsOf}
use Rattle.dali_line.specs.{Runs.IsIdle, Runs.AreTaken, Runs.steps_in, Runs.IsKnownDue, Runs.Gives, Runs.Tells, Runs.Runs, Shares.PortShare}
use Rattle.dali_line.specs.Steps.{Step, step_of, last_order, due_then, TakesIn, TakeIn, IsDueFor, AreDue, told_at, told_of, first_of}
use Rattle.dali_line.{specs.declared.outcome.Outcome.Outcome, proofs.Learning.has_left, proofs.Learning.known_then}
use Rattle.dali_line.proofs.{Learning.learns_wider, Learning.learns_more, Learning.posts_none, Learning.posts_more, Leaving.leaves_none, Leaving.leaves_more}
use Rattle.dali_line.specs.declared.outcome.Outcome.TheVariants as outcome

-- RUNS THAT FOLLOW EACH OTHER ARE ONE RUN.

steps_more : (xs ys : List (Option Step)) → steps_in (xs ++ ys) ≡ steps_in xs ++ steps_in ys
steps_more [] ys = refl
steps_more (Some s ∷ xs) ys = ap (λ (l : List Step). s ∷ l) (steps_more xs ys)
steps_more (None ∷ xs) ys = steps_more xs ys

taken_more : (bus : Facts) (before : Option Order) (p q r : PortShare) (xs ys : List (Option Step)) → AreTaken bus before p xs q
    → AreTaken bus (last_order before (steps_in xs)) q ys r → AreTaken bus before p (xs ++ ys) r
taken_more bus before p q r [] ys taken rest = subst (λ (x : PortShare). AreTaken bus before x ys r) taken rest
taken_more bus before p q r (Some s ∷ xs) ys taken rest = (taken.0, taken.1, taken.2, taken_more bus (Some s.order) taken.0 q r xs ys taken.3 rest)
taken_more bus before p q r (None ∷ xs) ys taken rest = (taken.0, taken_more bus before p q r xs ys taken.1 rest)

last_more : (before : Option Order) (ss ts : List Step) → last_order before (ss ++ ts) ≡ last_order (last_order before ss) ts
last_more before [] ts = refl
last_more before (s ∷ ss) ts = last_more (Some s.order) ss ts

-- the record that the last order wants committed is due, whatever was due before
due_last : (due : Option Record) (before : Option Order) (s : Step) (ss : List Step) (r : Record) (X : Type 0)
    → MatchOption (last_order before (s ∷ ss)) X (λ o. o ≡ order.Commit r) → due_then due (s ∷ ss) ≡ Some r
due_last due before s [] r X is = ap (λ (o : Order). record_ordered (Some o)) is
due_last due before s (t ∷ ts) r X is = due_last (record_ordered (Some s.order)) (Some s.order) t ts r X is

-- what is due at first: the second run knows, where the first took no step
abbrev first_due : Option Record → List Step → Option Record → Option Record
first_due due [] other = other
first_due due (s ∷ ss) other = due

takes_any : (b : Block) (xs : List Record) (due : Option Record) (i : Input) (more : List Record) → TakesIn b xs None i more → TakesIn b xs due i more
takes_any b xs due input.Committed more takes = elim takes [ ]
takes_any b xs due input.CommitFailed more takes = elim takes [ ]
takes_any b xs due input.Start more takes = takes
takes_any b xs due input.Survey more takes = takes
takes_any b xs due (input.Heard h) more takes = takes
takes_any b xs due input.Destroyed more takes = takes
takes_any b xs due input.Lapsed more takes = takes

take_any : (b : Block) (xs : List Record) (due : Option Record) (ss : List Step) (more : List Record) → TakeIn b xs None ss more → TakeIn b xs due ss more
take_any b xs due [] more take = take
take_any b xs due (s ∷ ss) more take = (take.0, take.1, takes_any b xs due s.input take.0 take.2, take.3, take.4)

take_more : (b : Block) (xs : List Record) (due : Option Record) (ss ts : List Step) (more others : List Record) → TakeIn b xs due ss more
    → TakeIn b (xs ++ more) (due_then due ss) ts others → TakeIn b xs due (ss ++ ts) (more ++ others)
take_more b xs due [] ts more others take rest =
    let none : (more : List Record) → more ≡ [] → TakeIn b (xs ++ more) due ts others → TakeIn b xs due ts (more ++ others) =
    λ m is t. subst (λ (l : List Record). TakeIn b xs due ts (l ++ others)) (sym is)
    (subst (λ (l : List Record). TakeIn b l due ts others) (ap (λ (l : List Record). xs ++ l) is ∙ append-nil xs) t) in
    none more take rest
take_more b xs due (s ∷ ss) ts more others take rest =
    let first = take.0 in
    let then_ = take.1 in
    let whole = take.4 in
    let at : xs ++ more ≡ (xs ++ first) ++ then_ = ap (λ (l : List Record). xs ++ l) whole ∙ sym (append_assoc xs first then_) in
    let moved = subst (λ (l : List Record). TakeIn b l (due_then due (s ∷ ss)) ts others) at rest in (
      first,
      then_ ++ others,
      take.2,
      take_more b (xs ++ first) (record_ordered (Some s.order)) ss ts then_ others take.3 moved,
      ap (λ (l : List Record). l ++ others) whole ∙ append_assoc first then_ others,
    )

-- the second run's record is the one that the first run's last step ordered
abbrev IsLinked : Option Order → Option Record → Type 0
IsLinked last due = IfSome due (λ r. MatchOption last (Unit {0}) (λ o. o ≡ order.Commit r))

link_of : (last : Option Order) (due : Option Record) (P : Record → Type 0)
    → IfSome due (λ r. MatchOption last (P r) (λ o. o ≡ order.Commit r)) → IsLinked last due
link_of last None P known = tt
link_of None (Some r) P known = tt
link_of (Some o) (Some r) P known = known

joined : (b : Block) (xs : List Record) (before : Option Order) (due other : Option Record) (ss ts : List Step) (more others : List Record)
    → TakeIn b xs due ss more → IsLinked (last_order before ss) other → TakeIn b (xs ++ more) other ts others
    → TakeIn b xs (first_due due ss other) (ss ++ ts) (more ++ others)
joined b xs before due other [] ts more others take link rest = take_more b xs other [] ts more others take rest
joined b xs before due None (s ∷ ss) ts more others take link rest =
    take_more b xs due (s ∷ ss) ts more others take (take_any b (xs ++ more) (due_then due (s ∷ ss)) ts others rest)
joined b xs before due (Some r) (s ∷ ss) ts more others take link rest =
    let is = due_last due before s ss r (Unit {0}) link in
    take_more b xs due (s ∷ ss) ts more others take (subst (λ (d : Option Record). TakeIn b (xs ++ more) d ts others) (sym is) rest)

due_more : (due : Option Record) (ss ts : List Step) → due_then due (ss ++ ts) ≡ due_then (due_then due ss) ts
due_more due [] ts = refl
due_more due (s ∷ ss) ts = due_more (record_ordered (Some s.order)) ss ts

left_none : (end : Option Outcome) (due : Option Record) (left : List Record) → left ≡ [] → IsLeft end due left
left_none None due left is = is
left_none (Some (outcome.Ended e)) due left is = is
left_none (Some (outcome.Halted w)) due left is = is
left_none (Some outcome.Down) due left is = inl is
left_none (Some (outcome.Refused e)) due left is = inl is
left_none (Some outcome.TurnsSpent) due left is = is
left_none (Some outcome.Stopped) due left is = inl is
left_none (Some outcome.NoMemory) due left is = is

left_either : (left : List Record) → (left ≡ []) ⊎ IsSomeAnd None (λ r. left ≡ r ∷ []) → left ≡ []
left_either left (inl is) = is
left_either left (inr some) = elim some [ ]

left_at : (end : Option Outcome) (left : List Record) → IsLeft end None left → left ≡ []
left_at None left is = is
left_at (Some (outcome.Ended e)) left is = is
left_at (Some (outcome.Halted w)) left is = is
left_at (Some outcome.Down) left is = left_either left is
left_at (Some (outcome.Refused e)) left is = left_either left is
left_at (Some outcome.TurnsSpent) left is = is
left_at (Some outcome.Stopped) left is = left_either left is
left_at (Some outcome.NoMemory) left is = is

left_more : (before : Option Order) (due other : Option Record) (ss ts : List Step) (end : Option Outcome) (left : List Record)
    → IsLinked (last_order before ss) other → IsLeft end (due_then other ts) left → IsLeft end (due_then (first_due due ss other) (ss ++ ts)) left
left_more before due other [] ts end left link is = is
left_more before due other (s ∷ ss) (t ∷ ts) end left link is = subst (λ (d : Option Record). IsLeft end d left) (sym (due_more due (s ∷ ss) (t ∷ ts))) is
left_more before due None (s ∷ ss) [] end left link is = left_none end _ left (left_at end left is)
left_more before due (Some r) (s ∷ ss) [] end left link is =
    subst (λ (d : Option Record). IsLeft end d left) (sym (due_more due (s ∷ ss) [] ∙ due_last due before s ss r (Unit {0}) link)) is

-- a run without a step leaves the port's share
unmoved : (bus : Facts) (before : Option Order) (p q : PortShare) (ts : List (Option Step)) → AreTaken bus before p ts q → steps_in ts ≡ [] → q ≡ p
unmoved bus before p q [] taken none = taken
unmoved bus before p q (Some s ∷ ts) taken none = absurd (cc)
unmoved bus before p q (None ∷ ts) taken none = unmoved bus before p q ts taken.1 none

known_more : (before : Option Order) (due other : Option Record) (ss : List Step) (p q : PortShare) (bus : Facts) → (ss ≡ [] → q ≡ p)
    → IsKnownDue bus before p due → IsKnownDue bus (last_order before ss) q other → IsKnownDue bus before p (first_due due ss other)
known_more before due other [] p q bus same one two = subst (λ (x : PortShare). IsKnownDue bus before x other) (same refl) two
known_more before due other (s ∷ ss) p q bus same one two = one

ends_at_more : (o : Order) (ss ts : List Step) → GoOn ss → EndsAt o ts → EndsAt o (ss ++ ts)
ends_at_more o ss ts on end = record {
  before = ss ++ end.before;
  input = end.input;
  whole = ap (λ (l : List Step). ss ++ l) end.whole ∙ sym (append_assoc ss end.before (step_of end.input o ∷ []));
  on = All-append (λ (s : Step). GoesOn s.order) ss end.before on end.on;
}

on_more : (ss ts : List Step) → GoOn ss → GoOn ts → GoOn (ss ++ ts)
on_more ss ts on more = All-append (λ (s : Step). GoesOn s.order) ss ts on more

ends_more : (bus : Facts) (to : PortShare) (end : Option Outcome) (ss ts : List Step) → GoOn ss → IsEnd bus to end ts → IsEnd bus to end (ss ++ ts)
ends_more bus to None ss ts on is = on_more ss ts on is
ends_more bus to (Some (outcome.Ended e)) ss ts on is = ends_at_more (order.Done e) ss ts on is
ends_more bus to (Some (outcome.Halted w)) ss ts on is = ends_at_more (order.Halt w) ss ts on is
ends_more bus to (Some outcome.Down) ss ts on is = (on_more ss ts on is.0, is.1)
ends_more bus to (Some (outcome.Refused e)) ss ts on is = (on_more ss ts on is.0, is.1, is.2, is.3)
ends_more bus to (Some outcome.TurnsSpent) ss ts on is = on_more ss ts on is
ends_more bus to (Some outcome.Stopped) ss ts on is = (on_more ss ts on is.0, is.1)
ends_more bus to (Some outcome.NoMemory) ss ts on (inl goes) = inl (on_more ss ts on goes)
ends_more bus to (Some outcome.NoMemory) ss ts on (inr last) = inr (last.0, ends_at_more last.0 ss ts on last.1)

-- what was told in one run or the other is told in both
has_first : (xs ys : List Record) (x : Record) → Has xs x → Has (xs ++ ys) x
has_first xs ys x has = has_left xs ys x has

has_second : (xs ys : List Record) (x : Record) → Has ys x → Has (xs ++ ys) x
has_second [] ys x has = has
has_second (z ∷ xs) ys x has = inr (has_second xs ys x has)

told_any : (due : Option Record) (i : Input) (x : Record) → Has (told_at None i) x → Has (told_at due i) x
told_any due input.Committed x has = elim has [ ]
told_any due input.CommitFailed x has = has
told_any due input.Start x has = has
told_any due input.Survey x has = has
told_any due (input.Heard h) x has = has
told_any due input.Destroyed x has = has
told_any due input.Lapsed x has = has

in_either : (xs ys zs : List Record) (x : Record) → (Has xs x → Has zs x) → Has (xs ++ ys) x → Has (zs ++ ys) x
in_either [] ys zs x wider has = has_second zs ys x has
in_either (z ∷ xs) ys zs x wider (inl here) = has_first zs ys x (wider (inl here))
in_either (z ∷ xs) ys zs x wider (inr there) = in_either xs ys zs x (λ has. wider (inr has)) there

told_of_any : (due : Option Record) (ss : List Step) (x : Record) → Has (told_of None ss) x → Has (told_of due ss) x
told_of_any due [] x has = has
told_of_any due (s ∷ ss) x has =
    in_either (told_at None s.input) (told_of (record_ordered (Some s.order)) ss) (told_at due s.input) x (told_any due s.input x) has

told_more : (due : Option Record) (ss ts : List Step) → told_of due (ss ++ ts) ≡ told_of due ss ++ told_of (due_then due ss) ts
told_more due [] ts = refl
told_more due (s ∷ ss) ts =
    ap (λ (l : List Record). told_at due s.input ++ l) (told_more (record_ordered (Some s.order)) ss ts)
    ∙ sym (append_assoc (told_at due s.input) (told_of (record_ordered (Some s.order)) ss) (told_of (due_then (record_ordered (Some s.order)) ss) ts))

told_first : (due other : Option Record) (ss ts : List Step) (x : Record) → Has (told_of due ss) x → Has (told_of (first_due due ss other) (ss ++ ts)) x
told_first due other [] ts x has = elim has [ ]
told_first due other (s ∷ ss) ts x has =
    subst (λ (l : List Record). Has l x) (sym (told_more due (s ∷ ss) ts)) (has_first (told_of due (s ∷ ss)) (told_of (due_then due (s ∷ ss)) ts) x has)

told_second : (before : Option Order) (due other : Option Record) (ss ts : List Step) (x : Record) → IsLinked (last_order before ss) other
    → Has (told_of other ts) x → Has (told_of (first_due due ss other) (ss ++ ts)) x
told_second before due other [] ts x link has = has
told_second before due None (s ∷ ss) ts x link has =
    subst (λ (l : List Record). Has l x) (sym (told_more due (s ∷ ss) ts))
    (has_second (told_of due (s ∷ ss)) (told_of (due_then due (s ∷ ss)) ts) x (told_of_any (due_then due (s ∷ ss)) ts x has))
told_second before due (Some r) (s ∷ ss) ts x link has =
    let is = due_last due before s ss r (Unit {0}) link in
    subst (λ (l : List Record). Has l x) (sym (told_more due (s ∷ ss) ts))
    (has_second (told_of due (s ∷ ss)) (told_of (due_then due (s ∷ ss)) ts) x (subst (λ (d : Option Record). Has (told_of d ts) x) (sym is) has))

-- and what was told in both was told in one or the other
has_either : (xs ys : List Record) (x : Record) → Has (xs ++ ys) x → Has xs x ⊎ Has ys x
has_either [] ys x has = inr has
has_either (z ∷ xs) ys x (inl here) = inl (inl here)
has_either (z ∷ xs) ys x (inr there) = ⊎_elim (λ one. inl (inr one)) (λ two. inr two) (has_either xs ys x there)

due_any : (due : Option Record) (i : Input) → IsDueFor None i → IsDueFor due i
due_any due input.Committed is = absurd (cc)
due_any due input.CommitFailed is = absurd (cc)
due_any due input.Start is = tt
due_any due input.Survey is = tt
due_any due (input.Heard h) is = tt
due_any due input.Destroyed is = tt
due_any due input.Lapsed is = tt

all_due_any : (due : Option Record) (ts : List Step) → AreDue None ts → AreDue due ts
all_due_any due [] are = tt
all_due_any due (t ∷ ts) are = (due_any due t.input are.0, are.1)

told_none : (due : Option Record) (i : Input) → IsDueFor None i → told_at due i ≡ []
told_none due input.Committed is = absurd (cc)
told_none due input.CommitFailed is = refl
told_none due input.Start is = refl
told_none due input.Survey is = refl
told_none due (input.Heard h) is = refl
told_none due input.Destroyed is = refl
told_none due input.Lapsed is = refl

told_same : (due : Option Record) (ts : List Step) → AreDue None ts → told_of due ts ≡ told_of None ts
told_same due [] are = refl
told_same due (t ∷ ts) are =
    ap (λ (l : List Record). l ++ told_of (record_ordered (Some t.order)) ts) (told_none due t.input are.0 ∙ sym (told_none None t.input are.0))

due_join : (due : Option Record) (ss ts : List Step) → AreDue due ss → AreDue (due_then due ss) ts → AreDue due (ss ++ ts)
due_join due [] ts one two = two
due_join due (s ∷ ss) ts one two = (one.0, due_join (record_ordered (Some s.order)) ss ts one.1 two)

commits_more : (before : Option Order) (due other : Option Record) (ss ts : List Step) → IsLinked (last_order before ss) other → AreDue due ss → AreDue other ts
    → AreDue (first_due due ss other) (ss ++ ts)
commits_more before due other [] ts link one two = two
commits_more before due None (s ∷ ss) ts link one two = due_join due (s ∷ ss) ts one (all_due_any (due_then due (s ∷ ss)) ts two)
commits_more before due (Some r) (s ∷ ss) ts link one two =
    due_join due (s ∷ ss) ts one (subst (λ (d : Option Record). AreDue d ts) (sym (due_last due before s ss r (Unit {0}) link)) two)

told_either : (before : Option Order) (due other : Option Record) (ss ts : List Step) (x : Record) → IsLinked (last_order before ss) other → AreDue other ts
    → Has (told_of (first_due due ss other) (ss ++ ts)) x → Has (told_of due ss) x ⊎ Has (told_of other ts) x
told_either before due other [] ts x link are has = inr has
told_either before due other (s ∷ ss) ts x link are has =
    let parts = has_either (told_of due (s ∷ ss)) (told_of (due_then due (s ∷ ss)) ts) x
    (subst (λ (l : List Record). Has l x) (told_more due (s ∷ ss) ts) has) in
    ⊎_elim (λ one. inl one) (λ two. inr (go other link are two)) parts where
      go : (other : Option Record) → IsLinked (last_order before (s ∷ ss)) other → AreDue other ts → Has (told_of (due_then due (s ∷ ss)) ts) x
          → Has (told_of other ts) x
      go None link are two = subst (λ (l : List Record). Has l x) (told_same (due_then due (s ∷ ss)) ts are) two
      go (Some r) link are two = subst (λ (d : Option Record). Has (told_of d ts) x) (due_last due before s ss r (Unit {0}) link) two

-- what stands in a place stands there still, so what was posted is
some_still : (o n : Option Enrolled) → IfSome o (λ e. n ≡ Some e) → IsSome o → IsSome n
some_still None n still some = absurd (cc)
some_still (Some e) n still some = subst IsSome (sym still) refl

which_still : (k l o n : Option Enrolled) → l ≡ k → IfSome o (λ e. n ≡ Some e) → IfSome k (λ e. o ≡ Some e) → IfSome l (λ e. n ≡ Some e)
which_still k l o n same still which = subst (λ (x : Option Enrolled). IfSome x (λ e. n ≡ Some e)) (sym same) (go k which) where
  go : (x : Option Enrolled) → IfSome x (λ e. o ≡ Some e) → IfSome x (λ e. n ≡ Some e)
  go None is = tt
  go (Some e) is = subst (λ (x : Option Enrolled). IfSome x (λ e. n ≡ Some e)) is still

posted_still : (was is : Pass) (r : Record) → StillStands was is → IsPosted was r → IsPosted is r
posted_still was is (Enrol a r) still (stands, which) = (
  some_still (stands_at was a) (stands_at is a) (still.stands a) stands,
  which_still (known_at was a) (known_at is a) (stands_at was a) (stands_at is a) (still.settled a stands) (still.stands a) which,
)
posted_still was is (Reserve a r) still posted = tt
posted_still was is (Release a r) still posted = tt

stands_itself : (o : Option Enrolled) → IfSome o (λ e. o ≡ Some e)
stands_itself None = tt
stands_itself (Some e) = refl

stands_same : (p : Pass) → StillStands p p
stands_same p = record { stands = λ a. stands_itself (stands_at p a); settled = λ a some. refl }

still_more : (was mid is : Pass) → StillStands was mid → StillStands mid is → StillStands was is
still_more was mid is one two = record {
  stands = λ a. known_then (stands_at was a) (stands_at mid a) (stands_at is a) (one.stands a) (two.stands a);
  settled = λ a some. two.settled a (some_still (stands_at was a) (stands_at mid a) (one.stands a) some) ∙ one.settled a some;
}

posted_one : (p : Pass) (due : Option Record) (i : Input) (o : Order) (x : Record) → HasPosted p (first_of (told_at due i))
    → Has (told_of due (step_of i o ∷ [])) x → IsPosted p x
posted_one p (Some r) input.Committed o x posted (inl same) = subst (IsPosted p) same posted
posted_one p (Some r) input.Committed o x posted (inr none) = elim none [ ]
posted_one p None input.Committed o x posted has = elim has [ ]
posted_one p due input.CommitFailed o x posted has = elim has [ ]
posted_one p due input.Start o x posted has = elim has [ ]
posted_one p due input.Survey o x posted has = elim has [ ]
posted_one p due (input.Heard h) o x posted has = elim has [ ]
posted_one p due input.Destroyed o x posted has = elim has [ ]
posted_one p due input.Lapsed o x posted has = elim has [ ]

-- what was taken in and is not told, where the controller was refused to act on it
left_taken : (b : Block) (xs : List Record) (due : Option Record) (i : Input) (more : List Record) → TakesIn b xs due i more
    → (more ≡ []) ⊎ IsSomeAnd due (λ r. more ≡ r ∷ [])
left_taken b xs None input.Committed more takes = elim takes [ ]
left_taken b xs (Some r) input.Committed more takes = takes.0
left_taken b xs None input.CommitFailed more takes = elim takes [ ]
left_taken b xs (Some r) input.CommitFailed more takes = takes
left_taken b xs due input.Start more takes = inl takes
left_taken b xs due input.Survey more takes = inl takes
left_taken b xs due (input.Heard h) more takes = inl takes
left_taken b xs due input.Destroyed more takes = inl takes
left_taken b xs due input.Lapsed more takes = inl takes

left_refused : (b : Block) (xs : List Record) (due : Option Record) (e : Refusal) (i : Input) (more : List Record) → TakesIn b xs due i more
    → IsLeft (end_when_refused e i) due more
left_refused b xs due refusal.NotDue input.Start more takes = takes
left_refused b xs due refusal.NotDue input.Survey more takes = takes
left_refused b xs due refusal.NotDue (input.Heard h) more takes = takes
left_refused b xs due refusal.NotDue input.Destroyed more takes = takes
left_refused b xs due refusal.NotDue input.Lapsed more takes = takes
left_refused b xs due refusal.NotDue input.Committed more takes = left_taken b xs due input.Committed more takes
left_refused b xs due refusal.NotDue input.CommitFailed more takes = left_taken b xs due input.CommitFailed more takes
left_refused b xs due refusal.ControllerDown i more takes = left_taken b xs due i more takes
left_refused b xs due refusal.QueueFull i more takes = left_taken b xs due i more takes
left_refused b xs due refusal.UnknownController i more takes = left_taken b xs due i more takes
left_refused b xs due refusal.UnknownGear i more takes = left_taken b xs due i more takes
left_refused b xs due refusal.ControllerUp i more takes = left_taken b xs due i more takes
left_refused b xs due refusal.NotArc i more takes = left_taken b xs due i more takes
left_refused b xs due refusal.StoreDisagrees i more takes = left_taken b xs due i more takes
left_refused b xs due refusal.DrawsSpent i more takes = left_taken b xs due i more takes
left_refused b xs due refusal.LogFull i more takes = left_taken b xs due i more takes
left_refused b xs due refusal.NoMemory i more takes = left_taken b xs due i more takes
left_refused b xs due _ i more takes = left_taken b xs due i more takes

pub no_steps_on : GoOn []
no_steps_on = All-nil (λ (s : Step). GoesOn s.order)

one_on : (i : Input) (o : Order) → GoesOn o → GoOn (step_of i o ∷ [])
one_on i o goes = All-cons (λ (s : Step). GoesOn s.order) (step_of i o) [] goes no_steps_on

one_ends : (i : Input) (o : Order) → EndsAt o (step_of i o ∷ [])
one_ends i o = record { before = []; input = i; whole = refl; on = no_steps_on }

-- how a turn ends that acted, and one that was refused
end_acted : (bus : Facts) (to : PortShare) (i : Input) (o : Order) → IsEnd bus to (end_of o) (step_of i o ∷ [])
end_acted bus to i (order.Put p f) = one_on i (order.Put p f) tt
end_acted bus to i (order.Commit r) = one_on i (order.Commit r) tt
end_acted bus to i (order.Done e) = one_ends i (order.Done e)
end_acted bus to i (order.Halt w) = one_ends i (order.Halt w)

end_refused : (bus : Facts) (to : PortShare) (e : Refusal) (i : Input) → bus.refused to i e → (e ≡ refusal.QueueFull → bus.is_stopped)
    → IsEnd bus to (end_when_refused e i) []
end_refused bus to refusal.NotDue input.Start refused full = no_steps_on
end_refused bus to refusal.NotDue input.Survey refused full = no_steps_on
end_refused bus to refusal.NotDue (input.Heard h) refused full = no_steps_on
end_refused bus to refusal.NotDue input.Destroyed refused full = no_steps_on
end_refused bus to refusal.NotDue input.Lapsed refused full = no_steps_on
end_refused bus to refusal.NotDue input.Committed refused full = (no_steps_on, input.Committed, refused, tt)
end_refused bus to refusal.NotDue input.CommitFailed refused full = (no_steps_on, input.CommitFailed, refused, tt)
end_refused bus to refusal.ControllerDown i refused full = (no_steps_on, inr (inr (i, refused)))
end_refused bus to refusal.QueueFull i refused full = (no_steps_on, full refl)
end_refused bus to refusal.UnknownController i refused full = (no_steps_on, i, refused, tt)
end_refused bus to refusal.UnknownGear i refused full = (no_steps_on, i, refused, tt)
end_refused bus to refusal.ControllerUp i refused full = (no_steps_on, i, refused, tt)
end_refused bus to refusal.NotArc i refused full = (no_steps_on, i, refused, tt)
end_refused bus to refusal.StoreDisagrees i refused full = (no_steps_on, i, refused, tt)
end_refused bus to refusal.DrawsSpent i refused full = (no_steps_on, i, refused, tt)
end_refused bus to refusal.LogFull i refused full = (no_steps_on, i, refused, tt)
end_refused bus to refusal.NoMemory i refused full = (no_steps_on, i, refused, tt)
end_refused bus to refusal.AddressInUse i refused full = (no_steps_on, i, refused, tt)
end_refused bus to refusal.NotForeign i refused full = (no_steps_on, i, refused, tt)

learned_one : (was is : Pass) (due : Option Record) (i : Input) (o : Order) → LearnsOf was is (first_of (told_at due i))
    → Learns was is (told_of due (step_of i o ∷ []))
learned_one was is (Some r) input.Committed o learned = learned
learned_one was is None input.Committed o same = λ a. inl (ap (λ (p : Pass). known_at p a) same)
learned_one was is due input.CommitFailed o same = λ a. inl (ap (λ (p : Pass). known_at p a) same)
learned_one was is due input.Start o same = λ a. inl (ap (λ (p : Pass). known_at p a) same)
learned_one was is due input.Survey o same = λ a. inl (ap (λ (p : Pass). known_at p a) same)
learned_one was is due (input.Heard h) o same = λ a. inl (ap (λ (p : Pass). known_at p a) same)
learned_one was is due input.Destroyed o same = λ a. inl (ap (λ (p : Pass). known_at p a) same)
learned_one was is due input.Lapsed o same = λ a. inl (ap (λ (p : Pass). known_at p a) same)

-- a turn in which the controller was refused to act, where the run goes on after it
abbrev idle_turns : Option Outcome → List (Option Step)
idle_turns None = None ∷ []
idle_turns (Some e) = []

no_idle_steps : (end : Option Outcome) → steps_in (idle_turns end) ≡ []
no_idle_steps None = refl
no_idle_steps (Some e) = refl

taken_refused : (bus : Facts) (before : Option Order) (p q : PortShare) (e : Refusal) (i : Input) → bus.refused p i e → q ≡ p
    → AreTaken bus before p (idle_turns (end_when_refused e i)) q
taken_refused bus before p q refusal.NotDue input.Start refused same = (inr (inl (input.Start, refused)), same)
taken_refused bus before p q refusal.NotDue input.Survey refused same = (inr (inl (input.Survey, refused)), same)
taken_refused bus before p q refusal.NotDue (input.Heard h) refused same = (inr (inl (input.Heard h, refused)), same)
taken_refused bus before p q refusal.NotDue input.Destroyed refused same = (inr (inl (input.Destroyed, refused)), same)
taken_refused bus before p q refusal.NotDue input.Lapsed refused same = (inr (inl (input.Lapsed, refused)), same)
taken_refused bus before p q refusal.NotDue input.Committed refused same = same
taken_refused bus before p q refusal.NotDue input.CommitFailed refused same = same
taken_refused bus before p q refusal.ControllerDown i refused same = same
taken_refused bus before p q refusal.QueueFull i refused same = same
taken_refused bus before p q refusal.UnknownController i refused same = same
taken_refused bus before p q refusal.UnknownGear i refused same = same
taken_refused bus before p q refusal.ControllerUp i refused same = same
taken_refused bus before p q refusal.NotArc i refused same = same
taken_refused bus before p q refusal.StoreDisagrees i refused same = same
taken_refused bus before p q refusal.DrawsSpent i refused same = same
taken_refused bus before p q refusal.LogFull i refused same = same
taken_refused bus before p q refusal.NoMemory i refused same = same
taken_refused bus before p q _ i refused same = same

-- one turn is counted as one; no turn ends a run for want of turns
abbrev pub IsOther : Option Outcome → Type 0
IsOther end = end ≡ Some outcome.TurnsSpent → ⊥

none_counts : (end : Option Outcome) → IsOther end → IsCount end (length (idle_turns end)) 1
none_counts None other = refl
none_counts (Some (outcome.Ended e)) other = omega arith
none_counts (Some (outcome.Halted w)) other = omega arith
none_counts (Some outcome.Down) other = omega arith
none_counts (Some (outcome.Refused e)) other = omega arith
none_counts (Some outcome.TurnsSpent) other = absurd (other refl)
none_counts (Some outcome.Stopped) other = omega arith
none_counts (Some outcome.NoMemory) other = omega arith

one_counts : (end : Option Outcome) → IsOther end → IsCount end 1 1
one_counts None other = refl
one_counts (Some (outcome.Ended e)) other = omega arith
one_counts (Some (outcome.Halted w)) other = omega arith
one_counts (Some outcome.Down) other = omega arith
one_counts (Some (outcome.Refused e)) other = omega arith
one_counts (Some outcome.TurnsSpent) other = refl
one_counts (Some outcome.Stopped) other = omega arith
one_counts (Some outcome.NoMemory) other = omega arith

count_more : (end : Option Outcome) (m n k : ℕ) → IsCount end n k → IsCount end (m + n) (m + k)
count_more None m n k is = omega arith
count_more (Some (outcome.Ended e)) m n k is = omega arith
count_more (Some (outcome.Halted w)) m n k is = omega arith
count_more (Some outcome.Down) m n k is = omega arith
count_more (Some (outcome.Refused e)) m n k is = omega arith
count_more (Some outcome.TurnsSpent) m n k is = omega arith
count_more (Some outcome.Stopped) m n k is = omega arith
count_more (Some outcome.NoMemory) m n k is = omega arith

count_wider : (end : Outcome) (n k most : ℕ) → IsOther (Some end) → k ≤ most → IsCount (Some end) n k → IsCount (Some end) n most
count_wider (outcome.Ended e) n k most other wide is = omega arith
count_wider (outcome.Halted w) n k most other wide is = omega arith
count_wider outcome.Down n k most other wide is = omega arith
count_wider (outcome.Refused e) n k most other wide is = omega arith
count_wider outcome.TurnsSpent n k most other wide is = absurd (other refl)
count_wider outcome.Stopped n k most other wide is = omega arith
count_wider outcome.NoMemory n k most other wide is = omega arith

acted_other : (o : Order) → IsOther (end_of o)
acted_other (order.Put p f) = λ is. absurd (cc)
acted_other (order.Commit r) = λ is. absurd (cc)
acted_other (order.Done e) = λ is. absurd (cc)
acted_other (order.Halt w) = λ is. absurd (cc)

refused_other : (e : Refusal) (i : Input) → IsOther (end_when_refused e i)
refused_other refusal.NotDue input.Start = λ is. absurd (cc)
refused_other refusal.NotDue input.Survey = λ is. absurd (cc)
refused_other refusal.NotDue (input.Heard h) = λ is. absurd (cc)
refused_other refusal.NotDue input.Destroyed = λ is. absurd (cc)
refused_other refusal.NotDue input.Lapsed = λ is. absurd (cc)
refused_other refusal.NotDue input.Committed = λ is. absurd (cc)
refused_other refusal.NotDue input.CommitFailed = λ is. absurd (cc)
refused_other refusal.ControllerDown i = λ is. absurd (cc)
refused_other refusal.QueueFull i = λ is. absurd (cc)
refused_other refusal.UnknownController i = λ is. absurd (cc)
refused_other refusal.UnknownGear i = λ is. absurd (cc)
refused_other refusal.ControllerUp i = λ is. absurd (cc)
refused_other refusal.NotArc i = λ is. absurd (cc)
refused_other refusal.StoreDisagrees i = λ is. absurd (cc)
refused_other refusal.DrawsSpent i = λ is. absurd (cc)
refused_other refusal.LogFull i = λ is. absurd (cc)
refused_other refusal.NoMemory i = λ is. absurd (cc)
refused_other _ i = λ is. absurd (cc)

pub tells_other : (bus : Facts) (before after : Option Order) (p q : PortShare) (i : Input) (was is : Pass) (kept : Option Record) (end : Option Outcome)
    → Tells bus before after p q i was is kept end → IsOther end
tells_other bus before after p q i was is kept end (inl (o, acted, last, learned, still, inl ends)) =
    subst IsOther (sym ends.0) (acted_other o)
tells_other bus before after p q i was is kept end (inl (o, acted, last, learned, still, inr ends)) = subst IsOther (sym ends) (λ is. absurd (cc))
tells_other bus before after p q i was is kept end (inr (e, refused, port, last, pass, ends, full)) =
    subst IsOther (sym ends) (refused_other e i)

module _ {S : Type 0} (is_up is_sound : S → Type 0) (holds : S → List Record → Type 0) (block : S → Block) (bus : Facts) where
  unchanged : (s : S) (due : Option Record) (end : Option Outcome) → is_sound s → is_up s → (xs : List Record) → holds s xs
      → (more left : List Record) × TakeIn (block s) xs due [] more × IsLeft end due left × holds s ((xs ++ more) ++ left)
  unchanged s due end sound up xs held = ([], [], refl, left_none end due [] refl, subst (holds s) (sym (append-nil (xs ++ []) ∙ append-nil xs)) held)

  -- before the first turn
  pub runs_none : (before : Option Order) (p : PortShare) (s : S) (pass : Pass) → Runs is_up is_sound holds block bus before before p p s s pass pass 0 None
  runs_none before p s pass = record {
    due = None;
    known = tt;
    turns = [];
    taken = refl;
    count = refl;
    last = refl;
    ends = no_steps_on;
    commits = tt;
    learned = λ a. inl refl;
    still = stands_same pass;
    posted = λ other r has. elim has [ ];
    block = refl;
    list = unchanged s None None;
  }

  -- a turn in which nothing was due
  turn_idle : (before : Option Order) (p : PortShare) (s : S) (pass : Pass) → IsIdle bus before p
      → Runs is_up is_sound holds block bus before before p p s s pass pass 1 None
  turn_idle before p s pass idle = record {
    due = None;
    known = tt;
    turns = None ∷ [];
    taken = (idle, refl);
    count = refl;
    last = refl;
    ends = no_steps_on;
    commits = tt;
    learned = λ a. inl refl;
    still = stands_same pass;
    posted = λ other r has. elim has [ ];
    block = refl;
    list = unchanged s None None;
  }

  -- and one that was not begun
  turn_ended : (before : Option Order) (p : PortShare) (s : S) (pass : Pass) (end : Outcome) → IsEnd bus p (Some end) [] → IsOther (Some end)
      → Runs is_up is_sound holds block bus before before p p s s pass pass 1 (Some end)
  turn_ended before p s pass end ends other = record {
    due = None;
    known = tt;
    turns = [];
    taken = refl;
    count = none_counts (Some end) other;
    last = refl;
    ends = ends;
    commits = tt;
    learned = λ a. inl refl;
    still = stands_same pass;
    posted = λ other r has. elim has [ ];
    block = refl;
    list = unchanged s None (Some end);
  }

  -- the same of a port, a store and a last order that are said to be as they were
  same_turn : (before after : Option Order) (p q : PortShare) (old new : S) (was is : Pass) (end : Option Outcome)
      → Runs is_up is_sound holds block bus before before p p old old was was 1 end → after ≡ before → q ≡ p → new ≡ old → is ≡ was
      → Runs is_up is_sound holds block bus before after p q old new was is 1 end
  same_turn before after p q old new was is end runs last port keep pass =
      subst (λ (o : Option Order). Runs is_up is_sound holds block bus before o p q old new was is 1 end) (sym last)
      (subst (λ (x : PortShare). Runs is_up is_sound holds block bus before before p x old new was is 1 end) (sym port)
      (subst (λ (s : S). Runs is_up is_sound holds block bus before before p p old s was is 1 end) (sym keep)
      (subst (λ (x : Pass). Runs is_up is_sound holds block bus before before p p old old was x 1 end) (sym pass) runs)))

  pub runs_idle : (before after : Option Order) (p q : PortShare) (old new : S) (was is : Pass) → IsIdle bus before p → after ≡ before → q ≡ p → new ≡ old
      → is ≡ was → Runs is_up is_sound holds block bus before after p q old new was is 1 None
  runs_idle before after p q old new was is idle = same_turn before after p q old new was is None (turn_idle before p old was idle)

  pub runs_ended : (before after : Option Order) (p q : PortShare) (old new : S) (was is : Pass) (end : Outcome) → IsEnd bus p (Some end) []
      → IsOther (Some end) → after ≡ before → q ≡ p → new ≡ old → is ≡ was → Runs is_up is_sound holds block bus before after p q old new was is 1 (Some end)
  runs_ended before after p q old new was is end ends other =
      same_turn before after p q old new was is (Some end) (turn_ended before p old was end ends other)

  -- a turn in which the controller was given this
  pub runs_told : (before after : Option Order) (p q : PortShare) (old new : S) (was is : Pass) (i : Input) (kept : Option Record) (end : Option Outcome)
      → Gives is_up is_sound holds block bus before p old new i kept → block new ≡ block old → Tells bus before after p q i was is kept end
      → Runs is_up is_sound holds block bus before after p q old new was is 1 end
  runs_told before after p q old new was is_ i kept end gives same tells = go tells where
    other : IsOther end
    other = tells_other bus before after p q i was is_ kept end tells

    go : Tells bus before after p q i was is_ kept end → Runs is_up is_sound holds block bus before after p q old new was is_ 1 end
    go (inl (o, acted, last, learned, still, ends)) = record {
      due = gives.due;
      known = gives.known;
      turns = Some (step_of i o) ∷ [];
      taken = (q, acted, gives.given, refl);
      count = one_counts end other;
      last = last;
      ends = ⊎_elim (λ is. subst (λ (x : Option Outcome). IsEnd bus q x (step_of i o ∷ [])) (sym is.0) (end_acted bus q i o))
          (λ is. subst (λ (x : Option Outcome). IsEnd bus q x (step_of i o ∷ [])) (sym is) (inr (o, one_ends i o))) ends;
      commits = (gives.commits, tt);
      learned = learned_one was is_ gives.due i o (subst (λ (k : Option Record). LearnsOf was is_ k) gives.kept_is learned);
      still = still;
      posted = λ other r has. ⊎_elim
          (λ is. posted_one is_ gives.due i o r (subst (λ (k : Option Record). HasPosted is_ k) gives.kept_is is.1) has)
          (λ is. absurd (other is)) ends;
      block = same;
      list = λ sound up xs held.
          let took = gives.list sound up xs held in (
            took.0,
            [],
            (took.0, [], took.1, refl, sym (append-nil took.0)),
            left_none end _ [] refl,
            subst (holds new) (sym (append-nil (xs ++ took.0))) took.2,
          );
    }
    go (inr (e, refused, port, last, pass, ends, full)) =
        let none = no_idle_steps (end_when_refused e i) in
        let at : (P : List Step → Type 0) → P [] → P (steps_in (idle_turns (end_when_refused e i))) = λ P h. subst P (sym none) h in
        subst (λ (x : Option Outcome). Runs is_up is_sound holds block bus before after p q old new was is_ 1 x) (sym ends) (record {
          due = gives.due;
          known = gives.known;
          turns = idle_turns (end_when_refused e i);
          taken = taken_refused bus before p q e i refused port;
          count = none_counts (end_when_refused e i) (refused_other e i);
          last = at (λ (l : List Step). after ≡ last_order before l) last;
          ends = at (λ (l : List Step). IsEnd bus q (end_when_refused e i) l)
              (end_refused bus q e i (subst (λ (x : PortShare). bus.refused x i e) (sym port) refused) full);
          commits = at (λ (l : List Step). AreDue gives.due l) tt;
          learned = λ a. inl (ap (λ (x : Pass). known_at x a) pass);
          still = subst (λ (x : Pass). StillStands was x) (sym pass) (stands_same was);
          posted = at (λ (l : List Step). ArePosted (end_when_refused e i) is_ (told_of gives.due l)) (λ other r has. elim has [ ]);
          block = same;
          list = λ sound up xs held. at
              (λ (l : List Step). (more left : List Record) × TakeIn (block new) xs gives.due l more
              × IsLeft (end_when_refused e i) (due_then gives.due l) left × holds new ((xs ++ more) ++ left))
              (let took = gives.list sound up xs held in (
                [],
                took.0,
                refl,
                left_refused (block new) xs gives.due e i took.0 took.1,
                subst (holds new) (ap (λ (l : List Record). l ++ took.0) (sym (append-nil xs))) took.2,
              ));
        })

  -- the same where port, store and last order are said to be as they were between
  pub runs_acted : (before between after : Option Order) (p r q : PortShare) (old mid new : S) (was is : Pass) (i : Input) (kept : Option Record)
      (end : Option Outcome) → Gives is_up is_sound holds block bus before p old mid i kept → block mid ≡ block old → between ≡ before → r ≡ p → new ≡ mid
      → Tells bus between after r q i was is kept end → Runs is_up is_sound holds block bus before after p q old new was is 1 end
  runs_acted before between after p r q old mid new was is i kept end gives same last port keep tells =
      subst (λ (s : S). Runs is_up is_sound holds block bus before after p q old s was is 1 end) (sym keep)
      (runs_told before after p q old mid was is i kept end gives same
      (subst (λ (x : PortShare). Tells bus before after x q i was is kept end) port
      (subst (λ (o : Option Order). Tells bus o after r q i was is kept end) last tells)))

  pub runs_more : (before between after : Option Order) (p q r : PortShare) (old then_ new : S) (was mid is : Pass) (m n : ℕ) (end : Option Outcome)
      → Leaves is_up is_sound holds old then_ → Leaves is_up is_sound holds then_ new
      → Runs is_up is_sound holds block bus before between p q old then_ was mid m None
      → Runs is_up is_sound holds block bus between after q r then_ new mid is n end
      → Runs is_up is_sound holds block bus before after p r old new was is (m + n) end
  runs_more before between after p q r old then_ new was mid is m n end left rest one two = record {
    due = due;
    known = known_more before one.due two.due ss p q bus (λ none. unmoved bus before p q one.turns one.taken none) one.known known;
    turns = one.turns ++ two.turns;
    taken = taken_more bus before p q r one.turns two.turns one.taken (subst (λ (o : Option Order). AreTaken bus o q two.turns r) one.last two.taken);
    count = subst (λ (k : ℕ). IsCount end k (m + n)) (sym (length-append one.turns two.turns ∙ ap (λ (k : ℕ). k + length two.turns) one.count))
        (count_more end m (length two.turns) n two.count);
    last = at (λ (l : List Step). after ≡ last_order before l)
        (two.last ∙ ap (λ (o : Option Order). last_order o ts) one.last ∙ sym (last_more before ss ts));
    ends = at (λ (l : List Step). IsEnd bus r end l) (ends_more bus r end ss ts one.ends two.ends);
    commits = at (λ (l : List Step). AreDue due l) (commits_more before one.due two.due ss ts link one.commits two.commits);
    still = still_more was mid is one.still two.still;
    posted = at (λ (l : List Step). ArePosted end is (told_of due l)) (λ other r has. ⊎_elim
        (λ first. posted_still mid is r two.still (one.posted (λ is. absurd (cc)) r first))
        (λ second. two.posted other r second)
        (told_either before one.due two.due ss ts r link two.commits has));
    learned = at (λ (l : List Step). Learns was is (told_of due l)) (learns_more was mid is _
        (learns_wider was mid (told_of one.due ss) _ (λ x has. told_first one.due two.due ss ts x has) one.learned)
        (learns_wider mid is (told_of two.due ts) _ (λ x has. told_second before one.due two.due ss ts x link has) two.learned));
    block = two.block ∙ one.block;
    list = λ sound up xs held. at
        (λ (l : List Step). (more left : List Record) × TakeIn (block new) xs due l more × IsLeft end (due_then due l) left
        × holds new ((xs ++ more) ++ left)) (list sound up xs held);
  } where
    ss : List Step
    ss = steps_in one.turns

    ts : List Step
    ts = steps_in two.turns

    due : Option Record
    due = first_due one.due ss two.due

    at : (P : List Step → Type 0) → P (ss ++ ts) → P (steps_in (one.turns ++ two.turns))
    at P h = subst P (sym (steps_more one.turns two.turns)) h

    known : IsKnownDue bus (last_order before ss) q two.due
    known = subst (λ (o : Option Order). IsKnownDue bus o q two.due) one.last two.known

    link : IsLinked (last_order before ss) two.due
    link = link_of (last_order before ss) two.due (bus.ordered q) known

    list : is_sound old → is_up new → (xs : List Record) → holds old xs
        → (more left : List Record) × TakeIn (block new) xs due (ss ++ ts) more × IsLeft end (due_then due (ss ++ ts)) left × holds new ((xs ++ more) ++ left)
    list sound up xs held =
        let open_ = rest.up up in
        let first = one.list sound open_ xs held in
        let none : first.1 ≡ [] = first.3 in
        let here : holds then_ (xs ++ first.0) =
        subst (holds then_) (ap (λ (l : List Record). (xs ++ first.0) ++ l) none ∙ append-nil (xs ++ first.0)) first.4 in
        let second = two.list (left.sound sound open_) up (xs ++ first.0) here in
        let took : TakeIn (block new) xs one.due ss first.0 = subst (λ (b : Block). TakeIn b xs one.due ss first.0) (sym two.block) first.2 in
        let assoc = append_assoc xs first.0 second.0 in (
          first.0 ++ second.0,
          second.1,
          joined (block new) xs before one.due two.due ss ts first.0 second.0 took link second.2,
          left_more before one.due two.due ss ts end second.1 link second.3,
          subst (λ (l : List Record). holds new (l ++ second.1)) assoc second.4,
        )

  -- a run that ended before it had all its turns, and one that had them
  pub runs_wider : (before after : Option Order) (p q : PortShare) (old new : S) (was is : Pass) (k most : ℕ) (end : Outcome) → IsOther (Some end) → k ≤ most
      → Runs is_up is_sound holds block bus before after p q old new was is k (Some end)
      → Runs is_up is_sound holds block bus before after p q old new was is most (Some end)
  runs_wider before after p q old new was is k most end other wide runs =
      record {
        due = runs.due;
        known = runs.known;
        turns = runs.turns;
        taken = runs.taken;
        count = count_wider end (length runs.turns) k most other wide runs.count;
        last = runs.last;
        ends = runs.ends;
        commits = runs.commits;
        learned = runs.learned;
        still = runs.still;
        posted = runs.posted;
        block = runs.block;
        list = runs.list;
      }

-- how turns follow each other
pub ruleset shifts = (leaves_none, leaves_more, posts_none, posts_more, runs_none, runs_more)
