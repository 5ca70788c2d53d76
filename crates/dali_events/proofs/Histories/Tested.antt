use Rattle.std.proofs.Common.{◌≡◌, ◌⊎◌, inl, inr, ℕ, ◌<◌, ◌≤◌, Bool, true, false, List, [], ◌∷◌, ◌++◌, length, Option, Some, None, is_none, refl, ap, arith}
use Rattle.std.{proofs.{Common.{◌==◌, ◌&&◌, not, if◌then◌else◌, nat_lt, nat_le}, lemmas.Bool.Decides.nat_tests}, specs.List.AllByRecursion}
use Rattle.dali_frame.specs.{Priority.{FIRST, LATER}, Random.MASK24, declared.frames.{Answer.{Answer, TheVariants.{Silence, Byte}}, Forward.Forward}}
use Rattle.dali_special.specs.Command.{command_of}
use Rattle.dali_gear.specs.{Row.{draws_needed, answers_of}, declared.row.Reach.{Reach, TheVariants.{Everyone, Only}}}
use Rattle.dali_arbiter.specs.Arbiter.{owns}
use Rattle.dali_script.specs.{Records.{Assignment, Kept, InBlock, IsFresh}, Scripts.{Lawful, IsFirst}, Stages.{stage_of, follows, in_block}}
use Rattle.dali_script.specs.declared.{block.Block.Block, orders.{Input.Input, Order.{Order, TheVariants.{Put, Commit, Done}}}, records.Record.Record}
use Rattle.dali_script.{specs.declared.{records.Record.TheVariants.Reserve, trace.Entry.Entry}, proofs.Giving.{first_of_both, second_of_both}}
use Rattle.dali_script.proofs.Transactions.{equal, lawful_follows, follows_from_test}
use Rattle.dali_events.specs.{Allowed.{Allowed, IsUp, IsDown, MaySend, HasDraws, Hears, IsCommit, IsDue, MayCommit, MayPut, MayOrder}, Happens.happens}
use Rattle.dali_events.specs.{Happens.controller_informed, Runs.AllAllowed, World.{World, Controller, controller_at}, declared.event.Event.Event}
use Rattle.dali_script.specs.declared.orders.Input.TheVariants as input
use Rattle.dali_events.specs.declared.event.Event.TheVariants as event

-- WHETHER AN EVENT IS ALLOWED, AS A TEST: what passes it is allowed. So a history is shown to be allowed by computing. The test
-- knows the events that the histories are made of, and says no to all others; a controller comes up without what is outstanding.

below : (n m : ℕ) → nat_lt n m ≡ true → n < m
below n m e = grind (arith, nat_tests)

at_most : (n m : ℕ) → nat_le n m ≡ true → n ≤ m
at_most n m e = grind (arith, nat_tests)

-- ---------------------------------------------------------------- who may send what

abbrev pub is_there : World → ℕ → Bool
is_there w c = nat_lt c (length w.controllers) && (controller_at w c).up

up_by : (w : World) (c : ℕ) → is_there w c ≡ true → IsUp w c
up_by w c e = record { known = below c (length w.controllers) (first_of_both _ _ e); up = second_of_both _ _ e }

abbrev pub is_down : World → ℕ → Bool
is_down w c = nat_lt c (length w.controllers) && not (controller_at w c).up

not_up : (b : Bool) → not b ≡ true → b ≡ false
not_up false e = refl
not_up true e = absurd (cc)

down_by : (w : World) (c : ℕ) → is_down w c ≡ true → IsDown w c
down_by w c e = record { known = below c (length w.controllers) (first_of_both _ _ e); down = not_up _ (second_of_both _ _ e) }

-- a frame that may follow a trace, for a controller with these records
abbrev pub is_lawful : Kept → List Entry → Forward → Bool
is_lawful k t f = follows k.block k.reserved (stage_of t) (command_of f)

lawful_by : (k : Kept) (t : List Entry) (f : Forward) → is_lawful k t f ≡ true → Lawful k.block k.reserved t f
lawful_by k t f e = lawful_follows k.block k.reserved t f (follows_from_test k.block k.reserved (stage_of t) (command_of f) e)

first_by : (k : Kept) (f : Forward) → is_lawful k [] f ≡ true → IsFirst f
first_by k f e = (k.block, k.reserved, lawful_by k [] f e)

-- by who owns the bus
abbrev pub may_send : Option ℕ → Kept → List Entry → ℕ → Forward → Bool
may_send None k t c f = is_lawful k [] f
may_send (Some d) k t c f = (d == c) && is_lawful k t f

may_send_by : (owner : Option ℕ) (k : Kept) (t : List Entry) (c : ℕ) (f : Forward) → may_send owner k t c f ≡ true
    → ((owner ≡ Some c) × Lawful k.block k.reserved t f) ⊎ ((owner ≡ None) × IsFirst f)
may_send_by None k t c f e = inr (refl, first_by k f e)
may_send_by (Some d) k t c f e = inl (ap (λ n. Some n) (equal d c (first_of_both _ _ e)), lawful_by k t f (second_of_both _ _ e))

abbrev pub has_draws : World → Reach → Forward → Bool
has_draws w reach f = nat_le (draws_needed reach (command_of f) 0 w.gear) (length w.left)

draws_by : (w : World) (reach : Reach) (f : Forward) → has_draws w reach f ≡ true → HasDraws w reach f
draws_by w reach f e = at_most (draws_needed reach (command_of f) 0 w.gear) (length w.left) e

-- ---------------------------------------------------------------- hearing

abbrev pub each_is : ℕ → List ℕ → Bool
each_is v [] = true
each_is v (u ∷ us) = (u == v) && each_is v us

each_by : (v : ℕ) (us : List ℕ) → each_is v us ≡ true → AllByRecursion (λ answer. answer ≡ v) us
each_by v [] e = tt
each_by v (u ∷ us) e = (equal u v (first_of_both _ _ e), each_by v us (second_of_both _ _ e))

abbrev pub heard_as : ℕ → List ℕ → Bool
heard_as v [] = false
heard_as v (u ∷ us) = each_is v (u ∷ us)

heard_by : (v : ℕ) (answers : List ℕ) → heard_as v answers ≡ true → Hears answers (Byte v)
heard_by v [] e = absurd (cc)
heard_by v (u ∷ us) e = (λ same. cc, each_by v (u ∷ us) e)

abbrev pub may_hear : List ℕ → Answer → Bool
may_hear answers (Byte v) = heard_as v answers
may_hear answers _ = true

hears_by : (answers : List ℕ) (h : Answer) → may_hear answers h ≡ true → Hears answers h
hears_by answers (Byte v) e = heard_by v answers e
hears_by answers _ e = tt

-- ---------------------------------------------------------------- a controller acts

abbrev pub same_input : Input → Input → Bool
same_input input.Start input.Start = true
same_input (input.Heard Silence) (input.Heard Silence) = true
same_input (input.Heard (Byte u)) (input.Heard (Byte v)) = u == v
same_input input.Destroyed input.Destroyed = true
same_input _ _ = false

same_by : (i j : Input) → same_input i j ≡ true → i ≡ j
same_by input.Start input.Start e = refl
same_by (input.Heard Silence) (input.Heard Silence) e = refl
same_by (input.Heard (Byte u)) (input.Heard (Byte v)) e = ap (λ n. input.Heard (Byte n)) (equal u v e)
same_by input.Destroyed input.Destroyed e = refl
same_by _ _ e = absurd (cc)

abbrev pub is_told : Option Input → Input → Bool
is_told None i = false
is_told (Some j) i = same_input j i

told_by : (told : Option Input) (i : Input) → is_told told i ≡ true → told ≡ Some i
told_by None i e = absurd (cc)
told_by (Some j) i e = ap (λ k. Some k) (same_by j i e)

abbrev pub is_commit : Option Order → Bool
is_commit (Some (Commit x)) = true
is_commit _ = false

commit_by : (last : Option Order) → is_commit last ≡ true → IsCommit last
commit_by (Some (Commit x)) e = tt
commit_by _ e = absurd (cc)

abbrev pub is_due : Controller → Input → Bool
is_due k input.Committed = is_commit k.last
is_due k input.CommitFailed = is_commit k.last
is_due k input.Survey = is_told k.told input.Start
is_due k input.Start = is_told k.told input.Start
is_due k (input.Heard h) = is_told k.told (input.Heard h)
is_due k input.Destroyed = is_told k.told input.Destroyed
is_due k input.Lapsed = is_told k.told input.Lapsed

due_by : (k : Controller) (i : Input) → is_due k i ≡ true → IsDue k i
due_by k input.Committed e = commit_by k.last e
due_by k input.CommitFailed e = commit_by k.last e
due_by k input.Survey e = told_by k.told input.Start e
due_by k input.Start e = told_by k.told input.Start e
due_by k (input.Heard h) e = told_by k.told (input.Heard h) e
due_by k input.Destroyed e = told_by k.told input.Destroyed e
due_by k input.Lapsed e = told_by k.told input.Lapsed e

owner_by : (owner : Option ℕ) (c : ℕ) → owns owner c ≡ true → owner ≡ Some c
owner_by None c e = absurd (cc)
owner_by (Some d) c e = ap (λ n. Some n) (equal d c e)

abbrev pub may_follow_on : World → ℕ → Kept → ℕ → Forward → Bool
may_follow_on w c k p f = (p == LATER) && (owns w.bus.owner c && is_lawful k w.trace f)

abbrev pub may_put : World → ℕ → Kept → ℕ → Forward → Bool
may_put w c k p f = if p == FIRST then is_lawful k [] f else may_follow_on w c k p f

put_by : (w : World) (c : ℕ) (k : Controller) (p : ℕ) (f : Forward) → may_put w c k.records p f ≡ true → MayPut w c k p f
put_by w c k p f e = go (p == FIRST) refl e where
  go : (t : Bool) → (p == FIRST) ≡ t → (if t then is_lawful k.records [] f else may_follow_on w c k.records p f) ≡ true → MayPut w c k p f
  go true is e = inl (equal p FIRST is, first_by k.records f e)
  go false is e =
      let rest : (owns w.bus.owner c && is_lawful k.records w.trace f) ≡ true = second_of_both _ _ e in
      inr (equal p LATER (first_of_both _ _ e), owner_by w.bus.owner c (first_of_both _ _ rest), lawful_by k.records w.trace f (second_of_both _ _ rest))

-- a reservation, where nothing is reserved
abbrev pub is_empty : List Assignment → Bool
is_empty [] = true
is_empty (x ∷ xs) = false

fresh_by : (xs : List Assignment) (x : Assignment) → is_empty xs ≡ true → IsFresh xs x
fresh_by [] x e = (λ h. h, λ h. h)
fresh_by (y ∷ xs) x e = absurd (cc)

none_by : (o : Option Record) → is_none o ≡ true → o ≡ None
none_by None e = refl
none_by (Some x) e = absurd (cc)

within_by : (b : Block) (a : ℕ) → in_block b a ≡ true → InBlock b a
within_by b a e = (at_most b.first a (first_of_both _ _ e), at_most a b.last (second_of_both _ _ e))

abbrev pub may_reserve : Controller → ℕ → ℕ → Bool
may_reserve k a r = in_block k.records.block a && (nat_lt r MASK24 && is_empty k.records.reserved)

reserve_by : (k : Controller) (a r : ℕ) → may_reserve k a r ≡ true → MayCommit k (Reserve a r)
reserve_by k a r e =
    let rest : (nat_lt r MASK24 && is_empty k.records.reserved) ≡ true = second_of_both _ _ e in
    (within_by k.records.block a (first_of_both _ _ e), below r MASK24 (first_of_both _ _ rest), fresh_by k.records.reserved (a, r) (second_of_both _ _ rest))

abbrev pub may_order : World → ℕ → Controller → Order → Bool
may_order w c k (Put p f) = may_put w c k.records p f
may_order w c k (Commit (Reserve a r)) = is_none k.outstanding && may_reserve k a r
may_order w c k (Done end) = true
may_order w c k _ = false

order_by : (w : World) (c : ℕ) (k : Controller) (o : Order) → may_order w c k o ≡ true → MayOrder w c k o
order_by w c k (Put p f) e = put_by w c k p f e
order_by w c k (Commit (Reserve a r)) e = (none_by k.outstanding (first_of_both _ _ e), reserve_by k a r (second_of_both _ _ e))
order_by w c k (Done end) e = tt
order_by w c k _ e = absurd (cc)

-- ---------------------------------------------------------------- the test

abbrev pub is_sent : World → ℕ → Forward → Bool
is_sent w c f = is_there w c && may_send w.bus.owner (controller_at w c).records w.trace c f

abbrev pub is_acted : World → ℕ → Input → Order → Bool
is_acted w c i o = is_due (controller_at w c) i && may_order w c (controller_informed (controller_at w c) i) o

abbrev pub is_allowed : World → Event → Bool
is_allowed w (event.Acted c i o) = is_there w c && is_acted w c i o
is_allowed w (event.Sent c f h) = is_sent w c f && (has_draws w Everyone f && may_hear (answers_of Everyone (command_of f) 0 w.gear) h)
is_allowed w (event.Destroyed c f set) = is_sent w c f && has_draws w (Only set) f
is_allowed w event.Lapsed = true
is_allowed w (event.Power g on) = true
is_allowed w (event.Down c) = is_there w c
is_allowed w (event.Up c kept) = is_down w c && not kept
is_allowed w _ = false

sender_by : (w : World) (c : ℕ) (f : Forward) → is_sent w c f ≡ true → IsUp w c × MaySend w c f
sender_by w c f e = (up_by w c (first_of_both _ _ e), may_send_by w.bus.owner (controller_at w c).records w.trace c f (second_of_both _ _ e))

pub allowed_by : (w : World) (e : Event) → is_allowed w e ≡ true → Allowed w e
allowed_by w (event.Acted c i o) e =
    let acted : is_acted w c i o ≡ true = second_of_both _ _ e in
    record {
      up = up_by w c (first_of_both _ _ e);
      due = due_by (controller_at w c) i (first_of_both _ _ acted);
      order = order_by w c (controller_informed (controller_at w c) i) o (second_of_both _ _ acted);
    }
allowed_by w (event.Sent c f h) e =
    let sender = sender_by w c f (first_of_both _ _ e) in
    let taken : (has_draws w Everyone f && may_hear (answers_of Everyone (command_of f) 0 w.gear) h) ≡ true = second_of_both _ _ e in
    record {
      up = sender.0;
      may = sender.1;
      draws = draws_by w Everyone f (first_of_both _ _ taken);
      heard = hears_by (answers_of Everyone (command_of f) 0 w.gear) h (second_of_both _ _ taken);
    }
allowed_by w (event.Destroyed c f set) e =
    let sender = sender_by w c f (first_of_both _ _ e) in
    record { up = sender.0; may = sender.1; draws = draws_by w (Only set) f (second_of_both _ _ e) }
allowed_by w event.Lapsed e = tt
allowed_by w (event.Power g on) e = tt
allowed_by w (event.Down c) e = up_by w c e
allowed_by w (event.Up c false) e = (down_by w c (first_of_both _ _ e), tt)
allowed_by w (event.Up c true) e = absurd (let never : false ≡ true = second_of_both (is_down w c) false e in cc)
allowed_by w _ e = absurd (cc)

-- ---------------------------------------------------------------- histories

-- each event is so at the moment that those before it leave, under rules that move what is there so
abbrev pub EachIs : {S : Type 0} → (S → Event → Type 0) → (S → Event → S) → S → List Event → Type 0
EachIs P moves s [] = Unit {0}
EachIs P moves s (e ∷ es) = P s e × EachIs P moves (moves s e) es

abbrev pub after_each : {S : Type 0} → (S → Event → S) → S → List Event → S
after_each moves s [] = s
after_each moves s (e ∷ es) = after_each moves (moves s e) es

abbrev pub each_passes : {S : Type 0} → (S → Event → Bool) → (S → Event → S) → S → List Event → Bool
each_passes test moves s [] = true
each_passes test moves s (e ∷ es) = test s e && each_passes test moves (moves s e) es

pub each_is_by : {S : Type 0} (P : S → Event → Type 0) (test : S → Event → Bool) (moves : S → Event → S) → ((s : S) (e : Event) → test s e ≡ true → P s e)
    → (s : S) (es : List Event) → each_passes test moves s es ≡ true → EachIs P moves s es
each_is_by P test moves by s [] passes = tt
each_is_by P test moves by s (e ∷ es) passes = (by s e (first_of_both _ _ passes), each_is_by P test moves by (moves s e) es (second_of_both _ _ passes))

-- one history after another
pub each_is_after : {S : Type 0} (P : S → Event → Type 0) (moves : S → Event → S) (s : S) (es fs : List Event) → EachIs P moves s es
    → EachIs P moves (after_each moves s es) fs → EachIs P moves s (es ++ fs)
each_is_after P moves s [] fs first later = later
each_is_after P moves s (e ∷ es) fs first later = (first.0, each_is_after P moves (moves s e) es fs first.1 later)

-- the rules as they are
pub all_allowed_by : (w : World) (es : List Event) → each_passes is_allowed happens w es ≡ true → AllAllowed w es
all_allowed_by w [] passes = tt
all_allowed_by w (e ∷ es) passes = (allowed_by w e (first_of_both _ _ passes), all_allowed_by (happens w e) es (second_of_both _ _ passes))
