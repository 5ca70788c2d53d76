use Rattle.std.proofs.Common.{◌≡◌, ◌⊎◌, ⊎_elim, arith, ℕ, ◌+◌, ◌≤◌, length, List, [], ◌∷◌, ◌++◌, Bool, true, false, ◌||◌, Option, Some, None, refl, ◌∙◌, ap}
use Rattle.std.proofs.{Common.sym, Common.subst, KnownBytes.Appends-trans, KnownBytes.Appends-nil, KnownBytes.Consumes-trans, KnownBytes.Consumes-nil}
use Rattle.std.proofs.lemmas.{Bool.false≢true, List.append_assoc, List.append-nil}
use Rattle.std.specs.Io.KnownBytes.{Appends, Consumes}
use Rattle.dali_frame.specs.declared.frames.Forward.{Forward}
use Rattle.dali_script.specs.{Due.accepts, Due.record_ordered, declared.orders.Input.Input}
use Rattle.dali_script.specs.declared.orders.Input.TheVariants.{Start, Survey, Heard, Destroyed, Lapsed, Committed, CommitFailed}
use Rattle.dali_script.specs.declared.{orders.Order.Order, records.Record.Record}
use Rattle.dali_script.specs.declared.orders.Due.TheVariants as due
use Rattle.dali_controller.specs.Machine.{Machine}
use Rattle.dali_commissioning.specs.Conducted.{Hears, Conducted, Commits, MayCommit, Stays, IsAt, IsLeft, HasTaken}
use Rattle.dali_commissioning.specs.{Drivers.Talk, Lines.Tells, Steps.Step, Steps.IsStep, Steps.last_order}
use Rattle.dali_commissioning.specs.Steps.{open_after, order_line, written_by, opened_by, if_heard, record_told, committed_by, is_kept, AreTold, earlier}

-- a line that was read, by what it tells
pub line_told : (left rest : Option (List ℕ)) (told : Input) → accepts due.Bus told ≡ true
    → Tells left rest told → (bytes : List ℕ) × Consumes left rest bytes × AreTold told bytes
line_told left rest (Heard h) bus (line, read, says) = (line ++ 10 ∷ [], read, (line, refl, says))
line_told left rest Destroyed bus (line, read, says) = (line ++ 10 ∷ [], read, (line, refl, says))
line_told left rest Lapsed bus (line, read, says) = (line ++ 10 ∷ [], read, (line, refl, says))
line_told left rest Start bus t = absurd (false≢true bus)
line_told left rest Survey bus t = absurd (false≢true bus)
line_told left rest Committed bus t = absurd (false≢true bus)
line_told left rest CommitFailed bus t = absurd (false≢true bus)

-- one step more
pub further : (m mid n : Machine) (steps : List Step) (order next : Order) (told : Input)
    (x y z : Talk) → Conducted m mid steps x y → last_order steps ≡ Some order
    → IsStep mid (record { told = told; order = next }) n
    → Appends y.written z.written (order_line (open_after steps) (Some order)) → Hears y z told
    → Conducted m n (record { told = told; order = next } ∷ steps) x z
further m mid n steps order next told x y z so_far last step wrote (bytes, read, tells) = record {
  taken = (mid, so_far.taken, step);
  wrote = Appends-trans x.written y.written z.written (written_by steps) (order_line (open_after steps) (last_order steps)) so_far.wrote
      (subst (λ o. Appends y.written z.written (order_line (open_after steps) o)) (sym last) wrote);
  bytes = so_far.bytes ++ bytes;
  read = Consumes-trans x.left y.left z.left so_far.bytes bytes so_far.read read;
  told = (so_far.bytes, bytes, refl, so_far.told, tells);
}

-- some records more
pub commits_further : {S : Type 0} (is_up is_sound : S → Type 0) (holds : S → List Record → Type 0)
    (old mid new : S) (xs ys : List Record) → Commits is_up is_sound holds old mid xs
    → Stays is_up is_sound old mid → Stays is_up is_sound mid new
    → Commits is_up is_sound holds mid new ys → Commits is_up is_sound holds old new (xs ++ ys)
commits_further is_up is_sound holds old mid new xs ys one first second two = λ sound up list held.
    subst (holds new) (append_assoc list xs ys)
    (two (first.sound sound (second.up up)) up (list ++ xs) (one sound (second.up up) list held))

pub stays_further : {S : Type 0} (is_up is_sound : S → Type 0) (old mid new : S)
    → Stays is_up is_sound old mid → Stays is_up is_sound mid new → Stays is_up is_sound old new
stays_further is_up is_sound old mid new first second = record {
  up = λ up. first.up (second.up up);
  sound = λ sound up. second.sound (first.sound sound (second.up up)) up;
}

-- what begins is not of the bus, and tells of no record
begins : (first : Input) → accepts due.Start first ≡ true
    → AreTold first [] × (None ≡ if_heard first None) × (record_told first None ≡ []) × (false ≡ is_kept first)
begins Start may = (refl, refl, refl, refl)
begins Survey may = (refl, refl, refl, refl)
begins _ may = absurd (false≢true may)

-- before the first order is done
pub at_begun : {S : Type 0} (is_up is_sound : S → Type 0) (holds : S → List Record → Type 0)
    (keep : S) (m n : Machine) (x : Talk) (first : Input) (order : Order) → accepts due.Start first ≡ true
    → IsStep m (record { told = first; order = order }) n → n.last ≡ Some order
    → IsAt is_up is_sound holds keep keep m n x x first None order false 0
at_begun is_up is_sound holds keep m n x first order may step ordered = record {
  steps = record { told = first; order = order } ∷ [];
  begun = refl;
  conducted = record {
    taken = (m, refl, step);
    wrote = Appends-nil x.written;
    bytes = [];
    read = Consumes-nil x.left;
    told = ([], [], refl, refl, (begins first may).0);
  };
  counted = refl;
  last = refl;
  ordered = ordered;
  stands = (begins first may).1;
  commits = λ sound up list held.
      subst (holds keep) (sym (ap (λ xs. list ++ xs) (begins first may).2 ∙ append-nil list)) held;
  has = (begins first may).3;
  stays = record { up = λ up. up; sound = λ sound up. sound };
}

-- after one order more
pub at_further : {S : Type 0} (is_up is_sound : S → Type 0) (holds : S → List Record → Type 0)
    (was mid keep : S) (m between n : Machine) (x y z : Talk)
    (first : Input) (waiting later : Option Forward) (order next : Order) (told : Input) (committed more : Bool) (count : ℕ)
    → IsAt is_up is_sound holds was mid m between x y first waiting order committed count
    → IsStep between (record { told = told; order = next }) n → n.last ≡ Some next
    → Appends y.written z.written (order_line waiting (Some order)) → Hears y z told
    → later ≡ if_heard told (opened_by waiting (Some order)) → more ≡ (committed || is_kept told)
    → Stays is_up is_sound mid keep
    → Commits is_up is_sound holds mid keep (record_told told (record_ordered (Some order)))
    → IsAt is_up is_sound holds was keep m n x z first later next more (count + 1)
at_further is_up is_sound holds was mid keep m between n x y z first waiting later order next told committed more count so_far step ordered wrote hears opened
    joined stays commits = record {
      steps = record { told = told; order = next } ∷ so_far.steps;
      begun = ap (λ it. Some (earlier it told)) so_far.begun;
      conducted = further m between n so_far.steps order next told x y z so_far.conducted so_far.last step
          (subst (λ o. Appends y.written z.written (order_line o (Some order))) so_far.stands wrote) hears;
      counted = omega (arith, so_far.counted);
      last = refl;
      ordered = ordered;
      stands = opened ∙ ap (λ o. if_heard told (opened_by o (Some order))) so_far.stands
          ∙ ap (λ o. if_heard told (opened_by (open_after so_far.steps) o)) (sym so_far.last);
      commits = commits_further is_up is_sound holds was mid keep (committed_by so_far.steps) _ so_far.commits so_far.stays stays
          (subst (λ o. Commits is_up is_sound holds mid keep (record_told told (record_ordered o))) (sym so_far.last) commits);
      has = joined ∙ ap (λ c. c || is_kept told) so_far.has;
      stays = stays_further is_up is_sound was mid keep so_far.stays stays;
    }

-- if nothing is written or read
pub no_line : (a : Option (List ℕ)) → Appends a a []
no_line = Appends-nil

pub unheard : (l : Option (List ℕ)) → (bytes : List ℕ) × Consumes l l bytes × AreTold Committed bytes
unheard l = ([], Consumes-nil l, refl)

few : length {A = Record} [] ≤ 1
few = omega (arith)

one : (x : Record) → length (x ∷ []) ≤ 1
one x = omega (arith)

-- a store as it was
pub same : {S : Type 0} (is_up is_sound : S → Type 0) (holds : S → List Record → Type 0) (keep : S)
    → MayCommit is_up is_sound holds keep keep []
same is_up is_sound holds keep = λ sound up list held.
    ([], few, subst (holds keep) (sym (append-nil list)) held)

-- a store with one record more or none
pub one_more : {S : Type 0} (is_up is_sound : S → Type 0) (holds : S → List Record → Type 0)
    (old new : S) (x : Record)
    → (is_sound old → is_up new → (xs : List Record) → holds old xs → holds new xs ⊎ holds new (xs ++ x ∷ []))
    → MayCommit is_up is_sound holds old new []
one_more is_up is_sound holds old new x list = λ sound up xs held.
    ⊎_elim (λ it. ([], few, subst (holds new) (sym (append-nil xs)) it)) (λ more. (x ∷ [], one x, more)) (list sound up xs held)

-- after all steps that it may take
pub left_at : {S : Type 0} (is_up is_sound : S → Type 0) (holds : S → List Record → Type 0)
    (was keep : S) (m n : Machine) (x y : Talk) (first : Input) (waiting : Option Forward) (order : Order) (committed : Bool) (count : ℕ)
    → IsAt is_up is_sound holds was keep m n x y first waiting order committed count
    → IsLeft is_up is_sound holds was keep m n
left_at is_up is_sound holds was keep m n x y first waiting order committed count so_far = (
  so_far.steps,
  so_far.conducted.taken,
  λ sound up list held. (
    [],
    few,
    subst (λ ys. holds keep (list ++ ys)) (sym (append-nil (committed_by so_far.steps)))
        (so_far.commits sound up list held),
  ),
)

-- if its last order is not done
pub left_at_fault : {S : Type 0} (is_up is_sound : S → Type 0) (holds : S → List Record → Type 0)
    (was mid keep : S) (m n : Machine) (x y : Talk) (first : Input) (waiting : Option Forward) (order : Order) (committed : Bool) (count : ℕ)
    → IsAt is_up is_sound holds was mid m n x y first waiting order committed count
    → Stays is_up is_sound mid keep → MayCommit is_up is_sound holds mid keep []
    → IsLeft is_up is_sound holds was keep m n
left_at_fault is_up is_sound holds was mid keep m n x y first waiting order committed count so_far stays last = (
  so_far.steps,
  so_far.conducted.taken,
  λ sound up list held.
      let (more, few_more, has) = last (so_far.stays.sound sound (stays.up up)) up (list ++ committed_by so_far.steps)
      (so_far.commits sound (stays.up up) list held) in
      (more, few_more, subst (holds keep) (append_assoc list (committed_by so_far.steps) more) has),
)

-- after as many orders as were counted
pub taken_at : {S : Type 0} (is_up is_sound : S → Type 0) (holds : S → List Record → Type 0)
    (was keep : S) (m n : Machine) (x y : Talk) (first : Input) (waiting : Option Forward) (order : Order) (committed : Bool) (count : ℕ)
    → IsAt is_up is_sound holds was keep m n x y first waiting order committed count
    → HasTaken is_up is_sound holds was keep m n x y first count
taken_at is_up is_sound holds was keep m n x y first waiting order committed count so_far = (waiting, order, committed, so_far)
