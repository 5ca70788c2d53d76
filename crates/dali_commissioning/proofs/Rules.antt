use Rattle.std.proofs.Common.{◌≡◌, ◌⊎◌, inl, inr, ℕ, Bool, false, refl, sym, ap, subst, ◌∙◌, List, [], ◌∷◌, ◌++◌, Option, Some, None}
use Rattle.std.proofs.{KnownBytes.Appends-nil, lemmas.List.append_assoc, lemmas.List.append-nil}
use Rattle.dali_frame.specs.declared.frames.{Forward.Forward}
use Rattle.dali_special.specs.Command.{command_of}
use Rattle.dali_script.specs.Findings.{search_of, asked_of, found_by, assigned}
use Rattle.dali_script.specs.{Due.record_ordered, Records.Assignment, Records.Has, Records.Kept, Records.with_record, Records.without_records}
use Rattle.dali_script.specs.declared.block.Block.{Block}
use Rattle.dali_script.specs.declared.{finding.Finding.Finding, orders.Input.Input, orders.Order.Order, records.Record.Record, trace.Entry.Entry}
use Rattle.dali_script.specs.declared.records.Record.TheVariants as record_of
use Rattle.dali_reserve.specs.Store.{replay_of, IsReplay}
use Rattle.dali_statement.specs.Own.{Own, Act, Puts, Loses, Begins, Keeps, told_more, own_after, own_all, AreOwn}
use Rattle.dali_controller.specs.Machine.{Machine, at_first}
use Rattle.dali_controller.proofs.Acts.{own_both}
use Rattle.dali_commissioning.specs.{Acts.acts_by, Acts.records_of, Acts.sender_of, Acts.KeepsRules, Acts.acts_of_runs, Acts.RunsKeepRules}
use Rattle.dali_commissioning.specs.{Acts.outstanding, Acts.IsLeftRun, Acts.RunsLeaveRules, Steps.last_order}
use Rattle.dali_commissioning.specs.{Acts.LeavesRules, Acts.HasWritten, Acts.IsLast, Acts.MayCommitLast, Steps.order_line, Steps.open_after}
use Rattle.dali_commissioning.specs.declared.{conducting.PassEnd.PassEnd, fault.CommissionFault.CommissionFault, fault.CommissionFault.TheVariants.StepsSpent}
use Rattle.dali_commissioning.specs.declared.fault.CommissionFault.TheVariants.{RunsSpent}
use Rattle.dali_commissioning.specs.Conducted.{Commits, Stays, IsAt}
use Rattle.dali_commissioning.specs.{Drivers.Talk, Runs.Run, Runs.AreRuns, Steps.committed_by}
use Rattle.dali_commissioning.proofs.{Done.steps_done, Outstanding.outstanding_own}
use Rattle.dali_commissioning.proofs.{Acts.keeps_to_scripts, Acts.records_are_kept, Acts.records_both, Ran.HasRun, Ran.OneRun, Steps.stays_further}

-- WHAT IS CONDUCTED KEEPS THE RULES, by the records of its store.

-- ---------------------------------------------------------------- one machine

pub rules_kept : {S : Type 0} (is_up is_sound : S → Type 0) (holds : S → List Record → Type 0)
    (was keep : S) (m n : Machine) (x y : Talk) (first : Input) (waiting : Option Forward) (order : Order) (committed : Bool) (count : ℕ)
    → m.last ≡ None → m.trace ≡ [] → IsAt is_up is_sound holds was keep m n x y first waiting order committed count
    → KeepsRules is_up is_sound holds was keep m.kept x y
rules_kept is_up is_sound holds was keep m n x y first waiting order committed count unstarted idle at = record {
  steps = at.steps;
  wrote = at.conducted.wrote;
  bytes = at.conducted.bytes;
  read = at.conducted.read;
  told = at.conducted.told;
  commits = subst (λ xs. Commits is_up is_sound holds was keep xs) (sym (records_are_kept at.steps)) at.commits;
  own = keeps_to_scripts m n at.steps unstarted idle at.conducted.taken;
}

-- ---------------------------------------------------------------- a machine that is left

pub same_last : {S : Type 0} (is_up is_sound : S → Type 0) (holds : S → List Record → Type 0) (keep : S) (last : Option Record)
    → MayCommitLast is_up is_sound holds keep keep [] last
same_last is_up is_sound holds keep last = λ sound up xs held. ([], inl refl, subst (holds keep) (sym (append-nil xs)) held)

pub one_more_last : {S : Type 0} (is_up is_sound : S → Type 0) (holds : S → List Record → Type 0) (old new : S) (x : Record)
    → (is_sound old → is_up new → (xs : List Record) → holds old xs → holds new xs ⊎ holds new (xs ++ x ∷ []))
    → MayCommitLast is_up is_sound holds old new [] (Some x)
one_more_last is_up is_sound holds old new x list = λ sound up xs held. go xs (list sound up xs held) where
  go : (xs : List Record) → holds new xs ⊎ holds new (xs ++ x ∷ []) → (more : List Record) × IsLast (Some x) more × holds new (xs ++ ([] ++ more))
  go xs (inl none) = ([], inl refl, subst (holds new) (sym (append-nil xs)) none)
  go xs (inr one) = (x ∷ [], inr (x, refl, refl), one)

pub rules_left : {S : Type 0} (is_up is_sound : S → Type 0) (holds : S → List Record → Type 0)
    (reason : CommissionFault) (was mid keep : S) (m n : Machine) (x y z : Talk) (first : Input) (waiting : Option Forward) (order : Order)
    (committed : Bool) (count : ℕ)
    → m.last ≡ None → m.trace ≡ [] → IsAt is_up is_sound holds was mid m n x y first waiting order committed count
    → Stays is_up is_sound mid keep → MayCommitLast is_up is_sound holds mid keep [] (record_ordered (Some order))
    → HasWritten reason y z (order_line waiting (Some order)) → LeavesRules is_up is_sound holds first reason was keep m x z
rules_left is_up is_sound holds reason was mid keep m n x y z first waiting order committed count unstarted idle so_far stays last written = record {
  steps = so_far.steps;
  machine = n;
  taken = so_far.conducted.taken;
  started = so_far.begun;
  at = y;
  wrote = so_far.conducted.wrote;
  bytes = so_far.conducted.bytes;
  read = so_far.conducted.read;
  told = so_far.conducted.told;
  begun = subst (λ o. HasWritten reason y z (order_line (open_after so_far.steps) o)) (sym so_far.last)
      (subst (λ w. HasWritten reason y z (order_line w (Some order))) so_far.stands written);
  commits = λ sound up xs held.
      let then = so_far.commits sound (stays.up up) xs held in
      let (more, few, has) = last (so_far.stays.sound sound (stays.up up)) up (xs ++ committed_by so_far.steps) then in (
        more,
        subst (λ o. IsLast (record_ordered o) more) (sym so_far.last) few,
        subst (λ ys. holds keep (xs ++ (ys ++ more))) (sym (records_are_kept so_far.steps))
            (subst (holds keep) (append_assoc xs (committed_by so_far.steps) more) has),
      );
  done = steps_done m n so_far.steps x y unstarted so_far.conducted;
  own = outstanding_own m n so_far.steps unstarted idle so_far.conducted.taken;
}

pub rules_spent : {S : Type 0} (is_up is_sound : S → Type 0) (holds : S → List Record → Type 0)
    (was keep : S) (m n : Machine) (x y : Talk) (first : Input) (waiting : Option Forward) (order : Order) (committed : Bool) (count : ℕ)
    → m.last ≡ None → m.trace ≡ [] → IsAt is_up is_sound holds was keep m n x y first waiting order committed count
    → LeavesRules is_up is_sound holds first StepsSpent was keep m x y
rules_spent is_up is_sound holds was keep m n x y first waiting order committed count unstarted idle at =
    rules_left is_up is_sound holds StepsSpent was keep keep m n x y y first waiting order committed count unstarted idle at
    (record { up = λ up. up; sound = λ sound up. sound }) (same_last is_up is_sound holds keep (record_ordered (Some order))) (Appends-nil y.written)

-- ---------------------------------------------------------------- one sender after the other

-- what it keeps is the replay of its records
pub kept_all : (v : Own) (acts : List Act) → (own_all v acts).kept ≡ replay_of v.kept (records_of acts)
kept_all v [] = refl
kept_all v (Puts f h ∷ acts) = kept_all (own_after v (Puts f h)) acts
kept_all v (Loses f ∷ acts) = kept_all (own_after v (Loses f)) acts
kept_all v (Begins ∷ acts) = kept_all (own_after v Begins) acts
kept_all v (Keeps x ∷ acts) = kept_all (own_after v (Keeps x)) acts

replay_both : (k : Kept) (xs ys : List Record) → replay_of k (xs ++ ys) ≡ replay_of (replay_of k xs) ys
replay_both k [] ys = refl
replay_both k (x ∷ xs) ys = replay_both (with_record k x) xs ys

-- who was told more may do the same
abbrev AllTold : List Assignment → List Assignment → Type 0
AllTold few many = (x : Assignment) → Has few x → Has many x

told_both : (found : Option Finding) (few many : List Assignment) → AllTold few many → AllTold (told_more found few) (told_more found many)
told_both None few many all = all
told_both (Some y) few many all = λ x has. go x has where
  go : (x : Assignment) → Has (assigned y ∷ few) x → Has (assigned y ∷ many) x
  go x (inl same) = inl same
  go x (inr old) = inr (all x old)

sender : Kept → List Entry → List Assignment → Own
sender k trace told = record { kept = k; trace = trace; told = told }

own_told : (k : Kept) (trace : List Entry) (few many : List Assignment) (acts : List Act) → AllTold few many
    → AreOwn (record { kept = k; trace = trace; told = few }) acts → AreOwn (record { kept = k; trace = trace; told = many }) acts
own_told k trace few many [] all own = tt
own_told k trace few many (Puts f h ∷ acts) all own = (
  own.0,
  own_told k (trace ++ (record { frame = f; heard = h }) ∷ []) (told_more (found_by (search_of trace) (asked_of trace) (command_of f) h) few)
      (told_more (found_by (search_of trace) (asked_of trace) (command_of f) h) many) acts
      (told_both (found_by (search_of trace) (asked_of trace) (command_of f) h) few many all) own.1,
)
own_told k trace few many (Loses f ∷ acts) all own = (own.0, own_told k [] few many acts all own.1)
own_told k trace few many (Begins ∷ acts) all own = (tt, own_told k [] few many acts all own.1)
own_told k trace few many (Keeps (record_of.Reserve a r) ∷ acts) all own =
    (own.0, own_told (with_record k (record_of.Reserve a r)) trace few many acts all own.1)
own_told k trace few many (Keeps (record_of.Enrol a r) ∷ acts) all own =
    (all (a, r) own.0, own_told (with_record k (record_of.Enrol a r)) trace few many acts all own.1)
own_told k trace few many (Keeps (record_of.Release a r) ∷ acts) all own = (
  (own.0.0, own.0.1, all (own.0.1, r) own.0.2, own.0.3),
  own_told (with_record k (record_of.Release a r)) trace few many acts all own.1,
)

-- a sender that begins anew, with the records that it has then
pub own_anew : (v : Own) (acts : List Act) → AreOwn (sender_of v.kept) acts → AreOwn v (Begins ∷ acts)
own_anew v acts own = (tt, own_told v.kept [] [] v.told acts (λ x has. absurd has) own)

-- ---------------------------------------------------------------- run after run

module _ {S : Type 0} (is_up is_sound : S → Type 0) (holds : S → List Record → Type 0) (block : Block) (first : Input) where
  pub runs_stay : (was keep : S) (x y : Talk) (runs : List Run) → AreRuns is_up is_sound holds block first was keep x y runs
      → Stays is_up is_sound was keep
  runs_stay was keep x y [] are = subst (λ s. Stays is_up is_sound was s) (sym are.0) (record { up = λ up. up; sound = λ sound up. sound })
  runs_stay was keep x y (run ∷ before) (mid, at, are, is) =
      stays_further is_up is_sound was mid keep (runs_stay was mid x at before are) is.stays

  -- a sender that restarts, with what its store has then
  next_own : (k j : Kept) (xs : List Record) (earlier acts : List Act) → IsReplay block xs k → IsReplay block (xs ++ records_of earlier) j
      → AreOwn (sender_of k) earlier → AreOwn (sender_of j) acts → AreOwn (sender_of k) (earlier ++ (Begins ∷ acts))
  next_own k j xs earlier acts replay then so_far own =
      let same : j ≡ (own_all (sender_of k) earlier).kept =
      then.value ∙ replay_both (without_records block) xs (records_of earlier)
      ∙ ap (λ i. replay_of i (records_of earlier)) (sym replay.value) ∙ sym (kept_all (sender_of k) earlier) in
      own_both (sender_of k) earlier (Begins ∷ acts) so_far
      (own_anew (own_all (sender_of k) earlier) acts (subst (λ i. AreOwn (sender_of i) acts) same own))

  pub runs_own : (was keep : S) (x y : Talk) (runs : List Run) → AreRuns is_up is_sound holds block first was keep x y runs
      → is_sound was → is_up keep → (xs : List Record) → holds was xs → (k : Kept) → IsReplay block xs k
      → AreOwn (sender_of k) (acts_of_runs runs) × holds keep (xs ++ records_of (acts_of_runs runs))
  runs_own was keep x y [] are sound up xs held k replay =
      (tt, subst (λ s. holds s (xs ++ [])) (sym are.0) (subst (holds was) (sym (append-nil xs)) held))
  runs_own was keep x y (run ∷ before) (mid, at, are, is) sound up xs held k replay =
      let earlier = acts_of_runs before in
      let so_far = runs_own was mid x at before are sound (is.stays.up up) xs held k replay in
      let sound_then = (runs_stay was mid x at before are).sound sound (is.stays.up up) in
      let own : AreOwn (sender_of run.start) (acts_by run.steps) =
      keeps_to_scripts (at_first 0 run.start) is.machine run.steps refl refl is.conducted.taken in
      let added : records_of (earlier ++ (Begins ∷ acts_by run.steps)) ≡ records_of earlier ++ committed_by run.steps =
      records_both earlier (Begins ∷ acts_by run.steps) ∙ ap (λ ys. records_of earlier ++ ys) (records_are_kept run.steps) in (
        next_own k run.start xs earlier (acts_by run.steps) replay (is.read sound_then up (xs ++ records_of earlier) so_far.1) so_far.0 own,
        subst (λ ys. holds keep (xs ++ ys)) (sym added)
            (subst (holds keep) (append_assoc xs (records_of earlier) (committed_by run.steps))
            (is.commits sound_then up (xs ++ records_of earlier) so_far.1)),
      )

  -- the first of them read the store
  runs_read : (was keep : S) (x y : Talk) (run : Run) (before : List Run) → AreRuns is_up is_sound holds block first was keep x y (run ∷ before)
      → is_sound was → is_up keep → (xs : List Record) → holds was xs → (k : Kept) × IsReplay block xs k
  runs_read was keep x y run [] (mid, at, are, is) sound up xs held =
      (run.start, is.read (subst is_sound (sym are.0) sound) up xs (subst (λ s. holds s xs) (sym are.0) held))
  runs_read was keep x y run (earlier ∷ before) (mid, at, are, is) sound up xs held =
      runs_read was mid x at earlier before are sound (is.stays.up up) xs held

  pub runs_commit : (was keep : S) (x y : Talk) (runs : List Run) → AreRuns is_up is_sound holds block first was keep x y runs
      → Commits is_up is_sound holds was keep (records_of (acts_of_runs runs))
  runs_commit was keep x y [] are = λ sound up xs held. subst (λ s. holds s (xs ++ [])) (sym are.0) (subst (holds was) (sym (append-nil xs)) held)
  runs_commit was keep x y (run ∷ before) are = λ sound up xs held.
      let k = runs_read was keep x y run before are sound up xs held in
      (runs_own was keep x y (run ∷ before) are sound up xs held k.0 k.1).1

  pub runs_keep_rules : (was keep : S) (x y : Talk) (run : Run) (before : List Run)
      → AreRuns is_up is_sound holds block first was keep x y (run ∷ before)
      → RunsKeepRules is_up is_sound holds block first was keep x y
  runs_keep_rules was keep x y run before are = record {
    runs = run ∷ before;
    are = are;
    commits = runs_commit was keep x y (run ∷ before) are;
    own = λ sound up xs held.
        let k = runs_read was keep x y run before are sound up xs held in
        (k.0, k.1, (runs_own was keep x y (run ∷ before) are sound up xs held k.0 k.1).0);
  }

  -- all so far, and one more
  pub one_more_keeps : (was mid keep : S) (x y z : Talk) (quiet count : ℕ) (pass : PassEnd)
      → HasRun is_up is_sound holds block first was mid x y quiet count
      → OneRun is_up is_sound holds block first mid keep y z pass
      → RunsKeepRules is_up is_sound holds block first was keep x z
  one_more_keeps was mid keep x y z quiet count pass so_far (run, is, ends, marks, finds, tried, counted, has) =
      runs_keep_rules was keep x z run so_far.runs (mid, y, so_far.are, is)

  -- ---------------------------------------------------------------- if one is left

  left_own : (reason : CommissionFault) (was mid keep : S) (x at y : Talk) (runs : List Run) (acts : List Act)
      → AreRuns is_up is_sound holds block first was mid x at runs → Stays is_up is_sound mid keep
      → IsLeftRun is_up is_sound holds block first reason mid keep at y acts
      → is_sound was → is_up keep → (xs : List Record) → holds was xs → (k : Kept) → IsReplay block xs k
      → AreOwn (sender_of k) (acts_of_runs runs ++ acts)
  left_own reason was mid keep x at y runs acts are stays (inl none) sound up xs held k replay =
      subst (λ more. AreOwn (sender_of k) (acts_of_runs runs ++ more)) (sym none.2)
      (subst (AreOwn (sender_of k)) (sym (append-nil (acts_of_runs runs))) (runs_own was mid x at runs are sound (stays.up up) xs held k replay).0)
  left_own reason was mid keep x at y runs acts are stays (inr (j, read, left, same)) sound up xs held k replay =
      let so_far = runs_own was mid x at runs are sound (stays.up up) xs held k replay in
      let sound_then = (runs_stay was mid x at runs are).sound sound (stays.up up) in
      subst (λ more. AreOwn (sender_of k) (acts_of_runs runs ++ more)) (sym same)
      (next_own k j xs (acts_of_runs runs) (acts_by left.steps ++ outstanding (last_order left.steps)) replay
      (read sound_then up (xs ++ records_of (acts_of_runs runs)) so_far.1) so_far.0 left.own)

  runs_leave_rules : (reason : CommissionFault) (was mid keep : S) (x at y : Talk) (quiet count : ℕ)
      → HasRun is_up is_sound holds block first was mid x at quiet count → Stays is_up is_sound mid keep
      → (acts : List Act) × IsLeftRun is_up is_sound holds block first reason mid keep at y acts
      → RunsLeaveRules is_up is_sound holds block first reason was keep x y
  runs_leave_rules reason was mid keep x at y quiet count so_far stays (acts, last) = record {
    runs = so_far.runs;
    acts = acts;
    mid = mid;
    at = at;
    are = so_far.are;
    last = last;
    stays = stays;
    own = left_own reason was mid keep x at y so_far.runs acts so_far.are stays last;
  }

  pub runs_left : (other : Block) (reason : CommissionFault) (was mid keep : S) (x at y : Talk) (quiet count : ℕ)
      → HasRun is_up is_sound holds block first was mid x at quiet count → Stays is_up is_sound mid keep → other ≡ block
      → (acts : List Act) × IsLeftRun is_up is_sound holds other first reason mid keep at y acts
      → RunsLeaveRules is_up is_sound holds block first reason was keep x y
  runs_left other reason was mid keep x at y quiet count so_far stays same last =
      runs_leave_rules reason was mid keep x at y quiet count so_far stays
      (subst (λ b. (acts : List Act) × IsLeftRun is_up is_sound holds b first reason mid keep at y acts) same last)

  pub runs_spent_rules : (was keep : S) (x y : Talk) (quiet count : ℕ)
      → HasRun is_up is_sound holds block first was keep x y quiet count
      → RunsLeaveRules is_up is_sound holds block first RunsSpent was keep x y
  runs_spent_rules was keep x y quiet count so_far =
      runs_leave_rules RunsSpent was keep keep x y y quiet count so_far (record { up = λ up. up; sound = λ sound up. sound })
      ([], inl (refl, λ sound up xs held. subst (holds keep) (sym (append-nil xs)) held, refl))

-- a run whose store could not be read
pub unread_run : {S : Type 0} (is_up is_sound : S → Type 0) (holds : S → List Record → Type 0) (block : Block) (first : Input)
    (reason : CommissionFault) (was keep : S) (x : Talk) → (is_sound was → is_up keep → (xs : List Record) → holds was xs → holds keep xs)
    → (acts : List Act) × IsLeftRun is_up is_sound holds block first reason was keep x x acts
unread_run is_up is_sound holds block first reason was keep x same =
    ([], inl (refl, λ sound up xs held. subst (holds keep) (sym (append-nil xs)) (same sound up xs held), refl))

-- a run that was left after its store was read
pub left_run : {S : Type 0} (is_up is_sound : S → Type 0) (holds : S → List Record → Type 0) (kept_of : S → Kept)
    (must_read : S → Bool) (block_of : S → Block)
    → ((s : S) (xs : List Record) → is_sound s → must_read s ≡ false → holds s xs → IsReplay (block_of s) xs (kept_of s))
    → (first : Input) (reason : CommissionFault) (was mid keep : S) (m : Machine) (x y : Talk) (k : Kept)
    → k ≡ kept_of mid → must_read mid ≡ false → block_of mid ≡ block_of was → Stays is_up is_sound was mid → Stays is_up is_sound mid keep
    → (is_sound was → is_up mid → (xs : List Record) → holds was xs → holds mid xs)
    → m ≡ at_first 0 k → (m.trace ≡ [] → LeavesRules is_up is_sound holds first reason mid keep m x y)
    → (acts : List Act) × IsLeftRun is_up is_sound holds (block_of was) first reason was keep x y acts
left_run is_up is_sound holds kept_of must_read block_of replay first reason was mid keep m x y k answer is_read block stays later same begins leaves =
    let left = subst (λ n. LeavesRules is_up is_sound holds first reason mid keep n x y) begins (leaves (ap (λ n. n.trace) begins)) in
    let whole : LeavesRules is_up is_sound holds first reason was keep (at_first 0 k) x y = record {
      steps = left.steps;
      machine = left.machine;
      taken = left.taken;
      started = left.started;
      at = left.at;
      wrote = left.wrote;
      bytes = left.bytes;
      read = left.read;
      told = left.told;
      done = left.done;
      begun = left.begun;
      commits = λ sound up xs held. left.commits (stays.sound sound (later.up up)) up xs (same sound (later.up up) xs held);
      own = left.own;
    } in (
      Begins ∷ (acts_by left.steps ++ outstanding (last_order left.steps)),
      inr (
        k,
        λ sound up xs held.
            subst (λ b. IsReplay b xs k) block (subst (IsReplay (block_of mid) xs) (sym answer)
            (replay mid xs (stays.sound sound (later.up up)) is_read (same sound (later.up up) xs held))),
        whole,
        refl,
      ),
    )
