use Rattle.std.proofs.Common.{◌≡◌, ◌⊎◌, inl, inr, refl, sym, ap, subst, ◌∙◌, ℕ, List, [], ◌∷◌, ◌++◌, Option, Some, None}
use Rattle.std.proofs.{KnownBytes.Appends-nil, lemmas.List.append_assoc, lemmas.List.append-nil}
use Rattle.std.specs.Io.KnownBytes.{Appends}
use Rattle.std.proofs.lemmas.Option.{none-some, same_Some}
use Rattle.dali_frame.specs.declared.frames.Forward.{Forward}
use Rattle.dali_script.specs.Sending.{half_of}
use Rattle.dali_script.specs.{Records.Kept, Due.record_ordered, declared.block.Block.Block, declared.orders.Input.Input, declared.orders.Order.Order}
use Rattle.dali_script.specs.declared.records.Record.{Record}
use Rattle.dali_script.specs.declared.orders.Order.TheVariants.{Put, Commit, Done, Halt}
use Rattle.dali_reserve.specs.Store.{IsReplay, replay_of}
use Rattle.dali_statement.specs.Own.{Own, Act, Begins, own_all, AreOwn}
use Rattle.dali_controller.proofs.Acts.{own_both}
use Rattle.dali_commissioning.specs.Acts.{acts_by, acts_of_runs, records_of, sender_of, outstanding, RunsKeepRules, RunsLeaveRules, IsLeftRun, IsLast}
use Rattle.dali_commissioning.specs.{Conducted.Stays, Conducted.Commits, Done.AreDone, Drivers.Talk, Runs.IsRead}
use Rattle.dali_commissioning.specs.Steps.{last_order, order_line, open_after}
use Rattle.dali_commissioning.specs.declared.fault.CommissionFault.{CommissionFault}
use Rattle.dali_commissioning.specs.Rules.{AsksByRules, PutsByRules, IsTextOf, LeavesByRules}
use Rattle.dali_commissioning.proofs.{Acts.records_both, Done.done_both, Done.anew_done, Done.runs_done, Steps.stays_further}
use Rattle.dali_commissioning.proofs.Rules.{kept_all, own_anew, runs_stay, runs_commit}

-- WHAT IS PUT KEEPS THE RULES, by records and without, one after the other.

-- a sender without a record more
unkept : (k : Kept) (acts : List Act) → records_of acts ≡ [] → k ≡ (own_all (sender_of k) acts).kept
unkept k acts none = sym (kept_all (sender_of k) acts ∙ ap (λ xs. replay_of k xs) none)

module _ {S : Type 0} (is_up is_sound : S → Type 0) (holds : S → List Record → Type 0) (block : Block) where
  pub runs_put : (first : Input) (was keep : S) (x y : Talk) → RunsKeepRules is_up is_sound holds block first was keep x y
      → PutsByRules is_up is_sound holds block was keep x y
  runs_put first was keep x y it = record {
    acts = acts_of_runs it.runs;
    done = runs_done is_up is_sound holds block first was keep x y it.runs it.are;
    stays = runs_stay is_up is_sound holds block first was keep x y it.runs it.are;
    commits = it.commits;
    own = it.own;
  }

  pub read_puts : (of : Block) (k : Kept) (was mid keep : S) (x y : Talk) → IsRead is_up is_sound holds of was mid k
      → PutsByRules is_up is_sound holds block mid keep x y → PutsByRules is_up is_sound holds block was keep x y
  read_puts of k was mid keep x y read it = record {
    acts = it.acts;
    done = it.done;
    stays = stays_further is_up is_sound was mid keep read.stays it.stays;
    commits = λ sound up xs held.
        it.commits (read.stays.sound sound (it.stays.up up)) up xs (read.same sound (it.stays.up up) xs held);
    own = λ sound up xs held.
        it.own (read.stays.sound sound (it.stays.up up)) up xs (read.same sound (it.stays.up up) xs held);
  }

  pub puts_read : (of : Block) (k : Kept) (was mid keep : S) (x y : Talk) → PutsByRules is_up is_sound holds block was mid x y
      → IsRead is_up is_sound holds of mid keep k → PutsByRules is_up is_sound holds block was keep x y
  puts_read of k was mid keep x y it read = record {
    acts = it.acts;
    done = it.done;
    stays = stays_further is_up is_sound was mid keep it.stays read.stays;
    commits = λ sound up xs held.
        read.same (it.stays.sound sound (read.stays.up up)) up (xs ++ records_of it.acts) (it.commits sound (read.stays.up up) xs held);
    own = λ sound up xs held. it.own sound (read.stays.up up) xs held;
  }

  pub puts_ask : (was keep : S) (x m y : Talk) → PutsByRules is_up is_sound holds block was keep x m → AsksByRules m y
      → PutsByRules is_up is_sound holds block was keep x y
  puts_ask was keep x m y it asks = record {
    acts = it.acts ++ asks.acts;
    done = done_both it.acts asks.acts x m y it.done asks.done;
    stays = it.stays;
    commits = λ sound up xs held.
        subst (λ ys. holds keep (xs ++ ys)) (sym (records_both it.acts asks.acts ∙ ap (λ ys. records_of it.acts ++ ys) asks.none
        ∙ append-nil (records_of it.acts))) (it.commits sound up xs held);
    own = λ sound up xs held.
        let (k, replay, own) = it.own sound up xs held in
        (k, replay, own_both (sender_of k) it.acts asks.acts own (asks.own (own_all (sender_of k) it.acts)));
  }

  pub ask_puts : (was keep : S) (x m y : Talk) → AsksByRules x m → PutsByRules is_up is_sound holds block was keep m y
      → PutsByRules is_up is_sound holds block was keep x y
  ask_puts was keep x m y asks it = record {
    acts = asks.acts ++ (Begins ∷ it.acts);
    done = done_both asks.acts (Begins ∷ it.acts) x m y asks.done (anew_done it.acts m y it.done);
    stays = it.stays;
    commits = λ sound up xs held.
        subst (λ ys. holds keep (xs ++ ys)) (sym (records_both asks.acts (Begins ∷ it.acts) ∙ ap (λ ys. ys ++ records_of it.acts) asks.none))
        (it.commits sound up xs held);
    own = λ sound up xs held.
        let (k, replay, own) = it.own sound up xs held in (
          k,
          replay,
          own_both (sender_of k) asks.acts (Begins ∷ it.acts) (asks.own (sender_of k))
              (own_anew (own_all (sender_of k) asks.acts) it.acts (subst (λ i. AreOwn (sender_of i) it.acts) (unkept k asks.acts asks.none) own)),
        );
  }

  -- ---------------------------------------------------------------- before a fault

  pub read_leaves : (of : Block) (k : Kept) (reason : CommissionFault) (was mid keep : S) (x y : Talk) → IsRead is_up is_sound holds of was mid k
      → LeavesByRules is_up is_sound holds block reason mid keep x y → LeavesByRules is_up is_sound holds block reason was keep x y
  read_leaves of k reason was mid keep x y read it = record {
    acts = it.acts;
    last = it.last;
    at = it.at;
    done = it.done;
    begun = it.begun;
    stays = stays_further is_up is_sound was mid keep read.stays it.stays;
    commits = λ sound up xs held.
        it.commits (read.stays.sound sound (it.stays.up up)) up xs (read.same sound (it.stays.up up) xs held);
    own = λ sound up xs held.
        it.own (read.stays.sound sound (it.stays.up up)) up xs (read.same sound (it.stays.up up) xs held);
  }

  pub ask_leaves : (reason : CommissionFault) (was keep : S) (x m y : Talk) → AsksByRules x m
      → LeavesByRules is_up is_sound holds block reason was keep m y → LeavesByRules is_up is_sound holds block reason was keep x y
  ask_leaves reason was keep x m y asks it = record {
    acts = asks.acts ++ (Begins ∷ it.acts);
    last = it.last;
    at = it.at;
    done = done_both asks.acts (Begins ∷ it.acts) x m it.at asks.done (anew_done it.acts m it.at it.done);
    begun = it.begun;
    stays = it.stays;
    commits = λ sound up xs held.
        let (more, few, has) = it.commits sound up xs held in (
          more,
          few,
          subst (λ ys. holds keep (xs ++ (ys ++ more)))
              (sym (records_both asks.acts (Begins ∷ it.acts) ∙ ap (λ ys. ys ++ records_of it.acts) asks.none)) has,
        );
    own = λ sound up xs held k replay.
        subst (AreOwn (sender_of k)) (sym (append_assoc asks.acts (Begins ∷ it.acts) it.last))
        (own_both (sender_of k) asks.acts (Begins ∷ (it.acts ++ it.last)) (asks.own (sender_of k))
        (own_anew (own_all (sender_of k) asks.acts) (it.acts ++ it.last)
        (subst (λ i. AreOwn (sender_of i) (it.acts ++ it.last)) (unkept k asks.acts asks.none) (it.own sound up xs held k replay))));
  }

  last_text : (waiting : Option Forward) (o : Option Order) → IsTextOf (outstanding o) (order_line waiting o)
  last_text waiting (Some (Put p f)) = (p, half_of waiting f, refl)
  last_text waiting (Some (Commit x)) = refl
  last_text waiting (Some (Done e)) = refl
  last_text waiting (Some (Halt w)) = refl
  last_text waiting None = refl

  last_records : (o : Option Order) (more : List Record) → IsLast (record_ordered o) more
      → (more ≡ []) ⊎ (more ≡ records_of (outstanding o))
  last_records o more (inl none) = inl none
  last_records (Some (Commit y)) more (inr (x, is, same)) = inr (same ∙ ap (λ z. z ∷ []) (sym (same_Some y x is)))
  last_records (Some (Put p f)) more (inr (x, is, same)) = absurd (none-some x is)
  last_records (Some (Done e)) more (inr (x, is, same)) = absurd (none-some x is)
  last_records (Some (Halt w)) more (inr (x, is, same)) = absurd (none-some x is)
  last_records None more (inr (x, is, same)) = absurd (none-some x is)

  pub runs_leave : (first : Input) (reason : CommissionFault) (was keep : S) (x y : Talk)
      → RunsLeaveRules is_up is_sound holds block first reason was keep x y → LeavesByRules is_up is_sound holds block reason was keep x y
  runs_leave first reason was keep x y it = go it.acts it.last (λ sound up xs held k replay. it.own sound up xs held k replay) where
    before : List Act
    before = acts_of_runs it.runs

    stays : Stays is_up is_sound was it.mid
    stays = runs_stay is_up is_sound holds block first was it.mid x it.at it.runs it.are

    done : AreDone (acts_of_runs it.runs) x it.at
    done = runs_done is_up is_sound holds block first was it.mid x it.at it.runs it.are

    kept : Commits is_up is_sound holds was it.mid (records_of (acts_of_runs it.runs))
    kept = runs_commit is_up is_sound holds block first was it.mid x it.at it.runs it.are

    go : (acts : List Act) → IsLeftRun is_up is_sound holds block first reason it.mid keep it.at y acts
        → (is_sound was → is_up keep → (xs : List Record) → holds was xs → (k : Kept) → IsReplay block xs k
        → AreOwn (sender_of k) (acts_of_runs it.runs ++ acts))
        → LeavesByRules is_up is_sound holds block reason was keep x y
    go acts (inl (same, commits, none)) own = record {
      acts = acts_of_runs it.runs;
      last = [];
      at = it.at;
      done = done;
      begun = inl (subst (λ t. Appends it.at.written t.written []) (sym same) (Appends-nil it.at.written));
      stays = stays_further is_up is_sound was it.mid keep stays it.stays;
      commits = λ sound up xs held. (
        [],
        inl refl,
        subst (holds keep) (append_assoc xs (records_of (acts_of_runs it.runs)) [])
            (commits (stays.sound sound (it.stays.up up)) up (xs ++ records_of (acts_of_runs it.runs)) (kept sound (it.stays.up up) xs held)),
      );
      own = λ sound up xs held k replay.
          subst (λ more. AreOwn (sender_of k) (acts_of_runs it.runs ++ more)) none (own sound up xs held k replay);
    }
    go acts (inr (k, read, left, is)) own = record {
      acts = acts_of_runs it.runs ++ (Begins ∷ acts_by left.steps);
      last = outstanding (last_order left.steps);
      at = left.at;
      done = done_both (acts_of_runs it.runs) (Begins ∷ acts_by left.steps) x it.at left.at done
          (anew_done (acts_by left.steps) it.at left.at left.done);
      begun = inr (
        order_line (open_after left.steps) (last_order left.steps),
        last_text (open_after left.steps) (last_order left.steps),
        left.begun,
      );
      stays = stays_further is_up is_sound was it.mid keep stays it.stays;
      commits = λ sound up xs held.
          let recs = records_of (acts_of_runs it.runs) in
          let (more, few, has) = left.commits (stays.sound sound (it.stays.up up)) up (xs ++ recs) (kept sound (it.stays.up up) xs held) in (
            more,
            last_records (last_order left.steps) more few,
            subst (λ ys. holds keep (xs ++ (ys ++ more))) (sym (records_both (acts_of_runs it.runs) (Begins ∷ acts_by left.steps)))
                (subst (λ ys. holds keep (xs ++ ys)) (sym (append_assoc recs (records_of (acts_by left.steps)) more))
                (subst (holds keep) (append_assoc xs recs (records_of (acts_by left.steps) ++ more)) has)),
          );
      own = λ sound up xs held j replay.
          subst (AreOwn (sender_of j)) (sym (append_assoc (acts_of_runs it.runs) (Begins ∷ acts_by left.steps) (outstanding (last_order left.steps))))
          (subst (λ more. AreOwn (sender_of j) (acts_of_runs it.runs ++ more)) is (own sound up xs held j replay));
    }
