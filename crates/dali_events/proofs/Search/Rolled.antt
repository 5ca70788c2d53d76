use Rattle.std.proofs.Common.{◌≡◌, ℕ, ◌⊎◌, inl, inr, List, [], ◌∷◌, ◌++◌, refl, sym, ap, subst, ◌∙◌, append_assoc, append-nil, Some, None}
use Rattle.std.{specs.List.AllByRecursion}
use Rattle.dali_frame.specs.{Random.{value_of, MASK24}, declared.{frames.Answer.{Answer, TheVariants.Silence}, numbers.SearchAddress.SearchAddress}}
use Rattle.dali_special.specs.{Command.command_of, declared.command.Command.TheVariants.{Terminate, Initialise, Compare, SearchHigh, SearchMiddle, SearchLow}}
use Rattle.dali_special.specs.declared.command.Target.TheVariants.{Unaddressed}
use Rattle.dali_script.specs.{Scripts.IsFront, Stages.stage_of, declared.{orders.{Input.Input, Order.Order}, stage.Stage.{Stage, TheVariants.Terminated}}}
use Rattle.dali_script.specs.declared.{stage.Stage.TheVariants.{InitialisedOnce, Initialised, WokenHigh, WokenLow, Hunted}, trace.Entry.Entry}
use Rattle.dali_events.specs.{Calling.{Runs, RunsOn, Calls, Orders, HasCalled, roll_call}, Happens.{happens, trace_running}, Plan.Plan, Runs.{after, after_all}}
use Rattle.dali_events.{specs.{Runs.IsRun, Searching.sent_event, World.{World, start}, declared.event.Event.Event}, proofs.Invariant.Growing.after_both}
use Rattle.dali_events.proofs.Invariant.{Growing.{all_front, all_more}, Safe.run_front}
use Rattle.dali_events.proofs.Search.{Called.{called, running_owned}, Traced.{IsAmong, traced, runs_part, no_part}}
use Rattle.dali_events.specs.declared.event.Event.TheVariants as event

-- THE ROLL WAS CALLED, AND NOBODY WAS HEARD: from the frames of the transaction to the log.

-- ---------------------------------------------------------------- the stages of a roll call

pub stage_1 : (a : Entry) → command_of a.frame ≡ Terminate → stage_of (a ∷ []) ≡ Terminated
unfolding stage_of
stage_1 a one = rw one refl

pub stage_2 : (a b : Entry) → command_of a.frame ≡ Terminate → command_of b.frame ≡ Initialise Unaddressed → stage_of (a ∷ b ∷ []) ≡ InitialisedOnce
unfolding stage_of
stage_2 a b one two = rw (one, two) refl

pub stage_3 : (a b c : Entry) → command_of a.frame ≡ Terminate → command_of b.frame ≡ Initialise Unaddressed → command_of c.frame ≡ Initialise Unaddressed
    → stage_of (a ∷ b ∷ c ∷ []) ≡ Initialised
unfolding stage_of
stage_3 a b c one two three = rw (one, two, three) refl

module _ (n : SearchAddress) (a b c d : Entry) (one : command_of a.frame ≡ Terminate) (two : command_of b.frame ≡ Initialise Unaddressed)
    (three : command_of c.frame ≡ Initialise Unaddressed) (four : command_of d.frame ≡ SearchHigh n.high) where
  pub stage_4 : stage_of (a ∷ b ∷ c ∷ d ∷ []) ≡ WokenHigh n.high
  unfolding stage_of
  stage_4 = rw (one, two, three, four) refl

  pub stage_5 : (e : Entry) → command_of e.frame ≡ SearchLow n.low → stage_of (a ∷ b ∷ c ∷ d ∷ e ∷ []) ≡ WokenLow n.high n.low
  unfolding stage_of
  stage_5 e five = rw (one, two, three, four, five) refl

  pub stage_6 : (e f : Entry) → command_of e.frame ≡ SearchLow n.low → command_of f.frame ≡ SearchMiddle n.middle
      → stage_of (a ∷ b ∷ c ∷ d ∷ e ∷ f ∷ []) ≡ Hunted n None 2
  unfolding stage_of
  stage_6 e f five six = rw (one, two, three, four, five, six) refl

  pub stage_7 : (e f g : Entry) → command_of e.frame ≡ SearchLow n.low → command_of f.frame ≡ SearchMiddle n.middle → command_of g.frame ≡ Compare
      → stage_of (a ∷ b ∷ c ∷ d ∷ e ∷ f ∷ g ∷ []) ≡ Hunted n (Some g.heard) 1
  unfolding stage_of
  stage_7 e f g five six seven = rw (one, two, three, four, five, six, seven) refl

  pub stage_8 : (e f g h : Entry) → command_of e.frame ≡ SearchLow n.low → command_of f.frame ≡ SearchMiddle n.middle → command_of g.frame ≡ Compare
      → command_of h.frame ≡ Compare
      → stage_of (a ∷ b ∷ c ∷ d ∷ e ∷ f ∷ g ∷ h ∷ []) ≡ Hunted n (Some h.heard) 0
  unfolding stage_of
  stage_8 e f g h five six seven eight = rw (one, two, three, four, five, six, seven, eight) refl

-- ---------------------------------------------------------------- a roll call that nobody answers

-- these frames, and then one more, are a whole roll call, both of whose COMPAREs were heard as silence
pub record IsWholeCall (n : SearchAddress) (t : List Entry) (again : Entry) : Type 0 where
  pub terminate : Entry
  pub first : Entry
  pub search : List Entry
  pub compare : Entry
  pub frames : t ≡ terminate ∷ first ∷ (search ++ compare ∷ [])
  pub begun : stage_of (terminate ∷ []) ≡ Terminated
  pub initialises : command_of first.frame ≡ Initialise Unaddressed
  pub searched : stage_of (terminate ∷ first ∷ search) ≡ Hunted n None 2
  pub compares : command_of compare.frame ≡ Compare
  pub silent : compare.heard ≡ Silence
  pub asked : stage_of (terminate ∷ first ∷ (search ++ compare ∷ [])) ≡ Hunted n (Some compare.heard) 1
  pub compares_again : command_of again.frame ≡ Compare
  pub silent_again : again.heard ≡ Silence
  pub ended : stage_of (t ++ again ∷ []) ≡ Hunted n (Some again.heard) 0

-- a stage that a roll call has at its end, and no other
abbrev pub IsSilentAt : Stage → Type 0
IsSilentAt s = (r : SearchAddress) × (left : ℕ) × (s ≡ Hunted r (Some Silence) left) × (left ≡ 1 → ⊥)

not_yet : (s u : Stage) → IsSilentAt s → s ≡ u → ((r : SearchAddress) (left : ℕ) → u ≡ Hunted r (Some Silence) left → left ≡ 1) → ⊥
not_yet s u is same none = is.3 (none is.0 is.1 (sym same ∙ is.2))

asked_once : (n : SearchAddress) (h : Answer) (r : SearchAddress) (left : ℕ) → Hunted n (Some h) 1 ≡ Hunted r (Some Silence) left → left ≡ 1
asked_once n h r left e = cc

heard_last : (n : SearchAddress) (h : Answer) (r : SearchAddress) (left : ℕ) → Hunted n (Some h) 0 ≡ Hunted r (Some Silence) left → h ≡ Silence
heard_last n h r left e = cc

pub whole_call : (n : SearchAddress) (t : List Entry) (x : Entry) → IsFront t x.frame (roll_call n) → IsSilentAt (stage_of (t ++ x ∷ [])) → IsWholeCall n t x
whole_call n [] x k s = absurd (not_yet _ _ s (stage_1 x k) (λ r left e. absurd (cc)))
whole_call n (a ∷ []) x k s = absurd (not_yet _ _ s (stage_2 a x k.0 k.2) (λ r left e. absurd (cc)))
whole_call n (a ∷ b ∷ []) x k s = absurd (not_yet _ _ s (stage_3 a b x k.0 k.2.0 k.2.2) (λ r left e. absurd (cc)))
whole_call n (a ∷ b ∷ c ∷ []) x k s = absurd (not_yet _ _ s (stage_4 n a b c x k.0 k.2.0 k.2.2.0 k.2.2.2) (λ r left e. absurd (cc)))
whole_call n (a ∷ b ∷ c ∷ d ∷ []) x k s = absurd (not_yet _ _ s (stage_5 n a b c d k.0 k.2.0 k.2.2.0 k.2.2.2.0 x k.2.2.2.2) (λ r left e. absurd (cc)))
whole_call n (a ∷ b ∷ c ∷ d ∷ e ∷ []) x k s =
    absurd (not_yet _ _ s (stage_6 n a b c d k.0 k.2.0 k.2.2.0 k.2.2.2.0 e x k.2.2.2.2.0 k.2.2.2.2.2) (λ r left e. absurd (cc)))
whole_call n (a ∷ b ∷ c ∷ d ∷ e ∷ f ∷ []) x k s =
    absurd (not_yet _ _ s (stage_7 n a b c d k.0 k.2.0 k.2.2.0 k.2.2.2.0 e f x k.2.2.2.2.0 k.2.2.2.2.2.0 k.2.2.2.2.2.2) (asked_once n x.heard))
whole_call n (a ∷ b ∷ c ∷ d ∷ e ∷ f ∷ g ∷ []) x k s =
    let low = k.2.2.2.2.0 in
    let middle = k.2.2.2.2.2.0 in
    let compares = k.2.2.2.2.2.2.0 in
    let ended : stage_of (a ∷ b ∷ c ∷ d ∷ e ∷ f ∷ g ∷ x ∷ []) ≡ Hunted n (Some x.heard) 0 =
    stage_8 n a b c d k.0 k.2.0 k.2.2.0 k.2.2.2.0 e f g x low middle compares k.2.2.2.2.2.2.2 in
    record {
      terminate = a;
      first = b;
      search = c ∷ d ∷ e ∷ f ∷ [];
      compare = g;
      frames = refl;
      begun = stage_1 a k.0;
      initialises = k.2.0;
      searched = stage_6 n a b c d k.0 k.2.0 k.2.2.0 k.2.2.2.0 e f low middle;
      compares = compares;
      silent = k.2.2.2.2.2.2.1;
      asked = stage_7 n a b c d k.0 k.2.0 k.2.2.0 k.2.2.2.0 e f g low middle compares;
      compares_again = k.2.2.2.2.2.2.2;
      silent_again = heard_last n x.heard s.0 s.1 (sym ended ∙ s.2);
      ended = ended;
    }
whole_call n (a ∷ b ∷ c ∷ d ∷ e ∷ f ∷ g ∷ h ∷ t) x k s = elim k.2.2.2.2.2.2.2.2 [ ]

-- ---------------------------------------------------------------- in a log

runs_both : (w : World) (c : ℕ) (es fs : List Event) → RunsOn w c es → RunsOn (after_all w es) c fs → RunsOn w c (es ++ fs)
runs_both w c [] fs one two = two
runs_both w c (e ∷ es) fs one two = (one.0, runs_both (happens w e) c es fs one.1 two)

-- the stage of what runs, where that is more than nothing
runs_at : (w : World) (c : ℕ) (pre : List Entry) (x : Entry) (post : List Entry) (s : Stage) → trace_running w c ≡ pre ++ x ∷ post
    → stage_of (pre ++ x ∷ post) ≡ s → stage_of w.trace ≡ s
runs_at w c pre x post s is stage =
    let runs : Runs w c = runs_part w c x pre (post, is) in
    ap stage_of (sym (running_owned w c runs.owner) ∙ is) ∙ stage

-- and the roll call begins behind some events
pub record IsRolled (p : Plan) (capacity : ℕ) (P : Order → Type 0) (log : List Event) (c : ℕ) (earlier all : List Event) : Type 0 where
  pub called : HasCalled p capacity P log c
  pub later : List Event
  pub stands : called.front ≡ earlier ++ later
  pub more : List Event
  pub within : all ≡ later ++ more

module _ (p : Plan) (capacity : ℕ) (P : Order → Type 0) (c : ℕ) (n : SearchAddress) (all : value_of n ≡ MASK24) where
  -- with all lists at hand
  module _ (front : List Event) (es fs rest : List Event) (again : Entry) (t : List Entry) (whole : IsWholeCall n t again)
      (run : IsRun p capacity (front ++ sent_event c whole.first ∷ (es ++ sent_event c whole.compare ∷ (fs ++ sent_event c again ∷ rest)))) where
    abbrev first : Event
    first = sent_event c whole.first

    abbrev compare : Event
    compare = sent_event c whole.compare

    abbrev last : Event
    last = sent_event c again

    up_to_compare : (front ++ first ∷ (es ++ compare ∷ [])) ++ (fs ++ last ∷ rest) ≡ front ++ first ∷ (es ++ compare ∷ (fs ++ last ∷ rest))
    up_to_compare = append_assoc front (first ∷ (es ++ compare ∷ [])) (fs ++ last ∷ rest)
        ∙ ap (λ l. front ++ first ∷ l) (append_assoc es (compare ∷ []) (fs ++ last ∷ rest))

    up_to_last : (front ++ first ∷ ((es ++ compare ∷ fs) ++ last ∷ [])) ++ rest ≡ front ++ first ∷ (es ++ compare ∷ (fs ++ last ∷ rest))
    up_to_last = append_assoc front (first ∷ ((es ++ compare ∷ fs) ++ last ∷ [])) rest
        ∙ ap (λ l. front ++ first ∷ l) (append_assoc (es ++ compare ∷ fs) (last ∷ []) rest ∙ append_assoc es (compare ∷ fs) (last ∷ rest))

    at_first : (after_all (after p capacity (front ++ first ∷ [])) es) ≡ after p capacity (front ++ first ∷ es)
    at_first = sym (after_both (start p capacity) (front ++ first ∷ []) es) ∙ ap (after p capacity) (append_assoc front (first ∷ []) es)

    at_compare : after p capacity ((front ++ first ∷ es) ++ compare ∷ []) ≡ happens (after p capacity (front ++ first ∷ es)) compare
    at_compare = after_both (start p capacity) (front ++ first ∷ es) (compare ∷ [])

    pub has_called : trace_running (after p capacity front) c ≡ whole.terminate ∷ []
        → trace_running (after p capacity (front ++ first ∷ es)) c ≡ whole.terminate ∷ whole.first ∷ whole.search
        → trace_running (after p capacity (front ++ first ∷ (es ++ compare ∷ fs))) c ≡ whole.terminate ∷ whole.first ∷ (whole.search ++ whole.compare ∷ [])
        → RunsOn (after p capacity (front ++ first ∷ [])) c es → RunsOn (after p capacity ((front ++ first ∷ es) ++ compare ∷ [])) c fs
        → AllByRecursion (Orders P c) rest
        → (called : HasCalled p capacity P (front ++ first ∷ (es ++ compare ∷ (fs ++ last ∷ rest))) c) × (called.front ≡ front)
    has_called running running_then running_last runs runs_then since = (
      record {
        front = front;
        first = whole.first;
        es = es;
        compare = whole.compare;
        fs = fs;
        again = again;
        rest = rest;
        stands = refl;
        silent = whole.silent;
        silent_again = whole.silent_again;
        since = since;
        calls = calls;
        calls_again = calls_again;
        called = called p capacity front c whole.first es whole.compare calls;
        called_again = called p capacity front c whole.first (es ++ compare ∷ fs) again calls_again;
      },
      refl,
    ) where
      calls : Calls p capacity front c whole.first es whole.compare
      calls = record {
        run = run_front p capacity (front ++ first ∷ (es ++ compare ∷ [])) (fs ++ last ∷ rest) (subst (λ l. IsRun p capacity l) (sym up_to_compare) run);
        begun = ap stage_of running ∙ whole.begun;
        initialises = whole.initialises;
        runs = runs;
        all = (
          n,
          None,
          2,
          runs_at (after p capacity (front ++ first ∷ es)) c (whole.terminate ∷ []) whole.first whole.search (Hunted n None 2) running_then whole.searched,
          all,
        );
        compares = whole.compares;
      }

      runs_now : Runs (after p capacity (front ++ first ∷ es)) c
      runs_now = runs_part (after p capacity (front ++ first ∷ es)) c whole.first (whole.terminate ∷ []) (whole.search, running_then)

      calls_again : Calls p capacity front c whole.first (es ++ compare ∷ fs) again
      calls_again = record {
        run = run_front p capacity (front ++ first ∷ ((es ++ compare ∷ fs) ++ last ∷ [])) rest (subst (λ l. IsRun p capacity l) (sym up_to_last) run);
        begun = ap stage_of running ∙ whole.begun;
        initialises = whole.initialises;
        runs = runs_both (after p capacity (front ++ first ∷ [])) c es (compare ∷ fs) runs
            (subst (λ w. RunsOn w c (compare ∷ fs)) (sym at_first) (runs_now, subst (λ w. RunsOn w c fs) at_compare runs_then));
        all = (
          n,
          Some whole.compare.heard,
          1,
          runs_at (after p capacity (front ++ first ∷ (es ++ compare ∷ fs))) c (whole.terminate ∷ []) whole.first
              (whole.search ++ whole.compare ∷ []) (Hunted n (Some whole.compare.heard) 1) running_last whole.asked,
          all,
        );
        compares = whole.compares_again;
      }

  -- from where the last COMPARE was sent, since no transaction of c ran
  module _ (earlier : List Event) (idle : trace_running (after p capacity earlier) c ≡ []) where
    now : (es : List Event) → after_all (after p capacity earlier) es ≡ after p capacity (earlier ++ es)
    now es = sym (after_both (start p capacity) earlier es)

    pub rolled : (log later rest : List Event) (again : Entry) (t : List Entry) → IsRun p capacity log
        → log ≡ (earlier ++ later) ++ sent_event c again ∷ rest
        → trace_running (after p capacity (earlier ++ later)) c ≡ t → IsWholeCall n t again → AllByRecursion (Orders P c) rest
        → IsRolled p capacity P log c earlier later
    rolled log later rest again t run is running whole since =
        subst (λ l. IsRolled p capacity P l c earlier later) (sym log_is) (record {
          called = found.0;
          later = begun.front;
          stands = found.1;
          more = sent_event c whole.first ∷ (begun.rest ++ sent_event c whole.compare ∷ compared.rest);
          within = compared.log ∙ ap (λ l. l ++ sent_event c whole.compare ∷ compared.rest) begun.log
              ∙ append_assoc begun.front (sent_event c whole.first ∷ begun.rest) (sent_event c whole.compare ∷ compared.rest);
        }) where
          running_last : trace_running (after p capacity (earlier ++ later)) c ≡ whole.terminate ∷ whole.first ∷ (whole.search ++ whole.compare ∷ [])
          running_last = running ∙ whole.frames

          compared : IsAmong (after p capacity earlier) c later whole.compare (whole.terminate ∷ whole.first ∷ whole.search)
          compared = traced (after p capacity earlier) c later (whole.terminate ∷ whole.first ∷ whole.search) whole.compare [] idle
              (ap (λ w. trace_running w c) (now later) ∙ running_last)

          begun : IsAmong (after p capacity earlier) c compared.front whole.first (whole.terminate ∷ [])
          begun = traced (after p capacity earlier) c compared.front (whole.terminate ∷ []) whole.first whole.search idle compared.running

          front_is : earlier ++ compared.front ≡ (earlier ++ begun.front) ++ sent_event c whole.first ∷ begun.rest
          front_is = ap (λ l. earlier ++ l) begun.log ∙ sym (append_assoc earlier begun.front (sent_event c whole.first ∷ begun.rest))

          later_is : earlier ++ later ≡ (earlier ++ begun.front) ++ sent_event c whole.first ∷ (begun.rest ++ sent_event c whole.compare ∷ compared.rest)
          later_is = ap (λ l. earlier ++ l) compared.log ∙ sym (append_assoc earlier compared.front (sent_event c whole.compare ∷ compared.rest))
              ∙ ap (λ l. l ++ sent_event c whole.compare ∷ compared.rest) front_is
              ∙ append_assoc (earlier ++ begun.front) (sent_event c whole.first ∷ begun.rest) (sent_event c whole.compare ∷ compared.rest)

          log_is : log ≡ (earlier ++ begun.front) ++ sent_event c whole.first ∷ (begun.rest
              ++ sent_event c whole.compare ∷ (compared.rest ++ sent_event c again ∷ rest))
          log_is = is ∙ ap (λ l. l ++ sent_event c again ∷ rest) later_is
              ∙ append_assoc (earlier ++ begun.front) (sent_event c whole.first ∷ (begun.rest ++ sent_event c whole.compare ∷ compared.rest))
              (sent_event c again ∷ rest)
              ∙ ap (λ l. (earlier ++ begun.front) ++ sent_event c whole.first ∷ l)
              (append_assoc begun.rest (sent_event c whole.compare ∷ compared.rest) (sent_event c again ∷ rest))

          found : (called : HasCalled p capacity P ((earlier ++ begun.front) ++ sent_event c whole.first ∷ (begun.rest
              ++ sent_event c whole.compare ∷ (compared.rest ++ sent_event c again ∷ rest))) c) × (called.front ≡ earlier ++ begun.front)
          found = has_called (earlier ++ begun.front) begun.rest compared.rest rest again t whole (subst (λ l. IsRun p capacity l) log_is run)
              (ap (λ w. trace_running w c) (sym (now begun.front)) ∙ begun.running)
              (ap (λ l. trace_running (after p capacity l) c) (sym front_is) ∙ ap (λ w. trace_running w c) (sym (now compared.front)) ∙ compared.running)
              (ap (λ l. trace_running (after p capacity l) c) (sym later_is) ∙ running_last)
              (subst (λ l. RunsOn (after p capacity l) c begun.rest) (sym (append_assoc earlier begun.front (sent_event c whole.first ∷ [])))
              (subst (λ w. RunsOn w c begun.rest) (now (begun.front ++ sent_event c whole.first ∷ [])) begun.runs))
              (subst (λ l. RunsOn (after p capacity (l ++ sent_event c whole.compare ∷ [])) c compared.rest) front_is
              (subst (λ l. RunsOn (after p capacity l) c compared.rest) (sym (append_assoc earlier compared.front (sent_event c whole.compare ∷ [])))
              (subst (λ w. RunsOn w c compared.rest) (now (compared.front ++ sent_event c whole.compare ∷ [])) compared.runs)))
              since

-- ---------------------------------------------------------------- a log that grows

pub orders_more : (P : Order → Type 0) (c : ℕ) (es : List Event) (e : Event) → AllByRecursion (Orders P c) es → Orders P c e
    → AllByRecursion (Orders P c) (es ++ e ∷ [])
orders_more P c es e all here = all_more (Orders P c) es e all here

-- whoever gives no order gives such orders alone
pub orders_none : (P : Order → Type 0) (c : ℕ) (e : Event) → Orders (λ o. ⊥) c e → Orders P c e
orders_none P c (event.Acted d i o) none = λ same. absurd (none same)
orders_none P c (event.Down d) none = none
orders_none P c _ none = tt

pub orders_all : (P : Order → Type 0) (c : ℕ) (es : List Event) → AllByRecursion (Orders (λ o. ⊥) c) es → AllByRecursion (Orders P c) es
orders_all P c [] none = tt
orders_all P c (e ∷ es) none = (orders_none P c e none.0, orders_all P c es none.1)

abbrev pub called_more : (p : Plan) (capacity : ℕ) (P : Order → Type 0) (log : List Event) (c : ℕ) (e : Event) → Orders P c e → HasCalled p capacity P log c
    → HasCalled p capacity P (log ++ e ∷ []) c
called_more p capacity P log c e here is = record {
  front = is.front;
  first = is.first;
  es = is.es;
  compare = is.compare;
  fs = is.fs;
  again = is.again;
  rest = is.rest ++ e ∷ [];
  stands = ap (λ l. l ++ e ∷ []) is.stands
      ∙ append_assoc is.front (sent_event c is.first ∷ (is.es ++ sent_event c is.compare ∷ (is.fs ++ sent_event c is.again ∷ is.rest))) (e ∷ [])
      ∙ ap (λ l. is.front ++ sent_event c is.first ∷ l)
      (append_assoc is.es (sent_event c is.compare ∷ (is.fs ++ sent_event c is.again ∷ is.rest)) (e ∷ [])
      ∙ ap (λ l. is.es ++ sent_event c is.compare ∷ l) (append_assoc is.fs (sent_event c is.again ∷ is.rest) (e ∷ [])));
  silent = is.silent;
  silent_again = is.silent_again;
  since = orders_more P c is.rest e is.since here;
  calls = is.calls;
  calls_again = is.calls_again;
  called = is.called;
  called_again = is.called_again;
}

pub called_all : (p : Plan) (capacity : ℕ) (P : Order → Type 0) (log es : List Event) (c : ℕ) → AllByRecursion (Orders P c) es → HasCalled p capacity P log c
    → HasCalled p capacity P (log ++ es) c
called_all p capacity P log [] c all is = subst (λ l. HasCalled p capacity P l c) (sym (append-nil log)) is
called_all p capacity P log (e ∷ es) c all is =
    subst (λ l. HasCalled p capacity P l c) (append_assoc log (e ∷ []) es)
    (called_all p capacity P (log ++ e ∷ []) es c all.1 (called_more p capacity P log c e all.0 is))

-- of events that all give such orders the first do
pub orders_front : (P : Order → Type 0) (c : ℕ) (es fs : List Event) → AllByRecursion (Orders P c) (es ++ fs) → AllByRecursion (Orders P c) es
orders_front P c es fs all = all_front (Orders P c) es fs all

-- ---------------------------------------------------------------- where a frame stands

-- one event of a log stands in its front, or behind it
abbrev pub IsBehind : List Event → List Event → List Event → Event → List Event → Type 0
IsBehind es fs front e rest = (mid : List Event) × (front ≡ es ++ mid) × (fs ≡ mid ++ e ∷ rest)

abbrev IsWithin : List Event → List Event → List Event → Event → List Event → Type 0
IsWithin es fs front e rest = (mid : List Event) × (es ≡ front ++ e ∷ mid) × (rest ≡ mid ++ fs)

stands_in : (es fs front : List Event) (e : Event) (rest : List Event) → es ++ fs ≡ front ++ e ∷ rest
    → IsBehind es fs front e rest ⊎ IsWithin es fs front e rest
stands_in [] fs front e rest is = inl (front, refl, is)
stands_in (x ∷ es) fs [] e rest is =
    let head : x ≡ e = cc in
    let tail : rest ≡ es ++ fs = cc in
    inr (es, ap (λ y. y ∷ es) head, tail)
stands_in (x ∷ es) fs (y ∷ front) e rest is =
    let head : x ≡ y = cc in
    let tail : es ++ fs ≡ front ++ e ∷ rest = cc in
    go (stands_in es fs front e rest tail) head
  where
    go : IsBehind es fs front e rest ⊎ IsWithin es fs front e rest → x ≡ y → IsBehind (x ∷ es) fs (y ∷ front) e rest ⊎ IsWithin (x ∷ es) fs (y ∷ front) e rest
    go (inl k) same = inl (k.0, ap (λ z. z ∷ front) (sym same) ∙ ap (λ l. x ∷ l) k.1, k.2)
    go (inr k) same = inr (k.0, ap (λ z. z ∷ es) same ∙ ap (λ l. y ∷ l) k.1, k.2)

all_last : (P : Event → Type 0) (es : List Event) (e : Event) → AllByRecursion P (es ++ e ∷ []) → P e
all_last P [] e all = all.0
all_last P (x ∷ es) e all = all_last P es e all.1

last_of : (P : Event → Type 0) (es : List Event) (e : Event) (front : List Event) (x : Event) (rest : List Event) → es ++ e ∷ [] ≡ front ++ x ∷ rest
    → AllByRecursion P rest → (e ≡ x) ⊎ P e
last_of P [] e [] x rest is all = inl (cc)
last_of P [] e (y ∷ front) x rest is all = absurd (no_part front x rest cc)
last_of P (z ∷ es) e [] x rest is all = inr (all_last P es e (subst (λ l. AllByRecursion P l) (let tail : rest ≡ es ++ e ∷ [] = cc in tail) all))
last_of P (z ∷ es) e (y ∷ front) x rest is all = let tail : es ++ e ∷ [] ≡ front ++ x ∷ rest = cc in last_of P es e front x rest tail all

-- a frame behind which c took no step stands behind each step of c
pub sent_behind : (c : ℕ) (earlier : List Event) (i : Input) (o : Order) (later front : List Event) (x : Entry) (rest : List Event)
    → (earlier ++ event.Acted c i o ∷ []) ++ later ≡ front ++ sent_event c x ∷ rest → AllByRecursion (Orders (λ p. ⊥) c) rest
    → IsBehind (earlier ++ event.Acted c i o ∷ []) later front (sent_event c x) rest
sent_behind c earlier i o later front x rest is none = go (stands_in (earlier ++ event.Acted c i o ∷ []) later front (sent_event c x) rest is) where
  no_step : (mid : List Event) → earlier ++ event.Acted c i o ∷ [] ≡ front ++ sent_event c x ∷ mid → rest ≡ mid ++ later → ⊥
  no_step mid stands rest_is =
      pick (last_of (Orders (λ p. ⊥) c) earlier (event.Acted c i o) front (sent_event c x) mid stands
      (all_front (Orders (λ p. ⊥) c) mid later (subst (λ l. AllByRecursion (Orders (λ p. ⊥) c) l) rest_is none))) where
        pick : (event.Acted c i o ≡ sent_event c x) ⊎ (c ≡ c → ⊥) → ⊥
        pick (inl same) = cc
        pick (inr never) = never refl

  go : IsBehind (earlier ++ event.Acted c i o ∷ []) later front (sent_event c x) rest
      ⊎ IsWithin (earlier ++ event.Acted c i o ∷ []) later front (sent_event c x) rest
      → IsBehind (earlier ++ event.Acted c i o ∷ []) later front (sent_event c x) rest
  go (inl k) = k
  go (inr k) = absurd (no_step k.0 k.1 k.2)
