use Rattle.std.proofs.Common.{◌≡◌, ℕ, ◌⊎◌, inl, inr, Bool, true, false, List, [], ◌∷◌, ◌++◌, refl, sym, ap, subst, ◌∙◌, arith, Option, Some, None, ◌==◌}
use Rattle.std.proofs.{Common.if◌then◌else◌, lemmas.Bool.Decides.nat_tests}
use Rattle.dali_frame.specs.declared.frames.{Answer.Answer, Forward.Forward}
use Rattle.dali_arbiter.specs.Arbiter.{Arbiter, owns, bus_lapsed, bus_freed, bus_muted}
use Rattle.dali_script.specs.declared.{orders.{Input.Input, Order.{Order, TheVariants.{Put}}}, trace.Entry.Entry}
use Rattle.dali_events.specs.{Calling.{Runs, RunsOn}, Happens.{happens, trace_running, entry, goes_on, gives_up, bus_acted}, Runs.after_all}
use Rattle.dali_events.specs.{Searching.sent_event, World.World, declared.event.Event.Event}
use Rattle.dali_events.specs.declared.event.Event.TheVariants as event

-- WHERE A FRAME OF THE RUNNING TRANSACTION WAS SENT: its event stands in the log, what ran before it are the frames before
-- it, and the transaction runs from there on.

-- the frames that a controller goes on with are not none: it owns the bus
abbrev IsPart : List Entry → Entry → List Entry → Type 0
IsPart t x pre = (post : List Entry) × (t ≡ pre ++ x ∷ post)

pub no_part : {A : Type 0} (pre : List A) (x : A) (post : List A) → [] ≡ pre ++ x ∷ post → ⊥
no_part [] x post e = cc
no_part (y ∷ pre) x post e = cc

-- of frames with one more, that one is the last, or another is among those before
last_or_before : (t : List Entry) (y : Entry) (pre : List Entry) (x : Entry) (post : List Entry) → t ++ y ∷ [] ≡ pre ++ x ∷ post
    → ((t ≡ pre) × (y ≡ x)) ⊎ IsPart t x pre
last_or_before [] y [] x post e = inl (refl, cc)
last_or_before [] y (z ∷ pre) x post e = absurd (no_part pre x post cc)
last_or_before (u ∷ t) y [] x post e = inr (t, let same : u ≡ x = cc in ap (λ z. z ∷ t) same)
last_or_before (u ∷ t) y (z ∷ pre) x post e =
    let head : u ≡ z = cc in
    let tail : t ++ y ∷ [] ≡ pre ++ x ∷ post = cc in
    go (last_or_before t y pre x post tail) head
  where
    go : ((t ≡ pre) × (y ≡ x)) ⊎ IsPart t x pre → u ≡ z → ((u ∷ t ≡ z ∷ pre) × (y ≡ x)) ⊎ IsPart (u ∷ t) x (z ∷ pre)
    go (inl is) same = inl (ap (λ v. v ∷ t) same ∙ ap (λ v. z ∷ v) is.0, is.1)
    go (inr is) same = inr (is.0, ap (λ v. v ∷ t) same ∙ ap (λ v. z ∷ v) is.1)

owner_is : (o : Option ℕ) (c : ℕ) → owns o c ≡ true → o ≡ Some c
owner_is None c e = absurd (cc)
owner_is (Some d) c e = let same : d ≡ c = grind (arith, nat_tests) in ap Some same

-- the frames that some world goes on with, by who owns the bus and what runs there
abbrev running_by : Option ℕ → List Entry → ℕ → List Entry
running_by o t c = if owns o c then t else []

runs_with : (o : Option ℕ) (t : List Entry) (c : ℕ) (x : Entry) (pre : List Entry) → IsPart (running_by o t c) x pre → (o ≡ Some c) × (t ≡ [] → ⊥)
runs_with o t c x pre is = go (owns o c) refl is where
  go : (b : Bool) → owns o c ≡ b → IsPart (if b then t else []) x pre → (o ≡ Some c) × (t ≡ [] → ⊥)
  go true e is = (owner_is o c e, λ none. no_part pre x is.0 (sym none ∙ is.1))
  go false e is = absurd (no_part pre x is.0 is.1)

pub runs_part : (w : World) (c : ℕ) (x : Entry) (pre : List Entry) → IsPart (trace_running w c) x pre → Runs w c
runs_part w c x pre is = let k = runs_with w.bus.owner w.trace c x pre is in record { owner = k.0; begun = k.1 }

-- ---------------------------------------------------------------- one event

-- it was sent by the event, or before it
abbrev IsBefore : World → ℕ → Event → Entry → List Entry → Type 0
IsBefore w c e x pre = ((e ≡ sent_event c x) × (trace_running w c ≡ pre)) ⊎ IsPart (trace_running w c) x pre

nothing_runs : (o : Option ℕ) (t : List Entry) (c : ℕ) (x : Entry) (pre : List Entry) → t ≡ [] → IsPart (running_by o t c) x pre → ⊥
nothing_runs o t c x pre none is = (runs_with o t c x pre is).1 none

owner_acted : (b : Arbiter) (c : ℕ) (o : Order) → gives_up b c o ≡ false → (bus_acted b c o).owner ≡ b.owner
owner_acted b c (Put p f) e = ap (λ x. (if x then bus_lapsed b else b).owner) e
owner_acted b c _ e = ap (λ y. (if y then bus_lapsed b else b).owner) e

before_acted : (w : World) (c d : ℕ) (i : Input) (o : Order) (x : Entry) (pre : List Entry)
    → IsPart (trace_running (happens w (event.Acted d i o)) c) x pre → IsPart (trace_running w c) x pre
before_acted w c d i o x pre is = go (gives_up w.bus d o) refl is where
  go : (b : Bool) → gives_up w.bus d o ≡ b → IsPart (running_by (bus_acted w.bus d o).owner (if b then [] else w.trace) c) x pre
      → IsPart (trace_running w c) x pre
  go true e is = absurd (nothing_runs (bus_acted w.bus d o).owner [] c x pre refl is)
  go false e is = subst (λ owner. IsPart (running_by owner w.trace c) x pre) (owner_acted w.bus d o e) is

before_down : (w : World) (c d : ℕ) (x : Entry) (pre : List Entry)
    → IsPart (trace_running (happens w (event.Down d)) c) x pre → IsPart (trace_running w c) x pre
before_down w c d x pre is = go (owns w.bus.owner d) is where
  go : (b : Bool) → IsPart (running_by (if b then bus_freed (bus_muted w.bus d) else bus_muted w.bus d).owner (if b then [] else w.trace) c) x pre
      → IsPart (trace_running w c) x pre
  go true is = absurd (nothing_runs None [] c x pre refl is)
  go false is = is

before_sent : (w : World) (c d : ℕ) (f : Forward) (h : Answer) (x : Entry) (pre : List Entry)
    → IsPart (trace_running (happens w (event.Sent d f h)) c) x pre → IsBefore w c (event.Sent d f h) x pre
before_sent w c d f h x pre is = go (goes_on w d (trace_running w d ++ entry f h ∷ [])) is where
  own : d ≡ c → IsPart (trace_running w d ++ entry f h ∷ []) x pre → IsBefore w c (event.Sent d f h) x pre
  own same is = by (last_or_before (trace_running w d) (entry f h) pre x is.0 is.1) where
    by : ((trace_running w d ≡ pre) × (entry f h ≡ x)) ⊎ IsPart (trace_running w d) x pre → IsBefore w c (event.Sent d f h) x pre
    by (inl last) = inl (ap (λ n. event.Sent n f h) same ∙ ap (sent_event c) last.1, subst (λ n. trace_running w n ≡ pre) same last.0)
    by (inr earlier) = inr (subst (λ n. IsPart (trace_running w n) x pre) same earlier)

  go : (b : Bool) → IsPart (running_by (if b then Some d else None) (if b then trace_running w d ++ entry f h ∷ [] else []) c) x pre
      → IsBefore w c (event.Sent d f h) x pre
  go true is = on (d == c) refl is where
    on : (b : Bool) → (d == c) ≡ b → IsPart (if b then trace_running w d ++ entry f h ∷ [] else []) x pre → IsBefore w c (event.Sent d f h) x pre
    on true e is = own (grind (arith, nat_tests)) is
    on false e is = absurd (no_part pre x is.0 is.1)
  go false is = absurd (no_part pre x is.0 is.1)

before : (w : World) (c : ℕ) (e : Event) (x : Entry) (pre : List Entry) → IsPart (trace_running (happens w e) c) x pre → IsBefore w c e x pre
before w c (event.Acted d i o) x pre is = inr (before_acted w c d i o x pre is)
before w c (event.Sent d f h) x pre is = before_sent w c d f h x pre is
before w c (event.Destroyed d f set) x pre is = absurd (nothing_runs None [] c x pre refl is)
before w c (event.Collided d f e g) x pre is = absurd (nothing_runs None [] c x pre refl is)
before w c event.Lapsed x pre is = absurd (nothing_runs None [] c x pre refl is)
before w c (event.Down d) x pre is = inr (before_down w c d x pre is)
before w c _ x pre is = inr is

-- ---------------------------------------------------------------- many events

-- the event stands among these, from a world on
pub record IsAmong (w : World) (c : ℕ) (es : List Event) (x : Entry) (pre : List Entry) : Type 0 where
  pub front : List Event
  pub rest : List Event
  pub log : es ≡ front ++ sent_event c x ∷ rest
  pub running : trace_running (after_all w front) c ≡ pre
  pub runs : RunsOn (after_all w (front ++ sent_event c x ∷ [])) c rest

-- it stands there, or the frame runs in that world, and its transaction through all of them
abbrev IsFoundIn : World → ℕ → List Event → Entry → List Entry → Type 0
IsFoundIn w c es x pre = IsAmong w c es x pre ⊎ (IsPart (trace_running w c) x pre × RunsOn w c es)

found_in : (w : World) (c : ℕ) (es : List Event) (x : Entry) (pre : List Entry) → IsPart (trace_running (after_all w es) c) x pre → IsFoundIn w c es x pre
found_in w c [] x pre is = inr (is, runs_part w c x pre is)
found_in w c (e ∷ es) x pre is = go (found_in (happens w e) c es x pre is) where
  here : IsBefore w c e x pre → RunsOn (happens w e) c es → IsFoundIn w c (e ∷ es) x pre
  here (inl sent) runs = inl (record {
    front = [];
    rest = es;
    log = ap (λ f. f ∷ es) sent.0;
    running = sent.1;
    runs = subst (λ f. RunsOn (happens w f) c es) sent.0 runs;
  })
  here (inr earlier) runs = inr (earlier, (runs_part w c x pre earlier, runs))

  go : IsFoundIn (happens w e) c es x pre → IsFoundIn w c (e ∷ es) x pre
  go (inl is) = inl (record { front = e ∷ is.front; rest = is.rest; log = ap (λ l. e ∷ l) is.log; running = is.running; runs = is.runs })
  go (inr is) = here (before w c e x pre is.0) is.1

-- from a world on in which none of its transactions runs
pub traced : (w : World) (c : ℕ) (es : List Event) (pre : List Entry) (x : Entry) (post : List Entry) → trace_running w c ≡ []
    → trace_running (after_all w es) c ≡ pre ++ x ∷ post → IsAmong w c es x pre
traced w c es pre x post idle is = go (found_in w c es x pre (post, is)) where
  go : IsFoundIn w c es x pre → IsAmong w c es x pre
  go (inl among) = among
  go (inr none) = absurd (no_part pre x none.0.0 (sym idle ∙ none.0.1))
