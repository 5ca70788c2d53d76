use Rattle.std.proofs.Common.{◌≡◌, ℕ, ◌<◌, ◌≤◌, ◌⊎◌, inl, inr, Bool, true, false, List, [], ◌∷◌, ◌++◌, refl, sym, ap, subst, ◌∙◌, arith, length, get_or, Option}
use Rattle.std.proofs.{Common.{Some, None, append_assoc, lit≤, nat_le, ◌&&◌, ◌-◌, ◌==◌, if◌then◌else◌}, lemmas.Bool.Decides.nat_tests}
use Rattle.std.specs.Prelude.{unwrap_or}
use Rattle.dali_frame.specs.{Random.{value_of, MASK24}, declared.frames.{Answer.{Answer, TheVariants.{Silence}}, Forward.Forward}}
use Rattle.dali_frame.specs.declared.numbers.SearchAddress.{SearchAddress}
use Rattle.dali_special.specs.{Command.command_of, declared.command.Command.{Command, TheVariants.{Initialise, Randomise, Compare, SearchHigh, SearchMiddle}}}
use Rattle.dali_special.specs.declared.command.{Command.TheVariants.SearchLow, Target.TheVariants.Unaddressed}
use Rattle.dali_gear.specs.{Gear.{Gear, fresh, is_second, concerns, gear_taken, gear_quieted, gear_expired, state_after, half_after, answer, YES}, Row.takes}
use Rattle.dali_gear.specs.{Row.{row_after, drawn_of}, declared.{row.Reach.TheVariants.Everyone, state.InitialisationState.TheVariants.Enabled}}
use Rattle.dali_script.specs.{Records.Assignment, Scripts.is_asking, Stages.{Follows, next_stage, hunted, doubted, stage_of}, declared.block.Block.Block}
use Rattle.dali_script.{specs.declared.{stage.Stage.Stage, trace.Entry.Entry}, proofs.{Members.{Each, each_changed, each_map}, Transactions.stage_more}}
use Rattle.dali_script.proofs.Transactions.{asks_hunting}
use Rattle.dali_events.specs.{Allowed.{Allowed, MaySend}, Calling.{Runs, RunsOn, Keeps, KeepsOn, Calls, Attends, IsCalled}, Happens.{happens, trace_running}}
use Rattle.dali_events.specs.{Happens.{entry, goes_on, gives_up, gear_powered, gear_interrupted}, Plan.Plan, Runs.{after, after_all, AllAllowed, IsRun}}
use Rattle.dali_events.specs.{Runs.{IsDrawer, AreDrawn}, Searching.sent_event, World.{World, gear_at, controller_at, start}, declared.event.Event.Event}
use Rattle.dali_events.proofs.Invariant.{Drawn.drawn_in_front, Growing.{after_both, allowed_front, allowed_rest}, Known.Knows, Sending.{IsKnown, known_after}}
use Rattle.dali_events.proofs.Invariant.{Sending.{follows_of, powered_takes}, Takes.{Moved, stays, goes, moves_at, row_length}}
use Rattle.dali_script.specs.declared.stage.Stage.TheVariants as stage
use Rattle.dali_events.specs.declared.event.Event.TheVariants as event

-- WHO IS CALLED, gear by gear: from the first INITIALISE of a transaction on, at each of its stages.

-- the stages of a transaction that initialises gear, from there on
is_woken : Stage → Bool
is_woken stage.InitialisedOnce = true
is_woken stage.Initialised = true
is_woken (stage.WokenHigh high) = true
is_woken (stage.WokenLow high low) = true
is_woken (stage.WokenMiddle high middle) = true
is_woken stage.DrawFree = true
is_woken stage.DrawBarred = true
is_woken stage.RandomisedOnce = true
is_woken stage.Opened = true
is_woken (stage.Hunted r last left) = true
is_woken stage.Over = true
is_woken _ = false

abbrev IsWoken : Stage → Type 0
IsWoken s = is_woken s ≡ true

woken_doubted : (h : Answer) → IsWoken (doubted h)
unfolding is_woken
woken_doubted Silence = refl
woken_doubted _ = refl

woken_hunted : (r : SearchAddress) (last : Option Answer) (left : ℕ) (c : Command) (h : Answer) → IsWoken (next_stage (stage.Hunted r last left) c h)
unfolding is_woken
woken_hunted r last left c h = go (left == 0) where
  asked : (c : Command) → IsWoken (unwrap_or (hunted r (left - 1) c h) stage.Over)
  asked (SearchHigh high) = refl
  asked _ = refl

  go : (t : Bool) → IsWoken (unwrap_or (if t then None else hunted r (left - 1) c h) stage.Over)
  go true = refl
  go false = asked c

woken_next : (b : Block) (xs : List Assignment) (s : Stage) (c : Command) (h : Answer) → Follows b xs s c → IsWoken s → IsWoken (next_stage s c h)
unfolding is_woken
woken_next b xs stage.InitialisedOnce (Initialise Unaddressed) h on woken = refl
woken_next b xs stage.Initialised Randomise h on woken = refl
woken_next b xs (stage.WokenHigh high) (SearchLow low) h on woken = refl
woken_next b xs (stage.WokenLow high low) (SearchMiddle middle) h on woken = refl
woken_next b xs (stage.WokenMiddle high middle) Compare h on woken = woken_doubted h
woken_next b xs stage.DrawFree Randomise h on woken = refl
woken_next b xs stage.RandomisedOnce Randomise h on woken = refl
woken_next b xs (stage.Hunted r last left) c h on woken = woken_hunted r last left c h
woken_next b xs _ _ h on woken = let leads = on.leads_on in let before = woken in cc

-- between the two INITIALISE it has half a pair, or had one before and is ENABLED; then it is ENABLED
abbrev Waked : Stage → Gear → Type 0
Waked stage.InitialisedOnce x = (x.half ≡ Some (Initialise Unaddressed)) ⊎ (x.state ≡ Enabled)
Waked _ x = x.state ≡ Enabled

enabled : (x : Gear) → x.short ≡ None → (x.half ≡ Some (Initialise Unaddressed)) ⊎ (x.state ≡ Enabled) → state_after (Initialise Unaddressed) x ≡ Enabled
enabled x none (inl half) = rw (half, none) refl
enabled x none (inr state) = go (is_second (Initialise Unaddressed) x.half && concerns Unaddressed x.short) where
  go : (b : Bool) → (if b then Enabled else x.state) ≡ Enabled
  go true = refl
  go false = state

-- the first INITIALISE
first_half : (x : Gear) → x.short ≡ None
    → (half_after (Initialise Unaddressed) x ≡ Some (Initialise Unaddressed)) ⊎ (state_after (Initialise Unaddressed) x ≡ Enabled)
first_half x none = go (is_second (Initialise Unaddressed) x.half) refl where
  go : (b : Bool) → is_second (Initialise Unaddressed) x.half ≡ b
      → (half_after (Initialise Unaddressed) x ≡ Some (Initialise Unaddressed)) ⊎ (state_after (Initialise Unaddressed) x ≡ Enabled)
  go true e = inr (rw (e, none) refl)
  go false e = inl (rw e refl)

waked_doubted : (h : Answer) (x : Gear) → x.state ≡ Enabled → Waked (doubted h) x
waked_doubted Silence x k = k
waked_doubted _ x k = k

waked_asked : (r : SearchAddress) (left : ℕ) (c : Command) (h : Answer) (x : Gear) (n : ℕ) → is_asking c ≡ true → x.state ≡ Enabled
    → Waked (unwrap_or (hunted r left c h) stage.Over) (gear_taken c n x)
waked_asked r left Compare h x n asks k = k
waked_asked r left _ h x n asks k = cc

asked_short : (c : Command) (x : Gear) (n : ℕ) → is_asking c ≡ true → (gear_taken c n x).short ≡ None → x.short ≡ None
asked_short Compare x n asks e = e
asked_short _ x n asks e = cc

waked_hunted : (r : SearchAddress) (last : Option Answer) (left : ℕ) (c : Command) (h : Answer) (x : Gear) (n : ℕ) → 0 < left → is_asking c ≡ true
    → x.state ≡ Enabled → Waked (next_stage (stage.Hunted r last left) c h) (gear_taken c n x)
waked_hunted r last left c h x n some asks k = rw (positive left some) (waked_asked r (left - 1) c h x n asks k) where
  positive : (left : ℕ) → 0 < left → (left == 0) ≡ false
  positive left some = grind (arith, nat_tests)

waked_step : (b : Block) (xs : List Assignment) (s : Stage) (c : Command) (h : Answer) (x : Gear) (n : ℕ) → Follows b xs s c → IsWoken s
    → (x.short ≡ None → Waked s x) → (gear_taken c n x).short ≡ None → Waked (next_stage s c h) (gear_taken c n x)
unfolding is_woken
waked_step b xs stage.InitialisedOnce (Initialise Unaddressed) h x n on woken k none = enabled x none (k none)
waked_step b xs stage.Initialised Randomise h x n on woken k none = k none
waked_step b xs stage.Initialised (SearchHigh high) h x n on woken k none = k none
waked_step b xs (stage.WokenHigh high) (SearchLow low) h x n on woken k none = k none
waked_step b xs (stage.WokenHigh high) (SearchMiddle middle) h x n on woken k none = k none
waked_step b xs (stage.WokenLow high low) (SearchMiddle middle) h x n on woken k none = k none
waked_step b xs (stage.WokenMiddle high middle) Compare h x n on woken k none = waked_doubted h (gear_taken Compare n x) (k none)
waked_step b xs stage.DrawFree Randomise h x n on woken k none = k none
waked_step b xs stage.RandomisedOnce Randomise h x n on woken k none = k none
waked_step b xs (stage.Hunted r last left) c h x n on woken k none =
    let asks = asks_hunting r last left c on.leads_on in
    waked_hunted r last left c h x n asks.0 asks.1 (k (asked_short c x n asks.1 none))
waked_step b xs _ _ h x n on woken k none = absurd (let no = on.leads_on in let other = woken in cc)

-- quiet takes half a pair alone, and so does a frame of another device
waked_halved : (s : Stage) (x : Gear) (half : Option Command) → (s ≡ stage.InitialisedOnce → ⊥) → Waked s x → Waked s (record x { half = half })
waked_halved stage.InitialisedOnce x half not_between k = absurd (not_between refl)
waked_halved _ x half not_between k = k

-- ---------------------------------------------------------------- in the row

abbrev There : Stage → ℕ → ℕ → Gear → Type 0
There s g k x = k ≡ g → (x.powered ≡ true) × (x.short ≡ None → Waked s x)

there_moved : (b : Block) (xs : List Assignment) (s : Stage) (c : Command) (h : Answer) (ds : List (ℕ × ℕ)) (g k : ℕ) (x x' : Gear) → Follows b xs s c
    → IsWoken s → There s g k x → Moved Everyone c ds k x x' → There (next_stage s c h) g k x'
there_moved b xs s c h ds g k x _ follows woken at (stays off) is = absurd (let takes_it : takes Everyone k x ≡ true = powered_takes k x (at is).0 in cc)
there_moved b xs s c h ds g k x _ follows woken at (goes n there drew) is = ((at is).0, waked_step b xs s c h x n follows woken (at is).1)

there_taken : (b : Block) (xs : List Assignment) (s : Stage) (c : Command) (h : Answer) (gs : List Gear) (left : List ℕ) (g : ℕ) → Follows b xs s c → IsWoken s
    → Each fresh (There s g) gs → Each fresh (There (next_stage s c h) g) (row_after Everyone c 0 gs left)
there_taken b xs s c h gs left g follows woken at i in_row =
    let there : i < length gs = subst (λ n. i < n) (row_length Everyone c 0 gs left) in_row in
    there_moved b xs s c h (drawn_of Everyone c 0 gs left) g i (get_or gs i fresh) (get_or (row_after Everyone c 0 gs left) i fresh) follows woken (at i there)
    (moves_at Everyone c gs left i there)

-- ---------------------------------------------------------------- through the events

record Is (w : World) (g : ℕ) : Type 0 where
  pub woken : IsWoken (stage_of w.trace)
  pub at : Each fresh (There (stage_of w.trace) g) w.gear

pub running_owned : (w : World) (c : ℕ) → w.bus.owner ≡ Some c → trace_running w c ≡ w.trace
running_owned w c e = rw (e, self c) refl where
  self : (n : ℕ) → (n == n) ≡ true
  self n = grind (arith, nat_tests)

is_sent : (w : World) (c d : ℕ) (f : Forward) (h : Answer) (g : ℕ) → Allowed w (event.Sent d f h) → Runs w c → Is w g
    → Runs (happens w (event.Sent d f h)) c → Is (happens w (event.Sent d f h)) g
is_sent w c d f h g here runs is next = go here.may where
  from : w.bus.owner ≡ Some d → Is (happens w (event.Sent d f h)) g
  from owner = on (goes_on w d (trace_running w d ++ entry f h ∷ [])) refl where
    running : trace_running w d ≡ w.trace
    running = running_owned w d owner

    stage_so : stage_of (trace_running w d ++ entry f h ∷ []) ≡ next_stage (stage_of w.trace) (command_of f) h
    stage_so = stage_more (trace_running w d) (entry f h) ∙ ap (λ t. next_stage (stage_of t) (command_of f) h) running

    follows : Follows (controller_at w d).records.block (controller_at w d).records.reserved (stage_of w.trace) (command_of f)
    follows =
        subst (λ t. Follows (controller_at w d).records.block (controller_at w d).records.reserved (stage_of t) (command_of f)) running
        (follows_of w d f here.may)

    on : (b : Bool) → goes_on w d (trace_running w d ++ entry f h ∷ []) ≡ b → Is (happens w (event.Sent d f h)) g
    on false e = absurd (next.begun (rw e refl))
    on true e = record {
      woken = rw (e, stage_so) (woken_next (controller_at w d).records.block (controller_at w d).records.reserved (stage_of w.trace)
          (command_of f) h follows is.woken);
      at = rw (e, stage_so)
          (there_taken (controller_at w d).records.block (controller_at w d).records.reserved (stage_of w.trace)
          (command_of f) h w.gear w.left g follows is.woken is.at);
    }

  go : MaySend w d f → Is (happens w (event.Sent d f h)) g
  go (inl may) = from may.0
  go (inr may) = absurd (let free = may.0 in let owned = runs.owner in cc)

is_unless : (b : Bool) (w : World) (g : ℕ) → ((if b then [] else w.trace) ≡ [] → ⊥) → Is w g
    → IsWoken (stage_of (if b then [] else w.trace)) × Each fresh (There (stage_of (if b then [] else w.trace)) g) w.gear
is_unless true w g some is = absurd (some refl)
is_unless false w g some is = (is.woken, is.at)

is_step : (w : World) (e : Event) (c g : ℕ) → Allowed w e → Runs w c → Keeps g w e → Is w g → Runs (happens w e) c → Is (happens w e) g
is_step w (event.Sent d f h) c g here runs keeps is next = is_sent w c d f h g here runs is next
is_step w (event.Acted d i o) c g here runs keeps is next = let k = is_unless (gives_up w.bus d o) w g next.begun is in record { woken = k.0; at = k.1 }
is_step w (event.Offered d f) c g here runs keeps is next = record { woken = is.woken; at = is.at }
is_step w event.Quiet c g here runs keeps is next = record {
  woken = is.woken;
  at = each_map fresh (There (stage_of w.trace) g) gear_quieted w.gear
      (λ k x one same. ((one same).0, λ none. waked_halved (stage_of w.trace) x None keeps ((one same).1 none))) is.at;
}
is_step w (event.Foreign f) c g here runs keeps is next = record {
  woken = is.woken;
  at = each_map fresh (There (stage_of w.trace) g) gear_interrupted w.gear
      (λ k x one same. ((one same).0, λ none. waked_halved (stage_of w.trace) x (if x.powered then None else x.half) keeps ((one same).1 none))) is.at;
}
is_step w (event.Power h on) c g here runs keeps is next = record {
  woken = is.woken;
  at = each_changed fresh (There (stage_of w.trace) g) (gear_powered on) w.gear h (λ there one same. absurd (keeps same)) is.at;
}
is_step w (event.Expired h) c g here runs keeps is next = record {
  woken = is.woken;
  at = each_changed fresh (There (stage_of w.trace) g) gear_expired w.gear h (λ there one same. absurd (keeps same)) is.at;
}
is_step w (event.Down d) c g here runs keeps is next = let k = is_unless _ w g next.begun is in record { woken = k.0; at = k.1 }
is_step w (event.Up d kept) c g here runs keeps is next = record { woken = is.woken; at = is.at }
is_step w _ c g here runs keeps is next = absurd (next.begun refl)

runs_now : (w : World) (c : ℕ) (es : List Event) → RunsOn w c es → Runs w c
runs_now w c [] runs = runs
runs_now w c (e ∷ es) runs = runs.0

is_all : (w : World) (es : List Event) (c g : ℕ) → AllAllowed w es → RunsOn w c es → KeepsOn g w es → Is w g → Is (after_all w es) g
is_all w [] c g all runs keeps is = is
is_all w (e ∷ es) c g all runs keeps is =
    is_all (happens w e) es c g all.1 runs.1 keeps.1 (is_step w e c g all.0 runs.0 keeps.0 is (runs_now (happens w e) c es runs.1))

-- ---------------------------------------------------------------- the first INITIALISE

first_moved : (c : Command) (h : Answer) (ds : List (ℕ × ℕ)) (g k : ℕ) (x x' : Gear) → c ≡ Initialise Unaddressed → (k ≡ g → x.powered ≡ true)
    → Moved Everyone c ds k x x' → There stage.InitialisedOnce g k x'
first_moved c h ds g k x _ is on (stays off) same = absurd (let takes_it : takes Everyone k x ≡ true = powered_takes k x (on same) in cc)
first_moved c h ds g k x _ is on (goes n there drew) same =
    (on same, subst (λ d. (gear_taken d n x).short ≡ None → Waked stage.InitialisedOnce (gear_taken d n x)) (sym is) (λ none. first_half x none))

woken_once : IsWoken stage.InitialisedOnce
unfolding is_woken
woken_once = refl

is_first : (w : World) (c g : ℕ) (f : Forward) (h : Answer) → Allowed w (event.Sent c f h) → stage_of (trace_running w c) ≡ stage.Terminated
    → command_of f ≡ Initialise Unaddressed
    → (gear_at w g).powered ≡ true → Runs (happens w (event.Sent c f h)) c → Is (happens w (event.Sent c f h)) g
is_first w c g f h here begun initialises powered next = on (goes_on w c (trace_running w c ++ entry f h ∷ [])) refl where
  stage_so : stage_of (trace_running w c ++ entry f h ∷ []) ≡ stage.InitialisedOnce
  stage_so = stage_more (trace_running w c) (entry f h) ∙ ap (λ s. next_stage s (command_of f) h) begun ∙ ap (λ d. next_stage stage.Terminated d h) initialises

  row : Each fresh (There stage.InitialisedOnce g) (row_after Everyone (command_of f) 0 w.gear w.left)
  row i in_row =
      let there : i < length w.gear = subst (λ n. i < n) (row_length Everyone (command_of f) 0 w.gear w.left) in_row in
      first_moved (command_of f) h (drawn_of Everyone (command_of f) 0 w.gear w.left) g i (gear_at w i)
      (get_or (row_after Everyone (command_of f) 0 w.gear w.left) i fresh) initialises
      (λ same. subst (λ n. (gear_at w n).powered ≡ true) (sym same) powered) (moves_at Everyone (command_of f) w.gear w.left i there)

  on : (b : Bool) → goes_on w c (trace_running w c ++ entry f h ∷ []) ≡ b → Is (happens w (event.Sent c f h)) g
  on false e = absurd (next.begun (rw e refl))
  on true e = record { woken = rw (e, stage_so) woken_once; at = rw (e, stage_so) row }

-- ---------------------------------------------------------------- the COMPARE

answers_all : (x : Gear) (r : SearchAddress) → x.state ≡ Enabled → x.random ≤ MASK24 → x.search ≡ r → value_of r ≡ MASK24 → answer Compare x ≡ Some YES
answers_all x r state small search all =
    let value : value_of x.search ≡ MASK24 = ap value_of search ∙ all in
    let test : nat_le x.random (value_of x.search) ≡ true = less x.random (value_of x.search) small value in
    rw (state, test) refl
  where
    less : (m n : ℕ) → m ≤ MASK24 → n ≡ MASK24 → nat_le m n ≡ true
    less m n h e = let below : m ≤ n = subst (λ k. m ≤ k) (sym e) h in grind (arith, nat_tests)

module _ (p : Plan) (capacity : ℕ) (front : List Event) (c : ℕ) (first : Entry) (es : List Event) (compare : Entry)
    (calls : Calls p capacity front c first es compare) (g : ℕ) (attends : Attends p capacity front c first es g) where
  now : after p capacity (front ++ sent_event c first ∷ es) ≡ after_all (happens (after p capacity front) (sent_event c first)) es
  now = after_both (start p capacity) front (sent_event c first ∷ es)

  first_then : after p capacity (front ++ sent_event c first ∷ []) ≡ happens (after p capacity front) (sent_event c first)
  first_then = after_both (start p capacity) front (sent_event c first ∷ [])

  allowed : AllAllowed (after p capacity front) (sent_event c first ∷ (es ++ sent_event c compare ∷ []))
  allowed = allowed_rest (start p capacity) front (sent_event c first ∷ (es ++ sent_event c compare ∷ [])) calls.run.allowed

  run : IsRun p capacity ((front ++ sent_event c first ∷ es) ++ sent_event c compare ∷ [])
  run = subst (λ l. IsRun p capacity l) (sym (append_assoc front (sent_event c first ∷ es) (sent_event c compare ∷ []))) calls.run

  drawn : AreDrawn (after p capacity (front ++ sent_event c first ∷ es))
  drawn = drawn_in_front p capacity (front ++ sent_event c first ∷ es) (sent_event c compare ∷ []) run

  known : IsKnown (after p capacity (front ++ sent_event c first ∷ es))
  known = known_after p capacity calls.run.plan.used (front ++ sent_event c first ∷ es)
      (allowed_front (start p capacity) (front ++ sent_event c first ∷ es) (sent_event c compare ∷ []) run.allowed)

  runs : RunsOn (happens (after p capacity front) (sent_event c first)) c es
  runs = subst (λ w. RunsOn w c es) first_then calls.runs

  is : Is (after p capacity (front ++ sent_event c first ∷ es)) g
  is = subst (λ w. Is w g) (sym now)
      (is_all (happens (after p capacity front) (sent_event c first)) es c g
      (allowed_front (happens (after p capacity front) (sent_event c first)) es (sent_event c compare ∷ []) allowed.1) runs
      (subst (λ w. KeepsOn g w es) first_then attends.keeps)
      (is_first (after p capacity front) c g first.frame first.heard allowed.0 calls.begun calls.initialises attends.powered
      (runs_now (happens (after p capacity front) (sent_event c first)) c es runs)))

  waked_hunting : (s : Stage) (r : SearchAddress) (last : Option Answer) (left : ℕ) (x : Gear) → s ≡ stage.Hunted r last left → Waked s x → x.state ≡ Enabled
  waked_hunting s r last left x e k = subst (λ t. Waked t x) e k

  small : (n : ℕ) → (n ≡ MASK24) ⊎ IsDrawer (after p capacity (front ++ sent_event c first ∷ es)) g n → n ≤ MASK24
  small n (inl e) = subst (λ m. m ≤ MASK24) (sym e) (lit≤ tt)
  small n (inr drew) = let below : n < MASK24 = drawn.below g n drew in omega arith

  pub called : IsCalled (after p capacity (front ++ sent_event c first ∷ es)) g
  called none =
      let here = is.at g attends.there refl in
      let state : (gear_at (after p capacity (front ++ sent_event c first ∷ es)) g).state ≡ Enabled =
      waked_hunting (stage_of (after p capacity (front ++ sent_event c first ∷ es)).trace) calls.all.0 calls.all.1 calls.all.2
      (gear_at (after p capacity (front ++ sent_event c first ∷ es)) g) calls.all.3 (here.1 none) in
      let search : (gear_at (after p capacity (front ++ sent_event c first ∷ es)) g).search ≡ calls.all.0 =
      (subst (λ s. Knows s (gear_at (after p capacity (front ++ sent_event c first ∷ es)) g)) calls.all.3 (known.knows g attends.there here.0))
      (rw state refl) in
      answers_all (gear_at (after p capacity (front ++ sent_event c first ∷ es)) g) calls.all.0 state
      (small (gear_at (after p capacity (front ++ sent_event c first ∷ es)) g).random (drawn.random g attends.there)) search calls.all.4
