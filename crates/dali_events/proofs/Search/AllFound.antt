use Rattle.std.proofs.Common.{◌≡◌, ℕ, ◌<◌, ◌≤◌, ◌⊎◌, inl, inr, Bool, true, false, List, [], ◌∷◌, ◌++◌, refl, sym, ap, subst, ◌∙◌, arith, length, get_or, Option}
use Rattle.std.proofs.{Common.{Some, None, nat_le, if◌then◌else◌}, lemmas.Bool.Decides.nat_tests}
use Rattle.dali_frame.specs.{Random.{value_of, MASK24}, declared.{frames.{Answer.Answer, Forward.Forward}, numbers.SearchAddress.SearchAddress}}
use Rattle.dali_special.specs.{Command.command_of, declared.command.Command.{Command, TheVariants.{Terminate, Randomise, Compare, Withdraw}}}
use Rattle.dali_gear.specs.{Gear.{Gear, fresh, YES, draws_a_number, answer, short_after}, Row.{takes, row_after, drawn_of, draws_needed, answers_of}}
use Rattle.dali_gear.specs.declared.{row.Reach.{Reach, TheVariants.{Everyone, Only}}, state.InitialisationState.TheVariants.Enabled}
use Rattle.dali_arbiter.specs.Arbiter.{owns}
use Rattle.dali_script.specs.{Findings.search_of, Records.{Assignment, Has}, Scripts.{Open, steps, IsFront}, Stages.{Follows, next_stage, stage_of, IsSearched}}
use Rattle.dali_script.{specs.declared.{block.Block.Block, stage.Stage.Stage, trace.Entry.Entry}, proofs.{Firsts.terminate_first, Found.searched_lawful}}
use Rattle.dali_script.proofs.{Members.{Each, each_map, has_right}, Transactions.{stage_more, stage_none}}
use Rattle.dali_events.specs.{Allowed.{Allowed, MaySend}, Happens.{happens, trace_running, entry, goes_on, gear_interrupted}, Plan.{Plan, IsPlan, numbers_of}}
use Rattle.dali_events.specs.{Runs.{after, after_all, AllAllowed}, Searching.{EachPowered, IsCalm, AreCalm, CompletesOpening, HIGHEST, sent_event}}
use Rattle.dali_events.specs.Searching.{up_to_compare, SearchesAll, NobodyAnswers, number_at, IsHalfway, BreaksNoPair, BreakNoPair, HasShort, PassesOver}
use Rattle.dali_events.specs.{Searching.{PassesNobody, PassNobody}, World.{World, gear_at, controller_at, start}, declared.event.Event.Event}
use Rattle.dali_events.proofs.Invariant.{Answers.answers_have, Drawn.{Draws, draws_step, draws_all, draws_after, are_drawn}, Growing.after_both}
use Rattle.dali_events.proofs.Invariant.{Growing.{allowed_front, allowed_rest}, Known.{Knows, IsActive}, Sending.{IsKnown, known_step, known_all, known_after}}
use Rattle.dali_events.proofs.Invariant.{Sending.{lawful_of, follows_of, knows_running, powered_takes}, Takes.{Moved, stays, goes, moves_at, row_length}}
use Rattle.dali_events.proofs.Search.Opening.{draws_at, Opens, opens_step, Ready, drawn_ready, ready_step}
use Rattle.dali_script.specs.declared.stage.Stage.TheVariants as stage
use Rattle.dali_events.specs.declared.event.Event.TheVariants as event

-- THE OPENING
abbrev OpensAll : Stage → List Gear → Type 0
OpensAll s gs = Each fresh (λ k g. g.powered ≡ true → g.short ≡ None → Opens s g) gs

opens_free : (t : List Entry) (gs : List Gear) → stage_of t ≡ stage.Free → OpensAll (stage_of t) gs
opens_free t gs e i h = rw e (λ on none. tt)

opens_unless : (b : Bool) (t : List Entry) (gs : List Gear) → OpensAll (stage_of t) gs → OpensAll (stage_of (if b then [] else t)) gs
opens_unless true t gs h = opens_free [] gs stage_none
opens_unless false t gs h = h

opens_if : (b : Bool) (t : List Entry) (gs : List Gear) → OpensAll (stage_of t) gs → OpensAll (stage_of (if b then t else [])) gs
opens_if true t gs h = h
opens_if false t gs h = opens_free [] gs stage_none

opens_moved : (b : Block) (xs : List Assignment) (s : Stage) (c : Command) (h : Answer) (ds : List (ℕ × ℕ)) (k : ℕ) (g g' : Gear) → Follows b xs s c
    → (g.powered ≡ true → g.short ≡ None → Opens s g) → Moved Everyone c ds k g g' → g'.powered ≡ true → g'.short ≡ None → Opens (next_stage s c h) g'
opens_moved b xs s c h ds k g _ follows opens (stays off) on none = absurd (let there : takes Everyone k g ≡ true = powered_takes k g on in cc)
opens_moved b xs s c h ds k g _ follows opens (goes r there drew) on none = opens_step b xs s c h g r follows (opens on) none

opens_sent : (w : World) (c : ℕ) (f : Forward) (h : Answer) → Allowed w (event.Sent c f h) → OpensAll (stage_of (trace_running w c)) w.gear
    → OpensAll (stage_of (happens w (event.Sent c f h)).trace) (happens w (event.Sent c f h)).gear
opens_sent w c f h here opens =
    opens_if (goes_on w c (trace_running w c ++ entry f h ∷ [])) (trace_running w c ++ entry f h ∷ []) (row_after Everyone (command_of f) 0 w.gear w.left)
    (subst (λ s. OpensAll s (row_after Everyone (command_of f) 0 w.gear w.left)) (sym (stage_more (trace_running w c) (entry f h))) all) where
      all : OpensAll (next_stage (stage_of (trace_running w c)) (command_of f) h) (row_after Everyone (command_of f) 0 w.gear w.left)
      all i in_row =
          let there : i < length w.gear = subst (λ n. i < n) (row_length Everyone (command_of f) 0 w.gear w.left) in_row in
          opens_moved (controller_at w c).records.block (controller_at w c).records.reserved (stage_of (trace_running w c)) (command_of f) h
          (drawn_of Everyone (command_of f) 0 w.gear w.left) i (gear_at w i)
          (get_or (row_after Everyone (command_of f) 0 w.gear w.left) i fresh) (follows_of w c f here.may) (opens i there)
          (moves_at Everyone (command_of f) w.gear w.left i there)

-- a frame of another device that breaks no pair
opens_interrupted : (s : Stage) (g : Gear) → (IsHalfway s → ⊥) → g.powered ≡ true → Opens s g → Opens s (gear_interrupted g)
opens_interrupted stage.InitialisedOnce g unbroken on opens = absurd (unbroken tt)
opens_interrupted stage.RandomisedOnce g unbroken on opens = absurd (unbroken tt)
opens_interrupted stage.Terminated g unbroken on opens = rw on refl
opens_interrupted stage.Initialised g unbroken on opens = (rw on refl, opens.1)
opens_interrupted (stage.WokenHigh high) g unbroken on opens = (rw on refl, opens.1)
opens_interrupted (stage.WokenMiddle high middle) g unbroken on opens = (rw on refl, opens.1)
opens_interrupted stage.DrawFree g unbroken on opens = (rw on refl, opens.1)
opens_interrupted _ g unbroken on opens = tt

opens_event : (w : World) (e : Event) → Allowed w e → IsCalm e → BreaksNoPair w e → OpensAll (stage_of w.trace) w.gear
    → OpensAll (stage_of (happens w e).trace) (happens w e).gear
opens_event w (event.Acted c i o) here calm unbroken opens = opens_unless _ w.trace w.gear opens
opens_event w (event.Offered c f) here calm unbroken opens = opens
opens_event w (event.Sent c f h) here calm unbroken opens = opens_sent w c f h here (opens_if (owns w.bus.owner c) w.trace w.gear opens)
opens_event w (event.Destroyed c f set) here calm unbroken opens = opens_free [] _ stage_none
opens_event w (event.Collided c f d g) here calm unbroken opens = opens_free [] w.gear stage_none
opens_event w event.Lapsed here calm unbroken opens = opens_free [] w.gear stage_none
opens_event w (event.Down c) here calm unbroken opens = opens_unless _ w.trace w.gear opens
opens_event w (event.Up c kept) here calm unbroken opens = opens
opens_event w (event.Foreign f) here calm unbroken opens =
    each_map fresh (λ k g. g.powered ≡ true → g.short ≡ None → Opens (stage_of w.trace) g) gear_interrupted w.gear
    (λ k g one on none. opens_interrupted (stage_of w.trace) g unbroken on (one on none)) opens
opens_event w _ here calm unbroken opens = absurd calm

opens_all : (w : World) (es : List Event) → AllAllowed w es → AreCalm es → BreakNoPair w es → OpensAll (stage_of w.trace) w.gear
    → OpensAll (stage_of (after_all w es).trace) (after_all w es).gear
opens_all w [] all calm unbroken opens = opens
opens_all w (e ∷ es) all calm unbroken opens = opens_all (happens w e) es all.1 calm.1 unbroken.1 (opens_event w e all.0 calm.0 unbroken.0 opens)

-- TERMINATE begins it
opens_first : (w : World) (c : ℕ) (f : Forward) (h : Answer) → Allowed w (event.Sent c f h) → command_of f ≡ Terminate
    → OpensAll (stage_of (happens w (event.Sent c f h)).trace) (happens w (event.Sent c f h)).gear
opens_first w c f h here is =
    let none : trace_running w c ≡ [] =
    terminate_first (controller_at w c).records.block (controller_at w c).records.reserved (trace_running w c) f (lawful_of w c f here.may) is in
    opens_sent w c f h here (opens_free (trace_running w c) w.gear (ap stage_of none ∙ stage_none))

-- and its last frame is the second RANDOMISE
opening_last : (t : List Entry) (f : Forward) → IsFront t f (steps Open) → length t ≡ 4 → (stage_of t ≡ stage.RandomisedOnce) × (command_of f ≡ Randomise)
unfolding stage_of
opening_last (a ∷ b ∷ c ∷ d ∷ []) f front four = (rw (front.0, front.2.0, front.2.2.0, front.2.2.2.0) refl, front.2.2.2.2)
opening_last _ f front four = absurd (omega arith)

-- READY GEAR
abbrev ReadyAll : List Gear → Type 0
ReadyAll gs = Each fresh (λ k g. g.powered ≡ true → Ready g) gs

ready_moved : (ds : List (ℕ × ℕ)) (k : ℕ) (g g' : Gear) → Moved Everyone Randomise ds k g g' → (g.powered ≡ true → g.short ≡ None → Ready g')
    → g'.powered ≡ true → Ready g'
ready_moved ds k g _ (stays off) draws on = absurd (let there : takes Everyone k g ≡ true = powered_takes k g on in cc)
ready_moved ds k g _ (goes r there drew) draws on = λ none. draws on none none

ready_drawn : (gs : List Gear) (left : List ℕ) → draws_needed Everyone Randomise 0 gs ≤ length left → OpensAll stage.RandomisedOnce gs
    → ((x : ℕ × ℕ) → Has (drawn_of Everyone Randomise 0 gs left) x → x.1 < MASK24) → ReadyAll (row_after Everyone Randomise 0 gs left)
ready_drawn gs left enough opens below i in_row =
    let there : i < length gs = subst (λ n. i < n) (row_length Everyone Randomise 0 gs left) in_row in
    ready_moved (drawn_of Everyone Randomise 0 gs left) i (get_or gs i fresh) (get_or (row_after Everyone Randomise 0 gs left) i fresh)
    (moves_at Everyone Randomise gs left i there) (λ on none. at there on none) where
      at : i < length gs → (get_or gs i fresh).powered ≡ true → (get_or gs i fresh).short ≡ None
          → Ready (get_or (row_after Everyone Randomise 0 gs left) i fresh)
      at there on none =
          let open_it = opens i there on none in
          let would : draws_a_number Randomise (get_or gs i fresh) ≡ true = rw (open_it.0, open_it.1) refl in
          let d = draws_at Everyone Randomise gs left i there enough (powered_takes i (get_or gs i fresh) on) would in
          subst Ready (sym d.2) (drawn_ready (get_or gs i fresh) d.0 open_it (below (i, d.0) d.1))

ready_last : (c : Command) (gs : List Gear) (left : List ℕ) → c ≡ Randomise → draws_needed Everyone c 0 gs ≤ length left → OpensAll stage.RandomisedOnce gs
    → ((x : ℕ × ℕ) → Has (drawn_of Everyone c 0 gs left) x → x.1 < MASK24) → ReadyAll (row_after Everyone c 0 gs left)
ready_last c gs left is enough opens below =
    subst (λ d. ReadyAll (row_after Everyone d 0 gs left)) (sym is)
    (ready_drawn gs left (subst (λ d. draws_needed Everyone d 0 gs ≤ length left) is enough) opens
    (λ x h. below x (subst (λ d. Has (drawn_of Everyone d 0 gs left) x) (sym is) h)))

-- the numbers that a frame draws are below FFFFFF
below_of : (p : Plan) → IsPlan p → (w : World) (e : Event) (more : List (ℕ × ℕ)) → Draws (numbers_of p) w.gear w.drawn w.left
    → (happens w e).drawn ≡ w.drawn ++ more
    → (x : ℕ × ℕ) → Has more x → x.1 < MASK24
below_of p plan w e more d is x h =
    (are_drawn p (happens w e) plan (draws_step p w e d)).below x.0 x.1 (subst (λ ds. Has ds x) (sym is) (has_right w.drawn more x h))

ready_opened : (p : Plan) → IsPlan p → (w : World) (c : ℕ) (f : Forward) (h : Answer) → Allowed w (event.Sent c f h)
    → Draws (numbers_of p) w.gear w.drawn w.left
    → CompletesOpening w c f
    → OpensAll (stage_of w.trace) w.gear → ReadyAll (happens w (event.Sent c f h)).gear
ready_opened p plan w c f h here draws complete opens =
    let last = opening_last w.trace f complete.opening complete.last in
    ready_last (command_of f) w.gear w.left last.1 here.draws (subst (λ s. OpensAll s w.gear) last.0 opens)
    (below_of p plan w (event.Sent c f h) (drawn_of Everyone (command_of f) 0 w.gear w.left) draws refl)

-- it stays ready
ready_taken_one : (b : Block) (xs : List Assignment) (s : Stage) (c : Command) (reach : Reach) (ds : List (ℕ × ℕ)) (k : ℕ) (g g' : Gear) → Follows b xs s c
    → (c ≡ Terminate → ⊥) → ((n : SearchAddress) → c ≡ Withdraw → s ≡ stage.NumberSent n → ⊥)
    → ((x : ℕ × ℕ) → Has ds x → x.1 < MASK24) → (g.powered ≡ true → Knows s g) → (g.powered ≡ true → Ready g) → Moved reach c ds k g g' → g'.powered ≡ true
    → Ready g'
ready_taken_one b xs s c reach ds k g _ follows calm kept below knows ready (stays off) on = ready on
ready_taken_one b xs s c reach ds k g _ follows calm kept below knows ready (goes r there drew) on =
    ready_step b xs s c g r follows calm kept (λ w. go (drew w)) (knows on) (ready on) where
      go : (r ≡ g.random) ⊎ Has ds (k, r) → (r ≡ g.random) ⊎ (r < MASK24)
      go (inl e) = inl e
      go (inr h) = inr (below (k, r) h)

ready_taken : (w : World) (c : ℕ) (f : Forward) (reach : Reach) → MaySend w c f → IsKnown w → (command_of f ≡ Terminate → ⊥) → (PassesOver w c f → ⊥)
    → ((x : ℕ × ℕ) → Has (drawn_of reach (command_of f) 0 w.gear w.left) x → x.1 < MASK24) → ReadyAll w.gear
    → ReadyAll (row_after reach (command_of f) 0 w.gear w.left)
ready_taken w c f reach may known calm kept below ready i in_row =
    let there : i < length w.gear = subst (λ n. i < n) (row_length reach (command_of f) 0 w.gear w.left) in_row in
    ready_taken_one (controller_at w c).records.block (controller_at w c).records.reserved (stage_of (trace_running w c)) (command_of f) reach
    (drawn_of reach (command_of f) 0 w.gear w.left) i (gear_at w i)
    (get_or (row_after reach (command_of f) 0 w.gear w.left) i fresh) (follows_of w c f may) calm (λ n is at. kept (is, (n, at))) below
    (knows_running w c known.knows i there) (ready i there)
    (moves_at reach (command_of f) w.gear w.left i there)

ready_event : (p : Plan) → IsPlan p → (w : World) (e : Event) → Allowed w e → IsCalm e → PassesNobody w e → IsKnown w
    → Draws (numbers_of p) w.gear w.drawn w.left
    → ReadyAll w.gear
    → ReadyAll (happens w e).gear
ready_event p plan w (event.Sent c f h) here calm kept known draws ready =
    ready_taken w c f Everyone here.may known calm kept (below_of p plan w (event.Sent c f h) (drawn_of Everyone (command_of f) 0 w.gear w.left) draws refl)
    ready
ready_event p plan w (event.Destroyed c f set) here calm kept known draws ready =
    ready_taken w c f (Only set) here.may known calm kept (below_of p plan w (event.Destroyed c f set)
    (drawn_of (Only set) (command_of f) 0 w.gear w.left) draws refl) ready
ready_event p plan w event.Quiet here calm kept known draws ready = absurd calm
ready_event p plan w (event.Foreign f) here calm kept known draws ready =
    each_map fresh (λ k g. g.powered ≡ true → Ready g) gear_interrupted w.gear (λ k g one. one) ready
ready_event p plan w (event.Power g on) here calm kept known draws ready = absurd calm
ready_event p plan w (event.Expired g) here calm kept known draws ready = absurd calm
ready_event p plan w _ here calm kept known draws ready = ready

ready_all : (p : Plan) → IsPlan p → (w : World) (es : List Event) → AllAllowed w es → AreCalm es → PassNobody w es → IsKnown w
    → Draws (numbers_of p) w.gear w.drawn w.left
    → ReadyAll w.gear → ReadyAll (after_all w es).gear
ready_all p plan w [] all calm kept known draws ready = ready
ready_all p plan w (e ∷ es) all calm kept known draws ready =
    ready_all p plan (happens w e) es all.1 calm.1 kept.1 (known_step w e all.0 known) (draws_step p w e draws)
    (ready_event p plan w e all.0 calm.0 kept.0 known draws ready)

-- THE COMPARE: a ready gear would have answered it
ready_answers : (g : Gear) (r : SearchAddress) → g.state ≡ Enabled → g.random < MASK24 → g.search ≡ r → value_of r ≡ HIGHEST → answer Compare g ≡ Some YES
ready_answers g r enabled below search highest =
    let value : value_of g.search ≡ HIGHEST = ap value_of search ∙ highest in
    let test : nat_le g.random (value_of g.search) ≡ true = less g.random (value_of g.search) below value in
    rw (enabled, test) refl
  where
    less : (m n : ℕ) → m < MASK24 → n ≡ HIGHEST → nat_le m n ≡ true
    less m n h e =
        let at : n ≡ 0xFFFFFE = e in
        let under : m < 0xFFFFFF = h in
        let below : m ≤ n = omega arith in
        grind (arith, nat_tests)

number_seeks : (s : Stage) (g : Gear) (q r : SearchAddress) → number_at s ≡ Some r → IsSearched s q → Knows s g → IsActive g → g.search ≡ q
number_seeks (stage.NumberSent n) g q r at searched knows active = knows active ∙ sym searched
number_seeks (stage.Hunted n last left) g q r at searched knows active = knows active ∙ sym searched
number_seeks (stage.Found n b) g q r at searched knows active = (knows active).0 ∙ sym searched
number_seeks (stage.Unnamed n) g q r at searched knows active = (knows active).0 ∙ sym searched
number_seeks (stage.Programmed n a) g q r at searched knows active = knows active ∙ sym searched
number_seeks (stage.Confirmed n a) g q r at searched knows active = (knows active).0 ∙ sym searched
number_seeks _ g q r at searched knows active = absurd (cc)

compare_finds : (w : World) (c : ℕ) (f : Forward) (h : Answer) → Allowed w (event.Sent c f h) → IsKnown w → command_of f ≡ Compare
    → (r : SearchAddress) × (number_at (stage_of (trace_running w c)) ≡ Some r)
    → value_of (search_of (trace_running w c)) ≡ HIGHEST
    → NobodyAnswers w → ReadyAll w.gear → EachPowered w HasShort
compare_finds w c f h here known is searched highest nobody ready g there on = go (gear_at w g).short refl where
  seeks : IsActive (gear_at w g) → (gear_at w g).search ≡ search_of (trace_running w c)
  seeks active =
      number_seeks (stage_of (trace_running w c)) (gear_at w g) (search_of (trace_running w c)) searched.0 searched.1
      (searched_lawful (controller_at w c).records.block (controller_at w c).records.reserved (trace_running w c) f (lawful_of w c f here.may))
      (knows_running w c known.knows g there on) active

  go : (o : Option ℕ) → (gear_at w g).short ≡ o → HasShort (gear_at w g)
  go (Some a) e = (a, e)
  go None e =
      let one = ready g there on e in
      let active : IsActive (gear_at w g) = rw one.0 refl in
      let replies : answer Compare (gear_at w g) ≡ Some YES = ready_answers (gear_at w g) (search_of (trace_running w c)) one.0 one.1 (seeks active) highest in
      let has : Has (answers_of Everyone Compare 0 w.gear) YES = answers_have Everyone Compare w.gear g YES there (powered_takes g (gear_at w g) on) replies in
      absurd (subst (λ xs. Has xs YES) nobody has)

-- the COMPARE leaves short addresses
short_moved : (c : Command) (ds : List (ℕ × ℕ)) (k : ℕ) (g g' : Gear) → c ≡ Compare → (g.powered ≡ true → HasShort g) → Moved Everyone c ds k g g'
    → g'.powered ≡ true → HasShort g'
short_moved c ds k g _ is has (stays off) on = has on
short_moved c ds k g _ is has (goes r there drew) on = let short = has on in (short.0, subst (λ d. short_after d g ≡ Some short.0) (sym is) short.1)

compare_leaves : (w : World) (c : ℕ) (f : Forward) (h : Answer) → command_of f ≡ Compare → EachPowered w HasShort
    → EachPowered (happens w (event.Sent c f h)) HasShort
compare_leaves w c f h is has i in_row =
    let there : i < length w.gear = subst (λ n. i < n) (row_length Everyone (command_of f) 0 w.gear w.left) in_row in
    short_moved (command_of f) (drawn_of Everyone (command_of f) 0 w.gear w.left) i (gear_at w i)
    (get_or (row_after Everyone (command_of f) 0 w.gear w.left) i fresh) is (has i there)
    (moves_at Everyone (command_of f) w.gear w.left i there)

-- ALL FOUND
module _ (p : Plan) (plan : IsPlan p) (w : World) (known : IsKnown w) (draws : Draws (numbers_of p) w.gear w.drawn w.left) (c : ℕ) (first last compare : Entry)
    (opening middle : List Event)
    (all : AllAllowed w (sent_event c first ∷ (opening ++ sent_event c last ∷ (middle ++ sent_event c compare ∷ [])))) where
  pub found_from : command_of first.frame ≡ Terminate → AreCalm opening → BreakNoPair (happens w (sent_event c first)) opening
      → CompletesOpening (after_all (happens w (sent_event c first)) opening) c last.frame
      → AreCalm middle → PassNobody (happens (after_all (happens w (sent_event c first)) opening) (sent_event c last)) middle
      → command_of compare.frame ≡ Compare
      → (r : SearchAddress)
      × (number_at (stage_of (trace_running (after_all (happens (after_all (happens w (sent_event c first)) opening) (sent_event c last)) middle) c)) ≡ Some r)
      → value_of (search_of (trace_running (after_all (happens (after_all (happens w (sent_event c first)) opening) (sent_event c last)) middle) c)) ≡ HIGHEST
      → NobodyAnswers (after_all (happens (after_all (happens w (sent_event c first)) opening) (sent_event c last)) middle)
      → EachPowered (after_all (happens (after_all (happens w (sent_event c first)) opening) (sent_event c last)) middle) HasShort
  found_from is calm unbroken complete calm_since kept compares searched highest nobody =
      let opening_allowed : AllAllowed (happens w (sent_event c first)) opening = allowed_front (happens w (sent_event c first)) opening _ all.1 in
      let rest = allowed_rest (happens w (sent_event c first)) opening (sent_event c last ∷ (middle ++ sent_event c compare ∷ [])) all.1 in
      let known1 : IsKnown (happens w (sent_event c first)) = known_step w (sent_event c first) all.0 known in
      let draws1 = draws_step p w (sent_event c first) draws in
      let known4 : IsKnown (after_all (happens w (sent_event c first)) opening) = known_all (happens w (sent_event c first)) opening opening_allowed known1 in
      let draws4 = draws_all p (happens w (sent_event c first)) opening draws1 in
      let opens4 = opens_all (happens w (sent_event c first)) opening opening_allowed calm unbroken (opens_first w c first.frame first.heard all.0 is) in
      let ready5 = ready_opened p plan (after_all (happens w (sent_event c first)) opening) c last.frame last.heard rest.0 draws4 complete opens4 in
      let known5 = known_step (after_all (happens w (sent_event c first)) opening) (sent_event c last) rest.0 known4 in
      let draws5 = draws_step p (after_all (happens w (sent_event c first)) opening) (sent_event c last) draws4 in
      let middle_allowed =
      allowed_front (happens (after_all (happens w (sent_event c first)) opening) (sent_event c last)) middle (sent_event c compare ∷ []) rest.1 in
      let compare_allowed =
      (allowed_rest (happens (after_all (happens w (sent_event c first)) opening) (sent_event c last)) middle (sent_event c compare ∷ []) rest.1).0 in
      let known6 = known_all (happens (after_all (happens w (sent_event c first)) opening) (sent_event c last)) middle middle_allowed known5 in
      let ready6 = ready_all p plan (happens (after_all (happens w (sent_event c first)) opening) (sent_event c last))
      middle middle_allowed calm_since kept known5 draws5 ready5 in
      compare_finds (after_all (happens (after_all (happens w (sent_event c first)) opening) (sent_event c last)) middle)
      c compare.frame compare.heard compare_allowed known6 compares searched highest nobody ready6

-- the world of the search, from the front
world_of : (w : World) (front opening middle : List Event) (a b : Event)
    → after_all w (front ++ a ∷ (opening ++ b ∷ middle)) ≡ after_all (happens (after_all (happens (after_all w front) a) opening) b) middle
world_of w front opening middle a b = after_both w front (a ∷ (opening ++ b ∷ middle)) ∙ after_both (happens (after_all w front) a) opening (b ∷ middle)

pub all_found : (p : Plan) (capacity : ℕ) (front : List Event) (c : ℕ) (first : Entry) (opening : List Event) (last : Entry) (middle : List Event)
    (compare : Entry)
    → SearchesAll p capacity front c first opening last middle compare → NobodyAnswers (after p capacity (up_to_compare front c first opening last middle))
    → EachPowered (after p capacity (up_to_compare front c first opening last middle)) HasShort
all_found p capacity front c first opening last middle compare s nobody =
    let there = world_of (start p capacity) front opening middle (sent_event c first) (sent_event c last) in
    let half = after_both (start p capacity) front (sent_event c first ∷ opening) in
    subst (λ v. EachPowered v HasShort) (sym there)
    (found_from p s.run.plan (after p capacity front) (known_after p capacity s.run.plan.used front (allowed_front (start p capacity) front _ s.run.allowed))
    (draws_after p capacity front) c first last compare opening middle
    (allowed_rest (start p capacity) front (sent_event c first ∷ (opening ++ sent_event c last ∷ (middle ++ sent_event c compare ∷ []))) s.run.allowed)
    s.terminate s.calm_opening (subst (λ v. BreakNoPair v opening) (after_both (start p capacity) front (sent_event c first ∷ [])) s.unbroken)
    (subst (λ v. CompletesOpening v c last.frame) half s.complete) s.calm_since
    (subst (λ v. PassNobody v middle) (world_of (start p capacity) front opening [] (sent_event c first) (sent_event c last)) s.nobody_passed) s.compare_sent
    (subst (λ v. (r : SearchAddress) × (number_at (stage_of (trace_running v c)) ≡ Some r)) there s.searched)
    (subst (λ v. value_of (search_of (trace_running v c)) ≡ HIGHEST) there s.highest) (subst NobodyAnswers there nobody))

-- and in the world after the COMPARE
pub all_found_after : (p : Plan) (capacity : ℕ) (front : List Event) (c : ℕ) (first : Entry) (opening : List Event) (last : Entry) (middle : List Event)
    (compare : Entry)
    → SearchesAll p capacity front c first opening last middle compare → NobodyAnswers (after p capacity (up_to_compare front c first opening last middle))
    → EachPowered (after p capacity (up_to_compare front c first opening last (middle ++ sent_event c compare ∷ []))) HasShort
all_found_after p capacity front c first opening last middle compare s nobody =
    let there = world_of (start p capacity) front opening middle (sent_event c first) (sent_event c last) in
    let whole = world_of (start p capacity) front opening (middle ++ sent_event c compare ∷ []) (sent_event c first) (sent_event c last) in
    let more = after_both (happens (after_all (happens (after p capacity front) (sent_event c first)) opening) (sent_event c last)) middle
    (sent_event c compare ∷ []) in
    subst (λ v. EachPowered v HasShort) (sym (whole ∙ more))
    (compare_leaves (after_all (happens (after_all (happens (after p capacity front) (sent_event c first)) opening) (sent_event c last)) middle)
    c compare.frame compare.heard s.compare_sent
    (subst (λ v. EachPowered v HasShort) there (all_found p capacity front c first opening last middle compare s nobody)))
