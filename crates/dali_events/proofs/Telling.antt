use Rattle.std.proofs.Common.{◌≡◌, ℕ, zero, suc, ◌+◌, ◌<◌, ◌≤◌, Bool, true, false, List, [], ◌∷◌, ◌++◌, length, map, get_or, set, Option, Some, None, refl, sym}
use Rattle.std.proofs.Common.{ap, subst, ◌∙◌, arith, zero-add, append-nil, get_or-set_same, set-set, ◌&&◌, ◌==◌, if◌then◌else◌, is_some}
use Rattle.std.specs.{List.AllByRecursion, Prelude.unwrap_or}
use Rattle.dali_frame.specs.declared.{frames.{Answer.TheVariants.Damaged, Forward.Forward}, numbers.SearchAddress.SearchAddress}
use Rattle.dali_special.specs.{Command.{command_of, is_question, is_send_twice}, declared.command.Command.{Command, TheVariants.{Initialise, Randomise}}}
use Rattle.dali_special.specs.declared.command.{Command.TheVariants.{Compare, Verify, QueryShort, RandomByte, Program}, Part.TheVariants.{High, Middle, Low}}
use Rattle.dali_gear.specs.{Gear.{Gear, fresh, is_active, is_second, draws_a_number, gear_taken, half_after, answer, gear_expired, gear_quieted}, Row.takes}
use Rattle.dali_gear.specs.Row.{next_draw, one_after, left_after, row_after, row_left, draws_needed, answers_of, option_cons, drawn_one, drawn_of, stored_short}
use Rattle.dali_gear.specs.{Row.{stored_one, stored_of}, declared.{gear_set.GearSet.GearSet, row.Reach.{Reach, TheVariants.{Everyone, Only}}}}
use Rattle.dali_arbiter.specs.Arbiter.{Arbiter, owns, bus_destroyed}
use Rattle.dali_script.specs.{Findings.{Asked, search_of, asked_of, found_by}, Records.Assignment, Stages.{Follows, next_stage, stage_of}}
use Rattle.dali_script.specs.declared.{block.Block.Block, orders.Order.{Order, TheVariants.{Put}}, stage.Stage.Stage}
use Rattle.dali_script.specs.declared.stage.Stage.TheVariants.{Terminated, InitialisedOnce, Initialised, RandomisedOnce, DrawFree, Hunted, HighAsked}
use Rattle.dali_script.{specs.declared.{stage.Stage.TheVariants.{MiddleAsked, Over}, trace.Entry.Entry}, proofs.Transactions.{stage_none, stage_more, self}}
use Rattle.dali_events.specs.{Allowed.{Allowed, Hears, IsUp, IsDestroyed, MaySend, MayOrder}, Happens.{happens, trace_running, entry, goes_on, taken_by}}
use Rattle.dali_events.specs.Happens.{sent_by, told_sent, told_destroyed, gives_up, keeps_bus, bus_acted, controller_acted, controller_informed, gear_powered}
use Rattle.dali_events.specs.{Happens.{gear_interrupted, after_quiet}, Plan.Plan, Promise.{HoldsShort, KeepsPromiseNow, KeepsAddresses}, Runs.after}
use Rattle.dali_events.specs.{Runs.{after_all, AllAllowed, IsRun, LeavesUsed}, Searching.EachPowered, Telling.{Happening, rightly, as_damaged, as_told}}
use Rattle.dali_events.specs.{Telling.{happened, MayHappen, happened_all, AllMayHappen, after_happened, all_told, IsHistory}, World.{World, Controller, nobody}}
use Rattle.dali_events.{specs.{World.{controller_at, controllers_changed, start}, declared.event.Event.Event}, proofs.Invariant.Growing.all_front}
use Rattle.dali_events.proofs.Invariant.{Safe.keeps_promise, Sending.{follows_of, takes_powered}}
use Rattle.dali_script.specs.declared.orders.Input.TheVariants as input
use Rattle.dali_events.specs.declared.event.Event.TheVariants as event

-- QUESTIONS: what they leave of gear, whichever gear they reach
no_draw : (t : Bool) (c : Command) (g : Gear) → is_question c ≡ true → (t && draws_a_number c g) ≡ false
no_draw true Randomise g asks = absurd (cc)
no_draw _ _ g asks = refl

not_stored : (t : Bool) (c : Command) (g : Gear) → is_question c ≡ true → (if t then stored_short c g else None) ≡ None
not_stored true (Program short) g asks = absurd (cc)
not_stored _ _ g asks = refl

-- a gear that takes one loses its half pair, and nothing else
asked_gear : (c : Command) (r : ℕ) (g : Gear) → is_question c ≡ true → gear_taken c r g ≡ record g { half = None }
asked_gear Compare r g asks = refl
asked_gear _ r g asks = cc

asked_left : (reach : Reach) (c : Command) (k : ℕ) (gs : List Gear) (left : List ℕ) → is_question c ≡ true → row_left reach c k gs left ≡ left
asked_left reach c k [] left asks = refl
asked_left reach c k (g ∷ gs) left asks =
    ap (λ d. row_left reach c (k + 1) gs (left_after d left)) (no_draw (takes reach k g) c g asks) ∙ asked_left reach c (k + 1) gs left asks

asked_drawn : (reach : Reach) (c : Command) (k : ℕ) (gs : List Gear) (left : List ℕ) → is_question c ≡ true → drawn_of reach c k gs left ≡ []
asked_drawn reach c k [] left asks = refl
asked_drawn reach c k (g ∷ gs) left asks =
    ap (λ d. drawn_one d k left (drawn_of reach c (k + 1) gs (left_after d left))) (no_draw (takes reach k g) c g asks)
    ∙ asked_drawn reach c (k + 1) gs left asks

asked_stored : (reach : Reach) (c : Command) (k : ℕ) (gs : List Gear) → is_question c ≡ true → stored_of reach c k gs ≡ []
asked_stored reach c k [] asks = refl
asked_stored reach c k (g ∷ gs) asks =
    ap (λ s. stored_one k s (stored_of reach c (k + 1) gs)) (not_stored (takes reach k g) c g asks) ∙ asked_stored reach c (k + 1) gs asks

asked_draws : (reach : Reach) (c : Command) (k : ℕ) (gs : List Gear) → is_question c ≡ true → draws_needed reach c k gs ≡ 0
asked_draws reach c k [] asks = refl
asked_draws reach c k (g ∷ gs) asks =
    ap (λ d. (if d then 1 else 0) + draws_needed reach c (k + 1) gs) (no_draw (takes reach k g) c g asks)
    ∙ (zero-add (draws_needed reach c (k + 1) gs) ∙ asked_draws reach c (k + 1) gs asks)

-- where no gear with power has a half pair, nothing changes
asked_one : (t : Bool) (c : Command) (left : List ℕ) (g : Gear) → is_question c ≡ true → (t ≡ true → g.half ≡ None) → one_after t c left g ≡ g
asked_one false c left g asks whole = refl
asked_one true c left g asks whole = asked_gear c (next_draw g left) g asks ∙ ap (λ h. record g { half = h }) (sym (whole refl))

asked_row : (reach : Reach) (c : Command) (k : ℕ) (gs : List Gear) (left : List ℕ) → is_question c ≡ true
    → ((i : ℕ) → i < length gs → (get_or gs i fresh).powered ≡ true → (get_or gs i fresh).half ≡ None) → row_after reach c k gs left ≡ gs
asked_row reach c k [] left asks whole = refl
asked_row reach c k (g ∷ gs) left asks whole =
    ap (λ h. h ∷ row_after reach c (k + 1) gs (left_after (takes reach k g && draws_a_number c g) left))
    (asked_one (takes reach k g) c left g asks (λ t. whole 0 (omega arith) (takes_powered reach k g t)))
    ∙ ap (λ hs. g ∷ hs)
    (asked_row reach c (k + 1) gs (left_after (takes reach k g && draws_a_number c g) left) asks (λ i there. whole (suc i) (omega arith)))

pub questions_leave_gear : (w : World) (reach : Reach) (c : Command) → is_question c ≡ true → EachPowered w (λ g. g.half ≡ None) → taken_by w reach c ≡ w
questions_leave_gear w reach c asks whole =
    rw (
      asked_row reach c 0 w.gear w.left asks whole,
      asked_left reach c 0 w.gear w.left asks,
      asked_drawn reach c 0 w.gear w.left asks,
      asked_stored reach c 0 w.gear asks,
      append-nil w.drawn,
      append-nil w.gifts,
    ) refl

-- HALF PAIRS THAT ARE LEFT. The gear of a run, and those that there are: the same, but for half pairs; and where `whole` is true,
-- gear with power have the same half pair too.
data Alike (whole : Bool) : List Gear → List Gear → Type 0 where
  no_gear : Alike whole [] []
  more : (g : Gear) (x : Option Command) (gs hs : List Gear) → (whole ≡ true → g.powered ≡ true → x ≡ g.half) → Alike whole gs hs
      → Alike whole (g ∷ gs) (record g { half = x } ∷ hs)

alike_self : (b : Bool) (gs : List Gear) → Alike b gs gs
alike_self b [] = no_gear
alike_self b (g ∷ gs) = more g g.half gs gs (λ w on. refl) (alike_self b gs)

loosely : (b : Bool) (gs hs : List Gear) → Alike b gs hs → Alike false gs hs
loosely b _ _ no_gear = no_gear
loosely b _ _ (more g x gs hs same rest) = more g x gs hs (λ w. absurd (cc)) (loosely b gs hs rest)

wholly : (b : Bool) (gs hs : List Gear) → Alike true gs hs → Alike b gs hs
wholly true gs hs near = near
wholly false gs hs near = loosely true gs hs near

-- a frame of no pair ends each half pair
taken_plainly : (c : Command) (r : ℕ) (g : Gear) (x : Option Command) → is_send_twice c ≡ false
    → gear_taken c r (record g { half = x }) ≡ record (gear_taken c r g) { half = None }
taken_plainly (Initialise target) r g x plain = absurd (cc)
taken_plainly Randomise r g x plain = absurd (cc)
taken_plainly _ r g x plain = refl

none_left : (c : Command) (g : Gear) → is_send_twice c ≡ false → None ≡ half_after c g
none_left c g plain = rw plain refl

next_same : (g : Gear) (x : Option Command) (left : List ℕ) → next_draw (record g { half = x }) left ≡ next_draw g left
next_same g x [] = refl
next_same g x (r ∷ left) = refl

one_alike : (out t : Bool) (c : Command) (left : List ℕ) (g : Gear) (x : Option Command) (gs hs : List Gear)
    → (is_send_twice c ≡ true → t ≡ true → x ≡ g.half) → (out ≡ true → g.powered ≡ true → t ≡ true) → Alike out gs hs
    → Alike out (one_after t c left g ∷ gs) (one_after t c left (record g { half = x }) ∷ hs)
one_alike out false c left g x gs hs same takes rest = more g x gs hs (λ o on. absurd (let never : false ≡ true = takes o on in cc)) rest
one_alike out true c left g x gs hs same takes rest = go (is_send_twice c) refl where
  go : (two : Bool) → is_send_twice c ≡ two
      → Alike out (gear_taken c (next_draw g left) g ∷ gs) (gear_taken c (next_draw (record g { half = x }) left) (record g { half = x }) ∷ hs)
  go true two =
      subst (λ y. Alike out (gear_taken c (next_draw g left) g ∷ gs) (gear_taken c (next_draw (record g { half = y }) left) (record g { half = y }) ∷ hs))
      (sym (same two refl)) (more (gear_taken c (next_draw g left) g) (half_after c g) gs hs (λ o on. refl) rest)
  go false plain =
      subst (λ h. Alike out (gear_taken c (next_draw g left) g ∷ gs) (h ∷ hs))
      (sym (ap (λ r. gear_taken c r (record g { half = x })) (next_same g x left) ∙ taken_plainly c (next_draw g left) g x plain))
      (more (gear_taken c (next_draw g left) g) None gs hs (λ o on. none_left c g plain) rest)

draws_alike : (t : Bool) (c : Command) (g : Gear) (x : Option Command) → (is_send_twice c ≡ true → t ≡ true → x ≡ g.half)
    → (t && draws_a_number c (record g { half = x })) ≡ (t && draws_a_number c g)
draws_alike true Randomise g x same = ap (λ h. is_second Randomise h && is_active g.state) (same refl refl)
draws_alike _ _ g x same = refl

stored_alike : (c : Command) (g : Gear) (x : Option Command) → stored_short c (record g { half = x }) ≡ stored_short c g
stored_alike (Program short) g x = refl
stored_alike _ g x = refl

answer_alike : (c : Command) (g : Gear) (x : Option Command) → answer c (record g { half = x }) ≡ answer c g
answer_alike Compare g x = refl
answer_alike _ g x = refl

-- WHAT A FRAME LEAVES of both. A frame of a pair finds the same half pairs.
record TakenAlike (out : Bool) (reach : Reach) (c : Command) (k : ℕ) (gs hs : List Gear) (left : List ℕ) : Type 0 where
  pub gear : Alike out (row_after reach c k gs left) (row_after reach c k hs left)
  pub left_same : row_left reach c k hs left ≡ row_left reach c k gs left
  pub drawn_same : drawn_of reach c k hs left ≡ drawn_of reach c k gs left
  pub stored_same : stored_of reach c k hs ≡ stored_of reach c k gs
  pub draws_same : draws_needed reach c k hs ≡ draws_needed reach c k gs
  pub answers_same : answers_of reach c k hs ≡ answers_of reach c k gs

all_take : (out : Bool) (reach : Reach) (k : ℕ) (g : Gear) → (out ≡ true → reach ≡ Everyone) → out ≡ true → g.powered ≡ true → takes reach k g ≡ true
all_take out reach k g all o on = rw (all o, on) refl

taken_alike : (b out : Bool) (reach : Reach) (c : Command) (k : ℕ) (gs hs : List Gear) (left : List ℕ) → Alike b gs hs
    → (is_send_twice c ≡ true → b ≡ true) → (out ≡ true → reach ≡ Everyone) → TakenAlike out reach c k gs hs left
taken_alike b out reach c k _ _ left no_gear twice all =
    record { gear = no_gear; left_same = refl; drawn_same = refl; stored_same = refl; draws_same = refl; answers_same = refl }
taken_alike b out reach c k _ _ left (more g x gs hs same rest) twice all =
    let pair : is_send_twice c ≡ true → takes reach k g ≡ true → x ≡ g.half = λ two on. same (twice two) (takes_powered reach k g on) in
    let draws : (takes reach k g && draws_a_number c (record g { half = x })) ≡ (takes reach k g && draws_a_number c g) =
    draws_alike (takes reach k g) c g x pair in
    let there : TakenAlike out reach c (k + 1) gs hs (left_after (takes reach k g && draws_a_number c g) left) =
    taken_alike b out reach c (k + 1) gs hs (left_after (takes reach k g && draws_a_number c g) left) rest twice all in
    record {
      gear = subst (λ d. Alike out
          (one_after (takes reach k g) c left g ∷ row_after reach c (k + 1) gs (left_after (takes reach k g && draws_a_number c g) left))
          (one_after (takes reach k g) c left (record g { half = x }) ∷ row_after reach c (k + 1) hs (left_after d left)))
          (sym draws)
          (one_alike out (takes reach k g) c left g x _ _ pair (all_take out reach k g all) there.gear);
      left_same = ap (λ d. row_left reach c (k + 1) hs (left_after d left)) draws ∙ there.left_same;
      drawn_same = ap (λ d. drawn_one d k left (drawn_of reach c (k + 1) hs (left_after d left))) draws
          ∙ ap (λ m. drawn_one (takes reach k g && draws_a_number c g) k left m) there.drawn_same;
      stored_same = ap (λ s. stored_one k (if takes reach k g then s else None) (stored_of reach c (k + 1) hs)) (stored_alike c g x)
          ∙ ap (λ m. stored_one k (if takes reach k g then stored_short c g else None) m) there.stored_same;
      draws_same = ap (λ d. (if d then 1 else 0) + draws_needed reach c (k + 1) hs) draws
          ∙ ap (λ n. (if takes reach k g && draws_a_number c g then 1 else 0) + n) there.draws_same;
      answers_same = ap (λ s. option_cons (if takes reach k g then s else None) (answers_of reach c (k + 1) hs)) (answer_alike c g x)
          ∙ ap (λ m. option_cons (if takes reach k g then answer c g else None) m) there.answers_same;
    }

-- a question that reaches other gear
asked_so : (t : Bool) (c : Command) (left : List ℕ) (g : Gear) → is_question c ≡ true → (y : Option Command) × (one_after t c left g ≡ record g { half = y })
asked_so false c left g asks = (g.half, refl)
asked_so true c left g asks = (None, asked_gear c (next_draw g left) g asks)

asked_alike : (b : Bool) (reach other : Reach) (c : Command) (k : ℕ) (gs hs : List Gear) (left : List ℕ) → is_question c ≡ true → Alike b gs hs
    → Alike false (row_after reach c k gs left) (row_after other c k hs left)
asked_alike b reach other c k _ _ left asks no_gear = no_gear
asked_alike b reach other c k _ _ left asks (more g x gs hs same rest) =
    let sent = asked_so (takes reach k g) c left g asks in
    let told = asked_so (takes other k g) c left (record g { half = x }) asks in
    subst (λ d. Alike false (one_after (takes reach k g) c left g ∷ row_after reach c (k + 1) gs (left_after d left))
    (one_after (takes other k g) c left (record g { half = x })
    ∷ row_after other c (k + 1) hs (left_after (takes other k g && draws_a_number c (record g { half = x })) left)))
    (sym (no_draw (takes reach k g) c g asks))
    (subst (λ d. Alike false (one_after (takes reach k g) c left g ∷ row_after reach c (k + 1) gs left)
    (one_after (takes other k g) c left (record g { half = x }) ∷ row_after other c (k + 1) hs (left_after d left)))
    (sym (no_draw (takes other k g) c (record g { half = x }) asks))
    (subst (λ h. Alike false (h ∷ row_after reach c (k + 1) gs left)
    (one_after (takes other k g) c left (record g { half = x }) ∷ row_after other c (k + 1) hs left)) (sym sent.1)
    (subst (λ h. Alike false (record g { half = sent.0 } ∷ row_after reach c (k + 1) gs left) (h ∷ row_after other c (k + 1) hs left)) (sym told.1)
    (more (record g { half = sent.0 }) told.0 _ _ (λ w. absurd (cc)) (asked_alike b reach other c (k + 1) gs hs left asks rest)))))

-- THE OTHER EVENTS of gear
quieted_alike : (b : Bool) (gs hs : List Gear) → Alike b gs hs → Alike true (map gear_quieted gs) (map gear_quieted hs)
quieted_alike b _ _ no_gear = no_gear
quieted_alike b _ _ (more g x gs hs same rest) = more (gear_quieted g) None _ _ (λ w on. refl) (quieted_alike b gs hs rest)

quieted_same : (b : Bool) (gs hs : List Gear) → Alike b gs hs → map gear_quieted hs ≡ map gear_quieted gs
quieted_same b _ _ no_gear = refl
quieted_same b _ _ (more g x gs hs same rest) = ap (λ ys. gear_quieted g ∷ ys) (quieted_same b gs hs rest)

abbrev Same : Bool → Gear → Option Command → Type 0
Same b g x = b ≡ true → g.powered ≡ true → x ≡ g.half

-- what befalls one gear
abbrev Befalls : Bool → (Gear → Gear) → Type 0
Befalls b f = (g : Gear) (x : Option Command) → Same b g x → (y : Option Command) × (f (record g { half = x }) ≡ record (f g) { half = y }) × Same b (f g) y

changed_alike : (b : Bool) (f : Gear → Gear) → Befalls b f → (gs hs : List Gear) (i : ℕ) → Alike b gs hs
    → Alike b (set gs i (f (get_or gs i fresh))) (set hs i (f (get_or hs i fresh)))
changed_alike b f befalls _ _ i no_gear = no_gear
changed_alike b f befalls _ _ zero (more g x gs hs same rest) =
    let here = befalls g x same in
    subst (λ h. Alike b (f g ∷ gs) (h ∷ hs)) (sym here.1) (more (f g) here.0 gs hs here.2 rest)
changed_alike b f befalls _ _ (suc i) (more g x gs hs same rest) = more g x _ _ same (changed_alike b f befalls gs hs i rest)

abbrev on_again : Gear → Gear
on_again g = record g { powered = true; state = fresh.state; search = fresh.search; half = None }

powered_alike : (b on : Bool) → Befalls b (gear_powered on)
powered_alike b false g x same = (x, refl, λ w on. absurd (cc))
powered_alike b true g x same = go g.powered same where
  go : (p : Bool) → (b ≡ true → p ≡ true → x ≡ g.half)
      → (y : Option Command) × ((if p then record g { half = x } else on_again g) ≡ record (if p then g else on_again g) { half = y })
      × (b ≡ true → (if p then g else on_again g).powered ≡ true → y ≡ (if p then g else on_again g).half)
  go true same = (x, refl, λ w on. same w refl)
  go false same = (None, refl, λ w on. refl)

-- a frame of another device, in all gear
interrupted_alike : (b : Bool) (gs hs : List Gear) → Alike b gs hs → Alike true (map gear_interrupted gs) (map gear_interrupted hs)
interrupted_alike b _ _ no_gear = no_gear
interrupted_alike b _ _ (more g x gs hs same rest) =
    more (gear_interrupted g) (if g.powered then None else x) _ _ (λ w on. rw on refl) (interrupted_alike b gs hs rest)

expired_alike : (b : Bool) → Befalls b gear_expired
expired_alike b g x same = (x, refl, same)

-- WHERE A FRAME OF A PAIR MAY FOLLOW, gear with power have the half pairs of the run
abbrev is_paired_at : Stage → Bool
is_paired_at Terminated = true
is_paired_at InitialisedOnce = true
is_paired_at Initialised = true
is_paired_at DrawFree = true
is_paired_at RandomisedOnce = true
is_paired_at _ = false

leads_or : (t : Bool) (o : Option Stage) → o ≡ None → is_some (if t then None else o) ≡ true → ⊥
leads_or true o none on = cc
leads_or false o none on = cc

paired_follows : (b : Block) (xs : List Assignment) (s : Stage) (c : Command) → Follows b xs s c → is_send_twice c ≡ true → is_paired_at s ≡ true
paired_follows b xs (Hunted r last left) (Initialise target) on two = absurd (leads_or (left == 0) None refl on.leads_on)
paired_follows b xs (Hunted r last left) Randomise on two = absurd (leads_or (left == 0) None refl on.leads_on)
paired_follows b xs _ Randomise on two = let leads = on.leads_on in cc
paired_follows b xs _ _ on two = let leads = on.leads_on in cc

unpaired_or : (t : Bool) (o : Option Stage) → is_paired_at (unwrap_or o Over) ≡ false → is_paired_at (unwrap_or (if t then None else o) Over) ≡ false
unpaired_or true o loose = refl
unpaired_or false o loose = loose

unpaired_if : (t : Bool) (s : Stage) → is_paired_at s ≡ false → is_paired_at (unwrap_or (if t then Some s else None) Over) ≡ false
unpaired_if true s loose = loose
unpaired_if false s loose = refl

-- no frame of a pair follows a question whose answer was damaged
unpaired_asked : (s : Stage) (c : Command) → is_question c ≡ true → is_paired_at (next_stage s c Damaged) ≡ false
unpaired_asked (Hunted r last left) Compare asks = unpaired_or (left == 0) _ refl
unpaired_asked (Hunted r last left) (Verify a) asks = unpaired_or (left == 0) _ refl
unpaired_asked (Hunted r last left) QueryShort asks = unpaired_or (left == 0) _ refl
unpaired_asked (Hunted r last left) (RandomByte a part) asks = unpaired_or (left == 0) _ refl
unpaired_asked (HighAsked d high) (RandomByte a Middle) asks = unpaired_if (a == d) _ refl
unpaired_asked (MiddleAsked d bytes) (RandomByte a Low) asks = unpaired_if (a == d) _ refl
unpaired_asked _ (RandomByte a High) asks = refl
unpaired_asked _ _ asks = cc

-- THE WORLD of a run with the gear that there are
abbrev with_gear : World → List Gear → World
with_gear w hs = record w { gear = hs }

abbrev Matches : World → List Gear → Type 0
Matches w hs = Alike (is_paired_at (stage_of w.trace)) w.gear hs

-- what there is, and the world of the run
abbrev IsLed : World → World → Type 0
IsLed v w = (hs : List Gear) × (v ≡ with_gear w hs) × Matches w hs

free_alike : (gs hs : List Gear) → Alike false gs hs → Alike (is_paired_at (stage_of [])) gs hs
free_alike gs hs near = rw stage_none near

unless_alike : (b : Bool) (t : List Entry) (gs hs : List Gear) → Alike (is_paired_at (stage_of t)) gs hs
    → Alike (is_paired_at (stage_of (if b then [] else t))) gs hs
unless_alike true t gs hs near = free_alike gs hs (loosely (is_paired_at (stage_of t)) gs hs near)
unless_alike false t gs hs near = near

running_paired : (b : Bool) (t : List Entry) → is_paired_at (stage_of (if b then t else [])) ≡ true → is_paired_at (stage_of t) ≡ true
running_paired true t e = e
running_paired false t e = absurd (let never : false ≡ true = sym (ap is_paired_at stage_none) ∙ e in cc)

sent_paired : (w : World) (c : ℕ) (f : Forward) → MaySend w c f → is_send_twice (command_of f) ≡ true → is_paired_at (stage_of w.trace) ≡ true
sent_paired w c f may two =
    running_paired (owns w.bus.owner c) w.trace
    (paired_follows (controller_at w c).records.block (controller_at w c).records.reserved (stage_of (trace_running w c)) (command_of f) (follows_of w c f may)
    two)

taken_in : (out : Bool) (reach : Reach) (w : World) (hs : List Gear) (c : ℕ) (f : Forward) → MaySend w c f → Matches w hs → (out ≡ true → reach ≡ Everyone)
    → TakenAlike out reach (command_of f) 0 w.gear hs w.left
taken_in out reach w hs c f may near all =
    taken_alike (is_paired_at (stage_of w.trace)) out reach (command_of f) 0 w.gear hs w.left near (sent_paired w c f may) all

-- WHAT IS ALLOWED of what there is, is allowed in the run
order_same : (w : World) (hs : List Gear) (c : ℕ) (k : Controller) (o : Order) → MayOrder (with_gear w hs) c k o → MayOrder w c k o
order_same w hs c k (Put p f) may = may
order_same w hs c k _ may = may

up_same : (w : World) (hs : List Gear) (c : ℕ) → IsUp (with_gear w hs) c → IsUp w c
up_same w hs c here = record { known = here.known; up = here.up }

allowed_same : (w : World) (hs : List Gear) (e : Event) → Matches w hs → Allowed (with_gear w hs) e → Allowed w e
allowed_same w hs (event.Acted c i o) near here =
    record { up = up_same w hs c here.up; due = here.due; order = order_same w hs c (controller_informed (controller_at w c) i) o here.order }
allowed_same w hs (event.Offered c f) near here = (up_same w hs c here.0, here.1)
allowed_same w hs (event.Sent c f h) near here =
    let taken : TakenAlike false Everyone (command_of f) 0 w.gear hs w.left = taken_in false Everyone w hs c f here.may near (λ o. refl) in
    record {
      up = up_same w hs c here.up;
      may = here.may;
      draws = subst (λ n. n ≤ length w.left) taken.draws_same here.draws;
      heard = subst (λ answers. Hears answers h) taken.answers_same here.heard;
    }
allowed_same w hs (event.Destroyed c f set) near here =
    let taken : TakenAlike false (Only set) (command_of f) 0 w.gear hs w.left = taken_in false (Only set) w hs c f here.may near (λ o. absurd (cc)) in
    record { up = up_same w hs c here.up; may = here.may; draws = subst (λ n. n ≤ length w.left) taken.draws_same here.draws }
allowed_same w hs (event.Collided c f d g) near here = record {
  free = here.free;
  apart = here.apart;
  first_up = up_same w hs c here.first_up;
  second_up = up_same w hs d here.second_up;
  first = here.first;
  second = here.second;
}
allowed_same w hs (event.Foreign f) near here = here
allowed_same w hs (event.Down c) near here = up_same w hs c here
allowed_same w hs (event.Up c kept) near here = (record { known = here.0.known; down = here.0.down }, here.1)
allowed_same w hs _ near here = tt

-- WHAT EACH EVENT LEAVES
pieces : (u : World) (l m : List ℕ) (d e s t : List (ℕ × ℕ)) → l ≡ m → d ≡ e → s ≡ t
    → record u { left = l; drawn = d; gifts = s } ≡ record u { left = m; drawn = e; gifts = t }
pieces u l m d e s t left drawn gifts = rw (left, drawn, gifts) refl

sent_alike : (b : Bool) (t : List Entry) (gs hs : List Gear) → Alike true gs hs → Alike (is_paired_at (stage_of (if b then t else []))) gs hs
sent_alike b t gs hs near = wholly (is_paired_at (stage_of (if b then t else []))) gs hs near

event_led : (w : World) (hs : List Gear) (e : Event) → Allowed w e → Matches w hs → IsLed (happens (with_gear w hs) e) (happens w e)
event_led w hs (event.Acted c i o) here near = (hs, refl, unless_alike (gives_up w.bus c o) w.trace w.gear hs near)
event_led w hs (event.Sent c f h) here near =
    let taken : TakenAlike true Everyone (command_of f) 0 w.gear hs w.left = taken_in true Everyone w hs c f here.may near (λ o. refl) in (
      row_after Everyone (command_of f) 0 hs w.left,
      pieces (record (happens w (event.Sent c f h)) { gear = row_after Everyone (command_of f) 0 hs w.left }) _ _ _ _ _ _
          taken.left_same (ap (λ d. w.drawn ++ d) taken.drawn_same) (ap (λ s. w.gifts ++ s) taken.stored_same),
      sent_alike (goes_on w c (trace_running w c ++ entry f h ∷ [])) (trace_running w c ++ entry f h ∷ []) _ _ taken.gear,
    )
event_led w hs (event.Destroyed c f set) here near =
    let taken : TakenAlike false (Only set) (command_of f) 0 w.gear hs w.left = taken_in false (Only set) w hs c f here.may near (λ o. absurd (cc)) in (
      row_after (Only set) (command_of f) 0 hs w.left,
      pieces (record (happens w (event.Destroyed c f set)) { gear = row_after (Only set) (command_of f) 0 hs w.left }) _ _ _ _ _ _
          taken.left_same (ap (λ d. w.drawn ++ d) taken.drawn_same) (ap (λ s. w.gifts ++ s) taken.stored_same),
      free_alike _ _ taken.gear,
    )
event_led w hs (event.Collided c f d g) here near = (hs, refl, free_alike w.gear hs (loosely _ w.gear hs near))
event_led w hs event.Lapsed here near = (hs, refl, free_alike w.gear hs (loosely _ w.gear hs near))
event_led w hs event.Quiet here near = (map gear_quieted hs, refl, wholly _ _ _ (quieted_alike _ w.gear hs near))
event_led w hs (event.Foreign f) here near = (map gear_interrupted hs, refl, wholly _ _ _ (interrupted_alike _ w.gear hs near))
event_led w hs (event.Power g on) here near =
    (set hs g (gear_powered on (get_or hs g fresh)), refl, changed_alike _ (gear_powered on) (powered_alike _ on) w.gear hs g near)
event_led w hs (event.Expired g) here near =
    (set hs g (gear_expired (get_or hs g fresh)), refl, changed_alike _ gear_expired (expired_alike _) w.gear hs g near)
event_led w hs (event.Down c) here near = (hs, refl, unless_alike (owns w.bus.owner c) w.trace w.gear hs near)
event_led w hs _ here near = (hs, refl, near)

-- A QUESTION THAT WAS DESTROYED and told as damaged: the run has it as sent
told_allowed : (w : World) (hs : List Gear) (c : ℕ) (f : Forward) (set : GearSet) → MayHappen (with_gear w hs) (as_damaged c f set)
    → Allowed w (event.Sent c f Damaged)
told_allowed w hs c f set here = record {
  up = up_same w hs c here.0.up;
  may = here.0.may;
  draws = subst (λ n. n ≤ length w.left) (sym (asked_draws Everyone (command_of f) 0 w.gear here.1)) (omega arith);
  heard = tt;
}

damaged_alike : (b : Bool) (t : List Entry) (f : Forward) (gs hs : List Gear) → is_question (command_of f) ≡ true → Alike false gs hs
    → Alike (is_paired_at (stage_of (if b then t ++ entry f Damaged ∷ [] else []))) gs hs
damaged_alike false t f gs hs asks near = free_alike gs hs near
damaged_alike true t f gs hs asks near = rw (stage_more t (entry f Damaged), unpaired_asked (stage_of t) (command_of f) asks) near

told_led : (w : World) (hs : List Gear) (c : ℕ) (f : Forward) (set : GearSet) → is_question (command_of f) ≡ true → Matches w hs
    → IsLed (happened (with_gear w hs) (as_damaged c f set)) (happens w (event.Sent c f Damaged))
told_led w hs c f set asks near = (
  row_after (Only set) (command_of f) 0 hs w.left,
  pieces (record (happens w (event.Sent c f Damaged)) { gear = row_after (Only set) (command_of f) 0 hs w.left }) _ _ _ _ _ _
      (asked_left (Only set) (command_of f) 0 hs w.left asks ∙ sym (asked_left Everyone (command_of f) 0 w.gear w.left asks))
      (ap (λ d. w.drawn ++ d) (asked_drawn (Only set) (command_of f) 0 hs w.left asks ∙ sym (asked_drawn Everyone (command_of f) 0 w.gear w.left asks)))
      (ap (λ s. w.gifts ++ s) (asked_stored (Only set) (command_of f) 0 hs asks ∙ sym (asked_stored Everyone (command_of f) 0 w.gear asks))),
  damaged_alike (goes_on w c (trace_running w c ++ entry f Damaged ∷ [])) (trace_running w c) f _ _ asks
      (asked_alike _ Everyone (Only set) (command_of f) 0 w.gear hs w.left asks near),
)

-- ALL HAPPENINGS
allowed_told : (w : World) (hs : List Gear) (x : Happening) → MayHappen (with_gear w hs) x → Matches w hs → Allowed w (as_told x)
allowed_told w hs (rightly e) here near = allowed_same w hs e near here
allowed_told w hs (as_damaged c f set) here near = told_allowed w hs c f set here

led : (w : World) (hs : List Gear) (x : Happening) → MayHappen (with_gear w hs) x → Matches w hs → IsLed (happened (with_gear w hs) x) (happens w (as_told x))
led w hs (rightly e) here near = event_led w hs e (allowed_same w hs e near here) near
led w hs (as_damaged c f set) here near = told_led w hs c f set here.1 near

all_led : (w : World) (hs : List Gear) (xs : List Happening) → AllMayHappen (with_gear w hs) xs → Matches w hs
    → AllAllowed w (all_told xs) × IsLed (happened_all (with_gear w hs) xs) (after_all w (all_told xs))
all_led w hs [] all near = (tt, (hs, refl, near))
all_led w hs (x ∷ xs) all near =
    let here = led w hs x all.0 near in
    let rest = all_led (happens w (as_told x)) here.0 xs (subst (λ v. AllMayHappen v xs) here.1 all.1) here.2 in (
      (allowed_told w hs x all.0 near, rest.0),
      subst (λ v. IsLed (happened_all v xs) (after_all (happens w (as_told x)) (all_told xs))) (sym here.1) rest.1,
    )

from_start : (p : Plan) (capacity : ℕ) (xs : List Happening) → IsHistory p capacity xs
    → AllAllowed (start p capacity) (all_told xs) × IsLed (after_happened p capacity xs) (after p capacity (all_told xs))
from_start p capacity xs history = all_led (start p capacity) (start p capacity).gear xs history.may (alike_self _ (start p capacity).gear)

pub told_is_run : (p : Plan) (capacity : ℕ) (xs : List Happening) → IsHistory p capacity xs → IsRun p capacity (all_told xs)
told_is_run p capacity xs history = record { plan = history.plan; allowed = (from_start p capacity xs history).0; leaves = history.leaves }

pub told_world : (p : Plan) (capacity : ℕ) (xs : List Happening) → IsHistory p capacity xs
    → after_quiet (after_happened p capacity xs) ≡ after_quiet (after p capacity (all_told xs))
told_world p capacity xs history =
    let at = (from_start p capacity xs history).1 in
    ap after_quiet at.1 ∙ ap (λ gs. record (after p capacity (all_told xs)) { gear = gs }) (quieted_same _ _ at.0 at.2)

-- THE PROMISE of what there is
alike_length : (b : Bool) (gs hs : List Gear) → Alike b gs hs → length hs ≡ length gs
alike_length b _ _ no_gear = refl
alike_length b _ _ (more g x gs hs same rest) = ap suc (alike_length b gs hs rest)

abbrev SameAddresses : List Gear → List Gear → ℕ → Type 0
SameAddresses gs hs i = ((get_or hs i fresh).short ≡ (get_or gs i fresh).short) × ((get_or hs i fresh).random ≡ (get_or gs i fresh).random)

same_addresses : (b : Bool) (gs hs : List Gear) (i : ℕ) → Alike b gs hs → SameAddresses gs hs i
same_addresses b _ _ i no_gear = (refl, refl)
same_addresses b _ _ zero (more g x gs hs same rest) = (refl, refl)
same_addresses b _ _ (suc i) (more g x gs hs same rest) = same_addresses b gs hs i rest

module _ (b : Bool) (w : World) (hs : List Gear) (near : Alike b w.gear hs) where
  holds_in_run : (g a : ℕ) → HoldsShort (with_gear w hs) g a → HoldsShort w g a
  holds_in_run g a here = (subst (λ n. g < n) (alike_length b w.gear hs near) here.0, sym (same_addresses b w.gear hs g near).0 ∙ here.1)

  holds_there : (g a : ℕ) → HoldsShort w g a → HoldsShort (with_gear w hs) g a
  holds_there g a here = (subst (λ n. g < n) (sym (alike_length b w.gear hs near)) here.0, (same_addresses b w.gear hs g near).0 ∙ here.1)

  promise_there : KeepsPromiseNow w → KeepsPromiseNow (with_gear w hs)
  promise_there kept = record {
    one_gear = λ g h a x y. kept.one_gear g h a (holds_in_run g a x) (holds_in_run h a y);
    tables = λ c pair x. let named = kept.tables c pair x in
        (named.0, holds_there named.0 pair.0 named.1, (same_addresses b w.gear hs named.0 near).1 ∙ named.2);
  }

pub told_promise : (p : Plan) (capacity : ℕ) (xs : List Happening) → IsHistory p capacity xs → KeepsPromiseNow (after_happened p capacity xs)
told_promise p capacity xs history =
    let at = (from_start p capacity xs history).1 in
    let kept = keeps_promise p capacity (all_told xs) (told_is_run p capacity xs history) in
    subst KeepsPromiseNow (sym at.1)
    (promise_there _ (after p capacity (all_told xs)) at.0 at.2 (kept.always (all_told xs) [] (append-nil (all_told xs))))

-- a front of a history is a history
told_both : (xs ys : List Happening) → all_told (xs ++ ys) ≡ all_told xs ++ all_told ys
told_both [] ys = refl
told_both (x ∷ xs) ys = ap (λ es. as_told x ∷ es) (told_both xs ys)

may_front : (w : World) (xs ys : List Happening) → AllMayHappen w (xs ++ ys) → AllMayHappen w xs
may_front w [] ys all = tt
may_front w (x ∷ xs) ys all = (all.0, may_front (happened w x) xs ys all.1)

history_front : (p : Plan) (capacity : ℕ) (xs ys : List Happening) → IsHistory p capacity (xs ++ ys) → IsHistory p capacity xs
history_front p capacity xs ys history = record {
  plan = history.plan;
  may = may_front (start p capacity) xs ys history.may;
  leaves = all_front (LeavesUsed p.used) (all_told xs) (all_told ys) (subst (λ es. AllByRecursion (LeavesUsed p.used) es) (told_both xs ys) history.leaves);
}

keeps_there : (b d : Bool) (v w : World) (gs hs : List Gear) → Alike b v.gear gs → Alike d w.gear hs → KeepsAddresses v w
    → KeepsAddresses (with_gear v gs) (with_gear w hs)
keeps_there b d v w gs hs before now keeps g a here =
    let kept = keeps g a (holds_in_run b v gs before g a here) in (
      holds_there d w hs now g a kept.0,
      (same_addresses d w.gear hs g now).1 ∙ (kept.1 ∙ sym (same_addresses b v.gear gs g before).1),
    )

pub told_ever_after : (p : Plan) (capacity : ℕ) (earlier later : List Happening) → IsHistory p capacity (earlier ++ later)
    → KeepsAddresses (after_happened p capacity earlier) (after_happened p capacity (earlier ++ later))
told_ever_after p capacity earlier later history =
    let before = (from_start p capacity earlier (history_front p capacity earlier later history)).1 in
    let now = (from_start p capacity (earlier ++ later) history).1 in
    let kept = keeps_promise p capacity (all_told (earlier ++ later)) (told_is_run p capacity (earlier ++ later) history) in
    let log : all_told earlier ++ (all_told later ++ []) ≡ all_told (earlier ++ later) =
    ap (λ es. all_told earlier ++ es) (append-nil (all_told later)) ∙ sym (told_both earlier later) in
    let run : KeepsAddresses (after p capacity (all_told earlier)) (after p capacity (all_told (earlier ++ later))) =
    subst (λ es. KeepsAddresses (after p capacity (all_told earlier)) (after p capacity es)) (sym (told_both earlier later))
    (kept.ever_after (all_told earlier) (all_told later) [] log) in
    subst (λ v. KeepsAddresses v (after_happened p capacity (earlier ++ later))) (sym before.1)
    (subst (λ v. KeepsAddresses (with_gear (after p capacity (all_told earlier)) before.0) v) (sym now.1)
    (keeps_there _ _ (after p capacity (all_told earlier)) (after p capacity (all_told (earlier ++ later))) before.0 now.0 before.2 now.2 run))

-- A SENDER THAT GIVES ITS TRANSACTION UP: nothing is otherwise than where it was told that its question was destroyed
nothing_found : (r : SearchAddress) (q : Asked) (c : Command) → found_by r q c Damaged ≡ None
nothing_found r q (RandomByte a High) = refl
nothing_found r q _ = refl

changed_twice : (cs : List Controller) (c : ℕ) (f g : Controller → Controller) → c < length cs
    → controllers_changed (controllers_changed cs c f) c g ≡ set cs c (g (f (get_or cs c nobody)))
changed_twice cs c f g there =
    ap (λ k. set (set cs c (f (get_or cs c nobody))) c (g k)) (get_or-set_same cs c (f (get_or cs c nobody)) nobody there)
    ∙ set-set cs c (f (get_or cs c nobody)) (g (f (get_or cs c nobody)))

told_same : (k : Controller) (t : List Entry) (f : Forward) (o : Order)
    → controller_acted (told_sent t f Damaged k) (input.Heard Damaged) o ≡ controller_acted (told_destroyed f k) input.Destroyed o
told_same k t f o = rw (nothing_found (search_of t) (asked_of t) (command_of f)) refl

bus_given_up : (b : Arbiter) (c : ℕ) (o : Order) (goes : Bool) → keeps_bus o ≡ false → bus_acted (sent_by b c goes) c o ≡ bus_acted (bus_destroyed b) c o
bus_given_up b c o true gives = rw (self c, gives) refl
bus_given_up b c o false gives = refl

trace_given_up : (b : Arbiter) (c : ℕ) (o : Order) (goes : Bool) (t : List Entry) → keeps_bus o ≡ false
    → (if gives_up (sent_by b c goes) c o then [] else if goes then t else []) ≡ []
trace_given_up b c o true t gives = rw (self c, gives) refl
trace_given_up b c o false t gives = refl

pub given_up : (w : World) (c : ℕ) (f : Forward) (set : GearSet) (o : Order) → IsDestroyed w c f set → keeps_bus o ≡ false
    → happens (happened w (as_damaged c f set)) (event.Acted c (input.Heard Damaged) o)
    ≡ happens (happens w (event.Destroyed c f set)) (event.Acted c input.Destroyed o)
given_up w c f set o here gives =
    rw (
      bus_given_up w.bus c o (goes_on w c (trace_running w c ++ entry f Damaged ∷ [])) gives,
      trace_given_up w.bus c o (goes_on w c (trace_running w c ++ entry f Damaged ∷ [])) (trace_running w c ++ entry f Damaged ∷ []) gives,
      changed_twice w.controllers c (told_sent (trace_running w c) f Damaged) (λ k. controller_acted k (input.Heard Damaged) o) here.up.known,
      changed_twice w.controllers c (told_destroyed f) (λ k. controller_acted k input.Destroyed o) here.up.known,
      told_same (controller_at w c) (trace_running w c) f o,
    ) refl
