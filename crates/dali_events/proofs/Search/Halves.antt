use Rattle.std.proofs.Common.{◌≡◌, ℕ, ◌<◌, ◌⊎◌, inl, inr, Bool, true, false, List, [], ◌∷◌, ◌++◌, refl, sym, ap, subst, ◌∙◌, length, get_or, Some, None}
use Rattle.std.proofs.Common.{if◌then◌else◌}
use Rattle.dali_frame.specs.{Random.value_of, declared.{frames.{Answer.Answer, Forward.Forward}, numbers.SearchAddress.SearchAddress}}
use Rattle.dali_special.specs.{Command.command_of, declared.command.Command.{Command, TheVariants.{Terminate, Randomise, SearchHigh, RandomByte, Arc}}}
use Rattle.dali_special.specs.declared.command.Part.TheVariants.{High}
use Rattle.dali_gear.specs.{Gear.{Gear, fresh, half_after, gear_expired, gear_quieted}, Row.{takes, row_after, drawn_of}}
use Rattle.dali_gear.specs.declared.row.Reach.TheVariants.{Everyone}
use Rattle.dali_script.specs.{Records.Assignment, Scripts.IsFirst, Stages.{Follows, stage_of, IsBeforeDraw}, declared.{block.Block.Block, stage.Stage.Stage}}
use Rattle.dali_script.{specs.declared.trace.Entry.Entry, proofs.{Firsts.first_for_all, Members.{Each, each_changed, each_map}, Transactions.stage_none}}
use Rattle.dali_script.proofs.Transactions.{follows_lawful, randomise_at}
use Rattle.dali_events.specs.{Allowed.{Allowed, MaySend}, Events.frame_in, Happens.{happens, trace_running, entry, goes_on, gear_powered, gear_interrupted}}
use Rattle.dali_events.specs.{Plan.Plan, Runs.{after, after_all, AllAllowed, IsRun}, Searching.{EachPowered, EachActive, number_at}, World.{World, gear_at}}
use Rattle.dali_events.{specs.{World.{controller_at, start}, declared.event.Event.Event}, proofs.Invariant.Growing.{after_more, allowed_front, last_allowed}}
use Rattle.dali_events.proofs.Invariant.{Known.{Knows, IsActive, Unnumbered}, Sending.{IsKnown, known_after, lawful_of, follows_of, knows_running}}
use Rattle.dali_events.proofs.Invariant.{Sending.powered_takes, Takes.{Moved, stays, goes, moves_at, row_length}}
use Rattle.dali_script.specs.declared.stage.Stage.TheVariants as stage
use Rattle.dali_events.specs.declared.event.Event.TheVariants as event

-- NO HALF PAIR AFTER A FIRST FRAME
abbrev pub Whole : ℕ → Gear → Type 0
Whole k g = g.powered ≡ true → g.half ≡ None

half_first : (b : Block) (xs : List Assignment) (s : Stage) (c : Command) (g : Gear) → Follows b xs s c → s ≡ stage.Free → half_after c g ≡ None
half_first b xs stage.Free Terminate g on e = refl
half_first b xs stage.Free (SearchHigh high) g on e = refl
half_first b xs stage.Free (RandomByte a High) g on e = refl
half_first b xs stage.Free (Arc f) g on e = refl
half_first b xs _ _ g on e = absurd (let none = on.leads_on in cc)

whole_moved : (c : Command) (ds : List (ℕ × ℕ)) (k : ℕ) (g g' : Gear) → half_after c g ≡ None → Moved Everyone c ds k g g' → Whole k g'
whole_moved c ds k g _ none (stays off) = λ on. absurd (let there : takes Everyone k g ≡ true = powered_takes k g on in cc)
whole_moved c ds k g _ none (goes r there drew) = λ on. none

pub whole_taken : (b : Block) (xs : List Assignment) (s : Stage) (c : Command) (gs : List Gear) (left : List ℕ) → Follows b xs s c → s ≡ stage.Free
    → Each fresh Whole (row_after Everyone c 0 gs left)
whole_taken b xs s c gs left follows e i in_row =
    let there : i < length gs = subst (λ n. i < n) (row_length Everyone c 0 gs left) in_row in
    whole_moved c (drawn_of Everyone c 0 gs left) i (get_or gs i fresh) (get_or (row_after Everyone c 0 gs left) i fresh)
    (half_first b xs s c (get_or gs i fresh) follows e) (moves_at Everyone c gs left i there)

-- while a trace has one frame alone
abbrev Alone : List Entry → List Gear → Type 0
Alone t gs = (x : Entry) → t ≡ x ∷ [] → Each fresh Whole gs

alone_none : (gs : List Gear) → Alone [] gs
alone_none gs x e = absurd (cc)

alone_unless : (b : Bool) (t : List Entry) (gs : List Gear) → Alone t gs → Alone (if b then [] else t) gs
alone_unless true t gs h = alone_none gs
alone_unless false t gs h = h

alone_if : (b : Bool) (t : List Entry) (gs : List Gear) → Alone t gs → Alone (if b then t else []) gs
alone_if true t gs h = h
alone_if false t gs h = alone_none gs

before_one : (t : List Entry) (x y : Entry) → t ++ x ∷ [] ≡ y ∷ [] → t ≡ []
before_one [] x y e = refl
before_one (z ∷ []) x y e = absurd (cc)
before_one (z ∷ u ∷ t) x y e = absurd (cc)

alone_powered : (on : Bool) (k : ℕ) (g : Gear) → Whole k g → Whole k (gear_powered on g)
alone_powered false k g h e = absurd (cc)
alone_powered true k g h e = go (g.powered) h e where
  go : (b : Bool) → (b ≡ true → g.half ≡ None)
      → (if b then g else record g { powered = true; state = fresh.state; search = fresh.search; half = None }).powered ≡ true
      → (if b then g else record g { powered = true; state = fresh.state; search = fresh.search; half = None }).half ≡ None
  go true h e = h refl
  go false h e = refl

stage_free : (t : List Entry) → t ≡ [] → stage_of t ≡ stage.Free
stage_free t e = ap stage_of e ∙ stage_none

alone_step : (w : World) (e : Event) → Allowed w e → Alone w.trace w.gear → Alone (happens w e).trace (happens w e).gear
alone_step w (event.Offered c f) here h = h
alone_step w (event.Sent c f a) here h =
    alone_if (goes_on w c (trace_running w c ++ entry f a ∷ [])) (trace_running w c ++ entry f a ∷ []) (row_after Everyone (command_of f) 0 w.gear w.left)
    (λ x e. whole_taken (controller_at w c).records.block (controller_at w c).records.reserved (stage_of (trace_running w c)) (command_of f) w.gear w.left
    (follows_of w c f here.may)
    (stage_free (trace_running w c) (before_one (trace_running w c) (entry f a) x e)))
alone_step w (event.Destroyed c f set) here h = alone_none _
alone_step w (event.Collided c f d g) here h = alone_none w.gear
alone_step w event.Lapsed here h = alone_none w.gear
alone_step w event.Quiet here h = λ x e. each_map fresh Whole gear_quieted w.gear (λ k g one on. refl) (h x e)
alone_step w (event.Foreign f) here h = λ x e. each_map fresh Whole gear_interrupted w.gear (λ k g one on. rw on refl) (h x e)
alone_step w (event.Power g on) here h = λ x e. each_changed fresh Whole (gear_powered on) w.gear g (λ there one. alone_powered on g (gear_at w g) one) (h x e)
alone_step w (event.Expired g) here h = λ x e. each_changed fresh Whole gear_expired w.gear g (λ there one. one) (h x e)
alone_step w (event.Up c kept) here h = h
alone_step w _ here h = alone_unless _ w.trace w.gear h

alone_all : (w : World) (es : List Event) → AllAllowed w es → Alone w.trace w.gear → Alone (after_all w es).trace (after_all w es).gear
alone_all w [] all h = h
alone_all w (e ∷ es) all h = alone_all (happens w e) es all.1 (alone_step w e all.0 h)

pub no_half_while_one : (p : Plan) (capacity : ℕ) (log : List Event) (x : Entry) → IsRun p capacity log → (after p capacity log).trace ≡ x ∷ []
    → EachPowered (after p capacity log) (λ g. g.half ≡ None)
no_half_while_one p capacity log x run e = alone_all (start p capacity) log run.allowed (alone_none _) x e

-- a frame that may begin a transaction, whoever's trace it is sent in
first_half : (f : Forward) (g : Gear) → IsFirst f → half_after (command_of f) g ≡ None
first_half f g first =
    half_first (record { first = 0; last = 0 }) [] (stage_of []) (command_of f) g
    (follows_lawful (record { first = 0; last = 0 }) [] [] f (first_for_all (record { first = 0; last = 0 }) [] f first)) stage_none

pub no_half_at_first : (p : Plan) (capacity : ℕ) (log : List Event) (c : ℕ) (f : Forward) (a : Answer) → IsRun p capacity (log ++ event.Sent c f a ∷ [])
    → IsFirst f
    → EachPowered (after p capacity (log ++ event.Sent c f a ∷ [])) (λ g. g.half ≡ None)
no_half_at_first p capacity log c f a run first =
    subst (λ w. EachPowered w (λ g. g.half ≡ None)) (sym (after_more (start p capacity) log (event.Sent c f a))) (at (after p capacity log)) where
      at : (w : World) → EachPowered (happens w (event.Sent c f a)) (λ g. g.half ≡ None)
      at w i in_row =
          let there : i < length w.gear = subst (λ n. i < n) (row_length Everyone (command_of f) 0 w.gear w.left) in_row in
          whole_moved (command_of f) (drawn_of Everyone (command_of f) 0 w.gear w.left) i (gear_at w i)
          (get_or (row_after Everyone (command_of f) 0 w.gear w.left) i fresh) (first_half f (gear_at w i) first)
          (moves_at Everyone (command_of f) w.gear w.left i there)

-- RANDOMISE
unnumbered_at : (s : Stage) (g : Gear) → IsBeforeDraw s ⊎ (s ≡ stage.RandomisedOnce) → Knows s g → Unnumbered g
unnumbered_at stage.Initialised g (inl before) k = k
unnumbered_at stage.DrawFree g (inl before) k = k
unnumbered_at _ g (inl before) k = absurd before
unnumbered_at s g (inr e) k = subst (λ x. Knows x g) e k

unnumbered_sent : (w : World) (c : ℕ) (f : Forward) → MaySend w c f → IsKnown w → command_of f ≡ Randomise → EachActive w (λ g. g.short ≡ None)
unnumbered_sent w c f may known is g there on =
    unnumbered_at (stage_of (trace_running w c)) (gear_at w g)
    (randomise_at (controller_at w c).records.block (controller_at w c).records.reserved (trace_running w c) f (lawful_of w c f may) is)
    (knows_running w c known.knows g there on)

unnumbered_in : (w : World) (e : Event) (f : Forward) → Allowed w e → IsKnown w → frame_in e ≡ Some f → command_of f ≡ Randomise
    → EachActive w (λ g. g.short ≡ None)
unnumbered_in w (event.Sent c d h) f here known is command = unnumbered_sent w c d here.may known (ap command_of (let same : d ≡ f = cc in same) ∙ command)
unnumbered_in w (event.Destroyed c d set) f here known is command =
    unnumbered_sent w c d here.may known (ap command_of (let same : d ≡ f = cc in same) ∙ command)
unnumbered_in w _ f here known is command = absurd (cc)

pub no_short_at_randomise : (p : Plan) (capacity : ℕ) (log : List Event) (e : Event) (f : Forward) → IsRun p capacity (log ++ e ∷ []) → frame_in e ≡ Some f
    → command_of f ≡ Randomise
    → EachActive (after p capacity log) (λ g. g.short ≡ None)
no_short_at_randomise p capacity log e f run is command =
    unnumbered_in (after p capacity log) e f (last_allowed p capacity log e run)
    (known_after p capacity run.plan.used log (allowed_front (start p capacity) log (e ∷ []) run.allowed)) is command

-- THE SEARCH ADDRESS
seeks_at : (s : Stage) (g : Gear) (r : SearchAddress) → number_at s ≡ Some r → Knows s g → IsActive g → g.search ≡ r
seeks_at (stage.NumberSent n) g r e k active = k active ∙ (let same : n ≡ r = cc in same)
seeks_at (stage.Hunted n last left) g r e k active = k active ∙ (let same : n ≡ r = cc in same)
seeks_at (stage.Found n b) g r e k active = (k active).0 ∙ (let same : n ≡ r = cc in same)
seeks_at (stage.Unnamed n) g r e k active = (k active).0 ∙ (let same : n ≡ r = cc in same)
seeks_at (stage.Programmed n a) g r e k active = k active ∙ (let same : n ≡ r = cc in same)
seeks_at (stage.Confirmed n a) g r e k active = (k active).0 ∙ (let same : n ≡ r = cc in same)
seeks_at _ g r e k active = absurd (cc)

pub gear_are_searched : (p : Plan) (capacity : ℕ) (log : List Event) (r : SearchAddress) → IsRun p capacity log
    → number_at (stage_of (after p capacity log).trace) ≡ Some r
    → EachActive (after p capacity log) (λ g. g.search ≡ r)
gear_are_searched p capacity log r run e g there on active =
    seeks_at (stage_of (after p capacity log).trace) (gear_at (after p capacity log) g) r e
    ((known_after p capacity run.plan.used log run.allowed).knows g there on) active

pub no_short_while_unnamed : (p : Plan) (capacity : ℕ) (log : List Event) (r : SearchAddress) → IsRun p capacity log
    → stage_of (after p capacity log).trace ≡ stage.Unnamed r
    → EachActive (after p capacity log) (λ g. g.random ≡ value_of r → g.short ≡ None)
no_short_while_unnamed p capacity log r run e g there on active =
    (at (stage_of (after p capacity log).trace) (gear_at (after p capacity log) g) e
    ((known_after p capacity run.plan.used log run.allowed).knows g there on) active) where
      at : (s : Stage) (g : Gear) → s ≡ stage.Unnamed r → Knows s g → IsActive g → g.random ≡ value_of r → g.short ≡ None
      at s g e k active = (subst (λ x. Knows x g) e k active).1
