use Rattle.dali_progress.proofs.Below.{◌≡◌, ◌⊎◌, ℕ, ◌+◌, ◌*◌, ◌<◌, ◌≤◌, inl, inr, Bool, true, false, zero, suc, List, [], ◌∷◌, refl, sym, ap, subst, ◌∙◌, arith}
use Rattle.dali_progress.proofs.Below.{length, length-set, get_or-set_same, Option, Some, None, count_by, Gear, Has, InBlock, Block, Machine, at_first}
use Rattle.dali_progress.proofs.Below.{AllFound, block_at, Allowed, KeepsAddresses, HasShort, OfPowered, MASK24, gear_of, gear_at, is_bare, happens, gone_down}
use Rattle.dali_progress.proofs.Below.{come_up, controller_at, nobody, World, Controller, start, Event, machine_in, machines_at, machines_after, Beginning}
use Rattle.dali_progress.proofs.Below.{BeginsAlone, by_survey, End, Rounds, HasEnded, site_after, SiteState, world, site_logged, machines, records_now}
use Rattle.dali_progress.proofs.Below.{table_at, IsUnseen, IsAlone, BySurvey, frames, most_frames, bare, bus_silenced, owns, Arbiter, holds_after}
use Rattle.dali_progress.proofs.{Below.{if◌then◌else◌, IsSettledOn}, Beginnings.{IsAfter, after, bounded, named}, Gives.{Gives, gives_self, gives_then}}
use Rattle.dali_progress.proofs.{Gives.bare_fewer, Lone.ended_rests, Logged.{world_logged, run_logged, machines_logged, block_now}, Survey.Goes.EndsBy}
use Rattle.dali_progress.proofs.Survey.{Vacant.{IsOver, over, full_held, fewer_left, planned, IsHeld, held_on}, Stands.SurveyEnds, Woken.{all_short, none_bare}}
use Rattle.dali_progress.specs.InTurn.{IsStill, Turn, brought, surveyed, left_by, TakesTurn, TakeTurns, after_turns, turn_frames, HasFoundAll, IsOfTurns}
use Rattle.{dali_progress.specs.InTurn.{HaveVacant, AllAreNamed, AreSettledOn}, std.proofs.lemmas.List.length-map, dali_events.specs.Happens.owner_told}
use Rattle.{dali_events.specs.{Laws.TablesAgree, Runs.after_all, World.controller_begun}, dali_world.{proofs.Logs.agreeing_now, specs.Site.machines_all}}
use Rattle.dali_events.specs.declared.event.Event.TheVariants as event

-- CONTROLLERS SURVEY ONE AFTER THE OTHER, each alone and undisturbed to its end.

-- ---------------------------------------------------------------- as many machines as controllers

event_count : (w : World) (e : Event) → length (happens w e).controllers ≡ length w.controllers
event_count w (event.Acted c i o) = length-set w.controllers c _
event_count w (event.Sent c f h) = length-set w.controllers c _
event_count w (event.Destroyed c f group) = length-set w.controllers c _
event_count w (event.Collided c f d g) = length-set _ d _ ∙ length-set w.controllers c _
event_count w event.Lapsed = go w.bus.owner where
  go : (o : Option ℕ) → length (owner_told w.controllers o) ≡ length w.controllers
  go None = refl
  go (Some c) = length-set w.controllers c _
event_count w (event.Down c) = length-set w.controllers c _
event_count w (event.Up c kept) = length-set w.controllers c _
event_count w _ = refl

machine_count : (w : World) (ms : List (Option Machine)) (e : Event) → length (machines_after w ms e) ≡ length ms
machine_count w ms (event.Acted c i o) = length-set ms c _
machine_count w ms (event.Down c) = length-set ms c _
machine_count w ms (event.Up c kept) = length-set ms c _
machine_count w ms _ = refl

all_count : (w : World) (ms : List (Option Machine)) (es : List Event) → length ms ≡ length w.controllers
    → length (machines_all w ms es) ≡ length (after_all w es).controllers
all_count w ms [] same = same
all_count w ms (e ∷ es) same = all_count (happens w e) (machines_after w ms e) es (machine_count w ms e ∙ same ∙ sym (event_count w e))

first_count : (c : ℕ) (bs : List Block) → length (machines_at c bs) ≡ length bs
first_count c [] = refl
first_count c (b ∷ bs) = ap suc (first_count (c + 1) bs)

site_count : (s : SiteState) → length (machines s) ≡ length (world s).controllers
site_count s =
    all_count (start s.plan s.queue) (machines_at 0 s.plan.blocks) s.log (first_count 0 s.plan.blocks ∙ sym (length-map s.plan.blocks controller_begun))

-- ---------------------------------------------------------------- one comes up

pub comes_alone : (s : SiteState) (c : ℕ) (kept : Bool) → IsStill s → Allowed (world s) (event.Up c kept) → IsAlone (site_logged s (event.Up c kept)) c
comes_alone s c kept still up = record {
  run = run_logged s (event.Up c kept) still.run up (λ d i a n e has. cc);
  up = record {
    known = subst (λ n. c < n) (sym (ap (λ (w : World). length w.controllers) (world_logged s (event.Up c kept)) ∙ event_count (world s) (event.Up c kept)))
        up.0.known;
    up = ap (λ (k : Controller). k.up) there;
  };
  told = ap (λ (k : Controller). k.told) there;
  last = ap (λ (k : Controller). k.last) there;
  machine = ap (λ ms. machine_in ms c) (machines_logged s (event.Up c kept))
      ∙ get_or-set_same (machines s) c (Some (at_first c (come_up kept (controller_at (world s) c)).records)) None
      (subst (λ n. c < n) (sym (site_count s)) up.0.known) ∙ ap (λ (k : Controller). Some (at_first c k.records)) (sym there);
  bus = ap (λ (w : World). w.bus) (world_logged s (event.Up c kept)) ∙ still.bus;
  trace = ap (λ (w : World). w.trace) (world_logged s (event.Up c kept)) ∙ still.trace;
} where
  there : controller_at (world (site_logged s (event.Up c kept))) c ≡ come_up kept (controller_at (world s) c)
  there = ap (λ w. controller_at w c) (world_logged s (event.Up c kept))
      ∙ get_or-set_same (world s).controllers c (come_up kept (controller_at (world s) c)) nobody up.0.known

-- once it has ended nothing waits
pub ended_still : (b : Beginning) (s : SiteState) (c : ℕ) (es : List Event) (e : End) → BeginsAlone b s c → Rounds (by_survey b) s c es
    → HasEnded (site_after s es) c e → IsStill (site_after s es)
ended_still b s c es e alone rounds ended =
    let t : SiteState = site_after s es in
    let k : Controller = controller_at (world t) c in
    let now : IsAfter t c = after b s c es alone rounds in
    let rests = ended_rests (world t) t.queue c now.machine k.outstanding k.last k.told e ended now.lone.moment in
    record { run = now.run; bus = rests.0.0; trace = rests.0.1 }

-- ---------------------------------------------------------------- one turn

-- all short addresses, of whichever block
abbrev all_shorts : Block
all_shorts = record { first = 0; last = 63 }

widely : (b : Block) (gs hs : List Gear) → ((a : ℕ) → InBlock b a → a < 64) → Gives b gs hs → Gives all_shorts gs hs
widely b gs hs small gives =
    record { count = gives.count; power = gives.power; short = gives.short; number = gives.number; given = λ k a h is. go k a (gives.given k a h is) } where
      go : (k a : ℕ) → ((gear_of gs k).short ≡ Some a) ⊎ (((gear_of gs k).powered ≡ true) × ((gear_of gs k).short ≡ None) × InBlock b a)
          → ((gear_of gs k).short ≡ Some a) ⊎ (((gear_of gs k).powered ≡ true) × ((gear_of gs k).short ≡ None) × InBlock all_shorts a)
      go k a (inl had) = inl had
      go k a (inr new) = let less : a < 64 = small a new.2 in inr (new.0, new.1, (omega arith, omega (arith, less)))

up_gear : (s : SiteState) (t : Turn) → (world (brought s t)).gear ≡ (world s).gear
up_gear s t = ap (λ (w : World). w.gear) (world_logged s (event.Up t.controller t.kept))

down_gear : (s : SiteState) (t : Turn) → (world (left_by s t)).gear ≡ (world (surveyed s t)).gear
down_gear s t = ap (λ (w : World). w.gear) (world_logged (surveyed s t) (event.Down t.controller))

begins : (s : SiteState) (t : Turn) → IsStill s → TakesTurn s t → IsAlone (brought s t) t.controller
begins s t still turn = comes_alone s t.controller t.kept still turn.up

turn_over : (s : SiteState) (t : Turn) → IsStill s → TakesTurn s t → IsOver (brought s t) t.controller t.rounds t.end
turn_over s t still turn = over (brought s t) t.controller t.rounds t.end (begins s t still turn) turn.rounds turn.ended

turn_still : (s : SiteState) (t : Turn) → IsStill s → TakesTurn s t → IsStill (left_by s t)
turn_still s t still turn = record {
  run = run_logged (surveyed s t) (event.Down t.controller) by.run by.up (λ d i a n e has. cc);
  bus = ap (λ (w : World). w.bus) (world_logged (surveyed s t) (event.Down t.controller)) ∙ ap (λ b. bus_silenced b t.controller) by.rests.0 ∙ refl;
  trace = ap (λ (w : World). w.trace) (world_logged (surveyed s t) (event.Down t.controller))
      ∙ ap (λ (b : Arbiter). if owns b.owner t.controller then [] else (world (surveyed s t)).trace) by.rests.0 ∙ by.rests.1;
} where
  by : EndsBy (brought s t) (surveyed s t) t.controller t.end
  by = (turn_over s t still turn).by

turn_gives : (s : SiteState) (t : Turn) → IsStill s → TakesTurn s t → Gives all_shorts (world s).gear (world (left_by s t)).gear
turn_gives s t still turn =
    subst (λ gs. Gives all_shorts gs (world (left_by s t)).gear) (up_gear s t)
    (subst (λ hs. Gives all_shorts (world (brought s t)).gear hs) (sym (down_gear s t))
    (widely (block_at (brought s t).plan t.controller) (world (brought s t)).gear (world (surveyed s t)).gear small (turn_over s t still turn).gives)) where
      alone : IsAlone (brought s t) t.controller
      alone = begins s t still turn

      small : (a : ℕ) → InBlock (block_at (brought s t).plan t.controller) a → a < 64
      small a has =
          block_now (brought s t) t.controller alone.run alone.up a
          (subst (λ b. InBlock b a) (sym ((records_now s.plan s.queue (brought s t).log alone.run).block t.controller alone.up.known)) has)

-- its table names all that are to be seen
pub turn_named : (s : SiteState) (t : Turn) → IsStill s → TakesTurn s t → AllAreNamed (table_at (left_by s t) t.controller) (world (left_by s t)).gear
turn_named s t still turn =
    subst (λ gs. AllAreNamed (table_at (left_by s t) t.controller) gs) (sym (down_gear s t))
    (subst (λ xs. AllAreNamed xs (world (surveyed s t)).gear) (sym table) (λ k there on a short drew. go k a there on drew
    (named BySurvey (brought s t) t.controller t.rounds t.end (begins s t still turn) turn.rounds turn.ended k a there (small k a there short) short)))
  where
    now : IsOver (brought s t) t.controller t.rounds t.end
    now = turn_over s t still turn

    table : table_at (left_by s t) t.controller ≡ table_at (surveyed s t) t.controller
    table =
        ap (λ w. (controller_at w t.controller).records.enrolled) (world_logged (surveyed s t) (event.Down t.controller))
        ∙ ap (λ (k : Controller). k.records.enrolled)
        (get_or-set_same (world (surveyed s t)).controllers t.controller (gone_down (controller_at (world (surveyed s t)) t.controller)) nobody now.by.up.known)

    small : (k a : ℕ) → k < length (world (surveyed s t)).gear → (gear_of (world (surveyed s t)).gear k).short ≡ Some a → a < 64
    small k a there short = (holds_after (surveyed s t).plan (surveyed s t).queue (surveyed s t).log now.by.run).known.short k there a short

    go : (k a : ℕ) → k < length (world (surveyed s t)).gear → (gear_of (world (surveyed s t)).gear k).powered ≡ true
        → ((gear_of (world (surveyed s t)).gear k).random ≡ MASK24 → ⊥)
        → Has (table_at (surveyed s t) t.controller) (a, (gear_of (world (surveyed s t)).gear k).random)
        ⊎ (((gear_at (world (brought s t)) k).short ≡ Some a) × IsUnseen (gear_at (world (brought s t)) k))
        → Has (table_at (surveyed s t) t.controller) (a, (gear_of (world (surveyed s t)).gear k).random)
    go k a there on drew (inl has) = has
    go k a there on drew (inr (had, inl off)) = absurd (let both : true ≡ false = sym on ∙ now.gives.power k within ∙ off in cc) where
      within : k < length (world (brought s t)).gear
      within = subst (λ n. k < n) now.gives.count there
    go k a there on drew (inr (had, inr none)) = absurd (drew (now.gives.number k a within had ∙ none)) where
      within : k < length (world (brought s t)).gear
      within = subst (λ n. k < n) now.gives.count there

-- ---------------------------------------------------------------- one after the other

pub turns_still : (s : SiteState) (ts : List Turn) → IsStill s → TakeTurns s ts → IsStill (after_turns s ts)
turns_still s [] still turns = still
turns_still s (t ∷ ts) still turns = turns_still (left_by s t) ts (turn_still s t still turns.0) turns.1

turns_give : (s : SiteState) (ts : List Turn) → IsStill s → TakeTurns s ts → Gives all_shorts (world s).gear (world (after_turns s ts)).gear
turns_give s [] still turns = gives_self all_shorts (world s).gear
turns_give s (t ∷ ts) still turns =
    gives_then all_shorts (world s).gear (world (left_by s t)).gear (world (after_turns s (t ∷ ts))).gear (turn_gives s t still turns.0)
    (turns_give (left_by s t) ts (turn_still s t still turns.0) turns.1)

pub turns_keep : (s : SiteState) (ts : List Turn) → IsStill s → TakeTurns s ts → KeepsAddresses (world s) (world (after_turns s ts))
turns_keep s ts still turns k a (there, short) =
    let gives : Gives all_shorts (world s).gear (world (after_turns s ts)).gear = turns_give s ts still turns in
    ((subst (λ n. k < n) (sym gives.count) there, gives.short k a there short), gives.number k a there short)

-- no more frames than for each turn alone
pub turns_bounded : (s : SiteState) (ts : List Turn) → IsStill s → TakeTurns s ts → turn_frames ts ≤ length ts * most_frames BySurvey (bare s)
turns_bounded s [] still turns = omega arith
turns_bounded s (t ∷ ts) still turns =
    sum (frames t.rounds) (turn_frames ts) (length ts) (bare s) (bare (left_by s t))
    (subst (λ (gs : List Gear). frames t.rounds ≤ most_frames BySurvey (count_by is_bare gs)) (up_gear s t)
    (bounded BySurvey (brought s t) t.controller t.rounds (begins s t still turns.0) turns.0.rounds))
    (turns_bounded (left_by s t) ts (turn_still s t still turns.0) turns.1)
    (bare_fewer all_shorts (world s).gear (world (left_by s t)).gear (turn_gives s t still turns.0)) where
      times : (k m n : ℕ) → m ≤ n → k * m ≤ k * n
      times zero m n less = omega arith
      times (suc k) m n less = let rest : k * m ≤ k * n = times k m n less in omega (arith, rest, less)

      sum : (one more k n m : ℕ) → one ≤ 106 * n + 258 → more ≤ k * (106 * m + 258) → m ≤ n → one + more ≤ suc k * (106 * n + 258)
      sum one more k n m first rest less =
          let up : k * (106 * m + 258) ≤ k * (106 * n + 258) = times k (106 * m + 258) (106 * n + 258) (omega (arith, less)) in
          omega (arith, first, rest, up)

-- ---------------------------------------------------------------- all gear have an address

powered_on : (b : Block) (gs hs : List Gear) → Gives b gs hs → OfPowered gs HasShort → OfPowered hs HasShort
powered_on b gs hs gives all k there on =
    let within : k < length gs = subst (λ n. k < n) gives.count there in
    let has = all k within (sym (gives.power k within) ∙ on) in (has.0, gives.short k has.0 within has.1)

turn_found : (s : SiteState) (t : Turn) → IsStill s → TakesTurn s t → t.end ≡ AllFound → OfPowered (world (left_by s t)).gear HasShort
turn_found s t still turn found =
    let m : Machine = (turn_over s t still turn).by.machine in
    subst (λ gs. OfPowered gs HasShort) (sym (down_gear s t))
    (subst (λ e. SurveyEnds e m.kept m.heard (world (surveyed s t)).gear) found (turn_over s t still turn).by.well)

pub turns_found : (s : SiteState) (ts : List Turn) → IsStill s → TakeTurns s ts → HasFoundAll ts → OfPowered (world (after_turns s ts)).gear HasShort
turns_found s [] still turns found = absurd found
turns_found s (t ∷ ts) still turns (inl now) =
    powered_on all_shorts (world (left_by s t)).gear (world (after_turns s (t ∷ ts))).gear
    (turns_give (left_by s t) ts (turn_still s t still turns.0) turns.1) (turn_found s t still turns.0 now)
turns_found s (t ∷ ts) still turns (inr later) = turns_found (left_by s t) ts (turn_still s t still turns.0) turns.1 later

-- if some gear is left, gear have each address of the blocks
turn_held : (s : SiteState) (t : Turn) → IsStill s → TakesTurn s t → OfPowered (world (left_by s t)).gear HasShort
    ⊎ ((a : ℕ) → InBlock (block_at s.plan t.controller) a → IsSettledOn (brought s t) t.controller a → IsHeld (world (left_by s t)).gear a)
turn_held s t still turn =
    elim (full_held (brought s t) t.controller t.rounds t.end (begins s t still turn) turn.rounds turn.ended) [
      | inl all ↦ inl (subst (λ gs. OfPowered gs HasShort) (sym (down_gear s t)) all.1)
      | inr full ↦ inr (λ a has settled. subst (λ gs. IsHeld gs a) (sym (down_gear s t)) (full.1 a has settled))
    ]

turns_held : (s : SiteState) (ts : List Turn) (a : ℕ) → IsStill s → TakeTurns s ts → AreSettledOn s ts a → 0 < bare (after_turns s ts) → IsOfTurns s.plan ts a
    → IsHeld (world (after_turns s ts)).gear a
turns_held s [] a still turns settled some of = absurd of
turns_held s (t ∷ ts) a still turns settled some (inl within) = go (turn_held s t still turns.0) where
  gives : Gives all_shorts (world (left_by s t)).gear (world (after_turns s (t ∷ ts))).gear
  gives = turns_give (left_by s t) ts (turn_still s t still turns.0) turns.1

  go : OfPowered (world (left_by s t)).gear HasShort
      ⊎ ((b : ℕ) → InBlock (block_at s.plan t.controller) b → IsSettledOn (brought s t) t.controller b → IsHeld (world (left_by s t)).gear b)
      → IsHeld (world (after_turns s (t ∷ ts))).gear a
  go (inl all) =
      let none : bare (after_turns s (t ∷ ts)) ≡ 0 =
      none_bare (world (after_turns s (t ∷ ts))).gear (powered_on all_shorts (world (left_by s t)).gear (world (after_turns s (t ∷ ts))).gear gives all) in
      absurd (omega (arith, none, some))
  go (inr held) = held_on all_shorts (world (left_by s t)).gear (world (after_turns s (t ∷ ts))).gear a gives (held a within settled.0)
turns_held s (t ∷ ts) a still turns settled some (inr later) =
    turns_held (left_by s t) ts a (turn_still s t still turns.0) turns.1 settled.1 some
    (subst (λ p. IsOfTurns p ts a) (sym (planned (λ p. p ≡ s.plan) t.rounds (brought s t) refl)) later)

-- WITH ADDRESSES ENOUGH in all blocks together, all gear get one
pub turns_enough : (s : SiteState) (ts : List Turn) → IsStill s → TakeTurns s ts → HaveVacant s ts → OfPowered (world (after_turns s ts)).gear HasShort
turns_enough s ts still turns vacant = all_short (world (after_turns s ts)).gear (none (bare (after_turns s ts)) refl) where
  fewer : 0 < bare (after_turns s ts) → bare (after_turns s ts) + length vacant.addresses ≤ bare s
  fewer some =
      fewer_left all_shorts (world s).gear (world (after_turns s ts)).gear vacant.addresses (turns_give s ts still turns) vacant.once
      (λ a has k there short. vacant.vacant a has k (there, short)) (λ a has. turns_held s ts a still turns (vacant.settled a has) some (vacant.within a has))

  none : (n : ℕ) → bare (after_turns s ts) ≡ n → bare (after_turns s ts) ≡ 0
  none zero is = is
  none (suc n) is =
      let left : bare (after_turns s ts) + length vacant.addresses ≤ bare s = fewer (omega (arith, is)) in
      let enough : bare s ≤ length vacant.addresses = vacant.enough in
      absurd (omega (arith, is, left, enough))

-- no two tables contradict each other
pub turns_agree : (s : SiteState) (ts : List Turn) → IsStill s → TakeTurns s ts → TablesAgree (world (after_turns s ts))
turns_agree s ts still turns = let t : SiteState = after_turns s ts in agreeing_now t.plan t.queue t.log (turns_still s ts still turns).run
