use Rattle.std.proofs.Common.{◌≡◌, ℕ, ◌<◌, inl, inr, Bool, true, false, List, [], ◌∷◌, ◌++◌, refl, sym, subst, arith, length, get_or, replicate, Option, Some}
use Rattle.std.proofs.{Common.{None, ◌&&◌, ◌==◌, if◌then◌else◌}, lemmas.Bool.Decides.nat_tests}
use Rattle.dali_frame.specs.declared.frames.{Answer.Answer, Forward.Forward}
use Rattle.dali_special.{specs.{Command.{command_of, IsSpelled}, declared.command.Command.Command}, proofs.Table.read_spelled}
use Rattle.dali_gear.specs.{Gear.{Gear, fresh, gear_expired, gear_quieted}, Row.{takes, row_after, drawn_of, answers_of}, declared.row.Reach.Reach}
use Rattle.dali_gear.specs.declared.row.Reach.TheVariants.{Everyone, Only}
use Rattle.dali_arbiter.specs.Arbiter.{owns}
use Rattle.dali_script.specs.{Records.Assignment, Scripts.Lawful, Stages.{Follows, next_stage, stage_of}, declared.{block.Block.Block, stage.Stage.Stage}}
use Rattle.dali_script.{specs.declared.trace.Entry.Entry, proofs.{Firsts.first_for_all, Lists.has_map, Members.{Each, each_changed, each_map}}}
use Rattle.dali_script.proofs.Transactions.{follows_lawful, stage_more, stage_none}
use Rattle.dali_events.specs.{Allowed.{Allowed, MaySend, Hears}, Happens.{happens, trace_running, entry, goes_on, gear_powered, gear_interrupted}, Plan.Plan}
use Rattle.dali_events.specs.{Plan.AreUsed, Runs.{after, after_all, AllAllowed}, Used.with_used, World.{World, gear_at, controller_at, start}}
use Rattle.dali_events.{specs.declared.event.Event.Event, proofs.Invariant.{Answers.{answers_have, heard_byte}, Known.{Knows, Agrees, IsShort, knows_step}}}
use Rattle.dali_events.proofs.Invariant.{Known.{knows_inactive, knows_halved, short_taken}, Starting.{IsUsedOrFresh, row_at, start_count}, Takes.{Moved, stays}}
use Rattle.dali_events.proofs.Invariant.Takes.{goes, moves_at, row_length}
use Rattle.dali_events.specs.declared.event.Event.TheVariants as event

-- A SENDER'S FRAME FOLLOWS the trace that it goes on with
owner_runs : (o : Option ℕ) (c : ℕ) (t : List Entry) → o ≡ Some c → (if owns o c then t else []) ≡ t
owner_runs o c t e = rw (e, self c) refl where
  self : (n : ℕ) → (n == n) ≡ true
  self n = grind (arith, nat_tests)

nobody_runs : (o : Option ℕ) (c : ℕ) (t : List Entry) → o ≡ None → (if owns o c then t else []) ≡ []
nobody_runs o c t e = rw e refl

pub lawful_of : (w : World) (c : ℕ) (f : Forward) → MaySend w c f
    → Lawful (controller_at w c).records.block (controller_at w c).records.reserved (trace_running w c) f
lawful_of w c f (inl may) =
    subst (λ t. Lawful (controller_at w c).records.block (controller_at w c).records.reserved t f) (sym (owner_runs w.bus.owner c w.trace may.0)) may.1
lawful_of w c f (inr may) =
    subst (λ t. Lawful (controller_at w c).records.block (controller_at w c).records.reserved t f) (sym (nobody_runs w.bus.owner c w.trace may.0))
    (first_for_all (controller_at w c).records.block (controller_at w c).records.reserved f may.1)

pub follows_of : (w : World) (c : ℕ) (f : Forward) → MaySend w c f
    → Follows (controller_at w c).records.block (controller_at w c).records.reserved (stage_of (trace_running w c)) (command_of f)
follows_of w c f may = follows_lawful (controller_at w c).records.block (controller_at w c).records.reserved (trace_running w c) f (lawful_of w c f may)

-- WHAT A STAGE SAYS OF ALL GEAR
abbrev pub KnowsAll : Stage → List Gear → Type 0
KnowsAll s gs = Each fresh (λ k g. g.powered ≡ true → Knows s g) gs

abbrev pub ShortAll : List Gear → Type 0
ShortAll gs = Each fresh (λ k g. IsShort g) gs

pub knows_free : (gs : List Gear) → KnowsAll (stage_of []) gs
knows_free gs i h = rw stage_none (λ on. tt)

knows_of : (b : Bool) (t : List Entry) (gs : List Gear) → KnowsAll (stage_of t) gs → KnowsAll (stage_of (if b then t else [])) gs
knows_of true t gs k = k
knows_of false t gs k = knows_free gs

knows_unless : (b : Bool) (t : List Entry) (gs : List Gear) → KnowsAll (stage_of t) gs → KnowsAll (stage_of (if b then [] else t)) gs
knows_unless true t gs k = knows_free gs
knows_unless false t gs k = k

pub knows_running : (w : World) (c : ℕ) → KnowsAll (stage_of w.trace) w.gear → KnowsAll (stage_of (trace_running w c)) w.gear
knows_running w c k = knows_of (owns w.bus.owner c) w.trace w.gear k

pub powered_takes : (k : ℕ) (g : Gear) → g.powered ≡ true → takes Everyone k g ≡ true
powered_takes k g on = rw on refl

pub takes_powered : (reach : Reach) (k : ℕ) (g : Gear) → takes reach k g ≡ true → g.powered ≡ true
takes_powered reach k g e = first (g.powered) _ e where
  first : (a b : Bool) → (a && b) ≡ true → a ≡ true
  first true b e = refl
  first false b e = e

knows_moved : (b : Block) (xs : List Assignment) (s : Stage) (c : Command) (h : Answer) (ds : List (ℕ × ℕ)) (k : ℕ) (g g' : Gear)
    → Follows b xs s c → IsShort g → (g.powered ≡ true → Agrees c g h) → (g.powered ≡ true → Knows s g) → Moved Everyone c ds k g g' → g'.powered ≡ true
    → Knows (next_stage s c h) g'
knows_moved b xs s c h ds k g _ follows small agrees knows (stays off) on = absurd (let there : takes Everyone k g ≡ true = powered_takes k g on in cc)
knows_moved b xs s c h ds k g _ follows small agrees knows (goes r there drew) on = knows_step b xs s c h g r follows small (agrees on) (knows on)

pub knows_taken : (b : Block) (xs : List Assignment) (s : Stage) (c : Command) (h : Answer) (gs : List Gear) (left : List ℕ)
    → Follows b xs s c → ShortAll gs → Hears (answers_of Everyone c 0 gs) h → KnowsAll s gs → KnowsAll (next_stage s c h) (row_after Everyone c 0 gs left)
knows_taken b xs s c h gs left follows small hears knows i in_row =
    let there : i < length gs = subst (λ n. i < n) (row_length Everyone c 0 gs left) in_row in
    knows_moved b xs s c h (drawn_of Everyone c 0 gs left) i (get_or gs i fresh) (get_or (row_after Everyone c 0 gs left) i fresh) follows (small i there)
    (λ on u v is e. heard_byte (answers_of Everyone c 0 gs) h u v hears is (answers_have Everyone c gs i v there (powered_takes i (get_or gs i fresh) on) e))
    (knows i there) (moves_at Everyone c gs left i there)

short_moved : (reach : Reach) (c : Command) (ds : List (ℕ × ℕ)) (k : ℕ) (g g' : Gear) → IsSpelled c → IsShort g → Moved reach c ds k g g' → IsShort g'
short_moved reach c ds k g _ spelled small (stays e) = small
short_moved reach c ds k g _ spelled small (goes r e drew) = short_taken c g r spelled small

pub shorts_taken : (reach : Reach) (c : Command) (gs : List Gear) (left : List ℕ) → IsSpelled c → ShortAll gs → ShortAll (row_after reach c 0 gs left)
shorts_taken reach c gs left spelled small i in_row =
    let there : i < length gs = subst (λ n. i < n) (row_length reach c 0 gs left) in_row in
    short_moved reach c (drawn_of reach c 0 gs left) i (get_or gs i fresh) (get_or (row_after reach c 0 gs left) i fresh) spelled (small i there)
    (moves_at reach c gs left i there)

-- WHAT IS KNOWN OF THE GEAR, at each moment
pub record IsKnown (w : World) : Type 0 where
  pub knows : KnowsAll (stage_of w.trace) w.gear
  pub short : ShortAll w.gear

knows_sent : (w : World) (c : ℕ) (f : Forward) (h : Answer) → Allowed w (event.Sent c f h) → IsKnown w
    → KnowsAll (stage_of (happens w (event.Sent c f h)).trace) (happens w (event.Sent c f h)).gear
knows_sent w c f h here known =
    knows_of (goes_on w c (trace_running w c ++ entry f h ∷ [])) (trace_running w c ++ entry f h ∷ []) (row_after Everyone (command_of f) 0 w.gear w.left)
    (subst (λ s. KnowsAll s (row_after Everyone (command_of f) 0 w.gear w.left)) (sym (stage_more (trace_running w c) (entry f h)))
    (knows_taken (controller_at w c).records.block (controller_at w c).records.reserved (stage_of (trace_running w c)) (command_of f) h w.gear w.left
    (follows_of w c f here.may) known.short here.heard (knows_running w c known.knows)))

knows_powered : (s : Stage) (on : Bool) (g : Gear) → (g.powered ≡ true → Knows s g) → (gear_powered on g).powered ≡ true → Knows s (gear_powered on g)
knows_powered s false g k e = absurd (cc)
knows_powered s true g k e = go (g.powered) k e where
  go : (b : Bool) → (b ≡ true → Knows s g)
      → (if b then g else record g { powered = true; state = fresh.state; search = fresh.search; half = None }).powered ≡ true
      → Knows s (if b then g else record g { powered = true; state = fresh.state; search = fresh.search; half = None })
  go true k e = k refl
  go false k e = knows_inactive s (record g { powered = true; state = fresh.state; search = fresh.search; half = None }) refl

short_powered : (on : Bool) (g : Gear) → IsShort g → IsShort (gear_powered on g)
short_powered false g small = small
short_powered true g small = go (g.powered) where
  go : (b : Bool) → IsShort (if b then g else record g { powered = true; state = fresh.state; search = fresh.search; half = None })
  go true = small
  go false = small

pub known_step : (w : World) (e : Event) → Allowed w e → IsKnown w → IsKnown (happens w e)
known_step w (event.Offered c f) here known = record { knows = known.knows; short = known.short }
known_step w (event.Sent c f h) here known =
    record { knows = knows_sent w c f h here known; short = shorts_taken Everyone (command_of f) w.gear w.left (read_spelled f) known.short }
known_step w (event.Destroyed c f set) here known =
    record { knows = knows_free _; short = shorts_taken (Only set) (command_of f) w.gear w.left (read_spelled f) known.short }
known_step w (event.Collided c f d g) here known = record { knows = knows_free w.gear; short = known.short }
known_step w event.Lapsed here known = record { knows = knows_free w.gear; short = known.short }
known_step w event.Quiet here known = record {
  knows = each_map fresh (λ k g. g.powered ≡ true → Knows (stage_of w.trace) g) gear_quieted w.gear
      (λ k g h on. knows_halved (stage_of w.trace) g None (h on)) known.knows;
  short = each_map fresh (λ k g. IsShort g) gear_quieted w.gear (λ k g h. h) known.short;
}
known_step w (event.Foreign f) here known = record {
  knows = each_map fresh (λ k g. g.powered ≡ true → Knows (stage_of w.trace) g) gear_interrupted w.gear
      (λ k g h on. knows_halved (stage_of w.trace) g (if g.powered then None else g.half) (h on)) known.knows;
  short = each_map fresh (λ k g. IsShort g) gear_interrupted w.gear (λ k g h. h) known.short;
}
known_step w (event.Power g on) here known = record {
  knows = each_changed fresh (λ k g. g.powered ≡ true → Knows (stage_of w.trace) g) (gear_powered on) w.gear g
      (λ there h. knows_powered (stage_of w.trace) on (gear_at w g) h) known.knows;
  short = each_changed fresh (λ k g. IsShort g) (gear_powered on) w.gear g (λ there h. short_powered on (gear_at w g) h) known.short;
}
known_step w (event.Expired g) here known = record {
  knows = each_changed fresh (λ k g. g.powered ≡ true → Knows (stage_of w.trace) g) gear_expired w.gear g
      (λ there h on. knows_inactive (stage_of w.trace) (gear_expired (gear_at w g)) refl) known.knows;
  short = each_changed fresh (λ k g. IsShort g) gear_expired w.gear g (λ there h. h) known.short;
}
known_step w (event.Up c kept) here known = record { knows = known.knows; short = known.short }
known_step w _ here known = record { knows = knows_unless _ w.trace w.gear known.knows; short = known.short }

pub known_start : (p : Plan) (capacity : ℕ) → AreUsed p → IsKnown (start p capacity)
known_start p capacity is = record { knows = knows_free _; short = λ g h. at g (row_at p g (subst (λ n. g < n) (start_count p) h)) } where
  at : (g : ℕ) → IsUsedOrFresh p g → IsShort (get_or (with_used (replicate p.gear fresh) p.used) g fresh)
  at g (inl k) = rw k.3 (λ a e. subst (λ n. n < 64) (let same : k.0.short ≡ a = cc in same) (is.short k.0.short (has_map (λ u. u.short) p.used k.0 k.1)))
  at g (inr k) = rw k (λ a e. absurd (cc))

pub known_all : (w : World) (es : List Event) → AllAllowed w es → IsKnown w → IsKnown (after_all w es)
known_all w [] all known = known
known_all w (e ∷ es) all known = known_all (happens w e) es all.1 (known_step w e all.0 known)

pub known_after : (p : Plan) (capacity : ℕ) → AreUsed p → (es : List Event) → AllAllowed (start p capacity) es → IsKnown (after p capacity es)
known_after p capacity is es all = known_all (start p capacity) es all (known_start p capacity is)
