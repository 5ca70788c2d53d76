use Rattle.dali_progress.proofs.Below.{◌≡◌, ℕ, ◌<◌, zero, suc, List, [], ◌∷◌, refl, ap, ◌∙◌, arith, length, get_or, get_or-set_same, Option, Some, None, subst}
use Rattle.dali_progress.proofs.Below.{slice_index_or, option_map, IsKept, InBlock, Block, Input, Order, Machine, machine_after, Allowed, IsUp, happens, Plan}
use Rattle.dali_progress.proofs.Below.{IsPlan, no_block, IsRun, AreDrawn, LeavesUsed, controller_at, start, Event, are_drawn, draws_after, after_more, run_more}
use Rattle.dali_progress.proofs.Below.{machine_in, machines_at, machines_after, SiteState, opened_site, world, site_logged, machines, machine_at, machines_more}
use Rattle.dali_progress.proofs.Below.{records_now, ByStart, BeginsAlone}
use Rattle.dali_events.specs.declared.event.Event.TheVariants as event

-- A NEW SITE, and a site with one event more.

-- a new site of one controller is one on which it may start alone
pub begins_new : (p : Plan) (queue room : ℕ) (k : Block) → IsPlan p → p.blocks ≡ k ∷ [] → BeginsAlone ByStart (opened_site p queue room) 0
begins_new p queue room k plan one = (
  record {
    run = record { plan = plan; allowed = tt; leaves = tt };
    up = record { known = rw one (omega arith); up = rw one refl };
    told = rw one refl;
    last = rw one refl;
    machine = rw one refl;
    bus = refl;
    trace = refl;
  },
  rw one refl,
)

pub world_logged : (s : SiteState) (e : Event) → world (site_logged s e) ≡ happens (world s) e
world_logged s e = after_more (start s.plan s.queue) s.log e

pub run_logged : (s : SiteState) (e : Event) → IsRun s.plan s.queue s.log → Allowed (world s) e → LeavesUsed s.plan.used e
    → IsRun s.plan s.queue (site_logged s e).log
run_logged s e run here leaves = run_more s.plan s.queue s.log e run here leaves

pub machines_logged : (s : SiteState) (e : Event) → machines (site_logged s e) ≡ machines_after (world s) (machines s) e
machines_logged s e = machines_more (start s.plan s.queue) (machines_at 0 s.plan.blocks) s.log e

pub some_within : (ms : List (Option Machine)) (c : ℕ) (m : Machine) → get_or ms c None ≡ Some m → c < length ms
some_within [] c m is = absurd (cc)
some_within (x ∷ ms) zero m is = omega arith
some_within (x ∷ ms) (suc c) m is = let inside : c < length ms = some_within ms c m is in omega (arith, inside)

pub acted_machine : (s : SiteState) (c : ℕ) (i : Input) (o : Order) (m : Machine) → machine_at s c ≡ Some m
    → machine_at (site_logged s (event.Acted c i o)) c ≡ Some (machine_after m i o)
acted_machine s c i o m there =
    ap (λ ms. machine_in ms c) (machines_logged s (event.Acted c i o)) ∙ get_or-set_same (machines s) c
    (option_map (λ n. machine_after n i o) (machine_in (machines s) c)) None (some_within (machines s) c m there)
    ∙ ap (option_map (λ n. machine_after n i o)) there

pub drawn_now : (s : SiteState) → IsRun s.plan s.queue s.log → AreDrawn (world s)
drawn_now s run = are_drawn s.plan (world s) run.plan (draws_after s.plan s.queue s.log)

pub kept_now : (s : SiteState) (c : ℕ) → IsRun s.plan s.queue s.log → IsUp (world s) c → IsKept (controller_at (world s) c).records
kept_now s c run up = (records_now s.plan s.queue s.log run).kept c up.known

-- the addresses of its block are short addresses
within_block : (bs : List Block) (c a : ℕ) → ((i : ℕ) → i < length bs → InBlock (slice_index_or bs i no_block) a → a < 64)
    → InBlock (slice_index_or bs c no_block) a → a < 64
within_block [] c a all within = absurd (omega (arith, within.0, within.1))
within_block (b ∷ bs) zero a all within = all 0 (omega arith) within
within_block (b ∷ bs) (suc c) a all within = within_block bs c a (λ i there. all (suc i) (omega (arith, there))) within

pub block_now : (s : SiteState) (c : ℕ) → IsRun s.plan s.queue s.log → IsUp (world s) c → (a : ℕ) → InBlock (controller_at (world s) c).records.block a → a < 64
block_now s c run up a within =
    within_block s.plan.blocks c a (λ i there in_block. run.plan.short i a there in_block)
    (subst (λ b. InBlock b a) ((records_now s.plan s.queue s.log run).block c up.known) within)

pub same_some : (x : Option Machine) (m n : Machine) → x ≡ Some m → x ≡ Some n → m ≡ n
same_some x m n one two = cc
