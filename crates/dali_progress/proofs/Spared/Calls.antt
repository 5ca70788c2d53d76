use Rattle.dali_progress.proofs.Below.{◌≡◌, ℕ, ◌+◌, ◌<◌, ◌≤◌, ◌⊎◌, inl, inr, Bool, true, false, List, [], ◌∷◌, refl, sym, ap, subst, ◌∙◌, arith, zero, suc}
use Rattle.dali_progress.proofs.Below.{Option, Some, None, get_or, get_or-set_same, get_or-set_other, map, ◌==◌, ◌&&◌, if◌then◌else◌, nat_tests, AllByRecursion}
use Rattle.dali_progress.proofs.Below.{option_map, Answer, Silence, Forward, command_of, Command, RandomByte, High, frame_put, Kept, without_records, Block}
use Rattle.dali_progress.proofs.Below.{Input, Order, Record, block_stays, Machine, at_first, IsGiven, machine_after, Allowed, IsActed, IsSent, IsDown, IsArc}
use Rattle.dali_progress.proofs.Below.{IsDue, happens, controller_acted, told_of, told_sent, told_destroyed, told_lapsed, owner_told, trace_running, is_arc}
use Rattle.dali_progress.proofs.Below.{gone_down, come_up, kept_after, with_outstanding, Plan, IsPlan, block_at, no_block, World, Controller, controller_at}
use Rattle.dali_progress.proofs.Below.{controllers_changed, controller_begun, nobody, Event, are_drawn, draws_after, Waits, MayAnswer, LeavesWhole}
use Rattle.dali_progress.proofs.Below.{ReservesUsed, machine_in, machines_at, machines_after, SiteState, opened_site, world, machines, machine_at, site_logged}
use Rattle.dali_progress.proofs.Below.{IsActRefused, changed_at, none_set, some_set, by_place, site_after, IsOfCall, AreOfCalls, HasJustBegun, IsUsedOf}
use Rattle.dali_progress.proofs.{Below.{BeginsBySurveys, asks_first, is_silence, silences_after, IsHeardInTime, HearsUsed}, Logged.world_logged}
use Rattle.dali_progress.proofs.{Logged.{machines_logged, some_within}, Lone.acted_there, Spared.Bytes.{AreSmall, drawn_small, IsByteOf, byte_heard_of}}
use Rattle.dali_progress.proofs.Spared.Lives.{IsWellHeard, IsFair, IsFewAt, Lives, lives_first, lives_told, lives_more, counted_asked, lives_acted, leaves_used}
use Rattle.dali_progress.proofs.Later.{some_same}
use Rattle.dali_script.specs.declared.orders.Input.TheVariants as input
use Rattle.dali_events.specs.declared.event.Event.TheVariants as event
use Rattle.dali_standing.specs.declared.refusal.Refusal.TheVariants as refusal

-- EACH EVENT THAT CALLS ADD goes on with the life of a controller that surveys and hears the used gear.

-- the life of controller c, while it is up
abbrev pub IsLived : (ℕ → Type 0) → Block → (ℕ → ℕ) → World → List (Option Machine) → ℕ → Type 0
IsLived U z v w ms c = (m : Machine) → machine_in ms c ≡ Some m → Lives U z v (controller_at w c) m

-- ---------------------------------------------------------------- another controller's event

elsewhere : (U : ℕ → Type 0) (z : Block) (v : ℕ → ℕ) (w w' : World) (ms ms' : List (Option Machine)) (c : ℕ) → controller_at w' c ≡ controller_at w c
    → machine_in ms' c ≡ machine_in ms c → IsLived U z v w ms c → IsLived U z v w' ms' c
elsewhere U z v w w' ms ms' c controller machine l m there = subst (λ (k : Controller). Lives U z v k m) (sym controller) (l m (sym machine ∙ there))

-- ---------------------------------------------------------------- it acts

acted_here : (U : ℕ → Type 0) (z : Block) (v : ℕ → ℕ) (w : World) (ms : List (Option Machine)) (c : ℕ) (i : Input) (o : Order) → ((a : ℕ) → U a → a < 64)
    → IsActed w c i o → (i ≡ input.Start → ⊥) → Waits (machine_in ms c) i × MayAnswer (machine_in ms c) i o × LeavesWhole (machine_in ms c) i o
    → IsLived U z v w ms c → IsLived U z v (happens w (event.Acted c i o)) (machines_after w ms (event.Acted c i o)) c
acted_here U z v w ms c i o below here unstarted of l n there = go (machine_in ms c) refl of where
  go : (x : Option Machine) → machine_in ms c ≡ x → Waits x i × MayAnswer x i o × LeavesWhole x i o
      → Lives U z v (controller_at (happens w (event.Acted c i o)) c) n
  go None has of = elim of.1 [ ]
  go (Some m) has of =
      let next : machine_in (machines_after w ms (event.Acted c i o)) c ≡ Some (machine_after m i o) =
      get_or-set_same ms c (option_map (λ x. machine_after x i o) (machine_in ms c)) None (some_within ms c m has)
      ∙ ap (option_map (λ x. machine_after x i o)) has in
      let is : machine_after m i o ≡ n = some_same (machine_after m i o) n (sym next ∙ there) in
      subst (λ (x : Machine). Lives U z v (controller_at (happens w (event.Acted c i o)) c) x) is
      (subst (λ (k : Controller). Lives U z v k (machine_after m i o)) (sym (acted_there w c i o here.up))
      (lives_acted U z v (controller_at w c) m i o below (l m has) here.due unstarted of.0 of.1 of.2))

acted_lived : (U : ℕ → Type 0) (z : Block) (v : ℕ → ℕ) (w : World) (ms : List (Option Machine)) (c d : ℕ) (i : Input) (o : Order) → ((a : ℕ) → U a → a < 64)
    → IsActed w d i o → (d ≡ c → i ≡ input.Start → ⊥) → Waits (machine_in ms d) i × MayAnswer (machine_in ms d) i o × LeavesWhole (machine_in ms d) i o
    → IsLived U z v w ms c → IsLived U z v (happens w (event.Acted d i o)) (machines_after w ms (event.Acted d i o)) c
acted_lived U z v w ms c d i o below here unstarted of l =
    by_place _ d c (λ same. subst (λ n. IsLived U z v w ms n → IsLived U z v (happens w (event.Acted d i o)) (machines_after w ms (event.Acted d i o)) n) same
    (acted_here U z v w ms d i o below here (unstarted same) of) l)
    (λ other. elsewhere U z v w (happens w (event.Acted d i o)) ms (machines_after w ms (event.Acted d i o)) c
    (get_or-set_other w.controllers d c (controller_acted (controller_at w d) i o) nobody other)
    (get_or-set_other ms d c (option_map (λ x. machine_after x i o) (machine_in ms d)) None other) l)

-- ---------------------------------------------------------------- it is told something

-- told of a frame that was put
fair_arc : (U : ℕ → Type 0) (v : ℕ → ℕ) (opened : Bool) (asked : ℕ) (f : Forward) (h : Answer) (last : Option Order) (was : Option Input) → IsArc f
    → IsFair U v opened asked last was → IsFair U v opened asked last (told_of (command_of f) (input.Heard h) was)
fair_arc U v opened asked f h last was arc fair = subst (λ c. IsFair U v opened asked last (told_of c (input.Heard h) was)) (sym arc) fair

fair_heard : (U : ℕ → Type 0) (v : ℕ → ℕ) (opened : Bool) (asked : ℕ) (f : Forward) (h : Answer) (last : Option Order) (was : Option Input)
    → frame_put last ≡ Some f → IsWellHeard U v opened asked f h → IsFair U v opened asked last was
    → IsFair U v opened asked last (told_of (command_of f) (input.Heard h) was)
fair_heard U v opened asked f h last was put well fair = go (is_arc (command_of f)) where
  go : (b : Bool) → IsFair U v opened asked last (if b then was else Some (input.Heard h))
  go true = fair
  go false = (f, put, well)

fair_destroyed : (U : ℕ → Type 0) (v : ℕ → ℕ) (opened : Bool) (asked : ℕ) (c : Command) (last : Option Order) (was : Option Input)
    → IsFair U v opened asked last was → IsFair U v opened asked last (told_of c input.Destroyed was)
fair_destroyed U v opened asked c last was fair = go (is_arc c) where
  go : (b : Bool) → IsFair U v opened asked last (if b then was else Some input.Destroyed)
  go true = fair
  go false = tt

sent_lived : (U : ℕ → Type 0) (z : Block) (v v' : ℕ → ℕ) (w : World) (ms : List (Option Machine)) (c d : ℕ) (f : Forward) (h : Answer) → IsSent w d f h
    → AreSmall w.gear → IsArc f ⊎ (frame_put (controller_at w d).last ≡ Some f) → ((a : ℕ) → U a → v a ≤ v' a)
    → ((m : Machine) → machine_in ms c ≡ Some m → (a : ℕ) → U a → IsFewAt v' m a)
    → ((a : ℕ) → d ≡ c → command_of f ≡ RandomByte a High → h ≡ Silence → v' a ≡ v a + 1) → IsLived U z v w ms c
    → IsLived U z v' (happens w (event.Sent d f h)) ms c
sent_lived U z v v' w ms c d f h here small ordered more few counts l m there =
    changed_at (λ k. Lives U z v' k m) w.controllers d c (told_sent (trace_running w d) f h)
    (lives_more U z v v' (controller_at w c) m more (few m there) (l m there))
    (λ same k. lives_told U z v' (controller_at w c) (told_sent (trace_running w d) f h (controller_at w c)) m k refl
    (heard same k (subst (λ n. IsArc f ⊎ (frame_put (controller_at w n).last ≡ Some f)) same ordered))) where
      byte : IsByteOf (command_of f) h
      byte = byte_heard_of (command_of f) h w.gear small here.heard

      heard : d ≡ c → Lives U z v' (controller_at w c) m → IsArc f ⊎ (frame_put (controller_at w c).last ≡ Some f)
          → IsFair U v' m.course.opened m.asked (controller_at w c).last (told_of (command_of f) (input.Heard h) (controller_at w c).told)
      heard same k (inl arc) = fair_arc U v' m.course.opened m.asked f h (controller_at w c).last (controller_at w c).told arc k.told
      heard same k (inr put) =
          fair_heard U v' m.course.opened m.asked f h (controller_at w c).last (controller_at w c).told put (
            (λ early a used asks silent.
                let was : m.asked ≤ v a = counted_asked U z v (controller_at w c) m f a (l m there) (ap frame_put (l m there).last ∙ put) asks used in
                let one : v' a ≡ v a + 1 = counts a same asks silent in omega (arith, was, one)),
            byte,
          ) k.told

lost_at : (U : ℕ → Type 0) (z : Block) (v : ℕ → ℕ) (cs : List Controller) (c d : ℕ) (f : Forward) (m : Machine) → Lives U z v (get_or cs c nobody) m
    → Lives U z v (get_or (controllers_changed cs d (told_destroyed f)) c nobody) m
lost_at U z v cs c d f m l =
    changed_at (λ k. Lives U z v k m) cs d c (told_destroyed f) l
    (λ same k. lives_told U z v (get_or cs c nobody) (told_destroyed f (get_or cs c nobody)) m k refl
    (fair_destroyed U v m.course.opened m.asked (command_of f) (get_or cs c nobody).last (get_or cs c nobody).told k.told))

lapsed_at : (U : ℕ → Type 0) (z : Block) (v : ℕ → ℕ) (cs : List Controller) (c : ℕ) (owner : Option ℕ) (m : Machine) → Lives U z v (get_or cs c nobody) m
    → Lives U z v (get_or (owner_told cs owner) c nobody) m
lapsed_at U z v cs c None m l = l
lapsed_at U z v cs c (Some d) m l =
    changed_at (λ k. Lives U z v k m) cs d c told_lapsed l (λ same k. lives_told U z v (get_or cs c nobody) (told_lapsed (get_or cs c nobody)) m k refl tt)

-- ---------------------------------------------------------------- its records are of one block

outstanding_block : (k : Kept) (x : Option Record) → (with_outstanding k x).block ≡ k.block
outstanding_block k None = refl
outstanding_block k (Some x) = block_stays k x

acted_block : (k : Controller) (i : Input) → (kept_after k i).block ≡ k.records.block
acted_block k input.Committed = outstanding_block k.records k.outstanding
acted_block k _ = refl

up_block : (kept : Bool) (k : Controller) → (come_up kept k).records.block ≡ k.records.block
up_block true k = outstanding_block k.records k.outstanding
up_block false k = refl

abbrev IsOf : Block → Controller → Type 0
IsOf z k = k.records.block ≡ z

lapsed_block : (z : Block) (cs : List Controller) (c : ℕ) (owner : Option ℕ) → IsOf z (get_or cs c nobody) → IsOf z (get_or (owner_told cs owner) c nobody)
lapsed_block z cs c None b = b
lapsed_block z cs c (Some d) b = changed_at (IsOf z) cs d c told_lapsed b (λ same k. k)

block_moved : (z : Block) (w : World) (c : ℕ) (e : Event) → IsOf z (controller_at w c) → IsOf z (controller_at (happens w e) c)
block_moved z w c (event.Acted d i o) b =
    changed_at (IsOf z) w.controllers d c (λ k. controller_acted k i o) b (λ same k. acted_block (controller_at w c) i ∙ k)
block_moved z w c (event.Sent d f h) b = changed_at (IsOf z) w.controllers d c (told_sent (trace_running w d) f h) b (λ same k. k)
block_moved z w c (event.Destroyed d f some) b = changed_at (IsOf z) w.controllers d c (told_destroyed f) b (λ same k. k)
block_moved z w c (event.Collided d f e g) b =
    changed_at (IsOf z) (controllers_changed w.controllers d (told_destroyed f)) e c (told_destroyed g)
    (changed_at (IsOf z) w.controllers d c (told_destroyed f) b (λ same k. k)) (λ same k. k)
block_moved z w c event.Lapsed b = lapsed_block z w.controllers c w.bus.owner b
block_moved z w c (event.Down d) b = changed_at (IsOf z) w.controllers d c gone_down b (λ same k. k)
block_moved z w c (event.Up d kept) b = changed_at (IsOf z) w.controllers d c (come_up kept) b (λ same k. up_block kept (controller_at w c) ∙ k)
block_moved z w c _ b = b

-- ---------------------------------------------------------------- it goes down, and comes up

down_lived : (U : ℕ → Type 0) (z : Block) (v : ℕ → ℕ) (w : World) (ms : List (Option Machine)) (c d : ℕ) → IsLived U z v w ms c
    → IsLived U z v (happens w (event.Down d)) (machines_after w ms (event.Down d)) c
down_lived U z v w ms c d l =
    by_place _ d c (λ same. subst (λ n. IsLived U z v (happens w (event.Down d)) (machines_after w ms (event.Down d)) n) same
    (λ m there. absurd (let never : None ≡ Some m = sym (none_set ms d) ∙ there in cc)))
    (λ other. elsewhere U z v w (happens w (event.Down d)) ms (machines_after w ms (event.Down d)) c
    (get_or-set_other w.controllers d c (gone_down (controller_at w d)) nobody other) (get_or-set_other ms d c None None other) l)

up_lived : (U : ℕ → Type 0) (z : Block) (v v' : ℕ → ℕ) (w : World) (ms : List (Option Machine)) (c d : ℕ) (kept : Bool) → IsDown w d
    → (controller_at w c).records.block ≡ z → (d ≡ c → (a : ℕ) → v' a ≡ 0) → ((c ≡ d → ⊥) → (a : ℕ) → v' a ≡ v a) → IsLived U z v w ms c
    → IsLived U z v' (happens w (event.Up d kept)) (machines_after w ms (event.Up d kept)) c
up_lived U z v v' w ms c d kept down block anew else_same l =
    by_place _ d c (λ same. subst (λ n. IsLived U z v' (happens w (event.Up d kept)) (machines_after w ms (event.Up d kept)) n) same
    (begins (anew same) (subst (λ n. (controller_at w n).records.block ≡ z) (sym same) block)))
    (λ other. elsewhere U z v' w (happens w (event.Up d kept)) ms (machines_after w ms (event.Up d kept)) c
    (get_or-set_other w.controllers d c (come_up kept (controller_at w d)) nobody other)
    (get_or-set_other ms d c (Some (at_first d (come_up kept (controller_at w d)).records)) None other) (still (else_same other)))
  where
    up : controller_at (happens w (event.Up d kept)) d ≡ come_up kept (controller_at w d)
    up = get_or-set_same w.controllers d (come_up kept (controller_at w d)) nobody down.known

    still : ((a : ℕ) → v' a ≡ v a) → IsLived U z v' w ms c
    still same m there =
        lives_more U z v v' (controller_at w c) m (λ a used. let is : v' a ≡ v a = same a in omega (arith, is))
        (λ a used. few_as a (same a) ((l m there).few a used)) (l m there)
      where
        few_as : (a : ℕ) → v' a ≡ v a → IsFewAt v m a → IsFewAt v' m a
        few_as a is (inl few) = inl (λ early. (let less : v a < 3 = few early in omega (arith, less, is)))
        few_as a is (inr safe) = inr safe

    begins : ((a : ℕ) → v' a ≡ 0) → (controller_at w d).records.block ≡ z
        → IsLived U z v' (happens w (event.Up d kept)) (machines_after w ms (event.Up d kept)) d
    begins none here m there =
        subst (λ (x : Machine). Lives U z v' (controller_at (happens w (event.Up d kept)) d) x)
        (some_set ms d (at_first d (come_up kept (controller_at w d)).records) m there)
        (lives_first U z v' (controller_at (happens w (event.Up d kept)) d) d (come_up kept (controller_at w d)).records
        (up_block kept (controller_at w d) ∙ here) (λ a used. let is : v' a ≡ 0 = none a in omega (arith, is)) (ap (λ (k : Controller). k.told) up)
        (ap (λ (k : Controller). k.last) up))

-- ---------------------------------------------------------------- one event of a site

-- the same of controller c of a site, and of the short addresses of its block that used gear have
abbrev pub Goes : SiteState → World → List (Option Machine) → ℕ → (ℕ → ℕ) → Type 0
Goes s w ms c v = IsLived (IsUsedOf s.plan c) (block_at s.plan c) v w ms c

pub record IsLivedAt (s : SiteState) (c : ℕ) (v : ℕ → ℕ) : Type 0 where
  pub block : IsOf (block_at s.plan c) (controller_at (world s) c)
  pub lives : Goes s (world s) (machines s) c v

small_now : (s : SiteState) → IsPlan s.plan → AreSmall (world s).gear
small_now s plan = drawn_small (world s) (are_drawn s.plan (world s) plan (draws_after s.plan s.queue s.log))

-- the silences after one event more
abbrev pub counts_after : ℕ → (ℕ → ℕ) → Event → ℕ → ℕ
counts_after c v e a = silences_after c a (v a) e

-- what is supposed of it: it begins by surveys, and hears the used gear in time while it asks short addresses
abbrev pub Heeds : SiteState → ℕ → (ℕ → ℕ) → Event → Type 0
Heeds s c v (event.Acted d i o) = d ≡ c → i ≡ input.Start → ⊥
Heeds s c v (event.Sent d f h) = (m : Machine) → machine_at s c ≡ Some m → (a : ℕ) → IsUsedOf s.plan c a → IsFewAt (counts_after c v (event.Sent d f h)) m a
Heeds s c v _ = Unit {0}

hears_heeds : (s : SiteState) (c : ℕ) (v : ℕ → ℕ) (e : Event) → BeginsBySurveys c e → ((a : ℕ) → IsUsedOf s.plan c a → counts_after c v e a < 3) → Heeds s c v e
hears_heeds s c v (event.Acted d i o) begins few = begins
hears_heeds s c v (event.Sent d f h) begins few = λ m there a used. inl (λ early. few a used)
hears_heeds s c v _ begins few = tt

pub counts_more : (c : ℕ) (v : ℕ → ℕ) (d : ℕ) (f : Forward) (h : Answer) (a : ℕ) → v a ≤ counts_after c v (event.Sent d f h) a
counts_more c v d f h a = go ((d == c) && (asks_first a (command_of f) && is_silence h)) where
  go : (b : Bool) → v a ≤ (if b then v a + 1 else v a)
  go true = omega arith
  go false = omega arith

counts_one : (c : ℕ) (v : ℕ → ℕ) (d : ℕ) (f : Forward) (h : Answer) (a : ℕ) → d ≡ c → command_of f ≡ RandomByte a High → h ≡ Silence
    → counts_after c v (event.Sent d f h) a ≡ v a + 1
counts_one c v d f h a same asks silent =
    let mine : (d == c) ≡ true = grind (arith, nat_tests) in
    let self : (a == a) ≡ true = grind (arith, nat_tests) in
    rw (mine, asks, silent, self) refl

counts_anew : (c : ℕ) (v : ℕ → ℕ) (d : ℕ) (kept : Bool) (a : ℕ) → d ≡ c → counts_after c v (event.Up d kept) a ≡ 0
counts_anew c v d kept a same = let mine : (d == c) ≡ true = grind (arith, nat_tests) in rw mine refl

pub counts_still : (c : ℕ) (v : ℕ → ℕ) (d : ℕ) (kept : Bool) (a : ℕ) → (c ≡ d → ⊥) → counts_after c v (event.Up d kept) a ≡ v a
counts_still c v d kept a other = let others : (d == c) ≡ false = grind (arith, nat_tests) in rw others refl

lived_moved : (s : SiteState) (c : ℕ) (v : ℕ → ℕ) (e : Event) → IsPlan s.plan → Allowed (world s) e → IsOfCall s e → Heeds s c v e → IsLivedAt s c v
    → Goes s (happens (world s) e) (machines_after (world s) (machines s) e) c (counts_after c v e)
lived_moved s c v e plan here of heeds l = go e here of heeds where
  U : ℕ → Type 0
  U = IsUsedOf s.plan c

  z : Block
  z = block_at s.plan c

  w : World
  w = world s

  go : (e : Event) → Allowed (world s) e → IsOfCall s e → Heeds s c v e
      → Goes s (happens (world s) e) (machines_after (world s) (machines s) e) c (counts_after c v e)
  go (event.Acted d i o) here of heeds = acted_lived U z v w (machines s) c d i o (λ a used. plan.used.short a used.1) here heeds of l.lives
  go (event.Sent d f h) here of heeds =
      sent_lived U z v (counts_after c v (event.Sent d f h)) w (machines s) c d f h here (small_now s plan) of (λ a used. counts_more c v d f h a) heeds
      (λ a same asks silent. counts_one c v d f h a same asks silent) l.lives
  go (event.Offered d f) here of heeds = l.lives
  go (event.Destroyed d f some) here of heeds = λ m there. lost_at U z v w.controllers c d f m (l.lives m there)
  go (event.Collided d f e g) here of heeds =
      λ m there. lost_at U z v (controllers_changed w.controllers d (told_destroyed f)) c e g m (lost_at U z v w.controllers c d f m (l.lives m there))
  go event.Lapsed here of heeds = λ m there. lapsed_at U z v w.controllers c w.bus.owner m (l.lives m there)
  go event.Quiet here of heeds = l.lives
  go (event.Foreign f) here of heeds = l.lives
  go (event.Power g on) here of heeds = l.lives
  go (event.Expired g) here of heeds = l.lives
  go (event.Down d) here of heeds = down_lived U z v w (machines s) c d l.lives
  go (event.Up d kept) here of heeds =
      up_lived U z v (counts_after c v (event.Up d kept)) w (machines s) c d kept here.0 l.block (λ same a. counts_anew c v d kept a same)
      (λ other a. counts_still c v d kept a other) l.lives

pub heeded_on : (s : SiteState) (c : ℕ) (v : ℕ → ℕ) (e : Event) → IsPlan s.plan → Allowed (world s) e → IsOfCall s e → Heeds s c v e → IsLivedAt s c v
    → IsLivedAt (site_logged s e) c (counts_after c v e)
heeded_on s c v e plan here of heeds l = record {
  block = subst (λ (w : World). IsOf (block_at s.plan c) (controller_at w c)) (sym (world_logged s e)) (block_moved (block_at s.plan c) (world s) c e l.block);
  lives = subst (λ w. Goes s w (machines (site_logged s e)) c (counts_after c v e)) (sym (world_logged s e))
      (subst (λ ms. Goes s (happens (world s) e) ms c (counts_after c v e)) (sym (machines_logged s e)) (lived_moved s c v e plan here of heeds l));
}

pub lived_on : (s : SiteState) (c : ℕ) (v : ℕ → ℕ) (e : Event) → IsPlan s.plan → Allowed (world s) e → IsOfCall s e → BeginsBySurveys c e
    → ((a : ℕ) → IsUsedOf s.plan c a → counts_after c v e a < 3) → IsLivedAt s c v → IsLivedAt (site_logged s e) c (counts_after c v e)
lived_on s c v e plan here of begins few l = heeded_on s c v e plan here of (hears_heeds s c v e begins few) l

-- ---------------------------------------------------------------- the start

abbrev pub none_yet : ℕ → ℕ
none_yet a = 0

pub just_lived : (s : SiteState) (c : ℕ) → HasJustBegun s c → IsLivedAt s c none_yet
just_lived s c b = record { block = b.block; lives = λ m there. first m there } where
  k : Controller
  k = controller_at (world s) c

  first : (m : Machine) → machine_at s c ≡ Some m → Lives (IsUsedOf s.plan c) (block_at s.plan c) none_yet (controller_at (world s) c) m
  first m there =
      subst (λ (x : Machine). Lives (IsUsedOf s.plan c) (block_at s.plan c) none_yet (controller_at (world s) c) x)
      (some_same (at_first c k.records) m (sym b.machine ∙ there))
      (lives_first (IsUsedOf s.plan c) (block_at s.plan c) none_yet k c k.records b.block (λ a used. omega arith) b.told b.last)

start_lived : (U : ℕ → Type 0) (bs : List Block) (d c : ℕ) (m : Machine) → get_or (machines_at d bs) c None ≡ Some m
    → Lives U (get_or bs c no_block) none_yet (get_or (map controller_begun bs) c nobody) m
start_lived U [] d c m there = absurd (cc)
start_lived U (b ∷ bs) d zero m there =
    subst (λ (x : Machine). Lives U b none_yet (controller_begun b) x) (some_same (at_first d (without_records b)) m there)
    (lives_first U b none_yet (controller_begun b) d (without_records b) refl (λ a used. omega arith) refl refl)
start_lived U (b ∷ bs) d (suc c) m there = start_lived U bs (d + 1) c m there

pub start_block : (bs : List Block) (c : ℕ) → IsOf (get_or bs c no_block) (get_or (map controller_begun bs) c nobody)
start_block [] c = refl
start_block (b ∷ bs) zero = refl
start_block (b ∷ bs) (suc c) = start_block bs c

pub opened_lived : (p : Plan) (queue room c : ℕ) → IsLivedAt (opened_site p queue room) c none_yet
opened_lived p queue room c = record { block = start_block p.blocks c; lives = λ m there. start_lived (IsUsedOf p c) p.blocks 0 c m there }

-- ---------------------------------------------------------------- its acts

-- what it would order reserves no address of used gear
leaves_now : (s : SiteState) (c : ℕ) (v : ℕ → ℕ) (m : Machine) (i : Input) (o : Order) → IsPlan s.plan
    → Lives (IsUsedOf s.plan c) (block_at s.plan c) v (controller_at (world s) c) m → IsDue (controller_at (world s) c) i → IsGiven m i o
    → ReservesUsed s.plan.used o → ⊥
leaves_now s c v m i o plan l due given used =
    leaves_used (IsUsedOf s.plan c) (block_at s.plan c) v s.plan.used (controller_at (world s) c) m i o (λ a its. plan.used.short a its.1)
    (λ a within has. (within, has)) l due given used

pub lived_leaves : (s : SiteState) (c : ℕ) (v : ℕ → ℕ) (i : Input) (o : Order) → IsPlan s.plan → IsLivedAt s c v → IsActed (world s) c i o
    → MayAnswer (machine_at s c) i o → ReservesUsed s.plan.used o → ⊥
lived_leaves s c v i o plan l acts answer used = go (machine_at s c) refl answer where
  go : (x : Option Machine) → machine_at s c ≡ x → MayAnswer x i o → ⊥
  go None has answer = elim answer [ ]
  go (Some m) has answer = leaves_now s c v m i o plan (l.lives m has) acts.due answer used

pub unrefused_now : (s : SiteState) (c : ℕ) (v : ℕ → ℕ) (i : Input) → IsPlan s.plan → IsLivedAt s c v → IsActRefused s c i refusal.AddressInUse → ⊥
unrefused_now s c v i plan l refused = go (machine_at s c) refl refused.4.0 (refused.4.1, refused.4.2) where
  go : (x : Option Machine) → machine_at s c ≡ x → (o : Order) → MayAnswer (machine_at s c) i o × ReservesUsed s.plan.used o → ⊥
  go None has o of = elim (subst (λ x. MayAnswer x i o) has of.0) [ ]
  go (Some m) has o of = leaves_now s c v m i o plan (l.lives m has) refused.1 (subst (λ x. MayAnswer x i o) has of.0) of.1

-- the life of a controller that surveys and hears the used gear goes on
pub lived_all : (s : SiteState) (c : ℕ) (v : ℕ → ℕ) (es : List Event) → IsPlan s.plan → IsLivedAt s c v → AreOfCalls s es
    → AllByRecursion (BeginsBySurveys c) es → ((a : ℕ) → IsUsedOf s.plan c a → IsHeardInTime c a (v a) es) → (P : SiteState → Type 0)
    → ((t : SiteState) (u : ℕ → ℕ) → IsPlan t.plan → IsLivedAt t c u → P t) → P (site_after s es)
lived_all s c v [] plan l are begin hear P known = known s v plan l
lived_all s c v (e ∷ es) plan l are begin hear P known =
    lived_all (site_logged s e) c (counts_after c v e) es plan
    (lived_on s c v e plan are.0 are.1 begin.0 (λ a used. let few = (hear a used).0 in omega (arith, few)) l) are.2 begin.1 (λ a used. (hear a used).1) P known

pub unrefused_lived : (s : SiteState) (c : ℕ) (v : ℕ → ℕ) (es : List Event) (i : Input) → IsPlan s.plan → IsLivedAt s c v → AreOfCalls s es
    → AllByRecursion (BeginsBySurveys c) es → ((a : ℕ) → IsUsedOf s.plan c a → IsHeardInTime c a (v a) es)
    → IsActRefused (site_after s es) c i refusal.AddressInUse → ⊥
unrefused_lived s c v es i plan l are begin hear =
    lived_all s c v es plan l are begin hear (λ t. IsActRefused t c i refusal.AddressInUse → ⊥) (λ t u plan l. unrefused_now t c u i plan l)

-- NO ACT OF A CONTROLLER THAT HAS JUST BEGUN, and surveys and hears the used gear, is refused as AddressInUse
pub unrefused : (s : SiteState) (c : ℕ) (es : List Event) (i : Input) → IsPlan s.plan → HasJustBegun s c → AreOfCalls s es → HearsUsed s.plan c es
    → IsActRefused (site_after s es) c i refusal.AddressInUse → ⊥
unrefused s c es i plan begun are hear = unrefused_lived s c none_yet es i plan (just_lived s c begun) are hear.0 hear.1
