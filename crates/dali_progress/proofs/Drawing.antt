use Rattle.dali_progress.proofs.Below.{◌≡◌, ℕ, ◌<◌, ◌≤◌, List, [], ◌∷◌, sym, ap, subst, ◌∙◌, arith, length, Some, None, Answer, Forward, command_of, Gear}
use Rattle.dali_progress.proofs.Below.{row_after, row_left, draws_needed, answers_of, heard_of, Everyone, Input, Order, Put, Machine, machine_told, IsGiven}
use Rattle.dali_progress.proofs.Below.{machine_after, Allowed, happens, World, controller_at, Event, MayAnswer, informed_by, machine_in, SiteState, world}
use Rattle.dali_progress.proofs.Below.{site_logged, machine_at, IsPumpRefused, Succeeds, IsOfRound, Rounds, site_after}
use Rattle.dali_script.specs.declared.orders.Input.TheVariants as input
use Rattle.dali_events.specs.declared.event.Event.TheVariants as event
use Rattle.dali_events.specs.declared.trouble.Trouble.TheVariants as trouble
use Rattle.dali_standing.specs.declared.refusal.Refusal.TheVariants as refusal
use Rattle.dali_progress.proofs.{Along.{Measure, Argument, Runs, held, runs_on, runs_all}, Logged.{world_logged, machines_logged, acted_machine, same_some}}
use Rattle.dali_progress.proofs.Lone.{acted_last, acted_told, lone_next, lone_sent, sent_last}

-- WHAT STAYS SO of machine, gear and numbers (P), in both arguments. And the numbers that gear draw are never spent: if
-- there is one for each gear at the start, as long as something is so.

-- as the controller acts, and as its frame is sent, it stays so
pub record Stays (M : Measure) (P : Machine → List Gear → List ℕ → Type 0) : Type 0 where
  pub acts : (s : SiteState) (c left l : ℕ) (i : Input) (o : Order) → (u : Runs M s c left) → Allowed (world s) (event.Acted c i o) → Succeeds M.by i
      → IsGiven u.machine i o → M.holds (machine_after u.machine i o) (Some o) None (world (site_logged s (event.Acted c i o))).gear l
      → P (informed_by u.machine (controller_at (world s) c).told) (world s).gear (world s).left → P (machine_after u.machine i o) (world s).gear (world s).left
  pub sends : (s : SiteState) (c left rest p : ℕ) (f : Forward) (h : Answer) → (u : Runs M s c left) → Allowed (world s) (event.Sent c f h)
      → h ≡ heard_of (answers_of Everyone (command_of f) 0 (world s).gear) → u.machine.last ≡ Some (Put p f)
      → M.holds u.machine (Some (Put p f)) None (world s).gear left
      → M.holds u.machine (Some (Put p f)) (Some (input.Heard h)) (row_after Everyone (command_of f) 0 (world s).gear (world s).left) rest
      → P u.machine (world s).gear (world s).left
      → P (machine_told u.machine (input.Heard h)) (row_after Everyone (command_of f) 0 (world s).gear (world s).left)
      (row_left Everyone (command_of f) 0 (world s).gear (world s).left)

-- and then there are numbers enough for the frame
pub record Draws (M : Measure) (P : Machine → List Gear → List ℕ → Type 0) : Type 0 where
  pub stays : Stays M P
  pub enough : (m : Machine) (p : ℕ) (f : Forward) (gs : List Gear) (numbers : List ℕ) (left : ℕ) → m.last ≡ Some (Put p f)
      → M.holds m (Some (Put p f)) None gs left → P m gs numbers → draws_needed Everyone (command_of f) 0 gs ≤ length numbers

-- a site on which it is so
abbrev pub StaysAt : (Machine → List Gear → List ℕ → Type 0) → SiteState → ℕ → Type 0
StaysAt P s c = (m : Machine) → machine_at s c ≡ Some m → P (informed_by m (controller_at (world s) c).told) (world s).gear (world s).left

stays_logged : (P : Machine → List Gear → List ℕ → Type 0) (s : SiteState) (c : ℕ) (e : Event) (m : Machine) → machine_at (site_logged s e) c ≡ Some m
    → P (informed_by m (controller_at (happens (world s) e) c).told) (happens (world s) e).gear (happens (world s) e).left → StaysAt P (site_logged s e) c
stays_logged P s c e m there has n at =
    subst (λ (t : Machine). P (informed_by t (controller_at (world (site_logged s e)) c).told) (world (site_logged s e)).gear (world (site_logged s e)).left)
    (same_some (machine_at (site_logged s e) c) m n there at)
    (subst (λ (w : World). P (informed_by m (controller_at w c).told) w.gear w.left) (sym (world_logged s e)) has)

module _ (M : Measure) (a : Argument M) (P : Machine → List Gear → List ℕ → Type 0) (d : Stays M P) where
  acted_stays : (s : SiteState) (c left l : ℕ) (i : Input) (o : Order) → Runs M s c left → Runs M (site_logged s (event.Acted c i o)) c l
      → Allowed (world s) (event.Acted c i o) → Succeeds M.by i → MayAnswer (machine_at s c) i o → StaysAt P s c
      → StaysAt P (site_logged s (event.Acted c i o)) c
  acted_stays s c left l i o u v here good may has =
      let w : World = world s in
      let there = acted_machine s c i o u.machine u.there in
      let last = ap (λ x. (controller_at x c).last) (world_logged s (event.Acted c i o)) ∙ acted_last w c i o u.goes.lone.up in
      let told = ap (λ x. (controller_at x c).told) (world_logged s (event.Acted c i o)) ∙ acted_told w c i o u.goes.lone.up in
      stays_logged P s c (event.Acted c i o) (machine_after u.machine i o) there
      (subst (λ t. P (informed_by (machine_after u.machine i o) t) w.gear w.left) (sym (acted_told w c i o u.goes.lone.up))
      (d.acts s c left l i o u here good (subst (λ n. MayAnswer n i o) u.there may)
      (held M (site_logged s (event.Acted c i o)) c l (machine_after u.machine i o) (Some o) None v there last told) (has u.machine u.there)))

  sent_stays : (s : SiteState) (c left l p : ℕ) (f : Forward) (h : Answer) → (u : Runs M s c left) → Runs M (site_logged s (event.Sent c f h)) c l
      → Allowed (world s) (event.Sent c f h) → h ≡ heard_of (answers_of Everyone (command_of f) 0 (world s).gear) → u.machine.last ≡ Some (Put p f)
      → (controller_at (world s) c).told ≡ None → StaysAt P s c → StaysAt P (site_logged s (event.Sent c f h)) c
  sent_stays s c left l p f h u v here heard last told has =
      let w : World = world s in
      let lone = lone_sent w s.queue c u.machine p f h u.goes.lone last told in
      let there = ap (λ ms. machine_in ms c) (machines_logged s (event.Sent c f h)) ∙ u.there in
      let put : (controller_at (happens w (event.Sent c f h)) c).last ≡ Some (Put p f) = sent_last w c f h u.goes.lone.up ∙ sym u.goes.lone.last ∙ last in
      let now =
      held M (site_logged s (event.Sent c f h)) c l u.machine (Some (Put p f)) (Some (input.Heard h)) v there
      (ap (λ x. (controller_at x c).last) (world_logged s (event.Sent c f h)) ∙ put)
      (ap (λ x. (controller_at x c).told) (world_logged s (event.Sent c f h)) ∙ lone.1) in
      stays_logged P s c (event.Sent c f h) u.machine there
      (subst (λ t. P (informed_by u.machine t) (row_after Everyone (command_of f) 0 w.gear w.left) (row_left Everyone (command_of f) 0 w.gear w.left))
      (sym lone.1) (d.sends s c left l p f h u here heard last (held M s c left u.machine (Some (Put p f)) None u u.there (sym u.goes.lone.last ∙ last) told)
      (subst (λ (x : World). M.holds u.machine (Some (Put p f)) (Some (input.Heard h)) x.gear l) (world_logged s (event.Sent c f h)) now)
      (subst (λ t. P (informed_by u.machine t) w.gear w.left) told (has u.machine u.there))))

  stays_on : (s : SiteState) (c left l : ℕ) (e : Event) → Runs M s c left → Runs M (site_logged s e) c l → Allowed (world s) e → IsOfRound M.by s c e
      → StaysAt P s c → StaysAt P (site_logged s e) c
  stays_on s c left l (event.Acted x i o) u v here of has =
      subst (λ n. Runs M (site_logged s (event.Acted n i o)) c l → Allowed (world s) (event.Acted n i o) → StaysAt P (site_logged s (event.Acted n i o)) c)
      (sym of.0) (λ v now. acted_stays s c left l i o u v now of.1 of.2 has) v here
  stays_on s c left l (event.Sent x f h) u v here of has =
      let put = lone_next (world s) s.queue c u.machine of.0 u.goes.lone of.1 in
      subst (λ n. Runs M (site_logged s (event.Sent n f h)) c l → Allowed (world s) (event.Sent n f h) → StaysAt P (site_logged s (event.Sent n f h)) c)
      (sym (of.2 ∙ put.3)) (λ v now. sent_stays s c left l put.0 f h u v now of.4
      (subst (λ g. u.machine.last ≡ Some (Put put.0 g)) (sym of.3) put.1) put.2 has) v here
  stays_on s c left l _ u v here of has = absurd of

  pub stays_all : (s : SiteState) (c left : ℕ) (es : List Event) → Runs M s c left → Rounds M.by s c es → StaysAt P s c → StaysAt P (site_after s es) c
  stays_all s c left [] u rounds has = has
  stays_all s c left (e ∷ es) u rounds has =
      let on = runs_on M a s c left e u rounds.0 rounds.1 in
      stays_all (site_logged s e) c on.rest es on.runs rounds.2 (stays_on s c left on.rest e u on.runs rounds.0 rounds.1 has)

module _ (M : Measure) (a : Argument M) (P : Machine → List Gear → List ℕ → Type 0) (d : Draws M P) where
  spent_never : (s : SiteState) (c left : ℕ) → Runs M s c left → StaysAt P s c → IsPumpRefused s trouble.None refusal.DrawsSpent → ⊥
  spent_never s c left u has (r, is, spent) =
      let w : World = world s in
      let put = lone_next w s.queue c u.machine r u.goes.lone is in
      never (draws_needed Everyone (command_of r.frame) 0 w.gear) (length w.left) (d.enough u.machine put.0 r.frame w.gear w.left left put.1
      (held M s c left u.machine (Some (Put put.0 r.frame)) None u u.there (sym u.goes.lone.last ∙ put.1) put.2)
      (subst (λ t. P (informed_by u.machine t) w.gear w.left) put.2 (has u.machine u.there))) spent
    where
      never : (x y : ℕ) → x ≤ y → y < x → ⊥
      never x y enough less = omega (arith, enough, less)

  pub never_spent : (s : SiteState) (c left : ℕ) (es : List Event) → Runs M s c left → Rounds M.by s c es → StaysAt P s c
      → IsPumpRefused (site_after s es) trouble.None refusal.DrawsSpent → ⊥
  never_spent s c left es u rounds has =
      let all = runs_all M a s c left es u rounds in spent_never (site_after s es) c all.rest all.runs (stays_all M a P d.stays s c left es u rounds has)
