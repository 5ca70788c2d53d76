use Rattle.dali_progress.proofs.Below.{◌≡◌, ℕ, ◌+◌, ◌≤◌, Bool, true, suc, List, [], ◌∷◌, sym, ap, subst, ◌∙◌, arith, length, Option, Some, None, ◌⊎◌, inl, inr}
use Rattle.dali_progress.proofs.Below.{refl, if◌then◌else◌, Answer, Forward, command_of, Command, Gear, row_after, answers_of, heard_of, Everyone, Request}
use Rattle.dali_progress.proofs.Below.{frame_put, record_ordered, End, Fault, Input, Order, Put, Done, Halt, Commit, Record, Machine, at_first, machine_told}
use Rattle.dali_progress.proofs.Below.{machine_heard, machine_committed, machine_after, IsWhole, IsGivenBy, given_by, Allowed, IsDue, happens, IsRun}
use Rattle.dali_progress.proofs.Below.{LeavesUsed, World, Controller, controller_at, Event, MayAnswer, LeavesWhole, machine_in, SiteState, world, site_logged}
use Rattle.dali_progress.proofs.Below.{machine_at, next_request, HasEnded, HasNext, GoesOn, IsAlone, Succeeds, IsOfRound, Rounds, site_after, is_frame, frames}
use Rattle.dali_script.specs.declared.orders.Input.TheVariants as input
use Rattle.dali_events.specs.declared.event.Event.TheVariants as event
use Rattle.dali_progress.proofs.{Both.{not_failed, addresses_by, IsKnown, known_sent, with_kept}, Logged.{same_some, world_logged, run_logged, machines_logged}}
use Rattle.dali_progress.proofs.{Logged.acted_machine, Lone.{IsLone, IsDueIn, Rests, due_by, ended_rests, acted_last, acted_told, lone_acted, lone_next}}
use Rattle.dali_progress.proofs.Lone.{lone_sent, sent_last, Moment, due_of, acts_by, first_input}

-- ALONG ROUNDS, one event after the other: what the arguments for a start, for a survey, and for one in which a gear is misheard have
-- in common.

-- a world, and a site, in which the controller goes on: what is known of the controller, and how far its machine is
pub record GoesBy (K : Controller → Machine → Type 0) (H : Machine → Option Order → Option Input → List Gear → Type 0) (w : World) (q c : ℕ)
    (m : Machine) : Type 0 where
  pub lone : IsLone w q c m
  pub known : K (controller_at w c) m
  pub holds : H m (controller_at w c).last (controller_at w c).told w.gear

pub record RunsBy (K : Controller → Machine → Type 0) (H : Machine → Option Order → Option Input → List Gear → Type 0) (s : SiteState) (c : ℕ) : Type 0 where
  pub run : IsRun s.plan s.queue s.log
  pub machine : Machine
  pub there : machine_at s c ≡ Some machine
  pub goes : GoesBy K H (world s) s.queue c machine

holds_of : (H : Machine → Option Order → Option Input → List Gear → Type 0) (m : Machine) (w : World) (c : ℕ) (last : Option Order) (told : Option Input)
    (gs : List Gear) → (controller_at w c).last ≡ last → (controller_at w c).told ≡ told → H m last told gs
    → H m (controller_at w c).last (controller_at w c).told gs
holds_of H m w c last told gs is so holds = subst (λ l. H m l (controller_at w c).told gs) (sym is) (subst (λ t. H m last t gs) (sym so) holds)

module _ (K : Controller → Machine → Type 0) (H : Machine → Option Order → Option Input → List Gear → Type 0) where
  -- before the first event
  pub runs_first : (s : SiteState) (c : ℕ) → IsAlone s c → K (controller_at (world s) c) (at_first c (controller_at (world s) c).records)
      → H (at_first c (controller_at (world s) c).records) None (Some input.Start) (world s).gear → RunsBy K H s c
  runs_first s c a known holds = record {
    run = a.run;
    machine = at_first c (controller_at (world s) c).records;
    there = a.machine;
    goes = record {
      lone = record { up = a.up; kept = refl; last = sym a.last; addresses = rw a.last tt; moment = rw (a.last, a.told) ((a.bus, a.trace), refl) };
      known = known;
      holds = holds_of H (at_first c (controller_at (world s) c).records) (world s) c None (Some input.Start) (world s).gear a.last a.told holds;
    };
  }

  -- how far it is, by its last order
  pub held_by : (s : SiteState) (c : ℕ) (m : Machine) (last : Option Order) (told : Option Input) → (r : RunsBy K H s c) → machine_at s c ≡ Some m
      → (controller_at (world s) c).last ≡ last → (controller_at (world s) c).told ≡ told → H m last told (world s).gear
  held_by s c m last told r there is so =
      subst (λ n. H n last told (world s).gear) (same_some (machine_at s c) r.machine m r.there there)
      (subst (λ t. H r.machine last t (world s).gear) so (subst (λ l. H r.machine l (controller_at (world s) c).told (world s).gear) is r.goes.holds))

  -- and at its end, if nothing runs any more
  pub ended_at : (s : SiteState) (c : ℕ) (e : End) → (r : RunsBy K H s c) → HasEnded s c e
      → H r.machine (Some (Done e)) None (world s).gear × Rests (world s) s.queue
  ended_at s c e r ended =
      let k : Controller = controller_at (world s) c in
      let rests = ended_rests (world s) s.queue c r.machine k.outstanding k.last k.told e ended r.goes.lone.moment in
      (held_by s c r.machine (Some (Done e)) None r r.there ended rests.1, rests.0)

  -- it goes on, if it has not halted
  pub goes_by : (by : Bool) (s : SiteState) (c : ℕ) → RunsBy K H s c → ((m : Machine) (why : Fault) → H m (Some (Halt why)) None (world s).gear → ⊥)
      → GoesOn by s c
  goes_by by s c r never =
      go (due_by by (world s) s.queue c r.machine (controller_at (world s) c).last (controller_at (world s) c).told refl refl r.goes.lone.moment
      (λ why is none. never r.machine why (held_by s c r.machine (Some (Halt why)) None r r.there is none))) where
        go : ((e : End) × HasEnded s c e) ⊎ (IsDueIn by (world s) c ⊎ HasNext s) → GoesOn by s c
        go (inl ended) = inl ended
        go (inr (inl due)) = inr (inl (record { input = due.0; succeeds = due.1; due = due.2; free = due.3 }))
        go (inr (inr next)) = inr (inr next)

  -- the controller acts
  pub acted_to : (After : Machine → Option Order → Option Input → List Gear → Type 0) (by : Bool) (s : SiteState) (c : ℕ) (i : Input) (o : Order)
      → (r : RunsBy K H s c) → Allowed (world s) (event.Acted c i o) → Succeeds by i → MayAnswer (machine_at s c) i o
      → LeavesUsed s.plan.used (event.Acted c i o) → (IsRun s.plan s.queue (site_logged s (event.Acted c i o)).log → IsGivenBy (machine_told r.machine i) o
      → K (controller_at (happens (world s) (event.Acted c i o)) c) (machine_after r.machine i o)
      × After (machine_after r.machine i o) (Some o) None (world s).gear) → RunsBy K After (site_logged s (event.Acted c i o)) c
  acted_to After by s c i o r here good may leaves acts =
      let w : World = world s in
      let run = run_logged s (event.Acted c i o) r.run here leaves in
      let given = given_by r.machine i o (not_failed by i good) (subst (λ n. MayAnswer n i o) r.there may) in
      let out = acts run given in
      record {
        run = run;
        machine = machine_after r.machine i o;
        there = acted_machine s c i o r.machine r.there;
        goes = subst (λ v. GoesBy K After v s.queue c (machine_after r.machine i o)) (sym (world_logged s (event.Acted c i o))) (record {
          lone = lone_acted by w s.queue c r.machine i o r.goes.lone good (addresses_by o given.ordered.addressing) here;
          known = out.0;
          holds = holds_of After (machine_after r.machine i o) (happens w (event.Acted c i o)) c (Some o) None w.gear (acted_last w c i o r.goes.lone.up)
              (acted_told w c i o r.goes.lone.up) out.1;
        });
      }

  -- its frame is sent
  pub frame_to : (After : Machine → Option Order → Option Input → List Gear → Type 0) (s : SiteState) (c p : ℕ) (f : Forward) (h : Answer)
      → (r : RunsBy K H s c) → r.machine.last ≡ Some (Put p f) → (controller_at (world s) c).told ≡ None → Allowed (world s) (event.Sent c f h)
      → (IsKnown (world s) c f h → K (controller_at (happens (world s) (event.Sent c f h)) c) r.machine
      × After r.machine (Some (Put p f)) (Some (input.Heard h)) (row_after Everyone (command_of f) 0 (world s).gear (world s).left))
      → RunsBy K After (site_logged s (event.Sent c f h)) c
  frame_to After s c p f h r last told here sends =
      let w : World = world s in
      let known = known_sent s c f h r.run here in
      let lone = lone_sent w s.queue c r.machine p f h r.goes.lone last told in
      let sent = sends known.1 in
      record {
        run = known.0;
        machine = r.machine;
        there = ap (λ ms. machine_in ms c) (machines_logged s (event.Sent c f h)) ∙ r.there;
        goes = subst (λ v. GoesBy K After v s.queue c r.machine) (sym (world_logged s (event.Sent c f h))) (record {
          lone = lone.0;
          known = sent.0;
          holds = holds_of After r.machine (happens w (event.Sent c f h)) c (Some (Put p f)) (Some (input.Heard h))
              (row_after Everyone (command_of f) 0 w.gear w.left) (sent_last w c f h r.goes.lone.up ∙ sym r.goes.lone.last ∙ last) lone.1 sent.1;
        });
      }

  -- what is sent is the request that is next, and that is its frame
  pub sent_to : (P : Event → Type 0) (Heard : Command → Answer → Type 0) (s : SiteState) (c d : ℕ) (f : Forward) (h : Answer) → (r : RunsBy K H s c)
      → ((p : ℕ) (e : Forward) → r.machine.last ≡ Some (Put p e) → (controller_at (world s) c).told ≡ None → Allowed (world s) (event.Sent c e h)
      → Heard (command_of e) h
      → P (event.Sent c e h)) → Allowed (world s) (event.Sent d f h) → (q : Request) × (next_request s ≡ Some q) × (d ≡ q.sender) × (f ≡ q.frame)
      × Heard (command_of f) h → P (event.Sent d f h)
  sent_to P Heard s c d f h r frame here of =
      let put = lone_next (world s) s.queue c r.machine of.0 r.goes.lone of.1 in
      subst (λ e. Allowed (world s) e → P e) (sym (ap (λ n. event.Sent n f h) (of.2 ∙ put.3) ∙ ap (λ g. event.Sent c g h) of.3))
      (λ now. frame put.0 of.0.frame put.1 put.2 now (subst (λ g. Heard (command_of g) h) of.3 of.4)) here

-- what is said between two events: before the start, of a frame that was heard, and of what is to come of an order
abbrev pub HoldsBy : (Machine → List Gear → Type 0) → (Machine → ℕ → Forward → Answer → List Gear → Type 0) → (Machine → Order → List Gear → Type 0) → Machine
    → Option Order → Option Input → List Gear → Type 0
HoldsBy First Hears Next m None (Some input.Start) gs = First m gs
HoldsBy First Hears Next m (Some (Put p f)) (Some (input.Heard h)) gs = Hears m p f h gs
HoldsBy First Hears Next m (Some o) None gs = Next m o gs
HoldsBy First Hears Next m _ _ gs = ⊥

module _ (First : Machine → List Gear → Type 0) (Hears : Machine → ℕ → Forward → Answer → List Gear → Type 0)
    (Next : Machine → Order → List Gear → Type 0) where
  pub holds_next : (m : Machine) (o : Order) (gs : List Gear) → Next m o gs → HoldsBy First Hears Next m (Some o) None gs
  holds_next m (Put p f) gs next = next
  holds_next m _ gs next = next

  -- what follows if the controller acts, by what it acts on: Known of the machine that is told, and To is to be shown of it
  pub acts_from : (by : Bool) (Known : Input → Machine → Type 0) (To : Option Order → Option Input → Machine → Type 0) (w : World) (q c : ℕ) (m : Machine)
      (i : Input) (o : Order) → (m.last ≡ None → IsGivenBy (machine_told m (first_input by)) o → Known (first_input by) (machine_told m (first_input by))
      → First m w.gear → To None (Some input.Start) (machine_told m (first_input by))) → ((p : ℕ) (f : Forward) (h : Answer) → m.last ≡ Some (Put p f)
      → IsGivenBy (machine_heard m (Some f) h) o → Known (input.Heard h) (machine_heard m (Some f) h) → Hears m p f h w.gear
      → To (Some (Put p f)) (Some (input.Heard h)) (machine_heard m (Some f) h)) → ((x : Record) → m.last ≡ Some (Commit x) → m.trace ≡ []
      → IsGivenBy (with_kept m x) o → Known input.Committed (with_kept m x) → Next m (Commit x) w.gear
      → To (Some (Commit x)) None (with_kept m x)) → IsLone w q c m → Succeeds by i → IsDue (controller_at w c) i → IsGivenBy (machine_told m i) o
      → Known i (machine_told m i) → HoldsBy First Hears Next m (controller_at w c).last (controller_at w c).told w.gear
      → To (controller_at w c).last (controller_at w c).told (machine_told m i)
  acts_from by Known To w q c m i o begun heard kept l good due given known holds =
      acts_by by (λ x t j. Moment w q c m (controller_at w c).outstanding x t → m.last ≡ x → IsGivenBy (machine_told m j) o → Known j (machine_told m j)
      → HoldsBy First Hears Next m x t w.gear → To x t (machine_told m j)) (λ at is g n held. begun is g n held)
      (λ p f h at is g n held. (let same : machine_told m (input.Heard h) ≡ machine_heard m (Some f) h = ap (λ x. machine_heard m (frame_put x) h) is in
      subst (To (Some (Put p f)) (Some (input.Heard h))) (sym same)
      (heard p f h is (subst (λ t. IsGivenBy t o) same g) (subst (Known (input.Heard h)) same n) held)))
      (λ x at is g n held. (let same : machine_told m input.Committed ≡ with_kept m x = ap (λ y. machine_committed m (record_ordered y)) is in
      subst (To (Some (Commit x)) None) (sym same) (kept x is at.1 (subst (λ t. IsGivenBy t o) same g) (subst (Known input.Committed) same n) held)))
      w q c m (controller_at w c).outstanding (controller_at w c).last (controller_at w c).told i l.moment (due_of (controller_at w c) i due) good l.moment
      l.last given known holds

-- what an argument says: of which beginning; what is known of the controller; how far its machine is, with how many frames
-- left; how many events come before the next frame; and before the end, of so many frames
pub record Measure : Type 1 where
  pub by : Bool
  pub known : Controller → Machine → Type 0
  pub holds : Machine → Option Order → Option Input → List Gear → ℕ → Type 0
  pub slack : Option Order → Option Input → ℕ
  pub events : ℕ → ℕ

abbrev pub with_left : Measure → ℕ → Machine → Option Order → Option Input → List Gear → Type 0
with_left M left m last told gs = M.holds m last told gs left

abbrev pub Goes : Measure → World → ℕ → ℕ → Machine → ℕ → Type 0
Goes M w q c m left = GoesBy M.known (with_left M left) w q c m

abbrev pub Runs : Measure → SiteState → ℕ → ℕ → Type 0
Runs M s c left = RunsBy M.known (with_left M left) s c

abbrev pub slack_at : Measure → World → ℕ → ℕ
slack_at M w c = M.slack (controller_at w c).last (controller_at w c).told

slack_of : (M : Measure) (w : World) (c : ℕ) (last : Option Order) (told : Option Input) → (controller_at w c).last ≡ last → (controller_at w c).told ≡ told
    → M.slack last told ≡ slack_at M w c
slack_of M w c last told is so = sym (ap (λ l. M.slack l (controller_at w c).told) is ∙ ap (M.slack last) so)

pub held : (M : Measure) (s : SiteState) (c left : ℕ) (m : Machine) (last : Option Order) (told : Option Input) → (r : Runs M s c left)
    → machine_at s c ≡ Some m → (controller_at (world s) c).last ≡ last → (controller_at (world s) c).told ≡ told → M.holds m last told (world s).gear left
held M s c left = held_by M.known (with_left M left) s c

pub held_ended : (M : Measure) (s : SiteState) (c left : ℕ) (e : End) → (r : Runs M s c left) → HasEnded s c e
    → M.holds r.machine (Some (Done e)) None (world s).gear left × Rests (world s) s.queue
held_ended M s c left = ended_at M.known (with_left M left) s c

-- frames that were sent are frames that are no longer left; after one event, and after all
pub record RunsOn (M : Measure) (s : SiteState) (c left : ℕ) (e : Event) : Type 0 where
  pub rest : ℕ
  pub sum : left ≡ (if is_frame e then 1 else 0) + rest
  pub less : M.events rest + slack_at M (world (site_logged s e)) c + 1 ≤ M.events left + slack_at M (world s) c
  pub runs : Runs M (site_logged s e) c rest

pub record RunsAll (M : Measure) (s : SiteState) (c left : ℕ) (es : List Event) : Type 0 where
  pub rest : ℕ
  pub sum : left ≡ frames es + rest
  pub less : M.events rest + slack_at M (world (site_after s es)) c + length es ≤ M.events left + slack_at M (world s) c
  pub runs : Runs M (site_after s es) c rest

-- THE ARGUMENT: the controller acts, and its frame is sent
pub record Argument (M : Measure) : Type 0 where
  pub acts : (s : SiteState) (c : ℕ) (m : Machine) (i : Input) (o : Order) (left : ℕ) → IsRun s.plan s.queue s.log
      → IsRun s.plan s.queue (site_logged s (event.Acted c i o)).log → Goes M (world s) s.queue c m left → Succeeds M.by i
      → Allowed (world s) (event.Acted c i o) → IsGivenBy (machine_told m i) o → (M.by ≡ true → IsWhole (machine_after m i o))
      → M.known (controller_at (happens (world s) (event.Acted c i o)) c) (machine_after m i o)
      × M.holds (machine_after m i o) (Some o) None (world s).gear left × (M.slack (Some o) None + 1 ≤ slack_at M (world s) c)
  pub sends : (s : SiteState) (c : ℕ) (m : Machine) (p : ℕ) (f : Forward) (h : Answer) (left : ℕ) → IsRun s.plan s.queue s.log
      → Goes M (world s) s.queue c m left → m.last ≡ Some (Put p f) → (controller_at (world s) c).told ≡ None → Allowed (world s) (event.Sent c f h)
      → IsKnown (world s) c f h → h ≡ heard_of (answers_of Everyone (command_of f) 0 (world s).gear)
      → (rest : ℕ) × (left ≡ suc rest) × M.known (controller_at (happens (world s) (event.Sent c f h)) c) m
      × M.holds m (Some (Put p f)) (Some (input.Heard h)) (row_after Everyone (command_of f) 0 (world s).gear (world s).left) rest
  pub spends : (p : ℕ) (f : Forward) (h : Answer) (rest left : ℕ) → left ≡ suc rest
      → M.events rest + M.slack (Some (Put p f)) (Some (input.Heard h)) + 1 ≤ M.events left + M.slack (Some (Put p f)) None
  pub halts : (m : Machine) (why : Fault) (gs : List Gear) (left : ℕ) → M.holds m (Some (Halt why)) None gs left → ⊥
  pub first : M.slack None (Some input.Start) ≡ 1

module _ (M : Measure) (a : Argument M) where
  acted_on : (s : SiteState) (c left : ℕ) (i : Input) (o : Order) → Runs M s c left → Allowed (world s) (event.Acted c i o) → Succeeds M.by i
      → MayAnswer (machine_at s c) i o → (M.by ≡ true → LeavesWhole (machine_at s c) i o) → LeavesUsed s.plan.used (event.Acted c i o)
      → RunsOn M s c left (event.Acted c i o)
  acted_on s c left i o r here good may whole leaves =
      let to = acted_to M.known (with_left M left) (λ m last told gs. M.holds m last told gs left × (M.slack last told + 1 ≤ slack_at M (world s) c))
      M.by s c i o r here good may leaves (λ now given.
      (let out = a.acts s c r.machine i o left r.run now r.goes good here given (λ e. subst (λ n. LeavesWhole n i o) r.there (whole e)) in
      (out.0, (out.1, out.2)))) in
      record {
        rest = left;
        sum = omega arith;
        less = more (M.events left) (slack_at M (world (site_logged s (event.Acted c i o))) c) (slack_at M (world s) c) to.goes.holds.1;
        runs = record {
          run = to.run;
          machine = to.machine;
          there = to.there;
          goes = record { lone = to.goes.lone; known = to.goes.known; holds = to.goes.holds.0 };
        };
      }
    where
      more : (x y z : ℕ) → y + 1 ≤ z → x + y + 1 ≤ x + z
      more x y z less = omega (arith, less)

  frame_on : (s : SiteState) (c left p : ℕ) (f : Forward) (h : Answer) → (r : Runs M s c left) → r.machine.last ≡ Some (Put p f)
      → (controller_at (world s) c).told ≡ None → Allowed (world s) (event.Sent c f h) → h ≡ heard_of (answers_of Everyone (command_of f) 0 (world s).gear)
      → RunsOn M s c left (event.Sent c f h)
  frame_on s c left p f h r last told here heard =
      let to = frame_to M.known (with_left M left) (λ m o t gs. (rest : ℕ) × (left ≡ suc rest) × M.holds m o t gs rest
      × (M.events rest + M.slack o t + 1 ≤ M.events left + slack_at M (world s) c))
      s c p f h r last told here (λ known. (let sent = a.sends s c r.machine p f h left r.run r.goes last told here known heard in
      (sent.2, (sent.0, sent.1, sent.3, less sent.0 sent.1))))
      in
      let at = to.goes.holds in
      record {
        rest = at.0;
        sum = at.1 ∙ omega arith;
        less = at.3;
        runs = record { run = to.run; machine = to.machine; there = to.there; goes = record { lone = to.goes.lone; known = to.goes.known; holds = at.2 } };
      }
    where
      less : (rest : ℕ) → left ≡ suc rest → M.events rest + M.slack (Some (Put p f)) (Some (input.Heard h)) + 1 ≤ M.events left + slack_at M (world s) c
      less rest is =
          subst (λ x. M.events rest + M.slack (Some (Put p f)) (Some (input.Heard h)) + 1 ≤ M.events left + x)
          (slack_of M (world s) c (Some (Put p f)) None (sym r.goes.lone.last ∙ last) told) (a.spends p f h rest left is)

  pub runs_on : (s : SiteState) (c left : ℕ) (e : Event) → Runs M s c left → Allowed (world s) e → IsOfRound M.by s c e → RunsOn M s c left e
  runs_on s c left (event.Acted d i o) r here of =
      subst (λ n. Allowed (world s) (event.Acted n i o) → LeavesUsed s.plan.used (event.Acted n i o) → RunsOn M s c left (event.Acted n i o)) (sym of.0)
      (λ now leaves. acted_on s c left i o r now of.1 of.2 of.3 leaves) here of.4
  runs_on s c left (event.Sent d f h) r here of =
      sent_to M.known (with_left M left) (RunsOn M s c left) (λ e a. a ≡ heard_of (answers_of Everyone e 0 (world s).gear)) s c d f h r
      (λ p g last told now heard. frame_on s c left p g h r last told now heard) here of
  runs_on s c left _ r here of = absurd of

  pub runs_all : (s : SiteState) (c left : ℕ) (es : List Event) → Runs M s c left → Rounds M.by s c es → RunsAll M s c left es
  runs_all s c left [] r rounds = record { rest = left; sum = omega arith; less = omega arith; runs = r }
  runs_all s c left (e ∷ es) r rounds =
      let on = runs_on s c left e r rounds.0 rounds.1 in
      let all = runs_all (site_logged s e) c on.rest es on.runs rounds.2 in
      record {
        rest = all.rest;
        sum = both (if is_frame e then 1 else 0) (frames es) left on.rest all.rest on.sum all.sum;
        less = fewer (M.events all.rest) (M.events on.rest) (M.events left) (slack_at M (world (site_after (site_logged s e) es)) c)
            (slack_at M (world (site_logged s e)) c) (slack_at M (world s) c) (length es) on.less all.less;
        runs = all.runs;
      }
    where
      both : (x more left rest last : ℕ) → left ≡ x + rest → rest ≡ more + last → left ≡ x + more + last
      both x more left rest last one two = omega (arith, one, two)

      fewer : (last rest left x y z n : ℕ) → rest + y + 1 ≤ left + z → last + x + n ≤ rest + y → last + x + suc n ≤ left + z
      fewer last rest left x y z n one two = omega (arith, one, two)

  -- so no more events come than so
  pub few_all : (s : SiteState) (c left : ℕ) (es : List Event) → IsAlone s c → RunsAll M s c left es → length es ≤ M.events left + 1
  few_all s c left es alone all =
      few (M.events all.rest) (slack_at M (world (site_after s es)) c) (slack_at M (world s) c)
      (sym (slack_of M (world s) c None (Some input.Start) alone.last alone.told) ∙ a.first) all.less
    where
      few : (rest x y : ℕ) → y ≡ 1 → rest + x + length es ≤ M.events left + y → length es ≤ M.events left + 1
      few rest x y one less = omega (arith, one, less)
