use Rattle.std.specs.Prelude.{◌≡◌, ◌⊎◌, ℕ, ◌<◌, Bool, true, false, List, length, All, None, IsSome}
use Rattle.dali_script.specs.declared.orders.Due.TheVariants as due
use Rattle.dali_events.specs.World.{controller_at}
use Rattle.dali_events.specs.Promise.{KeepsPromise}
use Rattle.dali_standing.specs.Seats.{due_of}
use Rattle.dali_standing.specs.declared.report.Report.{Report}
use Rattle.dali_standing.specs.declared.report.Report.TheVariants as report
use Rattle.dali_world.specs.Site.{SiteState, world, share_of, next_request, IsSound, IsCrowded}
use Rattle.dali_line.specs.Shares.{PortShare, total_of}
use Rattle.dali_line.specs.Counts.{others_of, counts_of}
use Rattle.dali_line.specs.declared.ready.Ready.{Ready}
use Rattle.dali_line.specs.declared.ready.Ready.TheVariants as ready

-- A SITE AS IT IS FOUND UNDER THE LOCK by a caller that knows one share of its log. The site keeps
-- its promise, and `count`, how many of its events are the caller's, is that share.
pub record IsFound (s : SiteState) (count known : ℕ) : Type 0 where
  pub sound : IsSound s
  pub promise : KeepsPromise s.plan s.queue s.log
  pub share : count ≡ known

-- by a port, and by the driver
abbrev pub IsFoundFrom : PortShare → SiteState → Type 0
IsFoundFrom port s = IsFound s (share_of port.controller s.log) port.share

abbrev pub IsFoundByDriver : ℕ → SiteState → Type 0
IsFoundByDriver share s = IsFound s (others_of s.log) share

-- a report tells of one event, unless nothing was next
abbrev pub events_in : Report → ℕ
events_in report.Idle = 0
events_in (report.Sent c f h) = 1
events_in (report.Destroyed c f) = 1
events_in (report.Collided c f d g) = 1

-- A CALL of a port, or of the driver, is one of a site found under the lock.
abbrev pub FromPort : PortShare → (SiteState → Type 0) → Type 0
FromPort port Answers = (s : SiteState) × IsFoundFrom port s × Answers s

abbrev pub FromDriver : ℕ → (SiteState → Type 0) → Type 0
FromDriver share Answers = (s : SiteState) × IsFoundByDriver share s × Answers s

-- something is due for controller c: the bus has told it something, or it is to start; or its
-- commit is to be made
abbrev pub HasDue : SiteState → ℕ → Type 0
HasDue s c =
    IsSome (controller_at (world s) c).told ⊎ (due_of (controller_at (world s) c) ≡ due.Store)

-- controller c has no reason to wait: the line is stopped, something is due for c, or c is down
abbrev pub Wakes : Bool → SiteState → ℕ → Type 0
Wakes stopped s c =
    (stopped ≡ true) ⊎ (HasDue s c ⊎ ((controller_at (world s) c).up ≡ false))

-- HOW A WAIT ENDS: something is due, and the line is not stopped (true); or it is stopped, or the
-- controller is down and nothing is due for it (false)
abbrev pub EndsWait : Bool → SiteState → ℕ → Bool → Type 0
EndsWait stopped s c true = (stopped ≡ false) × HasDue s c
EndsWait stopped s c false =
    (stopped ≡ true) ⊎ (((controller_at (world s) c).up ≡ false) × (HasDue s c → ⊥))

-- controller c is not refused for want of room: a request more may wait; or it is down
abbrev pub MayOffer : SiteState → ℕ → Type 0
MayOffer s c = (IsCrowded s → ⊥) ⊎ ((controller_at (world s) c).up ≡ false)

-- controller c has no reason to wait for room
abbrev pub WakesForRoom : Bool → SiteState → ℕ → Type 0
WakesForRoom stopped s c = (stopped ≡ true) ⊎ MayOffer s c

-- HOW A WAIT FOR ROOM ENDS: there is room, and the line is not stopped (true); or it is stopped
abbrev pub EndsWaitForRoom : Bool → SiteState → ℕ → Bool → Type 0
EndsWaitForRoom stopped s c true = (stopped ≡ false) × MayOffer s c
EndsWaitForRoom stopped s c false = stopped ≡ true

-- nothing is due for any controller: each has ended, has halted or is down
abbrev pub HaveEnded : SiteState → Type 0
HaveEnded s =
    (c : ℕ) → c < length s.plan.blocks → due_of (controller_at (world s) c) ≡ due.Nothing

-- no controller owns the bus, no request waits for it, and all controllers have ended
pub record IsOver (s : SiteState) : Type 0 where
  pub free : (world s).bus.owner ≡ None
  pub idle : next_request s ≡ None
  pub ended : HaveEnded s

-- nothing can be sent: no request is next, and no more may wait
abbrev pub IsStuck : SiteState → Type 0
IsStuck s = (next_request s ≡ None) × IsCrowded s

-- WHAT THE DRIVER IS TOLD of a line that is stopped, or not: the first of these that holds
abbrev pub IsReady : Bool → SiteState → Ready → Type 0
IsReady stopped s ready.Stopped = stopped ≡ true
IsReady stopped s ready.Next = (stopped ≡ false) × IsSome (next_request s)
IsReady stopped s ready.Full = (stopped ≡ false) × IsStuck s
IsReady stopped s ready.Over = (stopped ≡ false) × (IsCrowded s → ⊥) × IsOver s

-- and nothing, while none of them holds
pub record IsBusy (stopped : Bool) (s : SiteState) : Type 0 where
  pub runs : stopped ≡ false
  pub idle : next_request s ≡ None
  pub room : IsCrowded s → ⊥
  pub more : IsOver s → ⊥

-- A SITE THAT A LINE GIVES BACK. It keeps its promise, and each share that came back is what its
-- log has. Each event of the log is in one of the five shares, and in one alone.
pub record IsGivenBack (s : SiteState) (ports : List PortShare) (driver : ℕ) : Type 0 where
  pub sound : IsSound s
  pub promise : KeepsPromise s.plan s.queue s.log
  pub shares : All (λ one. share_of one.controller s.log ≡ one.share) ports
  pub others : others_of s.log ≡ driver
  pub whole : total_of (counts_of s.log) ≡ length s.log
