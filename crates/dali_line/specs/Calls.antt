use Rattle.std.specs.Prelude.{◌≡◌, ℕ, ◌+◌, false, Option, None, Some, Result, Ok, Err}
use Rattle.std.specs.Prelude.{IfOk, IfErr, OnOk, OnErr}
use Rattle.dali_frame.specs.declared.frames.Forward.{Forward}
use Rattle.dali_script.specs.declared.orders.Input.{Input}
use Rattle.dali_script.specs.declared.orders.Order.{Order}
use Rattle.dali_script.specs.declared.records.Record.{Record}
use Rattle.dali_script.specs.Due.{record_ordered}
use Rattle.dali_script.specs.Records.{Kept}
use Rattle.dali_events.specs.declared.event.Event.TheVariants as event
use Rattle.dali_events.specs.World.{controller_at}
use Rattle.dali_standing.specs.declared.refusal.Refusal.{Refusal}
use Rattle.dali_standing.specs.declared.refusal.Refusal.TheVariants as refusal
use Rattle.dali_events.specs.declared.trouble.Trouble.{Trouble}
use Rattle.dali_standing.specs.declared.report.Report.{Report}
use Rattle.dali_world.specs.Site.{SiteState, Receipt, world, Acts, Logs, LogsRequest, IsFull, Pumps}
use Rattle.dali_world.specs.Site.{IsUpWith, IsArcRefused, IsPumpRefused, IsUpRefused}
use Rattle.dali_line.specs.Shares.{PortShare, raised_share}
use Rattle.dali_line.specs.Found.{FromPort, FromDriver, events_in}
use Rattle.dali_line.specs.declared.up_refusal.UpRefusal.{UpRefusal}
use Rattle.dali_line.specs.declared.up_refusal.UpRefusal.TheVariants as up

-- WHAT THE CALLS OF A SITE ANSWER, in one closed relation each: the site before, the arguments, the
-- answer, the site after. `Acts` and `HasBefallen` of `dali_world` are those of `act` and `befall`.
-- An accepted call adds its one event; a refusal is the first cause that holds, and changes
-- nothing.

unfoldable pub Offers : SiteState → ℕ → Forward → Result (Unit {0}) Refusal → SiteState → Type 0
Offers s c f result new =
    OnOk result (LogsRequest s (event.Offered c f) new) × IfErr result (IsArcRefused s c f)
    × OnErr result (new ≡ s)

unfoldable pub PumpsOnce : SiteState → Trouble → Result Report Refusal → SiteState → Type 0
PumpsOnce s t result new =
    IfOk result (λ report. Pumps s t report new) × IfErr result (IsPumpRefused s t)
    × OnErr result (new ≡ s)

unfoldable pub Lapses : SiteState → Result (Option ℕ) Refusal → SiteState → Type 0
Lapses s result new =
    IfOk result (λ owner. (owner ≡ (world s).bus.owner) × Logs s event.Lapsed new)
    × IfErr result (λ e. (e ≡ refusal.LogFull) × IsFull s) × OnErr result (new ≡ s)

-- why a controller does not come up at a line: the site refuses it; or it is down, with a commit
-- open
abbrev pub IsRefusedUp : SiteState → ℕ → Kept → UpRefusal → Type 0
IsRefusedUp s c copy (up.Site e) = IsUpRefused s c copy e
IsRefusedUp s c copy up.CommitOpen = (controller_at (world s) c).up ≡ false

unfoldable pub ComesUp : SiteState → ℕ → Kept → Result (Unit {0}) UpRefusal → SiteState → Type 0
ComesUp s c copy result new =
    OnOk result (IsUpWith s c copy new) × IfErr result (IsRefusedUp s c copy)
    × OnErr result (new ≡ s)

-- WHAT THE CALLS OF A LINE SAY to a caller that knows it as a `Bus`. Each is a call of a site found
-- under the lock, between the shares before and after it.

abbrev pub ActsFrom : PortShare → Input → Order → PortShare → Type 0
ActsFrom port input ordered after =
    FromPort port (λ s. (new : SiteState) × (r : Receipt) × Acts s port.controller input (Ok r) new
    × (r.order ≡ ordered)) × (after ≡ raised_share port)

abbrev pub IsRefusedFrom : PortShare → Input → Refusal → Type 0
IsRefusedFrom port input refusal =
    FromPort port (λ s. (new : SiteState) × Acts s port.controller input (Err refusal) new)

abbrev pub IsOrderedFrom : PortShare → Record → Type 0
IsOrderedFrom port r =
    FromPort port (λ s. record_ordered (controller_at (world s) port.controller).last ≡ Some r)

abbrev pub IsUnorderedFrom : PortShare → Type 0
IsUnorderedFrom port =
    FromPort port (λ s. record_ordered (controller_at (world s) port.controller).last ≡ None)

abbrev pub IsToldFrom : PortShare → Input → Type 0
IsToldFrom port i = FromPort port (λ s. (controller_at (world s) port.controller).told ≡ Some i)

abbrev pub IsUntoldFrom : PortShare → Type 0
IsUntoldFrom port = FromPort port (λ s. (controller_at (world s) port.controller).told ≡ None)

abbrev pub IsDownFrom : PortShare → Type 0
IsDownFrom port = FromPort port (λ s. (controller_at (world s) port.controller).up ≡ false)

abbrev pub PumpsFrom : ℕ → Trouble → Report → ℕ → Type 0
PumpsFrom driver trouble report after =
    FromDriver driver (λ s. (new : SiteState) × PumpsOnce s trouble (Ok report) new)
    × (after ≡ driver + events_in report)

abbrev pub LapsesFrom : ℕ → ℕ → Type 0
LapsesFrom driver after =
    FromDriver driver (λ s. (new : SiteState) × (owner : Option ℕ) × Lapses s (Ok owner) new)
    × (after ≡ driver + 1)
