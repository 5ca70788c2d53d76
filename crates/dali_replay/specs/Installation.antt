use Rattle.std.specs.Prelude.{◌≡◌, ◌⊎◌, ℕ, ◌<◌, true, List, length, map, slice_set, slice_index_or}
use Rattle.std.specs.Prelude.{Option, Some, None, Result, Ok, Err}
use Rattle.dali_script.specs.declared.block.Block.{Block}
use Rattle.dali_script.specs.declared.records.Record.{Record}
use Rattle.dali_script.specs.Records.{Kept, without_records}
use Rattle.dali_script.specs.declared.orders.Input.{Input}
use Rattle.dali_script.specs.declared.orders.Input.TheVariants as input
use Rattle.dali_script.specs.declared.orders.Order.{Order}
use Rattle.dali_script.specs.declared.orders.Due.{Due}
use Rattle.dali_script.specs.declared.orders.Due.TheVariants as due
use Rattle.dali_script.specs.Due.{record_ordered}
use Rattle.dali_events.specs.declared.event.Event.{Event}
use Rattle.dali_events.specs.declared.event.Event.TheVariants as event
use Rattle.dali_events.specs.declared.event.Outside.{Outside}
use Rattle.dali_events.specs.Plan.{Plan, no_block, block_at}
use Rattle.dali_events.specs.World.{Controller, controller_at}
use Rattle.dali_events.specs.Happens.{with_outstanding}
use Rattle.dali_events.specs.Allowed.{IsCommit}
use Rattle.dali_standing.specs.Seats.{due_of}
use Rattle.dali_standing.specs.declared.refusal.Refusal.{Refusal}
use Rattle.dali_standing.specs.declared.refusal.Refusal.TheVariants as refusal
use Rattle.dali_events.specs.declared.trouble.Trouble.{Trouble}
use Rattle.dali_standing.specs.declared.report.Report.{Report}
use Rattle.dali_world.specs.Site.{SiteState, Receipt, world, opened_site, IsBarred, IsActRefused}
use Rattle.dali_world.specs.Site.{IsUpRefused, IsUpWith, HasActed, Pumps, IsPumpRefused, Logs}
use Rattle.dali_world.specs.Site.{LogsRequest, Befalls, IsBefallRefused}

-- A CONTROLLER'S STORE: the records that it holds, and the record that was ordered and is still to
-- be committed in it.
pub record Store : Type 0 where
  pub keep : Kept
  pub pending : Option Record

-- AN INSTALLATION: a site, and a store for each of its controllers.
pub record Installation : Type 0 where
  pub site : SiteState
  pub stores : List Store

-- a store with nothing to commit
abbrev pub store_settled : Kept → Store
store_settled k = record { keep = k; pending = None }

abbrev pub no_store : Store
no_store = store_settled (without_records no_block)

abbrev pub empty_store : Block → Store
empty_store b = store_settled (without_records b)

-- of this plan, before anything happens: empty stores, room for 64 requests and 65,536 events
abbrev pub installation_of : Plan → Installation
installation_of p = record { site = opened_site p 64 65536; stores = map empty_store p.blocks }

abbrev pub store_at : Installation → ℕ → Store
store_at n c = slice_index_or n.stores c no_store

-- with another store of controller c
abbrev pub with_store : Installation → ℕ → Store → Installation
with_store n c x = record { site = n.site; stores = slice_set n.stores c x }

-- controller c, as the world of the site has it
abbrev pub controller : Installation → ℕ → Controller
controller n c = controller_at (world n.site) c

-- controller c is there, and is up
abbrev pub IsUpAt : Installation → ℕ → Type 0
IsUpAt n c = (c < length n.site.plan.blocks) × ((controller n c).up ≡ true)

-- A STORE IS IN STEP with its controller. A record that is still to be committed is the one that is
-- outstanding, and the store holds what the site remembers. With none, it holds that with the
-- outstanding record, if there is one; or without it, if no commit is waited for.
abbrev pub IsInStepBy : Option Record → Kept → Controller → Type 0
IsInStepBy (Some x) held k = (k.outstanding ≡ Some x) × (held ≡ k.records)
IsInStepBy None held k =
    (held ≡ with_outstanding k.records k.outstanding) ⊎ ((IsCommit k.last → ⊥) × (held ≡ k.records))

abbrev pub IsInStep : Controller → Store → Type 0
IsInStep k s = IsInStepBy s.pending s.keep k

-- What holds of every installation: a store for each controller, of its block, and in step with it.
pub record IsInstalled (n : Installation) : Type 0 where
  pub count : length n.stores ≡ length n.site.plan.blocks
  pub block : (c : ℕ) → c < length n.stores → (store_at n c).keep.block ≡ block_at n.site.plan c
  pub in_step : (c : ℕ) → c < length (world n.site).controllers
      → IsInStep (controller n c) (store_at n c)

-- ---------------------------------------------------------------- commits

-- A COMMIT: the store holds the record that was pending, and nothing is pending. It is never
-- refused.
abbrev pub store_committed : Store → Store
store_committed s = store_settled (with_outstanding s.keep s.pending)

-- if a controller waits for its store, Committed is told of a commit that was made
abbrev pub IsMade : Input → Due → Option Record → Type 0
IsMade i d pending = i ≡ input.Committed → d ≡ due.Store → pending ≡ None

-- ---------------------------------------------------------------- `go c`

-- What `go` gives controller c to act on. If c waits for its commit, that is Committed, and the
-- commit is made now unless it was made before. Else it is what the bus has told c.
abbrev pub IsGivenBy : Due → Installation → ℕ → Input → Installation → Type 0
IsGivenBy due.Store n c i m =
    (i ≡ input.Committed) × (m ≡ with_store n c (store_committed (store_at n c)))
IsGivenBy due.Start n c i m = ((controller n c).told ≡ Some i) × (m ≡ n)
IsGivenBy due.Bus n c i m = ((controller n c).told ≡ Some i) × (m ≡ n)
IsGivenBy due.Nothing n c i m = ((controller n c).told ≡ Some i) × (m ≡ n)

abbrev pub IsGiven : Installation → ℕ → Input → Installation → Type 0
IsGiven n c i m = IsGivenBy (due_of (controller n c)) n c i m

-- and when nothing is due
abbrev pub HasNoneBy : Due → Controller → Type 0
HasNoneBy due.Store k = ⊥
HasNoneBy due.Start k = k.told ≡ None
HasNoneBy due.Bus k = k.told ≡ None
HasNoneBy due.Nothing k = k.told ≡ None

abbrev pub HasNone : Installation → ℕ → Type 0
HasNone n c = HasNoneBy (due_of (controller n c)) (controller n c)

-- The controller acts: the log has one event more, and a record that was ordered is pending in its
-- store.
pub record HasStepped (n : Installation) (c : ℕ) (i : Input) (o : Order)
    (m : Installation) : Type 0 where
  pub receipt : Receipt
  pub acted : HasActed n.site c i receipt m.site
  pub order : receipt.order ≡ o
  pub stores : m.stores
      ≡ slice_set n.stores c
      (record { keep = (store_at n c).keep; pending = record_ordered (Some o) })

-- A refused `go`: there is no such controller, or it is down; nothing is due; or the site refuses.
-- It changes nothing, but a commit that it made stays.
abbrev pub IsGoRefused : Installation → ℕ → Refusal → Installation → Type 0
IsGoRefused n c e m =
    (IsBarred n.site c e × (m ≡ n))
    ⊎ (IsUpAt n c × HasNone n c × (e ≡ refusal.NotDue) × (m ≡ n))
    ⊎ (IsUpAt n c × (i : Input) × IsGiven n c i m × IsActRefused m.site c i e)

abbrev pub Goes : Installation → ℕ → Result Order Refusal → Installation → Type 0
Goes n c (Ok o) m =
    IsUpAt n c × (i : Input) × (given : Installation) × IsGiven n c i given
    × HasStepped given c i o m
Goes n c (Err e) m = IsGoRefused n c e m

-- ------------------------------------------------------- `store c`, `fail c`, `survey c`

-- whether a commit is outstanding that was not made
abbrev pub IsPendingBy : Due → Option Record → Type 0
IsPendingBy due.Store (Some x) = Unit {0}
IsPendingBy due.Store None = ⊥
IsPendingBy due.Start pending = ⊥
IsPendingBy due.Bus pending = ⊥
IsPendingBy due.Nothing pending = ⊥

abbrev pub IsPending : Installation → ℕ → Type 0
IsPending n c = IsPendingBy (due_of (controller n c)) (store_at n c).pending

-- `store` makes it; the site is not told
abbrev pub Stores : Installation → ℕ → Result (Unit {0}) Refusal → Installation → Type 0
Stores n c (Ok _) m =
    IsUpAt n c × IsPending n c × (m ≡ with_store n c (store_committed (store_at n c)))
Stores n c (Err refusal.NotDue) m = IsUpAt n c × (IsPending n c → ⊥) × (m ≡ n)
Stores n c (Err e) m = IsBarred n.site c e × (m ≡ n)

-- `fail` tells that the commit failed, and makes none
abbrev pub Fails : Installation → ℕ → Result Order Refusal → Installation → Type 0
Fails n c (Ok o) m = HasStepped n c input.CommitFailed o m
Fails n c (Err e) m = IsActRefused n.site c input.CommitFailed e × (m ≡ n)

-- `survey` tells the controller to begin by a survey
abbrev pub Surveys : Installation → ℕ → Result Order Refusal → Installation → Type 0
Surveys n c (Ok o) m = HasStepped n c input.Survey o m
Surveys n c (Err e) m = IsActRefused n.site c input.Survey e × (m ≡ n)

-- ----------------------------------------------- `up c`, and the calls that no store takes part in

-- the controller comes up with what its store holds, and nothing is pending there
abbrev pub ComesUp : Installation → ℕ → Result (Unit {0}) Refusal → Installation → Type 0
ComesUp n c (Ok _) m =
    IsUpWith n.site c (store_at n c).keep m.site
    × (m.stores ≡ slice_set n.stores c (store_settled (store_at n c).keep))
ComesUp n c (Err e) m = IsUpRefused n.site c (store_at n c).keep e × (m ≡ n)

-- a call of the site, by what it does if it is accepted, and by its refusals
abbrev pub Calls : {A : Type 0} → (A → SiteState → Type 0) → (Refusal → Type 0) → Installation
    → Result A Refusal → Installation → Type 0
Calls Does IsRefused n (Ok a) m = Does a m.site × (m.stores ≡ n.stores)
Calls Does IsRefused n (Err e) m = IsRefused e × (m ≡ n)

abbrev pub PumpsOn : Installation → Trouble → Result Report Refusal → Installation → Type 0
PumpsOn n t result m = Calls (Pumps n.site t) (IsPumpRefused n.site t) n result m

abbrev pub BefallsOn : Installation → Outside → Result (Unit {0}) Refusal → Installation → Type 0
BefallsOn n x result m =
    Calls (λ _ t. Befalls n.site x t) (IsBefallRefused n.site x) n result m

-- one event more, by which a request waits; and the bus lapses: who owned it
abbrev pub Requests : SiteState → Event → Unit {0} → SiteState → Type 0
Requests s e _ t = LogsRequest s e t

abbrev pub Lapses : SiteState → Option ℕ → SiteState → Type 0
Lapses s owner t = (owner ≡ (world s).bus.owner) × Logs s event.Lapsed t
