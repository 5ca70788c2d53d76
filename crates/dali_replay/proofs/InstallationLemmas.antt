use Rattle.std.proofs.Common.{◌≡◌, ℕ, ◌<◌, inl, inr, true, List, length, set, get_or, Some, Result, Ok, Err, refl, sym, ap, subst, ◌∙◌, IfSome, IfOk, IfErr}
use Rattle.std.proofs.{Common.OnErr, lemmas.List.get_or_read_under, lemmas.List.set-get_or}
use Rattle.dali_script.specs.{Due.record_ordered, Records.Kept, Records.Fits, declared.block.Block.Block}
use Rattle.dali_script.specs.declared.orders.{Due.Due, Input.Input, Order.Order}
use Rattle.dali_script.specs.declared.orders.Due.TheVariants as due
use Rattle.dali_events.specs.Plan.{block_at}
use Rattle.dali_standing.specs.{Seats.due_of, declared.refusal.Refusal.Refusal}
use Rattle.dali_world.specs.Site.{SiteState, Receipt, Acts, HasActed, IsActRefused, IsUpRefused}
use Rattle.dali_replay.specs.Installation.{Store, Installation, no_store, store_at, controller, IsUpAt, IsInstalled, IsGivenBy, IsGiven, HasStepped, Goes}
use Rattle.dali_replay.specs.Rounds.{has_turn_by, HasTurn}

-- ---------------------------------------------------------------- what `act` says

pub acted_of : (s : SiteState) (c : ℕ) (i : Input) (r : Receipt) (t : SiteState) (result : Result Receipt Refusal) → result ≡ Ok r → Acts s c i result t
    → HasActed s c i r t
unfolding Acts
acted_of s c i r t result is acts = (subst (λ (x : Result Receipt Refusal). IfOk x (λ y. HasActed s c i y t)) is acts.0)

pub refused_of : (s : SiteState) (c : ℕ) (i : Input) (e : Refusal) (t : SiteState) (result : Result Receipt Refusal) → result ≡ Err e → Acts s c i result t
    → IsActRefused s c i e
unfolding Acts
refused_of s c i e t result is acts = (subst (λ (x : Result Receipt Refusal). IfErr x (IsActRefused s c i)) is acts.1)

-- a record that was ordered fits its store, which is of the controller's block
pub fits_store : (o p : Order) (b d : Block) → IfSome (record_ordered (Some p)) (Fits d) → o ≡ p → b ≡ d
    → IfSome (record_ordered (Some o)) (Fits b)
fits_store o p b d fits same is = rw (same, is) fits

-- ---------------------------------------------------------------- `go`

-- the site's answer is the answer of `go`
answers : (n given m : Installation) (c : ℕ) (i : Input) (result : Result Order Refusal) → IsUpAt n c → IsGiven n c i given
    → IfOk result (λ o. HasStepped given c i o m) → IfErr result (λ e. IsActRefused given.site c i e) → OnErr result (m ≡ given) → Goes n c result m
answers n given m c i (Ok o) up is stepped refused same = (up, i, given, is, stepped)
answers n given m c i (Err e) up is stepped refused same =
    rw same (inr (inr (up, i, is, refused)))

pub goes : (n given m : Installation) (c d : ℕ) (i : Input) (result : Result Order Refusal) → d ≡ c → IsUpAt n d → IsGiven n d i given
    → IfOk result (λ o. HasStepped given d i o m) → IfErr result (λ e. IsActRefused given.site d i e) → OnErr result (m ≡ given) → Goes n c result m
goes n given m c d i result number up is stepped refused same =
    subst (λ (k : ℕ). Goes n k result m) number (answers n given m d i result up is stepped refused same)

-- who is given something has a turn
given_turn : (d : Due) (n given : Installation) (c : ℕ) (i : Input) → IsGivenBy d n c i given → has_turn_by d (controller n c) ≡ true
given_turn due.Store n given c i is = refl
given_turn _ n given c i is = rw (is.0) refl

pub gone : (n given m : Installation) (c : ℕ) (i : Input) (o : Order) → IsUpAt n c → IsGiven n c i given → HasStepped given c i o m
    → HasTurn n c (Ok (Some o)) m
gone n given m c i o up is stepped = (given_turn (due_of (controller n c)) n given c i is, (up, i, given, is, stepped))

-- the store of a controller, as it is read
pub store_read : (n : Installation) (c : ℕ) (x : Store) → x ≡ get_or n.stores c x → c < length n.stores → x ≡ store_at n c
store_read n c x read there = get_or_read_under n.stores c (length n.stores) x no_store read there refl

pub stores_there : (n : Installation) (c : ℕ) → IsInstalled n → c < length n.site.plan.blocks → c < length n.stores
stores_there n c inst there = rw (inst.count) there

-- and its block
pub block_read : (n : Installation) (c : ℕ) (x : Store) → IsInstalled n → x ≡ get_or n.stores c x → c < length n.site.plan.blocks
    → x.keep.block ≡ block_at n.site.plan c
block_read n c x inst read there =
    let here : c < length n.stores = rw (inst.count) there in
    rw (store_read n c x read here) (inst.block c here)

-- a refused `up` leaves the store as it was read
pub up_refused : (n : Installation) (c d : ℕ) (t : SiteState) (copy : Kept) (was mid : Store) (e : Refusal) → d ≡ c → IsUpRefused n.site d copy e
    → copy ≡ was.keep → mid ≡ was
    → was ≡ store_at n d → t ≡ n.site → IsUpRefused n.site c (store_at n c).keep e × ((record { site = t; stores = set n.stores d mid }) ≡ n)
up_refused n c d t copy was mid e number refused kept same read site =
    let held : copy ≡ (store_at n d).keep = kept ∙ ap (λ (y : Store). y.keep) read in
    let back : set n.stores d mid ≡ n.stores = ap (λ (y : Store). set n.stores d y) (same ∙ read) ∙ set-get_or n.stores d no_store in (
      subst (λ (k : ℕ). IsUpRefused n.site k (store_at n k).keep e) number (subst (λ (k : Kept). IsUpRefused n.site d k e) held refused),
      ap (λ (x : SiteState). record { site = x; stores = set n.stores d mid }) site ∙ ap (λ (ss : List Store). record { site = n.site; stores = ss }) back,
    )

-- a step, from its parts
pub stepped_of : (n m : Installation) (c : ℕ) (i : Input) (r : Receipt) (o p : Order) (was x : Store) → HasActed n.site c i r m.site → o ≡ r.order → p ≡ r.order
    → was ≡ store_at n c
    → x ≡ (record { keep = was.keep; pending = record_ordered (Some p) }) → m.stores ≡ set n.stores c x → HasStepped n c i o m
stepped_of n m c i r o p was x acted same also read next stores = record {
  receipt = r;
  acted = acted;
  order = sym same;
  stores = stores ∙ ap (λ (y : Store). set n.stores c y) (next ∙ ap (λ (y : Store). record { keep = y.keep; pending = record_ordered (Some p) }) read
      ∙ ap (λ (q : Order). record { keep = (store_at n c).keep; pending = record_ordered (Some q) }) (also ∙ sym same));
}

-- ---------------------------------------------------------------- the plan stays

given_plan : (k : Due) (n m : Installation) (c : ℕ) (i : Input) → IsGivenBy k n c i m → m.site ≡ n.site
given_plan due.Store n m c i is = rw (is.1) refl
given_plan due.Start n m c i is = rw (is.1) refl
given_plan due.Bus n m c i is = rw (is.1) refl
given_plan due.Nothing n m c i is = rw (is.1) refl

stepped_plan : (n m : Installation) (c : ℕ) (i : Input) (o : Order) → HasStepped n c i o m → m.site.plan ≡ n.site.plan
stepped_plan n m c i o step = ap (λ (s : SiteState). s.plan) step.acted.logs.0.logged

pub goes_plan : (n m : Installation) (c : ℕ) (result : Result Order Refusal) → Goes n c result m → m.site.plan ≡ n.site.plan
goes_plan n m c (Ok o) is = stepped_plan is.2 m c is.1 o is.4 ∙ ap (λ (s : SiteState). s.plan) (given_plan (due_of (controller n c)) n is.2 c is.1 is.3)
goes_plan n m c (Err e) (inl is) = rw (is.1) refl
goes_plan n m c (Err e) (inr (inl is)) = rw (is.3) refl
goes_plan n m c (Err e) (inr (inr is)) = ap (λ (s : SiteState). s.plan) (given_plan (due_of (controller n c)) n m c is.1 is.2)
