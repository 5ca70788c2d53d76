use Rattle.dali_progress.proofs.Below.{◌≡◌, ℕ, ◌+◌, ◌<◌, ◌≤◌, ◌⊎◌, inl, inr, Bool, true, false, zero, suc, List, [], ◌∷◌, refl, sym, ap, subst, ◌∙◌, arith}
use Rattle.dali_progress.proofs.Below.{length, Some, None, if◌then◌else◌, ◌==◌, slice_index_or, count_by, Gear, Has, InBlock, Assignment, Kept, End, Block}
use Rattle.dali_progress.proofs.Below.{has_map, mapped_from, block_at, Plan, IsPlan, no_block, HoldsShort, KeepsAddresses, IsRun, HasShort, gear_of, is_bare}
use Rattle.dali_progress.proofs.Below.{gear_at, controller_at, Event, Used, IsReservedFor, IsOfUsed, used_gear, used_shorts, holds_after, Holds, IsUsedOrFresh}
use Rattle.dali_progress.proofs.Below.{row_at, start_count, stands, bare_is, same_number, number_same, SiteState, world, opened_site, records_now, table_at}
use Rattle.dali_progress.proofs.Below.{IsUnseen, IsVacant, HasVacant, HasNew, only, IsServed, IsReplacing, Rounds, BySurvey, IsAlone, IsSettledAt, HasEnded}
use Rattle.dali_progress.proofs.Below.{site_after, most_frames, bare, BeginsAlone, ByStart, most_events, RanAlone, HasBegun, HasRoom, HasEndedBy, Installation}
use Rattle.dali_progress.proofs.{Below.{installation_of, Ran}, Beginnings.{runs_after, named, begins_settled}, Gives.Gives, Survey.Drawn.count_first}
use Rattle.dali_progress.proofs.Survey.{Drawn.count_nothing, Vacant.{all_give, IsOver, over, enough_found}, Goes.{began_at, starts, one_now, tabled}}
use Rattle.dali_progress.{proofs.{Both.has_address, Logged.begins_new, Refused.{run_commissions, ran_new, room_new}}, specs.Replaced.AreNamed}

-- A NEW GEAR IS SERVED in a survey, if an address is vacant, and the others keep what they have.

-- ---------------------------------------------------------------- what is known at the end

-- short addresses are below 64
short_now : (s : SiteState) → IsRun s.plan s.queue s.log → (k b : ℕ) → k < length (world s).gear → (gear_of (world s).gear k).short ≡ Some b → b < 64
short_now s run k b there short = (holds_after s.plan s.queue s.log run).known.short k there b short

-- ---------------------------------------------------------------- the address that it is given

module _ (s : SiteState) (c g a : ℕ) (new : HasNew s c g a) (t : SiteState) (gives : Gives (block_at s.plan c) (world s).gear (world t).gear) where
  abbrev gs : List Gear
  gs = (world s).gear

  abbrev hs : List Gear
  hs = (world t).gear

  none_before : (gear_of gs g).short ≡ None
  none_before = (bare_is (gear_of gs g) new.bare).1

  -- the address that it has was vacant
  address_vacant : ((i j b : ℕ) → i < length hs → j < length hs → (gear_of hs i).short ≡ Some b → (gear_of hs j).short ≡ Some b → i ≡ j) → (b : ℕ)
      → (gear_of hs g).short ≡ Some b → IsVacant s b
  address_vacant one b short k (there, had) =
      let in_row : (i : ℕ) → i < length gs → i < length hs = λ i h. subst (λ n. i < n) (sym gives.count) h in
      let same : k ≡ g = one k g b (in_row k there) (in_row g new.there) (gives.short k b there had) short in
      let both : None ≡ Some b = sym none_before ∙ ap (λ n. (gear_of gs n).short) (sym same) ∙ had in cc

  address_within : (b : ℕ) → (gear_of hs g).short ≡ Some b → InBlock (block_at s.plan c) b
  address_within b short = go (gives.given g b new.there short) where
    go : ((gear_of gs g).short ≡ Some b) ⊎ (((gear_of gs g).powered ≡ true) × ((gear_of gs g).short ≡ None) × InBlock (block_at s.plan c) b)
        → InBlock (block_at s.plan c) b
    go (inl had) = absurd (let both : None ≡ Some b = sym none_before ∙ had in cc)
    go (inr now) = now.2

-- ---------------------------------------------------------------- the laws

-- one gear at most is so
one_counted : (p : Gear → Bool) (gs : List Gear) (g : ℕ) → ((k : ℕ) → k < length gs → p (gear_of gs k) ≡ true → k ≡ g) → count_by p gs ≤ 1
one_counted p [] g alone = omega arith
one_counted p (x ∷ gs) g alone = subst (λ n. n ≤ 1) (sym (count_first p x gs)) (go (p x) refl g alone (one_counted p gs)) where
  go : (b : Bool) → p x ≡ b → (h : ℕ) → ((k : ℕ) → k < length (x ∷ gs) → p (gear_of (x ∷ gs) k) ≡ true → k ≡ h)
      → ((i : ℕ) → ((k : ℕ) → k < length gs → p (gear_of gs k) ≡ true → k ≡ i) → count_by p gs ≤ 1) → (if b then 1 else 0) + count_by p gs ≤ 1
  go true is h one rest =
      let first : 0 ≡ h = one 0 (omega arith) is in
      let none : count_by p gs ≡ 0 =
      count_nothing p gs (λ k there so. (let next : suc k ≡ h = one (suc k) (omega (arith, there)) so in omega (arith, first, next))) in
      omega (arith, none)
  go false is zero one rest =
      let none : count_by p gs ≡ 0 =
      count_nothing p gs (λ k there so. (let next : suc k ≡ 0 = one (suc k) (omega (arith, there)) so in omega (arith, next))) in
      omega (arith, none)
  go false is (suc h) one rest =
      let few : count_by p gs ≤ 1 = rest h (λ k there so. (let next : suc k ≡ suc h = one (suc k) (omega (arith, there)) so in omega (arith, next))) in
      omega (arith, few)

pub one_new : (s : SiteState) (c g a : ℕ) → HasNew s c g a → bare s ≤ 1
one_new s c g a new = one_counted is_bare (world s).gear g new.alone

only_vacant : (s : SiteState) (c g a : ℕ) → IsSettledAt s c → HasNew s c g a → HasVacant s c
only_vacant s c g a settled new = record {
  addresses = a ∷ [];
  once = (λ has. has, tt);
  within = λ b has. subst (InBlock (block_at s.plan c)) (same b has) new.within;
  vacant = λ b has. subst (IsVacant s) (same b has) new.vacant;
  settled = λ b has r. settled (b, r);
  enough = let one = one_new s c g a new in omega (arith, one);
} where
  same : (b : ℕ) → Has (a ∷ []) b → a ≡ b
  same b (inl is) = is
  same b (inr has) = absurd has

pub served : (s : SiteState) (c g a : ℕ) (es : List Event) (e : End) → IsAlone s c → IsSettledAt s c → HasNew s c g a → Rounds true s c es
    → HasEnded (site_after s es) c e → IsServed s (site_after s es) c g e
served s c g a es e alone settled new rounds ended =
    let found = enough_found s c es e alone (only_vacant s c g a settled new) rounds ended in
    let short : HasShort (gear_of hs g) = found.1 g there on in
    record {
      found = found.0;
      address = short.0;
      within = address_within s c g a new t now.gives short.0 short.1;
      vacant = address_vacant s c g a new t now.gives (one_now t now.by.run) short.0 short.1;
      holds = (there, short.1);
      named = entry short.0 short.1 (tabled s t c e now.by g short.0 there (short_now t now.by.run g short.0 there short.1) short.1);
    }
  where
    t : SiteState
    t = site_after s es

    hs : List Gear
    hs = (world t).gear

    now : IsOver s c es e
    now = over s c es e alone rounds ended

    there : g < length hs
    there = subst (λ n. g < n) (sym now.gives.count) new.there

    on : (gear_of hs g).powered ≡ true
    on = now.gives.power g new.there ∙ (bare_is (gear_of (world s).gear g) new.bare).0

    entry : (b : ℕ) → (gear_of hs g).short ≡ Some b
        → Has (table_at t c) (b, (gear_of hs g).random) ⊎ (((gear_of (world s).gear g).short ≡ Some b) × IsUnseen (gear_of (world s).gear g))
        → Has (table_at t c) (b, (gear_of hs g).random)
    entry b short (inl has) = has
    entry b short (inr had) = absurd (let both : None ≡ Some b = sym (bare_is (gear_of (world s).gear g) new.bare).1 ∙ had.0 in cc)

-- in a block of one address that is the one
pub served_only : (s : SiteState) (c g a : ℕ) (es : List Event) (e : End) → IsAlone s c → IsSettledAt s c → HasNew s c g a → block_at s.plan c ≡ only a
    → Rounds true s c es → HasEnded (site_after s es) c e
    → HoldsShort (world (site_after s es)) g a × Has (table_at (site_after s es) c) (a, (gear_at (world (site_after s es)) g).random)
served_only s c g a es e alone settled new one rounds ended =
    let t : SiteState = site_after s es in
    let done : IsServed s t c g e = served s c g a es e alone settled new rounds ended in
    let within : InBlock (only a) done.address = subst (λ b. InBlock b done.address) one done.within in
    let same : done.address ≡ a = let low = within.0 in let high = within.1 in omega (arith, low, high) in
    subst (λ b. HoldsShort (world t) g b × Has (table_at t c) (b, (gear_at (world t) g).random)) same (done.holds, done.named)

-- the others keep what they have, and the table names them
pub others_kept : (s : SiteState) (c : ℕ) (es : List Event) → IsAlone s c → Rounds true s c es → KeepsAddresses (world s) (world (site_after s es))
others_kept s c es alone rounds k b (there, short) =
    let gives : Gives (block_at s.plan c) (world s).gear (world (site_after s es)).gear =
    all_give (began_at s c) s c (most_frames BySurvey (bare s)) es (starts s c alone) rounds in
    ((subst (λ n. k < n) (sym gives.count) there, gives.short k b there short), gives.number k b there short)

pub others_named : (s : SiteState) (c : ℕ) (es : List Event) (e : End) → IsAlone s c → Rounds true s c es → HasEnded (site_after s es) c e
    → AreNamed s (site_after s es) c
others_named s c es e alone rounds ended k b has seen =
    let t : SiteState = site_after s es in
    let kept = others_kept s c es alone rounds k b has in
    go kept (named BySurvey s c es e alone rounds ended k b kept.0.0 (short_now t (runs_after BySurvey s c es alone rounds).runs.run k b kept.0.0 kept.0.1)
    kept.0.1)
  where
    go : HoldsShort (world (site_after s es)) k b × ((gear_at (world (site_after s es)) k).random ≡ (gear_at (world s) k).random)
        → Has (table_at (site_after s es) c) (b, (gear_at (world (site_after s es)) k).random)
        ⊎ (((gear_at (world s) k).short ≡ Some b) × IsUnseen (gear_at (world s) k)) → Has (table_at (site_after s es) c) (b, (gear_at (world s) k).random)
    go kept (inl has) = subst (λ r. Has (table_at (site_after s es) c) (b, r)) kept.1 has
    go kept (inr unseen) = absurd (seen unseen.1)

-- A RUN OF REPLAY in which a new gear is served.

-- so a run of so many rounds is enough
few_events : (n : ℕ) → n ≤ 1 → (limit : ℕ) → 1092 < limit → most_events BySurvey n < limit + 1
few_events n few limit enough = omega (arith, few, enough)

pub run_served : (c limit g a : ℕ) (n between : Installation) (sent : ℕ) (text : List ℕ) (m : Installation) → RanAlone BySurvey c limit n between sent text m
    → IsSettledAt n.site c → HasNew n.site c g a → HasRoom BySurvey n.site c → 0 < length (world n.site).left → 1092 < limit
    → (e : End) × HasEnded m.site c e × IsServed n.site m.site c g e
run_served c limit g a n between sent text m ran settled new room numbers enough = (
  by.outcome,
  by.ended,
  subst (λ (t : SiteState). IsServed n.site t c g by.outcome) (sym by.is)
      (served n.site c g a by.events by.outcome ran.alone settled new by.rounds (subst (λ (t : SiteState). HasEnded t c by.outcome) by.is by.ended)),
)
  where
    once : (without left : ℕ) → without ≤ 1 → 0 < left → without ≤ left
    once without left few some = omega (arith, few, some)

    by : HasEndedBy BySurvey n.site m.site c
    by =
        run_commissions c BySurvey limit n between sent text m ran (few_events (bare n.site) (one_new n.site c g a new) limit enough) room
        (once (bare n.site) (length (world n.site).left) (one_new n.site c g a new) numbers)

-- ---------------------------------------------------------------- what is vacant

-- a controller that has a block is there
block_known : (bs : List Block) (c a : ℕ) → InBlock (slice_index_or bs c no_block) a → c < length bs
block_known [] c a within = absurd (omega (arith, within.0, within.1))
block_known (b ∷ bs) zero a within = omega arith
block_known (b ∷ bs) (suc c) a within = let there : c < length bs = block_known bs c a within in omega (arith, there)

-- with nothing kept, each address of the block that no used gear have
pub vacant_now : (s : SiteState) (c a : ℕ) → BeginsAlone ByStart s c → InBlock (block_at s.plan c) a → (Has (used_shorts s.plan.used) a → ⊥) → IsVacant s a
vacant_now s c a begins within unused k (there, short) = go (known.gifts.reserved k a ((known.gifts.holds k a there).0 short)) where
  known : Holds s.plan (world s)
  known = holds_after s.plan s.queue s.log begins.0.run

  go : IsReservedFor (world s) a (gear_at (world s) k).random ⊎ IsOfUsed s.plan.used (a, (gear_at (world s) k).random) → ⊥
  go (inr (u, has, is)) = unused (subst (Has (used_shorts s.plan.used)) (ap (λ (x : Assignment). x.0) is) (has_map (λ (x : Used). x.short) s.plan.used u has))
  go (inl (d, there, has)) =
      let records = records_now s.plan s.queue s.log begins.0.run in
      let other : InBlock (block_at s.plan d) a =
      subst (λ b. InBlock b a) (records.block d there)
      ((records.kept d there).within a (has_address (controller_at (world s) d).records.reserved a (gear_at (world s) k).random has)) in
      let same : c ≡ d =
      begins.0.run.plan.apart c d a (block_known s.plan.blocks c a within) (block_known s.plan.blocks d a other) within other in
      nothing (subst (λ (x : Kept). Has x.reserved (a, (gear_at (world s) k).random)) begins.1
      (subst (λ e. Has (controller_at (world s) e).records.reserved (a, (gear_at (world s) k).random)) (sym same) has))
    where
      nothing : Has {A = Assignment} [] (a, (gear_at (world s) k).random) → ⊥
      nothing has = has

-- ---------------------------------------------------------------- a new installation

new_site : (p : Plan) (queue room g a : ℕ) → IsPlan p → p.blocks ≡ only a ∷ [] → IsReplacing p g a → HasNew (opened_site p queue room) 0 g a
new_site p queue room g a plan one is = record {
  there = subst (λ n. g < n) (sym (start_count p)) is.there;
  bare = new (row_at p g is.there);
  alone = λ k there none. alone k (subst (λ n. k < n) (start_count p) there) none;
  within = within;
  vacant = vacant_now (opened_site p queue room) 0 a (begins_new p queue room (only a) plan one) within is.vacant;
} where
  within : InBlock (block_at p 0) a
  within = subst (λ (bs : List Block). InBlock (slice_index_or bs 0 no_block) a) (sym one) (omega arith, omega arith)

  new : IsUsedOrFresh p g → is_bare (gear_of (world (opened_site p queue room)).gear g) ≡ true
  new (inl (u, has, same, stands)) = absurd (is.new (subst (Has (used_gear p.used)) same (has_map (λ (x : Used). x.gear) p.used u has)))
  new (inr fresh) = ap is_bare fresh

  named : (k : ℕ) → Has (used_gear p.used) k → is_bare (gear_of (world (opened_site p queue room)).gear k) ≡ false
  named k has =
      let from = mapped_from (λ (x : Used). x.gear) p.used k has in
      subst (λ n. is_bare (gear_of (world (opened_site p queue room)).gear n) ≡ false) from.2 (ap is_bare (stands p plan.used from.0 from.1))

  alone : (k : ℕ) → k < p.gear → is_bare (gear_of (world (opened_site p queue room)).gear k) ≡ true → k ≡ g
  alone k there none = go (k == g) refl where
    go : (b : Bool) → (k == g) ≡ b → k ≡ g
    go true same = same_number k g same
    go false other =
        let used = named k (is.others k there (λ e. (let both : true ≡ false = sym (number_same k g e) ∙ other in cc))) in
        absurd (let both : true ≡ false = sym none ∙ used in cc)

-- A NEW INSTALLATION in which one gear is new: it gets the address
pub new_served : (limit g a : ℕ) (p : Plan) (between : Installation) (sent : ℕ) (text : List ℕ) (m : Installation) → IsPlan p → p.gear ≤ 128
    → p.blocks ≡ only a ∷ [] → IsReplacing p g a → 0 < length p.draws → 1092 < limit → HasBegun true 0 (installation_of p) between
    → Ran limit between sent text m → (e : End) × HasEnded m.site 0 e × IsServed (installation_of p).site m.site 0 g e × HoldsShort (world m.site) g a
new_served limit g a p between sent text m plan few one is draws enough begins ran =
    let done =
    run_served 0 limit g a (installation_of p) between sent text m (ran_new BySurvey limit p (only a) between sent text m plan one begins ran)
    (begins_settled (installation_of p).site 0 (begins_new p 64 65536 (only a) plan one)) (new_site p 64 65536 g a plan one is)
    (room_new BySurvey p plan (inr refl) few) draws enough in
    let within : InBlock (only a) done.2.address =
    subst (λ (bs : List Block). InBlock (slice_index_or bs 0 no_block) done.2.address) one done.2.within in
    let same : done.2.address ≡ a = let low = within.0 in let high = within.1 in omega (arith, low, high) in
    (done.0, done.1, done.2, subst (HoldsShort (world m.site) g) same done.2.holds)
