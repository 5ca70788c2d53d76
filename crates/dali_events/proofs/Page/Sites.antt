use Rattle.std.proofs.Common.{◌≡◌, ◌⊎◌, inl, inr, ℕ, zero, suc, ◌<◌, ◌+◌, Bool, true, false, refl, sym, ap, subst, ◌∙◌, arith, List, [], ◌∷◌, ◌++◌, map, Option}
use Rattle.std.{proofs.Common.{Some, None, length, get_or, replicate, ◌==◌, ◌&&◌, not, nat_lt, nat_le, if◌then◌else◌, is_none, slice_get}, specs.List.list_any}
use Rattle.std.specs.Prelude.{unwrap_or}
use Rattle.dali_frame.specs.{Random.MASK24, declared.frames.Forward.Forward}
use Rattle.dali_gear.specs.Gear.{fresh}
use Rattle.dali_script.specs.{Findings.assigned, Records.{Has, HasAddress, InBlock}, declared.{block.Block.Block, finding.Finding.Finding}}
use Rattle.dali_script.proofs.{Lists.has_map, Members.{same_member, mapped_from}}
use Rattle.dali_statement.proofs.Tests.{both, first_of_both, second_of_both, equal, equals, some_is, holds_is, holds_by, any_at, mapped_at, differ_by, all_by}
use Rattle.dali_statement.{proofs.Tests.{below_by, within_by, within_is, at_index}, specs.{Gear.gear_seen, Page.{Gear, holds, Site, are_apart, IsPlan}}}
use Rattle.dali_statement.specs.Page.{is_told, allowed, Reserves, Enrols, Releases}
use Rattle.dali_events.specs.{Allowed.{MayCommit, MaySend}, Page.{owner_in, plan_seen}, Plan.{Plan as SitePlan, IsPlan as IsSitePlan, block_at, no_block}}
use Rattle.dali_events.specs.{Runs.{after as after_log, IsRun, AreDrawn, IsDrawer}, Used.{with_used, used_shorts, earlier_gift}, World.{World, Controller}}
use Rattle.dali_events.{specs.{World.{gear_at, start as site_start}, declared.event.Event.Event}, proofs.Invariant.{Arrived.gifts_start, Drawn.drawn_in_front}}
use Rattle.dali_events.proofs.Invariant.Gifts.{IsOwned, one_holder}
use Rattle.dali_script.specs.declared.records.Record.TheVariants as record_of

-- SITES: their numbers, their plans and their records.

-- ---------------------------------------------------------------- numbers

key_is : (r n : ℕ) → (if r == 0xFFFFFF then None else Some r) ≡ Some n → (r ≡ n) × ((r == 0xFFFFFF) ≡ false)
key_is r n e = go (r == 0xFFFFFF) refl e where
  go : (t : Bool) → (r == 0xFFFFFF) ≡ t → (if t then None else Some r) ≡ Some n → (r ≡ n) × ((r == 0xFFFFFF) ≡ false)
  go true mask e = absurd (cc)
  go false mask e = (some_is e, mask)

pub apart_seen : (w : World) → AreDrawn w → are_apart (map gear_seen w.gear) ≡ true
apart_seen w drawn = differ_by (λ g. if g.random == 0xFFFFFF then None else Some g.random) (map gear_seen w.gear) one where
  drawer : (i n : ℕ) (x : Gear) → slice_get (map gear_seen w.gear) i ≡ Some x → (if x.random == 0xFFFFFF then None else Some x.random) ≡ Some n → IsDrawer w i n
  drawer i n x at is =
      let from = mapped_at gear_seen w.gear i x at in
      let there = at_index w.gear i from.0 fresh from.1 in
      let key = key_is x.random n is in
      let same : (gear_at w i).random ≡ x.random = ap (λ g. g.random) there.1 ∙ sym (ap (λ g. g.random) from.2) in
      go (subst (λ r. (r ≡ MASK24) ⊎ IsDrawer w i r) same (drawn.random i there.0)) key.0 key.1 where
        go : {r : ℕ} → (r ≡ MASK24) ⊎ IsDrawer w i r → r ≡ n → (r == 0xFFFFFF) ≡ false → IsDrawer w i n
        go {r} (inl mask) e other = absurd (let yes : (r == 0xFFFFFF) ≡ true = equals r 0xFFFFFF mask in cc)
        go {r} (inr has) e other = subst (IsDrawer w i) e has

  one : (i j n : ℕ) (x y : Gear) → slice_get (map gear_seen w.gear) i ≡ Some x → slice_get (map gear_seen w.gear) j ≡ Some y
      → (if x.random == 0xFFFFFF then None else Some x.random) ≡ Some n → (if y.random == 0xFFFFFF then None else Some y.random) ≡ Some n → i ≡ j
  one i j n x y at there is same = ap (λ d. d.0) (same_member (λ d. d.1) w.drawn (i, n) (j, n) drawn.once (drawer i n x at is) (drawer j n y there same) refl)

pub numbers_apart : (p : SitePlan) (capacity : ℕ) (front rest : List Event) → IsRun p capacity (front ++ rest)
    → are_apart (map gear_seen (after_log p capacity front).gear) ≡ true
numbers_apart p capacity front rest run = apart_seen (after_log p capacity front) (drawn_in_front p capacity front rest run)

-- ---------------------------------------------------------------- plans

seen_at : (p : SitePlan) (i : ℕ) (x : Gear) → slice_get (map gear_seen (with_used (replicate p.gear fresh) p.used)) i ≡ Some x
    → (i < length (site_start p 0).gear) × ((gear_at (site_start p 0) i).short ≡ x.short)
seen_at p i x at =
    let from = mapped_at gear_seen (with_used (replicate p.gear fresh) p.used) i x at in
    let there = at_index (with_used (replicate p.gear fresh) p.used) i from.0 fresh from.1 in
    (there.0, ap (λ g. g.short) there.1 ∙ sym (ap (λ g. g.short) from.2))

-- a short address at the start is one of used gear
pub used_at : (p : SitePlan) → IsSitePlan p → (i a : ℕ) (x : Gear) → slice_get (map gear_seen (with_used (replicate p.gear fresh) p.used)) i ≡ Some x
    → x.short ≡ Some a → Has (used_shorts p.used) a
used_at p plan i a x at is =
    let there = seen_at p i x at in
    let gift : Has (map earlier_gift p.used) (i, a) = ((gifts_start p 0 plan.used).holds i a there.0).0 (there.1 ∙ is) in
    let from = mapped_from earlier_gift p.used (i, a) gift in
    subst (Has (used_shorts p.used)) (ap (λ g. g.1) from.2) (has_map (λ u. u.short) p.used from.0 from.1)

pub plan_is_seen : (p : SitePlan) → IsSitePlan p → IsPlan (plan_seen p)
plan_is_seen p plan = record {
  shorts = differ_by (λ g. g.short) (map gear_seen (with_used (replicate p.gear fresh) p.used)) one;
  short = all_by (λ g. nat_lt (unwrap_or g.short 0) 64) (map gear_seen (with_used (replicate p.gear fresh) p.used)) (λ i x at. small i x at x.short refl);
  reserved = λ c a r e. absurd (none e);
  enrolled = λ c a r e. absurd (no_table e);
} where
  none : {r : ℕ} → None ≡ Some r → ⊥
  none e = absurd (cc)

  no_table : false ≡ true → ⊥
  no_table e = absurd (cc)

  one : (i j n : ℕ) (x y : Gear) → slice_get (map gear_seen (with_used (replicate p.gear fresh) p.used)) i ≡ Some x
      → slice_get (map gear_seen (with_used (replicate p.gear fresh) p.used)) j ≡ Some y → x.short ≡ Some n → y.short ≡ Some n → i ≡ j
  one i j n x y at there is same =
      let first = seen_at p i x at in
      let second = seen_at p j y there in
      one_holder (IsOwned p.used (site_start p 0).controllers) (site_start p 0).gear (site_start p 0).drawn (site_start p 0).gifts (gifts_start p 0 plan.used)
      i j n first.0 second.0 (first.1 ∙ is) (second.1 ∙ same)

  small : (i : ℕ) (x : Gear) → slice_get (map gear_seen (with_used (replicate p.gear fresh) p.used)) i ≡ Some x → (o : Option ℕ) → x.short ≡ o
      → nat_lt (unwrap_or o 0) 64 ≡ true
  small i x at None is = refl
  small i x at (Some a) is = below_by a 64 (plan.used.short a (used_at p plan i a x at is))

-- ---------------------------------------------------------------- blocks

owner_at : (bs : List Block) (k i a : ℕ) → i < length bs → InBlock (get_or bs i no_block) a
    → ((j : ℕ) → j < length bs → InBlock (get_or bs j no_block) a → i ≡ j) → owner_in bs k a ≡ k + i
owner_at [] k i a here within one = absurd (omega arith)
owner_at (b ∷ bs) k zero a here within one =
    ap (λ t. if t then k else owner_in bs (k + 1) a) (both (within_by b.first a within.0) (within_by a b.last within.1)) ∙ last k where
      last : (n : ℕ) → n ≡ n + 0
      last n = omega arith
owner_at (b ∷ bs) k (suc i) a here within one =
    go (nat_le b.first a && nat_le a b.last) refl (owner_at bs (k + 1) i a (shorter i here) within (λ j there has. same i j (one (suc j) (longer j there) has)))
  where
    shorter : (n : ℕ) → suc n < length (b ∷ bs) → n < length bs
    shorter n e = omega arith

    longer : (n : ℕ) → n < length bs → suc n < length (b ∷ bs)
    longer n e = omega arith

    same : (n m : ℕ) → suc n ≡ suc m → n ≡ m
    same n m e = omega arith

    other : (n : ℕ) → suc n ≡ zero → ⊥
    other n e = omega arith

    first : zero < length (b ∷ bs)
    first = omega arith

    next : (n : ℕ) → n ≡ k + 1 + i → n ≡ k + suc i
    next n e = omega arith

    go : (t : Bool) → (nat_le b.first a && nat_le a b.last) ≡ t → owner_in bs (k + 1) a ≡ k + 1 + i → (if t then k else owner_in bs (k + 1) a) ≡ k + suc i
    go true is more = absurd (other i (one zero first (within_is b.first a (first_of_both _ _ is), within_is a b.last (second_of_both _ _ is))))
    go false is more = next (owner_in bs (k + 1) a) more

pub block_is : (p : SitePlan) → IsSitePlan p → (c a : ℕ) → c < length p.blocks → InBlock (block_at p c) a → owner_in p.blocks 0 a ≡ c
block_is p plan c a there within = owner_at p.blocks 0 c a there within (λ d here has. plan.apart c d a there here within has) ∙ none c where
  none : (n : ℕ) → 0 + n ≡ n
  none n = omega arith

-- ---------------------------------------------------------------- orders

module _ (p : SitePlan) (s : Site) (k : Controller) (c : ℕ) where
  pub reserve_allowed : IsSitePlan p → (a r : ℕ) → c < length p.blocks → k.records.block ≡ block_at p c → MayCommit k (record_of.Reserve a r)
      → (Has (used_shorts p.used) a → ⊥) → ((q : ℕ) → s.reserved c a ≡ Some q → HasAddress k.records.reserved a)
      → allowed (plan_seen p) s (Reserves c a r) ≡ true
  reserve_allowed plan a r there block commit unused from =
      both (equals (owner_in p.blocks 0 a) c (block_is p plan c a there within)) (both (below_by a 64 (plan.short c a there within))
      (both (free (s.reserved c a) refl) (both (new (list_any (λ g. holds a g.short) (map gear_seen (with_used (replicate p.gear fresh) p.used))) refl)
      (below_by r 0xFFFFFF commit.1)))) where
        within : InBlock (block_at p c) a
        within = subst (λ b. InBlock b a) block commit.0

        free : (o : Option ℕ) → s.reserved c a ≡ o → is_none o ≡ true
        free None is = refl
        free (Some q) is = absurd (commit.2.0 (from q is))

        new : (t : Bool) → list_any (λ g. holds a g.short) (map gear_seen (with_used (replicate p.gear fresh) p.used)) ≡ t → not t ≡ true
        new false is = refl
        new true is =
            let any = any_at (λ g. holds a g.short) (map gear_seen (with_used (replicate p.gear fresh) p.used)) is in
            absurd (unused (used_at p plan any.0 a any.1 any.2 (holds_is a any.1.short any.3)))

  pub enrol_allowed : (a r : ℕ) → MayCommit k (record_of.Enrol a r)
      → ((x : Finding) → k.finding ≡ Some x → is_told s (assigned x).0 (assigned x).1 ≡ true) → allowed (plan_seen p) s (Enrols c a r) ≡ true
  enrol_allowed a r commit told = subst (λ y. is_told s y.0 y.1 ≡ true) commit.0.2 (told commit.0.0 commit.0.1)

  pub release_allowed : (a r : ℕ) → MayCommit k (record_of.Release a r)
      → ((x : Finding) → k.finding ≡ Some x → is_told s (assigned x).0 (assigned x).1 ≡ true)
      → (Has k.records.reserved (a, r) → s.reserved c a ≡ Some r) → (b : ℕ) × (allowed (plan_seen p) s (Releases c a r b) ≡ true)
  release_allowed a r commit told same =
      let found = commit.1 in (
        found.2,
        both (holds_by r (s.reserved c a) (same commit.0))
            (both (subst (λ y. is_told s y.0 y.1 ≡ true) found.3 (told found.0 found.1)) (another found.2 (a == found.2) refl found.4)),
      ) where
        another : (b : ℕ) (t : Bool) → (a == b) ≡ t → (b ≡ a → ⊥) → not t ≡ true
        another b false is other = refl
        another b true is other = absurd (other (sym (equal a b is)))

-- ---------------------------------------------------------------- turns

pub turn_kept : (w : World) (c : ℕ) (f : Forward) → MaySend w c f → (unwrap_or w.bus.owner c == c) ≡ true
turn_kept w c f (inl owner) = ap (λ o. unwrap_or o c == c) owner.0 ∙ equals c c refl
turn_kept w c f (inr free) = ap (λ o. unwrap_or o c == c) free.0 ∙ equals c c refl
