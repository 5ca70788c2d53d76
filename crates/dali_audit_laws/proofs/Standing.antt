use Rattle.std.proofs.Common.{◌≡◌, ◌≢◌, ℕ, ◌<◌, ◌⊎◌, inl, inr, Bool, true, false, zero, suc, List, [], ◌∷◌, refl, sym, ap, subst, ◌∙◌, arith, length}
use Rattle.std.proofs.Common.{length-set, map, get_or-set_same, get_or-set_other, nat_eq, Option, Some, None, ◌&&◌, ◌||◌, not, ◌==◌, if◌then◌else◌}
use Rattle.std.{proofs.lemmas.Bool.Decides.nat_tests, proofs.lemmas.List.length-map, specs.List.list_any}
use Rattle.dali_gear.specs.Gear.{Gear}
use Rattle.dali_script.proofs.Transactions.{self, equal}
use Rattle.dali_audit.specs.{Bus.same_number, Findings.is_another, Findings.two_random, Findings.two_short, Findings.address_taken, Findings.address_moved}
use Rattle.dali_audit.specs.Holders.{random_of, heard_of, is_other, given, left_by, told, passed_on, answered, renewed, swept, table_after, table_with}
use Rattle.dali_audit.specs.Holders.{holder_at, is_heard, was_confirmed, is_confirmed}
use Rattle.dali_audit.specs.declared.holders.{Change.Change, Holder.Holder}
use Rattle.dali_audit.specs.declared.holders.Change.TheVariants as change
use Rattle.dali_audit.specs.declared.holders.Holder.TheVariants as holder
use Rattle.dali_events.specs.Wanted.{gear_of}
use Rattle.dali_audit_laws.specs.Tables.{Holds, IsTableOf}

-- THE TABLE AFTER A CHANGE, place by place

map_at : (f : Holder → Holder) → f holder.Nobody ≡ holder.Nobody → (hs : List Holder) (i : ℕ) → holder_at (map f hs) i ≡ f (holder_at hs i)
map_at f e [] i = sym e
map_at f e (h ∷ hs) zero = refl
map_at f e (h ∷ hs) (suc i) = map_at f e hs i

swept_nobody : (c : Change) → swept c holder.Nobody ≡ holder.Nobody
swept_nobody (change.Forgotten None) = refl
swept_nobody (change.Forgotten (Some a)) = refl
swept_nobody _ = refl

pub here : (c : Change) (hs : List Holder) (a : ℕ) → a < length hs → holder_at (table_with (Some a) c hs) a ≡ renewed c (holder_at hs a)
here c hs a there = get_or-set_same (map (swept c) hs) a (renewed c (holder_at hs a)) holder.Nobody (subst (λ n. a < n) (sym (length-map hs (swept c))) there)

pub elsewhere : (c : Change) (hs : List Holder) (a i : ℕ) → i ≢ a → holder_at (table_with (Some a) c hs) i ≡ swept c (holder_at hs i)
elsewhere c hs a i other =
    get_or-set_other (map (swept c) hs) a i (renewed c (holder_at hs a)) holder.Nobody other ∙ map_at (swept c) (swept_nobody c) hs i

pub length_after : (o : Option ℕ) (c : Change) (hs : List Holder) → length (table_with o c hs) ≡ length hs
length_after None c hs = length-map hs (swept c)
length_after (Some a) c hs = length-set (map (swept c) hs) a (renewed c (holder_at hs a)) ∙ length-map hs (swept c)

-- ONE HOLDER
nobody_else : (h : Holder) (r : ℕ) → random_of h ≡ Some r → h ≢ holder.Nobody
nobody_else h r e none = let at : random_of holder.Nobody ≡ Some r = ap random_of (sym none) ∙ e in cc

not_same : (o : Option ℕ) (r : ℕ) → (o ≡ Some r → ⊥) → same_number o (Some r) ≡ false
not_same None r other = refl
not_same (Some n) r other = go (n == r) refl where
  go : (m : Bool) → (n == r) ≡ m → m ≡ false
  go false e = refl
  go true e = absurd (other (ap (λ x. Some x) (equal n r e)))

is_same : (o : Option ℕ) (r : ℕ) → same_number o (Some r) ≡ true → o ≡ Some r
is_same None r e = absurd (cc)
is_same (Some n) r e = ap (λ x. Some x) (equal n r e)

heard_random : (h : Holder) (r : ℕ) → heard_of h ≡ Some r → random_of h ≡ Some r
heard_random holder.Nobody r e = e
heard_random holder.Somebody r e = e
heard_random (holder.Programmed own) r e = absurd (cc)
heard_random (holder.Answered own) r e = e
heard_random (holder.Verified own) r e = e

given_random : (r : ℕ) (h : Holder) → random_of (given r h) ≡ Some r
given_random r h = go (same_number (heard_of h) (Some r)) refl where
  go : (m : Bool) → same_number (heard_of h) (Some r) ≡ m → random_of (if m then h else holder.Programmed r) ≡ Some r
  go true e = heard_random h r (is_same (heard_of h) r e)
  go false e = refl

left_same : (r : ℕ) (h : Holder) → (random_of h ≡ Some r → ⊥) → left_by r h ≡ h
left_same r h other = rw (not_same (random_of h) r other) refl

left_is : (r : ℕ) (h : Holder) → left_by r h ≢ holder.Nobody → left_by r h ≡ h
left_is r h = go (same_number (random_of h) (Some r)) where
  go : (m : Bool) → (if m then holder.Nobody else h) ≢ holder.Nobody → (if m then holder.Nobody else h) ≡ h
  go true some = absurd (some refl)
  go false some = refl

told_random : (r : ℕ) (h : Holder) → random_of h ≡ Some r → random_of (told r h) ≡ Some r
told_random r holder.Nobody e = refl
told_random r holder.Somebody e = refl
told_random r (holder.Answered own) e = refl
told_random r (holder.Programmed own) e = go (own == r) where
  go : (m : Bool) → random_of (if m then holder.Verified r else holder.Answered r) ≡ Some r
  go true = refl
  go false = refl
told_random r (holder.Verified own) e = go (own == r) where
  go : (m : Bool) → random_of (if m then holder.Verified r else holder.Answered r) ≡ Some r
  go true = refl
  go false = refl

passed_same : (r : ℕ) (h : Holder) → (random_of h ≡ Some r → ⊥) → passed_on r h ≡ h
passed_same r (holder.Programmed own) other = go (own == r) refl where
  go : (m : Bool) → (own == r) ≡ m → (if m then holder.Nobody else holder.Programmed own) ≡ holder.Programmed own
  go true e = absurd (other (ap (λ x. Some x) (equal own r e)))
  go false e = refl
passed_same r _ other = refl

answered_same : (h : Holder) → h ≢ holder.Nobody → answered h ≡ h
answered_same holder.Nobody some = absurd (some refl)
answered_same _ some = refl

same_heard : (h : Holder) (r : ℕ) → random_of h ≡ Some r → is_another (heard_of h) r ≡ false
same_heard holder.Nobody r e = refl
same_heard holder.Somebody r e = refl
same_heard (holder.Programmed own) r e = refl
same_heard (holder.Answered own) r e = let one : own ≡ r = cc in rw (one, self r) refl
same_heard (holder.Verified own) r e = let one : own ≡ r = cc in rw (one, self r) refl

confirmed_random : (h : Holder) (r : ℕ) → was_confirmed r h ≡ true → random_of h ≡ Some r
confirmed_random (holder.Verified own) r e = ap (λ x. Some x) (equal own r e)
confirmed_random holder.Nobody r e = absurd (cc)
confirmed_random holder.Somebody r e = absurd (cc)
confirmed_random (holder.Programmed own) r e = absurd (cc)
confirmed_random (holder.Answered own) r e = absurd (cc)

-- it was heard, or not at all
heard_either : (h : Holder) (r : ℕ) → random_of h ≡ Some r → (heard_of h ≡ Some r) ⊎ (heard_of h ≡ None)
heard_either holder.Nobody r e = inr refl
heard_either holder.Somebody r e = inr refl
heard_either (holder.Programmed own) r e = inr refl
heard_either (holder.Answered own) r e = inl e
heard_either (holder.Verified own) r e = inl e

any_at : (test : Holder → Bool) (hs : List Holder) → list_any test hs ≡ true → (i : ℕ) × (test (holder_at hs i) ≡ true)
any_at test [] e = absurd (cc)
any_at test (h ∷ hs) e = go (test h) refl e (any_at test hs) where
  go : (m : Bool) → test h ≡ m → (m || list_any test hs) ≡ true → (list_any test hs ≡ true → (i : ℕ) × (test (holder_at hs i) ≡ true))
      → (i : ℕ) × (test (holder_at (h ∷ hs) i) ≡ true)
  go true t e more = (0, t)
  go false t e more = let k = more e in (suc k.0, k.1)

-- ---------------------------------------------------------------- a table that is that of the gear

-- two gear have no short address together, and none has the random address of one with a short address
pub record AreApart (gs : List Gear) : Type 0 where
  pub one : (g h a : ℕ) → Holds gs g a → Holds gs h a → g ≡ h
  pub random : (g h a : ℕ) → Holds gs g a → h < length gs → (gear_of gs h).random ≡ (gear_of gs g).random → h ≡ g

-- a gear with the short address has the random address
pub record IsTold (gs : List Gear) (a r : ℕ) : Type 0 where
  pub gear : ℕ
  pub has : Holds gs gear a
  pub random : (gear_of gs gear).random ≡ r

-- the same gear have the same addresses
pub record SameGear (gs ht : List Gear) : Type 0 where
  pub stays : (g a : ℕ) → Holds gs g a → Holds ht g a × ((gear_of ht g).random ≡ (gear_of gs g).random)
  pub from : (g a : ℕ) → Holds ht g a → Holds gs g a

module _ (gs : List Gear) (hs : List Holder) (table : IsTableOf gs hs) (apart : AreApart gs) where
  pub random_at : (g a : ℕ) → Holds gs g a → random_of (holder_at hs a) ≡ Some (gear_of gs g).random
  random_at g a has =
      let t = table.true_of a (table.has g a has) in
      t.2 ∙ ap (λ i. Some (gear_of gs i).random) (apart.one t.0 g a t.1 has)

  random_told : (a r : ℕ) → IsTold gs a r → random_of (holder_at hs a) ≡ Some r
  random_told a r is = random_at is.gear a is.has ∙ ap (λ n. Some n) is.random

  -- who stands elsewhere has another random address
  stands_once : (a r i : ℕ) → IsTold gs a r → random_of (holder_at hs i) ≡ Some r → i ≡ a
  stands_once a r i is e =
      let t = table.true_of i (nobody_else (holder_at hs i) r e) in
      let same : (gear_of gs t.0).random ≡ r = let both : Some (gear_of gs t.0).random ≡ Some r = sym t.2 ∙ e in cc in
      let one : t.0 ≡ is.gear = apart.random is.gear t.0 a is.has t.1.0 (same ∙ sym is.random) in
      let short : (gear_of gs is.gear).short ≡ Some i = subst (λ j. (gear_of gs j).short ≡ Some i) one t.1.1 in
      let other : (gear_of gs is.gear).short ≡ Some a = is.has.1 in
      let both : Some i ≡ Some a = sym short ∙ other in
      cc

  pub one_random : (a r : ℕ) → IsTold gs a r → two_random hs (change.Told a r) ≡ false
  one_random a r is = same_heard (holder_at hs a) r (random_told a r is)

  pub one_short : (a r : ℕ) → IsTold gs a r → two_short hs (change.Told a r) ≡ false
  one_short a r is = go (heard_either (holder_at hs a) r (random_told a r is)) where
    nowhere : heard_of (holder_at hs a) ≡ None → (m : Bool) → is_heard r hs ≡ m → m ≡ false
    nowhere none false e = refl
    nowhere none true e = absurd (
        let k = any_at (λ h. same_number (heard_of h) (Some r)) hs e in
        let heard : heard_of (holder_at hs k.0) ≡ Some r = is_same (heard_of (holder_at hs k.0)) r k.1 in
        let place : k.0 ≡ a = stands_once a r k.0 is (heard_random (holder_at hs k.0) r heard) in
        let at : heard_of (holder_at hs a) ≡ Some r = subst (λ i. heard_of (holder_at hs i) ≡ Some r) place heard in
        cc)

    go : (heard_of (holder_at hs a) ≡ Some r) ⊎ (heard_of (holder_at hs a) ≡ None)
        → (not (same_number (heard_of (holder_at hs a)) (Some r)) && is_heard r hs) ≡ false
    go (inl e) = rw (e, self r) refl
    go (inr e) = rw (e, nowhere e (is_heard r hs) refl) refl

  -- THE TABLE STAYS THAT OF THE GEAR if each place has the gear that stood there, as far as its random address goes
  alike : (ht : List Gear) (hu : List Holder) → SameGear gs ht
      → ((i : ℕ) → (holder_at hu i ≡ holder_at hs i) ⊎ ((r : ℕ) × (random_of (holder_at hs i) ≡ Some r) × (random_of (holder_at hu i) ≡ Some r)))
      → IsTableOf ht hu
  alike ht hu same each = record {
    true_of = λ a some. true_at a some (each a);
    has = λ g a has. has_at g a (same.from g a has) (each a);
  } where
    told_of : (a : ℕ) → holder_at hs a ≢ holder.Nobody → (o : Option ℕ) → o ≡ random_of (holder_at hs a)
        → (g : ℕ) × Holds ht g a × (o ≡ Some (gear_of ht g).random)
    told_of a some o is =
        let t = table.true_of a some in
        let now = same.stays t.0 a t.1 in
        (t.0, now.0, is ∙ t.2 ∙ ap (λ n. Some n) (sym now.1))

    true_at : (a : ℕ) → holder_at hu a ≢ holder.Nobody
        → (holder_at hu a ≡ holder_at hs a) ⊎ ((r : ℕ) × (random_of (holder_at hs a) ≡ Some r) × (random_of (holder_at hu a) ≡ Some r))
        → (g : ℕ) × Holds ht g a × (random_of (holder_at hu a) ≡ Some (gear_of ht g).random)
    true_at a some (inl e) = told_of a (λ none. some (e ∙ none)) (random_of (holder_at hu a)) (ap random_of e)
    true_at a some (inr k) = told_of a (nobody_else (holder_at hs a) k.0 k.1) (random_of (holder_at hu a)) (k.2 ∙ sym k.1)

    has_at : (g a : ℕ) → Holds gs g a
        → (holder_at hu a ≡ holder_at hs a) ⊎ ((r : ℕ) × (random_of (holder_at hs a) ≡ Some r) × (random_of (holder_at hu a) ≡ Some r))
        → holder_at hu a ≢ holder.Nobody
    has_at g a has (inl e) none = table.has g a has (sym e ∙ none)
    has_at g a has (inr k) none = nobody_else (holder_at hu a) k.0 k.2 none

  pub table_nothing : (ht : List Gear) → SameGear gs ht → IsTableOf ht (table_after change.Nothing hs)
  table_nothing ht same = alike ht _ same (λ i. inl (map_at (swept change.Nothing) refl hs i))

  place : (i a : ℕ) → (i ≡ a) ⊎ (i ≢ a)
  place i a = go (nat_eq i a) refl where
    go : (m : Bool) → nat_eq i a ≡ m → (i ≡ a) ⊎ (i ≢ a)
    go true e = inl (grind (arith, nat_tests))
    go false e = inr (grind (arith, nat_tests))

  pub table_told : (ht : List Gear) (a r : ℕ) → SameGear gs ht → a < length hs → IsTold gs a r → IsTableOf ht (table_after (change.Told a r) hs)
  table_told ht a r same there is = alike ht _ same (λ i. at i (place i a)) where
    at : (i : ℕ) → (i ≡ a) ⊎ (i ≢ a)
        → (holder_at (table_after (change.Told a r) hs) i ≡ holder_at hs i)
        ⊎ ((n : ℕ) × (random_of (holder_at hs i) ≡ Some n) × (random_of (holder_at (table_after (change.Told a r) hs) i) ≡ Some n))
    at i (inl e) = inr (
      r,
      subst (λ j. random_of (holder_at hs j) ≡ Some r) (sym e) (random_told a r is),
      subst (λ j. random_of (holder_at (table_after (change.Told a r) hs) j) ≡ Some r) (sym e)
          (ap random_of (here (change.Told a r) hs a there) ∙ told_random r (holder_at hs a) (random_told a r is)),
    )
    at i (inr other) = inl (elsewhere (change.Told a r) hs a i other ∙ passed_same r (holder_at hs i) (λ e. other (stands_once a r i is e)))

  pub table_answered : (ht : List Gear) (a g : ℕ) → SameGear gs ht → a < length hs → Holds gs g a → IsTableOf ht (table_after (change.Answered a) hs)
  table_answered ht a g same there has = alike ht _ same (λ i. at i (place i a)) where
    at : (i : ℕ) → (i ≡ a) ⊎ (i ≢ a)
        → (holder_at (table_after (change.Answered a) hs) i ≡ holder_at hs i)
        ⊎ ((n : ℕ) × (random_of (holder_at hs i) ≡ Some n) × (random_of (holder_at (table_after (change.Answered a) hs) i) ≡ Some n))
    at i (inl e) = inl (subst (λ j. holder_at (table_after (change.Answered a) hs) j ≡ holder_at hs j) (sym e)
        (here (change.Answered a) hs a there ∙ answered_same (holder_at hs a) (table.has g a has)))
    at i (inr other) = inl (elsewhere (change.Answered a) hs a i other)

  -- PROGRAM SHORT ADDRESS a, if gear g without one has the search address r
  module _ (ht : List Gear) (g a r : ℕ) (there : a < length hs) (in_row : g < length gs) (none : (gear_of gs g).short ≡ None)
      (random : (gear_of gs g).random ≡ r)
      (now : Holds ht g a) (still : (gear_of ht g).random ≡ r) (later : AreApart ht)
      (stays : (i c : ℕ) → Holds gs i c → Holds ht i c × ((gear_of ht i).random ≡ (gear_of gs i).random))
      (from : (i c : ℕ) → Holds ht i c → Holds gs i c ⊎ (c ≡ a)) where
    pub free : address_taken hs (change.Given a r) ≡ false
    free = go (holder_at hs a) refl where
      taken : holder_at hs a ≢ holder.Nobody → ⊥
      taken some =
          let t = table.true_of a some in
          let same : t.0 ≡ g = later.one t.0 g a (stays t.0 a t.1).0 now in
          let short : (gear_of gs g).short ≡ Some a = subst (λ j. (gear_of gs j).short ≡ Some a) same t.1.1 in
          cc

      go : (h : Holder) → holder_at hs a ≡ h → is_other r h ≡ false
      go holder.Nobody e = refl
      go (holder.Programmed own) e = refl
      go holder.Somebody e = absurd (taken (λ is. let at : holder.Somebody ≡ holder.Nobody = sym e ∙ is in cc))
      go (holder.Answered own) e = absurd (taken (λ is. let at : holder.Answered own ≡ holder.Nobody = sym e ∙ is in cc))
      go (holder.Verified own) e = absurd (taken (λ is. let at : holder.Verified own ≡ holder.Nobody = sym e ∙ is in cc))

    pub unmoved : address_moved hs (change.Given a r) ≡ false
    unmoved = rw (nowhere (is_confirmed r hs) refl, never (not (was_confirmed r (holder_at hs a)))) refl where
      never : (m : Bool) → (m && false) ≡ false
      never true = refl
      never false = refl

      nowhere : (m : Bool) → is_confirmed r hs ≡ m → m ≡ false
      nowhere false e = refl
      nowhere true e = absurd (
          let k = any_at (was_confirmed r) hs e in
          let at : random_of (holder_at hs k.0) ≡ Some r = confirmed_random (holder_at hs k.0) r k.1 in
          let t = table.true_of k.0 (nobody_else (holder_at hs k.0) r at) in
          let both : Some (gear_of gs t.0).random ≡ Some r = sym t.2 ∙ at in
          let number : (gear_of gs t.0).random ≡ r = cc in
          let same : g ≡ t.0 = apart.random t.0 g k.0 t.1 in_row (random ∙ sym number) in
          let short : (gear_of gs g).short ≡ Some k.0 = subst (λ n. (gear_of gs n).short ≡ Some k.0) (sym same) t.1.1 in
          cc)

    pub table_given : IsTableOf ht (table_after (change.Given a r) hs)
    table_given = record { true_of = λ i some. true_at i some (place i a); has = λ j i has. has_at j i has (place i a) } where
      true_at : (i : ℕ) → holder_at (table_after (change.Given a r) hs) i ≢ holder.Nobody → (i ≡ a) ⊎ (i ≢ a)
          → (j : ℕ) × Holds ht j i × (random_of (holder_at (table_after (change.Given a r) hs) i) ≡ Some (gear_of ht j).random)
      true_at i some (inl e) = (
        g,
        subst (λ c. Holds ht g c) (sym e) now,
        subst (λ c. random_of (holder_at (table_after (change.Given a r) hs) c) ≡ Some (gear_of ht g).random) (sym e)
            (ap random_of (here (change.Given a r) hs a there) ∙ given_random r (holder_at hs a) ∙ ap (λ n. Some n) (sym still)),
      )
      true_at i some (inr other) =
          let is : holder_at (table_after (change.Given a r) hs) i ≡ left_by r (holder_at hs i) = elsewhere (change.Given a r) hs a i other in
          let same : left_by r (holder_at hs i) ≡ holder_at hs i = left_is r (holder_at hs i) (λ e. some (is ∙ e)) in
          let t = table.true_of i (λ e. some (is ∙ same ∙ e)) in
          let kept = stays t.0 i t.1 in
          (t.0, kept.0, ap random_of (is ∙ same) ∙ t.2 ∙ ap (λ n. Some n) (sym kept.1))

      has_at : (j i : ℕ) → Holds ht j i → (i ≡ a) ⊎ (i ≢ a) → holder_at (table_after (change.Given a r) hs) i ≢ holder.Nobody
      has_at j i has (inl e) = subst (λ c. holder_at (table_after (change.Given a r) hs) c ≢ holder.Nobody) (sym e)
          (λ is. nobody_else (given r (holder_at hs a)) r (given_random r (holder_at hs a)) (sym (here (change.Given a r) hs a there) ∙ is))
      has_at j i has (inr other) = go (from j i has) where
        go : Holds gs j i ⊎ (i ≡ a) → holder_at (table_after (change.Given a r) hs) i ≢ holder.Nobody
        go (inr e) = absurd (other e)
        go (inl before) =
            λ none_now. table.has j i before (sym (left_same r (holder_at hs i) differs) ∙ sym (elsewhere (change.Given a r) hs a i other) ∙ none_now) where
              differs : random_of (holder_at hs i) ≡ Some r → ⊥
              differs e =
                  let own : Some (gear_of gs j).random ≡ Some r = sym (random_at j i before) ∙ e in
                  let number : (gear_of gs j).random ≡ r = cc in
                  let same : g ≡ j = apart.random j g i before in_row (random ∙ sym number) in
                  let short : (gear_of gs g).short ≡ Some i = subst (λ n. (gear_of gs n).short ≡ Some i) (sym same) before.1 in
                  cc
