use Rattle.std.proofs.Common.{◌≡◌, ℕ, ◌+◌, ◌<◌, ◌≤◌, ◌⊎◌, inl, inr, Bool, true, false, Option, Some, None, List, [], ◌∷◌, ◌++◌, refl, sym, ap, subst, ◌∙◌}
use Rattle.std.proofs.Common.{arith, length, length-append, map, get_or, nat_eq, Decides, Result, Ok, Err, ◌≢◌, replicate, take, drop, set, length-set}
use Rattle.std.proofs.Common.{get_or-set_same, get_or-set_other, ◌==◌, ◌&&◌, not, cond, ◌↔◌, MatchOption, OnOk, OnErr, if◌then◌else◌, zero, suc}
use Rattle.std.proofs.lemmas.{Bool.cases_eq, Bool.Decides.nat_tests, List.drop_more, List.at_drop_all, List.get_or-replicate}
use Rattle.std.specs.Option.{is_some}
use Rattle.dali_frame.specs.Random.{MASK24}
use Rattle.dali_script.specs.Records.{Kept, IsKept, without_records, Fits, MayAdd, address_of, with_record, Assignment, Has, IsOnce, addresses, randoms}
use Rattle.dali_script.specs.Records.{HasAddress, HasRandom, InBlock, IsMap, Marks, is_pair, without_pair, IsFresh, Shows, TakesAway}
use Rattle.dali_script.specs.declared.{block.Block.Block, records.Record.Record}
use Rattle.dali_script.specs.declared.records.Record.TheVariants.{Reserve, Enrol, Release}

-- membership and an append
pub has_last : {A : Type 0} (xs : List A) (x : A) → Has (xs ++ x ∷ []) x
has_last [] x = inl refl
has_last (y ∷ xs) x = inr (has_last xs x)

pub has_before : {A : Type 0} (xs : List A) (y x : A) → Has xs x → Has (xs ++ y ∷ []) x
has_before [] y x h = elim h [ ]
has_before (z ∷ xs) y x (inl e) = inl e
has_before (z ∷ xs) y x (inr h) = inr (has_before xs y x h)

pub has_cases : {A : Type 0} (xs : List A) (y x : A) → Has (xs ++ y ∷ []) x → Has xs x ⊎ (y ≡ x)
has_cases [] y x (inl e) = inr e
has_cases [] y x (inr h) = elim h [ ]
has_cases (z ∷ xs) y x (inl e) = inl (inl e)
has_cases (z ∷ xs) y x (inr h) = go (has_cases xs y x h) where
  go : Has xs x ⊎ (y ≡ x) → Has (z ∷ xs) x ⊎ (y ≡ x)
  go (inl k) = inl (inr k)
  go (inr e) = inr e

pub once_more : (xs : List ℕ) (x : ℕ) → IsOnce xs → (Has xs x → ⊥) → IsOnce (xs ++ x ∷ [])
once_more [] x o fresh = (λ h. h, tt)
once_more (y ∷ xs) x o fresh =
    (λ h. go (has_cases xs x y h), once_more xs x o.1 (λ h. fresh (inr h))) where
      go : Has xs y ⊎ (x ≡ y) → ⊥
      go (inl h) = o.0 h
      go (inr e) = fresh (inl (sym e))

pub has_at : {A : Type 0} (xs : List A) (i : ℕ) (d : A) → i < length xs → Has xs (get_or xs i d)
has_at [] i d h = absurd (omega arith)
has_at (x ∷ xs) zero d h = inl refl
has_at (x ∷ xs) (suc i) d h = inr (has_at xs i d (omega arith))

pub has_map : {A B : Type 0} (f : A → B) (xs : List A) (x : A) → Has xs x → Has (map f xs) (f x)
has_map f [] x h = elim h [ ]
has_map f (y ∷ xs) x (inl e) = inl (ap f e)
has_map f (y ∷ xs) x (inr h) = inr (has_map f xs x h)

-- as many different numbers below n as n at most
without : ℕ → List ℕ → List ℕ
without n [] = []
without n (x ∷ xs) = if x == n then xs else x ∷ without n xs

has_without : (n : ℕ) (xs : List ℕ) (y : ℕ) → Has (without n xs) y → Has xs y
unfolding without
has_without n [] y h = h
has_without n (x ∷ xs) y h = go (x == n) h (has_without n xs y) where
  go : (b : Bool) → Has (if b then xs else x ∷ without n xs) y → (Has (without n xs) y → Has xs y) → Has (x ∷ xs) y
  go true h' later = inr h'
  go false (inl e) later = inl e
  go false (inr h') later = inr (later h')

once_without : (n : ℕ) (xs : List ℕ) → IsOnce xs → IsOnce (without n xs)
unfolding without
once_without n [] o = tt
once_without n (x ∷ xs) o = go (x == n) (once_without n xs o.1) where
  go : (b : Bool) → IsOnce (without n xs) → IsOnce (if b then xs else x ∷ without n xs)
  go true later = o.1
  go false later = (λ h. o.0 (has_without n xs x h), later)

gone_without : (n : ℕ) (xs : List ℕ) → IsOnce xs → Has (without n xs) n → ⊥
unfolding without
gone_without n [] o h = h
gone_without n (x ∷ xs) o h = go (x == n) refl h (gone_without n xs o.1) where
  go : (b : Bool) → (x == n) ≡ b → Has (if b then xs else x ∷ without n xs) n → (Has (without n xs) n → ⊥) → ⊥
  go true is h' later =
      let same : n ≡ x = grind (arith, nat_tests) in
      o.0 (subst (λ y. Has xs y) same h')
  go false is (inl e) later = grind (arith, nat_tests)
  go false is (inr h') later = later h'

length_without : (n : ℕ) (xs : List ℕ) → length xs ≤ length (without n xs) + 1
unfolding without
length_without n [] = omega arith
length_without n (x ∷ xs) = go (x == n) (length_without n xs) where
  go : (b : Bool) → length xs ≤ length (without n xs) + 1 → length (x ∷ xs) ≤ length (if b then xs else x ∷ without n xs) + 1
  go true later = omega arith
  go false later = omega arith

pub few : (n : ℕ) (xs : List ℕ) → IsOnce xs → ((a : ℕ) → Has xs a → a < n) → length xs ≤ n
few zero [] o below = omega arith
few zero (x ∷ xs) o below = absurd (let none : x < 0 = below x (inl refl) in omega arith)
few (suc n) xs o below =
    let less : length (without n xs) ≤ n =
    few n (without n xs) (once_without n xs o) (λ a h.
    let bound : a < suc n = below a (has_without n xs a h) in
    let other : a ≡ n → ⊥ = λ e. gone_without n xs o (subst (λ y. Has (without n xs) y) e h) in
    omega arith) in
    let one : length xs ≤ length (without n xs) + 1 = length_without n xs in
    omega arith

pub map_append : {A B : Type 0} (f : A → B) (xs : List A) (y : A) → map f (xs ++ y ∷ []) ≡ map f xs ++ f y ∷ []
map_append f [] y = refl
map_append f (x ∷ xs) y = ap (λ zs. f x ∷ zs) (map_append f xs y)

pub length_map : {A B : Type 0} (f : A → B) (xs : List A) → length (map f xs) ≡ length xs
length_map f [] = refl
length_map f (x ∷ xs) = ap suc (length_map f xs)

-- what holds of each address, or of each number, and of one more
pub all_more : (key : Assignment → ℕ) (P : ℕ → Type 0) (xs : List Assignment) (p : Assignment) → ((n : ℕ) → Has (map key xs) n → P n) → P (key p)
    → (n : ℕ) → Has (map key (xs ++ p ∷ [])) n → P n
all_more key P xs p all one n h = go (has_cases (map key xs) (key p) n (subst (λ ys. Has ys n) (map_append key xs p) h)) where
  go : Has (map key xs) n ⊎ (key p ≡ n) → P n
  go (inl k) = all n k
  go (inr e) = subst P e one

-- also if it may not have been added
pub all_after : {E : Type 0} (key : Assignment → ℕ) (P : ℕ → Type 0) (old new : List Assignment) (p : Assignment) (r : Result (Unit {0}) E)
    → ((n : ℕ) → Has (map key old) n → P n)
    → P (key p) → OnOk r (new ≡ old ++ p ∷ []) → OnErr r (new ≡ old) → (n : ℕ) → Has (map key new) n → P n
all_after key P old new p (Err e) all one ok err = subst (λ xs. (n : ℕ) → Has (map key xs) n → P n) (sym err) all
all_after key P old new p (Ok u) all one ok err = subst (λ xs. (n : ℕ) → Has (map key xs) n → P n) (sym ok) (all_more key P old p all one)

-- a map with one more pair
pub map_more : (xs : List Assignment) (a r : ℕ) → IsMap xs → (HasAddress xs a → ⊥) → (HasRandom xs r → ⊥) → a < 64 → IsMap (xs ++ (a, r) ∷ [])
map_more xs a r m no_address no_random small =
    let there : addresses (xs ++ (a, r) ∷ []) ≡ addresses xs ++ a ∷ [] = map_append (λ p. p.0) xs (a, r) in
    let of : randoms (xs ++ (a, r) ∷ []) ≡ randoms xs ++ r ∷ [] = map_append (λ p. p.1) xs (a, r) in
    let once : IsOnce (addresses (xs ++ (a, r) ∷ [])) = subst IsOnce (sym there) (once_more (addresses xs) a m.address_once no_address) in
    let short : (b : ℕ) → HasAddress (xs ++ (a, r) ∷ []) b → b < 64 = all_more (λ p. p.0) (λ n. n < 64) xs (a, r) m.short small in
    record {
      address_once = once;
      random_once = subst IsOnce (sym of) (once_more (randoms xs) r m.random_once no_random);
      short = short;
      room =
          let few_addresses : length (addresses (xs ++ (a, r) ∷ [])) ≤ 64 = few 64 (addresses (xs ++ (a, r) ∷ [])) once short in
          subst (λ n. n ≤ 64) (length_map (λ p. p.0) (xs ++ (a, r) ∷ [])) few_addresses;
    }

-- so there is room for it
pub room_more : (xs : List Assignment) (a r : ℕ) → IsMap xs → (HasAddress xs a → ⊥) → (HasRandom xs r → ⊥) → a < 64 → length xs < 64
room_more xs a r m no_address no_random small =
    let more : length (xs ++ (a, r) ∷ []) ≡ length xs + 1 = simp (length-append) in
    let room : length (xs ++ (a, r) ∷ []) ≤ 64 = (map_more xs a r m no_address no_random small).room in
    omega arith

-- a pair that a search comes to
pub pair_here : (xs : List Assignment) (i n : ℕ) (p : Assignment) → i < length xs → p ≡ get_or xs i p → p.1 ≡ n → Has xs (p.0, n)
pair_here xs i n p h is same = subst (λ m. Has xs (p.0, m)) same (subst (λ q. Has xs q) (sym is) (has_at xs i p h))

pub pair_there : (xs : List Assignment) (i a : ℕ) (p : Assignment) → i < length xs → p ≡ get_or xs i p → p.0 ≡ a → Has xs (a, p.1)
pair_there xs i a p h is same = subst (λ m. Has xs (m, p.1)) same (subst (λ q. Has xs q) (sym is) (has_at xs i p h))

-- what a search says of an address, and of a number
pub address_found : (xs : List Assignment) (a : ℕ) (o : Option ℕ) → MatchOption o (HasAddress xs a → ⊥) (λ r. Has xs (a, r))
    → (is_some o ≡ true) ↔ HasAddress xs a
address_found xs a None none = (λ e. absurd (cc), λ h. absurd (none h))
address_found xs a (Some r) here = (λ e. has_map (λ p. p.0) xs (a, r) here, λ h. refl)

pub random_found : (xs : List Assignment) (r : ℕ) (o : Option ℕ) → MatchOption o (HasRandom xs r → ⊥) (λ a. Has xs (a, r)) → (is_some o ≡ true) ↔ HasRandom xs r
random_found xs r None none = (λ e. absurd (cc), λ h. absurd (none h))
random_found xs r (Some a) here = (λ e. has_map (λ p. p.1) xs (a, r) here, λ h. refl)

-- two pairs are equal if their parts are
pub pairs_decide : (p q : Assignment) → Decides (nat_eq p.0 q.0 && nat_eq p.1 q.1) (p ≡ q)
pairs_decide p q = (
  λ e. both p q (let first : p.0 ≡ q.0 = grind (arith, nat_tests) in first) (let second : p.1 ≡ q.1 = grind (arith, nat_tests) in second),
  λ e. subst (λ r. (nat_eq p.0 r.0 && nat_eq p.1 r.1) ≡ true) e (self p),
) where
  both : (p q : Assignment) → p.0 ≡ q.0 → p.1 ≡ q.1 → p ≡ q
  both p q first second = ap (λ a. (a, p.1)) first ∙ ap (λ r. (q.0, r)) second

  self : (p : Assignment) → (nat_eq p.0 p.0 && nat_eq p.1 p.1) ≡ true
  self p = grind (arith, nat_tests)

-- one more address of the block is reserved
pub reserved_more : (b : Block) (xs : List Assignment) (n : ℕ) → ((c : ℕ) → b.first ≤ c → c < n → HasAddress xs c) → HasAddress xs n
    → (c : ℕ) → b.first ≤ c → c < n + 1 → HasAddress xs c
reserved_more b xs n below here c low high = go (nat_eq c n) refl where
  go : (t : Bool) → nat_eq c n ≡ t → HasAddress xs c
  go true is = let same : n ≡ c = grind (arith, nat_tests) in subst (λ d. HasAddress xs d) same here
  go false is = below c low (grind (arith, nat_tests))

-- A PAIR IS TAKEN AWAY
pub is_other : (x y : Assignment) → is_pair x y ≡ false → y ≡ x → ⊥
is_other x y apart same = let here : is_pair x y ≡ true = (pairs_decide y x).1 same in cc

pub without_has : (x : Assignment) (xs : List Assignment) (y : Assignment) → Has (without_pair x xs) y → Has xs y
without_has x [] y h = h
without_has x (z ∷ xs) y h = go (is_pair x z) h (without_has x xs y) where
  go : (b : Bool) → Has (cond (not b) (z ∷ without_pair x xs) (without_pair x xs)) y → (Has (without_pair x xs) y → Has xs y) → Has (z ∷ xs) y
  go true k rest = inr (rest k)
  go false (inl e) rest = inl e
  go false (inr k) rest = inr (rest k)

pub without_none : (x : Assignment) (xs : List Assignment) → (Has xs x → ⊥) → without_pair x xs ≡ xs
without_none x [] none = refl
without_none x (z ∷ xs) none = go (is_pair x z) refl (without_none x xs (λ h. none (inr h))) where
  go : (b : Bool) → is_pair x z ≡ b → without_pair x xs ≡ xs → cond (not b) (z ∷ without_pair x xs) (without_pair x xs) ≡ z ∷ xs
  go true is rest = absurd (none (inl ((pairs_decide z x).0 is)))
  go false is rest = ap (λ ys. z ∷ ys) rest

-- what holds of each address, or of each number, and of fewer
pub key_left : (key : Assignment → ℕ) (x : Assignment) (xs : List Assignment) (n : ℕ) → Has (map key (without_pair x xs)) n → Has (map key xs) n
key_left key x [] n h = h
key_left key x (z ∷ xs) n h = go (is_pair x z) h (key_left key x xs n) where
  go : (b : Bool) → Has (map key (cond (not b) (z ∷ without_pair x xs) (without_pair x xs))) n → (Has (map key (without_pair x xs)) n → Has (map key xs) n)
      → Has (map key (z ∷ xs)) n
  go true k rest = inr (rest k)
  go false (inl e) rest = inl e
  go false (inr k) rest = inr (rest k)

pub once_left : (key : Assignment → ℕ) (x : Assignment) (xs : List Assignment) → IsOnce (map key xs) → IsOnce (map key (without_pair x xs))
once_left key x [] o = tt
once_left key x (z ∷ xs) o = go (is_pair x z) (once_left key x xs o.1) where
  go : (b : Bool) → IsOnce (map key (without_pair x xs)) → IsOnce (map key (cond (not b) (z ∷ without_pair x xs) (without_pair x xs)))
  go true rest = rest
  go false rest = (λ h. o.0 (key_left key x xs (key z) h), rest)

length_left : (x : Assignment) (xs : List Assignment) → length (without_pair x xs) ≤ length xs
length_left x [] = omega arith
length_left x (z ∷ xs) = go (is_pair x z) (length_left x xs) where
  go : (b : Bool) → length (without_pair x xs) ≤ length xs → length (cond (not b) (z ∷ without_pair x xs) (without_pair x xs)) ≤ length (z ∷ xs)
  go true rest = omega arith
  go false rest = omega arith

pub map_left : (x : Assignment) (xs : List Assignment) → IsMap xs → IsMap (without_pair x xs)
map_left x xs m = record {
  address_once = once_left (λ p. p.0) x xs m.address_once;
  random_once = once_left (λ p. p.1) x xs m.random_once;
  short = λ a h. m.short a (key_left (λ p. p.0) x xs a h);
  room = let fewer : length (without_pair x xs) ≤ length xs = length_left x xs in let room : length xs ≤ 64 = m.room in omega arith;
}

pub all_left : {E : Type 0} (key : Assignment → ℕ) (P : ℕ → Type 0) (old new : List Assignment) (x : Assignment) (r : Result (Unit {0}) E)
    → ((n : ℕ) → Has (map key old) n → P n)
    → OnOk r (new ≡ without_pair x old) → OnErr r (new ≡ old) → (n : ℕ) → Has (map key new) n → P n
all_left key P old new x (Err e) all ok err = subst (λ xs. (n : ℕ) → Has (map key xs) n → P n) (sym err) all
all_left key P old new x (Ok u) all ok err = subst (λ xs. (n : ℕ) → Has (map key xs) n → P n) (sym ok) (λ n h. all n (key_left key x old n h))

-- the list without the place where the pair stands
pub without_place : (x : Assignment) (xs : List Assignment) (i : ℕ) (d : Assignment) → IsOnce (addresses xs) → i < length xs → get_or xs i d ≡ x
    → take i xs ++ drop (suc i) xs ≡ without_pair x xs
without_place x [] i d o h is = absurd (omega arith)
without_place x (z ∷ xs) zero d o h is = go (is_pair x z) refl (without_none x xs none) where
  none : Has xs x → ⊥
  none k = o.0 (subst (λ n. Has (addresses xs) n) (ap (λ p. p.0) (sym is)) (has_map (λ p. p.0) xs x k))

  go : (b : Bool) → is_pair x z ≡ b → without_pair x xs ≡ xs → xs ≡ cond (not b) (z ∷ without_pair x xs) (without_pair x xs)
  go true same rest = sym rest
  go false same rest = absurd (is_other x z same is)
without_place x (z ∷ xs) (suc i) d o h is = go (is_pair x z) refl (without_place x xs i d o.1 (omega arith) is) where
  there : Has xs x
  there = subst (λ p. Has xs p) is (has_at xs i d (omega arith))

  go : (b : Bool) → is_pair x z ≡ b → take i xs ++ drop (suc i) xs ≡ without_pair x xs
      → z ∷ take i xs ++ drop (suc i) xs ≡ cond (not b) (z ∷ without_pair x xs) (without_pair x xs)
  go true same rest = absurd (o.0 (subst (λ p. Has (addresses xs) p.0) (sym ((pairs_decide z x).0 same)) (has_map (λ p. p.0) xs x there)))
  go false same rest = ap (λ ys. z ∷ ys) rest

-- what a search for a pair says if the pair is known to be there
pub has_place : (xs : List Assignment) (i : ℕ) (d x : Assignment) → i < length xs → get_or xs i d ≡ x → Has xs x
has_place xs i d x h is = subst (λ p. Has xs p) is (has_at xs i d h)

-- RECORDS STAY KEPT
pub map_none : IsMap []
map_none = record { address_once = tt; random_once = tt; short = λ a h. absurd h; room = omega arith }

pub kept_none : (b : Block) → IsKept (without_records b)
kept_none b = record { reserved = map_none; enrolled = map_none; reserved_drawn = λ r h. absurd h; enrolled_drawn = λ r h. absurd h; within = λ c h. absurd h }

pub kept_more : (k : Kept) (x : Record) → IsKept k → Fits k.block x → address_of x < 64 → MayAdd k x → IsKept (with_record k x)
kept_more k (Reserve a r) m fits small fresh = record {
  reserved = map_more k.reserved a r m.reserved fresh.0 fresh.1 small;
  enrolled = m.enrolled;
  reserved_drawn = all_more (λ p. p.1) (λ n. n < MASK24) k.reserved (a, r) m.reserved_drawn fits.1;
  enrolled_drawn = m.enrolled_drawn;
  within = all_more (λ p. p.0) (InBlock k.block) k.reserved (a, r) m.within fits.0;
}
kept_more k (Enrol a r) m fits small fresh = record {
  reserved = m.reserved;
  enrolled = map_more k.enrolled a r m.enrolled fresh.0 fresh.1 small;
  reserved_drawn = m.reserved_drawn;
  enrolled_drawn = all_more (λ p. p.1) (λ n. n < MASK24) k.enrolled (a, r) m.enrolled_drawn fits;
  within = m.within;
}
kept_more k (Release a r) m fits small there = record {
  reserved = map_left (a, r) k.reserved m.reserved;
  enrolled = m.enrolled;
  reserved_drawn = λ n h. m.reserved_drawn n (key_left (λ p. p.1) (a, r) k.reserved n h);
  enrolled_drawn = m.enrolled_drawn;
  within = λ c h. m.within c (key_left (λ p. p.0) (a, r) k.reserved c h);
}

-- WHAT A RECORD LEAVES. The block stays; what is reserved then was so before, or the record reserves it; and so of what is enrolled.
pub block_stays : (k : Kept) (x : Record) → (with_record k x).block ≡ k.block
block_stays k (Reserve a r) = refl
block_stays k _ = refl

pub reserved_by : (k : Kept) (x : Record) (p : Assignment) → Has (with_record k x).reserved p → Has k.reserved p ⊎ (x ≡ Reserve p.0 p.1)
reserved_by k (Reserve a r) p has = go (has_cases k.reserved (a, r) p has) where
  go : Has k.reserved p ⊎ ◌≡◌ {A = Assignment} (a, r) p → Has k.reserved p ⊎ (Reserve a r ≡ Reserve p.0 p.1)
  go (inl before) = inl before
  go (inr same) = inr (ap (λ (q : Assignment). Reserve q.0 q.1) same)
reserved_by k (Release a r) p has = inl (without_has (a, r) k.reserved p has)
reserved_by k _ p has = inl has

pub enrolled_by : (k : Kept) (x : Record) (p : Assignment) → Has (with_record k x).enrolled p → Has k.enrolled p ⊎ (x ≡ Enrol p.0 p.1)
enrolled_by k (Enrol a r) p has = go (has_cases k.enrolled (a, r) p has) where
  go : Has k.enrolled p ⊎ ◌≡◌ {A = Assignment} (a, r) p → Has k.enrolled p ⊎ (Enrol a r ≡ Enrol p.0 p.1)
  go (inl before) = inl before
  go (inr same) = inr (ap (λ (q : Assignment). Enrol q.0 q.1) same)
enrolled_by k _ p has = inl has

-- what is enrolled stays so
pub enrolled_stays : (k : Kept) (x : Record) (p : Assignment) → Has k.enrolled p → Has (with_record k x).enrolled p
enrolled_stays k (Enrol a r) p has = has_before k.enrolled (a, r) p has
enrolled_stays k _ p has = has

-- what records show then they showed before, or it is this record; unless it takes away
pub shown_by : (k : Kept) (x y : Record) → Shows (with_record k x) y → TakesAway y ⊎ (Shows k y ⊎ (x ≡ y))
shown_by k x (Reserve a r) shows = inr (reserved_by k x (a, r) shows)
shown_by k x (Enrol a r) shows = inr (enrolled_by k x (a, r) shows)
shown_by k x (Release a r) shows = inl tt

pub shown_none : (b : Block) (y : Record) → Shows (without_records b) y → TakesAway y
shown_none b (Release a r) shows = tt
shown_none b _ shows = shows

-- A LARGER BLOCK: a record does the same there, fits it, and may be added
pub record_wider : (wide : Block) (k : Kept) (x : Record) → with_record (record k { block = wide }) x ≡ record (with_record k x) { block = wide }
record_wider wide k (Reserve a r) = refl
record_wider wide k _ = refl

pub fits_wider : (b wide : Block) (x : Record) → wide.first ≤ b.first → b.last ≤ wide.last → Fits b x → Fits wide x
fits_wider b wide (Reserve a r) below above fits = ((omega (arith, below, fits.0.0), omega (arith, above, fits.0.1)), fits.1)
fits_wider b wide (Enrol a r) below above fits = fits
fits_wider b wide (Release a r) below above fits = ((omega (arith, below, fits.0.0), omega (arith, above, fits.0.1)), fits.1)

pub may_wider : (wide : Block) (k : Kept) (x : Record) → MayAdd k x → MayAdd (record k { block = wide }) x
may_wider wide k (Reserve a r) may = may
may_wider wide k _ may = may

-- what is reserved fits, and so does its release
pub reserved_fits : (k : Kept) (a r : ℕ) → IsKept k → Has k.reserved (a, r) → Fits k.block (Release a r)
reserved_fits k a r kept has = (kept.within a (has_map (λ p. p.0) k.reserved (a, r) has), kept.reserved_drawn r (has_map (λ p. p.1) k.reserved (a, r) has))

-- An element stands in no earlier place of a list in which its key stands once.
pub once_before : (key : Assignment → ℕ) (xs : List Assignment) (i : ℕ) (d : Assignment) → IsOnce (map key xs) → i < length xs
    → Has (map key (take i xs)) (key (get_or xs i d)) → ⊥
once_before key [] i d once h has = absurd (omega arith)
once_before key (x ∷ xs) zero d once h has = has
once_before key (x ∷ xs) (suc i) d once h (inl same) =
    once.0 (subst (Has (map key xs)) (sym same) (has_map key xs (get_or xs i d) (has_at xs i d (omega arith))))
once_before key (x ∷ xs) (suc i) d once h (inr more) = once_before key xs i d once.1 (omega arith) more

pub next_there : (xs : List Assignment) (i : ℕ) (p : Assignment) → i < length xs → p ≡ get_or xs i p → Has xs p
next_there xs i p inside is = subst (λ q. Has xs q) (sym is) (has_at xs i p inside)

pub next_fresh : (xs : List Assignment) (i : ℕ) (p : Assignment) → IsMap xs → i < length xs → p ≡ get_or xs i p → IsFresh (take i xs) p
next_fresh xs i p m inside is = (
  λ h. once_before (λ q. q.0) xs i p m.address_once inside (subst (λ (q : Assignment). Has (map (λ o. o.0) (take i xs)) q.0) is h),
  λ h. once_before (λ q. q.1) xs i p m.random_once inside (subst (λ (q : Assignment). Has (map (λ o. o.1) (take i xs)) q.1) is h),
)

-- THE MARKS OF ADDRESSES, while these pairs are still to be looked at
pub record Marking (xs rest : List Assignment) (marks : List Bool) : Type 0 where
  pub all : length marks ≡ 64
  pub only : (a : ℕ) → a < 64 → get_or marks a false ≡ true → HasAddress xs a
  pub other : (a : ℕ) → HasAddress xs a → (get_or marks a false ≡ true) ⊎ HasAddress rest a

pub marking_none : (xs : List Assignment) → Marking xs xs (replicate 64 false)
marking_none xs = record {
  all = refl;
  only = λ a small is. let no : false ≡ true = sym (get_or-replicate 64 a false false small) ∙ is in cc;
  other = λ a h. inr h;
}

pub marking_more : (xs : List Assignment) (i : ℕ) (p : Assignment) (marks : List Bool) → i < length xs → p ≡ get_or xs i p → p.0 < 64
    → Marking xs (drop i xs) marks → Marking xs (drop (i + 1) xs) (set marks p.0 true)
marking_more xs i p marks inside is small m = record {
  all = length-set marks p.0 true ∙ m.all;
  only = λ a below marked. only a below (cases_eq a p.0) marked;
  other = λ a h. other a (cases_eq a p.0) (m.other a h);
} where
  there : p.0 < length marks
  there = rw m.all small

  only : (a : ℕ) → a < 64 → (a ≡ p.0) ⊎ (a ≢ p.0) → get_or (set marks p.0 true) a false ≡ true → HasAddress xs a
  only a below (inl same) marked = subst (λ b. HasAddress xs b) (sym same) (has_map (λ q. q.0) xs p (subst (λ q. Has xs q) (sym is) (has_at xs i p inside)))
  only a below (inr not_it) marked = m.only a below (sym (get_or-set_other marks p.0 a true false not_it) ∙ marked)

  other : (a : ℕ) → (a ≡ p.0) ⊎ (a ≢ p.0) → (get_or marks a false ≡ true) ⊎ HasAddress (drop i xs) a
      → (get_or (set marks p.0 true) a false ≡ true) ⊎ HasAddress (drop (i + 1) xs) a
  other a (inl same) before = inl (ap (λ b. get_or (set marks p.0 true) b false) same ∙ get_or-set_same marks p.0 true false there)
  other a (inr not_it) (inl marked) = inl (get_or-set_other marks p.0 a true false not_it ∙ marked)
  other a (inr not_it) (inr later) = go (subst (λ ys. HasAddress ys a) (drop_more xs i p inside) later) where
    go : HasAddress (get_or xs i p ∷ drop (i + 1) xs) a → (get_or (set marks p.0 true) a false ≡ true) ⊎ HasAddress (drop (i + 1) xs) a
    go (inl e) = absurd (not_it (sym e ∙ ap (λ q. q.0) (sym is)))
    go (inr h) = inr h

pub marking_all : (xs : List Assignment) (i : ℕ) (marks : List Bool) → length xs ≤ i → Marking xs (drop i xs) marks → Marks xs marks
marking_all xs i marks past m = record {
  all = m.all;
  marked = λ a small. (m.only a small, λ h. go a (m.other a h));
} where
  go : (a : ℕ) → (get_or marks a false ≡ true) ⊎ HasAddress (drop i xs) a → get_or marks a false ≡ true
  go a (inl marked) = marked
  go a (inr h) = absurd (subst (λ ys. HasAddress ys a) (at_drop_all (λ ys. ys) xs i past) h)
