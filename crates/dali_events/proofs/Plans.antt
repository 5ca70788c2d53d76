use Rattle.std.proofs.Common.{◌≡◌, ℕ, zero, suc, ◌<◌, ◌≤◌, Bool, true, false, List, [], ◌∷◌, All, length, get_or, map, Some, None, refl, sym, ap, subst, inl}
use Rattle.std.{proofs.{Common.{inr, arith, ◌==◌, ◌||◌, nat_lt, nat_le, if◌then◌else◌}, lemmas.{Bool.Decides.nat_tests, List.length-map}}, specs.List.list_any}
use Rattle.dali_frame.specs.Random.{MASK24}
use Rattle.dali_script.{specs.Records.{Has, IsOnce, InBlock}, proofs.{Lists.{few, has_at, has_map}, Members.{mapped_from, once_append}}}
use Rattle.dali_events.specs.Plan.{any_pair, is_misordered, overlap, refusal_of, block_of, plan_of, no_block, Plan, AreUsed, IsPlan, used_refusal_of, plan_with}
use Rattle.dali_events.specs.declared.{used.Used.Used}

-- a plan that is not refused fails no test
pub record IsAccepted (gear : ℕ) (blocks : List (ℕ × ℕ)) (draws : List ℕ) : Type 0 where
  pub gear_count : (nat_lt gear 1 || nat_lt 128 gear) ≡ false
  pub controllers : (nat_lt (length blocks) 1 || nat_lt 4 (length blocks)) ≡ false
  pub ordered : list_any is_misordered blocks ≡ false
  pub apart : any_pair overlap blocks ≡ false
  pub small : list_any (λ draw. nat_lt 0xFFFFFE draw) draws ≡ false
  pub once : any_pair (λ draw other. draw == other) draws ≡ false

no_cause : {A : Type 0} (u v w x y z : A) (a b c d e f : Bool)
    → (if a then Some u else if b then Some v else if c then Some w else if d then Some x else if e then Some y else if f then Some z else None) ≡ None
    → (a ≡ false) × (b ≡ false) × (c ≡ false) × (d ≡ false) × (e ≡ false) × (f ≡ false)
no_cause u v w x y z false false false false false false is = (refl, refl, refl, refl, refl, refl)
no_cause u v w x y z _ _ _ _ _ _ is = absurd (cc)

pub accepted : (gear : ℕ) (blocks : List (ℕ × ℕ)) (draws : List ℕ) → refusal_of gear blocks draws ≡ None → IsAccepted gear blocks draws
accepted gear blocks draws is =
    let all = no_cause _ _ _ _ _ _ (nat_lt gear 1 || nat_lt 128 gear) (nat_lt (length blocks) 1 || nat_lt 4 (length blocks)) (list_any is_misordered blocks)
    (any_pair overlap blocks) (list_any (λ draw. nat_lt 0xFFFFFE draw) draws) (any_pair (λ draw other. draw == other) draws) is in
    record { gear_count = all.0; controllers = all.1; ordered = all.2; apart = all.3; small = all.4; once = all.5 }

or_false_left : (a b : Bool) → (a || b) ≡ false → a ≡ false
or_false_left true b is = cc
or_false_left false b is = refl

or_false_right : (a b : Bool) → (a || b) ≡ false → b ≡ false
or_false_right true b is = absurd (cc)
or_false_right false b is = is

-- where no element passes, none that is there does, and none at an index
no_one : {A : Type 0} (test : A → Bool) (xs : List A) (x : A) → list_any test xs ≡ false → Has xs x → test x ≡ false
no_one test [] x none has = absurd has
no_one test (y ∷ xs) x none (inl same) = subst (λ z. test z ≡ false) same (or_false_left (test y) (list_any test xs) none)
no_one test (y ∷ xs) x none (inr has) = no_one test xs x (or_false_right (test y) (list_any test xs) none) has

pub none_at : {A : Type 0} (test : A → Bool) (xs : List A) (i : ℕ) (d : A) → list_any test xs ≡ false → i < length xs → test (get_or xs i d) ≡ false
none_at test [] i d none here = absurd (omega arith)
none_at test (x ∷ xs) zero d none here = or_false_left (test x) (list_any test xs) none
none_at test (x ∷ xs) (suc i) d none here = none_at test xs i d (or_false_right (test x) (list_any test xs) none) (omega arith)

pub no_pair_at : {A : Type 0} (test : A → A → Bool) (xs : List A) (i j : ℕ) (d : A) → any_pair test xs ≡ false → i < j → j < length xs
    → test (get_or xs i d) (get_or xs j d) ≡ false
no_pair_at test (x ∷ xs) zero (suc j) d none order here = none_at (test x) xs j d (or_false_left (list_any (test x) xs) (any_pair test xs) none) (omega arith)
no_pair_at test (x ∷ xs) (suc i) (suc j) d none order here =
    no_pair_at test xs i j d (or_false_right (list_any (test x) xs) (any_pair test xs) none) (omega arith) (omega arith)
no_pair_at test _ i _ d none order here = absurd (omega arith)

-- the blocks of a plan, by their bounds
abbrev no_bounds : ℕ × ℕ
no_bounds = (1, 0)

block_is : (blocks : List (ℕ × ℕ)) (c : ℕ) → get_or (map block_of blocks) c no_block ≡ block_of (get_or blocks c no_bounds)
block_is (b ∷ blocks) (suc c) = block_is blocks c
block_is _ _ = refl

length_blocks : (blocks : List (ℕ × ℕ)) → length (map block_of blocks) ≡ length blocks
length_blocks [] = refl
length_blocks (b ∷ blocks) = ap suc (length_blocks blocks)

overlaps_at : (b c : ℕ × ℕ) (a : ℕ) → InBlock (block_of b) a → InBlock (block_of c) a → overlap b c ≡ true
overlaps_at b c a first second =
    let low : b.0 ≤ c.1 = omega (arith, first.0, second.1) in
    let high : c.0 ≤ b.1 = omega (arith, second.0, first.1) in
    grind (arith, nat_tests)

apart_below : (blocks : List (ℕ × ℕ)) (c d a : ℕ) → any_pair overlap blocks ≡ false → c < d → d < length blocks
    → InBlock (block_of (get_or blocks c no_bounds)) a → InBlock (block_of (get_or blocks d no_bounds)) a → ⊥
apart_below blocks c d a none order here first second =
    let no = no_pair_at overlap blocks c d no_bounds none order here in
    let yes = overlaps_at (get_or blocks c no_bounds) (get_or blocks d no_bounds) a first second in
    cc

one_block : (blocks : List (ℕ × ℕ)) (c d a : ℕ) → any_pair overlap blocks ≡ false → c < length blocks → d < length blocks
    → InBlock (block_of (get_or blocks c no_bounds)) a → InBlock (block_of (get_or blocks d no_bounds)) a → c ≡ d
one_block blocks c d a none c_here d_here first second = go (nat_lt c d) (nat_lt d c) refl refl where
  go : (below above : Bool) → nat_lt c d ≡ below → nat_lt d c ≡ above → c ≡ d
  go true above is_below is_above =
      let order : c < d = grind (arith, nat_tests) in
      absurd (apart_below blocks c d a none order d_here first second)
  go false true is_below is_above =
      let order : d < c = grind (arith, nat_tests) in
      absurd (apart_below blocks d c a none order c_here second first)
  go false false is_below is_above = grind (arith, nat_tests)

-- numbers that stand once
not_among : (draw : ℕ) (draws : List ℕ) → list_any (λ other. draw == other) draws ≡ false → Has draws draw → ⊥
not_among draw draws none has =
    let no = no_one (λ other. draw == other) draws draw none has in
    let yes : (draw == draw) ≡ true = grind (arith, nat_tests) in
    cc

draws_once : (draws : List ℕ) → any_pair (λ draw other. draw == other) draws ≡ false → IsOnce draws
draws_once [] none = tt
draws_once (draw ∷ draws) none = (
  not_among draw draws (or_false_left (list_any (λ other. draw == other) draws) (any_pair (λ d o. d == o) draws) none),
  draws_once draws (or_false_right (list_any (λ other. draw == other) draws) (any_pair (λ d o. d == o) draws) none),
)

draws_below : (draws : List ℕ) (r : ℕ) → list_any (λ draw. nat_lt 0xFFFFFE draw) draws ≡ false → Has draws r → r < MASK24
draws_below draws r none has = let no : nat_lt 0xFFFFFE r ≡ false = no_one (λ draw. nat_lt 0xFFFFFE draw) draws r none has in grind (arith, nat_tests)

short_block : (b : ℕ × ℕ) (a : ℕ) → is_misordered b ≡ false → InBlock (block_of b) a → a < 64
short_block b a ordered within =
    let last : nat_lt 63 b.1 ≡ false = or_false_right (nat_lt b.1 b.0) (nat_lt 63 b.1) ordered in
    let top : b.1 ≤ 63 = grind (arith, nat_tests) in
    omega (arith, within.1)

-- without used gear
pub none_used : (p : Plan) → p.used ≡ [] → IsOnce p.draws → AreUsed p
none_used p none once = record {
  gear_once = rw none tt;
  there = λ g h. none_of (λ u. u.gear) g (λ n. n < p.gear) h;
  short_once = rw none tt;
  short = λ a h. none_of (λ u. u.short) a (λ n. n < 64) h;
  random_once = rw none once;
  random_below = λ r h. none_of (λ u. u.random) r (λ n. n < MASK24) h;
} where
  none_of : (f : Used → ℕ) (n : ℕ) (P : ℕ → Type 0) → Has (map f p.used) n → P n
  none_of f n P h = go (subst (λ (us : List Used). Has (map f us) n) none h) where
    go : Has (map f []) n → P n
    go k = elim k [ ]

-- what is accepted is a plan
pub plan_is : (gear : ℕ) (blocks : List (ℕ × ℕ)) (draws : List ℕ) → refusal_of gear blocks draws ≡ None → IsPlan (plan_of gear blocks draws)
plan_is gear blocks draws is =
    let all = accepted gear blocks draws is in
    record {
      apart = λ c d a c_here d_here first second. one_block blocks c d a all.apart (subst (λ n. c < n) (length_blocks blocks) c_here)
          (subst (λ n. d < n) (length_blocks blocks) d_here) (subst (λ b. InBlock b a) (block_is blocks c) first)
          (subst (λ b. InBlock b a) (block_is blocks d) second);
      short = λ c a c_here within. short_block (get_or blocks c no_bounds) a
          (none_at is_misordered blocks c no_bounds all.ordered (subst (λ n. c < n) (length_blocks blocks) c_here))
          (subst (λ b. InBlock b a) (block_is blocks c) within);
      draws_once = draws_once draws all.once;
      draws_below = λ r has. draws_below draws r all.small has;
      used = none_used (plan_of gear blocks draws) refl (draws_once draws all.once);
    }

pub gear_is : (gear : ℕ) → (nat_lt gear 1 || nat_lt 128 gear) ≡ false → (1 ≤ gear) × (gear ≤ 128)
gear_is gear is =
    let low : nat_lt gear 1 ≡ false = or_false_left (nat_lt gear 1) (nat_lt 128 gear) is in
    let high : nat_lt 128 gear ≡ false = or_false_right (nat_lt gear 1) (nat_lt 128 gear) is in
    (grind (arith, nat_tests), grind (arith, nat_tests))

pub blocks_are : (blocks : List (ℕ × ℕ)) → (nat_lt (length blocks) 1 || nat_lt 4 (length blocks)) ≡ false
    → (1 ≤ length (map block_of blocks)) × (length (map block_of blocks) ≤ 4)
blocks_are blocks is =
    let low : nat_lt (length blocks) 1 ≡ false = or_false_left (nat_lt (length blocks) 1) (nat_lt 4 (length blocks)) is in
    let high : nat_lt 4 (length blocks) ≡ false = or_false_right (nat_lt (length blocks) 1) (nat_lt 4 (length blocks)) is in
    let some : 1 ≤ length blocks = grind (arith, nat_tests) in
    let few : length blocks ≤ 4 = grind (arith, nat_tests) in
    (subst (λ n. 1 ≤ n) (sym (length_blocks blocks)) some, subst (λ n. n ≤ 4) (sym (length_blocks blocks)) few)

-- a used gear is there
pub there_at : (p : Plan) → AreUsed p → (n : ℕ) (d : Used) → n < length p.used → (get_or p.used n d).gear < p.gear
there_at p is n d here = is.there (get_or p.used n d).gear (has_map (λ u. u.gear) p.used (get_or p.used n d) (has_at p.used n d here))

pub there_in : (p : Plan) → AreUsed p → (us : List Used) → us ≡ p.used → (n : ℕ) (u : Used) → n < length us → u ≡ get_or us n u → u.gear < p.gear
there_in p is us same n u here at =
    subst (λ (v : Used). v.gear < p.gear) (sym at) (
    subst (λ (vs : List Used). (get_or vs n u).gear < p.gear) (sym same) (there_at p is n u (subst (λ (vs : List Used). n < length vs) same here)))

-- there are no more used gear than gear
pub few_used : (p : Plan) → AreUsed p → length p.used ≤ p.gear
few_used p is = subst (λ n. n ≤ p.gear) (length-map p.used (λ u. u.gear)) (few p.gear (map (λ u. u.gear) p.used) is.gear_once is.there)

-- ---------------------------------------------------------------- with used gear

-- numbers of used gear that are in no other's stand once
not_of : (f : Used → ℕ) (n : ℕ) (us : List Used) → list_any (λ v. n == f v) us ≡ false → Has (map f us) n → ⊥
not_of f n us none has =
    let k = mapped_from f us n has in
    let no = no_one (λ v. n == f v) us k.0 none k.1 in
    let same : f k.0 ≡ n = k.2 in
    let yes : (n == f k.0) ≡ true = grind (arith, nat_tests) in
    cc

once_of : (f : Used → ℕ) (us : List Used) → any_pair (λ u v. f u == f v) us ≡ false → IsOnce (map f us)
once_of f [] none = tt
once_of f (u ∷ us) none = (
  not_of f (f u) us (or_false_left (list_any (λ v. f u == f v) us) (any_pair (λ v w. f v == f w) us) none),
  once_of f us (or_false_right (list_any (λ v. f u == f v) us) (any_pair (λ v w. f v == f w) us) none),
)

all_has : (P : Used → Type 0) (us : List Used) (u : Used) → All P us → Has us u → P u
all_has P [] u all has = elim has [ ]
all_has P (v ∷ us) u all (inl same) = subst P same (all zero v (omega arith))
all_has P (v ∷ us) u all (inr has) = all_has P us u (λ k d here. all (suc k) d (omega arith)) has

pub with_is : (p : Plan) → IsPlan p → (us : List Used) → used_refusal_of p us ≡ None → All (λ u. u.short < 64) us → IsPlan (plan_with p us)
with_is p plan us is small =
    let no = no_cause _ _ _ _ _ _ (list_any (λ u. nat_le p.gear u.gear) us) (any_pair (λ u v. u.gear == v.gear) us) (any_pair (λ u v. u.short == v.short) us)
    (list_any (λ u. nat_lt 0xFFFFFE u.random) us) (any_pair (λ u v. u.random == v.random) us)
    (list_any (λ u. list_any (λ draw. u.random == draw) p.draws) us) is in
    record {
      apart = plan.apart;
      short = plan.short;
      draws_once = plan.draws_once;
      draws_below = plan.draws_below;
      used = record {
        gear_once = once_of (λ u. u.gear) us no.1;
        there = λ g h. let k = mapped_from (λ u. u.gear) us g h in
            subst (λ n. n < p.gear) k.2 (let low = no_one (λ u. nat_le p.gear u.gear) us k.0 no.0 k.1 in grind (arith, nat_tests));
        short_once = once_of (λ u. u.short) us no.2;
        short = λ a h. let k = mapped_from (λ u. u.short) us a h in subst (λ n. n < 64) k.2 (all_has (λ u. u.short < 64) us k.0 small k.1);
        random_once = once_append (map (λ u. u.random) us) p.draws (once_of (λ u. u.random) us no.4) plan.draws_once
            (λ r h k. let u = mapped_from (λ u. u.random) us r h in
            not_among r p.draws (subst (λ n. list_any (λ draw. n == draw) p.draws ≡ false) u.2
            (no_one (λ v. list_any (λ draw. v.random == draw) p.draws) us u.0 no.5 u.1)) k);
        random_below = λ r h. let k = mapped_from (λ u. u.random) us r h in
            subst (λ n. n < MASK24) k.2 (let low = no_one (λ u. nat_lt 0xFFFFFE u.random) us k.0 no.3 k.1 in grind (arith, nat_tests));
      };
    }
