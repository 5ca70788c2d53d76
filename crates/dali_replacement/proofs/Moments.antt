use Rattle.std.proofs.Common.{◌≡◌, ℕ, ◌+◌, ◌-◌, ◌*◌, ◌/◌, ◌%◌, ◌<◌, ◌≤◌, ◌⊎◌, inl, inr, Bool, true, false, Some, None, refl, ap, subst, ◌∙◌, arith}
use Rattle.std.specs.Prelude.{◌≢◌, ◌==◌, nat_lt, nat_le, ◌&&◌, if◌then◌else◌}
use Rattle.std.proofs.lemmas.Bool.Decides.{nat_tests}
use Rattle.std.proofs.lemmas.Option.{same_Some}
use Rattle.dali_replacement.specs.declared.swap.Lies.{Lies}
use Rattle.dali_replacement.specs.declared.swap.Step.{Step}
use Rattle.dali_replacement.specs.declared.swap.Step.TheVariants.{Announce, SetAside, Place, Forget}
use Rattle.dali_replacement.specs.Swap.{lies_at, step_after, file_of, done, IsOld, IsNew}

-- WHERE ALL ARE OLD, AND WHERE ALL ARE NEW
pub old : (n m i : ℕ) → m ≤ n → IsOld (lies_at n m i)
old n m i early = (grind (arith, nat_tests), grind (arith, nat_tests), grind (arith, nat_tests))

pub new : (n m i : ℕ) → i < n → 3 * n ≤ m → IsNew (lies_at n m i)
new n m i inside late = (grind (arith, nat_tests), grind (arith, nat_tests), grind (arith, nat_tests))

unannounced : (n m i : ℕ) → (nat_lt i m && nat_le m (3 * n + i)) ≡ false → (m ≤ i) ⊎ (3 * n + i < m)
unannounced n m i none = grind (arith, nat_tests)

pub one : (n m i : ℕ) → i < n → (lies_at n m i).journal ≡ false
    → ((j : ℕ) → j < n → IsOld (lies_at n m j)) ⊎ ((j : ℕ) → j < n → IsNew (lies_at n m j))
one n m i inside none = elim (unannounced n m i none) [
  | inl before ↦ inl (λ j within. old n m j (omega (arith, before, inside)))
  | inr after ↦ inr (λ j within. new n m j within (omega (arith, after)))
]

-- WHICH STEP IS DUE WHEN
abbrev pub IsDue : ℕ → ℕ → Step → Type 0
IsDue n m (Announce i) = (i ≡ m) × (i < n)
IsDue n m (SetAside i) = (m ≡ n + 2 * i) × (i < n)
IsDue n m (Place i) = (m ≡ n + 2 * i + 1) × (i < n)
IsDue n m (Forget i) = (m ≡ 3 * n + i) × (i < n)

chosen : (a b c d : Bool) (n m : ℕ) → nat_lt m n ≡ a → nat_lt m (3 * n) ≡ b → nat_lt m (4 * n) ≡ c → ((m - n) % 2 == 0) ≡ d → (s : Step)
    → (if a then Some (Announce m) else if b then Some (if d then SetAside ((m - n) / 2) else Place ((m - n) / 2)) else if c then Some
    (Forget (m - 3 * n)) else None) ≡ Some s
    → IsDue n m s
chosen true b c d n m isA isB isC isD s is = subst (IsDue n m) (same_Some _ _ is) (refl, grind (arith, nat_tests))
chosen false true c true n m isA isB isC isD s is =
    let over : n ≤ m = grind (arith, nat_tests) in
    let under : m < 3 * n = grind (arith, nat_tests) in
    let even : (m - n) % 2 ≡ 0 = grind (arith, nat_tests) in
    subst (IsDue n m) (same_Some _ _ is) (omega (arith, over, even), omega (arith, over, under))
chosen false true c false n m isA isB isC isD s is =
    let over : n ≤ m = grind (arith, nat_tests) in
    let under : m < 3 * n = grind (arith, nat_tests) in
    let odd : (m - n) % 2 ≢ 0 = grind (arith, nat_tests) in
    subst (IsDue n m) (same_Some _ _ is) (omega (arith, over, odd), omega (arith, over, under))
chosen false false true d n m isA isB isC isD s is =
    let over : 3 * n ≤ m = grind (arith, nat_tests) in
    let under : m < 4 * n = grind (arith, nat_tests) in
    subst (IsDue n m) (same_Some _ _ is) (omega (arith, over), omega (arith, over, under))
chosen false false false d n m isA isB isC isD s is = absurd (cc)

due : (n m : ℕ) (s : Step) → step_after n m ≡ Some s → IsDue n m s
due n m s is = chosen (nat_lt m n) (nat_lt m (3 * n)) (nat_lt m (4 * n)) ((m - n) % 2 == 0) n m refl refl refl refl s is

pub within : (n m : ℕ) (s : Step) → step_after n m ≡ Some s → file_of s < n
within n m s is = of s (due n m s is)
  where
    of : (s : Step) → IsDue n m s → file_of s < n
    of (Announce i) is = is.1
    of (SetAside i) is = is.1
    of (Place i) is = is.1
    of (Forget i) is = is.1

-- WHAT LIES THERE is the same if each of its parts is.
same : (a b : Lies) → a.journal ≡ b.journal → a.new ≡ b.new → a.at ≡ b.at → a.kept ≡ b.kept → a ≡ b
same a b journal new at kept =
    ap {B = Lies} (λ x. record { journal = x; new = a.new; at = a.at; kept = a.kept }) journal
    ∙ ap {B = Lies} (λ x. record { journal = b.journal; new = x; at = a.at; kept = a.kept }) new
    ∙ ap {B = Lies} (λ x. record { journal = b.journal; new = b.new; at = x; kept = a.kept }) at
    ∙ ap {B = Lies} (λ x. record { journal = b.journal; new = b.new; at = b.at; kept = x }) kept

own_of : (n m : ℕ) (s : Step) → IsDue n m s → lies_at n (m + 1) (file_of s) ≡ done s (lies_at n m (file_of s))
own_of n m (Announce i) (is, inside) = same _ _ (grind (arith, nat_tests)) (grind (arith, nat_tests)) (grind (arith, nat_tests)) (grind (arith, nat_tests))
own_of n m (SetAside i) (is, inside) = same _ _ (grind (arith, nat_tests)) (grind (arith, nat_tests)) (grind (arith, nat_tests)) (grind (arith, nat_tests))
own_of n m (Place i) (is, inside) = same _ _ (grind (arith, nat_tests)) (grind (arith, nat_tests)) (grind (arith, nat_tests)) (grind (arith, nat_tests))
own_of n m (Forget i) (is, inside) = same _ _ (grind (arith, nat_tests)) (grind (arith, nat_tests)) (grind (arith, nat_tests)) (grind (arith, nat_tests))

pub own : (n m : ℕ) (s : Step) → step_after n m ≡ Some s → lies_at n (m + 1) (file_of s) ≡ done s (lies_at n m (file_of s))
own n m s is = own_of n m s (due n m s is)

other_of : (n m i : ℕ) (s : Step) → IsDue n m s → i < n → i ≢ file_of s → lies_at n (m + 1) i ≡ lies_at n m i
other_of n m i (Announce j) (is, inside) here other =
    same _ _ (grind (arith, nat_tests)) (grind (arith, nat_tests)) (grind (arith, nat_tests)) (grind (arith, nat_tests))
other_of n m i (SetAside j) (is, inside) here other =
    same _ _ (grind (arith, nat_tests)) (grind (arith, nat_tests)) (grind (arith, nat_tests)) (grind (arith, nat_tests))
other_of n m i (Place j) (is, inside) here other =
    same _ _ (grind (arith, nat_tests)) (grind (arith, nat_tests)) (grind (arith, nat_tests)) (grind (arith, nat_tests))
other_of n m i (Forget j) (is, inside) here other =
    same _ _ (grind (arith, nat_tests)) (grind (arith, nat_tests)) (grind (arith, nat_tests)) (grind (arith, nat_tests))

pub others : (n m i : ℕ) (s : Step) → step_after n m ≡ Some s → i < n → i ≢ file_of s → lies_at n (m + 1) i ≡ lies_at n m i
others n m i s is here other = other_of n m i s (due n m s is) here other

pub back : (n m : ℕ) → m < n → lies_at n m m ≡ done (Forget m) (lies_at n (m + 1) m)
back n m early = same _ _ (grind (arith, nat_tests)) (grind (arith, nat_tests)) (grind (arith, nat_tests)) (grind (arith, nat_tests))

pub others_back : (n m i : ℕ) → m < n → i < n → i ≢ m → lies_at n m i ≡ lies_at n (m + 1) i
others_back n m i early here other = same _ _ (grind (arith, nat_tests)) (grind (arith, nat_tests)) (grind (arith, nat_tests)) (grind (arith, nat_tests))

pub begun : (n i : ℕ) → i < n → (lies_at n 0 i).journal ≡ false
begun n i inside = grind (arith, nat_tests)

pub ended : (n i : ℕ) → i < n → (lies_at n (4 * n) i).journal ≡ false
ended n i inside = grind (arith, nat_tests)
