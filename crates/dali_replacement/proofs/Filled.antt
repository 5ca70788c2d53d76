use Rattle.std.proofs.Common.{◌≡◌, ◌≢◌, ◌⊎◌, ℕ, inl, inr, refl, List, [], ◌∷◌, ◌++◌, Result, Ok, Err, OnOk, sym, subst}
use Rattle.dali_script.specs.declared.records.Record.TheVariants.{Reserve, Enrol}
use Rattle.dali_script.specs.Records.{Kept, Assignment, Has, HasAddress, with_record}
use Rattle.dali_script.proofs.Lists.{has_last, has_before, has_cases}
use Rattle.dali_replacement.proofs.Every.{enrolled_has, enrolled_keeps, kept_are_short}
use Rattle.dali_replacement.specs.Tables.{HasAll, Keeps, KeepsReserved, Lacks, Reserves, IsOf, IsOfOne, AreOf}

-- ONE GEAR MORE, and the address of no other
no_more : (xs : List Assignment) (a r b : ℕ) → (a ≢ b) → (HasAddress xs b → ⊥) → HasAddress (xs ++ (a, r) ∷ []) b → ⊥
no_more [] a r b other none (inl is) = other is
no_more [] a r b other none (inr has) = has
no_more (p ∷ xs) a r b other none (inl is) = none (inl is)
no_more (p ∷ xs) a r b other none (inr has) = no_more xs a r b other (λ here. none (inr here)) has

pub enrolled_spares : (k : Kept) (a r b : ℕ) → a ≢ b → Lacks b k → Lacks b (with_record k (Enrol a r))
enrolled_spares k a r b other none has = no_more k.enrolled a r b other none has

pub keeps_itself : (k : Kept) → Keeps k k
keeps_itself k p has = has

pub keeps_on : (j k l : Kept) → Keeps j k → Keeps k l → Keeps j l
keeps_on j k l one more p has = more p (one p has)

pub all_more : (p : Assignment) (ps : List Assignment) (k l : Kept) → Has k.enrolled p → Keeps k l → HasAll ps l → HasAll (p ∷ ps) l
all_more p ps k l first keeps rest q (inl is) = keeps q (subst_has k.enrolled p q is first)
  where
    subst_has : (xs : List Assignment) (p q : Assignment) → p ≡ q → Has xs p → Has xs q
    subst_has xs p q is has = subst (λ x. Has xs x) is has
all_more p ps k l first keeps rest q (inr has) = rest q has

pub reserved_keeps : (k : Kept) (a r : ℕ) → KeepsReserved k (with_record k (Reserve a r))
reserved_keeps k a r p has = has_before k.reserved (a, r) p has

pub reserved_has : (k : Kept) (a r : ℕ) → Has (with_record k (Reserve a r)).reserved (a, r)
reserved_has k a r = has_last k.reserved (a, r)

pub reserves_on : (j k l : Kept) → KeepsReserved j k → KeepsReserved k l → KeepsReserved j l
reserves_on j k l one more p has = more p (one p has)

pub lacks_on : (r : Result (Unit {0}) ℕ) (a : ℕ) (j k l : Kept) → (Lacks a j → Lacks a k) → OnOk r (Lacks a k → Lacks a l)
    → OnOk r (Lacks a j → Lacks a l)
lacks_on (Ok x) a j k l one more = λ none. more (one none)
lacks_on (Err e) a j k l one more = tt

pub reserves_more : (p : Assignment) (ps : List Assignment) (table k l : Kept) → (Has table.enrolled p → Has k.reserved p)
    → KeepsReserved k l → Reserves ps table l → Reserves (p ∷ ps) table l
reserves_more p ps table k l first keeps rest q (inl is) here =
    keeps q (subst (λ x. Has k.reserved x) is (first (subst (λ x. Has table.enrolled x) (sym is) here)))
reserves_more p ps table k l first keeps rest q (inr has) here = rest q has here

-- NOTHING ELSE IS ADDED
pub of_itself : (xs ys : List Assignment) → IsOf xs xs ys
of_itself xs ys p has = inl has

pub enrolled_of : (k : Kept) (a r : ℕ) → IsOf (with_record k (Enrol a r)).enrolled k.enrolled ((a, r) ∷ [])
enrolled_of k a r p has = go (has_cases k.enrolled (a, r) p has) where
  go : Has k.enrolled p ⊎ ◌≡◌ {A = Assignment} (a, r) p → Has k.enrolled p ⊎ Has ((a, r) ∷ []) p
  go (inl before) = inl before
  go (inr same) = inr (inl same)

pub of_more : (p : Assignment) (ps old mid new : List Assignment) → IsOf mid old (p ∷ []) → IsOf new mid ps → IsOf new old (p ∷ ps)
of_more p ps old mid new first rest q has = go (rest q has) where
  first_of : Has old q ⊎ Has (p ∷ []) q → Has old q ⊎ Has (p ∷ ps) q
  first_of (inl before) = inl before
  first_of (inr (inl same)) = inr (inl same)
  first_of (inr (inr none)) = elim none [ ]

  go : Has mid q ⊎ Has ps q → Has old q ⊎ Has (p ∷ ps) q
  go (inl before) = first_of (first q before)
  go (inr later) = inr (inr later)

pub of_more_tables : (k : Kept) (ks : List Kept) (old mid new : List Assignment) → IsOf mid old k.enrolled → AreOf new mid ks → AreOf new old (k ∷ ks)
of_more_tables k ks old mid new first rest q has = go (rest q has) where
  first_of : Has old q ⊎ Has k.enrolled q → Has old q ⊎ IsOfOne (k ∷ ks) q
  first_of (inl before) = inl before
  first_of (inr here) = inr (k, inl refl, here)

  go : Has mid q ⊎ IsOfOne ks q → Has old q ⊎ IsOfOne (k ∷ ks) q
  go (inl before) = first_of (first q before)
  go (inr (l, among, here)) = inr (l, inr among, here)

-- what one enrolment does, and how records are filled
pub ruleset enrolling = (enrolled_has, enrolled_keeps, enrolled_spares, enrolled_of, of_itself)

pub ruleset filling = (kept_are_short, keeps_itself)
