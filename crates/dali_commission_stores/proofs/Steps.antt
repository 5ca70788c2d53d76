use Rattle.std.proofs.Common.{◌≡◌, ◌<◌, ◌-◌, ◌+◌, ◌∙◌, arith, ℕ, zero, suc, List, ◌∷◌, [], Option, Some, Result, Ok, Err, OnOk, OnErr}
use Rattle.std.proofs.Common.{inl, inr, refl, subst, sym, ap}
use Rattle.dali_replacement.specs.{Swap.step_after, Swapping.number_of, Swapping.swap_text, declared.swap.Step.Step, declared.swap.Step.TheVariants.Announce}
use Rattle.dali_replacement.specs.declared.{swap.Step.TheVariants.SetAside, swap.Step.TheVariants.Place, swap.Step.TheVariants.Forget, swapping.Swap.Swap}
use Rattle.dali_commission_said.specs.{Failures.or_unfinished, declared.failure.Failure.Failure}
use Rattle.dali_commission_stores.specs.Calls.{Call, Wrote, Renamed, Likened, Removed}
use Rattle.dali_commission_stores.specs.Settling.{new_at, journal_at, kept_at, IsNamed, IsDone, IsBegun, count_of, GoesOn, GoesOnInPart}
use Rattle.dali_commission_stores.specs.Settling.{GoesBack, GoesBackInPart}

pub then : {E : Type 0} (r : Result (Unit {0}) E) (P Q : Type 0) → (P → Q) → OnOk r P → OnOk r Q
then (Ok done) P Q so h = so h
then (Err e) P Q so h = tt

pub unless : {E : Type 0} (r : Result (Unit {0}) E) (P Q : Type 0) → (P → Q) → OnErr r P → OnErr r Q
unless (Ok done) P Q so h = tt
unless (Err e) P Q so h = so h

pub failing : {T E : Type 0} (r : Result T E) (P : Type 0) → P → OnErr r P
failing (Ok it) P so = tt
failing (Err e) P so = so

-- what was not stopped has ended well
pub not_stopped : (done : Result (Unit {0}) Failure) (it : Unit {0}) (P : Type 0) → Ok it ≡ or_unfinished done → OnOk done P → P
not_stopped (Ok it) out P is so = so
not_stopped (Err e) out P is so = absurd (grind (arith, is))

-- a step is done by its calls
pub announced : {F : Type 0} (made : F → F → Call → Type 0) (swap : Swap) (step : Step) (i : ℕ) (name text at : List ℕ) (x y : F)
    → step ≡ Announce i → IsNamed swap i name → at ≡ journal_at name → text ≡ swap_text swap → made x y (Wrote at text) → IsDone made swap step x y
announced made swap step i name text at x y is named lies own call =
    subst (λ (s : Step). IsDone made swap s x y) (sym is)
    (name, named, (y, subst (λ (a : List ℕ). made x y (Wrote a (swap_text swap))) lies (subst (λ (t : List ℕ). made x y (Wrote at t)) own call), refl))

pub set_aside : {F : Type 0} (made : F → F → Call → Type 0) (swap : Swap) (step : Step) (i number : ℕ) (name to : List ℕ) (x y : F)
    → step ≡ SetAside i → IsNamed swap i name → number ≡ number_of swap → to ≡ kept_at name number → made x y (Renamed name to)
    → IsDone made swap step x y
set_aside made swap step i number name to x y is named same lies call =
    subst (λ (s : Step). IsDone made swap s x y) (sym is)
    (name, named, (y, subst (λ (a : List ℕ). made x y (Renamed name a)) (lies ∙ ap (λ (n : ℕ). kept_at name n) same) call, refl))

pub placed : {F : Type 0} (made : F → F → Call → Type 0) (swap : Swap) (step : Step) (i number : ℕ) (name new like from : List ℕ) (x z y : F)
    → step ≡ Place i → IsNamed swap i name → number ≡ number_of swap → new ≡ new_at name → like ≡ kept_at name number → from ≡ new_at name
    → made x z (Likened new like) → made z y (Renamed from name) → IsDone made swap step x y
placed made swap step i number name new like from x z y is named same lies kept away first second =
    let likened : made x z (Likened (new_at name) (kept_at name (number_of swap))) =
    subst (λ (a : List ℕ). made x z (Likened (new_at name) a)) (kept ∙ ap (λ (n : ℕ). kept_at name n) same)
    (subst (λ (a : List ℕ). made x z (Likened a like)) lies first) in
    let renamed : made z y (Renamed (new_at name) name) = subst (λ (a : List ℕ). made z y (Renamed a name)) away second in
    subst (λ (s : Step). IsDone made swap s x y) (sym is) (name, named, (z, likened, (y, renamed, refl)))

pub forgotten : {F : Type 0} (made : F → F → Call → Type 0) (swap : Swap) (step : Step) (i : ℕ) (name at : List ℕ) (x y : F)
    → step ≡ Forget i → IsNamed swap i name → at ≡ journal_at name → made x y (Removed at) → IsDone made swap step x y
forgotten made swap step i name at x y is named lies call =
    subst (λ (s : Step). IsDone made swap s x y) (sym is)
    (name, named, (y, subst (λ (a : List ℕ). made x y (Removed a)) lies call, refl))

-- a step of one call that failed, and one of two whose second call failed
pub announced_in_part : {F : Type 0} (made began : F → F → Call → Type 0) (swap : Swap) (step : Step) (i : ℕ) (name text at : List ℕ) (x y : F)
    → step ≡ Announce i → IsNamed swap i name → at ≡ journal_at name → text ≡ swap_text swap → began x y (Wrote at text)
    → IsBegun made began swap step x y
announced_in_part made began swap step i name text at x y is named lies own call =
    subst (λ (s : Step). IsBegun made began swap s x y) (sym is)
    (inr (
      name,
      named,
      inr (inl (subst (λ (a : List ℕ). began x y (Wrote a (swap_text swap))) lies
          (subst (λ (t : List ℕ). began x y (Wrote at t)) own call))),
    ))

pub set_aside_in_part : {F : Type 0} (made began : F → F → Call → Type 0) (swap : Swap) (step : Step) (i number : ℕ) (name to : List ℕ) (x y : F)
    → step ≡ SetAside i → IsNamed swap i name → number ≡ number_of swap → to ≡ kept_at name number → began x y (Renamed name to)
    → IsBegun made began swap step x y
set_aside_in_part made began swap step i number name to x y is named same lies call =
    subst (λ (s : Step). IsBegun made began swap s x y) (sym is)
    (inr (name, named, inr (inl (subst (λ (a : List ℕ). began x y (Renamed name a)) (lies ∙ ap (λ (n : ℕ). kept_at name n) same) call))))

pub placed_in_part : {F : Type 0} (made began : F → F → Call → Type 0) (swap : Swap) (step : Step) (i number : ℕ) (name new like from : List ℕ)
    (x z y : F) → step ≡ Place i → IsNamed swap i name → number ≡ number_of swap → new ≡ new_at name → like ≡ kept_at name number
    → from ≡ new_at name → made x z (Likened new like) → began z y (Renamed from name) → IsBegun made began swap step x y
placed_in_part made began swap step i number name new like from x z y is named same lies kept away first second =
    let likened : made x z (Likened (new_at name) (kept_at name (number_of swap))) =
    subst (λ (a : List ℕ). made x z (Likened (new_at name) a)) (kept ∙ ap (λ (n : ℕ). kept_at name n) same)
    (subst (λ (a : List ℕ). made x z (Likened a like)) lies first) in
    let renamed : began z y (Renamed (new_at name) name) = subst (λ (a : List ℕ). began z y (Renamed a name)) away second in
    subst (λ (s : Step). IsBegun made began swap s x y) (sym is) (inr (name, named, inr (inr (z, likened, inr (inl renamed)))))

pub forgotten_in_part : {F : Type 0} (made began : F → F → Call → Type 0) (swap : Swap) (step : Step) (i : ℕ) (name at : List ℕ) (x y : F)
    → step ≡ Forget i → IsNamed swap i name → at ≡ journal_at name → began x y (Removed at) → IsBegun made began swap step x y
forgotten_in_part made began swap step i name at x y is named lies call =
    subst (λ (s : Step). IsBegun made began swap s x y) (sym is)
    (inr (name, named, inr (inl (subst (λ (a : List ℕ). began x y (Removed a)) lies call))))

-- a step more, onward and back
pub one_more : {F E : Type 0} (made : F → F → Call → Type 0) (swap : Swap) (from to count : ℕ) (step : Step) (found : Option Step) (x z y : F)
    (r : Result (Unit {0}) E) → found ≡ Some step → found ≡ step_after count from → count ≡ count_of swap → from < to → IsDone made swap step x z
    → OnOk r ((steps : List Step) × GoesOn made swap (from + 1) to steps z y) → OnOk r ((steps : List Step) × GoesOn made swap from to steps x y)
one_more made swap from to count step found x z y (Ok done) is told counted before first rest =
    (step ∷ rest.0, (ap (λ (n : ℕ). step_after n from) (sym counted) ∙ sym told ∙ is, before, (z, first, rest.1)))
one_more made swap from to count step found x z y (Err e) is told counted before first rest = tt

pub one_back : {F E : Type 0} (made : F → F → Call → Type 0) (swap : Swap) (from : ℕ) (x z y : F) (r : Result (Unit {0}) E) → 0 < from
    → IsDone made swap (Forget (from - 1)) x z → OnOk r (GoesBack made swap (from - 1) z y) → OnOk r (GoesBack made swap from x y)
one_back made swap zero x z y r some first rest = absurd (omega arith)
one_back made swap (suc n) x z y (Ok done) some first rest =
    let is : suc n - 1 ≡ n = omega arith in
    (z, subst (λ (m : ℕ). IsDone made swap (Forget m) x z) is first, subst (λ (m : ℕ). GoesBack made swap m z y) is rest)
one_back made swap (suc n) x z y (Err e) some first rest = tt

-- and if it fails, or one behind it
pub one_in_part : {F : Type 0} (made began : F → F → Call → Type 0) (swap : Swap) (from to count : ℕ) (step : Step) (found : Option Step) (x y : F)
    → found ≡ Some step → found ≡ step_after count from → count ≡ count_of swap → from < to → IsBegun made began swap step x y
    → (steps : List Step) × GoesOnInPart made began swap from to steps x y
one_in_part made began swap from to count step found x y is told counted before begun =
    (step ∷ [], (ap (λ (n : ℕ). step_after n from) (sym counted) ∙ sym told ∙ is, before, inl begun))

pub one_more_in_part : {F : Type 0} (made began : F → F → Call → Type 0) (swap : Swap) (from to count : ℕ) (step : Step) (found : Option Step)
    (x z y : F) → found ≡ Some step → found ≡ step_after count from → count ≡ count_of swap → from < to → IsDone made swap step x z
    → (steps : List Step) × GoesOnInPart made began swap (from + 1) to steps z y
    → (steps : List Step) × GoesOnInPart made began swap from to steps x y
one_more_in_part made began swap from to count step found x z y is told counted before first rest =
    (step ∷ rest.0, (ap (λ (n : ℕ). step_after n from) (sym counted) ∙ sym told ∙ is, before, inr (z, first, rest.1)))

pub back_in_part : {F : Type 0} (made began : F → F → Call → Type 0) (swap : Swap) (from : ℕ) (x y : F) → 0 < from
    → IsBegun made began swap (Forget (from - 1)) x y → GoesBackInPart made began swap from x y
back_in_part made began swap zero x y some begun = absurd (omega arith)
back_in_part made began swap (suc n) x y some begun =
    let is : suc n - 1 ≡ n = omega arith in inl (subst (λ (m : ℕ). IsBegun made began swap (Forget m) x y) is begun)

pub more_back_in_part : {F : Type 0} (made began : F → F → Call → Type 0) (swap : Swap) (from : ℕ) (x z y : F) → 0 < from
    → IsDone made swap (Forget (from - 1)) x z → GoesBackInPart made began swap (from - 1) z y → GoesBackInPart made began swap from x y
more_back_in_part made began swap zero x z y some first rest = absurd (omega arith)
more_back_in_part made began swap (suc n) x z y some first rest =
    let is : suc n - 1 ≡ n = omega arith in
    inr (z, subst (λ (m : ℕ). IsDone made swap (Forget m) x z) is first, subst (λ (m : ℕ). GoesBackInPart made began swap m z y) is rest)
