use Rattle.std.proofs.Common.{◌≡◌, ℕ, ◌+◌, ◌<◌, List, [], ◌∷◌, ◌++◌, drop, length, get_or, refl, sym, ap, subst, ◌∙◌, arith, Option, None, Bool, true, false}
use Rattle.std.proofs.Common.{inl, inr, zero-add, ◌&&◌, if◌then◌else◌, zero, suc}
use Rattle.std.proofs.lemmas.List.{drop-drop}
use Rattle.dali_frame.specs.Random.{MASK24}
use Rattle.dali_special.specs.declared.command.Command.{Command, TheVariants.Program}
use Rattle.dali_gear.specs.{Gear.Gear, Gear.draws_a_number, Row.takes, Row.left_after, Row.row_left, Row.row_after, Row.draws_needed, Row.stored_short}
use Rattle.dali_gear.specs.{Row.stored_one, Row.stored_of, declared.row.Reach.Reach}
use Rattle.dali_script.specs.Records.{Has}
use Rattle.dali_events.specs.Plan.{Plan, IsPlan}
use Rattle.dali_standing.specs.FittedGear.{FittedGear, taken_at}

-- no gear stores a short address at a command other than PROGRAM SHORT ADDRESS
no_store : (x : Command) → ((short : Option ℕ) → x ≡ Program short → ⊥) → (g : Gear) → stored_short x g ≡ None
no_store (Program short) other g = absurd (other short refl)
no_store _ other g = refl

stored_none : (taken : Bool) (k : ℕ) (short : Option ℕ) (more : List (ℕ × ℕ)) → short ≡ None → stored_one k (if taken then short else None) more ≡ more
stored_none true k short more none = rw none refl
stored_none false k short more none = refl

pub none_stored : (reach : Reach) (x : Command) (k : ℕ) (gs : List Gear) → ((short : Option ℕ) → x ≡ Program short → ⊥) → stored_of reach x k gs ≡ []
none_stored reach x k [] other = refl
none_stored reach x k (g ∷ gs) other =
    stored_none (takes reach k g) k (stored_short x g) (stored_of reach x (k + 1) gs) (no_store x other g) ∙ none_stored reach x (k + 1) gs other

-- what is left are the numbers that were left, without those that were drawn
left_is : (reach : Reach) (x : Command) (k : ℕ) (gs : List Gear) (left : List ℕ) → row_left reach x k gs left ≡ drop (draws_needed reach x k gs) left
left_is reach x k [] left = refl
left_is reach x k (g ∷ gs) left =
    left_go (takes reach k g && draws_a_number x g) (row_left reach x (k + 1) gs) (draws_needed reach x (k + 1) gs) left
    (λ xs. left_is reach x (k + 1) gs xs) where
      left_go : (b : Bool) (rest : List ℕ → List ℕ) (n : ℕ) (left : List ℕ) → ((xs : List ℕ) → rest xs ≡ drop n xs)
          → rest (left_after b left) ≡ drop ((if b then 1 else 0) + n) left
      left_go true rest n left is = is (drop 1 left) ∙ drop-drop n 1 left
      left_go false rest n left is = is left ∙ ap (λ k. drop k left) (sym (zero-add n))

left_then : (reach : Reach) (x : Command) (gs : List Gear) (draws : List ℕ) (used drawn : ℕ) → drawn ≡ draws_needed reach x 0 gs
    → drop (used + drawn) draws ≡ row_left reach x 0 gs (drop used draws)
left_then reach x gs draws used drawn is = rw is (sym (left_is reach x 0 gs (drop used draws) ∙ drop-drop (draws_needed reach x 0 gs) used draws))

below : (xs : List ℕ) (m : ℕ) → ((r : ℕ) → Has xs r → r < m) → (k d : ℕ) → k < length xs → get_or xs k d < m
below [] m all k d here = absurd (omega arith)
below (x ∷ xs) m all zero d here = all x (inl refl)
below (x ∷ xs) m all (suc k) d here = below xs m (λ r has. all r (inr has)) k d (omega arith)

-- the numbers of a plan are below FFFFFF
pub drawn_below : (p : Plan) (xs : List ℕ) → IsPlan p → xs ≡ p.draws → (k d : ℕ) → k < length xs → get_or xs k d < MASK24
drawn_below p xs plan is k d here = below xs MASK24 (λ r has. plan.draws_below r (subst (λ ys. Has ys r) is has)) k d here

-- a frame was taken: each part is what the definitions say
pub taken_is : (reach : Reach) (x : Command) (was : FittedGear) (gs after : List Gear) (draws : List ℕ) (used drawn : ℕ) (gifts more : List (ℕ × ℕ))
    → record { gear = gs; left = drop used draws; gifts = gifts } ≡ was
    → drawn ≡ draws_needed reach x 0 gs
    → after ≡ row_after reach x 0 gs (drop used draws)
    → more ≡ gifts ++ stored_of reach x 0 gs
    → record { gear = after; left = drop (used + drawn) draws; gifts = more } ≡ taken_at reach x was
taken_is reach x was gs after draws used drawn gifts more is count taken noted =
    rw (taken, noted, left_then reach x gs draws used drawn count) (ap (taken_at reach x) is)
