use Rattle.std.proofs.Common.{◌≡◌, ◌∙◌, ℕ, List, inl, inr, refl, Result, Ok, Err, OnOk, subst, sym}
use Rattle.dali_commission_said.specs.declared.failure.Failure.{Failure}
use Rattle.dali_commission_stores.specs.{Calls.{Call, AreMade, Opened, Closed}, Lent.{IsLent, lent_calls}}

-- what is lent if it is opened so is lent if it is opened in a way that this is a wider of, and by who
-- does what this is a wider of
pub lent_as : {K D Out : Type 0} (opens opened : K → Type 0) (came does : K → K → D → D → Result Out Failure → Type 0) (x y : D) (r : Result Out Failure)
    → ((k : K) → opens k → opened k) → ((from to : K) (p q : D) (done : Result Out Failure) → came from to p q done → does from to p q done)
    → IsLent opens came x y r → IsLent opened does x y r
lent_as opens opened came does x y r wider weaker (inl not) = inl not
lent_as opens opened came does x y r wider weaker (inr is) =
    inr (is.0, is.1, is.2, wider is.0 is.3, weaker is.0 is.1 x y is.2 is.4, is.5)

-- what was lent, and ended well, if that is handed on
pub lent_well : {K D T : Type 0} (opens : K → Type 0) (came : K → K → D → D → Result (Unit {0}) Failure → Type 0) (x y : D)
    (done said : Result (Unit {0}) Failure) (out : Unit {0}) (r : Result T Failure) → said ≡ done → said ≡ Ok out → IsLent opens came x y done
    → OnOk r (IsLent opens came x y (Ok tt))
lent_well opens came x y done said out (Ok k) same is lent = subst (λ (d : Result (Unit {0}) Failure). IsLent opens came x y d) (sym same ∙ is) lent
lent_well opens came x y done said out (Err e) same is lent = tt

-- records that were opened and closed
pub closed_well : {F T : Type 0} (made : F → F → Call → Type 0) (name : List ℕ) (x z y : F) (closed : Result (Unit {0}) Failure) (r : Result T Failure)
    → made x z (Opened name) → OnOk closed (made z y (Closed name)) → OnOk r (closed ≡ Ok (tt {0})) → OnOk r (AreMade made (lent_calls name) x y)
closed_well made name x z y closed (Ok out) opened closes well =
    (z, opened, (y, subst (λ (c : Result (Unit {0}) Failure). OnOk c (made z y (Closed name))) well closes, refl))
closed_well made name x z y closed (Err e) opened closes well = tt
