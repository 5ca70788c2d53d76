use Rattle.std.proofs.Common.{◌≡◌, ℕ, Bool, true, false, List, [], ◌∷◌, take, Option, Some, None, refl, sym, ap, subst, ◌∙◌, arith, ◌==◌, if◌then◌else◌}
use Rattle.std.proofs.{Common.is_some, lemmas.Bool.Decides.nat_tests}
use Rattle.dali_arbiter.specs.Arbiter.{Arbiter, next, first_waiting, without_first, rival, collision, bus_collided, bus_destroyed}
use Rattle.dali_arbiter.specs.declared.request.Request.{Request}

-- THE OTHER REQUEST OF A COLLISION has another sender, and is next once the first is taken.

-- if a request is next, it is the first of the first list that is not empty
pub first_of_all : (owner : Option ℕ) (lists : List (List Request)) (r : Request) → first_waiting (if is_some owner then take 1 lists else lists) ≡ Some r
    → first_waiting lists ≡ Some r
first_of_all None lists r e = e
first_of_all (Some o) [] r e = e
first_of_all (Some o) ([] ∷ lists) r e = absurd (cc)
first_of_all (Some o) ((x ∷ xs) ∷ lists) r e = e

pub unequal : (m n : ℕ) → (m == n) ≡ false → m ≡ n → ⊥
unequal m n test = grind (arith, nat_tests)

rival_differs : (r q : Request) (rs : List Request) → rival r rs ≡ Some q → r.sender ≡ q.sender → ⊥
rival_differs r q [] e same = absurd (cc)
rival_differs r q (s ∷ rs) e same = go (r.sender == s.sender) refl e where
  go : (b : Bool) → (r.sender == s.sender) ≡ b → (if b then None else Some s) ≡ Some q → ⊥
  go true test e = absurd (cc)
  go false test e =
      let which : s ≡ q = cc in
      unequal r.sender s.sender test (same ∙ ap (λ (y : Request). y.sender) (sym which))

pub collision_apart : (lists : List (List Request)) (r q : Request) → first_waiting lists ≡ Some r → collision lists ≡ Some q → r.sender ≡ q.sender → ⊥
collision_apart [] r q first other same = absurd (cc)
collision_apart ([] ∷ lists) r q first other same = collision_apart lists r q first other same
collision_apart ((x ∷ xs) ∷ lists) r q first other same =
    let is : x ≡ r = cc in
    rival_differs x q xs other (ap (λ (y : Request). y.sender) is ∙ same)

pub collision_differs : (b : Arbiter) (r q : Request) → next b ≡ Some r → collision b.lists ≡ Some q → r.sender ≡ q.sender → ⊥
collision_differs b r q first other same = collision_apart b.lists r q (first_of_all b.owner b.lists r first) other same

-- the request that collided is the first once the other is taken
rival_first : (r q : Request) (rs : List Request) (lists : List (List Request)) → rival r rs ≡ Some q → first_waiting (rs ∷ lists) ≡ Some q
rival_first r q [] lists e = absurd (cc)
rival_first r q (s ∷ rs) lists e = go (r.sender == s.sender) e where
  go : (b : Bool) → (if b then None else Some s) ≡ Some q → Some s ≡ Some q
  go true e = absurd (cc)
  go false e = e

pub collision_first : (lists : List (List Request)) (q : Request) → collision lists ≡ Some q → first_waiting (without_first lists) ≡ Some q
collision_first [] q e = absurd (cc)
collision_first ([] ∷ lists) q e = collision_first lists q e
collision_first ((x ∷ xs) ∷ lists) q e = rival_first x q xs lists e

-- if the bus has no owner, list 1 is empty, and a collision is two losses, one after the other
pub collided_is : (b : Arbiter) (q : Request) (rest : List (List Request)) → b.lists ≡ [] ∷ rest → collision b.lists ≡ Some q
    → bus_collided b ≡ bus_destroyed (bus_destroyed b)
collided_is b q rest e both = rw both (rw e refl)

pub rival_next : (b : Arbiter) (q : Request) (rest : List (List Request)) → b.lists ≡ [] ∷ rest → collision b.lists ≡ Some q → next (bus_destroyed b) ≡ Some q
rival_next b q rest e both = rw e (collision_first rest q (subst (λ (ls : List (List Request)). collision ls ≡ Some q) e both))
