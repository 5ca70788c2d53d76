-- The first of the lists that is not empty, and what it leaves.
use Rattle.std.proofs.Common.{◌≡◌, ℕ, zero, suc, ◌+◌, ◌-◌, Bool, true, false, List, [], ◌∷◌, drop, set, get_or, Option, Some, None, refl, sym, ap, subst, ◌∙◌}
use Rattle.std.proofs.Common.{arith, ◌==◌, is_some, IsSome, slice_get, if◌then◌else◌}
use Rattle.std.proofs.lemmas.Bool.Decides.{nat_tests}
use Rattle.dali_ring.specs.Queues.{Queues, first_from, best, list_of, with_list}
use Rattle.dali_arbiter.specs.Arbiter.{first_waiting, without_first, rival, collision}
use Rattle.dali_arbiter.specs.{Held.without_collision, declared.request.Request.Request}

abbrev Lists : Type 0
Lists = List (List Request)

-- lists of which the first i are empty, and the next is this one
abbrev after_empty : ℕ → List Request → Lists → Lists
after_empty zero l more = l ∷ more
after_empty (suc i) l more = [] ∷ after_empty i l more

-- of lists of which the first has number k, that of number p is the first that is not empty
pub record IsFirst (ls : Lists) (k p : ℕ) : Type 0 where
  pub i : ℕ
  pub r : Request
  pub rs : List Request
  pub more : Lists
  pub number : p ≡ k + i
  pub are : ls ≡ after_empty i (r ∷ rs) more

pub is_first : (ls : Lists) (k p : ℕ) → first_from k ls ≡ Some p → IsFirst ls k p
is_first [] k p is = absurd (cc)
is_first ([] ∷ ls) k p is =
    let f : IsFirst ls (k + 1) p = is_first ls (k + 1) p is in
    record { i = suc f.i; r = f.r; rs = f.rs; more = f.more; number = omega (arith, f.number); are = ap (λ (xs : Lists). [] ∷ xs) f.are }
is_first ((r ∷ rs) ∷ ls) k p is = record { i = zero; r = r; rs = rs; more = ls; number = (let e : k ≡ p = cc in omega (arith, e)); are = refl }

pub get_first : (i : ℕ) (l : List Request) (more : Lists) → get_or (after_empty i l more) i [] ≡ l
get_first zero l more = refl
get_first (suc i) l more = get_first i l more

pub set_first : (i : ℕ) (l m : List Request) (more : Lists) → set (after_empty i l more) i m ≡ after_empty i m more
set_first zero l m more = refl
set_first (suc i) l m more = ap (λ (xs : Lists). [] ∷ xs) (set_first i l m more)

pub waiting_first : (i : ℕ) (r : Request) (rs : List Request) (more : Lists) → first_waiting (after_empty i (r ∷ rs) more) ≡ Some r
waiting_first zero r rs more = refl
waiting_first (suc i) r rs more = waiting_first i r rs more

pub rest_first : (i : ℕ) (r : Request) (rs : List Request) (more : Lists) → without_first (after_empty i (r ∷ rs) more) ≡ after_empty i rs more
rest_first zero r rs more = refl
rest_first (suc i) r rs more = ap (λ (xs : Lists). [] ∷ xs) (rest_first i r rs more)

pub collision_of_first : (i : ℕ) (r : Request) (rs : List Request) (more : Lists) → collision (after_empty i (r ∷ rs) more) ≡ rival r rs
collision_of_first zero r rs more = refl
collision_of_first (suc i) r rs more = collision_of_first i r rs more

-- if a request waits, a list is not empty
pub some_best : (ls : Lists) (k : ℕ) → IsSome (first_waiting ls) → IsSome (first_from k ls)
some_best [] k some = absurd (cc)
some_best ([] ∷ ls) k some = some_best ls (k + 1) some
some_best ((r ∷ rs) ∷ ls) k some = refl

pub none_best : (ls : Lists) (k : ℕ) → first_from k ls ≡ None → first_waiting ls ≡ None
none_best [] k none = refl
none_best ([] ∷ ls) k none = none_best ls (k + 1) none
none_best ((r ∷ rs) ∷ ls) k none = absurd (cc)

-- of lists of which that of priority p is the first that is not empty
module _ (ls : Lists) (p : ℕ) (is : first_from 1 ls ≡ Some p) where
  abbrev pub f : IsFirst ls 1 p
  f = is_first ls 1 p is

  index : p - 1 ≡ f.i
  index = omega (arith, f.number)

  whole : get_or ls (p - 1) [] ≡ f.r ∷ f.rs
  whole = rw index (ap (λ (xs : Lists). get_or xs f.i []) f.are ∙ get_first f.i (f.r ∷ f.rs) f.more)

  first_is : first_waiting ls ≡ Some f.r
  first_is = ap first_waiting f.are ∙ waiting_first f.i f.r f.rs f.more

  pub front_is : slice_get (get_or ls (p - 1) []) 0 ≡ first_waiting ls
  front_is = ap (λ xs. slice_get xs 0) whole ∙ sym first_is

  pub front_some : IsSome (slice_get (get_or ls (p - 1) []) 0)
  front_some = rw whole refl

  left : set ls (p - 1) (drop 1 (get_or ls (p - 1) [])) ≡ after_empty f.i f.rs f.more
  left = rw (whole, index) (ap (λ (xs : Lists). set xs f.i f.rs) f.are ∙ set_first f.i (f.r ∷ f.rs) f.rs f.more)

  pub rest_is : set ls (p - 1) (drop 1 (get_or ls (p - 1) [])) ≡ without_first ls
  rest_is = left ∙ sym (ap without_first f.are ∙ rest_first f.i f.r f.rs f.more)

  collision_is : collision ls ≡ rival f.r f.rs
  collision_is = ap collision f.are ∙ collision_of_first f.i f.r f.rs f.more

  -- the lists without its first, and the list that is left
  abbrev pub ls2 : Lists
  ls2 = set ls (p - 1) (drop 1 (get_or ls (p - 1) []))

  behind : get_or ls2 (p - 1) [] ≡ f.rs
  behind = ap (λ (xs : Lists). get_or xs (p - 1) []) left ∙ rw index (get_first f.i f.rs f.more)

  module _ (first : Request) (taken : slice_get (get_or ls (p - 1) []) 0 ≡ Some first) where
    same : first ≡ f.r
    same = let e : slice_get (f.r ∷ f.rs) 0 ≡ Some first = subst (λ xs. slice_get xs 0 ≡ Some first) whole taken in cc

    alone : slice_get (get_or ls2 (p - 1) []) 0 ≡ None → collision ls ≡ None
    alone none = collision_is ∙ go f.rs (subst (λ xs. slice_get xs 0 ≡ None) behind none) where
      go : (xs : List Request) → slice_get xs 0 ≡ None → rival f.r xs ≡ None
      go [] none = refl
      go (x ∷ xs) none = absurd (cc)

    rivals : (second : Request) → slice_get (get_or ls2 (p - 1) []) 0 ≡ Some second → (b : Bool) → (first.sender == second.sender) ≡ b
        → collision ls ≡ (if b then None else Some second)
    rivals second is b test = collision_is ∙ go f.rs (subst (λ xs. slice_get xs 0 ≡ Some second) behind is) where
      go : (xs : List Request) → slice_get xs 0 ≡ Some second → rival f.r xs ≡ (if b then None else Some second)
      go [] is = absurd (cc)
      go (x ∷ xs) is = let e : x ≡ second = cc in rw (e, ← same) (ap (λ (t : Bool). if t then None else Some second) test)

    same_sender : (second : Request) → slice_get (get_or ls2 (p - 1) []) 0 ≡ Some second → second.sender ≡ first.sender → collision ls ≡ None
    same_sender second is equal = rivals second is true (grind (arith, nat_tests))

    other_sender : (second : Request) → slice_get (get_or ls2 (p - 1) []) 0 ≡ Some second → (second.sender ≡ first.sender → ⊥) → collision ls ≡ Some second
    other_sender second is unlike = rivals second is false (grind (arith, nat_tests))

  -- if nothing collides the first alone leaves, else the one behind it too
  one_left : collision ls ≡ None → ls2 ≡ without_collision ls
  one_left none = rest_is ∙ sym (ap (λ (o : Option Request). if is_some o then without_first (without_first ls) else without_first ls) none)

  both_left : (second : Request) → slice_get (get_or ls2 (p - 1) []) 0 ≡ Some second → collision ls ≡ Some second
      → set ls2 (p - 1) (drop 1 (get_or ls2 (p - 1) [])) ≡ without_collision ls
  both_left second is other =
      go f.rs behind left (subst (λ xs. slice_get xs 0 ≡ Some second) behind is)
      ∙ sym (ap (λ (o : Option Request). if is_some o then without_first (without_first ls) else without_first ls) other) where
        go : (xs : List Request) → get_or ls2 (p - 1) [] ≡ xs → ls2 ≡ after_empty f.i xs f.more → slice_get xs 0 ≡ Some second
            → set ls2 (p - 1) (drop 1 (get_or ls2 (p - 1) [])) ≡ without_first (without_first ls)
        go [] list lists is = absurd (cc)
        go (x ∷ xs) list lists is =
            ap (λ (ys : List Request). set ls2 (p - 1) (drop 1 ys)) list ∙ ap (λ (ys : Lists). set ys (p - 1) xs) lists
            ∙ rw index (set_first f.i (x ∷ xs) xs f.more) ∙ sym (ap without_first (sym rest_is ∙ lists) ∙ rest_first f.i x xs f.more)

-- what collides, and what is left, if the first was taken and this one stood behind it
module _ (q q2 : Queues Request) (b : Option ℕ) (p : ℕ) (popped next : Option Request) (first : Request) (searched : b ≡ best q) (found : b ≡ Some p)
    (pop_is : popped ≡ slice_get (list_of q p) 0) (rest : q2 ≡ with_list q p (drop 1 (list_of q p))) (taken : popped ≡ Some first)
    (behind_is : next ≡ slice_get (list_of q2 p) 0) where
  is : first_from 1 q.lists ≡ Some p
  is = sym searched ∙ found

  took : slice_get (list_of q p) 0 ≡ Some first
  took = sym pop_is ∙ taken

  stands : (o : Option Request) → next ≡ o → slice_get (get_or (set q.lists (p - 1) (drop 1 (list_of q p))) (p - 1) []) 0 ≡ o
  stands o e = ap (λ (x : Queues Request). slice_get (list_of x p) 0) (sym rest) ∙ sym behind_is ∙ e

  module _ (none : next ≡ None) where
    pub none_other : None ≡ collision q.lists
    none_other = sym (alone q.lists p is first took (stands None none))

    pub none_rest : q2.lists ≡ without_collision q.lists
    none_rest = ap (λ (x : Queues Request). x.lists) rest ∙ one_left q.lists p is (sym none_other)

  module _ (second : Request) (some : next ≡ Some second) where
    module _ (equal : second.sender ≡ first.sender) where
      pub same_other : None ≡ collision q.lists
      same_other = sym (same_sender q.lists p is first took second (stands (Some second) some) equal)

      pub same_rest : q2.lists ≡ without_collision q.lists
      same_rest = ap (λ (x : Queues Request). x.lists) rest ∙ one_left q.lists p is (sym same_other)

    module _ (unlike : second.sender ≡ first.sender → ⊥) where
      pub both_other : Some second ≡ collision q.lists
      both_other = sym (other_sender q.lists p is first took second (stands (Some second) some) unlike)

      pub both_rest : (q3 : Queues Request) → q3 ≡ with_list q2 p (drop 1 (list_of q2 p)) → q3.lists ≡ without_collision q.lists
      both_rest q3 last =
          ap (λ (x : Queues Request). x.lists) (last ∙ ap (λ (x : Queues Request). with_list x p (drop 1 (list_of x p))) rest)
          ∙ both_left q.lists p is second (stands (Some second) some) (sym both_other)
