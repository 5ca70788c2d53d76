-- What holds of the five lists, and of what waits of an owner, with each change.
use Rattle.std.proofs.Common.{◌≡◌, ℕ, zero, suc, ◌+◌, ◌-◌, ◌<◌, ◌≤◌, Bool, true, false, List, [], ◌∷◌, ◌++◌, length, set, get_or, map, filter, not, cond}
use Rattle.std.proofs.Common.{Option, Some, None, refl, sym, ap, subst, ◌∙◌, arith, ◌==◌, is_some, if◌then◌else◌}
use Rattle.std.{proofs.lemmas.Bool.Decides.nat_tests, specs.List.AllByRecursion}
use Rattle.dali_ring.specs.Queues.{Queues, with_list, list_of, all_without}
use Rattle.dali_arbiter.specs.Arbiter.{without_first, put_last, bus_offered, Arbiter, collision}
use Rattle.dali_arbiter.specs.{Held.IsHeld, Held.without_collision, declared.request.Request.Request}

abbrev Lists : Type 0
Lists = List (List Request)

abbrev pub AllOwned : Option ℕ → List Request → Type 0
AllOwned owner rs = AllByRecursion (λ (r : Request). owner ≡ Some r.sender) rs

-- ---------------------------------------------------------------- a request is put last

put_past : (r : Request) (k : ℕ) (ls : Lists) → r.priority < k → put_last r k ls ≡ ls
put_past r k [] past = refl
put_past r k (l ∷ ls) past =
    let test : (r.priority == k) ≡ false = grind (arith, nat_tests) in
    rw (test, put_past r (k + 1) ls (omega (arith, past))) refl

put_at : (r : Request) (k i : ℕ) (ls : Lists) → r.priority ≡ k + i → i < length ls → put_last r k ls ≡ set ls i (get_or ls i [] ++ r ∷ [])
put_at r k i [] is within = absurd (omega (arith, within))
put_at r k zero (l ∷ ls) is within =
    let test : (r.priority == k) ≡ true = grind (arith, nat_tests) in
    rw (test, put_past r (k + 1) ls (omega (arith, is))) refl
put_at r k (suc i) (l ∷ ls) is within =
    let test : (r.priority == k) ≡ false = grind (arith, nat_tests) in
    rw (test, put_at r (k + 1) i ls (omega (arith, is)) (omega (arith, within))) refl

pub put_is : (r : Request) (ls : Lists) → length ls ≡ 5 → 1 ≤ r.priority → r.priority ≤ 5
    → set ls (r.priority - 1) (get_or ls (r.priority - 1) [] ++ r ∷ []) ≡ put_last r 1 ls
put_is r ls five least most = sym (put_at r 1 (r.priority - 1) ls (omega (arith, least)) (omega (arith, five, least, most)))

-- the bus as it is seen
abbrev pub seen : Queues Request → Option ℕ → Arbiter
seen q owner = record { lists = q.lists; owner = owner; capacity = q.capacity }

pub put_seen : (q q2 : Queues Request) (owner : Option ℕ) (r : Request) (b : Arbiter) → IsHeld q owner → 1 ≤ r.priority → r.priority ≤ 5
    → q2 ≡ with_list q r.priority (list_of q r.priority ++ r ∷ []) → seen q owner ≡ b → seen q2 owner ≡ bus_offered b r
put_seen q q2 owner r b held least most is view =
    subst (λ (x : Arbiter). seen q2 owner ≡ bus_offered x r) view
    (ap (λ (x : Queues Request). seen x owner) is ∙ ap (λ (ls : Lists). seen (record { lists = ls; capacity = q.capacity }) owner)
    (put_is r q.lists held.five least most))

-- ---------------------------------------------------------------- list 1 is the owner's

pub none_owned : (owner : Option ℕ) (rs : List Request) → AllOwned owner rs → owner ≡ None → rs ≡ []
none_owned owner [] all none = refl
none_owned owner (r ∷ rs) all none = let e : owner ≡ Some r.sender = all.0 in absurd (cc)

rest_five : (ls : Lists) → length (without_first ls) ≡ length ls
rest_five [] = refl
rest_five ([] ∷ ls) = ap suc (rest_five ls)
rest_five ((r ∷ rs) ∷ ls) = refl

rest_owned : (owner : Option ℕ) (ls : Lists) → AllOwned owner (get_or ls 0 []) → AllOwned owner (get_or (without_first ls) 0 [])
rest_owned owner [] all = tt
rest_owned owner ([] ∷ ls) all = tt
rest_owned owner ((r ∷ rs) ∷ ls) all = all.1

pub rest_held : (q q2 : Queues Request) (owner : Option ℕ) → IsHeld q owner → q2.lists ≡ without_first q.lists → IsHeld q2 owner
rest_held q q2 owner held is = record {
  five = ap length is ∙ rest_five q.lists ∙ held.five;
  owned = rw is (rest_owned owner q.lists held.owned);
}

pub collision_held : (q q2 : Queues Request) (owner : Option ℕ) → IsHeld q owner → q2.lists ≡ without_collision q.lists → IsHeld q2 owner
collision_held q q2 owner held is = go (is_some (collision q.lists)) is where
  go : (b : Bool) → q2.lists ≡ (if b then without_first (without_first q.lists) else without_first q.lists) → IsHeld q2 owner
  go true is =
      let first : IsHeld (record { lists = without_first q.lists; capacity = q.capacity }) owner = rest_held q _ owner held refl in
      rest_held _ q2 owner first is
  go false is = rest_held q q2 owner held is

-- a sender's requests leave
abbrev pub silent : ℕ → Queues Request → Queues Request
silent sender q = all_without (λ (r : Request). r.sender) sender q

abbrev kept : ℕ → List Request → List Request
kept sender rs = filter (λ (r : Request). not (r.sender == sender)) rs

silent_five : (sender : ℕ) (ls : Lists) → length (map (kept sender) ls) ≡ length ls
silent_five sender [] = refl
silent_five sender (l ∷ ls) = ap suc (silent_five sender ls)

kept_owned : (owner : Option ℕ) (sender : ℕ) (rs : List Request) → AllOwned owner rs → AllOwned owner (kept sender rs)
kept_owned owner sender [] all = tt
kept_owned owner sender (r ∷ rs) all = go (not (r.sender == sender)) (kept_owned owner sender rs all.1) where
  go : (b : Bool) → AllOwned owner (kept sender rs) → AllOwned owner (cond b (r ∷ kept sender rs) (kept sender rs))
  go true rest = (all.0, rest)
  go false rest = rest

silent_owned : (owner : Option ℕ) (sender : ℕ) (ls : Lists) → AllOwned owner (get_or ls 0 []) → AllOwned owner (get_or (map (kept sender) ls) 0 [])
silent_owned owner sender [] all = tt
silent_owned owner sender (l ∷ ls) all = kept_owned owner sender l all

pub silent_held : (q q2 : Queues Request) (sender : ℕ) (owner : Option ℕ) → IsHeld q owner → q2 ≡ silent sender q → IsHeld q2 owner
silent_held q q2 sender owner held is = rw is (record {
  five = silent_five sender q.lists ∙ held.five;
  owned = silent_owned owner sender q.lists held.owned;
})
