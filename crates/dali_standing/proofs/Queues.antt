use Rattle.std.proofs.Common.{◌≡◌, ℕ, ◌+◌, ◌<◌, ◌≤◌, ◌⊎◌, inl, inr, Bool, true, false, not, List, [], ◌∷◌, ◌++◌, length, map, filter, take, Option, Some, None}
use Rattle.std.proofs.Common.{refl, sym, ap, subst, ◌∙◌, arith, suc, ◌==◌, ◌&&◌, if◌then◌else◌, is_some}
use Rattle.std.{proofs.lemmas.Bool.Decides.nat_tests, proofs.lemmas.List.append-nil, proofs.lemmas.List.Elements.filter-append, specs.List.AllByRecursion}
use Rattle.dali_frame.specs.declared.frames.Forward.{Forward}
use Rattle.dali_special.specs.Command.{command_of}
use Rattle.dali_arbiter.specs.Arbiter.{Arbiter, owns, request_of, idle, bus_offered, put_last, bus_freed, first_emptied, bus_lapsed, without_first, next}
use Rattle.dali_arbiter.specs.Arbiter.{first_waiting, collision, bus_destroyed, bus_silenced, bus_muted, without_sender}
use Rattle.dali_arbiter.{specs.declared.request.Request.Request, proofs.Collisions.unequal, proofs.Collisions.first_of_all}
use Rattle.dali_script.specs.declared.orders.{Input.Input, Order.Order}
use Rattle.dali_script.specs.declared.orders.Order.TheVariants.{Put, Commit, Done, Halt}
use Rattle.dali_events.specs.Happens.{bus_acted, gives_up, put_after, sent_by, is_arc}
use Rattle.dali_standing.specs.Seats.{Seat}
use Rattle.dali_standing.specs.Settled.{is_scripted, picked_requests, awaited_requests_by, awaited_requests, owners_request, IsServed, AreUp}

-- WHAT WAITS ON THE BUS, and what each thing that is done to the bus leaves of it.

-- the places of all other controllers are as they were
abbrev pub Elsewhere : (ℕ → Seat) → (ℕ → Seat) → ℕ → Type 0
Elsewhere place place' c = (d : ℕ) → (d ≡ c → ⊥) → place' d ≡ place d

-- ---------------------------------------------------------------- tests

same_test : (n : ℕ) → (n == n) ≡ true
same_test n = grind (arith, nat_tests)

apart_test : (m n : ℕ) → (m ≡ n → ⊥) → (m == n) ≡ false
apart_test m n other = grind (arith, nat_tests)

equal : (m n : ℕ) → (m == n) ≡ true → m ≡ n
equal m n test = grind (arith, nat_tests)

decided : (m n : ℕ) → (m ≡ n) ⊎ (m ≡ n → ⊥)
decided m n = go (m == n) refl where
  go : (b : Bool) → (m == n) ≡ b → (m ≡ n) ⊎ (m ≡ n → ⊥)
  go true e = inl (equal m n e)
  go false e = inr (unequal m n e)

passes : (a b : Bool) → a ≡ true → b ≡ false → (a && not b) ≡ true
passes a b e f = rw (e, f) refl

fails_first : (a b : Bool) → a ≡ false → (a && b) ≡ false
fails_first a b e = rw e refl

fails_last : (a b : Bool) → b ≡ true → (a && not b) ≡ false
fails_last true b e = rw e refl
fails_last false b e = refl

scripted_own : (c : ℕ) (r : Request) → r.sender ≡ c → is_arc (command_of r.frame) ≡ false → is_scripted c r ≡ true
scripted_own c r is fails = passes (r.sender == c) (is_arc (command_of r.frame)) (rw is (same_test c)) fails

scripted_other : (c : ℕ) (r : Request) → (c ≡ r.sender → ⊥) → is_scripted c r ≡ false
scripted_other c r other = fails_first (r.sender == c) (not (is_arc (command_of r.frame))) (apart_test r.sender c (λ e. other (sym e)))

scripted_arc : (c : ℕ) (r : Request) → is_arc (command_of r.frame) ≡ true → is_scripted c r ≡ false
scripted_arc c r arc = fails_last (r.sender == c) (is_arc (command_of r.frame)) arc

owned_is : (owner : Option ℕ) (c : ℕ) → owns owner c ≡ true → owner ≡ Some c
owned_is None c e = absurd (cc)
owned_is (Some o) c e = ap (λ (n : ℕ). Some n) (equal o c e)

-- ---------------------------------------------------------------- lists of requests

none_left : (xs ys : List Request) → xs ++ ys ≡ [] → xs ≡ []
none_left [] ys e = refl
none_left (x ∷ xs) ys e = absurd (cc)

none_right : (xs ys : List Request) → xs ++ ys ≡ [] → ys ≡ []
none_right [] ys e = e
none_right (x ∷ xs) ys e = absurd (cc)

-- a request that does not pass the test was put
picked_other : (test : Request → Bool) (r : Request) (n : ℕ) (lists : List (List Request)) → test r ≡ false
    → picked_requests test (put_last r n lists) ≡ picked_requests test lists
picked_other test r n [] fails = refl
picked_other test r n (l ∷ lists) fails = go (r.priority == n) (picked_other test r (n + 1) lists fails) where
  last : filter test (l ++ r ∷ []) ≡ filter test l
  last = filter-append test l (r ∷ []) ∙ rw fails (append-nil (filter test l))

  go : (b : Bool) → picked_requests test (put_last r (n + 1) lists) ≡ picked_requests test lists
      → filter test (if b then l ++ r ∷ [] else l) ++ picked_requests test (put_last r (n + 1) lists) ≡ filter test l ++ picked_requests test lists
  go true later = rw (last, later) refl
  go false later = rw later refl

-- the list of its number is not among them
put_beyond : (r : Request) (n : ℕ) (lists : List (List Request)) → r.priority < n → put_last r n lists ≡ lists
put_beyond r n [] low = refl
put_beyond r n (l ∷ lists) low =
    let other : r.priority ≡ n → ⊥ = λ e. omega arith in
    let test : (r.priority == n) ≡ false = apart_test r.priority n other in
    rw (test, put_beyond r (n + 1) lists (omega arith)) refl

-- the one request that passes the test was put
picked_added : (test : Request → Bool) (r : Request) (n : ℕ) (lists : List (List Request)) → picked_requests test lists ≡ [] → test r ≡ true
    → n ≤ r.priority → r.priority < n + length lists → picked_requests test (put_last r n lists) ≡ r ∷ []
picked_added test r n [] none holds least most = absurd (omega arith)
picked_added test r n (l ∷ lists) none holds least most =
    go (decided r.priority n)
    (λ other. picked_added test r (n + 1) lists (none_right (filter test l) (picked_requests test lists) none) holds (omega (arith, other)) (omega arith)) where
      here : filter test l ≡ []
      here = none_left (filter test l) (picked_requests test lists) none

      go : (r.priority ≡ n) ⊎ (r.priority ≡ n → ⊥) → ((r.priority ≡ n → ⊥) → picked_requests test (put_last r (n + 1) lists) ≡ r ∷ [])
          → filter test (if r.priority == n then l ++ r ∷ [] else l) ++ picked_requests test (put_last r (n + 1) lists) ≡ r ∷ []
      go (inl is) later =
          let test_is : (r.priority == n) ≡ true = rw is (same_test n) in
          let low : r.priority < n + 1 = omega arith in
          rw (test_is, put_beyond r (n + 1) lists low, none_right (filter test l) (picked_requests test lists) none, filter-append test l (r ∷ []), here, holds)
          refl
      go (inr other) later = rw (apart_test r.priority n other, here) (later other)

-- the first of the first list that is not empty was taken
picked_first : (test : Request → Bool) (lists : List (List Request)) (r : Request) → first_waiting lists ≡ Some r
    → picked_requests test lists ≡ (if test r then r ∷ picked_requests test (without_first lists) else picked_requests test (without_first lists))
picked_first test [] r e = absurd (cc)
picked_first test ([] ∷ lists) r e = picked_first test lists r e
picked_first test ((x ∷ xs) ∷ lists) r e =
    let same : x ≡ r = cc in
    subst (λ y. filter test (x ∷ xs) ++ picked_requests test lists
    ≡ (if test y then y ∷ (filter test xs ++ picked_requests test lists) else (filter test xs ++ picked_requests test lists))) same (go (test x)) where
      go : (b : Bool)
          → (if b then x ∷ filter test xs else filter test xs) ++ picked_requests test lists
          ≡ (if b then x ∷ (filter test xs ++ picked_requests test lists) else (filter test xs ++ picked_requests test lists))
      go true = refl
      go false = refl

taken_other : (test : Request → Bool) (lists : List (List Request)) (r : Request) → first_waiting lists ≡ Some r → test r ≡ false
    → picked_requests test (without_first lists) ≡ picked_requests test lists
taken_other test lists r first fails = sym (rw fails at (picked_first test lists r first))

taken_own : (test : Request → Bool) (lists : List (List Request)) (r : Request) → first_waiting lists ≡ Some r → test r ≡ true
    → picked_requests test lists ≡ r ∷ picked_requests test (without_first lists)
taken_own test lists r first holds = rw holds at (picked_first test lists r first)

-- a sender's requests leave
without_own : (c : ℕ) (rs : List Request) → filter (is_scripted c) (without_sender c rs) ≡ []
without_own c [] = refl
without_own c (x ∷ xs) = go (x.sender == c) refl (without_own c xs) where
  go : (b : Bool) → (x.sender == c) ≡ b → filter (is_scripted c) (without_sender c xs) ≡ []
      → filter (is_scripted c) (if not b then x ∷ without_sender c xs else without_sender c xs) ≡ []
  go true e later = later
  go false e later =
      let fails : is_scripted c x ≡ false = fails_first (x.sender == c) (not (is_arc (command_of x.frame))) e in
      rw fails later

without_other : (c : ℕ) (test : Request → Bool) (rs : List Request) → ((r : Request) → r.sender ≡ c → test r ≡ false)
    → filter test (without_sender c rs) ≡ filter test rs
without_other c test [] apart = refl
without_other c test (x ∷ xs) apart = go (x.sender == c) refl (without_other c test xs apart) where
  go : (b : Bool) → (x.sender == c) ≡ b → filter test (without_sender c xs) ≡ filter test xs
      → filter test (if not b then x ∷ without_sender c xs else without_sender c xs) ≡ (if test x then x ∷ filter test xs else filter test xs)
  go true e later =
      let fails : test x ≡ false = apart x (equal x.sender c e) in
      rw fails later
  go false e later = rw later refl

muted_own : (c : ℕ) (lists : List (List Request)) → picked_requests (is_scripted c) (map (without_sender c) lists) ≡ []
muted_own c [] = refl
muted_own c (l ∷ lists) = rw (without_own c l) (muted_own c lists)

muted_other : (c : ℕ) (test : Request → Bool) (lists : List (List Request)) → ((r : Request) → r.sender ≡ c → test r ≡ false)
    → picked_requests test (map (without_sender c) lists) ≡ picked_requests test lists
muted_other c test [] apart = refl
muted_other c test (l ∷ lists) apart = rw (without_other c test l apart, muted_other c test lists apart) refl

-- ---------------------------------------------------------------- the one request that a controller waits for

awaited_one : (c : ℕ) (told : Option Input) (last : Option Order) (r : Request) (rs : List Request) → r ∷ rs ≡ awaited_requests_by c told last
    → (rs ≡ []) × (r.sender ≡ c)
awaited_one c None (Some (Put p f)) r rs e =
    let same : r ≡ request_of c p f = cc in
    (cc, ap (λ (x : Request). x.sender) same)
awaited_one c None (Some (Commit x)) r rs e = absurd (cc)
awaited_one c None (Some (Done x)) r rs e = absurd (cc)
awaited_one c None (Some (Halt x)) r rs e = absurd (cc)
awaited_one c None None r rs e = absurd (cc)
awaited_one c (Some i) last r rs e = absurd (cc)

rest_owned : (b : Bool) (rs : List Request) → b ≡ true → (if b then [] else rs) ≡ []
rest_owned b rs e = rw e refl

rest_free : (b : Bool) (rs : List Request) → b ≡ false → (if b then [] else rs) ≡ rs
rest_free b rs e = rw e refl

-- WHAT IS LEFT once request r was taken from the lists of a bus, where it was next
record IsTaken (lists : List (List Request)) (owner : Option ℕ) (place : ℕ → Seat) (r : Request) : Type 0 where
  rest : List (List Request)
  whole : without_first lists ≡ [] ∷ rest
  waits : is_arc (command_of r.frame) ≡ false → awaited_requests r.sender (place r.sender).controller ≡ r ∷ []
  others : (d : ℕ) → (d ≡ r.sender → ⊥) → picked_requests (is_scripted d) rest ≡ awaited_requests d (place d).controller
  own : is_arc (command_of r.frame) ≡ false → picked_requests (is_scripted r.sender) rest ≡ []
  arc : is_arc (command_of r.frame) ≡ true → owner ≡ None → picked_requests (is_scripted r.sender) rest ≡ awaited_requests r.sender (place r.sender).controller
  owned : (o : ℕ) → owner ≡ Some o → (r.sender ≡ o) × (awaited_requests o (place o).controller ≡ r ∷ []) × (collision lists ≡ None)

taken_free : (rest : List (List Request)) (place : ℕ → Seat) (r : Request) → IsServed ([] ∷ rest) None place
    → first_waiting rest ≡ Some r → IsTaken ([] ∷ rest) None place r
taken_free rest place r served first = record {
  rest = without_first rest;
  whole = refl;
  waits = λ scripted. rw (short scripted) at (is scripted);
  others = λ d other. taken_other (is_scripted d) rest r first (scripted_other d r other) ∙ served.1 d;
  own = short;
  arc = λ arc none. taken_other (is_scripted r.sender) rest r first (scripted_arc r.sender r arc) ∙ served.1 r.sender;
  owned = λ o e. absurd (cc);
} where
  is : is_arc (command_of r.frame) ≡ false
      → awaited_requests r.sender (place r.sender).controller ≡ r ∷ picked_requests (is_scripted r.sender) (without_first rest)
  is scripted = sym (served.1 r.sender) ∙ taken_own (is_scripted r.sender) rest r first (scripted_own r.sender r refl scripted)

  short : is_arc (command_of r.frame) ≡ false → picked_requests (is_scripted r.sender) (without_first rest) ≡ []
  short scripted =
      (awaited_one r.sender (place r.sender).controller.told (place r.sender).controller.last r (picked_requests (is_scripted r.sender) (without_first rest))
      (sym (is scripted))).0

taken_owned : (x : Request) (rest : List (List Request)) (o : ℕ) (place : ℕ → Seat) (r : Request) → IsServed ((x ∷ []) ∷ rest) (Some o) place
    → x ≡ r → r.sender ≡ o → IsTaken ((x ∷ []) ∷ rest) (Some o) place r
taken_owned x rest o place r served same owner = record {
  rest = rest;
  whole = refl;
  waits = λ scripted. subst (λ n. awaited_requests n (place n).controller ≡ r ∷ []) (sym owner) is;
  others = λ d other. served.1 d ∙ rest_free (o == d) (awaited_requests d (place d).controller) (apart_test o d (λ e. other (sym e ∙ sym owner)));
  own = λ scripted. served.1 r.sender ∙ rest_owned (o == r.sender) (awaited_requests r.sender (place r.sender).controller) (rw owner (same_test o));
  arc = λ arc none. absurd (cc);
  owned = λ p e. let whose : o ≡ p = cc in (owner ∙ whose, subst (λ n. awaited_requests n (place n).controller ≡ r ∷ []) whose is, refl);
} where
  is : awaited_requests o (place o).controller ≡ r ∷ []
  is = sym served.0 ∙ ap (λ (y : Request). y ∷ []) same

taken_is : (lists : List (List Request)) (owner : Option ℕ) (place : ℕ → Seat) (r : Request) → IsServed lists owner place
    → first_waiting (if is_some owner then take 1 lists else lists) ≡ Some r → IsTaken lists owner place r
taken_is [] owner place r served first = elim served [ ]
taken_is ([] ∷ rest) None place r served first = taken_free rest place r served first
taken_is ((x ∷ xs) ∷ rest) None place r served first = absurd (let e : x ∷ xs ≡ [] = served.0 in cc)
taken_is ([] ∷ rest) (Some o) place r served first = absurd (cc)
taken_is ((x ∷ xs) ∷ rest) (Some o) place r served first =
    let known = awaited_one o (place o).controller.told (place o).controller.last x xs served.0 in
    let same : x ≡ r = cc in
    go xs known.0 served same (ap (λ (y : Request). y.sender) (sym same) ∙ known.1) where
      go : (ys : List Request) → ys ≡ [] → IsServed ((x ∷ ys) ∷ rest) (Some o) place → x ≡ r → r.sender ≡ o → IsTaken ((x ∷ ys) ∷ rest) (Some o) place r
      go [] e served same owner = taken_owned x rest o place r served same owner
      go (y ∷ ys) e served same owner = absurd (cc)

-- ---------------------------------------------------------------- the request that is next

pub next_is : (b : Arbiter) (place : ℕ → Seat) (r : Request) → IsServed b.lists b.owner place → next b ≡ Some r → is_arc (command_of r.frame) ≡ false
    → awaited_requests r.sender (place r.sender).controller ≡ r ∷ []
next_is b place r served first scripted = (taken_is b.lists b.owner place r served first).waits scripted

pub next_owned : (b : Arbiter) (place : ℕ → Seat) (r : Request) (c : ℕ) → IsServed b.lists b.owner place → next b ≡ Some r → b.owner ≡ Some c
    → (r.sender ≡ c) × (awaited_requests c (place c).controller ≡ r ∷ [])
next_owned b place r c served first owner = let known = (taken_is b.lists b.owner place r served first).owned c owner in (known.0, known.1)

pub collision_owned : (b : Arbiter) (place : ℕ → Seat) (r : Request) (c : ℕ) → IsServed b.lists b.owner place → b.owner ≡ Some c → next b ≡ Some r
    → collision b.lists ≡ None
collision_owned b place r c served owner first = ((taken_is b.lists b.owner place r served first).owned c owner).2

-- ---------------------------------------------------------------- places that change

moved : (place place' : ℕ → Seat) (d : ℕ) → place' d ≡ place d → awaited_requests d (place d).controller ≡ awaited_requests d (place' d).controller
moved place place' d same = ap (λ (p : Seat). awaited_requests d p.controller) (sym same)

owners_elsewhere : (owner : Option ℕ) (place place' : ℕ → Seat) (c : ℕ) → owns owner c ≡ false → Elsewhere place place' c
    → owners_request owner place ≡ owners_request owner place'
owners_elsewhere None place place' c apart elsewhere = refl
owners_elsewhere (Some o) place place' c apart elsewhere = moved place place' o (elsewhere o (unequal o c apart))

owners_alike : (owner : Option ℕ) (place place' : ℕ → Seat) → ((d : ℕ) → awaited_requests d (place d).controller ≡ awaited_requests d (place' d).controller)
    → owners_request owner place ≡ owners_request owner place'
owners_alike None place place' alike = refl
owners_alike (Some o) place place' alike = alike o

served_alike : (lists : List (List Request)) (owner : Option ℕ) (place place' : ℕ → Seat)
    → ((d : ℕ) → awaited_requests d (place d).controller ≡ awaited_requests d (place' d).controller) → IsServed lists owner place → IsServed lists owner place'
served_alike [] owner place place' alike served = elim served [ ]
served_alike (first ∷ rest) owner place place' alike served =
    (served.0 ∙ owners_alike owner place place' alike, λ d. served.1 d ∙ ap (λ (rs : List Request). if owns owner d then [] else rs) (alike d))

-- a place changed, for which as much waits as before
pub served_same : (lists : List (List Request)) (owner : Option ℕ) (place place' : ℕ → Seat) (c : ℕ) → IsServed lists owner place → Elsewhere place place' c
    → awaited_requests c (place' c).controller ≡ awaited_requests c (place c).controller → IsServed lists owner place'
served_same lists owner place place' c served elsewhere same = served_alike lists owner place place' (λ d. go d (decided d c)) served where
  go : (d : ℕ) → (d ≡ c) ⊎ (d ≡ c → ⊥) → awaited_requests d (place d).controller ≡ awaited_requests d (place' d).controller
  go d (inl e) = subst (λ n. awaited_requests n (place n).controller ≡ awaited_requests n (place' n).controller) (sym e) (sym same)
  go d (inr other) = moved place place' d (elsewhere d other)

-- the start
pub served_start : (capacity : ℕ) (place : ℕ → Seat) → ((c : ℕ) → awaited_requests c (place c).controller ≡ [])
    → IsServed (idle capacity).lists (idle capacity).owner place
served_start capacity place none = (refl, λ c. sym (none c))

-- ---------------------------------------------------------------- a frame left the bus

-- what becomes of the sender of a frame that left: it waits for nothing; or the frame was for arc power, and nobody owned the bus
abbrev pub Gone : Option ℕ → (ℕ → Seat) → (ℕ → Seat) → Request → Type 0
Gone owner place place' r = ((is_arc (command_of r.frame) ≡ false) × (awaited_requests r.sender (place' r.sender).controller ≡ []))
    ⊎ ((is_arc (command_of r.frame) ≡ true) × (place' r.sender ≡ place r.sender) × (owner ≡ None))

module _ (lists : List (List Request)) (owner : Option ℕ) (place place' : ℕ → Seat) (r : Request) where
  left_rest : (left : IsTaken lists owner place r) → Elsewhere place place' r.sender → Gone owner place place' r → IsServed ([] ∷ left.rest) None place'
  left_rest left elsewhere gone = (refl, λ d. go d (decided d r.sender)) where
    own : Gone owner place place' r → picked_requests (is_scripted r.sender) left.rest ≡ awaited_requests r.sender (place' r.sender).controller
    own (inl g) = left.own g.0 ∙ sym g.1
    own (inr g) = left.arc g.0 g.2 ∙ moved place place' r.sender g.1

    go : (d : ℕ) → (d ≡ r.sender) ⊎ (d ≡ r.sender → ⊥) → picked_requests (is_scripted d) left.rest ≡ awaited_requests d (place' d).controller
    go d (inl e) = subst (λ n. picked_requests (is_scripted n) left.rest ≡ awaited_requests n (place' n).controller) (sym e) (own gone)
    go d (inr other) = left.others d other ∙ moved place place' d (elsewhere d other)

  left_free : IsTaken lists owner place r → Elsewhere place place' r.sender → Gone owner place place' r
      → IsServed (first_emptied (without_first lists)) None place'
  left_free left elsewhere gone = subst (λ ls. IsServed (first_emptied ls) None place') (sym left.whole) (left_rest left elsewhere gone)

  left_owned : IsTaken lists owner place r → Elsewhere place place' r.sender → is_arc (command_of r.frame) ≡ false
      → awaited_requests r.sender (place' r.sender).controller ≡ [] → IsServed (without_first lists) (Some r.sender) place'
  left_owned left elsewhere scripted none = subst (λ ls. IsServed ls (Some r.sender) place') (sym left.whole) (sym none, λ d. go d (decided d r.sender)) where
    go : (d : ℕ) → (d ≡ r.sender) ⊎ (d ≡ r.sender → ⊥)
        → picked_requests (is_scripted d) left.rest ≡ (if r.sender == d then [] else awaited_requests d (place' d).controller)
    go d (inl e) =
        subst (λ n. picked_requests (is_scripted n) left.rest ≡ (if r.sender == n then [] else awaited_requests n (place' n).controller)) (sym e)
        (left.own scripted ∙ sym (rest_owned (r.sender == r.sender) (awaited_requests r.sender (place' r.sender).controller) (same_test r.sender)))
    go d (inr other) =
        left.others d other ∙ moved place place' d (elsewhere d other)
        ∙ sym (rest_free (r.sender == d) (awaited_requests d (place' d).controller) (apart_test r.sender d (λ e. other (sym e))))

-- a frame was sent
pub served_sent : (b : Arbiter) (place place' : ℕ → Seat) (r : Request) (more : Bool) → IsServed b.lists b.owner place → next b ≡ Some r
    → Elsewhere place place' r.sender → Gone b.owner place place' r → (is_arc (command_of r.frame) ≡ true → more ≡ false)
    → IsServed (sent_by b r.sender more).lists (sent_by b r.sender more).owner place'
served_sent b place place' r false served first elsewhere gone last =
    left_free b.lists b.owner place place' r (taken_is b.lists b.owner place r served first) elsewhere gone
served_sent b place place' r true served first elsewhere (inl g) last =
    left_owned b.lists b.owner place place' r (taken_is b.lists b.owner place r served first) elsewhere g.0 g.1
served_sent b place place' r true served first elsewhere (inr g) last = absurd (cc (last g.0))

-- a frame was destroyed
pub served_destroyed : (b : Arbiter) (place place' : ℕ → Seat) (r : Request) → IsServed b.lists b.owner place → next b ≡ Some r
    → Elsewhere place place' r.sender → Gone b.owner place place' r → IsServed (bus_destroyed b).lists (bus_destroyed b).owner place'
served_destroyed b place place' r served first elsewhere gone =
    left_free b.lists b.owner place place' r (taken_is b.lists b.owner place r served first) elsewhere gone

-- ---------------------------------------------------------------- the owner loses the bus

emptied_served : (lists : List (List Request)) (place place' : ℕ → Seat) (c : ℕ) → IsServed lists (Some c) place → Elsewhere place place' c
    → awaited_requests c (place' c).controller ≡ [] → IsServed (first_emptied lists) None place'
emptied_served [] place place' c served elsewhere none = elim served [ ]
emptied_served (first ∷ rest) place place' c served elsewhere none = (refl, λ d. go d (decided d c)) where
  go : (d : ℕ) → (d ≡ c) ⊎ (d ≡ c → ⊥) → picked_requests (is_scripted d) rest ≡ awaited_requests d (place' d).controller
  go d (inl e) =
      subst (λ n. picked_requests (is_scripted n) rest ≡ awaited_requests n (place' n).controller) (sym e)
      (served.1 c ∙ rest_owned (c == c) (awaited_requests c (place c).controller) (same_test c) ∙ sym none)
  go d (inr other) =
      served.1 d ∙ rest_free (c == d) (awaited_requests d (place d).controller) (apart_test c d (λ e. other (sym e))) ∙ moved place place' d (elsewhere d other)

pub served_lapsed : (b : Arbiter) (place place' : ℕ → Seat) (c : ℕ) → IsServed b.lists b.owner place → b.owner ≡ Some c → Elsewhere place place' c
    → awaited_requests c (place' c).controller ≡ [] → IsServed (bus_lapsed b).lists (bus_lapsed b).owner place'
served_lapsed b place place' c served owner elsewhere none =
    emptied_served b.lists place place' c (subst (λ o. IsServed b.lists o place) owner served) elsewhere none

idle_served : (lists : List (List Request)) (place : ℕ → Seat) → IsServed lists None place → IsServed (first_emptied lists) None place
idle_served [] place served = elim served [ ]
idle_served (first ∷ rest) place served = (refl, served.1)

pub served_idle : (b : Arbiter) (place : ℕ → Seat) → b.owner ≡ None → IsServed b.lists b.owner place → IsServed (bus_lapsed b).lists (bus_lapsed b).owner place
served_idle b place free served = idle_served b.lists place (subst (λ o. IsServed b.lists o place) free served)

-- ---------------------------------------------------------------- a controller goes down

without_awaited : (c o : ℕ) (told : Option Input) (last : Option Order) → (o ≡ c → ⊥)
    → without_sender c (awaited_requests_by o told last) ≡ awaited_requests_by o told last
without_awaited c o None (Some (Put p f)) other = rw (apart_test o c other) refl
without_awaited c o None (Some (Commit x)) other = refl
without_awaited c o None (Some (Done x)) other = refl
without_awaited c o None (Some (Halt x)) other = refl
without_awaited c o None None other = refl
without_awaited c o (Some i) last other = refl

without_owners : (owner : Option ℕ) (place : ℕ → Seat) (c : ℕ) → owns owner c ≡ false
    → without_sender c (owners_request owner place) ≡ owners_request owner place
without_owners None place c apart = refl
without_owners (Some o) place c apart = without_awaited c o (place o).controller.told (place o).controller.last (unequal o c apart)

apart_of : (c d : ℕ) → (d ≡ c → ⊥) → (r : Request) → r.sender ≡ c → is_scripted d r ≡ false
apart_of c d other r is = scripted_other d r (λ e. other (e ∙ is))

muted_owned : (lists : List (List Request)) (place place' : ℕ → Seat) (c : ℕ) → IsServed lists (Some c) place → Elsewhere place place' c
    → awaited_requests c (place' c).controller ≡ [] → IsServed (first_emptied (map (without_sender c) lists)) None place'
muted_owned [] place place' c served elsewhere none = elim served [ ]
muted_owned (first ∷ rest) place place' c served elsewhere none = (refl, λ d. go d (decided d c)) where
  go : (d : ℕ) → (d ≡ c) ⊎ (d ≡ c → ⊥) → picked_requests (is_scripted d) (map (without_sender c) rest) ≡ awaited_requests d (place' d).controller
  go d (inl e) =
      subst (λ n. picked_requests (is_scripted n) (map (without_sender c) rest) ≡ awaited_requests n (place' n).controller) (sym e)
      (muted_own c rest ∙ sym none)
  go d (inr other) =
      muted_other c (is_scripted d) rest (apart_of c d other) ∙ served.1 d
      ∙ rest_free (c == d) (awaited_requests d (place d).controller) (apart_test c d (λ e. other (sym e))) ∙ moved place place' d (elsewhere d other)

muted_apart : (lists : List (List Request)) (owner : Option ℕ) (place place' : ℕ → Seat) (c : ℕ) → owns owner c ≡ false → IsServed lists owner place
    → Elsewhere place place' c → awaited_requests c (place' c).controller ≡ [] → IsServed (map (without_sender c) lists) owner place'
muted_apart [] owner place place' c apart served elsewhere none = elim served [ ]
muted_apart (first ∷ rest) owner place place' c apart served elsewhere none =
    (ap (without_sender c) served.0 ∙ without_owners owner place c apart ∙ owners_elsewhere owner place place' c apart elsewhere, λ d. go d (decided d c)) where
      go : (d : ℕ) → (d ≡ c) ⊎ (d ≡ c → ⊥)
          → picked_requests (is_scripted d) (map (without_sender c) rest) ≡ (if owns owner d then [] else awaited_requests d (place' d).controller)
      go d (inl e) =
          subst (λ n. picked_requests (is_scripted n) (map (without_sender c) rest) ≡ (if owns owner n then [] else awaited_requests n (place' n).controller))
          (sym e)
          (muted_own c rest ∙ sym none ∙ sym (rest_free (owns owner c) (awaited_requests c (place' c).controller) apart))
      go d (inr other) =
          muted_other c (is_scripted d) rest (apart_of c d other) ∙ served.1 d
          ∙ ap (λ (rs : List Request). if owns owner d then [] else rs) (moved place place' d (elsewhere d other))

pub served_silenced : (b : Arbiter) (place place' : ℕ → Seat) (c : ℕ) → IsServed b.lists b.owner place → Elsewhere place place' c
    → awaited_requests c (place' c).controller ≡ [] → IsServed (bus_silenced b c).lists (bus_silenced b c).owner place'
served_silenced b place place' c served elsewhere none = go (owns b.owner c) refl where
  go : (t : Bool) → owns b.owner c ≡ t
      → IsServed (if t then bus_freed (bus_muted b c) else bus_muted b c).lists (if t then bus_freed (bus_muted b c) else bus_muted b c).owner place'
  go true e = muted_owned b.lists place place' c (subst (λ o. IsServed b.lists o place) (owned_is b.owner c e) served) elsewhere none
  go false e = muted_apart b.lists b.owner place place' c e served elsewhere none

-- ---------------------------------------------------------------- an arc power frame is offered

arc_served : (lists : List (List Request)) (owner : Option ℕ) (place : ℕ → Seat) (c : ℕ) (f : Forward) → IsServed lists owner place
    → is_arc (command_of f) ≡ true → IsServed (put_last (request_of c 2 f) 1 lists) owner place
arc_served [] owner place c f served arc = elim served [ ]
arc_served (first ∷ rest) owner place c f served arc =
    (served.0, λ d. picked_other (is_scripted d) (request_of c 2 f) 2 rest (scripted_arc d (request_of c 2 f) arc) ∙ served.1 d)

pub served_offered : (b : Arbiter) (place : ℕ → Seat) (c : ℕ) (f : Forward) → IsServed b.lists b.owner place → is_arc (command_of f) ≡ true
    → IsServed (bus_offered b (request_of c 2 f)).lists (bus_offered b (request_of c 2 f)).owner place
served_offered b place c f served arc = arc_served b.lists b.owner place c f served arc

-- ---------------------------------------------------------------- a controller acts

-- an order whose frame, if it has one, is scripted, and goes to list 1 from the owner or to list 3
abbrev pub MayAsk : Option ℕ → ℕ → Order → Type 0
MayAsk owner c (Put p f) = (is_arc (command_of f) ≡ false) × (((p ≡ 1) × (owns owner c ≡ true)) ⊎ (p ≡ 3))
MayAsk owner c _ = Unit {0}

module _ (place place' : ℕ → Seat) (c : ℕ) (f : Forward) where
  put_owned : (lists : List (List Request)) → IsServed lists (Some c) place → Elsewhere place place' c → awaited_requests c (place c).controller ≡ []
      → awaited_requests c (place' c).controller ≡ request_of c 1 f ∷ [] → IsServed (put_last (request_of c 1 f) 1 lists) (Some c) place'
  put_owned [] served elsewhere none new = elim served [ ]
  put_owned (first ∷ rest) served elsewhere none new = (now, λ d. ap (picked_requests (is_scripted d)) beyond ∙ served.1 d ∙ go d (decided d c)) where
    now : first ++ request_of c 1 f ∷ [] ≡ awaited_requests c (place' c).controller
    now = let e : first ≡ [] = served.0 ∙ none in rw e (sym new)

    beyond : put_last (request_of c 1 f) 2 rest ≡ rest
    beyond = put_beyond (request_of c 1 f) 2 rest (omega arith)

    go : (d : ℕ) → (d ≡ c) ⊎ (d ≡ c → ⊥)
        → (if c == d then [] else awaited_requests d (place d).controller) ≡ (if c == d then [] else awaited_requests d (place' d).controller)
    go d (inl e) =
        let test : (c == d) ≡ true = rw e (same_test c) in
        rest_owned (c == d) (awaited_requests d (place d).controller) test ∙ sym (rest_owned (c == d) (awaited_requests d (place' d).controller) test)
    go d (inr other) = ap (λ (rs : List Request). if c == d then [] else rs) (moved place place' d (elsewhere d other))

  put_third : (lists : List (List Request)) (owner : Option ℕ) → length lists ≡ 5 → owns owner c ≡ false → is_arc (command_of f) ≡ false
      → IsServed lists owner place → Elsewhere place place' c → awaited_requests c (place c).controller ≡ []
      → awaited_requests c (place' c).controller ≡ request_of c 3 f ∷ [] → IsServed (put_last (request_of c 3 f) 1 lists) owner place'
  put_third [] owner five apart scripted served elsewhere none new = elim served [ ]
  put_third (first ∷ rest) owner five apart scripted served elsewhere none new =
      (served.0 ∙ owners_elsewhere owner place place' c apart elsewhere, λ d. go d (decided d c)) where
        nothing : picked_requests (is_scripted c) rest ≡ []
        nothing = served.1 c ∙ rest_free (owns owner c) (awaited_requests c (place c).controller) apart ∙ none

        added : picked_requests (is_scripted c) (put_last (request_of c 3 f) 2 rest) ≡ request_of c 3 f ∷ []
        added = picked_added (is_scripted c) (request_of c 3 f) 2 rest nothing (scripted_own c (request_of c 3 f) refl scripted) (omega arith) (omega arith)

        go : (d : ℕ) → (d ≡ c) ⊎ (d ≡ c → ⊥)
            → picked_requests (is_scripted d) (put_last (request_of c 3 f) 2 rest) ≡ (if owns owner d then [] else awaited_requests d (place' d).controller)
        go d (inl e) =
            subst (λ n. picked_requests (is_scripted n) (put_last (request_of c 3 f) 2 rest)
            ≡ (if owns owner n then [] else awaited_requests n (place' n).controller)) (sym e)
            (added ∙ sym new ∙ sym (rest_free (owns owner c) (awaited_requests c (place' c).controller) apart))
        go d (inr other) =
            picked_other (is_scripted d) (request_of c 3 f) 2 rest (scripted_other d (request_of c 3 f) other) ∙ served.1 d
            ∙ ap (λ (rs : List Request). if owns owner d then [] else rs) (moved place place' d (elsewhere d other))

emptied_length : (lists : List (List Request)) → length (first_emptied lists) ≡ length lists
emptied_length [] = refl
emptied_length (l ∷ lists) = refl

module _ (b : Arbiter) (place place' : ℕ → Seat) (c : ℕ) (served : IsServed b.lists b.owner place) (elsewhere : Elsewhere place place' c)
    (none : awaited_requests c (place c).controller ≡ []) where
  -- an order with no frame
  acted_quiet : awaited_requests c (place' c).controller ≡ [] → (t : Bool) → owns b.owner c ≡ t
      → IsServed (if t && true then bus_lapsed b else b).lists (if t && true then bus_lapsed b else b).owner place'
  acted_quiet new true e = served_lapsed b place place' c served (owned_is b.owner c e) elsewhere new
  acted_quiet new false e = served_same b.lists b.owner place place' c served elsewhere (new ∙ sym none)

  acted_owned : (f : Forward) → owns b.owner c ≡ true → awaited_requests c (place' c).controller ≡ request_of c 1 f ∷ []
      → IsServed (bus_acted b c (Put 1 f)).lists (bus_acted b c (Put 1 f)).owner place'
  acted_owned f owned new = rw owned (subst (λ o. IsServed (put_last (request_of c 1 f) 1 b.lists) o place') (sym owner)
      (put_owned place place' c f b.lists (subst (λ o. IsServed b.lists o place) owner served) elsewhere none new)) where
        owner : b.owner ≡ Some c
        owner = owned_is b.owner c owned

  acted_third : (f : Forward) → length b.lists ≡ 5 → is_arc (command_of f) ≡ false → awaited_requests c (place' c).controller ≡ request_of c 3 f ∷ []
      → IsServed (bus_acted b c (Put 3 f)).lists (bus_acted b c (Put 3 f)).owner place'
  acted_third f five scripted new = go (owns b.owner c) refl where
    go : (t : Bool) → owns b.owner c ≡ t
        → IsServed (put_last (request_of c 3 f) 1 (if t && true then bus_lapsed b else b).lists) (if t && true then bus_lapsed b else b).owner place'
    go true e =
        put_third place place' c f (first_emptied b.lists) None (emptied_length b.lists ∙ five) refl scripted
        (served_lapsed b place place c served (owned_is b.owner c e) (λ d other. refl) none) elsewhere none new
    go false e = put_third place place' c f b.lists b.owner five e scripted served elsewhere none new

pub served_acted : (b : Arbiter) (place place' : ℕ → Seat) (c : ℕ) (o : Order) → length b.lists ≡ 5 → IsServed b.lists b.owner place → Elsewhere place place' c
    → awaited_requests c (place c).controller ≡ [] → awaited_requests c (place' c).controller ≡ awaited_requests_by c None (Some o) → MayAsk b.owner c o
    → IsServed (bus_acted b c o).lists (bus_acted b c o).owner place'
served_acted b place place' c (Put p f) five served elsewhere none new asks = go asks.1 where
  go : ((p ≡ 1) × (owns b.owner c ≡ true)) ⊎ (p ≡ 3) → IsServed (bus_acted b c (Put p f)).lists (bus_acted b c (Put p f)).owner place'
  go (inl first) =
      subst (λ n. awaited_requests c (place' c).controller ≡ request_of c n f ∷ []
      → IsServed (bus_acted b c (Put n f)).lists (bus_acted b c (Put n f)).owner place')
      (sym first.0) (acted_owned b place place' c served elsewhere none f first.1) new
  go (inr third) =
      subst (λ n. awaited_requests c (place' c).controller ≡ request_of c n f ∷ []
      → IsServed (bus_acted b c (Put n f)).lists (bus_acted b c (Put n f)).owner place')
      (sym third) (acted_third b place place' c served elsewhere none f five asks.0) new
served_acted b place place' c (Commit x) five served elsewhere none new asks = acted_quiet b place place' c served elsewhere none new (owns b.owner c) refl
served_acted b place place' c (Done x) five served elsewhere none new asks = acted_quiet b place place' c served elsewhere none new (owns b.owner c) refl
served_acted b place place' c (Halt x) five served elsewhere none new asks = acted_quiet b place place' c served elsewhere none new (owns b.owner c) refl

-- ---------------------------------------------------------------- five lists stay five

put_length : (r : Request) (n : ℕ) (lists : List (List Request)) → length (put_last r n lists) ≡ length lists
put_length r n [] = refl
put_length r n (l ∷ lists) = ap suc (put_length r (n + 1) lists)

without_length : (lists : List (List Request)) → length (without_first lists) ≡ length lists
without_length [] = refl
without_length ([] ∷ lists) = ap suc (without_length lists)
without_length ((x ∷ xs) ∷ lists) = refl

muted_length : (c : ℕ) (lists : List (List Request)) → length (map (without_sender c) lists) ≡ length lists
muted_length c [] = refl
muted_length c (l ∷ lists) = ap suc (muted_length c lists)

pub five_lapsed : (b : Arbiter) → length b.lists ≡ 5 → length (bus_lapsed b).lists ≡ 5
five_lapsed b five = emptied_length b.lists ∙ five

pub five_offered : (b : Arbiter) (r : Request) → length b.lists ≡ 5 → length (bus_offered b r).lists ≡ 5
five_offered b r five = put_length r 1 b.lists ∙ five

pub five_acted : (b : Arbiter) (c : ℕ) (o : Order) → length b.lists ≡ 5 → length (bus_acted b c o).lists ≡ 5
five_acted b c o five = go o (before (gives_up b c o)) where
  before : (t : Bool) → length (if t then bus_lapsed b else b).lists ≡ 5
  before true = five_lapsed b five
  before false = five

  go : (x : Order) → length (if gives_up b c o then bus_lapsed b else b).lists ≡ 5
      → length (put_after (if gives_up b c o then bus_lapsed b else b) c x).lists ≡ 5
  go (Put p f) is = five_offered (if gives_up b c o then bus_lapsed b else b) (request_of c p f) is
  go _ is = is

pub five_destroyed : (b : Arbiter) → length b.lists ≡ 5 → length (bus_destroyed b).lists ≡ 5
five_destroyed b five = emptied_length (without_first b.lists) ∙ without_length b.lists ∙ five

pub five_sent : (b : Arbiter) (c : ℕ) (more : Bool) → length b.lists ≡ 5 → length (sent_by b c more).lists ≡ 5
five_sent b c true five = without_length b.lists ∙ five
five_sent b c false five = five_destroyed b five

pub five_silenced : (b : Arbiter) (c : ℕ) → length b.lists ≡ 5 → length (bus_silenced b c).lists ≡ 5
five_silenced b c five = go (owns b.owner c) where
  go : (t : Bool) → length (if t then bus_freed (bus_muted b c) else bus_muted b c).lists ≡ 5
  go true = emptied_length (map (without_sender c) b.lists) ∙ muted_length c b.lists ∙ five
  go false = muted_length c b.lists ∙ five

-- ---------------------------------------------------------------- what is true of all requests

abbrev AllOf : (Request → Type 0) → List (List Request) → Type 0
AllOf P lists = AllByRecursion (λ l. AllByRecursion P l) lists

more_of : (P Q : Request → Type 0) (l : List Request) → ((r : Request) → P r → Q r) → AllByRecursion P l → AllByRecursion Q l
more_of P Q [] more all = tt
more_of P Q (x ∷ xs) more all = (more x all.0, more_of P Q xs more all.1)

all_more : (P Q : Request → Type 0) (lists : List (List Request)) → ((r : Request) → P r → Q r) → AllOf P lists → AllOf Q lists
all_more P Q [] more all = tt
all_more P Q (l ∷ lists) more all = (more_of P Q l more all.0, all_more P Q lists more all.1)

last_of_all : (P : Request → Type 0) (l : List Request) (r : Request) → AllByRecursion P l → P r → AllByRecursion P (l ++ r ∷ [])
last_of_all P [] r all is = (is, tt)
last_of_all P (x ∷ xs) r all is = (all.0, last_of_all P xs r all.1 is)

all_put : (P : Request → Type 0) (r : Request) (n : ℕ) (lists : List (List Request)) → AllOf P lists → P r → AllOf P (put_last r n lists)
all_put P r n [] all is = tt
all_put P r n (l ∷ lists) all is = (go (r.priority == n), all_put P r (n + 1) lists all.1 is) where
  go : (b : Bool) → AllByRecursion P (if b then l ++ r ∷ [] else l)
  go true = last_of_all P l r all.0 is
  go false = all.0

all_emptied : (P : Request → Type 0) (lists : List (List Request)) → AllOf P lists → AllOf P (first_emptied lists)
all_emptied P [] all = tt
all_emptied P (l ∷ lists) all = (tt, all.1)

all_without : (P : Request → Type 0) (lists : List (List Request)) → AllOf P lists → AllOf P (without_first lists)
all_without P [] all = tt
all_without P ([] ∷ lists) all = (tt, all_without P lists all.1)
all_without P ((x ∷ xs) ∷ lists) all = (all.0.1, all.1)

quiet_of : (P Q : Request → Type 0) (c : ℕ) (l : List Request) → ((r : Request) → (r.sender ≡ c → ⊥) → P r → Q r) → AllByRecursion P l
    → AllByRecursion Q (without_sender c l)
quiet_of P Q c [] more all = tt
quiet_of P Q c (x ∷ xs) more all = go (x.sender == c) refl (quiet_of P Q c xs more all.1) where
  go : (b : Bool) → (x.sender == c) ≡ b → AllByRecursion Q (without_sender c xs)
      → AllByRecursion Q (if not b then x ∷ without_sender c xs else without_sender c xs)
  go true e later = later
  go false e later = (more x (unequal x.sender c e) all.0, later)

all_muted : (P Q : Request → Type 0) (c : ℕ) (lists : List (List Request)) → ((r : Request) → (r.sender ≡ c → ⊥) → P r → Q r) → AllOf P lists
    → AllOf Q (map (without_sender c) lists)
all_muted P Q c [] more all = tt
all_muted P Q c (l ∷ lists) more all = (quiet_of P Q c l more all.0, all_muted P Q c lists more all.1)

all_first : (P : Request → Type 0) (lists : List (List Request)) (r : Request) → AllOf P lists → first_waiting lists ≡ Some r → P r
all_first P [] r all first = absurd (cc)
all_first P ([] ∷ lists) r all first = all_first P lists r all.1 first
all_first P ((x ∷ xs) ∷ lists) r all first = let same : x ≡ r = cc in subst P same all.0.0

-- ---------------------------------------------------------------- the senders of all requests are up

abbrev UpAt : (ℕ → Seat) → Request → Type 0
UpAt place r = (place r.sender).controller.up ≡ true

pub up_more : (lists : List (List Request)) (place place' : ℕ → Seat) → ((c : ℕ) → (place c).controller.up ≡ true → (place' c).controller.up ≡ true)
    → AreUp lists place → AreUp lists place'
up_more lists place place' more all = all_more (UpAt place) (UpAt place') lists (λ r is. more r.sender is) all

pub up_start : (capacity : ℕ) (place : ℕ → Seat) → AreUp (idle capacity).lists place
up_start capacity place = (tt, (tt, (tt, (tt, (tt, tt)))))

pub up_lapsed : (b : Arbiter) (place : ℕ → Seat) → AreUp b.lists place → AreUp (bus_lapsed b).lists place
up_lapsed b place all = all_emptied (UpAt place) b.lists all

pub up_offered : (b : Arbiter) (place : ℕ → Seat) (r : Request) → AreUp b.lists place → (place r.sender).controller.up ≡ true
    → AreUp (bus_offered b r).lists place
up_offered b place r all is = all_put (UpAt place) r 1 b.lists all is

pub up_acted : (b : Arbiter) (place : ℕ → Seat) (c : ℕ) (o : Order) → AreUp b.lists place → (place c).controller.up ≡ true → AreUp (bus_acted b c o).lists place
up_acted b place c o all is = go o (before (gives_up b c o)) where
  before : (t : Bool) → AreUp (if t then bus_lapsed b else b).lists place
  before true = up_lapsed b place all
  before false = all

  go : (x : Order) → AreUp (if gives_up b c o then bus_lapsed b else b).lists place
      → AreUp (put_after (if gives_up b c o then bus_lapsed b else b) c x).lists place
  go (Put p f) then_all = up_offered (if gives_up b c o then bus_lapsed b else b) place (request_of c p f) then_all is
  go _ then_all = then_all

pub up_destroyed : (b : Arbiter) (place : ℕ → Seat) → AreUp b.lists place → AreUp (bus_destroyed b).lists place
up_destroyed b place all = all_emptied (UpAt place) (without_first b.lists) (all_without (UpAt place) b.lists all)

pub up_sent : (b : Arbiter) (place : ℕ → Seat) (c : ℕ) (more : Bool) → AreUp b.lists place → AreUp (sent_by b c more).lists place
up_sent b place c true all = all_without (UpAt place) b.lists all
up_sent b place c false all = up_destroyed b place all

-- the controller whose requests left need not be up
pub up_silenced : (b : Arbiter) (place place' : ℕ → Seat) (c : ℕ) → AreUp b.lists place → Elsewhere place place' c → AreUp (bus_silenced b c).lists place'
up_silenced b place place' c all elsewhere = go (owns b.owner c) where
  others : AreUp (map (without_sender c) b.lists) place'
  others = all_muted (UpAt place) (UpAt place') c b.lists (λ r other is. subst (λ p. p.controller.up ≡ true) (sym (elsewhere r.sender other)) is) all

  go : (t : Bool) → AreUp (if t then bus_freed (bus_muted b c) else bus_muted b c).lists place'
  go true = all_emptied (UpAt place') (map (without_sender c) b.lists) others
  go false = others

pub next_up : (b : Arbiter) (place : ℕ → Seat) (r : Request) → AreUp b.lists place → next b ≡ Some r → (place r.sender).controller.up ≡ true
next_up b place r all first = all_first (UpAt place) b.lists r all (first_of_all b.owner b.lists r first)
