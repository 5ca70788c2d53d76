use Rattle.std.proofs.Common.{◌≡◌, ◌⊎◌, inl, inr, ℕ, ◌<◌, Bool, true, false, refl, sym, ap, subst, ◌∙◌, List, [], ◌∷◌, ◌++◌, Option, Some, None, filter, ◌==◌}
use Rattle.std.{proofs.Common.{◌&&◌, ◌||◌, not, nat_lt, if◌then◌else◌, is_none, option_map}, specs.List.list_any}
use Rattle.dali_frame.specs.{Random.{value_of, number_of}, Short.short_of, declared.frames.{Answer.Answer, Forward.Forward}}
use Rattle.dali_special.{specs.{Command.{command_of, IsSpelled}, declared.command.Command.Command as Read}, proofs.Table.{read_spelled, short_small}}
use Rattle.dali_script.specs.Findings.{Asked, nothing, high_byte, two_bytes, asked_of, asked_after, search_of, found_by, spelled_by, assigned}
use Rattle.dali_script.specs.{declared.finding.Finding.{Finding, TheVariants.{Queried, Resolved}}, Records.{Assignment, Has, HasAddress, is_pair, without_pair}}
use Rattle.dali_script.{specs.{Scripts.Lawful, declared.trace.Entry.Entry}, proofs.{Lists.has_map, Found.asked_more, Members.{has_left, has_right, has_either}}}
use Rattle.dali_statement.proofs.Tests.{both, second_of_either, first_of_both, second_of_both, first_of_either, not_true, equal, equals, below_by, some_is}
use Rattle.dali_statement.{proofs.{Tests.holds_by, Scripts.{rules_kept, query_tells}, Steps.{Safe, Told, told_so, bytes_tell}, Whole.goes}, specs.Page.Part}
use Rattle.dali_statement.specs.Page.{High, Middle, Low, byte, Command, QueryShort, QueryRandom, Heard, holds, Sent, Reserves, Enrols, Releases, Plan, Site}
use Rattle.dali_statement.specs.{Page.{tells, heard_by, list_after, happens, are_apart, may_send, allowed}, Gear.command_seen, Scripts.{heard_seen, entry_seen}}
use Rattle.dali_statement.specs.{Scripts.{said_on, said_of}, Own.{Own, Puts, Keeps, told_more, own_after}}
use Rattle.dali_frame.specs.declared.frames.Answer.TheVariants as answer
use Rattle.dali_special.specs.declared.command.Command.TheVariants as read
use Rattle.dali_special.specs.declared.command.Part.TheVariants as asked
use Rattle.dali_script.specs.declared.records.Record.TheVariants as record_of

-- A SENDER ALONE KEEPS THE RULES, by its own list.

-- ---------------------------------------------------------------- what was told

abbrev pub More : Told → Told → Type 0
More old new = (q : Part) (a v : ℕ) → old q a v ≡ true → new q a v ≡ true

pub told_further : (old new : Told) → More old new → (a r : ℕ) → told_so old a r ≡ true → told_so new a r ≡ true
told_further old new more a r e =
    let rest = second_of_both (nat_lt a 64) (old High a (byte High r) && (old Middle a (byte Middle r) && old Low a (byte Low r))) e in
    let last = second_of_both (old High a (byte High r)) (old Middle a (byte Middle r) && old Low a (byte Low r)) rest in
    both (first_of_both _ _ e) (both (more High a (byte High r) (first_of_both _ _ rest)) (both (more Middle a (byte Middle r) (first_of_both _ _ last))
    (more Low a (byte Low r) (second_of_both _ _ last))))

abbrev pub AskedSo : Told → Asked → Type 0
AskedSo told nothing = Unit {0}
AskedSo told (high_byte a high) = told High a high ≡ true
AskedSo told (two_bytes a high middle) = (told High a high ≡ true) × (told Middle a middle ≡ true)

asked_next : (old new : Told) (said : List (Command × Heard)) (x : Read) (h : Answer) (q : Asked) → More old new
    → ((r : Part) (a v : ℕ) → tells (command_seen x) (heard_seen h) said r a v ≡ true → new r a v ≡ true) → AskedSo old q → AskedSo new (asked_after x h q)
asked_next old new said (read.RandomByte a asked.High) (answer.Byte v) q more tell was = tell High a v (both (equals a a refl) (equals v v refl))
asked_next old new said (read.RandomByte a asked.Middle) (answer.Byte v) (high_byte b high) more tell was = go (b == a) refl where
  go : (t : Bool) → (b == a) ≡ t → AskedSo new (if t then two_bytes a high v else nothing)
  go false e = tt
  go true e = (more High a high (ap (λ d. old High d high) (sym (equal b a e)) ∙ was), tell Middle a v (both (equals a a refl) (equals v v refl)))
asked_next old new said _ _ _ more tell was = tt

-- ---------------------------------------------------------------- a sender on the page

-- its list has the frames of its transaction, and older ones
abbrev pub OnList : List (Command × Heard) → List Entry → Type 0
OnList said t = (older : List (Command × Heard)) × (said ≡ said_of t ++ older)

pub record Sees (s : Site) (c : ℕ) (v : Own) : Type 0 where
  pub list : OnList (s.said c) v.trace
  pub to : (a r : ℕ) → Has v.kept.reserved (a, r) → s.reserved c a ≡ Some r
  pub from : (a r : ℕ) → s.reserved c a ≡ Some r → Has v.kept.reserved (a, r)
  pub asked : AskedSo s.told (asked_of v.trace)
  pub told : (x : Assignment) → Has v.told x → told_so s.told x.0 x.1 ≡ true

-- it may send what its scripts let it
pub may_put : (s : Site) (c : ℕ) (v : Own) (f : Forward) → Sees s c v → Lawful v.kept.block v.kept.reserved v.trace f
    → may_send s c (command_seen (command_of f)) ≡ true
may_put s c v f sees lawful = rules_kept v.kept.block v.kept.reserved v.trace f s c sees.list.0 lawful sees.list.1 sees.to

-- it begins anew
pub forgets : (s : Site) (c : ℕ) (v : Own) → Sees s c v → Sees s c (record v { trace = [] })
forgets s c v sees = record { list = (s.said c, refl); to = sees.to; from = sees.from; asked = tt; told = sees.told }

-- moments that keep its reservations and what was told, when it has no transaction
pub emptied : (s t : Site) (c : ℕ) (v : Own) → v.trace ≡ [] → t.reserved ≡ s.reserved → More s.told t.told → Sees s c v → Sees t c v
emptied s t c v idle same more sees = record {
  list = (t.said c, ap (λ es. said_of es ++ t.said c) (sym idle));
  to = λ a r h. ap (λ f. f c a) same ∙ sees.to a r h;
  from = λ a r e. sees.from a r (ap (λ f. f c a) (sym same) ∙ e);
  asked = subst (λ es. AskedSo t.told (asked_of es)) (sym idle) tt;
  told = λ x h. told_further s.told t.told more x.0 x.1 (sees.told x h);
}

-- ---------------------------------------------------------------- a frame

-- what a sender heard stands in what all heard
heard_in : (test : ℕ × Heard → Bool) (c : ℕ) (ws : List (ℕ × Heard)) (h : Heard) → heard_by c ws ≡ Some h → test (c, h) ≡ true → list_any test ws ≡ true
heard_in test c [] h e is = absurd (cc)
heard_in test c (w ∷ ws) h e is = go (w.0 == c) refl e (λ later. heard_in test c ws h later is) where
  go : (t : Bool) → (w.0 == c) ≡ t → (if t then Some w.1 else heard_by c ws) ≡ Some h → (heard_by c ws ≡ Some h → list_any test ws ≡ true)
      → (test w || list_any test ws) ≡ true
  go true same here later = first_of_either (test w) (list_any test ws) (ap (λ k. test (k, w.1)) (equal w.0 c same) ∙ ap (λ k. test (c, k)) (some_is here) ∙ is)
  go false other here later = second_of_either (test w) (later here)

said_more : (said : List (Command × Heard)) (t : List Entry) (e : Entry) → said_on said (t ++ e ∷ []) ≡ entry_seen e ∷ said_on said t
said_more said [] e = refl
said_more said (d ∷ t) e = said_more (entry_seen d ∷ said) t e

module _ (p : Plan) (s : Site) (c : ℕ) (v : Own) (sees : Sees s c v) (safe : Safe p s) (f : Forward) (h : Answer) (ws : List (ℕ × Heard))
    (reach : List (Option ℕ)) (lawful : Lawful v.kept.block v.kept.reserved v.trace f) (own : heard_by c ws ≡ Some (heard_seen h))
    (allow : (are_apart s.gear && allowed p s (Sent (command_seen (command_of f)) ws reach)) ≡ true) where
  abbrev next : Site
  next = happens s (Sent (command_seen (command_of f)) ws reach)

  more : More s.told next.told
  more q a b e = first_of_either (s.told q a b) _ e

  tell : (q : Part) (a b : ℕ) → tells (command_seen (command_of f)) (heard_seen h) (s.said c) q a b ≡ true → next.told q a b ≡ true
  tell q a b e = second_of_either (s.told q a b) (heard_in (λ w. tells (command_seen (command_of f)) w.1 (s.said w.0) q a b) c ws (heard_seen h) own e)

  -- what a finding says was told
  found_told : (x : Read) → command_of f ≡ x → (g : Answer) → h ≡ g → (y : Finding) → found_by (search_of v.trace) (asked_of v.trace) x g ≡ Some y
      → told_so next.told (assigned y).0 (assigned y).1 ≡ true
  found_told read.QueryShort is (answer.Byte b) heard_is y e = go (short_of b) refl e where
    go : (o : Option ℕ) → short_of b ≡ o → option_map (λ a. Queried a (value_of (search_of v.trace))) o ≡ Some y
        → told_so next.told (assigned y).0 (assigned y).1 ≡ true
    go None short e = absurd (cc)
    go (Some a) short e = subst (λ z. told_so next.told (assigned z).0 (assigned z).1 ≡ true) (some_is e)
        (both (below_by a 64 (short_small b a short)) (both (each High) (both (each Middle) (each Low)))) where
          each : (q : Part) → next.told q a (byte q (value_of (search_of v.trace))) ≡ true
          each q = tell q a (byte q (value_of (search_of v.trace)))
              (subst (λ x. tells (command_seen x) (heard_seen h) (s.said c) q a (byte q (value_of (search_of v.trace))) ≡ true) (sym is)
              (subst (λ g. tells QueryShort (heard_seen g) (s.said c) q a (byte q (value_of (search_of v.trace))) ≡ true) (sym heard_is)
              (query_tells v.kept.block v.kept.reserved v.trace f s c sees.list.0 b a q lawful sees.list.1 sees.to is short)))
  found_told (read.RandomByte a asked.Low) is (answer.Byte b) heard_is y e = go (asked_of v.trace) sees.asked e where
    small : a < 64
    small = subst IsSpelled is (read_spelled f)

    low : next.told Low a b ≡ true
    low = tell Low a b (subst (λ x. tells (command_seen x) (heard_seen h) (s.said c) Low a b ≡ true) (sym is)
        (subst (λ g. tells (QueryRandom a Low) (heard_seen g) (s.said c) Low a b ≡ true) (sym heard_is) (both (equals a a refl) (equals b b refl))))

    go : (q : Asked) → AskedSo s.told q → spelled_by a b q ≡ Some y → told_so next.told (assigned y).0 (assigned y).1 ≡ true
    go (two_bytes d high middle) old e = by (d == a) refl e where
      by : (t : Bool) → (d == a) ≡ t → (if t then Some (Resolved a (number_of high middle b)) else None) ≡ Some y
          → told_so next.told (assigned y).0 (assigned y).1 ≡ true
      by false is e = absurd (cc)
      by true same e = subst (λ z. told_so next.told (assigned z).0 (assigned z).1 ≡ true) (some_is e)
          (bytes_tell p next (goes p s (Sent (command_seen (command_of f)) ws reach) safe allow).safe a high middle b small
          (more High a high (ap (λ k. s.told High k high) (sym (equal d a same)) ∙ old.0))
          (more Middle a middle (ap (λ k. s.told Middle k middle) (sym (equal d a same)) ∙ old.1)) low)
    go _ old e = absurd (cc)
  found_told _ is _ heard_is y e = absurd (cc)

  abbrev entry : Entry
  entry = record { frame = f; heard = h }

  pub puts : Sees next c (own_after v (Puts f h))
  puts = record {
    list = (
      sees.list.0,
      ap (λ o. list_after (command_seen (command_of f)) o (s.said c)) own ∙ ap (λ said. (command_seen (command_of f), heard_seen h) ∷ said) sees.list.1
          ∙ ap (λ said. said ++ sees.list.0) (sym (said_more [] v.trace entry)),
    );
    to = sees.to;
    from = sees.from;
    asked = subst (AskedSo next.told) (sym (asked_more v.trace entry))
        (asked_next s.told next.told (s.said c) (command_of f) h (asked_of v.trace) more tell sees.asked);
    told = go (found_by (search_of v.trace) (asked_of v.trace) (command_of f) h) refl;
  } where
    old : (x : Assignment) → Has v.told x → told_so next.told x.0 x.1 ≡ true
    old x has = told_further s.told next.told more x.0 x.1 (sees.told x has)

    go : (o : Option Finding) → found_by (search_of v.trace) (asked_of v.trace) (command_of f) h ≡ o → (x : Assignment) → Has (told_more o v.told) x
        → told_so next.told x.0 x.1 ≡ true
    go None is x has = old x has
    go (Some y) is x (inl same) = subst (λ z. told_so next.told z.0 z.1 ≡ true) same (found_told (command_of f) refl h refl y is)
    go (Some y) is x (inr has) = old x has

-- ---------------------------------------------------------------- a record

pub filtered : (test : Assignment → Bool) (xs : List Assignment) (x : Assignment) → Has (filter test xs) x → Has xs x × (test x ≡ true)
filtered test [] x h = elim h [ ]
filtered test (y ∷ ys) x h = go (test y) refl (filtered test ys x) h where
  go : (b : Bool) → test y ≡ b → (Has (filter test ys) x → Has ys x × (test x ≡ true)) → Has (if b then y ∷ filter test ys else filter test ys) x
      → Has (y ∷ ys) x × (test x ≡ true)
  go true is later (inl same) = (inl same, ap test (sym same) ∙ is)
  go true is later (inr more) = let rest = later more in (inr rest.0, rest.1)
  go false is later more = let rest = later more in (inr rest.0, rest.1)

unfiltered : (test : Assignment → Bool) (xs : List Assignment) (x : Assignment) → Has xs x → test x ≡ true → Has (filter test xs) x
unfiltered test [] x h is = elim h [ ]
unfiltered test (y ∷ ys) x (inl same) is = subst (λ b. Has (if b then y ∷ filter test ys else filter test ys) x) (sym (ap test same ∙ is)) (inl same)
unfiltered test (y ∷ ys) x (inr more) is = go (test y) (unfiltered test ys x more is) where
  go : (b : Bool) → Has (filter test ys) x → Has (if b then y ∷ filter test ys else filter test ys) x
  go true h = inr h
  go false h = h

abbrev HasPair : List Assignment → ℕ → ℕ → Type 0
HasPair xs a r = Has xs (a, r)

pub another : (d c : ℕ) → (d ≡ c → ⊥) → (c == d) ≡ false
another d c other = go (c == d) refl where
  go : (b : Bool) → (c == d) ≡ b → b ≡ false
  go true e = absurd (other (sym (equal c d e)))
  go false e = refl

module _ (p : Plan) (s : Site) (c : ℕ) (v : Own) (sees : Sees s c v) where
  self : (c == c) ≡ true
  self = equals c c refl

  pub reserved_by_it : (a r : ℕ) → (HasAddress v.kept.reserved a → ⊥) → Sees (happens s (Reserves c a r)) c (own_after v (Keeps (record_of.Reserve a r)))
  reserved_by_it a r fresh = record {
    list = sees.list;
    to = λ b n h. to b n (has_either v.kept.reserved ((a, r) ∷ []) (b, n) h);
    from = λ b n e. from b n ((c == c) && (b == a)) refl e;
    asked = sees.asked;
    told = sees.told;
  } where
    to : (b n : ℕ) → HasPair v.kept.reserved b n ⊎ HasPair ((a, r) ∷ []) b n → (if (c == c) && (b == a) then Some r else s.reserved c b) ≡ Some n
    to b n (inl old) = go ((c == c) && (b == a)) refl where
      go : (t : Bool) → ((c == c) && (b == a)) ≡ t → (if t then Some r else s.reserved c b) ≡ Some n
      go true e = absurd (fresh (subst (HasAddress v.kept.reserved) (equal b a (second_of_both _ _ e)) (has_map (λ y. y.0) v.kept.reserved (b, n) old)))
      go false e = sees.to b n old
    to b n (inr (inl same)) = ap (λ t. if t then Some r else s.reserved c b) (both self (equals b a (sym (ap (λ y. y.0) same)))) ∙ ap (λ y. Some y.1) same
    to b n (inr (inr h)) = elim h [ ]

    from : (b n : ℕ) (t : Bool) → ((c == c) && (b == a)) ≡ t → (if t then Some r else s.reserved c b) ≡ Some n → HasPair (v.kept.reserved ++ (a, r) ∷ []) b n
    from b n true e is = has_right v.kept.reserved ((a, r) ∷ []) (b, n)
        (inl (ap (λ y. (y, r)) (sym (equal b a (second_of_both _ _ e))) ∙ ap (λ y. (b, y)) (some_is is)))
    from b n false e is = has_left v.kept.reserved ((a, r) ∷ []) (b, n) (sees.from b n is)

  pub enrolled_by_it : (a r : ℕ) → Sees (happens s (Enrols c a r)) c (own_after v (Keeps (record_of.Enrol a r)))
  enrolled_by_it a r = record { list = sees.list; to = sees.to; from = sees.from; asked = sees.asked; told = sees.told }

  pub released_by_it : (a r b : ℕ) → Has v.kept.reserved (a, r) → Sees (happens s (Releases c a r b)) c (own_after v (Keeps (record_of.Release a r)))
  released_by_it a r b has = record {
    list = sees.list;
    to = λ d n h. to d n (filtered (λ y. not (is_pair (a, r) y)) v.kept.reserved (d, n) h);
    from = λ d n e. from d n ((c == c) && (d == a)) refl e;
    asked = sees.asked;
    told = sees.told;
  } where
    to : (d n : ℕ) → HasPair v.kept.reserved d n × (not (is_pair (a, r) (d, n)) ≡ true) → (if (c == c) && (d == a) then None else s.reserved c d) ≡ Some n
    to d n (old, other) = go ((c == c) && (d == a)) refl where
      go : (t : Bool) → ((c == c) && (d == a)) ≡ t → (if t then None else s.reserved c d) ≡ Some n
      go true e =
          let same : d ≡ a = equal d a (second_of_both _ _ e) in
          let number : n ≡ r = some_is (sym (sees.to d n old) ∙ ap (s.reserved c) same ∙ sees.to a r has) in
          absurd (not_true (is_pair (a, r) (d, n)) other (both (equals d a same) (equals n r number)))
      go false e = sees.to d n old

    from : (d n : ℕ) (t : Bool) → ((c == c) && (d == a)) ≡ t → (if t then None else s.reserved c d) ≡ Some n → HasPair (without_pair (a, r) v.kept.reserved) d n
    from d n true e is = absurd (cc)
    from d n false e is = unfiltered (λ y. not (is_pair (a, r) y)) v.kept.reserved (d, n) (sees.from d n is)
        (ap (λ t. not (t && (n == r))) (sym (ap (λ t. t && (d == a)) self) ∙ e))

  -- a record of another sender
  pub reserved_by_other : (d a r : ℕ) → (d ≡ c → ⊥) → Sees (happens s (Reserves d a r)) c v
  reserved_by_other d a r other = record {
    list = sees.list;
    to = λ b n h. ap (λ t. if t && (b == a) then Some r else s.reserved c b) (another d c other) ∙ sees.to b n h;
    from = λ b n e. sees.from b n (sym (ap (λ t. if t && (b == a) then Some r else s.reserved c b) (another d c other)) ∙ e);
    asked = sees.asked;
    told = sees.told;
  }

  pub enrolled_by_other : (d a r : ℕ) → Sees (happens s (Enrols d a r)) c v
  enrolled_by_other d a r = record { list = sees.list; to = sees.to; from = sees.from; asked = sees.asked; told = sees.told }

  pub released_by_other : (d a r b : ℕ) → (d ≡ c → ⊥) → Sees (happens s (Releases d a r b)) c v
  released_by_other d a r b other = record {
    list = sees.list;
    to = λ e n h. ap (λ t. if t && (e == a) then None else s.reserved c e) (another d c other) ∙ sees.to e n h;
    from = λ e n is. sees.from e n (sym (ap (λ t. if t && (e == a) then None else s.reserved c e) (another d c other)) ∙ is);
    asked = sees.asked;
    told = sees.told;
  }

  -- ---------------------------------------------------------------- its records keep the rules

  free_of : (a : ℕ) → (HasAddress v.kept.reserved a → ⊥) → (o : Option ℕ) → s.reserved c a ≡ o → is_none o ≡ true
  free_of a fresh None is = refl
  free_of a fresh (Some n) is = absurd (fresh (has_map (λ y. y.0) v.kept.reserved (a, n) (sees.from a n is)))

  pub may_reserve : (a r : ℕ) → p.block a ≡ c → a < 64 → r < 0xFFFFFF → (HasAddress v.kept.reserved a → ⊥)
      → not (list_any (λ g. holds a g.short) p.gear) ≡ true → allowed p s (Reserves c a r) ≡ true
  may_reserve a r block small below fresh unused =
      both (equals (p.block a) c block) (both (below_by a 64 small) (both (free_of a fresh (s.reserved c a) refl) (both unused (below_by r 0xFFFFFF below))))

  pub may_enrol : (a r : ℕ) → Has v.told (a, r) → allowed p s (Enrols c a r) ≡ true
  may_enrol a r has = sees.told (a, r) has

  pub may_release : (a r b : ℕ) → Has v.kept.reserved (a, r) → Has v.told (b, r) → (b ≡ a → ⊥) → allowed p s (Releases c a r b) ≡ true
  may_release a r b has told other = both (holds_by r (s.reserved c a) (sees.to a r has)) (both (sees.told (b, r) told) (go (a == b) refl)) where
    go : (t : Bool) → (a == b) ≡ t → not t ≡ true
    go true e = absurd (other (sym (equal a b e)))
    go false e = refl
