use Rattle.std.proofs.Common.{◌≡◌, inl, inr, ℕ, zero, suc, ◌<◌, Bool, true, false, refl, sym, ap, subst, ◌∙◌, List, [], ◌∷◌, ◌++◌, Option, Some, None, ◌==◌}
use Rattle.std.{proofs.Common.{◌&&◌, ◌||◌, if◌then◌else◌, slice_get}, specs.{List.list_all, Prelude.is_some}}
use Rattle.dali_script.specs.{Records.{Assignment, Has, InBlock}, Findings.asked_of, declared.records.Record.Record}
use Rattle.dali_statement.proofs.{Tests.{both, first_of_both, second_of_both, first_of_either, equals, some_is, all_by, all_at}, Own.{AskedSo, Sees, may_put}}
use Rattle.dali_statement.proofs.Own.{forgets, emptied, puts, reserved_by_it, enrolled_by_it, released_by_it, reserved_by_other, enrolled_by_other}
use Rattle.dali_statement.{proofs.{Own.{released_by_other, may_reserve, may_enrol, may_release}, Steps.Safe, Whole.{goes, starts}}, specs.Page.{Command, Heard}}
use Rattle.dali_statement.specs.Page.{Moment, Sent, Destroyed, Reserves, Enrols, Releases, Power, Expires, Plan, Site, start, heard_by, happens, hears}
use Rattle.dali_statement.specs.{Page.{are_apart, may_send, allowed, IsPlan, all_allowed, IsHistory}, Scripts.said_of, Own.{Own, Act, Puts, Loses, Begins}}
use Rattle.dali_statement.specs.Own.{Keeps, own_after, own_all, IsOwn, AreOwn, IsSender, IsLoser, IsKeeper, IsShown, AreBegins, Follows, IsProgram}
use Rattle.dali_statement.specs.Own.{rest_allowed, rest_all_allowed}
use Rattle.dali_script.specs.declared.records.Record.TheVariants as record_of

-- PROGRAMS ON ONE BUS, with other senders that keep the rules: what happens is a history.

-- ---------------------------------------------------------------- acts

own_front : (v : Own) (now later : List Act) → AreOwn v (now ++ later) → AreOwn v now
own_front v [] later own = tt
own_front v (a ∷ now) later own = (own.0, own_front (own_after v a) now later own.1)

own_rest : (v : Own) (now later : List Act) → AreOwn v (now ++ later) → AreOwn (own_all v now) later
own_rest v [] later own = own
own_rest v (a ∷ now) later own = own_rest (own_after v a) now later own.1

block_after : (v : Own) (a : Act) → (own_after v a).kept.block ≡ v.kept.block
block_after v (Keeps (record_of.Reserve a r)) = refl
block_after v _ = refl

block_all : (v : Own) (acts : List Act) → (own_all v acts).kept.block ≡ v.kept.block
block_all v [] = refl
block_all v (a ∷ acts) = block_all (own_after v a) acts ∙ block_after v a

begun : (s : Site) (c : ℕ) (v : Own) (acts : List Act) → AreBegins acts → Sees s c v → Sees s c (own_all v acts)
begun s c v [] are sees = sees
begun s c v (Begins ∷ acts) are sees = begun s c (own_after v Begins) acts are (forgets s c v sees)
begun s c v _ are sees = elim are [ ]

-- ---------------------------------------------------------------- a program's part

pub record Part (p : Plan) (s : Site) (c : ℕ) (ms : List Moment) : Type 0 where
  pub view : Own
  pub acts : List Act
  pub sees : Sees s c view
  pub block : (a : ℕ) → InBlock view.kept.block a → (p.block a ≡ c) × (a < 64)
  pub own : AreOwn view acts
  pub follows : Follows c view acts ms

-- what it does now, and later
record Ready (p : Plan) (s : Site) (c : ℕ) (m : Moment) (ms : List Moment) : Type 0 where
  pub view : Own
  pub now : List Act
  pub later : List Act
  pub sees : Sees s c view
  pub block : (a : ℕ) → InBlock view.kept.block a → (p.block a ≡ c) × (a < 64)
  pub own : AreOwn view (now ++ later)
  pub shown : IsShown c view now m
  pub follows : Follows c (own_all view now) later ms

ready : (p : Plan) (s : Site) (c : ℕ) (m : Moment) (ms : List Moment) → Part p s c (m ∷ ms) → Ready p s c m ms
ready p s c m ms part =
    let follows = part.follows in
    let begins = follows.0 in record {
      view = own_all part.view begins;
      now = follows.1;
      later = follows.2;
      sees = begun s c part.view begins follows.4 part.sees;
      block = λ a within. part.block a (subst (λ b. InBlock b a) (block_all part.view begins) within);
      own = own_rest part.view begins (follows.1 ++ follows.2) (subst (AreOwn part.view) follows.3 part.own);
      shown = follows.5;
      follows = follows.6;
    }

-- what a program does at this moment is its own act
act_of : (p : Plan) (s : Site) (c : ℕ) (m : Moment) (ms : List Moment) (one : Ready p s c m ms) (a : Act) → one.now ≡ a ∷ [] → IsOwn one.view a
act_of p s c m ms one a e = let own : AreOwn one.view (a ∷ []) = subst (AreOwn one.view) e (own_front one.view one.now one.later one.own) in own.0

-- it may send, if it is a sender
sender_may : (p : Plan) (s : Site) (c : ℕ) (x : Command) (ws : List (ℕ × Heard)) (reach : List (Option ℕ)) (ms : List Moment)
    → Ready p s c (Sent x ws reach) ms → (h : Heard) → heard_by c ws ≡ Some h → may_send s c x ≡ true
sender_may p s c x ws reach ms one h heard =
    let shown : IsSender one.view one.now x (Some h) = subst (λ o. IsSender one.view one.now x o) heard one.shown in
    subst (λ y. may_send s c y ≡ true) (sym shown.3)
    (may_put s c one.view shown.0 one.sees (act_of p s c (Sent x ws reach) ms one (Puts shown.0 shown.1) shown.2))

loser_may : (p : Plan) (s : Site) (c : ℕ) (frames : List (ℕ × Command)) (reach : List (Option (ℕ × ℕ))) (ms : List Moment)
    → Ready p s c (Destroyed frames reach) ms → (k : ℕ) (x : Command) → slice_get frames k ≡ Some (c, x) → may_send s c x ≡ true
loser_may p s c frames reach ms one k x at = go one one.shown where
  go : (one : Ready p s c (Destroyed frames reach) ms) → IsLoser c one.view one.now frames → may_send s c x ≡ true
  go one (inl none) = absurd (none.2 k x at)
  go one (inr some) = subst (λ y. may_send s c y ≡ true) (sym (some.2 k x at))
      (may_put s c one.view some.0 one.sees (act_of p s c (Destroyed frames reach) ms one (Loses some.0) some.1))

-- a record of its own is one that it kept
keeps_own : (p : Plan) (s : Site) (c : ℕ) (m : Moment) (ms : List Moment) (one : Ready p s c m ms) (x : Record) → IsKeeper c c one.now x
    → IsOwn one.view (Keeps x)
keeps_own p s c m ms one x (inl kept) = act_of p s c m ms one (Keeps x) kept.1
keeps_own p s c m ms one x (inr other) = absurd (other.0 refl)

-- ---------------------------------------------------------------- a moment is allowed

heard_there : (c : ℕ) (ws : List (ℕ × Heard)) (i : ℕ) (w : ℕ × Heard) → slice_get ws i ≡ Some w → w.0 ≡ c → (h : Heard) × (heard_by c ws ≡ Some h)
heard_there c [] i w at is = absurd (cc)
heard_there c (u ∷ ws) zero w at is = (u.1, ap (λ t. if t then Some u.1 else heard_by c ws) (equals u.0 c (ap (λ k. k.0) (some_is at) ∙ is)))
heard_there c (u ∷ ws) (suc i) w at is = go (u.0 == c) refl (heard_there c ws i w at is) where
  go : (t : Bool) → (u.0 == c) ≡ t → (h : Heard) × (heard_by c ws ≡ Some h) → (h : Heard) × ((if u.0 == c then Some u.1 else heard_by c ws) ≡ Some h)
  go true e later = (u.1, ap (λ t. if t then Some u.1 else heard_by c ws) e)
  go false e later = (later.0, ap (λ t. if t then Some u.1 else heard_by c ws) e ∙ later.1)

if_ours : (o : Bool) (b : Bool) → (o || b) ≡ true → (o ≡ true → b ≡ true) → b ≡ true
if_ours true b e own = own refl
if_ours false b e own = e

is_allowed : (p : Plan) (s : Site) (ours : ℕ → Bool) (m : Moment) (ms : List Moment) → ((c : ℕ) → ours c ≡ true → Part p s c (m ∷ ms))
    → rest_allowed p ours s m ≡ true → allowed p s m ≡ true
is_allowed p s ours (Sent x ws reach) ms parts rest =
    both (first_of_both (is_some (slice_get ws 0)) (list_all (λ w. (ours w.0 || may_send s w.0 x) && hears x w.1 s.gear) ws) rest)
    (all_by (λ w. may_send s w.0 x && hears x w.1 s.gear) ws each) where
      each : (i : ℕ) (w : ℕ × Heard) → slice_get ws i ≡ Some w → (may_send s w.0 x && hears x w.1 s.gear) ≡ true
      each i w at =
          let one = all_at (λ w. (ours w.0 || may_send s w.0 x) && hears x w.1 s.gear) ws i w
          (second_of_both (is_some (slice_get ws 0)) (list_all (λ w. (ours w.0 || may_send s w.0 x) && hears x w.1 s.gear) ws) rest) at in
          let heard = heard_there w.0 ws i w at refl in
          both (if_ours (ours w.0) (may_send s w.0 x) (first_of_both (ours w.0 || may_send s w.0 x) (hears x w.1 s.gear) one)
          (λ own. sender_may p s w.0 x ws reach ms (ready p s w.0 (Sent x ws reach) ms (parts w.0 own)) heard.0 heard.1))
          (second_of_both (ours w.0 || may_send s w.0 x) (hears x w.1 s.gear) one)
is_allowed p s ours (Destroyed frames reach) ms parts rest = all_by (λ f. may_send s f.0 f.1) frames each where
  each : (i : ℕ) (f : ℕ × Command) → slice_get frames i ≡ Some f → may_send s f.0 f.1 ≡ true
  each i f at = if_ours (ours f.0) (may_send s f.0 f.1) (all_at (λ f. ours f.0 || may_send s f.0 f.1) frames i f rest at)
      (λ own. loser_may p s f.0 frames reach ms (ready p s f.0 (Destroyed frames reach) ms (parts f.0 own)) i f.1 at)
is_allowed p s ours (Reserves c a r) ms parts rest = if_ours (ours c) (allowed p s (Reserves c a r)) (second_of_both _ _ rest) by where
  by : ours c ≡ true → allowed p s (Reserves c a r) ≡ true
  by own =
      let part = ready p s c (Reserves c a r) ms (parts c own) in
      let kept = keeps_own p s c (Reserves c a r) ms part (record_of.Reserve a r) part.shown in
      let block = part.block a kept.0 in
      may_reserve p s c part.view part.sees a r block.0 block.1 kept.1 kept.2 (first_of_both _ _ rest)
is_allowed p s ours (Enrols c a r) ms parts rest = if_ours (ours c) (allowed p s (Enrols c a r)) rest by where
  by : ours c ≡ true → allowed p s (Enrols c a r) ≡ true
  by own =
      let part = ready p s c (Enrols c a r) ms (parts c own) in
      may_enrol p s c part.view part.sees a r (keeps_own p s c (Enrols c a r) ms part (record_of.Enrol a r) part.shown)
is_allowed p s ours (Releases c a r b) ms parts rest = if_ours (ours c) (allowed p s (Releases c a r b)) rest by where
  by : ours c ≡ true → allowed p s (Releases c a r b) ≡ true
  by own =
      let part = ready p s c (Releases c a r b) ms (parts c own) in
      let kept = keeps_own p s c (Releases c a r b) ms part (record_of.Release a r) part.shown.0 in
      let told = part.shown.1 refl in
      may_release p s c part.view part.sees a r b kept.0 told.0 told.1
is_allowed p s ours _ ms parts rest = refl

-- ---------------------------------------------------------------- and then

goes_on : (p : Plan) (s : Site) (c : ℕ) (m : Moment) (ms : List Moment) (one : Ready p s c m ms) → Sees (happens s m) c (own_all one.view one.now)
    → Part p (happens s m) c ms
goes_on p s c m ms one sees = record {
  view = own_all one.view one.now;
  acts = one.later;
  sees = sees;
  block = λ a within. one.block a (subst (λ b. InBlock b a) (block_all one.view one.now) within);
  own = own_rest one.view one.now one.later one.own;
  follows = one.follows;
}

module _ (p : Plan) (s : Site) (c : ℕ) (safe : Safe p s) (ms : List Moment) where
  front_of : (v : Own) (now later : List Act) (a : Act) → AreOwn v (now ++ later) → now ≡ a ∷ [] → IsOwn v a
  front_of v now later a own e = let one : AreOwn v (a ∷ []) = subst (AreOwn v) e (own_front v now later own) in one.0

  seen_then : (m : Moment) (v : Own) (now later : List Act) → Sees s c v → AreOwn v (now ++ later) → (are_apart s.gear && allowed p s m) ≡ true
      → IsShown c v now m → Sees (happens s m) c (own_all v now)
  seen_then (Sent x ws reach) v now later sees own allow shown = go (heard_by c ws) refl shown where
    go : (o : Option Heard) → heard_by c ws ≡ o → IsSender v now x o → Sees (happens s (Sent x ws reach)) c (own_all v now)
    go None e is = subst (λ n. Sees (happens s (Sent x ws reach)) c (own_all v n)) (sym is.0)
        (emptied s (happens s (Sent x ws reach)) c v is.1 refl (λ q a b told. first_of_either (s.told q a b) _ told) sees)
    go (Some h) e is = subst (λ n. Sees (happens s (Sent x ws reach)) c (own_all v n)) (sym is.2)
        (subst (λ y. Sees (happens s (Sent y ws reach)) c (own_after v (Puts is.0 is.1))) (sym is.3)
        (puts p s c v sees safe is.0 is.1 ws reach (front_of v now later (Puts is.0 is.1) own is.2) (e ∙ ap (λ k. Some k) is.4)
        (subst (λ y. (are_apart s.gear && allowed p s (Sent y ws reach)) ≡ true) is.3 allow)))
  seen_then (Destroyed frames reach) v now later sees own allow shown = go shown where
    go : IsLoser c v now frames → Sees (happens s (Destroyed frames reach)) c (own_all v now)
    go (inl none) = subst (λ n. Sees (happens s (Destroyed frames reach)) c (own_all v n)) (sym none.0)
        (emptied s (happens s (Destroyed frames reach)) c v none.1 refl (λ q a b told. told) sees)
    go (inr some) = subst (λ n. Sees (happens s (Destroyed frames reach)) c (own_all v n)) (sym some.1)
        (emptied s (happens s (Destroyed frames reach)) c (own_after v (Loses some.0)) refl refl (λ q a b told. told) (forgets s c v sees))
  seen_then (Reserves d a r) v now later sees own allow shown = go shown where
    go : IsKeeper c d now (record_of.Reserve a r) → Sees (happens s (Reserves d a r)) c (own_all v now)
    go (inl kept) = subst (λ n. Sees (happens s (Reserves d a r)) c (own_all v n)) (sym kept.1)
        (subst (λ k. Sees (happens s (Reserves k a r)) c (own_after v (Keeps (record_of.Reserve a r)))) (sym kept.0)
        (reserved_by_it p s c v sees a r (front_of v now later (Keeps (record_of.Reserve a r)) own kept.1).2))
    go (inr other) = subst (λ n. Sees (happens s (Reserves d a r)) c (own_all v n)) (sym other.1) (reserved_by_other p s c v sees d a r other.0)
  seen_then (Enrols d a r) v now later sees own allow shown = go shown where
    go : IsKeeper c d now (record_of.Enrol a r) → Sees (happens s (Enrols d a r)) c (own_all v now)
    go (inl kept) = subst (λ n. Sees (happens s (Enrols d a r)) c (own_all v n)) (sym kept.1)
        (subst (λ k. Sees (happens s (Enrols k a r)) c (own_after v (Keeps (record_of.Enrol a r)))) (sym kept.0) (enrolled_by_it p s c v sees a r))
    go (inr other) = subst (λ n. Sees (happens s (Enrols d a r)) c (own_all v n)) (sym other.1) (enrolled_by_other p s c v sees d a r)
  seen_then (Releases d a r b) v now later sees own allow shown = go shown.0 where
    go : IsKeeper c d now (record_of.Release a r) → Sees (happens s (Releases d a r b)) c (own_all v now)
    go (inl kept) = subst (λ n. Sees (happens s (Releases d a r b)) c (own_all v n)) (sym kept.1)
        (subst (λ k. Sees (happens s (Releases k a r b)) c (own_after v (Keeps (record_of.Release a r)))) (sym kept.0)
        (released_by_it p s c v sees a r b (front_of v now later (Keeps (record_of.Release a r)) own kept.1).0))
    go (inr other) = subst (λ n. Sees (happens s (Releases d a r b)) c (own_all v n)) (sym other.1) (released_by_other p s c v sees d a r b other.0)
  seen_then (Power reach) v now later sees own allow shown =
      subst (λ n. Sees (happens s (Power reach)) c (own_all v n)) (sym shown)
      (record { list = sees.list; to = sees.to; from = sees.from; asked = sees.asked; told = sees.told })
  seen_then (Expires reach) v now later sees own allow shown =
      subst (λ n. Sees (happens s (Expires reach)) c (own_all v n)) (sym shown)
      (record { list = sees.list; to = sees.to; from = sees.from; asked = sees.asked; told = sees.told })

-- ---------------------------------------------------------------- all moments

all_keep : (p : Plan) (ours : ℕ → Bool) (ms : List Moment) (s : Site) → Safe p s → ((c : ℕ) → ours c ≡ true → Part p s c ms)
    → rest_all_allowed p ours s ms ≡ true → all_allowed p s ms ≡ true
all_keep p ours [] s safe parts rest = refl
all_keep p ours (m ∷ ms) s safe parts rest =
    let here = first_of_both (are_apart s.gear && rest_allowed p ours s m) (rest_all_allowed p ours (happens s m) ms) rest in
    let allow : (are_apart s.gear && allowed p s m) ≡ true =
    both (first_of_both _ _ here) (is_allowed p s ours m ms parts (second_of_both (are_apart s.gear) (rest_allowed p ours s m) here)) in
    both allow (all_keep p ours ms (happens s m) (goes p s m safe allow).safe
    (λ c own. let one = ready p s c m ms (parts c own) in
    goes_on p s c m ms one (seen_then p s c safe ms m one.view one.now one.later one.sees one.own allow one.shown))
    (second_of_both (are_apart s.gear && rest_allowed p ours s m) (rest_all_allowed p ours (happens s m) ms) rest))

pub programs_make_a_history : (p : Plan) (ours : ℕ → Bool) (own : ℕ → Own) (acts : ℕ → List Act) (ms : List Moment) → IsPlan p
    → ((c : ℕ) → ours c ≡ true → IsProgram p c (own c) (acts c) ms) → rest_all_allowed p ours (start p) ms ≡ true → IsHistory p ms
programs_make_a_history p ours own acts ms plan programs rest = (plan, all_keep p ours ms (start p) (starts p plan) part rest) where
  untold : (xs : List Assignment) (x : Assignment) → xs ≡ [] → Has xs x → ⊥
  untold xs x e h = let no : Has [] x = subst (λ ys. Has ys x) e h in elim no [ ]

  part : (c : ℕ) → ours c ≡ true → Part p (start p) c ms
  part c is = let one = programs c is in record {
    view = own c;
    acts = acts c;
    sees = record {
      list = ([], ap (λ t. said_of t ++ []) (sym one.idle));
      to = λ a r h. (one.reserved a r).0 h;
      from = λ a r e. (one.reserved a r).1 e;
      asked = subst (λ t. AskedSo (start p).told (asked_of t)) (sym one.idle) tt;
      told = λ x h. absurd (untold (own c).told x one.untold h);
    };
    block = one.block;
    own = one.own;
    follows = one.follows;
  }
