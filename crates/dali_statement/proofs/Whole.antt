use Rattle.std.proofs.Common.{◌≡◌, ◌⊎◌, inl, inr, ℕ, ◌<◌, Bool, true, false, refl, sym, ap, subst, ◌∙◌, List, [], ◌∷◌, ◌++◌, Option, Some, None, ◌==◌, ◌&&◌}
use Rattle.std.{proofs.Common.{◌||◌, not, nat_lt, if◌then◌else◌, is_none, slice_get}, specs.{Prelude.{unwrap_or, is_some}, List.{list_any, list_all}}}
use Rattle.dali_statement.proofs.Tests.{both, first_of_both, second_of_both, either, equal, equals, below, some_is, holds_is, holds_by, any_at, any_by, all_at}
use Rattle.dali_statement.proofs.{Tests.{differ_at, not_true}, Moved.{At, Becomes, befallen, befalling}, One.{Knows, knows_nothing}, Records.{enrols, reserves}}
use Rattle.dali_statement.proofs.{Records.releases, Sound.{Sound, Moves, sound_after, one_at, apart_at}, Steps.{Safe, frame_moves, frame_knows}}
use Rattle.dali_statement.{proofs.Steps.{destroyed_moves, told_true, told_gear}, specs.Page.{Part, byte, Command, Gear, holds, Heard, Moment, Sent, Destroyed}}
use Rattle.dali_statement.specs.Page.{Reserves, Enrols, Releases, Power, Expires, Plan, Site, start, is_told, tells, befalls, gear_after, heard_by, list_after}
use Rattle.dali_statement.specs.Page.{happens, hears, are_apart, may_send, allowed, IsPlan, after, all_allowed, IsHistory, KeepsNow, KeepsAddresses}
use Rattle.dali_statement.specs.Page.{KeepsPromise}

-- EVERY HISTORY KEEPS THE PROMISE.

no_moves : (s : Site) → Moves s.reserved s.gear s.gear
no_moves s = record { to = λ g a x at is. (x, at, is, refl); from = λ g a y at is. (y, at, refl, inl is) }

-- ---------------------------------------------------------------- power, and the end of the initialisation

-- gear that are live no more, and keep both addresses
record Stops (change : ℕ → Gear → Gear) : Type 0 where
  pub live : (n : ℕ) (x : Gear) → (change n x).live ≡ false
  pub short : (n : ℕ) (x : Gear) → (change n x).short ≡ x.short
  pub random : (n : ℕ) (x : Gear) → (change n x).random ≡ x.random

module _ (p : Plan) (s : Site) (safe : Safe p s) (change : ℕ → Gear → Gear) (stops : Stops change) (reach : List (Option ℕ)) where
  stop_moves : Moves s.reserved s.gear (befalls change reach s.gear)
  stop_moves = record {
    to = λ g a x at is. let now = befalling change reach s.gear g x at in let now_is = to x now.0 now.2 in (now.0, now.1, now_is.0 ∙ is, now_is.1);
    from = λ g a y at is. let was = befallen change reach s.gear g y at in let now_is = to was.0 y was.2 in (was.0, was.1, now_is.1, inl (sym now_is.0 ∙ is));
  } where
    to : (x y : Gear) → Becomes change x y → (y.short ≡ x.short) × (y.random ≡ x.random)
    to x y (inl same) = (ap (λ z. z.short) same, ap (λ z. z.random) same)
    to x y (inr took) = (ap (λ z. z.short) took.1 ∙ stops.short took.0 x, ap (λ z. z.random) took.1 ∙ stops.random took.0 x)

  stop_knows : (c g : ℕ) (y : Gear) → At (befalls change reach s.gear) g y → Knows (s.said c) y
  stop_knows c g y at = let was = befallen change reach s.gear g y at in go was.0 was.1 was.2 where
    off : y.live ≡ false → Knows (s.said c) y
    off dark = record {
      bytes = λ q v e live. absurd (never live);
      vacant = λ r e sent few live is. absurd (never live);
      opened = λ e live. absurd (never live);
    } where
      never : y.live ≡ true → ⊥
      never live = let no : false ≡ true = sym dark ∙ live in absurd (cc)

    go : (x : Gear) → At s.gear g x → Becomes change x y → Knows (s.said c) y
    go x there (inl same) = subst (λ z. Knows (s.said c) z) (sym same) (safe.knows c g x there)
    go x there (inr took) = off (ap (λ z. z.live) took.1 ∙ stops.live took.0 x)

-- ---------------------------------------------------------------- each moment

-- what is safe, and each gear keeps what it has
pub record Goes (p : Plan) (s : Site) (t : Site) : Type 0 where
  pub safe : Safe p t
  pub moves : Moves s.reserved s.gear t.gear

-- what a sender heard is one of what all heard
heard_at : (test : ℕ × Heard → Bool) (c : ℕ) (ws : List (ℕ × Heard)) (h : Heard) → list_all test ws ≡ true → heard_by c ws ≡ Some h → test (c, h) ≡ true
heard_at test c [] h all e = absurd (cc)
heard_at test c (w ∷ ws) h all e = go (w.0 == c) refl e (heard_at test c ws h (second_of_both (test w) (list_all test ws) all)) where
  go : (t : Bool) → (w.0 == c) ≡ t → (if t then Some w.1 else heard_by c ws) ≡ Some h → (heard_by c ws ≡ Some h → test (c, h) ≡ true) → test (c, h) ≡ true
  go true same e later =
      ap (λ k. test (k, h)) (sym (equal w.0 c same)) ∙ ap (λ k. test (w.0, k)) (sym (some_is e)) ∙ first_of_both (test w) (list_all test ws) all
  go false other e later = later e

module _ (p : Plan) (s : Site) (m : Command) (ws : List (ℕ × Heard)) (reach : List (Option ℕ)) (safe : Safe p s) (apart : are_apart s.gear ≡ true)
    (allow : allowed p s (Sent m ws reach) ≡ true) where
  all : list_all (λ w. may_send s w.0 m && hears m w.1 s.gear) ws ≡ true
  all = second_of_both (is_some (slice_get ws 0)) (list_all (λ w. may_send s w.0 m && hears m w.1 s.gear) ws) allow

  sender : (c : ℕ) × (may_send s c m ≡ true)
  sender = go (slice_get ws 0) refl (first_of_both (is_some (slice_get ws 0)) (list_all (λ w. may_send s w.0 m && hears m w.1 s.gear) ws) allow) where
    go : (o : Option (ℕ × Heard)) → slice_get ws 0 ≡ o → is_some o ≡ true → (c : ℕ) × (may_send s c m ≡ true)
    go None at e = absurd (cc)
    go (Some w) at e = (w.0, first_of_both _ _ (all_at (λ w. may_send s w.0 m && hears m w.1 s.gear) ws 0 w all at))

  moves : Moves s.reserved s.gear (gear_after (Sent m ws reach) s.gear)
  moves = frame_moves p s safe m ws reach sender.0 sender.1

  now : Sound p (gear_after (Sent m ws reach) s.gear) s.reserved s.enrolled s.told
  now = sound_after p s.gear (gear_after (Sent m ws reach) s.gear) s.reserved s.enrolled s.told apart safe.sound moves

  -- what was told is true of the gear as they are afterwards
  tells_true : (q : Part) (a v : ℕ) → a < 64 → (s.told q a v || list_any (λ w. tells m w.1 (s.said w.0) q a v) ws) ≡ true
      → (g : ℕ) × (x : Gear) × At (gear_after (Sent m ws reach) s.gear) g x × (x.short ≡ Some a) × (byte q x.random ≡ v)
  tells_true q a v small e = go (either (s.told q a v) (list_any (λ w. tells m w.1 (s.said w.0) q a v) ws) e) where
    go : (s.told q a v ≡ true) ⊎ (list_any (λ w. tells m w.1 (s.said w.0) q a v) ws ≡ true)
        → (g : ℕ) × (x : Gear) × At (gear_after (Sent m ws reach) s.gear) g x × (x.short ≡ Some a) × (byte q x.random ≡ v)
    go (inl was) = now.told_of q a v small was
    go (inr new) =
        let any = any_at (λ w. tells m w.1 (s.said w.0) q a v) ws new in
        let w = any.1 in
        let heard = second_of_both _ _ (all_at (λ w. may_send s w.0 m && hears m w.1 s.gear) ws any.0 w all any.2) in
        let told = told_true p s w.0 m w.1 safe heard q a v small any.3 in
        let to = moves.to told.0 a told.1 told.2 told.3 in
        (told.0, to.0, to.1, to.2, ap (byte q) to.3 ∙ told.4)

  knows_then : (c g : ℕ) (y : Gear) → At (gear_after (Sent m ws reach) s.gear) g y → Knows (list_after m (heard_by c ws) (s.said c)) y
  knows_then c g y at = go (heard_by c ws) refl where
    go : (o : Option Heard) → heard_by c ws ≡ o → Knows (list_after m o (s.said c)) y
    go None e = knows_nothing y
    go (Some h) e =
        let both : (may_send s c m && hears m h s.gear) ≡ true = heard_at (λ w. may_send s w.0 m && hears m w.1 s.gear) c ws h all e in
        frame_knows p s safe m ws reach apart c h (first_of_both _ _ both) (second_of_both _ _ both) g y at

  frame_goes : Goes p s (happens s (Sent m ws reach))
  frame_goes = record {
    safe = record {
      sound = record {
        once = now.once;
        short = now.short;
        within = now.within;
        for_gear = now.for_gear;
        owned = now.owned;
        told_of = tells_true;
        tables = now.tables;
      };
      knows = knows_then;
    };
    moves = moves;
  }

destroyed_goes : (p : Plan) (s : Site) (frames : List (ℕ × Command)) (reach : List (Option (ℕ × ℕ))) → Safe p s → are_apart s.gear ≡ true
    → allowed p s (Destroyed frames reach) ≡ true → Goes p s (happens s (Destroyed frames reach))
destroyed_goes p s frames reach safe apart allow =
    let moves = destroyed_moves p s safe frames reach allow in
    record {
      safe = record {
        sound = sound_after p s.gear (gear_after (Destroyed frames reach) s.gear) s.reserved s.enrolled s.told apart safe.sound moves;
        knows = λ c g x at. knows_nothing x;
      };
      moves = moves;
    }

stop_goes : (p : Plan) (s : Site) (change : ℕ → Gear → Gear) → Stops change → (reach : List (Option ℕ)) → Safe p s → are_apart s.gear ≡ true
    → Goes p s (record s { gear = befalls change reach s.gear })
stop_goes p s change stops reach safe apart = record {
  safe = record {
    sound = sound_after p s.gear (befalls change reach s.gear) s.reserved s.enrolled s.told apart safe.sound (stop_moves p s safe change stops reach);
    knows = stop_knows p s safe change stops reach;
  };
  moves = stop_moves p s safe change stops reach;
}

goes_by : (p : Plan) (s : Site) (m : Moment) → Safe p s → are_apart s.gear ≡ true → allowed p s m ≡ true → Goes p s (happens s m)
goes_by p s (Sent m ws reach) safe apart allow = frame_goes p s m ws reach safe apart allow
goes_by p s (Destroyed frames reach) safe apart allow = destroyed_goes p s frames reach safe apart allow
goes_by p s (Reserves c a r) safe apart allow = record { safe = reserves p s safe c a r allow; moves = no_moves s }
goes_by p s (Enrols c a r) safe apart allow = record { safe = enrols p s safe c a r allow; moves = no_moves s }
goes_by p s (Releases c a r b) safe apart allow = record { safe = releases p s safe apart c a r b allow; moves = no_moves s }
goes_by p s (Power reach) safe apart allow = stop_goes p s (λ n g. record g { live = false; search = λ q. 0xFF })
    (record { live = λ n x. refl; short = λ n x. refl; random = λ n x. refl }) reach safe apart
goes_by p s (Expires reach) safe apart allow =
    stop_goes p s (λ n g. record g { live = false }) (record { live = λ n x. refl; short = λ n x. refl; random = λ n x. refl }) reach safe apart

pub goes : (p : Plan) (s : Site) (m : Moment) → Safe p s → (are_apart s.gear && allowed p s m) ≡ true → Goes p s (happens s m)
goes p s m safe allow = goes_by p s m safe (first_of_both (are_apart s.gear) (allowed p s m) allow) (second_of_both (are_apart s.gear) (allowed p s m) allow)

-- ---------------------------------------------------------------- the beginning

pub starts : (p : Plan) → IsPlan p → Safe p (start p)
starts p plan = record {
  sound = record {
    once = λ g h a x y at there is same. differ_at (λ z. z.short) p.gear plan.shorts g h a x y at there is same;
    short = λ g x at a is. below a 64 (ap (λ o. nat_lt (unwrap_or o 0) 64) (sym is) ∙ all_at (λ z. nat_lt (unwrap_or z.short 0) 64) p.gear g x plan.short at);
    within = λ c a r e. let has = plan.reserved c a r e in (has.0, has.1, has.2);
    for_gear = λ c a r g x e at is. for_gear a r x is (all_at (λ z. not (holds a z.short) || (z.random == r)) p.gear g x (plan.reserved c a r e).3 at);
    owned = λ g a x at is. inl (any_by (λ z. holds a z.short) p.gear g x at (holds_by a x.short is));
    told_of = λ q a v small e. absurd (never e);
    tables = λ c a r e. let any = any_at (λ z. holds a z.short && (z.random == r)) p.gear (plan.enrolled c a r e) in
        (any.0, any.1, any.2, holds_is a any.1.short (first_of_both _ _ any.3), equal any.1.random r (second_of_both _ _ any.3));
  };
  knows = λ c g x at. knows_nothing x;
} where
  never : false ≡ true → ⊥
  never e = absurd (cc)

  for_gear : (a r : ℕ) (x : Gear) → x.short ≡ Some a → (not (holds a x.short) || (x.random == r)) ≡ true → x.random ≡ r
  for_gear a r x is e = go (either (not (holds a x.short)) (x.random == r) e) where
    go : (not (holds a x.short) ≡ true) ⊎ ((x.random == r) ≡ true) → x.random ≡ r
    go (inl other) = absurd (not_true (holds a x.short) other (holds_by a x.short is))
    go (inr same) = equal x.random r same

-- ---------------------------------------------------------------- all moments

pub safe_after : (p : Plan) (ms : List Moment) (s : Site) → Safe p s → all_allowed p s ms ≡ true → Safe p (after s ms)
safe_after p [] s safe allow = safe
safe_after p (m ∷ ms) s safe allow = safe_after p ms (happens s m) (goes p s m safe (first_of_both _ _ allow)).safe (second_of_both _ _ allow)

keeps : (s t : Site) → Moves s.reserved s.gear t.gear → KeepsAddresses s t
keeps s t moves g a r held = let to = moves.to g a held.0 held.1 held.2 in (to.0, to.1, to.2, to.3 ∙ held.3)

pub keeps_after : (p : Plan) (ms : List Moment) (s : Site) → Safe p s → all_allowed p s ms ≡ true → KeepsAddresses s (after s ms)
keeps_after p [] s safe allow g a r held = held
keeps_after p (m ∷ ms) s safe allow g a r held =
    let step = goes p s m safe (first_of_both _ _ allow) in
    keeps_after p ms (happens s m) step.safe (second_of_both _ _ allow) g a r (keeps s (happens s m) step.moves g a r held)

-- ---------------------------------------------------------------- reservations

-- nothing is released that is reserved for the number of a gear that has the address in the end
unreleased : (p : Plan) (s : Site) → Safe p s → (c a r b : ℕ) (ms : List Moment) → all_allowed p s (Releases c a r b ∷ ms) ≡ true
    → are_apart (after s (Releases c a r b ∷ ms)).gear ≡ true → (g : ℕ) (x : Gear)
    → s.reserved c a ≡ Some x.random → At (after s (Releases c a r b ∷ ms)).gear g x → x.short ≡ Some a → ⊥
unreleased p s safe c a r b ms allow apart g x is at has =
    let here = first_of_both (are_apart s.gear && allowed p s (Releases c a r b)) (all_allowed p (happens s (Releases c a r b)) ms) allow in
    let may = second_of_both (are_apart s.gear) (allowed p s (Releases c a r b)) here in
    let rest = second_of_both (holds r (s.reserved c a)) (is_told s b r && not (a == b)) may in
    let number : x.random ≡ r =
    some_is (sym is ∙ holds_is r (s.reserved c a) (first_of_both (holds r (s.reserved c a)) (is_told s b r && not (a == b)) may)) in
    let told = told_gear p s safe b r (first_of_both (is_told s b r) (not (a == b)) rest) in
    let later = keeps_after p (Releases c a r b ∷ ms) s safe allow told.0 b r (told.1, told.2, told.3, told.4) in
    let gs : List Gear = (after s (Releases c a r b ∷ ms)).gear in
    let same = apart_at gs g told.0 x later.0 apart at later.1 (number ∙ sym later.3) (safe.sound.within c a x.random is).2 in
    let one = one_at gs told.0 x later.0 (subst (λ k. At gs k x) same at) later.1 in
    not_true (a == b) (second_of_both (is_told s b r) (not (a == b)) rest) (equals a b (some_is (sym has ∙ ap (λ y. y.short) one ∙ later.2)))

none_free : {n : ℕ} (o : Option ℕ) → is_none o ≡ true → o ≡ Some n → ⊥
none_free {n} None e is = absurd (cc)
none_free {n} (Some m) e is = absurd (cc)

pub reserved_after : (p : Plan) (ms : List Moment) (s : Site) → Safe p s → all_allowed p s ms ≡ true
    → are_apart (after s ms).gear ≡ true → (c a g : ℕ) (x : Gear) → s.reserved c a ≡ Some x.random → At (after s ms).gear g x → x.short ≡ Some a
    → (after s ms).reserved c a ≡ Some x.random
reserved_after p [] s safe allow apart c a g x is at has = is
reserved_after p (m ∷ ms) s safe allow apart c a g x is at has =
    reserved_after p ms (happens s m) (goes p s m safe here).safe (second_of_both _ _ allow) apart c a g x
    (one m (second_of_both (are_apart s.gear) (allowed p s m) here) allow apart at) at has where
      here : (are_apart s.gear && allowed p s m) ≡ true
      here = first_of_both _ _ allow

      one : (m : Moment) → allowed p s m ≡ true → all_allowed p s (m ∷ ms) ≡ true → are_apart (after s (m ∷ ms)).gear ≡ true
          → At (after s (m ∷ ms)).gear g x → (happens s m).reserved c a ≡ Some x.random
      one (Reserves d b n) may all apart at = go ((c == d) && (a == b)) refl where
        go : (t : Bool) → ((c == d) && (a == b)) ≡ t → (if t then Some n else s.reserved c a) ≡ Some x.random
        go true e = absurd (
            let free : is_none (s.reserved d b) ≡ true = first_of_both _ _ (second_of_both _ _ (second_of_both _ _ may)) in
            let has_it : s.reserved d b ≡ Some x.random =
            ap (λ k. s.reserved k b) (sym (equal c d (first_of_both _ _ e))) ∙ ap (s.reserved c) (sym (equal a b (second_of_both _ _ e))) ∙ is in
            none_free (s.reserved d b) free has_it)
        go false e = is
      one (Releases d b n e) may all apart at = go ((c == d) && (a == b)) refl where
        go : (t : Bool) → ((c == d) && (a == b)) ≡ t → (if t then None else s.reserved c a) ≡ Some x.random
        go true same =
            let block : d ≡ c = sym (equal c d (first_of_both _ _ same)) in
            let short : b ≡ a = sym (equal a b (second_of_both _ _ same)) in
            absurd (unreleased p s safe d b n e ms all apart g x (ap (λ k. s.reserved k b) block ∙ ap (s.reserved c) short ∙ is) at
            (has ∙ ap (λ k. Some k) (sym short)))
        go false same = is
      one _ may all apart at = is

-- ---------------------------------------------------------------- histories

pub after_both : (ms ns : List Moment) (s : Site) → after s (ms ++ ns) ≡ after (after s ms) ns
after_both [] ns s = refl
after_both (m ∷ ms) ns s = after_both ms ns (happens s m)

pub allowed_front : (p : Plan) (ms ns : List Moment) (s : Site) → all_allowed p s (ms ++ ns) ≡ true → all_allowed p s ms ≡ true
allowed_front p [] ns s allow = refl
allowed_front p (m ∷ ms) ns s allow = both (first_of_both _ _ allow) (allowed_front p ms ns (happens s m) (second_of_both _ _ allow))

allowed_rest : (p : Plan) (ms ns : List Moment) (s : Site) → all_allowed p s (ms ++ ns) ≡ true → all_allowed p (after s ms) ns ≡ true
allowed_rest p [] ns s allow = allow
allowed_rest p (m ∷ ms) ns s allow = allowed_rest p ms ns (happens s m) (second_of_both _ _ allow)

keeps_now : (p : Plan) (s : Site) → Safe p s → KeepsNow s
keeps_now p s safe = record {
  one_gear = λ g h a r q first second. safe.sound.once g h a first.0 second.0 first.1 second.1 first.2 second.2;
  tables = λ c a r e. let of = safe.sound.tables c a r e in (of.0, (of.1, of.2, of.3, of.4));
}

pub every_history_keeps_the_promise : (p : Plan) (ms : List Moment) → IsHistory p ms → KeepsPromise p ms
every_history_keeps_the_promise p ms history = record {
  always = λ earlier more is. keeps_now p (after (start p) earlier) (safe_after p earlier (start p) (starts p history.0) (front earlier more is));
  ever_after = λ earlier later rest is. subst (λ t. KeepsAddresses (after (start p) earlier) t) (sym (after_both earlier later (start p)))
      (keeps_after p later (after (start p) earlier) (safe_after p earlier (start p) (starts p history.0) (front earlier (later ++ rest) is))
      (allowed_front p later rest (after (start p) earlier) (allowed_rest p earlier (later ++ rest) (start p) (whole earlier (later ++ rest) is))));
} where
  whole : (earlier more : List Moment) → earlier ++ more ≡ ms → all_allowed p (start p) (earlier ++ more) ≡ true
  whole earlier more is = ap (all_allowed p (start p)) is ∙ history.1

  front : (earlier more : List Moment) → earlier ++ more ≡ ms → all_allowed p (start p) earlier ≡ true
  front earlier more is = allowed_front p earlier more (start p) (whole earlier more is)
