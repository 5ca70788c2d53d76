use Rattle.std.proofs.Common.{◌≡◌, ◌≢◌, ℕ, ◌+◌, ◌<◌, ◌≤◌, inl, inr, Bool, true, false, zero, suc, List, [], ◌∷◌, refl, sym, ap, subst, ◌∙◌, arith, length, map}
use Rattle.std.{proofs.Common.{get_or, Option, Some, None, add-zero, zero-add, if◌then◌else◌}, specs.List.AllByRecursion}
use Rattle.dali_frame.specs.declared.frames.Answer.{Answer, TheVariants.Byte}
use Rattle.dali_special.specs.declared.command.Command.{Command}
use Rattle.dali_gear.specs.{Gear.{Gear, fresh, answer}, Row.{takes, option_cons, answers_of, stored_short, stored_one, stored_of}, declared.row.Reach.Reach}
use Rattle.dali_script.specs.Records.{Has, IsOnce}
use Rattle.dali_events.specs.Allowed.{Hears}

-- WHO ANSWERED
abbrev Answered : Reach → Command → ℕ → List Gear → ℕ → Type 0
Answered reach c k gs v = (i : ℕ) × (i < length gs) × (takes reach (k + i) (get_or gs i fresh) ≡ true) × (answer c (get_or gs i fresh) ≡ Some v)

answered_here : (reach : Reach) (c : Command) (k : ℕ) (g : Gear) (gs : List Gear) (v : ℕ) → takes reach k g ≡ true → answer c g ≡ Some v
    → Answered reach c k (g ∷ gs) v
answered_here reach c k g gs v t e = (0, omega arith, rw add-zero t, e)

answered_later : (reach : Reach) (c : Command) (k : ℕ) (g : Gear) (gs : List Gear) (v : ℕ) → Answered reach c (k + 1) gs v → Answered reach c k (g ∷ gs) v
answered_later reach c k g gs v a =
    let inside : a.0 < length gs = a.1 in
    let same : k + 1 + a.0 ≡ k + suc a.0 = omega arith in
    (suc a.0, omega arith, subst (λ n. takes reach n (get_or gs a.0 fresh) ≡ true) same a.2, a.3)

answered_from : (reach : Reach) (c : Command) (k : ℕ) (gs : List Gear) (v : ℕ) → Has (answers_of reach c k gs) v → Answered reach c k gs v
answered_from reach c k [] v h = elim h [ ]
answered_from reach c k (g ∷ gs) v h = go (takes reach k g) (answer c g) refl refl h (answered_from reach c (k + 1) gs v) where
  go : (t : Bool) (o : Option ℕ) → takes reach k g ≡ t → answer c g ≡ o → Has (option_cons (if t then o else None) (answers_of reach c (k + 1) gs)) v
      → (Has (answers_of reach c (k + 1) gs) v → Answered reach c (k + 1) gs v) → Answered reach c k (g ∷ gs) v
  go false o t e h later = answered_later reach c k g gs v (later h)
  go true None t e h later = answered_later reach c k g gs v (later h)
  go true (Some u) t e (inl same) later = answered_here reach c k g gs v t (e ∙ ap (λ n. Some n) same)
  go true (Some u) t e (inr h) later = answered_later reach c k g gs v (later h)

pub answered : (reach : Reach) (c : Command) (gs : List Gear) (v : ℕ) → Has (answers_of reach c 0 gs) v
    → (i : ℕ) × (i < length gs) × (takes reach i (get_or gs i fresh) ≡ true) × (answer c (get_or gs i fresh) ≡ Some v)
answered reach c gs v h =
    let a = answered_from reach c 0 gs v h in
    (a.0, a.1, subst (λ n. takes reach n (get_or gs a.0 fresh) ≡ true) (zero-add a.0) a.2, a.3)

has_option : (o : Option ℕ) (xs : List ℕ) (v : ℕ) → Has xs v → Has (option_cons o xs) v
has_option None xs v h = h
has_option (Some u) xs v h = inr h

answers_from : (reach : Reach) (c : Command) (k : ℕ) (gs : List Gear) (i v : ℕ) → i < length gs → takes reach (k + i) (get_or gs i fresh) ≡ true
    → answer c (get_or gs i fresh) ≡ Some v
    → Has (answers_of reach c k gs) v
answers_from reach c k [] i v h t e = absurd (omega arith)
answers_from reach c k (g ∷ gs) zero v h t e =
    let here : takes reach k g ≡ true = rw add-zero at t in
    rw (here, e) (inl refl)
answers_from reach c k (g ∷ gs) (suc i) v h t e =
    let same : k + suc i ≡ k + 1 + i = omega arith in
    has_option (if takes reach k g then answer c g else None) (answers_of reach c (k + 1) gs) v
    (answers_from reach c (k + 1) gs i v (omega arith) (subst (λ n. takes reach n (get_or gs i fresh) ≡ true) same t) e)

pub answers_have : (reach : Reach) (c : Command) (gs : List Gear) (i v : ℕ) → i < length gs → takes reach i (get_or gs i fresh) ≡ true
    → answer c (get_or gs i fresh) ≡ Some v
    → Has (answers_of reach c 0 gs) v
answers_have reach c gs i v h t e = answers_from reach c 0 gs i v h (subst (λ n. takes reach n (get_or gs i fresh) ≡ true) (sym (zero-add i)) t) e

-- WHAT IS HEARD AS A BYTE, each answered
each_is : (answers : List ℕ) (u v : ℕ) → AllByRecursion (λ answer. answer ≡ u) answers → Has answers v → v ≡ u
each_is [] u v all h = elim h [ ]
each_is (x ∷ xs) u v all (inl e) = sym e ∙ all.0
each_is (x ∷ xs) u v all (inr h) = each_is xs u v all.1 h

some_is : (answers : List ℕ) (u : ℕ) → answers ≢ [] → AllByRecursion (λ answer. answer ≡ u) answers → Has answers u
some_is [] u some all = absurd (some refl)
some_is (x ∷ xs) u some all = inl all.0

-- no answer is heard as another byte
pub heard_byte : (answers : List ℕ) (h : Answer) (u v : ℕ) → Hears answers h → h ≡ Byte u → Has answers v → v ≡ u
heard_byte answers h u v hears is has = from (subst (λ x. Hears answers x) is hears) where
  from : Hears answers (Byte u) → v ≡ u
  from k = each_is answers u v k.1 has

pub byte_answered : (answers : List ℕ) (h : Answer) (u : ℕ) → Hears answers h → h ≡ Byte u → Has answers u
byte_answered answers h u hears is = from (subst (λ x. Hears answers x) is hears) where
  from : Hears answers (Byte u) → Has answers u
  from k = some_is answers u k.0 k.1

-- WHO STORED AN ADDRESS
abbrev Stored : Reach → Command → ℕ → List Gear → ℕ → ℕ → Type 0
Stored reach c k gs n a =
    (i : ℕ) × (n ≡ k + i) × (i < length gs) × (takes reach (k + i) (get_or gs i fresh) ≡ true) × (stored_short c (get_or gs i fresh) ≡ Some a)

stored_later : (reach : Reach) (c : Command) (k : ℕ) (g : Gear) (gs : List Gear) (n a : ℕ) → Stored reach c (k + 1) gs n a → Stored reach c k (g ∷ gs) n a
stored_later reach c k g gs n a s =
    let inside : s.0 < length gs = s.2 in
    let is : n ≡ k + 1 + s.0 = s.1 in
    let same : k + 1 + s.0 ≡ k + suc s.0 = omega arith in
    (suc s.0, is ∙ same, omega arith, subst (λ m. takes reach m (get_or gs s.0 fresh) ≡ true) same s.3, s.4)

stored_from : (reach : Reach) (c : Command) (k : ℕ) (gs : List Gear) (n a : ℕ) → Has (stored_of reach c k gs) (n, a) → Stored reach c k gs n a
stored_from reach c k [] n a h = elim h [ ]
stored_from reach c k (g ∷ gs) n a h = go (takes reach k g) (stored_short c g) refl refl h (stored_from reach c (k + 1) gs n a) where
  go : (t : Bool) (o : Option ℕ) → takes reach k g ≡ t → stored_short c g ≡ o → Has (stored_one k (if t then o else None) (stored_of reach c (k + 1) gs)) (n, a)
      → (Has (stored_of reach c (k + 1) gs) (n, a) → Stored reach c (k + 1) gs n a) → Stored reach c k (g ∷ gs) n a
  go false o t e h later = stored_later reach c k g gs n a (later h)
  go true None t e h later = stored_later reach c k g gs n a (later h)
  go true (Some b) t e (inl same) later =
      let number : n ≡ k = sym (ap (λ p. p.0) same) in
      let there : n ≡ k + 0 = omega arith in
      (0, there, omega arith, rw add-zero t, e ∙ ap (λ p. Some p.1) same)
  go true (Some b) t e (inr h) later = stored_later reach c k g gs n a (later h)

pub stored_by : (reach : Reach) (c : Command) (gs : List Gear) (n a : ℕ) → Has (stored_of reach c 0 gs) (n, a)
    → (n < length gs) × (takes reach n (get_or gs n fresh) ≡ true) × (stored_short c (get_or gs n fresh) ≡ Some a)
stored_by reach c gs n a h =
    let s = stored_from reach c 0 gs n a h in
    let same : s.0 ≡ n = sym (s.1 ∙ zero-add s.0) in
    let taking : takes reach s.0 (get_or gs s.0 fresh) ≡ true = subst (λ m. takes reach m (get_or gs s.0 fresh) ≡ true) (zero-add s.0) s.3 in (
      subst (λ m. m < length gs) same s.2,
      subst (λ m. takes reach m (get_or gs m fresh) ≡ true) same taking,
      subst (λ m. stored_short c (get_or gs m fresh) ≡ Some a) same s.4,
    )

has_stored : (k : ℕ) (o : Option ℕ) (xs : List (ℕ × ℕ)) (x : ℕ × ℕ) → Has xs x → Has (stored_one k o xs) x
has_stored k None xs x h = h
has_stored k (Some u) xs x h = inr h

stores_from : (reach : Reach) (c : Command) (k : ℕ) (gs : List Gear) (i a : ℕ) → i < length gs → takes reach (k + i) (get_or gs i fresh) ≡ true
    → stored_short c (get_or gs i fresh) ≡ Some a
    → Has (stored_of reach c k gs) (k + i, a)
stores_from reach c k [] i a h t e = absurd (omega arith)
stores_from reach c k (g ∷ gs) zero a h t e =
    let here : takes reach k g ≡ true = rw add-zero at t in
    rw (here, e, add-zero) (inl refl)
stores_from reach c k (g ∷ gs) (suc i) a h t e =
    let same : k + suc i ≡ k + 1 + i = omega arith in
    has_stored k (if takes reach k g then stored_short c g else None) (stored_of reach c (k + 1) gs) (k + suc i, a)
    (subst (λ n. Has (stored_of reach c (k + 1) gs) (n, a)) (sym same)
    (stores_from reach c (k + 1) gs i a (omega arith) (subst (λ n. takes reach n (get_or gs i fresh) ≡ true) same t) e))

pub stores_at : (reach : Reach) (c : Command) (gs : List Gear) (i a : ℕ) → i < length gs → takes reach i (get_or gs i fresh) ≡ true
    → stored_short c (get_or gs i fresh) ≡ Some a
    → Has (stored_of reach c 0 gs) (i, a)
stores_at reach c gs i a h t e =
    subst (λ n. Has (stored_of reach c 0 gs) (n, a)) (zero-add i)
    (stores_from reach c 0 gs i a h (subst (λ n. takes reach n (get_or gs i fresh) ≡ true) (sym (zero-add i)) t) e)

-- each gear at most once

stored_past : (reach : Reach) (c : Command) (k : ℕ) (gs : List Gear) (n : ℕ) → Has (map (λ p. p.0) (stored_of reach c k gs)) n → k ≤ n
stored_past reach c k [] n h = elim h [ ]
stored_past reach c k (g ∷ gs) n h = go (if takes reach k g then stored_short c g else None) h (stored_past reach c (k + 1) gs n) where
  go : (o : Option ℕ) → Has (map (λ p. p.0) (stored_one k o (stored_of reach c (k + 1) gs))) n
      → (Has (map (λ p. p.0) (stored_of reach c (k + 1) gs)) n → k + 1 ≤ n) → k ≤ n
  go None h later = let past : k + 1 ≤ n = later h in omega arith
  go (Some u) (inl e) later = omega arith
  go (Some u) (inr h) later = let past : k + 1 ≤ n = later h in omega arith

stored_once_from : (reach : Reach) (c : Command) (k : ℕ) (gs : List Gear) → IsOnce (map (λ p. p.0) (stored_of reach c k gs))
stored_once_from reach c k [] = tt
stored_once_from reach c k (g ∷ gs) = go (if takes reach k g then stored_short c g else None) (stored_once_from reach c (k + 1) gs) where
  go : (o : Option ℕ) → IsOnce (map (λ p. p.0) (stored_of reach c (k + 1) gs)) → IsOnce (map (λ p. p.0) (stored_one k o (stored_of reach c (k + 1) gs)))
  go None once = once
  go (Some u) once = (λ h. let past : k + 1 ≤ k = stored_past reach c (k + 1) gs k h in omega arith, once)

pub stored_once : (reach : Reach) (c : Command) (gs : List Gear) → IsOnce (map (λ p. p.0) (stored_of reach c 0 gs))
stored_once reach c gs = stored_once_from reach c 0 gs
