use Rattle.std.proofs.Common.{◌≡◌, ℕ, ◌+◌, ◌*◌, ◌-◌, ◌^◌, ◌<◌, min, Bool, true, false, Option, Some, None, List, [], ◌∷◌, ◌++◌, ◌⊎◌, inl, inr, refl, sym, ap}
use Rattle.std.proofs.Common.{subst, ◌∙◌, arith, nat_lt, nat_le, not, ◌&&◌, ◌||◌, if◌then◌else◌}
use Rattle.std.proofs.lemmas.Bool.Decides.{nat_tests}
use Rattle.dali_frame.specs.declared.frames.Answer.{Answer, TheVariants.Silence, TheVariants.Byte, TheVariants.Damaged}
use Rattle.dali_wire.specs.Edges.{window_after_all, time_of, by_turns, rises, AtMostOnePulse, IsAtRest}
use Rattle.dali_wire.specs.Reception.{span_of, span_before, with_bit, read_edge, frame_of, frame_read, longer, reading_at}
use Rattle.dali_wire.specs.Windows.{answer_in, heard_after, heard_beside, heard_with, is_idle, window_after, window_at_first, told_after}
use Rattle.dali_wire.specs.declared.receiver.Frame.{Frame, TheVariants.Forward, TheVariants.Backward, TheVariants.Device, TheVariants.Damaged as Broken}
use Rattle.dali_wire.specs.declared.receiver.Reading.{Reading, TheVariants.Idle, TheVariants.First, TheVariants.Between, TheVariants.Middle, TheVariants.Spoilt}
use Rattle.dali_wire.specs.declared.receiver.Span.{Span, TheVariants.Short, TheVariants.Half, TheVariants.Whole, TheVariants.Wrong}
use Rattle.dali_wire.specs.declared.{receiver.Told.Told, window.Window.Window}

-- WHAT IS TOLD OF ANY EDGES, but for a frame: a bus at rest.
abbrev pub state : Reading → Bool → ℕ → ℕ → Answer → Bool → Window
state r low lasted elapsed heard pulse =
    record { receiver = record { reading = r; is_low = low; lasted = lasted }; elapsed = elapsed; heard = heard; has_pulse = pulse }

abbrev pub TellsOf : Window → List (Bool × ℕ) → ℕ → Answer → Type 0
TellsOf w edges rest a = told_after (window_after_all w edges) rest ≡ Some a

-- what is told is damaged, or what was heard of a bus at rest
told_cases : (idle late later : Bool) (h a : Answer) → (if idle && late then Some h else (if later then Some Damaged else None)) ≡ Some a
    → (a ≡ Damaged) ⊎ ((idle ≡ true) × (a ≡ h))
told_cases true true later h a e = inr (refl, cc)
told_cases true false true h a e = inl (cc)
told_cases true false false h a e = absurd (cc)
told_cases false late true h a e = inl (cc)
told_cases false late false h a e = absurd (cc)

pub told_is : (w : Window) (rest : ℕ) (a : Answer) → told_after w rest ≡ Some a
    → (a ≡ Damaged) ⊎ ((is_idle (reading_at w.receiver.reading w.receiver.is_low rest) ≡ true) × (a ≡ heard_with w rest))
told_is w rest a told = told_cases (is_idle (reading_at w.receiver.reading w.receiver.is_low rest)) _ _ (heard_with w rest) a told

-- WHAT IS DAMAGED stays so
heard_damaged : (told : Option Told) (now : ℕ) → heard_after Damaged told now ≡ Damaged
heard_damaged None now = refl
heard_damaged (Some told) now = refl

beside_damaged : (over pulse before : Bool) → heard_beside over pulse before Damaged ≡ Damaged
beside_damaged false pulse before = refl
beside_damaged true true false = refl
beside_damaged true true true = refl
beside_damaged true false before = refl

after_damaged : (w : Window) (low : Bool) (t : ℕ) → w.heard ≡ Damaged → (window_after w low t).heard ≡ Damaged
after_damaged w low t h = rw (h, heard_damaged) (beside_damaged _ _ _)

pub damaged_tells : (edges : List (Bool × ℕ)) (w : Window) (rest : ℕ) (a : Answer) → w.heard ≡ Damaged → TellsOf w edges rest a → a ≡ Damaged
damaged_tells [] w rest a h told = elim (told_is w rest a told) [ inl d ↦ d | inr x ↦ x.1 ∙ rw h (heard_damaged _ _) ]
damaged_tells (e ∷ edges) w rest a h told = damaged_tells edges (window_after w e.0 e.1) rest a (after_damaged w e.0 e.1 h) told

-- SILENCE is told if silence was heard
heard_silent : (h : Answer) (told : Option Told) (now : ℕ) → heard_after h told now ≡ Silence → h ≡ Silence
heard_silent h None now e = e
heard_silent Silence (Some told) now e = refl
heard_silent (Byte b) (Some told) now e = absurd (cc)
heard_silent Damaged (Some told) now e = absurd (cc)

beside_silent : (over pulse before : Bool) (h : Answer) → heard_beside over pulse before h ≡ Silence → h ≡ Silence
beside_silent false pulse before h e = e
beside_silent true true false h e = e
beside_silent true true true h e = absurd (cc)
beside_silent true false before h e = absurd (cc)

silent_before : (edges : List (Bool × ℕ)) (w : Window) (rest : ℕ) → TellsOf w edges rest Silence → w.heard ≡ Silence
silent_before [] w rest told = elim (told_is w rest Silence told) [ inl d ↦ absurd (cc) | inr x ↦ heard_silent w.heard _ _ (sym x.1) ]
silent_before (e ∷ edges) w rest told =
    heard_silent w.heard _ _ (beside_silent _ _ _ _ (silent_before edges (window_after w e.0 e.1) rest told))

pub frame_not_silent : (f : Frame) (begun : ℕ) → answer_in f begun ≡ Silence → ⊥
frame_not_silent (Forward x) begun e = cc
frame_not_silent (Device x) begun e = cc
frame_not_silent Broken begun e = cc
frame_not_silent (Backward b) begun e = go (nat_le 2400 begun && nat_le begun 12400) e where
  go : (t : Bool) → (if t then Byte b else Damaged) ≡ Silence → ⊥
  go true x = cc
  go false x = cc

told_not_silent : (h : Answer) (told : Told) (now : ℕ) → heard_after h (Some told) now ≡ Silence → ⊥
told_not_silent Silence told now e = frame_not_silent told.frame _ e
told_not_silent (Byte b) told now e = cc
told_not_silent Damaged told now e = cc

-- AN EDGE before a stop condition is over, and after it
abbrev pub goes_on : Bool → ℕ → Bool
goes_on true t = true
goes_on false t = nat_lt t 2400

or_false : (p : Bool) → (p || false) ≡ p
or_false true = refl
or_false false = refl

pub step : (r : Reading) (was low : Bool) (t lasted elapsed : ℕ) (h : Answer) (p : Bool) → goes_on was t ≡ true
    → is_idle (read_edge r low (span_before was low t)) ≡ false → window_after (state r was lasted elapsed h p) low t
    ≡ state (read_edge r low (span_before was low t)) low (longer r lasted t) (min (elapsed + t) (2 ^ 32 - 1)) h p
step r true low t lasted elapsed h p on busy = rw (busy, or_false) refl
step r false low t lasted elapsed h p on busy = rw (on, busy, or_false) refl

pub falls : (r : Reading) (t lasted elapsed : ℕ) (h : Answer) (p : Bool) → nat_lt t 2400 ≡ false
    → window_after (state r false lasted elapsed h p) true t
    ≡ state First true 0 (min (elapsed + t) (2 ^ 32 - 1)) (heard_with (state r false lasted elapsed h p) t) p
falls r t lasted elapsed h p over = rw (over, or_false) refl

-- A FRAME THAT IS BEING READ
abbrev pub IsBusy : Reading → Type 0
IsBusy Idle = ⊥
IsBusy First = ⊥
IsBusy (Between v) = Unit {0}
IsBusy (Middle v) = Unit {0}
IsBusy Spoilt = Unit {0}

pub not_idle : (r : Reading) → IsBusy r → is_idle r ≡ false
not_idle Idle busy = absurd busy
not_idle First busy = absurd busy
not_idle (Between v) busy = refl
not_idle (Middle v) busy = refl
not_idle Spoilt busy = refl

bit_busy : (v : ℕ) (low : Bool) → IsBusy (with_bit v low)
bit_busy v low = go (nat_le 0x1000000 v) where
  go : (b : Bool) → IsBusy (if b then Spoilt else Middle (if low then 2 * v else 2 * v + 1))
  go true = tt
  go false = tt

pub edge_busy : (r : Reading) (low : Bool) (k : Span) → IsBusy r → IsBusy (read_edge r low k)
edge_busy Idle low k busy = absurd busy
edge_busy First low k busy = absurd busy
edge_busy (Middle v) low Short busy = tt
edge_busy (Middle v) low Half busy = tt
edge_busy (Middle v) low Whole busy = bit_busy v low
edge_busy (Middle v) low Wrong busy = tt
edge_busy (Between v) low Short busy = tt
edge_busy (Between v) low Half busy = bit_busy v low
edge_busy (Between v) low Whole busy = tt
edge_busy (Between v) low Wrong busy = tt
edge_busy Spoilt low k busy = tt

-- ends in a frame
busy_read : (r : Reading) → IsBusy r → (f : Frame) × (frame_read r ≡ Some f)
busy_read Idle busy = absurd busy
busy_read First busy = absurd busy
busy_read (Between v) busy = (frame_of v, refl)
busy_read (Middle v) busy = (frame_of v, refl)
busy_read Spoilt busy = (Broken, refl)

-- before a backward frame may begin
abbrev pub is_early : ℕ → ℕ → Bool
is_early elapsed t = nat_lt (min (elapsed + t) (2 ^ 32 - 1)) 2400

pub never_early : (elapsed t : ℕ) → nat_lt t 2400 ≡ false → is_early elapsed t ≡ false
never_early elapsed t over = grind (arith, nat_tests)

-- WHAT IS NEVER TOLD, if this was heard and a frame is being read
abbrev IsNeverOf : Answer → Answer → Type 0
IsNeverOf a h = (a ≡ h → ⊥) × ((edges : List (Bool × ℕ)) (w : Window) (rest : ℕ) → w.heard ≡ h → TellsOf w edges rest a → ⊥)

abbrev IsNeverAfter : Answer → Answer → List (Bool × ℕ) → Type 0
IsNeverAfter a h edges = (r : Reading) (was : Bool) (lasted elapsed : ℕ) (p : Bool) (rest : ℕ) → IsBusy r
    → TellsOf (state r was lasted elapsed h p) edges rest a → ⊥

abbrev pub IsNeverBusy : Answer → Answer → Type 0
IsNeverBusy a h = (edges : List (Bool × ℕ)) → IsNeverAfter a h edges

module _ (a h : Answer) (clean : a ≡ Damaged → ⊥) (never : (t : Told) (now : ℕ) → IsNeverOf a (heard_after h (Some t) now)) where
  busy_last : (r : Reading) (was : Bool) (lasted elapsed : ℕ) (p : Bool) (rest : ℕ) → IsBusy r
      → told_after (state r was lasted elapsed h p) rest ≡ Some a → ⊥
  busy_last r was lasted elapsed p rest busy told = elim (told_is (state r was lasted elapsed h p) rest a told) [
    | inl d ↦ clean d
    | inr x ↦ ends was x.0 x.1
  ]
    where
      ends : (was : Bool) → is_idle (reading_at r was rest) ≡ true → a ≡ heard_with (state r was lasted elapsed h p) rest → ⊥
      ends true idle is = let busy_is = not_idle r busy in cc
      ends false idle is = go (nat_lt rest 2400) refl where
        go : (b : Bool) → nat_lt rest 2400 ≡ b → ⊥
        go true test = let busy_is = not_idle r busy in let idle_is = rw test at idle in cc
        go false test =
            let frame = busy_read r busy in
            let is_told = rw (test, frame.1) at is in
            (never (record { frame = frame.0; lasted = lasted; since = rest }) _).0 is_told

  pub never_busy : IsNeverBusy a h
  never_busy [] r was lasted elapsed p rest busy told = busy_last r was lasted elapsed p rest busy told
  never_busy (e ∷ edges) r was lasted elapsed p rest busy told = go was e.0 e.1 (goes_on was e.1) refl (never_busy edges) told where
    go : (was low : Bool) (t : ℕ) (b : Bool) → goes_on was t ≡ b → IsNeverAfter a h edges
        → TellsOf (state r was lasted elapsed h p) ((low, t) ∷ edges) rest a → ⊥
    go was low t true on more told =
        let next = edge_busy r low (span_before was low t) busy in
        let is = step r was low t lasted elapsed h p on (not_idle (read_edge r low (span_before was low t)) next) in
        more (read_edge r low (span_before was low t)) low (longer r lasted t) (min (elapsed + t) (2 ^ 32 - 1)) p rest next
        (subst (λ w. TellsOf w edges rest a) is told)
    go true low t false on more told = absurd (cc)
    go false true t false on more told =
        let frame = busy_read r busy in
        let now = subst (λ w. TellsOf w edges rest a) (falls r t lasted elapsed h p on) told in
        (never (record { frame = frame.0; lasted = lasted; since = t }) (min (elapsed + t) (2 ^ 32 - 1))).1 edges
        (state First true 0 (min (elapsed + t) (2 ^ 32 - 1)) (heard_with (state r false lasted elapsed h p) t) p) rest
        (rw (on, frame.1) refl) now
    go false false t false on more told =
        clean (damaged_tells edges (window_after (state r false lasted elapsed h p) false t) rest a (rw (on, never_early elapsed t on) refl) told)

-- WHAT IS NO FRAME is told as damaged
heard_broken : (h : Answer) (told : Told) (now : ℕ) → told.frame ≡ Broken → heard_after h (Some told) now ≡ Damaged
heard_broken Silence told now is = rw is refl
heard_broken (Byte b) told now is = refl
heard_broken Damaged told now is = refl

spoilt_last : (was : Bool) (lasted elapsed : ℕ) (h : Answer) (p : Bool) (rest : ℕ) (a : Answer)
    → told_after (state Spoilt was lasted elapsed h p) rest ≡ Some a → a ≡ Damaged
spoilt_last was lasted elapsed h p rest a told =
    elim (told_is (state Spoilt was lasted elapsed h p) rest a told) [ inl d ↦ d | inr x ↦ ends was x.0 x.1 ]
  where
    ends : (was : Bool) → is_idle (reading_at Spoilt was rest) ≡ true → a ≡ heard_with (state Spoilt was lasted elapsed h p) rest → a ≡ Damaged
    ends true idle is = absurd (cc)
    ends false idle is = go (nat_lt rest 2400) refl where
      go : (b : Bool) → nat_lt rest 2400 ≡ b → a ≡ Damaged
      go true test = let no = rw test at idle in absurd (cc)
      go false test = (rw test at is) ∙ heard_broken h (record { frame = Broken; lasted = lasted; since = rest }) _ refl

abbrev IsBroken : List (Bool × ℕ) → Type 0
IsBroken edges = (was : Bool) (lasted elapsed : ℕ) (h : Answer) (p : Bool) (rest : ℕ) (a : Answer)
    → TellsOf (state Spoilt was lasted elapsed h p) edges rest a → a ≡ Damaged

pub spoilt_tells : (edges : List (Bool × ℕ)) → IsBroken edges
spoilt_tells [] was lasted elapsed h p rest a told = spoilt_last was lasted elapsed h p rest a told
spoilt_tells (e ∷ edges) was lasted elapsed h p rest a told = go was e.0 e.1 (goes_on was e.1) refl (spoilt_tells edges) told where
  go : (was low : Bool) (t : ℕ) (b : Bool) → goes_on was t ≡ b → IsBroken edges
      → TellsOf (state Spoilt was lasted elapsed h p) ((low, t) ∷ edges) rest a → a ≡ Damaged
  go was low t true on more told =
      more low (longer Spoilt lasted t) (min (elapsed + t) (2 ^ 32 - 1)) h p rest a
      (subst (λ w. TellsOf w edges rest a) (step Spoilt was low t lasted elapsed h p on refl) told)
  go true low t false on more told = absurd (cc)
  go false true t false on more told =
      damaged_tells edges (state First true 0 (min (elapsed + t) (2 ^ 32 - 1)) (heard_with (state Spoilt false lasted elapsed h p) t) p) rest a
      (rw on (heard_broken h (record { frame = Broken; lasted = lasted; since = t }) _ refl))
      (subst (λ w. TellsOf w edges rest a) (falls Spoilt t lasted elapsed h p on) told)
  go false false t false on more told =
      damaged_tells edges (window_after (state Spoilt false lasted elapsed h p) false t) rest a (rw (on, never_early elapsed t on) refl) told

-- FROM REST
pub idle_falls : (t lasted elapsed : ℕ) (h : Answer) (p : Bool)
    → window_after (state Idle false lasted elapsed h p) true t ≡ state First true 0 (min (elapsed + t) (2 ^ 32 - 1)) h p
idle_falls t lasted elapsed h p = go (nat_lt t 2400) refl where
  go : (b : Bool) → nat_lt t 2400 ≡ b
      → window_after (state Idle false lasted elapsed h p) true t ≡ state First true 0 (min (elapsed + t) (2 ^ 32 - 1)) h p
  go true test = rw (test, or_false) refl
  go false test = rw (test, or_false) refl

-- an edge to high, once a backward frame may have begun; or after a pulse
idle_missed : (t lasted elapsed : ℕ) (h : Answer) (p : Bool) → (is_early elapsed t && not p) ≡ false
    → (window_after (state Idle false lasted elapsed h p) false t).heard ≡ Damaged
idle_missed t lasted elapsed h p late = go (nat_lt t 2400) refl where
  go : (b : Bool) → nat_lt t 2400 ≡ b → (window_after (state Idle false lasted elapsed h p) false t).heard ≡ Damaged
  go true test = rw (test, late) refl
  go false test = rw (test, late) refl

pub missed_after_pulse : (t lasted elapsed : ℕ) (h : Answer) → (window_after (state Idle false lasted elapsed h true) false t).heard ≡ Damaged
missed_after_pulse t lasted elapsed h = idle_missed t lasted elapsed h true (never (is_early elapsed t)) where
  never : (b : Bool) → (b && false) ≡ false
  never true = refl
  never false = refl

pub missed_late : (t lasted elapsed : ℕ) (h : Answer) (p : Bool) → is_early elapsed t ≡ false
    → (window_after (state Idle false lasted elapsed h p) false t).heard ≡ Damaged
missed_late t lasted elapsed h p late = idle_missed t lasted elapsed h p (rw late refl)

-- and before: an echo changes nothing but the time
pub echo_passes : (t elapsed : ℕ) (h : Answer) → is_early elapsed t ≡ true
    → window_after (state Idle false 0 elapsed h false) false t ≡ state Idle false 0 (min (elapsed + t) (2 ^ 32 - 1)) h false
echo_passes t elapsed h early = go (nat_lt t 2400) refl where
  go : (b : Bool) → nat_lt t 2400 ≡ b
      → window_after (state Idle false 0 elapsed h false) false t ≡ state Idle false 0 (min (elapsed + t) (2 ^ 32 - 1)) h false
  go true test = rw (test, early) refl
  go false test = rw (test, early) refl

pub early_time : (t elapsed : ℕ) → is_early elapsed t ≡ true → (min (elapsed + t) (2 ^ 32 - 1) ≡ elapsed + t) × (elapsed + t < 2400)
early_time t elapsed early = (grind (arith, nat_tests), grind (arith, nat_tests))

first_busy : (low : Bool) (k : Span) → (k ≡ Short → ⊥) → IsBusy (read_edge First low k)
first_busy low Short long = absurd (long refl)
first_busy low Half long = tt
first_busy low Whole long = tt
first_busy low Wrong long = tt

pub rises_short : (u lasted elapsed : ℕ) (h : Answer) (p : Bool) → span_of u ≡ Short
    → window_after (state First true lasted elapsed h p) false u
    ≡ state Idle false (min (lasted + u) (2 ^ 32 - 1)) (min (elapsed + u) (2 ^ 32 - 1)) (heard_beside true (nat_lt u 100) p h) true
rises_short u lasted elapsed h true short = rw short refl
rises_short u lasted elapsed h false short = rw short refl

-- one pulse, and nothing after it
abbrev pub EndsInPulse : List (Bool × ℕ) → Bool → Type 0
EndsInPulse edges p = (u : ℕ) × (edges ≡ (false, u) ∷ []) × (u < 100) × (p ≡ false)

module _ (a h : Answer) (clean : a ≡ Damaged → ⊥) (busy : IsNeverBusy a h) where
  first_goes_on : (low : Bool) (u : ℕ) (edges : List (Bool × ℕ)) (lasted elapsed : ℕ) (p : Bool) (rest : ℕ)
      → (span_before true low u ≡ Short → ⊥) → TellsOf (state First true lasted elapsed h p) ((low, u) ∷ edges) rest a → ⊥
  first_goes_on low u edges lasted elapsed p rest long told =
      let next = first_busy low (span_before true low u) long in
      let is = step First true low u lasted elapsed h p refl (not_idle (read_edge First low (span_before true low u)) next) in
      busy edges (read_edge First low (span_before true low u)) low (longer First lasted u) (min (elapsed + u) (2 ^ 32 - 1)) p rest next
      (subst (λ w. TellsOf w edges rest a) is told)

  first_last : (lasted elapsed : ℕ) (p : Bool) (rest : ℕ) → told_after (state First true lasted elapsed h p) rest ≡ Some a → ⊥
  first_last lasted elapsed p rest told =
      elim (told_is (state First true lasted elapsed h p) rest a told) [ inl d ↦ clean d | inr x ↦ let no = x.0 in cc ]

  -- after a pulse
  rest_ends : (edges : List (Bool × ℕ)) (lasted elapsed rest : ℕ) → TellsOf (state Idle false lasted elapsed h true) edges rest a
      → (edges ≡ []) × (a ≡ h)
  rest_ends [] lasted elapsed rest told =
      elim (told_is (state Idle false lasted elapsed h true) rest a told) [ inl d ↦ absurd (clean d) | inr x ↦ (refl, go (nat_lt rest 2400) refl x.1) ]
    where
      go : (b : Bool) → nat_lt rest 2400 ≡ b → a ≡ heard_with (state Idle false lasted elapsed h true) rest → a ≡ h
      go true test is = rw test at is
      go false test is = rw test at is
  rest_ends (e ∷ edges) lasted elapsed rest told = absurd (fall e.0 e.1 told) where
    rise : (u now : ℕ) (more : List (Bool × ℕ)) (k : Span) → span_of u ≡ k → TellsOf (state First true 0 now h true) ((false, u) ∷ more) rest a → ⊥
    rise u now more Short short t =
        clean (damaged_tells more (window_after (state First true 0 now h true) false u) rest a
        (ap (λ w. w.heard) (rises_short u 0 now h true short) ∙ go (nat_lt u 100)) t) where
          go : (b : Bool) → heard_beside true b true h ≡ Damaged
          go true = refl
          go false = refl
    rise u now more Half is t = first_goes_on false u more 0 now true rest (λ short. cc) t
    rise u now more Whole is t = first_goes_on false u more 0 now true rest (λ short. cc) t
    rise u now more Wrong is t = first_goes_on false u more 0 now true rest (λ short. cc) t

    low_again : (now : ℕ) (more : List (Bool × ℕ)) → TellsOf (state First true 0 now h true) more rest a → ⊥
    low_again now [] t = first_last 0 now true rest t
    low_again now (e ∷ more) t = go e.0 e.1 t where
      go : (low : Bool) (u : ℕ) → TellsOf (state First true 0 now h true) ((low, u) ∷ more) rest a → ⊥
      go true u t = first_goes_on true u more 0 now true rest (λ short. cc) t
      go false u t = rise u now more (span_of u) refl t

    fall : (low : Bool) (t : ℕ) → TellsOf (state Idle false lasted elapsed h true) ((low, t) ∷ edges) rest a → ⊥
    fall false t x =
        clean (damaged_tells edges (window_after (state Idle false lasted elapsed h true) false t) rest a (missed_after_pulse t lasted elapsed h) x)
    fall true t x =
        low_again (min (elapsed + t) (2 ^ 32 - 1)) edges (subst (λ w. TellsOf w edges rest a) (idle_falls t lasted elapsed h true) x)

  -- a low on a bus at rest
  pub first_ends : (edges : List (Bool × ℕ)) (lasted elapsed : ℕ) (p : Bool) (rest : ℕ) → TellsOf (state First true lasted elapsed h p) edges rest a
      → EndsInPulse edges p × (a ≡ h)
  first_ends [] lasted elapsed p rest told = absurd (first_last lasted elapsed p rest told)
  first_ends (e ∷ edges) lasted elapsed p rest told = go e.0 e.1 told where
    over : (u : ℕ) (p b : Bool) → nat_lt u 100 ≡ b
        → TellsOf (state Idle false (min (lasted + u) (2 ^ 32 - 1)) (min (elapsed + u) (2 ^ 32 - 1)) (heard_beside true b p h) true) edges rest a
        → EndsInPulse ((false, u) ∷ edges) p × (a ≡ h)
    over u false true test t =
        let ends = rest_ends edges (min (lasted + u) (2 ^ 32 - 1)) (min (elapsed + u) (2 ^ 32 - 1)) rest t in
        let few : u < 100 = grind (arith, nat_tests) in
        ((u, ap (λ es. (false, u) ∷ es) ends.0, few, refl), ends.1)
    over u true true test t = absurd (clean (damaged_tells edges _ rest a refl t))
    over u p false test t = absurd (clean (damaged_tells edges _ rest a refl t))

    rise : (u : ℕ) (k : Span) → span_of u ≡ k → TellsOf (state First true lasted elapsed h p) ((false, u) ∷ edges) rest a
        → EndsInPulse ((false, u) ∷ edges) p × (a ≡ h)
    rise u Short short t = over u p (nat_lt u 100) refl (subst (λ w. TellsOf w edges rest a) (rises_short u lasted elapsed h p short) t)
    rise u Half is t = absurd (first_goes_on false u edges lasted elapsed p rest (λ short. cc) t)
    rise u Whole is t = absurd (first_goes_on false u edges lasted elapsed p rest (λ short. cc) t)
    rise u Wrong is t = absurd (first_goes_on false u edges lasted elapsed p rest (λ short. cc) t)

    go : (low : Bool) (u : ℕ) → TellsOf (state First true lasted elapsed h p) ((low, u) ∷ edges) rest a
        → EndsInPulse ((low, u) ∷ edges) p × (a ≡ h)
    go true u t = absurd (first_goes_on true u edges lasted elapsed p rest (λ short. cc) t)
    go false u t = rise u (span_of u) refl t

-- SILENCE
silent_busy : IsNeverBusy Silence Silence
silent_busy = never_busy Silence Silence (λ d. cc) (λ t now. (
  (λ is. told_not_silent Silence t now (sym is)),
  (λ edges w rest heard told. told_not_silent Silence t now (sym heard ∙ silent_before edges w rest told)),
))

-- so long after the forward frame, after echoes alone
record RestsFrom (elapsed : ℕ) (edges : List (Bool × ℕ)) : Type 0 where
  echoes : List ℕ
  times : List ℕ
  edges_are : edges ≡ rises echoes ++ by_turns true times
  early : elapsed + time_of (rises echoes) < 2400
  pulses : AtMostOnePulse times []

abbrev Rest : List (Bool × ℕ) → Type 0
Rest edges = (elapsed rest : ℕ) → elapsed < 2400 → TellsOf (state Idle false 0 elapsed Silence false) edges rest Silence → RestsFrom elapsed edges

silence_from : (edges : List (Bool × ℕ)) → Rest edges
silence_from [] elapsed rest few told = record { echoes = []; times = []; edges_are = refl; early = omega (arith, few); pulses = tt }
silence_from (e ∷ edges) elapsed rest few told = go e.0 e.1 (is_early elapsed e.1) refl (silence_from edges) told where
  go : (low : Bool) (t : ℕ) (b : Bool) → is_early elapsed t ≡ b → Rest edges
      → TellsOf (state Idle false 0 elapsed Silence false) ((low, t) ∷ edges) rest Silence → RestsFrom elapsed ((low, t) ∷ edges)
  go true t b is more told =
      let now = subst (λ w. TellsOf w edges rest Silence) (idle_falls t 0 elapsed Silence false) told in
      let ends = (first_ends Silence Silence (λ d. cc) silent_busy edges 0 (min (elapsed + t) (2 ^ 32 - 1)) false rest now).0 in
      record {
        echoes = [];
        times = t ∷ ends.0 ∷ [];
        edges_are = ap (λ es. (true, t) ∷ es) ends.1;
        early = omega (arith, few);
        pulses = ends.2;
      }
  go false t true is more told =
      let time = early_time t elapsed is in
      let now = rw time.0 at (subst (λ w. TellsOf w edges rest Silence) (echo_passes t elapsed Silence is) told) in
      let rests = more (elapsed + t) rest time.1 now in
      record {
        echoes = t ∷ rests.echoes;
        times = rests.times;
        edges_are = ap (λ es. (false, t) ∷ es) rests.edges_are;
        early = omega (arith, rests.early);
        pulses = rests.pulses;
      }
  go false t false is more told =
      let no : Silence ≡ Damaged =
      damaged_tells edges (window_after (state Idle false 0 elapsed Silence false) false t) rest Silence (missed_late t 0 elapsed Silence false is) told in
      absurd (cc)

pub silence_rests : (edges : List (Bool × ℕ)) (rest : ℕ) → told_after (window_after_all window_at_first edges) rest ≡ Some Silence → IsAtRest edges
silence_rests edges rest told =
    let rests = silence_from edges 0 rest (omega arith) told in
    record { echoes = rests.echoes; times = rests.times; edges_are = rests.edges_are; early = omega (arith, rests.early); pulses = rests.pulses }
