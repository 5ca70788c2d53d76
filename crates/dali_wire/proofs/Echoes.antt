use Rattle.std.proofs.Common.{◌≡◌, ℕ, ◌+◌, ◌-◌, ◌^◌, ◌≤◌, min, Bool, true, false, Some, List, ◌∷◌, refl, subst, arith, nat_lt}
use Rattle.std.proofs.lemmas.Bool.Decides.{nat_tests}
use Rattle.dali_frame.specs.declared.frames.Answer.{Answer, TheVariants.Damaged}
use Rattle.dali_wire.specs.Edges.{window_after_all, IsBeforeLow}
use Rattle.dali_wire.specs.{Reception.longer, Windows.window_after, Windows.told_after}
use Rattle.dali_wire.specs.declared.receiver.Reading.{Reading, TheVariants.Idle, TheVariants.First, TheVariants.Between, TheVariants.Middle, TheVariants.Spoilt}
use Rattle.dali_wire.specs.declared.window.Window.{Window}
use Rattle.dali_wire.proofs.Rests.{state, step, TellsOf, damaged_tells, spoilt_tells, is_early, never_early, missed_late, missed_after_pulse}

-- AN EDGE TO HIGH that is no echo damages what is heard.
module _ (t elapsed lasted : ℕ) (h : Answer) (edges : List (Bool × ℕ)) (rest : ℕ) (a : Answer) where
  broken : (r : Reading) (p : Bool) → window_after (state r false lasted elapsed h p) false t
      ≡ state Spoilt false (longer r lasted t) (min (elapsed + t) (2 ^ 32 - 1)) h p
      → TellsOf (state r false lasted elapsed h p) ((false, t) ∷ edges) rest a → a ≡ Damaged
  broken r p is told =
      spoilt_tells edges false (longer r lasted t) (min (elapsed + t) (2 ^ 32 - 1)) h p rest a (subst (λ w. TellsOf w edges rest a) is told)

  late : (r : Reading) (p : Bool) → nat_lt t 2400 ≡ false → TellsOf (state r false lasted elapsed h p) ((false, t) ∷ edges) rest a → a ≡ Damaged
  late r p over told =
      damaged_tells edges (window_after (state r false lasted elapsed h p) false t) rest a (rw (over, never_early elapsed t over) refl) told

  soon : (r : Reading) (p : Bool) → (r ≡ Idle → p ≡ false → is_early elapsed t ≡ false) → nat_lt t 2400 ≡ true
      → TellsOf (state r false lasted elapsed h p) ((false, t) ∷ edges) rest a → a ≡ Damaged
  soon Idle true after few told =
      damaged_tells edges (window_after (state Idle false lasted elapsed h true) false t) rest a (missed_after_pulse t lasted elapsed h) told
  soon Idle false after few told =
      damaged_tells edges (window_after (state Idle false lasted elapsed h false) false t) rest a
      (missed_late t lasted elapsed h false (after refl refl)) told
  soon First p after few told = broken First p (step First false false t lasted elapsed h p few refl) told
  soon (Between v) p after few told = broken (Between v) p (step (Between v) false false t lasted elapsed h p few refl) told
  soon (Middle v) p after few told = broken (Middle v) p (step (Middle v) false false t lasted elapsed h p few refl) told
  soon Spoilt p after few told = broken Spoilt p (step Spoilt false false t lasted elapsed h p few refl) told

pub missed_tells : (w : Window) (since rest : ℕ) (edges : List (Bool × ℕ)) (a : Answer) → w.receiver.is_low ≡ false
    → (IsBeforeLow w → 2400 ≤ w.elapsed + since) → told_after (window_after_all (window_after w false since) edges) rest ≡ Some a → a ≡ Damaged
missed_tells w since rest edges a high after told =
    go w.receiver.reading w.receiver.is_low w.receiver.lasted w.elapsed w.heard w.has_pulse high
    (λ idle none. test (after (record { reading = idle; high = high; none = none }))) told
  where
    test : 2400 ≤ w.elapsed + since → is_early w.elapsed since ≡ false
    test least = grind (arith, nat_tests)

    go : (r : Reading) (low : Bool) (lasted elapsed : ℕ) (h : Answer) (p : Bool) → low ≡ false
        → (r ≡ Idle → p ≡ false → is_early elapsed since ≡ false)
        → TellsOf (state r low lasted elapsed h p) ((false, since) ∷ edges) rest a → a ≡ Damaged
    go r true lasted elapsed h p high after told = absurd (cc)
    go r false lasted elapsed h p high after told = by (nat_lt since 2400) refl where
      by : (b : Bool) → nat_lt since 2400 ≡ b → a ≡ Damaged
      by true few = soon since elapsed lasted h edges rest a r p after few told
      by false over = late since elapsed lasted h edges rest a r p over told
