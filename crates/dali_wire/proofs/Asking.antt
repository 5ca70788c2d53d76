use Rattle.std.proofs.Common.{◌≡◌, ℕ, ◌+◌, ◌-◌, ◌^◌, ◌<◌, ◌≤◌, min, Bool, true, false, Option, Some, None, refl, arith, nat_lt}
use Rattle.std.{proofs.lemmas.Bool.Decides.nat_tests, specs.Option.option_map}
use Rattle.dali_frame.specs.declared.frames.Answer.{Answer, TheVariants.Silence, TheVariants.Byte, TheVariants.Damaged}
use Rattle.dali_wire.specs.{Reception.frame_read, Windows.heard_after, Windows.window_after, Windows.window_at}
use Rattle.dali_wire.specs.declared.{receiver.Frame.Frame, receiver.Reading.Reading, receiver.Told.Told, window.Window.Window}

-- WHEN A FRAME BEGAN is the same, whenever it is told.
pub begun : (elapsed since lasted : ℕ) → elapsed + since < 2 ^ 32 → min (elapsed + since) (2 ^ 32 - 1) - since - lasted ≡ elapsed - lasted
begun elapsed since lasted small = omega arith

abbrev told_at : ℕ → ℕ → Option Frame → Option Told
told_at lasted since o = option_map (λ frame. record { frame = frame; lasted = lasted; since = since }) o

heard_same : (heard : Answer) (o : Option Frame) (elapsed lasted before since : ℕ) → elapsed + before < 2 ^ 32 → elapsed + since < 2 ^ 32
    → heard_after heard (told_at lasted before o) (min (elapsed + before) (2 ^ 32 - 1))
    ≡ heard_after heard (told_at lasted since o) (min (elapsed + since) (2 ^ 32 - 1))
heard_same heard None elapsed lasted before since one other = refl
heard_same Silence (Some f) elapsed lasted before since one other = rw (begun elapsed before lasted one, begun elapsed since lasted other) refl
heard_same (Byte b) (Some f) elapsed lasted before since one other = refl
heard_same Damaged (Some f) elapsed lasted before since one other = refl

abbrev window : Reading → Bool → ℕ → ℕ → Answer → Bool → Window
window reading low lasted elapsed heard pulse = record {
  receiver = record { reading = reading; is_low = low; lasted = lasted };
  elapsed = elapsed;
  heard = heard;
  has_pulse = pulse;
}

asked_edge : (reading : Reading) (was : Bool) (lasted elapsed : ℕ) (heard : Answer) (pulse : Bool) (before since : ℕ) (low : Bool) → before ≤ since
    → elapsed + since < 2 ^ 32
    → window_after (window_at (window reading was lasted elapsed heard pulse) before) low since
    ≡ window_after (window reading was lasted elapsed heard pulse) low since
asked_edge reading true lasted elapsed heard pulse before since low order small = refl
asked_edge reading false lasted elapsed heard pulse before since low order small = go (nat_lt before 2400) refl where
  go : (b : Bool) → nat_lt before 2400 ≡ b
      → window_after (window_at (window reading false lasted elapsed heard pulse) before) low since
      ≡ window_after (window reading false lasted elapsed heard pulse) low since
  go true test = rw test refl
  go false test =
      let later : nat_lt since 2400 ≡ false = grind (arith, nat_tests) in
      let same = heard_same heard (frame_read reading) elapsed lasted before since (omega arith) small in
      rw (test, later) (cc)

asked_time : (reading : Reading) (was : Bool) (lasted elapsed : ℕ) (heard : Answer) (pulse : Bool) (before since : ℕ) → before ≤ since
    → elapsed + since < 2 ^ 32
    → window_at (window_at (window reading was lasted elapsed heard pulse) before) since ≡ window_at (window reading was lasted elapsed heard pulse) since
asked_time reading true lasted elapsed heard pulse before since order small = refl
asked_time reading false lasted elapsed heard pulse before since order small = go (nat_lt before 2400) refl where
  go : (b : Bool) → nat_lt before 2400 ≡ b
      → window_at (window_at (window reading false lasted elapsed heard pulse) before) since ≡ window_at (window reading false lasted elapsed heard pulse) since
  go true test = rw test refl
  go false test =
      let later : nat_lt since 2400 ≡ false = grind (arith, nat_tests) in
      let same = heard_same heard (frame_read reading) elapsed lasted before since (omega arith) small in
      rw (test, later) (cc)

-- A WINDOW MAY BE ASKED at any time: it goes on as if it had not been.
pub edge_after_asking : (w : Window) (before since : ℕ) (low : Bool) → before ≤ since → w.elapsed + since < 2 ^ 32
    → window_after (window_at w before) low since ≡ window_after w low since
edge_after_asking w = asked_edge w.receiver.reading w.receiver.is_low w.receiver.lasted w.elapsed w.heard w.has_pulse

pub time_after_asking : (w : Window) (before since : ℕ) → before ≤ since → w.elapsed + since < 2 ^ 32
    → window_at (window_at w before) since ≡ window_at w since
time_after_asking w = asked_time w.receiver.reading w.receiver.is_low w.receiver.lasted w.elapsed w.heard w.has_pulse
