use Rattle.std.proofs.Common.{◌≡◌, ℕ, ◌<◌, arith}
use Rattle.dali_frame.specs.Random.{number_of, high_of, middle_of, low_of}

-- THREE BYTES ARE THOSE OF THEIR NUMBER.
pub high_back : (h m l : ℕ) → m < 256 → l < 256 → high_of (number_of h m l) ≡ h
high_back h m l small smaller = omega arith

pub middle_back : (h m l : ℕ) → m < 256 → l < 256 → middle_of (number_of h m l) ≡ m
middle_back h m l small smaller = omega arith

pub low_back : (h m l : ℕ) → m < 256 → l < 256 → low_of (number_of h m l) ≡ l
low_back h m l small smaller = omega arith
