use Rattle.std.proofs.Common.{◌≡◌, ℕ, zero, suc, ◌+◌, ◌*◌, ◌/◌, ◌%◌, ◌<◌, ◌≤◌, Bool, true, false, List, [], ◌∷◌, ◌++◌, length, ◌⊎◌, inl, inr, refl, sym, ap}
use Rattle.std.proofs.Common.{subst, ◌∙◌, arith, nat_lt, nat_le, ◌&&◌, if◌then◌else◌}
use Rattle.std.{proofs.lemmas.Bool.Decides.nat_tests, specs.List.AllByRecursion}
use Rattle.dali_frame.specs.declared.frames.Forward.{Forward as Sent}
use Rattle.dali_wire.specs.Grid.{Tells, value_of, begun_at, Within, low_where, answer_levels, bus_of, first_low, IsHeard}
use Rattle.dali_wire.specs.{Levels.bits_of, Levels.levels_of, Levels.highs, Levels.backward_bits, Reception.frame_of}
use Rattle.dali_wire.specs.declared.receiver.Frame.TheVariants.{Forward, Backward, Device, Damaged}
use Rattle.dali_wire.{specs.declared.receiver.Reading.TheVariants.Idle, proofs.Sound.from_idle}
use Rattle.dali_wire.proofs.Values.{few_bits, length_bits, value_back, start_first}

-- ANSWERS THAT DRIVE THE BUS TOGETHER. The lows of each lie within the lows of the bus, which has one low in each bit that is told, and
-- none after the last of them.

-- an answer that began with the bus has its bits
same_bits : (bits sent : List Bool) (m : ℕ) → Within (levels_of sent) (levels_of bits ++ highs m) → 2 ≤ m → length bits ≤ length sent → bits ≡ sent
same_bits [] [] m h more few = refl
same_bits [] (b ∷ sent) zero h more few = absurd (omega arith)
same_bits [] (b ∷ sent) (suc zero) h more few = absurd (omega arith)
same_bits [] (true ∷ sent) (suc (suc m)) h more few = absurd h
same_bits [] (false ∷ sent) (suc (suc m)) h more few = absurd h
same_bits (b ∷ bits) [] m h more few = absurd (omega arith)
same_bits (true ∷ bits) (true ∷ sent) m h more few = ap (λ bs. true ∷ bs) (same_bits bits sent m h more (omega arith))
same_bits (false ∷ bits) (false ∷ sent) m h more few = ap (λ bs. false ∷ bs) (same_bits bits sent m h more (omega arith))
same_bits (true ∷ bits) (false ∷ sent) m h more few = absurd h
same_bits (false ∷ bits) (true ∷ sent) m h more few = absurd h

-- one that began a half bit beside its bits has a low in the stop condition
beside : (x : Bool) (bits sent : List Bool) (m : ℕ) → Within (x ∷ levels_of sent) (levels_of bits ++ highs m) → 3 ≤ m
    → length bits < length sent → ⊥
beside x bits [] m h more few = omega arith
beside x [] (b ∷ sent) zero h more few = omega arith
beside x [] (b ∷ sent) (suc zero) h more few = omega arith
beside x [] (b ∷ sent) (suc (suc zero)) h more few = omega arith
beside true [] (b ∷ sent) (suc (suc (suc m))) h more few = h
beside false [] (true ∷ sent) (suc (suc (suc m))) h more few = h
beside false [] (false ∷ sent) (suc (suc (suc m))) h more few = h
beside true (true ∷ bits) (true ∷ sent) m h more few = h
beside true (true ∷ bits) (false ∷ sent) m h more few = beside true bits sent m h more (omega arith)
beside true (false ∷ bits) (b ∷ sent) m h more few = h
beside false (true ∷ bits) (true ∷ sent) m h more few = h
beside false (true ∷ bits) (false ∷ sent) m h more few = beside true bits sent m h more (omega arith)
beside false (false ∷ bits) (true ∷ sent) m h more few = beside false bits sent m h more (omega arith)
beside false (false ∷ bits) (false ∷ sent) m h more few = beside true bits sent m h more (omega arith)

-- one that begins later begins in the stop condition, or ends there
in_stop : (begin : ℕ) (sent : List Bool) (m : ℕ) → Within (highs begin ++ (true ∷ sent)) (highs m) → begin < m → ⊥
in_stop begin sent zero h early = omega arith
in_stop zero sent (suc m) h early = h
in_stop (suc begin) sent (suc m) h early = in_stop begin sent m h (omega arith)

length_highs : (n : ℕ) → length (highs n) ≡ n
length_highs zero = refl
length_highs (suc n) = ap suc (length_highs n)

later : (begin : ℕ) (bits sent : List Bool) (m : ℕ) → Within (highs begin ++ levels_of (true ∷ sent)) (levels_of bits ++ highs m) → 3 ≤ m
    → begin < length (levels_of bits ++ highs m) → length bits ≤ length sent → ⊥
later zero bits sent m h more early few =
    let most : length bits ≤ length (true ∷ sent) = omega arith in
    let same : bits ≡ true ∷ sent = same_bits bits (true ∷ sent) m h (omega arith) most in
    let long : length bits ≡ length (true ∷ sent) = ap length same in
    omega arith
later (suc zero) bits sent m h more early few = beside false bits (true ∷ sent) m h more (omega arith)
later (suc (suc begin)) [] sent m h more early few =
    in_stop (suc (suc begin)) (false ∷ levels_of sent) m h (subst (λ (n : ℕ). suc (suc begin) < n) (length_highs m) early)
later (suc (suc begin)) (true ∷ bits) sent m h more early few = later begin bits sent m h more (omega arith) (omega arith)
later (suc (suc begin)) (false ∷ bits) sent m h more early few = later begin bits sent m h more (omega arith) (omega arith)

together : (lead begin : ℕ) (bits sent : List Bool) (m : ℕ)
    → Within (highs begin ++ levels_of (true ∷ sent)) (highs lead ++ (levels_of (true ∷ bits) ++ highs m)) → 3 ≤ m
    → begin < length (highs lead ++ (levels_of (true ∷ bits) ++ highs m)) → length bits ≤ length sent → (begin ≡ lead) × (bits ≡ sent)
together zero zero bits sent m h more early few = (refl, same_bits bits sent m h (omega arith) few)
together zero (suc zero) bits sent m h more early few = absurd h
together zero (suc (suc begin)) bits sent m h more early few = absurd (later begin bits sent m h more (omega arith) few)
together (suc lead) zero bits sent m h more early few = absurd h
together (suc lead) (suc begin) bits sent m h more early few =
    let rest = together lead begin bits sent m h more (omega arith) few in
    (ap suc rest.0, rest.1)

low_after : (lead : ℕ) (bus : List Bool) → first_low (highs lead ++ (true ∷ bus)) ≡ lead
low_after zero bus = refl
low_after (suc lead) bus = ap suc (low_after lead bus)

-- a number that is told as a byte
other_frames : (c d : Bool) (x : Sent) (n byte : ℕ) → (if c then Forward x else (if d then Device n else Damaged)) ≡ Backward byte → ⊥
other_frames true d x n byte e = cc
other_frames false true x n byte e = cc
other_frames false false x n byte e = cc

pub byte_is : (v byte : ℕ) → frame_of v ≡ Backward byte → (v < 512) × (v % 256 ≡ byte) × (256 ≤ v)
byte_is v byte h = go (nat_le 0x100 v && nat_lt v 0x200) refl h where
  small : (nat_le 0x100 v && nat_lt v 0x200) ≡ true → v < 512
  small test = grind (arith, nat_tests)

  large : (nat_le 0x100 v && nat_lt v 0x200) ≡ true → 256 ≤ v
  large test = grind (arith, nat_tests)

  go : (b : Bool) → (nat_le 0x100 v && nat_lt v 0x200) ≡ b → (if b then Backward (v % 256) else
      (if nat_le 0x10000 v && nat_lt v 0x20000 then Forward (record { address_byte = v / 256 % 256; opcode_byte = v % 256 })
      else (if nat_le 0x1000000 v && nat_lt v 0x2000000 then Device (v % 0x1000000) else Damaged))) ≡ Backward byte
      → (v < 512) × (v % 256 ≡ byte) × (256 ≤ v)
  go true test e = (small test, cc, large test)
  go false test e = absurd (other_frames (nat_le 0x10000 v && nat_lt v 0x20000) (nat_le 0x1000000 v && nat_lt v 0x2000000)
      (record { address_byte = v / 256 % 256; opcode_byte = v % 256 }) (v % 0x1000000) byte e)

no_low : (m : ℕ) (after : List Bool) → true ∷ after ≡ highs m → ⊥
no_low zero after e = cc
no_low (suc m) after e = cc

settle : (bus : List Bool) (byte begin sent lead rest : ℕ) (after bits : List Bool) → bus ≡ highs lead ++ (true ∷ after)
    → true ∷ after ≡ levels_of bits ++ highs rest → 3 ≤ rest → Backward byte ≡ frame_of (value_of 0 bits) → sent < 256
    → begin < length bus → Within (highs begin ++ levels_of (backward_bits sent)) bus → (sent ≡ byte) × (begin ≡ first_low bus)
settle bus byte begin sent lead rest after [] first levels long is small early within = absurd (no_low rest after levels)
settle bus byte begin sent lead rest after (false ∷ bits) first levels long is small early within = absurd (cc)
settle bus byte begin sent lead rest after (true ∷ bits) first levels long is small early within =
    let whole : bus ≡ highs lead ++ (levels_of (true ∷ bits) ++ highs rest) = first ∙ ap (λ ls. highs lead ++ ls) levels in
    let sends : backward_bits sent ≡ true ∷ bits_of 8 sent = start_first 8 sent in
    let number = byte_is (value_of 1 bits) byte (sym is) in
    let few : length bits ≤ 8 = few_bits bits number.0 in
    let many : length (bits_of 8 sent) ≡ 8 = length_bits 8 sent in
    let fits : length bits ≤ length (bits_of 8 sent) = omega arith in
    let here = subst (λ (bs : List Bool). Within (highs begin ++ levels_of bs) bus) sends within in
    let inside = subst (λ (b : List Bool). Within (highs begin ++ levels_of (true ∷ bits_of 8 sent)) b) whole here in
    let before = subst (λ (b : List Bool). begin < length b) whole early in
    let both = together lead begin bits (bits_of 8 sent) rest inside long before fits in
    let value : value_of 1 bits ≡ 1 * 256 + sent = ap (λ bs. value_of 1 bs) both.1 ∙ value_back 8 1 sent small in
    let same : value_of 1 bits % 256 ≡ byte = number.1 in
    let byte_same : sent ≡ byte = omega (arith, value, same) in
    (byte_same, both.0 ∙ sym (ap first_low first ∙ low_after lead after))

pub one_answer : (t : ℕ) → 334 ≤ t → t ≤ 500 → (s : ℕ) (bus : List Bool) (byte : ℕ) → Tells t Idle false s bus (Backward byte)
    → (begin sent : ℕ) → sent < 256 → begin < length bus → Within (begun_at begin (levels_of (backward_bits sent))) bus
    → (sent ≡ byte) × (begin ≡ first_low bus)
one_answer t lo hi s bus byte told begin sent small early within = go (from_idle t lo hi s bus (Backward byte) told) where
  go : (Backward byte ≡ Damaged) ⊎ IsHeard bus (Backward byte) → (sent ≡ byte) × (begin ≡ first_low bus)
  go (inl damaged) = absurd (cc)
  go (inr heard) =
      settle bus byte begin sent heard.lead heard.written.rest heard.after heard.written.bits heard.levels heard.written.levels
      heard.written.long heard.written.is small early within

-- THE BUS OF SEVERAL ANSWERS is low wherever one of them is
within_own : (levels bus : List Bool) → Within levels (low_where levels bus)
within_own [] bus = tt
within_own (low ∷ levels) [] = tt
within_own (true ∷ levels) (x ∷ bus) = within_own levels bus
within_own (false ∷ levels) (x ∷ bus) = within_own levels bus

within_more : (levels other bus : List Bool) → Within levels bus → Within levels (low_where other bus)
within_more levels [] bus h = h
within_more levels (low ∷ other) [] h = h
within_more [] (true ∷ other) (x ∷ bus) h = tt
within_more [] (false ∷ other) (x ∷ bus) h = tt
within_more (true ∷ levels) (true ∷ other) (true ∷ bus) h = within_more levels other bus h
within_more (true ∷ levels) (true ∷ other) (false ∷ bus) h = absurd h
within_more (true ∷ levels) (false ∷ other) (true ∷ bus) h = within_more levels other bus h
within_more (true ∷ levels) (false ∷ other) (false ∷ bus) h = absurd h
within_more (false ∷ levels) (true ∷ other) (x ∷ bus) h = within_more levels other bus h
within_more (false ∷ levels) (false ∷ other) (x ∷ bus) h = within_more levels other bus h

length_low : (levels bus : List Bool) → length (low_where levels bus) ≡ length bus
length_low [] bus = refl
length_low (low ∷ levels) [] = refl
length_low (true ∷ levels) (x ∷ bus) = ap suc (length_low levels bus)
length_low (false ∷ levels) (x ∷ bus) = ap suc (length_low levels bus)

length_bus : (n : ℕ) (answers : List (ℕ × ℕ)) → length (bus_of n answers) ≡ n
length_bus n [] = length_highs n
length_bus n (a ∷ answers) = length_low (answer_levels a) (bus_of n answers) ∙ length_bus n answers

still_within : (other bus : List Bool) (answers : List (ℕ × ℕ)) → AllByRecursion (λ a. Within (answer_levels a) bus) answers
    → AllByRecursion (λ a. Within (answer_levels a) (low_where other bus)) answers
still_within other bus [] h = tt
still_within other bus (a ∷ answers) h = (within_more (answer_levels a) other bus h.0, still_within other bus answers h.1)

all_within : (n : ℕ) (answers : List (ℕ × ℕ)) → AllByRecursion (λ a. Within (answer_levels a) (bus_of n answers)) answers
all_within n [] = tt
all_within n (a ∷ answers) =
    (within_own (answer_levels a) (bus_of n answers), still_within (answer_levels a) (bus_of n answers) answers (all_within n answers))

pub all_answers : (t : ℕ) → 334 ≤ t → t ≤ 500 → (s n : ℕ) (answers : List (ℕ × ℕ)) (byte : ℕ)
    → Tells t Idle false s (bus_of n answers) (Backward byte) → AllByRecursion (λ a. (a.0 < n) × (a.1 < 256)) answers
    → AllByRecursion (λ a. (a.0 ≡ first_low (bus_of n answers)) × (a.1 ≡ byte)) answers
all_answers t lo hi s n answers byte told early = go (bus_of n answers) answers (length_bus n answers) told early (all_within n answers) where
  go : (bus : List Bool) (some : List (ℕ × ℕ)) → length bus ≡ n → Tells t Idle false s bus (Backward byte)
      → AllByRecursion (λ a. (a.0 < n) × (a.1 < 256)) some → AllByRecursion (λ a. Within (answer_levels a) bus) some
      → AllByRecursion (λ a. (a.0 ≡ first_low bus) × (a.1 ≡ byte)) some
  go bus [] long told early within = tt
  go bus (a ∷ some) long told early within =
      let before : a.0 < length bus = subst (λ (k : ℕ). a.0 < k) (sym long) early.0.0 in
      let is = one_answer t lo hi s bus byte told a.0 a.1 early.0.1 before within.0 in
      ((is.1, is.0), go bus some long told early.1 within.1)
