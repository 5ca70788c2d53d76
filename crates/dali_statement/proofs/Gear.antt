use Rattle.std.proofs.Common.{◌≡◌, ◌⊎◌, inl, inr, ℕ, ◌<◌, ◌+◌, ◌*◌, Bool, true, false, refl, sym, ap, ◌∙◌, arith, Option, Some, None, ◌==◌, ◌&&◌, ◌||◌}
use Rattle.std.proofs.Common.{if◌then◌else◌, IfSome}
use Rattle.dali_frame.specs.{Random.value_of, declared.numbers.SearchAddress.SearchAddress}
use Rattle.dali_special.specs.{Command.{target_data, is_send_twice, IsSpelled}, declared.command.{Command.Command as Read, Part.Part as AskedPart}}
use Rattle.dali_special.specs.declared.command.Target.{Target, TheVariants.{Addressed, Unaddressed}}
use Rattle.dali_gear.specs.Gear.{Gear as Real, is_active, is_second, concerns, after_frame, answer_to, with_power, without_power, gear_expired, gear_quieted}
use Rattle.dali_gear.specs.declared.state.InitialisationState.{InitialisationState, TheVariants.{Disabled, Enabled, Withdrawn}}
use Rattle.dali_statement.specs.{Gear.{part_seen, command_seen, byte_in, gear_seen, HasShort}, Page.{Part, High, Middle, Low, same, Gear, is_found, code}}
use Rattle.dali_statement.{specs.Page.{takes, answer, QueryShort, QueryRandom}, proofs.Tests.{equal, equals}}
use mathlib.Core.Path.{fun_ext}
use Rattle.dali_special.specs.declared.command.Command.TheVariants as read
use Rattle.dali_special.specs.declared.command.Part.TheVariants as asked

-- GEAR TAKE FRAMES as the page says.

abbrev made : Bool → ℕ → (Part → ℕ) → Option ℕ → Gear
made live random search short = record { live = live; random = random; search = search; short = short }

equal_gear : (x y : Gear) → x.live ≡ y.live → x.random ≡ y.random → ((p : Part) → x.search p ≡ y.search p) → x.short ≡ y.short → x ≡ y
equal_gear x y live random search short =
    ap (λ v. made v x.random x.search x.short) live ∙ (ap (λ v. made y.live v x.search x.short) random
    ∙ (ap (λ f. made y.live y.random f x.short) (fun_ext search) ∙ ap (λ v. made y.live y.random y.search v) short))

abbrev real : Bool → InitialisationState → ℕ → SearchAddress → Option ℕ → Option Read → Real
real powered state random search short half = record { powered = powered; state = state; random = random; search = search; short = short; half = half }

-- ---------------------------------------------------------------- frames that are no pair

high_set : (t : Bool) (a : SearchAddress) (v : ℕ) (p : Part)
    → byte_in (if t then record a { high = v } else a) p ≡ (if t && same p High then v else byte_in a p)
high_set true a v High = refl
high_set _ a v _ = refl

middle_set : (t : Bool) (a : SearchAddress) (v : ℕ) (p : Part)
    → byte_in (if t then record a { middle = v } else a) p ≡ (if t && same p Middle then v else byte_in a p)
middle_set true a v High = refl
middle_set _ a v _ = refl

low_set : (t : Bool) (a : SearchAddress) (v : ℕ) (p : Part) → byte_in (if t then record a { low = v } else a) p ≡ (if t && same p Low then v else byte_in a p)
low_set true a v High = refl
low_set _ a v _ = refl

active : (t : Bool) → is_active (if t then Withdrawn else Enabled) ≡ true
active true = refl
active false = refl

-- the same, of a gear with power and of one without
step_of : (c : Read) (draw n : ℕ) (b : Bool) (st : InitialisationState) (r : ℕ) (a : SearchAddress) (sh : Option ℕ) (hf : Option Read)
    → is_send_twice c ≡ false → gear_seen (after_frame c draw (real b st r a sh hf)) ≡ takes (command_seen c) n (gear_seen (real b st r a sh hf))
step_of read.Terminate draw n false st r a sh hf e = refl
step_of (read.Initialise t) draw n b st r a sh hf e = absurd (cc)
step_of read.Randomise draw n b st r a sh hf e = absurd (cc)
step_of read.Compare draw n false st r a sh hf e = refl
step_of read.Withdraw draw n true Enabled r a sh hf e = ap (λ l. made l r (λ p. byte_in a p) sh) (active (r == value_of a))
step_of (read.SearchHigh v) draw n true st r a sh hf e = equal_gear _ _ refl refl (high_set (is_active st) a v) refl
step_of (read.SearchMiddle v) draw n true st r a sh hf e = equal_gear _ _ refl refl (middle_set (is_active st) a v) refl
step_of (read.SearchLow v) draw n true st r a sh hf e = equal_gear _ _ refl refl (low_set (is_active st) a v) refl
step_of (read.Program s) draw n false st r a sh hf e = refl
step_of (read.Verify s) draw n false st r a sh hf e = refl
step_of read.QueryShort draw n false st r a sh hf e = refl
step_of (read.RandomByte s q) draw n false st r a sh hf e = refl
step_of (read.Arc f) draw n false st r a sh hf e = refl
step_of (read.Other f) draw n false st r a sh hf e = refl
step_of _ draw n _ _ r a sh hf e = refl

pub step : (c : Read) (draw n : ℕ) (g : Real) → is_send_twice c ≡ false → gear_seen (after_frame c draw g) ≡ takes (command_seen c) n (gear_seen g)
step c draw n g e = step_of c draw n g.powered g.state g.random g.search g.short g.half e

-- ---------------------------------------------------------------- pairs

one_code : (a b : ℕ) → (a == b) ≡ ((2 * a + 1 == 0) || (2 * a + 1 == 2 * b + 1))
one_code a b = go (a == b) (2 * a + 1 == 0) (2 * a + 1 == 2 * b + 1) refl refl refl where
  go : (t u v : Bool) → (a == b) ≡ t → (2 * a + 1 == 0) ≡ u → (2 * a + 1 == 2 * b + 1) ≡ v → t ≡ (u || v)
  go t true v same zero code = absurd (let e : 2 * a + 1 ≡ 0 = equal (2 * a + 1) 0 zero in omega arith)
  go true false false same zero code =
      absurd (let e : a ≡ b = equal a b same in let f : true ≡ false = sym (equals (2 * a + 1) (2 * b + 1) (ap (λ k. 2 * k + 1) e)) ∙ code in cc)
  go false false true same zero code =
      absurd (let e : 2 * a + 1 ≡ 2 * b + 1 = equal (2 * a + 1) (2 * b + 1) code in
      let d : a ≡ b = omega arith in let f : true ≡ false = sym (equals a b d) ∙ same in cc)
  go _ false _ same zero code = refl

no_mask : (a : ℕ) → a < 64 → false ≡ ((2 * a + 1 == 0) || (2 * a + 1 == 0xFF))
no_mask a small = go (2 * a + 1 == 0) (2 * a + 1 == 0xFF) refl refl where
  go : (u v : Bool) → (2 * a + 1 == 0) ≡ u → (2 * a + 1 == 0xFF) ≡ v → false ≡ (u || v)
  go true v zero mask = absurd (let e : 2 * a + 1 ≡ 0 = equal (2 * a + 1) 0 zero in omega arith)
  go false true zero mask = absurd (let e : 2 * a + 1 ≡ 0xFF = equal (2 * a + 1) 0xFF mask in omega arith)
  go false false zero mask = refl

mask_is_not : (b : ℕ) → b < 64 → false ≡ (0xFF == 2 * b + 1)
mask_is_not b small = go (0xFF == 2 * b + 1) refl where
  go : (v : Bool) → (0xFF == 2 * b + 1) ≡ v → false ≡ v
  go true mask = absurd (let e : 0xFF ≡ 2 * b + 1 = equal 0xFF (2 * b + 1) mask in omega arith)
  go false mask = refl

concerned : (t : Target) (sh : Option ℕ) → IsSpelled (read.Initialise t) → IfSome sh (λ a. a < 64)
    → concerns t sh ≡ ((target_data t == 0) || (target_data t == code sh))
concerned (Addressed a) (Some b) small short = one_code a b
concerned (Addressed a) None small short = no_mask a small
concerned Unaddressed (Some b) small short = mask_is_not b short
concerned _ _ small short = refl

wakes : (k : Bool) (st : InitialisationState) → is_active (if k then Enabled else st) ≡ (is_active st || k)
wakes true Disabled = refl
wakes false Disabled = refl
wakes _ _ = refl

pair_of : (c : Read) (draw : ℕ) (b : Bool) (st : InitialisationState) (r : ℕ) (a : SearchAddress) (sh : Option ℕ) (hf : Option Read)
    → is_send_twice c ≡ true → IsSpelled c → IfSome sh (λ n. n < 64)
    → (gear_seen (after_frame c draw (real b st r a sh hf)) ≡ gear_seen (real b st r a sh hf))
    ⊎ (gear_seen (after_frame c draw (real b st r a sh hf)) ≡ takes (command_seen c) draw (gear_seen (real b st r a sh hf)))
pair_of (read.Initialise t) draw false st r a sh hf e spelled short = inl refl
pair_of (read.Initialise t) draw true st r a sh hf e spelled short = go (is_second (read.Initialise t) hf) where
  go : (w : Bool) → (made (is_active (if w && concerns t sh then Enabled else st)) r (λ p. byte_in a p) sh ≡ made (is_active st) r (λ p. byte_in a p) sh)
      ⊎ (made (is_active (if w && concerns t sh then Enabled else st)) r (λ p. byte_in a p) sh
      ≡ made (is_active st || ((target_data t == 0) || (target_data t == code sh))) r (λ p. byte_in a p) sh)
  go false = inl refl
  go true = inr (ap (λ v. made v r (λ p. byte_in a p) sh) (wakes (concerns t sh) st ∙ ap (λ k. is_active st || k) (concerned t sh spelled short)))
pair_of read.Randomise draw false st r a sh hf e spelled short = inl refl
pair_of read.Randomise draw true st r a sh hf e spelled short = go (is_second read.Randomise hf) where
  go : (w : Bool) → (made (is_active st) (if w && is_active st then draw else r) (λ p. byte_in a p) sh ≡ made (is_active st) r (λ p. byte_in a p) sh)
      ⊎ (made (is_active st) (if w && is_active st then draw else r) (λ p. byte_in a p) sh
      ≡ made (is_active st) (if is_active st then draw else r) (λ p. byte_in a p) sh)
  go false = inl refl
  go true = inr refl
pair_of _ draw b st r a sh hf e spelled short = absurd (cc)

pub pair : (c : Read) (draw : ℕ) (g : Real) → is_send_twice c ≡ true → IsSpelled c → HasShort g
    → (gear_seen (after_frame c draw g) ≡ gear_seen g) ⊎ (gear_seen (after_frame c draw g) ≡ takes (command_seen c) draw (gear_seen g))
pair c draw g e spelled short = pair_of c draw g.powered g.state g.random g.search g.short g.half e spelled short

-- ---------------------------------------------------------------- answers, power and time

query_of : (b : Bool) (st : InitialisationState) (r : ℕ) (a : SearchAddress) (sh : Option ℕ) (hf : Option Read)
    → answer_to read.QueryShort (real b st r a sh hf) ≡ answer QueryShort (gear_seen (real b st r a sh hf))
query_of true Enabled r a None hf = refl
query_of _ _ r a _ hf = refl

pub query : (g : Real) → answer_to read.QueryShort g ≡ answer QueryShort (gear_seen g)
query g = query_of g.powered g.state g.random g.search g.short g.half

turned : (s n : ℕ) → (s == n) ≡ (n == s)
turned s n = go (s == n) (n == s) refl refl where
  go : (t u : Bool) → (s == n) ≡ t → (n == s) ≡ u → t ≡ u
  go true false e f = absurd (let is : true ≡ false = sym (equals n s (sym (equal s n e))) ∙ f in cc)
  go false true e f = absurd (let is : true ≡ false = sym (equals s n (sym (equal n s f))) ∙ e in cc)
  go _ _ e f = refl

same_test : (x v : ℕ) (t u : Bool) → t ≡ u → (if t then Some x else None) ≡ Some v → (if u then Some x else None) ≡ Some v
same_test x v t u is e = ap (λ k. if k then Some x else None) (sym is) ∙ e

random_of : (s v : ℕ) (q : AskedPart) (b : Bool) (st : InitialisationState) (r : ℕ) (a : SearchAddress) (sh : Option ℕ) (hf : Option Read)
    → answer_to (read.RandomByte s q) (real b st r a sh hf) ≡ Some v → answer (QueryRandom s (part_seen q)) (gear_seen (real b st r a sh hf)) ≡ Some v
random_of s v q false st r a sh hf e = absurd (cc)
random_of s v q true st r a None hf e = e
random_of s v asked.High true st r a (Some n) hf e = same_test _ v (s == n) (n == s) (turned s n) e
random_of s v _ true st r a (Some n) hf e = same_test _ v (s == n) (n == s) (turned s n) e

pub random : (s v : ℕ) (q : AskedPart) (g : Real) → answer_to (read.RandomByte s q) g ≡ Some v → answer (QueryRandom s (part_seen q)) (gear_seen g) ≡ Some v
random s v q g e = random_of s v q g.powered g.state g.random g.search g.short g.half e

-- a gear that takes part and has the search address is found on the page
found_of : (b : Bool) (st : InitialisationState) (r : ℕ) (a : SearchAddress) (sh : Option ℕ) (hf : Option Read) → b ≡ true
    → (is_active st && (r == value_of a)) ≡ true → is_found (gear_seen (real b st r a sh hf)) ≡ true
found_of true st r a sh hf on e = e
found_of false st r a sh hf on e = absurd (cc)

pub found : (g : Real) → g.powered ≡ true → (is_active g.state && (g.random == value_of g.search)) ≡ true → is_found (gear_seen g) ≡ true
found g on e = found_of g.powered g.state g.random g.search g.short g.half on e

pub power_off : (g : Real) → gear_seen (without_power g) ≡ record (gear_seen g) { live = false; search = λ p. 0xFF }
power_off g = refl

power_on_of : (b : Bool) (st : InitialisationState) (r : ℕ) (a : SearchAddress) (sh : Option ℕ) (hf : Option Read)
    → gear_seen (with_power (real b st r a sh hf)) ≡ gear_seen (real b st r a sh hf)
power_on_of true st r a sh hf = refl
power_on_of false st r a sh hf = equal_gear _ _ refl refl each refl where
  each : (p : Part) → byte_in (record { high = 0xFF; middle = 0xFF; low = 0xFF }) p ≡ 0xFF
  each High = refl
  each _ = refl

pub power_on : (g : Real) → gear_seen (with_power g) ≡ gear_seen g
power_on g = power_on_of g.powered g.state g.random g.search g.short g.half

expired_of : (b : Bool) (st : InitialisationState) (r : ℕ) (a : SearchAddress) (sh : Option ℕ) (hf : Option Read)
    → gear_seen (gear_expired (real b st r a sh hf)) ≡ record (gear_seen (real b st r a sh hf)) { live = false }
expired_of true st r a sh hf = refl
expired_of false st r a sh hf = refl

pub expired : (g : Real) → gear_seen (gear_expired g) ≡ record (gear_seen g) { live = false }
expired g = expired_of g.powered g.state g.random g.search g.short g.half

pub quieted : (g : Real) → gear_seen (gear_quieted g) ≡ gear_seen g
quieted g = refl
