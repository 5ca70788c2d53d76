use Rattle.std.proofs.Common.{◌≡◌, ℕ, ◌+◌, ◌<◌, Bool, true, false, suc, List, [], ◌∷◌, refl, sym, ap, ◌∙◌, arith, length, get_or, Option, Some, None}
use Rattle.std.proofs.Common.{if◌then◌else◌, ◌&&◌, ◌==◌}
use Rattle.dali_frame.specs.{Random.value_of, declared.frames.Answer.Answer, declared.frames.Answer.TheVariants.Silence}
use Rattle.dali_frame.specs.declared.{frames.Answer.TheVariants.Byte, frames.Answer.TheVariants.Damaged, numbers.SearchAddress.SearchAddress}
use Rattle.dali_special.specs.{Command.is_question, Command.program_data, declared.command.Command.Command, declared.command.Command.TheVariants.Compare}
use Rattle.dali_special.specs.declared.command.{Command.TheVariants.Verify, Command.TheVariants.QueryShort, Command.TheVariants.RandomByte, Part.Part}
use Rattle.dali_gear.specs.Gear.{Gear, fresh, answer, is_active, is_found, has_short, byte_at}
use Rattle.dali_gear.specs.{Row.takes, Row.option_cons, Row.answers_of, Row.heard_of, declared.row.Reach.TheVariants.Everyone}
use Rattle.dali_script.proofs.Transactions.{equal, self}
use Rattle.dali_events.proofs.Invariant.Sending.{takes_powered}

-- WHICH GEAR ANSWER, by what is heard if nothing is disturbed

-- gear i answers
pub record Replies (c : Command) (gs : List Gear) (i : ℕ) : Type 0 where
  pub in_row : i < length gs
  pub powered : (get_or gs i fresh).powered ≡ true
  pub byte : ℕ
  pub reply : answer c (get_or gs i fresh) ≡ Some byte

one_later : (c : Command) (g : Gear) (gs : List Gear) (i : ℕ) → Replies c gs i → Replies c (g ∷ gs) (suc i)
one_later c g gs i k = record { in_row = let inside : i < length gs = k.in_row in omega arith; powered = k.powered; byte = k.byte; reply = k.reply }

one_from : (c : Command) (k : ℕ) (gs : List Gear) (v : ℕ) (rest : List ℕ) → answers_of Everyone c k gs ≡ v ∷ rest
    → (i : ℕ) × Replies c gs i × (answer c (get_or gs i fresh) ≡ Some v)
one_from c k [] v rest e = absurd (cc)
one_from c k (g ∷ gs) v rest e = go (takes Everyone k g) (answer c g) refl refl e (one_from c (k + 1) gs v rest) where
  go : (t : Bool) (o : Option ℕ) → takes Everyone k g ≡ t → answer c g ≡ o
      → option_cons (if t then o else None) (answers_of Everyone c (k + 1) gs) ≡ v ∷ rest
      → (answers_of Everyone c (k + 1) gs ≡ v ∷ rest → (i : ℕ) × Replies c gs i × (answer c (get_or gs i fresh) ≡ Some v))
      → (i : ℕ) × Replies c (g ∷ gs) i × (answer c (get_or (g ∷ gs) i fresh) ≡ Some v)
  go false o t is e more = let k = more e in (suc k.0, one_later c g gs k.0 k.1, k.2)
  go true None t is e more = let k = more e in (suc k.0, one_later c g gs k.0 k.1, k.2)
  go true (Some u) t is e more =
      let same : u ≡ v = cc in
      (0, record { in_row = omega arith; powered = takes_powered Everyone k g t; byte = u; reply = is }, is ∙ ap (λ n. Some n) same)

pub record Two (c : Command) (gs : List Gear) : Type 0 where
  pub first : ℕ
  pub second : ℕ
  pub order : first < second
  pub replies : Replies c gs first
  pub replies_too : Replies c gs second

two_later : (c : Command) (g : Gear) (gs : List Gear) → Two c gs → Two c (g ∷ gs)
two_later c g gs k = record {
  first = suc k.first;
  second = suc k.second;
  order = let before : k.first < k.second = k.order in omega arith;
  replies = one_later c g gs k.first k.replies;
  replies_too = one_later c g gs k.second k.replies_too;
}

two_from : (c : Command) (k : ℕ) (gs : List Gear) (u v : ℕ) (rest : List ℕ) → answers_of Everyone c k gs ≡ u ∷ v ∷ rest → Two c gs
two_from c k [] u v rest e = absurd (cc)
two_from c k (g ∷ gs) u v rest e = go (takes Everyone k g) (answer c g) refl refl e (two_from c (k + 1) gs u v rest) where
  go : (t : Bool) (o : Option ℕ) → takes Everyone k g ≡ t → answer c g ≡ o
      → option_cons (if t then o else None) (answers_of Everyone c (k + 1) gs) ≡ u ∷ v ∷ rest
      → (answers_of Everyone c (k + 1) gs ≡ u ∷ v ∷ rest → Two c gs) → Two c (g ∷ gs)
  go false o t is e more = two_later c g gs (more e)
  go true None t is e more = two_later c g gs (more e)
  go true (Some n) t is e more =
      let rest_is : answers_of Everyone c (k + 1) gs ≡ v ∷ rest = cc in
      let j = one_from c (k + 1) gs v rest rest_is in
      record {
        first = 0;
        second = suc j.0;
        order = omega arith;
        replies = record { in_row = omega arith; powered = takes_powered Everyone k g t; byte = n; reply = is };
        replies_too = one_later c g gs j.0 j.1;
      }

-- several answer if a damaged answer is heard
pub several : (c : Command) (gs : List Gear) → Damaged ≡ heard_of (answers_of Everyone c 0 gs) → Two c gs
several c gs e = go (answers_of Everyone c 0 gs) refl e where
  go : (bytes : List ℕ) → answers_of Everyone c 0 gs ≡ bytes → Damaged ≡ heard_of bytes → Two c gs
  go [] is e = absurd (cc)
  go (u ∷ []) is e = absurd (cc)
  go (u ∷ v ∷ rest) is e = two_from c 0 gs u v rest is

-- a gear answers what is heard as a byte
pub somebody : (c : Command) (gs : List Gear) (v : ℕ) → Byte v ≡ heard_of (answers_of Everyone c 0 gs)
    → (i : ℕ) × Replies c gs i × (answer c (get_or gs i fresh) ≡ Some v)
somebody c gs v e = go (answers_of Everyone c 0 gs) refl e where
  go : (bytes : List ℕ) → answers_of Everyone c 0 gs ≡ bytes → Byte v ≡ heard_of bytes → (i : ℕ) × Replies c gs i × (answer c (get_or gs i fresh) ≡ Some v)
  go [] is e = absurd (cc)
  go (u ∷ []) is e = let same : u ≡ v = cc in one_from c 0 gs v [] (is ∙ ap (λ n. n ∷ []) same)
  go (u ∷ w ∷ rest) is e = absurd (cc)

-- no gear answers what is no question
reply_none : (c : Command) (g : Gear) → is_question c ≡ false → answer c g ≡ None
reply_none Compare g e = absurd (cc)
reply_none (Verify a) g e = absurd (cc)
reply_none QueryShort g e = absurd (cc)
reply_none (RandomByte a part) g e = absurd (cc)
reply_none _ g e = refl

none_from : (c : Command) (k : ℕ) (gs : List Gear) → is_question c ≡ false → answers_of Everyone c k gs ≡ []
none_from c k [] q = refl
none_from c k (g ∷ gs) q = go (takes Everyone k g) (none_from c (k + 1) gs q) where
  go : (t : Bool) → answers_of Everyone c (k + 1) gs ≡ [] → option_cons (if t then answer c g else None) (answers_of Everyone c (k + 1) gs) ≡ []
  go true rest = rw (reply_none c g q, rest) refl
  go false rest = rest

pub silent : (c : Command) (gs : List Gear) (h : Answer) → h ≡ heard_of (answers_of Everyone c 0 gs) → is_question c ≡ false → h ≡ Silence
silent c gs h e q = e ∙ ap heard_of (none_from c 0 gs q)

-- what a gear that answers is
pub query_replies : (g : Gear) (v : ℕ) → answer QueryShort g ≡ Some v → (is_active g.state ≡ true) × (is_found g ≡ true)
query_replies g v e = go (is_active g.state) (is_found g) refl refl e where
  go : (t f : Bool) → is_active g.state ≡ t → is_found g ≡ f → (if t && f then Some (program_data g.short) else None) ≡ Some v
      → (is_active g.state ≡ true) × (is_found g ≡ true)
  go true true active found e = (active, found)
  go true false active found e = absurd (cc)
  go false f active found e = absurd (cc)

pub byte_replies : (g : Gear) (a v : ℕ) (part : Part) → answer (RandomByte a part) g ≡ Some v → g.short ≡ Some a
byte_replies g a v part e = go g.short refl e where
  go : (o : Option ℕ) → g.short ≡ o → (if has_short a o then Some (byte_at part g.random) else None) ≡ Some v → g.short ≡ Some a
  go None is e = absurd (cc)
  go (Some n) is e = at (a == n) refl e where
    at : (m : Bool) → (a == n) ≡ m → (if m then Some (byte_at part g.random) else None) ≡ Some v → g.short ≡ Some a
    at true same e = is ∙ ap (λ k. Some k) (sym (equal a n same))
    at false same e = absurd (cc)

pub found_here : (g : Gear) (r : SearchAddress) → g.search ≡ r → g.random ≡ value_of r → is_found g ≡ true
found_here g r search random = rw (search, random) (self (value_of r))
