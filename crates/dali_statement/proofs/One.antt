use Rattle.std.proofs.Common.{◌≡◌, ◌⊎◌, inl, inr, ℕ, ◌<◌, ◌+◌, ◌*◌, Bool, true, false, refl, sym, ap, ◌∙◌, arith, List, [], ◌∷◌, ◌++◌, Option, Some, None}
use Rattle.std.specs.Prelude.{◌==◌, ◌&&◌, ◌||◌, if◌then◌else◌, option_map, unwrap_or, is_some}
use Rattle.dali_statement.{proofs.Tests.{both, first_of_both, second_of_both, either, equal, equals, some_is, holds_is}, specs.Page.{Part, High, Middle, Low}}
use Rattle.dali_statement.specs.Page.{same, number, Command, Terminate, Initialise, Randomise, Search, Program, QueryShort, QueryRandom, Other, Gear, is_found}
use Rattle.dali_statement.specs.Page.{code, takes, holds, Heard, Byte, Nothing, Site, byte, byte_sent, number_sent, is_vacant, is_open, tells, may_miss}
use Rattle.dali_statement.specs.Page.{may_send}

-- ONE GEAR, in a transaction that has said this.

-- its short address is one
abbrev pub IsShort : Gear → Type 0
IsShort x = (a : ℕ) → x.short ≡ Some a → a < 64

pub record Knows (said : List (Command × Heard)) (x : Gear) : Type 0 where
  pub bytes : (q : Part) (v : ℕ) → byte_sent q said ≡ Some v → x.live ≡ true → x.search q ≡ v
  pub vacant : (r : ℕ) → is_vacant said ≡ true → number_sent said ≡ Some r → r < 0xFFFFFF → x.live ≡ true → x.random ≡ r → x.short ≡ None
  pub opened : is_open said ≡ true → x.live ≡ true → x.short ≡ None

none_is : {A : Type 0} {a : A} → None ≡ Some a → ⊥
none_is {A} {a} e = absurd (cc)

some_none : {A : Type 0} {a : A} {o : Option A} → o ≡ Some a → o ≡ None → ⊥
some_none {A} {a} {o} e f = absurd (cc)

false_is : false ≡ true → ⊥
false_is e = absurd (cc)

pub knows_nothing : (x : Gear) → Knows [] x
knows_nothing x = record {
  bytes = λ q v e live. absurd (none_is e);
  vacant = λ r e sent few live is. absurd (false_is e);
  opened = λ e live. absurd (false_is e);
}

-- ---------------------------------------------------------------- the number that was sent

numbered : (h m l : Option ℕ) (f : Part → ℕ) (r : ℕ)
    → (if is_some h && (is_some m && is_some l) then Some (unwrap_or h 0 * 65536 + unwrap_or m 0 * 256 + unwrap_or l 0) else None) ≡ Some r
    → ((v : ℕ) → h ≡ Some v → f High ≡ v) → ((v : ℕ) → m ≡ Some v → f Middle ≡ v) → ((v : ℕ) → l ≡ Some v → f Low ≡ v) → number f ≡ r
numbered (Some h) (Some m) (Some l) f r e high middle low = rw (high h refl, middle m refl, low l refl) (some_is e)
numbered _ _ _ f r e high middle low = absurd (none_is e)

-- a live gear has the number as search address
pub searched : (said : List (Command × Heard)) (x : Gear) (r : ℕ) → Knows said x → number_sent said ≡ Some r → x.live ≡ true → number x.search ≡ r
searched said x r knows sent live =
    numbered (byte_sent High said) (byte_sent Middle said) (byte_sent Low said) x.search r sent
    (λ v e. knows.bytes High v e live) (λ v e. knows.bytes Middle v e live) (λ v e. knows.bytes Low v e live)

pub found_live : (x : Gear) → is_found x ≡ true → x.live ≡ true
found_live x e = first_of_both _ _ e

pub found_random : (x : Gear) → is_found x ≡ true → x.random ≡ number x.search
found_random x e = equal _ _ (second_of_both _ _ e)

pub found_at : (x : Gear) → x.live ≡ true → x.random ≡ number x.search → is_found x ≡ true
found_at x live at = go x.live live (equals _ _ at) where
  go : (b : Bool) → b ≡ true → (x.random == number x.search) ≡ true → (b && (x.random == number x.search)) ≡ true
  go true is e = e
  go false is e = absurd (false_is is)

-- what is reserved for the number that was sent
pub reserved_by : (test : ℕ → Bool) (o : Option ℕ) → unwrap_or (option_map test o) false ≡ true → (r : ℕ) × (o ≡ Some r) × (test r ≡ true)
reserved_by test None e = absurd (false_is e)
reserved_by test (Some r) e = (r, refl, e)

-- what a sender has reserved is for numbers below FFFFFF
abbrev pub Few : Site → ℕ → Type 0
Few s c = (a r : ℕ) → s.reserved c a ≡ Some r → r < 0xFFFFFF

-- whom PROGRAM finds has no short address, and the new one is reserved for its number
pub vacant_by : (s : Site) (c b : ℕ) (x : Gear) → Few s c → Knows (s.said c) x → may_send s c (Program (Some b)) ≡ true → is_found x ≡ true
    → (x.short ≡ None) × (s.reserved c b ≡ Some x.random)
vacant_by s c b x few knows may found =
    let sent = reserved_by (λ r. holds r (s.reserved c b)) (number_sent (s.said c)) (second_of_both _ _ may) in
    let at : x.random ≡ sent.0 = found_random x found ∙ searched (s.said c) x sent.0 knows sent.1 (found_live x found) in
    let has : s.reserved c b ≡ Some sent.0 = holds_is sent.0 (s.reserved c b) sent.2 in (
      knows.vacant sent.0 (first_of_both _ _ may) sent.1 (few b sent.0 has) (found_live x found) at,
      has ∙ ap (λ r. Some r) (sym at),
    )

-- ---------------------------------------------------------------- what it has it keeps

pub kept_by : (s : Site) (c : ℕ) (m : Command) (n a : ℕ) (x : Gear) → Few s c → Knows (s.said c) x → may_send s c m ≡ true → x.short ≡ Some a
    → ((takes m n x).short ≡ Some a) × ((takes m n x).random ≡ x.random)
kept_by s c Randomise n a x few knows may is = (is, go x.live refl) where
  go : (b : Bool) → x.live ≡ b → (if b then n else x.random) ≡ x.random
  go true live = absurd (some_none is (knows.opened may live))
  go false live = refl
kept_by s c (Program None) n a x few knows may is = absurd (false_is may)
kept_by s c (Program (Some b)) n a x few knows may is = (go (is_found x) refl, refl) where
  go : (t : Bool) → is_found x ≡ t → (if t then Some b else x.short) ≡ Some a
  go true found = absurd (some_none is (vacant_by s c b x few knows may found).0)
  go false found = is
kept_by s c _ n a x few knows may is = (is, refl)

-- an address that it did not have was reserved for its number
abbrev pub Given : Site → ℕ → ℕ → Gear → Type 0
Given s c a x = s.reserved c a ≡ Some x.random

pub new_by : (s : Site) (c : ℕ) (m : Command) (n a : ℕ) (x : Gear) → Few s c → Knows (s.said c) x → may_send s c m ≡ true → (takes m n x).short ≡ Some a
    → (x.short ≡ Some a) ⊎ (Given s c a x × ((takes m n x).random ≡ x.random))
new_by s c (Program None) n a x few knows may is = absurd (false_is may)
new_by s c (Program (Some b)) n a x few knows may is = go (is_found x) refl is where
  go : (t : Bool) → is_found x ≡ t → (if t then Some b else x.short) ≡ Some a → (x.short ≡ Some a) ⊎ (Given s c a x × (x.random ≡ x.random))
  go true found new = inr (ap (λ d. s.reserved c d) (sym (some_is new)) ∙ (vacant_by s c b x few knows may found).1, refl)
  go false found new = inl new
new_by s c _ n a x few knows may is = inl is

-- ---------------------------------------------------------------- what it knows

-- what was heard of it, after these frames
abbrev pub HeardOf : List (Command × Heard) → Command → Heard → Gear → Type 0
HeardOf said QueryShort (Byte v) x = (r : ℕ) → number_sent said ≡ Some r → r < 0xFFFFFF → x.random ≡ r → code x.short ≡ v
HeardOf said _ _ x = Unit {0}

code_is_mask : (o : Option ℕ) → ((a : ℕ) → o ≡ Some a → a < 64) → code o ≡ 0xFF → o ≡ None
code_is_mask None short e = refl
code_is_mask (Some a) short e = absurd (let b : a < 64 = short a refl in omega arith)

pub knows_after : (s : Site) (c : ℕ) (m : Command) (h : Heard) (n : ℕ) (x : Gear) → IsShort x → Knows (s.said c) x → may_send s c m ≡ true
    → HeardOf (s.said c) m h x
    → Knows ((m, h) ∷ s.said c) (takes m n x)
knows_after s c Terminate h n x short knows may heard = record {
  bytes = λ q v e live. absurd (false_is live);
  vacant = λ r e sent few live is. absurd (false_is live);
  opened = λ e live. absurd (false_is live);
}
knows_after s c (Initialise d) h n x short knows may heard = record {
  bytes = λ q v e live. absurd (none_is e);
  vacant = λ r e sent few live is. absurd (none_is sent);
  opened = λ e live. go e (either x.live ((d == 0) || (d == code x.short)) live);
} where
  go : is_open (s.said c) ≡ true → (x.live ≡ true) ⊎ (((d == 0) || (d == code x.short)) ≡ true) → x.short ≡ None
  go e (inl live) = knows.opened e live
  go e (inr new) = by (equal d 0xFF may) (either (d == 0) (d == code x.short) new) where
    by : d ≡ 0xFF → ((d == 0) ≡ true) ⊎ ((d == code x.short) ≡ true) → x.short ≡ None
    by mask (inl zero) = absurd (let is : d ≡ 0 = equal d 0 zero in omega arith)
    by mask (inr own) = code_is_mask x.short short (sym (equal d (code x.short) own) ∙ mask)
knows_after s c Randomise h n x short knows may heard = record {
  bytes = knows.bytes;
  vacant = λ r e sent few live is. knows.opened may live;
  opened = λ e live. knows.opened may live;
}
knows_after s c (Search p v) h n x short knows may heard = record {
  bytes = λ q w e live. go q w x.live live e (knows.bytes q w);
  vacant = λ r e sent few live is. absurd (false_is e);
  opened = knows.opened;
} where
  go : (q : Part) (w : ℕ) (l : Bool) → l ≡ true → (if same q p then Some v else byte_sent q (s.said c)) ≡ Some w
      → (byte_sent q (s.said c) ≡ Some w → l ≡ true → x.search q ≡ w) → (if l && same q p then v else x.search q) ≡ w
  go q w false live e was = absurd (false_is live)
  go q w true live e was = by (same q p) e where
    by : (t : Bool) → (if t then Some v else byte_sent q (s.said c)) ≡ Some w → (if t then v else x.search q) ≡ w
    by true e = some_is e
    by false e = was e refl
knows_after s c (Program None) h n x short knows may heard = absurd (false_is may)
knows_after s c (Program (Some b)) h n x short knows may heard = record {
  bytes = knows.bytes;
  vacant = λ r e sent few live is. absurd (false_is e);
  opened = λ e live. absurd (false_is e);
}
knows_after s c QueryShort (Byte v) n x short knows may heard = record {
  bytes = knows.bytes;
  vacant = λ r e sent few live is. go r sent few live is (either (v == 0xFF) (is_vacant (s.said c)) e);
  opened = knows.opened;
} where
  go : (r : ℕ) → number_sent (s.said c) ≡ Some r → r < 0xFFFFFF → x.live ≡ true → x.random ≡ r
      → ((v == 0xFF) ≡ true) ⊎ (is_vacant (s.said c) ≡ true) → x.short ≡ None
  go r sent few live is (inr was) = knows.vacant r was sent few live is
  go r sent few live is (inl mask) = code_is_mask x.short short (heard r sent few is ∙ equal v 0xFF mask)
knows_after s c QueryShort Nothing n x short knows may heard = record { bytes = knows.bytes; vacant = knows.vacant; opened = knows.opened }
knows_after s c _ _ n x short knows may heard = record { bytes = knows.bytes; vacant = knows.vacant; opened = knows.opened }

-- what a gear knows that missed INITIALISE or RANDOMISE
pub knows_missed : (said : List (Command × Heard)) (m : Command) (h : Heard) (x : Gear) → may_miss m ≡ true → Knows said x → Knows ((m, h) ∷ said) x
knows_missed said (Initialise d) h x miss knows = record {
  bytes = λ q v e live. absurd (none_is e);
  vacant = λ r e sent few live is. absurd (none_is sent);
  opened = knows.opened;
}
knows_missed said Randomise h x miss knows = record { bytes = knows.bytes; vacant = knows.vacant; opened = knows.opened }
knows_missed said m h x miss knows = absurd (false_is miss)

-- ---------------------------------------------------------------- a list that is longer

-- a sender may forget the oldest of its list: what the rest allows, the whole list allows
byte_longer : (q : Part) (v : ℕ) (said older : List (Command × Heard)) → byte_sent q said ≡ Some v → byte_sent q (said ++ older) ≡ Some v
byte_longer q v ((Search r w, h) ∷ said) older e = go (same q r) e (byte_longer q v said older) where
  go : (t : Bool) → (if t then Some w else byte_sent q said) ≡ Some v → (byte_sent q said ≡ Some v → byte_sent q (said ++ older) ≡ Some v)
      → (if t then Some w else byte_sent q (said ++ older)) ≡ Some v
  go true is more = is
  go false is more = more is
byte_longer q v ((Terminate, h) ∷ said) older e = byte_longer q v said older e
byte_longer q v ((Randomise, h) ∷ said) older e = byte_longer q v said older e
byte_longer q v ((Program a, h) ∷ said) older e = byte_longer q v said older e
byte_longer q v ((QueryShort, h) ∷ said) older e = byte_longer q v said older e
byte_longer q v ((QueryRandom a r, h) ∷ said) older e = byte_longer q v said older e
byte_longer q v ((Other, h) ∷ said) older e = byte_longer q v said older e
byte_longer q v _ older e = absurd (none_is e)

pub vacant_longer : (said older : List (Command × Heard)) → is_vacant said ≡ true → is_vacant (said ++ older) ≡ true
vacant_longer ((QueryShort, Byte v) ∷ said) older e = go (v == 0xFF) e (vacant_longer said older) where
  go : (t : Bool) → (t || is_vacant said) ≡ true → (is_vacant said ≡ true → is_vacant (said ++ older) ≡ true) → (t || is_vacant (said ++ older)) ≡ true
  go true is more = refl
  go false is more = more is
vacant_longer ((QueryShort, Nothing) ∷ said) older e = vacant_longer said older e
vacant_longer ((Terminate, h) ∷ said) older e = vacant_longer said older e
vacant_longer ((Initialise d, h) ∷ said) older e = vacant_longer said older e
vacant_longer ((Randomise, h) ∷ said) older e = vacant_longer said older e
vacant_longer ((QueryRandom a r, h) ∷ said) older e = vacant_longer said older e
vacant_longer ((Other, h) ∷ said) older e = vacant_longer said older e
vacant_longer _ older e = absurd (false_is e)

pub open_longer : (said older : List (Command × Heard)) → is_open said ≡ true → is_open (said ++ older) ≡ true
open_longer ((Terminate, h) ∷ said) older e = refl
open_longer ((Initialise d, h) ∷ said) older e = open_longer said older e
open_longer ((Randomise, h) ∷ said) older e = open_longer said older e
open_longer ((Search r w, h) ∷ said) older e = open_longer said older e
open_longer ((QueryShort, h) ∷ said) older e = open_longer said older e
open_longer ((QueryRandom a r, h) ∷ said) older e = open_longer said older e
open_longer ((Other, h) ∷ said) older e = open_longer said older e
open_longer _ older e = absurd (false_is e)

pub number_longer : (said older : List (Command × Heard)) (r : ℕ) → number_sent said ≡ Some r → number_sent (said ++ older) ≡ Some r
number_longer said older r e =
    go (byte_sent High said) refl (byte_sent Middle said) refl (byte_sent Low said) refl e where
      go : (h : Option ℕ) → byte_sent High said ≡ h → (m : Option ℕ) → byte_sent Middle said ≡ m → (l : Option ℕ) → byte_sent Low said ≡ l
          → (if is_some h && (is_some m && is_some l) then Some (unwrap_or h 0 * 65536 + unwrap_or m 0 * 256 + unwrap_or l 0) else None) ≡ Some r
          → number_sent (said ++ older) ≡ Some r
      go (Some h) high (Some m) middle (Some l) low e =
          rw (byte_longer High h said older high, byte_longer Middle m said older middle, byte_longer Low l said older low) e
      go _ high _ middle _ low e = absurd (none_is e)

-- what the rest allows, and tells
pub may_longer : (s : Site) (c : ℕ) (newest older : List (Command × Heard)) (m : Command) → s.said c ≡ newest ++ older
    → may_send (record s { said = λ d. newest }) c m ≡ true → may_send s c m ≡ true
may_longer s c newest older (Program None) said may = may
may_longer s c newest older (Program (Some a)) said may =
    let sent = reserved_by (λ r. holds r (s.reserved c a)) (number_sent newest) (second_of_both _ _ may) in
    ap (λ l. is_vacant l && unwrap_or (option_map (λ r. holds r (s.reserved c a)) (number_sent l)) false) said
    ∙ both (vacant_longer newest older (first_of_both _ _ may))
    (ap (λ o. unwrap_or (option_map (λ r. holds r (s.reserved c a)) o) false) (number_longer newest older sent.0 sent.1) ∙ sent.2)
may_longer s c newest older (Initialise d) said may = may
may_longer s c newest older Randomise said may = ap is_open said ∙ open_longer newest older may
may_longer s c newest older _ said may = refl

pub tells_longer : (m : Command) (h : Heard) (newest older : List (Command × Heard)) (q : Part) (a v : ℕ) → tells m h newest q a v ≡ true
    → tells m h (newest ++ older) q a v ≡ true
tells_longer QueryShort (Byte w) newest older q a v e = go (number_sent newest) refl (second_of_both _ _ e) where
  go : (o : Option ℕ) → number_sent newest ≡ o → holds v (option_map (byte q) o) ≡ true
      → ((w == code (Some a)) && holds v (option_map (byte q) (number_sent (newest ++ older)))) ≡ true
  go None sent is = absurd (false_is is)
  go (Some r) sent is = both (first_of_both _ _ e) (ap (λ o. holds v (option_map (byte q) o)) (number_longer newest older r sent) ∙ is)
tells_longer (QueryRandom b r) (Byte w) newest older q a v e = e
tells_longer _ _ newest older q a v e = absurd (false_is e)
