use Rattle.std.proofs.Common.{◌≡◌, ℕ, ◌+◌, ◌-◌, ◌<◌, ◌≤◌, Bool, true, false, List, refl, sym, ap, subst, ◌∙◌, arith, Option, Some, None, ◌&&◌, ◌||◌, not, ◌==◌}
use Rattle.std.proofs.Common.{nat_lt, if◌then◌else◌}
use Rattle.std.{proofs.lemmas.Bool.Decides.nat_tests, specs.Prelude.unwrap_or}
use Rattle.dali_frame.specs.{Short.short_of, declared.frames.Answer.Answer, declared.frames.Answer.TheVariants.Silence, declared.frames.Answer.TheVariants.Byte}
use Rattle.dali_frame.specs.declared.{frames.Answer.TheVariants.Damaged, frames.Forward.Forward, numbers.SearchAddress.SearchAddress}
use Rattle.dali_special.specs.Command.{MASK, command_of, is_question, is_send_twice}
use Rattle.dali_special.specs.declared.command.Command.{Command, TheVariants.Terminate, TheVariants.Initialise, TheVariants.Randomise, TheVariants.Compare}
use Rattle.dali_special.specs.declared.command.Command.TheVariants.{Withdraw, SearchHigh, SearchMiddle, SearchLow, Program, QueryShort, RandomByte, Arc}
use Rattle.dali_special.specs.declared.command.Part.TheVariants.{High, Middle, Low}
use Rattle.dali_special.{specs.declared.command.Target.TheVariants.Unaddressed, proofs.Table.one_frame}
use Rattle.dali_capture.specs.declared.item.Item.{Item}
use Rattle.dali_capture.specs.declared.item.Heard.TheVariants as heard
use Rattle.dali_script.specs.{Records.Assignment, Scripts.is_asking, Scripts.MayGive, Stages.Follows}
use Rattle.dali_script.specs.Stages.{next_stage, hunted, doubted, queried, named, verified, answered, byte_heard, bytes_heard, number_heard, may_follow}
use Rattle.dali_script.{specs.declared.block.Block.Block, specs.declared.stage.Stage.Stage, proofs.Giving.may_give_by}
use Rattle.dali_script.proofs.Transactions.{asks_hunting, positive, middle_next, low_next, middle_same, low_same}
use Rattle.dali_script.specs.declared.stage.Stage.TheVariants as stage
use Rattle.dali_audit.specs.Bus.{repeats, completes, same_frame, addresses, unless_acting, begun_after, sent_by, byte_heard as spelled_on}
use Rattle.dali_audit.specs.{declared.bus.Bus.Bus, declared.bus.First.First, declared.bus.Search.Search, declared.bus.Spelled.Spelled}
use Rattle.dali_audit.specs.declared.bus.Spelled.TheVariants as spelled
use Rattle.dali_audit_laws.specs.{Capture.is_randomise, Capture.rest_before, Capture.item_at, Undisturbed.AwaitsMore}

-- WHAT A STAGE OF THE RUNNING TRANSACTION SAYS OF THE BUS as the audit knows it, variable by variable

-- the first frame of a pair ended when the bus came to rest
abbrev pub IsHalf : Command → ℕ → Option First → Type 0
IsHalf c now half = (g : Forward) × (t : ℕ) × (command_of g ≡ c) × (now ≡ t + 14167) × (half ≡ Some (record { frame = g; at = t; is_told = false }))

abbrev pub Half : Stage → ℕ → Bool → Option First → Type 0
Half stage.InitialisedOnce now drew half = IsHalf (Initialise Unaddressed) now half × (drew ≡ false)
Half stage.RandomisedOnce now drew half = IsHalf Randomise now half
Half _ now drew half = half ≡ None

-- gear have had their time to draw, unless RANDOMISE was the last frame
abbrev pub IsRested : ℕ → Bool → Option ℕ → Type 0
IsRested now drew drawn = (t : ℕ) → drawn ≡ Some t → (t ≤ now) × (drew ≡ false → t + 100000 ≤ now)

abbrev pub Drawn : Stage → ℕ → Bool → Option ℕ → Type 0
Drawn stage.Free now drew drawn = IsRested now drew drawn
Drawn stage.Opened now drew drawn = IsRested now drew drawn
Drawn stage.Over now drew drawn = IsRested now drew drawn
Drawn _ now drew drawn = drawn ≡ None

abbrev pub Given : Stage → Option ℕ → Type 0
Given (stage.Programmed r a) given = Unit {0}
Given _ given = given ≡ None

abbrev pub IsAt : SearchAddress → Search → Type 0
IsAt r s = (s.high ≡ Some r.high) × (s.middle ≡ Some r.middle) × (s.low ≡ Some r.low)

abbrev pub Sought : Stage → Search → Type 0
Sought (stage.HighSent high) s = s.high ≡ Some high
Sought (stage.MiddleSent high middle) s = (s.high ≡ Some high) × (s.middle ≡ Some middle)
Sought (stage.NumberSent r) s = IsAt r s
Sought (stage.Unnamed r) s = IsAt r s
Sought (stage.Programmed r a) s = IsAt r s
Sought _ s = Unit {0}

abbrev pub Told : Stage → Spelled → Type 0
Told (stage.HighAsked a (Some high)) sp = sp ≡ spelled.High a high
Told (stage.HighAsked a None) sp = sp ≡ spelled.Nothing
Told (stage.MiddleAsked a (Some bytes)) sp = sp ≡ spelled.Middle a bytes.0 bytes.1
Told (stage.MiddleAsked a None) sp = sp ≡ spelled.Nothing
Told _ sp = Unit {0}

-- between TERMINATE and RANDOMISE no gear with a short address takes part
abbrev pub Spares : Stage → Bool → Type 0
Spares stage.Terminated may = may ≡ false
Spares stage.InitialisedOnce may = may ≡ false
Spares stage.Initialised may = may ≡ false
Spares (stage.WokenHigh high) may = may ≡ false
Spares (stage.WokenMiddle high middle) may = may ≡ false
Spares stage.DrawFree may = may ≡ false
Spares stage.RandomisedOnce may = may ≡ false
Spares _ may = Unit {0}

-- Q holds after TERMINATE, F of the search address at which a gear without short address answered, M of what was programmed
abbrev pub Answered : (SearchAddress → Type 0) → Stage → Type 0
Answered F (stage.Unnamed r) = F r
Answered F _ = Unit {0}

abbrev pub Reserved : (SearchAddress → ℕ → Type 0) → Stage → Type 0
Reserved M (stage.Programmed r a) = M r a
Reserved M _ = Unit {0}

abbrev pub Quieted : Type 0 → Stage → Type 0
Quieted Q stage.Terminated = Q
Quieted Q _ = Unit {0}

pub record Fits (Q : Type 0) (F : SearchAddress → Type 0) (M : SearchAddress → ℕ → Type 0) (s : Stage) (now : ℕ) (drew : Bool) (b : Bus) : Type 0 where
  pub half : Half s now drew b.half
  pub drawn : Drawn s now drew b.drawn
  pub given : Given s b.given
  pub search : Sought s b.search
  pub spelled : Told s b.spelled
  pub redraw : Spares s b.may_redraw
  pub quieted : Quieted Q s
  pub answered : Answered F s
  pub reserved : Reserved M s

-- ---------------------------------------------------------------- one frame, by its command
abbrev pub half_by : Command → Bool → Item → Forward → Option First → Option First
half_by c second x f half = if not (is_send_twice c) || second then None else Some (record { frame = f; at = x.at; is_told = repeats half f })

abbrev pub passed_by : Command → Bool → Item → Forward → Bus → Bus
passed_by c second x f b = record b {
  half = half_by c second x f b.half;
  begun = begun_after x f b.begun;
  drawn = if addresses c then None else b.drawn;
  given = unless_acting c b.given;
}

abbrev pub bus_by : Command → Bool → Bool → Item → Forward → Answer → Bus → Bus
bus_by c again second x f h b = record (sent_by c again second x h (passed_by c second x f b)) { settled = Some x.until }

abbrev pub item_of : ℕ → Bool → Command → Forward → Item
item_of now drew c f = item_at (now + rest_before drew c) (heard.Forward f)

-- ---------------------------------------------------------------- pairs
same : (n : ℕ) → (n == n) ≡ true
same n = grind (arith, nat_tests)

pub same_frames : (f : Forward) → same_frame f f ≡ true
same_frames f = rw (same f.address_byte, same f.opcode_byte) refl

-- no pair is half, or this is its second frame, in time
pub data Paired (half : Option First) (f : Forward) (until : ℕ) : Type 0 where
  alone : half ≡ None → Paired half f until
  twice : (t : ℕ) → half ≡ Some (record { frame = f; at = t; is_told = false }) → until ≤ t + 100000 → Paired half f until

second_of : (c : Command) (now until : ℕ) (half : Option First) (f : Forward) → command_of f ≡ c → until ≡ now + 14178 + 14167 → IsHalf c now half
    → Paired half f until
second_of c now until half f e is k =
    let one : k.0 ≡ f = one_frame k.0 f (k.2 ∙ sym e) in
    let t : ℕ = k.1 in
    let at : now ≡ t + 14167 = k.3 in
    twice t (k.4 ∙ ap (λ g. Some (record { frame = g; at = t; is_told = false })) one) (omega arith)

rest_randomise : (drew : Bool) → rest_before drew Randomise ≡ 14178
rest_randomise false = refl
rest_randomise true = refl

pub paired : (b : Block) (xs : List Assignment) (s : Stage) (c : Command) (now : ℕ) (drew : Bool) (half : Option First) (f : Forward)
    → Follows b xs s c → command_of f ≡ c → Half s now drew half → Paired half f (item_of now drew c f).until
paired b xs stage.InitialisedOnce (Initialise Unaddressed) now drew half f on e k =
    second_of (Initialise Unaddressed) now _ half f e (rw k.1 refl) k.0
paired b xs stage.RandomisedOnce Randomise now drew half f on e k = second_of Randomise now _ half f e (rw rest_randomise refl) k
paired b xs stage.InitialisedOnce _ now drew half f on e k = absurd (let none = on.leads_on in cc)
paired b xs stage.RandomisedOnce _ now drew half f on e k = absurd (let none = on.leads_on in cc)
paired b xs _ _ now drew half f on e k = alone k

pub completed_none : (half : Option First) (f : Forward) (until : ℕ) → half ≡ None → completes half until f ≡ false
completed_none half f until e = rw e refl

pub completed : (half : Option First) (f : Forward) (until t : ℕ) → half ≡ Some (record { frame = f; at = t; is_told = false }) → until ≤ t + 100000
    → completes half until f ≡ true
completed half f until t e late = rw (e, same_frames f, early) refl where
  early : nat_lt 100000 (until - t) ≡ false
  early = grind (arith, nat_tests)

pub repeated : (half : Option First) (f : Forward) (t : ℕ) → half ≡ Some (record { frame = f; at = t; is_told = false }) → repeats half f ≡ true
repeated half f t e = rw (e, same_frames f) refl

-- ---------------------------------------------------------------- the bus after a frame
module _ (Q P : Type 0) (F G : SearchAddress → Type 0) (L : SearchAddress → ℕ → Type 0) (b : Block) (xs : List Assignment) (now later : ℕ) (drew : Bool)
    (f : Forward) (h : Answer) (bus : Bus) (again second : Bool) where
  -- what fits after a command that led to a stage
  abbrev Goes : Stage → Command → Type 0
  Goes s c = Fits P G (MayGive b xs) s later (is_randomise c) (bus_by c again second (item_of now drew c f) f h bus)

  -- a stage that says nothing but that no pair is half
  abbrev Plain : Stage → Type 0
  Plain (stage.Unanswered r) = Unit {0}
  Plain (stage.Inconclusive r other) = Unit {0}
  Plain (stage.Found r a) = Unit {0}
  Plain (stage.Confirmed r a) = Unit {0}
  Plain (stage.Withdrawn r a) = Unit {0}
  Plain (stage.Probed r a) = Unit {0}
  Plain (stage.PassedOver r) = Unit {0}
  Plain (stage.Hunted r last left) = Unit {0}
  Plain (stage.LowSent r a) = Unit {0}
  Plain (stage.WokenLow r a) = Unit {0}
  Plain stage.DrawBarred = Unit {0}
  Plain (stage.Spelled r a) = Unit {0}
  Plain _ = ⊥

  plain_fits : (s : Stage) (c : Command) → Plain s → (bus_by c again second (item_of now drew c f) f h bus).half ≡ None
      → (bus_by c again second (item_of now drew c f) f h bus).drawn ≡ None → (bus_by c again second (item_of now drew c f) f h bus).given ≡ None → Goes s c
  plain_fits (stage.Unanswered r) c is half drawn given =
      record { half = half; drawn = drawn; given = given; search = tt; spelled = tt; redraw = tt; quieted = tt; answered = tt; reserved = tt }
  plain_fits (stage.Inconclusive r other) c is half drawn given =
      record { half = half; drawn = drawn; given = given; search = tt; spelled = tt; redraw = tt; quieted = tt; answered = tt; reserved = tt }
  plain_fits (stage.Found r a) c is half drawn given =
      record { half = half; drawn = drawn; given = given; search = tt; spelled = tt; redraw = tt; quieted = tt; answered = tt; reserved = tt }
  plain_fits (stage.Confirmed r a) c is half drawn given =
      record { half = half; drawn = drawn; given = given; search = tt; spelled = tt; redraw = tt; quieted = tt; answered = tt; reserved = tt }
  plain_fits (stage.Withdrawn r a) c is half drawn given =
      record { half = half; drawn = drawn; given = given; search = tt; spelled = tt; redraw = tt; quieted = tt; answered = tt; reserved = tt }
  plain_fits (stage.Probed r a) c is half drawn given =
      record { half = half; drawn = drawn; given = given; search = tt; spelled = tt; redraw = tt; quieted = tt; answered = tt; reserved = tt }
  plain_fits (stage.PassedOver r) c is half drawn given =
      record { half = half; drawn = drawn; given = given; search = tt; spelled = tt; redraw = tt; quieted = tt; answered = tt; reserved = tt }
  plain_fits (stage.Hunted r last left) c is half drawn given =
      record { half = half; drawn = drawn; given = given; search = tt; spelled = tt; redraw = tt; quieted = tt; answered = tt; reserved = tt }
  plain_fits (stage.LowSent r a) c is half drawn given =
      record { half = half; drawn = drawn; given = given; search = tt; spelled = tt; redraw = tt; quieted = tt; answered = tt; reserved = tt }
  plain_fits (stage.WokenLow r a) c is half drawn given =
      record { half = half; drawn = drawn; given = given; search = tt; spelled = tt; redraw = tt; quieted = tt; answered = tt; reserved = tt }
  plain_fits stage.DrawBarred c is half drawn given =
      record { half = half; drawn = drawn; given = given; search = tt; spelled = tt; redraw = tt; quieted = tt; answered = tt; reserved = tt }
  plain_fits (stage.Spelled r a) c is half drawn given =
      record { half = half; drawn = drawn; given = given; search = tt; spelled = tt; redraw = tt; quieted = tt; answered = tt; reserved = tt }
  plain_fits _ c is half drawn given = absurd is

  -- the first frame of a pair
  first_half : (c : Command) → command_of f ≡ c → is_send_twice c ≡ true → second ≡ false → bus.half ≡ None
      → later ≡ now + rest_before drew c + 14167 → IsHalf c later (half_by c second (item_of now drew c f) f bus.half)
  first_half c e pairs one none at = rw (pairs, one, none) (f, now + rest_before drew c, e, at, refl)

  -- and its second
  second_half : (c : Command) → IsHalf c now bus.half → Paired bus.half f (item_of now drew c f).until
      → completes bus.half (item_of now drew c f).until f ≡ true
  second_half c k (alone none) = absurd (let some = k.4 in cc)
  second_half c k (twice t is in_time) = completed bus.half f _ t is in_time

  -- WHAT WAS ASKED, by what was heard
  queried_fits : (r : SearchAddress) → ((v : ℕ) → h ≡ Byte v → G r) → Fits Q F L (stage.NumberSent r) now drew bus → Goes (queried r h) QueryShort
  queried_fits r answering k = go h refl where
    named_fits : (v : ℕ) (o : Option ℕ) (m : Bool) → h ≡ Byte v → Goes (named r o m) QueryShort
    named_fits v (Some a) m is = plain_fits (stage.Found r a) QueryShort tt refl refl refl
    named_fits v None true is =
        record {
          half = refl;
          drawn = refl;
          given = refl;
          search = k.search;
          spelled = tt;
          redraw = tt;
          quieted = tt;
          answered = answering v is;
          reserved = tt;
        }
    named_fits v None false is = plain_fits (stage.Inconclusive r None) QueryShort tt refl refl refl

    go : (x : Answer) → h ≡ x → Goes (queried r x) QueryShort
    go Silence is = plain_fits (stage.Unanswered r) QueryShort tt refl refl refl
    go Damaged is = plain_fits (stage.Inconclusive r None) QueryShort tt refl refl refl
    go (Byte v) is = named_fits v (short_of v) (v == MASK) is

  verified_fits : (r : SearchAddress) (a : ℕ) → Goes (verified r a h) QueryShort
  verified_fits r a = go h where
    other : (o : Option ℕ) → Goes (stage.Inconclusive r o) QueryShort
    other o = plain_fits (stage.Inconclusive r o) QueryShort tt refl refl refl

    same_one : (n : ℕ) (m : Bool) → Goes (if m then stage.Confirmed r a else stage.Inconclusive r (Some n)) QueryShort
    same_one n true = plain_fits (stage.Confirmed r a) QueryShort tt refl refl refl
    same_one n false = other (Some n)

    read : (o : Option ℕ) → Goes (answered r a o) QueryShort
    read None = other None
    read (Some n) = same_one n (n == a)

    go : (x : Answer) → Goes (verified r a x) QueryShort
    go Silence = other None
    go Damaged = other None
    go (Byte v) = read (short_of v)

  doubted_fits : bus.may_redraw ≡ false → Goes (doubted h) Compare
  doubted_fits spared = go h where
    go : (x : Answer) → Goes (doubted x) Compare
    go Silence =
        record { half = refl; drawn = refl; given = refl; search = tt; spelled = tt; redraw = spared; quieted = tt; answered = tt; reserved = tt }
    go (Byte v) = plain_fits stage.DrawBarred Compare tt refl refl refl
    go Damaged = plain_fits stage.DrawBarred Compare tt refl refl refl

  high_told : (a : ℕ) (x : Answer) (sp : Spelled) → Told (stage.HighAsked a (byte_heard x)) (spelled_on a High x sp)
  high_told a Silence sp = refl
  high_told a Damaged sp = refl
  high_told a (Byte v) sp = refl

  middle_told : (a : ℕ) (high : Option ℕ) (x : Answer) (sp : Spelled) → Told (stage.HighAsked a high) sp
      → Told (stage.MiddleAsked a (bytes_heard high x)) (spelled_on a Middle x sp)
  middle_told a (Some high) Silence sp k = refl
  middle_told a (Some high) Damaged sp k = refl
  middle_told a (Some high) (Byte v) sp k = rw (k, same a) refl
  middle_told a None Silence sp k = refl
  middle_told a None Damaged sp k = refl
  middle_told a None (Byte v) sp k = rw k refl

  middle_fits : (a c : ℕ) (high : Option ℕ) → c ≡ a → Fits Q F L (stage.HighAsked a high) now drew bus
      → Goes (next_stage (stage.HighAsked a high) (RandomByte c Middle) h) (RandomByte c Middle)
  middle_fits a c high is k = subst (λ n. Goes (next_stage (stage.HighAsked a high) (RandomByte n Middle) h) (RandomByte n Middle)) (sym is)
      (subst (λ s. Goes s (RandomByte a Middle)) (sym (middle_next a high h))
      (record {
        half = refl;
        drawn = refl;
        given = refl;
        search = tt;
        spelled = middle_told a high h bus.spelled k.spelled;
        redraw = tt;
        quieted = tt;
        answered = tt;
        reserved = tt;
      }))

  low_fits : (a c : ℕ) (bytes : Option (ℕ × ℕ)) → c ≡ a → Goes (next_stage (stage.MiddleAsked a bytes) (RandomByte c Low) h) (RandomByte c Low)
  low_fits a c bytes is = subst (λ n. Goes (next_stage (stage.MiddleAsked a bytes) (RandomByte n Low) h) (RandomByte n Low)) (sym is)
      (subst (λ s. Goes s (RandomByte a Low)) (sym (low_next a bytes h))
      (plain_fits (stage.Spelled a (number_heard bytes h)) (RandomByte a Low) tt refl refl refl))

  hunted_fits : (r : SearchAddress) (last : Option Answer) (left : ℕ) (c : Command) → Follows b xs (stage.Hunted r last left) c → bus.given ≡ None
      → Goes (next_stage (stage.Hunted r last left) c h) c
  hunted_fits r last left c on none = rw (positive left asks.0) (asked c asks.1) where
    asks : (0 < left) × (is_asking c ≡ true)
    asks = asks_hunting r last left c on.leads_on

    asked : (c : Command) → is_asking c ≡ true → Goes (unwrap_or (hunted r (left - 1) c h) stage.Over) c
    asked (SearchHigh high) asks = plain_fits (stage.Hunted _ None (left - 1)) (SearchHigh high) tt refl refl none
    asked (SearchMiddle middle) asks = plain_fits (stage.Hunted _ None (left - 1)) (SearchMiddle middle) tt refl refl none
    asked (SearchLow low) asks = plain_fits (stage.Hunted _ None (left - 1)) (SearchLow low) tt refl refl none
    asked Compare asks = plain_fits (stage.Hunted _ (Some h) (left - 1)) Compare tt refl refl refl
    asked _ asks = absurd (cc)

  arc_rested : (g : Forward) → now + rest_before drew (Arc g) + 14167 ≤ later → IsRested now drew bus.drawn → IsRested later false bus.drawn
  arc_rested g late k t e = go drew late (k t e) where
    go : (d : Bool) → now + rest_before d (Arc g) + 14167 ≤ later → (t ≤ now) × (d ≡ false → t + 100000 ≤ now)
        → (t ≤ later) × (false ≡ false → t + 100000 ≤ later)
    go true late k = let before : t ≤ now = k.0 in (omega arith, λ w. omega arith)
    go false late k = let before : t ≤ now = k.0 in let rested : t + 100000 ≤ now = k.1 refl in (omega arith, λ w. omega arith)

  drawn_now : second ≡ true → now + rest_before drew Randomise + 14167 ≤ later → (d : Option ℕ)
      → IsRested later true (if second then Some (now + rest_before drew Randomise + 14167) else d)
  drawn_now done late d t e = (go t (sym (ap (λ m. if m then Some (now + rest_before drew Randomise + 14167) else d) done) ∙ e), λ w. absurd (cc)) where
    go : (t : ℕ) → Some (now + rest_before drew Randomise + 14167) ≡ Some t → t ≤ later
    go t e = let at : now + rest_before drew Randomise + 14167 ≡ t = cc in omega arith

  spared : (m : Bool) {may : Bool} → may ≡ false → (may || (m && false)) ≡ false
  spared true e = rw e refl
  spared false e = rw e refl

  -- A FRAME that follows at a stage
  pub fits_step : (s : Stage) (c : Command) → Follows b xs s c → command_of f ≡ c → second ≡ completes bus.half (item_of now drew c f).until f
      → now + rest_before drew c + 14167 ≤ later → (is_question c ≡ false → later ≡ now + rest_before drew c + 14167)
      → ((r : SearchAddress) (v : ℕ) → s ≡ stage.NumberSent r → c ≡ QueryShort → h ≡ Byte v → G r) → (c ≡ Terminate → P)
      → Fits Q F L s now drew bus → Goes (next_stage s c h) c
  fits_step stage.Free Terminate on e two late quiet answering ends k =
      record {
        half = refl;
        drawn = refl;
        given = refl;
        search = tt;
        spelled = tt;
        redraw = refl;
        quieted = ends refl;
        answered = tt;
        reserved = tt;
      }
  fits_step stage.Free (SearchHigh high) on e two late quiet answering ends k =
      record { half = refl; drawn = refl; given = k.given; search = refl; spelled = tt; redraw = tt; quieted = tt; answered = tt; reserved = tt }
  fits_step stage.Free (RandomByte a High) on e two late quiet answering ends k =
      record {
        half = refl;
        drawn = refl;
        given = refl;
        search = tt;
        spelled = high_told a h bus.spelled;
        redraw = tt;
        quieted = tt;
        answered = tt;
        reserved = tt;
      }
  fits_step stage.Free (Arc g) on e two late quiet answering ends k =
      record {
        half = refl;
        drawn = arc_rested g late k.drawn;
        given = k.given;
        search = tt;
        spelled = tt;
        redraw = tt;
        quieted = tt;
        answered = tt;
        reserved = tt;
      }
  fits_step stage.Terminated (Initialise Unaddressed) on e two late quiet answering ends k =
      record {
        half = (first_half (Initialise Unaddressed) e refl (two ∙ completed_none bus.half f _ k.half) k.half (quiet refl), refl);
        drawn = refl;
        given = refl;
        search = tt;
        spelled = tt;
        redraw = spared second k.redraw;
        quieted = tt;
        answered = tt;
        reserved = tt;
      }
  fits_step stage.InitialisedOnce (Initialise Unaddressed) on e two late quiet answering ends k =
      record {
        half = rw (two ∙ second_half (Initialise Unaddressed) k.half.0 (paired b xs _ (Initialise Unaddressed) now drew bus.half f on e k.half)) refl;
        drawn = refl;
        given = refl;
        search = tt;
        spelled = tt;
        redraw = spared second k.redraw;
        quieted = tt;
        answered = tt;
        reserved = tt;
      }
  fits_step stage.Initialised Randomise on e two late quiet answering ends k =
      record {
        half = first_half Randomise e refl (two ∙ completed_none bus.half f _ k.half) k.half (quiet refl);
        drawn = rw (two ∙ completed_none bus.half f _ k.half) refl;
        given = refl;
        search = tt;
        spelled = tt;
        redraw = k.redraw;
        quieted =
            tt;
        answered = tt;
        reserved = tt;
      }
  fits_step stage.DrawFree Randomise on e two late quiet answering ends k =
      record {
        half = first_half Randomise e refl (two ∙ completed_none bus.half f _ k.half) k.half (quiet refl);
        drawn = rw (two ∙ completed_none bus.half f _ k.half) refl;
        given = refl;
        search = tt;
        spelled = tt;
        redraw = k.redraw;
        quieted =
            tt;
        answered = tt;
        reserved = tt;
      }
  fits_step stage.RandomisedOnce Randomise on e two late quiet answering ends k =
      record {
        half = rw (two ∙ second_half Randomise k.half (paired b xs _ Randomise now drew bus.half f on e k.half)) refl;
        drawn = drawn_now (two ∙ second_half Randomise k.half (paired b xs _ Randomise now drew bus.half f on e k.half)) late _;
        given = refl;
        search =
            tt;
        spelled = tt;
        redraw = tt;
        quieted = tt;
        answered = tt;
        reserved = tt;
      }
  fits_step stage.Initialised (SearchHigh high) on e two late quiet answering ends k =
      record {
        half = refl;
        drawn = refl;
        given = k.given;
        search = tt;
        spelled = tt;
        redraw = k.redraw;
        quieted = tt;
        answered = tt;
        reserved = tt;
      }
  fits_step (stage.WokenHigh high) (SearchLow low) on e two late quiet answering ends k =
      plain_fits (stage.WokenLow high low) (SearchLow low) tt refl refl k.given
  fits_step (stage.WokenHigh high) (SearchMiddle middle) on e two late quiet answering ends k =
      record {
        half = refl;
        drawn = refl;
        given = k.given;
        search = tt;
        spelled = tt;
        redraw = k.redraw;
        quieted = tt;
        answered = tt;
        reserved = tt;
      }
  fits_step (stage.WokenLow high low) (SearchMiddle middle) on e two late quiet answering ends k =
      plain_fits (stage.Hunted _ None _) (SearchMiddle middle) tt refl refl k.given
  fits_step (stage.WokenMiddle high middle) Compare on e two late quiet answering ends k = doubted_fits k.redraw
  fits_step (stage.HighSent high) (SearchMiddle middle) on e two late quiet answering ends k =
      record {
        half = refl;
        drawn = refl;
        given = k.given;
        search = (k.search, refl);
        spelled = tt;
        redraw = tt;
        quieted = tt;
        answered = tt;
        reserved = tt;
      }
  fits_step (stage.HighSent high) (SearchLow low) on e two late quiet answering ends k =
      plain_fits (stage.LowSent high low) (SearchLow low) tt refl refl k.given
  fits_step (stage.LowSent high low) (SearchMiddle middle) on e two late quiet answering ends k =
      plain_fits (stage.Hunted _ None _) (SearchMiddle middle) tt refl refl k.given
  fits_step (stage.Hunted r last left) c on e two late quiet answering ends k = hunted_fits r last left c on k.given
  fits_step (stage.MiddleSent high middle) (SearchLow low) on e two late quiet answering ends k =
      record {
        half = refl;
        drawn = refl;
        given = k.given;
        search = (k.search.0, k.search.1, refl);
        spelled = tt;
        redraw = tt;
        quieted = tt;
        answered = tt;
        reserved = tt;
      }
  fits_step (stage.NumberSent r) Compare on e two late quiet answering ends k = plain_fits (stage.Probed r h) Compare tt refl refl refl
  fits_step (stage.NumberSent r) QueryShort on e two late quiet answering ends k = queried_fits r (λ v is. answering r v refl refl is) k
  fits_step (stage.NumberSent r) Withdraw on e two late quiet answering ends k = plain_fits (stage.PassedOver r) Withdraw tt refl refl refl
  fits_step (stage.Found r a) Withdraw on e two late quiet answering ends k = plain_fits (stage.Withdrawn r a) Withdraw tt refl refl refl
  fits_step (stage.Unnamed r) (Program (Some a)) on e two late quiet answering ends k =
      record {
        half = refl;
        drawn = refl;
        given = tt;
        search = k.search;
        spelled = tt;
        redraw = tt;
        quieted = tt;
        answered = tt;
        reserved = on.may;
      }
  fits_step (stage.Programmed r a) QueryShort on e two late quiet answering ends k = verified_fits r a
  fits_step (stage.Confirmed r a) Withdraw on e two late quiet answering ends k = plain_fits (stage.Withdrawn r a) Withdraw tt refl refl refl
  fits_step (stage.HighAsked a high) (RandomByte d Middle) on e two late quiet answering ends k = middle_fits a d high (middle_same a d high on.leads_on) k
  fits_step (stage.MiddleAsked a bytes) (RandomByte d Low) on e two late quiet answering ends k = low_fits a d bytes (low_same a d bytes on.leads_on)
  fits_step _ _ on e two late quiet answering ends k = absurd (let none = on.leads_on in cc)

-- ---------------------------------------------------------------- the end of a transaction
pub leave : (Q : Type 0) (F : SearchAddress → Type 0) (L M : SearchAddress → ℕ → Type 0) (s : Stage) (now : ℕ) (drew : Bool) (bus : Bus) → (AwaitsMore s → ⊥)
    → Fits Q F L s now drew bus → Fits Q F M stage.Free now drew bus
leave Q F L M stage.InitialisedOnce now drew bus whole k = absurd (whole tt)
leave Q F L M stage.RandomisedOnce now drew bus whole k = absurd (whole tt)
leave Q F L M (stage.Programmed r a) now drew bus whole k = absurd (whole tt)
leave Q F L M stage.Free now drew bus whole k =
    record { half = k.half; drawn = k.drawn; given = k.given; search = tt; spelled = tt; redraw = tt; quieted = tt; answered = tt; reserved = tt }
leave Q F L M stage.Opened now drew bus whole k =
    record { half = k.half; drawn = k.drawn; given = k.given; search = tt; spelled = tt; redraw = tt; quieted = tt; answered = tt; reserved = tt }
leave Q F L M stage.Over now drew bus whole k =
    record { half = k.half; drawn = k.drawn; given = k.given; search = tt; spelled = tt; redraw = tt; quieted = tt; answered = tt; reserved = tt }
leave Q F L M _ now drew bus whole k =
    record {
      half = k.half;
      drawn = λ t e. absurd (let none = k.drawn in cc);
      given = k.given;
      search = tt;
      spelled = tt;
      redraw = tt;
      quieted = tt;
      answered = tt;
      reserved = tt;
    }

-- a transaction after which no frame may follow awaits none
pub ended : (b : Block) (xs : List Assignment) (s : Stage) → Reserved (MayGive b xs) s → may_follow b xs s ≡ false → AwaitsMore s → ⊥
ended b xs stage.InitialisedOnce may stops waits = cc
ended b xs stage.RandomisedOnce may stops waits = cc
ended b xs (stage.Programmed r a) may stops waits = let yes = may_give_by b xs r a may in cc
ended b xs _ may stops waits = waits

-- what is reserved is of no further account
pub go_on : (Q : Type 0) (F : SearchAddress → Type 0) (L : SearchAddress → ℕ → Type 0) (s : Stage) (now : ℕ) (drew : Bool) (bus : Bus)
    → Fits Q F L s now drew bus → Fits Q F (λ r a. Unit {0}) s now drew bus
go_on Q F L s now drew bus k =
    record {
      half = k.half;
      drawn = k.drawn;
      given = k.given;
      search = k.search;
      spelled = k.spelled;
      redraw = k.redraw;
      quieted = k.quieted;
      answered = k.answered;
      reserved = any s;
    } where
      any : (s : Stage) → Reserved (λ r a. Unit {0}) s
      any (stage.Programmed r a) = tt
      any _ = tt
