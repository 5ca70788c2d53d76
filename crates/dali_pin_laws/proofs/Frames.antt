use Rattle.std.proofs.Common.{◌≡◌, ◌⊎◌, inl, inr, ℕ, ◌+◌, ◌≤◌, Bool, true, false, refl, sym, ap, ap₂, subst, ◌∙◌, List, [], ◌∷◌, map, Option, Some, None}
use Rattle.std.{proofs.Common.{if◌then◌else◌, ◌==◌, ◌&&◌, not, slice_get, arith}, specs.Prelude.is_some}
use Rattle.dali_frame.specs.declared.frames.Forward.{Forward as Bits}
use Rattle.dali_frame.specs.declared.frames.Answer.{Answer}
use Rattle.dali_wire.specs.Reception.{receiver_at_first}
use Rattle.dali_wire.specs.declared.receiver.Reading.TheVariants.{Idle}
use Rattle.dali_wire.specs.declared.receiver.Receiver.{Receiver}
use Rattle.dali_wire.specs.declared.receiver.Frame.{Frame}
use Rattle.dali_wire.specs.declared.receiver.Frame.TheVariants.{Forward, Backward, Device, Damaged}
use Rattle.dali_port.specs.declared.orders.Word.{Word}
use Rattle.dali_port.specs.declared.orders.Word.TheVariants.{Heard as Told, Destroyed as Lost, Lapsed}
use Rattle.dali_port.specs.Frames.{begun_at}
use Rattle.dali_bus_laws.specs.{Table.table, Bus.{Edges, SeesFrom, first_read}, Pins.{edges_in, spaced, InOrder, SendsWhole}}
use Rattle.dali_bus_laws.specs.{Breaks.{last_time, IsHeld, Alternate, BreaksOff}, Words.{IsSentWhole, IsBrokenOff}}
use Rattle.dali_bus_laws.proofs.{Spans.itself_from, Two.sent_taken, Broken.broken_taken, Words.became}
use Rattle.dali_statement.specs.Page.{Command, Terminate, Initialise, Randomise, Search, Program, QueryShort, QueryRandom, Other, Gear, takes, may_miss}
use Rattle.dali_statement.specs.Page.{Sent, Destroyed, befalls, frame_at, gear_after, same, number, Heard}
use Rattle.dali_pin_laws.specs.Frames.{shown, Put, View, read_by, executed, reached_by, taking, read_taken, one_after, row_after, reached, of_first, told_of}
use Rattle.dali_pin_laws.specs.Frames.{told_more, lost_of, moment_by, AreSeen, IsOnBus, OnBus, frame_moment}

-- A FRAME AT THE PINS does to the gear what its moment does.

module _ (bus : Edges) (turns : Alternate false bus) (w : Put bus) where
  sends : IsSentWhole w.port w.calls → SendsWhole table bus w.order.frame
  sends whole = record {
    port = w.port;
    order = w.order;
    calls = whole.0;
    more = whole.1;
    is = refl;
    begun = w.begun;
    whole = whole.3;
    in_order = subst (λ cs. InOrder w.port.called cs) whole.2 w.in_order;
    sees = subst (λ cs. SeesFrom table bus (spaced w.port.called (edges_in cs))) whole.2 w.sees;
    rested = w.rested;
    address = w.address;
    opcode = w.opcode;
  }

  breaks : IsBrokenOff table w.port w.calls → BreaksOff table bus w.order.frame
  breaks broken = record {
    port = w.port;
    order = w.order;
    calls = broken.0;
    more = broken.1;
    is = refl;
    begun = w.begun;
    destroyed = broken.3;
    in_order = subst (λ cs. InOrder w.port.called cs) broken.2 w.in_order;
    sees = subst (λ cs. SeesFrom table bus (spaced w.port.called (edges_in cs))) broken.2 w.sees;
    held =
        subst
        (λ cs. IsHeld false (last_time w.port.called broken.0 + 50) (last_time w.port.called broken.0 + 1300) (edges_in cs)) broken.2
        (w.held broken.0 broken.1 broken.2 broken.3);
    alternate = turns;
    address = w.address;
    opcode = w.opcode;
  }

  -- what a receiver reads of it
  put_became : IsSentWhole w.port w.calls ⊎ (IsBrokenOff table w.port w.calls × (w.word ≡ Lost))
  put_became = became table w.port w.calls w.word (begun_at w.order w.port.called) w.begun.phase w.called w.tells

  read_it : (seen : Edges) (r : Receiver) (rest : ℕ) (f : Bits) → SeesFrom table bus seen → r.reading ≡ Idle → r.is_low ≡ false → 2400 ≤ rest
      → first_read r seen rest ≡ Some (Forward f) → f ≡ w.order.frame
  read_it seen r rest f sees idle high long is = elim put_became [
    | inr broken ↦ broken_taken bus seen w.order.frame f r rest (breaks broken.0) sees idle high long is
    | inl whole ↦ one (sym is ∙ sent_taken bus seen w.order.frame r rest (sends whole) sees idle high long)
  ]
    where
      one : {f g : Bits} → Some (Forward f) ≡ Some (Forward g) → f ≡ g
      one {f} {g} e = cc

  told_sends : (heard : Answer) → w.word ≡ Told heard → SendsWhole table bus w.order.frame
  told_sends heard is = elim put_became [
    | inl whole ↦ sends whole
    | inr broken ↦ absurd (let no : Told heard ≡ Lost = sym is ∙ broken.1 in cc)
  ]

  pub lost_read : (v : View bus) (f : Bits) → read_by v ≡ Some (Forward f) → f ≡ w.order.frame
  lost_read v f is = read_it v.seen v.receiver v.rest f v.sees v.idle v.high v.long is

  pub sent_read : (heard : Answer) → w.word ≡ Told heard → (v : View bus) → read_by v ≡ Some (Forward w.order.frame)
  sent_read heard is v = sent_taken bus v.seen w.order.frame v.receiver v.rest (told_sends heard is) v.sees v.idle v.high v.long

-- if one controller sent its frame, all put this frame
pub sent_once : (bus : Edges) → Alternate false bus → (w v : Put bus) (heard : Answer) → w.word ≡ Told heard → w.order.frame ≡ v.order.frame
sent_once bus turns w v heard is =
    read_it bus turns v bus receiver_at_first 2400 w.order.frame (itself_from bus) refl refl (omega arith)
    (sent_taken bus bus w.order.frame receiver_at_first 2400 (told_sends bus turns w heard is) (itself_from bus) refl refl (omega arith))

-- ---------------------------------------------------------------- one gear

steady : (x : Command) (n : ℕ) (g : Gear) → may_miss x ≡ false → takes x n g ≡ takes x 0 g
steady Terminate n g e = refl
steady (Initialise d) n g e = absurd (cc)
steady Randomise n g e = absurd (cc)
steady (Search p v) n g e = refl
steady (Program a) n g e = refl
steady QueryShort n g e = refl
steady (QueryRandom a p) n g e = refl
steady Other n g e = refl

-- a gear without power is not live
dark : (x : Command) (g : Gear) → g.live ≡ false → may_miss x ≡ false → takes x 0 g ≡ g
dark Terminate g off e = ap (λ b. record g { live = b }) (sym off)
dark (Initialise d) g off e = absurd (cc)
dark Randomise g off e = absurd (cc)
dark (Search p v) g off e = ap (λ b. record g { search = λ q. if b && same q p then v else g.search q }) off
dark (Program a) g off e = ap (λ b. record g { short = if b && (g.random == number g.search) then a else g.short }) off
dark QueryShort g off e = refl
dark (QueryRandom a p) g off e = refl
dark Other g off e = refl

-- of what was sent whole
read_so : {bus : Edges} (v : View bus) (f : Bits) (o : Option Frame) (g : Gear) → o ≡ Some (Forward f)
    → read_taken v o g ≡ taking (shown f) (reached_by v o) g
read_so v f o g is = subst (λ o. read_taken v o g ≡ taking (shown f) (reached_by v o) g) (sym is) refl

befalls_one : (x : Command) (o : Option ℕ) (some : List (Option ℕ)) (g : Gear) (gs : List Gear)
    → befalls (takes x) (o ∷ some) (g ∷ gs) ≡ taking x o g ∷ befalls (takes x) some gs
befalls_one x None some g gs = refl
befalls_one x (Some n) some g gs = refl

all_of : {bus : Edges} (v : View bus) (x : Command) (o : Option ℕ) (g : Gear) → may_miss x ≡ false → o ≡ executed v x → taking x o g ≡ takes x 0 g
all_of v x o g may is =
    ap (λ k. taking x k g) (is ∙ ap (λ b. if b && not v.executes then None else Some v.draw) may) ∙ steady x v.draw g may

reached_so : {bus : Edges} (v : View bus) (f : Bits) (o : Option Frame) → o ≡ Some (Forward f) → reached_by v o ≡ executed v (shown f)
reached_so v f o is = ap (λ o. reached_by v o) is

-- ---------------------------------------------------------------- the row

-- each gear read this frame
abbrev AllRead : (bus : Edges) → Bits → Type 0
AllRead bus f = (v : View bus) → read_by v ≡ Some (Forward f)

some_row : (bus : Edges) (f : Bits) (views : List (Option (View bus))) (gs : List Gear) → AllRead bus f
    → row_after views gs ≡ befalls (takes (shown f)) (map reached views) gs
some_row bus f [] gs read = refl
some_row bus f (v ∷ views) [] read = refl
some_row bus f (None ∷ views) (g ∷ gs) read = ap (λ hs. g ∷ hs) (some_row bus f views gs read)
some_row bus f (Some v ∷ views) (g ∷ gs) read =
    ap₂ (λ h hs. h ∷ hs) (read_so v f (read_by v) g (read v)) (some_row bus f views gs read)
    ∙ sym (befalls_one (shown f) (reached_by v (read_by v)) (map reached views) g gs)

all_row : (bus : Edges) (f : Bits) (views : List (Option (View bus))) (gs : List Gear) → AreSeen views gs → AllRead bus f → may_miss (shown f) ≡ false
    → row_after views gs ≡ map (takes (shown f) 0) gs
all_row bus f [] [] seen read may = refl
all_row bus f [] (g ∷ gs) seen read may = absurd seen
all_row bus f (None ∷ views) [] seen read may = absurd seen
all_row bus f (Some v ∷ views) [] seen read may = absurd seen
all_row bus f (None ∷ views) (g ∷ gs) seen read may =
    ap₂ (λ h hs. h ∷ hs) (sym (dark (shown f) g seen.0 may)) (all_row bus f views gs seen.1 read may)
all_row bus f (Some v ∷ views) (g ∷ gs) seen read may =
    ap₂ (λ h hs. h ∷ hs)
    (read_so v f (read_by v) g (read v) ∙ all_of v (shown f) (reached_by v (read_by v)) g may (reached_so v f (read_by v) (read v)))
    (all_row bus f views gs seen read may)

sent_row : (bus : Edges) (f : Bits) (senders : List (ℕ × Heard)) (views : List (Option (View bus))) (gs : List Gear) → AreSeen views gs → AllRead bus f
    → row_after views gs ≡ gear_after (Sent (shown f) senders (map reached views)) gs
sent_row bus f senders views gs seen read = go (may_miss (shown f)) refl where
  go : (b : Bool) → may_miss (shown f) ≡ b
      → row_after views gs ≡ (if b then befalls (takes (shown f)) (map reached views) gs else map (takes (shown f) 0) gs)
  go true may = some_row bus f views gs read
  go false may = all_row bus f views gs seen read may

-- of what was destroyed, each gear read this frame or none
module _ (bus : Edges) (who : ℕ) (f : Bits) (more : List (ℕ × Command)) (one : (v : View bus) (g : Bits) → read_by v ≡ Some (Forward g) → g ≡ f) where
  lost_one : (o : Option ℕ) (some : List (Option (ℕ × ℕ))) (g : Gear) (gs : List Gear)
      → befalls (λ w g. takes (frame_at ((who, shown f) ∷ more) w.0) w.1 g) (of_first o ∷ some) (g ∷ gs)
      ≡ taking (shown f) o g ∷ befalls (λ w g. takes (frame_at ((who, shown f) ∷ more) w.0) w.1 g) some gs
  lost_one None some g gs = refl
  lost_one (Some n) some g gs = refl

  lost_taken : (v : View bus) (o : Option Frame) (g : Gear) → ((h : Bits) → o ≡ Some (Forward h) → h ≡ f)
      → read_taken v o g ≡ taking (shown f) (reached_by v o) g
  lost_taken v None g one = refl
  lost_taken v (Some (Forward h)) g one = ap (λ x. taking x (executed v (shown h)) g) (ap shown (one h refl))
  lost_taken v (Some (Backward byte)) g one = refl
  lost_taken v (Some (Device bits)) g one = refl
  lost_taken v (Some Damaged) g one = refl

  lost_row : (views : List (Option (View bus))) (gs : List Gear)
      → row_after views gs ≡ gear_after (Destroyed ((who, shown f) ∷ more) (map of_first (map reached views))) gs
  lost_row [] gs = refl
  lost_row (v ∷ views) [] = refl
  lost_row (None ∷ views) (g ∷ gs) = ap (λ hs. g ∷ hs) (lost_row views gs)
  lost_row (Some v ∷ views) (g ∷ gs) =
      ap₂ (λ h hs. h ∷ hs) (lost_taken v (read_by v) g (one v)) (lost_row views gs)
      ∙ sym (lost_one (reached_by v (read_by v)) (map of_first (map reached views)) g gs)

-- some controller was told what it heard
pub some_told : {bus : Edges} (puts : List (Put bus)) (h : ℕ × Heard) (told : List (ℕ × Heard)) → told_of puts ≡ h ∷ told
    → (w : Put bus) × (heard : Answer) × (w.word ≡ Told heard)
some_told {bus} [] h told is = absurd (let no : [] ≡ h ∷ told = is in cc)
some_told {bus} (w ∷ puts) h told is = go w.word refl is (some_told puts h told) where
  go : (word : Word) → w.word ≡ word → told_more w.who word (told_of puts) ≡ h ∷ told
      → (told_of puts ≡ h ∷ told → (w : Put bus) × (heard : Answer) × (w.word ≡ Told heard)) → (w : Put bus) × (heard : Answer) × (w.word ≡ Told heard)
  go (Told heard) e is later = (w, heard, e)
  go Lost e is later = later is
  go Lapsed e is later = later is

pub frame_row : (b : OnBus) (gs : List Gear) → IsOnBus b gs → row_after b.views gs ≡ gear_after (frame_moment b) gs
frame_row b gs h = go b.puts (told_of b.puts) refl h.sent where
  go : (ws : List (Put b.bus)) (told : List (ℕ × Heard)) → told_of ws ≡ told → is_some (slice_get ws 0) ≡ true
      → row_after b.views gs ≡ gear_after (moment_by ws told (map reached b.views)) gs
  go [] told is some = absurd (cc)
  go (w ∷ ws) [] is some = lost_row b.bus w.who w.order.frame (map lost_of ws) (lost_read b.bus h.turns w) b.views gs
  go (w ∷ ws) (t ∷ told) is some =
      let x = some_told (w ∷ ws) t told is in
      let same : x.0.order.frame ≡ w.order.frame = sent_once b.bus h.turns x.0 w x.1 x.2 in
      sent_row b.bus w.order.frame (t ∷ told) b.views gs h.seen
      (λ v. subst (λ f. read_by v ≡ Some (Forward f)) same (sent_read b.bus h.turns x.0 x.1 x.2 v))
