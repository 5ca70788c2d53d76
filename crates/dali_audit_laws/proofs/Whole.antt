use Rattle.std.proofs.Common.{◌≡◌, ℕ, ◌+◌, ◌<◌, ◌≤◌, ◌⊎◌, inl, inr, Bool, true, false, List, [], ◌∷◌, ◌++◌, refl, sym, ap, subst, ◌∙◌, arith, length, Option}
use Rattle.std.proofs.Common.{Some, None, ◌-◌, if◌then◌else◌, ◌&&◌, ◌||◌, not, ◌==◌, nat_le, is_some, append-nil}
use Rattle.std.specs.List.{AllByRecursion}
use Rattle.dali_frame.specs.{Random.value_of, declared.frames.Answer.Answer}
use Rattle.dali_frame.specs.declared.frames.Answer.TheVariants.{Silence, Byte, Damaged}
use Rattle.dali_frame.specs.declared.{frames.Forward.Forward, numbers.SearchAddress.SearchAddress}
use Rattle.dali_special.specs.{Command.command_of, Command.is_question, declared.command.Command.Command}
use Rattle.dali_special.specs.declared.command.Command.TheVariants.{Terminate, Initialise, Program, QueryShort, Compare, Verify, RandomByte}
use Rattle.dali_special.specs.declared.command.Target.{Target}
use Rattle.dali_gear.specs.Gear.{Gear, is_active, is_found}
use Rattle.dali_gear.specs.{Row.row_after, Row.answers_of, Row.heard_of, Row.stored_short, Row.drawn_of, declared.row.Reach.TheVariants.Everyone}
use Rattle.dali_capture.specs.declared.item.{Heard.Heard, Item.Item}
use Rattle.dali_capture.specs.declared.item.Heard.TheVariants as heard
use Rattle.dali_arbiter.specs.Arbiter.{Arbiter, bus_lapsed}
use Rattle.dali_script.specs.{Findings.search_of, Findings.asked_of, Findings.found_by, Findings.assigned, Records.Assignment, Scripts.Lawful, Scripts.MayGive}
use Rattle.dali_script.specs.Stages.{Follows, next_stage, stage_of, IsSearched, may_follow}
use Rattle.dali_script.specs.declared.{block.Block.Block, finding.Finding.Finding, orders.Input.Input, orders.Order.Order}
use Rattle.dali_script.specs.declared.orders.Order.TheVariants.{Put, Commit, Done, Halt}
use Rattle.dali_script.{specs.declared.stage.Stage.Stage, specs.declared.trace.Entry.Entry, proofs.Found.searched_lawful, proofs.Found.asked_lawful}
use Rattle.dali_script.proofs.Transactions.{self, stage_more, stage_none, program_at, initialise_at}
use Rattle.dali_script.specs.declared.stage.Stage.TheVariants as stage
use Rattle.dali_audit.specs.{Bus.number, Bus.is_over, Bus.completes, Bus.repeats, Bus.frame_end, Findings.told_of, Findings.kinds, Findings.known_after}
use Rattle.dali_audit.specs.Findings.{findings_from, known_from, first_of, address_taken, address_moved, two_random, two_short, redraws, broken_pair}
use Rattle.dali_audit.specs.Findings.{too_early, unasked}
use Rattle.dali_audit.specs.{Findings.not_found, Findings.is_among, Findings.asks_one, Holders.change_of, Holders.table_after}
use Rattle.dali_audit.specs.{Holders.short_in, Seen.awaits, Seen.seen_of, Seen.answer_after, Seen.in_window, Seen.may_be_answered}
use Rattle.dali_audit.specs.declared.{bus.Begun.Begun, bus.Bus.Bus, bus.First.First, holders.Change.Change, telling.Known.Known}
use Rattle.dali_audit.specs.declared.holders.Change.TheVariants as change
use Rattle.dali_audit.specs.declared.seen.Seen.TheVariants as seen
use Rattle.dali_events.specs.{Allowed.Allowed, Allowed.MaySend, Happens.happens, Happens.trace_running, Happens.entry, Happens.goes_on, Happens.gives_up}
use Rattle.dali_events.specs.{Happens.put_after, Plan.Plan, Plan.IsPlan, Promise.Names, Runs.after_all, Runs.AllAllowed, Runs.LeavesUsed, Wanted.gear_of}
use Rattle.dali_events.{specs.World.World, specs.World.controller_at, specs.declared.event.Event.Event, proofs.Invariant.Gifts.Change as GearChange}
use Rattle.dali_events.proofs.Invariant.{Gifts.IsOwned, Known.Knows, Known.found_random, Known.search_known, Known.short_from, Safe.Holds as HoldsAll}
use Rattle.dali_events.proofs.Invariant.{Safe.holds_step, Safe.sent_changes, Safe.found_names, Sending.KnowsAll, Sending.lawful_of, Sending.follows_of}
use Rattle.dali_events.proofs.Invariant.{Sending.knows_running, Sending.powered_takes, Takes.Moved, Takes.stays, Takes.goes, Takes.moves_at, Takes.row_length}
use Rattle.dali_events.specs.declared.event.Event.TheVariants as event
use Rattle.dali_audit_laws.specs.Capture.{frames_of, items_from, answers_at, over_at, begins_at, ends_at, is_randomise, rest_before, item_at, WAIT}
use Rattle.dali_audit_laws.specs.Tables.{Holds, IsTableOf}
use Rattle.dali_audit_laws.specs.Undisturbed.{AwaitsMore, DisturbsNothing, DisturbNothing, Since, open_since, Within, AreInTime}
use Rattle.dali_audit_laws.proofs.Changes.{apart, one_answers, IsTrueChange, true_change, number_at}
use Rattle.dali_audit_laws.proofs.Grammar.{Fits, Paired, alone, twice, paired, completed, repeated, item_of, fits_step, leave, ended, go_on}
use Rattle.dali_audit_laws.proofs.Idle.{AllIdle, NoneHalf, idle_taken, half_taken, initialised, closed_from, begun_from, Shut, shut_from, cut_from}
use Rattle.dali_audit_laws.proofs.Replies.{somebody, silent, query_replies, found_here}
use Rattle.dali_audit_laws.proofs.Silent.{clear, in_time, no_half_pair, no_late_pair, no_early_frame, not_over, queried_next, settled_before, spelled_well}
use Rattle.dali_audit_laws.proofs.Silent.{one_there, to_one}
use Rattle.dali_audit_laws.proofs.Standing.{SameGear, one_random, one_short, table_nothing, table_told, table_answered, length_after}
use Rattle.dali_audit_laws.proofs.Standing.{free, unmoved, table_given}

-- a gear that takes part, and has the random address of this search address
pub record Stands (gs : List Gear) (r : SearchAddress) : Type 0 where
  pub gear : ℕ
  pub in_row : gear < length gs
  pub powered : (gear_of gs gear).powered ≡ true
  pub active : is_active (gear_of gs gear).state ≡ true
  pub random : (gear_of gs gear).random ≡ value_of r

-- and was heard under it
abbrev pub Met : List Gear → List ℕ → SearchAddress → Type 0
Met gs found r = Stands gs r × (is_among found (value_of r) ≡ true)

-- TERMINATE was sent, and nothing since
abbrev pub Ended : List Gear → Bus → Type 0
Ended gs bus = NoneHalf gs × (bus.begun ≡ None)

abbrev pub Any : SearchAddress → ℕ → Type 0
Any r a = Unit {0}

-- WHAT THE AUDIT KNOWS AGREES with the world; `since`: since when an initialisation is open
pub record Agrees (p : Plan) (w : World) (now : ℕ) (drew : Bool) (since : Since) (k : Known) : Type 0 where
  pub holds : HoldsAll p w
  pub idle : w.bus.owner ≡ None → w.trace ≡ []
  pub fits : Fits (Ended w.gear k.bus) (Met w.gear k.found) Any (stage_of w.trace) now drew k.bus
  pub settled : (t : ℕ) → k.bus.settled ≡ Some t → t ≤ now
  pub closed : k.bus.is_closed ≡ true → AllIdle w.gear
  pub begun : (y : Begun) → k.bus.begun ≡ Some y → since.at ≡ Some y.until
  pub shut : Shut since k.bus
  pub cut : (t : ℕ) → k.bus.cut ≡ Some t → since.is_cut ≡ true
  pub table : IsTableOf w.gear k.table
  pub places : length k.table ≡ 64

-- no rule on short addresses is broken by a change, and the table is that of the gear afterwards
pub record IsClean (k : Known) (ht : List Gear) (ch : Change) : Type 0 where
  pub found : not_found k ch ≡ false
  pub free : address_taken k.table ch ≡ false
  pub moved : address_moved k.table ch ≡ false
  pub one_random : two_random k.table ch ≡ false
  pub one_short : two_short k.table ch ≡ false
  pub redrawn : redraws k ch ≡ false
  pub table : IsTableOf ht (table_after ch k.table)

never : (m : Bool) → (m && false) ≡ false
never true = refl
never false = refl

among_last : (xs : List ℕ) (n : ℕ) → is_among (xs ++ n ∷ []) n ≡ true
among_last [] n = rw (self n) refl
among_last (y ∷ ys) n = go (y == n) (among_last ys n) where
  go : (m : Bool) → is_among (ys ++ n ∷ []) n ≡ true → (m || is_among (ys ++ n ∷ []) n) ≡ true
  go true rest = refl
  go false rest = rest

-- ---------------------------------------------------------------- one gear and one frame
from_moved : (c : Command) (ds : List (ℕ × ℕ)) (k a : ℕ) (g g' : Gear) → Moved Everyone c ds k g g' → g'.short ≡ Some a
    → (g.short ≡ Some a) ⊎ (stored_short c g ≡ Some a)
from_moved c ds k a g _ (stays off) e = inl e
from_moved c ds k a g _ (goes r there drew) e = short_from c g a e

queried_moved : (c : Command) (ds : List (ℕ × ℕ)) (k : ℕ) (g g' : Gear) → c ≡ QueryShort → g.powered ≡ true → Moved Everyone c ds k g g'
    → (g'.powered ≡ true) × (g'.state ≡ g.state) × (g'.random ≡ g.random)
queried_moved c ds k g _ is on (stays off) = (on, refl, refl)
queried_moved c ds k g _ is on (goes r there drew) = (on, rw is refl, rw is refl)

programmed_moved : (c : Command) (ds : List (ℕ × ℕ)) (k a : ℕ) (g g' : Gear) → c ≡ Program (Some a) → g.powered ≡ true → is_active g.state ≡ true
    → is_found g ≡ true → Moved Everyone c ds k g g' → (g'.short ≡ Some a) × (g'.random ≡ g.random)
programmed_moved c ds k a g _ is on active found (stays off) = absurd (let there = powered_takes k g on in cc)
programmed_moved c ds k a g _ is on active found (goes r there drew) = (rw (is, active, found) refl, rw is refl)

stores_program : (c : Command) (g : Gear) (a : ℕ) → stored_short c g ≡ Some a → (o : Option ℕ) × (c ≡ Program o)
stores_program (Program o) g a e = (o, refl)
stores_program _ g a e = absurd (cc)

stores_given : (g : Gear) (a b : ℕ) → stored_short (Program (Some a)) g ≡ Some b → b ≡ a
stores_given g a b e = go (is_active g.state && is_found g) e where
  go : (m : Bool) → (if m then Some a else None) ≡ Some b → b ≡ a
  go true e = cc
  go false e = absurd (cc)

programs : (c : Command) → ((o : Option ℕ) × (c ≡ Program o)) ⊎ ((o : Option ℕ) → c ≡ Program o → ⊥)
programs (Program o) = inl (o, refl)
programs _ = inr (λ o e. cc)

awaited : (f : Forward) (c : Command) → command_of f ≡ c → is_question c ≡ true → awaits f ≡ true
awaited f Compare e q = rw e refl
awaited f (Verify a) e q = rw e refl
awaited f QueryShort e q = rw e refl
awaited f (RandomByte a part) e q = rw e refl
awaited f _ e q = absurd (cc)

pub over_later : (y : ℕ) (a : Answer) → y ≤ over_at y a
over_later y Silence = omega arith
over_later y (Byte n) = omega arith
over_later y Damaged = omega arith

-- ---------------------------------------------------------------- a frame that was sent
module _ (p : Plan) (plan : IsPlan p) (w : World) (c : ℕ) (f : Forward) (h : Answer) (now : ℕ) (drew : Bool) (since : Since) (k : Known)
    (here : Allowed w (event.Sent c f h)) (leaves : LeavesUsed p.used (event.Sent c f h)) (calm : DisturbsNothing w (event.Sent c f h))
    (agrees : Agrees p w now drew since k) (within : Within since.at (now + rest_before drew (command_of f))) where
  abbrev b : Block
  b = (controller_at w c).records.block

  abbrev xs : List Assignment
  xs = (controller_at w c).records.reserved

  abbrev t : List Entry
  t = trace_running w c

  abbrev s : Stage
  s = stage_of t

  abbrev v : World
  v = happens w (event.Sent c f h)

  -- what is known after it, and when the bus is at rest again
  abbrev known : Known
  known = known_after (item_of now drew (command_of f) f) (seen.Sent f h) k

  abbrev later : ℕ
  later = over_at (now + rest_before drew (command_of f) + 14167) h

  abbrev Before : Stage → Type 0
  Before z = Fits (Ended w.gear k.bus) (Met w.gear k.found) Any z now drew k.bus

  abbrev After : (SearchAddress → ℕ → Type 0) → Stage → Type 0
  After M z = Fits (Ended (happens w (event.Sent c f h)).gear known.bus) (Met (happens w (event.Sent c f h)).gear known.found) M z later
      (is_randomise (command_of f)) known.bus

  runs : trace_running w c ≡ w.trace
  runs = go here.may where
    go : MaySend w c f → trace_running w c ≡ w.trace
    go (inl may) = rw (may.0, self c) refl
    go (inr may) = rw may.0 (sym (agrees.idle may.0))

  on : Follows b xs s (command_of f)
  on = follows_of w c f here.may

  lawful : Lawful b xs t f
  lawful = lawful_of w c f here.may

  fits : Before s
  fits = subst (λ x. Before (stage_of x)) (sym runs) agrees.fits

  knows : KnowsAll s w.gear
  knows = knows_running w c agrees.holds.known.knows

  searched : IsSearched s (search_of t)
  searched = searched_lawful b xs t f lawful

  found : (x : Finding) → found_by (search_of t) (asked_of t) (command_of f) h ≡ Some x → Names w (assigned x)
  found = found_names p plan w agrees.holds c f h here

  held : HoldsAll p v
  held = holds_step p plan w (event.Sent c f h) here leaves agrees.holds

  abbrev x : Item
  x = item_of now drew (command_of f) f

  -- GEAR
  changes : GearChange (IsOwned p.used w.controllers) w.gear w.drawn w.gifts v.gear v.drawn v.gifts
  changes = sent_changes (IsOwned p.used w.controllers) p plan w agrees.holds c f here.up here.may (λ a r has. inl (c, here.up.known, has)) h here

  stay : (g a : ℕ) → Holds w.gear g a → Holds v.gear g a × ((gear_of v.gear g).random ≡ (gear_of w.gear g).random)
  stay g a has = ((subst (λ n. g < n) (sym changes.count) has.0, changes.stays_short g a has.0 has.1), changes.stays_random g a has.0 has.1)

  from : (g a : ℕ) → Holds v.gear g a → Holds w.gear g a ⊎ (stored_short (command_of f) (gear_of w.gear g) ≡ Some a)
  from g a has = go (from_moved (command_of f) (drawn_of Everyone (command_of f) 0 w.gear w.left) g a (gear_of w.gear g) (gear_of v.gear g)
      (moves_at Everyone (command_of f) w.gear w.left g there) has.1) where
        there : g < length w.gear
        there = subst (λ n. g < n) (row_length Everyone (command_of f) 0 w.gear w.left) has.0

        go : ((gear_of w.gear g).short ≡ Some a) ⊎ (stored_short (command_of f) (gear_of w.gear g) ≡ Some a)
            → Holds w.gear g a ⊎ (stored_short (command_of f) (gear_of w.gear g) ≡ Some a)
        go (inl e) = inl (there, e)
        go (inr e) = inr e

  same : ((o : Option ℕ) → command_of f ≡ Program o → ⊥) → SameGear w.gear v.gear
  same other = record { stays = stay; from = λ g a has. old g a (from g a has) } where
    old : (g a : ℕ) → Holds w.gear g a ⊎ (stored_short (command_of f) (gear_of w.gear g) ≡ Some a) → Holds w.gear g a
    old g a (inl has) = has
    old g a (inr e) = absurd (let o = stores_program (command_of f) (gear_of w.gear g) a e in other o.0 o.1)

  stands : (r : SearchAddress) (n : ℕ) → s ≡ stage.NumberSent r → command_of f ≡ QueryShort → h ≡ Byte n → Stands v.gear r
  stands r n at is heard_as =
      let who = somebody QueryShort w.gear n (sym heard_as ∙ subst (λ d. h ≡ heard_of (answers_of Everyone d 0 w.gear)) is calm.0) in
      let query = query_replies (gear_of w.gear who.0) n who.2 in
      let number : IsSearched (stage.NumberSent r) r = refl in
      let search = search_known b xs s (command_of f) (gear_of w.gear who.0) r on is (subst (λ z. IsSearched z r) (sym at) number)
      (knows who.0 who.1.in_row who.1.powered) query.0 in
      let random : (gear_of w.gear who.0).random ≡ value_of r = found_random (gear_of w.gear who.0) r search query.1 in
      let moved = queried_moved (command_of f) (drawn_of Everyone (command_of f) 0 w.gear w.left) who.0 (gear_of w.gear who.0) (gear_of v.gear who.0) is
      who.1.powered (moves_at Everyone (command_of f) w.gear w.left who.0 who.1.in_row) in
      record {
        gear = who.0;
        in_row = subst (λ m. who.0 < m) (sym changes.count) who.1.in_row;
        powered = moved.0;
        active = ap is_active moved.1 ∙ query.0;
        random = moved.2 ∙ random;
      }

  -- WHO HAS WHICH SHORT ADDRESS
  abbrev ch : Change
  ch = change_of k.bus x (seen.Sent f h)

  small : (g a : ℕ) → Holds w.gear g a → a < length k.table
  small g a has = let at : a < 64 = agrees.holds.known.short g has.0 a has.1 in let all : length k.table ≡ 64 = agrees.places in omega arith

  clean_by : (d : Change) → SameGear w.gear v.gear → IsTrueChange p plan w agrees.holds d → IsClean k v.gear d
  clean_by change.Nothing same is = record {
    found = refl;
    free = refl;
    moved = refl;
    one_random = refl;
    one_short = refl;
    redrawn = refl;
    table = table_nothing w.gear k.table agrees.table (apart p plan w agrees.holds) v.gear same;
  }
  clean_by (change.Told a r) same is = record {
    found = refl;
    free = refl;
    moved = refl;
    one_random = one_random w.gear k.table agrees.table (apart p plan w agrees.holds) a r is;
    one_short = one_short w.gear k.table agrees.table (apart p plan w agrees.holds) a r is;
    redrawn = refl;
    table = table_told w.gear k.table agrees.table (apart p plan w agrees.holds) v.gear a r same (small is.gear a is.has) is;
  }
  clean_by (change.Answered a) same is = record {
    found = refl;
    free = refl;
    moved = refl;
    one_random = refl;
    one_short = refl;
    redrawn = refl;
    table = table_answered w.gear k.table agrees.table (apart p plan w agrees.holds) v.gear a is.0 same (small is.0 a is.1) is.1;
  }
  clean_by _ same is = absurd is

  clean_else : ((o : Option ℕ) → command_of f ≡ Program o → ⊥) → IsClean k v.gear ch
  clean_else other = clean_by ch (same other)
      (true_change p plan w agrees.holds b xs s (command_of f) now drew (completes k.bus.half x.until f) h k.bus (search_of t) (asked_of t)
      (Ended w.gear k.bus) (Met w.gear k.found) Any on fits searched (asked_lawful b xs t f lawful) calm.0 found other)

  given_clean : (a : ℕ) (r : SearchAddress) → command_of f ≡ Program (Some a) → s ≡ stage.Unnamed r → IsClean k v.gear (change.Given a (value_of r))
  given_clean a r is at =
      let fit : Before (stage.Unnamed r) = subst (λ z. Before z) at fits in
      let one : Stands w.gear r = fit.answered.0 in
      let know : Knows (stage.Unnamed r) (gear_of w.gear one.gear) =
      subst (λ z. Knows z (gear_of w.gear one.gear)) at (knows one.gear one.in_row one.powered) in
      let none : (gear_of w.gear one.gear).short ≡ None = (know one.active).1 one.random in
      let met : is_found (gear_of w.gear one.gear) ≡ true = found_here (gear_of w.gear one.gear) r (know one.active).0 one.random in
      let moved = programmed_moved (command_of f) (drawn_of Everyone (command_of f) 0 w.gear w.left) one.gear a (gear_of w.gear one.gear)
      (gear_of v.gear one.gear) is one.powered one.active met (moves_at Everyone (command_of f) w.gear w.left one.gear one.in_row) in
      let has : Holds v.gear one.gear a = (subst (λ m. one.gear < m) (sym changes.count) one.in_row, moved.0) in
      let there : a < length k.table =
      (let at : a < 64 = held.known.short one.gear has.0 a has.1 in let all : length k.table ≡ 64 = agrees.places in omega arith) in
      record {
        found = rw (fit.answered.1) (never (is_some k.bus.begun));
        moved = unmoved w.gear k.table agrees.table (apart p plan w agrees.holds) v.gear one.gear a (value_of r) there one.in_row none one.random has
            (moved.1 ∙ one.random) (apart p plan v held) stay (λ i d h. new a is i d (from i d h));
        free = free w.gear k.table agrees.table (apart p plan w agrees.holds) v.gear one.gear a (value_of r) there one.in_row none one.random has
            (moved.1 ∙ one.random) (apart p plan v held) stay (λ i d h. new a is i d (from i d h));
        one_random = refl;
        one_short = refl;
        redrawn = refl;
        table = table_given w.gear k.table agrees.table (apart p plan w agrees.holds) v.gear one.gear a (value_of r) there one.in_row none one.random has
            (moved.1 ∙ one.random) (apart p plan v held) stay (λ i d h. new a is i d (from i d h));
      } where
        new : (a : ℕ) → command_of f ≡ Program (Some a) → (i d : ℕ) → Holds w.gear i d ⊎ (stored_short (command_of f) (gear_of w.gear i) ≡ Some d)
            → Holds w.gear i d ⊎ (d ≡ a)
        new a is i d (inl h) = inl h
        new a is i d (inr e) = inr (stores_given (gear_of w.gear i) a d (subst (λ y. stored_short y (gear_of w.gear i) ≡ Some d) is e))

  clean : IsClean k v.gear ch
  clean = go (programs (command_of f)) where
    go : ((o : Option ℕ) × (command_of f ≡ Program o)) ⊎ ((o : Option ℕ) → command_of f ≡ Program o → ⊥) → IsClean k v.gear ch
    go (inr other) = clean_else other
    go (inl o) =
        let at = program_at b xs t f o.0 lawful o.1 in
        let is : command_of f ≡ Program (Some at.0) = o.1 ∙ ap (λ y. Program y) at.2 in
        let fit : Before (stage.Unnamed at.1) = subst (λ z. Before z) at.3 fits in
        let sought : number k.bus.search ≡ Some (value_of at.1) = number_at p plan w agrees.holds at.1 k.bus.search fit.search in
        subst (λ d. IsClean k v.gear d) (sym (given_change at.0 at.1 is sought)) (given_clean at.0 at.1 is at.3) where
          given_change : (a : ℕ) (r : SearchAddress) → command_of f ≡ Program (Some a) → number k.bus.search ≡ Some (value_of r)
              → ch ≡ change.Given a (value_of r)
          given_change a r is sought = rw (is, sought) refl

  -- WHAT IS TOLD OF THE FRAME, and what is known after it
  one_gear : h ≡ Damaged → asks_one (command_of f) ≡ false
  one_gear is = one_answers p plan w agrees.holds b xs s (command_of f) (search_of t) on searched knows calm.1 (sym is ∙ calm.0)

  over : is_over k.bus.begun x.at f ≡ false
  over = in_time k.bus.begun x.at f (λ y e. before since.at (agrees.begun y e) within) where
    before : (o : Option ℕ) {n : ℕ} → o ≡ Some n → Within o x.at → x.at ≤ n + 900000000
    before None e short = absurd (cc)
    before (Some n) e short = subst (λ i. x.at ≤ i + 900000000) (let same : n ≡ _ = cc in same) short

  pub nothing_told : told_of k x (seen.Sent f h) kinds ≡ []
  nothing_told =
      rw (
        clear x f h one_gear,
        initialised k.bus.is_closed (command_of f) w.gear h agrees.closed calm.0,
        settled_before b xs s (command_of f) now drew f h k.bus (Ended w.gear k.bus) (Met w.gear k.found) Any on refl fits agrees.settled,
        no_half_pair b xs s (command_of f) now drew f h k.bus (Ended w.gear k.bus) (Met w.gear k.found) Any on refl fits,
        no_late_pair b xs s (command_of f) now drew f h k.bus (Ended w.gear k.bus) (Met w.gear k.found) Any on refl fits,
        no_early_frame b xs s (command_of f) now drew f h k.bus (Ended w.gear k.bus) (Met w.gear k.found) Any on refl fits,
        not_over b xs s (command_of f) now drew f h k.bus (Ended w.gear k.bus) (Met w.gear k.found) Any on refl fits over,
        queried_next b xs s (command_of f) now drew f h k.bus (Ended w.gear k.bus) (Met w.gear k.found) Any on refl fits,
        clean.found,
        one_there k.bus f h one_gear,
        clean.free,
        clean.moved,
        clean.one_random,
        clean.one_short,
        clean.redrawn,
        spelled_well b xs s (command_of f) on,
        to_one 0x20 b xs s (command_of f) on,
        to_one 0x80 b xs s (command_of f) on,
      ) refl

  quiet_after : is_question (command_of f) ≡ false → later ≡ x.until
  quiet_after q = rw (silent (command_of f) w.gear h calm.0 q) refl

  met : (r : SearchAddress) (n : ℕ) → s ≡ stage.NumberSent r → command_of f ≡ QueryShort → h ≡ Byte n → Met v.gear known.found r
  met r n at is heard_as =
      let fit : Before (stage.NumberSent r) = subst Before at fits in
      let sought : number k.bus.search ≡ Some (value_of r) = number_at p plan w agrees.holds r k.bus.search fit.search in
      (stands r n at is heard_as, rw (is, heard_as, sought) (among_last k.found (value_of r)))

  ends : command_of f ≡ Terminate → Ended v.gear known.bus
  ends is = (subst (λ d. NoneHalf (row_after Everyone d 0 w.gear w.left)) (sym is) (half_taken w.gear w.left), rw is refl)

  after_fits : After (MayGive b xs) (next_stage s (command_of f) h)
  after_fits = fits_step (Ended w.gear k.bus) (Ended v.gear known.bus) (Met w.gear k.found) (Met v.gear known.found) Any b xs now later drew f h k.bus
      (repeats k.bus.half f) (completes k.bus.half x.until f) s (command_of f) on refl refl (over_later x.until h) quiet_after met ends fits

  traced : (more : Bool) → goes_on w c (t ++ entry f h ∷ []) ≡ more → After Any (stage_of (if more then t ++ entry f h ∷ [] else []))
  traced true e = subst (After Any) (sym (stage_more t (entry f h))) (go_on (Ended v.gear known.bus) (Met v.gear known.found) (MayGive b xs) _ _ _ _ after_fits)
  traced false e = subst (After Any) (sym stage_none) (leave (Ended v.gear known.bus) (Met v.gear known.found) (MayGive b xs) Any _ _ _ _
      (ended b xs (next_stage s (command_of f) h) after_fits.reserved (subst (λ z. may_follow b xs z ≡ false) (stage_more t (entry f h)) e)) after_fits)

  -- INITIALISE comes after TERMINATE, or is the second of a pair
  twice_or : (d : Target) → command_of f ≡ Initialise d → Ended w.gear k.bus ⊎ ((repeats k.bus.half f ≡ true) × (completes k.bus.half x.until f ≡ true))
  twice_or d is = go (initialise_at b xs t f d lawful is).1 where
    go : (s ≡ stage.Terminated) ⊎ (s ≡ stage.InitialisedOnce) → Ended w.gear k.bus ⊎ ((repeats k.bus.half f ≡ true) × (completes k.bus.half x.until f ≡ true))
    go (inl at) = inl (subst Before at fits).quieted
    go (inr at) = inr (second (subst Before at fits).half.0.4 (paired b xs s (command_of f) now drew k.bus.half f on refl fits.half)) where
      second : {y : First} → k.bus.half ≡ Some y → Paired k.bus.half f x.until → (repeats k.bus.half f ≡ true) × (completes k.bus.half x.until f ≡ true)
      second some (alone none) = absurd (let both = sym some ∙ none in cc)
      second some (twice u e in_time) = (repeated k.bus.half f u e, completed k.bus.half f x.until u e in_time)

  first_halves : (d : Target) → command_of f ≡ Initialise d → repeats k.bus.half f ≡ false → NoneHalf w.gear
  first_halves d is first = go (twice_or d is) where
    go : Ended w.gear k.bus ⊎ ((repeats k.bus.half f ≡ true) × (completes k.bus.half x.until f ≡ true)) → NoneHalf w.gear
    go (inl ended) = ended.0
    go (inr second) = absurd (let yes = second.0 in cc)

  first_begun : (d : Target) → command_of f ≡ Initialise d → completes k.bus.half x.until f ≡ false → k.bus.begun ≡ None
  first_begun d is first = go (twice_or d is) where
    go : Ended w.gear k.bus ⊎ ((repeats k.bus.half f ≡ true) × (completes k.bus.half x.until f ≡ true)) → k.bus.begun ≡ None
    go (inl ended) = ended.1
    go (inr second) = absurd (let yes = second.1 in cc)

  -- TERMINATE makes all idle
  closed_after : known.bus.is_closed ≡ true → AllIdle v.gear
  closed_after e = go (closed_from (command_of f) (repeats k.bus.half f) (completes k.bus.half x.until f) x f h k.bus e) where
    by : (d : Command) → command_of f ≡ d → k.bus.is_closed ≡ true → ((u : Target) → command_of f ≡ Initialise u → repeats k.bus.half f ≡ false)
        → AllIdle v.gear
    by Terminate is shut first = subst (λ d. AllIdle (row_after Everyone d 0 w.gear w.left)) (sym is) (idle_taken Terminate w.gear w.left (λ i in_row on. tt))
    by (Initialise u) is shut first = subst (λ d. AllIdle (row_after Everyone d 0 w.gear w.left)) (sym is)
        (idle_taken (Initialise u) w.gear w.left (λ i in_row on. (agrees.closed shut i in_row on, first_halves u is (first u is) i in_row on)))
    by d is shut first = subst (λ d. AllIdle (row_after Everyone d 0 w.gear w.left)) (sym is) (idle_taken d w.gear w.left (agrees.closed shut))

    go : (command_of f ≡ Terminate) ⊎ ((k.bus.is_closed ≡ true) × ((u : Target) → command_of f ≡ Initialise u → repeats k.bus.half f ≡ false)) → AllIdle v.gear
    go (inl is) = subst (λ d. AllIdle (row_after Everyone d 0 w.gear w.left)) (sym is) (idle_taken Terminate w.gear w.left (λ i in_row on. tt))
    go (inr y) = by (command_of f) refl y.0 y.1

  pub known_agrees : Agrees p v later (is_randomise (command_of f)) (open_since (command_of f) x.until since) known
  known_agrees = record {
    holds = held;
    idle = idle (goes_on w c (t ++ entry f h ∷ []));
    fits = traced (goes_on w c (t ++ entry f h ∷ [])) refl;
    settled = λ u e. subst (λ n. n ≤ later) (let one : x.until ≡ u = cc in one) (over_later x.until h);
    closed = closed_after;
    begun = begun_from (command_of f) (repeats k.bus.half f) (completes k.bus.half x.until f) since x f h k.bus first_begun over agrees.begun;
    shut = shut_from (command_of f) (completes k.bus.half x.until f) since x f h k.bus refl pair agrees.shut;
    cut = cut_from (command_of f) (repeats k.bus.half f) (completes k.bus.half x.until f) since x f h k.bus refl pair agrees.shut agrees.cut;
    table = clean.table;
    places = length_after (short_in ch) ch k.table ∙ agrees.places;
  } where
    pair : Paired k.bus.half f x.until
    pair = paired b xs s (command_of f) now drew k.bus.half f on refl fits.half

    idle : (more : Bool) → (if more then Some c else None) ≡ None → (if more then t ++ entry f h ∷ [] else []) ≡ []
    idle true e = absurd (cc)
    idle false e = refl

-- ---------------------------------------------------------------- the answer to a frame
replied_pair : (half : Option First) → broken_pair half seen.Replied ≡ None
replied_pair None = refl
replied_pair (Some first) = go first.is_told where
  go : (m : Bool) → (if (not m && false) then Some first.at else None) ≡ None
  go true = refl
  go false = refl

replied_early : (d : Option ℕ) (x : Item) → too_early d x seen.Replied ≡ None
replied_early None x = refl
replied_early (Some t) x = refl

replied_given : (d : Option ℕ) → unasked d seen.Replied ≡ None
replied_given None = refl
replied_given (Some t) = refl

replied_tells : (k : Known) (x : Item) → told_of k x seen.Replied kinds ≡ []
replied_tells k x = rw (replied_pair k.bus.half, replied_early k.bus.drawn x, replied_given k.bus.given) refl

replied_agrees : (p : Plan) (plan : IsPlan p) (w : World) (now : ℕ) (drew : Bool) (since : Since) (k : Known) (x : Item) → x.until ≤ now
    → Agrees p w now drew since k
    → Agrees p w now drew since (known_after x seen.Replied k)
replied_agrees p plan w now drew since k x over a = record {
  holds = a.holds;
  idle = a.idle;
  fits = renewed;
  settled = λ t e. ends x.what t e;
  closed = a.closed;
  begun = a.begun;
  shut = a.shut;
  cut = a.cut;
  table = table_nothing w.gear k.table a.table (apart p plan w a.holds) w.gear (record { stays = λ g n has. (has, refl); from = λ g n has. has });
  places = length_after None change.Nothing k.table ∙ a.places;
} where
  ends : (y : Heard) (t : ℕ) → frame_end y x.until ≡ Some t → t ≤ now
  ends (heard.Forward g) t e = subst (λ n. n ≤ now) (let one : x.until ≡ t = cc in one) over
  ends (heard.Backward byte) t e = subst (λ n. n ≤ now) (let one : x.until ≡ t = cc in one) over
  ends heard.Device t e = subst (λ n. n ≤ now) (let one : x.until ≡ t = cc in one) over
  ends heard.Damaged t e = absurd (cc)

  same_found : Fits (Ended w.gear k.bus) (Met w.gear (k.found ++ [])) Any (stage_of w.trace) now drew k.bus
  same_found = subst (λ ns. Fits (Ended w.gear k.bus) (Met w.gear ns) Any (stage_of w.trace) now drew k.bus) (sym (append-nil k.found)) a.fits

  renewed : Fits (Ended w.gear k.bus) (Met w.gear (k.found ++ [])) Any (stage_of w.trace) now drew (known_after x seen.Replied k).bus
  renewed = record {
    half = same_found.half;
    drawn = same_found.drawn;
    given = same_found.given;
    search = same_found.search;
    spelled = same_found.spelled;
    redraw = same_found.redraw;
    quieted = same_found.quieted;
    answered = same_found.answered;
    reserved = same_found.reserved;
  }

-- ---------------------------------------------------------------- a controller acts, or asks to send
put_owner : (b : Arbiter) (c : ℕ) (o : Order) → (put_after b c o).owner ≡ b.owner
put_owner b c (Put q f) = refl
put_owner b c (Commit y) = refl
put_owner b c (Done end) = refl
put_owner b c (Halt why) = refl

acted_agrees : (p : Plan) (plan : IsPlan p) (w : World) (c : ℕ) (i : Input) (o : Order) (now : ℕ) (drew : Bool) (since : Since) (k : Known)
    → Allowed w (event.Acted c i o)
    → LeavesUsed p.used (event.Acted c i o) → DisturbsNothing w (event.Acted c i o) → Agrees p w now drew since k
    → Agrees p (happens w (event.Acted c i o)) now drew since k
acted_agrees p plan w c i o now drew since k here leaves calm a = record {
  holds = holds_step p plan w (event.Acted c i o) here leaves a.holds;
  idle = λ e. idle (gives_up w.bus c o) (sym (put_owner (if gives_up w.bus c o then bus_lapsed w.bus else w.bus) c o) ∙ e);
  fits = given_up (gives_up w.bus c o) calm;
  settled = a.settled;
  closed = a.closed;
  begun = a.begun;
  shut = a.shut;
  cut = a.cut;
  table = a.table;
  places = a.places;
} where
  idle : (m : Bool) → (if m then bus_lapsed w.bus else w.bus).owner ≡ None → (if m then [] else w.trace) ≡ []
  idle true e = refl
  idle false e = a.idle e

  given_up : (m : Bool) → (m ≡ true → AwaitsMore (stage_of w.trace) → ⊥)
      → Fits (Ended w.gear k.bus) (Met w.gear k.found) Any (stage_of (if m then [] else w.trace)) now drew k.bus
  given_up true calm =
      subst (λ z. Fits (Ended w.gear k.bus) (Met w.gear k.found) Any z now drew k.bus) (sym stage_none)
      (leave (Ended w.gear k.bus) (Met w.gear k.found) Any Any _ _ _ _ (calm refl) a.fits)
  given_up false calm = a.fits

offered_agrees : (p : Plan) (plan : IsPlan p) (w : World) (c : ℕ) (f : Forward) (now : ℕ) (drew : Bool) (since : Since) (k : Known)
    → Allowed w (event.Offered c f)
    → LeavesUsed p.used (event.Offered c f) → Agrees p w now drew since k → Agrees p (happens w (event.Offered c f)) now drew since k
offered_agrees p plan w c f now drew since k here leaves a = record {
  holds = holds_step p plan w (event.Offered c f) here leaves a.holds;
  idle = a.idle;
  fits = a.fits;
  settled = a.settled;
  closed = a.closed;
  begun = a.begun;
  shut = a.shut;
  cut = a.cut;
  table = a.table;
  places = a.places;
}

-- ---------------------------------------------------------------- items
-- a frame is followed by silence if no answer comes next
no_answer : (x : Item) (now : ℕ) (drew : Bool) (ys : List Entry) → answer_after x (first_of (items_from now drew ys)) ≡ Silence
no_answer x now drew [] = refl
no_answer x now drew (y ∷ ys) = go (may_be_answered x.what && in_window x (item_at (begins_at now drew y) (heard.Forward y.frame))) where
  go : (m : Bool) → (if m then Silence else Silence) ≡ Silence
  go true = refl
  go false = refl

window : (end : ℕ) → (nat_le 2400 (end + 7923 - end) && nat_le (end + 7923 - end) 12400) ≡ true
window end = rw (gap end) refl where
  gap : (end : ℕ) → end + 7923 - end ≡ 7923
  gap end = omega arith

-- an answer follows a question
an_answer : (now : ℕ) (drew : Bool) (y : Entry) (z : Item) → awaits y.frame ≡ true → z.at ≡ ends_at now drew y + 7923
    → (awaits y.frame && in_window (item_at (begins_at now drew y) (heard.Forward y.frame)) z) ≡ true
an_answer now drew y z asks at = rw (asks, at, window (ends_at now drew y)) refl

-- ---------------------------------------------------------------- a whole run
module _ (p : Plan) (plan : IsPlan p) where
  pub record IsToldOf (es : List Event) (w : World) (k : Known) (before : Option Item) (items : List Item) : Type 0 where
    pub findings : findings_from k before items ≡ []
    pub table : IsTableOf (after_all w es).gear (known_from k before items).table

  both : {A : Type 0} (xs ys : List A) → xs ≡ [] → ys ≡ [] → xs ++ ys ≡ []
  both xs ys d e = rw (d, e) refl

  sent_whole : (w : World) (c : ℕ) (f : Forward) (h : Answer) (es : List Event) (now : ℕ) (drew : Bool) (since : Since) (k : Known) (before : Option Item)
      → Allowed w (event.Sent c f h) → LeavesUsed p.used (event.Sent c f h) → DisturbsNothing w (event.Sent c f h) → Agrees p w now drew since k
      → Within since.at (now + rest_before drew (command_of f))
      → ((later : Known) (z : Option Item) → Agrees p (happens w (event.Sent c f h)) (over_at (now + rest_before drew (command_of f) + 14167) h)
      (is_randomise (command_of f)) (open_since (command_of f) (now + rest_before drew (command_of f) + 14167) since) later
      → IsToldOf es (happens w (event.Sent c f h)) later z (items_from (over_at (now + rest_before drew (command_of f) + 14167) h) (is_randomise (command_of f))
      (frames_of es)))
      → IsToldOf (event.Sent c f h ∷ es) w k before (items_from now drew (entry f h ∷ frames_of es))
  sent_whole w c f h es now drew since k before here leaves calm agrees within more = go h refl where
    frame : Item
    frame = item_of now drew (command_of f) f

    told : told_of k frame (seen.Sent f h) kinds ≡ []
    told = nothing_told p plan w c f h now drew since k here leaves calm agrees within

    next : Agrees p (happens w (event.Sent c f h)) (over_at frame.until h) (is_randomise (command_of f)) (open_since (command_of f) frame.until since)
        (known_after frame (seen.Sent f h) k)
    next = known_agrees p plan w c f h now drew since k here leaves calm agrees within

    asks : (h ≡ Silence → ⊥) → awaits f ≡ true
    asks some = by (is_question (command_of f)) refl where
      by : (m : Bool) → is_question (command_of f) ≡ m → awaits f ≡ true
      by true q = awaited f (command_of f) refl q
      by false q = absurd (some (silent (command_of f) w.gear h calm.0 q))

    rest : List Item
    rest = items_from (over_at frame.until h) (is_randomise (command_of f)) (frames_of es)

    -- a frame that is seen so, and what comes after it
    alone_told : seen_of before frame (first_of rest) ≡ seen.Sent f h → IsToldOf (event.Sent c f h ∷ es) w k before (frame ∷ rest)
    alone_told is =
        let after = more (known_after frame (seen.Sent f h) k) (Some frame) next in
        record {
          findings =
              subst (λ q. told_of k frame q kinds ++ findings_from (known_after frame q k) (Some frame) rest ≡ []) (sym is) (both _ _ told after.findings);
          table = subst (λ q. IsTableOf (after_all (happens w (event.Sent c f h)) es).gear (known_from (known_after frame q k) (Some frame) rest).table)
              (sym is)
              after.table;
        }

    answer_told : (z : Item) → seen_of before frame (Some z) ≡ seen.Sent f h → seen_of (Some frame) z (first_of rest) ≡ seen.Replied
        → z.until ≤ over_at frame.until h
        → IsToldOf (event.Sent c f h ∷ es) w k before (frame ∷ z ∷ rest)
    answer_told z is reply over =
        let mid : Known = known_after frame (seen.Sent f h) k in
        let after = more (known_after z seen.Replied mid) (Some z)
        (replied_agrees p plan (happens w (event.Sent c f h)) (over_at frame.until h) (is_randomise (command_of f))
        (open_since (command_of f) frame.until since) mid z over next) in
        record {
          findings = subst (λ q. told_of k frame q kinds
              ++ (told_of (known_after frame q k) z (seen_of (Some frame) z (first_of rest)) kinds
              ++ findings_from (known_after z (seen_of (Some frame) z (first_of rest)) (known_after frame q k)) (Some z) rest) ≡ []) (sym is)
              (subst (λ q. told_of k frame (seen.Sent f h) kinds ++ (told_of mid z q kinds ++ findings_from (known_after z q mid) (Some z) rest) ≡ [])
              (sym reply)
              (both _ _ told (both _ _ (replied_tells mid z) after.findings)));
          table = subst (λ q. IsTableOf (after_all (happens w (event.Sent c f h)) es).gear
              (known_from (known_after z (seen_of (Some frame) z (first_of rest)) (known_after frame q k)) (Some z) rest).table) (sym is)
              (subst (λ q. IsTableOf (after_all (happens w (event.Sent c f h)) es).gear (known_from (known_after z q mid) (Some z) rest).table) (sym reply)
              after.table);
        }

    go : (a : Answer) → h ≡ a → IsToldOf (event.Sent c f h ∷ es) w k before (frame ∷ (answers_at frame.until a ++ rest))
    go Silence e = alone_told (ap (λ a. seen.Sent f a) (no_answer frame (over_at frame.until h) (is_randomise (command_of f)) (frames_of es) ∙ sym e))
    go (Byte n) e = answer_told (item_at (frame.until + WAIT) (heard.Backward n))
        (rw (an_answer now drew (entry f h) (item_at (frame.until + WAIT) (heard.Backward n)) (asks (λ s. let both = sym e ∙ s in cc)) refl, e) refl)
        (rw (an_answer now drew (entry f h) (item_at (frame.until + WAIT) (heard.Backward n)) (asks (λ s. let both = sym e ∙ s in cc)) refl) refl)
        (rw e (omega arith))
    go Damaged e = answer_told (item_at (frame.until + WAIT) heard.Damaged)
        (rw (an_answer now drew (entry f h) (item_at (frame.until + WAIT) heard.Damaged) (asks (λ s. let both = sym e ∙ s in cc)) refl, e) refl)
        (rw (an_answer now drew (entry f h) (item_at (frame.until + WAIT) heard.Damaged) (asks (λ s. let both = sym e ∙ s in cc)) refl) refl)
        (rw e (omega arith))

  pub whole : (w : World) (es : List Event) (now : ℕ) (drew : Bool) (since : Since) (k : Known) (before : Option Item) → AllAllowed w es
      → AllByRecursion (LeavesUsed p.used) es
      → DisturbNothing w es → AreInTime since now drew (frames_of es) → Agrees p w now drew since k
      → IsToldOf es w k before (items_from now drew (frames_of es))
  whole w [] now drew since k before all leaves calm timely a =
      record { findings = rw (none k.bus.begun a.begun, searched k.bus.cut a.cut) refl; table = a.table } where
        none : (o : Option Begun) → ((y : Begun) → o ≡ Some y → since.at ≡ Some y.until) → o ≡ None
        none None at = refl
        none (Some y) at = absurd (let some = at y refl in let both = sym timely.0 ∙ some in cc)

        searched : (o : Option ℕ) → ((t : ℕ) → o ≡ Some t → since.is_cut ≡ true) → o ≡ None
        searched None at = refl
        searched (Some t) at = absurd (let cut = at t refl in let both = sym timely.1 ∙ cut in cc)
  whole w (event.Acted c i o ∷ es) now drew since k before all leaves calm timely a =
      let rest = whole (happens w (event.Acted c i o)) es now drew since k before all.1 leaves.1 calm.1 timely
      (acted_agrees p plan w c i o now drew since k all.0 leaves.0 calm.0 a) in
      record { findings = rest.findings; table = rest.table }
  whole w (event.Offered c f ∷ es) now drew since k before all leaves calm timely a =
      let rest = whole (happens w (event.Offered c f)) es now drew since k before all.1 leaves.1 calm.1 timely
      (offered_agrees p plan w c f now drew since k all.0 leaves.0 a) in
      record { findings = rest.findings; table = rest.table }
  whole w (event.Sent c f h ∷ es) now drew since k before all leaves calm timely a =
      sent_whole w c f h es now drew since k before all.0 leaves.0 calm.0 a timely.0
      (λ later z agrees. whole (happens w (event.Sent c f h)) es _ _ _ later z all.1 leaves.1 calm.1 timely.1 agrees)
  whole w (_ ∷ es) now drew since k before all leaves calm timely a = absurd calm.0
