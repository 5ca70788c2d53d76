use Rattle.dali_progress.proofs.Below.{ℕ, List, [], ◌∷◌, sym, subst, ◌∙◌, true, ◌≡◌, ◌<◌, ◌⊎◌, inl, inr, Bool, false, refl, ap, length, Option, Some, None}
use Rattle.dali_progress.proofs.Below.{◌==◌, if◌then◌else◌, ◌+◌, ◌≤◌, suc, arith, ◌||◌, bit_at-zero, count_by, Allowed, happens, entry, block_at, Plan, World}
use Rattle.dali_progress.proofs.Below.{controller_at, Event, gear_of, is_bare, OfPowered, HasShort, same_number, number_same, is_bare_by, bare_is, SiteState}
use Rattle.dali_progress.proofs.Below.{world, site_logged, machine_at, records_now, Rounds, IsOfRound, site_after, Succeeds, IsAlone, HasEnded, BySurvey}
use Rattle.dali_progress.proofs.Below.{most_frames, bare, HasVacant, high_of, MASK24, Answer, Silence, Byte, Damaged, SearchAddress, command_of, Command}
use Rattle.dali_progress.proofs.Below.{RandomByte, High, Middle, Low, Gear, row_after, answers_of, heard_of, Everyone, frame_put, record_ordered, Kept}
use Rattle.dali_progress.proofs.Below.{Assignment, Has, HasAddress, InBlock, IsOnce, stage_of, next_stage, Block, End, AllFound, BlockFull, GaveUp, Input}
use Rattle.dali_progress.proofs.Below.{Order, Record, Stage, middle_next, low_next, stage_more, mapped_from, Machine, machine_heard, machine_told}
use Rattle.dali_progress.proofs.Below.{machine_committed, heard_after, marked_at, at_first, has_short, with_short, without_short, Purpose, Asking, Shorts}
use Rattle.dali_progress.proofs.{Below.{informed_by, IsSettledOn}, Along.{Runs, runs_on, RunsAll, runs_all}, Gives.{Gives, gives_self, gives_then, frame_gives}}
use Rattle.dali_progress.proofs.{Gives.bare_before, Logged.{world_logged, same_some, block_now}, Lone.{lone_next, Moment, IsDueOf, acts_by, due_of}}
use Rattle.dali_progress.proofs.{Lone.ended_rests, Survey.Goes.{of_survey, argument, sends_now, one_now, EndsBy, began_at, starts, ended_by, true_now}}
use Rattle.dali_progress.proofs.Survey.{Goes.settled_still, Stands.{Begun, Counts, SurveyAt, SurveyEnds, AreTaken}, Queried.{Holds, Nobody, OneGear, one_gear}}
use Rattle.dali_progress.proofs.{Survey.Drawn.count_first, Stands.{some_is, Sends}, Surveying.{heard_high, with_other, without_same, without_other}}
use Rattle.{dali_progress.proofs.{Beginnings.runs_after, Later.some_same, Survey.Woken.count_there}, dali_gear.specs.Gear.has_short as is_short}
use Rattle.dali_events.specs.declared.event.Event.TheVariants as event
use Rattle.dali_script.specs.declared.stage.Stage.TheVariants as stage
use Rattle.dali_progress.proofs.Drawing as staying

-- WHO IS GIVEN A SHORT ADDRESS in a whole survey of one controller alone.

event_gives : (start : Begun) (s : SiteState) (c left : ℕ) (e : Event) → Runs (of_survey start) s c left → Allowed (world s) e → IsOfRound true s c e
    → Gives (block_at s.plan c) (world s).gear (happens (world s) e).gear
event_gives start s c left (event.Acted d i o) u here of = gives_self (block_at s.plan c) (world s).gear
event_gives start s c left (event.Sent d f h) u here of =
    let put = lone_next (world s) s.queue c u.machine of.0 u.goes.lone of.1 in
    frame_gives s c f h u.run (subst (λ n. Allowed (world s) (event.Sent n f h)) (of.2 ∙ put.3) here)
event_gives start s c left _ u here of = absurd of

pub all_give : (start : Begun) (s : SiteState) (c left : ℕ) (es : List Event) → Runs (of_survey start) s c left → Rounds true s c es
    → Gives (block_at s.plan c) (world s).gear (world (site_after s es)).gear
all_give start s c left [] u rounds = gives_self (block_at s.plan c) (world s).gear
all_give start s c left (e ∷ es) u rounds =
    let on = runs_on (of_survey start) (argument start) s c left e u rounds.0 rounds.1 in
    gives_then (block_at s.plan c) (world s).gear (world (site_logged s e)).gear (world (site_after (site_logged s e) es)).gear
    (subst (λ (w : World). Gives (block_at s.plan c) (world s).gear w.gear) (sym (world_logged s e)) (event_gives start s c left e u rounds.0 rounds.1))
    (all_give start (site_logged s e) c on.rest es on.runs rounds.2)

-- WHAT A SURVEY HAS MARKED, GEAR HAS, if nothing is disturbed.

-- some gear has the short address, with power or without
abbrev pub IsHeld : List Gear → ℕ → Type 0
IsHeld gs a = (k : ℕ) × (k < length gs) × ((gear_of gs k).short ≡ Some a)

abbrev pub AreHeld : Shorts → List Gear → Type 0
AreHeld heard gs = (a : ℕ) → a < 64 → has_short heard a ≡ true → IsHeld gs a

-- gear keep what they have
pub held_on : (b : Block) (gs hs : List Gear) (a : ℕ) → Gives b gs hs → IsHeld gs a → IsHeld hs a
held_on b gs hs a gives (k, there, short) = (k, subst (λ n. k < n) (sym gives.count) there, gives.short k a there short)

-- ---------------------------------------------------------------- a mark

with_held : (heard : Shorts) (gs : List Gear) (b : ℕ) → b < 64 → IsHeld gs b → AreHeld heard gs → AreHeld (with_short heard b) gs
with_held heard gs b within held all a small has = go (a == b) refl where
  go : (t : Bool) → (a == b) ≡ t → IsHeld gs a
  go true is = subst (IsHeld gs) (sym (same_number a b is)) held
  go false is = all a small (sym (with_other heard b a within (λ e. (let both : true ≡ false = sym (number_same a b e) ∙ is in cc))) ∙ has)

without_held : (heard : Shorts) (gs : List Gear) (b : ℕ) → b < 64 → AreHeld heard gs → AreHeld (without_short heard b) gs
without_held heard gs b within all a small has = go (a == b) refl where
  go : (t : Bool) → (a == b) ≡ t → IsHeld gs a
  go true is = absurd (let both : true ≡ false = sym has ∙ without_same heard b a within (same_number a b is) in cc)
  go false is = all a small (sym (without_other heard b a within small (λ e. (let both : true ≡ false = sym (number_same a b e) ∙ is in cc))) ∙ has)

-- what is to be known of an answer, for what it marks
abbrev Marks : Stage → Answer → List Gear → Type 0
Marks (stage.HighAsked b None) Silence gs = Unit {0}
Marks (stage.HighAsked b high) h gs = (b < 64) × IsHeld gs b
Marks (stage.MiddleAsked b bytes) h gs = (b < 64) × IsHeld gs b
Marks (stage.Spelled b number) h gs = (b < 64) × IsHeld gs b
Marks _ h gs = Unit {0}

marked_held : (s : Stage) (h : Answer) (heard : Shorts) (gs : List Gear) → Marks s h gs → AreHeld heard gs → AreHeld (marked_at s h heard) gs
marked_held (stage.HighAsked b None) Silence heard gs marks all = all
marked_held (stage.HighAsked b None) (Byte v) heard gs marks all = with_held heard gs b marks.0 marks.1 all
marked_held (stage.HighAsked b None) Damaged heard gs marks all = with_held heard gs b marks.0 marks.1 all
marked_held (stage.HighAsked b (Some v)) h heard gs marks all = with_held heard gs b marks.0 marks.1 all
marked_held (stage.MiddleAsked b bytes) h heard gs marks all = with_held heard gs b marks.0 marks.1 all
marked_held (stage.Spelled b None) h heard gs marks all = with_held heard gs b marks.0 marks.1 all
marked_held (stage.Spelled b (Some n)) h heard gs marks all = go (n == MASK24) where
  go : (t : Bool) → AreHeld (if t then with_short heard b else without_short heard b) gs
  go true = with_held heard gs b marks.0 marks.1 all
  go false = without_held heard gs b marks.0 all
marked_held _ h heard gs marks all = all

-- ---------------------------------------------------------------- a question of a survey

asked_marks : (a : ℕ) (s : Stage) (k : Kept) (marks : Shorts) (asked from : ℕ) (n : SearchAddress) (start : Begun) (gs : List Gear) (left : ℕ) (c : Command)
    (h : Answer) → Counts a s k marks asked from start gs left → Sends (Asking a) n k s c → OneGear gs → h ≡ heard_of (answers_of Everyone c 0 gs)
    → Marks (next_stage s c h) h gs
asked_marks a stage.Free k marks asked from n start gs left c h v is one heard =
    subst (λ d. h ≡ heard_of (answers_of Everyone d 0 gs) → Marks (next_stage stage.Free d h) h gs) (sym is) (λ now. go (heard_high a High gs h one now)) heard
  where
    go : ((g : ℕ) × Holds gs g a × (h ≡ Byte (high_of (gear_of gs g).random))) ⊎ (Nobody gs a × (h ≡ Silence))
        → Marks (next_stage stage.Free (RandomByte a High) h) h gs
    go (inl (g, holds, byte)) = subst (λ b. Marks (next_stage stage.Free (RandomByte a High) b) b gs) (sym byte) (v.ask.small, (g, holds.there, holds.short))
    go (inr (none, silent)) = subst (λ b. Marks (next_stage stage.Free (RandomByte a High) b) b gs) (sym silent) tt
asked_marks a (stage.HighAsked b (Some u)) k marks asked from n start gs left c h v is one heard =
    let tells = v.ask.asked.1 in
    subst (λ d. Marks (next_stage (stage.HighAsked b (Some u)) d h) h gs) (some_is (RandomByte b Middle) c is)
    (subst (λ t. Marks t h gs) (sym (middle_next b (Some u) h))
    (subst (λ d. (d < 64) × IsHeld gs d) (sym v.ask.asked.0) (v.ask.small, (tells.0, tells.1.there, tells.1.short))))
asked_marks a (stage.HighAsked b None) k marks asked from n start gs left c h v is one heard = absurd (cc)
asked_marks a (stage.MiddleAsked b (Some x)) k marks asked from n start gs left c h v is one heard =
    let tells = v.ask.asked.1 in
    subst (λ d. Marks (next_stage (stage.MiddleAsked b (Some x)) d h) h gs) (some_is (RandomByte b Low) c is)
    (subst (λ t. Marks t h gs) (sym (low_next b (Some x) h))
    (subst (λ d. (d < 64) × IsHeld gs d) (sym v.ask.asked.0) (v.ask.small, (tells.0, tells.1.there, tells.1.short))))
asked_marks a (stage.Spelled b (Some m)) k marks asked from n start gs left c h v is one heard = absurd (cc)
asked_marks a _ k marks asked from n start gs left c h v is one heard = absurd v.ask.asked

-- of whatever transaction
sent_held : (p : Purpose) (s : Stage) (k : Kept) (heard : Shorts) (asked : ℕ) (n : SearchAddress) (start : Begun) (gs : List Gear) (left : ℕ) (d : Command)
    (h : Answer) → ((a : ℕ) → p ≡ Asking a → (from : ℕ) × Counts a s k heard asked from start gs left) → Sends p n k s d → OneGear gs
    → h ≡ heard_of (answers_of Everyone d 0 gs) → AreHeld heard gs → AreHeld (heard_after p (next_stage s d h) h heard) gs
sent_held (Asking a) s k heard asked n start gs left d h counts is one answers all =
    let v = counts a refl in
    marked_held (next_stage s d h) h heard gs (asked_marks a s k heard asked v.0 n start gs left d h v.1 is one answers) all
sent_held _ s k heard asked n start gs left d h counts is one answers all = all

-- ---------------------------------------------------------------- along rounds

abbrev HeldBy : Machine → List Gear → List ℕ → Type 0
HeldBy m gs numbers = AreHeld m.heard gs

acted_held : (w : World) (q c : ℕ) (m : Machine) (out : Option Record) (last : Option Order) (told : Option Input) (i : Input) (gs : List Gear)
    → Moment w q c m out last told → m.last ≡ last → IsDueOf last told i → Succeeds true i → AreHeld (informed_by m told).heard gs
    → AreHeld (machine_told m i).heard gs
acted_held w q c m out last told i gs at is due surveys all =
    acts_by true (λ l t j. m.last ≡ l → AreHeld (informed_by m t).heard gs → AreHeld (machine_told m j).heard gs) (λ is all. all) (λ p f h is all. all)
    (λ x is all. subst (λ l. AreHeld (machine_committed m (record_ordered l)).heard gs) (sym is) all) w q c m out last told i at due surveys is all

counts_of : (p : Purpose) (told : Bool) (m : Machine) (start : Begun) (gs : List Gear) (left : ℕ)
    → SurveyAt told p (stage_of m.trace) m.kept m.heard m.asked m.course start gs left → (a : ℕ) → p ≡ Asking a
    → (from : ℕ) × Counts a (stage_of m.trace) m.kept m.heard m.asked from start gs left
counts_of p told m start gs left at a is =
    let now = subst (λ q. SurveyAt told q (stage_of m.trace) m.kept m.heard m.asked m.course start gs left) is at in (m.course.from, now.1)

held_stays : (start : Begun) → staying.Stays (of_survey start) HeldBy
held_stays start = record {
  acts = λ s c left l i o u here surveys given holds all.
      acted_held (world s) s.queue c u.machine (controller_at (world s) c).outstanding (controller_at (world s) c).last (controller_at (world s) c).told i
      (world s).gear u.goes.lone.moment u.goes.lone.last (due_of (controller_at (world s) c) i here.due) surveys all;
  sends = λ s c left rest p f h u here heard last holds now all.
      let m : Machine = u.machine in
      let marked : AreHeld (heard_after m.course.purpose (next_stage (stage_of m.trace) (command_of f) h) h m.heard) (world s).gear =
      sent_held m.course.purpose (stage_of m.trace) m.kept m.heard m.asked m.course.number start (world s).gear left (command_of f) h
      (counts_of m.course.purpose false m start (world s).gear left holds.0.0.at) (sends_now m p f last holds.1)
      (one_gear (world s).gear (one_now s u.run)) heard all in
      subst (λ l. AreHeld (machine_heard m (frame_put l) h).heard (row_after Everyone (command_of f) 0 (world s).gear (world s).left)) (sym last)
      (subst (λ t. AreHeld (heard_after m.course.purpose t h m.heard) (row_after Everyone (command_of f) 0 (world s).gear (world s).left))
      (sym (stage_more m.trace (entry f h))) (λ a small has. held_on (block_at s.plan c) (world s).gear
      (row_after Everyone (command_of f) 0 (world s).gear (world s).left) a (frame_gives s c f h u.run here) (marked a small has)));
}

-- nothing is marked at the start
none_marked : (s : SiteState) (c : ℕ) → IsAlone s c → staying.StaysAt HeldBy s c
none_marked s c alone m there =
    subst (λ t. AreHeld (informed_by m t).heard (world s).gear) (sym alone.told) (subst (λ (n : Machine). AreHeld n.heard (world s).gear)
    (same_some (machine_at s c) (at_first c (controller_at (world s) c).records) m alone.machine there)
    (λ a small has. absurd (let both : true ≡ false = sym has ∙ ap (λ n. n == 1) (bit_at-zero a) in cc)))

-- AT THE END some gear has each address that is marked
pub end_held : (start : Begun) (s : SiteState) (c left : ℕ) (es : List Event) (e : End) → IsAlone s c → (u : Runs (of_survey start) s c left)
    → Rounds true s c es → HasEnded (site_after s es) c e → (m : Machine) → machine_at (site_after s es) c ≡ Some m
    → AreHeld m.heard (world (site_after s es)).gear
end_held start s c left es e alone u rounds ended m there =
    let after : SiteState = site_after s es in
    let all : RunsAll (of_survey start) s c left es = runs_all (of_survey start) (argument start) s c left es u rounds in
    let told : (controller_at (world after) c).told ≡ None =
    (ended_rests (world after) after.queue c all.runs.machine (controller_at (world after) c).outstanding (controller_at (world after) c).last
    (controller_at (world after) c).told e ended all.runs.goes.lone.moment).1 in
    subst (λ t. AreHeld (informed_by m t).heard (world after).gear) told
    (staying.stays_all (of_survey start) (argument start) HeldBy (held_stays start) s c left es u rounds (none_marked s c alone) m there)

-- IF AN ADDRESS IS VACANT FOR EACH GEAR WITHOUT, a survey ends with all-found.

-- ---------------------------------------------------------------- counts

two_at_most : (a b c : Bool) (m n k : ℕ) → (a ≡ true → c ≡ true) → (b ≡ true → c ≡ true) → (a ≡ true → b ≡ true → ⊥) → m + n ≤ k
    → (if a then 1 else 0) + m + ((if b then 1 else 0) + n) ≤ (if c then 1 else 0) + k
two_at_most true true c m n k first second never few = absurd (never refl refl)
two_at_most true false true m n k first second never few = omega (arith, few)
two_at_most true false false m n k first second never few = absurd (let both : false ≡ true = first refl in cc)
two_at_most false true true m n k first second never few = omega (arith, few)
two_at_most false true false m n k first second never few = absurd (let both : false ≡ true = second refl in cc)
two_at_most false false true m n k first second never few = omega (arith, few)
two_at_most false false false m n k first second never few = omega (arith, few)

-- if no gear passes two tests, and each that passes one of them passed a third before
two_counts : (p q r : Gear → Bool) (gs hs : List Gear) → length hs ≡ length gs → ((k : ℕ) → k < length gs → p (gear_of hs k) ≡ true → r (gear_of gs k) ≡ true)
    → ((k : ℕ) → k < length gs → q (gear_of hs k) ≡ true → r (gear_of gs k) ≡ true)
    → ((k : ℕ) → k < length gs → p (gear_of hs k) ≡ true → q (gear_of hs k) ≡ true → ⊥) → count_by p hs + count_by q hs ≤ count_by r gs
two_counts p q r [] [] e first second never = omega arith
two_counts p q r [] (h ∷ hs) e first second never = absurd (omega arith)
two_counts p q r (g ∷ gs) [] e first second never = absurd (omega arith)
two_counts p q r (g ∷ gs) (h ∷ hs) e first second never =
    rw (count_first p h hs, count_first q h hs, count_first r g gs)
    (two_at_most (p h) (q h) (r g) (count_by p hs) (count_by q hs) (count_by r gs) (first 0 (omega arith)) (second 0 (omega arith)) (never 0 (omega arith))
    (two_counts p q r gs hs (omega arith) (λ k there. first (suc k) (omega (arith, there))) (λ k there. second (suc k) (omega (arith, there)))
    (λ k there. never (suc k) (omega (arith, there)))))

-- ---------------------------------------------------------------- gear that have an address of a list

abbrev has_one : List ℕ → Gear → Bool
has_one [] g = false
has_one (x ∷ xs) g = is_short x g.short || has_one xs g

is_it : (a : ℕ) (o : Option ℕ) → is_short a o ≡ true → o ≡ Some a
is_it a None e = absurd (cc)
is_it a (Some b) e = ap (λ n. Some n) (sym (same_number a b e))

it_is : (a : ℕ) (o : Option ℕ) → o ≡ Some a → is_short a o ≡ true
it_is a o e = rw e (number_same a a refl)

one_had : (xs : List ℕ) (g : Gear) → has_one xs g ≡ true → (a : ℕ) × Has xs a × (g.short ≡ Some a)
one_had [] g is = absurd (cc)
one_had (x ∷ xs) g is = go (is_short x g.short) refl is (one_had xs g) where
  go : (b : Bool) → is_short x g.short ≡ b → (b || has_one xs g) ≡ true → (has_one xs g ≡ true → (a : ℕ) × Has xs a × (g.short ≡ Some a))
      → (a : ℕ) × Has (x ∷ xs) a × (g.short ≡ Some a)
  go true here one more = (x, inl refl, is_it x g.short here)
  go false other one more = let rest = more one in (rest.0, inr rest.1, rest.2)

or_left : (a b : Bool) → a ≡ true → (a || b) ≡ true
or_left true b is = refl
or_left false b is = absurd (cc)

or_right : (a b : Bool) → b ≡ true → (a || b) ≡ true
or_right true b is = refl
or_right false b is = is

-- as many as addresses, if some gear has each of them
all_counted : (xs : List ℕ) (gs : List Gear) → IsOnce xs → ((a : ℕ) → Has xs a → IsHeld gs a) → length xs ≤ count_by (has_one xs) gs
all_counted [] gs once held = omega arith
all_counted (x ∷ xs) gs once held =
    let here : IsHeld gs x = held x (inl refl) in
    let one = count_there (λ g. is_short x g.short) gs here.0 here.1 (it_is x (gear_of gs here.0).short here.2) in
    let rest = all_counted xs gs once.1 (λ a has. held a (inr has)) in
    let both =
    two_counts (λ g. is_short x g.short) (has_one xs) (has_one (x ∷ xs)) gs gs refl
    (λ k there is. or_left (is_short x (gear_of gs k).short) (has_one xs (gear_of gs k)) is)
    (λ k there is. or_right (is_short x (gear_of gs k).short) (has_one xs (gear_of gs k)) is) (λ k there is other. apart (gear_of gs k) is other) in
    omega (arith, one, rest, both)
  where
    apart : (g : Gear) → is_short x g.short ≡ true → has_one xs g ≡ true → ⊥
    apart g is other =
        let had = one_had xs g other in
        let same : had.0 ≡ x = some_same had.0 x (sym had.2 ∙ is_it x g.short is) in
        once.0 (subst (Has xs) same had.1)

-- ---------------------------------------------------------------- who is left

-- the gear that has an address that was vacant had none before, so fewer are left
pub fewer_left : (b : Block) (gs hs : List Gear) (xs : List ℕ) → Gives b gs hs → IsOnce xs
    → ((a : ℕ) → Has xs a → (k : ℕ) → k < length gs → (gear_of gs k).short ≡ Some a → ⊥) → ((a : ℕ) → Has xs a → IsHeld hs a)
    → count_by is_bare hs + length xs ≤ count_by is_bare gs
fewer_left b gs hs xs gives once vacant held =
    let all = all_counted xs hs once held in
    let both = two_counts is_bare (has_one xs) is_bare gs hs gives.count (bare_before b gs hs gives) given never in
    omega (arith, all, both)
  where
    given : (k : ℕ) → k < length gs → has_one xs (gear_of hs k) ≡ true → is_bare (gear_of gs k) ≡ true
    given k there is = go (one_had xs (gear_of hs k) is) where
      go : (a : ℕ) × Has xs a × ((gear_of hs k).short ≡ Some a) → is_bare (gear_of gs k) ≡ true
      go (a, has, short) = by (gives.given k a there short) where
        by : ((gear_of gs k).short ≡ Some a) ⊎ (((gear_of gs k).powered ≡ true) × ((gear_of gs k).short ≡ None) × InBlock b a) → is_bare (gear_of gs k) ≡ true
        by (inl had) = absurd (vacant a has k there had)
        by (inr new) = is_bare_by (gear_of gs k) new.0 new.1

    never : (k : ℕ) → k < length gs → is_bare (gear_of hs k) ≡ true → has_one xs (gear_of hs k) ≡ true → ⊥
    never k there none is =
        let had = one_had xs (gear_of hs k) is in
        let both : None ≡ Some had.0 = sym (bare_is (gear_of hs k) none).1 ∙ had.2 in cc

-- ---------------------------------------------------------------- the block is never full

-- an address that is taken some gear has
taken_held : (m : Machine) (gs : List Gear) (a : ℕ) → a < 64 → ((r : ℕ) → Has m.kept.reserved (a, r) → Has m.kept.enrolled (a, r))
    → ((b r : ℕ) → Has m.kept.enrolled (b, r) → IsHeld gs b) → AreHeld m.heard gs
    → HasAddress m.kept.reserved a ⊎ (HasAddress m.kept.enrolled a ⊎ (has_short m.heard a ≡ true)) → IsHeld gs a
taken_held m gs a small settled entries marks (inl reserved) =
    let x = mapped_from (λ (p : Assignment). p.0) m.kept.reserved a reserved in
    entries a x.0.1 (settled x.0.1 (subst (λ b. Has m.kept.reserved (b, x.0.1)) x.2 x.1))
taken_held m gs a small settled entries marks (inr (inl enrolled)) =
    let x = mapped_from (λ (p : Assignment). p.0) m.kept.enrolled a enrolled in
    subst (IsHeld gs) x.2 (entries x.0.0 x.0.1 x.1)
taken_held m gs a small settled entries marks (inr (inr mark)) = marks a small mark

ended_so : (e : End) (k : Kept) (heard : Shorts) (gs : List Gear) → SurveyEnds e k heard gs
    → ((e ≡ AllFound) × OfPowered gs HasShort) ⊎ ((0 < count_by is_bare gs) × AreTaken k heard)
ended_so AllFound k heard gs well = inl (refl, well)
ended_so GaveUp k heard gs well = absurd well
ended_so BlockFull k heard gs well = inr well

-- ---------------------------------------------------------------- its end

-- what is known of a survey that has ended
pub record IsOver (s : SiteState) (c : ℕ) (es : List Event) (e : End) : Type 0 where
  pub by : EndsBy s (site_after s es) c e
  pub gives : Gives (block_at s.plan c) (world s).gear (world (site_after s es)).gear
  pub marks : AreHeld by.machine.heard (world (site_after s es)).gear

pub over : (s : SiteState) (c : ℕ) (es : List Event) (e : End) → IsAlone s c → Rounds true s c es → HasEnded (site_after s es) c e → IsOver s c es e
over s c es e alone rounds ended =
    let all = runs_after BySurvey s c es alone rounds in
    let by : EndsBy s (site_after s es) c e = ended_by s (site_after s es) c all.rest e all.runs ended in
    let left : ℕ = most_frames BySurvey (bare s) in
    let u : Runs (of_survey (began_at s c)) s c left = starts s c alone in
    record {
      by = by;
      gives = all_give (began_at s c) s c left es u rounds;
      marks = end_held (began_at s c) s c left es e alone u rounds ended by.machine by.there;
    }

-- the plan stays
pub planned : (P : Plan → Type 0) (es : List Event) (s : SiteState) → P s.plan → P (site_after s es).plan
planned P [] s has = has
planned P (e ∷ es) s has = planned P es (site_logged s e) has

-- it ends with all-found, or some gear is left, and gear have each address of the block that was not reserved but as it was enrolled
pub full_held : (s : SiteState) (c : ℕ) (es : List Event) (e : End) → IsAlone s c → Rounds true s c es → HasEnded (site_after s es) c e
    → ((e ≡ AllFound) × OfPowered (world (site_after s es)).gear HasShort) ⊎ ((0 < count_by is_bare (world (site_after s es)).gear)
    × ((a : ℕ) → InBlock (block_at s.plan c) a → IsSettledOn s c a → IsHeld (world (site_after s es)).gear a))
full_held s c es e alone rounds ended =
    elim (ended_so e now.by.machine.kept now.by.machine.heard hs now.by.well) [
      | inl all ↦ inl all
      | inr full ↦ inr (
        full.0,
        λ a has settled. taken_held now.by.machine hs a (block_now t c now.by.run now.by.up a (within a has))
            (λ r reserved. settled_still (began_at s c) now.by.machine.kept (a, r) (settled r) (now.by.settled (a, r) reserved)) entries
            now.marks (full.1 a (subst (λ (k : Kept). InBlock k.block a) (sym now.by.kept) (within a has))),
      )
    ]
  where
    t : SiteState
    t = site_after s es

    hs : List Gear
    hs = (world t).gear

    now : IsOver s c es e
    now = over s c es e alone rounds ended

    within : (a : ℕ) → InBlock (block_at s.plan c) a → InBlock (controller_at (world t) c).records.block a
    within a has =
        subst (λ b. InBlock b a) (sym ((records_now t.plan t.queue t.log now.by.run).block c now.by.up.known))
        (planned (λ p. InBlock (block_at p c) a) es s has)

    entries : (b r : ℕ) → Has now.by.machine.kept.enrolled (b, r) → IsHeld hs b
    entries b r has = let at = true_now t c now.by.run now.by.up b r (subst (λ (k : Kept). Has k.enrolled (b, r)) now.by.kept has) in (at.0, at.1, at.2)

-- WITH ADDRESSES ENOUGH all gear get one
pub enough_found : (s : SiteState) (c : ℕ) (es : List Event) (e : End) → IsAlone s c → HasVacant s c → Rounds true s c es
    → HasEnded (site_after s es) c e → (e ≡ AllFound) × OfPowered (world (site_after s es)).gear HasShort
enough_found s c es e alone vacant rounds ended =
    elim (full_held s c es e alone rounds ended) [ inl all ↦ all | inr full ↦ absurd (never full.0 full.1) ] where
      hs : List Gear
      hs = (world (site_after s es)).gear

      never : 0 < count_by is_bare hs → ((a : ℕ) → InBlock (block_at s.plan c) a → IsSettledOn s c a → IsHeld hs a) → ⊥
      never some held =
          let fewer =
          fewer_left (block_at s.plan c) (world s).gear hs vacant.addresses (over s c es e alone rounds ended).gives vacant.once
          (λ a has k there short. vacant.vacant a has k (there, short)) (λ a has. held a (vacant.within a has) (vacant.settled a has)) in
          none (count_by is_bare hs) (length vacant.addresses) (bare s) some fewer vacant.enough
        where
          none : (left n was : ℕ) → 0 < left → left + n ≤ was → was ≤ n → ⊥
          none left n was some fewer enough = omega (arith, some, fewer, enough)
