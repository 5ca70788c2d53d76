use Rattle.dali_progress.proofs.Below.{◌≡◌, ℕ, ◌<◌, ◌≤◌, ◌⊎◌, inl, inr, Bool, true, false, List, refl, sym, ap, subst, ◌∙◌, arith, length, Option, Some, None}
use Rattle.dali_progress.proofs.Below.{◌==◌, ◌&&◌, ◌/◌, ◌%◌, nat_lt, if◌then◌else◌, nat_tests, value_of, MASK24, short_of, Answer, Silence, Byte, Damaged}
use Rattle.dali_progress.proofs.Below.{SearchAddress, MASK, program_data, Command, Withdraw, SearchHigh, SearchMiddle, SearchLow, Program, QueryShort, Gear}
use Rattle.dali_progress.proofs.Below.{row_after, answers_of, heard_of, Everyone, Kept, named, queried, verified, Stage, Ascent, Course, sought, silent_after}
use Rattle.dali_progress.proofs.Below.{Sends, Purpose, Visiting, PassingOver, gear_of, is_wanted, wants, Seek, SameCore, after_program, programmed_wants}
use Rattle.dali_progress.proofs.{Below.{programs_at, after_withdraw, withdrawn_wants, withdraws_at, IsNoByte, IsHeardBut}, Frames.{Seeks, value_sought}}
use Rattle.dali_progress.proofs.{Frames.{mask_queried, verified_short, short_given, short_kept, low_byte}, Stands.{some_is, HaveShort}, Later.queried_by}
use Rattle.dali_progress.proofs.{Later.{verified_by, some_same}, Misheard.{Gear.{AreSought, AreBare, AreBareBut, AreNamedBut, HasOne}, Sent.Taken}}
use Rattle.dali_progress.proofs.Misheard.{Sent.{counted_on, told_hunts, few_on, reached_core, own_core, hunts_core, HuntedTo}, Stands.{StageOf, IsCounted}}
use Rattle.dali_progress.proofs.{Misheard.Stands.{IsReached, IsPast, IsOfOne, VisitStage, Visits, HuntAt, found_at, failed_at, Hunts}, Survey.Woken.low_after}
use Rattle.dali_script.specs.Stages.{answered}
use Rattle.dali_script.specs.declared.stage.Stage.TheVariants as stage
use Rattle.dali_events.proofs.Search.Leaving as leaving
use Rattle.dali_events.proofs.Search.Wanted as wanted
use Rattle.dali_progress.proofs.Misheard.Gear as gear

-- A FRAME OF A VISIT IS SENT. If it is gear g that is visited, anything may be heard of it; of any other it is heard what it
-- answers.

-- ---------------------------------------------------------------- gear answer

short_is : (a d : ℕ) → short_of (program_data (Some a)) ≡ Some d → a ≡ d
short_is a d = go ((program_data (Some a) % 2 == 1) && nat_lt (program_data (Some a)) 128) where
  go : (b : Bool) → (if b then Some (program_data (Some a) / 2) else None) ≡ Some d → a ≡ d
  go true e = let half : program_data (Some a) / 2 ≡ d = some_same (program_data (Some a) / 2) d e in omega (arith, half)
  go false e = absurd (cc)

short_small : (v d : ℕ) → short_of v ≡ Some d → d < 64
short_small v d = go ((v % 2 == 1) && nat_lt v 128) refl where
  below : nat_lt v 128 ≡ true → v < 128
  below e = grind (arith, nat_tests, e)

  go : (b : Bool) → ((v % 2 == 1) && nat_lt v 128) ≡ b → (if b then Some (v / 2) else None) ≡ Some d → d < 64
  go true all e =
      let less : v < 128 = below (wanted.both_pass (v % 2 == 1) (nat_lt v 128) all).1 in
      let half : v / 2 ≡ d = some_same (v / 2) d e in
      omega (arith, half, less)
  go false all e = absurd (cc)

-- what gear g may be heard as
abbrev pub IsSaid : Option ℕ → Answer → Type 0
IsSaid o h = (h ≡ Byte (program_data o)) ⊎ IsNoByte h

any_queried : (g : ℕ) (x : Ascent) (v : ℕ) (n r : SearchAddress) (gs hs : List Gear) (h : Answer) → g < length gs → SameCore gs hs
    → IsReached x v hs × AreBare g hs → r ≡ n → IsOfOne g v gs → (gear_of gs g).powered ≡ true → IsSaid (gear_of gs g).short h
    → VisitStage g (queried r h) x v n hs
any_queried g x v n r gs hs h in_row same both is one on said = go said where
  own : IsOfOne g v hs
  own = own_core g v gs hs same in_row one

  quiet : (a : Answer) → IsNoByte a → VisitStage g (queried r a) x v n hs
  quiet Silence none = (both.0, both.1, own)
  quiet Damaged none = (both.0, both.1, own)
  quiet (Byte b) none = absurd none

  by : (o : Option ℕ) → (gear_of gs g).short ≡ o → VisitStage g (queried r (Byte (program_data o))) x v n hs
  by None e = (both.0, both.1, is)
  by (Some a) e = tell (short_of (program_data (Some a))) refl (program_data (Some a) == MASK) where
    tell : (o : Option ℕ) → short_of (program_data (Some a)) ≡ o → (m : Bool) → VisitStage g (named r o m) x v n hs
    tell (Some d) told m = (
      both.0,
      both.1,
      own,
      gear.one_core v d gs hs same (g, in_row, on, e ∙ ap (λ c. Some c) (short_is a d told), one),
      short_small (program_data (Some a)) d told,
    )
    tell None told true = (both.0, both.1, is)
    tell None told false = (both.0, both.1, own)

  go : IsSaid (gear_of gs g).short h → VisitStage g (queried r h) x v n hs
  go (inl byte) = subst (λ a. VisitStage g (queried r a) x v n hs) (sym byte) (by (gear_of gs g).short refl)
  go (inr none) = quiet h none

any_verified : (g : ℕ) (x : Ascent) (v a : ℕ) (n r : SearchAddress) (hs : List Gear) (h : Answer) → IsReached x v hs → AreBare g hs → HaveShort hs v a → a < 64
    → IsOfOne g v hs → VisitStage g (verified r a h) x v n hs
any_verified g x v a n r hs Silence reached bare short small one = (reached, bare, one)
any_verified g x v a n r hs Damaged reached bare short small one = (reached, bare, one)
any_verified g x v a n r hs (Byte b) reached bare short small one = go (short_of b) where
  by : (d : ℕ) (same : Bool) → VisitStage g (if same then stage.Confirmed r a else stage.Inconclusive r (Some d)) x v n hs
  by d true = (reached, gear.bare_weaker g v hs bare, short, small)
  by d false = (reached, bare, one)

  go : (o : Option ℕ) → VisitStage g (answered r a o) x v n hs
  go None = (reached, bare, one)
  go (Some d) = by d (d == a)

-- who is visited: gear g, or another, whose answer is heard
abbrev pub IsHeardOf : ℕ → ℕ → Option ℕ → List Gear → Answer → Type 0
IsHeardOf g v o gs h = (IsOfOne g v gs × ((gear_of gs g).powered ≡ true) × IsSaid (gear_of gs g).short h) ⊎ (h ≡ Byte (program_data o))

visit_heard : (g v : ℕ) (n r : SearchAddress) (o : Option ℕ) (gs : List Gear) (numbers : List ℕ) (h : Answer) → Taken g QueryShort gs numbers h
    → wants gs v ≡ true → v < MASK24 → value_of r ≡ v → Seek gs r
    → ((k : ℕ) → k < length gs → (k ≡ g → ⊥) → is_wanted (gear_of gs k) ≡ true → (gear_of gs k).random ≡ v → (gear_of gs k).short ≡ o) → IsHeardOf g v o gs h
visit_heard g v n r o gs numbers h t wants_it small same seek short = go (there.0 == g) refl where
  there : (k : ℕ) × (k < length gs) × (is_wanted (gear_of gs k) ≡ true) × ((gear_of gs k).random ≡ v)
  there = wanted.wants_at gs v wants_it

  answers : h ≡ heard_of (answers_of Everyone QueryShort 0 gs) → h ≡ Byte (program_data (gear_of gs there.0).short)
  answers heard = heard ∙ gear.query_is gs r there.0 seek t.apart (subst (λ m. m < MASK24) (sym same) small) there.1 there.2 (there.3 ∙ sym same)

  said : IsHeardBut g gs QueryShort h → IsSaid (gear_of gs there.0).short h
  said (inl heard) = inl (answers heard)
  said (inr mis) = inr mis.2

  go : (b : Bool) → (there.0 == g) ≡ b → IsHeardOf g v o gs h
  go true is =
      inl (subst (λ k. ((gear_of gs k).random ≡ v) × ((gear_of gs k).powered ≡ true) × IsSaid (gear_of gs k).short h) (wanted.same_number there.0 g is)
      (there.3, wanted.wanted_powered (gear_of gs there.0) there.2, said t.heard))
  go false is = by t.heard where
    other : there.0 ≡ g → ⊥
    other e = let never : true ≡ false = sym (wanted.number_same there.0 g e) ∙ is in cc

    by : IsHeardBut g gs QueryShort h → IsHeardOf g v o gs h
    by (inl heard) =
        let none : (gear_of gs there.0).short ≡ o = short there.0 there.1 other there.2 there.3 in
        inr (answers heard ∙ ap (λ p. Byte (program_data p)) none)
    by (inr mis) =
        let random : (gear_of gs g).random ≡ v = gear.who_answers gs r g seek t.there mis.1 ∙ same in
        absurd (other (t.apart there.0 g there.1 t.there (subst (λ m. m < MASK24) (sym there.3) small) (there.3 ∙ sym random)))

-- ---------------------------------------------------------------- the frames of a visit

visits_as : (g : ℕ) (p : Purpose) (s t : Stage) (x : Ascent) (n : SearchAddress) (gs hs : List Gear) → (w : Visits g p s x n gs)
    → StageOf g p t x w.visited n hs → Visits g p t x n hs
visits_as g p s t x n gs hs w stage = record { visited = w.visited; number = w.number; drawn = w.drawn; stage_is = stage }

same_value : (n r : SearchAddress) (v : ℕ) → n ≡ r → n ≡ sought v → value_of r ≡ v
same_value n r v is number = ap value_of (sym is ∙ number) ∙ value_sought v

both_core : (g v : ℕ) (x : Ascent) (gs hs : List Gear) → SameCore gs hs → IsReached x v gs × AreBare g gs → IsReached x v hs × AreBare g hs
both_core g v x gs hs same both = (reached_core x v gs hs same both.0, gear.bare_core g gs hs same both.1)

three_core : (g v : ℕ) (x : Ascent) (gs hs : List Gear) → SameCore gs hs → g < length gs → IsReached x v gs × AreBare g gs × IsOfOne g v gs
    → IsReached x v hs × AreBare g hs × IsOfOne g v hs
three_core g v x gs hs same there all = (reached_core x v gs hs same all.0, gear.bare_core g gs hs same all.1, own_core g v gs hs same there all.2)

past_withdrawn : (x : Ascent) (v : ℕ) (gs : List Gear) (numbers : List ℕ) (r : SearchAddress) → Seek gs r → value_of r ≡ v → IsReached x v gs
    → IsPast x v (after_withdraw gs numbers)
past_withdrawn x v gs numbers r seek same reached = record {
  is = reached.is;
  reached = reached.reached;
  past = λ m has.
      let was = withdrawn_wants gs numbers r m seek has in
      more m (reached.least m was.0) (λ e. was.1 (e ∙ sym same));
} where
  more : (m : ℕ) → v ≤ m → (m ≡ v → ⊥) → v < m
  more m most other = omega (arith, most, other)

-- who was found is withdrawn
withdraws : (g : ℕ) (p : Purpose) (s t : Stage) (c : Course) (silent : ℕ) (r : SearchAddress) (gs : List Gear) (numbers : List ℕ)
    → Hunts false g p s c silent gs → failed_at s ≡ 0 → found_at t c.ascent ≡ 1 → g < length gs → Seek gs r → AreNamedBut g (value_of r) gs
    → HuntAt true g p t c.ascent c.number (after_withdraw gs numbers) → Hunts true g p t c (silent_after t c.opened silent) (after_withdraw gs numbers)
withdraws g p s t c silent r gs numbers v failed one there seek named at =
    told_hunts g p t c silent hs v.opened_is (counted_on g c.tally silent 0 gs hs (subst (λ n. IsCounted g c.tally silent n gs) failed v.counted)
    (gear.random_withdrawn gs numbers g there) (gear.drawn_withdrawn gs numbers)) (few_on p g c.tally gs hs before v.few)
    (low_after Withdraw gs numbers tt v.low) (subst (λ n. AreSought g n hs) (sym one)
    (gear.sought_withdrawn g (found_at s c.ascent) gs numbers r seek named v.sought_are)) at
  where
    hs : List Gear
    hs = after_withdraw gs numbers

    before : is_wanted (gear_of hs g) ≡ true → is_wanted (gear_of gs g) ≡ true
    before is =
        let w = withdraws_at gs numbers r seek g there in
        let up : (gear_of gs g).powered ≡ true = sym w.same_powered ∙ wanted.wanted_powered (gear_of hs g) is in
        wanted.is_wanted_by (gear_of gs g) up (gear.still_enabled (value_of r) (gear_of gs g) (gear_of hs g) w up (wanted.wanted_enabled (gear_of hs g) is)).0

-- QUERY SHORT ADDRESS, before an address is programmed
asked_sent : (g : ℕ) (r : SearchAddress) (c : Course) (silent : ℕ) (gs : List Gear) (numbers : List ℕ) (h : Answer)
    → Hunts false g Visiting (stage.NumberSent r) c silent gs → c.number ≡ r → Taken g QueryShort gs numbers h → Seek gs r
    → HuntedTo g Visiting (stage.NumberSent r) c silent gs numbers QueryShort h
asked_sent g r c silent gs numbers h v is t seek =
    hunts_core g Visiting (stage.NumberSent r) (queried r h) c silent gs numbers QueryShort v refl refl
    (queried_by (λ q. found_at q c.ascent ≡ c.ascent.found) r (λ b. refl) refl refl (λ o. refl) h) same tt t.there
    (visits_as g Visiting (stage.NumberSent r) (queried r h) c.ascent c.number gs hs w (go heard)) where
      hs : List Gear
      hs = row_after Everyone QueryShort 0 gs numbers

      same : SameCore gs hs
      same = leaving.core_after QueryShort gs numbers tt

      w : Visits g Visiting (stage.NumberSent r) c.ascent c.number gs
      w = v.at

      now : IsReached c.ascent w.visited hs × AreBare g hs
      now = both_core g w.visited c.ascent gs hs same w.stage_is

      heard : IsHeardOf g w.visited None gs h
      heard = visit_heard g w.visited c.number r None gs numbers h t w.stage_is.0.there w.drawn (same_value c.number r w.visited is w.number) seek
          (λ k there other wanted_is random. w.stage_is.1 k there (wanted.wanted_powered (gear_of gs k) wanted_is) other
          (wanted.wanted_enabled (gear_of gs k) wanted_is))

      go : IsHeardOf g w.visited None gs h → VisitStage g (queried r h) c.ascent w.visited c.number hs
      go (inl (one, on, said)) = any_queried g c.ascent w.visited c.number r gs hs h t.there same now (sym is) one on said
      go (inr byte) = subst (λ q. VisitStage g q c.ascent w.visited c.number hs) (sym (ap (queried r) byte ∙ mask_queried r)) (now.0, now.1, sym is)

-- PROGRAM SHORT ADDRESS
programmed_sent : (g a : ℕ) (r : SearchAddress) (c : Course) (silent : ℕ) (gs : List Gear) (numbers : List ℕ) (h : Answer)
    → Hunts false g Visiting (stage.Unnamed r) c silent gs → c.number ≡ r → a < 64 → g < length gs → Seek gs r
    → HuntedTo g Visiting (stage.Unnamed r) c silent gs numbers (Program (Some a)) h
programmed_sent g a r c silent gs numbers h v is small there seek =
    told_hunts g Visiting (stage.Programmed r a) c silent hs v.opened_is
    (counted_on g c.tally silent 0 gs hs v.counted (gear.random_programmed gs numbers a g there) (gear.drawn_programmed gs numbers r a seek))
    (few_on Visiting g c.tally gs hs before v.few) (low_after (Program (Some a)) gs numbers tt v.low)
    (gear.sought_programmed g c.ascent.found gs numbers r a seek v.sought_are)
    (visits_as g Visiting (stage.Unnamed r) (stage.Programmed r a) c.ascent c.number gs hs w (
      record {
        is = w.stage_is.0.is;
        reached = w.stage_is.0.reached;
        there = programmed_wants gs numbers r a w.visited seek ∙ w.stage_is.0.there;
        least = λ m has. w.stage_is.0.least m (sym (programmed_wants gs numbers r a m seek) ∙ has);
      },
      subst (λ m. AreBareBut g m hs) value (gear.bare_programmed g gs numbers r a seek w.stage_is.1),
      subst (λ m. HaveShort hs m a) value (short_given gs numbers r a seek),
      small,
    ))
  where
    hs : List Gear
    hs = after_program a gs numbers

    w : Visits g Visiting (stage.Unnamed r) c.ascent c.number gs
    w = v.at

    value : value_of r ≡ w.visited
    value = same_value c.number r w.visited is w.number

    before : is_wanted (gear_of hs g) ≡ true → is_wanted (gear_of gs g) ≡ true
    before is =
        let p = programs_at gs numbers r a seek g there in
        wanted.is_wanted_by (gear_of gs g) (sym p.same_powered ∙ wanted.wanted_powered (gear_of hs g) is)
        (sym p.same_state ∙ wanted.wanted_enabled (gear_of hs g) is)

-- QUERY SHORT ADDRESS, afterwards
confirmed_sent : (g a : ℕ) (r : SearchAddress) (c : Course) (silent : ℕ) (gs : List Gear) (numbers : List ℕ) (h : Answer)
    → Hunts false g Visiting (stage.Programmed r a) c silent gs → c.number ≡ r → Taken g QueryShort gs numbers h → Seek gs r
    → HuntedTo g Visiting (stage.Programmed r a) c silent gs numbers QueryShort h
confirmed_sent g a r c silent gs numbers h v is t seek =
    hunts_core g Visiting (stage.Programmed r a) (verified r a h) c silent gs numbers QueryShort v refl refl
    (verified_by (λ q. found_at q c.ascent ≡ c.ascent.found) r a refl (λ o. refl) h) same tt t.there
    (visits_as g Visiting (stage.Programmed r a) (verified r a h) c.ascent c.number gs hs w (go heard)) where
      hs : List Gear
      hs = row_after Everyone QueryShort 0 gs numbers

      same : SameCore gs hs
      same = leaving.core_after QueryShort gs numbers tt

      w : Visits g Visiting (stage.Programmed r a) c.ascent c.number gs
      w = v.at

      reached : IsReached c.ascent w.visited hs
      reached = reached_core c.ascent w.visited gs hs same w.stage_is.0

      short : HaveShort hs w.visited a
      short = short_kept gs hs w.visited a same w.stage_is.2

      heard : IsHeardOf g w.visited (Some a) gs h
      heard = visit_heard g w.visited c.number r (Some a) gs numbers h t w.stage_is.0.there w.drawn (same_value c.number r w.visited is w.number) seek
          (λ k there other wanted_is random. w.stage_is.2 k there (wanted.wanted_powered (gear_of gs k) wanted_is)
          (wanted.wanted_active (gear_of gs k) wanted_is) random)

      go : IsHeardOf g w.visited (Some a) gs h → VisitStage g (verified r a h) c.ascent w.visited c.number hs
      go (inl (one, on, said)) =
          any_verified g c.ascent w.visited a c.number r hs h reached
          (gear.bare_core g gs hs same (gear.own_bare g w.visited gs t.apart t.there w.drawn one w.stage_is.1)) short w.stage_is.3
          (own_core g w.visited gs hs same t.there one)
      go (inr byte) =
          subst (λ q. VisitStage g q c.ascent w.visited c.number hs) (sym (ap (verified r a) byte ∙ verified_short r a w.stage_is.3))
          (reached, gear.bare_but_core g w.visited gs hs same w.stage_is.1, short, w.stage_is.3)

pub visiting_sent : (g : ℕ) (s : Stage) (k : Kept) (c : Course) (silent : ℕ) (gs : List Gear) (numbers : List ℕ) (d : Command) (h : Answer)
    → Hunts false g Visiting s c silent gs → Sends k c.number Visiting s d → Taken g d gs numbers h → Seeks s gs → HuntedTo g Visiting s c silent gs numbers d h
visiting_sent g stage.Free k c silent gs numbers d h v is t seek =
    let same : SameCore gs (row_after Everyone (SearchHigh c.number.high) 0 gs numbers) = leaving.core_after (SearchHigh c.number.high) gs numbers tt in
    subst (λ e. HuntedTo g Visiting stage.Free c silent gs numbers e h) (sym is.0)
    (hunts_core g Visiting stage.Free (stage.HighSent c.number.high) c silent gs numbers (SearchHigh c.number.high) v refl refl refl same tt t.there
    (visits_as g Visiting stage.Free (stage.HighSent c.number.high) c.ascent c.number gs _ v.at (both_core g v.at.visited c.ascent gs _ same v.at.stage_is)))
visiting_sent g (stage.HighSent high) k c silent gs numbers d h v is t seek =
    let same : SameCore gs (row_after Everyone (SearchMiddle c.number.middle) 0 gs numbers) = leaving.core_after (SearchMiddle c.number.middle) gs numbers tt in
    subst (λ e. HuntedTo g Visiting (stage.HighSent high) c silent gs numbers e h) (some_is (SearchMiddle c.number.middle) d is.0)
    (hunts_core g Visiting (stage.HighSent high) (stage.MiddleSent high c.number.middle) c silent gs numbers (SearchMiddle c.number.middle) v refl refl refl
    same tt t.there (visits_as g Visiting (stage.HighSent high) (stage.MiddleSent high c.number.middle) c.ascent c.number gs _ v.at
    (both_core g v.at.visited c.ascent gs _ same v.at.stage_is)))
visiting_sent g (stage.MiddleSent high middle) k c silent gs numbers d h v is t seek =
    let same : SameCore gs (row_after Everyone (SearchLow c.number.low) 0 gs numbers) = leaving.core_after (SearchLow c.number.low) gs numbers tt in
    subst (λ e. HuntedTo g Visiting (stage.MiddleSent high middle) c silent gs numbers e h) (some_is (SearchLow c.number.low) d is.0)
    (hunts_core g Visiting (stage.MiddleSent high middle) (stage.NumberSent (record { high = high; middle = middle; low = c.number.low }))
    c silent gs numbers (SearchLow c.number.low) v refl refl refl same (low_byte c.number v.at.visited v.at.number) t.there
    (visits_as g Visiting (stage.MiddleSent high middle) (stage.NumberSent (record { high = high; middle = middle; low = c.number.low }))
    c.ascent c.number gs _ v.at (both_core g v.at.visited c.ascent gs _ same v.at.stage_is)))
visiting_sent g (stage.NumberSent r) k c silent gs numbers d h v is t seek =
    subst (λ e. Taken g e gs numbers h → HuntedTo g Visiting (stage.NumberSent r) c silent gs numbers e h) (some_is QueryShort d is.0)
    (λ now. asked_sent g r c silent gs numbers h v is.1 now (seek r refl)) t
visiting_sent g (stage.Unnamed r) k c silent gs numbers d h v (one, same, (a, small, may, gives)) t seek =
    subst (λ e. HuntedTo g Visiting (stage.Unnamed r) c silent gs numbers e h) (sym gives)
    (programmed_sent g a r c silent gs numbers h v (sym same) small t.there (seek r refl))
visiting_sent g (stage.Programmed r a) k c silent gs numbers d h v is t seek =
    subst (λ e. Taken g e gs numbers h → HuntedTo g Visiting (stage.Programmed r a) c silent gs numbers e h) (some_is QueryShort d is.0)
    (λ now. confirmed_sent g a r c silent gs numbers h v is.1 now (seek r refl)) t
visiting_sent g (stage.Found r b) k c silent gs numbers d h v is t seek =
    subst (λ e. HuntedTo g Visiting (stage.Found r b) c silent gs numbers e h) (some_is Withdraw d is.0)
    (withdraws g Visiting (stage.Found r b) (stage.Withdrawn r b) c silent r gs numbers v refl refl t.there (seek r refl)
    (subst (λ m. AreNamedBut g m gs) (sym value) (gear.own_named g v.at.visited gs t.apart t.there v.at.drawn v.at.stage_is.2))
    (visits_as g Visiting (stage.Found r b) (stage.Withdrawn r b) c.ascent c.number gs _ v.at (
      past_withdrawn c.ascent v.at.visited gs numbers r (seek r refl) value v.at.stage_is.0,
      gear.bare_withdrawn g gs numbers r (seek r refl) (gear.bare_weaker g (value_of r) gs v.at.stage_is.1),
      gear.one_withdrawn v.at.visited b gs numbers r (seek r refl) v.at.stage_is.3,
      value,
      v.at.stage_is.4,
    ))) where
      value : value_of r ≡ v.at.visited
      value = same_value c.number r v.at.visited is.1 v.at.number
visiting_sent g (stage.Confirmed r a) k c silent gs numbers d h v is t seek =
    subst (λ e. HuntedTo g Visiting (stage.Confirmed r a) c silent gs numbers e h) (some_is Withdraw d is.0)
    (withdraws g Visiting (stage.Confirmed r a) (stage.Withdrawn r a) c silent r gs numbers v refl refl t.there (seek r refl)
    (subst (λ m. AreNamedBut g m gs) (sym value) (gear.have_named g v.at.visited a gs v.at.stage_is.2))
    (visits_as g Visiting (stage.Confirmed r a) (stage.Withdrawn r a) c.ascent c.number gs _ v.at (
      past_withdrawn c.ascent v.at.visited gs numbers r (seek r refl) value v.at.stage_is.0,
      gear.bare_withdrawn g gs numbers r (seek r refl) (subst (λ m. AreBareBut g m gs) (sym value) v.at.stage_is.1),
      gear.one_withdrawn v.at.visited a gs numbers r (seek r refl) has,
      value,
      v.at.stage_is.3,
    ))) where
      value : value_of r ≡ v.at.visited
      value = same_value c.number r v.at.visited is.1 v.at.number

      has : HasOne v.at.visited a gs
      has =
          let there = wanted.wants_at gs v.at.visited v.at.stage_is.0.there in (
            there.0,
            there.1,
            wanted.wanted_powered (gear_of gs there.0) there.2,
            v.at.stage_is.2 there.0 there.1 (wanted.wanted_powered (gear_of gs there.0) there.2) (wanted.wanted_active (gear_of gs there.0) there.2) there.3,
            there.3,
          )
visiting_sent g (stage.Unanswered r) k c silent gs numbers d h v is t seek = absurd (let never = is.0 in cc)
visiting_sent g (stage.Inconclusive r other) k c silent gs numbers d h v is t seek = absurd (let never = is.0 in cc)
visiting_sent g (stage.Withdrawn r a) k c silent gs numbers d h v is t seek = absurd (let never = is.0 in cc)
visiting_sent g _ k c silent gs numbers d h v is t seek = absurd v.at.stage_is

-- ---------------------------------------------------------------- gear g is passed over

pub passing_sent : (g : ℕ) (s : Stage) (k : Kept) (c : Course) (silent : ℕ) (gs : List Gear) (numbers : List ℕ) (d : Command) (h : Answer)
    → Hunts false g PassingOver s c silent gs → Sends k c.number PassingOver s d → Taken g d gs numbers h → Seeks s gs
    → HuntedTo g PassingOver s c silent gs numbers d h
passing_sent g stage.Free k c silent gs numbers d h v is t seek =
    let same : SameCore gs (row_after Everyone (SearchHigh c.number.high) 0 gs numbers) = leaving.core_after (SearchHigh c.number.high) gs numbers tt in
    subst (λ e. HuntedTo g PassingOver stage.Free c silent gs numbers e h) (sym is.0)
    (hunts_core g PassingOver stage.Free (stage.HighSent c.number.high) c silent gs numbers (SearchHigh c.number.high) v refl refl refl same tt t.there
    (visits_as g PassingOver stage.Free (stage.HighSent c.number.high) c.ascent c.number gs _ v.at
    (three_core g v.at.visited c.ascent gs _ same t.there v.at.stage_is)))
passing_sent g (stage.HighSent high) k c silent gs numbers d h v is t seek =
    let same : SameCore gs (row_after Everyone (SearchMiddle c.number.middle) 0 gs numbers) = leaving.core_after (SearchMiddle c.number.middle) gs numbers tt in
    subst (λ e. HuntedTo g PassingOver (stage.HighSent high) c silent gs numbers e h) (some_is (SearchMiddle c.number.middle) d is.0)
    (hunts_core g PassingOver (stage.HighSent high) (stage.MiddleSent high c.number.middle) c silent gs numbers (SearchMiddle c.number.middle) v refl refl refl
    same tt t.there (visits_as g PassingOver (stage.HighSent high) (stage.MiddleSent high c.number.middle) c.ascent c.number gs _ v.at
    (three_core g v.at.visited c.ascent gs _ same t.there v.at.stage_is)))
passing_sent g (stage.MiddleSent high middle) k c silent gs numbers d h v is t seek =
    let same : SameCore gs (row_after Everyone (SearchLow c.number.low) 0 gs numbers) = leaving.core_after (SearchLow c.number.low) gs numbers tt in
    subst (λ e. HuntedTo g PassingOver (stage.MiddleSent high middle) c silent gs numbers e h) (some_is (SearchLow c.number.low) d is.0)
    (hunts_core g PassingOver (stage.MiddleSent high middle) (stage.NumberSent (record { high = high; middle = middle; low = c.number.low })) c silent gs
    numbers (SearchLow c.number.low) v refl refl refl same (low_byte c.number v.at.visited v.at.number) t.there
    (visits_as g PassingOver (stage.MiddleSent high middle) (stage.NumberSent (record { high = high; middle = middle; low = c.number.low }))
    c.ascent c.number gs _ v.at (three_core g v.at.visited c.ascent gs _ same t.there v.at.stage_is)))
passing_sent g (stage.NumberSent r) k c silent gs numbers d h v is t seek =
    subst (λ e. HuntedTo g PassingOver (stage.NumberSent r) c silent gs numbers e h) (some_is Withdraw d is.0)
    (withdraws g PassingOver (stage.NumberSent r) (stage.PassedOver r) c silent r gs numbers v refl refl t.there (seek r refl)
    (subst (λ m. AreNamedBut g m gs) (sym value) (gear.own_named g v.at.visited gs t.apart t.there v.at.drawn v.at.stage_is.2))
    (visits_as g PassingOver (stage.NumberSent r) (stage.PassedOver r) c.ascent c.number gs _ v.at (
      past_withdrawn c.ascent v.at.visited gs numbers r (seek r refl) value v.at.stage_is.0,
      gear.bare_withdrawn g gs numbers r (seek r refl) (gear.bare_weaker g (value_of r) gs v.at.stage_is.1),
      gear.random_withdrawn gs numbers g t.there ∙ v.at.stage_is.2,
    ))) where
      value : value_of r ≡ v.at.visited
      value = same_value c.number r v.at.visited is.1 v.at.number
passing_sent g (stage.PassedOver r) k c silent gs numbers d h v is t seek = absurd (let never = is.0 in cc)
passing_sent g _ k c silent gs numbers d h v is t seek = absurd v.at.stage_is
