use Rattle.dali_progress.proofs.Below.{◌≡◌, ℕ, ◌+◌, ◌<◌, ◌≤◌, inl, inr, Bool, true, false, zero, suc, List, [], ◌∷◌, refl, sym, ap, subst, ◌∙◌, arith, length}
use Rattle.dali_progress.proofs.Below.{get_or, Option, Some, None, ◌==◌, if◌then◌else◌, nat_tests, count_by, value_of, MASK24, Answer, Silence, Byte, Damaged}
use Rattle.dali_progress.proofs.Below.{SearchAddress, program_data, Command, Terminate, Initialise, Randomise, Compare, Withdraw, SearchHigh, SearchMiddle}
use Rattle.dali_progress.proofs.Below.{SearchLow, Program, QueryShort, Unaddressed, short_of_code, Gear, fresh, is_active, row_after, draws_needed, drawn_of}
use Rattle.dali_progress.proofs.Below.{answers_of, heard_of, Everyone, Enabled, Kept, Has, next_stage, queried, verified, IsSearched, End, AllFound, Stage}
use Rattle.dali_progress.proofs.Below.{Search, Agrees, Gives, HasAtMost, sought, is_yes, Purpose, Opening, Probing, Visiting, Closing, HasShort, is_wanted}
use Rattle.dali_progress.proofs.Below.{wants, is_bare, OfPowered, Seek, AreApart, IsOpened, NoneNamedBut, AreNamed, gear_of, row_length, LeavesShort, SameCore}
use Rattle.dali_progress.proofs.{Below.{EndsWell, ◌%◌, AreOpening}, Stands.{sent_at, search_frames, probe_frames, OpeningStage, Opens, ProbeStage, Probes}}
use Rattle.dali_progress.proofs.Stands.{VisitStage, IsVisited, VisitFrames, Visits, HaveShort, Names, VisitsAt, Closes, At, Sends, some_is, visit_by}
use Rattle.dali_events.specs.Searching.{number_at}
use Rattle.dali_script.specs.declared.stage.Stage.TheVariants as stage
use Rattle.dali_events.proofs.Search.Heard as hearing
use Rattle.dali_events.proofs.Search.Leaving as leaving
use Rattle.dali_events.proofs.Search.Opened as opening
use Rattle.dali_events.proofs.Search.Programming as programming
use Rattle.dali_events.proofs.Search.Wanted as wanted
use Rattle.dali_events.proofs.Search.Withdrawing as withdrawing

-- A FRAME IS SENT, and each gear with power takes it. The transaction goes on to its next stage, and one frame less is
-- left to be sent.

-- what was heard of the gear, and the numbers that they drew
pub record IsTaken (c : Command) (gs : List Gear) (numbers : List ℕ) (h : Answer) : Type 0 where
  pub heard : h ≡ heard_of (answers_of Everyone c 0 gs)
  pub enough : draws_needed Everyone c 0 gs ≤ length numbers
  pub below : (x : ℕ × ℕ) → Has (drawn_of Everyone c 0 gs numbers) x → x.1 < MASK24
  pub apart : IsOpened gs → AreApart gs

-- what is known at the stage
abbrev pub Seeks : Stage → List Gear → Type 0
Seeks s gs = (r : SearchAddress) → number_at s ≡ Some r → Seek gs r

abbrev pub IsSentTo : Purpose → Stage → Kept → Bool → Search → SearchAddress → List Gear → List ℕ → ℕ → Command → Answer → Type 0
IsSentTo p s k opened x n gs numbers left c h = (l : ℕ) × (left ≡ suc l) × At p (next_stage s c h) k opened x n (row_after Everyone c 0 gs numbers) l

-- one frame less
pub one_less : (need left sent : ℕ) → need ≤ left + sent → sent < need → (l : ℕ) × (left ≡ suc l) × (need ≤ l + (sent + 1))
one_less need zero sent enough small = absurd (omega (arith, enough, small))
one_less need (suc l) sent enough small = (l, refl, omega (arith, enough))

-- ---------------------------------------------------------------- an opening

-- one frame more of it, which leaves short addresses
opening_next : (s t : Stage) (k : Kept) (x : Search) (n : SearchAddress) (gs : List Gear) (numbers : List ℕ) (left : ℕ) (d : Command) → Opens s gs left
    → LeavesShort d → OpeningStage t → AreOpening t (row_after Everyone d 0 gs numbers) → sent_at t ≡ sent_at s + 1 → sent_at s < 5
    → (l : ℕ) × (left ≡ suc l) × At Opening t k false x n (row_after Everyone d 0 gs numbers) l
opening_next s t k x n gs numbers left d o leaves stage gear sent few =
    let less = one_less (5 + search_frames (count_by is_bare gs)) left (sent_at s) o.frames (omega (arith, few)) in
    let enough : 5 + search_frames (count_by is_bare gs) ≤ less.0 + sent_at t =
    subst (λ m. 5 + search_frames (count_by is_bare gs) ≤ less.0 + m) (sym sent) less.2 in
    (less.0, less.1, (refl, record { stage_is = stage; gear = gear; frames = rw (leaving.count_bare_after d gs numbers leaves) enough }))

opening_sent : (s : Stage) (k : Kept) (x : Search) (n : SearchAddress) (gs : List Gear) (numbers : List ℕ) (left : ℕ) (c : Command) (h : Answer)
    → Opens s gs left → Sends Opening n k s c → IsTaken c gs numbers h → IsSentTo Opening s k false x n gs numbers left c h
opening_sent stage.Free k x n gs numbers left c h o is taken =
    subst (λ d. IsSentTo Opening stage.Free k false x n gs numbers left d h) (sym is)
    (opening_next stage.Free stage.Terminated k x n gs numbers left Terminate o tt tt (opening.opening_terminated gs numbers) refl (omega arith))
opening_sent stage.Terminated k x n gs numbers left c h o is taken =
    subst (λ d. IsSentTo Opening stage.Terminated k false x n gs numbers left d h) (some_is (Initialise Unaddressed) c is)
    (opening_next stage.Terminated stage.InitialisedOnce k x n gs numbers left (Initialise Unaddressed) o tt tt
    (opening.opening_initialised_once gs numbers o.gear) refl (omega arith))
opening_sent stage.InitialisedOnce k x n gs numbers left c h o is taken =
    subst (λ d. IsSentTo Opening stage.InitialisedOnce k false x n gs numbers left d h) (some_is (Initialise Unaddressed) c is)
    (opening_next stage.InitialisedOnce stage.Initialised k x n gs numbers left (Initialise Unaddressed) o tt tt
    (opening.opening_initialised gs numbers o.gear) refl (omega arith))
opening_sent stage.Initialised k x n gs numbers left c h o is taken =
    subst (λ d. IsSentTo Opening stage.Initialised k false x n gs numbers left d h) (some_is Randomise c is)
    (opening_next stage.Initialised stage.RandomisedOnce k x n gs numbers left Randomise o tt tt (opening.opening_randomised_once gs numbers o.gear) refl
    (omega arith))
opening_sent stage.RandomisedOnce k x n gs numbers left c h o is taken =
    subst (λ d. IsTaken d gs numbers h → IsSentTo Opening stage.RandomisedOnce k false x n gs numbers left d h) (some_is Randomise c is)
    (λ t. opening_next stage.RandomisedOnce stage.Opened k x n gs numbers left Randomise o tt tt
    (opening.opening_opened gs numbers t.enough t.below o.gear) refl (omega arith)) taken
opening_sent stage.Opened k x n gs numbers left c h o is taken = absurd (cc)
opening_sent _ k x n gs numbers left c h o is taken = absurd o.stage_is

-- ---------------------------------------------------------------- a probe

-- the number that is sought
pub value_sought : (r : ℕ) → value_of (sought r) ≡ r
value_sought r = grind arith

pub low_byte : (n : SearchAddress) (v : ℕ) → n ≡ sought v → n.low < 256
low_byte n v is = subst (λ (m : SearchAddress). m.low < 256) (sym is) (low v) where
  low : (r : ℕ) → r % 256 < 256
  low r = omega arith

whole : (n : SearchAddress) (high middle : ℕ) → n.high ≡ high → n.middle ≡ middle → n ≡ record { high = high; middle = middle; low = n.low }
whole n high middle one two = rw (← one, ← two) refl

pub gives_same : (has had : ℕ → Bool) (n : ℕ) (b : Bool) → ((m : ℕ) → had m ≡ has m) → Gives has n b → Gives had n b
gives_same has had n true same some = (some.0, same some.0 ∙ some.1, some.2)
gives_same has had n false same none = λ some. none (some.0, sym (same some.0) ∙ some.1, some.2)

pub agrees_same : (has had : ℕ → Bool) (answers : List (ℕ × Bool)) → ((m : ℕ) → had m ≡ has m) → Agrees has answers → Agrees had answers
agrees_same has had [] same agrees = tt
agrees_same has had (a ∷ later) same agrees = (gives_same has had a.0 a.1 same agrees.0, agrees_same has had later same agrees.1)

-- what COMPARE was heard as says whether a number that is wanted is at most the one that was asked
pub probe_says : (gs : List Gear) (r : SearchAddress) (h : Answer) → Seek gs r → h ≡ heard_of (answers_of Everyone Compare 0 gs)
    → Gives (wants gs) (value_of r) (is_yes h)
probe_says gs r h seek heard = go h refl where
  yes_at : (h ≡ Silence → ⊥) → HasAtMost (wants gs) (value_of r)
  yes_at loud = hearing.heard_below gs r seek (λ e. loud (heard ∙ e))

  go : (a : Answer) → h ≡ a → Gives (wants gs) (value_of r) (is_yes a)
  go Silence e = λ some.
      let above : value_of r < some.0 = hearing.silent_above gs r seek (sym heard ∙ e) some.0 some.1 in
      omega (arith, above, some.2)
  go (Byte v) e = yes_at (λ s. (let none : Byte v ≡ Silence = sym e ∙ s in cc))
  go Damaged e = yes_at (λ s. (let none : Damaged ≡ Silence = sym e ∙ s in cc))

probe_small : (answers n : ℕ) → 4 < probe_frames answers n
probe_small answers zero = omega arith
probe_small answers (suc n) = omega arith

-- the same search, if the gear are the same but for what they seek
probes_on : (s t : Stage) (x : Search) (n : SearchAddress) (gs hs : List Gear) (left l : ℕ) → Probes s x n gs left → SameCore gs hs → ProbeStage t hs x.probe
    → IsSearched t n → probe_frames (length x.answers) (count_by is_wanted gs) ≤ l + sent_at t → Probes t x n hs l
probes_on s t x n gs hs left l p same stage searched frames = record {
  stage_is = stage;
  searched = searched;
  ready = leaving.core_opened gs hs same p.ready;
  unnamed = leaving.core_none_named gs hs same p.unnamed;
  searches = record {
    running = p.searches.running;
    narrowing = p.searches.narrowing;
    agrees = agrees_same (wants gs) (wants hs) x.answers (λ m. leaving.core_wants gs hs m same) p.searches.agrees;
  };
  number = p.number;
  frames = rw (leaving.core_count_wanted gs hs same) frames;
}

probe_next : (s t : Stage) (k : Kept) (x : Search) (n : SearchAddress) (gs hs : List Gear) (left : ℕ) → Probes s x n gs left → SameCore gs hs
    → ProbeStage t hs x.probe → IsSearched t n → sent_at t ≡ sent_at s + 1 → sent_at s < 5 → (l : ℕ) × (left ≡ suc l) × At Probing t k true x n hs l
probe_next s t k x n gs hs left p same stage searched sent few =
    let small = probe_small (length x.answers) (count_by is_wanted gs) in
    let less = one_less (probe_frames (length x.answers) (count_by is_wanted gs)) left (sent_at s) p.frames (omega (arith, small, few)) in (
      less.0,
      less.1,
      (
        refl,
        probes_on s t x n gs hs left less.0 p same stage searched
            (subst (λ m. probe_frames (length x.answers) (count_by is_wanted gs) ≤ less.0 + m) (sym sent) less.2),
      ),
    )

probing_sent : (s : Stage) (k : Kept) (x : Search) (n : SearchAddress) (gs : List Gear) (numbers : List ℕ) (left : ℕ) (c : Command) (h : Answer)
    → Probes s x n gs left → Sends Probing n k s c → IsTaken c gs numbers h → Seeks s gs → IsSentTo Probing s k true x n gs numbers left c h
probing_sent stage.Free k x n gs numbers left c h p is taken seek =
    subst (λ d. IsSentTo Probing stage.Free k true x n gs numbers left d h) (sym is)
    (probe_next stage.Free (stage.HighSent n.high) k x n gs _ left p (leaving.core_after (SearchHigh n.high) gs numbers tt) tt refl refl (omega arith))
probing_sent (stage.HighSent high) k x n gs numbers left c h p is taken seek =
    subst (λ d. IsSentTo Probing (stage.HighSent high) k true x n gs numbers left d h) (some_is (SearchMiddle n.middle) c is)
    (probe_next (stage.HighSent high) (stage.MiddleSent high n.middle) k x n gs _ left p (leaving.core_after (SearchMiddle n.middle) gs numbers tt) tt
    (p.searched, refl) refl (omega arith))
probing_sent (stage.MiddleSent high middle) k x n gs numbers left c h p is taken seek =
    subst (λ d. IsSentTo Probing (stage.MiddleSent high middle) k true x n gs numbers left d h) (some_is (SearchLow n.low) c is)
    (probe_next (stage.MiddleSent high middle) (stage.NumberSent (record { high = high; middle = middle; low = n.low })) k x n gs _ left p
    (leaving.core_after (SearchLow n.low) gs numbers tt) tt (whole n high middle p.searched.0 p.searched.1) refl (omega arith))
probing_sent (stage.NumberSent r) k x n gs numbers left c h p is taken seek =
    subst (λ d. IsTaken d gs numbers h → IsSentTo Probing (stage.NumberSent r) k true x n gs numbers left d h) (some_is Compare c is) (λ t.
    let same : SameCore gs (row_after Everyone Compare 0 gs numbers) = leaving.core_after Compare gs numbers tt in
    let asked : value_of r ≡ x.probe = ap value_of (sym p.searched ∙ p.number) ∙ value_sought x.probe in
    let says : Gives (wants gs) x.probe (is_yes h) = subst (λ q. Gives (wants gs) q (is_yes h)) asked (probe_says gs r h (seek r refl) t.heard) in
    probe_next (stage.NumberSent r) (stage.Probed r h) k x n gs _ left p same
    (gives_same (wants gs) (wants (row_after Everyone Compare 0 gs numbers)) x.probe (is_yes h)
    (λ m. leaving.core_wants gs (row_after Everyone Compare 0 gs numbers) m same) says) p.searched refl (omega arith)) taken
probing_sent (stage.Probed r h') k x n gs numbers left c h p is taken seek = absurd (cc)
probing_sent _ k x n gs numbers left c h p is taken seek = absurd p.stage_is

-- ---------------------------------------------------------------- a visit

visit_less : (k : Kept) (n : SearchAddress) (more left sent : ℕ) → VisitFrames k n more (left + sent) → sent < 4
    → (l : ℕ) × (left ≡ suc l) × VisitFrames k n more (l + (sent + 1))
visit_less k n more left sent (inl enough) small = let less =
    one_less (7 + search_frames more) left sent enough.1 (omega (arith, small)) in (less.0, less.1, inl (enough.0, less.2))
visit_less k n more left sent (inr enough) small = let less =
    one_less (11 + search_frames more) left sent enough (omega (arith, small)) in (less.0, less.1, inr less.2)

visited_on : (n : SearchAddress) (gs hs : List Gear) (more : ℕ) → IsVisited n gs more → ((m : ℕ) → wants hs m ≡ wants gs m)
    → count_by is_wanted hs ≡ count_by is_wanted gs → IsVisited n hs more
visited_on n gs hs more v same count =
    record { wanted = same (value_of n) ∙ v.wanted; number = v.number; number_is = v.number_is; drawn = v.drawn; count = count ∙ v.count }

-- the same visit, if the gear are the same but for what they seek
visits_on : (s t : Stage) (k : Kept) (n : SearchAddress) (gs hs : List Gear) (left l : ℕ) (v : Visits s k n gs left) → SameCore gs hs → VisitStage t
    → IsSearched t n → VisitFrames k n v.more (l + sent_at t) → Visits t k n hs l
visits_on s t k n gs hs left l v same stage searched frames = record {
  stage_is = stage;
  searched = searched;
  ready = leaving.core_opened gs hs same v.ready;
  unnamed = leaving.core_none_named gs hs same v.unnamed;
  more = v.more;
  visited = visited_on n gs hs v.more v.visited (λ m. leaving.core_wants gs hs m same) (leaving.core_count_wanted gs hs same);
  frames = frames;
}

-- MASK is heard of a gear without short address
pub mask_queried : (r : SearchAddress) → queried r (Byte (program_data None)) ≡ stage.Unnamed r
mask_queried r = refl

pub verified_short : (r : SearchAddress) (a : ℕ) → a < 64 → verified r a (Byte (program_data (Some a))) ≡ stage.Confirmed r a
verified_short r a small = rw (short_of_code a small) (go (a == a) (same a)) where
  same : (m : ℕ) → (m == m) ≡ true
  same m = grind (arith, nat_tests)

  go : (t : Bool) → t ≡ true → (if t then stage.Confirmed r a else stage.Inconclusive r (Some a)) ≡ stage.Confirmed r a
  go true e = refl
  go false e = cc

-- the one that is visited answers
visit_heard : (gs : List Gear) (n r : SearchAddress) (more : ℕ) (o : Option ℕ) (h : Answer) → IsVisited n gs more → n ≡ r → Seek gs r → AreApart gs
    → OfPowered gs (λ g. is_active g.state ≡ true → g.state ≡ Enabled → g.random ≡ value_of n → g.short ≡ o)
    → h ≡ heard_of (answers_of Everyone QueryShort 0 gs) → h ≡ Byte (program_data o)
visit_heard gs n r more o h v is seek apart short heard =
    let there = wanted.wants_at gs (value_of n) v.wanted in
    let random : (get_or gs there.0 fresh).random ≡ value_of r = there.3 ∙ ap value_of is in
    let has : (get_or gs there.0 fresh).short ≡ o =
    short there.0 there.1 (wanted.wanted_powered (get_or gs there.0 fresh) there.2) (wanted.wanted_active (get_or gs there.0 fresh) there.2)
    (wanted.wanted_enabled (get_or gs there.0 fresh) there.2) there.3 in
    heard ∙ hearing.query_heard gs r there.0 seek apart there.1 there.2 random ∙ ap (λ p. Byte (program_data p)) has

-- of one that is programmed
pub short_given : (gs : List Gear) (numbers : List ℕ) (r : SearchAddress) (a : ℕ) → Seek gs r
    → HaveShort (row_after Everyone (Program (Some a)) 0 gs numbers) (value_of r) a
short_given gs numbers r a seek k in_row on active random =
    let there : k < length gs = subst (λ m. k < m) (row_length Everyone (Program (Some a)) 0 gs numbers) in_row in
    let p = programming.programs_at gs numbers r a seek k there in
    p.programmed (sym p.same_powered ∙ on) (subst (λ s. is_active s ≡ true) p.same_state active) (sym p.same_random ∙ random)

pub short_kept : (gs hs : List Gear) (n a : ℕ) → SameCore gs hs → HaveShort gs n a → HaveShort hs n a
short_kept gs hs n a same short k in_row on active random =
    let there : k < length gs = subst (λ m. k < m) same.same_length in_row in
    let e = same.each k there in
    e.same_short ∙ short k there (sym e.same_powered ∙ on) (subst (λ s. is_active s ≡ true) e.same_state active) (sym e.same_random ∙ random)

visit_next : (s t : Stage) (k : Kept) (x : Search) (n : SearchAddress) (gs hs : List Gear) (left : ℕ) → Visits s k n gs left → SameCore gs hs → VisitStage t
    → IsSearched t n → sent_at t ≡ sent_at s + 1 → sent_at s < 4 → (l : ℕ) × (left ≡ suc l) × ((true ≡ true) × Visits t k n hs l)
visit_next s t k x n gs hs left v same stage searched sent few =
    let less = visit_less k n v.more left (sent_at s) v.frames few in
    (less.0, less.1, (refl, visits_on s t k n gs hs left less.0 v same stage searched (subst (λ m. VisitFrames k n v.more (less.0 + m)) (sym sent) less.2)))

given_sent : (r : SearchAddress) (a : ℕ) (k : Kept) (x : Search) (n : SearchAddress) (gs : List Gear) (numbers : List ℕ) (left : ℕ) (h : Answer)
    → Visits (stage.Unnamed r) k n gs left → a < 64 → Has k.reserved (a, value_of r) → Seek gs r
    → IsSentTo Visiting (stage.Unnamed r) k true x n gs numbers left (Program (Some a)) h
given_sent r a k x n gs numbers left h v small has here =
    let less = one_less (7 + search_frames v.more) left 4 (enough v.frames) (omega arith) in (
      less.0,
      less.1,
      (
        refl,
        record {
          searched = sym v.searched;
          ready = programming.programmed_opened gs numbers r a here v.ready;
          unnamed =
              subst (NoneNamedBut (row_after Everyone (Program (Some a)) 0 gs numbers)) same
              (programming.programmed_none_named gs numbers r a here (withdrawing.none_named_but gs (value_of r) v.unnamed));
          named = subst (λ m. HaveShort (row_after Everyone (Program (Some a)) 0 gs numbers) m a) same (short_given gs numbers r a here);
          address = small;
          reserved = subst (λ m. Has k.reserved (a, m)) same has;
          more = v.more;
          visited =
              visited_on n gs (row_after Everyone (Program (Some a)) 0 gs numbers) v.more v.visited (λ m. programming.programmed_wants gs numbers r a m here)
              (programming.programmed_count gs numbers r a here);
          frames = less.2;
        },
      ),
    )
  where
    same : value_of r ≡ value_of n
    same = ap value_of (sym v.searched)

    enough : VisitFrames k n v.more (left + 4) → 7 + search_frames v.more ≤ left + 4
    enough (inl e) = e.1
    enough (inr e) = omega (arith, e)

named_sent : (r : SearchAddress) (a : ℕ) (k : Kept) (x : Search) (n : SearchAddress) (gs : List Gear) (numbers : List ℕ) (left : ℕ) (h : Answer)
    → Names (stage.Programmed r a) r a k n gs left → IsTaken QueryShort gs numbers h → Seek gs r
    → IsSentTo Visiting (stage.Programmed r a) k true x n gs numbers left QueryShort h
named_sent r a k x n gs numbers left h v t seek =
    let less = one_less (7 + search_frames v.more) left 5 v.frames (omega arith) in
    let heard : h ≡ Byte (program_data (Some a)) =
    visit_heard gs n r v.more (Some a) h v.visited (sym v.searched) seek (t.apart v.ready)
    (λ i there on active enabled random. v.named i there on active random) t.heard in
    let there : verified r a h ≡ stage.Confirmed r a = ap (verified r a) heard ∙ verified_short r a v.address in
    let same : SameCore gs (row_after Everyone QueryShort 0 gs numbers) = leaving.core_after QueryShort gs numbers tt in (
      less.0,
      less.1,
      rw there (
        refl,
        record {
          searched = v.searched;
          ready = leaving.core_opened gs _ same v.ready;
          unnamed = leaving.core_none_named_but gs _ (value_of n) same v.unnamed;
          named = short_kept gs _ (value_of n) a same v.named;
          address = v.address;
          reserved = v.reserved;
          more = v.more;
          visited = visited_on n gs _ v.more v.visited (λ m. leaving.core_wants gs _ m same) (leaving.core_count_wanted gs _ same);
          frames = less.2;
        },
      ),
    )

withdraw_sent : (r : SearchAddress) (a : ℕ) (k : Kept) (x : Search) (n : SearchAddress) (gs : List Gear) (numbers : List ℕ) (left : ℕ) (h : Answer)
    → Names (stage.Confirmed r a) r a k n gs left → Seek gs r → IsSentTo Visiting (stage.Confirmed r a) k true x n gs numbers left Withdraw h
withdraw_sent r a k x n gs numbers left h v seek =
    let less = one_less (7 + search_frames v.more) left 6 v.frames (omega arith) in
    let same : value_of n ≡ value_of r = ap value_of (sym v.searched) in
    let named : AreNamed gs (value_of r) = λ i there on enabled random. (a, v.named i there on (rw enabled refl) (random ∙ sym same)) in
    let fewer : count_by is_wanted (row_after Everyone Withdraw 0 gs numbers) < count_by is_wanted gs =
    withdrawing.withdrawn_count gs numbers r seek (subst (λ m. wants gs m ≡ true) same v.visited.wanted) in
    let count : count_by is_wanted gs ≡ suc v.more = v.visited.count in
    let enough : 7 + search_frames v.more ≤ less.0 + 7 = less.2 in (
      less.0,
      less.1,
      (
        refl,
        record {
          searched = v.searched;
          ready = withdrawing.withdrawn_opened gs numbers r seek named v.ready;
          unnamed = withdrawing.withdrawn_none_named gs numbers r seek (subst (NoneNamedBut gs) same v.unnamed);
          address = v.address;
          number = v.visited.number;
          number_is = v.visited.number_is;
          drawn = v.visited.drawn;
          reserved = v.reserved;
          frames = omega (arith, fewer, count, enough);
        },
      ),
    )

visiting_sent : (s : Stage) (k : Kept) (x : Search) (n : SearchAddress) (gs : List Gear) (numbers : List ℕ) (left : ℕ) (c : Command) (h : Answer)
    → VisitsAt s k n gs left → Sends Visiting n k s c → IsTaken c gs numbers h → Seeks s gs → IsSentTo Visiting s k true x n gs numbers left c h
visiting_sent s k x n gs numbers left c h v is taken seek =
    visit_by (λ t d. VisitsAt t k n gs left → IsTaken d gs numbers h → Seeks t gs → IsSentTo Visiting t k true x n gs numbers left d h) n k gs left
    (λ w to by. visit_next stage.Free (stage.HighSent n.high) k x n gs _ left w (leaving.core_after (SearchHigh n.high) gs numbers tt) tt refl refl
    (omega arith)) (λ high w to by. visit_next (stage.HighSent high) (stage.MiddleSent high n.middle) k x n gs _ left w
    (leaving.core_after (SearchMiddle n.middle) gs numbers tt) tt (w.searched, refl) refl (omega arith))
    (λ high middle w to by. visit_next (stage.MiddleSent high middle)
    (stage.NumberSent (record { high = high; middle = middle; low = n.low })) k x n gs _ left w
    (leaving.core_after (SearchLow n.low) gs numbers tt) tt (whole n high middle w.searched.0 w.searched.1) refl (omega arith)) (λ r w to by.
    let heard : h ≡ Byte (program_data None) =
    visit_heard gs n r w.more None h w.visited w.searched (by r refl) (to.apart w.ready)
    (λ i there on active enabled random. w.unnamed i there on enabled) to.heard in
    let there : queried r h ≡ stage.Unnamed r = ap (queried r) heard ∙ mask_queried r in
    rw there (visit_next (stage.NumberSent r) (stage.Unnamed r) k x n gs _ left w (leaving.core_after QueryShort gs numbers tt) tt w.searched refl
    (omega arith))) (λ r a small has w to by. given_sent r a k x n gs numbers left h w small has (by r refl))
    (λ r a w to by. named_sent r a k x n gs numbers left h w to (by r refl)) (λ r a w to by. withdraw_sent r a k x n gs numbers left h w (by r refl))
    s c v is v taken seek

-- ---------------------------------------------------------------- the close

-- gear with a short address keeps it if a frame gives none
pub short_left : (d : Command) (gs : List Gear) (numbers : List ℕ) (k : ℕ) → LeavesShort d → k < length (row_after Everyone d 0 gs numbers)
    → (gear_of (row_after Everyone d 0 gs numbers) k).powered ≡ true → (k < length gs → (gear_of gs k).powered ≡ true → HasShort (gear_of gs k))
    → HasShort (gear_of (row_after Everyone d 0 gs numbers) k)
short_left d gs numbers k leaves in_row on had =
    let there : k < length gs = subst (λ n. k < n) (row_length Everyone d 0 gs numbers) in_row in
    let same = leaving.short_after_all d gs numbers leaves k there in
    let short = had there (sym same.0 ∙ on) in
    (short.0, same.1 ∙ short.1)

-- it has one, if it is not so that it has none
pub short_if : (g : Gear) → (g.short ≡ None → ⊥) → HasShort g
short_if g never = go g.short refl where
  go : (o : Option ℕ) → g.short ≡ o → HasShort g
  go (Some a) e = (a, e)
  go None e = absurd (never e)

pub nobody_wanted : (gs : List Gear) → count_by is_wanted gs ≡ 0 → (m : ℕ) → wants gs m ≡ true → ⊥
nobody_wanted gs none m has = let some : 0 < count_by is_wanted gs = wanted.count_some gs m has in omega (arith, some, none)

-- if no gear is wanted each gear with power has one
pub nobody_short : (gs : List Gear) → IsOpened gs → ((m : ℕ) → wants gs m ≡ true → ⊥) → OfPowered gs HasShort
nobody_short gs ready nobody k in_row on =
    short_if (gear_of gs k) (λ e. nobody (gear_of gs k).random (wanted.wants_by gs (gear_of gs k).random k in_row
    (wanted.is_wanted_by (gear_of gs k) on (ready.bare k in_row on e)) refl))

ends_still : (e : End) (k : Kept) (gs : List Gear) (numbers : List ℕ) → EndsWell e k gs → EndsWell e k (row_after Everyone Terminate 0 gs numbers)
ends_still AllFound k gs numbers well = λ i in_row on. short_left Terminate gs numbers i tt in_row on (well i)
ends_still _ k gs numbers well = well

closing_sent : (e : End) (s : Stage) (k : Kept) (opened : Bool) (x : Search) (n : SearchAddress) (gs : List Gear) (numbers : List ℕ) (left : ℕ) (c : Command)
    (h : Answer) → Closes e s k gs left → Sends (Closing e) n k s c → IsSentTo (Closing e) s k opened x n gs numbers left c h
closing_sent e stage.Free k opened x n gs numbers left c h v is =
    subst (λ d. IsSentTo (Closing e) stage.Free k opened x n gs numbers left d h) (sym is) (let less = one_less 1 left 0 v.frames (omega arith) in
    (less.0, less.1, record { stage_is = tt; well = ends_still e k gs numbers v.well; frames = less.2 }))
closing_sent e stage.Terminated k opened x n gs numbers left c h v is = absurd (cc)
closing_sent e _ k opened x n gs numbers left c h v is = absurd v.stage_is

-- ---------------------------------------------------------------- of whatever transaction

pub at_sent : (p : Purpose) (s : Stage) (k : Kept) (opened : Bool) (x : Search) (n : SearchAddress) (gs : List Gear) (numbers : List ℕ) (left : ℕ) (c : Command)
    (h : Answer) → At p s k opened x n gs left → Sends p n k s c → IsTaken c gs numbers h → Seeks s gs → IsSentTo p s k opened x n gs numbers left c h
at_sent Opening s k opened x n gs numbers left c h at is taken seek =
    subst (λ b. IsSentTo Opening s k b x n gs numbers left c h) (sym at.0) (opening_sent s k x n gs numbers left c h at.1 is taken)
at_sent Probing s k opened x n gs numbers left c h at is taken seek =
    subst (λ b. IsSentTo Probing s k b x n gs numbers left c h) (sym at.0) (probing_sent s k x n gs numbers left c h at.1 is taken seek)
at_sent Visiting s k opened x n gs numbers left c h at is taken seek =
    subst (λ b. IsSentTo Visiting s k b x n gs numbers left c h) (sym at.0) (visiting_sent s k x n gs numbers left c h at.1 is taken seek)
at_sent (Closing e) s k opened x n gs numbers left c h at is taken seek = closing_sent e s k opened x n gs numbers left c h at is
at_sent _ s k opened x n gs numbers left c h at is taken seek = absurd at
