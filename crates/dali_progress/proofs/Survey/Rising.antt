use Rattle.dali_progress.proofs.Below.{◌≡◌, ℕ, ◌+◌, ◌-◌, ◌*◌, ◌<◌, ◌≤◌, ◌⊎◌, inl, inr, Bool, true, false, zero, suc, List, refl, sym, ap, subst, ◌∙◌, arith}
use Rattle.dali_progress.proofs.Below.{nat_lt, Option, Some, None, ◌==◌, if◌then◌else◌, nat_tests, count_by, value_of, MASK24, Answer, SearchAddress, Command}
use Rattle.dali_progress.proofs.Below.{Compare, SearchHigh, SearchMiddle, SearchLow, Gear, row_after, Everyone, Assignment, Kept, next_stage, Stage, equal}
use Rattle.dali_progress.proofs.Below.{Ascent, IsAscent, Knows, is_bounded, asked_next, leads_to, ascended, ascent_at_first, above, Gives, Says, bytes_apart}
use Rattle.dali_progress.proofs.Below.{has_room, frames_to_ask, room_left, asking_next, IsTrueWay, no_question, Again, Found, Nobody, asked_drawn, says_found}
use Rattle.dali_progress.proofs.Below.{somebody_costs, nobody_costs, first_true, above_true, sought, is_yes, byte_to_send, bytes_to_send, Hunting, HasShort}
use Rattle.dali_progress.proofs.{Below.{is_wanted, wants, OfPowered, IsOpened, NoneNamed, SameCore, AreTabled}, Frames.{IsTaken, Seeks, probe_says}}
use Rattle.dali_progress.proofs.{Frames.{value_sought, gives_same, nobody_short, nobody_wanted}, Stands.{some_is, to_come, Sends}, Survey.Drawn.IsSoughtBy}
use Rattle.dali_progress.proofs.{Survey.Stands.{pending, Ascends, after_rise, thirds_for, RiseStage, Rises}, Tables.{LeavesNames, tabled_left}}
use Rattle.{dali_script.proofs.Transactions.self, dali_search.specs.Questions.Asking}
use Rattle.dali_script.specs.declared.stage.Stage.TheVariants as stage
use Rattle.dali_events.proofs.Search.Leaving as leaving
use Rattle.dali_events.proofs.Search.Wanted as wanted

-- THE SEARCH THAT GOES UP, alone and undisturbed: what its questions tell, and what they cost.

-- ---------------------------------------------------------------- bytes

pub bytes_same : (a b : ℕ) → bytes_to_send (sought a) (sought b) ≡ bytes_apart b a
unfolding bytes_apart
bytes_same a b = omega arith

-- one byte is sent, or COMPARE if all are those of the number
pub record ByteSent (n r : SearchAddress) (last : Option Answer) (left : ℕ) (c : Command) (h : Answer) : Type 0 where
  pub number : SearchAddress
  pub next : next_stage (stage.Hunted r last left) c h ≡ stage.Hunted number None (left - 1)
  pub fewer : bytes_to_send n r ≡ bytes_to_send n number + 1
  pub core : (gs : List Gear) (numbers : List ℕ) → SameCore gs (row_after Everyone c 0 gs numbers)

abbrev pub IsByteSent : SearchAddress → SearchAddress → Option Answer → ℕ → Command → Answer → Type 0
IsByteSent n r last left c h =
    ByteSent n r last left c h ⊎ ((c ≡ Compare) × (r ≡ n) × (next_stage (stage.Hunted r last left) Compare h ≡ stage.Hunted r (Some h) (left - 1)))

pub byte_sent : (n r : SearchAddress) (last : Option Answer) (left : ℕ) (h : Answer) → 0 < left → IsByteSent n r last left (byte_to_send n r) h
byte_sent n r last left h some = go (r.high == n.high) refl (r.low == n.low) refl (r.middle == n.middle) refl where
  more : (left == 0) ≡ false
  more = grind (arith, nat_tests, some)

  go : (b : Bool) → (r.high == n.high) ≡ b → (d : Bool) → (r.low == n.low) ≡ d → (e : Bool) → (r.middle == n.middle) ≡ e
      → IsByteSent n r last left (if b then (if d then (if e then Compare else SearchMiddle n.middle) else SearchLow n.low) else SearchHigh n.high) h
  go false one d two e three = inl (record {
    number = record r { high = n.high };
    next = rw more refl;
    fewer = rw (one, self n.high) (omega arith);
    core = λ gs numbers. leaving.core_after (SearchHigh n.high) gs numbers tt;
  })
  go true one false two e three = inl (record {
    number = record r { low = n.low };
    next = rw more refl;
    fewer = rw (two, self n.low) (omega arith);
    core = λ gs numbers. leaving.core_after (SearchLow n.low) gs numbers tt;
  })
  go true one true two false three = inl (record {
    number = record r { middle = n.middle };
    next = rw more refl;
    fewer = rw (three, self n.middle) (omega arith);
    core = λ gs numbers. leaving.core_after (SearchMiddle n.middle) gs numbers tt;
  })
  go true one true two true three = inr (refl, same, rw more refl) where
    same : r ≡ n
    same =
        let high : r.high ≡ n.high = equal r.high n.high one in
        let low : r.low ≡ n.low = equal r.low n.low two in
        let middle : r.middle ≡ n.middle = equal r.middle n.middle three in
        ap (λ x. record { high = x; middle = r.middle; low = r.low }) high ∙ ap (λ x. record { high = n.high; middle = x; low = r.low }) middle
        ∙ ap (λ x. record { high = n.high; middle = n.middle; low = x }) low

-- ---------------------------------------------------------------- a frame is sent

abbrev pub RisenTo : Stage → Ascent → SearchAddress → List Gear → List ℕ → ℕ → Command → Answer → Type 0
RisenTo s x n gs numbers left c h = (l : ℕ) × (left ≡ suc l) × Rises true (next_stage s c h) x n (row_after Everyone c 0 gs numbers) l

-- one frame less
rise_less : (budget after sent left costs : ℕ) → 1 ≤ after → costs ≤ budget → budget + after + suc sent ≤ left + costs
    → (l : ℕ) × (left ≡ suc l) × (budget + after + sent ≤ l + costs)
rise_less budget after sent zero costs some afford enough = absurd (omega (arith, some, afford, enough))
rise_less budget after sent (suc l) costs some afford enough = (l, refl, omega (arith, enough))

after_some : (n : ℕ) → 1 ≤ after_rise n
after_some zero = omega arith
after_some (suc n) = omega arith

knows_same : (gs hs : List Gear) (x : Ascent) → ((m : ℕ) → wants hs m ≡ wants gs m) → Knows (wants gs) x → Knows (wants hs) x
knows_same gs hs x same knows =
    record { above = λ m has. knows.above m (sym (same m) ∙ has); below = λ small. let at = knows.below small in (at.0, same at.0 ∙ at.1, at.2) }

-- the same search, if the gear are the same but for what they seek
rises_on : (s t : Stage) (x : Ascent) (n : SearchAddress) (gs hs : List Gear) (left l : ℕ) (v : Rises false s x n gs left) → SameCore gs hs
    → RiseStage true t x n v.before hs → v.budget + after_rise (count_by is_wanted gs) + pending true t n ≤ l + frames_to_ask v.before (asked_next x)
    → Rises true t x n hs l
rises_on s t x n gs hs left l v same at frames = record {
  before = v.before;
  budget = v.budget;
  ascends = record {
    way = v.way;
    knows = knows_same gs hs x (λ m. leaving.core_wants gs hs m same) v.knows;
    ready = leaving.core_opened gs hs same v.ready;
    unnamed = leaving.core_none_named gs hs same v.unnamed;
    enough = rw (leaving.core_count_wanted gs hs same) v.enough;
  };
  running = v.running;
  number = v.number;
  stage_is = at;
  afford = v.afford;
  frames = rw (leaving.core_count_wanted gs hs same) frames;
}

-- of a machine that has acted, what it had at hand when it was told
pub rises_so : (s : Stage) (x : Ascent) (n : SearchAddress) (gs : List Gear) (left : ℕ) (v : Rises true s x n gs left) → RiseStage false s x n v.before gs
    → v.budget + after_rise (count_by is_wanted gs) + pending false s n ≤ left + frames_to_ask v.before (asked_next x) → Rises false s x n gs left
rises_so s x n gs left v at frames = record {
  before = v.before;
  budget = v.budget;
  ascends = v.ascends;
  running = v.running;
  number = v.number;
  stage_is = at;
  afford = v.afford;
  frames = frames;
}

hunted_sent : (r : SearchAddress) (last : Option Answer) (room : ℕ) (x : Ascent) (n : SearchAddress) (gs : List Gear) (numbers : List ℕ) (left : ℕ) (h : Answer)
    (v : Rises false (stage.Hunted r last room) x n gs left) → room ≡ bytes_to_send n r + 1 + room_left v.before (asked_next x)
    → v.budget + after_rise (count_by is_wanted gs) + (bytes_to_send n r + 1) ≤ left + frames_to_ask v.before (asked_next x) → (c : Command)
    → c ≡ byte_to_send n r → IsTaken c gs numbers h → Seeks (stage.Hunted r last room) gs → RisenTo (stage.Hunted r last room) x n gs numbers left c h
hunted_sent r last room x n gs numbers left h v is enough c sends taken seek =
    go (subst (λ d. IsByteSent n r last room d h) (sym sends) (byte_sent n r last room h (omega (arith, is)))) where
      less : (sent : ℕ) → bytes_to_send n r + 1 ≡ suc sent
          → (l : ℕ) × (left ≡ suc l) × (v.budget + after_rise (count_by is_wanted gs) + sent ≤ l + frames_to_ask v.before (asked_next x))
      less sent same =
          rise_less v.budget (after_rise (count_by is_wanted gs)) sent left (frames_to_ask v.before (asked_next x))
          (after_some (count_by is_wanted gs)) v.afford
          (subst (λ p. v.budget + after_rise (count_by is_wanted gs) + p ≤ left + frames_to_ask v.before (asked_next x)) same enough)

      go : IsByteSent n r last room c h → RisenTo (stage.Hunted r last room) x n gs numbers left c h
      go (inl b) =
          let one = less (bytes_to_send n b.number + 1) (let fewer : bytes_to_send n r ≡ bytes_to_send n b.number + 1 = b.fewer in omega (arith, fewer)) in (
            one.0,
            one.1,
            subst (λ t. Rises true t x n (row_after Everyone c 0 gs numbers) one.0) (sym b.next)
                (rises_on (stage.Hunted r last room) (stage.Hunted b.number None (room - 1)) x n gs _ left one.0 v (b.core gs numbers)
                (let fewer : bytes_to_send n r ≡ bytes_to_send n b.number + 1 = b.fewer in omega (arith, is, fewer)) one.2),
          )
      go (inr b) =
          let none : bytes_to_send n r ≡ 0 = subst (λ q. bytes_to_send n q ≡ 0) (sym b.1) (rw (self n.high, self n.low, self n.middle) refl) in
          let one = less 0 (omega (arith, none)) in
          let same : SameCore gs (row_after Everyone Compare 0 gs numbers) = leaving.core_after Compare gs numbers tt in
          let asked : value_of r ≡ asked_next x = ap value_of (b.1 ∙ v.number) ∙ value_sought (asked_next x) in
          let says : Gives (wants gs) (asked_next x) (is_yes h) =
          subst (λ q. Gives (wants gs) q (is_yes h)) asked (probe_says gs r h (seek r refl) (subst (λ d. IsTaken d gs numbers h) b.0 taken).heard) in
          subst (λ d. RisenTo (stage.Hunted r last room) x n gs numbers left d h) (sym b.0) (
            one.0,
            one.1,
            subst (λ t. Rises true t x n (row_after Everyone Compare 0 gs numbers) one.0) (sym b.2)
                (rises_on (stage.Hunted r last room) (stage.Hunted r (Some h) (room - 1)) x n gs _ left one.0 v same (
                  b.1,
                  omega (arith, is, none),
                  gives_same (wants gs) (wants (row_after Everyone Compare 0 gs numbers)) (asked_next x) (is_yes h)
                      (λ m. leaving.core_wants gs (row_after Everyone Compare 0 gs numbers) m same) says,
                ) one.2),
          )

new_room : (q : Asking) (m : ℕ) → has_room q m ≡ false → (room_left q m ≡ 4) × (frames_to_ask q m ≡ 4)
new_room q m none = (rw none refl, rw none refl)

none_left : (n : SearchAddress) (high low : ℕ) → n.high ≡ high → n.low ≡ low → bytes_to_send n (record { high = high; middle = n.middle; low = low }) ≡ 0
none_left n high low one two = rw (← one, ← two, self n.high, self n.low, self n.middle) refl

pub rises_sent : (s : Stage) (k : Kept) (x : Ascent) (n : SearchAddress) (gs : List Gear) (numbers : List ℕ) (left : ℕ) (c : Command) (h : Answer)
    → Rises false s x n gs left → Sends Hunting n k s c → IsTaken c gs numbers h → Seeks s gs → RisenTo s x n gs numbers left c h
rises_sent stage.Free k x n gs numbers left c h v is taken seek =
    let less =
    rise_less v.budget (after_rise (count_by is_wanted gs)) 3 left (frames_to_ask v.before (asked_next x)) (after_some (count_by is_wanted gs)) v.afford
    v.frames in
    subst (λ d. RisenTo stage.Free x n gs numbers left d h) (sym is) (
      less.0,
      less.1,
      rises_on stage.Free (stage.HighSent n.high) x n gs _ left less.0 v (leaving.core_after (SearchHigh n.high) gs numbers tt) (refl, v.stage_is) less.2,
    )
rises_sent (stage.HighSent high) k x n gs numbers left c h v is taken seek =
    let less =
    rise_less v.budget (after_rise (count_by is_wanted gs)) 2 left (frames_to_ask v.before (asked_next x)) (after_some (count_by is_wanted gs)) v.afford
    v.frames in
    subst (λ d. RisenTo (stage.HighSent high) x n gs numbers left d h) (some_is (SearchLow n.low) c is) (
      less.0,
      less.1,
      rises_on (stage.HighSent high) (stage.LowSent high n.low) x n gs _ left less.0 v (leaving.core_after (SearchLow n.low) gs numbers tt)
          (v.stage_is.0, refl, v.stage_is.1) less.2,
    )
rises_sent (stage.LowSent high low) k x n gs numbers left c h v is taken seek =
    let less =
    rise_less v.budget (after_rise (count_by is_wanted gs)) 1 left (frames_to_ask v.before (asked_next x)) (after_some (count_by is_wanted gs)) v.afford
    v.frames in
    subst (λ d. RisenTo (stage.LowSent high low) x n gs numbers left d h) (some_is (SearchMiddle n.middle) c is) (
      less.0,
      less.1,
      rises_on (stage.LowSent high low) (stage.Hunted (record { high = high; middle = n.middle; low = low }) None 5) x n gs _ left less.0 v
          (leaving.core_after (SearchMiddle n.middle) gs numbers tt) (let none = none_left n high low v.stage_is.0 v.stage_is.1 in
          let room = (new_room v.before (asked_next x) v.stage_is.2).0 in rw (none, room) refl) (rw (none_left n high low v.stage_is.0 v.stage_is.1) less.2),
    )
rises_sent (stage.Hunted r None room) k x n gs numbers left c h v is taken seek =
    hunted_sent r None room x n gs numbers left h v v.stage_is v.frames c is taken seek
rises_sent (stage.Hunted r (Some g) room) k x n gs numbers left c h v is taken seek =
    hunted_sent r (Some g) room x n gs numbers left h v v.stage_is v.frames c is taken seek
rises_sent _ k x n gs numbers left c h v is taken seek = absurd v.stage_is

-- ---------------------------------------------------------------- what an answer tells

pub knows_told : (has : ℕ → Bool) (x : Ascent) (b : Bool) → Knows has x → Gives has (asked_next x) b → Knows has (ascended x b)
knows_told has x true knows gives = record { above = knows.above; below = λ small. gives }
knows_told has x false knows gives = record { above = λ m member. above m (nat_lt (asked_next x) m) refl member; below = knows.below } where
  above : (m : ℕ) (b : Bool) → nat_lt (asked_next x) m ≡ b → has m ≡ true → asked_next x + 1 ≤ m
  above m true less member = grind (arith, nat_tests)
  above m false less member = absurd (gives (m, member, let most : m ≤ asked_next x = grind (arith, nat_tests) in most))

-- gear is wanted, or none is
unbounded_where : (gs : List Gear) (x : Ascent) → Knows (wants gs) x → ((m : ℕ) → wants gs m ≡ true → ⊥) → is_bounded x ≡ false
unbounded_where gs x knows none = go (is_bounded x) refl where
  go : (b : Bool) → is_bounded x ≡ b → is_bounded x ≡ false
  go true e = absurd (let at = knows.below (let small : x.high < 0xFFFFFF = grind (arith, nat_tests) in small) in none at.0 at.1)
  go false e = e

-- ---------------------------------------------------------------- once it is answered

-- what is known of the ascent after an answer, and of the transaction that has asked
pub record Answered (x : Ascent) (q : Asking) (gs : List Gear) (left : ℕ) : Type 0 where
  pub budget : ℕ
  pub ascends : Ascends x q gs budget
  pub open ascends use *
  pub frames : budget + after_rise (count_by is_wanted gs) ≤ left

silent_some : (gs : List Gear) (x : Ascent) (more : ℕ) → IsAscent x → Knows (wants gs) x → IsOpened gs → count_by is_wanted gs ≡ suc more → x.silent ≡ 0
silent_some gs x more is knows ready count = go (x.silent == 0) refl where
  go : (b : Bool) → (x.silent == 0) ≡ b → x.silent ≡ 0
  go true e = grind (arith, nat_tests)
  go false e =
      let low : x.low ≡ 0xFFFFFF = is.silence (grind (arith, nat_tests)) in
      let none : count_by is_wanted gs ≡ 0 = wanted.count_none gs (λ m has.
      let from : x.low ≤ m = knows.above m has in
      let under : m < 0xFFFFFF = wanted.wanted_below gs m ready has in
      omega (arith, low, from, under)) in
      absurd (omega (arith, none, count))

never_last : (gs : List Gear) (asked more : ℕ) (b : Bool) → IsOpened gs → count_by is_wanted gs ≡ suc more → Gives (wants gs) asked b → b ≡ false
    → asked ≡ 0xFFFFFE → ⊥
never_last gs asked more true ready count gives said last = absurd (cc)
never_last gs asked more false ready count gives said last =
    let none : count_by is_wanted gs ≡ 0 = wanted.count_none gs (λ m has.
    let under : m < 0xFFFFFF = wanted.wanted_below gs m ready has in
    gives (m, has, omega (arith, under, last))) in
    omega (arith, none, count)

spent : (costs thirds before budget after left : ℕ) → 3 * costs + thirds ≤ before → before ≤ 3 * budget → budget + after + 0 ≤ left + costs
    → (thirds ≤ 3 * (budget - costs)) × (budget - costs + after ≤ left)
spent costs thirds before budget after left one two three = (omega (arith, one, two), omega (arith, one, two, three))

pub answered_rise : (r : SearchAddress) (h : Answer) (room : ℕ) (x : Ascent) (n : SearchAddress) (gs : List Gear) (left : ℕ)
    (v : Rises true (stage.Hunted r (Some h) room) x n gs left) → Answered (ascended x (is_yes h)) (asking_next v.before (asked_next x)) gs left
answered_rise r h room x n gs left v = go (count_by is_wanted gs) refl (is_yes h) v.stage_is.2 v.enough v.frames where
  knows : (b : Bool) → Gives (wants gs) (asked_next x) b → Knows (wants gs) (ascended x b)
  knows b gives = knows_told (wants gs) x b v.knows gives

  go : (count : ℕ) → count_by is_wanted gs ≡ count → (b : Bool) → Gives (wants gs) (asked_next x) b → thirds_for count x v.before ≤ 3 * v.budget
      → v.budget + after_rise count + 0 ≤ left + frames_to_ask v.before (asked_next x) → Answered (ascended x b) (asking_next v.before (asked_next x)) gs left
  go zero is true gives enough frames = absurd (nobody_wanted gs is gives.0 gives.1)
  go zero is false gives enough frames =
      let costs = nobody_costs x v.before v.way v.running (unbounded_where gs x v.knows (nobody_wanted gs is)) in
      let rest = spent (frames_to_ask v.before (asked_next x)) _ _ v.budget 1 left costs.0 enough frames in
      record {
        budget = v.budget - frames_to_ask v.before (asked_next x);
        ascends = record { way = costs.1; knows = knows false gives; ready = v.ready; unnamed = v.unnamed; enough = rw is rest.0 };
        frames = rw is rest.1;
      }
  go (suc more) is b gives enough frames =
      let costs =
      somebody_costs x v.before b v.way v.running (silent_some gs x more v.way.way.is v.knows v.ready is)
      (never_last gs (asked_next x) more b v.ready is gives) in
      let rest = spent (frames_to_ask v.before (asked_next x)) _ _ v.budget (after_rise (suc more)) left costs.0 enough frames in
      record {
        budget = v.budget - frames_to_ask v.before (asked_next x);
        ascends = record { way = costs.1; knows = knows b gives; ready = v.ready; unnamed = v.unnamed; enough = rw is rest.0 };
        frames = rw is rest.1;
      }

-- what a question costs is there
afford_of : (x : Ascent) (q : Asking) (gs : List Gear) (left : ℕ) (v : Answered x q gs left) → leads_to x ≡ Again → frames_to_ask q (asked_next x) ≤ v.budget
afford_of x q gs left v again = go (count_by is_wanted gs) refl v.enough where
  some : (costs thirds before budget : ℕ) → 3 * costs + thirds ≤ before → before ≤ 3 * budget → costs ≤ budget
  some costs thirds before budget one two = omega (arith, one, two)

  go : (count : ℕ) → count_by is_wanted gs ≡ count → thirds_for count x q ≤ 3 * v.budget → frames_to_ask q (asked_next x) ≤ v.budget
  go zero is enough = some _ _ _ _ (nobody_costs x q v.way again (unbounded_where gs x v.knows (nobody_wanted gs is))).0 enough
  go (suc more) is enough = some _ _ _ _ (somebody_costs x q true v.way again (silent_some gs x more v.way.way.is v.knows v.ready is) (λ no. cc)).0 enough

-- the next question begins a transaction, or goes on in the one that runs
pub rises_new : (x : Ascent) (q : Asking) (gs : List Gear) (left : ℕ) → Answered x q gs left → leads_to x ≡ Again → has_room q (asked_next x) ≡ false
    → Rises false stage.Free x (sought (asked_next x)) gs left
rises_new x q gs left v again none = record {
  before = q;
  budget = v.budget;
  ascends = v.ascends;
  running = again;
  number = refl;
  stage_is = none;
  afford = afford_of x q gs left v again;
  frames = let four : frames_to_ask q (asked_next x) ≡ 4 = (new_room q (asked_next x) none).1 in
      let frames : v.budget + after_rise (count_by is_wanted gs) ≤ left = v.frames in omega (arith, four, frames);
}

pub rises_in : (x : Ascent) (q : Asking) (gs : List Gear) (left : ℕ) (r : SearchAddress) (h : Answer) (room : ℕ) → Answered x q gs left → leads_to x ≡ Again
    → r ≡ sought q.number → room ≡ q.room → has_room q (asked_next x) ≡ true → Rises false (stage.Hunted r (Some h) room) x (sought (asked_next x)) gs left
rises_in x q gs left r h room v again at room_is some = record {
  before = q;
  budget = v.budget;
  ascends = v.ascends;
  running = again;
  number = refl;
  stage_is = rw (bytes, left_is) (omega (arith, room_is, fits));
  afford = afford_of x q gs left v again;
  frames = rw (bytes, costs) (let frames : v.budget + after_rise (count_by is_wanted gs) ≤ left = v.frames in omega (arith, frames));
} where
  bytes : bytes_to_send (sought (asked_next x)) r ≡ bytes_apart q.number (asked_next x)
  bytes = subst (λ s. bytes_to_send (sought (asked_next x)) s ≡ bytes_apart q.number (asked_next x)) (sym at) (bytes_same (asked_next x) q.number)

  fits : bytes_apart q.number (asked_next x) < q.room
  fits = grind (arith, nat_tests, some)

  left_is : room_left q (asked_next x) ≡ q.room - (bytes_apart q.number (asked_next x) + 1)
  left_is = rw some refl

  costs : frames_to_ask q (asked_next x) ≡ bytes_apart q.number (asked_next x) + 1
  costs = rw some refl

-- gear is found, the least that is wanted
pub record IsReachedAt (x : Ascent) (m : ℕ) (gs : List Gear) (left : ℕ) : Type 0 where
  pub wanted_is : wants gs m ≡ true
  pub drawn : m < MASK24
  pub least : (k : ℕ) → wants gs k ≡ true → m ≤ k
  pub more : ℕ
  pub count : count_by is_wanted gs ≡ suc more
  pub frames : 43 + 106 * more ≤ left

pub rise_found : (x : Ascent) (q : Asking) (gs : List Gear) (left m : ℕ) → Answered x q gs left → leads_to x ≡ Found m → IsReachedAt x m gs left
rise_found x q gs left m v is = go (count_by is_wanted gs) refl v.frames where
  says : Says (wants gs) (Found m)
  says = subst (Says (wants gs)) is (says_found (wants gs) x v.way.way.is (λ k has. wanted.wanted_below gs k v.ready has) v.knows)

  go : (count : ℕ) → count_by is_wanted gs ≡ count → v.budget + after_rise count ≤ left → IsReachedAt x m gs left
  go zero none frames = absurd (nobody_wanted gs none m says.0)
  go (suc more) count frames =
      record { wanted_is = says.0; drawn = wanted.wanted_below gs m v.ready says.0; least = says.1; more = more; count = count; frames = omega (arith, frames) }

-- no gear is: each gear with power has a short address
pub rise_nobody : (x : Ascent) (q : Asking) (gs : List Gear) (left : ℕ) → Answered x q gs left → leads_to x ≡ Nobody → OfPowered gs HasShort × (1 ≤ left)
rise_nobody x q gs left v is = (
  nobody_short gs v.ready (subst (Says (wants gs)) is (says_found (wants gs) x v.way.way.is (λ k has. wanted.wanted_below gs k v.ready has) v.knows)),
  (let some : 1 ≤ after_rise (count_by is_wanted gs) = after_some (count_by is_wanted gs) in
      let frames : v.budget + after_rise (count_by is_wanted gs) ≤ left = v.frames in omega (arith, some, frames)),
)

-- ---------------------------------------------------------------- where it begins

nothing_before : (m : ℕ) → has_room no_question m ≡ false
nothing_before m = grind (arith, nat_tests)

rises_anew : (x : Ascent) (gs : List Gear) (left budget : ℕ) → IsTrueWay x no_question → leads_to x ≡ Again → Knows (wants gs) x → IsOpened gs → NoneNamed gs
    → thirds_for (count_by is_wanted gs) x no_question ≤ 3 * budget → budget + after_rise (count_by is_wanted gs) ≤ left
    → Rises false stage.Free x (sought (asked_next x)) gs left
rises_anew x gs left budget way again knows ready unnamed enough frames =
    rises_new x no_question gs left
    (record { budget = budget; ascends = record { way = way; knows = knows; ready = ready; unnamed = unnamed; enough = enough }; frames = frames }) again
    (nothing_before (asked_next x))

pub rises_first : (gs : List Gear) (left : ℕ) → IsOpened gs → NoneNamed gs → 106 * count_by is_wanted gs + 10 ≤ left
    → Rises false stage.Free ascent_at_first (sought (asked_next ascent_at_first)) gs left
rises_first gs left ready unnamed frames = go (count_by is_wanted gs) refl frames where
  begins : (budget : ℕ) → thirds_for (count_by is_wanted gs) ascent_at_first no_question ≤ 3 * budget → budget + after_rise (count_by is_wanted gs) ≤ left
      → Rises false stage.Free ascent_at_first (sought (asked_next ascent_at_first)) gs left
  begins budget =
      rises_anew ascent_at_first gs left budget (first_true no_question refl).0 refl
      (record { above = λ m has. omega arith; below = λ small. absurd (omega (arith, small)) }) ready unnamed

  go : (count : ℕ) → count_by is_wanted gs ≡ count → 106 * count + 10 ≤ left
      → Rises false stage.Free ascent_at_first (sought (asked_next ascent_at_first)) gs left
  go zero is frames = begins 5 (rw (is, (first_true no_question refl).2) (omega arith)) (rw is (omega (arith, frames)))
  go (suc more) is frames = begins 73 (rw (is, (first_true no_question refl).1) (omega arith)) (rw is (omega (arith, frames)))

pub rises_above : (x : Ascent) (r : ℕ) (gs : List Gear) (left : ℕ) → IsAscent x → r < MASK24 → ((m : ℕ) → wants gs m ≡ true → r < m) → IsOpened gs
    → NoneNamed gs → 106 * count_by is_wanted gs + 32 ≤ left → Rises false stage.Free (above x r) (sought (asked_next (above x r))) gs left
rises_above x r gs left is small past ready unnamed frames = go (count_by is_wanted gs) refl frames where
  begins : (budget : ℕ) → thirds_for (count_by is_wanted gs) (above x r) no_question ≤ 3 * budget → budget + after_rise (count_by is_wanted gs) ≤ left
      → Rises false stage.Free (above x r) (sought (asked_next (above x r))) gs left
  begins budget =
      rises_anew (above x r) gs left budget (above_true x r no_question is small refl).0 refl
      (record { above = λ m has. let over : r < m = past m has in omega (arith, over); below = λ low. absurd (omega (arith, low)) }) ready unnamed

  go : (count : ℕ) → count_by is_wanted gs ≡ count → 106 * count + 32 ≤ left → Rises false stage.Free (above x r) (sought (asked_next (above x r))) gs left
  go zero counts frames = begins 31 (rw (counts, (above_true x r no_question is small refl).2) (omega arith)) (rw counts (omega (arith, frames)))
  go (suc more) counts frames = begins 95 (rw (counts, (above_true x r no_question is small refl).1) (omega arith)) (rw counts (omega (arith, frames)))

-- ---------------------------------------------------------------- the table

pub rising_to_come : (told : Bool) (t : Stage) (x : Ascent) (n : SearchAddress) (gs : List Gear) (left : ℕ) (xs : List Assignment) → Rises told t x n gs left
    → to_come t n xs ≡ xs
rising_to_come told (stage.Programmed r a) x n gs left xs v = absurd v.stage_is
rising_to_come told (stage.Confirmed r a) x n gs left xs v = absurd v.stage_is
rising_to_come told (stage.Withdrawn r a) x n gs left xs v = absurd v.stage_is
rising_to_come told _ x n gs left xs v = refl

byte_one : (P : Command → Type 0) (n r : SearchAddress) → P (SearchHigh n.high) → P (SearchLow n.low) → P (SearchMiddle n.middle) → P Compare
    → P (byte_to_send n r)
byte_one P n r high low middle compare = go (r.high == n.high) (r.low == n.low) (r.middle == n.middle) where
  go : (b d e : Bool) → P (if b then (if d then (if e then Compare else SearchMiddle n.middle) else SearchLow n.low) else SearchHigh n.high)
  go false d e = high
  go true false e = low
  go true true false = middle
  go true true true = compare

-- what is so of each of its frames
pub rising_one : (P : Command → Type 0) (s : Stage) (k : Kept) (x : Ascent) (n : SearchAddress) (gs : List Gear) (left : ℕ) (c : Command)
    → P (SearchHigh n.high) → P (SearchLow n.low) → P (SearchMiddle n.middle) → P Compare → Rises false s x n gs left → Sends Hunting n k s c → P c
rising_one P stage.Free k x n gs left c high low middle compare v is = subst P (sym is) high
rising_one P (stage.HighSent byte) k x n gs left c high low middle compare v is = subst P (some_is (SearchLow n.low) c is) low
rising_one P (stage.LowSent byte bits) k x n gs left c high low middle compare v is = subst P (some_is (SearchMiddle n.middle) c is) middle
rising_one P (stage.Hunted r last room) k x n gs left c high low middle compare v is = subst P (sym is) (byte_one P n r high low middle compare)
rising_one P _ k x n gs left c high low middle compare v is = absurd v.stage_is

rising_leaves : (s : Stage) (k : Kept) (x : Ascent) (n : SearchAddress) (gs : List Gear) (left : ℕ) (c : Command) → Rises false s x n gs left
    → Sends Hunting n k s c → LeavesNames c
rising_leaves s k x n gs left c v is = rising_one LeavesNames s k x n gs left c tt tt tt tt v is

pub rising_tabled : (before : List Gear) (s : Stage) (k : Kept) (x : Ascent) (n : SearchAddress) (gs : List Gear) (numbers : List ℕ) (left rest : ℕ)
    (c : Command) (h : Answer) → Rises false s x n gs left → Sends Hunting n k s c → Rises true (next_stage s c h) x n (row_after Everyone c 0 gs numbers) rest
    → AreTabled before (to_come s n k.enrolled) gs → AreTabled before (to_come (next_stage s c h) n k.enrolled) (row_after Everyone c 0 gs numbers)
rising_tabled before s k x n gs numbers left rest c h v is next tabled =
    subst (λ xs. AreTabled before xs (row_after Everyone c 0 gs numbers)) (sym (rising_to_come true (next_stage s c h) x n _ rest k.enrolled next))
    (tabled_left before k.enrolled gs numbers c (rising_leaves s k x n gs left c v is)
    (subst (λ xs. AreTabled before xs gs) (rising_to_come false s x n gs left k.enrolled v) tabled))

-- ---------------------------------------------------------------- on the way where gear that drew are searched

-- the frame is one of a search
byte_sought : (n r : SearchAddress) (gs : List Gear) → (r ≡ n → IsSoughtBy gs Compare) → IsSoughtBy gs (byte_to_send n r)
byte_sought n r gs compare = go (r.high == n.high) refl (r.low == n.low) refl (r.middle == n.middle) refl where
  go : (b : Bool) → (r.high == n.high) ≡ b → (d : Bool) → (r.low == n.low) ≡ d → (e : Bool) → (r.middle == n.middle) ≡ e
      → IsSoughtBy gs (if b then (if d then (if e then Compare else SearchMiddle n.middle) else SearchLow n.low) else SearchHigh n.high)
  go false one d two e three = tt
  go true one false two e three = tt
  go true one true two false three = tt
  go true one true two true three = compare (let high : r.high ≡ n.high = equal r.high n.high one in
      let low : r.low ≡ n.low = equal r.low n.low two in
      let middle : r.middle ≡ n.middle = equal r.middle n.middle three in
      ap (λ x. record { high = x; middle = r.middle; low = r.low }) high ∙ ap (λ x. record { high = n.high; middle = x; low = r.low }) middle
      ∙ ap (λ x. record { high = n.high; middle = n.middle; low = x }) low)

pub rising_sought : (s : Stage) (k : Kept) (x : Ascent) (n : SearchAddress) (gs hs : List Gear) (left : ℕ) (c : Command) → Rises false s x n hs left
    → Sends Hunting n k s c → Seeks s gs → IsSoughtBy gs c
rising_sought stage.Free k x n gs hs left c v is seek = subst (IsSoughtBy gs) (sym is) tt
rising_sought (stage.HighSent high) k x n gs hs left c v is seek = subst (IsSoughtBy gs) (some_is (SearchLow n.low) c is) tt
rising_sought (stage.LowSent high low) k x n gs hs left c v is seek = subst (IsSoughtBy gs) (some_is (SearchMiddle n.middle) c is) tt
rising_sought (stage.Hunted r last room) k x n gs hs left c v is seek =
    subst (IsSoughtBy gs) (sym is) (byte_sought n r gs (λ same.
    (r, seek r refl, subst (λ m. m < MASK24) (sym (ap value_of (same ∙ v.number) ∙ value_sought (asked_next x))) (asked_drawn x v.way.way.is v.running))))
rising_sought _ k x n gs hs left c v is seek = absurd v.stage_is
