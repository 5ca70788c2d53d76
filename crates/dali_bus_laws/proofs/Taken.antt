use Rattle.std.proofs.Common.{◌≡◌, ℕ, ◌+◌, ◌-◌, ◌*◌, ◌^◌, ◌<◌, ◌≤◌, Bool, true, false, not, List, [], ◌∷◌, ◌++◌, refl, sym, ◌∙◌, ap, subst, arith}
use Rattle.std.proofs.Common.{Option, Some, None, nat_lt, if◌then◌else◌}
use Rattle.std.specs.Option.{option_map}
use Rattle.std.proofs.lemmas.Bool.Decides.{nat_tests}
use Rattle.dali_frame.specs.declared.frames.Forward.{Forward as Sent}
use Rattle.dali_wire.specs.Levels.{bits_of, levels_of, highs, sent_levels, forward_bits}
use Rattle.dali_wire.specs.Times.{IsHalf, IsWhole, AreTimes, HasRead}
use Rattle.dali_wire.specs.Edges.{by_turns}
use Rattle.dali_wire.specs.Reception.{ended, frame_read, told_of}
use Rattle.dali_wire.specs.declared.receiver.{Frame.Frame, Reading.Reading, Receiver.Receiver, Told.Told}
use Rattle.dali_wire.specs.declared.receiver.Frame.TheVariants.{Forward}
use Rattle.dali_wire.specs.declared.receiver.Reading.TheVariants.{Idle}
use Rattle.dali_wire.proofs.EachTime.{forward_read}
use Rattle.dali_wire.proofs.Values.{start_first}
use Rattle.dali_bus_laws.specs.Table.{table}
use Rattle.dali_bus_laws.specs.Bus.{Edges, IsSeen, Sees, SeesFrom, first_read, or_later}
use Rattle.dali_bus_laws.specs.Pins.{AreEdgesOf, spaced}
use Rattle.dali_bus_laws.proofs.Spans.{half_seen, whole_seen, stop_seen}

-- A RECEIVER TAKES what a port sent whole: what it counts between the edges is within its tolerance.

-- one edge of a port, of the bus, and of a receiver
pub record Edge (x : Bool) (at last : ℕ) (levels : List Bool) (w : Edges) : Type 0 where
  pub moment : ℕ
  pub passed : ℕ
  pub gap : ℕ
  pub es : Edges
  pub bus : Edges
  pub rest : Edges
  pub is : w ≡ (not x, gap) ∷ rest
  pub least : at ≤ moment
  pub most : moment ≤ at + 40
  pub edges : AreEdgesOf (not x) (at + 417) levels es
  pub one : IsSeen table passed (moment - last)
  pub two : IsSeen table passed gap
  pub sees : Sees table bus (spaced moment es)
  pub seen : Sees table bus rest

edge_to : (x : Bool) (at last : ℕ) (levels : List Bool) (e : Bool × ℕ) (es : Edges) (b : Bool × ℕ) (bus : Edges) (s : Bool × ℕ) (w : Edges)
    → e.0 ≡ not x → at ≤ e.1 → e.1 ≤ at + 40 → AreEdgesOf (not x) (at + 417) levels es → Sees table (b ∷ bus) (spaced last (e ∷ es))
    → Sees table (b ∷ bus) (s ∷ w) → Edge x at last levels (s ∷ w)
edge_to x at last levels e es b bus s w low lo hi edges sees seen = record {
  moment = e.1;
  passed = b.1;
  gap = s.1;
  es = es;
  bus = bus;
  rest = w;
  is = ap (λ l. (l, s.1) ∷ w) (seen.0 ∙ (sym sees.0 ∙ low));
  least = lo;
  most = hi;
  edges = edges;
  one = sees.1;
  two = seen.1;
  sees = sees.2;
  seen = seen.2;
}

one_edge : (x : Bool) (at last : ℕ) (levels : List Bool) (es bus w : Edges) → AreEdgesOf x at (not x ∷ levels) es → Sees table bus (spaced last es)
    → Sees table bus w → Edge x at last levels w
one_edge true at last levels [] bus w edges sees seen = absurd edges
one_edge false at last levels [] bus w edges sees seen = absurd edges
one_edge x at last levels (e ∷ es) [] w edges sees seen = absurd sees
one_edge x at last levels (e ∷ es) (b ∷ bus) [] edges sees seen = absurd seen
one_edge true at last levels (e ∷ es) (b ∷ bus) (s ∷ w) edges sees seen =
    edge_to true at last levels e es b bus s w edges.0 edges.1 edges.2 edges.3 sees seen
one_edge false at last levels (e ∷ es) (b ∷ bus) (s ∷ w) edges sees seen =
    edge_to false at last levels e es b bus s w edges.0 edges.1 edges.2 edges.3 sees seen

-- the stop condition
abbrev pub AfterStop : Edges → Type 0
AfterStop [] = Unit {0}
AfterStop (e ∷ edges) = 2400 ≤ e.1

pub long_since : (last at moment : ℕ) → last + 2462 ≤ at → at ≤ moment → 2462 ≤ moment - last
long_since last at moment long late = omega arith

pub ends : (at last : ℕ) (es bus w : Edges) → last + 2462 ≤ at → AreEdgesOf false at [] es → Sees table bus (spaced last es) → Sees table bus w → AfterStop w
ends at last [] [] [] long edges sees seen = tt
ends at last [] [] (s ∷ w) long edges sees seen = absurd seen
ends at last [] (b ∷ bus) w long edges sees seen = absurd sees
ends at last (e ∷ es) [] w long edges sees seen = absurd sees
ends at last (e ∷ es) (b ∷ bus) [] long edges sees seen = tt
ends at last (e ∷ es) (b ∷ bus) (s ∷ w) long edges sees seen =
    stop_seen b.1 (e.1 - last) s.1 sees.1 seen.1 (long_since last at e.1 long edges)

-- the bits from the edge in the middle of one on
pub record Takes (x : Bool) (bits : List Bool) (w : Edges) : Type 0 where
  pub times : List ℕ
  pub more : Edges
  pub is : w ≡ by_turns (not x) times ++ more
  pub are : AreTimes x bits times
  pub stop : AfterStop more

half_least : (at last moment : ℕ) → last + 417 ≤ at + 40 → at ≤ moment → 377 ≤ moment - last
half_least at last moment a b = omega arith

half_most : (at last moment : ℕ) → at ≤ last + 417 → moment ≤ at + 40 → moment - last ≤ 457
half_most at last moment a b = omega arith

whole_least : (at last moment : ℕ) → last + 417 ≤ at + 40 → at + 417 ≤ moment → 794 ≤ moment - last
whole_least at last moment a b = omega arith

whole_most : (at last moment : ℕ) → at ≤ last + 417 → moment ≤ at + 417 + 40 → moment - last ≤ 874
whole_most at last moment a b = omega arith

pub next_least : (at last : ℕ) → at ≤ last → at + 417 ≤ last + 417
next_least at last h = omega arith

pub next_most : (at last : ℕ) → last ≤ at + 40 → last + 417 ≤ at + 417 + 40
next_most at last h = omega arith

pub a_half : (at last moment passed gap : ℕ) → at ≤ last + 417 → last + 417 ≤ at + 40 → at ≤ moment → moment ≤ at + 40 → IsSeen table passed (moment - last)
    → IsSeen table passed gap → IsHalf gap
a_half at last moment passed gap lo hi least most one two =
    half_seen passed (moment - last) gap one two (half_least at last moment hi least) (half_most at last moment lo most)

pub a_whole : (at last moment passed gap : ℕ) → at ≤ last + 417 → last + 417 ≤ at + 40 → at + 417 ≤ moment → moment ≤ at + 417 + 40
    → IsSeen table passed (moment - last) → IsSeen table passed gap → IsWhole gap
a_whole at last moment passed gap lo hi least most one two =
    whole_seen passed (moment - last) gap one two (whole_least at last moment hi least) (whole_most at last moment lo most)

after_five : (at last : ℕ) → last ≤ at + 40 → last + 2462 ≤ at + 417 + 417 + 417 + 417 + 417 + 417
after_five at last h = omega arith

after_six : (at last : ℕ) → last + 417 ≤ at + 40 → last + 2462 ≤ at + 417 + 417 + 417 + 417 + 417 + 417
after_six at last h = omega arith

pub cons_is : (w rest ws : Edges) (e : Bool × ℕ) → w ≡ e ∷ rest → rest ≡ ws → w ≡ e ∷ ws
cons_is w rest ws e one two = one ∙ ap (λ es. e ∷ es) two

takes : (bits : List Bool) (x : Bool) (at last : ℕ) (es bus w : Edges) → at ≤ last + 417 → last + 417 ≤ at + 40
    → AreEdgesOf x at (levels_of bits ++ highs 6) es → Sees table bus (spaced last es) → Sees table bus w → Takes x bits w
takes [] false at last es bus w lo hi edges sees seen = record {
  times = [];
  more = w;
  is = refl;
  are = tt;
  stop = ends (at + 417 + 417 + 417 + 417 + 417 + 417) last es bus w (after_six at last hi) edges sees seen;
}
takes [] true at last es bus w lo hi edges sees seen =
    let e = one_edge true at last (highs 5) es bus w edges sees seen in
    record {
      times = e.gap ∷ [];
      more = e.rest;
      is = e.is;
      are = a_half at last e.moment e.passed e.gap lo hi e.least e.most e.one e.two;
      stop = ends (at + 417 + 417 + 417 + 417 + 417 + 417) e.moment e.es e.bus e.rest (after_five at e.moment e.most) e.edges e.sees e.seen;
    }
takes (true ∷ bits) true at last es bus w lo hi edges sees seen =
    let e = one_edge true (at + 417) last (levels_of bits ++ highs 6) es bus w edges sees seen in
    let more = takes bits false (at + 417 + 417) e.moment e.es e.bus e.rest (next_least (at + 417) e.moment e.least)
    (next_most (at + 417) e.moment e.most) e.edges e.sees e.seen in
    record {
      times = e.gap ∷ more.times;
      more = more.more;
      is = cons_is w e.rest _ (false, e.gap) e.is more.is;
      are = (a_whole at last e.moment e.passed e.gap lo hi e.least e.most e.one e.two, more.are);
      stop = more.stop;
    }
takes (false ∷ bits) false at last es bus w lo hi edges sees seen =
    let e = one_edge false (at + 417) last (levels_of bits ++ highs 6) es bus w edges sees seen in
    let more = takes bits true (at + 417 + 417) e.moment e.es e.bus e.rest (next_least (at + 417) e.moment e.least)
    (next_most (at + 417) e.moment e.most) e.edges e.sees e.seen in
    record {
      times = e.gap ∷ more.times;
      more = more.more;
      is = cons_is w e.rest _ (true, e.gap) e.is more.is;
      are = (a_whole at last e.moment e.passed e.gap lo hi e.least e.most e.one e.two, more.are);
      stop = more.stop;
    }
takes (true ∷ bits) false at last es bus w lo hi edges sees seen =
    let e = one_edge false at last (false ∷ (levels_of bits ++ highs 6)) es bus w edges sees seen in
    let f = one_edge true (at + 417) e.moment (levels_of bits ++ highs 6) e.es e.bus e.rest e.edges e.sees e.seen in
    let more = takes bits false (at + 417 + 417) f.moment f.es f.bus f.rest (next_least (at + 417) f.moment f.least)
    (next_most (at + 417) f.moment f.most) f.edges f.sees f.seen in
    record {
      times = e.gap ∷ f.gap ∷ more.times;
      more = more.more;
      is = cons_is w e.rest _ (true, e.gap) e.is (cons_is e.rest f.rest _ (false, f.gap) f.is more.is);
      are = (
        a_half at last e.moment e.passed e.gap lo hi e.least e.most e.one e.two,
        a_half (at + 417) e.moment f.moment f.passed f.gap (next_least at e.moment e.least) (next_most at e.moment e.most) f.least f.most f.one f.two,
        more.are,
      );
      stop = more.stop;
    }
takes (false ∷ bits) true at last es bus w lo hi edges sees seen =
    let e = one_edge true at last (true ∷ (levels_of bits ++ highs 6)) es bus w edges sees seen in
    let f = one_edge false (at + 417) e.moment (levels_of bits ++ highs 6) e.es e.bus e.rest e.edges e.sees e.seen in
    let more = takes bits true (at + 417 + 417) f.moment f.es f.bus f.rest (next_least (at + 417) f.moment f.least)
    (next_most (at + 417) f.moment f.most) f.edges f.sees f.seen in
    record {
      times = e.gap ∷ f.gap ∷ more.times;
      more = more.more;
      is = cons_is w e.rest _ (false, e.gap) e.is (cons_is e.rest f.rest _ (true, f.gap) f.is more.is);
      are = (
        a_half at last e.moment e.passed e.gap lo hi e.least e.most e.one e.two,
        a_half (at + 417) e.moment f.moment f.passed f.gap (next_least at e.moment e.least) (next_most at e.moment e.most) f.least f.most f.one f.two,
        more.are,
      );
      stop = more.stop;
    }

-- WHAT A RECEIVER TELLS, if it has read a frame and then a stop condition
stopped : (rest : ℕ) → 2400 ≤ rest → nat_lt rest 2400 ≡ false
stopped rest long = grind (arith, nat_tests)

told_frame : (q : Reading) (l : Bool) (lasted since : ℕ) (f : Frame) → frame_read q ≡ Some f → l ≡ false → 2400 ≤ since
    → option_map (λ told. told.frame) (told_of (record { reading = q; is_low = l; lasted = lasted }) since) ≡ Some f
told_frame q l lasted since f is high long =
    subst (λ b. option_map (λ (told : Told). told.frame) (told_of (record { reading = q; is_low = b; lasted = lasted }) since) ≡ Some f) (sym high)
    (subst (λ c. option_map (λ (told : Told). told.frame)
    (option_map (λ frame. record { frame = frame; lasted = lasted; since = since }) (if c then None else frame_read q)) ≡ Some f)
    (sym (stopped since long))
    (subst (λ o. option_map (λ (told : Told). told.frame)
    (option_map (λ frame. record { frame = frame; lasted = lasted; since = since }) o) ≡ Some f) (sym is) refl))

told_none : (r : Receiver) (since : ℕ) → ended r.reading r.is_low since ≡ None → told_of r since ≡ None
told_none r since is = ap (λ o. option_map (λ frame. record { frame = frame; lasted = r.lasted; since = since }) o) is

told_first : (o later : Option Told) (f : Frame) → option_map (λ told. told.frame) o ≡ Some f → option_map (λ told. told.frame) (or_later o later) ≡ Some f
told_first None later f is = absurd (cc)
told_first (Some told) later f is = is

told_later : (o later : Option Told) (f : Frame) → o ≡ None → option_map (λ told. told.frame) later ≡ Some f
    → option_map (λ told. told.frame) (or_later o later) ≡ Some f
told_later o later f none is = subst (λ p. option_map (λ (told : Told). told.frame) (or_later p later) ≡ Some f) (sym none) is

pub reads : (times : List ℕ) (q : Reading) (l : Bool) (lasted : ℕ) (more : Edges) (rest : ℕ) (f : Frame) → HasRead q l times f → AfterStop more → 2400 ≤ rest
    → first_read (record { reading = q; is_low = l; lasted = lasted }) (by_turns (not l) times ++ more) rest ≡ Some f
reads [] q true lasted more rest f h stop long = absurd (let off : true ≡ false = h.1 in cc)
reads [] q false lasted [] rest f h stop long = told_frame q false lasted rest f h.0 refl long
reads [] q false lasted (e ∷ more) rest f h stop long =
    told_first _ _ f (told_frame q false lasted e.1 f h.0 refl stop)
reads (time ∷ times) q true lasted more rest f h stop long =
    told_later _ _ f refl (reads times _ false _ more rest f h.1 stop long)
reads (time ∷ times) q false lasted more rest f h stop long =
    told_later _ _ f (told_none (record { reading = q; is_low = false; lasted = lasted }) time h.0)
    (reads times _ true _ more rest f h.1 stop long)

-- the whole frame

pub frame_taken : (f : Sent) (at last : ℕ) (es bus w : Edges) (r : Receiver) (rest : ℕ) → f.address_byte < 256 → f.opcode_byte < 256
    → AreEdgesOf false at (sent_levels (forward_bits f)) es → SeesFrom table bus (spaced last es) → SeesFrom table bus w → r.reading ≡ Idle
    → r.is_low ≡ false → 2400 ≤ rest → first_read r w rest ≡ Some (Forward f)
frame_taken f at last es bus w r rest small smaller edges sees seen idle high long = go es bus w sees seen begun where
  bits : List Bool
  bits = bits_of 16 (256 * f.address_byte + f.opcode_byte)

  same : (0x10000 + 256 * f.address_byte) + f.opcode_byte ≡ 2 ^ 16 + (256 * f.address_byte + f.opcode_byte)
  same = omega arith

  first_bit : forward_bits f ≡ true ∷ bits
  first_bit = ap (λ n. bits_of 17 n) same ∙ start_first 16 (256 * f.address_byte + f.opcode_byte)

  begun : AreEdgesOf false at (levels_of (true ∷ bits) ++ highs 6) es
  begun = subst (λ bs. AreEdgesOf false at (levels_of bs ++ highs 6) es) first_bit edges

  go : (es bus w : Edges) → SeesFrom table bus (spaced last es) → SeesFrom table bus w → AreEdgesOf false at (levels_of (true ∷ bits) ++ highs 6) es
      → first_read r w rest ≡ Some (Forward f)
  go [] bus w sees seen edges = absurd edges
  go (e ∷ es) [] w sees seen edges = absurd sees
  go (e ∷ es) (b ∷ bus) [] sees seen edges = absurd seen
  go (e ∷ es) (b ∷ bus) (s ∷ w) sees seen edges =
      let g = one_edge true (at + 417) e.1 (levels_of bits ++ highs 6) es bus w edges.3 sees.1 seen.1 in
      let more = takes bits false (at + 417 + 417) g.moment g.es g.bus g.rest (next_least (at + 417) g.moment g.least)
      (next_most (at + 417) g.moment g.most) g.edges g.sees g.seen in
      let first : IsHalf g.gap =
      a_half (at + 417) e.1 g.moment g.passed g.gap (next_least at e.1 edges.1) (next_most at e.1 edges.2) g.least g.most g.one g.two in
      let low : s.0 ≡ true = seen.0 ∙ (sym sees.0 ∙ edges.0) in
      let is : s ∷ w ≡ by_turns true (s.1 ∷ g.gap ∷ more.times) ++ more.more =
      ap (λ l. (l, s.1) ∷ w) low ∙ ap (λ es. (true, s.1) ∷ es) (g.is ∙ ap (λ es. (false, g.gap) ∷ es) more.is) in
      let read = forward_read f s.1 g.gap more.times small smaller first more.are in
      subst (λ es. first_read r es rest ≡ Some (Forward f)) (sym is)
      (subst (λ q. first_read (record { reading = q; is_low = r.is_low; lasted = r.lasted }) (by_turns true (s.1 ∷ g.gap ∷ more.times) ++ more.more) rest
      ≡ Some (Forward f)) (sym idle)
      (subst (λ l. first_read (record { reading = Idle; is_low = l; lasted = r.lasted }) (by_turns true (s.1 ∷ g.gap ∷ more.times) ++ more.more) rest
      ≡ Some (Forward f)) (sym high)
      (reads (s.1 ∷ g.gap ∷ more.times) Idle false r.lasted more.more rest (Forward f) read more.stop long)))
