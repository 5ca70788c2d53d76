use Rattle.std.proofs.Common.{◌≡◌, ◌≢◌, ◌⊎◌, inl, inr, ℕ, ◌+◌, Bool, true, false, refl, sym, ap, ap₂, ◌∙◌, List, [], ◌∷◌, map, Option, Some, None, ◌&&◌, ◌||◌}
use Rattle.std.{proofs.Common.if◌then◌else◌, specs.List.{list_any, AllByRecursion}}
use Rattle.dali_special.specs.{Command.{is_send_twice, IsSpelled}, declared.command.Command.Command as Read}
use Rattle.dali_gear.specs.{Gear.{Gear as Real, draws_a_number, gear_taken, after_frame, answer_to, answer as real_answer}, Row.{reaches, takes as is_taken}}
use Rattle.dali_gear.specs.{Row.{next_draw, one_after, left_after, row_after, option_cons, answers_of}, declared.row.Reach.{Reach, TheVariants.Everyone}}
use Rattle.dali_statement.specs.{Gear.{part_seen, command_seen, gear_seen, HasShort}, Page.{Command, Gear, takes, holds, answer, QueryShort, QueryRandom, Byte}}
use Rattle.dali_statement.{specs.Page.{Destroyed, befalls, gear_after, hears}, proofs.{Gear.{step, pair, query, random}, Tests.equals}}
use Rattle.dali_special.specs.declared.command.Command.TheVariants as read

-- A ROW OF GEAR takes frames, and is heard, as the page says.

-- ---------------------------------------------------------------- frames

-- whom a frame reaches that has power takes it
taken_by_all : (b : Bool) (c : Read) (left : List ℕ) (g : Real) → one_after (b && true) c left g ≡ (if b then gear_taken c (next_draw g left) g else g)
taken_by_all true c left g = refl
taken_by_all false c left g = refl

pub sent_to_all : (c : Read) (k : ℕ) (gs : List Real) (left : List ℕ) → is_send_twice c ≡ false
    → map gear_seen (row_after Everyone c k gs left) ≡ map (takes (command_seen c) 0) (map gear_seen gs)
sent_to_all c k [] left e = refl
sent_to_all c k (g ∷ gs) left e =
    ap₂ (λ x xs. x ∷ xs) (ap gear_seen (taken_by_all g.powered c left g) ∙ step c (next_draw g left) 0 g e)
    (sent_to_all c (k + 1) gs (left_after (is_taken Everyone k g && draws_a_number c g) left) e)

-- what becomes of one gear of the page
abbrev one_befalls : (ℕ → Gear → Gear) → Option ℕ → Gear → Gear
one_befalls change None x = x
one_befalls change (Some n) x = change n x

reached_one : (c : Read) (left : List ℕ) (b r : Bool) (g : Real) → g.powered ≡ b → IsSpelled c → HasShort g
    → (o : Option ℕ) × (gear_seen (one_after (b && r) c left g) ≡ one_befalls (takes (command_seen c)) o (gear_seen g))
reached_one c left true true g power spelled short = go (is_send_twice c) refl where
  is : gear_seen (gear_taken c (next_draw g left) g) ≡ gear_seen (after_frame c (next_draw g left) g)
  is = sym (ap (λ b. gear_seen (if b then gear_taken c (next_draw g left) g else g)) power)

  by : (gear_seen (after_frame c (next_draw g left) g) ≡ gear_seen g)
      ⊎ (gear_seen (after_frame c (next_draw g left) g) ≡ takes (command_seen c) (next_draw g left) (gear_seen g))
      → (o : Option ℕ) × (gear_seen (gear_taken c (next_draw g left) g) ≡ one_befalls (takes (command_seen c)) o (gear_seen g))
  by (inl stays) = (None, is ∙ stays)
  by (inr took) = (Some (next_draw g left), is ∙ took)

  go : (t : Bool) → is_send_twice c ≡ t
      → (o : Option ℕ) × (gear_seen (gear_taken c (next_draw g left) g) ≡ one_befalls (takes (command_seen c)) o (gear_seen g))
  go false e = (Some 0, is ∙ step c (next_draw g left) 0 g e)
  go true e = by (pair c (next_draw g left) g e spelled short)
reached_one c left _ _ g power spelled short = (None, refl)

befalls_more : (change : ℕ → Gear → Gear) (o : Option ℕ) (some : List (Option ℕ)) (x : Gear) (xs : List Gear)
    → befalls change (o ∷ some) (x ∷ xs) ≡ one_befalls change o x ∷ befalls change some xs
befalls_more change None some x xs = refl
befalls_more change (Some n) some x xs = refl

pub reached : (reach : Reach) (c : Read) (k : ℕ) (gs : List Real) (left : List ℕ) → IsSpelled c → AllByRecursion HasShort gs
    → (some : List (Option ℕ)) × (map gear_seen (row_after reach c k gs left) ≡ befalls (takes (command_seen c)) some (map gear_seen gs))
reached reach c k [] left spelled shorts = ([], refl)
reached reach c k (g ∷ gs) left spelled shorts =
    let one = reached_one c left g.powered (reaches reach k) g refl spelled shorts.0 in
    let more = reached reach c (k + 1) gs (left_after (is_taken reach k g && draws_a_number c g) left) spelled shorts.1 in
    (one.0 ∷ more.0, ap₂ (λ x xs. x ∷ xs) one.1 more.1 ∙ sym (befalls_more (takes (command_seen c)) one.0 more.0 (gear_seen g) (map gear_seen gs)))

-- one frame that was destroyed
abbrev pub of_one : List (Option ℕ) → List (Option (ℕ × ℕ))
of_one [] = []
of_one (None ∷ reach) = None ∷ of_one reach
of_one (Some n ∷ reach) = Some (0, n) ∷ of_one reach

pub destroyed_one : (c : ℕ) (x : Command) (reach : List (Option ℕ)) (gs : List Gear)
    → gear_after (Destroyed ((c, x) ∷ []) (of_one reach)) gs ≡ befalls (takes x) reach gs
destroyed_one c x (None ∷ reach) (g ∷ gs) = ap (λ hs. g ∷ hs) (destroyed_one c x reach gs)
destroyed_one c x (Some n ∷ reach) (g ∷ gs) = ap (λ hs. takes x n g ∷ hs) (destroyed_one c x reach gs)
destroyed_one c x _ _ = refl

-- ---------------------------------------------------------------- hearing

answers_all : (b : Bool) (o : Option ℕ) → (if b && true then o else None) ≡ (if b then o else None)
answers_all true o = refl
answers_all false o = refl

one_answers : (c : Read) (k : ℕ) (g : Real) → (if is_taken Everyone k g then real_answer c g else None) ≡ answer_to c g
one_answers c k g = answers_all g.powered (real_answer c g)

abbrev Same : ℕ → List ℕ → Type 0
Same v answers = AllByRecursion (λ u. u ≡ v) answers

-- some gear of the page answers so, if each answer of a gear is its answer there
abbrev is_some_answer : Command → ℕ → List Real → Bool
is_some_answer m v gs = list_any (λ x. holds v (answer m x)) (map gear_seen gs)

some_answer : (c : Read) (m : Command) (v : ℕ) → ((g : Real) → answer_to c g ≡ Some v → answer m (gear_seen g) ≡ Some v) → (k : ℕ) (gs : List Real)
    → (answers_of Everyone c k gs ≢ []) → Same v (answers_of Everyone c k gs) → is_some_answer m v gs ≡ true
some_answer c m v seen k [] some same = absurd (some refl)
some_answer c m v seen k (g ∷ gs) some same =
    go (answers_of Everyone c (k + 1) gs) (if is_taken Everyone k g then real_answer c g else None) (one_answers c k g) some same
    (some_answer c m v seen (k + 1) gs)
  where
    second : {b : Bool} (a : Bool) → b ≡ true → (a || b) ≡ true
    second {b} true e = refl
    second {b} false e = e

    go : (rest : List ℕ) (o : Option ℕ) → o ≡ answer_to c g → (option_cons o rest ≢ []) → Same v (option_cons o rest)
        → ((rest ≢ []) → Same v rest → is_some_answer m v gs ≡ true) → (holds v (answer m (gear_seen g)) || is_some_answer m v gs) ≡ true
    go rest None is some same later = second (holds v (answer m (gear_seen g))) (later some same)
    go rest (Some u) is some same later = ap (λ a. a || is_some_answer m v gs) (ap (holds v) (seen g (sym is ∙ ap (λ n. Some n) same.0)) ∙ equals v v refl)

pub heard : (c : Read) (v : ℕ) (gs : List Real) → (answers_of Everyone c 0 gs ≢ []) → Same v (answers_of Everyone c 0 gs)
    → hears (command_seen c) (Byte v) (map gear_seen gs) ≡ true
heard read.QueryShort v gs some same = some_answer read.QueryShort QueryShort v (λ g e. sym (query g) ∙ e) 0 gs some same
heard (read.RandomByte s q) v gs some same = some_answer (read.RandomByte s q) (QueryRandom s (part_seen q)) v (λ g e. random s v q g e) 0 gs some same
heard _ v gs some same = refl
