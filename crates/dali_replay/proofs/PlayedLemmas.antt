use Rattle.std.proofs.Common.{◌≡◌, ℕ, List, [], ◌∷◌, ◌++◌, inl, Bool, Result, Ok, Err, refl, sym, ap, subst, ◌∙◌}
use Rattle.std.proofs.lemmas.List.{append-nil}
use Rattle.dali_events.specs.{Plan.Plan, declared.event.Event.Event}
use Rattle.dali_grammar.specs.{Setting.NumberedLines, Setting.End, Setting.Setting, Setting.PlansNot, declared.fault.ReplayFault.ReplayFault}
use Rattle.dali_grammar.specs.declared.fault.ReplayFault.TheVariants.{BadLine, BadPlan, Memory, Read, Write}
use Rattle.dali_replay.specs.Played.{Follow, IsBadLater, StopsIn, PlaysAll, IsPlayed, IsOf, IsSame, IsPlayedBy, StopsBy}
use Rattle.dali_replay.specs.Player.{Takes, player_of}
use Rattle.dali_replay.specs.declared.{played.Played.Played, played.PlayedLine.PlayedLine, player.Player.Player}

-- WHAT WAS KEPT SO FAR of the lines of a script: whatever the lines that are left lead to, all lines do.
pub record Kept (s : Player) (lines : NumberedLines) (before : List PlayedLine) (kept : List Event) (said : List ℕ) (t : Player) (left : NumberedLines)
    (now : List PlayedLine) (all : List Event) (text : List ℕ) : Type 0 where
  pub so_far : List PlayedLine
  pub grown : now ≡ before ++ so_far
  pub follow : (ps : List PlayedLine) (u : Player) (end : List Event) (whole : List ℕ) → Follow t left all text ps u end whole
      → Follow s lines kept said (so_far ++ ps) u end whole
  pub bad : (n : ℕ) → IsBadLater t left n → IsBadLater s lines n

-- nothing was kept yet
pub kept_none : (s : Player) (lines : NumberedLines) (before : List PlayedLine) (kept : List Event) (said : List ℕ)
    → Kept s lines before kept said s lines before kept said
kept_none s lines before kept said = record {
  so_far = [];
  grown = sym (append-nil before);
  follow = λ ps u end whole h. h;
  bad = λ n h. h;
}

-- no line is left
pub all_kept : (s t : Player) (lines left : NumberedLines) (before now : List PlayedLine) (kept all : List Event) (said text : List ℕ)
    → Kept s lines before kept said t left now all text → left ≡ []
    → (ps : List PlayedLine) × (now ≡ before ++ ps) × Follow s lines kept said ps t all text
all_kept s t lines left before now kept all said text was done = (
  was.so_far ++ [],
  was.grown ∙ ap (λ xs. before ++ xs) (sym (append-nil was.so_far)),
  was.follow [] t all text (rw done (refl, refl, refl)),
)

-- the next line is a bad one, or memory is wanting
stops_in : (s t u : Player) (lines left rest : NumberedLines) (before now : List PlayedLine) (kept all : List Event) (said text old new : List ℕ)
    (n : ℕ) (line : List ℕ) (e : ReplayFault)
    → Kept s lines before kept said t left now all text → left ≡ (n, line) ∷ rest → Takes t n line old u new (Err e)
    → StopsIn (record { player = s; left = lines }) e
stops_in s t u lines left rest before now kept all said text old new n line (BadLine k) was first takes =
    was.bad k (rw first (inl (sym takes.0, takes.1)))
stops_in s t u lines left rest before now kept all said text old new n line Memory was first takes = tt
stops_in s t u lines left rest before now kept all said text old new n line _ was first takes = absurd takes

pub stops_all : (s t u q : Player) (lines left rest : NumberedLines) (before now more : List PlayedLine) (kept all end : List Event)
    (said text whole old new : List ℕ) (n : ℕ) (line : List ℕ) (e : ReplayFault) (r : Result (Unit {0}) ReplayFault)
    → r ≡ Err e → Kept s lines before kept said t left now all text → left ≡ (n, line) ∷ rest → Takes t n line old u new (Err e)
    → PlaysAll (record { player = s; left = lines }) q before more said whole kept end r
stops_all s t u q lines left rest before now more kept all end said text whole old new n line e r is was first takes =
    rw is (stops_in s t u lines left rest before now kept all said text old new n line e was first takes)

-- ---------------------------------------------------------------- a whole script

-- what was set up is what a script sets up, as long as it stays the same
pub is_of_same : (is_bench : Bool) (p : Plan) (x y : Played) → IsOf is_bench p x → IsSame x y → IsOf is_bench p y
is_of_same is_bench p x y of same = record {
  gear = same.gear ∙ of.gear;
  controllers = same.controllers ∙ of.controllers;
  draws = same.draws ∙ of.draws;
  used = same.used ∙ of.used;
}

-- what the first lines set up, and then all lines
pub played_by : (s : Result (Setting × NumberedLines) End) (is_bench : Bool) (p : Plan) (lines : NumberedLines) (player : Player) (x y : Played)
    → s ≡ Ok ((is_bench, p), lines) → player ≡ player_of is_bench p → IsOf is_bench p x → IsSame x y
    → IsPlayed (record { player = player; left = lines }) y → IsPlayedBy s y
played_by s is_bench p lines player x y is begun of same played =
    rw is (is_of_same is_bench p x y of same, subst (λ (z : Player). IsPlayed (record { player = z; left = lines }) y) begun played)

pub stops_by : (s : Result (Setting × NumberedLines) End) (is_bench : Bool) (p : Plan) (lines : NumberedLines) (player : Player) (e : ReplayFault)
    → s ≡ Ok ((is_bench, p), lines) → player ≡ player_of is_bench p → StopsIn (record { player = player; left = lines }) e → StopsBy s e
stops_by s is_bench p lines player e is begun stops =
    rw is (subst (λ (z : Player). StopsIn (record { player = z; left = lines }) e) begun stops)

-- memory was wanting
pub stops_want : (s : Result (Setting × NumberedLines) End) → StopsBy s Memory
stops_want (Ok s) = tt
stops_want (Err end) = tt

-- the first lines set up nothing
pub stops_unplanned : (s : Result (Setting × NumberedLines) End) (e : ReplayFault) → PlansNot s e → StopsBy s e
stops_unplanned (Err end) e not = not
stops_unplanned (Ok s) (BadLine n) not = absurd (cc)
stops_unplanned (Ok s) (BadPlan e) not = absurd (cc)
stops_unplanned (Ok s) Memory not = tt
stops_unplanned (Ok s) Read not = absurd not
stops_unplanned (Ok s) Write not = absurd not
