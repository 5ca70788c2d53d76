use Rattle.std.specs.Prelude.{◌≡◌, ◌⊎◌, ℕ, zero, suc, ◌+◌, ◌<◌, Bool, true, false, List, [], ◌++◌}
use Rattle.std.specs.Prelude.{length, Option, Some, None, Result, Ok, Err, is_some, ◌||◌}
use Rattle.std.specs.Prelude.{if◌then◌else◌}
use Rattle.dali_script.specs.declared.orders.Order.{Order}
use Rattle.dali_script.specs.declared.orders.Due.{Due}
use Rattle.dali_script.specs.declared.orders.Due.TheVariants as due
use Rattle.dali_events.specs.World.{Controller}
use Rattle.dali_standing.specs.Seats.{due_of}
use Rattle.dali_standing.specs.declared.refusal.Refusal.{Refusal}
use Rattle.dali_events.specs.declared.trouble.Trouble.TheVariants as trouble
use Rattle.dali_standing.specs.declared.report.Report.{Report}
use Rattle.dali_standing.specs.declared.report.Report.TheVariants as report
use Rattle.dali_replay.specs.declared.rounds.Round.{Round}
use Rattle.dali_replay.specs.declared.rounds.Round.TheVariants as round
use Rattle.dali_replay.specs.Installation.{Installation, controller, Goes, PumpsOn}
use Rattle.dali_replay.specs.Text.{kept_text, refused_text, ran_text}

-- A RUN OF ROUNDS: what happens in it, and what it reports.

-- something is due for a controller: it was told something, or waits for a commit. Nothing is while
-- it is down.
abbrev pub has_turn_by : Due → Controller → Bool
has_turn_by due.Store k = true
has_turn_by due.Start k = is_some k.told
has_turn_by due.Bus k = is_some k.told
has_turn_by due.Nothing k = is_some k.told

abbrev pub has_turn : Controller → Bool
has_turn k = has_turn_by (due_of k) k

-- The turn of controller c, as it is called: it goes, if something is due.
abbrev pub HasTurn : Installation → ℕ → Result (Option Order) Refusal → Installation → Type 0
HasTurn n c (Ok None) m = (has_turn (controller n c) ≡ false) × (m ≡ n)
HasTurn n c (Ok (Some o)) m = (has_turn (controller n c) ≡ true) × Goes n c (Ok o) m
HasTurn n c (Err e) m = (has_turn (controller n c) ≡ true) × Goes n c (Err e) m

-- ---------------------------------------------------------------- the turns of a round

-- The turn of controller c: it goes, if something is due. Whether it went; nothing, if it was
-- refused.
abbrev pub IsTurn : Installation → ℕ → Option Bool → List ℕ → Installation → Type 0
IsTurn n c (Some false) text m = (has_turn (controller n c) ≡ false) × (text ≡ []) × (m ≡ n)
IsTurn n c (Some true) text m =
    (has_turn (controller n c) ≡ true) × (o : Order) × Goes n c (Ok o) m × (text ≡ kept_text c o)
IsTurn n c None text m =
    (has_turn (controller n c) ≡ true) × (e : Refusal) × Goes n c (Err e) m
    × (text ≡ refused_text e)

-- The controllers before number c had their turns, in order of their numbers, and none was refused.
-- Whether one of them went.
abbrev pub Turns : Installation → ℕ → Bool → List ℕ → Installation → Type 0
Turns n zero acted text m = (acted ≡ false) × (text ≡ []) × (m ≡ n)
Turns n (suc c) acted text m =
    (before : Bool) × (front : List ℕ) × (between : Installation) × Turns n c before front between
    × (went : Bool) × (last : List ℕ) × IsTurn between c (Some went) last m
    × (acted ≡ (before || went)) × (text ≡ front ++ last)

-- all of them had; or the turn of one was refused, after those before it
abbrev pub controllers : Installation → ℕ
controllers n = length n.site.plan.blocks

pub record IsTurnRefused (n : Installation) (text : List ℕ) (m : Installation) : Type 0 where
  pub c : ℕ
  pub acted : Bool
  pub front : List ℕ
  pub between : Installation
  pub last : List ℕ
  pub known : c < controllers n
  pub turns : Turns n c acted front between
  pub refused : IsTurn between c None last m
  pub whole : text ≡ front ++ last

abbrev pub AreTurns : Installation → Option Bool → List ℕ → Installation → Type 0
AreTurns n (Some acted) text m = Turns n (controllers n) acted text m
AreTurns n None text m = IsTurnRefused n text m

-- ---------------------------------------------------------------- one round

-- whether a report counts as a frame: it was sent, and not destroyed
abbrev pub is_sent : Report → Bool
is_sent (report.Sent c f h) = true
is_sent report.Idle = false
is_sent (report.Destroyed c f) = false
is_sent (report.Collided c f d g) = false

-- what came of a round: it is over if no controller had a turn and no request was next
abbrev pub came_of : Bool → Report → Round
came_of false report.Idle = round.Over
came_of _ x = round.Played (is_sent x)

-- A ROUND: the turns, and then the bus.
pub record IsRound (n : Installation) (came : Round) (text : List ℕ)
    (m : Installation) : Type 0 where
  pub acted : Bool
  pub between : Installation
  pub report : Report
  pub turns : AreTurns n (Some acted) text between
  pub pump : PumpsOn between trouble.None (Ok report) m
  pub ended : came ≡ came_of acted report

-- a round in which the bus refuses
pub record IsBusRefused (n : Installation) (text : List ℕ) (m : Installation) : Type 0 where
  pub acted : Bool
  pub front : List ℕ
  pub between : Installation
  pub refusal : Refusal
  pub turns : AreTurns n (Some acted) front between
  pub refused : PumpsOn between trouble.None (Err refusal) m
  pub whole : text ≡ front ++ refused_text refusal

abbrev pub IsRoundOf : Installation → Round → List ℕ → Installation → Type 0
IsRoundOf n round.Refused text m = AreTurns n None text m ⊎ IsBusRefused n text m
IsRoundOf n came text m = IsRound n came text m

-- ---------------------------------------------------------------- rounds

-- k rounds, none of which was the last; the frames that they sent
abbrev pub Rounds : Installation → ℕ → ℕ → List ℕ → Installation → Type 0
Rounds n zero frames text m = (frames ≡ 0) × (text ≡ []) × (m ≡ n)
Rounds n (suc k) frames text m =
    (before : ℕ) × (front : List ℕ) × (between : Installation) × Rounds n k before front between
    × (sent : Bool) × (last : List ℕ) × IsRoundOf between (round.Played sent) last m
    × (frames ≡ before + (if sent then 1 else 0)) × (text ≡ front ++ last)

-- How up to `limit` rounds end after k of them: k is the limit; or the next round is the last, or
-- refused.
abbrev pub Ends : ℕ → ℕ → Installation → List ℕ → Installation → Type 0
Ends limit k n text m =
    ((k ≡ limit) × (text ≡ []) × (m ≡ n))
    ⊎ ((k < limit) × (IsRoundOf n round.Over text m ⊎ IsRoundOf n round.Refused text m))

pub record Ran (limit : ℕ) (n : Installation) (frames : ℕ) (text : List ℕ)
    (m : Installation) : Type 0 where
  pub rounds : ℕ
  pub front : List ℕ
  pub between : Installation
  pub last : List ℕ
  pub played : Rounds n rounds frames front between
  pub ends : Ends limit rounds between last m
  pub whole : text ≡ front ++ last

-- A RUN of up to so many rounds, with its report.
abbrev pub Runs : ℕ → Installation → List ℕ → Installation → Type 0
Runs limit n text m =
    (frames : ℕ) × (front : List ℕ) × Ran limit n frames front m × (text ≡ front ++ ran_text frames)
