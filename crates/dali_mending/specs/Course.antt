use Rattle.std.specs.Prelude.{◌≡◌, ◌≢◌, ℕ, ◌+◌, ◌==◌, ◌||◌, nat_le, min, if◌then◌else◌, Bool, true}
use Rattle.std.specs.Prelude.{false}
use Rattle.std.specs.Prelude.{Option, Some, None, is_some, IfSome, List}
use Rattle.std.specs.List.{list_any}
use Rattle.dali_frame.specs.declared.frames.Answer.{Answer}
use Rattle.dali_frame.specs.declared.frames.Answer.TheVariants.{Silence, Byte, Damaged}
use Rattle.dali_frame.specs.Random.{MASK24}
use Rattle.dali_search.specs.declared.step.Step.{Step}
use Rattle.dali_search.specs.declared.step.Step.TheVariants.{Again, Found, Nobody}
use Rattle.dali_commissioning.specs.declared.census.Reply.{Reply}
use Rattle.dali_commissioning.specs.declared.census.Reply.TheVariants as reply
use Rattle.dali_mending.specs.declared.stage.Stage.{Stage}
use Rattle.dali_mending.specs.declared.stage.Stage.TheVariants as stage
use Rattle.dali_mending.specs.declared.course.Outcome.{Outcome}
use Rattle.dali_mending.specs.declared.course.Outcome.TheVariants as outcome
use Rattle.dali_mending.specs.declared.course.Course.{Course}
use Rattle.dali_mending.specs.Transactions.{is_own}

-- ---------------------------------------------------------------- where a mending is

abbrev pub begun : Option ℕ → Course
begun table = record {
  table = table;
  keeper = table;
  missed = 0;
  stage = stage.Asking reply.Noise 0;
}

abbrev pub at_stage : Course → Stage → Course
at_stage c s = record {
  table = c.table;
  keeper = c.keeper;
  missed = c.missed;
  stage = s;
}

-- It goes on with the gear that is to keep the short address, or else so.
abbrev pub kept_by : Option ℕ → Stage → Stage
kept_by (Some r) s = stage.Keeping r 0
kept_by None s = s

abbrev pub keep_on : Course → Stage → Course
keep_on c s = at_stage c (kept_by c.keeper s)

-- ---------------------------------------------------------------- after it has asked

-- noise, and several numbers, tell no number
abbrev pub kind_of : Reply → Reply
kind_of reply.Silence = reply.Silence
kind_of (reply.Random r) = reply.Random r
kind_of reply.Noise = reply.Unclear
kind_of reply.Unclear = reply.Unclear
kind_of reply.Several = reply.Unclear

-- the same was told before; so often in a row
abbrev pub is_same : Reply → Reply → Bool
is_same reply.Silence reply.Silence = true
is_same reply.Unclear reply.Unclear = true
is_same (reply.Random r) (reply.Random s) = r == s
is_same _ _ = false

abbrev pub times_after : Reply → ℕ → Reply → ℕ
times_after last n r = if is_same last r then min (n + 1) 255 else 1

-- A NUMBER THAT WAS TOLD ALONE, three times in a row: the gear keeps the short address, unless the
-- table has it for another one.
abbrev pub outcome_told : Option ℕ → ℕ → Outcome
outcome_told None r = outcome.Kept r
outcome_told (Some k) r = if r == k then outcome.Kept r else outcome.Another r

-- GEAR DRAW only if no gear is known that is to keep the short address, and FFFFFF was told three
-- times in a row, or under it the short address, or six answers in a row that were not understood.
-- Noise may be these.
abbrev pub unnumbered : Course → Course
unnumbered c = keep_on c stage.Drawing

abbrev pub told : Course → ℕ → Course
told c r =
    if r == MASK24 then unnumbered c else at_stage c (stage.Ended (outcome_told c.table r))

abbrev pub unclear : Course → Course
unclear c = keep_on c stage.Beginning

abbrev pub again : Course → Reply → ℕ → Course
again c r n = at_stage c (stage.Asking r n)

abbrev pub asked_anew : Course → Course
asked_anew c = again c reply.Noise 0

abbrev pub answered : Course → Reply → ℕ → Course
answered c (reply.Random r) n = if nat_le 3 n then told c r else again c (reply.Random r) n
answered c reply.Silence n =
    if nat_le 3 n then at_stage c (stage.Ended outcome.Nobody) else again c reply.Silence n
answered c reply.Unclear n = if nat_le 3 n then unclear c else again c reply.Unclear n
answered c reply.Noise n = if nat_le 3 n then unclear c else again c reply.Noise n
answered c reply.Several n = if nat_le 3 n then unclear c else again c reply.Several n

abbrev pub asked : Course → Reply → ℕ → Reply → Course
asked c last n r = answered c (kind_of r) (times_after last n (kind_of r))

-- ---------------------------------------------------------------- after it has searched

-- WHO IS FOUND: beside the gear that is to keep the short address another one loses it; without
-- one, this one is asked whether it has it.
abbrev pub stage_found : Option ℕ → ℕ → Stage
stage_found (Some k) n = if n == k then stage.Keeping k 0 else stage.Erasing n
stage_found None n = stage.Keeping n 0

abbrev pub found : Course → ℕ → Course
found c n = at_stage c (stage_found c.keeper n)

-- gear that answer under FFFFFF and are not found have that number
abbrev pub searched : Course → Step → ℕ → Course
searched c Again next = at_stage c (stage.Searching next)
searched c (Found n) next = found c n
searched c Nobody next = found c MASK24

abbrev pub left : Course → Bool → ℕ → Course
left c is_any first = at_stage c (if is_any then stage.Searching first else stage.Closing)

-- ---------------------------------------------------------------- after it has asked a number

-- It told the short address: it keeps it.
abbrev pub kept : Course → ℕ → Course
kept c r = record {
  table = c.table;
  keeper = Some r;
  missed = 0;
  stage = stage.Left;
}

-- It did not answer, now or in three rounds.
abbrev pub gone_by : Option ℕ → Course → Course
gone_by (Some r) c = at_stage c (stage.Ending (outcome.Missing r))
gone_by None c = record {
  table = c.table;
  keeper = None;
  missed = 0;
  stage = stage.Closing;
}

abbrev pub gone : Course → Course
gone c = gone_by c.table c

abbrev pub silent : Course → Course
silent c =
    if nat_le 3 (min (c.missed + 1) 255)
    then gone c
    else record {
      table = c.table;
      keeper = c.keeper;
      missed = min (c.missed + 1) 255;
      stage = stage.Closing;
    }

-- It answered so often, and no short address was understood: several have this number, or its
-- answers are weak. It is left as it is, unless it has no number.
abbrev pub alike : Course → ℕ → Course
alike c r =
    if r == MASK24 then unnumbered c else at_stage c (stage.Ending (outcome.Twins r))

abbrev pub unlike : Course → ℕ → ℕ → Course
unlike c r n = if nat_le 6 n then alike c r else at_stage c (stage.Keeping r n)

abbrev pub unkept : Course → ℕ → ℕ → Answer → Course
unkept c r n Silence = silent c
unkept c r n (Byte byte) = unlike c r (min (n + 1) 255)
unkept c r n Damaged = unlike c r (min (n + 1) 255)

-- A GEAR THAT HANGS HERE: the table has another short address for it. It is withdrawn, and does not
-- keep this one.
abbrev pub is_placed : List ℕ → ℕ → Bool
is_placed placed r = list_any (λ n. n == r) placed

abbrev pub passed : Course → Course
passed c = at_stage c stage.Left

-- a gear that has no number draws
abbrev pub owned : List ℕ → Course → ℕ → Course
owned placed c r =
    if r == MASK24 then unnumbered c else if is_placed placed r then passed c else kept c r

abbrev pub queried : ℕ → List ℕ → Course → ℕ → ℕ → Answer → Course
queried a placed c r n h = if is_own a h then owned placed c r else unkept c r n h

-- ---------------------------------------------------------------- after the other transactions

abbrev pub erased : Course → Course
erased c = keep_on c stage.Closing

abbrev pub stage_spent : Stage → Stage
stage_spent (stage.Ending o) = stage.Ending o
stage_spent (stage.Ended o) = stage.Ended o
stage_spent _ = stage.Ending outcome.Spent

abbrev pub spent : Course → Course
spent c = at_stage c (stage_spent c.stage)

-- ---------------------------------------------------------------- what is true of each mending

-- THE GEAR OF A TABLE IS SPARED at a stage: no gear draw, and none with its number lose the short
-- address.
abbrev pub Spares : ℕ → Stage → Type 0
Spares r stage.Drawing = ⊥
Spares r (stage.Erasing n) = r ≢ n
Spares r _ = Unit {0}

-- Gear draw only if the table has none of them. A gear loses the short address only beside another
-- one that is to keep it, and no other number than that one's is asked.
abbrev pub IsFit : Option ℕ → Option ℕ → Stage → Type 0
IsFit table keeper stage.Drawing = table ≡ None
IsFit table keeper (stage.Erasing n) = (k : ℕ) × (keeper ≡ Some k) × (k ≢ n)
IsFit table keeper (stage.Keeping r n) = IfSome keeper (λ k. k ≡ r)
IsFit table keeper _ = Unit {0}

-- the gear that is to keep the short address is that of the table, if it has one
abbrev pub IsOfTable : Option ℕ → Option ℕ → Type 0
IsOfTable (Some r) keeper = keeper ≡ Some r
IsOfTable None keeper = Unit {0}

pub record IsCourse (c : Course) : Type 0 where
  pub keeper : IsOfTable c.table c.keeper
  pub fit : IsFit c.table c.keeper c.stage
