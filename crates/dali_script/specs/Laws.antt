use Rattle.std.specs.Prelude.{◌≡◌, ℕ, ◌<◌, ◌↔◌, ◌⊎◌, true, false, List, [], ◌∷◌, ◌++◌, Option, Some}
use Rattle.std.specs.Prelude.{length}
use Rattle.dali_frame.specs.declared.frames.Forward.{Forward}
use Rattle.dali_frame.specs.declared.numbers.SearchAddress.{SearchAddress}
use Rattle.dali_special.specs.declared.command.Target.{Target}
use Rattle.dali_special.specs.declared.command.Target.TheVariants.{Unaddressed}
use Rattle.dali_special.specs.declared.command.Part.TheVariants.{High}
use Rattle.dali_special.specs.declared.command.Command.{Command}
use Rattle.dali_special.specs.declared.command.Command.TheVariants.{Terminate, Initialise}
use Rattle.dali_special.specs.declared.command.Command.TheVariants.{Randomise, Compare, Withdraw}
use Rattle.dali_special.specs.declared.command.Command.TheVariants.{SearchHigh, Program, QueryShort}
use Rattle.dali_special.specs.declared.command.Command.TheVariants.{RandomByte, Arc}
use Rattle.dali_special.specs.Command.{command_of}
use Rattle.dali_script.specs.declared.block.Block.{Block}
use Rattle.dali_script.specs.declared.trace.Entry.{Entry}
use Rattle.dali_script.specs.declared.records.Record.{Record}
use Rattle.dali_script.specs.declared.stage.Stage.{Stage}
use Rattle.dali_script.specs.declared.stage.Stage.TheVariants.{Free, Terminated, InitialisedOnce}
use Rattle.dali_script.specs.declared.stage.Stage.TheVariants.{Initialised, RandomisedOnce}
use Rattle.dali_script.specs.declared.stage.Stage.TheVariants.{NumberSent, Found, Unnamed}
use Rattle.dali_script.specs.declared.stage.Stage.TheVariants.{Programmed, Confirmed}
use Rattle.dali_script.specs.Records.{Assignment, Kept, Has, HasAddress, IsMap, IsKept, Fits}
use Rattle.dali_script.specs.Records.{MayAdd, address_of, without_records, with_record}
use Rattle.dali_script.specs.Scripts.{Lawful, IsFirst, MayGive, IsComplete, GoesOn}
use Rattle.dali_script.specs.Findings.{search_after, search_of, asked_after, asked_of}
use Rattle.dali_script.specs.Findings.{found_by, later, finding_of}
use Rattle.dali_script.specs.Stages.{Follows, follows, may_follow, next_stage, stage_of, finding_at}
use Rattle.dali_script.specs.Stages.{IsSearched, IsAsked, IsHunting, IsBeforeDraw, IsDoubting}

-- What a front of a script says, in the words that a site and a machine use. Each is proved: see
-- the module `laws`.

-- A frame may follow a trace exactly if its command follows at the stage of the trace.
pub record LawfulFramesFollowAtTheStage : Type 0 where
  pub at_stage : (b : Block) (xs : List Assignment) (t : List Entry) (f : Forward) → Lawful b xs t f
      → Follows b xs (stage_of t) (command_of f)
  pub from_stage : (b : Block) (xs : List Assignment) (t : List Entry) (f : Forward)
      → Follows b xs (stage_of t) (command_of f) → Lawful b xs t f
  pub as_test : (b : Block) (xs : List Assignment) (s : Stage) (c : Command)
      → (follows b xs s c ≡ true) ↔ Follows b xs s c

-- The stage, the search address, what queries of a random address were heard as, and the finding of
-- a trace with one more frame.
pub record TracesGrowByAFrame : Type 0 where
  pub none : stage_of [] ≡ Free
  pub free : (t : List Entry) → stage_of t ≡ Free → t ≡ []
  pub stage : (t : List Entry) (e : Entry)
      → stage_of (t ++ e ∷ []) ≡ next_stage (stage_of t) (command_of e.frame) e.heard
  pub search : (t : List Entry) (e : Entry)
      → search_of (t ++ e ∷ []) ≡ search_after (command_of e.frame) (search_of t)
  pub asked : (t : List Entry) (e : Entry)
      → asked_of (t ++ e ∷ []) ≡ asked_after (command_of e.frame) e.heard (asked_of t)
  pub found : (t : List Entry) (e : Entry)
      → finding_of (t ++ e ∷ [])
      ≡ later (finding_of t) (found_by (search_of t) (asked_of t) (command_of e.frame) e.heard)

-- The stage of a lawful trace has the search address and the finding of the trace, before and after
-- a lawful frame.
pub record StagesSayWhatWasSentAndFound : Type 0 where
  pub search : (b : Block) (xs : List Assignment) (t : List Entry) (f : Forward) → Lawful b xs t f
      → IsSearched (stage_of t) (search_of t)
  pub asked : (b : Block) (xs : List Assignment) (t : List Entry) (f : Forward) → Lawful b xs t f
      → IsAsked (stage_of t) (asked_of t)
  pub found : (b : Block) (xs : List Assignment) (t : List Entry) (f : Forward) → Lawful b xs t f
      → finding_of t ≡ finding_at (stage_of t)
  pub searched_after : (b : Block) (xs : List Assignment) (t : List Entry) (e : Entry)
      → Lawful b xs t e.frame → IsSearched (stage_of (t ++ e ∷ [])) (search_of (t ++ e ∷ []))
  pub finding_after : (b : Block) (xs : List Assignment) (t : List Entry) (e : Entry)
      → Lawful b xs t e.frame → finding_of (t ++ e ∷ []) ≡ finding_at (stage_of (t ++ e ∷ []))

-- A transaction begins with TERMINATE, SEARCHADDRH, QUERY RANDOM ADDRESS (H) or direct arc power,
-- and none of these comes later in one, but SEARCHADDRH: directly after the second INITIALISE, and
-- as a question of a hunt or a roll call.
pub record TransactionsBeginOnce : Type 0 where
  pub begins : (b : Block) (xs : List Assignment) (f : Forward) → Lawful b xs [] f ↔ IsFirst f
  pub first : (f : Forward)
      → IsFirst f ↔ ((command_of f ≡ Terminate)
      ⊎ (((high : ℕ) × (command_of f ≡ SearchHigh high))
      ⊎ (((g : Forward) × (command_of f ≡ Arc g))
      ⊎ ((a : ℕ) × (command_of f ≡ RandomByte a High)))))
  pub terminate : (b : Block) (xs : List Assignment) (t : List Entry) (f : Forward)
      → Lawful b xs t f → command_of f ≡ Terminate → t ≡ []
  pub search_high : (b : Block) (xs : List Assignment) (t : List Entry) (f : Forward) (high : ℕ)
      → Lawful b xs t f → command_of f ≡ SearchHigh high
      → (t ≡ []) ⊎ (IsHunting (stage_of t) ⊎ (stage_of t ≡ Initialised))
  pub arc : (b : Block) (xs : List Assignment) (t : List Entry) (f g : Forward) → Lawful b xs t f
      → command_of f ≡ Arc g → t ≡ []
  pub random_high : (b : Block) (xs : List Assignment) (t : List Entry) (f : Forward) (a : ℕ)
      → Lawful b xs t f → command_of f ≡ RandomByte a High → t ≡ []

-- INITIALISE, for gear without short address alone, and RANDOMISE come only after TERMINATE, in an
-- opening.
pub record OpeningsBeginWithTerminate : Type 0 where
  pub initialise : (b : Block) (xs : List Assignment) (t : List Entry) (f : Forward) (g : Target)
      → Lawful b xs t f → command_of f ≡ Initialise g
      → (g ≡ Unaddressed) × ((stage_of t ≡ Terminated) ⊎ (stage_of t ≡ InitialisedOnce))
  pub randomise : (b : Block) (xs : List Assignment) (t : List Entry) (f : Forward)
      → Lawful b xs t f → command_of f ≡ Randomise
      → IsBeforeDraw (stage_of t) ⊎ (stage_of t ≡ RandomisedOnce)

-- COMPARE, QUERY SHORT ADDRESS, PROGRAM SHORT ADDRESS and WITHDRAW come only after all three search
-- commands, but the COMPARE of a draw after the first two; PROGRAM of an address only if gear
-- without short address answered, and with what may be given to their number.
pub record GearAreSearchedAnew : Type 0 where
  pub compare : (b : Block) (xs : List Assignment) (t : List Entry) (f : Forward) → Lawful b xs t f
      → command_of f ≡ Compare
      → ((r : SearchAddress) × (stage_of t ≡ NumberSent r))
      ⊎ (IsHunting (stage_of t) ⊎ IsDoubting (stage_of t))
  pub query : (b : Block) (xs : List Assignment) (t : List Entry) (f : Forward) → Lawful b xs t f
      → command_of f ≡ QueryShort
      → (r : SearchAddress)
      × ((stage_of t ≡ NumberSent r) ⊎ ((a : ℕ) × (stage_of t ≡ Programmed r a) × MayGive b xs r a))
  pub program : (b : Block) (xs : List Assignment) (t : List Entry) (f : Forward) (o : Option ℕ)
      → Lawful b xs t f → command_of f ≡ Program o
      → (a : ℕ) × (r : SearchAddress) × (o ≡ Some a) × (stage_of t ≡ Unnamed r) × MayGive b xs r a
  pub withdraw : (b : Block) (xs : List Assignment) (t : List Entry) (f : Forward) → Lawful b xs t f
      → command_of f ≡ Withdraw
      → (r : SearchAddress)
      × ((stage_of t ≡ NumberSent r)
      ⊎ ((a : ℕ) × ((stage_of t ≡ Found r a) ⊎ ((stage_of t ≡ Confirmed r a) × MayGive b xs r a))))

-- No script has more than eight frames; and if the test says so, no frame may follow, else one
-- may.
pub record TransactionsEnd : Type 0 where
  pub room : (b : Block) (xs : List Assignment) (t : List Entry) (f : Forward) → Lawful b xs t f
      → length t < 8
  pub complete : (b : Block) (xs : List Assignment) (t : List Entry)
      → may_follow b xs (stage_of t) ≡ false → IsComplete b xs t
  pub goes_on : (b : Block) (xs : List Assignment) (t : List Entry)
      → ((a : ℕ) → HasAddress xs a → a < 64) → may_follow b xs (stage_of t) ≡ true → GoesOn b xs t

-- What holds of all records that are kept holds of none, and of one more that fits and may be
-- added; and a number has one address.
pub record RecordsStayKept : Type 0 where
  pub none : (b : Block) → IsKept (without_records b)
  pub more : (k : Kept) (x : Record) → IsKept k → Fits k.block x → address_of x < 64 → MayAdd k x
      → IsKept (with_record k x)
  pub one_address : (xs : List Assignment) (a c n : ℕ) → IsMap xs → Has xs (a, n) → Has xs (c, n)
      → a ≡ c
