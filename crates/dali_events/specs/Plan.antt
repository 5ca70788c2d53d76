use Rattle.std.specs.Prelude.{◌≡◌, ℕ, ◌<◌, List, [], ◌∷◌, ◌++◌, length, Bool, false, Option, Some}
use Rattle.std.specs.Prelude.{None, ◌==◌, ◌||◌, ◌&&◌, nat_lt, nat_le, map, slice_index_or}
use Rattle.std.specs.Prelude.{if◌then◌else◌}
use Rattle.std.specs.List.{list_any}
use Rattle.dali_frame.specs.Random.{MASK24}
use Rattle.dali_script.specs.declared.block.Block.{Block}
use Rattle.dali_script.specs.Records.{InBlock, IsOnce, Has}
use Rattle.dali_events.specs.declared.plan.PlanError.{PlanError}
use Rattle.dali_events.specs.declared.plan.PlanError.TheVariants.{NoMemory, GearCount}
use Rattle.dali_events.specs.declared.plan.PlanError.TheVariants.{ControllerCount, BlockOrder}
use Rattle.dali_events.specs.declared.plan.PlanError.TheVariants.{BlockOverlap, DrawTooLarge}
use Rattle.dali_events.specs.declared.plan.PlanError.TheVariants.{DrawTwice, UnknownGear}
use Rattle.dali_events.specs.declared.plan.PlanError.TheVariants.{GearTwice, ShortTwice}
use Rattle.dali_events.specs.declared.plan.PlanError.TheVariants.{RandomTooLarge, RandomTwice}
use Rattle.dali_events.specs.declared.used.Used.{Used}
use Rattle.dali_events.specs.Used.{used_gear, used_shorts, used_randoms}

-- A site as it is planned: the number of its gear, a block of short addresses for each controller,
-- the numbers that the gear will draw, and those of its gear that are used. The numbers stand in
-- the order in which they will be drawn.
pub record Plan : Type 0 where
  pub gear : ℕ
  pub blocks : List Block
  pub draws : List ℕ
  pub used : List Used

-- the refusals' numbers
abbrev pub refusal_number : PlanError → ℕ
refusal_number NoMemory = 1
refusal_number GearCount = 2
refusal_number ControllerCount = 3
refusal_number BlockOrder = 4
refusal_number BlockOverlap = 5
refusal_number DrawTooLarge = 6
refusal_number DrawTwice = 7
refusal_number UnknownGear = 8
refusal_number GearTwice = 9
refusal_number ShortTwice = 10
refusal_number RandomTooLarge = 11
refusal_number RandomTwice = 12

-- some pair of different places of a list passes
abbrev pub any_pair : {A : Type 0} → (A → A → Bool) → List A → Bool
any_pair test [] = false
any_pair test (x ∷ xs) = list_any (test x) xs || any_pair test xs

-- a block that is none: it ends before it begins, or past the last short address
abbrev pub is_misordered : ℕ × ℕ → Bool
is_misordered b = nat_lt b.1 b.0 || nat_lt 63 b.1

-- some address lies in both blocks
abbrev pub overlap : ℕ × ℕ → ℕ × ℕ → Bool
overlap b c = nat_le b.0 c.1 && nat_le c.0 b.1

-- Why a plan is refused: the first cause that holds, of its gear, its blocks (first and last
-- address) and its numbers.
abbrev pub refusal_of : ℕ → List (ℕ × ℕ) → List ℕ → Option PlanError
refusal_of gear blocks draws =
    if nat_lt gear 1 || nat_lt 128 gear then Some GearCount
    else if nat_lt (length blocks) 1 || nat_lt 4 (length blocks) then Some ControllerCount
    else if list_any is_misordered blocks then Some BlockOrder
    else if any_pair overlap blocks then Some BlockOverlap
    else if list_any (λ draw. nat_lt 0xFFFFFE draw) draws then Some DrawTooLarge
    else if any_pair (λ draw other. draw == other) draws then Some DrawTwice
    else None

-- the plan of these, whose gear all come from the factory
abbrev pub block_of : ℕ × ℕ → Block
block_of b = record { first = b.0; last = b.1 }

abbrev pub plan_of : ℕ → List (ℕ × ℕ) → List ℕ → Plan
plan_of gear blocks draws = record {
  gear = gear;
  blocks = map block_of blocks;
  draws = draws;
  used = [];
}

-- the block of controller c
abbrev pub no_block : Block
no_block = record { first = 1; last = 0 }

abbrev pub block_at : Plan → ℕ → Block
block_at p c = slice_index_or p.blocks c no_block

-- all random addresses of the site: those that used gear have, and those that will be drawn
abbrev pub numbers_of : Plan → List ℕ
numbers_of p = used_randoms p.used ++ p.draws

-- What used gear have: each of them is there and stands once, and their short addresses are all
-- different. So are all random addresses, those that they have and those that will be drawn.
pub record AreUsed (p : Plan) : Type 0 where
  pub gear_once : IsOnce (used_gear p.used)
  pub there : (g : ℕ) → Has (used_gear p.used) g → g < p.gear
  pub short_once : IsOnce (used_shorts p.used)
  pub short : (a : ℕ) → Has (used_shorts p.used) a → a < 64
  pub random_once : IsOnce (numbers_of p)
  pub random_below : (r : ℕ) → Has (used_randoms p.used) r → r < MASK24

-- What a plan that is not refused has, in the words that the laws use.
pub record IsPlan (p : Plan) : Type 0 where
  -- no address lies in the blocks of two controllers
  pub apart : (c d a : ℕ) → c < length p.blocks → d < length p.blocks → InBlock (block_at p c) a
      → InBlock (block_at p d) a → c ≡ d
  -- each block has short addresses alone
  pub short : (c a : ℕ) → c < length p.blocks → InBlock (block_at p c) a → a < 64
  -- no number is drawn twice on the site
  pub draws_once : IsOnce p.draws
  -- and none is FFFFFF
  pub draws_below : (r : ℕ) → Has p.draws r → r < MASK24
  -- and so are used gear
  pub used : AreUsed p

-- what a refusal says: its cause, or no cause if memory was wanting
abbrev pub IsRefusal : ℕ → List (ℕ × ℕ) → List ℕ → PlanError → Type 0
IsRefusal gear blocks draws NoMemory = refusal_of gear blocks draws ≡ None
IsRefusal gear blocks draws e = refusal_of gear blocks draws ≡ Some e

-- ---------------------------------------------------------------- used gear

-- Why used gear are refused to a plan: the first cause that holds, of their numbers on the site,
-- their short addresses and their random addresses.
abbrev pub used_refusal_of : Plan → List Used → Option PlanError
used_refusal_of p us =
    if list_any (λ u. nat_le p.gear u.gear) us then Some UnknownGear
    else if any_pair (λ u v. u.gear == v.gear) us then Some GearTwice
    else if any_pair (λ u v. u.short == v.short) us then Some ShortTwice
    else if list_any (λ u. nat_lt 0xFFFFFE u.random) us then Some RandomTooLarge
    else if any_pair (λ u v. u.random == v.random) us then Some RandomTwice
    else if list_any (λ u. list_any (λ draw. u.random == draw) p.draws) us then Some RandomTwice
    else None

-- the plan with these used gear
abbrev pub plan_with : Plan → List Used → Plan
plan_with p us = record { gear = p.gear; blocks = p.blocks; draws = p.draws; used = us }

abbrev pub IsUsedRefusal : Plan → List Used → PlanError → Type 0
IsUsedRefusal p us NoMemory = used_refusal_of p us ≡ None
IsUsedRefusal p us e = used_refusal_of p us ≡ Some e
