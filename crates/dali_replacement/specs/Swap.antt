use Rattle.std.specs.Prelude.{◌≡◌, ℕ, ◌+◌, ◌-◌, ◌*◌, ◌/◌, ◌%◌, ◌==◌, nat_lt, nat_le, ◌&&◌, ◌||◌}
use Rattle.std.specs.Prelude.{true, false, if◌then◌else◌, List, [], ◌∷◌, Option, Some, None}
use Rattle.dali_replacement.specs.declared.swap.Lies.{Lies}
use Rattle.dali_replacement.specs.declared.swap.Step.{Step}
use Rattle.dali_replacement.specs.declared.swap.Step.TheVariants.{Announce, SetAside, Place}
use Rattle.dali_replacement.specs.declared.swap.Step.TheVariants.{Forget}

-- THE MOMENTS OF A SWAP of n files. At moment 0 nothing is begun. First the journal of each file is
-- written. Then of one file after the other the old one is set aside, and the new one is put in its
-- place: so old file i is due at moment n + 2 i, and new file i one moment later. In the end each
-- journal is removed. At moment 4 n all is done.

-- WHAT LIES THERE of the file with number i
abbrev pub lies_at : ℕ → ℕ → ℕ → Lies
lies_at n m i = record {
  journal = nat_lt i m && nat_le m (3 * n + i);
  new = nat_lt m (n + 2 * i + 2);
  at = nat_le m (n + 2 * i) || nat_le (n + 2 * i + 2) m;
  kept = nat_lt (n + 2 * i) m;
}

-- this lies there of the files from number i on
abbrev pub AreAt : ℕ → ℕ → ℕ → List Lies → Type 0
AreAt n m i [] = Unit {0}
AreAt n m i (lies ∷ more) = (lies ≡ lies_at n m i) × AreAt n m (i + 1) more

-- THE STEP that leads from a moment to the next one
abbrev pub moving : ℕ → Step
moving moved = if moved % 2 == 0 then SetAside (moved / 2) else Place (moved / 2)

abbrev pub step_after : ℕ → ℕ → Option Step
step_after n m =
    if nat_lt m n
    then Some (Announce m)
    else if nat_lt m (3 * n)
    then Some (moving (m - n))
    else if nat_lt m (4 * n)
    then Some (Forget (m - 3 * n))
    else None

-- WHAT A STEP DOES to what lies there of its file
abbrev pub file_of : Step → ℕ
file_of (Announce i) = i
file_of (SetAside i) = i
file_of (Place i) = i
file_of (Forget i) = i

abbrev pub done : Step → Lies → Lies
done (Announce i) lies = record lies { journal = true }
done (SetAside i) lies = record lies { at = false; kept = true }
done (Place i) lies = record lies { at = true; new = false }
done (Forget i) lies = record lies { journal = false }

-- the old file is in its place, or the new one is
abbrev pub IsOld : Lies → Type 0
IsOld lies = (lies.at ≡ true) × (lies.new ≡ true) × (lies.kept ≡ false)

abbrev pub IsNew : Lies → Type 0
IsNew lies = (lies.at ≡ true) × (lies.new ≡ false) × (lies.kept ≡ true)
