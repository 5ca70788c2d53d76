use Rattle.std.specs.Prelude.{◌≡◌, ℕ, zero, suc, Bool, true, false}
use Rattle.dali_replacement.specs.declared.swapping.Swap.{Swap}
use Rattle.dali_commission_stores.specs.Calls.{Call, Look}
use Rattle.dali_commission_stores.specs.Settled.{IsSettled, IsExchanged}
use Rattle.dali_folder_laws.specs.Folder.{Folder, IsSame, IsAfter, Leaves, IsTrueOf}
use Rattle.dali_folder_laws.specs.Moments.{Files, IsBefore, IsBehind}

-- A PROGRAM IN ITS FOLDER: whether it runs still. Once it is stopped, none of its calls does
-- anything.
pub record Program : Type 0 where
  pub runs : Bool
  pub folder : Folder

abbrev pub starting : Folder → Program
starting x = record { runs = true; folder = x }

-- A CALL IS MADE: it ends well, or the program is stopped within it, which leaves this; or the
-- program was stopped before
abbrev pub HasMade : Bool → Bool → Folder → Folder → Call → Type 0
HasMade true true x y call = IsAfter call x y
HasMade true false x y call = Leaves call x y
HasMade false true x y call = ⊥
HasMade false false x y call = IsSame x y

abbrev pub Makes : Program → Program → Call → Type 0
Makes x y call = HasMade x.runs y.runs x.folder y.folder call

-- what a program sees is true as long as it runs
abbrev pub Sees : Program → Look → Type 0
Sees x look = x.runs ≡ true → IsTrueOf look x.folder

-- AN EXCHANGE by a program, and one that settles it: both may be stopped
abbrev pub Exchanges : Swap → Folder → Program → Type 0
Exchanges swap x y = IsExchanged Makes Sees swap (starting x) y

abbrev pub Settles : Swap → Folder → Program → Bool → Type 0
Settles swap x y done = IsSettled Makes Sees swap (starting x) y done

-- SO MANY PROGRAMS, each of which settles it, one after the other
abbrev pub SettleOften : Swap → ℕ → Folder → Folder → Type 0
SettleOften swap zero x y = IsSame x y
SettleOften swap (suc more) x y =
    (z : Program)
    × (done : Bool)
    × Settles swap x z done
    × SettleOften swap more z.folder y

-- HOW IT ENDS: the files are exchanged, or they are not
abbrev pub ended_as : Swap → Files → Bool → Folder → Type 0
ended_as swap files true x = IsBehind swap files x
ended_as swap files false x = IsBefore swap files x
