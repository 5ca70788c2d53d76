use Rattle.std.specs.Prelude.{◌≡◌, ℕ, List, [], ◌∷◌, slice_index_or}
use Rattle.dali_script.specs.Records.{Kept}
use Rattle.dali_line.specs.declared.commits.CommitState.{CommitState}
use Rattle.dali_line.specs.declared.commits.CommitState.TheVariants.{Settled, Begun, Made}

-- HOW FAR THE WORKERS ARE WITH THEIR COMMITS, a state for each of the four controllers.

abbrev pub all_settled : List CommitState
all_settled = Settled ∷ Settled ∷ Settled ∷ Settled ∷ []

abbrev pub state_of : List CommitState → ℕ → CommitState
state_of states c = slice_index_or states c Settled

-- WHETHER A CONTROLLER MAY COME UP with a copy of records, when the site remembers `kept`. It may
-- not while its worker is at a commit. If the worker has made one and could not tell, it may not
-- come up without that record.
abbrev pub MayComeUp : CommitState → Kept → Kept → Type 0
MayComeUp Settled kept copy = Unit {0}
MayComeUp Begun kept copy = ⊥
MayComeUp Made kept copy = copy ≡ kept → ⊥
