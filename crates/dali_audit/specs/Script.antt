use Rattle.std.specs.Prelude.{ℕ, ◌+◌, List, [], ◌∷◌, ◌++◌, length, codes, decimal}
use Rattle.std.specs.Prelude.{Option, Some, None, ◌==◌, if◌then◌else◌}
use Rattle.dali_frame.specs.Hex.{random_text, forward_text}
use Rattle.dali_audit.specs.declared.places.Place.{Place}
use Rattle.dali_audit.specs.declared.comparing.Move.{Move}
use Rattle.dali_audit.specs.declared.comparing.Move.TheVariants.{On, Off, Expire, Quiet, Frame}
use Rattle.dali_audit.specs.declared.comparing.Step.{Step}
use Rattle.dali_audit.specs.declared.bench.Bench.{Bench}

-- THE LINES OF A BENCH: a line for each step
abbrev pub move_text : Move → List ℕ
move_text (On k) = codes "on " ++ (decimal k ++ codes "\n")
move_text (Off k) = codes "off " ++ (decimal k ++ codes "\n")
move_text (Expire k) = codes "expire " ++ (decimal k ++ codes "\n")
move_text Quiet = codes "quiet\n"
move_text (Frame f heard) = codes "frame " ++ (forward_text f ++ codes "\n")

abbrev pub step_text : Step → List ℕ
step_text s = move_text s.what

abbrev pub steps_text : List Step → List ℕ
steps_text [] = []
steps_text (s ∷ ss) = step_text s ++ steps_text ss

-- gear that had a short address, from number k on
abbrev pub used_line : ℕ → ℕ → Option ℕ → List ℕ
used_line k r None = []
used_line k r (Some a) =
    codes "used "
    ++ (decimal k
    ++ (codes " " ++ (decimal a ++ (codes " " ++ (random_text r ++ codes "\n")))))

abbrev pub used_text : ℕ → Place → List ℕ
used_text k p = used_line k p.random p.short

abbrev pub all_used_text : ℕ → List Place → List ℕ
all_used_text k [] = []
all_used_text k (p ∷ ps) = used_text k p ++ all_used_text (k + 1) ps

-- the numbers that gear draw
abbrev pub draws_text : List ℕ → List ℕ
draws_text [] = []
draws_text (r ∷ rs) = (codes " " ++ random_text r) ++ draws_text rs

-- A BENCH AS A SCRIPT. A script has one gear at least: if none is known, that one has no power.
abbrev pub gear_head : List Place → List ℕ → List ℕ
gear_head ps rs =
    codes "bench "
    ++ (decimal (length ps)
    ++ (codes "\ndraws" ++ (draws_text rs ++ (codes "\n" ++ all_used_text 0 ps))))

abbrev pub bench_head : List Place → List ℕ → List ℕ
bench_head ps rs =
    if length ps == 0 then codes "bench 1\ndraws\noff 0\n" else gear_head ps rs

abbrev pub script_text : Bench → List ℕ
script_text b = bench_head b.places.items b.draws ++ steps_text b.steps.items
