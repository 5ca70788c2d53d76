use Rattle.std.specs.Prelude.{ℕ, List, [], ◌∷◌, Bool, true, false, Option, None, bytes_eq, codes}
use Rattle.std.specs.Prelude.{if◌then◌else◌, option_map}
use Rattle.dali_grammar.specs.declared.bench_line.BenchLine.{BenchLine}
use Rattle.dali_grammar.specs.declared.bench_line.BenchLine.TheVariants.{Frame, Off, On, Expire}
use Rattle.dali_grammar.specs.declared.bench_line.BenchLine.TheVariants.{Quiet, Show}
use Rattle.dali_grammar.specs.Lines.{one_of}
use Rattle.dali_grammar.specs.GearLine.{gear_line}
use Rattle.dali_grammar.specs.Words.{frame_of}

abbrev pub powered : Bool → ℕ → BenchLine
powered false g = Off g
powered true g = On g

-- THE LINES OF A BENCH, by their first word and those that follow
abbrev pub bench_line : List ℕ → List (List ℕ) → Option BenchLine
bench_line name words =
    if bytes_eq name (codes "frame") then option_map (λ f. Frame f) (one_of frame_of words)
    else gear_line powered (λ g. Expire g) Quiet Show name words None

-- what a line of these words asks for on a bench
abbrev pub bench_line_of : List (List ℕ) → Option BenchLine
bench_line_of [] = None
bench_line_of (name ∷ words) = bench_line name words
