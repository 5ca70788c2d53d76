use Rattle.std.specs.Prelude.{ℕ, List, Bool, true, false, Option, bytes_eq, codes}
use Rattle.std.specs.Prelude.{if◌then◌else◌, option_map}
use Rattle.dali_grammar.specs.Lines.{none_of, one_of}
use Rattle.dali_grammar.specs.Numbers.{number_in}

-- THE LINES THAT BENCHES AND SITES HAVE IN COMMON, by what each asks for there; and what any other
-- line asks for
abbrev pub gear_line : {A : Type 0} → (Bool → ℕ → A) → (ℕ → A) → A → A → List ℕ → List (List ℕ)
    → Option A → Option A
gear_line power expire quiet show name words other =
    if bytes_eq name (codes "off") then option_map (λ g. power false g) (one_of number_in words)
    else if bytes_eq name (codes "on") then option_map (λ g. power true g) (one_of number_in words)
    else if bytes_eq name (codes "expire") then option_map (λ g. expire g) (one_of number_in words)
    else if bytes_eq name (codes "quiet") then none_of quiet words
    else if bytes_eq name (codes "show") then none_of show words
    else other
