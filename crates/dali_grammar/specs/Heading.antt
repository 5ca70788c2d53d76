use Rattle.std.specs.Prelude.{ℕ, List, [], ◌∷◌, length, Bool, true, false, Option, None}
use Rattle.std.specs.Prelude.{bytes_eq, codes, nat_le, if◌then◌else◌, option_map, option_and_then}
use Rattle.dali_frame.specs.Hex.{random_of}
use Rattle.dali_events.specs.declared.used.Used.{Used}
use Rattle.dali_grammar.specs.declared.heading.Heading as code
use Rattle.dali_grammar.specs.Lines.{one_of, two_of}
use Rattle.dali_grammar.specs.Numbers.{number_in, number_to, randoms_of, blocks_of}

-- THE FIRST LINE: a bench of so many gear, or a site of so many gear and with a block for each
-- controller. A bench is planned as a site of one controller, which does nothing.
pub record Heading : Type 0 where
  pub is_bench : Bool
  pub gear : ℕ
  pub blocks : List (ℕ × ℕ)

-- what the code has of the first line, with its blocks as a list
abbrev pub shown : code.Heading → Heading
shown h = record { is_bench = h.is_bench; gear = h.gear; blocks = h.blocks.items }

abbrev pub bench_heading : ℕ → Heading
bench_heading gear = record { is_bench = true; gear = gear; blocks = (0, 0) ∷ [] }

abbrev pub site_heading : ℕ → List (ℕ × ℕ) → Heading
site_heading gear blocks = record { is_bench = false; gear = gear; blocks = blocks }

-- `site N BLOCK..`
abbrev pub site_of : List (List ℕ) → Option Heading
site_of [] = None
site_of (word ∷ words) =
    option_and_then (λ n. option_map (site_heading n) (blocks_of words)) (number_in word)

-- `bench N`, or a site
abbrev pub heading_of : List (List ℕ) → Option Heading
heading_of [] = None
heading_of (name ∷ words) =
    if bytes_eq name (codes "bench") then option_map bench_heading (one_of number_in words)
    else if bytes_eq name (codes "site") then site_of words
    else None

-- THE SECOND LINE: `draws HHHHHH ..`, at most 1,024 of them
abbrev pub drawn_of : List (List ℕ) → Option (List ℕ)
drawn_of words = if nat_le (length words) 1024 then randoms_of words else None

abbrev pub draws_of : List (List ℕ) → Option (List ℕ)
draws_of [] = None
draws_of (name ∷ words) = if bytes_eq name (codes "draws") then drawn_of words else None

-- FURTHER LINES: `used G A RRRRRR` for each gear that comes with a short address and a random one
abbrev pub is_used_line : List (List ℕ) → Bool
is_used_line [] = false
is_used_line (name ∷ words) = bytes_eq name (codes "used")

abbrev pub used_words : List (List ℕ) → Option Used
used_words [] = None
used_words (word ∷ words) =
    option_and_then (λ g. option_map (λ x. record { gear = g; short = x.0; random = x.1 })
    (two_of (number_to 63) random_of words)) (number_in word)

abbrev pub used_line_of : List (List ℕ) → Option Used
used_line_of [] = None
used_line_of (name ∷ words) = used_words words
