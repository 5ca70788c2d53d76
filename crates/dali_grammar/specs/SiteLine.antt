use Rattle.std.specs.Prelude.{ℕ, List, [], ◌∷◌, Option, None, bytes_eq, codes}
use Rattle.std.specs.Prelude.{if◌then◌else◌, option_map}
use Rattle.dali_grammar.specs.declared.site_line.SiteLine.{SiteLine}
use Rattle.dali_grammar.specs.declared.site_line.SiteLine.TheVariants.{Go, Store, Fail, Pump, Lapse}
use Rattle.dali_grammar.specs.declared.site_line.SiteLine.TheVariants.{Arc, Down, Up, Run, Outside}
use Rattle.dali_grammar.specs.declared.site_line.SiteLine.TheVariants.{Show, Survey}
use Rattle.dali_events.specs.declared.event.Outside.TheVariants as outside
use Rattle.dali_grammar.specs.Lines.{none_of, one_of, two_of}
use Rattle.dali_grammar.specs.GearLine.{gear_line}
use Rattle.dali_grammar.specs.Numbers.{number_in}
use Rattle.dali_grammar.specs.Words.{frame_of, trouble_of}

-- THE LINES OF A SITE, by their first word and those that follow: those of a controller alone, and
-- the others
abbrev pub controller_line : List ℕ → List (List ℕ) → Option SiteLine
controller_line name words =
    if bytes_eq name (codes "go") then option_map (λ c. Go c) (one_of number_in words)
    else if bytes_eq name (codes "survey") then option_map (λ c. Survey c) (one_of number_in words)
    else if bytes_eq name (codes "store") then option_map (λ c. Store c) (one_of number_in words)
    else if bytes_eq name (codes "fail") then option_map (λ c. Fail c) (one_of number_in words)
    else if bytes_eq name (codes "down") then option_map (λ c. Down c) (one_of number_in words)
    else if bytes_eq name (codes "up") then option_map (λ c. Up c) (one_of number_in words)
    else None

abbrev pub site_line : List ℕ → List (List ℕ) → Option SiteLine
site_line name words =
    if bytes_eq name (codes "pump") then option_map (λ t. Pump t) (trouble_of words)
    else if bytes_eq name (codes "lapse") then none_of Lapse words
    else if bytes_eq name (codes "arc")
    then option_map (λ x. Arc x.0 x.1) (two_of number_in frame_of words)
    else if bytes_eq name (codes "foreign")
    then option_map (λ f. Outside (outside.Foreign f)) (one_of frame_of words)
    else if bytes_eq name (codes "run") then option_map (λ n. Run n) (one_of number_in words)
    else
    gear_line (λ on g. Outside (outside.Power g on)) (λ g. Outside (outside.Expire g))
    (Outside outside.Quiet) Show name words
    (controller_line name words)

-- what a line of these words asks for on a site
abbrev pub site_line_of : List (List ℕ) → Option SiteLine
site_line_of [] = None
site_line_of (name ∷ words) = site_line name words
