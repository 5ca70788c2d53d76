use Rattle.std.specs.Prelude.{◌≡◌, ℕ, List, [], ◌∷◌, map, bytes_eq, string_bytes, if◌then◌else◌}
use Rattle.std.specs.List.{flat_map}
use Rattle.std.specs.Option.{option_map_or}
use Rattle.std.specs.declared.string.String.{String}
use Rattle.clap.specs.declared.parser.matches.ArgMatches.{ArgMatches}
use Rattle.clap.specs.Words.{found_of, raw_values, matched_of}
use Rattle.dali_words.specs.declared.line.LineFault.{LineFault}
use Rattle.dali_words.specs.declared.line.LineFault.TheVariants.{Value, Conflict, Memory}
use Rattle.dali_words.specs.declared.program.Word.{Word}

-- what stands on a line of a word: its name, and one of its values
abbrev pub pair_of : {Z : Type 0} → String Z × String Z → List ℕ × List ℕ
pair_of v = (string_bytes v.0, string_bytes v.1)

-- THE VALUES OF A WORD on a line, in their order
abbrev pub values_of : {Z : Type 0} → List ℕ → List (String Z × String Z) → List (List ℕ)
values_of name [] = []
values_of name (v ∷ vs) =
    if bytes_eq (string_bytes v.0) name
    then string_bytes v.1 ∷ values_of name vs
    else values_of name vs

-- WHAT `clap` FOUND of a word, and of all words of a subcommand in their order
abbrev pub found_under : ArgMatches → List ℕ → List (List ℕ × List ℕ)
found_under m name =
    option_map_or (λ a. map (λ value. (name, value)) (raw_values a)) (matched_of (found_of m) name)
    []

abbrev pub all_found : ArgMatches → List Word → List (List ℕ × List ℕ)
all_found m words = flat_map (λ w. found_under m w.name.now) words

-- a fault of one kind says this, if memory does not keep it from being said
abbrev pub IsWrongValue : List ℕ → LineFault → Type 0
IsWrongValue message (Value said) = string_bytes said ≡ message
IsWrongValue message Memory = Unit {0}
IsWrongValue message _ = ⊥

abbrev pub IsConflict : List ℕ → LineFault → Type 0
IsConflict message (Conflict said) = string_bytes said ≡ message
IsConflict message Memory = Unit {0}
IsConflict message _ = ⊥
