use Rattle.std.specs.Prelude.{ℕ, List, [], ◌∷◌, Option, Some, option_and_then, is_some}
use Rattle.std.specs.Prelude.{if◌then◌else◌}
use Rattle.std.specs.Result.{result_ok}
use Rattle.dali_frame.specs.Hex.{forward_of}
use Rattle.dali_frame.specs.declared.frames.Forward.{Forward}
use Rattle.dali_events.specs.Troubles.{nobody_at_all, trouble_named, destroying_named}
use Rattle.dali_events.specs.declared.trouble.Trouble.{Trouble}
use Rattle.dali_events.specs.declared.trouble.Trouble.TheVariants as trouble
use Rattle.dali_grammar.specs.Lines.{none_of, one_of}
use Rattle.dali_grammar.specs.Numbers.{set_of}

-- a frame
abbrev pub frame_of : List ℕ → Option Forward
frame_of word = result_ok (forward_of word)

-- the words of a trouble: none; the name of one; or a name, and the set of gear that take the frame
-- all the same
abbrev pub trouble_of : List (List ℕ) → Option Trouble
trouble_of [] = Some trouble.None
trouble_of (word ∷ words) =
    if is_some (destroying_named word nobody_at_all)
    then option_and_then (destroying_named word) (one_of set_of words)
    else option_and_then (λ t. none_of t words) (trouble_named word)
