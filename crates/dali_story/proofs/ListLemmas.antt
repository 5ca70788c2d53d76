use Rattle.std.proofs.Common.{◌≡◌, ℕ, ◌+◌, ◌<◌, Bool, List, ◌∷◌, ◌++◌, length, get_or, drop, sym, ap, ◌∙◌}
use Rattle.std.proofs.lemmas.List.{drop_more}
use mathlib.Core.List.{append_assoc}
use Rattle.std.specs.Prelude.{slice_index_or}
use Rattle.dali_gear.specs.Gear.{Gear, fresh}
use Rattle.dali_story.specs.declared.lists.Listed.{Listed}
use Rattle.dali_story.specs.Lists.{item_of, item_text, still_first, list_from}

-- one gear more of a list
pub listed_more : (l : Listed) (is : List Gear) (old new whole : List ℕ) (first next : Bool) (n : ℕ) (gs : List Gear) (g h : Gear)
    → n < length gs → g ≡ get_or gs n fresh → h ≡ slice_index_or is n fresh
    → new ≡ old ++ item_text first (item_of l n g h) → next ≡ still_first first (item_of l n g h)
    → old ++ list_from l is first n (drop n gs) ≡ whole → new ++ list_from l is next (n + 1) (drop (n + 1) gs) ≡ whole
listed_more l is old new whole first next n gs g h here here_is after text left so_far =
    let cut : drop n gs ≡ g ∷ drop (n + 1) gs = drop_more gs n fresh here ∙ ap (λ x. x ∷ drop (n + 1) gs) (sym here_is) in
    let known = rw (cut, ← after) at so_far in
    rw (text, left, append_assoc old (item_text first (item_of l n g h)) (list_from l is (still_first first (item_of l n g h)) (n + 1) (drop (n + 1) gs))) known
