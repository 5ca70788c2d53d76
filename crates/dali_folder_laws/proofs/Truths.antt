use Rattle.std.proofs.Common.{◌≡◌, ℕ, ◌+◌, ◌*◌, ◌<◌, ◌⊎◌, inl, inr, Bool, true, false, List, Option, None, refl, sym, ◌∙◌, arith}
use Rattle.std.specs.Prelude.{nat_lt, nat_le, ◌&&◌, ◌||◌}
use Rattle.std.proofs.lemmas.Bool.Decides.{nat_tests}
use Rattle.dali_replacement.specs.declared.swapping.Swap.{Swap}
use Rattle.dali_replacement.specs.Swap.{lies_at, IsOld, IsNew}
use Rattle.dali_replacement.proofs.Moments.{old, new, one, begun, ended}
use Rattle.dali_commission_stores.specs.Settling.{count_of}
use Rattle.dali_folder_laws.specs.Folder.{Folder}
use Rattle.dali_folder_laws.specs.Moments.{Part, Itself, New, Journal, Old, IsPart, Files, AreSo, before, after}
use Rattle.dali_folder_laws.specs.Moments.{IsBefore, IsBehind, if_there, at_moment, IsAt, AllOld}
use Rattle.dali_folder_laws.specs.Moments.{AllNew, AllAnnounced}

so : (swap : Swap) (files : Files) (has had : ℕ → Part → Option (List ℕ)) (x : Folder) → ((i : ℕ) (p : Part) → i < count_of swap → had i p ≡ has i p)
    → AreSo swap files had x → AreSo swap files has x
so swap files has had x same is = record {
  parts = λ i p at inside part. is.parts i p at inside part ∙ same i p inside;
  others = is.others;
}

-- BEFORE AN EXCHANGE it is at its first moment, after it at its last one
first : (swap : Swap) (files : Files) (i : ℕ) (p : Part) → i < count_of swap → at_moment swap files 0 i p ≡ before files i p
first swap files i Itself inside = let is = old (count_of swap) 0 i (omega arith) in rw (is.0, is.1) refl
first swap files i New inside = let is = old (count_of swap) 0 i (omega arith) in rw (is.1) refl
first swap files i Journal inside = rw (begun (count_of swap) i inside) refl
first swap files i Old inside = let is = old (count_of swap) 0 i (omega arith) in rw (is.2) refl

last : (swap : Swap) (files : Files) (i : ℕ) (p : Part) → i < count_of swap → at_moment swap files (4 * count_of swap) i p ≡ after files i p
last swap files i Itself inside = let is = new (count_of swap) (4 * count_of swap) i inside (omega arith) in rw (is.0, is.1) refl
last swap files i New inside = let is = new (count_of swap) (4 * count_of swap) i inside (omega arith) in rw (is.1) refl
last swap files i Journal inside = rw (ended (count_of swap) i inside) refl
last swap files i Old inside = let is = new (count_of swap) (4 * count_of swap) i inside (omega arith) in rw (is.2) refl

pub at_first : (swap : Swap) (files : Files) (x : Folder) → IsBefore swap files x → IsAt swap files 0 x
at_first swap files x is = so swap files _ _ x (λ i p inside. sym (first swap files i p inside)) is

pub from_first : (swap : Swap) (files : Files) (x : Folder) → IsAt swap files 0 x → IsBefore swap files x
from_first swap files x is = so swap files _ _ x (first swap files) is

pub from_last : (swap : Swap) (files : Files) (x : Folder) → IsAt swap files (4 * count_of swap) x → IsBehind swap files x
from_last swap files x is = so swap files _ _ x (last swap files) is

-- NO FILE IS MISSING while one has no journal beside it
not_there : (b : Bool) (it : List ℕ) → if_there b it ≡ None → b ≡ false
not_there false it none = refl
not_there true it some = absurd (cc)

moving : (n m i j : ℕ) → i < n → j < n → (nat_le m (n + 2 * i) || nat_le (n + 2 * i + 2) m) ≡ false → (nat_lt j m && nat_le m (3 * n + j)) ≡ true
moving n m i j inside within none = grind (arith, nat_tests)

pub missing : (swap : Swap) (files : Files) (m i : ℕ) (at : List ℕ) (x : Folder) → IsAt swap files m x → i < count_of swap → IsPart swap i Itself at
    → x at ≡ None → AllAnnounced swap x
missing swap files m i at x is inside part none j other within journal =
    let gone = not_there _ _ (sym (is.parts i Itself at inside part) ∙ none) in
    is.parts j Journal other within journal ∙ rw (moving (count_of swap) m i j inside within gone) refl

-- and if one has none, each is old, or each is new
all_old : (swap : Swap) (files : Files) (m : ℕ) (x : Folder) → IsAt swap files m x → ((j : ℕ) → j < count_of swap → IsOld (lies_at (count_of swap) m j))
    → AllOld swap files x
all_old swap files m x is old j at within part = let lies = old j within in is.parts j Itself at within part ∙ rw (lies.0, lies.1) refl

all_new : (swap : Swap) (files : Files) (m : ℕ) (x : Folder) → IsAt swap files m x → ((j : ℕ) → j < count_of swap → IsNew (lies_at (count_of swap) m j))
    → AllNew swap files x
all_new swap files m x is new j at within part = let lies = new j within in is.parts j Itself at within part ∙ rw (lies.0, lies.1) refl

pub truth : (swap : Swap) (files : Files) (m i : ℕ) (at : List ℕ) (x : Folder) → IsAt swap files m x → i < count_of swap → IsPart swap i Journal at
    → x at ≡ None → AllOld swap files x ⊎ AllNew swap files x
truth swap files m i at x is inside part none =
    elim (one (count_of swap) m i inside (not_there _ _ (sym (is.parts i Journal at inside part) ∙ none))) [
      | inl old ↦ inl (all_old swap files m x is old)
      | inr new ↦ inr (all_new swap files m x is new)
    ]
