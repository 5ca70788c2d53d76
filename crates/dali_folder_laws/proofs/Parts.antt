use Rattle.std.proofs.Common.{◌≡◌, ℕ, ◌+◌, ◌<◌, ◌⊎◌, inl, inr, List, Some, refl, ap, subst, sym, ◌∙◌, arith}
use Rattle.std.specs.Prelude.{◌≢◌}
use Rattle.std.proofs.lemmas.Option.{same_Some}
use Rattle.dali_replacement.specs.declared.swap.{Lies.Lies, Step.Step}
use Rattle.dali_replacement.specs.declared.swap.Step.TheVariants.{Announce, SetAside, Place, Forget}
use Rattle.dali_replacement.specs.declared.swapping.Swap.{Swap}
use Rattle.dali_replacement.specs.Swap.{lies_at, step_after, file_of, done}
use Rattle.dali_replacement.specs.Swapping.{number_of, swap_text}
use Rattle.dali_replacement.proofs.Moments.{within, own, others, back, others_back}
use Rattle.dali_commission_stores.specs.Calls.{Wrote, Renamed, Removed}
use Rattle.dali_commission_stores.specs.Settling.{new_at, journal_at, kept_at, IsNamed, count_of}
use Rattle.dali_folder_laws.specs.Folder.{Folder, IsSame, IsAfter}
use Rattle.dali_folder_laws.specs.Moments.{Part, Itself, New, Journal, Old, name_with, IsPart, AreApart, Files, part_of, IsAt}
use Rattle.dali_folder_laws.proofs.Times.{IsReady, ready}

-- a folder in which each name has what it had is at the same moment
pub same_at : (swap : Swap) (files : Files) (m : ℕ) (x y : Folder) → IsAt swap files m x → IsSame x y → IsAt swap files m y
same_at swap files m x y is same = record {
  parts = λ i p at inside part. same at ∙ is.parts i p at inside part;
  others = λ at none. same at ∙ is.others at none;
}

equal_or_not : (i k : ℕ) → (i ≡ k) ⊎ (i ≢ k)
equal_or_not i k = grind (arith)

-- what the parts of a file have, by what lies there of it
abbrev pub HasParts : Swap → Files → ℕ → Lies → Folder → Type 0
HasParts swap files k lies x =
    (p : Part) (at : List ℕ) → IsPart swap k p at → x at ≡ part_of lies (swap_text swap) (files.old k) (files.new k) p

-- A FOLDER GOES FROM ONE MOMENT TO ANOTHER when the parts of one file do, and no other name changes
pub moved : (swap : Swap) (files : Files) (m l k : ℕ) (x y : Folder) → AreApart swap → IsAt swap files m x
    → HasParts swap files k (lies_at (count_of swap) l k) y
    → ((at : List ℕ) → ((p : Part) → IsPart swap k p at → ⊥) → y at ≡ x at)
    → ((i : ℕ) → i < count_of swap → i ≢ k → lies_at (count_of swap) l i ≡ lies_at (count_of swap) m i)
    → k < count_of swap → IsAt swap files l y
moved swap files m l k x y apart is parts rest others within = record {
  parts = λ i p at inside part. elim (equal_or_not i k) [
    | inl same ↦ subst (λ (j : ℕ). IsPart swap j p at → y at ≡ part_of (lies_at (count_of swap) l j) (swap_text swap) (files.old j) (files.new j) p)
        (sym same) (parts p at) part
    | inr other ↦ rest at (λ q its. other (apart i k p q at part its).0) ∙ is.parts i p at inside part
        ∙ ap (λ (lies : Lies). part_of lies (swap_text swap) (files.old i) (files.new i) p) (sym (others i inside other))
  ];
  others = λ at none. rest at (λ p its. none k p within its) ∙ is.others at none;
}

-- one name of a file and another
named : (swap : Swap) (k : ℕ) (name other : List ℕ) → IsNamed swap k name → IsNamed swap k other → name ≡ other
named swap k name other is also = same_Some _ _ (sym is ∙ also)

it : (swap : Swap) (k : ℕ) (name at : List ℕ) (p : Part) → IsNamed swap k name → IsPart swap k p at → at ≡ name_with p name (number_of swap)
it swap k name at p is part = part.2 ∙ ap (λ (n : List ℕ). name_with p n (number_of swap)) (named swap k part.0 name part.1 is)

not_it : (swap : Swap) (k : ℕ) (name at : List ℕ) (p q : Part) → AreApart swap → IsNamed swap k name → p ≢ q → IsPart swap k p at
    → at ≢ name_with q name (number_of swap)
not_it swap k name at p q apart is other part same = other (apart k k p q at part (name, is, same)).1

not_its : (swap : Swap) (k : ℕ) (name at : List ℕ) (q : Part) → IsNamed swap k name → ((p : Part) → IsPart swap k p at → ⊥)
    → at ≢ name_with q name (number_of swap)
not_its swap k name at q is none same = none q (name, is, same)

-- the lies of a file, with their parts
parts_as : (swap : Swap) (files : Files) (k : ℕ) (lies new : Lies) (x : Folder) → new ≡ lies → HasParts swap files k lies x → HasParts swap files k new x
parts_as swap files k lies new x same parts = subst (λ (l : Lies). HasParts swap files k l x) (sym same) parts

-- THE STEPS
wrote : (swap : Swap) (files : Files) (k : ℕ) (name : List ℕ) (lies : Lies) (x y : Folder) → AreApart swap → IsNamed swap k name
    → HasParts swap files k lies x → IsAfter (Wrote (journal_at name) (swap_text swap)) x y → HasParts swap files k (done (Announce k) lies) y
wrote swap files k name lies x y apart is parts after Itself at part =
    after.1 at (not_it swap k name at Itself Journal apart is (λ e. cc) part) ∙ parts Itself at part
wrote swap files k name lies x y apart is parts after New at part =
    after.1 at (not_it swap k name at New Journal apart is (λ e. cc) part) ∙ parts New at part
wrote swap files k name lies x y apart is parts after Journal at part = ap y (it swap k name at Journal is part) ∙ after.0
wrote swap files k name lies x y apart is parts after Old at part =
    after.1 at (not_it swap k name at Old Journal apart is (λ e. cc) part) ∙ parts Old at part

removed : (swap : Swap) (files : Files) (k : ℕ) (name : List ℕ) (lies : Lies) (x y : Folder) → AreApart swap → IsNamed swap k name
    → HasParts swap files k lies x → IsAfter (Removed (journal_at name)) x y → HasParts swap files k (done (Forget k) lies) y
removed swap files k name lies x y apart is parts after Itself at part =
    after.1 at (not_it swap k name at Itself Journal apart is (λ e. cc) part) ∙ parts Itself at part
removed swap files k name lies x y apart is parts after New at part =
    after.1 at (not_it swap k name at New Journal apart is (λ e. cc) part) ∙ parts New at part
removed swap files k name lies x y apart is parts after Journal at part = ap y (it swap k name at Journal is part) ∙ after.0
removed swap files k name lies x y apart is parts after Old at part =
    after.1 at (not_it swap k name at Old Journal apart is (λ e. cc) part) ∙ parts Old at part

set_aside : (swap : Swap) (files : Files) (k : ℕ) (name : List ℕ) (lies : Lies) (x y : Folder) → AreApart swap → IsNamed swap k name
    → IsReady (SetAside k) lies → HasParts swap files k lies x → IsAfter (Renamed name (kept_at name (number_of swap))) x y
    → HasParts swap files k (done (SetAside k) lies) y
set_aside swap files k name lies x y apart is ready parts after Itself at part = ap y (it swap k name at Itself is part) ∙ after.1
set_aside swap files k name lies x y apart is ready parts after New at part =
    after.3 at (not_it swap k name at New Itself apart is (λ e. cc) part) (not_it swap k name at New Old apart is (λ e. cc) part) ∙ parts New at part
set_aside swap files k name lies x y apart is ready parts after Journal at part =
    after.3 at (not_it swap k name at Journal Itself apart is (λ e. cc) part) (not_it swap k name at Journal Old apart is (λ e. cc) part)
    ∙ parts Journal at part
set_aside swap files k name lies x y apart is ready parts after Old at part =
    ap y (it swap k name at Old is part) ∙ after.2 ∙ parts Itself name (name, is, refl) ∙ rw (ready.0, ready.1) refl

placed : (swap : Swap) (files : Files) (k : ℕ) (name : List ℕ) (lies : Lies) (x y : Folder) → AreApart swap → IsNamed swap k name
    → IsReady (Place k) lies → HasParts swap files k lies x → IsAfter (Renamed (new_at name) name) x y
    → HasParts swap files k (done (Place k) lies) y
placed swap files k name lies x y apart is ready parts after Itself at part =
    ap y (it swap k name at Itself is part) ∙ after.2 ∙ parts New (new_at name) (name, is, refl) ∙ rw ready refl
placed swap files k name lies x y apart is ready parts after New at part = ap y (it swap k name at New is part) ∙ after.1
placed swap files k name lies x y apart is ready parts after Journal at part =
    after.3 at (not_it swap k name at Journal New apart is (λ e. cc) part) (not_it swap k name at Journal Itself apart is (λ e. cc) part)
    ∙ parts Journal at part
placed swap files k name lies x y apart is ready parts after Old at part =
    after.3 at (not_it swap k name at Old New apart is (λ e. cc) part) (not_it swap k name at Old Itself apart is (λ e. cc) part) ∙ parts Old at part

-- TO THE NEXT MOMENT, and back
to_next : (swap : Swap) (files : Files) (m : ℕ) (s : Step) (x y : Folder) → AreApart swap → IsAt swap files m x → step_after (count_of swap) m ≡ Some s
    → (HasParts swap files (file_of s) (lies_at (count_of swap) m (file_of s)) x
    → HasParts swap files (file_of s) (done s (lies_at (count_of swap) m (file_of s))) y)
    → ((at : List ℕ) → ((p : Part) → IsPart swap (file_of s) p at → ⊥) → y at ≡ x at) → IsAt swap files (m + 1) y
to_next swap files m s x y apart is due parts rest =
    let inside = within (count_of swap) m s due in
    moved swap files m (m + 1) (file_of s) x y apart is
    (parts_as swap files (file_of s) _ _ y (own (count_of swap) m s due) (parts (λ p at part. is.parts (file_of s) p at inside part)))
    rest (λ i within other. others (count_of swap) m i s due within other) inside

pub announced : (swap : Swap) (files : Files) (m k : ℕ) (name : List ℕ) (x y : Folder) → AreApart swap → IsNamed swap k name
    → step_after (count_of swap) m ≡ Some (Announce k) → IsAt swap files m x → IsAfter (Wrote (journal_at name) (swap_text swap)) x y
    → IsAt swap files (m + 1) y
announced swap files m k name x y apart named due is after =
    to_next swap files m (Announce k) x y apart is due
    (λ parts. wrote swap files k name _ x y apart named parts after) (λ at none. after.1 at (not_its swap k name at Journal named none))

pub kept : (swap : Swap) (files : Files) (m k : ℕ) (name : List ℕ) (x y : Folder) → AreApart swap → IsNamed swap k name
    → step_after (count_of swap) m ≡ Some (SetAside k) → IsAt swap files m x → IsAfter (Renamed name (kept_at name (number_of swap))) x y
    → IsAt swap files (m + 1) y
kept swap files m k name x y apart named due is after =
    to_next swap files m (SetAside k) x y apart is due
    (λ parts. set_aside swap files k name _ x y apart named (ready (count_of swap) m (SetAside k) due) parts after)
    (λ at none. after.3 at (not_its swap k name at Itself named none) (not_its swap k name at Old named none))

pub put : (swap : Swap) (files : Files) (m k : ℕ) (name : List ℕ) (x y : Folder) → AreApart swap → IsNamed swap k name
    → step_after (count_of swap) m ≡ Some (Place k) → IsAt swap files m x → IsAfter (Renamed (new_at name) name) x y → IsAt swap files (m + 1) y
put swap files m k name x y apart named due is after =
    to_next swap files m (Place k) x y apart is due
    (λ parts. placed swap files k name _ x y apart named (ready (count_of swap) m (Place k) due) parts after)
    (λ at none. after.3 at (not_its swap k name at New named none) (not_its swap k name at Itself named none))

pub forgotten : (swap : Swap) (files : Files) (m k : ℕ) (name : List ℕ) (x y : Folder) → AreApart swap → IsNamed swap k name
    → step_after (count_of swap) m ≡ Some (Forget k) → IsAt swap files m x → IsAfter (Removed (journal_at name)) x y → IsAt swap files (m + 1) y
forgotten swap files m k name x y apart named due is after =
    to_next swap files m (Forget k) x y apart is due
    (λ parts. removed swap files k name _ x y apart named parts after) (λ at none. after.1 at (not_its swap k name at Journal named none))

pub taken_back : (swap : Swap) (files : Files) (m : ℕ) (name : List ℕ) (x y : Folder) → AreApart swap → IsNamed swap m name → m < count_of swap
    → IsAt swap files (m + 1) x → IsAfter (Removed (journal_at name)) x y → IsAt swap files m y
taken_back swap files m name x y apart named inside is after =
    moved swap files (m + 1) m m x y apart is
    (parts_as swap files m _ _ y (back (count_of swap) m inside)
    (removed swap files m name _ x y apart named (λ p at part. is.parts m p at inside part) after))
    (λ at none. after.1 at (not_its swap m name at Journal named none)) (λ i within other. others_back (count_of swap) m i inside within other) inside
