use Rattle.std.proofs.Common.{◌≡◌, ◌⊎◌, ◌++◌, ℕ, inl, inr, Bool, true, false, List, [], ◌∷◌, Option, Some, None, refl, ap, subst, sym, ◌∙◌}
use Rattle.std.specs.Prelude.{is_some, if◌then◌else◌, string_bytes}
use Rattle.std.specs.declared.{alloc.Global.Global, string.String.String}
use Rattle.dali_folder.specs.Folder.{Names, Folders, IsSettled, restarted}
use Rattle.dali_commission_stores.specs.Calls.{Call, AreMade}
use Rattle.dali_commission_stores.specs.Keeping.{AreFree, LieElsewhere}
use Rattle.dali_commission_stores.specs.Settling.{kept_at}
use Rattle.dali_commission_cleared.specs.Clearing.{asides, AddsFilled, AreFilled}
use Rattle.dali_folder_laws.specs.Asides.{PutsAside, AreAway, HasStill}
use Rattle.dali_folder_laws.specs.Folder.{Folder, IsSame, Leaves}
use Rattle.dali_folder_laws.specs.Stops.{Program, HasMade, Makes, Sees}
use Rattle.dali_folder_laws.specs.System.{but_for, AreFit, Machine, booted, HasAsked, Asks, Looks, MachinePutsAside, AllFit}
use Rattle.dali_folder_laws.proofs.Asides.{kept, gone}
use Rattle.dali_folder_laws.proofs.Machines.{view}
use Rattle.dali_folder_laws.proofs.System.{same, IsStopped, stops, ends}

-- a name that has nothing for programs has nothing, whether it passes or not
unseen : (b : Bool) (o : Option (List ℕ)) → false ≡ is_some o → false ≡ is_some (if b then None else o)
unseen true o is = refl
unseen false o is = is

still_same : (number : ℕ) (x y z : Folder) (at had : List ℕ) → IsSame y z → HasStill number x y at had → HasStill number x z at had
still_same number x y z at had same (inl stays) = inl (same at ∙ stays)
still_same number x y z at had same (inr away) = inr (same at ∙ away.0, away.1, same (kept_at at number) ∙ away.2)

module _ (passing : List ℕ → Bool) (part log : List ℕ → List ℕ) where
  abbrev Calm : Folders → Type 0
  Calm f = IsSettled passing f

  -- while a program runs, all is on the disk
  abbrev Rests : Bool → Folders → Type 0
  Rests true f = Calm f
  Rests false f = Unit {0}

  abbrev as_program : Bool → Machine → Program
  as_program by x = record { runs = x.runs; folder = but_for passing (view by x.runs x.folders) }

  -- A CALL, as programs see it, and as the disk has it
  called : (by : Bool) (call : Call) (a b : Bool) (x y : Folders) → AreFit passing part log call → Rests a x → HasAsked part log a b x y call
      → HasMade a b (but_for passing (view by a x)) (but_for passing (view by b y)) call × Rests b y
  called by call true true x y fit calm (there, happen) = let end = ends passing x y calm part log call fit there happen in (end.1, end.0)
  called by call true false x y fit calm (begun, at, b, happen, is) = (go by is, tt)
    where
      left : IsStopped passing x at calm call
      left = stops passing x at calm part log call begun fit b happen

      go : (by : Bool) → (y ≡ at) ⊎ (y ≡ restarted at.disk)
          → HasMade true false (but_for passing x.holds) (but_for passing (view by false y)) call
      go true (inl killed) = subst (λ (f : Folders). Leaves call (but_for passing x.holds) (but_for passing f.holds)) (sym killed) left.1
      go false (inl killed) = subst (λ (f : Folders). Leaves call (but_for passing x.holds) (but_for passing f.disk)) (sym killed) left.2
      go true (inr crashed) = subst (λ (f : Folders). Leaves call (but_for passing x.holds) (but_for passing f.holds)) (sym crashed) left.2
      go false (inr crashed) = subst (λ (f : Folders). Leaves call (but_for passing x.holds) (but_for passing f.disk)) (sym crashed) left.2
  called by call false true x y fit rests not = absurd (not)
  called by call false false x y fit rests is =
      (subst (λ (f : Folders). HasMade false false (but_for passing (view by false x)) (but_for passing (view by false f)) call) is (λ at. refl), tt)

  made : (by : Bool) (calls : List Call) (x y : Machine) → AllFit passing part log calls → Rests x.runs x.folders → AreMade (Asks part log) calls x y
      → AreMade Makes calls (as_program by x) (as_program by y) × Rests y.runs y.folders
  made by [] x y fit rests is =
      subst (λ (m : Machine). (as_program by x ≡ as_program by m) × Rests m.runs m.folders) is (refl, rests)
  made by (call ∷ more) x y fit rests (z, first, rest) =
      let one = called by call x.runs z.runs x.folders z.folders fit.0 rests first in
      let all = made by more z y fit.1 one.1 rest in
      ((as_program by z, one.0, all.0), all.1)

  -- WHAT IS LOOKED AT, before anything is done
  module _ (by : Bool) (x : Folders) where
    elsewhere : (place : List ℕ) (names : List (String Global)) → LieElsewhere Looks (booted x) place names
        → LieElsewhere Sees (as_program by (booted x)) place names
    elsewhere place [] all = tt
    elsewhere place (name ∷ more) ((at, lies, differs), rest) = ((at, (λ runs. tt), differs), elsewhere place more rest)

    free : (records : List (String Global)) (number : ℕ) (names : List (String Global)) → AreFree Looks (booted x) records number names
        → AreFree Sees (as_program by (booted x)) records number names
    free records number [] all = tt
    free records number (name ∷ more) (none, away, rest) = (
      (λ runs. unseen (passing (kept_at (string_bytes name) number)) (x.holds (kept_at (string_bytes name) number)) (none refl)),
      elsewhere (kept_at (string_bytes name) number) records away,
      free records number more rest,
    )

    -- a name that does not pass, and so each of those that are put aside
    abbrev Shown : List (String Global) → Type 0
    Shown [] = Unit {0}
    Shown (name ∷ more) = (passing (string_bytes name) ≡ false) × Shown more

    shown : (number : ℕ) (names : List (String Global)) → AllFit passing part log (asides names number) → Shown names
    shown number [] fit = tt
    shown number (name ∷ more) (fit, rest) = (fit.0, shown number more rest)

    front : (names : List (String Global)) (place : String Global) → Shown (names ++ place ∷ [])
        → Shown names × (passing (string_bytes place) ≡ false)
    front [] place all = (tt, all.0)
    front (name ∷ more) place (out, all) = let rest = front more place all in ((out, rest.0), rest.1)

    holds : (place : List ℕ) → passing place ≡ false → but_for passing x.holds place ≡ x.holds place
    holds place out = rw out refl

    one : (name : List ℕ) (before after : List (String Global)) → Shown after → AddsFilled Looks (booted x) name before after
        → AddsFilled Sees (as_program by (booted x)) name before after × Shown before
    one name before after all (place, lies, inl none) = (
      (place, ((λ runs. tt), lies.1), inl ((λ runs. unseen (passing (string_bytes place)) (x.holds (string_bytes place)) (none.0 refl)), none.1)),
      subst Shown none.1 all,
    )
    one name before after all (place, lies, inr (k, bare, read, is, so)) = go bare refl
      where
        added : (b : Bool) → bare ≡ b → Shown (if b then before else before ++ place ∷ [])
        added b e = subst Shown (so ∙ ap (λ (b : Bool). if b then before else before ++ place ∷ []) e) all

        go : (b : Bool) → bare ≡ b → AddsFilled Sees (as_program by (booted x)) name before after × Shown before
        go true e = (
          (place, ((λ runs. tt), lies.1), inr (k, bare, (λ runs none. is.0 e), is, so)),
          added true e,
        )
        go false e = let both = front before place (added false e) in (
          (place, ((λ runs. tt), lies.1), inr (k, bare, (λ runs none. read refl (sym (holds (string_bytes place) both.1) ∙ none)), is, so)),
          both.0,
        )

    filled : (records before after : List (String Global)) → Shown after → AreFilled Looks (booted x) before records after
        → AreFilled Sees (as_program by (booted x)) before records after × Shown before
    filled [] before after all same = (same, subst Shown same all)
    filled (name ∷ more) before after all (mid, first, rest) =
        let later = filled more mid after all rest in
        let here = one (string_bytes name) before mid later.1 first in
        ((mid, here.0, later.0), here.1)

  puts : (by : Bool) (records names : List (String Global)) (number : ℕ) (x : Folders) (y : Machine)
      → AllFit passing part log (asides names number) → Calm x → MachinePutsAside part log records names number x y
      → PutsAside records names number (but_for passing x.holds) (as_program by y) × Rests y.runs y.folders
  puts by records names number x y fit calm (seen, (none, calls)) =
      let all = made by (asides names number) (booted x) y fit calm calls in
      (((filled by x records [] names (shown by x number names fit) seen).0, (free by x records number names none, all.0)), all.1)

  -- WHAT IS PUT ASIDE, over every kill and crash
  abbrev Still : ℕ → Names → Names → List ℕ → List ℕ → Type 0
  Still number x y at had = HasStill number (but_for passing x) (but_for passing y) at had

  pub kept_over : (records names : List (String Global)) (number : ℕ) (x : Folders) (y : Machine) (at had : List ℕ)
      → AllFit passing part log (asides names number) → Calm x → MachinePutsAside part log records names number x y
      → but_for passing x.holds at ≡ Some had
      → HasStill number (but_for passing x.holds) (but_for passing y.folders.holds) at had
      × HasStill number (but_for passing x.holds) (but_for passing y.folders.disk) at had
  kept_over records names number x y at had fit calm done is = go y.runs y.folders (puts true records names number x y fit calm done).1
      (kept records names number (but_for passing x.holds) (as_program true y) at had (puts true records names number x y fit calm done).0 is)
      (kept records names number (but_for passing x.holds) (as_program false y) at had (puts false records names number x y fit calm done).0 is)
    where
      go : (r : Bool) (f : Folders) → Rests r f → Still number x.holds (view true r f) at had → Still number x.holds (view false r f) at had
          → Still number x.holds f.holds at had × Still number x.holds f.disk at had
      go true f rests sees disk =
          let calm = same passing f.holds f.disk rests.disk in
          (sees, still_same number (but_for passing x.holds) (but_for passing f.holds) (but_for passing f.disk) at had calm sees)
      go false f rests sees disk = (sees, disk)

  pub away_over : (records names : List (String Global)) (number : ℕ) (x : Folders) (y : Machine)
      → AllFit passing part log (asides names number) → Calm x → MachinePutsAside part log records names number x y → y.runs ≡ true
      → Calm y.folders × AreAway names (but_for passing y.folders.holds)
  away_over records names number x y fit calm done runs =
      let both = puts true records names number x y fit calm done in
      go y.runs y.folders runs both.1 (gone records names number (but_for passing x.holds) (as_program true y) both.0 runs)
    where
      go : (r : Bool) (f : Folders) → r ≡ true → Rests r f → AreAway names (but_for passing (view true r f))
          → Calm f × AreAway names (but_for passing f.holds)
      go true f e rests gone = (rests, gone)
      go false f e rests gone = absurd (cc)
