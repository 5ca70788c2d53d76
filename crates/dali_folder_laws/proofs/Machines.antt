use Rattle.std.proofs.Common.{◌≡◌, ℕ, zero, suc, ◌+◌, Bool, true, false, List, [], ◌∷◌, ◌++◌, Some, refl, ap, subst, sym, ◌∙◌}
use Rattle.std.proofs.Common.{◌⊎◌, inl, inr, arith}
use Rattle.std.specs.Prelude.{slice_get, option_map, string_bytes, is_some, codes}
use Rattle.std.specs.declared.{alloc.Global.Global, string.String.String}
use Rattle.dali_folder.specs.Events.{Event, SyncsFolder, AreBegun}
use Rattle.dali_folder.specs.Folder.{Names, Folders, AreSame, IsPending, Happens, Happen, restarted, folder_of}
use Rattle.dali_folder.specs.Folder as folder
use Rattle.dali_folder.proofs.Begun.{begun_one}
use Rattle.dali_folder.proofs.Names.{decided, beside}
use Rattle.dali_folder.proofs.Settled.{anew, waits, settles, stays}
use Rattle.dali_replacement.specs.declared.swap.{Lies.Lies, Step.Step}
use Rattle.dali_replacement.specs.declared.swap.Step.TheVariants.{Announce, SetAside, Place, Forget}
use Rattle.dali_replacement.specs.declared.swapping.Swap.{Swap}
use Rattle.dali_replacement.specs.Swapping.{names_of, number_of, swap_text}
use Rattle.dali_commission_stores.specs.Calls.{Call, Synced, AreMade}
use Rattle.dali_commission_stores.specs.Seen.{AreLying, IsMoment}
use Rattle.dali_commission_stores.specs.Settled.{syncing, IsEnded, IsSettled}
use Rattle.dali_commission_stores.specs.Settling.{calls_of, journal_at, IsDone, count_of, GoesOn, GoesBack}
use Rattle.dali_folder_laws.specs.Moments.{Files, MayBegin, IsAt, IsAtSome, IsBefore}
use Rattle.dali_folder_laws.specs.Stops.{Program, HasMade, Makes, Sees, ended_as}
use Rattle.dali_folder_laws.specs.System.{but_for, AreFit, Machine, booted, HasAsked, Asks, Looks, IsFit, Fits, MachineSettles, MachinesSettle}
use Rattle.dali_folder_laws.specs.System.{MachineExchanges}
use Rattle.dali_folder_laws.proofs.System.{place_of, same, IsStopped, stops, ends}
use Rattle.dali_folder_laws.proofs.Truths.{at_first}
use Rattle.dali_folder_laws.proofs.Stopped.{Stands, same_at_some, goes_on}
use Rattle.dali_folder_laws.proofs.Over.{end_of, ended, ended_so, starts}

-- one of these names
abbrev pub IsAmong : List ℕ → List (String Global) → Type 0
IsAmong home [] = ⊥
IsAmong home (name ∷ more) = (home ≡ string_bytes name) ⊎ IsAmong home more

among : (names : List (String Global)) (i : ℕ) (name : List ℕ) → option_map (λ it. string_bytes it) (slice_get names i) ≡ Some name
    → IsAmong name names
among [] i name is = absurd (cc)
among (other ∷ more) zero name is = inl (cc)
among (other ∷ more) (suc i) name is = inr (among more i name is)

-- what programs see of folders, or what the disk has, if nothing runs there
abbrev pub view : Bool → Bool → Folders → Names
view by true f = f.holds
view true false f = f.holds
view false false f = f.disk

module _ (passing : List ℕ → Bool) (part log : List ℕ → List ℕ) (swap : Swap) (files : Files) where
  abbrev pub Calm : Folders → Type 0
  Calm f = folder.IsSettled passing f

  -- ALL IS ON THE DISK, but perhaps what was done in the folder of one of these files; and if a
  -- program runs there, all is
  abbrev pub Waits : List (String Global) → Folders → Type 0
  Waits names f = Calm f ⊎ ((home : List ℕ) × IsAmong home names × IsPending passing home f)

  abbrev pub Rests : Bool → Folders → Type 0
  Rests true f = Calm f
  Rests false f = Waits (names_of swap) f

  elsewhere : (home place : List ℕ) (f : Folders) → folder_of place ≡ folder_of home → IsPending passing place f → IsPending passing home f
  elsewhere home place f near was = record {
    bytes = was.bytes;
    names = λ other out far. was.names other out (λ e. far (e ∙ near));
    disk = λ other out far. was.disk other out (λ e. far (e ∙ near));
  }

  -- A MACHINE AS A PROGRAM IN ITS FOLDER, once by what programs see, and once by what the disk has
  abbrev pub as_program : Bool → Machine → Program
  as_program by x = record { runs = x.runs; folder = but_for passing (view by x.runs x.folders) }

  called : (by : Bool) (call : Call) (a b : Bool) (x y : Folders) (home : List ℕ) → IsAmong home (names_of swap)
      → folder_of (place_of call) ≡ folder_of home → AreFit passing part log call → Rests a x → HasAsked part log a b x y call
      → HasMade a b (but_for passing (view by a x)) (but_for passing (view by b y)) call × Rests b y
  called by call true true x y home in_ near fit calm (there, happen) =
      let end = ends passing x y calm part log call fit there happen in (end.1, end.0)
  called by call true false x y home in_ near fit calm (begun, at, b, happen, is) = elim is [
    | inl killed ↦ subst (λ (f : Folders). HasMade true false (but_for passing x.holds) (but_for passing (view by false f)) call × Rests false f)
        (sym killed) (sees by, inr (home, in_, elsewhere home (place_of call) at near left.0))
    | inr crashed ↦ subst (λ (f : Folders). HasMade true false (but_for passing x.holds) (but_for passing (view by false f)) call × Rests false f)
        (sym crashed) (starts_anew by, inl (anew passing at.disk))
  ]
    where
      left : IsStopped passing x at calm call
      left = stops passing x at calm part log call begun fit b happen

      sees : (by : Bool) → HasMade true false (but_for passing x.holds) (but_for passing (view by false at)) call
      sees true = left.1
      sees false = left.2

      starts_anew : (by : Bool) → HasMade true false (but_for passing x.holds) (but_for passing (view by false (restarted at.disk))) call
      starts_anew true = left.2
      starts_anew false = left.2
  called by call false true x y home in_ near fit rests not = absurd (not)
  called by call false false x y home in_ near fit rests is =
      subst (λ (f : Folders). HasMade false false (but_for passing (view by false x)) (but_for passing (view by false f)) call × Rests false f) is
      (λ at. refl, rests)

  abbrev pub AllFit : List ℕ → List Call → Type 0
  AllFit home [] = Unit {0}
  AllFit home (call ∷ more) = AreFit passing part log call × (folder_of (place_of call) ≡ folder_of home) × AllFit home more

  made : (by : Bool) (calls : List Call) (x y : Machine) (home : List ℕ) → IsAmong home (names_of swap) → AllFit home calls
      → Rests x.runs x.folders → AreMade (Asks part log) calls x y
      → AreMade Makes calls (as_program by x) (as_program by y) × Rests y.runs y.folders
  made by [] x y home in_ fit rests is = (ap (as_program by) is, subst (λ (m : Machine). Rests m.runs m.folders) is rests)
  made by (call ∷ more) x y home in_ fit rests (z, first, rest) =
      let one = called by call x.runs z.runs x.folders z.folders home in_ fit.1 fit.0 rests first in
      let all = made by more z y home in_ fit.2 one.1 rest in
      ((as_program by z, one.0, all.0), all.1)

  near_journal : (name : List ℕ) → folder_of (journal_at name) ≡ folder_of name
  near_journal name = beside name (codes ".replacing") refl

  fit_of : (s : Step) (name text : List ℕ) (number : ℕ) → IsFit passing part log number name → AllFit name (calls_of s name number text)
  fit_of (Announce i) name text number fit = (fit.0, near_journal name, tt)
  fit_of (SetAside i) name text number fit = (fit.1, sym fit.1.4, tt)
  fit_of (Place i) name text number fit = (tt, fit.2.4, (fit.2, refl, tt))
  fit_of (Forget i) name text number fit = (fit.0.0, near_journal name, tt)

  module _ (fits : Fits passing part log swap) where
    step : (by : Bool) (s : Step) (x y : Machine) → Rests x.runs x.folders → IsDone (Asks part log) swap s x y
        → IsDone Makes swap s (as_program by x) (as_program by y) × Rests y.runs y.folders
    step by s x y rests (name, named, calls) =
        let all = made by (calls_of s name (number_of swap) (swap_text swap)) x y name (among (names_of swap) _ name named)
        (fit_of s name (swap_text swap) (number_of swap) (fits _ name named)) rests calls in
        ((name, named, all.0), all.1)

    on : (by : Bool) (from to : ℕ) (steps : List Step) (x y : Machine) → Rests x.runs x.folders → GoesOn (Asks part log) swap from to steps x y
        → GoesOn Makes swap from to steps (as_program by x) (as_program by y) × Rests y.runs y.folders
    on by from to [] x y rests (end, is) = ((end, ap (as_program by) is), subst (λ (m : Machine). Rests m.runs m.folders) is rests)
    on by from to (s ∷ more) x y rests (due, under, (z, first, rest)) =
        let one = step by s x z rests first in
        let all = on by (from + 1) to more z y one.1 rest in
        ((due, under, (as_program by z, one.0, all.0)), all.1)

    back : (by : Bool) (m : ℕ) (x y : Machine) → Rests x.runs x.folders → GoesBack (Asks part log) swap m x y
        → GoesBack Makes swap m (as_program by x) (as_program by y) × Rests y.runs y.folders
    back by zero x y rests is = (ap (as_program by) is, subst (λ (m : Machine). Rests m.runs m.folders) is rests)
    back by (suc m) x y rests (z, first, rest) =
        let one = step by (Forget m) x z rests first in
        let all = back by m z y one.1 rest in
        ((as_program by z, one.0, all.0), all.1)

    -- WHAT IS LOOKED AT
    has : (by : Bool) (x : Machine) (at : List ℕ) (answer : Bool) → passing at ≡ false
        → (x.runs ≡ true → answer ≡ is_some (x.folders.holds at)) → x.runs ≡ true
        → answer ≡ is_some (but_for passing (view by x.runs x.folders) at)
    has by x at answer out saw runs = go x.runs runs (saw runs)
      where
        go : (r : Bool) → r ≡ true → answer ≡ is_some (x.folders.holds at) → answer ≡ is_some (but_for passing (view by r x.folders) at)
        go true e is = is ∙ rw out refl
        go false e is = absurd (cc)

    abbrev pub EachFit : List (String Global) → Type 0
    EachFit [] = Unit {0}
    EachFit (name ∷ more) = IsFit passing part log (number_of swap) (string_bytes name) × EachFit more

    each_fit : (names : List (String Global))
        → ((i : ℕ) (name : List ℕ) → option_map (λ it. string_bytes it) (slice_get names i) ≡ Some name
        → IsFit passing part log (number_of swap) name) → EachFit names
    each_fit [] all = tt
    each_fit (name ∷ more) all = (all 0 (string_bytes name) refl, each_fit more (λ i other is. all (suc i) other is))

    lying : (by : Bool) (x : Machine) (names : List (String Global)) (before after : List Lies) → EachFit names
        → AreLying Looks x (number_of swap) names before after → AreLying Sees (as_program by x) (number_of swap) names before after
    lying by x [] before after fit is = is
    lying by x (name ∷ more) before after fit (lies, one, rest) = (
      lies,
      (
        has by x _ _ fit.0.0.0 one.0,
        has by x _ _ fit.0.2.0 one.1,
        has by x _ _ fit.0.1.0 one.2,
        has by x _ _ fit.0.1.1 one.3,
      ),
      lying by x more (before ++ lies ∷ []) after fit.1 rest,
    )

    moment : (by : Bool) (x : Machine) (m : ℕ) → IsMoment Looks swap x m → IsMoment Sees swap (as_program by x) m
    moment by x m (all, lie, inside, at) = (all, lying by x (names_of swap) [] all (each_fit (names_of swap) fits) lie, inside, at)

    -- IT IS ENDED
    ends_so : (by : Bool) (x y : Machine) (done : Bool) → Rests x.runs x.folders → IsEnded (Asks part log) Looks swap x y done
        → IsEnded Makes Sees swap (as_program by x) (as_program by y) done × Rests y.runs y.folders
    ends_so by x y true rests (l, seen, late, (steps, goes)) =
        let all = on by l _ steps x y rests goes in ((l, moment by x l seen, late, (steps, all.0)), all.1)
    ends_so by x y false rests (l, seen, early, goes) =
        let all = back by l x y rests goes in ((l, moment by x l seen, early, all.0), all.1)

    -- FOLDERS IN WHICH AN EXCHANGE WAS STOPPED: programs see it at a moment, the disk has it at one
    pub record IsHalfway (f : Folders) : Type 0 where
      pub holds : IsAtSome swap files (but_for passing f.holds)
      pub disk : IsAtSome swap files (but_for passing f.disk)
      pub waits : Waits (names_of swap) f

    some : (f g : Names) → AreSame passing g f → IsAtSome swap files (but_for passing f) → IsAtSome swap files (but_for passing g)
    some f g is at = same_at_some swap files (but_for passing f) (but_for passing g) at (same passing f g is)

    calm_so : (f : Folders) → Calm f → IsAtSome swap files (but_for passing f.holds) → IsHalfway f
    calm_so f calm at = record { holds = at; disk = some f.holds f.disk calm.disk at; waits = inl calm }

    crashed : (f : Folders) → IsHalfway f → IsHalfway (restarted f.disk)
    crashed f half = calm_so (restarted f.disk) (anew passing f.disk) half.disk

    -- what an earlier program has left is in the folder of one of the files that are still to be synced
    abbrev pub IsLeft : List (String Global) → Folders → Type 0
    IsLeft todo f = Calm f ⊎ ((home : List ℕ) × IsAmong home todo × IsAmong home (names_of swap) × IsPending passing home f)

    -- a folder is synced
    syncs : (name : String Global) (more : List (String Global)) (f t : Folders) → IsHalfway f → IsLeft (name ∷ more) f
        → Happens (SyncsFolder (string_bytes name)) f t → IsHalfway t × IsLeft more t
    syncs name more f t half (inl calm) happens =
        let end = settles passing (string_bytes name) f t happens (string_bytes name) refl (waits passing (string_bytes name) f calm) in
        (calm_so t end.0 (some f.holds t.holds end.1 half.holds), inl end.0)
    syncs name more f t half (inr (home, in_, all, pending)) happens = elim (decided (folder_of home) (folder_of (string_bytes name))) [
      | inl near ↦
          let end = settles passing (string_bytes name) f t happens home near pending in
          (calm_so t end.0 (some f.holds t.holds end.1 half.holds), inl end.0)
      | inr far ↦
          let end = stays passing (string_bytes name) f t happens home far pending in (
            record {
              holds = some f.holds t.holds end.1 half.holds;
              disk = some f.disk t.disk end.2 half.disk;
              waits = inr (home, all, end.0);
            },
            inr (home, elim in_ [ inl is ↦ absurd (far (ap folder_of is)) | inr rest ↦ rest ], all, end.0),
          )
    ]

    pub record IsUnder (todo : List (String Global)) (x : Machine) : Type 0 where
      pub half : IsHalfway x.folders
      pub left : x.runs ≡ true → IsLeft todo x.folders

    synced : (todo : List (String Global)) (x z : Machine) → IsUnder todo x → AreMade (Asks part log) (syncing todo) x z → IsUnder [] z
    synced [] x z under is = subst (λ (m : Machine). IsUnder [] m) is under
    synced (name ∷ more) x z under (w, first, rest) = synced more w z (one x.runs w.runs refl refl first) rest
      where
        stopped : x.runs ≡ true → (begun : List Event) → AreBegun begun (SyncsFolder (string_bytes name) ∷ []) → (at : Folders)
            → Happen begun x.folders at → IsHalfway at
        stopped runs [] b at e = subst IsHalfway e under.half
        stopped runs (d ∷ []) b at (t, h, e) =
            let both = begun_one (SyncsFolder (string_bytes name)) d [] [] tt b in
            subst IsHalfway e (syncs name more x.folders t under.half (under.left runs) (subst (λ (v : Event). Happens v x.folders t) both.0 h)).0
        stopped runs (d ∷ f ∷ others) b at h = absurd ((begun_one (SyncsFolder (string_bytes name)) d [] (f ∷ others) tt b).1)

        one : (a b : Bool) → x.runs ≡ a → w.runs ≡ b → HasAsked part log a b x.folders w.folders (Synced (string_bytes name)) → IsUnder more w
        one true true isA isB (there, (t, happens, is)) =
            let end = syncs name more x.folders t under.half (under.left isA) happens in
            record { half = subst IsHalfway is end.0; left = λ runs. subst (λ (f : Folders). IsLeft more f) is end.1 }
        one true false isA isB (begun, at, b, happen, is) = record {
          half = elim is [
            | inl killed ↦ subst IsHalfway (sym killed) (stopped isA begun b at happen)
            | inr crash ↦ subst IsHalfway (sym crash) (crashed at (stopped isA begun b at happen))
          ];
          left = λ runs. absurd (cc);
        }
        one false true isA isB not = absurd (not)
        one false false isA isB is = record { half = subst IsHalfway is under.half; left = λ runs. absurd (cc) }

    begins : (x : Folders) → IsHalfway x → IsUnder (names_of swap) (booted x)
    begins x half = record {
      half = half;
      left = λ runs. elim (half.waits) [ inl calm ↦ inl calm | inr (home, in_, pending) ↦ inr (home, in_, in_, pending) ];
    }

    -- BOTH PROGRAMS stand at a moment, so the folders do
    halfway : (m : ℕ) (r : Bool) (f : Folders) → Rests r f
        → ((by : Bool) → IsAtSome swap files (but_for passing (view by r f)) × (r ≡ true → IsAt swap files m (but_for passing (view by r f))))
        → IsHalfway f × (r ≡ true → Calm f × IsAt swap files m (but_for passing f.holds))
    halfway m true f calm stands = (calm_so f calm (stands true).0, λ runs. (calm, (stands true).1 refl))
    halfway m false f rests stands =
        (record { holds = (stands true).0; disk = (stands false).0; waits = rests }, λ runs. absurd (cc))

    stands_so : (m : ℕ) (r by : Bool) (f : Folders) → IsHalfway f → (r ≡ true → IsAt swap files m (but_for passing f.holds))
        → IsAtSome swap files (but_for passing (view by r f)) × (r ≡ true → IsAt swap files m (but_for passing (view by r f)))
    stands_so m true by f half at = (half.holds, at)
    stands_so m false true f half at = (half.holds, λ runs. absurd (cc))
    stands_so m false false f half at = (half.disk, λ runs. absurd (cc))

    rests_so : (r : Bool) (f : Folders) → IsHalfway f → (r ≡ true → IsLeft [] f) → Rests r f
    rests_so true f half left = elim (left refl) [ inl calm ↦ calm | inr (home, in_, all, pending) ↦ absurd in_ ]
    rests_so false f half left = half.waits

    settled : (x y : Machine) (done : Bool) → MayBegin swap → IsUnder (names_of swap) x → IsSettled (Asks part log) Looks swap x y done
        → IsHalfway y.folders
        × (y.runs ≡ true → Calm y.folders × IsAt swap files (end_of swap done) (but_for passing y.folders.holds))
    settled x y done may under (z, syncing_, end) = halfway (end_of swap done) y.runs y.folders (after true).1 (λ by. (after by).0)
      where
        at : IsUnder [] z
        at = synced (names_of swap) x z under syncing_

        after : (by : Bool) → Stands swap files (end_of swap done) (as_program by y) × Rests y.runs y.folders
        after by =
            let more = ends_so by z y done (rests_so z.runs z.folders at.half at.left) end in (
              ended_so swap files at.half.holds.0 (as_program by z) (as_program by y) done may at.half.holds.1
                  (stands_so at.half.holds.0 z.runs by z.folders at.half (λ runs. at.half.holds.2)) more.0,
              more.1,
            )

    often : (count : ℕ) (x y : Folders) → MayBegin swap → IsHalfway x → MachinesSettle part log swap count x y → IsHalfway y
    often zero x y may half is = subst IsHalfway is half
    often (suc more) x y may half (z, done, one, rest) =
        often more z.folders y may (settled (booted x) z done may (begins x half) one).0 rest

    -- AN EXCHANGE BY MACHINES
    announced : (x : Folders) (mid : Machine) (steps : List Step) → MayBegin swap → Calm x → IsBefore swap files (but_for passing x.holds)
        → GoesOn (Asks part log) swap 0 (count_of swap) steps (booted x) mid → IsUnder (names_of swap) mid
    announced x mid steps may calm is goes =
        let both = halfway (count_of swap) mid.runs mid.folders (on true 0 (count_of swap) steps (booted x) mid calm goes).1
        (λ by. goes_on swap files 0 (count_of swap) steps (as_program by (booted x)) (as_program by mid) may.apart (omega arith) (omega arith)
        (on by 0 (count_of swap) steps (booted x) mid calm goes).0
        (starts swap files 0 (as_program by (booted x)) (omega arith) (at_first swap files (but_for passing x.holds) is))) in
        record { half = both.0; left = λ runs. inl (both.1 runs).0 }

    pub over_every_crash : (count : ℕ) (x z : Folders) (y w : Machine) (done : Bool) → MayBegin swap → Calm x
        → IsBefore swap files (but_for passing x.holds) → MachineExchanges part log swap x y → MachinesSettle part log swap count y.folders z
        → MachineSettles part log swap z w done → w.runs ≡ true
        → Calm w.folders × ended_as swap files done (but_for passing w.folders.holds)
    over_every_crash count x z y w done may calm is (mid, (steps, goes), by, end) more last runs =
        let second = settled mid y true may (announced x mid steps may calm is goes) end in
        let third = often count y.folders z may second.0 more in
        let at = (settled (booted z) w done may (begins z third) last).1 runs in
        (at.0, ended swap files done (but_for passing w.folders.holds) at.1)
