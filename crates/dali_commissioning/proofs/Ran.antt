use Rattle.std.proofs.Common.{◌≡◌, arith, ℕ, ◌+◌, ◌<◌, suc, List, [], ◌∷◌, ◌++◌, length, Bool, true, false, ◌||◌, Option, refl, ◌∙◌, ap, sym, subst}
use Rattle.std.proofs.lemmas.{Bool.false≢true, List.append_assoc, List.append-nil}
use Rattle.dali_frame.specs.declared.frames.Forward.{Forward}
use Rattle.dali_script.specs.{Due.record_ordered, Records.Kept, declared.block.Block.Block}
use Rattle.dali_script.specs.declared.{orders.End.TheVariants.AllFound, orders.Input.Input, orders.Input.TheVariants.Committed, records.Record.Record}
use Rattle.dali_reserve.specs.Store.{IsReplay}
use Rattle.dali_controller.specs.Machine.{Machine, at_first}
use Rattle.dali_commissioning.specs.Conducted.{Conducted, Commits, Stays, IsAt, IsLeft, HasTaken, order_of}
use Rattle.dali_commissioning.specs.Drivers.{Talk}
use Rattle.dali_commissioning.specs.Runs.{Run, IsRun, IsSpent, IsSpentBefore, AreRuns, HaveRun, AreAllFound, EndWith, ComeTo, AreQuiet, quiet_after}
use Rattle.dali_commissioning.specs.Runs.{Grows, IsRead}
use Rattle.dali_commissioning.specs.Steps.{Step, last_order, record_told, committed_by, is_kept, has_committed}
use Rattle.dali_commissioning.{specs.declared.conducting.Ended.TheVariants.Done, specs.declared.conducting.PassEnd.PassEnd, proofs.Steps.stays_further}

-- steps that were told of no record have committed none
neither : (a b : Bool) → (a || b) ≡ false → (a ≡ false) × (b ≡ false)
neither true b e = absurd (false≢true (sym e))
neither false b e = (refl, e)

unkept : (told : Input) (x : Option Record) → is_kept told ≡ false → record_told told x ≡ []
unkept Committed x e = absurd (false≢true (sym e))
unkept _ x e = refl

pub uncommitted : (steps : List Step) → has_committed steps ≡ false → committed_by steps ≡ []
uncommitted [] e = refl
uncommitted (s ∷ before) e =
    let both = neither (has_committed before) (is_kept s.told) e in
    let added = record_told s.told (record_ordered (last_order before)) in
    ap (λ xs. xs ++ added) (uncommitted before both.0) ∙ unkept s.told (record_ordered (last_order before)) both.1

-- a store that grows, and grows again
pub grows_further : {S : Type 0} (is_up is_sound : S → Type 0) (holds : S → List Record → Type 0)
    (old mid new : S) → Stays is_up is_sound old mid → Stays is_up is_sound mid new
    → Grows is_up is_sound holds old mid → Grows is_up is_sound holds mid new → Grows is_up is_sound holds old new
grows_further is_up is_sound holds old mid new first second one two = λ sound up xs held.
    let (more, has) = one sound (second.up up) xs held in
    let (again, has_too) = two (first.sound sound (second.up up)) up (xs ++ more) has in
    (more ++ again, subst (holds new) (append_assoc xs more again) has_too)

pub commits_grow : {S : Type 0} (is_up is_sound : S → Type 0) (holds : S → List Record → Type 0)
    (old new : S) (records : List Record) → Commits is_up is_sound holds old new records → Grows is_up is_sound holds old new
commits_grow is_up is_sound holds old new records commits = λ sound up xs held. (records, commits sound up xs held)

-- one run, from one moment of the store and of the talk to another
abbrev pub OneRun : {S : Type 0} (is_up is_sound : S → Type 0) (holds : S → List Record → Type 0) → Block
    → Input → S → S → Talk → Talk → PassEnd → Type 0
OneRun is_up is_sound holds block first was keep x y pass =
    (run : Run) × IsRun is_up is_sound holds block first was keep x y run × (run.ended ≡ pass.ended)
    × (run.heard ≡ pass.heard) × (run.found ≡ pass.found) × (run.tries ≡ pass.tries)
    × (run.tally ≡ pass.tally) × (pass.committed ≡ has_committed run.steps)

pub of_block : {S : Type 0} (is_up is_sound : S → Type 0) (holds : S → List Record → Type 0) (a b : Block)
    (first : Input) (was keep : S) (x y : Talk) (pass : PassEnd) → a ≡ b
    → OneRun is_up is_sound holds a first was keep x y pass
    → OneRun is_up is_sound holds b first was keep x y pass
of_block is_up is_sound holds a b first was keep x y pass same =
    subst (λ c. OneRun is_up is_sound holds c first was keep x y pass) same

-- all runs so far
pub record HasRun {S : Type 0} (is_up is_sound : S → Type 0) (holds : S → List Record → Type 0) (block : Block)
    (first : Input) (was keep : S) (x y : Talk) (quiet count : ℕ) : Type 0 where
  pub runs : List Run
  pub counted : length runs ≡ count
  pub are : AreRuns is_up is_sound holds block first was keep x y runs
  pub found : AreAllFound runs
  pub quiet_runs : AreQuiet quiet runs
  pub grows : Grows is_up is_sound holds was keep
  pub stays : Stays is_up is_sound was keep

pub none_ran : {S : Type 0} (is_up is_sound : S → Type 0) (holds : S → List Record → Type 0) (block : Block)
    (first : Input) (keep : S) (x : Talk) → HasRun is_up is_sound holds block first keep keep x x 0 0
none_ran is_up is_sound holds block first keep x = record {
  runs = [];
  counted = refl;
  are = (refl, refl);
  found = tt;
  quiet_runs = tt;
  grows = λ sound up xs held. ([], subst (holds keep) (sym (append-nil xs)) held);
  stays = record { up = λ up. up; sound = λ sound up. sound };
}

quiet_more : (quiet : ℕ) (committed : Bool) (run : Run) (before : List Run) → committed ≡ has_committed run.steps
    → AreQuiet quiet before → AreQuiet (quiet_after quiet committed) (run ∷ before)
quiet_more quiet true run before is so_far = tt
quiet_more quiet false run before is so_far =
    let suc_quiet : suc quiet ≡ quiet + 1 = omega arith in
    subst (λ n. AreQuiet n (run ∷ before)) suc_quiet (uncommitted run.steps (sym is), so_far)

-- one run more, that found no gear any more
pub ran_more : {S : Type 0} (is_up is_sound : S → Type 0) (holds : S → List Record → Type 0) (block : Block)
    (first : Input) (was mid keep : S) (x y z : Talk) (quiet more count : ℕ) (pass : PassEnd)
    → HasRun is_up is_sound holds block first was mid x y quiet count
    → OneRun is_up is_sound holds block first mid keep y z pass
    → pass.ended ≡ Done AllFound → more ≡ quiet_after quiet pass.committed
    → HasRun is_up is_sound holds block first was keep x z more (count + 1)
ran_more is_up is_sound holds block first was mid keep x y z quiet more count pass so_far (run, is, ends, marks, finds, tried, counted, has) all_found added =
    record {
      runs = run ∷ so_far.runs;
      counted = omega (arith, so_far.counted);
      are = (mid, y, so_far.are, is);
      found = (ends ∙ all_found, so_far.found);
      quiet_runs = subst (λ n. AreQuiet n (run ∷ so_far.runs)) (sym added) (quiet_more quiet pass.committed run so_far.runs has so_far.quiet_runs);
      grows = grows_further is_up is_sound holds was mid keep so_far.stays is.stays so_far.grows
          (commits_grow is_up is_sound holds mid keep (committed_by run.steps) is.commits);
      stays = stays_further is_up is_sound was mid keep so_far.stays is.stays;
    }

-- the last run, which ended otherwise
pub ended_otherwise : {S : Type 0} (is_up is_sound : S → Type 0) (holds : S → List Record → Type 0) (block : Block)
    (first : Input) (was mid keep : S) (x y z : Talk) (quiet wanted count : ℕ) (pass : PassEnd)
    → HasRun is_up is_sound holds block first was mid x y quiet count
    → OneRun is_up is_sound holds block first mid keep y z pass
    → (pass.ended ≡ Done AllFound → ⊥)
    → (runs : List Run) × AreRuns is_up is_sound holds block first was keep x z runs × EndWith pass.ended runs
    × ComeTo pass runs × (pass.ended ≡ Done AllFound → AreQuiet wanted runs)
ended_otherwise is_up is_sound holds block first was mid keep x y z quiet wanted count pass so_far
    (run, is, ends, marks, finds, tried, counted, has) otherwise =
    (run ∷ so_far.runs, (mid, y, so_far.are, is), (ends, so_far.found), (marks, finds, tried, counted, has), λ found. absurd (otherwise found))

-- the last run, after which as many as are wanted were quiet
pub ended_quiet : {S : Type 0} (is_up is_sound : S → Type 0) (holds : S → List Record → Type 0) (block : Block)
    (first : Input) (was mid keep : S) (x y z : Talk) (quiet wanted count : ℕ) (pass : PassEnd)
    → HasRun is_up is_sound holds block first was mid x y quiet count
    → OneRun is_up is_sound holds block first mid keep y z pass
    → quiet_after quiet pass.committed ≡ wanted
    → (runs : List Run) × AreRuns is_up is_sound holds block first was keep x z runs × EndWith pass.ended runs
    × ComeTo pass runs × (pass.ended ≡ Done AllFound → AreQuiet wanted runs)
ended_quiet is_up is_sound holds block first was mid keep x y z quiet wanted count pass so_far (run, is, ends, marks, finds, tried, counted, has) enough = (
  run ∷ so_far.runs,
  (mid, y, so_far.are, is),
  (ends, so_far.found),
  (marks, finds, tried, counted, has),
  λ found.
      subst (λ n. AreQuiet n (run ∷ so_far.runs)) enough (quiet_more quiet pass.committed run so_far.runs has so_far.quiet_runs),
)

-- all runs, as many as were counted
pub all_ran : {S : Type 0} (is_up is_sound : S → Type 0) (holds : S → List Record → Type 0) (block : Block)
    (first : Input) (was keep : S) (x y : Talk) (quiet count : ℕ)
    → HasRun is_up is_sound holds block first was keep x y quiet count
    → HaveRun is_up is_sound holds block first was keep x y count
all_ran is_up is_sound holds block first was keep x y quiet count so_far = (so_far.runs, so_far.are, so_far.found, so_far.counted)

-- A run of a machine that began with what its store gave it: the store as it was, after it was read, and at the end.
pub run_of : {S : Type 0} (is_up is_sound : S → Type 0) (holds : S → List Record → Type 0) (kept_of : S → Kept)
    (must_read : S → Bool) (block_of : S → Block)
    → ((s : S) (xs : List Record) → is_sound s → must_read s ≡ false → holds s xs → IsReplay (block_of s) xs (kept_of s))
    → (was mid keep : S) (m n : Machine) (x y : Talk) (first : Input) (k : Kept) (waiting : Option Forward)
    (pass : PassEnd) (count : ℕ)
    → k ≡ kept_of mid → must_read mid ≡ false → block_of mid ≡ block_of was → Stays is_up is_sound was mid
    → (is_sound was → is_up mid → (xs : List Record) → holds was xs → holds mid xs)
    → m ≡ at_first 0 k → IsAt is_up is_sound holds mid keep m n x y first waiting (order_of pass.ended) pass.committed count
    → pass.heard ≡ n.heard → pass.found ≡ n.finding → pass.tries ≡ n.tries
    → pass.tally ≡ n.course.tally
    → OneRun is_up is_sound holds (block_of was) first was keep x y pass
run_of is_up is_sound holds kept_of must_read block_of replay was mid keep m n x y first k waiting pass count answer is_read block stays same begins at
    heard finds tried tally = (
      record {
        start = k;
        steps = at.steps;
        ended = pass.ended;
        heard = pass.heard;
        found = pass.found;
        tries = pass.tries;
        tally = pass.tally;
      },
      record {
        machine = n;
        begun = at.begun;
        marks = heard;
        finds = finds;
        tried = tried;
        counted = tally;
        conducted = subst (λ b. Conducted b n at.steps x y) begins at.conducted;
        last = at.last;
        read = λ sound up xs held.
            subst (λ b. IsReplay b xs k) block (subst (IsReplay (block_of mid) xs) (sym answer)
            (replay mid xs (stays.sound sound (at.stays.up up)) is_read (same sound (at.stays.up up) xs held)));
        commits = λ sound up xs held. at.commits (stays.sound sound (at.stays.up up)) up xs (same sound (at.stays.up up) xs held);
        stays = stays_further is_up is_sound was mid keep stays at.stays;
      },
      refl,
      refl,
      refl,
      refl,
      refl,
      at.has,
    )

-- A run that is spent, of a machine that began with what its store gave it: the same three moments of the store.
pub spent_of : {S : Type 0} (is_up is_sound : S → Type 0) (holds : S → List Record → Type 0) (kept_of : S → Kept)
    (must_read : S → Bool) (block_of : S → Block)
    → ((s : S) (xs : List Record) → is_sound s → must_read s ≡ false → holds s xs → IsReplay (block_of s) xs (kept_of s))
    → (was mid keep : S) (m n : Machine) (x y : Talk) (first : Input) (k : Kept)
    → k ≡ kept_of mid → must_read mid ≡ false → block_of mid ≡ block_of was → Stays is_up is_sound was mid
    → (is_sound was → is_up mid → (xs : List Record) → holds was xs → holds mid xs)
    → m ≡ at_first 0 k → HasTaken is_up is_sound holds mid keep m n x y first 1000000
    → IsSpent is_up is_sound holds (block_of was) first was keep x y
spent_of is_up is_sound holds kept_of must_read block_of replay was mid keep m n x y first k answer is_read block stays same begins
    (waiting, order, committed, at) = record {
      start = k;
      steps = at.steps;
      machine = n;
      conducted = subst (λ b. Conducted b n at.steps x y) begins at.conducted;
      begun = at.begun;
      counted = at.counted;
      read = λ sound up xs held.
          subst (λ b. IsReplay b xs k) block (subst (IsReplay (block_of mid) xs) (sym answer)
          (replay mid xs (stays.sound sound (at.stays.up up)) is_read (same sound (at.stays.up up) xs held)));
      commits = λ sound up xs held. at.commits (stays.sound sound (at.stays.up up)) up xs (same sound (at.stays.up up) xs held);
    }

-- and after the runs before it
pub spent_after : {S : Type 0} (is_up is_sound : S → Type 0) (holds : S → List Record → Type 0) (a block : Block)
    (first : Input) (was mid keep : S) (x y z : Talk) (quiet count most : ℕ) → a ≡ block → count < most
    → HasRun is_up is_sound holds block first was mid x y quiet count
    → IsSpent is_up is_sound holds a first mid keep y z
    → IsSpentBefore is_up is_sound holds block first was keep x z most
spent_after is_up is_sound holds a block first was mid keep x y z quiet count most same few so_far spent = (
  so_far.runs,
  mid,
  y,
  so_far.are,
  so_far.found,
  omega (arith, so_far.counted, few),
  subst (λ b. IsSpent is_up is_sound holds b first mid keep y z) same spent,
)

-- a store that has what it had when it was read
pub same_grows : {S : Type 0} (is_up is_sound : S → Type 0) (holds : S → List Record → Type 0) (was mid : S)
    → (is_sound was → is_up mid → (xs : List Record) → holds was xs → holds mid xs) → Grows is_up is_sound holds was mid
same_grows is_up is_sound holds was mid same = λ sound up xs held.
    ([], subst (holds mid) (sym (append-nil xs)) (same sound up xs held))

-- and after a machine that was left before its end
pub left_grows : {S : Type 0} (is_up is_sound : S → Type 0) (holds : S → List Record → Type 0) (was mid keep : S)
    (m n : Machine) → Stays is_up is_sound was mid → Stays is_up is_sound mid keep
    → (is_sound was → is_up mid → (xs : List Record) → holds was xs → holds mid xs)
    → IsLeft is_up is_sound holds mid keep m n → Grows is_up is_sound holds was keep
left_grows is_up is_sound holds was mid keep m n first second same (steps, taken, may) = λ sound up xs held.
    let (more, few, has) = may (first.sound sound (second.up up)) up xs (same sound (second.up up) xs held) in
    (committed_by steps ++ more, has)

-- a store that was read, and grew then
pub read_grows : {S : Type 0} (is_up is_sound : S → Type 0) (holds : S → List Record → Type 0) (block : Block)
    (was mid keep : S) (k : Kept) → IsRead is_up is_sound holds block was mid k → Stays is_up is_sound mid keep
    → Grows is_up is_sound holds mid keep → Grows is_up is_sound holds was keep
read_grows is_up is_sound holds block was mid keep k read stays more = λ sound up xs held.
    more (read.stays.sound sound (stays.up up)) up xs (read.same sound (stays.up up) xs held)
