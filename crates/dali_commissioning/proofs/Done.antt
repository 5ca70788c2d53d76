use Rattle.std.proofs.Common.{◌≡◌, inl, inr, refl, sym, ap, subst, ◌∙◌, ℕ, Bool, true, false, if◌then◌else◌, ◌==◌, List, [], ◌∷◌, ◌++◌, Option, Some, None}
use Rattle.std.proofs.{KnownBytes.Appends-nil, KnownBytes.Appends-trans, KnownBytes.Consumes-nil, KnownBytes.Consumes-trans}
use Rattle.std.proofs.lemmas.{Bool.false≢true, List.append_assoc, List.append-nil}
use Rattle.std.specs.Io.KnownBytes.{Appends, Consumes}
use Rattle.dali_frame.specs.declared.frames.Forward.{Forward}
use Rattle.dali_script.specs.{Due.due_after, Due.accepts, Sending.half_of, declared.block.Block.Block, declared.records.Record.Record}
use Rattle.dali_script.specs.declared.{orders.Input.Input, orders.Order.Order, sending.Half.Half}
use Rattle.dali_script.specs.declared.orders.Input.TheVariants.{Start, Survey, Heard, Destroyed, Lapsed, Committed, CommitFailed}
use Rattle.dali_script.specs.declared.orders.Order.TheVariants.{Put, Commit, Done, Halt}
use Rattle.dali_statement.specs.Own.{Act, Puts, Loses, Begins}
use Rattle.dali_controller.specs.{Machine.Machine, Machine.at_first, Acts.acts_told, Acts.acts_ordered}
use Rattle.dali_commissioning.specs.Conducted.{Conducted}
use Rattle.dali_commissioning.specs.{Acts.acts_by, Acts.acts_of_runs, Census.IsPut, Drivers.Talk, Lines.put_text, Runs.Run, Runs.AreRuns}
use Rattle.dali_commissioning.specs.Done.{HasLines, HaveLines, AreDone}
use Rattle.dali_commissioning.specs.Steps.{Step, AreSteps, AreTold, HaveRead, last_order, open_after, order_line, written_by}
use Rattle.dali_commissioning.proofs.Acts.{by_more}
use Rattle.dali_frame.specs.Priority.{LATER}

-- WHICH ACTS ARE DONE by what is written to a driver and read.

pub lines_both : (xs ys : List Act) (t u b c : List ℕ) → HaveLines xs t b → HaveLines ys u c → HaveLines (xs ++ ys) (t ++ u) (b ++ c)
lines_both [] ys t u b c (no_text, no_bytes) rest =
    subst (λ s. HaveLines ys (s ++ u) (b ++ c)) (sym no_text) (subst (λ s. HaveLines ys u (s ++ c)) (sym no_bytes) rest)
lines_both (a ∷ xs) ys t u b c (p, q, d, e, is_text, is_bytes, first, more) rest = (
  p,
  q ++ u,
  d,
  e ++ c,
  ap (λ s. s ++ u) is_text ∙ append_assoc p q u,
  ap (λ s. s ++ c) is_bytes ∙ append_assoc d e c,
  first,
  lines_both xs ys q u e c more rest,
)

one_line : (a : Act) (text bytes : List ℕ) → HasLines a text bytes → HaveLines (a ∷ []) text bytes
one_line a text bytes has = (text, [], bytes, [], sym (append-nil text), sym (append-nil bytes), has, (refl, refl))

pub done_both : (xs ys : List Act) (x m y : Talk) → AreDone xs x m → AreDone ys m y → AreDone (xs ++ ys) x y
done_both xs ys x m y first rest = record {
  text = first.text ++ rest.text;
  wrote = Appends-trans x.written m.written y.written first.text rest.text first.wrote rest.wrote;
  bytes = first.bytes ++ rest.bytes;
  read = Consumes-trans x.left m.left y.left first.bytes rest.bytes first.read rest.read;
  lines = lines_both xs ys first.text rest.text first.bytes rest.bytes first.lines rest.lines;
}

pub none_done : (x y : Talk) → y ≡ x → AreDone [] x y
none_done x y same = record {
  text = [];
  wrote = subst (λ t. Appends x.written t.written []) (sym same) (Appends-nil x.written);
  bytes = [];
  read = subst (λ t. Consumes x.left t.left []) (sym same) (Consumes-nil x.left);
  lines = (refl, refl);
}

pub anew_done : (acts : List Act) (x y : Talk) → AreDone acts x y → AreDone (Begins ∷ acts) x y
anew_done acts x y it = record {
  text = it.text;
  wrote = it.wrote;
  bytes = it.bytes;
  read = it.read;
  lines = ([], it.text, [], it.bytes, refl, refl, inl (refl, refl), it.lines);
}

-- ---------------------------------------------------------------- a frame that was put

-- what a frame comes to
abbrev pub act_told : Forward → Input → Act
act_told f (Heard h) = Puts f h
act_told f Lapsed = Begins
act_told f Destroyed = Loses f
act_told f Start = Loses f
act_told f Survey = Loses f
act_told f Committed = Loses f
act_told f CommitFailed = Loses f

act_lines : (p : ℕ) (f : Forward) (half : Half) (told : Input) (bytes : List ℕ) → AreTold told bytes
    → HasLines (act_told f told) (put_text p f half) bytes
act_lines p f half (Heard h) bytes tells = ((p, half, refl), tells)
act_lines p f half Lapsed bytes tells = inr (f, (p, half, refl), tells)
act_lines p f half Destroyed bytes tells = ((p, half, refl), inl tells)
act_lines p f half Start bytes tells = ((p, half, refl), inr tells)
act_lines p f half Survey bytes tells = ((p, half, refl), inr tells)
act_lines p f half Committed bytes tells = ((p, half, refl), inr tells)
act_lines p f half CommitFailed bytes tells = ((p, half, refl), inr tells)

pub put_done : {p : ℕ} {f : Forward} {half : Half} {told : Input} {x y : Talk} → IsPut p f half told x y → AreDone (act_told f told ∷ []) x y
put_done {p} {f} {half} {told} {x} {y} put =
    let (bytes, read, tells) = put.hears in record {
      text = put_text p f half;
      wrote = put.wrote;
      bytes = bytes;
      read = read;
      lines = one_line (act_told f told) (put_text p f half) bytes (act_lines p f half told bytes tells);
    }

-- ---------------------------------------------------------------- the steps of a machine

told_lines : (waiting : Option Forward) (last : Option Order) (told : Input) (bytes : List ℕ) → accepts (due_after last) told ≡ true
    → AreTold told bytes → HaveLines (acts_told last told) (order_line waiting last) bytes
told_lines waiting None Start bytes accepted tells = (refl, tells)
told_lines waiting None Survey bytes accepted tells = (refl, tells)
told_lines waiting None (Heard h) bytes accepted tells = absurd (false≢true accepted)
told_lines waiting None Destroyed bytes accepted tells = absurd (false≢true accepted)
told_lines waiting None Lapsed bytes accepted tells = absurd (false≢true accepted)
told_lines waiting None Committed bytes accepted tells = absurd (false≢true accepted)
told_lines waiting None CommitFailed bytes accepted tells = absurd (false≢true accepted)
told_lines waiting (Some (Put p f)) (Heard h) bytes accepted tells =
    one_line (Puts f h) (put_text p f (half_of waiting f)) bytes ((p, half_of waiting f, refl), tells)
told_lines waiting (Some (Put p f)) Destroyed bytes accepted tells =
    one_line (Loses f) (put_text p f (half_of waiting f)) bytes ((p, half_of waiting f, refl), inl tells)
told_lines waiting (Some (Put p f)) Lapsed bytes accepted tells =
    one_line Begins (put_text p f (half_of waiting f)) bytes (inr (f, (p, half_of waiting f, refl), tells))
told_lines waiting (Some (Put p f)) Start bytes accepted tells = absurd (false≢true accepted)
told_lines waiting (Some (Put p f)) Survey bytes accepted tells = absurd (false≢true accepted)
told_lines waiting (Some (Put p f)) Committed bytes accepted tells = absurd (false≢true accepted)
told_lines waiting (Some (Put p f)) CommitFailed bytes accepted tells = absurd (false≢true accepted)
told_lines waiting (Some (Commit x)) Committed bytes accepted tells =
    ([], [], bytes, [], refl, sym (append-nil bytes), (refl, tells), (refl, refl))
told_lines waiting (Some (Commit x)) CommitFailed bytes accepted tells = (refl, tells)
told_lines waiting (Some (Commit x)) (Heard h) bytes accepted tells = absurd (false≢true accepted)
told_lines waiting (Some (Commit x)) Destroyed bytes accepted tells = absurd (false≢true accepted)
told_lines waiting (Some (Commit x)) Lapsed bytes accepted tells = absurd (false≢true accepted)
told_lines waiting (Some (Commit x)) Start bytes accepted tells = absurd (false≢true accepted)
told_lines waiting (Some (Commit x)) Survey bytes accepted tells = absurd (false≢true accepted)
told_lines waiting (Some (Done e)) told bytes accepted tells = absurd (false≢true accepted)
told_lines waiting (Some (Halt w)) told bytes accepted tells = absurd (false≢true accepted)

begins_lines : (anew : Bool) → HaveLines (if anew then [] else Begins ∷ []) [] []
begins_lines true = (refl, refl)
begins_lines false = one_line Begins [] [] (inl (refl, refl))

ordered_lines : (o : Order) → HaveLines (acts_ordered o) [] []
ordered_lines (Put p f) = begins_lines (p == LATER)
ordered_lines (Commit x) = begins_lines false
ordered_lines (Done e) = begins_lines false
ordered_lines (Halt w) = begins_lines false

last_is : (m n : Machine) (steps : List Step) → m.last ≡ None → AreSteps m steps n → n.last ≡ last_order steps
last_is m n [] unstarted are = ap (λ k. k.last) are ∙ unstarted
last_is m n (s ∷ before) unstarted (mid, are, (accepted, answered, is)) = ap (λ k. k.last) is

steps_lines : (m n : Machine) (steps : List Step) (bytes : List ℕ) → m.last ≡ None → AreSteps m steps n → HaveRead steps bytes
    → HaveLines (acts_by steps) (written_by steps) bytes
steps_lines m n [] bytes unstarted are read = (refl, read)
steps_lines m n (s ∷ before) bytes unstarted (mid, are, (accepted, answered, is)) (first, last, both, read, tells) =
    let waiting = open_after before in
    let text = order_line waiting (last_order before) in
    let told = told_lines waiting (last_order before) s.told last
    (ap (λ o. accepts (due_after o) s.told) (sym (last_is m mid before unstarted are)) ∙ accepted) tells in
    let now = lines_both (acts_told (last_order before) s.told) (acts_ordered s.order) text [] last [] told (ordered_lines s.order) in
    let now_so : HaveLines (acts_told (last_order before) s.told ++ acts_ordered s.order) text last =
    subst (λ t. HaveLines (acts_told (last_order before) s.told ++ acts_ordered s.order) t last) (append-nil text)
    (subst (λ b. HaveLines (acts_told (last_order before) s.told ++ acts_ordered s.order) (text ++ []) b) (append-nil last) now) in
    subst (λ acts. HaveLines acts (written_by before ++ text) bytes) (sym (by_more s before))
    (subst (λ b. HaveLines (acts_by before ++ (acts_told (last_order before) s.told ++ acts_ordered s.order)) (written_by before ++ text) b) (sym both)
    (lines_both (acts_by before) (acts_told (last_order before) s.told ++ acts_ordered s.order) (written_by before) text first last
    (steps_lines m mid before first unstarted are read) now_so))

pub steps_done : (m n : Machine) (steps : List Step) (x y : Talk) → m.last ≡ None → Conducted m n steps x y → AreDone (acts_by steps) x y
steps_done m n steps x y unstarted it = record {
  text = written_by steps;
  wrote = it.wrote;
  bytes = it.bytes;
  read = it.read;
  lines = steps_lines m n steps it.bytes unstarted it.taken it.told;
}

-- ---------------------------------------------------------------- run after run

pub runs_done : {S : Type 0} (is_up is_sound : S → Type 0) (holds : S → List Record → Type 0) (block : Block) (first : Input)
    (was keep : S) (x y : Talk) (runs : List Run) → AreRuns is_up is_sound holds block first was keep x y runs
    → AreDone (acts_of_runs runs) x y
runs_done is_up is_sound holds block first was keep x y [] are = none_done x y are.1
runs_done is_up is_sound holds block first was keep x y (run ∷ before) (mid, at, are, is) =
    done_both (acts_of_runs before) (Begins ∷ acts_by run.steps) x at y
    (runs_done is_up is_sound holds block first was mid x at before are)
    (anew_done (acts_by run.steps) at y (steps_done (at_first 0 run.start) is.machine run.steps at y refl is.conducted))
