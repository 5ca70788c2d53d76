use Rattle.std.proofs.Common.{◌≡◌, ℕ, List, [], ◌∷◌, ◌++◌, Option, Some, None, Result, Ok, Err, refl, sym, ap, subst, ◌∙◌, Bool, true, false, ◌⊎◌, inl, inr}
use Rattle.std.{proofs.Common.IfSome, proofs.Common.IsErrOf, proofs.lemmas.List.append-nil, specs.Io.KnownBytes.Appends, specs.Io.KnownBytes.Keeps}
use mathlib.Core.List.{append_assoc}
use Rattle.dali_events.specs.Plan.{Plan}
use Rattle.dali_grammar.specs.{BenchLine.bench_line_of, Lines.words_of, Setting.NumberedLines, Setting.End, Setting.Setting, Setting.PlansNot}
use Rattle.dali_grammar.specs.{Setting.setting_of, SiteLine.site_line_of, declared.bench_line.BenchLine.BenchLine, declared.fault.ReplayFault.ReplayFault}
use Rattle.dali_grammar.specs.declared.fault.ReplayFault.TheVariants.{BadLine, BadPlan, Memory, Read, Write}
use Rattle.dali_replay.specs.{Bench.BenchState, Bench.start, Bench.after, Installation.Installation, Installation.installation_of}
use Rattle.dali_replay.specs.Replay.{Output, Plays, PlaysSite, PlaysSetting, Replays, Tells, HavePlayed, IsBadAt, wrote, played}
use Rattle.dali_replay.specs.declared.form.Form.{Form}

-- ---------------------------------------------------------------- texts

pub appends_none : (a : Option (List ℕ)) → Appends a a []
appends_none None = tt
appends_none (Some xs) = sym (append-nil xs)

pub appends_more : (a b c : Option (List ℕ)) (xs ys : List ℕ) → Appends a b xs → Appends b c ys → Appends a c (xs ++ ys)
appends_more None b c xs ys first second = tt
appends_more (Some us) None c xs ys first second = absurd first
appends_more (Some us) (Some vs) None xs ys first second = absurd second
appends_more (Some us) (Some vs) (Some ws) xs ys first second =
    second ∙ ap (λ zs. zs ++ ys) first ∙ append_assoc us xs ys

-- ---------------------------------------------------------------- benches

-- a text, and then what playing the rest wrote
plays_more : (a b c : Option (List ℕ)) (text : List ℕ) (more : Output) (r : Result (Unit {0}) ReplayFault)
    → Appends a b text → Plays more b c r → Plays (record { text = text ++ more.text; end = more.end }) a c r
plays_more a b c text more (Ok x) first second = (second.0, appends_more a b c text more.text first second.1)
plays_more a b c text more (Err (BadLine n)) first second = (second.0, appends_more a b c text more.text first second.1)
plays_more a b c text more (Err (BadPlan e)) first second = (second.0, appends_more a b c text more.text first second.1)
plays_more a b c text more (Err Memory) first second =
    (text ++ second.0, second.1, append_assoc text second.0 second.1 ∙ ap (λ xs. text ++ xs) second.2, appends_more a b c text second.0 first second.3)
plays_more a b c text more (Err Read) first second = absurd second
plays_more a b c text more (Err Write) first second = tt

-- one line was played
pub plays_line : (form : Form) (w : BenchState) (lines rest : NumberedLines) (n : ℕ) (line : List ℕ) (asked : BenchLine) (a b c : Option (List ℕ))
    (r : Result (Unit {0}) ReplayFault)
    → lines ≡ (n, line) ∷ rest → bench_line_of (words_of line) ≡ Some asked → Appends a b (wrote form (n, line) w asked)
    → Plays (played form (after w asked) rest) b c r → Plays (played form w lines) a c r
plays_line form w lines rest n line asked a b c r next reads is more =
    rw (next, reads) (plays_more a b c (wrote form (n, line) w asked) (played form (after w asked) rest) r is more)

-- the next line is a bad line
pub plays_bad_line : (form : Form) (w : BenchState) (lines rest : NumberedLines) (n : ℕ) (line : List ℕ) (a : Option (List ℕ))
    → lines ≡ (n, line) ∷ rest → bench_line_of (words_of line) ≡ None → Plays {A = Unit {0}} (played form w lines) a a (Err (BadLine n))
plays_bad_line form w lines rest n line a next reads = rw (next, reads) (refl, appends_none a)

-- no line is left
pub plays_done : (form : Form) (w : BenchState) (lines : NumberedLines) (a : Option (List ℕ)) → lines ≡ []
    → Plays {A = Unit {0}} (played form w lines) a a (Ok tt)
plays_done form w lines a done = rw done (refl, appends_none a)

-- memory ran out before the next text
pub plays_memory : (a : Option (List ℕ)) (o : Output) (r : Result (Unit {0}) ReplayFault) → r ≡ Err Memory → Plays o a a r
plays_memory a o r is = subst (λ (s : Result (Unit {0}) ReplayFault). Plays o a a s) (sym is) ([], o.text, refl, appends_none a)

-- ---------------------------------------------------------------- sites

-- nothing was played yet
pub have_played_none : (form : Form) (n : Installation) (lines : NumberedLines) (a : Option (List ℕ)) → HavePlayed form n lines lines n a a
have_played_none form n lines a = record { front = []; text = []; split = refl; chain = (refl, refl); wrote = appends_none a }

module _ (form : Form) (n u : Installation) (lines left : NumberedLines) (a b : Option (List ℕ)) (before : HavePlayed form n lines left u a b) where
  pub site_bad_line : (rest : NumberedLines) (k : ℕ) (line : List ℕ) → left ≡ (k, line) ∷ rest → site_line_of (words_of line) ≡ None
      → PlaysSite {A = Unit {0}} form n lines a b (Err (BadLine k))
  site_bad_line rest k line next reads = (u, left, subst (λ (xs : NumberedLines). IsBadAt k xs) (sym next) (refl, reads), before)

  pub site_done : left ≡ [] → PlaysSite {A = Unit {0}} form n lines a b (Ok tt)
  site_done done = (u, subst (λ (xs : NumberedLines). HavePlayed form n lines xs u a b) done before)

  pub site_memory : (r : Result (Unit {0}) ReplayFault) → r ≡ Err Memory → PlaysSite form n lines a b r
  site_memory r is = subst (λ (s : Result (Unit {0}) ReplayFault). PlaysSite form n lines a b s) (sym is) (u, left, before)

-- ---------------------------------------------------------------- whole inputs

-- memory ran out before the first text
setting_memory : (B : Type 0) (form : Form) (a : Option (List ℕ)) (is_bench : Bool) (p : Plan) (lines : NumberedLines)
    → PlaysSetting {A = B} form is_bench p lines a a (Err Memory)
setting_memory B form a true p lines = ([], (played form (start p) lines).text, refl, appends_none a)
setting_memory B form a false p lines = (installation_of p, lines, have_played_none form (installation_of p) lines a)

pub replays_memory : (B : Type 0) (form : Form) (a : Option (List ℕ)) (s : Result (Setting × NumberedLines) End) → Replays {A = B} form s a a (Err Memory)
replays_memory B form a (Err end) = ([], [], refl, appends_none a)
replays_memory B form a (Ok s) = setting_memory B form a s.0.0 s.0.1 s.1

-- a plan that is not made
pub replays_no_plan : (B : Type 0) (form : Form) (a : Option (List ℕ)) (s : Result (Setting × NumberedLines) End) (e : ReplayFault) → PlansNot s e
    → Replays {A = B} form s a a (Err e)
replays_no_plan B form a s (BadLine n) not = rw not (refl, appends_none a)
replays_no_plan B form a s (BadPlan e) not = rw not (refl, appends_none a)
replays_no_plan B form a s Memory not = replays_memory B form a s
replays_no_plan B form a s Read not = absurd not
replays_no_plan B form a s Write not = absurd not

-- memory was wanting
pub replays_want : (form : Form) (a : Option (List ℕ)) (s : Result (Setting × NumberedLines) End) (r : Result (Unit {0}) ReplayFault) → r ≡ Err Memory
    → Replays form s a a r
replays_want form a s r is = subst (λ (x : Result (Unit {0}) ReplayFault). Replays form s a a x) (sym is) (replays_memory (Unit {0}) form a s)

-- what a run over the bytes says is what the whole run says
replays_never_read : (form : Form) (s : Result (Setting × NumberedLines) End) (old new : Option (List ℕ))
    → Replays {A = Unit {0}} form s old new (Err Read) → ⊥
replays_never_read form (Err end) old new h = h
replays_never_read form (Ok s) old new h = go s.0.0 h where
  go : (is_bench : Bool) → PlaysSetting {A = Unit {0}} form is_bench s.0.1 s.1 old new (Err Read) → ⊥
  go true h' = h'
  go false h' = h'

pub never_read : (form : Form) (s : Result (Setting × NumberedLines) End) (old new : Option (List ℕ)) (r : Result (Unit {0}) ReplayFault)
    → Replays form s old new r → IsErrOf r Read → ⊥
never_read form s old new r h is =
    replays_never_read form s old new (subst (λ (x : Result (Unit {0}) ReplayFault). Replays form s old new x) is h)

pub tells_of_replays : (form : Form) (s : Result (Setting × NumberedLines) End) (old new : Option (List ℕ)) (r : Result (Unit {0}) ReplayFault)
    → Replays form s old new r → Tells form s old new r
tells_of_replays form s old new (Ok x) h = h
tells_of_replays form s old new (Err (BadLine n)) h = h
tells_of_replays form s old new (Err (BadPlan e)) h = h
tells_of_replays form s old new (Err Memory) h = h
tells_of_replays form s old new (Err Read) h = absurd (replays_never_read form s old new h)
tells_of_replays form s old new (Err Write) h = tt

-- what is told of the bytes that were read is told of the bytes that the reader tells
pub tells_some : (left : Option (List ℕ)) (input : List ℕ) (Is : List ℕ → Type 0) → IfSome left (λ bytes. bytes ≡ input) → Is input → IfSome left Is
tells_some None input Is is h = tt
tells_some (Some bytes) input Is is h = subst Is (sym is) h

-- the input was not read
keeps_same : (a : Option (List ℕ)) → Keeps a a
keeps_same None = tt
keeps_same (Some xs) = refl

pub tells_fault : (form : Form) (a : Option (List ℕ)) (input : List ℕ) (e : ReplayFault) → (e ≡ Memory) ⊎ (e ≡ Read)
    → Tells {A = Unit {0}} form (setting_of input) a a (Err e)
tells_fault form a input e (inl is) = rw is (replays_memory (Unit {0}) form a (setting_of input))
tells_fault form a input e (inr is) = rw is (keeps_same a)

pub tells_unread : (form : Form) (left a : Option (List ℕ)) (e : ReplayFault) (r : Result (Unit {0}) ReplayFault) → r ≡ Err e
    → (e ≡ Memory) ⊎ (e ≡ Read) → IfSome left (λ input. Tells form (setting_of input) a a r)
tells_unread form None a e r is fault = tt
tells_unread form (Some input) a e r is fault = rw is (tells_fault form a input e fault)
