use Rattle.std.proofs.Common.{◌≡◌, ℕ, List, [], ◌∷◌, ◌++◌, Bool, true, false, Option, Some, Result, Ok, Err, refl, ap, subst}
use Rattle.std.specs.Io.KnownBytes.{Appends}
use Rattle.dali_events.specs.{Plan.Plan, declared.event.Event.Event}
use Rattle.dali_grammar.specs.{Lines.words_of, Setting.NumberedLines, Setting.End, Setting.Setting, SiteLine.site_line_of}
use Rattle.dali_grammar.specs.declared.fault.ReplayFault.{ReplayFault, TheVariants.BadLine, TheVariants.BadPlan, TheVariants.Memory, TheVariants.Read}
use Rattle.dali_grammar.specs.declared.{fault.ReplayFault.TheVariants.Write, site_line.SiteLine.SiteLine}
use Rattle.dali_replay.specs.{BenchReport.report, Installation.Installation, Json.written, Player.Turns, Player.Takes, Player.IsBad, Player.PlaysOn}
use Rattle.dali_replay.specs.{Player.player_of, Replay.PlaysSite, Replay.PlaysSetting, Replay.HavePlayed, Replay.Replays, Replay.played, SiteReport.Says}
use Rattle.dali_replay.{specs.declared.form.Form.Form, specs.declared.player.Player.Player, proofs.ReplayLemmas.appends_more}
use Rattle.dali_replay.proofs.ReplayLemmas.{plays_line, plays_bad_line, plays_done, plays_memory, have_played_none, site_bad_line, site_done, site_memory}
use Rattle.dali_replay.specs.declared.player.Player.TheVariants as player

-- whatever playing the rest leaves behind, playing the whole does
abbrev pub LeadsOn : Form → Player → NumberedLines → Option (List ℕ) → Player → NumberedLines → Option (List ℕ) → Type 0
LeadsOn form s lines a t rest b =
    (c : Option (List ℕ)) (r : Result (Unit {0}) ReplayFault) → PlaysOn form t rest b c r → PlaysOn form s lines a c r

-- ---------------------------------------------------------------- a line of a site, and those after it

module _ (form : Form) (n m : Installation) (k : ℕ) (line : List ℕ) (asked : SiteLine) (text : List ℕ) (a b c : Option (List ℕ))
    (reads : site_line_of (words_of line) ≡ Some asked) (says : Says n asked text m)
    (wrote : Appends a b (written form k line (player.Site m) text)) where
  have_played_line : (rest more : NumberedLines) (end : Installation) → HavePlayed form m rest more end b c
      → HavePlayed form n ((k, line) ∷ rest) more end a c
  have_played_line rest more end then = record {
    front = (k, line) ∷ then.front;
    text = written form k line (player.Site m) text ++ then.text;
    split = ap (λ xs. (k, line) ∷ xs) then.split;
    chain = (asked, text, m, then.text, reads, says, then.chain, refl);
    wrote = appends_more a b c (written form k line (player.Site m) text) then.text wrote then.wrote;
  }

  site_line : (rest : NumberedLines) (r : Result (Unit {0}) ReplayFault) → PlaysSite form m rest b c r
      → PlaysSite form n ((k, line) ∷ rest) a c r
  site_line rest (Ok x) then = (then.0, have_played_line rest [] then.0 then.1)
  site_line rest (Err (BadLine l)) then = (then.0, then.1, then.2, have_played_line rest then.1 then.0 then.3)
  site_line rest (Err (BadPlan e)) then = absurd then
  site_line rest (Err Memory) then = (then.0, then.1, have_played_line rest then.1 then.0 then.2)
  site_line rest (Err Read) then = absurd then
  site_line rest (Err Write) then = tt

-- ---------------------------------------------------------------- a line, and those after it

pub line_played : (form : Form) (s t : Player) (rest : NumberedLines) (k : ℕ) (line text : List ℕ) (came : Option Event) (a b c : Option (List ℕ))
    (r : Result (Unit {0}) ReplayFault)
    → Turns s line text came t → Appends a b (written form k line t text) → PlaysOn form t rest b c r → PlaysOn form s ((k, line) ∷ rest) a c r
line_played form (player.Bench w) t rest k line text came a b c r turns wrote then =
    plays_line form w ((k, line) ∷ rest) rest k line turns.0 a b c r refl turns.1
    (subst (λ (u : Player). Appends a b (written form k line u (report w turns.0))) turns.4
    (subst (λ (xs : List ℕ). Appends a b (written form k line t xs)) turns.2 wrote))
    (subst (λ (u : Player). PlaysOn form u rest b c r) turns.4 then)
line_played form (player.Site n) t rest k line text came a b c r turns wrote then =
    site_line form n turns.1 k line turns.0 text a b c turns.2 turns.3
    (subst (λ (u : Player). Appends a b (written form k line u text)) turns.5 wrote) rest r
    (subst (λ (u : Player). PlaysOn form u rest b c r) turns.5 then)

-- one line more, after whatever was played
pub leads_more : (form : Form) (s0 s t : Player) (lines0 lines rest : NumberedLines) (a0 a b : Option (List ℕ)) (k : ℕ) (line text : List ℕ)
    (came : Option Event)
    → LeadsOn form s0 lines0 a0 s lines a → lines ≡ (k, line) ∷ rest → Turns s line text came t → Appends a b (written form k line t text)
    → LeadsOn form s0 lines0 a0 t rest b
leads_more form s0 s t lines0 lines rest a0 a b k line text came leads next turns wrote = λ c r then. leads c r
    (rw next (line_played form s t rest k line text came a b c r turns wrote then))

-- no line is left
pub plays_end : (form : Form) (s : Player) (lines : NumberedLines) (a : Option (List ℕ)) → lines ≡ []
    → PlaysOn {A = Unit {0}} form s lines a a (Ok tt)
plays_end form (player.Bench w) lines a done = plays_done form w lines a done
plays_end form (player.Site n) lines a done = site_done form n n lines lines a a (have_played_none form n lines a) done

-- the next line is a bad one, or memory is wanting
plays_bad : (form : Form) (s : Player) (rest : NumberedLines) (k : ℕ) (line : List ℕ) (a : Option (List ℕ)) → IsBad s line
    → PlaysOn {A = Unit {0}} form s ((k, line) ∷ rest) a a (Err (BadLine k))
plays_bad form (player.Bench w) rest k line a bad = plays_bad_line form w ((k, line) ∷ rest) rest k line a refl bad
plays_bad form (player.Site n) rest k line a bad =
    site_bad_line form n n ((k, line) ∷ rest) ((k, line) ∷ rest) a a (have_played_none form n ((k, line) ∷ rest) a) rest k line refl bad

pub plays_want : (form : Form) (s : Player) (lines : NumberedLines) (a : Option (List ℕ)) (r : Result (Unit {0}) ReplayFault) → r ≡ Err Memory
    → PlaysOn form s lines a a r
plays_want form (player.Bench w) lines a r is = plays_memory a (played form w lines) r is
plays_want form (player.Site n) lines a r is = site_memory form n n lines lines a a (have_played_none form n lines a) r is

plays_stop : (form : Form) (s t : Player) (n : ℕ) (line old new : List ℕ) (lines rest : NumberedLines) (e : ReplayFault) (a : Option (List ℕ))
    → Takes s n line old t new (Err e) → lines ≡ (n, line) ∷ rest → PlaysOn {A = Unit {0}} form s lines a a (Err e)
plays_stop form s t n line old new lines rest (BadLine k) a takes next = rw (next, takes.0) (plays_bad form s rest n line a takes.1)
plays_stop form s t n line old new lines rest Memory a takes next = plays_want form s lines a (Err Memory) refl
plays_stop form s t n line old new lines rest _ a takes next = absurd takes

pub plays_fault : (form : Form) (s t : Player) (n : ℕ) (line old new : List ℕ) (lines rest : NumberedLines) (e : ReplayFault) (a : Option (List ℕ))
    (r : Result (Unit {0}) ReplayFault)
    → r ≡ Err e → Takes s n line old t new (Err e) → lines ≡ (n, line) ∷ rest → PlaysOn form s lines a a r
plays_fault form s t n line old new lines rest e a r is takes next = rw is (plays_stop form s t n line old new lines rest e a takes next)

-- ---------------------------------------------------------------- whole inputs

-- what playing says, where the first lines set up what stands
plays_setting : (form : Form) (is_bench : Bool) (p : Plan) (lines : NumberedLines) (a c : Option (List ℕ)) (r : Result (Unit {0}) ReplayFault)
    → PlaysOn form (player_of is_bench p) lines a c r → PlaysSetting form is_bench p lines a c r
plays_setting form true p lines a c r plays = plays
plays_setting form false p lines a c r plays = plays

pub replays_all : (form : Form) (s : Result (Setting × NumberedLines) End) (is_bench : Bool) (p : Plan) (lines : NumberedLines) (x : Player)
    (a c : Option (List ℕ)) (r : Result (Unit {0}) ReplayFault)
    → s ≡ Ok ((is_bench, p), lines) → x ≡ player_of is_bench p → PlaysOn form x lines a c r → Replays form s a c r
replays_all form s is_bench p lines x a c r is begun plays =
    rw is (plays_setting form is_bench p lines a c r (subst (λ (y : Player). PlaysOn form y lines a c r) begun plays))
