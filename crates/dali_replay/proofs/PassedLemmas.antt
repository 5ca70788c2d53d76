use Rattle.std.proofs.Common.{ℕ, List, [], Bool, true, false, ◌∙◌, Option, Some, None, Result, Ok, Err}
use Rattle.std.specs.Io.KnownBytes.{Appends, Keeps}
use Rattle.dali_events.specs.Plan.{Plan}
use Rattle.dali_grammar.specs.{Setting.NumberedLines, Setting.End, Setting.Setting, declared.fault.ReplayFault.ReplayFault}
use Rattle.dali_grammar.specs.declared.fault.ReplayFault.TheVariants.{BadLine, BadPlan, Memory, Read, Write}
use Rattle.dali_replay.specs.{Bench.start, Installation.Installation, Installation.installation_of, Replay.Output, Replay.Plays, Replay.PlaysSite}
use Rattle.dali_replay.specs.{Replay.PlaysSetting, Replay.Replays, Replay.HavePlayed, Replay.played, Replay.nothing, declared.form.Form.Form}

-- WHAT A RUN SAYS stays true where the bytes that were written are passed on.

appends_kept : (a b c : Option (List ℕ)) (xs : List ℕ) → Appends a b xs → Keeps b c → Appends a c xs
appends_kept None b c xs first kept = tt
appends_kept (Some us) None c xs first kept = absurd first
appends_kept (Some us) (Some vs) None xs first kept = absurd kept
appends_kept (Some us) (Some vs) (Some ws) xs first kept = kept ∙ first

module _ (form : Form) (a b c : Option (List ℕ)) (kept : Keeps b c) where
  plays_kept : (o : Output) (r : Result (Unit {0}) ReplayFault) → Plays o a b r → Plays o a c r
  plays_kept o (Ok x) h = (h.0, appends_kept a b c o.text h.1 kept)
  plays_kept o (Err (BadLine n)) h = (h.0, appends_kept a b c o.text h.1 kept)
  plays_kept o (Err (BadPlan e)) h = (h.0, appends_kept a b c o.text h.1 kept)
  plays_kept o (Err Memory) h = (h.0, h.1, h.2, appends_kept a b c h.0 h.3 kept)
  plays_kept o (Err Read) h = h
  plays_kept o (Err Write) h = tt

  played_kept : (n : Installation) (lines more : NumberedLines) (m : Installation) → HavePlayed form n lines more m a b → HavePlayed form n lines more m a c
  played_kept n lines more m h = record { front = h.front; text = h.text; split = h.split; chain = h.chain; wrote = appends_kept a b c h.text h.wrote kept }

  site_kept : (n : Installation) (lines : NumberedLines) (r : Result (Unit {0}) ReplayFault) → PlaysSite form n lines a b r → PlaysSite form n lines a c r
  site_kept n lines (Ok x) h = (h.0, played_kept n lines [] h.0 h.1)
  site_kept n lines (Err (BadLine k)) h = (h.0, h.1, h.2, played_kept n lines h.1 h.0 h.3)
  site_kept n lines (Err (BadPlan e)) h = h
  site_kept n lines (Err Memory) h = (h.0, h.1, played_kept n lines h.1 h.0 h.2)
  site_kept n lines (Err Read) h = h
  site_kept n lines (Err Write) h = tt

  setting_kept : (is_bench : Bool) (p : Plan) (lines : NumberedLines) (r : Result (Unit {0}) ReplayFault) → PlaysSetting form is_bench p lines a b r
      → PlaysSetting form is_bench p lines a c r
  setting_kept true p lines r h = plays_kept (played form (start p) lines) r h
  setting_kept false p lines r h = site_kept (installation_of p) lines r h

  pub replays_kept : (s : Result (Setting × NumberedLines) End) (r : Result (Unit {0}) ReplayFault) → Replays form s a b r → Replays form s a c r
  replays_kept (Err end) r h = plays_kept (nothing end) r h
  replays_kept (Ok s) r h = setting_kept s.0.0 s.0.1 s.1 r h
