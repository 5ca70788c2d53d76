use Rattle.dali_soak.proofs.goes_further.Given as goal

abbrev pub ghosts-session-P0-Ledger : goal.ghosts-session-P0-Ledger
ghosts-session-P0-Ledger g a = record { name = a.blanks.0.name; parts = a.blanks.0.parts }

abbrev pub ghosts-session-P1-Ledger : goal.ghosts-session-P1-Ledger
ghosts-session-P1-Ledger g a = record { name = a.blanks.1.name; parts = a.blanks.1.parts }

abbrev pub ghosts-session-P2-Ledger : goal.ghosts-session-P2-Ledger
ghosts-session-P2-Ledger g a = record { name = a.blanks.2.name; parts = a.blanks.2.parts }

abbrev pub ghosts-session-P3-Ledger : goal.ghosts-session-P3-Ledger
ghosts-session-P3-Ledger g a = record { name = a.blanks.3.name; parts = a.blanks.3.parts }

abbrev pub ghosts-session-D-Ledger : goal.ghosts-session-D-Ledger
ghosts-session-D-Ledger g a = record { name = a.blanks.4.name; parts = a.blanks.4.parts }
