use Rattle.dali_threads.proofs.run.run_on.Given as goal

abbrev pub ghosts-commission-P0-Ledger : goal.ghosts-commission-P0-Ledger
ghosts-commission-P0-Ledger g a = record { name = a.blanks.0.name; parts = a.blanks.0.parts }

abbrev pub ghosts-commission-P1-Ledger : goal.ghosts-commission-P1-Ledger
ghosts-commission-P1-Ledger g a = record { name = a.blanks.1.name; parts = a.blanks.1.parts }

abbrev pub ghosts-commission-P2-Ledger : goal.ghosts-commission-P2-Ledger
ghosts-commission-P2-Ledger g a = record { name = a.blanks.2.name; parts = a.blanks.2.parts }

abbrev pub ghosts-commission-P3-Ledger : goal.ghosts-commission-P3-Ledger
ghosts-commission-P3-Ledger g a = record { name = a.blanks.3.name; parts = a.blanks.3.parts }

abbrev pub ghosts-commission-D-Ledger : goal.ghosts-commission-D-Ledger
ghosts-commission-D-Ledger g a = record { name = a.blanks.4.name; parts = a.blanks.4.parts }
