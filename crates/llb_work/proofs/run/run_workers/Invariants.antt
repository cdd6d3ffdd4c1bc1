use Rattle.llb_work.proofs.run.run_workers.Given as goal

abbrev pub ghosts-run_crew-S-Gated : goal.ghosts-run_crew-S-Gated
ghosts-run_crew-S-Gated g a = record { may_stop = g.G.Gate.may_stop; start = a.begin.board }

abbrev pub ghosts-run_crew-S-Ledger : goal.ghosts-run_crew-S-Ledger
ghosts-run_crew-S-Ledger g a = record { name = a.begin.blank.name; parts = a.begin.blank.parts }
