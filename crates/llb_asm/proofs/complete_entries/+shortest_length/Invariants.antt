use Rattle.llb_asm.proofs.complete_entries.+shortest_length.Given as goal

abbrev pub decreases-shortest_length : goal.decreases-shortest_length
decreases-shortest_length l = l.more
