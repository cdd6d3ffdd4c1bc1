use Rattle.llb_examples.proofs.runs_taken_back.«+there_and_back».Given as goal

abbrev pub decreases-there_and_back : goal.decreases-there_and_back
decreases-there_and_back l = l.most
