use Rattle.llb_examples.proofs.orders_of_two_workers.«+ends».Given as goal

abbrev pub decreases-ends : goal.decreases-ends
decreases-ends o l = l.most
