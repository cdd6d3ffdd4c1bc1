use Rattle.llb_examples.proofs.orders_of_two_workers.«+longest_run».Given as goal

abbrev pub decreases-longest_run : goal.decreases-longest_run
decreases-longest_run l = l.most
