use Rattle.search.proofs.walk.+factorial.Given as goal

abbrev pub decreases-factorial : goal.decreases-factorial
decreases-factorial l = l.n
