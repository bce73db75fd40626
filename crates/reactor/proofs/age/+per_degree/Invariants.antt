-- The measure of `age::per_degree` is the number of degrees.
use Rattle.reactor.proofs.age.+per_degree.Given as goal

abbrev pub decreases-per_degree : goal.decreases-per_degree
decreases-per_degree l = l.degrees
