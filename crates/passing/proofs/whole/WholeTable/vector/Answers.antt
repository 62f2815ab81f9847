-- As the table's numbers say.
use Rattle.passing.proofs.whole.WholeTable.vector.Goals as goal

pub returns : goal.returns
returns c = c.vector_of.ensures c.args.self.now.states
