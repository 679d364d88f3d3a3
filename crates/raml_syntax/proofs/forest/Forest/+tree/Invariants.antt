use Rattle.raml_syntax.proofs.forest.Forest.+tree.Given as goal

abbrev pub decreases-tree : goal.decreases-tree
decreases-tree l = l.id.number
