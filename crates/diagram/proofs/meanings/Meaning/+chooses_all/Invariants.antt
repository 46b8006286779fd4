use Rattle.diagram.proofs.meanings.Meaning.+chooses_all.Given as goal

abbrev pub decreases-chooses_all : goal.decreases-chooses_all
decreases-chooses_all l = l.edge.word.length
