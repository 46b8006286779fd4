use Rattle.diagram.proofs.edges.Word.+is_spelled.Given as goal

abbrev pub decreases-is_spelled : goal.decreases-is_spelled
decreases-is_spelled l = l.self.length
