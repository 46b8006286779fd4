-- Walking from an edge: all below the low edge, all below the high edge, then the diamond itself, each diamond once.
-- Lists of diamond numbers have the last first, as stores do.
use Rattle.std.specs.Prelude.{ℕ, Bool, true, false, cond, List, [], ◌∷◌, reverse, length, ◌==◌}
use Rattle.diagram.specs.Edges.{Target, terminal, diamond, Edge, Store}

-- k is among the numbers seen
abbrev pub met : List ℕ → ℕ → Bool
met [] k = false
met (j ∷ seen) k = cond (k == j) true (met seen k)

-- what is seen after a walk from the target t, the last met first
abbrev pub visit : Store → Target → List ℕ → List ℕ
visit [] t seen = seen
visit (n ∷ s) (terminal b) seen = seen
visit (n ∷ s) (diamond k) seen =
    cond (k == length s)
    (cond (met seen k) seen (k ∷ visit s n.high.target (visit s n.low.target seen)))
    (visit s (diamond k) seen)

-- the diamonds that a walk from an edge meets, the last first
abbrev pub reached : Store → Edge → List ℕ
reached s e = visit s e.target []

-- the diamonds that an edge reaches, in the order in which they are met
abbrev pub walk : Store → Edge → List ℕ
walk s e = reverse (reached s e)
