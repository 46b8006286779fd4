-- Combinations that are settled without halves: of constant, equal or opposite edges.
use Rattle.std.specs.Prelude.{ℕ, Bool, true, false, cond, Some, None, Option}
use Rattle.diagram.specs.declared.edges.Edge.{Edge}
use Rattle.diagram.specs.declared.meanings.Meaning.{Meaning}
use Rattle.diagram.specs.Rules.{connective}
use Rattle.diagram.specs.Records.{constant_record, constant_of, other_mark, same_record}
use Rattle.cache.specs.declared.entries.Key.{Key}

-- the edge of n marks that is z where e is 0 and o where e is 1; none where that is the negation of e and the dialect does not negate
abbrev pub by_one : Meaning → Bool → Bool → Edge → ℕ → Option Edge
by_one D false true e n = Some e
by_one D true false e n = cond D.negates (Some (other_mark e)) None
by_one D false false e n = Some (constant_record D n false)
by_one D true true e n = Some (constant_record D n true)

-- the connective op of a and b, where v and w are the values of those that are constant: settled by constant, equal or opposite edges, and else none
abbrev pub settled_by : Meaning → (Bool → Bool → Bool) → Option Bool → Option Bool → Edge → Edge → ℕ → Option Edge
settled_by D op (Some v) (Some w) a b n = Some (constant_record D n (op v w))
settled_by D op (Some v) None a b n = by_one D (op v false) (op v true) b n
settled_by D op None (Some w) a b n = by_one D (op false w) (op true w) a n
settled_by D op None None a b n =
    cond (same_record a b) (by_one D (op false false) (op true true) a n)
    (cond (same_record a (other_mark b)) (by_one D (op false true) (op true false) a n) None)

-- the edge of a combination of n marks, where its two edges settle it; else none
abbrev pub settled : Meaning → Key → ℕ → Option Edge
settled D k n = settled_by D (connective k.connective) (constant_of k.left) (constant_of k.right) k.left k.right n
