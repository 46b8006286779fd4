-- Combinations of unmarked edges: in a dialect that negates, every combination is one of these, or its negation.
use Rattle.std.specs.Prelude.{ℕ, Bool, true, false}
use Rattle.diagram.specs.declared.edges.Edge.{Edge}
use Rattle.diagram.specs.Rules.{connective}
use Rattle.diagram.specs.Dialects.{flips}
use Rattle.diagram.specs.Records.{other_mark}
use Rattle.cache.specs.declared.entries.Key.{Key}

-- the edge without its mark
abbrev pub unmarked : Edge → Edge
unmarked e = record { negated = false; word = e.word; target = e.target }

-- the edge with the other mark where b holds
abbrev pub turned : Bool → Edge → Edge
turned true e = other_mark e
turned false e = e

-- the combination is 1 where both unmarked edges are 0
abbrev pub plain_mark : Key → Bool
plain_mark k = connective k.connective k.left.negated k.right.negated

-- the value of the combination where the unmarked edges have the values x and y, reversed if it is 1 where both are 0
abbrev pub plain_value : Key → Bool → Bool → Bool
plain_value k x y = flips (plain_mark k) (connective k.connective (flips k.left.negated x) (flips k.right.negated y))

-- the connective with the value 0 at (0,0), p at (0,1), q at (1,0) and r at (1,1)
abbrev pub bits : Bool → Bool → Bool → ℕ
bits false false false = 0
bits true false false = 2
bits false true false = 4
bits true true false = 6
bits false false true = 8
bits true false true = 10
bits false true true = 12
bits true true true = 14

-- the combination of the unmarked edges that is k, or its negation where the plain mark holds
abbrev pub plain_key : Key → Key
plain_key k = record {
  connective = bits (plain_value k false true) (plain_value k true false) (plain_value k true true);
  left = unmarked k.left;
  right = unmarked k.right;
}
