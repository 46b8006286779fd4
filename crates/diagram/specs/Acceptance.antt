-- Which edges are accepted and which stores are normal; each as a statement and as a test.
use Rattle.std.specs.Prelude.{◌≡◌, ◌<◌, ◌≤◌, Bool, true, false, cond, not, ◌&&◌, ◌≢◌, List, [], ◌∷◌, ◌++◌, length, Some, None, Option, ◌==◌, nat_le, nat_lt}
use Rattle.diagram.specs.declared.letters.Letter.{Letter}
use Rattle.diagram.specs.declared.meanings.Meaning.{Meaning}
use Rattle.diagram.specs.Rules.{Rule, arity}
use Rattle.diagram.specs.Edges.{Target, terminal, diamond, Edge, Diamond, Store, rule_of, same}
use Rattle.diagram.specs.Making.{choose, find, Made, upright, low_upright, high_upright}

-- Accepted edges --

-- the target stands in the store
abbrev pub Within : Store → Target → Type 0
Within s (terminal b) = Unit {0}
Within s (diamond k) = k < length s

-- each letter of the word is the one that making chooses for the two halves that it stands for
abbrev pub Spelled : Meaning → Store → Target → List Letter → Type 0
Spelled D s t [] = Unit {0}
Spelled D s t (c ∷ w) =
    Spelled D s t w
    × (choose D (low_upright D s (c ∷ w) t) (high_upright D s (c ∷ w) t) ≡ Some (upright (c ∷ w) t))

-- every condition of acceptance but the bound of 20 marks
pub record Accepted (D : Meaning) (s : Store) (e : Edge) : Type 0 where
  pub within : Within s e.target
  -- a dialect that does not negate uses no mark
  pub signed : D.negates ≡ false → e.negated ≡ false
  -- one that negates uses no terminal one
  pub ended : D.negates ≡ true → e.target ≢ terminal true
  pub spelled : Spelled D s e.target e.word

-- what a call accepts: that, and at most 20 marks
pub record Acceptable (D : Meaning) (s : Store) (e : Edge) : Type 0 where
  pub accepted : Accepted D s e
  pub short : arity (rule_of s e) ≤ 20

-- Normal stores --

-- the diamond n may be added to the store s: its edges are accepted there and of one arity, no letter stands for it, its low edge is unmarked, and it is new
pub record Addable (D : Meaning) (s : Store) (n : Diamond) : Type 0 where
  pub low_accepted : Accepted D s n.low
  pub high_accepted : Accepted D s n.high
  pub level : arity (rule_of s n.low) ≡ arity (rule_of s n.high)
  pub unlettered : choose D n.low n.high ≡ None
  pub upright_low : n.low.negated ≡ false
  pub new : find s n ≡ None

-- each diamond could be added to those before it
abbrev pub Normal : Meaning → Store → Type 0
Normal D [] = Unit {0}
Normal D (n ∷ s) = Normal D s × Addable D s n

-- the edges of each diamond have at most 19 marks, so that a diamond has at most 20
abbrev pub Shallow : Store → Type 0
Shallow [] = Unit {0}
Shallow (n ∷ s) = Shallow s × (arity (rule_of s n.low) ≤ 19) × (arity (rule_of s n.high) ≤ 19)

-- the store s' is s with diamonds added
abbrev pub Grown : Store → Store → Type 0
Grown s s' = (ns : List Diamond) × (s' ≡ ns ++ s)

-- what is to be true of a store and an edge that were made from the normal store s for the rule f
pub record Sound (D : Meaning) (s : Store) (f : Rule) (m : Made) : Type 0 where
  pub normal : Normal D m.0
  pub grown : Grown s m.0
  pub accepted : Accepted D m.0 m.1
  pub rule : rule_of m.0 m.1 ≡ f

-- The same, as tests --

-- the target stands in the store
abbrev pub inside : Store → Target → Bool
inside s (terminal b) = true
inside s (diamond k) = nat_lt k (length s)

-- not terminal one
abbrev pub usual : Target → Bool
usual (terminal b) = not b
usual (diamond k) = true

-- the edge chosen, if any, is e
abbrev pub gives : Option Edge → Edge → Bool
gives None e = false
gives (Some d) e = same d e

-- there is none
abbrev pub nothing : {A : Type 0} → Option A → Bool
nothing None = true
nothing (Some x) = false

-- each letter of the word is the one that making chooses for the halves that it stands for
abbrev pub well_spelled : Meaning → Store → Target → List Letter → Bool
well_spelled D s t [] = true
well_spelled D s t (c ∷ w) =
    well_spelled D s t w && gives (choose D (low_upright D s (c ∷ w) t) (high_upright D s (c ∷ w) t)) (upright (c ∷ w) t)

-- every condition but the bound of 20 marks
abbrev pub accepts : Meaning → Store → Edge → Bool
accepts D s e =
    inside s e.target && (cond D.negates (usual e.target) (not e.negated) && well_spelled D s e.target e.word)

-- that, and at most 20 marks: what a call accepts
abbrev pub acceptable : Meaning → Store → Edge → Bool
acceptable D s e = accepts D s e && nat_le (arity (rule_of s e)) 20

-- the diamond n may be added to the store s
abbrev pub admits : Meaning → Store → Diamond → Bool
admits D s n =
    accepts D s n.low
    && (accepts D s n.high
    && (arity (rule_of s n.low) == arity (rule_of s n.high)
    && (nothing (choose D n.low n.high) && (not n.low.negated && nothing (find s n)))))

-- each diamond could be added to those before it
abbrev pub normal : Meaning → Store → Bool
normal D [] = true
normal D (n ∷ s) = normal D s && admits D s n

-- the edges of each diamond have at most 19 marks
abbrev pub shallow : Store → Bool
shallow [] = true
shallow (n ∷ s) = shallow s && (nat_le (arity (rule_of s n.low)) 19 && nat_le (arity (rule_of s n.high)) 19)
