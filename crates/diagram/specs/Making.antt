-- Making an edge from two halves, and inserting a rule into a store.
use Rattle.std.specs.Prelude.{ℕ, Bool, true, false, cond, List, [], ◌∷◌, length, replicate, Some, None, Option}
use Rattle.diagram.specs.declared.letters.Letter.{Letter}
use Rattle.diagram.specs.declared.letters.Letter.TheVariants.{U, X, C00, C01, C10, C11}
use Rattle.diagram.specs.declared.meanings.Meaning.{Meaning}
use Rattle.diagram.specs.Rules.{Rule, constant, ◌⋆◌, arity}
use Rattle.diagram.specs.Edges.{Target, terminal, diamond, Edge, edge, Diamond, pair, Store, flip, put, same, same_diamond, rule_of, diamond_at}
use Rattle.diagram.specs.Dialects.{answer_at, look}

-- the edge of n marks that is constantly b: where the dialect negates, one is the negated zero
abbrev pub flat : Meaning → ℕ → Bool → Edge
flat D n b = cond D.negates (edge b (replicate n U) (terminal false)) (edge false (replicate n U) (terminal b))

-- Making --

-- the half that a letter is set on
abbrev pub source : {A : Type 0} → Letter → A → A → A
source U l h = l
source X l h = l
source C00 l h = h
source C01 l h = h
source C10 l h = l
source C11 l h = l

-- the answer c set on the half that it goes on; none where there is no answer
abbrev pub written : Option Letter → Edge → Edge → Option Edge
written None l h = None
written (Some c) l h = Some (put c (source c l h))

-- the edge that stands for the halves l and h by a letter, if there is one: u for equal halves, else the dialect's answer at their look
abbrev pub choose : Meaning → Edge → Edge → Option Edge
choose D l h = cond (same l h) (Some (put U l)) (written (answer_at D (look D l h)) l h)

-- the number of the diamond n, if it stands in the store
abbrev pub find : Store → Diamond → Option ℕ
find [] n = None
find (m ∷ s) n = cond (same_diamond m n) (Some (length s)) (find s n)

-- the unmarked edge without letters to diamond k
abbrev pub diamond_edge : ℕ → Edge
diamond_edge k = edge false [] (diamond k)

-- a store, and an edge of it
abbrev pub Made : Type 0
Made = Store × Edge

-- the edge to the diamond n: at the number k that it has in s, or else added under the next number
abbrev pub seat : Option ℕ → Store → Diamond → Made
seat None s n = (n ∷ s, diamond_edge (length s))
seat (Some k) s n = (s, diamond_edge k)

-- the diamond with the halves l and h: the one that stands, or a new one under the next number
abbrev pub add : Store → Edge → Edge → Made
add s l h = seat (find s (pair l h)) s (pair l h)

-- the same store, and the edge with the other mark
abbrev pub flipped : Made → Made
flipped m = (m.0, flip m.1)

-- without a letter, a marked low half gives the negation of the edge made from both halves negated
abbrev pub make_by : Option Edge → Store → Edge → Edge → Made
make_by (Some e) s l h = (s, e)
make_by None s l h = cond l.negated (flipped (add s (flip l) (flip h))) (add s l h)

-- the edge made from the halves l and h in the store s
abbrev pub make : Meaning → Store → Edge → Edge → Made
make D s l h = make_by (choose D l h) s l h

-- Inserting --

-- the rule f stored in s: a constant is a terminal edge; else the low half is inserted, then the high half, then the edge is made from the two
abbrev pub insert : Meaning → Store → Rule → Made
insert D s (constant b) = (s, flat D 0 b)
insert D s (f ⋆ g) = let a : Made = insert D s f in let b : Made = insert D a.0 g in make D b.0 a.1 b.1

-- how many diamonds the rule f makes in an empty store
abbrev pub count : Meaning → Rule → ℕ
count D f = length (insert D [] f).0

-- The halves that an edge stands for --

-- the halves that a letter stands for on the edge e, where k has the constant edges
abbrev pub low_of : Letter → (Bool → Edge) → Edge → Edge
low_of U k e = e
low_of X k e = e
low_of C00 k e = k false
low_of C01 k e = k true
low_of C10 k e = e
low_of C11 k e = e

-- the high half that a letter stands for
abbrev pub high_of : Letter → (Bool → Edge) → Edge → Edge
high_of U k e = e
high_of X k e = flip e
high_of C00 k e = e
high_of C01 k e = e
high_of C10 k e = k false
high_of C11 k e = k true

-- the unmarked edge
abbrev pub upright : List Letter → Target → Edge
upright w t = edge false w t

-- the low half of the unmarked edge with the word w and the target t: that of the topmost letter, or of the diamond; an edge of no mark has none, and is given back
abbrev pub low_upright : Meaning → Store → List Letter → Target → Edge
low_upright D s [] (terminal b) = upright [] (terminal b)
low_upright D s [] (diamond k) = (diamond_at s k).low
low_upright D s (c ∷ w) t = low_of c (flat D (arity (rule_of s (upright w t)))) (upright w t)

-- its high half
abbrev pub high_upright : Meaning → Store → List Letter → Target → Edge
high_upright D s [] (terminal b) = upright [] (terminal b)
high_upright D s [] (diamond k) = (diamond_at s k).high
high_upright D s (c ∷ w) t = high_of c (flat D (arity (rule_of s (upright w t)))) (upright w t)

-- the edge with the other mark where b holds
abbrev pub flip_if : Bool → Edge → Edge
flip_if true e = flip e
flip_if false e = e

-- the halves of an edge of at least one mark: those of its topmost letter or of its diamond, both negated under a mark
abbrev pub low_half : Meaning → Store → Edge → Edge
low_half D s e = flip_if e.negated (low_upright D s e.word e.target)

-- the high half of an edge
abbrev pub high_half : Meaning → Store → Edge → Edge
high_half D s e = flip_if e.negated (high_upright D s e.word e.target)
