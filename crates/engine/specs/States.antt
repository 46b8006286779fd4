-- What an engine's own functions ask and promise of edges and diamonds.
use Rattle.std.specs.Prelude.{◌≡◌, ℕ, ◌-◌, ◌≤◌, Bool, true, false, not, List, length, take, IfOk, None, Result}
use Rattle.diagram.specs.declared.edges.Edge.{Edge}
use Rattle.diagram.specs.declared.edges.Diamond.{Diamond}
use Rattle.diagram.specs.declared.edges.Target.{Target}
use Rattle.diagram.specs.declared.edges.Target.TheVariants.{Zero, One, Diamond as DiamondNumber}
use Rattle.diagram.specs.declared.meanings.Meaning.{Meaning}
use Rattle.diagram.specs.declared.refusals.Refusal.{Refusal}
use Rattle.diagram.specs.Rules.{Rule, ◌⋆◌, arity}
use Rattle.diagram.specs.Edges.{sign, rule_of}
use Rattle.diagram.specs.Making.{choose}
use Rattle.diagram.specs.Acceptance.{Accepted}
use Rattle.cache.specs.declared.entries.Key.{Key}
use Rattle.basics.specs.declared.plain.Plain.{Plain}
use Rattle.engine.specs.Steps.{inserted, joint}
use Rattle.diagram.specs.Records.{edge_of, store_of, arity_in, spelled_edge, accepted_in}

-- the edge e is accepted among the diamonds ds, and has n marks
pub record EdgeOfArity (D : Meaning) (ds : List Diamond) (e : Edge) (n : ℕ) : Type 0 where
  pub accepted : accepted_in D ds e ≡ true
  pub marks : arity_in ds e ≡ n

-- a combination whose edges are accepted among the diamonds ds and have n marks each
pub record KeyOfArity (D : Meaning) (ds : List Diamond) (k : Key) (n : ℕ) : Type 0 where
  pub few : k.connective ≤ 15
  pub left : EdgeOfArity D ds k.left n
  pub right : EdgeOfArity D ds k.right n

-- the rule f was inserted where the diamonds ds stood, with the answer r, and the diamonds are es now: those of the answer, or, where it is refused, ds and perhaps more
pub record Joined (D : Meaning) (ds : List Diamond) (f : Rule) (r : Result Edge Refusal) (es : List Diamond) : Type 0 where
  pub answer : r ≡ (inserted D ds f).0
  pub grown : IfOk r (λ e. es ≡ (inserted D ds f).1)
  pub begins : take (length ds) es ≡ ds

-- two halves that are accepted among the diamonds ds, of one arity of at most 19
pub record HalvesFit (D : Meaning) (ds : List Diamond) (low high : Edge) : Type 0 where
  pub low_in : accepted_in D ds low ≡ true
  pub high_in : accepted_in D ds high ≡ true
  pub level : arity (rule_of (store_of ds) (edge_of low)) ≡ arity (rule_of (store_of ds) (edge_of high))
  pub short : arity (rule_of (store_of ds) (edge_of low)) ≤ 19

-- the diamond d may stand after the diamonds ds, unless it is there already
pub record Joins (D : Meaning) (ds : List Diamond) (d : Diamond) : Type 0 where
  pub low_spelled : spelled_edge d.low ≡ true
  pub high_spelled : spelled_edge d.high ≡ true
  pub low_accepted : Accepted D (store_of ds) (edge_of d.low)
  pub high_accepted : Accepted D (store_of ds) (edge_of d.high)
  pub level : arity (rule_of (store_of ds) (edge_of d.low)) ≡ arity (rule_of (store_of ds) (edge_of d.high))
  pub short : arity (rule_of (store_of ds) (edge_of d.low)) ≤ 19
  pub unlettered : choose D (edge_of d.low) (edge_of d.high) ≡ None
  pub upright : d.low.negated ≡ false

-- the value of an edge of no mark: that of its terminal, reversed under a mark
abbrev pub end_value : Bool → Target → Bool
end_value n Zero = n
end_value n One = not n
end_value n (DiamondNumber k) = n

-- the rule of a combination, from its plain combination
abbrev pub plain_rule : List Diamond → Plain → Rule
plain_rule ds p = sign p.negated (joint ds p.key.connective p.key.left p.key.right)

-- the plain combinations low and high are those of the halves of a combination whose edges have n marks
pub record Halving (D : Meaning) (ds : List Diamond) (k : Key) (n : ℕ) (low high : Plain) : Type 0 where
  -- their edges have one mark less
  pub low_key : KeyOfArity D ds low.key (n - 1)
  pub high_key : KeyOfArity D ds high.key (n - 1)
  -- a negation only where the dialect negates
  pub low_mark : low.negated ≡ true → D.negates ≡ true
  pub high_mark : high.negated ≡ true → D.negates ≡ true
  -- the whole rule is that of the low combination, and that of the high one
  pub rule : joint ds k.connective k.left k.right ≡ plain_rule ds low ⋆ plain_rule ds high
