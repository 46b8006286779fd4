-- What each call answers, and which diamonds the engine has afterwards: definitions over a dialect's meaning, the diamonds, and the call's arguments.
use Rattle.std.specs.Prelude.{ℕ, ◌^◌, Bool, true, false, cond, ◌&&◌, List, length, Some, None, Ok, Err, Option, Result, ◌==◌, nat_le, nat_lt}
use Rattle.std.specs.Bool.{beq}
use Rattle.diagram.specs.declared.edges.Edge.{Edge}
use Rattle.diagram.specs.declared.edges.Diamond.{Diamond}
use Rattle.diagram.specs.declared.meanings.Meaning.{Meaning}
use Rattle.diagram.specs.declared.refusals.Refusal.{Refusal}
use Rattle.diagram.specs.declared.refusals.Refusal.TheVariants.{ArityOver, NotAccepted, AritiesDiffer, NoVariable, NoConnective, AssignmentOver, Full}
use Rattle.diagram.specs.Refusals.{refusal_number}
use Rattle.diagram.specs.Rules.{Rule, constant, ◌⋆◌, variable, value, negate, pointwise, connective, tally}
use Rattle.diagram.specs.Edges.{rule_of}
use Rattle.diagram.specs.Making.{Made, insert}
use Rattle.diagram.specs.Records.{edge_of, store_of, edge_record, diamonds_of, arity_in, accepted_in, constant_record}
use Rattle.diagram.specs.RecordTheorems.{rule_in}
use Rattle.cache.specs.declared.entries.Key.{Key}
use Rattle.engine.specs.Reaching.{reaches}
use Rattle.engine.specs.declared.combined.Combined.{Combined}

-- an answer, and the diamonds after it
abbrev pub Outcome : Type 0
Outcome = Result Edge Refusal × List Diamond

-- what was made from the diamonds ds is kept unless it is more than 1,024 diamonds
abbrev pub kept : List Diamond → Made → Outcome
kept ds m = cond (nat_le (length m.0) 1024) (Ok (edge_record m.1), diamonds_of m.0) (Err Full, ds)

-- the rule f inserted among the diamonds ds
abbrev pub inserted : Meaning → List Diamond → Rule → Outcome
inserted D ds f = kept ds (insert D (store_of ds) f)

-- The calls --

-- the constant b of n marks; no diamond changes
abbrev pub constant_step : Meaning → List Diamond → ℕ → Bool → Outcome
constant_step D ds n b = (cond (nat_le n 20) (Ok (constant_record D n b)) (Err ArityOver), ds)

-- mark i of n marks
abbrev pub variable_step : Meaning → List Diamond → ℕ → ℕ → Outcome
variable_step D ds n i = cond (nat_le n 20) (cond (nat_lt i n) (inserted D ds (variable n i)) (Err NoVariable, ds)) (Err ArityOver, ds)

-- the value of the edge e at the assignment a; no diamond changes
abbrev pub evaluate_step : Meaning → List Diamond → Edge → ℕ → Result Bool Refusal
evaluate_step D ds e a =
    cond (accepted_in D ds e)
    (cond (nat_lt a (2 ^ arity_in ds e)) (Ok (value (rule_of (store_of ds) (edge_of e)) a)) (Err AssignmentOver))
    (Err NotAccepted)

-- how many assignments give the edge e the value 1; no diamond changes
abbrev pub ones_step : Meaning → List Diamond → Edge → Result ℕ Refusal
ones_step D ds e = cond (accepted_in D ds e) (Ok (tally (value (rule_in ds e)) (2 ^ arity_in ds e))) (Err NotAccepted)

-- how many of the diamonds the edge e reaches; no diamond changes
abbrev pub diamonds_step : Meaning → List Diamond → Edge → Result ℕ Refusal
diamonds_step D ds e = cond (accepted_in D ds e) (Ok (tally (reaches (store_of ds) (edge_of e).target) (length ds))) (Err NotAccepted)

-- the rule that the connective with the number c gives of what the edges a and b mean
abbrev pub joint : List Diamond → ℕ → Edge → Edge → Rule
joint ds c a b = pointwise (connective c) (rule_in ds a) (rule_in ds b)

-- the connective with the number c of the edges a and b
abbrev pub combine_step : Meaning → List Diamond → ℕ → Edge → Edge → Outcome
combine_step D ds c a b =
    cond (nat_le c 15)
    (cond (accepted_in D ds a && accepted_in D ds b)
    (cond (arity_in ds a == arity_in ds b) (inserted D ds (joint ds c a b)) (Err AritiesDiffer, ds))
    (Err NotAccepted, ds))
    (Err NoConnective, ds)

-- what a combination answers: the edge of its step, and whether the cache found it
abbrev pub answered : Bool → Result Edge Refusal → Result Combined Refusal
answered found (Ok e) = Ok (record { edge = e; found = found })
answered found (Err x) = Err x

-- the first of two answers, or the refusal
abbrev pub first_answer : Result (Combined × Combined) Refusal → Result Combined Refusal
first_answer (Ok p) = Ok p.0
first_answer (Err x) = Err x

-- the negation of the edge e
abbrev pub negate_step : Meaning → List Diamond → Edge → Outcome
negate_step D ds e = cond (accepted_in D ds e) (inserted D ds (negate (rule_in ds e))) (Err NotAccepted, ds)

-- What may be remembered --

-- the same tree
abbrev pub same_rule : Rule → Rule → Bool
same_rule (constant a) (constant b) = beq a b
same_rule (constant a) (g ⋆ g') = false
same_rule (f ⋆ f') (constant b) = false
same_rule (f ⋆ f') (g ⋆ g') = same_rule f g && same_rule f' g'

-- the edge e may be remembered for a key: the connective is one of the sixteen, all three edges are accepted, those of the key have one arity, and e means their combination
abbrev pub right_for : Meaning → List Diamond → Key → Edge → Bool
right_for D ds k e =
    nat_le k.connective 15
    && (accepted_in D ds k.left
    && (accepted_in D ds k.right
    && (arity_in ds k.left == arity_in ds k.right
    && (accepted_in D ds e && same_rule (rule_in ds e) (joint ds k.connective k.left k.right)))))

-- The cache's map --

-- the number of a refusal, and 0 of an answer
abbrev pub refused_number : {A : Type 0} → Result A Refusal → ℕ
refused_number (Ok a) = 0
refused_number (Err x) = refusal_number x

-- the cache gives an edge
abbrev pub given : Option Edge → Bool
given None = false
given (Some e) = true

-- what the map gives for a key after a call that does not combine, where it gave o before: the same, but nothing after refusal 7
abbrev pub map_after : {A : Type 0} → Result A Refusal → Option Edge → Option Edge
map_after r o = cond (refused_number r == 7) None o
