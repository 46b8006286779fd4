use Rattle.std.proofs.Common.{◌≡◌, ℕ, ◌-◌, true, false, is_some, Some, Err, Result, sym, ap, ◌∙◌, ap₂, arith}
use Rattle.std.proofs.lemmas.Result.{err_from_is_err_and}
use Rattle.diagram.specs.declared.edges.Edge.{Edge}
use Rattle.diagram.specs.declared.letters.Letter.TheVariants.{U}
use Rattle.diagram.specs.declared.meanings.Meaning.{Meaning}
use Rattle.diagram.specs.declared.refusals.Refusal.{Refusal}
use Rattle.diagram.specs.Edges.{put}
use Rattle.diagram.specs.Making.{make}
use Rattle.diagram.specs.Records.{edge_of, store_of, edge_record, constant_record}
use Rattle.diagram.proofs.Tests.{tested}
use Rattle.engine.specs.Steps.{kept}
use Rattle.engine.proofs.Marks.{constants_fit, inserted_first, inserted_later, refused_later, later_set}
use Rattle.engine.proofs.states.State.+insert_variable.Goals.{After-constant-high, After-with_letter}
use Rattle.engine.proofs.states.State.+insert_variable.Goals as goal

-- the halves of the first mark are the constants
low_is : (t : ℕ) (c : After-constant-high t) → c.constant-low.result ≡ constant_record c.args.self.now.profile.meaning (c.args.n - 1) false
low_is t c = c.constant-low.ensures ∙ ap (λ (m : Meaning). constant_record m (c.args.n - 1) false) c.meaning-meaning.ensures.value

high_is : (t : ℕ) (c : After-constant-high t) → c.constant-high.result ≡ constant_record c.args.self.now.profile.meaning (c.args.n - 1) true
high_is t c = c.constant-high.ensures ∙ ap (λ (m : Meaning). constant_record m (c.args.n - 1) true) c.meaning-meaning.ensures.value

-- the edge of a later mark with u on it
lettered : (t : ℕ) (c : After-with_letter t) → c.with_letter.result ≡ Some (edge_record (put U (edge_of c.in_ok-edge.edge)))
lettered t c =
    let s = c.args.self.now in
    c.with_letter.ensures
    ∙ later_set s.profile.meaning ((tested s.profile.meaning).0 s.profile.sound) s.diamonds s.proper c.args.n c.args.i (omega arith) c.requires.below c.in_ok-edge.edge c.insert_variable.new.self.diamonds c.requires.short c.in_ok-edge.ensures.outcome

pub make-requires : goal.make-requires
make-requires t c =
    let s = c.args.self.now in
    let at = (goal.at.make-requires t c).After-constant-high in
    rw (low_is t at, high_is t at) (constants_fit s.profile.meaning s.diamonds (c.args.n - 1) (omega arith))

pub returns-then-i-eq0-clause-outcome : goal.returns-then-i-eq0-clause-outcome
returns-then-i-eq0-clause-outcome t c =
    let s = c.args.self.now in
    let D = s.profile.meaning in
    let at = (goal.at.returns-then-i-eq0-clause-outcome t c).After-constant-high in
    c.make.ensures.outcome
    ∙ ap₂ (λ (x y : Edge). kept s.diamonds (make D (store_of s.diamonds) (edge_of x) (edge_of y))) (low_is t at) (high_is t at)
    ∙ rw c.if-i-eq0.true (sym (inserted_first D ((tested D).0 s.profile.sound) s.diamonds s.proper c.args.n (omega arith)))

pub returns-in_err-edge-clause-outcome : goal.returns-in_err-edge-clause-outcome
returns-in_err-edge-clause-outcome t c =
    let s = c.args.self.now in
    let D = s.profile.meaning in
    let xs = c.insert_variable.new.self.diamonds in
    let p = err_from_is_err_and c.from_residual.result c.from_residual.ensures.1 in
    ap (λ (r : Result Edge Refusal). (r, xs)) (p.1 ∙ ap Err p.2)
    ∙ sym (refused_later D ((tested D).0 s.profile.sound) s.diamonds s.proper c.args.n c.args.i (omega arith) c.requires.below c.in_err-edge.field-0.0 xs c.in_err-edge.ensures.outcome)

pub unwrap-requires : goal.unwrap-requires
unwrap-requires t c = ap is_some (lettered t (goal.at.unwrap-requires t c).After-with_letter)

pub returns-clause-outcome : goal.returns-clause-outcome
returns-clause-outcome t c =
    let s = c.args.self.now in
    let D = s.profile.meaning in
    let xs = c.insert_variable.new.self.diamonds in
    let p : Some c.unwrap.result ≡ Some (edge_record (put U (edge_of c.in_ok-edge.edge))) =
    sym c.unwrap.ensures ∙ lettered t (goal.at.returns-clause-outcome t c).After-with_letter in
    let q : c.unwrap.result ≡ edge_record (put U (edge_of c.in_ok-edge.edge)) = cc in
    rw q (sym (inserted_later D ((tested D).0 s.profile.sound) s.diamonds s.proper c.args.n c.args.i (omega arith) c.requires.below c.in_ok-edge.edge xs c.in_ok-edge.ensures.outcome))
