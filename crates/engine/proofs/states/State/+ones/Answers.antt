use Rattle.std.proofs.Common.{◌≡◌, ℕ, ◌+◌, ◌-◌, ◌^◌, ◌<◌, ◌≤◌, true, false, cond, List, Some, None, sym, ap, ◌∙◌, subst, ap₂, arith}
use Rattle.diagram.specs.declared.edges.Diamond.{Diamond}
use Rattle.diagram.specs.declared.edges.Edge.{Edge}
use Rattle.diagram.specs.Rules.{ones}
use Rattle.diagram.specs.Edges.{rule_of}
use Rattle.diagram.specs.Dialects.{Lawful}
use Rattle.diagram.specs.Records.{edge_of, store_of, constant_of, same_record}
use Rattle.diagram.proofs.Tests.{tested}
use Rattle.engine.specs.declared.states.State.{State}
use Rattle.engine.specs.States.{EdgeOfArity}
use Rattle.basics.specs.Plain.{unmarked}
use Rattle.engine.proofs.Tallied.{marks_few, ones_constant, mixed_some, unmarked_fit, ones_same, both_most, both_marked, both_opposite}
use Rattle.engine.proofs.states.State.+ones.Goals as goal
use Rattle.engine.proofs.states.State.+ones.Goals.{then-same-2, else-same-2}

-- the diamonds of a state
abbrev held : State → List Diamond
held s = s.diamonds

law : (s : State) → Lawful s.profile.meaning
law s = (tested s.profile.meaning).0 s.profile.sound

-- an edge of n marks that is not constant: n is not 0, and without its mark it has n marks
some_marks : (s : State) (e : Edge) (n : ℕ) → EdgeOfArity s.profile.meaning (held s) e n → constant_of e ≡ None →
    (0 < n) × (n ≤ 20) × EdgeOfArity s.profile.meaning (held s) (unmarked e) n
some_marks s e n a k =
    let D = s.profile.meaning in
    let ds = held s in
    (mixed_some D (law s) ds s.proper e n a k, marks_few D (law s) ds s.proper e n a, unmarked_fit D (law s) ds s.proper e n a)

pub returns-in-Some-false : goal.returns-in-Some-false
returns-in-Some-false t c =
    let s = c.args.self.now in
    sym (ones_constant s.profile.meaning (law s) (held s) s.proper c.args.edge c.args.n c.requires false (sym c.in-Some-false.ensures ∙ ap Some c.in-Some-false.field-0-test))

pub assignments-requires : goal.assignments-requires
assignments-requires t c =
    let s = c.args.self.now in
    marks_few s.profile.meaning (law s) (held s) s.proper c.args.edge c.args.n c.requires

pub returns-in-Some-true : goal.returns-in-Some-true
returns-in-Some-true t c =
    let s = c.args.self.now in
    c.assignments.ensures
    ∙ sym (ones_constant s.profile.meaning (law s) (held s) s.proper c.args.edge c.args.n c.requires true (sym c.in-Some-true.ensures ∙ ap Some c.in-Some-true.field-0-test))

pub halves-requires : goal.halves-requires
halves-requires t c =
    let s = c.args.self.now in
    let m = some_marks s c.args.edge c.args.n c.requires (sym c.in-None.ensures) in
    record { edge = subst (λ (x : Edge). EdgeOfArity s.profile.meaning (held s) x c.args.n) (sym c.unmarked-upright.ensures) m.2; some = m.0 }

pub overflow_sub-n : goal.overflow_sub-n
overflow_sub-n t c = (some_marks c.args.self.now c.args.edge c.args.n c.requires (sym c.in-None.ensures)).0

pub assignments-requires-then-same : goal.assignments-requires-then-same
assignments-requires-then-same t c =
    let p = (some_marks c.args.self.now c.args.edge c.args.n c.requires (sym c.in-None.ensures)).1 in
    omega arith

pub returns-then-same : goal.returns-then-same
returns-then-same t c =
    let s = c.args.self.now in
    c.assignments-then-same.ensures
    ∙ both_opposite s.profile.meaning (law s) (held s) s.proper c.args.edge c.args.n c.requires (sym c.in-None.ensures) c.unmarked-upright.result c.unmarked-upright.ensures c.halves.result.0 c.halves.result.1
    c.halves.ensures.low c.halves.ensures.high
    c.halves.ensures.edges.0 (ap (same_record c.halves.result.0) (sym c.flip.ensures) ∙ sym c.if-same.ensures)

pub overflow_sub-n-2 : goal.overflow_sub-n-2
overflow_sub-n-2 t c = (some_marks c.args.self.now c.args.edge c.args.n c.requires (sym c.in-None.ensures)).0

pub ones-of_low-requires : goal.ones-of_low-requires
ones-of_low-requires t c =
    let p = (some_marks c.args.self.now c.args.edge c.args.n c.requires (sym c.in-None.ensures)).0 in
    let m = c.decreases in
    (omega arith, c.halves.ensures.edges.0)

pub overflow_sub-n-else-same-2 : goal.overflow_sub-n-else-same-2
overflow_sub-n-else-same-2 t c = (some_marks c.args.self.now c.args.edge c.args.n c.requires (sym c.in-None.ensures)).0

pub ones-of_high-requires : goal.ones-of_high-requires
ones-of_high-requires t c =
    let p = (some_marks c.args.self.now c.args.edge c.args.n c.requires (sym c.in-None.ensures)).0 in
    let m = c.decreases in
    (omega arith, c.halves.ensures.edges.1)

pub of_halves-requires : goal.of_halves-requires
of_halves-requires t c =
    let s = c.args.self.now in
    let D = s.profile.meaning in
    let ds = held s in
    let of_high : c.if-same-2.of_high ≡ ones (rule_of (store_of ds) (edge_of c.halves.result.1)) =
    elim c.if-same-2.branch [
      | then-same-2 w ↦ w.of_high-is ∙ c.ones-of_low.ensures ∙ ones_same ds c.halves.result.0 c.halves.result.1 (sym w.if-same-2.ensures)
      | else-same-2 w ↦ w.of_high-is ∙ w.ones-of_high.ensures
    ] in
    let p = both_most D (law s) ds s.proper c.args.edge c.args.n c.requires (sym c.in-None.ensures) c.unmarked-upright.result c.unmarked-upright.ensures c.halves.result.0 c.halves.result.1
    c.halves.ensures.low c.halves.ensures.high in
    record { short = marks_few D (law s) ds s.proper c.args.edge c.args.n c.requires; most = omega (arith, p.0, of_high, c.ones-of_low.ensures); few = omega (arith, p.1, of_high, c.ones-of_low.ensures) }

pub returns : goal.returns
returns t c =
    let s = c.args.self.now in
    let D = s.profile.meaning in
    let ds = held s in
    let of_high : c.if-same-2.of_high ≡ ones (rule_of (store_of ds) (edge_of c.halves.result.1)) =
    elim c.if-same-2.branch [
      | then-same-2 w ↦ w.of_high-is ∙ c.ones-of_low.ensures ∙ ones_same ds c.halves.result.0 c.halves.result.1 (sym w.if-same-2.ensures)
      | else-same-2 w ↦ w.of_high-is ∙ w.ones-of_high.ensures
    ] in
    c.of_halves.ensures
    ∙ ap₂ (λ (x y : ℕ). cond c.args.edge.negated (2 ^ c.args.n - (x + y)) (x + y)) c.ones-of_low.ensures of_high
    ∙ both_marked D (law s) ds s.proper c.args.edge c.args.n c.requires (sym c.in-None.ensures) c.unmarked-upright.result c.unmarked-upright.ensures c.halves.result.0 c.halves.result.1
    c.halves.ensures.low c.halves.ensures.high
