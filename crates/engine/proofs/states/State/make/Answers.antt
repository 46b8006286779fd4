use Rattle.std.proofs.Common.{◌≡◌, List, is_some, Some, None, Ok, Err, Result, sym, ap, ◌∙◌, ap₂}
use Rattle.std.proofs.lemmas.Result.{err_from_is_err_and}
use Rattle.diagram.specs.declared.edges.Edge.{Edge}
use Rattle.diagram.specs.declared.edges.Diamond.{Diamond}
use Rattle.diagram.specs.declared.meanings.Meaning.{Meaning}
use Rattle.diagram.specs.declared.refusals.Refusal.{Refusal}
use Rattle.diagram.specs.Edges.{put, flip}
use Rattle.diagram.specs.Making.{source, add, make}
use Rattle.diagram.specs.Records.{edge_of, store_of, edge_record, letter_for, with_letter}
use Rattle.diagram.proofs.Tests.{tested}
use Rattle.engine.specs.Steps.{Outcome, kept}
use Rattle.engine.specs.declared.states.State.{State}
use Rattle.engine.proofs.Choosing.{letter_set, made_letter, joins_upright, made_upright, joins_flipped, made_flipped, marked, kept_flipped}
use Rattle.engine.proofs.states.State.make.Goals.{In_default, After-with_letter, After-flip-then-low}
use Rattle.engine.proofs.states.State.make.Goals as goal

-- no letter is for the halves
no_letter : (c : In_default) → letter_for c.args.self.now.profile.meaning c.args.low c.args.high ≡ None
no_letter c = ap (λ (m : Meaning). letter_for m c.args.low c.args.high) (sym c.meaning.ensures.value) ∙ sym c.in_default.ensures

-- what is made from the edge that was added for the halves of the other mark
flipped : (c : After-flip-then-low) → letter_for c.args.self.now.profile.meaning c.args.low c.args.high ≡ None → (r : Result Edge Refusal) (xs : List Diamond) →
    let s : State = c.args.self.now in
    ◌≡◌ {A = Outcome} (r, xs) (kept s.diamonds (add (store_of s.diamonds) (edge_of c.flip.result) (edge_of c.flip-then-low.result))) →
    kept s.diamonds (make s.profile.meaning (store_of s.diamonds) (edge_of c.args.low) (edge_of c.args.high)) ≡ (marked r, xs)
flipped c e r xs o =
    let s = c.args.self.now in
    let ds = s.diamonds in
    made_flipped s.profile.meaning ds c.args.low c.args.high c.requires e c.if-low.true
    ∙ kept_flipped ds (add (store_of ds) (flip (edge_of c.args.low)) (flip (edge_of c.args.high))) r xs
    (o ∙ ap₂ (λ (l h : Edge). kept ds (add (store_of ds) (edge_of l) (edge_of h))) c.flip.ensures c.flip-then-low.ensures)

-- the source with the letter on it
lettered : (c : After-with_letter) → c.with_letter.result ≡ Some (edge_record (put c.in-Some.letter (source c.in-Some.letter (edge_of c.args.low) (edge_of c.args.high))))
lettered c =
    let s = c.args.self.now in
    c.with_letter.ensures ∙ ap (with_letter c.in-Some.letter) c.source.ensures ∙ letter_set s.profile.meaning s.diamonds c.args.low c.args.high c.requires c.in-Some.letter

pub unwrap-requires : goal.unwrap-requires
unwrap-requires c = ap is_some (lettered (goal.at.unwrap-requires c).After-with_letter)

pub returns-in-Some-clause-outcome : goal.returns-in-Some-clause-outcome
returns-in-Some-clause-outcome c =
    let s = c.args.self.now in
    let e : letter_for s.profile.meaning c.args.low c.args.high ≡ Some c.in-Some.letter =
    ap (λ (m : Meaning). letter_for m c.args.low c.args.high) (sym c.meaning.ensures.value) ∙ sym c.in-Some.ensures in
    let p : Some c.unwrap.result ≡ Some (edge_record (put c.in-Some.letter (source c.in-Some.letter (edge_of c.args.low) (edge_of c.args.high)))) =
    sym c.unwrap.ensures ∙ lettered (goal.at.returns-in-Some-clause-outcome c).After-with_letter in
    let q : c.unwrap.result ≡ edge_record (put c.in-Some.letter (source c.in-Some.letter (edge_of c.args.low) (edge_of c.args.high))) = cc in
    rw q (sym (made_letter s.profile.meaning s.diamonds c.args.low c.args.high c.requires c.in-Some.letter s.spelled s.few e))

pub add-requires : goal.add-requires
add-requires c =
    let s = c.args.self.now in
    let j = joins_flipped s.profile.meaning s.diamonds c.args.low c.args.high c.requires ((tested s.profile.meaning).0 s.profile.sound) (no_letter (goal.at.add-requires c).In_default) c.if-low.true in
    rw (c.flip.ensures, c.flip-then-low.ensures) j

pub returns-in_err-edge-clause-outcome : goal.returns-in_err-edge-clause-outcome
returns-in_err-edge-clause-outcome c =
    let at = goal.at.returns-in_err-edge-clause-outcome c in
    let p = err_from_is_err_and c.from_residual.result c.from_residual.ensures.1 in
    ap (λ (r : Result Edge Refusal). (r, c.add.new.self.diamonds)) (p.1 ∙ ap Err p.2)
    ∙ sym (flipped at.After-flip-then-low (no_letter at.In_default) (Err c.in_err-edge.field-0.0) c.add.new.self.diamonds c.in_err-edge.ensures.outcome)

pub returns-then-low-clause-outcome : goal.returns-then-low-clause-outcome
returns-then-low-clause-outcome c =
    let at = goal.at.returns-then-low-clause-outcome c in
    ap (λ (r : Edge). (Ok r, c.add.new.self.diamonds)) c.flip-then-low-2.ensures
    ∙ sym (flipped at.After-flip-then-low (no_letter at.In_default) (Ok c.in_ok-edge.edge) c.add.new.self.diamonds c.in_ok-edge.ensures.outcome)

pub add-requires-2 : goal.add-requires-2
add-requires-2 c =
    let s = c.args.self.now in
    joins_upright s.profile.meaning s.diamonds c.args.low c.args.high c.requires (no_letter (goal.at.add-requires-2 c).In_default) c.if-low.false

pub returns-clause-outcome : goal.returns-clause-outcome
returns-clause-outcome c =
    let s = c.args.self.now in
    c.add-2.ensures.outcome ∙ sym (made_upright s.profile.meaning s.diamonds c.args.low c.args.high c.requires (no_letter (goal.at.returns-clause-outcome c).In_default) c.if-low.false)
