use Rattle.std.proofs.Common.{◌≡◌, ℕ, true, List, Ok, Err, Option, Result, sym, ap, ◌∙◌, subst, arith}
use Rattle.std.proofs.lemmas.Result.{err_from_is_err_and}
use Rattle.std.specs.Option.{ok_or}
use Rattle.diagram.specs.declared.edges.Edge.{Edge}
use Rattle.diagram.specs.declared.edges.Diamond.{Diamond}
use Rattle.diagram.specs.declared.refusals.Refusal.{Refusal}
use Rattle.diagram.specs.declared.refusals.Refusal.TheVariants.{Full}
use Rattle.diagram.specs.Records.{store_of, edge_record}
use Rattle.diagram.specs.Making.{diamond_edge}
use Rattle.diagram.proofs.Made.{shallow_met}
use Rattle.engine.specs.declared.states.State.{State}
use Rattle.engine.specs.Steps.{Outcome, right_for}
use Rattle.engine.specs.Laws.{HeldWell}
use Rattle.engine.proofs.Joining.{add_found, number_less}
use Rattle.engine.proofs.Lawlike.{state_well}
use Rattle.engine.proofs.Pushed.{pushed_well, pushed_new, pushed_full}
use Rattle.engine.proofs.states.State.add.Goals as goal
use Rattle.engine.proofs.states.State.add.Goals.{in-Some, in-None+in_ok-k-in-None}

pub invariant_of-self : goal.invariant_of-self
invariant_of-self c =
    let s = c.args.self.now in
    let D = s.profile.meaning in
    let ds = s.diamonds in
    let xs = c.push.new.self in
    let is = sym c.push.ensures.diamonds in
    let p = pushed_well D ds (state_well s) c.args.diamond c.requires (sym c.in-None.ensures) in
    let w = subst (HeldWell D) is p.0 in
    record {
      spelled = w.normal.1;
      proper = w.normal.0;
      low = shallow_met (store_of xs) w.shallow;
      few = w.few;
      wide = s.wide;
      right = λ k e h. subst (λ (ys : List Diamond). right_for D ys k e ≡ true) is (p.1 k e (s.right k e h));
    }

pub returns-in_err-k-in-None-clause-outcome : goal.returns-in_err-k-in-None-clause-outcome
returns-in_err-k-in-None-clause-outcome c =
    let s = c.args.self.now in
    let ds = s.diamonds in
    let xs = c.push.new.self in
    let e = c.in_err-k-in-None.ensures in
    let p = err_from_is_err_and c.from_residual.result c.from_residual.ensures.1 in
    let x = c.in_err-k-in-None.field-0.0 in
    let v : ◌≡◌ {A = Result ℕ Refusal} (Err x) (Err Full) = e.value ∙ ap (λ (o : Option ℕ). ok_or o Full) e.ok_part in
    let f : x ≡ Full = cc in
    ap (λ (r : Result Edge Refusal). (r, xs)) (p.1 ∙ ap Err (p.2 ∙ f))
    ∙ pushed_full s.profile.meaning ds (state_well s) c.args.diamond c.requires (sym c.in-None.ensures) xs (sym e.ok_part ∙ c.push.ensures.answer) c.push.ensures.diamonds

pub edge_to-requires : goal.edge_to-requires
edge_to-requires c =
    let s = c.args.self.now in
    let ds = s.diamonds in
    elim c.match-number.branch [
      | in-Some w ↦ let l = number_less ds c.args.diamond w.in-Some.k (sym w.in-Some.ensures) in let f = s.few in omega (arith, w.k-is)
      | in-None+in_ok-k-in-None w ↦
          let l = (pushed_new s.profile.meaning ds (state_well s) c.args.diamond c.requires (sym w.in-None.ensures) w.in_ok-k-in-None.k w.push.new.self (sym w.in_ok-k-in-None.ensures.ok_part ∙ w.push.ensures.answer) w.push.ensures.diamonds).0 in
          omega (arith, w.k-is)
    ]

-- what is answered for the number k, where the state is t
answer_of : (r : Edge) (k m : ℕ) (t u : State) (o : Outcome) → r ≡ edge_record (diamond_edge k) → k ≡ m → t ≡ u →
    ◌≡◌ {A = Outcome} (Ok (edge_record (diamond_edge m)), u.diamonds) o → ◌≡◌ {A = Outcome} (Ok r, t.diamonds) o
answer_of r k m t u o p q e h =
    ap (λ (x : Edge). (Ok x, t.diamonds)) (p ∙ ap (λ (n : ℕ). edge_record (diamond_edge n)) q)
    ∙ ap (λ (v : State). (Ok (edge_record (diamond_edge m)), v.diamonds)) e
    ∙ h

pub returns-clause-outcome : goal.returns-clause-outcome
returns-clause-outcome c =
    let s = c.args.self.now in
    let ds = s.diamonds in
    elim c.match-number.branch [
      | in-Some w ↦
          answer_of c.edge_to.result c.match-number.k w.in-Some.k c.match-number.self _ _ c.edge_to.ensures w.k-is w.self-is
          (sym (add_found s.profile.meaning ds c.args.diamond s.spelled c.requires w.in-Some.k s.few (sym w.in-Some.ensures)))
      | in-None+in_ok-k-in-None w ↦
          answer_of c.edge_to.result c.match-number.k w.in_ok-k-in-None.k c.match-number.self _ _ c.edge_to.ensures w.k-is w.self-is
          (pushed_new s.profile.meaning ds (state_well s) c.args.diamond c.requires (sym w.in-None.ensures) w.in_ok-k-in-None.k w.push.new.self (sym w.in_ok-k-in-None.ensures.ok_part ∙ w.push.ensures.answer) w.push.ensures.diamonds).1
    ]
