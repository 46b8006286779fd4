use Rattle.std.proofs.Common.{◌≡◌, List, Ok, Err, Result, sym, ap, ◌∙◌, subst, ap₂}
use Rattle.diagram.specs.declared.edges.Edge.{Edge}
use Rattle.diagram.specs.declared.edges.Diamond.{Diamond}
use Rattle.diagram.specs.declared.refusals.Refusal.{Refusal}
use Rattle.dialect.specs.declared.profiles.Profile.{Profile}
use Rattle.engine.specs.Steps.{Outcome, combine_step, given}
use Rattle.engine.specs.Laws.{MapAfter}
use Rattle.engine.proofs.Lawlike.{state_well}
use Rattle.cache.specs.Entries.{key}
use Rattle.engine.proofs.Halfwise.{step_again}
use Rattle.engine.proofs.Mapped.{map_twice, answered_ok, answered_err}
use Rattle.engine.proofs.engines.Engine.combine_twice.Given.{Over}
use Rattle.engine.proofs.engines.Engine.combine_twice.Goals.{In_ok-first, In_ok-second}
use Rattle.engine.proofs.engines.Engine.combine_twice.Goals as goal

-- what the first call answered, and what the same step answers after it
first : (g : Over) (c : In_ok-first g) →
    ((combine_step c.args.self.now.state.profile.meaning c.args.self.now.state.diamonds c.args.connective c.args.a c.args.b).0 ≡ Ok c.in_ok-first.first.edge)
    × (c.in_ok-first.first.found ≡ given (g.C.Cache.held c.args.self.now.cache c.args.self.now.state.table (key c.args.connective c.args.a c.args.b)))
first g c = answered_ok _ _ c.in_ok-first.first c.in_ok-first.ensures.answer

again : (g : Over) (c : In_ok-first g) →
    let es : List Diamond = c.combine.new.self.state.diamonds in
    combine_step c.combine.new.self.state.profile.meaning es c.args.connective c.args.a c.args.b ≡ (Ok c.in_ok-first.first.edge, es)
again g c =
    let s = c.args.self.now.state in
    let es = c.combine.new.self.state.diamonds in
    let e = c.in_ok-first.first.edge in
    let o : ◌≡◌ {A = Outcome} (combine_step s.profile.meaning s.diamonds c.args.connective c.args.a c.args.b) (Ok e, es) =
    ap₂ (λ (r : Result Edge Refusal) (xs : List Diamond). (r, xs)) (first g c).0 (sym c.in_ok-first.ensures.diamonds) in
    subst (λ (p : Profile). ◌≡◌ {A = Outcome} (combine_step p.meaning es c.args.connective c.args.a c.args.b) (Ok e, es)) (sym c.in_ok-first.ensures.profile)
    (step_again s.profile.meaning s.diamonds (state_well s) c.args.connective c.args.a c.args.b e es o)

pub returns-in_err-second : goal.returns-in_err-second
returns-in_err-second g c =
    let o = again g (goal.at.returns-in_err-second g c).In_ok-first in
    let q : Ok c.in_ok-first.first.edge ≡ Err c.in_err-second.field-0.0 = ap (λ (z : Outcome). z.0) (sym o) ∙ answered_err _ _ c.in_err-second.field-0.0 c.in_err-second.ensures.answer in
    absurd cc

pub returns : goal.returns
returns g c =
    let at = (goal.at.returns g c).In_ok-first in
    let s = c.args.self.now in
    let D = s.state.profile.meaning in
    let K = key c.args.connective c.args.a c.args.b in
    let mid = c.combine.new.self in
    let last = c.combine-2.new.self in
    let es = mid.state.diamonds in
    let fs = last.state.diamonds in
    let one = c.in_ok-first.ensures in
    let two = c.in_ok-second.ensures in
    let gave = g.C.Cache.held s.cache s.state.table in
    let between = g.C.Cache.held mid.cache mid.state.table in
    let gives = g.C.Cache.held last.cache last.state.table in
    let e = c.in_ok-first.first.edge in
    let f = first g at in
    let o = again g at in
    let h = answered_ok (given (between K)) _ c.in_ok-second.second two.answer in
    record {
      answer = one.answer;
      same = (let q : Ok c.in_ok-second.second.edge ≡ Ok e = sym h.0 ∙ ap (λ (z : Outcome). z.0) o in cc);
      again = λ k. h.1 ∙ ap given (one.map.noted k e f.0);
      after = λ t. h.1 ∙ ap given (one.map.found (sym f.1 ∙ t) K) ∙ sym f.1 ∙ t;
      gives = λ t. ap given (two.map.found (sym h.1 ∙ t) K) ∙ sym h.1 ∙ t;
      diamonds = two.diamonds ∙ ap (λ (z : Outcome). z.1) o ∙ one.diamonds;
      profile = two.profile ∙ one.profile;
      long = two.long ∙ one.long;
      still = λ x r. absurd cc;
      map = map_twice g.C.Cache.KEEPS D es fs K e _ (combine_step D es c.args.connective c.args.a c.args.b).0 gave between gives f.0
          (ap (λ (p : Profile). (combine_step p.meaning es c.args.connective c.args.a c.args.b).0) (sym one.profile) ∙ ap (λ (z : Outcome). z.0) o) one.map
          (subst (λ (p : Profile). MapAfter g.C.Cache.KEEPS p.meaning fs K (combine_step p.meaning es c.args.connective c.args.a c.args.b).0 between gives) one.profile two.map);
    }
