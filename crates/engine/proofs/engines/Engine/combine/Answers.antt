use Rattle.std.proofs.Common.{◌≡◌, ℕ, false, eqb, List, take, Some, None, Ok, Err, Option, sym, ap, ◌∙◌, subst, ap₂}
use Rattle.std.proofs.lemmas.Result.{err_from_is_err_and}
use Rattle.diagram.specs.declared.edges.Edge.{Edge}
use Rattle.diagram.specs.declared.edges.Diamond.{Diamond}
use Rattle.diagram.specs.declared.refusals.Refusal.TheVariants.{Full}
use Rattle.diagram.specs.Refusals.{refusal_number}
use Rattle.dialect.specs.declared.profiles.Profile.{Profile}
use Rattle.cache.specs.declared.entries.Key.{Key}
use Rattle.engine.specs.Steps.{Outcome, combine_step, answered, given}
use Rattle.engine.specs.Laws.{HeldWell, Remembers}
use Rattle.engine.proofs.Marks.{passed}
use Rattle.engine.proofs.Lawlike.{state_well}
use Rattle.cache.specs.Entries.{key}
use Rattle.engine.proofs.Remembered.{right_read, step_right}
use Rattle.engine.proofs.Halfwise.{joined_step, refused_step}
use Rattle.engine.proofs.Mapped.{connective_refused, pair_refused, key_asked, key_passed, remembers_state, map_left, map_found, map_noted, map_emptied}
use Rattle.engine.proofs.engines.Engine.combine.Given.{Over}
use Rattle.engine.proofs.engines.Engine.combine.Goals.{In_err-n, In-Some, After-note, In-Err}
use Rattle.engine.proofs.engines.Engine.combine.Goals as goal

-- a connective out of range

pub returns-in_err-connective-clause-map : goal.returns-in_err-connective-clause-map
returns-in_err-connective-clause-map g c =
    let s = c.args.self.now in
    let D = s.state.profile.meaning in
    let ds = s.state.diamonds in
    let gave = g.C.Cache.held s.cache s.state.table in
    let x = c.in_err-connective.field-0.0 in
    let o = connective_refused D ds c.args.connective c.args.a c.args.b x c.in_err-connective.ensures in
    map_left g.C.Cache.KEEPS D ds (key c.args.connective c.args.a c.args.b) gave x _ (ap (λ (z : Outcome). z.0) o.0) o.1 (remembers_state s.state gave (g.met.C.Cache.honest s.cache s.state.table))

-- edges that do not fit

unfit : (g : Over) (c : In_err-n g) → (combine_step c.args.self.now.state.profile.meaning c.args.self.now.state.diamonds c.args.connective c.args.a c.args.b ≡ (Err c.in_err-n.field-0.0, c.args.self.now.state.diamonds)) × (eqb (refusal_number c.in_err-n.field-0.0) 7 ≡ false)
unfit g c =
    let s = c.args.self.now.state in
    pair_refused s.profile.meaning s.diamonds c.args.connective c.args.a c.args.b c.in_err-n.field-0.0 (passed _ _ _ _ c.in_ok-connective.ensures).0 c.in_err-n.ensures

pub returns-in_err-n-clause-answer : goal.returns-in_err-n-clause-answer
returns-in_err-n-clause-answer g c =
    let s = c.args.self.now in
    let gave = g.C.Cache.held s.cache s.state.table (key c.args.connective c.args.a c.args.b) in
    let p = err_from_is_err_and c.from_residual-in_err-n.result c.from_residual-in_err-n.ensures.1 in
    p.1 ∙ ap Err p.2 ∙ ap (λ (z : Outcome). answered (given gave) z.0) (sym (unfit g (goal.at.returns-in_err-n-clause-answer g c).In_err-n).0)

pub returns-in_err-n-clause-diamonds : goal.returns-in_err-n-clause-diamonds
returns-in_err-n-clause-diamonds g c = ap (λ (z : Outcome). z.1) (sym (unfit g (goal.at.returns-in_err-n-clause-diamonds g c).In_err-n).0)

pub returns-in_err-n-clause-map : goal.returns-in_err-n-clause-map
returns-in_err-n-clause-map g c =
    let s = c.args.self.now in
    let gave = g.C.Cache.held s.cache s.state.table in
    let o = unfit g (goal.at.returns-in_err-n-clause-map g c).In_err-n in
    map_left g.C.Cache.KEEPS s.state.profile.meaning s.state.diamonds (key c.args.connective c.args.a c.args.b) gave c.in_err-n.field-0.0 _ (ap (λ (z : Outcome). z.0) o.0) o.1 (remembers_state s.state gave (g.met.C.Cache.honest s.cache s.state.table))

-- an edge that the cache gave

held : (g : Over) (c : In-Some g) → g.C.Cache.held c.args.self.now.cache c.args.self.now.state.table (key c.args.connective c.args.a c.args.b) ≡ Some c.in-Some.edge
held g c =
    let s = c.args.self.now in
    let k = key_asked s.state.profile.meaning s.state.diamonds c.args.connective c.args.a c.args.b _ _ c.in_ok-connective.ensures c.key_of-key.ensures in
    ap (g.C.Cache.held s.cache s.state.table) (sym k) ∙ sym c.in-Some.ensures.value

held_step : (g : Over) (c : In-Some g) → combine_step c.args.self.now.state.profile.meaning c.args.self.now.state.diamonds c.args.connective c.args.a c.args.b ≡ (Ok c.in-Some.edge, c.args.self.now.state.diamonds)
held_step g c =
    let s = c.args.self.now in
    let K = key c.args.connective c.args.a c.args.b in
    let e = c.in-Some.edge in
    right_read s.state.profile.meaning s.state.diamonds (state_well s.state) K e (s.state.right K e (g.met.C.Cache.honest s.cache s.state.table K e (held g c)))

pub returns-in-Some-clause-answer : goal.returns-in-Some-clause-answer
returns-in-Some-clause-answer g c =
    let at = (goal.at.returns-in-Some-clause-answer g c).In-Some in
    sym (ap₂ (λ (f : Option Edge) (z : Outcome). answered (given f) z.0) (held g at) (held_step g at))

pub returns-in-Some-clause-diamonds : goal.returns-in-Some-clause-diamonds
returns-in-Some-clause-diamonds g c = ap (λ (z : Outcome). z.1) (sym (held_step g (goal.at.returns-in-Some-clause-diamonds g c).In-Some))

pub returns-in-Some-clause-right : goal.returns-in-Some-clause-right
returns-in-Some-clause-right g c =
    let s = c.args.self.now.state in
    step_right s.profile.meaning s.diamonds (state_well s) c.args.connective c.args.a c.args.b c.in-Some.edge s.diamonds (held_step g (goal.at.returns-in-Some-clause-right g c).In-Some)

pub returns-in-Some-clause-map : goal.returns-in-Some-clause-map
returns-in-Some-clause-map g c =
    let at = (goal.at.returns-in-Some-clause-map g c).In-Some in
    let s = c.args.self.now in
    let gives = g.C.Cache.held c.find.new.self s.state.table in
    map_found g.C.Cache.KEEPS s.state.profile.meaning s.state.diamonds (key c.args.connective c.args.a c.args.b) (g.C.Cache.held s.cache s.state.table) gives c.in-Some.edge _ (ap (λ (z : Outcome). z.0) (held_step g at)) (held g at) c.in-Some.ensures.same
    (remembers_state s.state gives (g.met.C.Cache.honest c.find.new.self s.state.table))

-- an edge that is made

pub join-requires : goal.join-requires
join-requires g c =
    let s = c.args.self.now.state in
    key_passed s.profile.meaning s.diamonds c.args.connective c.args.a c.args.b _ _ _ c.in_ok-connective.ensures c.key_of-key.ensures c.in_ok-n.ensures

-- the cache gave none, and the step is what was joined
noted : (g : Over) (c : After-note g) →
    (g.C.Cache.held c.args.self.now.cache c.args.self.now.state.table (key c.args.connective c.args.a c.args.b) ≡ None)
    × (combine_step c.args.self.now.state.profile.meaning c.args.self.now.state.diamonds c.args.connective c.args.a c.args.b ≡ (Ok c.in-Ok.edge, c.note.new.self.state.diamonds))
noted g c =
    let s = c.args.self.now in
    let D = s.state.profile.meaning in
    let ds = s.state.diamonds in
    let k = key_asked D ds c.args.connective c.args.a c.args.b _ _ c.in_ok-connective.ensures c.key_of-key.ensures in
    let a = key_passed D ds c.args.connective c.args.a c.args.b _ _ _ c.in_ok-connective.ensures c.key_of-key.ensures c.in_ok-n.ensures in (
      ap (g.C.Cache.held s.cache s.state.table) (sym k) ∙ sym c.in_default.ensures.value,
      ap (λ (j : Key). combine_step D ds j.connective j.left j.right) (sym k)
          ∙ joined_step D ds (state_well s.state) c.key_of-key.result c.in_ok-n.n a c.in-Ok.edge c.join.new.self.state.diamonds c.in-Ok.ensures.joined
          ∙ ap (λ (xs : List Diamond). (Ok c.in-Ok.edge, xs)) (sym c.note.ensures.state.0),
    )

pub returns-in-Ok-clause-answer : goal.returns-in-Ok-clause-answer
returns-in-Ok-clause-answer g c =
    let o = noted g (goal.at.returns-in-Ok-clause-answer g c).After-note in
    sym (ap₂ (λ (f : Option Edge) (z : Outcome). answered (given f) z.0) o.0 o.1)

pub returns-in-Ok-clause-diamonds : goal.returns-in-Ok-clause-diamonds
returns-in-Ok-clause-diamonds g c = ap (λ (z : Outcome). z.1) (sym (noted g (goal.at.returns-in-Ok-clause-diamonds g c).After-note).1)

pub returns-in-Ok-clause-right : goal.returns-in-Ok-clause-right
returns-in-Ok-clause-right g c =
    let s = c.args.self.now.state in
    step_right s.profile.meaning s.diamonds (state_well s) c.args.connective c.args.a c.args.b c.in-Ok.edge c.note.new.self.state.diamonds (noted g (goal.at.returns-in-Ok-clause-right g c).After-note).1

pub returns-in-Ok-clause-map : goal.returns-in-Ok-clause-map
returns-in-Ok-clause-map g c =
    let o = noted g (goal.at.returns-in-Ok-clause-map g c).After-note in
    let s = c.args.self.now in
    let last = c.note.new.self in
    let fs = last.state.diamonds in
    let gives = g.C.Cache.held last.cache last.state.table in
    let k = key_asked s.state.profile.meaning s.state.diamonds c.args.connective c.args.a c.args.b _ _ c.in_ok-connective.ensures c.key_of-key.ensures in
    map_noted g.C.Cache.KEEPS s.state.profile.meaning fs (key c.args.connective c.args.a c.args.b) (g.C.Cache.held s.cache s.state.table) gives c.in-Ok.edge _ (ap (λ (z : Outcome). z.0) o.1) o.0
    (λ h. ap gives (sym k) ∙ c.note.ensures.noted.kept h c.join.new.self.state.wide)
    (subst (λ (p : Profile). Remembers p.meaning fs gives) (c.note.ensures.state.1 ∙ c.in-Ok.ensures.profile) (remembers_state last.state gives (g.met.C.Cache.honest last.cache last.state.table)))

-- an edge that there is no room for

pub take_back-requires : goal.take_back-requires
take_back-requires g c =
    let s = c.args.self.now.state in
    let xs = c.join.new.self.state.diamonds in
    let b : take c.len-count.result xs ≡ s.diamonds = ap (λ (n : ℕ). take n xs) c.len-count.ensures ∙ c.in-Err.ensures.joined.begins in
    subst (λ (p : Profile). HeldWell p.meaning (take c.len-count.result xs)) (sym c.in-Err.ensures.profile) (subst (HeldWell s.profile.meaning) (sym b) (state_well s))

full : (g : Over) (c : In-Err g) →
    (g.C.Cache.held c.args.self.now.cache c.args.self.now.state.table (key c.args.connective c.args.a c.args.b) ≡ None)
    × (combine_step c.args.self.now.state.profile.meaning c.args.self.now.state.diamonds c.args.connective c.args.a c.args.b ≡ (Err Full, c.args.self.now.state.diamonds))
full g c =
    let s = c.args.self.now in
    let D = s.state.profile.meaning in
    let ds = s.state.diamonds in
    let k = key_asked D ds c.args.connective c.args.a c.args.b _ _ c.in_ok-connective.ensures c.key_of-key.ensures in
    let a = key_passed D ds c.args.connective c.args.a c.args.b _ _ _ c.in_ok-connective.ensures c.key_of-key.ensures c.in_ok-n.ensures in (
      ap (g.C.Cache.held s.cache s.state.table) (sym k) ∙ sym c.in_default.ensures.value,
      ap (λ (j : Key). combine_step D ds j.connective j.left j.right) (sym k)
          ∙ (refused_step D ds (state_well s.state) c.key_of-key.result c.in_ok-n.n a c.in-Err.refusal c.join.new.self.state.diamonds c.in-Err.ensures.joined).0,
    )

pub returns-in-Err-clause-diamonds : goal.returns-in-Err-clause-diamonds
returns-in-Err-clause-diamonds g c =
    c.take_back.ensures.diamonds ∙ ap (λ (n : ℕ). take n c.join.new.self.state.diamonds) c.len-count.ensures ∙ c.in-Err.ensures.joined.begins
    ∙ ap (λ (z : Outcome). z.1) (sym (full g (goal.at.returns-in-Err-clause-diamonds g c).In-Err).1)

pub returns-in-Err-clause-map : goal.returns-in-Err-clause-map
returns-in-Err-clause-map g c =
    let o = full g (goal.at.returns-in-Err-clause-map g c).In-Err in
    let s = c.args.self.now in
    let last = c.take_back.new.self in
    map_emptied g.C.Cache.KEEPS s.state.profile.meaning last.state.diamonds (key c.args.connective c.args.a c.args.b) (g.C.Cache.held s.cache s.state.table) (g.C.Cache.held last.cache last.state.table) _ (ap (λ (z : Outcome). z.0) o.1) o.0 c.take_back.ensures.map
