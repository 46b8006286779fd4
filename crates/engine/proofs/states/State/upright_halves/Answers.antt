use Rattle.std.proofs.Common.{◌≡◌, ◌-◌, List, length, get_or, sym, ap, ◌∙◌, arith}
use Rattle.diagram.specs.declared.edges.Edge.{Edge}
use Rattle.diagram.specs.declared.edges.Diamond.{Diamond}
use Rattle.diagram.specs.declared.meanings.Meaning.{Meaning}
use Rattle.diagram.specs.Records.{edge_of, spelled_edge, halves_on}
use Rattle.diagram.proofs.Placed.{no_diamond}
use Rattle.engine.proofs.Halved.{standing, no_letters, to_diamond, letter_spelled, letter_low, letter_high, spelled_at, diamond_low, diamond_high}
use Rattle.engine.proofs.states.State.upright_halves.Goals as goal

pub bounds-as_slice-k : goal.bounds-as_slice-k
bounds-as_slice-k c =
    let s = c.args.self.now in
    let l = ap length c.as_slice.ensures in
    omega (arith, standing s.profile.meaning s.diamonds c.args.edge c.args.n c.requires.edge c.in-Diamond.k c.in-Diamond.is, l)

pub returns-in-Some : goal.returns-in-Some
returns-in-Some c =
    let s = c.args.self.now in
    let D = s.profile.meaning in
    let ds = s.diamonds in
    let e = c.args.edge in
    let n = c.args.n in
    let l = c.in-Some.letter in
    let d = c.in-Some.below in
    let b = sym c.in-Some.ensures.value in
    let p : c.halves_on.result ≡ halves_on D (n - 1) l d = c.halves_on.ensures ∙ ap (λ (m : Meaning). halves_on m (n - 1) l d) c.meaning.ensures.value in
    let k = letter_spelled D ds e n c.requires.edge l d b in
    record {
      spelled = (ap (λ (h : Edge × Edge). spelled_edge h.0) p ∙ k.0, ap (λ (h : Edge × Edge). spelled_edge h.1) p ∙ k.1);
      low = ap (λ (h : Edge × Edge). edge_of h.0) p ∙ letter_low D ds e n c.requires.edge l d b;
      high = ap (λ (h : Edge × Edge). edge_of h.1) p ∙ letter_high D ds e n c.requires.edge l d b;
    }

pub returns-in-Diamond : goal.returns-in-Diamond
returns-in-Diamond c =
    let s = c.args.self.now in
    let D = s.profile.meaning in
    let ds = s.diamonds in
    let e = c.args.edge in
    let n = c.args.n in
    let k = c.in-Diamond.k in
    let is : get_or c.as_slice.result.now k no_diamond ≡ get_or ds k no_diamond = ap (λ (xs : List Diamond). get_or xs k no_diamond) c.as_slice.ensures in
    let z = no_letters D ds e n c.requires.edge (sym c.in-None.ensures.value) in
    let q = spelled_at ds k no_diamond s.spelled (standing D ds e n c.requires.edge k c.in-Diamond.is) in
    record {
      spelled = (ap (λ (x : Diamond). spelled_edge x.low) is ∙ q.0, ap (λ (x : Diamond). spelled_edge x.high) is ∙ q.1);
      low = ap (λ (x : Diamond). edge_of x.low) is ∙ diamond_low D ds e n c.requires.edge k no_diamond z c.in-Diamond.is;
      high = ap (λ (x : Diamond). edge_of x.high) is ∙ diamond_high D ds e n c.requires.edge k no_diamond z c.in-Diamond.is;
    }

pub returns-in_default : goal.returns-in_default
returns-in_default c =
    let s = c.args.self.now in
    absurd (to_diamond s.profile.meaning s.diamonds c.args.edge c.args.n c.requires.edge c.requires.some (sym c.in-None.ensures.value) c.in_default.not-Diamond)
