use Rattle.std.proofs.Common.{rules, sym, ◌∙◌}
use Rattle.diagram.proofs.Spelt.{below_parts, below_foot, below_chosen, below_unchosen}
use Rattle.diagram.proofs.meanings.Meaning.+chooses_all.Goals as goal

pub chooses_all-requires : goal.chooses_all-requires
chooses_all-requires t c =
    let h = sym (below_parts c.args.edge c.in-Some.letter c.in-Some.below (sym c.in-Some.ensures.value)).3 ∙ c.requires.spelled in
    search rules

pub returns-then-chooses : goal.returns-then-chooses
returns-then-chooses t c = λ s h.
    let b = sym c.in-Some.ensures.value in
    c.chooses_all.ensures s (below_foot c.args.self.now s c.args.edge c.in-Some.letter c.in-Some.below c.args.foot b c.requires.spelled h)
    ∙ sym (below_chosen c.args.self.now s c.args.edge c.in-Some.letter c.in-Some.below c.args.foot b c.requires.spelled h (sym c.if-chooses.ensures))

pub returns-else-chooses : goal.returns-else-chooses
returns-else-chooses t c = λ s h.
    c.if-chooses.false
    ∙ sym (below_unchosen c.args.self.now s c.args.edge c.in-Some.letter c.in-Some.below c.args.foot (sym c.in-Some.ensures.value) c.requires.spelled h (sym c.if-chooses.ensures))
