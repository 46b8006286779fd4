use Rattle.std.proofs.Common.{sym, refl, ◌∙◌}
use Rattle.diagram.specs.Records.{store_of}
use Rattle.diagram.proofs.Spelt.{not_standing, not_suiting, not_spelled, too_long, all_but_letters}
use Rattle.diagram.proofs.meanings.Meaning.accepts.Goals as goal
use Rattle.diagram.proofs.meanings.Meaning.accepts.Goals.{then-not-stands-via-then-not-stands, then-not-stands-via-else-not-stands+then-not-suits, then-not-stands-via-else-not-stands+else-not-suits+then-not-is_spelled}

pub returns-then-not-stands : goal.returns-then-not-stands
returns-then-not-stands c =
    elim c.then-not-stands.branch [
      | then-not-stands-via-then-not-stands w ↦ sym (not_standing c.args.self.now c.args.diamonds.now c.args.edge _ refl (sym w.if-not-stands.ensures))
      | then-not-stands-via-else-not-stands+then-not-suits w ↦ sym (not_suiting c.args.self.now c.args.diamonds.now c.args.edge _ refl (sym w.if-not-suits.ensures))
      | then-not-stands-via-else-not-stands+else-not-suits+then-not-is_spelled w ↦ sym (not_spelled c.args.self.now c.args.diamonds.now c.args.edge _ refl (sym w.if-not-is_spelled.ensures))
    ]

pub returns-then-too_long : goal.returns-then-too_long
returns-then-too_long c =
    sym (too_long c.args.self.now c.args.diamonds.now c.args.edge c.target_arity-foot.result (sym c.target_arity-foot.ensures.value) (sym c.if-too_long.ensures))

pub returns : goal.returns
returns c =
    let a = sym c.target_arity-foot.ensures.value in
    c.chooses_all.ensures (store_of c.args.diamonds.now) a
    ∙ sym (all_but_letters c.args.self.now c.args.diamonds.now c.args.edge c.target_arity-foot.result a
    (sym c.if-not-stands.ensures) (sym c.if-not-suits.ensures) (sym c.if-not-is_spelled.ensures) (sym c.if-too_long.ensures))
