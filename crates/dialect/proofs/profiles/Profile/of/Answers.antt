-- The meaning that is asked of a dialect is its own, which keeps the laws.
use Rattle.std.proofs.Common.{◌≡◌, true, sym, subst, rules}
use Rattle.diagram.specs.declared.meanings.Meaning.{Meaning}
use Rattle.diagram.specs.Dialects.{lawful}
use Rattle.dialect.proofs.profiles.Profile.of.Goals as goal

pub invariant_of-result : goal.invariant_of-result
invariant_of-result g c =
    let asked : Meaning = record { code = c.CODE.result; negates = c.NEGATES.result; letters = c.letters_of.result; answers = c.answers_of.result } in
    let e : asked ≡ g.D.Dialect.meaning = search rules in
    record { sound = subst (λ (m : Meaning). lawful m ≡ true) (sym e) g.met.D.Dialect.sound }
