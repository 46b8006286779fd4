-- Making commutes with negation, in a lawful dialect that negates.
use Rattle.std.proofs.Common.{◌≡◌, Bool, true, false, cond, not, Some, None, Option, sym, refl, ap, ◌∙◌, ap₂}
use Rattle.diagram.specs.declared.letters.Letter.{Letter}
use Rattle.diagram.specs.declared.letters.Letter.TheVariants.{U, X, C00, C01, C10, C11}
use Rattle.diagram.specs.Letters.{partner}
use Rattle.diagram.specs.Edges.{Edge, flip, put, same, Store}
use Rattle.diagram.specs.Dialects.{look, Lawful, partners, answer_at}
use Rattle.diagram.specs.declared.meanings.Meaning.{Meaning}
use Rattle.diagram.specs.Making.{source, written, choose, add, Made, flipped, make_by, make}
use Rattle.diagram.proofs.Laws.{flip_flip, put_flip, same_flip, look_flip}

abbrev pub flip? : Option Edge → Option Edge
flip? None = None
flip? (Some e) = Some (flip e)

source_flip : (c : Letter) (l h : Edge) → source (partner c) (flip l) (flip h) ≡ flip (source c l h)
source_flip U l h = refl
source_flip X l h = refl
source_flip C00 l h = refl
source_flip C01 l h = refl
source_flip C10 l h = refl
source_flip C11 l h = refl

written_flip : (o : Option Letter) (l h : Edge) → written (partners o) (flip l) (flip h) ≡ flip? (written o l h)
written_flip None l h = refl
written_flip (Some c) l h = ap Some (ap (put (partner c)) (source_flip c l h) ∙ sym (put_flip c (source c l h)))

choose_flip_at : (b : Bool) (o : Option Letter) (l h : Edge) →
    cond b (Some (put U (flip l))) (written (partners o) (flip l) (flip h)) ≡ flip? (cond b (Some (put U l)) (written o l h))
choose_flip_at true o l h = ap Some (sym (put_flip U l))
choose_flip_at false o l h = written_flip o l h

pub choose_flip : (D : Meaning) → Lawful D → D.negates ≡ true → (l h : Edge) → choose D (flip l) (flip h) ≡ flip? (choose D l h)
choose_flip D law neg l h =
    ap₂ (λ b k. cond b (Some (put U (flip l))) (written (answer_at D k) (flip l) (flip h))) (same_flip l h) (look_flip D l h)
    ∙ ap (λ o. cond (same l h) (Some (put U (flip l))) (written o (flip l) (flip h))) (law.turns neg (look D l h))
    ∙ choose_flip_at (same l h) (answer_at D (look D l h)) l h

pub flipped_flipped : (m : Made) → flipped (flipped m) ≡ m
flipped_flipped m = λ i. (m.0, flip_flip m.1 i)

make_flip_at : (n : Bool) (a b : Made) → cond (not n) (flipped b) a ≡ flipped (cond n (flipped a) b)
make_flip_at true a b = sym (flipped_flipped a)
make_flip_at false a b = refl

make_flip_by : (o : Option Edge) (s : Store) (l h : Edge) → make_by (flip? o) s (flip l) (flip h) ≡ flipped (make_by o s l h)
make_flip_by None s l h =
    ap₂ (λ p q. cond (not l.negated) (flipped (add s p q)) (add s (flip l) (flip h))) (flip_flip l) (flip_flip h)
    ∙ make_flip_at l.negated (add s (flip l) (flip h)) (add s l h)
make_flip_by (Some e) s l h = refl

pub make_flip : (D : Meaning) → Lawful D → D.negates ≡ true → (s : Store) (l h : Edge) → make D s (flip l) (flip h) ≡ flipped (make D s l h)
make_flip D law neg s l h =
    ap (λ o. make_by o s (flip l) (flip h)) (choose_flip D law neg l h) ∙ make_flip_by (choose D l h) s l h
