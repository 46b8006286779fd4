-- Where the dialect negates, a negated rule is inserted as the rule is, with the other mark.
use Rattle.std.proofs.Common.{◌≡◌, Bool, true, false, cond, not, List, IfOk, Some, None, Ok, Err, Option, Result, sym, refl, ap, ◌∙◌, ap₂}
use Rattle.diagram.specs.declared.edges.Edge.{Edge as EdgeRecord}
use Rattle.diagram.specs.declared.edges.Diamond.{Diamond as DiamondRecord}
use Rattle.diagram.specs.declared.meanings.Meaning.{Meaning}
use Rattle.diagram.specs.declared.refusals.Refusal.{Refusal}
use Rattle.diagram.specs.Rules.{Rule, constant, ◌⋆◌, negate}
use Rattle.diagram.specs.Edges.{Edge, Store, flip}
use Rattle.diagram.specs.Dialects.{Lawful}
use Rattle.diagram.specs.Making.{Made, choose, add, flipped, make_by, make, insert}
use Rattle.diagram.specs.Records.{store_of}
use Rattle.diagram.proofs.Laws.{flip_flip}
use Rattle.diagram.proofs.Signs.{flip?, choose_flip}
use Rattle.diagram.proofs.Split.{flat_negating}
use Rattle.engine.specs.Steps.{Outcome, kept, inserted}
use Rattle.engine.specs.States.{Joined}
use Rattle.engine.proofs.Choosing.{marked, kept_marked}

module _ (D : Meaning) (law : Lawful D) (n : D.negates ≡ true) where
  make_flip : (s : Store) (l h : Edge) → make D s (flip l) (flip h) ≡ flipped (make D s l h)
  make_flip s l h = ap (λ (o : Option Edge). make_by o s (flip l) (flip h)) (choose_flip D law n l h) ∙ go (choose D l h)
    where
      by : (b : Bool) →
          cond {A = Made} (not b) (flipped (add s (flip (flip l)) (flip (flip h)))) (add s (flip l) (flip h)) ≡ flipped (cond b (flipped (add s (flip l) (flip h))) (add s l h))
      by true = ap (λ (e : Edge). ((add s (flip l) (flip h)).0, e)) (sym (flip_flip (add s (flip l) (flip h)).1))
      by false = ap₂ (λ (a b : Edge). flipped (add s a b)) (flip_flip l) (flip_flip h)

      go : (o : Option Edge) → make_by (flip? o) s (flip l) (flip h) ≡ flipped (make_by o s l h)
      go (Some e) = refl
      go None = by l.negated

  insert_negate : (s : Store) (f : Rule) → insert D s (negate f) ≡ flipped (insert D s f)
  insert_negate s (constant b) =
      ap (λ (e : Edge). (s, e)) (flat_negating D 0 (not b) n ∙ ap flip (sym (flat_negating D 0 b n)))
  insert_negate s (f ⋆ g) =
      let a : Made = insert D s f in
      let b : Made = insert D a.0 g in
      ap (λ (x : Made). let y : Made = insert D x.0 (negate g) in make D y.0 x.1 y.1) (insert_negate s f)
      ∙ ap (λ (y : Made). make D y.0 (flip a.1) y.1) (insert_negate a.0 g)
      ∙ make_flip b.0 a.1 b.1

  inserted_negate : (ds : List DiamondRecord) (f : Rule) → inserted D ds (negate f) ≡ (marked (inserted D ds f).0, (inserted D ds f).1)
  inserted_negate ds f = ap (kept ds) (insert_negate (store_of ds) f) ∙ kept_marked ds (insert D (store_of ds) f)

  -- so a negated combination is joined as the combination is
  pub joined_negated : (ds : List DiamondRecord) (f : Rule) (r : Result EdgeRecord Refusal) (es : List DiamondRecord) → Joined D ds f r es → Joined D ds (negate f) (marked r) es
  joined_negated ds f r es j =
      let p = inserted_negate ds f in
      record {
        answer = ap marked j.answer ∙ ap (λ (o : Outcome). o.0) (sym p);
        grown = go r j.grown;
        begins = j.begins;
      }
    where
      go : (r : Result EdgeRecord Refusal) → IfOk r (λ e. es ≡ (inserted D ds f).1) → IfOk (marked r) (λ e. es ≡ (inserted D ds (negate f)).1)
      go (Ok e) q = q ∙ ap (λ (o : Outcome). o.1) (sym (inserted_negate ds f))
      go (Err x) q = tt
