-- Inserting what an accepted edge means gives the store and the edge back; so accepted edges that mean the same are the same.
use Rattle.std.proofs.Common.{◌≡◌, Bool, ◌⊎◌, sym, refl, ap, ◌∙◌, inl, inr}
use Rattle.diagram.specs.Rules.{Rule, constant, ◌⋆◌}
use Rattle.diagram.specs.Edges.{Edge, Store, rule_of}
use Rattle.diagram.specs.declared.meanings.Meaning.{Meaning}
use Rattle.diagram.specs.Dialects.{Lawful}
use Rattle.diagram.specs.Making.{flat, Made, make, insert, low_half, high_half}
use Rattle.diagram.specs.Acceptance.{Accepted, Normal}
use Rattle.diagram.proofs.Notions.{Halves, OneEdge}
use Rattle.diagram.specs.Theorems.{InsertBack}
use Rattle.diagram.proofs.Split.{Leaf, split}

main_constant : (D : Meaning) (s : Store) (b : Bool) (e : Edge) → rule_of s e ≡ constant b → Leaf D s e ⊎ Halves D s e → insert D s (constant b) ≡ (s, e)
main_constant D s b e p (inl x) =
    let q : b ≡ x.bit = cc x.rule in
    λ i. (s, (ap (flat D 0) q ∙ sym x.is) i)
main_constant D s b e p (inr x) = cc x.rule

main_join : (D : Meaning) (s : Store) (f g : Rule) (e : Edge) → rule_of s e ≡ f ⋆ g →
    ((d : Edge) → Accepted D s d → rule_of s d ≡ f → insert D s f ≡ (s, d)) →
    ((d : Edge) → Accepted D s d → rule_of s d ≡ g → insert D s g ≡ (s, d)) →
    Leaf D s e ⊎ Halves D s e → insert D s (f ⋆ g) ≡ (s, e)
main_join D s f g e p ihf ihg (inl x) = cc x.rule
main_join D s f g e p ihf ihg (inr x) =
    let l = low_half D s e in
    let h = high_half D s e in
    let q : rule_of s l ⋆ rule_of s h ≡ f ⋆ g = sym x.rule ∙ p in
    let qf : rule_of s l ≡ f = cc in
    let qg : rule_of s h ≡ g = cc in
    ap (λ (a : Made). let b : Made = insert D a.0 g in make D b.0 a.1 b.1) (ihf l x.low_accepted qf)
    ∙ ap (λ (b : Made). make D b.0 l b.1) (ihg h x.high_accepted qg)
    ∙ x.made

pub main : (D : Meaning) → Lawful D → (s : Store) → Normal D s → (f : Rule) (e : Edge) → Accepted D s e → rule_of s e ≡ f → insert D s f ≡ (s, e)
main D law s ns (constant b) e a p = main_constant D s b e p (split D law s ns e a)
main D law s ns (f ⋆ g) e a p = main_join D s f g e p (main D law s ns f) (main D law s ns g) (split D law s ns e a)

pub insert_back : InsertBack
insert_back D law s ns e a = main D law s ns (rule_of s e) e a refl

pub one_edge : OneEdge
one_edge D law s ns d e ad ae p =
    ap (λ (m : Made). m.1) (sym (main D law s ns (rule_of s e) d ad p) ∙ insert_back D law s ns e ae)
