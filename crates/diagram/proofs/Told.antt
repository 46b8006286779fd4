-- The rules that calls ask for are even, and so is what edges mean; so edges are told by their values. And what is accepted is told by inserting.
use Rattle.std.proofs.Common.{◌≡◌, ℕ, zero, suc, Bool, true, false, cond, eqb, List, [], ◌∷◌, length, sym, refl, ap, ◌∙◌, subst, arith}
use Rattle.diagram.specs.Rules.{Rule, constant, ◌⋆◌, arity, Balanced, negate, full, variable, pointwise}
use Rattle.diagram.specs.declared.letters.Letter.{Letter}
use Rattle.diagram.specs.declared.letters.Letter.TheVariants.{U, X, C00, C01, C10, C11}
use Rattle.diagram.specs.Letters.{on}
use Rattle.diagram.specs.Edges.{Target, terminal, diamond, Edge, Store, sign, spell, foot, sense, diamond_rule, rule_of}
use Rattle.diagram.specs.declared.meanings.Meaning.{Meaning}
use Rattle.diagram.specs.Making.{Made}
use Rattle.diagram.specs.Acceptance.{Accepted, Normal}
use Rattle.diagram.proofs.Notions.{AcceptedTold}
use Rattle.diagram.specs.Theorems.{EdgesTold, RulesFormed}
use Rattle.diagram.proofs.Laws.{arity_negate, arity_full}
use Rattle.diagram.proofs.Values.{values_tell}
use Rattle.diagram.proofs.Main.{insert_back, one_edge}
use Rattle.diagram.proofs.Sound.{insert_sound}

pub balanced_full : (n : ℕ) (b : Bool) → Balanced (full n b)
balanced_full zero b = tt
balanced_full (suc n) b = (balanced_full n b, balanced_full n b, refl)

pub balanced_negate : (f : Rule) → Balanced f → Balanced (negate f)
balanced_negate (constant b) e = tt
balanced_negate (f ⋆ g) e = (balanced_negate f e.0, balanced_negate g e.1, arity_negate f ∙ e.2 ∙ sym (arity_negate g))

pub arity_variable : (n i : ℕ) → arity (variable n i) ≡ n
arity_variable zero i = refl
arity_variable (suc n) zero = ap suc (arity_full n false)
arity_variable (suc n) (suc i) = ap suc (arity_variable n i)

pub balanced_variable : (n i : ℕ) → Balanced (variable n i)
balanced_variable zero i = tt
balanced_variable (suc n) zero = (balanced_full n false, balanced_full n true, arity_full n false ∙ sym (arity_full n true))
balanced_variable (suc n) (suc i) = (balanced_variable n i, balanced_variable n i, refl)

pub arity_pointwise : (op : Bool → Bool → Bool) (f g : Rule) → arity f ≡ arity g → arity (pointwise op f g) ≡ arity f
arity_pointwise op (constant a) (constant b) p = refl
arity_pointwise op (constant a) (g ⋆ g') p = refl
arity_pointwise op (f ⋆ f') (constant b) p = absurd (omega arith)
arity_pointwise op (f ⋆ f') (g ⋆ g') p = ap suc (arity_pointwise op f g (omega arith))

pub balanced_pointwise : (op : Bool → Bool → Bool) (f g : Rule) → Balanced f → Balanced g → arity f ≡ arity g → Balanced (pointwise op f g)
balanced_pointwise op (constant a) (constant b) ef eg p = tt
balanced_pointwise op (constant a) (g ⋆ g') ef eg p = tt
balanced_pointwise op (f ⋆ f') (constant b) ef eg p = tt
balanced_pointwise op (f ⋆ f') (g ⋆ g') ef eg p =
    let q : arity f ≡ arity g = omega arith in
    let q' : arity f' ≡ arity g' = sym ef.2 ∙ q ∙ eg.2 in (
      balanced_pointwise op f g ef.0 eg.0 q,
      balanced_pointwise op f' g' ef.1 eg.1 q',
      arity_pointwise op f g q ∙ ef.2 ∙ sym (arity_pointwise op f' g' q'),
    )

pub rules_formed : RulesFormed
rules_formed = (
  λ n b. (balanced_full n b, arity_full n b),
  λ n i. (balanced_variable n i, arity_variable n i),
  λ f e. (balanced_negate f e, arity_negate f),
  λ op f g ef eg p. (balanced_pointwise op f g ef eg p, arity_pointwise op f g p),
)

balanced_on : (c : Letter) (f : Rule) → Balanced f → Balanced (on c f)
balanced_on U f e = (e, e, refl)
balanced_on X f e = (e, balanced_negate f e, sym (arity_negate f))
balanced_on C00 f e = (balanced_full (arity f) false, e, arity_full (arity f) false)
balanced_on C01 f e = (balanced_full (arity f) true, e, arity_full (arity f) true)
balanced_on C10 f e = (e, balanced_full (arity f) false, sym (arity_full (arity f) false))
balanced_on C11 f e = (e, balanced_full (arity f) true, sym (arity_full (arity f) true))

balanced_spell : (w : List Letter) (f : Rule) → Balanced f → Balanced (spell w f)
balanced_spell [] f e = e
balanced_spell (c ∷ w) f e = balanced_on c (spell w f) (balanced_spell w f e)

balanced_sign : (n : Bool) (f : Rule) → Balanced f → Balanced (sign n f)
balanced_sign true f e = balanced_negate f e
balanced_sign false f e = e

balanced_foot : (r : ℕ → Rule) → ((k : ℕ) → Balanced (r k)) → (t : Target) → Balanced (foot r t)
balanced_foot r h (terminal b) = tt
balanced_foot r h (diamond k) = h k

pub balanced_meaning : (r : ℕ → Rule) → ((k : ℕ) → Balanced (r k)) → (e : Edge) → Balanced (sense r e)
balanced_meaning r h e = balanced_sign e.negated (spell e.word (foot r e.target)) (balanced_spell e.word (foot r e.target) (balanced_foot r h e.target))

pub balanced_cond : (b : Bool) (f g : Rule) → Balanced f → Balanced g → Balanced (cond b f g)
balanced_cond true f g p q = p
balanced_cond false f g p q = q

balanced_diamond : (D : Meaning) (s : Store) → Normal D s → (k : ℕ) → Balanced (diamond_rule s k)
balanced_diamond D [] ns k = tt
balanced_diamond D (n ∷ s) ns k =
    let h = balanced_diamond D s ns.0 in
    balanced_cond (eqb k (length s)) (rule_of s n.low ⋆ rule_of s n.high) (diamond_rule s k)
    (balanced_meaning (diamond_rule s) h n.low, balanced_meaning (diamond_rule s) h n.high, ns.1.level) (h k)

pub balanced_rule : (D : Meaning) (s : Store) → Normal D s → (e : Edge) → Balanced (rule_of s e)
balanced_rule D s ns e = balanced_meaning (diamond_rule s) (balanced_diamond D s ns) e

pub edges_told : EdgesTold
edges_told D law s ns d e ad ae n h =
    one_edge D law s ns d e ad ae (values_tell (rule_of s d) (rule_of s e) (balanced_rule D s ns d) (balanced_rule D s ns e) n h)

pub accepted_told : AcceptedTold
accepted_told D law s ns e = (
  insert_back D law s ns e,
  λ p. subst (λ (m : Made). Accepted D m.0 m.1) p (insert_sound D law s ns (rule_of s e) (balanced_rule D s ns e)).accepted,
)
