-- For code that has its diamonds in a vector, the oldest first, and the level of each edge: what the store's functions are of those.
use Rattle.std.proofs.Common.{◌≡◌, ℕ, ◌+◌, ◌<◌, Bool, true, false, cond, eqb, List, [], ◌∷◌, ◌++◌, reverse, length, get_or, sym, refl, ap, ◌∙◌, not-suc-le-zero, arith}
use Rattle.std.proofs.lemmas.Bool.{eqb-false, eqb-true}
use mathlib.Core.List.{reverse-cons}
use Rattle.diagram.specs.Rules.{Rule, arity}
use Rattle.diagram.specs.declared.letters.Letter.{Letter}
use Rattle.diagram.specs.Edges.{Edge, Diamond, Store, spell, foot, diamond_rule, rule_of, diamond_at}
use lib.ListN.{length-reverse}
use Rattle.std.proofs.lemmas.List.{reverse-reverse, get_or_append_left, get_or_push}
use Rattle.diagram.proofs.Laws.{arity_sign, arity_on}

at_reverse : (s : Store) (k : ℕ) (d : Diamond) → k < length s → get_or (reverse s) k d ≡ diamond_at s k
at_reverse [] k d h = absurd (not-suc-le-zero h)
at_reverse (n ∷ s) k d h = rw (reverse-cons n s) (go (eqb k (length s)) refl (at_reverse s k d))
  where
    go : (b : Bool) → eqb k (length s) ≡ b → (k < length s → get_or (reverse s) k d ≡ diamond_at s k) → get_or (reverse s ++ (n ∷ [])) k d ≡ cond b n (diamond_at s k)
    go true e ih = get_or_push (reverse s) n d k (length-reverse s ∙ sym (eqb-true k (length s) e))
    go false e ih =
        let ne = eqb-false k (length s) e in
        let i : k < length s = omega arith in
        let j : k < length (reverse s) = rw (length-reverse s) i in
        get_or_append_left (reverse s) (n ∷ []) d k j ∙ ih i

pub nth : (ns : List Diamond) (k : ℕ) (d : Diamond) → k < length ns → get_or ns k d ≡ diamond_at (reverse ns) k
nth ns k d h =
    let i : k < length (reverse ns) = rw (length-reverse ns) h in
    ap (λ (xs : List Diamond). get_or xs k d) (sym (reverse-reverse ns)) ∙ at_reverse (reverse ns) k d i

-- the level of an edge: its letters, and the level of its target
arity_spell : (w : List Letter) (f : Rule) → arity (spell w f) ≡ length w + arity f
arity_spell [] f = omega arith
arity_spell (c ∷ w) f = let p = arity_on c (spell w f) in let q = arity_spell w f in omega arith

pub arity_edge : (s : Store) (e : Edge) → arity (rule_of s e) ≡ length e.word + arity (foot (diamond_rule s) e.target)
arity_edge s e = arity_sign e.negated (spell e.word (foot (diamond_rule s) e.target)) ∙ arity_spell e.word (foot (diamond_rule s) e.target)
