-- Steps of walks, over any diamonds that go down.
use Rattle.std.proofs.Common.{◌≡◌, ℕ, ◌<◌, Bool, true, false, cond, eqb, List, [], ◌∷◌, length, sym, refl, ap, ◌∙◌, not-suc-le-zero, arith}
use Rattle.std.proofs.lemmas.Bool.{eqb-false, ne_eqb}
use Rattle.diagram.specs.Edges.{Target, terminal, diamond, Diamond, Store, diamond_at}
use Rattle.diagram.specs.declared.meanings.Meaning.{Meaning}
use Rattle.diagram.specs.Acceptance.{Within, Normal}
use Rattle.diagram.specs.Walks.{met, visit}
use Rattle.diagram.proofs.Notions.{Lower, VisitStep}

within_next : (n : Diamond) (s : Store) (t : Target) → Within s t → Within (n ∷ s) t
within_next n s (terminal b) w = tt
within_next n s (diamond k) w = omega arith

abbrev pub Down : Store → Diamond → Type 0
Down s m = Within s m.low.target × Within s m.high.target

pub lower_at : (s : Store) → Lower s → (k : ℕ) → k < length s → Down s (diamond_at s k)
lower_at [] l k i = absurd (not-suc-le-zero i)
lower_at (n ∷ s) l k i = go (eqb k (length s)) refl (lower_at s l.0 k)
  where
    go : (b : Bool) → eqb k (length s) ≡ b → (k < length s → Down s (diamond_at s k)) → Down (n ∷ s) (cond b n (diamond_at s k))
    go true e ih = (within_next n s n.low.target l.1.0, within_next n s n.high.target l.1.1)
    go false e ih =
        let d = eqb-false k (length s) e in
        let x = ih (omega arith) in
        (within_next n s (diamond_at s k).low.target x.0, within_next n s (diamond_at s k).high.target x.1)

pub normal_lower : (D : Meaning) (s : Store) → Normal D s → Lower s
normal_lower D [] ns = tt
normal_lower D (n ∷ s) ns = (normal_lower D s ns.0, (ns.1.low_accepted.within, ns.1.high_accepted.within))

-- Walks --

pub visit_terminal : (s : Store) (b : Bool) (seen : List ℕ) → visit s (terminal b) seen ≡ seen
visit_terminal [] b seen = refl
visit_terminal (n ∷ s) b seen = refl

pub visit_next : (n : Diamond) (s : Store) (t : Target) (seen : List ℕ) → Within s t → visit (n ∷ s) t seen ≡ visit s t seen
visit_next n s (terminal b) seen w = sym (visit_terminal s b seen)
visit_next n s (diamond k) seen w = rw (ne_eqb k (length s) (omega (arith, w)))

pub visit_step : VisitStep
visit_step [] l k i seen = absurd (not-suc-le-zero i)
visit_step (n ∷ s) l k i seen = go (eqb k (length s)) refl (λ j. visit_step s l.0 k j seen)
  where
    under : (m : Diamond) → Down s m → visit (n ∷ s) m.high.target (visit (n ∷ s) m.low.target seen) ≡ visit s m.high.target (visit s m.low.target seen)
    under m w =
        visit_next n s m.high.target (visit (n ∷ s) m.low.target seen) w.1 ∙ ap (visit s m.high.target) (visit_next n s m.low.target seen w.0)

    go : (b : Bool) → eqb k (length s) ≡ b →
        (k < length s → visit s (diamond k) seen ≡ cond (met seen k) seen (k ∷ visit s (diamond_at s k).high.target (visit s (diamond_at s k).low.target seen))) →
        cond b (cond (met seen k) seen (k ∷ visit s n.high.target (visit s n.low.target seen))) (visit s (diamond k) seen)
        ≡ cond (met seen k) seen (k ∷ visit (n ∷ s) (cond b n (diamond_at s k)).high.target (visit (n ∷ s) (cond b n (diamond_at s k)).low.target seen))
    go true e ih = ap (λ (r : List ℕ). cond (met seen k) seen (k ∷ r)) (sym (under n l.1))
    go false e ih =
        let d = eqb-false k (length s) e in
        let j : k < length s = omega arith in
        ih j ∙ ap (λ (r : List ℕ). cond (met seen k) seen (k ∷ r)) (sym (under (diamond_at s k) (lower_at s l.0 k j)))
