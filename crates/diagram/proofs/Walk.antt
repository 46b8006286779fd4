-- Walking from an accepted edge of a normal store and renumbering gives what inserting the edge's rule into the empty store gives.
use Rattle.std.proofs.Common.{◌≡◌, ℕ, suc, ◌<◌, ◌≤◌, Bool, true, false, cond, ◌&&◌, eqb, ◌⊎◌, List, [], ◌∷◌, length, replicate, Some, None, Option, sym, refl, ap, ◌∙◌, subst, ap₂, inl, inr, not-suc-le-zero, arith}
use Rattle.std.proofs.lemmas.Bool.{eq-eqb, eqb-false, eqb-true}
use mathlib.Core.Bool.{beq}
use Rattle.diagram.specs.Rules.{Rule, constant, ◌⋆◌, arity}
use Rattle.diagram.specs.declared.letters.Letter.{Letter}
use Rattle.diagram.specs.declared.letters.Letter.TheVariants.{U, X, C00, C01, C10, C11}
use Rattle.diagram.specs.Edges.{Target, terminal, diamond, Edge, edge, Diamond, pair, Store, flip, put, same_word, same_target, same, same_diamond, rule_of, diamond_at}
use Rattle.diagram.specs.Dialects.{all_u, constant_at, constant_value, look_at, look, Lawful, answer_at}
use Rattle.diagram.specs.declared.meanings.Meaning.{Meaning}
use Rattle.diagram.specs.Making.{flat, source, written, choose, find, diamond_edge, Made, seat, add, flipped, make_by, make, insert, upright, low_upright, high_upright, low_half, high_half, low_of, high_of}
use Rattle.diagram.specs.Acceptance.{Within, Accepted, Normal}
use Rattle.diagram.proofs.Notions.{Halves, Lower, place, retarget, moved, copied, WalkIsInsert}
use Rattle.diagram.specs.Walks.{met, visit, reached}
use Rattle.diagram.specs.Theorems.{WalkCounts}
use lib.ListN.{length-reverse}
use Rattle.diagram.proofs.Laws.{same_diamond_eq, same_diamond_refl}
use Rattle.diagram.proofs.Signs.{make_flip}
use Rattle.diagram.proofs.Down.{Down, lower_at, normal_lower, visit_terminal, visit_next, visit_step}
use Rattle.diagram.proofs.Split.{Found, found, Leaf, split, accepted_flip}

-- Visits --

-- all below the diamond m
abbrev under : Store → Diamond → List ℕ → List ℕ
under s m seen = visit s m.high.target (visit s m.low.target seen)

under_next : (n : Diamond) (s : Store) (m : Diamond) (seen : List ℕ) → Down s m → under (n ∷ s) m seen ≡ under s m seen
under_next n s m seen w =
    visit_next n s m.high.target (visit (n ∷ s) m.low.target seen) w.1 ∙ ap (visit s m.high.target) (visit_next n s m.low.target seen w.0)

-- a visit in a store adds none that is not below its length
visit_old : (s : Store) (t : Target) (seen : List ℕ) (k : ℕ) → length s ≤ k → met (visit s t seen) k ≡ met seen k
visit_old [] t seen k i = refl
visit_old (n ∷ s) (terminal b) seen k i = refl
visit_old (n ∷ s) (diamond j) seen k i = go (eqb j (length s)) refl (met seen j) (λ t q. visit_old s t q k (omega arith))
  where
    other : j ≡ length s → (b : Bool) → eqb k j ≡ b → eqb k j ≡ false
    other q true p = let r = eqb-true k j p in absurd (omega arith)
    other q false p = p

    go : (b : Bool) → eqb j (length s) ≡ b → (c : Bool) → ((t : Target) (q : List ℕ) → met (visit s t q) k ≡ met q k) →
        met (cond b (cond c seen (j ∷ under s n seen)) (visit s (diamond j) seen)) k ≡ met seen k
    go false e c ih = ih (diamond j) seen
    go true e true ih = refl
    go true e false ih =
        rw (other (eqb-true j (length s) e) (eqb k j) refl) (ih n.high.target (visit s n.low.target seen) ∙ ih n.low.target seen)

-- nor does a visit of what is below a diamond add the diamond
under_old : (s : Store) → Lower s → (k : ℕ) → k < length s → (seen : List ℕ) → met (under s (diamond_at s k) seen) k ≡ met seen k
under_old [] l k i seen = absurd (not-suc-le-zero i)
under_old (n ∷ s) l k i seen = go (eqb k (length s)) refl (λ j. under_old s l.0 k j seen)
  where
    go : (b : Bool) → eqb k (length s) ≡ b → (k < length s → met (under s (diamond_at s k) seen) k ≡ met seen k) → met (under (n ∷ s) (cond b n (diamond_at s k)) seen) k ≡ met seen k
    go true e ih =
        let q = eqb-true k (length s) e in
        ap (λ (r : List ℕ). met r k) (under_next n s n seen l.1)
        ∙ visit_old s n.high.target (visit s n.low.target seen) k (omega arith)
        ∙ visit_old s n.low.target seen k (omega arith)
    go false e ih =
        let d = eqb-false k (length s) e in
        let j : k < length s = omega arith in
        ap (λ (r : List ℕ). met r k) (under_next n s (diamond_at s k) seen (lower_at s l.0 k j)) ∙ ih j

-- More seen --

abbrev pub Reached : List ℕ → Target → Type 0
Reached seen (terminal b) = Unit {0}
Reached seen (diamond k) = met seen k ≡ true

-- r has been seen before q, whose places are the same
abbrev pub Before : List ℕ → List ℕ → Type 0
Before r q = (k : ℕ) → met r k ≡ true → (met q k ≡ true) × (place q k ≡ place r k)

pub before_same : (r : List ℕ) → Before r r
before_same r k e = (e, refl)

pub before_trans : (r q p : List ℕ) → Before r q → Before q p → Before r p
before_trans r q p f g k e = let x = f k e in let y = g k x.0 in (y.0, y.1 ∙ x.1)

pub before_next : (r : List ℕ) (j : ℕ) → met r j ≡ false → Before r (j ∷ r)
before_next r j u k e = go (eqb k j) refl
  where
    go : (b : Bool) → eqb k j ≡ b → (met (j ∷ r) k ≡ true) × (place (j ∷ r) k ≡ place r k)
    go true p = let q = ap (met r) (eqb-true k j p) in absurd cc
    go false p = (rw p e, rw p)

reached_before : (r q : List ℕ) (t : Target) → Before r q → Reached r t → Reached q t
reached_before r q (terminal b) f e = tt
reached_before r q (diamond k) f e = (f k e).0

retarget_before : (r q : List ℕ) (t : Target) → Before r q → Reached r t → retarget q t ≡ retarget r t
retarget_before r q (terminal b) f e = refl
retarget_before r q (diamond k) f e = ap diamond (f k e).1

pub moved_before : (r q : List ℕ) (e : Edge) → Before r q → Reached r e.target → moved q e ≡ moved r e
moved_before r q e f h = ap (λ (t : Target). edge e.negated e.word t) (retarget_before r q e.target f h)

-- Places --

place_less : (r : List ℕ) (k : ℕ) → met r k ≡ true → place r k < length r
place_less [] k e = absurd cc
place_less (j ∷ r) k e = go (eqb k j) refl e (place_less r k)
  where
    go : (b : Bool) → eqb k j ≡ b → cond b true (met r k) ≡ true → (met r k ≡ true → place r k < length r) → cond b (length r) (place r k) < length (j ∷ r)
    go true p h ih = omega arith
    go false p h ih = let i = ih h in omega arith

pub place_tells : (r : List ℕ) (j k : ℕ) → met r j ≡ true → met r k ≡ true → place r j ≡ place r k → j ≡ k
place_tells [] j k e f p = absurd cc
place_tells (i ∷ r) j k e f p = go (eqb j i) refl (eqb k i) refl e f p (place_tells r j k)
  where
    go : (b : Bool) → eqb j i ≡ b → (c : Bool) → eqb k i ≡ c → cond b true (met r j) ≡ true → cond c true (met r k) ≡ true → cond b (length r) (place r j) ≡ cond c (length r) (place r k) →
        (met r j ≡ true → met r k ≡ true → place r j ≡ place r k → j ≡ k) → j ≡ k
    go true a true b e f p ih = eqb-true j i a ∙ sym (eqb-true k i b)
    go true a false b e f p ih = let q = place_less r k f in absurd (omega arith)
    go false a true b e f p ih = let q = place_less r j e in absurd (omega arith)
    go false a false b e f p ih = ih e f p

-- Tests at new numbers --

module _ (r : List ℕ) where
  same_target_moved : (t u : Target) → Reached r t → Reached r u → same_target (retarget r t) (retarget r u) ≡ same_target t u
  same_target_moved (terminal b) (terminal c) p q = refl
  same_target_moved (terminal b) (diamond k) p q = refl
  same_target_moved (diamond j) (terminal c) p q = refl
  same_target_moved (diamond j) (diamond k) p q = go (eqb j k) refl (eqb (place r j) (place r k)) refl
    where
      go : (b : Bool) → eqb j k ≡ b → (c : Bool) → eqb (place r j) (place r k) ≡ c → c ≡ b
      go true e true f = refl
      go true e false f = absurd (eqb-false (place r j) (place r k) f (ap (place r) (eqb-true j k e)))
      go false e true f = absurd (eqb-false j k e (place_tells r j k p q (eqb-true (place r j) (place r k) f)))
      go false e false f = refl

  pub same_moved : (a b : Edge) → Reached r a.target → Reached r b.target → same (moved r a) (moved r b) ≡ same a b
  same_moved a b p q = ap (λ (x : Bool). beq a.negated b.negated && (same_word a.word b.word && x)) (same_target_moved a.target b.target p q)

  constant_moved_at : (a n : Bool) (t : Target) → constant_at a n (retarget r t) ≡ constant_at a n t
  constant_moved_at true n (terminal b) = refl
  constant_moved_at true n (diamond k) = refl
  constant_moved_at false n t = refl

  look_moved : (D : Meaning) (l h : Edge) → Reached r l.target → Reached r h.target → look D (moved r l) (moved r h) ≡ look D l h
  look_moved D l h p q =
      ap₂ (λ j k. look_at j k (D.negates && same (moved r l) (moved r (flip h)))) (constant_moved_at (all_u l.word) l.negated l.target) (constant_moved_at (all_u h.word) h.negated h.target)
      ∙ ap (λ (o : Bool). look_at (constant_value l) (constant_value h) (D.negates && o)) (same_moved l (flip h) p q)

  abbrev moved? : Option Edge → Option Edge
  moved? None = None
  moved? (Some e) = Some (moved r e)

  source_moved : (c : Letter) (l h : Edge) → source c (moved r l) (moved r h) ≡ moved r (source c l h)
  source_moved U l h = refl
  source_moved X l h = refl
  source_moved C00 l h = refl
  source_moved C01 l h = refl
  source_moved C10 l h = refl
  source_moved C11 l h = refl

  written_moved : (o : Option Letter) (l h : Edge) → written o (moved r l) (moved r h) ≡ moved? (written o l h)
  written_moved None l h = refl
  written_moved (Some c) l h = ap (λ (e : Edge). Some (put c e)) (source_moved c l h)

  choose_moved_at : (b : Bool) (o : Option Letter) (l h : Edge) → cond b (Some (put U (moved r l))) (written o (moved r l) (moved r h)) ≡ moved? (cond b (Some (put U l)) (written o l h))
  choose_moved_at true o l h = refl
  choose_moved_at false o l h = written_moved o l h

  pub choose_moved : (D : Meaning) (l h : Edge) → Reached r l.target → Reached r h.target → choose D (moved r l) (moved r h) ≡ moved? (choose D l h)
  choose_moved D l h p q =
      ap₂ (λ b k. cond b (Some (put U (moved r l))) (written (answer_at D k) (moved r l) (moved r h))) (same_moved l h p q) (look_moved D l h p q)
      ∙ choose_moved_at (same l h) (answer_at D (look D l h)) l h

  same_diamond_moved : (m n : Diamond) → Reached r m.low.target → Reached r m.high.target → Reached r n.low.target → Reached r n.high.target →
      same_diamond (pair (moved r m.low) (moved r m.high)) (pair (moved r n.low) (moved r n.high)) ≡ same_diamond m n
  same_diamond_moved m n p p' q q' = ap₂ ◌&&◌ (same_moved m.low n.low p q) (same_moved m.high n.high p' q')

-- Closed lists: each number's diamond has below it only diamonds met before --

pub record Fresh (s : Store) (r : List ℕ) (j : ℕ) : Type 0 where
  pub unmet : met r j ≡ false
  pub less : j < length s
  pub low_reached : Reached r (diamond_at s j).low.target
  pub high_reached : Reached r (diamond_at s j).high.target

abbrev pub Closed : Store → List ℕ → Type 0
Closed s [] = Unit {0}
Closed s (j ∷ r) = Closed s r × Fresh s r j

module _ (s : Store) where
  closed_reached : (r : List ℕ) → Closed s r → (k : ℕ) → met r k ≡ true → Reached r (diamond_at s k).low.target × Reached r (diamond_at s k).high.target
  closed_reached [] c k e = absurd cc
  closed_reached (j ∷ r) c k e = go (eqb k j) refl e (closed_reached r c.0 k)
    where
      up : (t : Target) → Reached r t → Reached (j ∷ r) t
      up t h = reached_before r (j ∷ r) t (before_next r j c.1.unmet) h

      go : (b : Bool) → eqb k j ≡ b → cond b true (met r k) ≡ true → (met r k ≡ true → Reached r (diamond_at s k).low.target × Reached r (diamond_at s k).high.target) →
          Reached (j ∷ r) (diamond_at s k).low.target × Reached (j ∷ r) (diamond_at s k).high.target
      go true p h ih =
          subst (λ (i : ℕ). Reached (j ∷ r) (diamond_at s i).low.target × Reached (j ∷ r) (diamond_at s i).high.target) (sym (eqb-true k j p))
          (up (diamond_at s j).low.target c.1.low_reached, up (diamond_at s j).high.target c.1.high_reached)
      go false p h ih = let x = ih h in (up (diamond_at s k).low.target x.0, up (diamond_at s k).high.target x.1)

  pub length_copied : (r : List ℕ) → length (copied s r) ≡ length r
  length_copied [] = refl
  length_copied (j ∷ r) = ap suc (length_copied r)

-- The walk --

module _ (D : Meaning) (law : Lawful D) (s : Store) (ns : Normal D s) where
  lower : Lower s
  lower = normal_lower D s ns

  pub visit_reached : (r : List ℕ) (t : Target) → Within s t → Reached r t → visit s t r ≡ r
  visit_reached r (terminal b) w h = visit_terminal s b r
  visit_reached r (diamond k) w h = visit_step s lower k w r ∙ rw h

  same_index : (j k : ℕ) → j < length s → k < length s → same_diamond (diamond_at s j) (diamond_at s k) ≡ eqb k j
  same_index j k hj hk = go (same_diamond (diamond_at s j) (diamond_at s k)) refl (eqb k j) refl
    where
      x : Found D s k (diamond_at s k)
      x = found D s k ns hk

      y : Found D s j (diamond_at s j)
      y = found D s j ns hj

      go : (b : Bool) → same_diamond (diamond_at s j) (diamond_at s k) ≡ b → (c : Bool) → eqb k j ≡ c → b ≡ c
      go true e true f = refl
      go true e false f =
          let p : Some j ≡ Some k = sym y.found ∙ ap (find s) (same_diamond_eq (diamond_at s j) (diamond_at s k) e) ∙ x.found in
          absurd (eqb-false k j f (cc))
      go false e true f =
          let p : same_diamond (diamond_at s j) (diamond_at s k) ≡ true = ap (λ (i : ℕ). same_diamond (diamond_at s j) (diamond_at s i)) (eqb-true k j f) ∙ same_diamond_refl (diamond_at s j) in
          cc
      go false e false f = refl

  -- a diamond of the store among the copied ones
  find_copied : (r : List ℕ) (k : ℕ) → k < length s → Reached r (diamond_at s k).low.target → Reached r (diamond_at s k).high.target →
      (q : List ℕ) → Closed s q → Before q r → find (copied s q) (pair (moved r (diamond_at s k).low) (moved r (diamond_at s k).high)) ≡ cond (met q k) (Some (place q k)) None
  find_copied r k i lo hi [] c b = refl
  find_copied r k i lo hi (j ∷ q) c b = rw same_as (go (eqb k j) (find_copied r k i lo hi q c.0 older))
    where
      older : Before q r
      older = before_trans q (j ∷ q) r (before_next q j c.1.unmet) b

      here : pair (moved q (diamond_at s j).low) (moved q (diamond_at s j).high) ≡ pair (moved r (diamond_at s j).low) (moved r (diamond_at s j).high)
      here = ap₂ pair (sym (moved_before q r (diamond_at s j).low older c.1.low_reached)) (sym (moved_before q r (diamond_at s j).high older c.1.high_reached))

      same_as : same_diamond (pair (moved q (diamond_at s j).low) (moved q (diamond_at s j).high)) (pair (moved r (diamond_at s k).low) (moved r (diamond_at s k).high)) ≡ eqb k j
      same_as =
          ap (λ (m : Diamond). same_diamond m (pair (moved r (diamond_at s k).low) (moved r (diamond_at s k).high))) here
          ∙ same_diamond_moved r (diamond_at s j) (diamond_at s k) (reached_before q r (diamond_at s j).low.target older c.1.low_reached) (reached_before q r (diamond_at s j).high.target older c.1.high_reached) lo hi
          ∙ same_index j k c.1.less i

      go : (b : Bool) → find (copied s q) (pair (moved r (diamond_at s k).low) (moved r (diamond_at s k).high)) ≡ cond (met q k) (Some (place q k)) None →
          cond b (Some (length (copied s q))) (find (copied s q) (pair (moved r (diamond_at s k).low) (moved r (diamond_at s k).high))) ≡ cond (cond b true (met q k)) (Some (cond b (length q) (place q k))) None
      go true ih = ap Some (length_copied s q)
      go false ih = ih

  -- after the halves l and h of e, q being seen then, making e: r is seen after it
  pub record Done (q r : List ℕ) (l h e : Edge) : Type 0 where
    pub closed : Closed s r
    pub before : Before q r
    pub reached : Reached r e.target
    pub made : make D (copied s q) (moved q l) (moved q h) ≡ (copied s r, moved r e)

  module _ (q : List ℕ) (k : ℕ) (c : Closed s q) (i : k < length s) (lo : Reached q (diamond_at s k).low.target) (hi : Reached q (diamond_at s k).high.target) where
    diamond_made : (b : Bool) → met q k ≡ b →
        make D (copied s q) (moved q (diamond_at s k).low) (moved q (diamond_at s k).high) ≡ seat (cond b (Some (place q k)) None) (copied s q) (pair (moved q (diamond_at s k).low) (moved q (diamond_at s k).high))
    diamond_made b e =
        let x = found D s k ns i in
        let u : choose D (moved q (diamond_at s k).low) (moved q (diamond_at s k).high) ≡ None = choose_moved q D (diamond_at s k).low (diamond_at s k).high lo hi ∙ ap (moved? q) x.unlettered in
        let f = find_copied q k i lo hi q c (before_same q) ∙ ap (λ (z : Bool). cond z (Some (place q k)) None) e in
        let l = moved q (diamond_at s k).low in
        let h = moved q (diamond_at s k).high in
        let m = copied s q in
        ap (λ (o : Option Edge). make_by o m l h) u
        ∙ ap (λ (z : Bool). cond z (flipped (add m (flip l) (flip h))) (add m l h)) x.upright_low
        ∙ ap (λ (o : Option ℕ). seat o m (pair l h)) f

    diamond_met : met q k ≡ true → Done q q (diamond_at s k).low (diamond_at s k).high (diamond_edge k)
    diamond_met e = record { closed = c; before = before_same q; reached = e; made = diamond_made true e }

    diamond_next : met q k ≡ false → Done q (k ∷ q) (diamond_at s k).low (diamond_at s k).high (diamond_edge k)
    diamond_next e =
        record {
          closed = (c, record { unmet = e; less = i; low_reached = lo; high_reached = hi });
          before = before_next q k e;
          reached = rw (eq-eqb k k refl);
          made = diamond_made false e ∙ rw (eq-eqb k k refl, length_copied s q);
        }

  -- a target that is no diamond
  abbrev Still : Target → Type 0
  Still t = (b : Bool) × (t ≡ terminal b)

  flat_still : (n : ℕ) (b : Bool) → Still (flat D n b).target
  flat_still n b = go D.negates
    where
      go : (m : Bool) → Still (cond m (edge b (replicate n U) (terminal false)) (edge false (replicate n U) (terminal b))).target
      go true = (false, refl)
      go false = (b, refl)

  still_visit : (t : Target) → Still t → (r : List ℕ) → visit s t r ≡ r
  still_visit t x r = ap (λ (u : Target). visit s u r) x.1 ∙ visit_terminal s x.0 r

  still_reached : (t : Target) → Still t → (r : List ℕ) → Reached r t
  still_reached t x r = subst (Reached r) (sym x.1) tt

  still_moved : (e : Edge) → Still e.target → (r : List ℕ) → moved r e ≡ e
  still_moved e x r = ap (λ (t : Target). edge e.negated e.word t) (ap (retarget r) x.1 ∙ sym x.1)

  -- the halves that a letter stands for
  module _ (n : ℕ) (u : Edge) (seen : List ℕ) where
    letter_visit : (c : Letter) → Within s u.target → Reached (visit s (low_of c (flat D n) u).target seen) (low_of c (flat D n) u).target →
        visit s (high_of c (flat D n) u).target (visit s (low_of c (flat D n) u).target seen) ≡ visit s u.target seen
    letter_visit U w h = visit_reached (visit s u.target seen) u.target w h
    letter_visit X w h = visit_reached (visit s u.target seen) u.target w h
    letter_visit C00 w h = ap (visit s u.target) (still_visit (flat D n false).target (flat_still n false) seen)
    letter_visit C01 w h = ap (visit s u.target) (still_visit (flat D n true).target (flat_still n true) seen)
    letter_visit C10 w h = still_visit (flat D n false).target (flat_still n false) (visit s u.target seen)
    letter_visit C11 w h = still_visit (flat D n true).target (flat_still n true) (visit s u.target seen)

    letter_reached : (c : Letter) → Reached seen (low_of c (flat D n) u).target → Reached seen (high_of c (flat D n) u).target → Reached seen u.target
    letter_reached U l h = l
    letter_reached X l h = l
    letter_reached C00 l h = h
    letter_reached C01 l h = h
    letter_reached C10 l h = l
    letter_reached C11 l h = l

  module _ (seen : List ℕ) (l h : Edge) where
    abbrev r₁ : List ℕ
    r₁ = visit s l.target seen

    abbrev r₂ : List ℕ
    r₂ = visit s h.target r₁

    -- the halves have been walked
    record Two : Type 0 where
      before_low : Before seen r₁
      before_high : Before r₁ r₂
      closed : Closed s r₂
      low_reached : Reached r₁ l.target
      high_reached : Reached r₂ h.target

  done_diamond : (seen : List ℕ) (k : ℕ) → k < length s → Closed s seen → Two seen (diamond_at s k).low (diamond_at s k).high →
      Done (r₂ seen (diamond_at s k).low (diamond_at s k).high) (visit s (diamond k) seen) (diamond_at s k).low (diamond_at s k).high (diamond_edge k)
  done_diamond seen k i c x =
      subst (λ (r : List ℕ). Done (r₂ seen (diamond_at s k).low (diamond_at s k).high) r (diamond_at s k).low (diamond_at s k).high (diamond_edge k)) (sym (visit_step s lower k i seen)) (go (met seen k) refl)
    where
      lo : Reached (r₂ seen (diamond_at s k).low (diamond_at s k).high) (diamond_at s k).low.target
      lo = reached_before (r₁ seen (diamond_at s k).low (diamond_at s k).high) (r₂ seen (diamond_at s k).low (diamond_at s k).high) (diamond_at s k).low.target x.before_high x.low_reached

      go : (b : Bool) → met seen k ≡ b → Done (r₂ seen (diamond_at s k).low (diamond_at s k).high) (cond b seen (k ∷ r₂ seen (diamond_at s k).low (diamond_at s k).high)) (diamond_at s k).low (diamond_at s k).high (diamond_edge k)
      go true e =
          let w = lower_at s lower k i in
          let y = closed_reached s seen c k e in
          let p₁ : r₁ seen (diamond_at s k).low (diamond_at s k).high ≡ seen = visit_reached seen (diamond_at s k).low.target w.0 y.0 in
          let p₂ : r₂ seen (diamond_at s k).low (diamond_at s k).high ≡ seen = ap (visit s (diamond_at s k).high.target) p₁ ∙ visit_reached seen (diamond_at s k).high.target w.1 y.1 in
          subst (λ (q : List ℕ). Done q seen (diamond_at s k).low (diamond_at s k).high (diamond_edge k)) (sym p₂) (diamond_met seen k c i y.0 y.1 e)
      go false e = diamond_next (r₂ seen (diamond_at s k).low (diamond_at s k).high) k x.closed i lo x.high_reached (under_old s lower k i seen ∙ e)

  done_letter : (seen : List ℕ) (c : Letter) (w : List Letter) (t : Target) → Accepted D s (upright (c ∷ w) t) → Two seen (low_upright D s (c ∷ w) t) (high_upright D s (c ∷ w) t) →
      Done (r₂ seen (low_upright D s (c ∷ w) t) (high_upright D s (c ∷ w) t)) (visit s t seen) (low_upright D s (c ∷ w) t) (high_upright D s (c ∷ w) t) (upright (c ∷ w) t)
  done_letter seen c w t a x =
      let n = arity (rule_of s (upright w t)) in
      let u = upright w t in
      let l = low_upright D s (c ∷ w) t in
      let h = high_upright D s (c ∷ w) t in
      let q = r₂ seen l h in
      let lo = reached_before (r₁ seen l h) q l.target x.before_high x.low_reached in
      let m : choose D (moved q l) (moved q h) ≡ Some (moved q (upright (c ∷ w) t)) = choose_moved q D l h lo x.high_reached ∙ ap (moved? q) a.spelled.1 in
      let d : Done q q l h (upright (c ∷ w) t) =
      record { closed = x.closed; before = before_same q; reached = letter_reached n u q c lo x.high_reached; made = ap (λ (o : Option Edge). make_by o (copied s q) (moved q l) (moved q h)) m } in
      subst (λ (r : List ℕ). Done q r l h (upright (c ∷ w) t)) (letter_visit n u seen c a.within x.low_reached) d

  -- an edge that has halves
  abbrev Splits : List Letter → Target → Type 0
  Splits [] (terminal b) = ⊥
  Splits [] (diamond k) = Unit {0}
  Splits (c ∷ w) t = Unit {0}

  done_upright : (seen : List ℕ) (w : List Letter) (t : Target) → Splits w t → Accepted D s (upright w t) → Closed s seen → Two seen (low_upright D s w t) (high_upright D s w t) →
      Done (r₂ seen (low_upright D s w t) (high_upright D s w t)) (visit s t seen) (low_upright D s w t) (high_upright D s w t) (upright w t)
  done_upright seen [] (terminal b) sp a c x = absurd sp
  done_upright seen [] (diamond k) sp a c x = done_diamond seen k a.within c x
  done_upright seen (d ∷ w) t sp a c x = done_letter seen d w t a x

  done : (seen : List ℕ) (n : Bool) (w : List Letter) (t : Target) → Splits w t → Accepted D s (edge n w t) → Closed s seen → Two seen (low_half D s (edge n w t)) (high_half D s (edge n w t)) →
      Done (r₂ seen (low_half D s (edge n w t)) (high_half D s (edge n w t))) (visit s t seen) (low_half D s (edge n w t)) (high_half D s (edge n w t)) (edge n w t)
  done seen false w t sp a c x = done_upright seen w t sp a c x
  done seen true w t sp a c x = go D.negates refl
    where
      go : (m : Bool) → D.negates ≡ m → Done (r₂ seen (low_half D s (edge true w t)) (high_half D s (edge true w t))) (visit s t seen) (low_half D s (edge true w t)) (high_half D s (edge true w t)) (edge true w t)
      go false pos = let q = a.signed pos in absurd cc
      go true neg =
          let l = low_upright D s w t in
          let h = high_upright D s w t in
          let q = r₂ seen l h in
          let y = done_upright seen w t sp (accepted_flip D s (edge true w t) neg a) c
          (record { before_low = x.before_low; before_high = x.before_high; closed = x.closed; low_reached = x.low_reached; high_reached = x.high_reached }) in
          record { closed = y.closed; before = y.before; reached = y.reached; made = make_flip D law neg (copied s q) (moved q l) (moved q h) ∙ ap flipped y.made }

  pub record Walked (seen : List ℕ) (f : Rule) (e : Edge) : Type 0 where
    pub closed : Closed s (visit s e.target seen)
    pub before : Before seen (visit s e.target seen)
    pub reached : Reached (visit s e.target seen) e.target
    pub inserted : insert D (copied s seen) f ≡ (copied s (visit s e.target seen), moved (visit s e.target seen) e)

  walked_leaf : (seen : List ℕ) (b : Bool) (e : Edge) → Closed s seen → rule_of s e ≡ constant b → Leaf D s e ⊎ Halves D s e → Walked seen (constant b) e
  walked_leaf seen b e c p (inr x) = absurd (cc x.rule)
  walked_leaf seen b e c p (inl x) =
      let q : b ≡ x.bit = cc x.rule in
      let is : e ≡ flat D 0 b = x.is ∙ ap (flat D 0) (sym q) in
      subst (λ (d : Edge). Walked seen (constant b) d) (sym is) at_flat
    where
      at_flat : Walked seen (constant b) (flat D 0 b)
      at_flat =
          let st = flat_still 0 b in
          let v = still_visit (flat D 0 b).target st seen in
          record {
            closed = subst (Closed s) (sym v) c;
            before = subst (Before seen) (sym v) (before_same seen);
            reached = still_reached (flat D 0 b).target st (visit s (flat D 0 b).target seen);
            inserted = ap₂ (λ (r : List ℕ) (d : Edge). (copied s r, d)) (sym v) (sym (still_moved (flat D 0 b) st (visit s (flat D 0 b).target seen)));
          }

  splits : (n : Bool) (w : List Letter) (t : Target) (f g : Rule) → rule_of s (edge n w t) ≡ f ⋆ g → Splits w t
  splits true [] (terminal b) f g p = absurd cc
  splits false [] (terminal b) f g p = absurd cc
  splits n [] (diamond k) f g p = tt
  splits n (c ∷ w) t f g p = tt

  walked_join : (seen : List ℕ) (f g : Rule) (e : Edge) → Closed s seen → Accepted D s e → rule_of s e ≡ f ⋆ g →
      ((d : Edge) → Accepted D s d → rule_of s d ≡ f → (q : List ℕ) → Closed s q → Walked q f d) →
      ((d : Edge) → Accepted D s d → rule_of s d ≡ g → (q : List ℕ) → Closed s q → Walked q g d) →
      Leaf D s e ⊎ Halves D s e → Walked seen (f ⋆ g) e
  walked_join seen f g e c a p ihf ihg (inl x) = absurd (cc x.rule)
  walked_join seen f g e c a p ihf ihg (inr x) =
      let l = low_half D s e in
      let h = high_half D s e in
      let q : rule_of s l ⋆ rule_of s h ≡ f ⋆ g = sym x.rule ∙ p in
      let qf : rule_of s l ≡ f = cc in
      let qg : rule_of s h ≡ g = cc in
      let y = ihf l x.low_accepted qf seen c in
      let q₁ = r₁ seen l h in
      let z = ihg h x.high_accepted qg q₁ y.closed in
      let q₂ = r₂ seen l h in
      let d = done seen e.negated e.word e.target (splits e.negated e.word e.target f g p) a c
      (record { before_low = y.before; before_high = z.before; closed = z.closed; low_reached = y.reached; high_reached = z.reached }) in
      record {
        closed = d.closed;
        before = before_trans seen q₁ (visit s e.target seen) y.before (before_trans q₁ q₂ (visit s e.target seen) z.before d.before);
        reached = d.reached;
        inserted =
            ap (λ (a : Made). let b : Made = insert D a.0 g in make D b.0 a.1 b.1) y.inserted
            ∙ ap (λ (b : Made). make D b.0 (moved q₁ l) b.1) z.inserted
            ∙ ap (λ (i : Edge). make D (copied s q₂) i (moved q₂ h)) (sym (moved_before q₁ q₂ l z.before y.reached))
            ∙ d.made;
      }

  pub walked : (f : Rule) (e : Edge) → Accepted D s e → rule_of s e ≡ f → (seen : List ℕ) → Closed s seen → Walked seen f e
  walked (constant b) e a p seen c = walked_leaf seen b e c p (split D law s ns e a)
  walked (f ⋆ g) e a p seen c = walked_join seen f g e c a p (walked f) (walked g) (split D law s ns e a)

pub walk_is_insert : WalkIsInsert
walk_is_insert D law s ns e a = sym (walked D law s ns (rule_of s e) e a refl [] tt).inserted

pub walk_counts : WalkCounts
walk_counts D law s ns e a =
    length-reverse (reached s e) ∙ sym (length_copied s (reached s e)) ∙ ap (λ (m : Made). length m.0) (walk_is_insert D law s ns e a)
