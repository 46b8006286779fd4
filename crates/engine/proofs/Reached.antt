-- What a walk meets: the diamonds that are reached, each once; and a pass down the store marks just those.
use Rattle.std.proofs.Common.{◌≡◌, ℕ, zero, suc, ◌<◌, ◌≤◌, Bool, true, false, cond, not, ◌||◌, eqb, ◌⊎◌, List, [], ◌∷◌, ◌++◌, reverse, length, get_or, sym, refl, ap, ◌∙◌, subst, ap₂, inl, inr, not-suc-le-zero, arith}
use mathlib.Core.List.{reverse-cons}
use lib.ListN.{length-reverse}
use Rattle.std.proofs.lemmas.Bool.{or_cases, and_parts, and_from, ne_eqb, both_ways, eq-eqb, eqb-false, eqb-true}
use Rattle.diagram.specs.declared.meanings.Meaning.{Meaning}
use Rattle.diagram.specs.Rules.{tally}
use Rattle.diagram.specs.Edges.{Target, terminal, diamond, Edge, Diamond, Store, rule_of, diamond_at}
use Rattle.diagram.specs.Dialects.{Lawful}
use Rattle.diagram.specs.Acceptance.{Within, Accepted, Normal}
use Rattle.diagram.specs.Walks.{met, visit, reached, walk}
use Rattle.diagram.specs.Records.{edge_of, store_of}
use Rattle.diagram.proofs.Down.{Down, lower_at, normal_lower}
use Rattle.diagram.proofs.Notions.{Lower}
use Rattle.diagram.proofs.Recorded.{alike}
use Rattle.diagram.proofs.Recording.{normal_of, acceptable_in}
use Rattle.diagram.proofs.Walk.{Reached, Closed, walked}
use Rattle.engine.specs.Reaching.{reaches, ReachingStepped, once, WalksMeet}
use Rattle.basics.specs.Marks.{marked}
use Rattle.engine.proofs.Swept.{Has, Shut, Sub, has_sub, tally_below, tally_more, marks_at, length_marked, marked_least, marked_has, swept, swept_more, swept_least, swept_shut}

-- Sets that have, with a diamond, the targets of its edges --

-- a walk meets nothing outside such a set
visit_least : (s : Store) (q : ℕ → Bool) → Shut s q → (t : Target) → Has q t → (seen : List ℕ) → Sub (met seen) q → Sub (met (visit s t seen)) q
visit_least [] q h t i seen b = b
visit_least (n ∷ s) q h (terminal c) i seen b = b
visit_least (n ∷ s) q h (diamond j) i seen b = go (eqb j (length s)) refl (met seen j) (visit_least s q h.0)
  where
    add : (r : List ℕ) → Sub (met r) q → Sub (met (j ∷ r)) q
    add r x k = at (eqb k j) refl
      where
        at : (c : Bool) → eqb k j ≡ c → cond c true (met r k) ≡ true → q k ≡ true
        at true e y = ap q (eqb-true k j e) ∙ i
        at false e y = x k y

    go : (c : Bool) → eqb j (length s) ≡ c → (m : Bool) → ((t : Target) → Has q t → (seen : List ℕ) → Sub (met seen) q → Sub (met (visit s t seen)) q) →
        Sub (met (cond c (cond m seen (j ∷ visit s n.high.target (visit s n.low.target seen))) (visit s (diamond j) seen))) q
    go false e m ih = ih (diamond j) i seen b
    go true e true ih = b
    go true e false ih =
        let x = h.1 (ap q (sym (eqb-true j (length s) e)) ∙ i) in
        add (visit s n.high.target (visit s n.low.target seen)) (ih n.high.target x.1 (visit s n.low.target seen) (ih n.low.target x.0 seen b))

-- nor is anything outside it reached from a target in it
reaches_least : (s : Store) (q : ℕ → Bool) → Shut s q → (t : Target) → Has q t → Sub (reaches s t) q
reaches_least [] q h t i k e = absurd (both_ways false refl e)
reaches_least (n ∷ s) q h (terminal c) i k e = absurd (both_ways false refl e)
reaches_least (n ∷ s) q h (diamond j) i k e = go (eqb j (length s)) refl (reaches_least s q h.0) e
  where
    go : (c : Bool) → eqb j (length s) ≡ c → ((t : Target) → Has q t → Sub (reaches s t) q) →
        cond c (eqb k j || (reaches s n.low.target k || reaches s n.high.target k)) (reaches s (diamond j) k) ≡ true → q k ≡ true
    go false f ih x = ih (diamond j) i k x
    go true f ih x = first (or_cases (eqb k j) (reaches s n.low.target k || reaches s n.high.target k) x)
      where
        down : Has q n.low.target × Has q n.high.target
        down = h.1 (ap q (sym (eqb-true j (length s) f)) ∙ i)

        second : (reaches s n.low.target k ≡ true) ⊎ (reaches s n.high.target k ≡ true) → q k ≡ true
        second (inl y) = ih n.low.target down.0 k y
        second (inr y) = ih n.high.target down.1 k y

        first : (eqb k j ≡ true) ⊎ ((reaches s n.low.target k || reaches s n.high.target k) ≡ true) → q k ≡ true
        first (inl y) = ap q (eqb-true k j y) ∙ i
        first (inr y) = second (or_cases (reaches s n.low.target k) (reaches s n.high.target k) y)

-- a walk meets nothing but what is reached
visit_reaches : (s : Store) (t : Target) (seen : List ℕ) (k : ℕ) → met (visit s t seen) k ≡ true → (met seen k ≡ true) ⊎ (reaches s t k ≡ true)
visit_reaches [] t seen k e = inl e
visit_reaches (n ∷ s) (terminal c) seen k e = inl e
visit_reaches (n ∷ s) (diamond j) seen k e = go (eqb j (length s)) (met seen j) (visit_reaches s) e
  where
    go : (c m : Bool) → ((t : Target) (seen : List ℕ) (k : ℕ) → met (visit s t seen) k ≡ true → (met seen k ≡ true) ⊎ (reaches s t k ≡ true)) →
        met (cond c (cond m seen (j ∷ visit s n.high.target (visit s n.low.target seen))) (visit s (diamond j) seen)) k ≡ true →
        (met seen k ≡ true) ⊎ (cond c (eqb k j || (reaches s n.low.target k || reaches s n.high.target k)) (reaches s (diamond j) k) ≡ true)
    go false m ih x = ih (diamond j) seen k x
    go true true ih x = inl x
    go true false ih x = at (eqb k j) x
      where
        or_true : (b : Bool) → (b || true) ≡ true
        or_true true = refl
        or_true false = refl

        in_low : (met seen k ≡ true) ⊎ (reaches s n.low.target k ≡ true) → (met seen k ≡ true) ⊎ ((reaches s n.low.target k || reaches s n.high.target k) ≡ true)
        in_low (inl y) = inl y
        in_low (inr y) = inr (rw y)

        in_high : (met (visit s n.low.target seen) k ≡ true) ⊎ (reaches s n.high.target k ≡ true) → (met seen k ≡ true) ⊎ ((reaches s n.low.target k || reaches s n.high.target k) ≡ true)
        in_high (inl y) = in_low (ih n.low.target seen k y)
        in_high (inr y) = inr (rw y (or_true (reaches s n.low.target k)))

        at : (b : Bool) → cond b true (met (visit s n.high.target (visit s n.low.target seen)) k) ≡ true →
            (met seen k ≡ true) ⊎ ((b || (reaches s n.low.target k || reaches s n.high.target k)) ≡ true)
        at true y = inr refl
        at false y = in_high (ih n.high.target (visit s n.low.target seen) k y)

-- What a walk from an accepted edge meets --

-- a list of numbers that has, with a diamond, the targets of its edges
closed_has : (s : Store) (r : List ℕ) → Closed s r → (k : ℕ) → met r k ≡ true → Has (met r) (diamond_at s k).low.target × Has (met r) (diamond_at s k).high.target
closed_has s [] c k e = absurd (both_ways false refl e)
closed_has s (j ∷ r) c k e = go (eqb k j) refl e (closed_has s r c.0 k)
  where
    or_met : (b : Bool) (i : ℕ) → met r i ≡ true → cond b true (met r i) ≡ true
    or_met true i h = refl
    or_met false i h = h

    more : Sub (met r) (met (j ∷ r))
    more i h = or_met (eqb i j) i h

    old : (t : Target) → Reached r t → Has (met (j ∷ r)) t
    old (terminal b) h = tt
    old (diamond i) h = more i h

    go : (b : Bool) → eqb k j ≡ b → cond b true (met r k) ≡ true → (met r k ≡ true → Has (met r) (diamond_at s k).low.target × Has (met r) (diamond_at s k).high.target) →
        Has (met (j ∷ r)) (diamond_at s k).low.target × Has (met (j ∷ r)) (diamond_at s k).high.target
    go true p h ih =
        subst (λ (i : ℕ). Has (met (j ∷ r)) (diamond_at s i).low.target × Has (met (j ∷ r)) (diamond_at s i).high.target) (sym (eqb-true k j p))
        (old (diamond_at s j).low.target c.1.low_reached, old (diamond_at s j).high.target c.1.high_reached)
    go false p h ih =
        let x = ih h in
        (has_sub (met r) (met (j ∷ r)) more (diamond_at s k).low.target x.0, has_sub (met r) (met (j ∷ r)) more (diamond_at s k).high.target x.1)

shut_at : (s : Store) (q : ℕ → Bool) → ((k : ℕ) → k < length s → q k ≡ true → Has q (diamond_at s k).low.target × Has q (diamond_at s k).high.target) → Shut s q
shut_at [] q h = tt
shut_at (n ∷ s) q h = (
  shut_at s q (λ k i e. subst (λ (d : Diamond). Has q d.low.target × Has q d.high.target) (earlier k i) (h k (omega arith) e)),
  λ e. subst (λ (d : Diamond). Has q d.low.target × Has q d.high.target) last (h (length s) (omega arith) e),
)
  where
    last : diamond_at (n ∷ s) (length s) ≡ n
    last = rw (eq-eqb (length s) (length s) refl)

    earlier : (k : ℕ) → k < length s → diamond_at (n ∷ s) k ≡ diamond_at s k
    earlier k i = rw (ne_eqb k (length s) (omega (arith, i)))

-- its length is how many there are
closed_count : (s : Store) (n : ℕ) → length s ≤ n → (r : List ℕ) → Closed s r → tally (met r) n ≡ length r
closed_count s n h [] c = none n
  where
    none : (m : ℕ) → tally (met []) m ≡ 0
    none zero = refl
    none (suc m) = let x = none m in omega arith
closed_count s n h (j ∷ r) c =
    let i = c.1.less in
    let x = tally_more (met r) j n (omega arith) in
    let y : cond {A = ℕ} (met r j) 0 1 ≡ 1 = rw c.1.unmet in
    let z = closed_count s n h r c.0 in
    x ∙ omega arith

reached_has : (r : List ℕ) (t : Target) → Reached r t → Has (met r) t
reached_has r (terminal b) h = tt
reached_has r (diamond k) h = h

module _ (D : Meaning) (law : Lawful D) (s : Store) (ns : Normal D s) (e : Edge) (a : Accepted D s e) where
  closed : Closed s (reached s e)
  closed = (walked D law s ns (rule_of s e) e a refl [] tt).closed

  begun : Has (met (reached s e)) e.target
  begun = reached_has (reached s e) e.target (walked D law s ns (rule_of s e) e a refl [] tt).reached

  shut : Shut s (met (reached s e))
  shut = shut_at s (met (reached s e)) (λ k i h. closed_has s (reached s e) closed k h)

  -- a walk meets just what is reached
  pub reached_reaches : (k : ℕ) → met (reached s e) k ≡ reaches s e.target k
  reached_reaches k = alike (met (reached s e) k) (reaches s e.target k) (λ h. only (visit_reaches s e.target [] k h)) (reaches_least s (met (reached s e)) shut e.target begun k)
    where
      only : (met [] k ≡ true) ⊎ (reaches s e.target k ≡ true) → reaches s e.target k ≡ true
      only (inl x) = absurd (both_ways false refl x)
      only (inr x) = x

  pub reached_count : (n : ℕ) → length s ≤ n → tally (met (reached s e)) n ≡ length (walk s e)
  reached_count n h = closed_count s n h (reached s e) closed ∙ sym (length-reverse (reached s e))

  -- a pass down the store from the mark of the edge's target alone marks as many
  pub swept_count : (ms : List Bool) → ((k : ℕ) → get_or ms k false ≡ false) → length s ≤ length ms → tally (marks_at (swept s (marked ms e.target))) (length ms) ≡ length (walk s e)
  swept_count ms b h =
      let fs = swept s (marked ms e.target) in
      let l = length_marked ms e.target in
      let sh = swept_shut s (normal_lower D s ns) (marked ms e.target) (omega arith) in
      let in-fs : Has (marks_at fs) e.target = has_sub (marks_at (marked ms e.target)) (marks_at fs) (swept_more s (marked ms e.target)) e.target (marked_has ms s e.target a.within h) in
      let out : Sub (marks_at fs) (met (reached s e)) = swept_least s (met (reached s e)) shut (marked ms e.target) (marked_least ms e.target (met (reached s e)) begun (λ k x. absurd (both_ways (get_or ms k false) (b k) x))) in
      let back : Sub (met (reached s e)) (marks_at fs) = visit_least s (marks_at fs) sh e.target in-fs [] (λ k x. absurd (both_ways false refl x)) in
      tally_below (marks_at fs) (met (reached s e)) (length ms) (λ k i. alike (marks_at fs k) (met (reached s e) k) (out k) (back k)) ∙ reached_count (length ms) h

-- What the laws say --

-- what is reached from a target of a store is not changed by a diamond more
reaches_next : (n : Diamond) (s : Store) (t : Target) (k : ℕ) → Within s t → reaches (n ∷ s) t k ≡ reaches s t k
reaches_next n [] (terminal b) k w = refl
reaches_next n (m ∷ s) (terminal b) k w = refl
reaches_next n s (diamond j) k w = rw (ne_eqb j (length s) (omega (arith, w)))

reaches_step : (s : Store) → Lower s → (j : ℕ) → j < length s → (k : ℕ) →
    reaches s (diamond j) k ≡ (eqb k j || (reaches s (diamond_at s j).low.target k || reaches s (diamond_at s j).high.target k))
reaches_step [] l j i k = absurd (not-suc-le-zero i)
reaches_step (n ∷ s) l j i k = go (eqb j (length s)) refl (λ h. reaches_step s l.0 j h k)
  where
    under : (m : Diamond) → Down s m → (reaches s m.low.target k || reaches s m.high.target k) ≡ (reaches (n ∷ s) m.low.target k || reaches (n ∷ s) m.high.target k)
    under m w = sym (ap₂ ◌||◌ (reaches_next n s m.low.target k w.0) (reaches_next n s m.high.target k w.1))

    go : (b : Bool) → eqb j (length s) ≡ b →
        (j < length s → reaches s (diamond j) k ≡ (eqb k j || (reaches s (diamond_at s j).low.target k || reaches s (diamond_at s j).high.target k))) →
        cond b (eqb k j || (reaches s n.low.target k || reaches s n.high.target k)) (reaches s (diamond j) k)
        ≡ (eqb k j || (reaches (n ∷ s) (cond b n (diamond_at s j)).low.target k || reaches (n ∷ s) (cond b n (diamond_at s j)).high.target k))
    go true e ih = ap (λ (c : Bool). eqb k j || c) (under n l.1)
    go false e ih =
        let d = eqb-false j (length s) e in
        let h : j < length s = omega arith in
        ih h ∙ ap (λ (c : Bool). eqb k j || c) (under (diamond_at s j) (lower_at s l.0 j h))

pub reaching_stepped : ReachingStepped
reaching_stepped D s ns j i k = reaches_step s (normal_lower D s ns) j i k

-- a list and its reverse
met_push : (xs : List ℕ) (j k : ℕ) → met (xs ++ (j ∷ [])) k ≡ cond (eqb k j) true (met xs k)
met_push [] j k = refl
met_push (x ∷ xs) j k = ap (cond (eqb k x) true) (met_push xs j k) ∙ go (eqb k x) (eqb k j)
  where
    go : (b c : Bool) → cond b true (cond c true (met xs k)) ≡ cond c true (cond b true (met xs k))
    go true true = refl
    go true false = refl
    go false true = refl
    go false false = refl

met_reverse : (r : List ℕ) (k : ℕ) → met (reverse r) k ≡ met r k
met_reverse [] k = refl
met_reverse (j ∷ r) k = ap (λ (xs : List ℕ). met xs k) (reverse-cons j r) ∙ met_push (reverse r) j k ∙ ap (cond (eqb k j) true) (met_reverse r k)

once_push : (xs : List ℕ) (j : ℕ) → met xs j ≡ false → once xs ≡ true → once (xs ++ (j ∷ [])) ≡ true
once_push [] j h o = refl
once_push (x ∷ xs) j h o = go (eqb j x) refl h (once_push xs j)
  where
    parts : (not (met xs x) ≡ true) × (once xs ≡ true)
    parts = and_parts (not (met xs x)) (once xs) o

    go : (b : Bool) → eqb j x ≡ b → cond b true (met xs j) ≡ false → (met xs j ≡ false → once xs ≡ true → once (xs ++ (j ∷ [])) ≡ true) → once (x ∷ (xs ++ (j ∷ []))) ≡ true
    go true e f ih = absurd (both_ways true f refl)
    go false e f ih =
        let d = eqb-false j x e in
        let p : met (xs ++ (j ∷ [])) x ≡ met xs x = met_push xs j x ∙ rw (ne_eqb x j (λ q. d (sym q))) in
        and_from (not (met (xs ++ (j ∷ [])) x)) (once (xs ++ (j ∷ []))) (ap not p ∙ parts.0) (ih f parts.1)

closed_once : (s : Store) (r : List ℕ) → Closed s r → once (reverse r) ≡ true
closed_once s [] c = refl
closed_once s (j ∷ r) c = ap once (reverse-cons j r) ∙ once_push (reverse r) j (met_reverse r j ∙ c.1.unmet) (closed_once s r c.0)

pub walks_meet : WalksMeet
walks_meet D law ds n x h =
    let s = store_of ds in
    let e = edge_of x in
    let ns = normal_of D ds n in
    let a = (acceptable_in D ds x h).accepted in
    record {
      each = λ k. met_reverse (reached s e) k ∙ reached_reaches D law s ns e a k;
      apart = closed_once s (reached s e) (closed D law s ns e a);
      count =
          sym (reached_count D law s ns e a (length s) (omega arith)) ∙ tally_below (met (reached s e)) (reaches s e.target) (length s) (λ k i. reached_reaches D law s ns e a k);
    }
