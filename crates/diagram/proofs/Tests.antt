-- The test of a dialect, read and met.
use Rattle.std.proofs.Common.{◌≡◌, Bool, true, false, cond, not, ◌&&◌, ◌↔◌, List, [], ◌∷◌, slice_index_or, Some, None, Option, sym, refl, ap, subst, arith}
use Rattle.std.proofs.lemmas.Bool.{and_from, and_parts, eq-eqb}
use Rattle.diagram.specs.declared.letters.Letter.{Letter}
use Rattle.diagram.specs.declared.letters.Letter.TheVariants.{U, X, C00, C01, C10, C11}
use Rattle.diagram.specs.Letters.{letter_code}
use Rattle.diagram.specs.declared.letters.Look.{Look}
use Rattle.diagram.specs.declared.letters.Look.TheVariants.{ZeroOne, OneZero, ZeroOther, OneOther, OtherZero, OtherOne, Opposite, Plain}
use Rattle.diagram.specs.Dialects.{fits, turn, Lawful, partners, every_look, every_letter, same_answer, right_answer, right_look, lawful, has_letter, answer_at}
use Rattle.diagram.specs.declared.meanings.Meaning.{Meaning}
use Rattle.diagram.specs.Theorems.{LawfulTested}
use Rattle.std.specs.List.{AllPass}
use Rattle.diagram.proofs.Laws.{letter_eq}
use Rattle.diagram.proofs.Recorded.{alike}

look_read : (p : Look → Bool) → every_look p ≡ true → (k : Look) → p k ≡ true
look_read p e ZeroOne = (and_parts (p ZeroOne) _ e).0
look_read p e OneZero = (and_parts (p OneZero) _ (and_parts (p ZeroOne) _ e).1).0
look_read p e ZeroOther = (and_parts (p ZeroOther) _ (and_parts (p OneZero) _ (and_parts (p ZeroOne) _ e).1).1).0
look_read p e OneOther = (and_parts (p OneOther) _ (and_parts (p ZeroOther) _ (and_parts (p OneZero) _ (and_parts (p ZeroOne) _ e).1).1).1).0
look_read p e OtherZero = (and_parts (p OtherZero) _ (and_parts (p OneOther) _ (and_parts (p ZeroOther) _ (and_parts (p OneZero) _ (and_parts (p ZeroOne) _ e).1).1).1).1).0
look_read p e OtherOne = (and_parts (p OtherOne) _ (and_parts (p OtherZero) _ (and_parts (p OneOther) _ (and_parts (p ZeroOther) _ (and_parts (p OneZero) _ (and_parts (p ZeroOne) _ e).1).1).1).1).1).0
look_read p e Opposite = (and_parts (p Opposite) _ (and_parts (p OtherOne) _ (and_parts (p OtherZero) _ (and_parts (p OneOther) _ (and_parts (p ZeroOther) _ (and_parts (p OneZero) _ (and_parts (p ZeroOne) _ e).1).1).1).1).1).1).0
look_read p e Plain = (and_parts (p Opposite) _ (and_parts (p OtherOne) _ (and_parts (p OtherZero) _ (and_parts (p OneOther) _ (and_parts (p ZeroOther) _ (and_parts (p OneZero) _ (and_parts (p ZeroOne) _ e).1).1).1).1).1).1).1

letter_read : (p : Letter → Bool) → every_letter p ≡ true → (c : Letter) → p c ≡ true
letter_read p e U = (and_parts (p U) _ e).0
letter_read p e X = (and_parts (p X) _ (and_parts (p U) _ e).1).0
letter_read p e C00 = (and_parts (p C00) _ (and_parts (p X) _ (and_parts (p U) _ e).1).1).0
letter_read p e C01 = (and_parts (p C01) _ (and_parts (p C00) _ (and_parts (p X) _ (and_parts (p U) _ e).1).1).1).0
letter_read p e C10 = (and_parts (p C10) _ (and_parts (p C01) _ (and_parts (p C00) _ (and_parts (p X) _ (and_parts (p U) _ e).1).1).1).1).0
letter_read p e C11 = (and_parts (p C10) _ (and_parts (p C01) _ (and_parts (p C00) _ (and_parts (p X) _ (and_parts (p U) _ e).1).1).1).1).1

same_answer_eq : (o q : Option Letter) → same_answer o q ≡ true → o ≡ q
same_answer_eq None None e = refl
same_answer_eq None (Some d) e = cc
same_answer_eq (Some c) None e = cc
same_answer_eq (Some c) (Some d) e = ap Some (letter_eq c d e)

own_read : (D : Meaning) (k : Look) (o : Option Letter) (c : Letter) → o ≡ Some c → right_answer D k o ≡ true → (has_letter D c ≡ true) × (fits D c k ≡ true)
own_read D k None c e r = absurd cc
own_read D k (Some d) c e r =
    let q : d ≡ c = cc in
    let t = rw q at r in
    ((and_parts (has_letter D c) (fits D c k) t).0, (and_parts (has_letter D c) (fits D c k) t).1)

not_both : (a b : Bool) → not (a && b) ≡ true → a ≡ true → b ≡ false
not_both true true e h = sym e
not_both true false e h = refl
not_both false true e h = cc
not_both false false e h = refl

silent_read : (D : Meaning) (k : Look) (o : Option Letter) → o ≡ None → right_answer D k o ≡ true → (c : Letter) → has_letter D c ≡ true → fits D c k ≡ false
silent_read D k None e r c h = not_both (has_letter D c) (fits D c k) (letter_read (λ d. not (has_letter D d && fits D d k)) r c) h
silent_read D k (Some d) e r c h = cc

cond_read : (a b : Bool) → cond a b true ≡ true → a ≡ true → b ≡ true
cond_read true b e h = e
cond_read false b e h = cc

look_met : (p : Look → Bool) → ((k : Look) → p k ≡ true) → every_look p ≡ true
look_met p h =
    and_from (p ZeroOne) _ (h ZeroOne) (and_from (p OneZero) _ (h OneZero) (and_from (p ZeroOther) _ (h ZeroOther) (and_from (p OneOther) _ (h OneOther)
    (and_from (p OtherZero) _ (h OtherZero) (and_from (p OtherOne) _ (h OtherOne) (and_from (p Opposite) _ (h Opposite) (h Plain)))))))

letter_met : (p : Letter → Bool) → ((c : Letter) → p c ≡ true) → every_letter p ≡ true
letter_met p h = and_from (p U) _ (h U) (and_from (p X) _ (h X) (and_from (p C00) _ (h C00) (and_from (p C01) _ (h C01) (and_from (p C10) _ (h C10) (h C11)))))

-- a test of the list of all looks is one of every look
pub looks_tested : (p : Look → Bool) (b : Bool) (ks : List Look) → ks ≡ ZeroOne ∷ OneZero ∷ ZeroOther ∷ OneOther ∷ OtherZero ∷ OtherOne ∷ Opposite ∷ Plain ∷ [] →
    (b ≡ true ↔ AllPass p ks) → b ≡ every_look p
looks_tested p b ks q h = alike b (every_look p) (λ e. look_met p (met (subst (AllPass p) q (h.0 e)))) (λ e. h.1 (λ k d l. look_read p e (slice_index_or ks k d)))
  where
    met : AllPass p (ZeroOne ∷ OneZero ∷ ZeroOther ∷ OneOther ∷ OtherZero ∷ OtherOne ∷ Opposite ∷ Plain ∷ []) → (k : Look) → p k ≡ true
    met t ZeroOne = t 0 Plain (omega arith)
    met t OneZero = t 1 Plain (omega arith)
    met t ZeroOther = t 2 Plain (omega arith)
    met t OneOther = t 3 Plain (omega arith)
    met t OtherZero = t 4 Plain (omega arith)
    met t OtherOne = t 5 Plain (omega arith)
    met t Opposite = t 6 Plain (omega arith)
    met t Plain = t 7 Plain (omega arith)

-- a test of the list of all letters is one of every letter
pub letters_tested : (p : Letter → Bool) (b : Bool) (cs : List Letter) → cs ≡ U ∷ X ∷ C00 ∷ C01 ∷ C10 ∷ C11 ∷ [] → (b ≡ true ↔ AllPass p cs) → b ≡ every_letter p
letters_tested p b cs q h = alike b (every_letter p) (λ e. letter_met p (met (subst (AllPass p) q (h.0 e)))) (λ e. h.1 (λ k d l. letter_read p e (slice_index_or cs k d)))
  where
    met : AllPass p (U ∷ X ∷ C00 ∷ C01 ∷ C10 ∷ C11 ∷ []) → (c : Letter) → p c ≡ true
    met t U = t 0 U (omega arith)
    met t X = t 1 U (omega arith)
    met t C00 = t 2 U (omega arith)
    met t C01 = t 3 U (omega arith)
    met t C10 = t 4 U (omega arith)
    met t C11 = t 5 U (omega arith)

same_answer_refl : (o : Option Letter) → same_answer o o ≡ true
same_answer_refl None = refl
same_answer_refl (Some c) = eq-eqb (letter_code c) (letter_code c) refl

cond_met : (a b : Bool) → (a ≡ true → b ≡ true) → cond a b true ≡ true
cond_met true b h = h refl
cond_met false b h = refl

-- an answer that is right is none just where no letter fits
none_read : (D : Meaning) (k : Look) (o : Option Letter) → right_answer D k o ≡ true → ((c : Letter) → has_letter D c ≡ true → fits D c k ≡ false) → o ≡ None
none_read D k None r h = refl
none_read D k (Some c) r h =
    let p = h c (and_parts (has_letter D c) (fits D c k) r).0 in
    let q = (and_parts (has_letter D c) (fits D c k) r).1 in
    cc

one_not : (a b : Bool) → (a ≡ true → b ≡ false) → not (a && b) ≡ true
one_not true b h = ap not (h refl)
one_not false b h = refl

answer_met : (D : Meaning) → Lawful D → (k : Look) (o : Option Letter) → answer_at D k ≡ o → right_answer D k o ≡ true
answer_met D law k None e = letter_met (λ c. not (has_letter D c && fits D c k)) (λ c. one_not (has_letter D c) (fits D c k) ((law.silent k).0 e c))
answer_met D law k (Some c) e = let w = law.own k c e in and_from (has_letter D c) (fits D c k) w.0 w.1

read : (D : Meaning) → lawful D ≡ true → Lawful D
read D e =
    let x = (and_parts (has_letter D U) _ e).1 in
    let r : (k : Look) → right_look D k ≡ true = look_read (right_look D) (and_parts (cond (has_letter D X) D.negates true) _ x).1 in
    let w : (k : Look) → right_answer D k (answer_at D k) ≡ true = λ k. (and_parts (right_answer D k (answer_at D k)) _ (r k)).0 in
    record {
      has_u = (and_parts (has_letter D U) _ e).0;
      has_x = cond_read (has_letter D X) D.negates (and_parts (cond (has_letter D X) D.negates true) _ x).0;
      own = λ k c a. own_read D k (answer_at D k) c a (w k);
      silent = λ k. (λ a. silent_read D k (answer_at D k) a (w k), none_read D k (answer_at D k) (w k));
      turns = λ neg k. same_answer_eq (answer_at D (turn k)) (partners (answer_at D k)) (cond_read D.negates (same_answer (answer_at D (turn k)) (partners (answer_at D k))) (and_parts (right_answer D k (answer_at D k)) _ (r k)).1 neg);
    }

met : (D : Meaning) → Lawful D → lawful D ≡ true
met D law =
    and_from (has_letter D U) _ law.has_u
    (and_from (cond (has_letter D X) D.negates true) _ (cond_met (has_letter D X) D.negates law.has_x)
    (look_met (right_look D) (λ k.
    and_from (right_answer D k (answer_at D k)) _ (answer_met D law k (answer_at D k) refl)
    (cond_met D.negates (same_answer (answer_at D (turn k)) (partners (answer_at D k))) (λ neg.
    subst (λ (o : Option Letter). same_answer (answer_at D (turn k)) o ≡ true) (law.turns neg k) (same_answer_refl (answer_at D (turn k))))))))

pub tested : LawfulTested
tested D = (read D, met D)
