-- The program's edges and diamonds, and what they stand for, there and back.
use Rattle.std.proofs.Common.{◌≡◌, ℕ, zero, suc, ◌/◌, ◌%◌, ◌^◌, Bool, true, false, cond, ◌&&◌, eqb, ltb, leb, List, [], ◌∷◌, ◌++◌, map, reverse, length, replicate, Some, None, Option, sym, refl, ap, ◌∙◌, subst, ap₂, arith}
use mathlib.Core.Bool.{beq}
use mathlib.Core.List.{reverse-cons}
use native.Mathlib.Nat.{zero-div, zero-mod}
use lib.ListN.{length-reverse, length-map, length-replicate}
use Rattle.std.proofs.lemmas.List.{map-append, reverse-append, reverse-reverse}
use Rattle.std.proofs.lemmas.Bool.{eqb-true, eq-eqb, leb-true, le-leb, and_parts, and_from}
use Rattle.diagram.specs.declared.letters.Letter.{Letter}
use Rattle.diagram.specs.declared.letters.Letter.TheVariants.{U, X, C00, C01, C10, C11}
use Rattle.diagram.specs.declared.meanings.Meaning.{Meaning}
use Rattle.diagram.specs.declared.edges.Target.{Target as TargetRecord}
use Rattle.diagram.specs.declared.edges.Target.TheVariants.{Zero, One, Diamond as DiamondNumber}
use Rattle.diagram.specs.declared.edges.Edge.{Edge as EdgeRecord}
use Rattle.diagram.specs.declared.edges.Diamond.{Diamond as DiamondRecord}
use Rattle.diagram.specs.Letters.{letter_code}
use Rattle.diagram.specs.Words.{numeral, letters_of, Spells, spells, word}
use Rattle.diagram.specs.Edges.{Target, terminal, diamond, Edge, edge, Diamond, pair, Store, turned, put, same, same_word, same_target}
use Rattle.diagram.specs.Dialects.{all_u, constant_at, constant_value, look_at, look, answer_at, same_answer}
use Rattle.diagram.specs.Making.{flat, source, written, choose, low_of, high_of, upright}
use Rattle.diagram.specs.Acceptance.{inside, gives}
use Rattle.diagram.specs.Records.{target_of, edge_of, diamond_of, store_of, target_record, edge_record, diamond_record, diamonds_of, stands_in, spelled_edge, spelled_diamonds, same_target_record, same_record, other_mark, constant_to, constant_of, letter_for, constant_record, halves_on, letter_chosen}
use Rattle.diagram.proofs.Laws.{letter_eq, beq_refl, beq_eq, same_refl, same_eq}
use Rattle.diagram.proofs.Spelling.{words_read, words_written}

-- two tests that pass together are the same
pub alike : (a b : Bool) → (a ≡ true → b ≡ true) → (b ≡ true → a ≡ true) → a ≡ b
alike true b f g = sym (f refl)
alike false true f g = g refl
alike false false f g = refl

-- Words --

pub spells_read : (n x : ℕ) → spells n x ≡ true → Spells n x
spells_read zero x e = eqb-true x 0 e
spells_read (suc n) x e =
    let p = and_parts (leb (x / 8 ^ n) 5) (spells n (x % 8 ^ n)) e in
    (leb-true (x / 8 ^ n) 5 p.0, spells_read n (x % 8 ^ n) p.1)

pub spells_met : (n x : ℕ) → Spells n x → spells n x ≡ true
spells_met zero x h = eq-eqb x 0 h
spells_met (suc n) x h = and_from (leb (x / 8 ^ n) 5) (spells n (x % 8 ^ n)) (le-leb (x / 8 ^ n) 5 h.0) (spells_met n (x % 8 ^ n) h.1)

-- Targets and edges --

pub target_back : (t : TargetRecord) → target_record (target_of t) ≡ t
target_back Zero = refl
target_back One = refl
target_back (DiamondNumber k) = refl

pub target_there : (t : Target) → target_of (target_record t) ≡ t
target_there (terminal false) = refl
target_there (terminal true) = refl
target_there (diamond k) = refl

abbrev pub edge_made : Bool → ℕ → ℕ → TargetRecord → EdgeRecord
edge_made n l x t = record { negated = n; word = word l x; target = t }

pub edge_back : (e : EdgeRecord) → spelled_edge e ≡ true → edge_record (edge_of e) ≡ e
edge_back e h =
    let w = words_written e.word.length e.word.digits (spells_read e.word.length e.word.digits h) in
    let p = w.1 in
    let q = w.0 in
    let t = target_back e.target in
    λ i. edge_made e.negated (p i) (q i) (t i)

pub edge_there : (e : Edge) → edge_of (edge_record e) ≡ e
edge_there e =
    let p = (words_read e.word).0 in
    let t = target_there e.target in
    λ i. edge e.negated (p i) (t i)

pub edge_spelled : (e : Edge) → spelled_edge (edge_record e) ≡ true
edge_spelled e = spells_met (length e.word) (numeral e.word) (words_read e.word).1

-- edges that spell are told by what they stand for
pub edge_told : (d e : EdgeRecord) → spelled_edge d ≡ true → spelled_edge e ≡ true → edge_of d ≡ edge_of e → d ≡ e
edge_told d e hd he p = sym (edge_back d hd) ∙ ap edge_record p ∙ edge_back e he

-- Diamonds and stores --

pub diamond_there : (d : Diamond) → diamond_of (diamond_record d) ≡ d
diamond_there d = ap₂ pair (edge_there d.low) (edge_there d.high)

pub store_push : (ds : List DiamondRecord) (d : DiamondRecord) → store_of (ds ++ (d ∷ [])) ≡ diamond_of d ∷ store_of ds
store_push ds d = ap reverse (map-append diamond_of ds (d ∷ [])) ∙ reverse-append (map diamond_of ds) (diamond_of d ∷ [])

pub store_length : (ds : List DiamondRecord) → length (store_of ds) ≡ length ds
store_length ds = length-reverse (map diamond_of ds) ∙ length-map ds diamond_of

pub diamonds_push : (s : Store) (d : Diamond) → diamonds_of (d ∷ s) ≡ diamonds_of s ++ (diamond_record d ∷ [])
diamonds_push s d = ap (map diamond_record) (reverse-cons d s) ∙ map-append diamond_record (reverse s) (d ∷ [])

pub store_there : (s : Store) → store_of (diamonds_of s) ≡ s
store_there s = ap reverse (each (reverse s)) ∙ reverse-reverse s
  where
    each : (xs : List Diamond) → map diamond_of (map diamond_record xs) ≡ xs
    each [] = refl
    each (x ∷ xs) = ap₂ ◌∷◌ (diamond_there x) (each xs)

pub diamonds_back : (ds : List DiamondRecord) → spelled_diamonds ds ≡ true → diamonds_of (store_of ds) ≡ ds
diamonds_back ds h = ap (map diamond_record) (reverse-reverse (map diamond_of ds)) ∙ each ds h
  where
    each : (xs : List DiamondRecord) → spelled_diamonds xs ≡ true → map diamond_record (map diamond_of xs) ≡ xs
    each [] e = refl
    each (x ∷ xs) e =
        let p = and_parts (spelled_edge x.low) (spelled_edge x.high && spelled_diamonds xs) e in
        let q = and_parts (spelled_edge x.high) (spelled_diamonds xs) p.1 in
        let l = edge_back x.low p.0 in
        let r = edge_back x.high q.0 in
        let z : diamond_record (diamond_of x) ≡ x = λ i. record { low = l i; high = r i } in
        ap₂ ◌∷◌ z (each xs q.1)

pub spelled_push : (ds : List DiamondRecord) (d : DiamondRecord) → spelled_diamonds ds ≡ true → spelled_edge d.low ≡ true → spelled_edge d.high ≡ true → spelled_diamonds (ds ++ (d ∷ [])) ≡ true
spelled_push [] d h l r = and_from (spelled_edge d.low) (spelled_edge d.high && true) l (and_from (spelled_edge d.high) true r refl)
spelled_push (x ∷ xs) d h l r =
    let p = and_parts (spelled_edge x.low) (spelled_edge x.high && spelled_diamonds xs) h in
    let q = and_parts (spelled_edge x.high) (spelled_diamonds xs) p.1 in
    and_from (spelled_edge x.low) (spelled_edge x.high && spelled_diamonds (xs ++ (d ∷ []))) p.0
    (and_from (spelled_edge x.high) (spelled_diamonds (xs ++ (d ∷ []))) q.0 (spelled_push xs d q.1 l r))

pub stands_there : (ds : List DiamondRecord) (t : TargetRecord) → stands_in ds t ≡ inside (store_of ds) (target_of t)
stands_there ds Zero = refl
stands_there ds One = refl
stands_there ds (DiamondNumber k) = ap (λ (n : ℕ). ltb k n) (sym (store_length ds))

-- Equal records --

same_target_record_refl : (t : TargetRecord) → same_target_record t t ≡ true
same_target_record_refl Zero = refl
same_target_record_refl One = refl
same_target_record_refl (DiamondNumber k) = eq-eqb k k refl

same_target_record_eq : (t v : TargetRecord) → same_target_record t v ≡ true → t ≡ v
same_target_record_eq Zero Zero e = refl
same_target_record_eq Zero One e = cc
same_target_record_eq Zero (DiamondNumber k) e = cc
same_target_record_eq One Zero e = cc
same_target_record_eq One One e = refl
same_target_record_eq One (DiamondNumber k) e = cc
same_target_record_eq (DiamondNumber j) Zero e = cc
same_target_record_eq (DiamondNumber j) One e = cc
same_target_record_eq (DiamondNumber j) (DiamondNumber k) e = ap DiamondNumber (eqb-true j k e)

pub same_record_refl : (e : EdgeRecord) → same_record e e ≡ true
same_record_refl e =
    and_from _ _ (beq_refl e.negated) (and_from _ _ (eq-eqb e.word.length e.word.length refl) (and_from _ _ (eq-eqb e.word.digits e.word.digits refl) (same_target_record_refl e.target)))

pub same_record_eq : (a b : EdgeRecord) → same_record a b ≡ true → a ≡ b
same_record_eq a b h =
    let p = and_parts (beq a.negated b.negated) (eqb a.word.length b.word.length && (eqb a.word.digits b.word.digits && same_target_record a.target b.target)) h in
    let q = and_parts (eqb a.word.length b.word.length) (eqb a.word.digits b.word.digits && same_target_record a.target b.target) p.1 in
    let r = and_parts (eqb a.word.digits b.word.digits) (same_target_record a.target b.target) q.1 in
    let n = beq_eq a.negated b.negated p.0 in
    let l = eqb-true a.word.length b.word.length q.0 in
    let w = eqb-true a.word.digits b.word.digits r.0 in
    let t = same_target_record_eq a.target b.target r.1 in
    λ i. edge_made (n i) (l i) (w i) (t i)

pub same_is : (a b : EdgeRecord) → a ≡ b → same_record a b ≡ true
same_is a b p = subst (λ (x : EdgeRecord). same_record a x ≡ true) p (same_record_refl a)

pub same_edge_is : (a b : Edge) → a ≡ b → same a b ≡ true
same_edge_is a b p = subst (λ (x : Edge). same a x ≡ true) p (same_refl a)

-- records that spell are the same just where the edges are
pub same_alike : (a b : EdgeRecord) → spelled_edge a ≡ true → spelled_edge b ≡ true → same_record a b ≡ same (edge_of a) (edge_of b)
same_alike a b ha hb =
    alike (same_record a b) (same (edge_of a) (edge_of b))
    (λ e. same_edge_is (edge_of a) (edge_of b) (ap edge_of (same_record_eq a b e)))
    (λ e. same_is a b (edge_told a b ha hb (same_eq (edge_of a) (edge_of b) e)))

-- The letter for two halves --

zero_us : (n : ℕ) → all_u (letters_of n 0) ≡ true
zero_us zero = refl
zero_us (suc n) =
    let p : 0 / 8 ^ n ≡ 0 = zero-div (8 ^ n) in
    let q : 0 % 8 ^ n ≡ 0 = zero-mod (8 ^ n) in
    rw (p, q) (zero_us n)

us_zero : (w : List Letter) → all_u w ≡ true → numeral w ≡ 0
us_zero [] e = refl
us_zero (c ∷ w) e =
    let p = and_parts (eqb (letter_code c) 0) (all_u w) e in
    let q = eqb-true (letter_code c) 0 p.0 in
    let r = us_zero w p.1 in
    rw (q, r) (omega arith)

-- a word is of u alone just where its numeral is 0
pub us_alike : (n x : ℕ) → spells n x ≡ true → eqb x 0 ≡ all_u (letters_of n x)
us_alike n x h =
    alike (eqb x 0) (all_u (letters_of n x))
    (λ e. subst (λ (y : ℕ). all_u (letters_of n y) ≡ true) (sym (eqb-true x 0 e)) (zero_us n))
    (λ e. eq-eqb x 0 (sym (words_written n x (spells_read n x h)).0 ∙ us_zero (letters_of n x) e))

constant_to_at : (b n : Bool) (t : TargetRecord) → constant_to b n t ≡ constant_at b n (target_of t)
constant_to_at true n Zero = refl
constant_to_at true n One = refl
constant_to_at true n (DiamondNumber k) = refl
constant_to_at false n t = refl

pub constant_alike : (e : EdgeRecord) → spelled_edge e ≡ true → constant_of e ≡ constant_value (edge_of e)
constant_alike e h = constant_to_at (eqb e.word.digits 0) e.negated e.target ∙ ap (λ (b : Bool). constant_at b e.negated (target_of e.target)) (us_alike e.word.length e.word.digits h)

-- the letter for two halves that spell: u for equal ones, else the answer at their look
pub letter : Meaning → Edge → Edge → Option Letter
letter D l h = cond (same l h) (Some U) (answer_at D (look D l h))

pub letter_alike : (D : Meaning) (l h : EdgeRecord) → spelled_edge l ≡ true → spelled_edge h ≡ true → letter_for D l h ≡ letter D (edge_of l) (edge_of h)
unfolding letter
letter_alike D l h hl hh =
    let p = same_alike l h hl hh in
    let q = same_alike l (other_mark h) hl hh in
    let a = constant_alike l hl in
    let b = constant_alike h hh in
    ap₂ (λ (s : Bool) (k : Option Letter). cond s (Some U) k) p (ap (answer_at D) (λ i. look_at (a i) (b i) (D.negates && q i)))

-- Constant edges, and the halves that a letter stands for --

numeral_us : (n : ℕ) → numeral (replicate n U) ≡ 0
numeral_us zero = refl
numeral_us (suc n) = let p = numeral_us n in omega arith

constant_end : (n : ℕ) (b : Bool) → edge_record (edge false (replicate n U) (terminal b)) ≡ edge_made false n 0 (cond b One Zero)
constant_end n true = let p = length-replicate n U in let q = numeral_us n in λ i. edge_made false (p i) (q i) One
constant_end n false = let p = length-replicate n U in let q = numeral_us n in λ i. edge_made false (p i) (q i) Zero

-- the constant edge is that of making
pub constant_is : (D : Meaning) (n : ℕ) (b : Bool) → edge_record (flat D n b) ≡ constant_record D n b
constant_is D n b = go D.negates
  where
    go : (c : Bool) → edge_record (cond c (edge b (replicate n U) (terminal false)) (edge false (replicate n U) (terminal b))) ≡ cond c (edge_made b n 0 Zero) (edge_made false n 0 (cond b One Zero))
    go true = let p = length-replicate n U in let q = numeral_us n in λ i. edge_made b (p i) (q i) Zero
    go false = constant_end n b

pub constant_there : (D : Meaning) (n : ℕ) (b : Bool) → edge_of (constant_record D n b) ≡ flat D n b
constant_there D n b = ap edge_of (sym (constant_is D n b)) ∙ edge_there (flat D n b)

pub constant_spelled : (D : Meaning) (n : ℕ) (b : Bool) → spelled_edge (constant_record D n b) ≡ true
constant_spelled D n b = ap spelled_edge (sym (constant_is D n b)) ∙ edge_spelled (flat D n b)

-- the letter c on e stands for the halves that making knows
pub halves_there : (D : Meaning) (n : ℕ) (c : Letter) (e : EdgeRecord) →
    (edge_of (halves_on D n c e).0 ≡ low_of c (flat D n) (edge_of e)) × (edge_of (halves_on D n c e).1 ≡ high_of c (flat D n) (edge_of e))
halves_there D n U e = (refl, refl)
halves_there D n X e = (refl, refl)
halves_there D n C00 e = (constant_there D n false, refl)
halves_there D n C01 e = (constant_there D n true, refl)
halves_there D n C10 e = (refl, constant_there D n false)
halves_there D n C11 e = (refl, constant_there D n true)

pub halves_spelled : (D : Meaning) (n : ℕ) (c : Letter) (e : EdgeRecord) → spelled_edge e ≡ true →
    (spelled_edge (halves_on D n c e).0 ≡ true) × (spelled_edge (halves_on D n c e).1 ≡ true)
halves_spelled D n U e h = (h, h)
halves_spelled D n X e h = (h, h)
halves_spelled D n C00 e h = (constant_spelled D n false, h)
halves_spelled D n C01 e h = (constant_spelled D n true, h)
halves_spelled D n C10 e h = (h, constant_spelled D n false)
halves_spelled D n C11 e h = (h, constant_spelled D n true)

-- Letters that making chooses --

pub choose_letter : (D : Meaning) (l h : Edge) → choose D l h ≡ written (letter D l h) l h
unfolding letter
choose_letter D l h = go (same l h)
  where
    go : (b : Bool) → cond b (Some (put U l)) (written (answer_at D (look D l h)) l h) ≡ written (cond b (Some U) (answer_at D (look D l h))) l h
    go true = refl
    go false = refl

source_back : (c : Letter) (k : Bool → Edge) (e : Edge) → source c (low_of c k e) (high_of c k e) ≡ e
source_back U k e = refl
source_back X k e = refl
source_back C00 k e = refl
source_back C01 k e = refl
source_back C10 k e = refl
source_back C11 k e = refl

-- another letter gives another edge
other_put : (c d : Letter) (w : List Letter) (t : Target) → eqb (letter_code d) (letter_code c) ≡ false → (e : Edge) → same (put d e) (upright (c ∷ w) t) ≡ false
other_put c d w t h e = go e.negated
  where
    go : (b : Bool) → (beq b false && (same_word (turned b d ∷ e.word) (c ∷ w) && same_target e.target t)) ≡ false
    go true = refl
    go false = simp h

pick : (c d : Letter) (k : Bool → Edge) (w : List Letter) (t : Target) (b : Bool) → eqb (letter_code d) (letter_code c) ≡ b →
    same (put d (source d (low_of c k (upright w t)) (high_of c k (upright w t)))) (upright (c ∷ w) t) ≡ b
pick c d k w t true h =
    subst (λ (x : Letter). same (put x (source x (low_of c k (upright w t)) (high_of c k (upright w t)))) (upright (c ∷ w) t) ≡ true) (sym (letter_eq d c h))
    (same_edge_is (put c (source c (low_of c k (upright w t)) (high_of c k (upright w t)))) (upright (c ∷ w) t) (ap (put c) (source_back c k (upright w t))))
pick c d k w t false h = other_put c d w t h (source d (low_of c k (upright w t)) (high_of c k (upright w t)))

picks : (c : Letter) (k : Bool → Edge) (w : List Letter) (t : Target) (o : Option Letter) →
    gives (written o (low_of c k (upright w t)) (high_of c k (upright w t))) (upright (c ∷ w) t) ≡ same_answer o (Some c)
picks c k w t None = refl
picks c k w t (Some d) = pick c d k w t (eqb (letter_code d) (letter_code c)) refl

-- a letter is the one that making chooses just where it is the letter for the halves
pub letter_picked : (D : Meaning) (c : Letter) (k : Bool → Edge) (w : List Letter) (t : Target) →
    gives (choose D (low_of c k (upright w t)) (high_of c k (upright w t))) (upright (c ∷ w) t)
    ≡ same_answer (letter D (low_of c k (upright w t)) (high_of c k (upright w t))) (Some c)
letter_picked D c k w t =
    ap (λ (o : Option Edge). gives o (upright (c ∷ w) t)) (choose_letter D (low_of c k (upright w t)) (high_of c k (upright w t)))
    ∙ picks c k w t (letter D (low_of c k (upright w t)) (high_of c k (upright w t)))

-- the same of records that spell
pub letter_test : (D : Meaning) (n : ℕ) (c : Letter) (e : EdgeRecord) → e.negated ≡ false → spelled_edge e ≡ true →
    letter_chosen D n c e
    ≡ gives (choose D (low_of c (flat D n) (upright (edge_of e).word (edge_of e).target)) (high_of c (flat D n) (upright (edge_of e).word (edge_of e).target))) (upright (c ∷ (edge_of e).word) (edge_of e).target)
letter_test D n c e u h =
    let hs = halves_spelled D n c e h in
    let ht = halves_there D n c e in
    let p = letter_alike D (halves_on D n c e).0 (halves_on D n c e).1 hs.0 hs.1 in
    let q : letter D (edge_of (halves_on D n c e).0) (edge_of (halves_on D n c e).1) ≡ letter D (low_of c (flat D n) (edge_of e)) (high_of c (flat D n) (edge_of e)) = ap₂ (letter D) ht.0 ht.1 in
    let v : edge_of e ≡ upright (edge_of e).word (edge_of e).target = ap (λ (b : Bool). edge b (edge_of e).word (edge_of e).target) u in
    let w = ap (λ (x : Edge). letter D (low_of c (flat D n) x) (high_of c (flat D n) x)) v in
    ap (λ (o : Option Letter). same_answer o (Some c)) (p ∙ q ∙ w) ∙ sym (letter_picked D c (flat D n) (edge_of e).word (edge_of e).target)
