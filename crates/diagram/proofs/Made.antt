-- Making by the program's edges and diamonds: a letter set, a diamond looked up, a store with one diamond more.
use Rattle.std.proofs.Common.{◌≡◌, ℕ, suc, ◌+◌, ◌*◌, ◌^◌, ◌<◌, true, cond, ◌&&◌, leb, List, [], ◌∷◌, ◌++◌, map, reverse, length, Some, sym, refl, ap, ◌∙◌, subst, ap₂, arith}
use mathlib.Core.List.{reverse-cons}
use lib.ListN.{length-map}
use Rattle.std.proofs.lemmas.List.{map-append}
use Rattle.std.proofs.lemmas.Bool.{and_parts, and_from, lt-ltb, le-leb, leb-true}
use Rattle.diagram.specs.declared.letters.Letter.{Letter}
use Rattle.diagram.specs.declared.meanings.Meaning.{Meaning}
use Rattle.diagram.specs.declared.edges.Edge.{Edge as EdgeRecord}
use Rattle.diagram.specs.declared.edges.Diamond.{Diamond as DiamondRecord}
use Rattle.diagram.specs.Rules.{Rule, ◌⋆◌, arity, Balanced}
use Rattle.diagram.specs.Letters.{letter_code}
use Rattle.diagram.specs.declared.letters.Letter.TheVariants.{U}
use Rattle.diagram.specs.Words.{numeral, letters_of, spells}
use Rattle.diagram.specs.Edges.{Edge, Store, put, turned, same_diamond, rule_of}
use Rattle.diagram.specs.Dialects.{Lawful}
use Rattle.diagram.specs.Making.{find, Made, make, insert}
use Rattle.diagram.specs.Acceptance.{Normal, Shallow, shallow}
use Rattle.diagram.specs.Records.{edge_of, diamond_of, store_of, edge_record, spelled_edge, spelled_diamonds, same_diamond_record, number_behind, number_of, with_letter}
use Rattle.diagram.proofs.Laws.{same_refl}
use Rattle.diagram.proofs.Spelling.{numeral_less, words_written}
use Rattle.diagram.proofs.Recorded.{edge_made, spells_read, same_alike, target_back}
use Rattle.diagram.proofs.Sound.{insert_sound}
use Rattle.diagram.proofs.Main.{insert_back}

-- a word that spells is below 8^length
pub spells_less : (n x : ℕ) → spells n x ≡ true → x < 8 ^ n
spells_less n x h =
    let p = words_written n x (spells_read n x h) in
    let q = numeral_less (letters_of n x) in
    subst (λ (m : ℕ). m < 8 ^ n) p.0 (subst (λ (k : ℕ). numeral (letters_of n x) < 8 ^ k) p.1 q)

-- a letter set on an edge that spells and has room
pub with_letter_there : (c : Letter) (e : EdgeRecord) → spelled_edge e ≡ true → e.word.length < 20 → with_letter c e ≡ Some (edge_record (put c (edge_of e)))
with_letter_there c e h l =
    let w = words_written e.word.length e.word.digits (spells_read e.word.length e.word.digits h) in
    let a = lt-ltb e.word.length 20 l in
    let b = lt-ltb e.word.digits (8 ^ e.word.length) (spells_less e.word.length e.word.digits h) in
    let d = turned e.negated c in
    let t = target_back e.target in
    let n : e.word.length + 1 ≡ suc (length (letters_of e.word.length e.word.digits)) = let m = w.1 in omega arith in
    let x : letter_code d * 8 ^ e.word.length + e.word.digits ≡ letter_code d * 8 ^ length (letters_of e.word.length e.word.digits) + numeral (letters_of e.word.length e.word.digits) =
    ap₂ (λ (k v : ℕ). letter_code d * 8 ^ k + v) (sym w.1) (sym w.0) in
    let z : edge_made e.negated (e.word.length + 1) (letter_code d * 8 ^ e.word.length + e.word.digits) e.target ≡ edge_record (put c (edge_of e)) =
    λ i. edge_made e.negated (n i) (x i) (sym t i) in
    simp (a, b) (ap Some z)

-- looking up records that spell is looking up what they stand for
same_diamonds_alike : (a b : DiamondRecord) → spelled_edge a.low ≡ true → spelled_edge a.high ≡ true → spelled_edge b.low ≡ true → spelled_edge b.high ≡ true →
    same_diamond_record a b ≡ same_diamond (diamond_of a) (diamond_of b)
same_diamonds_alike a b al ah bl bh = ap₂ ◌&&◌ (same_alike a.low b.low al bl) (same_alike a.high b.high ah bh)

number_find : (ds : List DiamondRecord) (d : DiamondRecord) → spelled_diamonds ds ≡ true → spelled_edge d.low ≡ true → spelled_edge d.high ≡ true →
    number_behind ds d ≡ find (map diamond_of ds) (diamond_of d)
number_find [] d h l r = refl
number_find (x ∷ xs) d h l r =
    let p = and_parts (spelled_edge x.low) (spelled_edge x.high && spelled_diamonds xs) h in
    let q = and_parts (spelled_edge x.high) (spelled_diamonds xs) p.1 in
    let s = same_diamonds_alike x d p.0 q.0 l r in
    let n = length-map xs diamond_of in
    let i = number_find xs d q.1 l r in
    λ j. cond (s j) (Some (sym n j)) (i j)

spelled_append : (xs ys : List DiamondRecord) → spelled_diamonds xs ≡ true → spelled_diamonds ys ≡ true → spelled_diamonds (xs ++ ys) ≡ true
spelled_append [] ys h k = k
spelled_append (x ∷ xs) ys h k =
    let p = and_parts (spelled_edge x.low) (spelled_edge x.high && spelled_diamonds xs) h in
    let q = and_parts (spelled_edge x.high) (spelled_diamonds xs) p.1 in
    and_from (spelled_edge x.low) (spelled_edge x.high && spelled_diamonds (xs ++ ys)) p.0
    (and_from (spelled_edge x.high) (spelled_diamonds (xs ++ ys)) q.0 (spelled_append xs ys q.1 k))

spelled_reverse : (ds : List DiamondRecord) → spelled_diamonds ds ≡ true → spelled_diamonds (reverse ds) ≡ true
spelled_reverse [] h = refl
spelled_reverse (x ∷ xs) h =
    let p = and_parts (spelled_edge x.low) (spelled_edge x.high && spelled_diamonds xs) h in
    let q = and_parts (spelled_edge x.high) (spelled_diamonds xs) p.1 in
    let one : spelled_diamonds (x ∷ []) ≡ true = and_from (spelled_edge x.low) (spelled_edge x.high && true) p.0 (and_from (spelled_edge x.high) true q.0 refl) in
    subst (λ (ys : List DiamondRecord). spelled_diamonds ys ≡ true) (sym (reverse-cons x xs)) (spelled_append (reverse xs) (x ∷ []) (spelled_reverse xs q.1) one)

map_reverse : (ds : List DiamondRecord) → map diamond_of (reverse ds) ≡ reverse (map diamond_of ds)
map_reverse [] = refl
map_reverse (x ∷ xs) =
    ap (map diamond_of) (reverse-cons x xs) ∙ map-append diamond_of (reverse xs) (x ∷ []) ∙ ap (λ (s : Store). s ++ (diamond_of x ∷ [])) (map_reverse xs)
    ∙ sym (reverse-cons (diamond_of x) (map diamond_of xs))

pub number_alike : (ds : List DiamondRecord) (d : DiamondRecord) → spelled_diamonds ds ≡ true → spelled_edge d.low ≡ true → spelled_edge d.high ≡ true →
    number_of ds d ≡ find (store_of ds) (diamond_of d)
number_alike ds d h l r = number_find (reverse ds) d (spelled_reverse ds h) l r ∙ ap (λ (s : Store). find s (diamond_of d)) (map_reverse ds)

-- Shallow stores --

pub shallow_read : (s : Store) → shallow s ≡ true → Shallow s
shallow_read [] h = tt
shallow_read (n ∷ s) h =
    let p = and_parts (shallow s) (leb (arity (rule_of s n.low)) 19 && leb (arity (rule_of s n.high)) 19) h in
    let q = and_parts (leb (arity (rule_of s n.low)) 19) (leb (arity (rule_of s n.high)) 19) p.1 in
    (shallow_read s p.0, leb-true (arity (rule_of s n.low)) 19 q.0, leb-true (arity (rule_of s n.high)) 19 q.1)

pub shallow_met : (s : Store) → Shallow s → shallow s ≡ true
shallow_met [] h = refl
shallow_met (n ∷ s) h =
    and_from (shallow s) (leb (arity (rule_of s n.low)) 19 && leb (arity (rule_of s n.high)) 19) (shallow_met s h.0)
    (and_from (leb (arity (rule_of s n.low)) 19) (leb (arity (rule_of s n.high)) 19) (le-leb (arity (rule_of s n.low)) 19 h.1) (le-leb (arity (rule_of s n.high)) 19 h.2))

-- Rules whose halves are equal --

-- equal halves are made into u
make_equal : (D : Meaning) (s : Store) (e : Edge) → make D s e e ≡ (s, put U e)
make_equal D s e = let h = same_refl e in simp h

-- a rule that does not look at its first mark is inserted as u on the rule of the others
pub insert_double : (D : Meaning) → Lawful D → (s : Store) → Normal D s → (f : Rule) → Balanced f → insert D s (f ⋆ f) ≡ ((insert D s f).0, put U (insert D s f).1)
insert_double D law s ns f ev =
    let m : Made = insert D s f in
    let x = insert_sound D law s ns f ev in
    let b : insert D m.0 f ≡ m = ap (insert D m.0) (sym x.rule) ∙ insert_back D law m.0 x.normal m.1 x.accepted in
    ap (λ (y : Made). make D y.0 m.1 y.1) b ∙ make_equal D m.0 m.1
