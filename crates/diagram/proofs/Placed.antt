-- Diamonds in a list, the oldest first: what each means, by those before it.
use Rattle.std.proofs.Common.{◌≡◌, ℕ, zero, suc, ◌+◌, ◌-◌, ◌%◌, ◌^◌, ◌<◌, ◌≤◌, Bool, true, false, cond, eqb, List, [], ◌∷◌, ◌++◌, reverse, length, get_or, take, Option, Some, None, sym, refl, ap, ◌∙◌, subst, arith, length-take-le, take_all}
use Rattle.std.specs.Option.{MatchOption}
use mathlib.Core.List.{reverse-cons}
use lib.ListN.{length-reverse}
use Rattle.std.proofs.lemmas.List.{reverse-reverse, reverse-append, get_or_append_left, get_or_push, take-append-le, take_more}
use Rattle.std.proofs.lemmas.Bool.{ne_eqb, eqb-false, eqb-true}
use Rattle.diagram.specs.declared.edges.Edge.{Edge as EdgeRecord}
use Rattle.diagram.specs.declared.edges.Diamond.{Diamond as DiamondRecord}
use Rattle.diagram.specs.declared.edges.Target.TheVariants.{Zero}
use Rattle.diagram.specs.Rules.{◌⋆◌, arity}
use Rattle.diagram.specs.Words.{letters_of, word}
use Rattle.diagram.specs.Edges.{Store, diamond_rule, rule_of, foot}
use Rattle.diagram.specs.Records.{target_of, edge_of, store_of, same_diamond_record, number_behind, number_of}
use Rattle.diagram.proofs.Bridge.{arity_edge}
use Rattle.diagram.proofs.Recorded.{store_push, store_length}

-- the element that reads default to
abbrev pub no_edge : EdgeRecord
no_edge = record { negated = false; word = word 0 0; target = Zero }

abbrev pub no_diamond : DiamondRecord
no_diamond = record { low = no_edge; high = no_edge }

abbrev RuleStep : List DiamondRecord → ℕ → DiamondRecord → Type 0
RuleStep ds k d =
    diamond_rule (store_of ds) k
    ≡ rule_of (store_of (take k ds)) (edge_of (get_or ds k d).low) ⋆ rule_of (store_of (take k ds)) (edge_of (get_or ds k d).high)

-- one diamond more, at the end
rule_step_push : (ds : List DiamondRecord) (x : DiamondRecord) (k : ℕ) (d : DiamondRecord) → k < suc (length ds) → (k < length ds → RuleStep ds k d) → RuleStep (ds ++ (x ∷ [])) k d
rule_step_push ds x k d h ih = rw (store_push ds x) (go (eqb k (length (store_of ds))) refl)
  where
    go : (b : Bool) → eqb k (length (store_of ds)) ≡ b →
        cond b (rule_of (store_of ds) (edge_of x.low) ⋆ rule_of (store_of ds) (edge_of x.high)) (diamond_rule (store_of ds) k)
        ≡ rule_of (store_of (take k (ds ++ (x ∷ [])))) (edge_of (get_or (ds ++ (x ∷ [])) k d).low) ⋆ rule_of (store_of (take k (ds ++ (x ∷ [])))) (edge_of (get_or (ds ++ (x ∷ [])) k d).high)
    go true e =
        let p : k ≡ length ds = eqb-true k (length (store_of ds)) e ∙ store_length ds in
        let q : get_or (ds ++ (x ∷ [])) k d ≡ x = get_or_push ds x d k (sym p) in
        let r : take k (ds ++ (x ∷ [])) ≡ ds = take-append-le k ds (x ∷ []) (omega arith) ∙ take_all k ds (omega arith) in
        rw (q, r)
    go false e =
        let n = eqb-false k (length (store_of ds)) e in
        let l = store_length ds in
        let m : (k ≡ length ds → ⊥) = λ p. n (p ∙ sym l) in
        let i : k < length ds = omega arith in
        let q : get_or (ds ++ (x ∷ [])) k d ≡ get_or ds k d = get_or_append_left ds (x ∷ []) d k i in
        let r : take k (ds ++ (x ∷ [])) ≡ take k ds = take-append-le k ds (x ∷ []) (omega arith) in
        rw (q, r) (ih i)

rule_step_back : (rs : List DiamondRecord) (k : ℕ) (d : DiamondRecord) → k < length rs → RuleStep (reverse rs) k d
rule_step_back [] k d h = absurd (omega arith)
rule_step_back (x ∷ rs) k d h =
    subst (λ (ds : List DiamondRecord). RuleStep ds k d) (sym (reverse-cons x rs))
    (rule_step_push (reverse rs) x k d (let l = length-reverse rs in omega arith) (λ i. rule_step_back rs k d (let l = length-reverse rs in omega arith)))

-- a diamond means its low edge and its high edge, each among the diamonds before it
pub rule_step : (ds : List DiamondRecord) (k : ℕ) (d : DiamondRecord) → k < length ds → RuleStep ds k d
rule_step ds k d h =
    subst (λ (xs : List DiamondRecord). RuleStep xs k d) (reverse-reverse ds) (rule_step_back (reverse ds) k d (let l = length-reverse ds in omega arith))

pub length_letters : (n x : ℕ) → length (letters_of n x) ≡ n
length_letters zero x = refl
length_letters (suc n) x = ap suc (length_letters n (x % 8 ^ n))

-- the arity of an edge is its length and its target's arity
pub arity_record : (s : Store) (e : EdgeRecord) → arity (rule_of s (edge_of e)) ≡ e.word.length + arity (foot (diamond_rule s) (target_of e.target))
arity_record s e = arity_edge s (edge_of e) ∙ ap (λ (n : ℕ). n + arity (foot (diamond_rule s) (target_of e.target))) (length_letters e.word.length e.word.digits)

pub arity_step : (ds : List DiamondRecord) (k : ℕ) (d : DiamondRecord) → k < length ds →
    arity (diamond_rule (store_of ds) k)
    ≡ 1 + ((get_or ds k d).low.word.length + arity (foot (diamond_rule (store_of (take k ds))) (target_of (get_or ds k d).low.target)))
arity_step ds k d h =
    let p = ap arity (rule_step ds k d h) in
    let q = arity_record (store_of (take k ds)) (get_or ds k d).low in
    p ∙ omega arith

-- a diamond that does not stand has no mark
absent : (s : Store) (k : ℕ) → length s ≤ k → arity (diamond_rule s k) ≡ 0
absent [] k h = refl
absent (n ∷ s) k h =
    let z : (k ≡ length s → ⊥) = λ p. omega arith in
    rw (ne_eqb k (length s) z) (absent s k (omega arith))

pub arity_absent : (ds : List DiamondRecord) (k : ℕ) → length ds ≤ k → arity (diamond_rule (store_of ds) k) ≡ 0
arity_absent ds k h = absent (store_of ds) k (let l = store_length ds in omega arith)

-- Looking a diamond up --

-- the last of the first k + 1 diamonds, or one of the first k
number_more : (ds : List DiamondRecord) (k : ℕ) (d e : DiamondRecord) → k < length ds →
    number_of (take (k + 1) ds) d ≡ cond (same_diamond_record (get_or ds k e) d) (Some k) (number_of (take k ds) d)
number_more ds k d e h =
    let q : reverse (take (k + 1) ds) ≡ get_or ds k e ∷ reverse (take k ds) = ap reverse (take_more ds k e h) ∙ reverse-append (take k ds) (get_or ds k e ∷ []) in
    let l : length (reverse (take k ds)) ≡ k = length-reverse (take k ds) ∙ length-take-le k ds (omega arith) in
    ap (λ (xs : List DiamondRecord). number_behind xs d) q ∙ ap (λ (n : ℕ). cond (same_diamond_record (get_or ds k e) d) (Some n) (number_of (take k ds) d)) l

pub number_step : (ds : List DiamondRecord) (k : ℕ) (d e : DiamondRecord) → 0 < k → k ≤ length ds → (b : Bool) → same_diamond_record (get_or ds (k - 1) e) d ≡ b →
    number_of (take k ds) d ≡ cond b (Some (k - 1)) (number_of (take (k - 1) ds) d)
number_step ds k d e h l b p =
    let q : k - 1 + 1 ≡ k = omega arith in
    subst (λ (n : ℕ). number_of (take n ds) d ≡ cond b (Some (k - 1)) (number_of (take (k - 1) ds) d)) q
    (number_more ds (k - 1) d e (omega arith) ∙ ap (λ (c : Bool). cond c (Some (k - 1)) (number_of (take (k - 1) ds) d)) p)

number_all : (ds : List DiamondRecord) (d : DiamondRecord) → number_of ds d ≡ number_of (take (length ds) ds) d
number_all ds d = ap (λ (xs : List DiamondRecord). number_of xs d) (sym (take_all (length ds) ds (omega arith)))

-- from k on nothing is the diamond
abbrev pub Absent : List DiamondRecord → DiamondRecord → ℕ → Type 0
Absent ds d k = (i : ℕ) → k ≤ i → i < length ds → same_diamond_record (get_or ds i no_diamond) d ≡ false

number_before : (ds : List DiamondRecord) (d : DiamondRecord) (k n : ℕ) → k + n ≤ length ds → Absent ds d k →
    number_of (take (k + n) ds) d ≡ number_of (take k ds) d
number_before ds d k zero h a = ap (λ (j : ℕ). number_of (take j ds) d) (omega arith)
number_before ds d k (suc n) h a =
    let p = number_step ds (k + suc n) d no_diamond (omega arith) h false (a (k + suc n - 1) (omega arith) (omega arith)) in
    let q : k + suc n - 1 ≡ k + n = omega arith in
    p ∙ ap (λ (j : ℕ). number_of (take j ds) d) q ∙ number_before ds d k n (omega arith) a

number_from : (ds : List DiamondRecord) (d : DiamondRecord) (k : ℕ) → k ≤ length ds → Absent ds d k → number_of ds d ≡ number_of (take k ds) d
number_from ds d k h a =
    let q : length ds ≡ k + (length ds - k) = omega arith in
    number_all ds d ∙ ap (λ (j : ℕ). number_of (take j ds) d) q ∙ number_before ds d k (length ds - k) (omega arith) a

-- the last place where the diamond is, if there is one, is its number
pub number_last : (ds : List DiamondRecord) (d : DiamondRecord) (r : Option ℕ) →
    MatchOption r (Absent ds d 0) (λ k. (k < length ds) × (same_diamond_record (get_or ds k no_diamond) d ≡ true) × Absent ds d (k + 1)) → r ≡ number_of ds d
number_last ds d None a = sym (number_from ds d 0 (omega arith) a)
number_last ds d (Some k) (h, e, a) =
    sym (number_from ds d (k + 1) (omega arith) a ∙ number_more ds k d no_diamond h ∙ ap (λ (b : Bool). cond b (Some k) (number_of (take k ds) d)) e)
