-- Chains of diamonds: where one begins, where it goes on, and what walking it finds.
use Rattle.std.proofs.Common.{◌≡◌, ℕ, suc, ◌+◌, ◌-◌, ◌<◌, ◌≤◌, Bool, true, false, cond, eqb, List, [], ◌∷◌, ◌++◌, reverse, length, get_or, take, Some, None, Option, sym, refl, ap, ◌∙◌, subst, ap₂, arith, length-take-le, take_all}
use mathlib.Core.List.{reverse-cons}
use lib.ListN.{length-reverse}
use Rattle.std.proofs.lemmas.List.{reverse-reverse, reverse-append, get_or_append_left, get_or_push, get_or-take, take-append-le, take-take, length_push}
use Rattle.std.proofs.lemmas.Bool.{eqb-true, eqb-false, and_parts}
use Rattle.diagram.specs.declared.edges.Edge.{Edge}
use Rattle.diagram.specs.declared.edges.Diamond.{Diamond}
use Rattle.diagram.specs.Records.{same_record, same_diamond_record, number_behind, number_of}
use Rattle.diagram.proofs.Recorded.{same_record_eq}
use Rattle.diagram.proofs.Placed.{no_diamond, number_step}
use Rattle.unique.specs.Index.{bucket_of, newest_in, links_of}

-- diamonds with the same edges have the same bucket
pub same_bucket : (x d : Diamond) → same_diamond_record x d ≡ true → bucket_of x ≡ bucket_of d
same_bucket x d h =
    let p = and_parts (same_record x.low d.low) (same_record x.high d.high) h in
    ap₂ (λ (l r : Edge). bucket_of (record { low = l; high = r })) (same_record_eq x.low d.low p.0) (same_record_eq x.high d.high p.1)

pub length_links : (s : List Diamond) → length (links_of s) ≡ length s
length_links [] = refl
length_links (d ∷ s) = omega (arith, length_push (links_of s) (newest_in (bucket_of d) s), length_links s)

-- the newest of a bucket stands, and is of that bucket
pub newest_less : (b : ℕ) (s : List Diamond) (k : ℕ) → newest_in b s ≡ Some k → k < length s
newest_less b [] k e = absurd cc
newest_less b (d ∷ s) k e = go (eqb (bucket_of d) b) e (newest_less b s k)
  where
    go : (t : Bool) → cond t (Some (length s)) (newest_in b s) ≡ Some k → (newest_in b s ≡ Some k → k < length s) → k < suc (length s)
    go true p ih = let q : length s ≡ k = cc in omega arith
    go false p ih = omega (arith, ih p)

pub newest_bucket : (b : ℕ) (s : List Diamond) (k : ℕ) (x : Diamond) → newest_in b s ≡ Some k → bucket_of (get_or (reverse s) k x) ≡ b
newest_bucket b [] k x e = absurd cc
newest_bucket b (d ∷ s) k x e =
    subst (λ (xs : List Diamond). bucket_of (get_or xs k x) ≡ b) (sym (reverse-cons d s)) (go (eqb (bucket_of d) b) refl e (newest_bucket b s k x))
  where
    go : (t : Bool) → eqb (bucket_of d) b ≡ t → cond t (Some (length s)) (newest_in b s) ≡ Some k → (newest_in b s ≡ Some k → bucket_of (get_or (reverse s) k x) ≡ b) →
        bucket_of (get_or (reverse s ++ (d ∷ [])) k x) ≡ b
    go true u p ih =
        let q : length s ≡ k = cc in
        ap bucket_of (get_or_push (reverse s) d x k (length-reverse s ∙ q)) ∙ eqb-true (bucket_of d) b u
    go false u p ih =
        let l : k < length (reverse s) = omega (arith, newest_less b s k p, length-reverse s) in
        ap bucket_of (get_or_append_left (reverse s) (d ∷ []) x k l) ∙ ih p

-- Reading a link --

-- the link at diamond k is the newest before it in its bucket
abbrev LinkRead : List (Option ℕ) → List Diamond → ℕ → Type 0
LinkRead ls ds k = get_or ls k None ≡ newest_in (bucket_of (get_or ds k no_diamond)) (reverse (take k ds))

-- one diamond more
link_read_push : (s : List Diamond) (d : Diamond) (k : ℕ) → k < suc (length s) → (k < length s → LinkRead (links_of s) (reverse s) k) → LinkRead (links_of (d ∷ s)) (reverse s ++ (d ∷ [])) k
link_read_push s d k h ih = go (eqb k (length s)) refl
  where
    go : (t : Bool) → eqb k (length s) ≡ t → LinkRead (links_of (d ∷ s)) (reverse s ++ (d ∷ [])) k
    go true u =
        let e : k ≡ length s = eqb-true k (length s) u in
        let l = length-reverse s in
        let r : take k (reverse s ++ (d ∷ [])) ≡ reverse s = take-append-le k (reverse s) (d ∷ []) (omega arith) ∙ take_all k (reverse s) (omega arith) in
        let q : get_or (reverse s ++ (d ∷ [])) k no_diamond ≡ d = get_or_push (reverse s) d no_diamond k (omega arith) in
        rw (q, r, reverse-reverse s) (get_or_push (links_of s) (newest_in (bucket_of d) s) None k (length_links s ∙ sym e))
    go false u =
        let n = eqb-false k (length s) u in
        let i : k < length s = omega arith in
        let l = length-reverse s in
        let r : take k (reverse s ++ (d ∷ [])) ≡ take k (reverse s) = take-append-le k (reverse s) (d ∷ []) (omega arith) in
        let q : get_or (reverse s ++ (d ∷ [])) k no_diamond ≡ get_or (reverse s) k no_diamond = get_or_append_left (reverse s) (d ∷ []) no_diamond k (omega arith) in
        rw (q, r) (get_or_append_left (links_of s) (newest_in (bucket_of d) s ∷ []) None k (omega (arith, length_links s)) ∙ ih i)

link_read_back : (s : List Diamond) (k : ℕ) → k < length s → LinkRead (links_of s) (reverse s) k
link_read_back [] k h = absurd (omega arith)
link_read_back (d ∷ s) k h = subst (λ (ds : List Diamond). LinkRead (links_of (d ∷ s)) ds k) (sym (reverse-cons d s)) (link_read_push s d k h (link_read_back s k))

-- the link at a diamond leads to the newest before it in its bucket
pub link_read : (ds : List Diamond) (k : ℕ) → k < length ds → get_or (links_of (reverse ds)) k None ≡ newest_in (bucket_of (get_or ds k no_diamond)) (reverse (take k ds))
link_read ds k h =
    subst (λ (xs : List Diamond). LinkRead (links_of (reverse ds)) xs k) (reverse-reverse ds) (link_read_back (reverse ds) k (let l = length-reverse ds in omega arith))

-- Walking a chain --

-- how many diamonds there are up to the one with this number
abbrev pub up_to : Option ℕ → ℕ
up_to None = 0
up_to (Some k) = k + 1

newest_up_to : (b : ℕ) (s : List Diamond) → up_to (newest_in b s) ≤ length s
newest_up_to b s = go (newest_in b s) refl
  where
    go : (o : Option ℕ) → newest_in b s ≡ o → up_to o ≤ length s
    go None e = omega arith
    go (Some k) e = omega (arith, newest_less b s k e)

-- a diamond stands no later than the newest of its bucket
number_back : (s : List Diamond) (d : Diamond) → number_behind s d ≡ number_of (take (up_to (newest_in (bucket_of d) s)) (reverse s)) d
number_back [] d = refl
number_back (x ∷ s) d =
    subst (λ (xs : List Diamond). number_behind (x ∷ s) d ≡ number_of (take (up_to (newest_in (bucket_of d) (x ∷ s))) xs) d) (sym (reverse-cons x s)) (go (eqb (bucket_of x) (bucket_of d)) refl (number_back s d))
  where
    all : take (length s + 1) (reverse s ++ (x ∷ [])) ≡ reverse s ++ (x ∷ [])
    all = take_all (length s + 1) (reverse s ++ (x ∷ [])) (omega (arith, length_push (reverse s) x, length-reverse s))

    differ : eqb (bucket_of x) (bucket_of d) ≡ false → (t : Bool) → same_diamond_record x d ≡ t → cond t (Some (length s)) (number_behind s d) ≡ number_behind s d
    differ u true v = absurd (eqb-false (bucket_of x) (bucket_of d) u (same_bucket x d v))
    differ u false v = refl

    go : (t : Bool) → eqb (bucket_of x) (bucket_of d) ≡ t → number_behind s d ≡ number_of (take (up_to (newest_in (bucket_of d) s)) (reverse s)) d →
        number_behind (x ∷ s) d ≡ number_of (take (up_to (cond t (Some (length s)) (newest_in (bucket_of d) s))) (reverse s ++ (x ∷ []))) d
    go true u ih = rw (all, reverse-append (reverse s) (x ∷ []), reverse-reverse s)
    go false u ih =
        let n = up_to (newest_in (bucket_of d) s) in
        let l : n ≤ length (reverse s) = omega (arith, newest_up_to (bucket_of d) s, length-reverse s) in
        differ u (same_diamond_record x d) refl ∙ ih ∙ ap (λ (xs : List Diamond). number_of xs d) (sym (take-append-le n (reverse s) (x ∷ []) l))

number_up_to : (ds : List Diamond) (d : Diamond) → number_of ds d ≡ number_of (take (up_to (newest_in (bucket_of d) (reverse ds))) ds) d
number_up_to ds d =
    number_back (reverse ds) d
    ∙ ap (λ (xs : List Diamond). number_of (take (up_to (newest_in (bucket_of d) (reverse ds))) xs) d) (reverse-reverse ds)

-- the diamond d is not found, or no later than at the diamond with this number, which is of its bucket
abbrev pub FoundFrom : List Diamond → Diamond → Option ℕ → Type 0
FoundFrom ds d None = number_of ds d ≡ None
FoundFrom ds d (Some k) = (k < length ds) × (number_of ds d ≡ number_of (take (k + 1) ds) d) × (bucket_of (get_or ds k no_diamond) ≡ bucket_of d)

-- where d is not among the diamonds from n on, it is looked for from the newest of its bucket among the first n
pub found_from : (ds : List Diamond) (d : Diamond) (n : ℕ) → n ≤ length ds → number_of ds d ≡ number_of (take n ds) d → FoundFrom ds d (newest_in (bucket_of d) (reverse (take n ds)))
found_from ds d n l h = go (newest_in (bucket_of d) (reverse (take n ds))) refl
  where
    found : (o : Option ℕ) → newest_in (bucket_of d) (reverse (take n ds)) ≡ o → number_of ds d ≡ number_of (take (up_to o) (take n ds)) d
    found o e = h ∙ number_up_to (take n ds) d ∙ ap (λ (o : Option ℕ). number_of (take (up_to o) (take n ds)) d) e

    go : (o : Option ℕ) → newest_in (bucket_of d) (reverse (take n ds)) ≡ o → FoundFrom ds d o
    go None e = found None e
    go (Some k) e =
        let i : k < n = omega (arith, newest_less (bucket_of d) (reverse (take n ds)) k e, length-reverse (take n ds), length-take-le n ds l) in
        let c : bucket_of (get_or (reverse (reverse (take n ds))) k no_diamond) ≡ bucket_of d = newest_bucket (bucket_of d) (reverse (take n ds)) k no_diamond e in
        let g : get_or (reverse (reverse (take n ds))) k no_diamond ≡ get_or ds k no_diamond = ap (λ (xs : List Diamond). get_or xs k no_diamond) (reverse-reverse (take n ds)) ∙ get_or-take n ds k no_diamond i in (
          omega arith,
          found (Some k) e ∙ ap (λ (xs : List Diamond). number_of xs d) (take-take (k + 1) n ds (omega arith)),
          ap bucket_of (sym g) ∙ c,
        )

-- the walk begins at the newest of the bucket
pub found_start : (ds : List Diamond) (d : Diamond) → FoundFrom ds d (newest_in (bucket_of d) (reverse ds))
found_start ds d =
    let e : take (length ds) ds ≡ ds = take_all (length ds) ds (omega arith) in
    subst (λ (xs : List Diamond). FoundFrom ds d (newest_in (bucket_of d) (reverse xs))) e (found_from ds d (length ds) (omega arith) (ap (λ (xs : List Diamond). number_of xs d) (sym e)))

number_at : (ds : List Diamond) (d : Diamond) (k : ℕ) (b : Bool) → k < length ds → same_diamond_record (get_or ds k no_diamond) d ≡ b →
    number_of (take (k + 1) ds) d ≡ cond b (Some k) (number_of (take k ds) d)
number_at ds d k b h t =
    let q : k + 1 - 1 ≡ k = omega arith in
    subst (λ (m : ℕ). number_of (take (k + 1) ds) d ≡ cond b (Some m) (number_of (take m ds) d)) q
    (number_step ds (k + 1) d no_diamond (omega arith) (omega arith) b (ap (λ (m : ℕ). same_diamond_record (get_or ds m no_diamond) d) q ∙ t))

-- at the diamond itself it ends
pub found_here : (ds : List Diamond) (d : Diamond) (k : ℕ) → FoundFrom ds d (Some k) → same_diamond_record (get_or ds k no_diamond) d ≡ true → number_of ds d ≡ Some k
found_here ds d k f t = f.1 ∙ number_at ds d k true f.0 t

-- and at any other it goes on with the link
pub found_next : (ds : List Diamond) (d : Diamond) (k : ℕ) → FoundFrom ds d (Some k) → same_diamond_record (get_or ds k no_diamond) d ≡ false → FoundFrom ds d (get_or (links_of (reverse ds)) k None)
found_next ds d k f t =
    rw (link_read ds k f.0, f.2) (found_from ds d k (omega (arith, f.0)) (f.1 ∙ number_at ds d k false f.0 t))

-- a link leads to an older diamond
pub link_less : (ds : List Diamond) (k : ℕ) → k < length ds → up_to (get_or (links_of (reverse ds)) k None) ≤ k
link_less ds k h =
    rw (link_read ds k h)
    (omega (arith, newest_up_to (bucket_of (get_or ds k no_diamond)) (reverse (take k ds)), length-reverse (take k ds), length-take-le k ds (omega arith)))
