-- Heads and links after a diamond is put in front of its chain, and after it is taken out.
use Rattle.std.proofs.Common.{◌≡◌, ℕ, ◌<◌, Bool, true, false, cond, eqb, List, [], ◌∷◌, ◌++◌, reverse, length, get_or, take, set, Some, None, Option, sym, refl, ap, ◌∙◌, arith}
use lib.ListN.{length-reverse}
use Rattle.std.proofs.lemmas.List.{reverse-append, get_or_push, get_or-set_same, get_or-set_other, take_at}
use Rattle.std.proofs.lemmas.Bool.{eqb-true, eqb-false, cond-false}
use Rattle.diagram.specs.declared.edges.Diamond.{Diamond}
use Rattle.unique.specs.Index.{bucket_of, newest_in, links_of}
use Rattle.unique.proofs.Chained.{length_links}

-- the first 2,039 elements are the newest of their buckets
abbrev pub Begun : List (Option ℕ) → List Diamond → Type 0
Begun hs ds = (b : ℕ) → b < 2039 → get_or hs b None ≡ newest_in b (reverse ds)

pub bucket_less : (d : Diamond) → bucket_of d < 2039
bucket_less d = omega arith

newest_first : (ds : List Diamond) (d : Diamond) → reverse (ds ++ (d ∷ [])) ≡ d ∷ reverse ds
newest_first ds d = reverse-append ds (d ∷ [])

-- the newest of a bucket, after one diamond more
pub newest_push : (ds : List Diamond) (d : Diamond) (b : ℕ) →
    newest_in b (reverse (ds ++ (d ∷ []))) ≡ cond (eqb (bucket_of d) b) (Some (length ds)) (newest_in b (reverse ds))
newest_push ds d b = rw (newest_first ds d, length-reverse ds)

pub heads_push : (hs : List (Option ℕ)) (ds : List Diamond) (d : Diamond) → length hs ≡ 2039 → Begun hs ds → Begun (set hs (bucket_of d) (Some (length ds))) (ds ++ (d ∷ []))
heads_push hs ds d w h b i = go (eqb (bucket_of d) b) refl ∙ sym (newest_push ds d b)
  where
    go : (t : Bool) → eqb (bucket_of d) b ≡ t → get_or (set hs (bucket_of d) (Some (length ds))) b None ≡ cond t (Some (length ds)) (newest_in b (reverse ds))
    go true u = rw (eqb-true (bucket_of d) b u) (get_or-set_same hs b (Some (length ds)) None (omega arith))
    go false u = get_or-set_other hs (bucket_of d) b (Some (length ds)) None (λ e. eqb-false (bucket_of d) b u (sym e)) ∙ h b i

pub heads_cut : (hs : List (Option ℕ)) (ds : List Diamond) (d : Diamond) → length hs ≡ 2039 → Begun hs (ds ++ (d ∷ [])) → Begun (set hs (bucket_of d) (newest_in (bucket_of d) (reverse ds))) ds
heads_cut hs ds d w h b i = go (eqb (bucket_of d) b) refl
  where
    go : (t : Bool) → eqb (bucket_of d) b ≡ t → get_or (set hs (bucket_of d) (newest_in (bucket_of d) (reverse ds))) b None ≡ newest_in b (reverse ds)
    go true u = rw (eqb-true (bucket_of d) b u) (get_or-set_same hs b (newest_in b (reverse ds)) None (omega arith))
    go false u =
        get_or-set_other hs (bucket_of d) b (newest_in (bucket_of d) (reverse ds)) None (λ e. eqb-false (bucket_of d) b u (sym e))
        ∙ h b i
        ∙ newest_push ds d b
        ∙ cond-false (eqb (bucket_of d) b) (Some (length ds)) (newest_in b (reverse ds)) u

pub links_push : (ds : List Diamond) (d : Diamond) → links_of (reverse (ds ++ (d ∷ []))) ≡ links_of (reverse ds) ++ (newest_in (bucket_of d) (reverse ds) ∷ [])
links_push ds d = ap links_of (newest_first ds d)

long : (ds : List Diamond) → length (links_of (reverse ds)) ≡ length ds
long ds = length_links (reverse ds) ∙ length-reverse ds

pub links_cut : (ds : List Diamond) (d : Diamond) → take (length ds) (links_of (reverse (ds ++ (d ∷ [])))) ≡ links_of (reverse ds)
links_cut ds d = rw (links_push ds d) (take_at (links_of (reverse ds)) (newest_in (bucket_of d) (reverse ds) ∷ []) (length ds) (long ds))

pub links_last : (ds : List Diamond) (d : Diamond) → get_or (links_of (reverse (ds ++ (d ∷ [])))) (length ds) None ≡ newest_in (bucket_of d) (reverse ds)
links_last ds d = rw (links_push ds d) (get_or_push (links_of (reverse ds)) (newest_in (bucket_of d) (reverse ds)) None (length ds) (long ds))
