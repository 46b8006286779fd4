-- The theorems over the program's own edges and diamonds.
use Rattle.std.proofs.Common.{◌≡◌, ◌≤◌, true, ◌&&◌, List, [], ◌∷◌, ◌++◌, map, reverse, length, take, sym, refl, ap, ◌∙◌, subst, arith}
use Rattle.std.proofs.lemmas.List.{map-append, reverse-append, take_all, take-append-le}
use Rattle.std.proofs.lemmas.Bool.{and_parts, and_from}
use Rattle.diagram.specs.declared.meanings.Meaning.{Meaning}
use Rattle.diagram.specs.declared.edges.Edge.{Edge as EdgeRecord}
use Rattle.diagram.specs.declared.edges.Diamond.{Diamond as DiamondRecord}
use Rattle.diagram.specs.Rules.{Rule, arity, value}
use Rattle.diagram.specs.Edges.{Edge, Diamond, Store, rule_of}
use Rattle.diagram.specs.Making.{Made, insert}
use Rattle.diagram.specs.Acceptance.{Acceptable, acceptable, Normal, normal, Grown}
use Rattle.diagram.specs.Records.{edge_of, store_of, edge_record, diamond_record, diamonds_of, spelled_edge, spelled_diamonds, accepted_in}
use Rattle.diagram.specs.RecordTheorems.{NormalIn, rule_in, RecordsTold, AcceptedBack, AnswerAccepted, ReachedCounted}
use Rattle.diagram.proofs.Decides.{normal_right}
use Rattle.diagram.proofs.Limits.{acceptable_right, acceptable_told}
use Rattle.diagram.proofs.Recorded.{edge_there, edge_spelled, edge_told, store_there, diamonds_back}
use Rattle.diagram.proofs.Sound.{accepted_grown, rule_grown, insert_sound}
use Rattle.diagram.proofs.Told.{edges_told}
use Rattle.diagram.proofs.Walk.{walk_counts}

-- Accepted edges --

pub spelled_in : (D : Meaning) (ds : List DiamondRecord) (e : EdgeRecord) → accepted_in D ds e ≡ true → spelled_edge e ≡ true
spelled_in D ds e h = (and_parts (spelled_edge e) (acceptable D (store_of ds) (edge_of e)) h).0

pub acceptable_in : (D : Meaning) (ds : List DiamondRecord) (e : EdgeRecord) → accepted_in D ds e ≡ true → Acceptable D (store_of ds) (edge_of e)
acceptable_in D ds e h =
    (acceptable_right D (store_of ds) (edge_of e)).0 (and_parts (spelled_edge e) (acceptable D (store_of ds) (edge_of e)) h).1

pub accepted_met : (D : Meaning) (ds : List DiamondRecord) (e : EdgeRecord) → spelled_edge e ≡ true → Acceptable D (store_of ds) (edge_of e) → accepted_in D ds e ≡ true
accepted_met D ds e h a =
    and_from (spelled_edge e) (acceptable D (store_of ds) (edge_of e)) h ((acceptable_right D (store_of ds) (edge_of e)).1 a)

pub normal_of : (D : Meaning) (ds : List DiamondRecord) → NormalIn D ds → Normal D (store_of ds)
normal_of D ds n = (normal_right D (store_of ds)).0 n.0

pub records_told : RecordsTold
records_told D law ds n d e hd he k =
    let ad = acceptable_in D ds d hd in
    let ae = acceptable_in D ds e he in (
      λ p a i. ap (λ (x : EdgeRecord). value (rule_in ds x) a) p,
      λ v.
          edge_told d e (spelled_in D ds d hd) (spelled_in D ds e he)
          (edges_told D law (store_of ds) (normal_of D ds n) (edge_of d) (edge_of e) ad.accepted ae.accepted k v),
    )

pub accepted_back : AcceptedBack
accepted_back D law ds n e =
    let x = acceptable_told D law (store_of ds) (normal_of D ds n) (edge_of e) in (
      λ h. let y = x.0 (acceptable_in D ds e h) in (spelled_in D ds e h, y.0, y.1),
      λ p. accepted_met D ds e p.0 (x.1 (p.1, p.2)),
    )

pub reached_counted : ReachedCounted
reached_counted D law ds n e h = walk_counts D law (store_of ds) (normal_of D ds n) (edge_of e) (acceptable_in D ds e h).accepted

-- Growing --

-- a store written as diamonds spells
pub diamonds_spelled : (s : Store) → spelled_diamonds (diamonds_of s) ≡ true
diamonds_spelled s = each (reverse s)
  where
    each : (xs : List Diamond) → spelled_diamonds (map diamond_record xs) ≡ true
    each [] = refl
    each (x ∷ xs) =
        and_from (spelled_edge (edge_record x.low)) (spelled_edge (edge_record x.high) && spelled_diamonds (map diamond_record xs)) (edge_spelled x.low)
        (and_from (spelled_edge (edge_record x.high)) (spelled_diamonds (map diamond_record xs)) (edge_spelled x.high) (each xs))

-- diamonds of a store that has grown begin with those that stood
pub diamonds_begin : (ds : List DiamondRecord) (s : Store) → spelled_diamonds ds ≡ true → Grown (store_of ds) s → take (length ds) (diamonds_of s) ≡ ds
diamonds_begin ds s h g =
    let more = diamonds_of g.0 in
    let p : diamonds_of s ≡ ds ++ more =
    ap diamonds_of g.1 ∙ ap (map diamond_record) (reverse-append g.0 (store_of ds)) ∙ map-append diamond_record (reverse (store_of ds)) (reverse g.0)
    ∙ ap (λ (xs : List DiamondRecord). xs ++ more) (diamonds_back ds h) in
    ap (take (length ds)) p ∙ take-append-le (length ds) ds more (omega arith) ∙ take_all (length ds) ds (omega arith)

-- an acceptable edge stays so
acceptable_grown : (D : Meaning) (s s' : Store) (e : Edge) → Grown s s' → Acceptable D s e → Acceptable D s' e
acceptable_grown D s s' e g a =
    record {
      accepted = accepted_grown D s s' e g a.accepted;
      short = subst (λ (f : Rule). arity f ≤ 20) (sym (rule_grown D s s' e g a.accepted)) a.short;
    }

-- an edge that is accepted among ds is accepted among the diamonds of a store grown from them, and means the same
pub accepted_lasts : (D : Meaning) (ds : List DiamondRecord) (s : Store) → Grown (store_of ds) s → (e : EdgeRecord) → accepted_in D ds e ≡ true →
    (accepted_in D (diamonds_of s) e ≡ true) × (rule_in (diamonds_of s) e ≡ rule_in ds e)
accepted_lasts D ds s g e h =
    let a = acceptable_in D ds e h in
    let b = acceptable_grown D (store_of ds) s (edge_of e) g a in (
      accepted_met D (diamonds_of s) e (spelled_in D ds e h) (subst (λ (z : Store). Acceptable D z (edge_of e)) (sym (store_there s)) b),
      ap (λ (z : Store). rule_of z (edge_of e)) (store_there s) ∙ rule_grown D (store_of ds) s (edge_of e) g a.accepted,
    )

-- the record of an edge means what the edge means
pub rule_there : (s : Store) (e : Edge) → rule_in (diamonds_of s) (edge_record e) ≡ rule_of s e
rule_there s e = ap (λ (z : Store). rule_of z (edge_of (edge_record e))) (store_there s) ∙ ap (rule_of s) (edge_there e)

-- the record of an acceptable edge is accepted
pub accepted_there : (D : Meaning) (s : Store) (e : Edge) → Acceptable D s e → accepted_in D (diamonds_of s) (edge_record e) ≡ true
accepted_there D s e a =
    accepted_met D (diamonds_of s) (edge_record e) (edge_spelled e)
    (subst (λ (z : Store). Acceptable D z (edge_of (edge_record e))) (sym (store_there s)) (subst (Acceptable D s) (sym (edge_there e)) a))

pub answer_accepted : AnswerAccepted
answer_accepted D law ds n f ev i =
    let s = store_of ds in
    let m : Made = insert D s f in
    let x = insert_sound D law s (normal_of D ds n) f ev in
    let a : Acceptable D m.0 m.1 = record { accepted = x.accepted; short = subst (λ (g : Rule). arity g ≤ 20) (sym x.rule) i } in
    record {
      normal = (ap (normal D) (store_there m.0) ∙ (normal_right D m.0).1 x.normal, diamonds_spelled m.0);
      begins = diamonds_begin ds m.0 n.1 x.grown;
      accepted = accepted_there D m.0 m.1 a;
      means = rule_there m.0 m.1 ∙ x.rule;
      lasting = accepted_lasts D ds m.0 x.grown;
    }
