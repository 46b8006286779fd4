-- Diamonds kept and joined: what an engine's diamonds are after one of them was looked up or added.
use Rattle.std.proofs.Common.{◌≡◌, ℕ, suc, ◌<◌, ◌≤◌, Bool, true, false, cond, List, [], ◌∷◌, ◌++◌, reverse, length, Some, None, Ok, Err, Option, sym, ap, ◌∙◌, subst, ap₂, arith}
use lib.ListN.{length-reverse}
use Rattle.std.proofs.lemmas.Bool.{le-leb, lt-leb}
use Rattle.diagram.specs.declared.edges.Diamond.{Diamond as DiamondRecord}
use Rattle.diagram.specs.declared.meanings.Meaning.{Meaning}
use Rattle.diagram.specs.declared.refusals.Refusal.TheVariants.{Full}
use Rattle.diagram.specs.Edges.{Edge, Diamond, Store}
use Rattle.diagram.specs.Making.{find, seat, add, diamond_edge}
use Rattle.diagram.specs.Acceptance.{normal, Addable, shallow}
use Rattle.diagram.specs.Records.{edge_of, diamond_of, store_of, edge_record, diamond_record, diamonds_of, spelled_edge, spelled_diamonds, same_diamond_record, number_behind, number_of}
use Rattle.diagram.proofs.Recorded.{edge_back, store_push, store_length, diamonds_push, diamonds_back, spelled_push}
use Rattle.diagram.proofs.Decides.{normal_right}
use Rattle.diagram.proofs.Made.{number_alike, shallow_read, shallow_met}
use Rattle.engine.specs.Steps.{kept}
use Rattle.engine.specs.States.{Joins}

-- What is kept --

pub kept_same : (ds : List DiamondRecord) (e : Edge) → spelled_diamonds ds ≡ true → length ds ≤ 1024 → kept ds (store_of ds, e) ≡ (Ok (edge_record e), ds)
kept_same ds e h l =
    let a = le-leb (length (store_of ds)) 1024 (let n = store_length ds in omega arith) in
    let b = diamonds_back ds h in
    simp a (ap (λ (xs : List DiamondRecord). (Ok (edge_record e), xs)) b)

diamond_back : (d : DiamondRecord) → spelled_edge d.low ≡ true → spelled_edge d.high ≡ true → diamond_record (diamond_of d) ≡ d
diamond_back d l h =
    let p = edge_back d.low l in
    let q = edge_back d.high h in
    λ i. record { low = p i; high = q i }

pub kept_more : (ds : List DiamondRecord) (d : DiamondRecord) (e : Edge) → spelled_diamonds ds ≡ true → spelled_edge d.low ≡ true → spelled_edge d.high ≡ true → length ds < 1024 →
    kept ds (diamond_of d ∷ store_of ds, e) ≡ (Ok (edge_record e), ds ++ (d ∷ []))
kept_more ds d e h l r n =
    let a = le-leb (suc (length (store_of ds))) 1024 (let m = store_length ds in omega arith) in
    let b : diamonds_of (diamond_of d ∷ store_of ds) ≡ ds ++ (d ∷ []) =
    diamonds_push (store_of ds) (diamond_of d) ∙ ap₂ (λ (xs : List DiamondRecord) (x : DiamondRecord). xs ++ (x ∷ [])) (diamonds_back ds h) (diamond_back d l r) in
    simp a (ap (λ (xs : List DiamondRecord). (Ok (edge_record e), xs)) b)

pub kept_full : (ds : List DiamondRecord) (n : Diamond) (e : Edge) → 1024 ≤ length ds → kept ds (n ∷ store_of ds, e) ≡ (Err Full, ds)
kept_full ds n e l =
    let a = lt-leb (suc (length (store_of ds))) 1024 (let m = store_length ds in omega arith) in
    simp a

-- What is looked up --

number_behind_less : (ds : List DiamondRecord) (d : DiamondRecord) (k : ℕ) → number_behind ds d ≡ Some k → k < length ds
number_behind_less [] d k e = absurd cc
number_behind_less (x ∷ xs) d k e = go (same_diamond_record x d) e (number_behind_less xs d k)
  where
    go : (b : Bool) → cond b (Some (length xs)) (number_behind xs d) ≡ Some k → (number_behind xs d ≡ Some k → k < length xs) → k < suc (length xs)
    go true p ih = let q : length xs ≡ k = cc in omega arith
    go false p ih = let q = ih p in omega arith

pub number_less : (ds : List DiamondRecord) (d : DiamondRecord) (k : ℕ) → number_of ds d ≡ Some k → k < length ds
number_less ds d k e = let p = number_behind_less (reverse ds) d k e in let q = length-reverse ds in omega arith

module _ (D : Meaning) (ds : List DiamondRecord) (d : DiamondRecord) (h : spelled_diamonds ds ≡ true) (j : Joins D ds d) where
  found : number_of ds d ≡ find (store_of ds) (diamond_of d)
  found = number_alike ds d h j.low_spelled j.high_spelled

  pub add_found : (k : ℕ) → length ds ≤ 1024 → number_of ds d ≡ Some k → kept ds (add (store_of ds) (edge_of d.low) (edge_of d.high)) ≡ (Ok (edge_record (diamond_edge k)), ds)
  add_found k l e =
      let p = sym found ∙ e in
      ap (λ (o : Option ℕ). kept ds (seat o (store_of ds) (diamond_of d))) p ∙ kept_same ds (diamond_edge k) h l

  pub add_new : length ds < 1024 → number_of ds d ≡ None → kept ds (add (store_of ds) (edge_of d.low) (edge_of d.high)) ≡ (Ok (edge_record (diamond_edge (length ds))), ds ++ (d ∷ []))
  add_new l e =
      let p = sym found ∙ e in
      ap (λ (o : Option ℕ). kept ds (seat o (store_of ds) (diamond_of d))) p
      ∙ ap (λ (n : ℕ). kept ds (diamond_of d ∷ store_of ds, diamond_edge n)) (store_length ds)
      ∙ kept_more ds d (diamond_edge (length ds)) h j.low_spelled j.high_spelled l

  pub add_full : 1024 ≤ length ds → number_of ds d ≡ None → kept ds (add (store_of ds) (edge_of d.low) (edge_of d.high)) ≡ (Err Full, ds)
  add_full l e =
      let p = sym found ∙ e in
      ap (λ (o : Option ℕ). kept ds (seat o (store_of ds) (diamond_of d))) p ∙ kept_full ds (diamond_of d) (diamond_edge (length (store_of ds))) l

  pub joined_normal : number_of ds d ≡ None → normal D (store_of ds) ≡ true → normal D (store_of (ds ++ (d ∷ []))) ≡ true
  joined_normal e n =
      let a : Addable D (store_of ds) (diamond_of d) =
      record {
        low_accepted = j.low_accepted;
        high_accepted = j.high_accepted;
        level = j.level;
        unlettered = j.unlettered;
        upright_low = j.upright;
        new = sym found ∙ e;
      } in
      subst (λ (s : Store). normal D s ≡ true) (sym (store_push ds d)) ((normal_right D (diamond_of d ∷ store_of ds)).1 ((normal_right D (store_of ds)).0 n, a))

  pub joined_shallow : shallow (store_of ds) ≡ true → shallow (store_of (ds ++ (d ∷ []))) ≡ true
  joined_shallow s =
      let l = j.short in
      let m = j.level in
      subst (λ (x : Store). shallow x ≡ true) (sym (store_push ds d))
      (shallow_met (diamond_of d ∷ store_of ds) (shallow_read (store_of ds) s, l, omega arith))

  pub joined_spelled : spelled_diamonds (ds ++ (d ∷ [])) ≡ true
  joined_spelled = spelled_push ds d h j.low_spelled j.high_spelled
