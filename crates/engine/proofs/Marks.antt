-- Constants and variables inserted.
use Rattle.std.proofs.Common.{◌≡◌, ℕ, zero, suc, ◌-◌, ◌<◌, ◌≤◌, Bool, true, false, cond, leb, List, length, Some, Ok, Err, Result, sym, refl, ap, ◌∙◌, subst, ap₂, arith}
use Rattle.std.specs.Result.{IsErrAnd}
use Rattle.std.proofs.lemmas.Result.{err_from_is_err_and}
use Rattle.diagram.specs.declared.letters.Letter.TheVariants.{U}
use Rattle.diagram.specs.declared.edges.Edge.{Edge as EdgeRecord}
use Rattle.diagram.specs.declared.edges.Diamond.{Diamond as DiamondRecord}
use Rattle.diagram.specs.declared.meanings.Meaning.{Meaning}
use Rattle.diagram.specs.declared.refusals.Refusal.{Refusal}
use Rattle.diagram.specs.declared.refusals.Refusal.TheVariants.{Full}
use Rattle.diagram.specs.Rules.{◌⋆◌, arity, full, variable}
use Rattle.diagram.specs.Edges.{Edge, Store, put, diamond_rule, rule_of}
use Rattle.diagram.specs.Dialects.{Lawful}
use Rattle.diagram.specs.Making.{Made, flat, make, insert}
use Rattle.diagram.specs.Acceptance.{Accepted, Acceptable, Normal, normal}
use Rattle.diagram.specs.Records.{edge_of, store_of, edge_record, diamonds_of, spelled_edge, spelled_diamonds, accepted_in, constant_record, with_letter}
use Rattle.diagram.proofs.Laws.{arity_full, sense_flat}
use Rattle.diagram.proofs.Split.{flat_accepted}
use Rattle.diagram.proofs.Told.{balanced_variable, arity_variable}
use Rattle.diagram.proofs.Main.{insert_back}
use Rattle.diagram.proofs.Sound.{insert_sound}
use Rattle.diagram.proofs.Bridge.{arity_edge}
use Rattle.diagram.proofs.Decides.{normal_right}
use Rattle.diagram.proofs.Recorded.{edge_there, edge_spelled, constant_is, constant_there, constant_spelled}
use Rattle.diagram.proofs.Recording.{accepted_met}
use Rattle.diagram.proofs.Made.{insert_double, with_letter_there}
use Rattle.engine.specs.Steps.{Outcome, kept, inserted}
use Rattle.engine.specs.States.{HalvesFit}
use Rattle.engine.proofs.Joining.{kept_same}

-- Constants --

-- a constant adds nothing
pub insert_full : (D : Meaning) → Lawful D → (s : Store) → Normal D s → (n : ℕ) (b : Bool) → insert D s (full n b) ≡ (s, flat D n b)
insert_full D law s ns n b = ap (insert D s) (sym (sense_flat (diamond_rule s) D n b)) ∙ insert_back D law s ns (flat D n b) (flat_accepted D s n b)

pub inserted_full : (D : Meaning) → Lawful D → (ds : List DiamondRecord) → normal D (store_of ds) ≡ true → spelled_diamonds ds ≡ true → length ds ≤ 1024 → (n : ℕ) (b : Bool) →
    inserted D ds (full n b) ≡ (Ok (constant_record D n b), ds)
inserted_full D law ds ns h l n b = ap (kept ds) (insert_full D law (store_of ds) ((normal_right D (store_of ds)).0 ns) n b) ∙ kept_same ds (flat D n b) h l ∙ ap (λ (e : EdgeRecord). (Ok e, ds)) (constant_is D n b)

pub constant_arity : (D : Meaning) (ds : List DiamondRecord) (n : ℕ) (b : Bool) → arity (rule_of (store_of ds) (edge_of (constant_record D n b))) ≡ n
constant_arity D ds n b =
    ap (λ (e : Edge). arity (rule_of (store_of ds) e)) (constant_there D n b) ∙ ap arity (sense_flat (diamond_rule (store_of ds)) D n b) ∙ arity_full n b

pub constant_in : (D : Meaning) (ds : List DiamondRecord) (n : ℕ) (b : Bool) → n ≤ 20 → accepted_in D ds (constant_record D n b) ≡ true
constant_in D ds n b h =
    let a = constant_arity D ds n b in
    let k : Acceptable D (store_of ds) (edge_of (constant_record D n b)) =
    record { accepted = subst (λ (e : Edge). Accepted D (store_of ds) e) (sym (constant_there D n b)) (flat_accepted D (store_of ds) n b); short = omega arith } in
    accepted_met D ds (constant_record D n b) (constant_spelled D n b) k

pub constants_fit : (D : Meaning) (ds : List DiamondRecord) (n : ℕ) → n ≤ 19 → HalvesFit D ds (constant_record D n false) (constant_record D n true)
constants_fit D ds n h =
    let p = constant_arity D ds n false in
    record { low_in = constant_in D ds n false (omega arith); high_in = constant_in D ds n true (omega arith); level = p ∙ sym (constant_arity D ds n true); short = omega arith }

-- Variables --

-- the first mark
pub inserted_first : (D : Meaning) → Lawful D → (ds : List DiamondRecord) → normal D (store_of ds) ≡ true → (n : ℕ) → 0 < n →
    inserted D ds (variable n 0) ≡ kept ds (make D (store_of ds) (edge_of (constant_record D (n - 1) false)) (edge_of (constant_record D (n - 1) true)))
inserted_first D law ds ns zero h = absurd (omega arith)
inserted_first D law ds ns (suc n) h =
    let z : suc n - 1 ≡ n = omega arith in
    let s = store_of ds in
    let nn = (normal_right D s).0 ns in
    let p = insert_full D law s nn n false in
    let q = insert_full D law s nn n true in
    let a : insert D s (full n false ⋆ full n true) ≡ make D s (flat D n false) (flat D n true) =
    ap (λ (x : Made). let y : Made = insert D x.0 (full n true) in make D y.0 x.1 y.1) p ∙ ap (λ (y : Made). make D y.0 (flat D n false) y.1) q in
    ap (kept ds) (a ∙ ap₂ (make D s) (sym (constant_there D n false)) (sym (constant_there D n true)))
    ∙ ap (λ (k : ℕ). kept ds (make D s (edge_of (constant_record D k false)) (edge_of (constant_record D k true)))) (sym z)

-- where an answer was kept, another edge of the same store is kept as well; and where it was refused, so is that
pub kept_put : (ds : List DiamondRecord) (m : Made) (r : EdgeRecord) (xs : List DiamondRecord) → ◌≡◌ {A = Outcome} (Ok r, xs) (kept ds m) →
    (r ≡ edge_record m.1) × ((e : Edge) → kept ds (m.0, e) ≡ (Ok (edge_record e), xs))
kept_put ds m r xs p = go (leb (length m.0) 1024) p
  where
    go : (b : Bool) → ◌≡◌ {A = Outcome} (Ok r, xs) (cond b (Ok (edge_record m.1), diamonds_of m.0) (Err Full, ds)) →
        (r ≡ edge_record m.1) × ((e : Edge) → ◌≡◌ {A = Outcome} (cond b (Ok (edge_record e), diamonds_of m.0) (Err Full, ds)) (Ok (edge_record e), xs))
    go true q =
        let a : Ok r ≡ Ok (edge_record m.1) = ap (λ (o : Outcome). o.0) q in
        (cc, λ e. ap (λ (ys : List DiamondRecord). (Ok (edge_record e), ys)) (ap (λ (o : Outcome). o.1) (sym q)))
    go false q = let a = ap (λ (o : Outcome). o.0) q in absurd cc

pub kept_err : (ds : List DiamondRecord) (m : Made) (x : Refusal) (xs : List DiamondRecord) → ◌≡◌ {A = Outcome} (Err x, xs) (kept ds m) → (e : Edge) → kept ds (m.0, e) ≡ (Err x, xs)
kept_err ds m x xs p e = go (leb (length m.0) 1024) p
  where
    go : (b : Bool) → ◌≡◌ {A = Outcome} (Err x, xs) (cond b (Ok (edge_record m.1), diamonds_of m.0) (Err Full, ds)) →
        ◌≡◌ {A = Outcome} (cond b (Ok (edge_record e), diamonds_of m.0) (Err Full, ds)) (Err x, xs)
    go true q = let a = ap (λ (o : Outcome). o.0) q in absurd cc
    go false q = sym q

-- a later mark: u on the variable of the marks after the first
later : (n i : ℕ) → 0 < i → i < n → variable n i ≡ variable (n - 1) (i - 1) ⋆ variable (n - 1) (i - 1)
later zero i h l = absurd (omega arith)
later (suc n) zero h l = absurd (omega arith)
later (suc n) (suc i) h l = let p : suc n - 1 ≡ n = omega arith in let q : suc i - 1 ≡ i = omega arith in rw (p, q)

module _ (D : Meaning) (law : Lawful D) (ds : List DiamondRecord) (ns : normal D (store_of ds) ≡ true) (n i : ℕ) (h : 0 < i) (l : i < n) where
  abbrev before : Made
  before = insert D (store_of ds) (variable (n - 1) (i - 1))

  doubled : insert D (store_of ds) (variable n i) ≡ (before.0, put U before.1)
  doubled =
      ap (insert D (store_of ds)) (later n i h l)
      ∙ insert_double D law (store_of ds) ((normal_right D (store_of ds)).0 ns) (variable (n - 1) (i - 1)) (balanced_variable (n - 1) (i - 1))

  pub inserted_later : (r : EdgeRecord) (xs : List DiamondRecord) → ◌≡◌ {A = Outcome} (Ok r, xs) (inserted D ds (variable (n - 1) (i - 1))) →
      inserted D ds (variable n i) ≡ (Ok (edge_record (put U (edge_of r))), xs)
  inserted_later r xs p =
      let k = kept_put ds before r xs p in
      let q : edge_of r ≡ before.1 = ap edge_of k.0 ∙ edge_there before.1 in
      ap (kept ds) doubled ∙ k.1 (put U before.1) ∙ ap (λ (e : Edge). (Ok (edge_record (put U e)), xs)) (sym q)

  pub refused_later : (x : Refusal) (xs : List DiamondRecord) → ◌≡◌ {A = Outcome} (Err x, xs) (inserted D ds (variable (n - 1) (i - 1))) → inserted D ds (variable n i) ≡ (Err x, xs)
  refused_later x xs p = ap (kept ds) doubled ∙ kept_err ds before x xs p (put U before.1)

  -- the variable of the later marks has a place for u
  pub later_set : (r : EdgeRecord) (xs : List DiamondRecord) → n ≤ 20 → ◌≡◌ {A = Outcome} (Ok r, xs) (inserted D ds (variable (n - 1) (i - 1))) →
      with_letter U r ≡ Some (edge_record (put U (edge_of r)))
  later_set r xs m p =
      let k = (kept_put ds before r xs p).0 in
      let x = insert_sound D law (store_of ds) ((normal_right D (store_of ds)).0 ns) (variable (n - 1) (i - 1)) (balanced_variable (n - 1) (i - 1)) in
      let a : arity (rule_of before.0 before.1) ≡ n - 1 = ap arity x.rule ∙ arity_variable (n - 1) (i - 1) in
      let b = arity_edge before.0 before.1 in
      let c : r.word.length ≡ length before.1.word = ap (λ (e : EdgeRecord). e.word.length) k in
      with_letter_there U r (subst (λ (e : EdgeRecord). spelled_edge e ≡ true) (sym k) (edge_spelled before.1)) (omega arith)

-- The calls --

-- a number that was answered passed its test, and is the one that was given
pub passed : (b : Bool) (n m : ℕ) (x : Refusal) → Ok n ≡ cond b (Ok m) (Err x) → (b ≡ true) × (n ≡ m)
passed true n m x p = (refl, cc)
passed false n m x p = absurd cc

-- what a call answers where a check refused
pub refused_at : {A : Type 0} (b : Bool) (m : ℕ) (x y : Refusal) (r a : Result A Refusal) → Err y ≡ cond b (Ok m) (Err x) → IsErrAnd r (λ z. z ≡ y) → r ≡ cond b a (Err x)
refused_at true m x y r a p q = absurd cc
refused_at false m x y r a p q =
    let u = err_from_is_err_and r q in
    let v : y ≡ x = cc in
    u.1 ∙ ap Err (u.2 ∙ v)
