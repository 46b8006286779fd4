-- The laws of an engine's steps.
use Rattle.std.proofs.Common.{◌≡◌, ℕ, ◌<◌, ◌≤◌, Bool, true, false, cond, ltb, leb, List, reverse, length, IfOk, Ok, Err, Result, sym, refl, ap, ap₂, ◌∙◌, subst, arith}
use lib.ListN.{length-map, length-reverse}
use Rattle.std.proofs.lemmas.Bool.{leb-true, leb-false}
use Rattle.diagram.specs.declared.edges.Edge.{Edge}
use Rattle.diagram.specs.declared.edges.Diamond.{Diamond}
use Rattle.diagram.specs.declared.meanings.Meaning.{Meaning}
use Rattle.diagram.specs.declared.refusals.Refusal.{Refusal}
use Rattle.diagram.specs.declared.refusals.Refusal.TheVariants.{Full}
use Rattle.diagram.specs.Rules.{variable}
use Rattle.diagram.specs.Making.{Made, insert}
use Rattle.diagram.specs.Acceptance.{Shallow, normal, shallow}
use Rattle.diagram.specs.Records.{store_of, edge_record, diamonds_of, diamond_record, spelled_diamonds}
use Rattle.diagram.specs.RecordTheorems.{Answered}
use Rattle.dialect.specs.declared.profiles.Profile.{Profile}
use Rattle.diagram.proofs.Tests.{tested}
use Rattle.diagram.proofs.Made.{shallow_read}
use Rattle.diagram.proofs.Told.{balanced_variable, arity_variable}
use Rattle.diagram.proofs.Decides.{normal_right}
use Rattle.diagram.proofs.Limits.{insert_shallow}
use Rattle.diagram.proofs.Recorded.{store_there}
use Rattle.diagram.proofs.Recording.{answer_accepted}
use Rattle.engine.specs.declared.states.State.{State}
use Rattle.engine.specs.Steps.{Outcome, kept, inserted}
use Rattle.engine.specs.Laws.{HeldWell, InsertedRight, InsertedRefused, ConstantsInserted}
use Rattle.engine.proofs.Marks.{inserted_full}

-- an answer that was kept is of the store that was made, which is small enough
pub kept_parts : (ds : List Diamond) (m : Made) (e : Edge) (es : List Diamond) → ◌≡◌ {A = Outcome} (kept ds m) (Ok e, es) → (edge_record m.1 ≡ e) × (diamonds_of m.0 ≡ es) × (length m.0 ≤ 1024)
kept_parts ds m e es p = go (leb (length m.0) 1024) refl p
  where
    go : (b : Bool) → leb (length m.0) 1024 ≡ b → ◌≡◌ {A = Outcome} (cond b (Ok (edge_record m.1), diamonds_of m.0) (Err Full, ds)) (Ok e, es) →
        (edge_record m.1 ≡ e) × (diamonds_of m.0 ≡ es) × (length m.0 ≤ 1024)
    go true t q =
        let a : Ok (edge_record m.1) ≡ Ok e = ap (λ (o : Outcome). o.0) q in
        (cc, ap (λ (o : Outcome). o.1) q, leb-true (length m.0) 1024 t)
    go false t q = let a = ap (λ (o : Outcome). o.0) q in absurd cc

pub inserted_right : InsertedRight
inserted_right D ds w f ev l e es p =
    let m : Made = insert D (store_of ds) f in
    let k = kept_parts ds m e es p in
    let a = answer_accepted D w.lawful ds w.normal f ev l in
    let n : length (diamonds_of m.0) ≡ length m.0 = length-map (reverse m.0) diamond_record ∙ length-reverse m.0 in
    let s : Shallow (store_of (diamonds_of m.0)) =
    subst Shallow (sym (store_there m.0)) (insert_shallow D w.lawful (store_of ds) ((normal_right D (store_of ds)).0 w.normal.0) w.shallow f ev l) in
    let h : HeldWell D (diamonds_of m.0) = record { lawful = w.lawful; normal = a.normal; shallow = s; few = let q = k.2 in omega arith } in (
      subst (λ (x : Edge). Answered D ds f es x) k.0 (subst (λ (xs : List Diamond). Answered D ds f xs (edge_record m.1)) k.1 a),
      subst (HeldWell D) k.1 h,
    )

pub inserted_refused : InsertedRefused
inserted_refused D ds f x es p = go (leb (length (insert D (store_of ds) f).0) 1024) refl p
  where
    go : (b : Bool) → leb (length (insert D (store_of ds) f).0) 1024 ≡ b →
        ◌≡◌ {A = Outcome} (cond b (Ok (edge_record (insert D (store_of ds) f).1), diamonds_of (insert D (store_of ds) f).0) (Err Full, ds)) (Err x, es) →
        (x ≡ Full) × (es ≡ ds) × (1024 < length (insert D (store_of ds) f).0)
    go true t q = let a = ap (λ (o : Outcome). o.0) q in absurd cc
    go false t q =
        let a : Err Full ≡ Err x = ap (λ (o : Outcome). o.0) q in
        (cc, ap (λ (o : Outcome). o.1) (sym q), leb-false (length (insert D (store_of ds) f).0) 1024 t)

pub constants_inserted : ConstantsInserted
constants_inserted D ds w n b = inserted_full D w.lawful ds w.normal.0 w.normal.1 w.few n b

-- what the ghost fields of an engine's state say together
pub held_well : (p : Profile) (ds : List Diamond) → normal p.meaning (store_of ds) ≡ true → spelled_diamonds ds ≡ true → shallow (store_of ds) ≡ true → length ds ≤ 1024 → HeldWell p.meaning ds
held_well p ds n h l f = record { lawful = (tested p.meaning).0 p.sound; normal = (n, h); shallow = shallow_read (store_of ds) l; few = f }

-- a variable that is answered for the numbers that passed is answered rightly
pub variable_right : (D : Meaning) (ds : List Diamond) → HeldWell D ds → (n i m j : ℕ) (r : Result Edge Refusal) (es : List Diamond) → (leb n 20 ≡ true) × (m ≡ n) → (ltb i m ≡ true) × (j ≡ i) →
    ◌≡◌ {A = Outcome} (r, es) (inserted D ds (variable m j)) → IfOk r (λ e. Answered D ds (variable n i) es e)
variable_right D ds w n i m j (Ok e) es p q o =
    let l = leb-true n 20 p.0 in
    let a = arity_variable n i in
    (inserted_right D ds w (variable n i) (balanced_variable n i) (omega arith) e es (ap₂ (λ (x y : ℕ). inserted D ds (variable x y)) (sym p.1) (sym q.1) ∙ sym o)).0
variable_right D ds w n i m j (Err x) es p q o = tt

-- what an engine's state holds
pub state_well : (s : State) → HeldWell s.profile.meaning s.diamonds
state_well s = held_well s.profile s.diamonds s.proper s.spelled s.low s.few
