-- A diamond looked up and, if it is not there, pushed.
use Rattle.std.proofs.Common.{◌≡◌, ℕ, ◌<◌, Bool, true, false, cond, leb, List, [], ◌∷◌, ◌++◌, length, Some, None, Ok, Err, Option, sym, refl, ap, ◌∙◌, arith, length-append}
use Rattle.std.proofs.lemmas.Bool.{leb-true, leb-false}
use Rattle.diagram.specs.declared.edges.Edge.{Edge}
use Rattle.diagram.specs.declared.edges.Diamond.{Diamond}
use Rattle.diagram.specs.declared.meanings.Meaning.{Meaning}
use Rattle.diagram.specs.declared.refusals.Refusal.TheVariants.{Full}
use Rattle.diagram.specs.Making.{add, diamond_edge}
use Rattle.diagram.specs.Records.{edge_of, store_of, edge_record, number_of}
use Rattle.diagram.proofs.Made.{shallow_read, shallow_met}
use Rattle.cache.specs.declared.entries.Key.{Key}
use Rattle.engine.specs.Steps.{Outcome, kept, right_for}
use Rattle.engine.specs.States.{Joins}
use Rattle.engine.specs.Laws.{HeldWell}
use Rattle.engine.proofs.Joining.{add_new, add_full, joined_normal, joined_shallow, joined_spelled}
use Rattle.engine.proofs.Remembered.{right_on, grown_push}

-- the diamonds after a push of d
abbrev pub pushed : List Diamond → Diamond → List Diamond
pushed ds d = cond (leb 1024 (length ds)) ds (ds ++ (d ∷ []))

module _ (D : Meaning) (ds : List Diamond) (w : HeldWell D ds) (d : Diamond) (j : Joins D ds d) (new : number_of ds d ≡ None) where
  longer : length ds < 1024 → HeldWell D (ds ++ (d ∷ []))
  longer l = record {
    lawful = w.lawful;
    normal = (joined_normal D ds d w.normal.1 j new w.normal.0, joined_spelled D ds d w.normal.1 j);
    shallow = shallow_read (store_of (ds ++ (d ∷ []))) (joined_shallow D ds d w.normal.1 j (shallow_met (store_of ds) w.shallow));
    few = let p = length-append ds (d ∷ []) in omega arith;
  }

  -- diamonds that were held well still are, and what may be remembered still may
  pub pushed_well : HeldWell D (pushed ds d) × ((k : Key) (e : Edge) → right_for D ds k e ≡ true → right_for D (pushed ds d) k e ≡ true)
  pushed_well = go (leb 1024 (length ds)) refl
    where
      go : (b : Bool) → leb 1024 (length ds) ≡ b →
          HeldWell D (cond b ds (ds ++ (d ∷ []))) × ((k : Key) (e : Edge) → right_for D ds k e ≡ true → right_for D (cond b ds (ds ++ (d ∷ []))) k e ≡ true)
      go true p = (w, λ k e h. h)
      go false p = let v = longer (leb-false 1024 (length ds) p) in (v, λ k e h. right_on D ds (ds ++ (d ∷ [])) w v (grown_push ds d) k e h)

  pub pushed_new : (k : ℕ) (xs : List Diamond) → ◌≡◌ {A = Option ℕ} (Some k) (cond (leb 1024 (length ds)) None (Some (length ds))) → xs ≡ pushed ds d →
      (k < 1024) × ◌≡◌ {A = Outcome} (Ok (edge_record (diamond_edge k)), xs) (kept ds (add (store_of ds) (edge_of d.low) (edge_of d.high)))
  pushed_new k xs p q = go (leb 1024 (length ds)) refl p q
    where
      go : (b : Bool) → leb 1024 (length ds) ≡ b → ◌≡◌ {A = Option ℕ} (Some k) (cond b None (Some (length ds))) → xs ≡ cond b ds (ds ++ (d ∷ [])) →
          (k < 1024) × ◌≡◌ {A = Outcome} (Ok (edge_record (diamond_edge k)), xs) (kept ds (add (store_of ds) (edge_of d.low) (edge_of d.high)))
      go true t u v = absurd cc
      go false t u v =
          let l = leb-false 1024 (length ds) t in
          let m : k ≡ length ds = cc in (
            omega arith,
            ap (λ (n : ℕ). (Ok (edge_record (diamond_edge n)), xs)) m ∙ ap (λ (ys : List Diamond). (Ok (edge_record (diamond_edge (length ds))), ys)) v
                ∙ sym (add_new D ds d w.normal.1 j l new),
          )

  pub pushed_full : (xs : List Diamond) → ◌≡◌ {A = Option ℕ} None (cond (leb 1024 (length ds)) None (Some (length ds))) → xs ≡ pushed ds d →
      ◌≡◌ {A = Outcome} (Err Full, xs) (kept ds (add (store_of ds) (edge_of d.low) (edge_of d.high)))
  pushed_full xs p q = go (leb 1024 (length ds)) refl p q
    where
      go : (b : Bool) → leb 1024 (length ds) ≡ b → ◌≡◌ {A = Option ℕ} None (cond b None (Some (length ds))) → xs ≡ cond b ds (ds ++ (d ∷ [])) →
          ◌≡◌ {A = Outcome} (Err Full, xs) (kept ds (add (store_of ds) (edge_of d.low) (edge_of d.high)))
      go true t u v = ap (λ (ys : List Diamond). (Err Full, ys)) v ∙ sym (add_full D ds d w.normal.1 j (leb-true 1024 (length ds) t) new)
      go false t u v = absurd cc
