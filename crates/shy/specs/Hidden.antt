-- A map that is hidden while the cache is shut.
use Rattle.std.specs.Prelude.{◌≡◌, ℕ, Bool, true, false, cond, ◌||◌, Some, None, Option, refl}
use Rattle.std.proofs.Common.{inr, arith}
use Rattle.diagram.specs.declared.edges.Edge.{Edge}
use Rattle.cache.specs.declared.entries.Key.{Key}
use Rattle.cache.specs.declared.tables.Table.{Table}
use Rattle.cache.specs.Caches.{Noted}

-- what shows is not hidden
pub shown : (shut : Bool) (o : Option Edge) (e : Edge) → cond shut None o ≡ Some e → o ≡ Some e
shown true o e h = let z : ◌≡◌ {A = ℕ} 0 1 = cc in absurd (omega arith)
shown false o e h = h

module _ (before after : Table) (gave gives : Key → Option Edge) (key : Key) (edge : Edge) (noted : Noted true before after gave gives key edge) where
  all_hidden : (was : Bool) → Noted false before after (λ k. cond was None (gave k)) (λ k. None) key edge
  all_hidden was = record {
    own = inr refl;
    kept = λ (e : false ≡ true) _. let z : ◌≡◌ {A = ℕ} 0 1 = cc in absurd (omega arith);
    others = λ _ _. inr refl;
    adds = noted.adds;
    long = noted.long;
  }

  -- what was noted in the open is noted where it may be hidden
  pub hidden_noted : (was shuts : Bool) → Noted false before after (λ k. cond was None (gave k)) (λ k. cond (was || shuts) None (gives k)) key edge
  hidden_noted true shuts = all_hidden true
  hidden_noted false true = all_hidden false
  hidden_noted false false = record {
    own = noted.own;
    kept = λ (e : false ≡ true) _. let z : ◌≡◌ {A = ℕ} 0 1 = cc in absurd (omega arith);
    others = noted.others;
    adds = noted.adds;
    long = noted.long;
  }
