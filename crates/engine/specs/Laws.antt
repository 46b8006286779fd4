-- What is true of every engine, and what its steps come to.
use Rattle.std.specs.Prelude.{◌≡◌, ℕ, ◌<◌, ◌≤◌, Bool, true, false, List, length, Some, None, Ok, Err, Option, Result, ◌==◌, nat_eq}
use Rattle.diagram.specs.declared.edges.Edge.{Edge}
use Rattle.diagram.specs.declared.edges.Diamond.{Diamond}
use Rattle.diagram.specs.declared.meanings.Meaning.{Meaning}
use Rattle.diagram.specs.declared.refusals.Refusal.{Refusal}
use Rattle.diagram.specs.declared.refusals.Refusal.TheVariants.{Full}
use Rattle.diagram.specs.Refusals.{refusal_number}
use Rattle.diagram.specs.Rules.{Rule, arity, Balanced, full}
use Rattle.diagram.specs.Dialects.{Lawful}
use Rattle.diagram.specs.Making.{insert}
use Rattle.diagram.specs.Acceptance.{Shallow}
use Rattle.diagram.specs.Records.{store_of, constant_record}
use Rattle.diagram.specs.RecordTheorems.{NormalIn, Answered}
use Rattle.cache.specs.declared.entries.Key.{Key}
use Rattle.engine.specs.Steps.{Outcome, inserted, combine_step, refused_number, given}

-- what an engine of the dialect D holds in its diamonds ds
pub record HeldWell (D : Meaning) (ds : List Diamond) : Type 0 where
  pub lawful : Lawful D
  pub normal : NormalIn D ds
  -- no diamond has more than 20 marks
  pub shallow : Shallow (store_of ds)
  pub few : length ds ≤ 1024

-- a rule of at most 20 marks that is inserted with an answer is answered rightly: the edge is accepted and means the rule, the diamonds begin with those that stood,
-- earlier edges are still accepted and mean what they meant; and the diamonds are held well
abbrev pub InsertedRight : Type 0
InsertedRight =
    (D : Meaning) (ds : List Diamond) → HeldWell D ds → (f : Rule) → Balanced f → arity f ≤ 20 → (e : Edge) (es : List Diamond) →
    ◌≡◌ {A = Outcome} (inserted D ds f) (Ok e, es) → Answered D ds f es e × HeldWell D es

-- it is refused only by 7, only where there would be more than 1,024 diamonds, and the diamonds are then as they were
abbrev pub InsertedRefused : Type 0
InsertedRefused =
    (D : Meaning) (ds : List Diamond) (f : Rule) (x : Refusal) (es : List Diamond) →
    ◌≡◌ {A = Outcome} (inserted D ds f) (Err x, es) → (x ≡ Full) × (es ≡ ds) × (1024 < length (insert D (store_of ds) f).0)

-- a constant that is inserted is the constant edge, and adds nothing
abbrev pub ConstantsInserted : Type 0
ConstantsInserted = (D : Meaning) (ds : List Diamond) → HeldWell D ds → (n : ℕ) (b : Bool) → inserted D ds (full n b) ≡ (Ok (constant_record D n b), ds)

-- The cache's map --

-- a map of combinations among the diamonds ds: it gives none, or the edge that the combination answers, adding nothing
abbrev pub Remembers : Meaning → List Diamond → (Key → Option Edge) → Type 0
Remembers D ds gives = (k : Key) (e : Edge) → gives k ≡ Some e → ◌≡◌ {A = Outcome} (combine_step D ds k.connective k.left k.right) (Ok e, ds)

-- the map after a combination with the answer r, which leaves the diamonds es: the map gave `gave` before, and gives `gives` now
pub record MapAfter (keeps : Bool) (D : Meaning) (es : List Diamond) (key : Key) (r : Result Edge Refusal) (gave gives : Key → Option Edge) : Type 0 where
  -- refusal 7 empties it
  pub emptied : nat_eq (refused_number r) 7 ≡ true → (k : Key) → gives k ≡ None
  -- any other refusal leaves it as it was
  pub left : (x : Refusal) → r ≡ Err x → (refusal_number x == 7) ≡ false → (k : Key) → gives k ≡ gave k
  -- a call that was found leaves it as it was
  pub found : given (gave key) ≡ true → (k : Key) → gives k ≡ gave k
  -- every key gives none or the right edge
  pub right : Remembers D es gives
  -- with a cache that keeps, this key gives the edge of the answer
  pub noted : keeps ≡ true → (e : Edge) → r ≡ Ok e → gives key ≡ Some e
