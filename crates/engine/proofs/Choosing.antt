-- Edges made from two halves that are accepted: by a letter, or by a diamond.
use Rattle.std.proofs.Common.{◌≡◌, ◌<◌, ◌≤◌, Bool, true, false, cond, not, leb, List, length, Some, None, Ok, Err, Option, Result, sym, refl, ap, ◌∙◌, arith}
use Rattle.diagram.specs.declared.letters.Letter.{Letter}
use Rattle.diagram.specs.declared.letters.Letter.TheVariants.{U, X, C00, C01, C10, C11}
use Rattle.diagram.specs.declared.edges.Edge.{Edge as EdgeRecord}
use Rattle.diagram.specs.declared.edges.Diamond.{Diamond as DiamondRecord}
use Rattle.diagram.specs.declared.meanings.Meaning.{Meaning}
use Rattle.diagram.specs.declared.refusals.Refusal.{Refusal}
use Rattle.diagram.specs.declared.refusals.Refusal.TheVariants.{Full}
use Rattle.diagram.specs.Rules.{arity}
use Rattle.diagram.specs.Edges.{Edge, flip, put, diamond_rule, rule_of}
use Rattle.diagram.specs.Dialects.{Lawful}
use Rattle.diagram.specs.Making.{Made, source, written, choose, add, flipped, make_by, make}
use Rattle.diagram.specs.Records.{edge_of, store_of, edge_record, spelled_edge, spelled_diamonds, other_mark, letter_for, with_letter, diamonds_of}
use Rattle.diagram.proofs.Laws.{arity_negate, sense_flip}
use Rattle.diagram.proofs.Signs.{flip?, choose_flip}
use Rattle.diagram.proofs.Split.{accepted_flip}
use Rattle.diagram.proofs.Placed.{arity_record}
use Rattle.diagram.proofs.Recorded.{letter_alike, choose_letter}
use Rattle.diagram.proofs.Recording.{spelled_in, acceptable_in}
use Rattle.diagram.proofs.Made.{with_letter_there}
use Rattle.engine.specs.Steps.{Outcome, kept}
use Rattle.engine.specs.States.{HalvesFit, Joins}
use Rattle.engine.proofs.Joining.{kept_same}

-- an edge that is accepted and has a place above it has fewer than 20 letters
pub room_above : (ds : List DiamondRecord) (e : EdgeRecord) → arity (rule_of (store_of ds) (edge_of e)) ≤ 19 → e.word.length < 20
room_above ds e h = let p = arity_record (store_of ds) e in omega arith

source_there : (c : Letter) (l h : EdgeRecord) → edge_of (source c l h) ≡ source c (edge_of l) (edge_of h)
source_there U l h = refl
source_there X l h = refl
source_there C00 l h = refl
source_there C01 l h = refl
source_there C10 l h = refl
source_there C11 l h = refl

source_both : (P : EdgeRecord → Type 0) (c : Letter) (l h : EdgeRecord) → P l → P h → P (source c l h)
source_both P U l h p q = p
source_both P X l h p q = p
source_both P C00 l h p q = q
source_both P C01 l h p q = q
source_both P C10 l h p q = p
source_both P C11 l h p q = p

module _ (D : Meaning) (ds : List DiamondRecord) (low high : EdgeRecord) (f : HalvesFit D ds low high) where
  chosen : choose D (edge_of low) (edge_of high) ≡ written (letter_for D low high) (edge_of low) (edge_of high)
  chosen =
      choose_letter D (edge_of low) (edge_of high)
      ∙ ap (λ (o : Option Letter). written o (edge_of low) (edge_of high)) (sym (letter_alike D low high (spelled_in D ds low f.low_in) (spelled_in D ds high f.high_in)))

  pub letter_set : (c : Letter) → with_letter c (source c low high) ≡ Some (edge_record (put c (source c (edge_of low) (edge_of high))))
  letter_set c =
      let s = source_both (λ e. spelled_edge e ≡ true) c low high (spelled_in D ds low f.low_in) (spelled_in D ds high f.high_in) in
      let a = f.level in
      let b = f.short in
      let l = source_both (λ e. e.word.length < 20) c low high (room_above ds low f.short) (room_above ds high (omega arith)) in
      with_letter_there c (source c low high) s l ∙ ap (λ (e : Edge). Some (edge_record (put c e))) (source_there c low high)

  pub made_letter : (c : Letter) → spelled_diamonds ds ≡ true → length ds ≤ 1024 → letter_for D low high ≡ Some c →
      kept ds (make D (store_of ds) (edge_of low) (edge_of high)) ≡ (Ok (edge_record (put c (source c (edge_of low) (edge_of high)))), ds)
  made_letter c h l e =
      let p : choose D (edge_of low) (edge_of high) ≡ Some (put c (source c (edge_of low) (edge_of high))) =
      chosen ∙ ap (λ (o : Option Letter). written o (edge_of low) (edge_of high)) e in
      ap (λ (o : Option Edge). kept ds (make_by o (store_of ds) (edge_of low) (edge_of high))) p ∙ kept_same ds (put c (source c (edge_of low) (edge_of high))) h l

  unlettered : letter_for D low high ≡ None → choose D (edge_of low) (edge_of high) ≡ None
  unlettered e = chosen ∙ ap (λ (o : Option Letter). written o (edge_of low) (edge_of high)) e

  pub joins_upright : letter_for D low high ≡ None → low.negated ≡ false → Joins D ds (record { low = low; high = high })
  joins_upright e u = record {
    low_spelled = spelled_in D ds low f.low_in;
    high_spelled = spelled_in D ds high f.high_in;
    low_accepted = (acceptable_in D ds low f.low_in).accepted;
    high_accepted = (acceptable_in D ds high f.high_in).accepted;
    level = f.level;
    short = f.short;
    unlettered = unlettered e;
    upright = u;
  }

  pub made_upright : letter_for D low high ≡ None → low.negated ≡ false →
      kept ds (make D (store_of ds) (edge_of low) (edge_of high)) ≡ kept ds (add (store_of ds) (edge_of low) (edge_of high))
  made_upright e u =
      let p = unlettered e in
      ap (λ (o : Option Edge). kept ds (make_by o (store_of ds) (edge_of low) (edge_of high))) p
      ∙ ap (λ (b : Bool). kept ds (cond b (flipped (add (store_of ds) (flip (edge_of low)) (flip (edge_of high)))) (add (store_of ds) (edge_of low) (edge_of high)))) u

  -- a marked half is accepted only where the dialect negates
  negating : low.negated ≡ true → D.negates ≡ true
  negating u = go D.negates refl
    where
      go : (b : Bool) → D.negates ≡ b → D.negates ≡ true
      go true p = p
      go false p = let q = (acceptable_in D ds low f.low_in).accepted.signed p in absurd cc

  pub joins_flipped : Lawful D → letter_for D low high ≡ None → low.negated ≡ true → Joins D ds (record { low = other_mark low; high = other_mark high })
  joins_flipped law e u =
      let n = negating u in
      let a : arity (rule_of (store_of ds) (flip (edge_of low))) ≡ arity (rule_of (store_of ds) (edge_of low)) =
      ap arity (sense_flip (diamond_rule (store_of ds)) (edge_of low)) ∙ arity_negate (rule_of (store_of ds) (edge_of low)) in
      let b : arity (rule_of (store_of ds) (flip (edge_of high))) ≡ arity (rule_of (store_of ds) (edge_of high)) =
      ap arity (sense_flip (diamond_rule (store_of ds)) (edge_of high)) ∙ arity_negate (rule_of (store_of ds) (edge_of high)) in
      let s = f.short in
      record {
        low_spelled = spelled_in D ds low f.low_in;
        high_spelled = spelled_in D ds high f.high_in;
        low_accepted = accepted_flip D (store_of ds) (edge_of low) n (acceptable_in D ds low f.low_in).accepted;
        high_accepted = accepted_flip D (store_of ds) (edge_of high) n (acceptable_in D ds high f.high_in).accepted;
        level = a ∙ f.level ∙ sym b;
        short = omega arith;
        unlettered = choose_flip D law n (edge_of low) (edge_of high) ∙ ap flip? (unlettered e);
        upright = ap not u;
      }

  pub made_flipped : letter_for D low high ≡ None → low.negated ≡ true →
      kept ds (make D (store_of ds) (edge_of low) (edge_of high)) ≡ kept ds (flipped (add (store_of ds) (flip (edge_of low)) (flip (edge_of high))))
  made_flipped e u =
      let p = unlettered e in
      ap (λ (o : Option Edge). kept ds (make_by o (store_of ds) (edge_of low) (edge_of high))) p
      ∙ ap (λ (b : Bool). kept ds (cond b (flipped (add (store_of ds) (flip (edge_of low)) (flip (edge_of high)))) (add (store_of ds) (edge_of low) (edge_of high)))) u

-- an answer with the other mark
abbrev pub marked : Result EdgeRecord Refusal → Result EdgeRecord Refusal
marked (Ok e) = Ok (other_mark e)
marked (Err x) = Err x

pub kept_marked : (ds : List DiamondRecord) (m : Made) → kept ds (flipped m) ≡ (marked (kept ds m).0, (kept ds m).1)
kept_marked ds m = go (leb (length m.0) 1024)
  where
    go : (b : Bool) →
        ◌≡◌ {A = Outcome} (cond b (Ok (other_mark (edge_record m.1)), diamonds_of m.0) (Err Full, ds))
        (marked (cond {A = Outcome} b (Ok (edge_record m.1), diamonds_of m.0) (Err Full, ds)).0, (cond {A = Outcome} b (Ok (edge_record m.1), diamonds_of m.0) (Err Full, ds)).1)
    go true = refl
    go false = refl

pub kept_flipped : (ds : List DiamondRecord) (m : Made) (r : Result EdgeRecord Refusal) (xs : List DiamondRecord) → ◌≡◌ {A = Outcome} (r, xs) (kept ds m) → kept ds (flipped m) ≡ (marked r, xs)
kept_flipped ds m r xs p = kept_marked ds m ∙ ap (λ (o : Outcome). (marked o.0, o.1)) (sym p)
