-- Entries read and written at one place for each key.
use Rattle.std.specs.Prelude.{◌≡◌, ℕ, ◌%◌, ◌<◌, ◌≤◌, Bool, true, false, cond, ◌&&◌, ◌⊎◌, List, length, get_or, replicate, Some, None, Option, ◌==◌, ◌≢◌, nat_eq, slice_index_or, slice_set, refl}
use Rattle.std.proofs.Common.{sym, ap, subst, ◌∙◌, inl, inr, ⊎_elim, mod-lt, arith, length-set, get_or-set_same, get_or-set_other}
use Rattle.std.proofs.lemmas.List.{set_past, get_or_past, length-replicate, get_or-replicate}
use Rattle.std.proofs.lemmas.Bool.{cases_lt, cases_eq, eqb-true, eq-eqb, ne_eqb, and_parts, and_from}
use Rattle.diagram.specs.declared.edges.Edge.{Edge}
use Rattle.diagram.specs.Records.{same_record}
use Rattle.diagram.proofs.Recorded.{same_record_refl, same_record_eq}
use Rattle.cache.specs.declared.entries.Key.{Key}
use Rattle.cache.specs.declared.entries.Entry.{Entry}
use Rattle.cache.specs.Entries.{key, same_key, edge_for}
use Rattle.cache.specs.declared.tables.Table.{Table}
use Rattle.cache.specs.Tables.{Stands}
use Rattle.cache.specs.Caches.{Noted}

-- Keys --

pub same_key_refl : (k : Key) → same_key k k ≡ true
same_key_refl k = and_from _ _ (eq-eqb k.connective k.connective refl) (and_from _ _ (same_record_refl k.left) (same_record_refl k.right))

pub same_key_eq : (a b : Key) → same_key a b ≡ true → a ≡ b
same_key_eq a b h =
    let p = and_parts (a.connective == b.connective) (same_record a.left b.left && same_record a.right b.right) h in
    let q = and_parts (same_record a.left b.left) (same_record a.right b.right) p.1 in
    let c = eqb-true a.connective b.connective p.0 in
    let l = same_record_eq a.left b.left q.0 in
    let r = same_record_eq a.right b.right q.1 in
    λ i. key (c i) (l i) (r i)

-- What a place has for a key --

abbrev pub entry : Key → Edge → Entry
entry k e = record { key = k; edge = e }

-- an edge for a key is that of the key's entry
pub edge_read : (k : Key) (o : Option Entry) (e : Edge) → edge_for k o ≡ Some e → o ≡ Some (entry k e)
edge_read k None e h = let z : ◌≡◌ {A = ℕ} 0 1 = cc in absurd (omega arith)
edge_read k (Some x) e h = go (same_key x.key k) refl h where
  go : (b : Bool) → same_key x.key k ≡ b → cond b (Some x.edge) None ≡ Some e → Some x ≡ Some (entry k e)
  go true t q =
      let a : x.key ≡ k = same_key_eq x.key k t in
      let d : x.edge ≡ e = cc in
      λ i. Some (entry (a i) (d i))
  go false t q = let z : ◌≡◌ {A = ℕ} 0 1 = cc in absurd (omega arith)

-- a key's own entry has its edge
pub own_edge : (k : Key) (e : Edge) → edge_for k (Some (entry k e)) ≡ Some e
own_edge k e = ap (λ (b : Bool). cond b (Some e) None) (same_key_refl k)

-- the entry of another key has none
pub other_edge : (k key : Key) (e : Edge) → (k ≢ key) → edge_for k (Some (entry key e)) ≡ None
other_edge k key e apart = go (same_key key k) refl where
  go : (b : Bool) → same_key key k ≡ b → edge_for k (Some (entry key e)) ≡ None
  go true t = absurd (apart (sym (same_key_eq key k t)))
  go false t = ap (λ (b : Bool). cond b (Some e) None) t

-- Places --

-- a remainder by the number of places is a place
pub remainder_within : (n x : ℕ) → 0 < n → cond (n == 0) 0 (x % n) < n
remainder_within n x some =
    let full : nat_eq n 0 ≡ false = ne_eqb n 0 (λ e. omega (arith, e, some)) in
    subst (λ (b : Bool). cond b 0 (x % n) < n) (sym full) (mod-lt x some)

-- nothing stands in an empty table
pub none_stands : (n i : ℕ) → get_or {A = Option Entry} (replicate n None) i None ≡ None
none_stands n i =
    ⊎_elim
    (λ (lt : i < n). get_or-replicate n i None None lt)
    (λ (ge : n ≤ i). get_or_past (replicate n None) i None (subst (λ (m : ℕ). m ≤ i) (sym (length-replicate n None)) ge))
    (cases_lt i n)

-- where a write at i leaves a read at j as it was, or is what is read
pub written : (es : List (Option Entry)) (i j : ℕ) (o : Option Entry) →
    (slice_index_or (slice_set es i o) j None ≡ slice_index_or es j None) ⊎ ((j ≡ i) × (slice_index_or (slice_set es i o) j None ≡ o))
written es i j o =
    ⊎_elim
    (λ (lt : i < length es). ⊎_elim
    (λ (at : j ≡ i). inr (at, subst (λ (m : ℕ). slice_index_or (slice_set es i o) m None ≡ o) (sym at) (get_or-set_same es i o None lt)))
    (λ (off : j ≡ i → ⊥). inl (get_or-set_other es i j o None off))
    (cases_eq j i))
    (λ (ge : length es ≤ i). inl (ap (λ (l : List (Option Entry)). get_or l j None) (set_past es i o ge)))
    (cases_lt i (length es))

-- writing an entry adds no other
pub write_adds : (es : List (Option Entry)) (i : ℕ) (key : Key) (edge : Edge) (k : Key) (e : Edge) →
    Stands (slice_set es i (Some (entry key edge))) k e → Stands es k e ⊎ ((k ≡ key) × (e ≡ edge))
write_adds es i key edge k e (j, h) =
    ⊎_elim
    (λ (old : get_or (slice_set es i (Some (entry key edge))) j None ≡ slice_index_or es j None). inl (j, sym old ∙ h))
    (λ new. let q : Some (entry key edge) ≡ Some (entry k e) = sym new.1 ∙ h in
    let r : entry key edge ≡ entry k e = cc in
    inr (ap (λ (x : Entry). x.key) (sym r), ap (λ (x : Entry). x.edge) (sym r)))
    (written es i j (Some (entry key edge)))

-- a key gives its edge at the place where it was written
pub write_own : (es : List (Option Entry)) (i : ℕ) (key : Key) (edge : Edge) → i < length es →
    edge_for key (slice_index_or (slice_set es i (Some (entry key edge))) i None) ≡ Some edge
write_own es i key edge lt = ap (edge_for key) (get_or-set_same es i (Some (entry key edge)) None lt) ∙ own_edge key edge

-- another key gives at its place what it gave there, or none
pub write_other : (es : List (Option Entry)) (i j : ℕ) (key : Key) (edge : Edge) (k : Key) → (k ≢ key) →
    (edge_for k (slice_index_or (slice_set es i (Some (entry key edge))) j None) ≡ edge_for k (slice_index_or es j None))
    ⊎ (edge_for k (slice_index_or (slice_set es i (Some (entry key edge))) j None) ≡ None)
write_other es i j key edge k apart =
    ⊎_elim
    (λ (old : get_or (slice_set es i (Some (entry key edge))) j None ≡ slice_index_or es j None). inl (ap (edge_for k) old))
    (λ new. inr (ap (edge_for k) new.1 ∙ other_edge k key edge apart))
    (written es i j (Some (entry key edge)))

-- One place for each key --

-- what a table gives for a key whose place among n is p n
abbrev pub given_at : (ℕ → Key → ℕ) → Table → Key → Option Edge
given_at p t k = edge_for k (slice_index_or t (p (length t) k) None)

-- what is given stands at the key's place
pub given_stands : (p : ℕ → Key → ℕ) (t : Table) (k : Key) (e : Edge) → given_at p t k ≡ Some e → Stands t k e
given_stands p t k e h =
    let place = p (length t) k in
    (place, edge_read k (slice_index_or t place None) e h)

-- an empty table gives nothing
pub empty_gives_none : (p : ℕ → Key → ℕ) (t : Table) (n : ℕ) → t ≡ replicate n None → (k : Key) → given_at p t k ≡ None
empty_gives_none p t n empty k =
    let place = p (length t) k in
    ap (λ (l : List (Option Entry)). edge_for k (slice_index_or l place None)) empty ∙ ap (edge_for k) (none_stands n place)

module _ (p : ℕ → Key → ℕ) (within : (n : ℕ) (k : Key) → 0 < n → p n k < n) (before after : Table) (key : Key) (edge : Edge)
    (put : after ≡ slice_set before (p (length before) key) (Some (entry key edge))) where
  places_kept : length after ≡ length before
  places_kept = ap length put ∙ length-set before (p (length before) key) (Some (entry key edge))

  -- what is read after the write
  read_after : (k : Key) →
      given_at p after k ≡ edge_for k (slice_index_or (slice_set before (p (length before) key) (Some (entry key edge))) (p (length before) k) None)
  read_after k =
      ap (λ (n : ℕ). edge_for k (slice_index_or after (p n k) None)) places_kept
      ∙ ap (λ (l : List (Option Entry)). edge_for k (slice_index_or l (p (length before) k) None)) put

  own_kept : 0 < length before → given_at p after key ≡ Some edge
  own_kept some = read_after key ∙ write_own before (p (length before) key) key edge (within (length before) key some)

  own_either : (given_at p after key ≡ Some edge) ⊎ (given_at p after key ≡ None)
  own_either =
      ⊎_elim
      (λ (some : 0 < length before). inl (own_kept some))
      (λ (no : length before ≤ 0).
      inr (ap (edge_for key) (get_or_past after (p (length after) key) None (omega (arith, places_kept, no)))))
      (cases_lt 0 (length before))

  others_either : (k : Key) → (k ≢ key) → (given_at p after k ≡ given_at p before k) ⊎ (given_at p after k ≡ None)
  others_either k apart =
      ⊎_elim
      (λ old. inl (read_after k ∙ old))
      (λ none. inr (read_after k ∙ none))
      (write_other before (p (length before) key) (p (length before) k) key edge k apart)

  -- an entry that is put at its key's place is noted
  pub put_noted : Noted true before after (given_at p before) (given_at p after) key edge
  put_noted = record {
    own = own_either;
    kept = λ _ some. own_kept some;
    others = others_either;
    adds = λ k e s. write_adds before (p (length before) key) key edge k e (subst (λ (l : List (Option Entry)). Stands l k e) put s);
    long = places_kept;
  }
