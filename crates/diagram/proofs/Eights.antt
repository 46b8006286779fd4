-- Octal digits: powers of 8, and one letter more or less on a word.
use Rattle.std.proofs.Common.{◌≡◌, ℕ, zero, suc, ◌+◌, ◌-◌, ◌*◌, ◌/◌, ◌%◌, ◌^◌, ◌<◌, ◌≤◌, Bool, true, false, cond, ◌&&◌, ltb, leb, ◌∷◌, Some, None, refl, ap, ◌∙◌, arith}
use native.Mathlib.Nat.{pow-le-pow_right}
use Rattle.std.proofs.lemmas.Nat.{div-mul-add, mod-mul-add}
use Rattle.std.proofs.lemmas.Bool.{lt-ltb, le-leb, ltb-true}
use Rattle.diagram.specs.declared.letters.Letter.{Letter}
use Rattle.diagram.specs.declared.edges.Word.{Word}
use Rattle.diagram.specs.Letters.{letter_code, letter_of}
use Rattle.diagram.specs.Words.{letters_of, spells, word, peeled}
use Rattle.diagram.proofs.Laws.{letter_of_code}
use Rattle.diagram.proofs.Spelling.{code_most}

pub eight_le : (n : ℕ) → n ≤ 20 → 8 ^ n ≤ 2 ^ 60
eight_le n h = let z : 0 < 8 = omega arith in pow-le-pow_right {n = 8} z {i = n} {j = 20} h

pub eight_pos : (n : ℕ) → 1 ≤ 8 ^ n
eight_pos n = let z : 0 < 8 = omega arith in let h : 0 ≤ n = omega arith in pow-le-pow_right {n = 8} z {i = 0} {j = n} h

-- one letter in front
pub letters_step : (n x : ℕ) → 0 < n → letters_of n x ≡ letter_of (x / 8 ^ (n - 1)) ∷ letters_of (n - 1) (x % 8 ^ (n - 1))
letters_step zero x h = absurd (omega arith)
letters_step (suc n) x h = let p : suc n - 1 ≡ n = omega arith in rw p

pub spells_step : (n x : ℕ) → 0 < n → spells n x ≡ (leb (x / 8 ^ (n - 1)) 5 && spells (n - 1) (x % 8 ^ (n - 1)))
spells_step zero x h = absurd (omega arith)
spells_step (suc n) x h = let p : suc n - 1 ≡ n = omega arith in rw p

-- what is peeled off a word is its topmost letter, and the word of the other letters
pub peeled_parts : (w : Word) (c : Letter) (v : Word) → peeled w ≡ Some (c, v) →
    (w.length ≡ v.length + 1) × (letters_of w.length w.digits ≡ c ∷ letters_of v.length v.digits) × (spells w.length w.digits ≡ spells v.length v.digits)
peeled_parts w c v = go (ltb 0 n) refl (leb n 20) (leb (x / 8 ^ (n - 1)) 5) refl
  where
    n : ℕ
    n = w.length

    x : ℕ
    x = w.digits

    top : Letter × Word
    top = (letter_of (x / 8 ^ (n - 1)), word (n - 1) (x % 8 ^ (n - 1)))

    go : (a : Bool) → ltb 0 n ≡ a → (b d : Bool) → leb (x / 8 ^ (n - 1)) 5 ≡ d → cond (a && (b && d)) (Some top) None ≡ Some (c, v) →
        (n ≡ v.length + 1) × (letters_of n x ≡ c ∷ letters_of v.length v.digits) × (spells n x ≡ spells v.length v.digits)
    go true p true true q h =
        let l = ltb-true 0 n p in
        let i : top ≡ (c, v) = cc in
        let m = ap (λ (z : Letter × Word). z.1.length) i in
        let s : (leb (x / 8 ^ (n - 1)) 5 && spells (n - 1) (x % 8 ^ (n - 1))) ≡ spells (n - 1) (x % 8 ^ (n - 1)) = simp q in (
          omega arith,
          letters_step n x l ∙ ap (λ (z : Letter × Word). z.0 ∷ letters_of z.1.length z.1.digits) i,
          spells_step n x l ∙ s ∙ ap (λ (z : Letter × Word). spells z.1.length z.1.digits) i,
        )
    go true p true false q h = absurd cc
    go true p false d q h = absurd cc
    go false p b d q h = absurd cc

-- where nothing can be peeled, the word does not spell
pub peel_none : (n x : ℕ) → 0 < n → peeled (word n x) ≡ None → (leb n 20 && spells n x) ≡ false
peel_none n x h e =
    let a = lt-ltb 0 n h in
    rw (spells_step n x h) (go (leb n 20) (leb (x / 8 ^ (n - 1)) 5) (spells (n - 1) (x % 8 ^ (n - 1))) (letter_of (x / 8 ^ (n - 1)), word (n - 1) (x % 8 ^ (n - 1))) (simp a at e))
  where
    go : (b d r : Bool) (v : Letter × Word) → cond (b && d) (Some v) None ≡ None → (b && (d && r)) ≡ false
    go true true r v p = absurd cc
    go true false r v p = refl
    go false d r v p = refl

pub push_some : (n x : ℕ) (c : Letter) → x < 8 ^ n →
    (letters_of (n + 1) (letter_code c * 8 ^ n + x) ≡ c ∷ letters_of n x) × (spells (n + 1) (letter_code c * 8 ^ n + x) ≡ spells n x)
push_some n x c h =
    let p : n + 1 - 1 ≡ n = omega arith in
    let d = div-mul-add (letter_code c) (8 ^ n) x h in
    let m = mod-mul-add (letter_code c) (8 ^ n) x h in
    let s = letters_step (n + 1) (letter_code c * 8 ^ n + x) (omega arith) in
    let t = spells_step (n + 1) (letter_code c * 8 ^ n + x) (omega arith) in
    let l = letter_of_code c in
    let k = le-leb (letter_code c) 5 (code_most c) in
    (simp (p, d, m, l) at s, simp (p, d, m, k) at t)
