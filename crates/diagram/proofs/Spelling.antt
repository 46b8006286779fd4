-- Words and their numerals, numbers and their bytes, there and back.
use Rattle.std.proofs.Common.{◌≡◌, ℕ, zero, suc, ◌+◌, ◌*◌, ◌/◌, ◌%◌, ◌^◌, ◌<◌, ◌≤◌, List, [], ◌∷◌, length, sym, refl, ap, ◌∙◌, subst, ap₂, arith}
use native.Mathlib.Nat.{pow-succ', mod-add-div'}
use lib.Arith.{digits_div, digits_mod, digits_lt}
use Rattle.diagram.specs.declared.letters.Letter.{Letter}
use Rattle.diagram.specs.declared.letters.Letter.TheVariants.{U, X, C00, C01, C10, C11}
use Rattle.diagram.specs.Letters.{letter_code, letter_of}
use Rattle.diagram.proofs.Laws.{letter_of_code}
use Rattle.diagram.specs.Words.{numeral, letters_of, Spells}
use Rattle.diagram.proofs.Notions.{WordsRead, WordsWritten}

pub code_most : (c : Letter) → letter_code c ≤ 5
code_most U = omega arith
code_most X = omega arith
code_most C00 = omega arith
code_most C01 = omega arith
code_most C10 = omega arith
code_most C11 = omega arith

pub numeral_less : (w : List Letter) → numeral w < 8 ^ length w
numeral_less [] = omega arith
numeral_less (c ∷ w) = rw (pow-succ' 8 (length w)) (digits_lt (let h = code_most c in omega arith) (numeral_less w))

pub code_of_letter : (d : ℕ) → d ≤ 5 → letter_code (letter_of d) ≡ d
code_of_letter zero h = refl
code_of_letter (suc zero) h = refl
code_of_letter (suc (suc zero)) h = refl
code_of_letter (suc (suc (suc zero))) h = refl
code_of_letter (suc (suc (suc (suc zero)))) h = refl
code_of_letter (suc (suc (suc (suc (suc d))))) h = omega arith

-- the topmost letter, and the rest
pub top : (c : Letter) (w : List Letter) → numeral (c ∷ w) / 8 ^ length w ≡ letter_code c
top c w = digits_div (letter_code c) (numeral_less w)

pub rest : (c : Letter) (w : List Letter) → numeral (c ∷ w) % 8 ^ length w ≡ numeral w
rest c w = digits_mod (letter_code c) (numeral_less w)

pub words_read : WordsRead
words_read [] = (refl, refl)
words_read (c ∷ w) =
    let x = words_read w in
    let p = top c w in
    let q = rest c w in
    let m = code_most c in (
      ap₂ ◌∷◌ (ap letter_of p ∙ letter_of_code c) (ap (letters_of (length w)) q ∙ x.0),
      (omega arith, subst (Spells (length w)) (sym q) x.1),
    )

pub words_written : WordsWritten
words_written zero x h = (sym h, refl)
words_written (suc n) x h =
    let y = words_written n (x % 8 ^ n) h.1 in (
      ap₂ (λ (d k : ℕ). d * 8 ^ k + numeral (letters_of n (x % 8 ^ n))) (code_of_letter (x / 8 ^ n) h.0) y.1
          ∙ ap (λ (r : ℕ). x / 8 ^ n * 8 ^ n + r) y.0
          ∙ div_add_mod' x (8 ^ n),
      ap suc y.1,
    )
  where
    div_add_mod' : (a b : ℕ) → a / b * b + a % b ≡ a
    div_add_mod' a b = let p = mod-add-div' a b in omega arith
