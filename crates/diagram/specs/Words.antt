-- Words: letters, the topmost first, and the octal numerals that edges carry for them.
use Rattle.std.specs.Prelude.{◌≡◌, ℕ, zero, suc, ◌+◌, ◌-◌, ◌*◌, ◌/◌, ◌%◌, ◌^◌, ◌≤◌, Bool, cond, ◌&&◌, List, [], ◌∷◌, length, Some, None, Option, ◌==◌, nat_le, nat_lt}
use Rattle.diagram.specs.declared.letters.Letter.{Letter}
use Rattle.diagram.specs.declared.edges.Word.{Word}
use Rattle.diagram.specs.Letters.{letter_code, letter_of}

-- the octal numeral of some letters
abbrev pub numeral : List Letter → ℕ
numeral [] = 0
numeral (c ∷ w) = letter_code c * 8 ^ length w + numeral w

-- the word of n letters with the numeral x
abbrev pub letters_of : ℕ → ℕ → List Letter
letters_of zero x = []
letters_of (suc n) x = letter_of (x / 8 ^ n) ∷ letters_of n (x % 8 ^ n)

-- x is a numeral of n octal digits, so that it is below 8^n, and each digit stands for a letter
abbrev pub Spells : ℕ → ℕ → Type 0
Spells zero x = x ≡ 0
Spells (suc n) x = (x / 8 ^ n ≤ 5) × Spells n (x % 8 ^ n)

-- the same, as a test
abbrev pub spells : ℕ → ℕ → Bool
spells zero x = x == 0
spells (suc n) x = nat_le (x / 8 ^ n) 5 && spells n (x % 8 ^ n)

-- the program's word of n digits with the numeral x
abbrev pub word : ℕ → ℕ → Word
word n x = record { length = n; digits = x }

-- the topmost letter of a word of 1 to 20 digits, and the word below it; none where there is no digit, or more than 20, or the topmost is no letter
abbrev pub peeled : Word → Option (Letter × Word)
peeled w =
    let n : ℕ = w.length - 1 in
    cond (nat_lt 0 w.length && (nat_le w.length 20 && nat_le (w.digits / 8 ^ n) 5)) (Some (letter_of (w.digits / 8 ^ n), word n (w.digits % 8 ^ n))) None

-- a letter on top of a word of n digits, of which there may be 19; none where the word is not below 8^n or the new one would be longer than 20
abbrev pub pushed : Word → Letter → Option Word
pushed w c =
    let n : ℕ = w.length in
    cond (nat_lt n 20 && nat_lt w.digits (8 ^ n)) (Some (word (n + 1) (letter_code c * 8 ^ n + w.digits))) None
