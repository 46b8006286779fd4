-- What is printed of edges and refusals, as the bytes of the text.
use Rattle.std.specs.Prelude.{ℕ, ◌+◌, Bool, cond, ◌&&◌, List, [], ◌∷◌, ◌++◌, codes, decimal, nat_le}
use Rattle.diagram.specs.declared.letters.Letter.{Letter}
use Rattle.diagram.specs.declared.edges.Edge.{Edge}
use Rattle.diagram.specs.declared.edges.Word.{Word}
use Rattle.diagram.specs.declared.edges.Target.{Target}
use Rattle.diagram.specs.declared.edges.Target.TheVariants.{Zero, One, Diamond}
use Rattle.diagram.specs.declared.refusals.Refusal.{Refusal}
use Rattle.diagram.specs.Letters.{letter_code}
use Rattle.diagram.specs.Refusals.{refusal_number}
use Rattle.diagram.specs.Words.{letters_of, spells}

-- `-` for the mark 1, `+` for the mark 0
abbrev pub mark_text : Bool → List ℕ
mark_text negated = cond negated (codes "-") (codes "+")

-- the digit of each letter; 48 is the byte of the digit 0
abbrev pub digits_text : List Letter → List ℕ
digits_text [] = []
digits_text (c ∷ w) = (48 + letter_code c) ∷ digits_text w

-- the digits of a word, or a point if it has no letters
abbrev pub letters_text : List Letter → List ℕ
letters_text [] = codes "."
letters_text (c ∷ w) = digits_text (c ∷ w)

-- the letters of a word; `?` where its length is over 20 or it is no numeral of so many letters
abbrev pub word_text : Word → List ℕ
word_text w = cond (nat_le w.length 20 && spells w.length w.digits) (letters_text (letters_of w.length w.digits)) (codes "?")

-- `0` and `1` for the terminals, `d` and its number for a diamond
abbrev pub target_text : Target → List ℕ
target_text Zero = codes "0"
target_text One = codes "1"
target_text (Diamond k) = codes "d" ++ decimal k

-- mark, word and target, with a space between each
abbrev pub edge_text : Edge → List ℕ
edge_text e =
    mark_text e.negated ++ (codes " " ++ (word_text e.word ++ (codes " " ++ target_text e.target)))

-- a refusal goes by its number
abbrev pub refusal_text : Refusal → List ℕ
refusal_text r = codes "refusal " ++ decimal (refusal_number r)
