use Rattle.std.proofs.Common.{◌≡◌, ℕ, zero, suc, ◌+◌, ◌≤◌, true, [], ◌∷◌, is_ok, None, decimal, sym, refl, ap, ◌∙◌, arith}
use Rattle.std.proofs.Output.{has_written_of_eq, has_written_append, writes_in_calls_nil}
use Rattle.std.proofs.lemmas.Fmt.{decimal_digit}
use Rattle.std.proofs.lemmas.Bool.{le-leb}
use Rattle.diagram.specs.declared.letters.Letter.{Letter}
use Rattle.diagram.specs.Letters.{letter_code}
use Rattle.diagram.specs.Words.{letters_of, spells, word, peeled}
use Rattle.diagram.specs.Printed.{digits_text}
use Rattle.diagram.proofs.Eights.{peel_none}
use Rattle.diagram.proofs.Spelling.{code_most}
use Rattle.diagram.proofs.printing.+write_digits.Goals as goal

-- a word of letters that nothing can be peeled off has none
no_letters : (n x : ℕ) → n ≤ 20 → spells n x ≡ true → peeled (word n x) ≡ None → letters_of n x ≡ []
no_letters zero x l s e = refl
no_letters (suc n) x l s e =
    let b = le-leb (suc n) 20 l in
    let z : ◌≡◌ {A = ℕ} 0 1 = cc (peel_none (suc n) x (omega arith) e) in
    absurd (omega arith)

-- a letter's code is one digit
one_digit : (c : Letter) → decimal (letter_code c) ≡ (48 + letter_code c) ∷ []
one_digit c = let h = code_most c in decimal_digit (letter_code c) (omega arith)

pub returns-in_ok-write-in-Some : goal.returns-in_ok-write-in-Some
returns-in_ok-write-in-Some g t c plain ok =
    let took = g.W.Write.write_str_gives in
    let digit = ap decimal c.from.ensures ∙ one_digit c.in-Some.letter in
    let first = has_written_of_eq took _ _ _ _ digit (c.write.ensures.writes plain (ap is_ok c.in_ok-write-in-Some.was)) in
    let rest = c.write_digits.ensures first.plain ok in
    has_written_of_eq took _ _ _ _ (ap digits_text (sym c.in-Some.ensures.letters)) (has_written_append took _ _ _ _ _ first rest)

pub returns-in-None : goal.returns-in-None
returns-in-None g t c plain ok =
    let e = no_letters c.args.word.length c.args.word.digits c.requires.short c.requires.letters (sym c.in-None.ensures.value) in
    has_written_of_eq g.W.Write.write_str_gives _ _ _ _ (ap digits_text (sym e)) record { wrote = writes_in_calls_nil g.W.Write.write_str_gives _; plain = plain }
