use Rattle.std.proofs.Common.{◌≡◌, ℕ, zero, suc, Bool, true, cond, ◌&&◌, leb, ◌≢◌, codes, refl, ap}
use Rattle.std.proofs.Output.{has_written_of_eq}
use Rattle.diagram.specs.Words.{letters_of, spells, word}
use Rattle.diagram.specs.Printed.{digits_text, letters_text, word_text}
use Rattle.diagram.proofs.printing.WordDisplay.fmt.Goals as goal

-- a word with letters is written by their digits
by_digits : (n x : ℕ) → n ≢ 0 → true ≡ (leb n 20 && spells n x) → digits_text (letters_of n x) ≡ word_text (word n x)
by_digits zero x h e = absurd (h refl)
by_digits (suc n) x h e = ap (λ (b : Bool). cond b (letters_text (letters_of (suc n) x)) (codes "?")) e

pub returns-clause-writes : goal.returns-clause-writes
returns-clause-writes g c plain ok =
    let e = by_digits c.args.self.now.length c.args.self.now.digits c.if-self-eq0.false c.if-not-is_spelled.ensures in
    has_written_of_eq g.W.Write.write_str_gives _ _ _ _ e (c.write_digits.ensures plain ok)
