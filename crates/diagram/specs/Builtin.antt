-- The meanings of the five built-in dialects.
use Rattle.std.specs.Prelude.{true, false, Some, None}
use Rattle.diagram.specs.declared.letters.Letter.TheVariants.{X, C00, C01, C10, C11}
use Rattle.diagram.specs.declared.meanings.Letters.{Letters}
use Rattle.diagram.specs.declared.meanings.Answers.{Answers}
use Rattle.diagram.specs.declared.meanings.Meaning.{Meaning}

-- u alone
abbrev pub only_u : Letters
only_u = record { u = true; x = false; c00 = false; c01 = false; c10 = false; c11 = false }

-- none at every look
abbrev pub no_answers : Answers
no_answers =
    record { zero_one = None; one_zero = None; zero_other = None; one_other = None; other_zero = None; other_one = None; opposite = None; plain = None }

-- u, not negating
abbrev pub dialect1 : Meaning
dialect1 = record { code = 1; negates = false; letters = only_u; answers = no_answers }

-- u, negating
abbrev pub dialect2 : Meaning
dialect2 = record { code = 2; negates = true; letters = only_u; answers = no_answers }

-- u and c10, not negating: c10 wherever the high half is 0
abbrev pub dialect3 : Meaning
dialect3 =
    record {
      code = 3;
      negates = false;
      letters = record { u = true; x = false; c00 = false; c01 = false; c10 = true; c11 = false };
      answers =
          record {
            zero_one = None;
            one_zero = Some C10;
            zero_other = None;
            one_other = None;
            other_zero = Some C10;
            other_one = None;
            opposite = None;
            plain = None;
          };
    }

-- u, c00 and c10, not negating: c00 wherever the low half is 0, c10 wherever the high half is
abbrev pub dialect4 : Meaning
dialect4 =
    record {
      code = 4;
      negates = false;
      letters = record { u = true; x = false; c00 = true; c01 = false; c10 = true; c11 = false };
      answers =
          record {
            zero_one = Some C00;
            one_zero = Some C10;
            zero_other = Some C00;
            one_other = None;
            other_zero = Some C10;
            other_one = None;
            opposite = None;
            plain = None;
          };
    }

-- all six letters, negating: x for (zero, one), (one, zero) and opposite others, elsewhere the only letter that fits
abbrev pub dialect5 : Meaning
dialect5 =
    record {
      code = 5;
      negates = true;
      letters = record { u = true; x = true; c00 = true; c01 = true; c10 = true; c11 = true };
      answers =
          record {
            zero_one = Some X;
            one_zero = Some X;
            zero_other = Some C00;
            one_other = Some C01;
            other_zero = Some C10;
            other_one = Some C11;
            opposite = Some X;
            plain = None;
          };
    }
