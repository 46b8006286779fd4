-- Dialects of the letter u alone.
use Rattle.std.specs.Prelude.{◌≡◌, ℕ, Bool, true, false, refl}
use Rattle.diagram.specs.declared.meanings.Meaning.{Meaning}
use Rattle.diagram.specs.Builtin.{only_u, no_answers}
use Rattle.diagram.specs.Dialects.{lawful}

-- u alone, with the code c, negating where n holds; no answer at any look
abbrev pub u_alone : ℕ → Bool → Meaning
u_alone c n = record { code = c; negates = n; letters = only_u; answers = no_answers }

-- it is lawful
pub u_alone_lawful : (c : ℕ) (n : Bool) → lawful (u_alone c n) ≡ true
u_alone_lawful c true = refl
u_alone_lawful c false = refl
