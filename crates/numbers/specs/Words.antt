-- Refusals as words.
use Rattle.std.specs.Prelude.{ℕ, List, [], ◌∷◌, get_or, min}
use Rattle.dimacs.specs.declared.Refusal.{Refusal}

-- The number, place, line and column of a refusal.
abbrev pub refusal_words : Refusal → List ℕ
refusal_words r = r.number ∷ r.place ∷ r.line ∷ r.column ∷ []

-- The refusal that four words tell, its number brought down to a byte.
abbrev pub refusal_of : List ℕ → Refusal
refusal_of w = record { number = min (get_or w 0 0) 255; place = get_or w 1 0; line = get_or w 2 0; column = get_or w 3 0 }
