-- The order of kept entries: greater score first by IEEE 754's total order; equal scores: smaller packed number first.
use Rattle.std.specs.Prelude.{ℕ, Bool, ◌&&◌, ◌||◌, ltb, eqb, Float}
use Rattle.float32.specs.Order.{at_most}
use Rattle.float32.specs.Key.{key_of}
use Rattle.kept_list.specs.declared.Scored.{Scored}

abbrev pub scored : ℕ → Float → Scored
scored p x = record { packed = p; score = x }

-- the greater first number, or with equal ones the smaller second
abbrev pub precedes : ℕ → ℕ → ℕ → ℕ → Bool
precedes a p b q = ltb b a || (eqb a b && ltb p q)

-- a score's key is its place in the total order
unfoldable pub better : Scored → Scored → Bool
better e f = precedes (key_of e.score) e.packed (key_of f.score) f.packed

-- ---- in the document's words, for scores that an f32 holds
abbrev pub same_score : Float → Float → Bool
same_score x y = at_most x y && at_most y x
