-- What the passes over the documents leave.
use Rattle.std.specs.Prelude.{ℕ, length, drop}
use mathlib.Core.List.{List, ◌++◌, zip_with}

-- ---- each number gives way to what a step makes of a document and of it
abbrev pub over : (ℕ → ℕ → ℕ) → List ℕ → List ℕ → List ℕ
over f ids ts = zip_with f ids ts ++ drop (length ids) ts
