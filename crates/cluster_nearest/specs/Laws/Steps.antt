-- No key left to be written, by what is left.
use Rattle.std.specs.Prelude.{ℕ, ◌≡◌, List, []}
use Rattle.std.proofs.Common.{ap}
use mathlib.Core.List.{map}
use Rattle.std.proofs.lemmas.List.Edits.{sets}
use Rattle.documents.specs.Documents.{Term}
use Rattle.documents.specs.TermKeys.{term_key}

pub write-end : (ks : List ℕ) (i : ℕ) (ts : List Term) → ts ≡ [] → sets ks i (map term_key ts) ≡ ks
write-end ks i ts e = ap (λ l. sets ks i (map term_key l)) e
