-- A document's terms by their keys, the largest first.
use Rattle.std.specs.Prelude.{ℕ, ◌≡◌, List, map, length, take, drop}
use Rattle.sort.specs.Sorted.{sorted}
use Rattle.documents.specs.Documents.{Term, falling, largest}
use Rattle.documents.specs.TermKeys.{term_key}

-- of a slice that held `keys` and now holds `left`: at its front stand the keys of the terms that find a place. Those of the `cut` largest
-- come first, the largest of all at the start, and the others after them in some order. What stands past the terms is as it was.
pub record KeysLeft (cut : ℕ) (ts : List Term) (keys left : List ℕ) : Type 0 where
  pub front : take cut (take (length ts) left) ≡ map term_key (largest cut (take (length keys) ts))
  pub every : sorted (take (length ts) left) ≡ map term_key (falling (take (length keys) ts))
  pub past : drop (length ts) left ≡ drop (length ts) keys
