-- The block maximum. Document 01, "Block maximum and summaries".
use Rattle.std.specs.Prelude.{ℕ, cond, ltb, Float}
use mathlib.Core.List.{List, [], ◌∷◌, map, foldl}
use Rattle.std.specs.Float.{nan}
use Rattle.std.specs.Float.Ieee.{lt}
use Rattle.sequences.specs.Lists.{those, joined, keys}
use Rattle.documents.specs.Documents.{Term, term, Documents, terms, values_at}

-- the terms of a block's documents, as they come
abbrev pub block_terms : Documents → List ℕ → List Term
block_terms d block = joined (map (terms d) block)

-- the terms whose components are below a limit
unfoldable pub below : ℕ → List Term → List Term
below limit ts = those (λ t. ltb t.component limit) ts

-- the first value, replaced when a later one is `>`
abbrev pub maximum : List Float → Float
maximum [] = nan
maximum (v ∷ vs) = foldl (λ m x. cond (lt m x) x m) v vs

-- each component present, once, with its maximum
unfoldable pub maxima : List Term → List Term
maxima ts = map (λ c. term c (maximum (values_at c ts))) (keys (λ t. t.component) ts)

abbrev pub block_maximum : Documents → List ℕ → List Term
block_maximum d block = maxima (block_terms d block)
