-- What refusals 6, 10 and 14 ask of documents, listed ids and terms. Document 01, "Numbers" and "Numbered refusals".
use Rattle.std.specs.Prelude.{ℕ, Bool, ◌&&◌, List, map, length, ltb, eqb, Float}
use Rattle.float32.specs.Bound.{in_bound}
use Rattle.sequences.specs.Lists.{every, first_or, last_or, never_falls, strictly_rise}
use Rattle.documents.specs.Documents.{Term, paired, Documents, terms}

-- the first offset is 0 and none falls; no offsets at all are a fault
unfoldable pub offsets_hold_free : List ℕ → Bool
offsets_hold_free os = eqb (first_or 1 os) 0 && never_falls os

-- besides, the last is the number of terms, each of which has a component and a value
unfoldable pub offsets_hold : Documents → Bool
offsets_hold d = offsets_hold_free d.offsets && (eqb (last_or 0 d.offsets) (length d.components) && eqb (length d.components) (length d.values))

-- each id names one of n documents
unfoldable pub ids_hold : ℕ → List ℕ → Bool
ids_hold n ids = every (λ i. ltb i n) ids

-- components strictly rise, and each value is in bound
unfoldable pub terms_hold : List Term → Bool
terms_hold ts = strictly_rise (map (λ t. t.component) ts) && every (λ t. in_bound t.value) ts

-- besides, no component reaches the dimension
unfoldable pub terms_hold_below : ℕ → List Term → Bool
terms_hold_below dimension ts = terms_hold ts && every (λ t. ltb t.component dimension) ts

-- two slices that stand for terms: equally long, and their terms hold
unfoldable pub slices_hold : List ℕ → List Float → Bool
slices_hold cs vs = eqb (length cs) (length vs) && terms_hold (paired cs vs)

unfoldable pub slices_hold_below : ℕ → List ℕ → List Float → Bool
slices_hold_below dimension cs vs = eqb (length cs) (length vs) && terms_hold_below dimension (paired cs vs)

-- the terms of each listed document hold
unfoldable pub documents_hold : ℕ → Documents → List ℕ → Bool
documents_hold dimension d ids = every (λ i. terms_hold_below dimension (terms d i)) ids
