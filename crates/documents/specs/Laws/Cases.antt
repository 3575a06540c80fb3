-- Worked cases of the checks.
use Rattle.std.specs.Prelude.{◌≡◌, refl, true, false, [], ◌∷◌, pos, Float}
use Rattle.std.specs.Float.{fin, nan}
use Rattle.float32.specs.Bound.{in_bound}
use Rattle.documents.specs.Documents.{term, documents}
use Rattle.documents.specs.Checks.{offsets_hold_free, offsets_hold, ids_hold, terms_hold, terms_hold_below}

abbrev one : Float
one = fin false 1 (pos 0)

-- the last offset against the number of terms, slices of one length, ids below the number of documents
pub record OffsetCases : Type 0 where
  pub holds : offsets_hold (documents (0 ∷ 2 ∷ []) (3 ∷ 4 ∷ []) (one ∷ one ∷ [])) ≡ true
  pub past : offsets_hold (documents (0 ∷ 3 ∷ []) (3 ∷ 4 ∷ []) (one ∷ one ∷ [])) ≡ false
  pub short : offsets_hold (documents (0 ∷ 1 ∷ []) (3 ∷ 4 ∷ []) (one ∷ one ∷ [])) ≡ false
  pub uneven : offsets_hold (documents (0 ∷ 2 ∷ []) (3 ∷ 4 ∷ []) (one ∷ [])) ≡ false
  pub id_below : ids_hold 2 (1 ∷ 0 ∷ 1 ∷ []) ≡ true
  pub id_of_the_count : ids_hold 2 (1 ∷ 2 ∷ []) ≡ false

pub offset-cases : OffsetCases
unfolding offsets_hold offsets_hold_free ids_hold
offset-cases = record { holds = refl; past = refl; short = refl; uneven = refl; id_below = refl; id_of_the_count = refl }

-- rising components, the dimension, the bound on values
pub record TermCases : Type 0 where
  pub holds : terms_hold_below 5 (term 3 one ∷ term 4 (fin true 1 (pos 32)) ∷ []) ≡ true
  pub none : terms_hold_below 1 [] ≡ true
  pub equal : terms_hold (term 3 one ∷ term 3 one ∷ []) ≡ false
  pub falls : terms_hold (term 4 one ∷ term 3 one ∷ []) ≡ false
  pub reaches : terms_hold_below 4 (term 3 one ∷ term 4 one ∷ []) ≡ false
  pub too_large : terms_hold (term 3 (fin false 1 (pos 33)) ∷ []) ≡ false
  pub not_a_number : terms_hold (term 3 nan ∷ []) ≡ false

pub term-cases : TermCases
unfolding terms_hold terms_hold_below in_bound
term-cases = record { holds = refl; none = refl; equal = refl; falls = refl; reaches = refl; too_large = refl; not_a_number = refl }
