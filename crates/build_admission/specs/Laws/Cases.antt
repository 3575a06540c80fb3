-- Inputs that are admitted or refused, worked out: each refusal, and each before those after it.
use Rattle.std.specs.Prelude.{ℕ, ◌≡◌, refl, false, List, [], ◌∷◌, pos, Float}
use Rattle.std.specs.Float.{fin, nan, inf, binary32}
use Rattle.std.specs.Float.Ieee.{of_bits, of_int, mul, to_unsigned}
use Rattle.refusal.specs.Refusals.{verdict_number}
use Rattle.refusal.specs.First.{first_of}
use Rattle.configuration.specs.declared.BlockingStrategy.{BlockingStrategy}
use Rattle.configuration.specs.declared.BlockingStrategy.TheVariants.{FixedSize, RandomKmeans}
use Rattle.configuration.specs.declared.ClusteringAlgorithm.TheVariants as algorithm
use Rattle.float32.specs.Bound.{in_bound}
use Rattle.float32.specs.Count.{scaled_length}
use Rattle.packing.specs.Packing.{start_limit, length_limit}
use Rattle.blocking.specs.Limits.{list_limit, block_limit, centroid_limit, dimension_limit}
use Rattle.documents.specs.Documents.{Documents, documents, paired, terms}
use Rattle.documents.specs.Checks.{offsets_hold_free, offsets_hold, ids_hold, terms_hold, terms_hold_below, documents_hold}
use Rattle.build_admission.specs.Admission.{input_tests}

abbrev one : Float
one = fin false 1 (pos 0)

-- three documents: terms of components 1 and 5, of component 2, and none
abbrev three : Documents
three = documents (0 ∷ 2 ∷ 3 ∷ 3 ∷ []) (1 ∷ 5 ∷ 2 ∷ []) (one ∷ one ∷ one ∷ [])

-- the last of them is not in order and out of bound
abbrev spoilt : Documents
spoilt = documents (0 ∷ 2 ∷ 3 ∷ 5 ∷ []) (1 ∷ 5 ∷ 2 ∷ 4 ∷ 3 ∷ []) (one ∷ one ∷ one ∷ nan ∷ one ∷ [])

-- all of the list, or half of it, as centroids
abbrev all : BlockingStrategy
all = RandomKmeans one 0 algorithm.RandomKmeans

abbrev half : BlockingStrategy
half = RandomKmeans (of_bits binary32 0x3f000000) 0 (algorithm.RandomKmeansInvertedIndexApprox 3)

abbrev answer : ℕ → BlockingStrategy → Documents → List ℕ → List ℕ → ℕ
answer n k d ids cs = verdict_number (first_of (input_tests n k d ids cs))

pub record Worked : Type 0 where
  pub fixed : answer 6 (FixedSize 2) three (0 ∷ 1 ∷ 2 ∷ 0 ∷ []) [] ≡ 0
  pub clustered : answer 6 half three (0 ∷ 1 ∷ 2 ∷ 0 ∷ []) (2 ∷ 1 ∷ []) ≡ 0
  -- 8 comes first
  pub no_dimension : answer 0 (FixedSize 0) (documents [] [] []) (7 ∷ []) [] ≡ 8
  pub greatest_dimension : answer 1048575 (FixedSize 2) three (0 ∷ []) [] ≡ 0
  pub too_great_dimension : answer 1048576 (FixedSize 2) three (0 ∷ []) [] ≡ 8
  -- 6: no offsets; a first one that is not 0; falling ones; a last one that is not the number of terms; unequal slices; an id that names
  -- none
  pub no_offsets : answer 6 (FixedSize 2) (documents [] [] []) [] [] ≡ 6
  pub first_not_zero : answer 6 (FixedSize 2) (documents (1 ∷ 1 ∷ []) (0 ∷ []) (one ∷ [])) [] [] ≡ 6
  pub falling : answer 6 (FixedSize 2) (documents (0 ∷ 2 ∷ 1 ∷ []) (0 ∷ []) (one ∷ [])) [] [] ≡ 6
  pub short_of_terms : answer 6 (FixedSize 2) (documents (0 ∷ 1 ∷ []) (0 ∷ 1 ∷ []) (one ∷ one ∷ [])) [] [] ≡ 6
  pub unequal : answer 6 (FixedSize 2) (documents (0 ∷ 1 ∷ []) (0 ∷ []) (one ∷ one ∷ [])) [] [] ≡ 6
  pub no_such_id : answer 5 (FixedSize 0) three (0 ∷ 3 ∷ []) [] ≡ 6
  pub no_such_centroid : answer 6 all three (0 ∷ []) (3 ∷ []) ≡ 6
  -- fixed blocking looks at no centroid
  pub centroids_aside : answer 6 (FixedSize 2) three (0 ∷ []) (3 ∷ 9 ∷ []) ≡ 0
  -- 14: a component that reaches the dimension; a document, or a centroid, that is not as it should be; not one that is not listed
  pub reaches_dimension : answer 5 (FixedSize 0) three (0 ∷ []) [] ≡ 14
  pub below_dimension : answer 5 (FixedSize 2) three (1 ∷ []) [] ≡ 0
  pub wrong_document : answer 6 (FixedSize 2) spoilt (0 ∷ 2 ∷ []) [] ≡ 14
  pub wrong_centroid : answer 6 all spoilt (0 ∷ []) (2 ∷ []) ≡ 14
  pub not_listed : answer 6 all spoilt (0 ∷ []) (1 ∷ []) ≡ 0
  -- 3, 8 (blocks) is beyond a worked case; 5: too few, too many, more than any list may have
  pub no_size : answer 6 (FixedSize 0) three (0 ∷ []) [] ≡ 3
  pub too_few : answer 6 all three (0 ∷ 1 ∷ []) (0 ∷ []) ≡ 5
  pub too_many : answer 6 half three (0 ∷ 1 ∷ []) (0 ∷ 1 ∷ []) ≡ 5
  pub endless : answer 6 (RandomKmeans (inf false) 0 algorithm.RandomKmeans) three (0 ∷ []) (0 ∷ []) ≡ 5
  pub at_least_one : answer 6 (RandomKmeans nan 0 algorithm.RandomKmeans) three (0 ∷ 1 ∷ []) (0 ∷ []) ≡ 0
  pub no_more_than_listed : answer 6 (RandomKmeans (of_bits binary32 0x40000000) 0 algorithm.RandomKmeans) three (0 ∷ 1 ∷ []) (0 ∷ 0 ∷ []) ≡ 0
  -- an empty list: 5 is not looked at, 6 and 14 look at the centroids
  pub none_to_cluster : answer 6 all three [] (0 ∷ 1 ∷ []) ≡ 0
  pub none_but_centroid : answer 6 all three [] (3 ∷ []) ≡ 6
  pub none_but_terms : answer 6 all spoilt [] (2 ∷ []) ≡ 14

pub worked : Worked
unfolding input_tests offsets_hold_free offsets_hold ids_hold terms_hold terms_hold_below documents_hold terms paired in_bound start_limit length_limit list_limit block_limit centroid_limit dimension_limit
    scaled_length of_bits of_int mul to_unsigned
worked =
    record {
      fixed = refl;
      clustered = refl;
      no_dimension = refl;
      greatest_dimension = refl;
      too_great_dimension = refl;
      no_offsets = refl;
      first_not_zero = refl;
      falling = refl;
      short_of_terms = refl;
      unequal = refl;
      no_such_id = refl;
      no_such_centroid = refl;
      centroids_aside = refl;
      reaches_dimension = refl;
      below_dimension = refl;
      wrong_document = refl;
      wrong_centroid = refl;
      not_listed = refl;
      no_size = refl;
      too_few = refl;
      too_many = refl;
      endless = refl;
      at_least_one = refl;
      no_more_than_listed = refl;
      none_to_cluster = refl;
      none_but_centroid = refl;
      none_but_terms = refl;
    }
