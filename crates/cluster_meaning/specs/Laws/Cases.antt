-- Worked cases of both modes, by computation: a listed centroid takes itself, ties, repeated ids, documents without terms, dissolved
-- groups, survivors that drew nothing, none that survive, an empty list.
use Rattle.std.specs.Prelude.{◌≡◌, refl}
use mathlib.Core.List.{[], ◌∷◌, map, zip_with}
use Rattle.std.specs.Float.{binary32}
use Rattle.std.specs.Float.Ieee.{of_bits, add, mul, lt, eq, is_nan}
use Rattle.float32.specs.Order.{at_most}
use Rattle.sequences.specs.Lists.{put_once, rising, insert_by, sorted_by}
use Rattle.documents.specs.Documents.{Documents, documents, paired, terms, dot, greater_first, falling, largest}
use Rattle.cluster_nearest.specs.Nearest.{greatest, nearest, nearest_or_itself, nearly}
use Rattle.cluster_meaning.specs.Clusters.{dissolved, reassign, exactly, approximately, clusters}

-- seven documents; an id from 7 on names none, and has no terms
abbrev seven : Documents
seven =
    documents (0 ∷ 2 ∷ 4 ∷ 5 ∷ 7 ∷ 9 ∷ 10 ∷ 11 ∷ []) (0 ∷ 3 ∷ 0 ∷ 1 ∷ 3 ∷ 1 ∷ 2 ∷ 0 ∷ 2 ∷ 0 ∷ 0 ∷ [])
    (map (of_bits binary32) (0x40000000 ∷ 0x3f800000 ∷ 0x3f800000 ∷ 0x40800000 ∷ 0x40a00000 ∷ 0x40800000 ∷ 0x40400000 ∷ 0x40000000 ∷ 0x3f000000 ∷ 0x80000000 ∷ 0x00000000 ∷ []))

pub record Worked : Type 0 where
  pub exact : clusters (exactly seven 0 (0 ∷ 3 ∷ []) (0 ∷ 1 ∷ 2 ∷ 3 ∷ 4 ∷ [])) ≡ (0 ∷ 2 ∷ 4 ∷ []) ∷ (1 ∷ 3 ∷ []) ∷ []
  pub dissolved_stays : clusters (exactly seven 1 (0 ∷ 3 ∷ 2 ∷ []) (4 ∷ 3 ∷ 2 ∷ 1 ∷ 0 ∷ [])) ≡ (0 ∷ 4 ∷ []) ∷ (2 ∷ []) ∷ (1 ∷ 3 ∷ []) ∷ []
  pub dissolved_leaves : clusters (exactly seven 1 (0 ∷ 6 ∷ []) (0 ∷ 6 ∷ [])) ≡ (0 ∷ 6 ∷ []) ∷ []
  pub repeated_and_empty : clusters (exactly seven 0 (0 ∷ 3 ∷ []) (9 ∷ 1 ∷ 1 ∷ [])) ≡ (9 ∷ []) ∷ (1 ∷ 1 ∷ []) ∷ []
  pub exact_none : clusters (exactly seven 0 (0 ∷ 3 ∷ []) []) ≡ []
  pub approximate : clusters (approximately seven 1 0 (0 ∷ 3 ∷ []) (0 ∷ 1 ∷ 2 ∷ 3 ∷ 4 ∷ [])) ≡ (0 ∷ 2 ∷ 4 ∷ []) ∷ (1 ∷ 3 ∷ []) ∷ []
  pub survivors_compete : clusters (approximately seven 2 1 (0 ∷ 3 ∷ 2 ∷ []) (4 ∷ 3 ∷ 2 ∷ 1 ∷ 0 ∷ [])) ≡ (0 ∷ 2 ∷ []) ∷ (1 ∷ 3 ∷ 4 ∷ []) ∷ []
  pub idle_survivor : clusters (approximately seven 2 1 (1 ∷ 4 ∷ 3 ∷ []) (0 ∷ 3 ∷ 3 ∷ [])) ≡ (0 ∷ []) ∷ (3 ∷ 3 ∷ []) ∷ []
  pub none_survives : clusters (approximately seven 0 9 (0 ∷ 3 ∷ 2 ∷ []) (4 ∷ 3 ∷ 2 ∷ 1 ∷ 0 ∷ [])) ≡ (0 ∷ 1 ∷ 2 ∷ 3 ∷ 4 ∷ []) ∷ []
  pub last_slot : clusters (approximately seven 0 0 (3 ∷ 0 ∷ []) (9 ∷ 1 ∷ [])) ≡ (1 ∷ 9 ∷ []) ∷ []

pub worked : Worked
unfolding exactly approximately reassign dissolved clusters nearest nearest_or_itself nearly greatest terms paired dot falling largest greater_first at_most put_once rising insert_by sorted_by zip_with of_bits
    add mul lt eq is_nan
worked = record {
  exact = refl;
  dissolved_stays = refl;
  dissolved_leaves = refl;
  repeated_and_empty = refl;
  exact_none = refl;
  approximate = refl;
  survivors_compete = refl;
  idle_survivor = refl;
  none_survives = refl;
  last_slot = refl;
}
