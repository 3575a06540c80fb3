-- Where no group dissolves each document stays with its centroid.
use Rattle.std.specs.Prelude.{ℕ, zero, suc, ◌≡◌, refl, true, false, not, cond}
use Rattle.std.proofs.Common.{sym, ap}
use mathlib.Core.List.{List, [], ◌∷◌, zip_with}
use Rattle.std.proofs.lemmas.Bool.{not-true}
use Rattle.sequences.specs.Lists.{every, first_or}
use Rattle.sequences.specs.Laws.Lists.{both}
use Rattle.documents.specs.Documents.{Documents}
use Rattle.cluster_index.specs.Index.{indexed}
use Rattle.cluster_meaning.specs.Clusters.{small}
use Rattle.sort.specs.Ranked.{rank_in}
use Rattle.cluster_passes.specs.Ranked.{is_small}
use Rattle.cluster_passes.specs.Passes.{over}
use Rattle.cluster_passes.specs.Indexes.{index_documents}
use Rattle.cluster_approximate_pass.specs.Taking.{nearly_choice}
use Rattle.cluster_approximate.specs.Approximate.{remaining, both_ranks}

none-small : (minimum : ℕ) (counts : List ℕ) (r : ℕ) → every (λ n. not (small minimum n)) counts ≡ true → is_small counts minimum r ≡ false
none-small minimum [] r h = refl
none-small minimum (n ∷ counts) zero h = not-true (small minimum n) (both (not (small minimum n)) (every (λ n. not (small minimum n)) counts) h).0
none-small minimum (n ∷ counts) (suc r) h = none-small minimum counts r (both (not (small minimum n)) (every (λ n. not (small minimum n)) counts) h).1

-- a pass that changes no number
over-same : (f : ℕ → ℕ → ℕ) (ids ts : List ℕ) → ((i r : ℕ) → f i r ≡ r) → over f ids ts ≡ ts
unfolding zip_with
over-same f [] ts h = refl
over-same f (i ∷ ids) [] h = refl
over-same f (i ∷ ids) (t ∷ ts) h = λ j. h i t j ∷ over-same f ids ts h j

pub all_stay : (d : Documents) (cut minimum : ℕ) (C K : List ℕ) (s a b n q : ℕ) (ids counts t : List ℕ) → every (λ n. not (small minimum n)) counts ≡ true
    → t ≡ over (both_ranks d cut minimum C K counts s a b n q) ids t
all_stay d cut minimum C K s a b n q ids counts t h =
    let G = remaining K counts minimum C in
    sym (over-same (both_ranks d cut minimum C K counts s a b n q) ids t
    (λ i r. ap (λ x. cond x (rank_in K (nearly_choice cut (first_or 0 C) G (index_documents (indexed d G s a b)) n q d i)) r) (none-small minimum counts r h)))
