-- The walk of what is left, where the components and values of the query are counted by places, for whoever counts places.
use mathlib.Core.Path.{◌≡◌, refl, sym, ap, ◌∙◌}
use mathlib.Core.List.{List}
use mathlib.Core.Logic.{inl, inr, ⊎_elim}
use Prim.Native.Nat.{ℕ, ◌+◌, ◌≤◌, ◌<◌, min}
use native.Mathlib.Omega.{arith}
use native.Mathlib.Numerals.{add-one}
use lib.ListN.{length, get_or, drop, drop_of_length-le}
use lib.Seq.{drop-cons}
use lib.Ieee.{Float, nan}
use Rattle.sequences.specs.Laws.Lists.{le-or-lt}
use Rattle.documents.specs.Documents.{paired}
use Rattle.documents.specs.Laws.Places.{paired-drop}
use Rattle.sparse_scores.specs.Layout.{Layout, arrays, entries_at, place_of}
use Rattle.sparse_scores.specs.Walk.{grown_by}
use Rattle.sparse_scores.specs.Laws.Walk.{walked}
use Rattle.sparse_scores.proofs.Walks as walks

-- a place found from where a smaller component stands
pub placed : (last c at r : ℕ) (cs : List ℕ) → at ≡ place_of last cs → last ≤ c → r ≡ at + place_of c (drop at cs) → r ≡ place_of c cs
placed last c at r cs e h k = k ∙ ap (λ n. n + place_of c (drop n cs)) e ∙ walks.place-from last c cs h

module _ (qs : List ℕ) (ws : List Float) where
  pub query-turn : (n : ℕ) (cs os is ks : List ℕ) (ms ss : List Float) (i terms place : ℕ) (scores next : List Float) → terms ≡ min (length qs) (length ws) → i < terms → place ≡ place_of (get_or qs i 0) cs
      → next ≡ grown_by n ms ss (get_or ws i nan) (entries_at (arrays cs os is ks ms ss) place (get_or qs i 0)) scores
      → walked n (arrays cs os is ks ms ss) (drop (i + 1) (paired qs ws)) next ≡ walked n (arrays cs os is ks ms ss) (drop i (paired qs ws)) scores
  query-turn n cs os is ks ms ss i terms place scores next t h p e =
      let l = arrays cs os is ks ms ss in
      ap (λ r. walked n l r next) (sym (paired-drop (i + 1) qs ws))
      ∙ walks.query-turn n l cs (get_or qs i 0) (get_or ws i nan) (drop i qs) (drop (i + 1) qs) (drop i ws) (drop (i + 1) ws) place scores next (rw (add-one i) (drop-cons qs i 0 (omega arith)))
      (rw (add-one i) (drop-cons ws i nan (omega arith))) refl p e
      ∙ ap (λ r. walked n l r scores) (paired-drop i qs ws)

  pub query-end : (n : ℕ) (l : Layout) (i terms : ℕ) (scores : List Float) → terms ≡ min (length qs) (length ws) → terms ≤ i → walked n l (drop i (paired qs ws)) scores ≡ scores
  query-end n l i terms scores t h =
      ap (λ r. walked n l r scores) (sym (paired-drop i qs ws))
      ∙ ⊎_elim
      (λ k. walks.query-end n l (drop i qs) (drop i ws) scores (inl (drop_of_length-le qs k)))
      (λ k. let z : length ws ≤ i = omega arith in walks.query-end n l (drop i qs) (drop i ws) scores (inr (drop_of_length-le ws z)))
      (le-or-lt (length qs) i)
