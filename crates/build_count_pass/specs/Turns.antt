-- What the loop over the blocks does, block by block: up to the first block whose summary is empty.
use Rattle.std.specs.Prelude.{ℕ, ◌+◌, ◌-◌, ◌≡◌, Bool, not, cond, length, set, eqb, Float}
use mathlib.Core.List.{List, [], ◌∷◌, map, foldl}
use Rattle.std.proofs.lemmas.List.Edits.{sets}
use Rattle.documents.specs.Documents.{Term}
use Rattle.documents.specs.TermKeys.{term_key, value_of_term}
use Rattle.documents.specs.TermKeys as key
use Rattle.quantizing.specs.Quantizing.{least, step_for}
use Rattle.sparse_layout.specs.Layouts.{values, entries_of}
use Rattle.sparse_layout.specs.Placing.{component_of}
use Rattle.sparse_layout.specs.Keys.{counted}
use Rattle.build_kept_keys.specs.Frames.{frame, place_after, frames, keys_of}
use Rattle.build_count_pass.specs.Counting.{full_first}

pub record Noted : Type 0 where
  pub entry_counts : List ℕ
  pub minimums : List Float
  pub steps : List Float

abbrev pub noted : List ℕ → List Float → List Float → Noted
noted c l s = record { entry_counts = c; minimums = l; steps = s }

-- a block's kept terms counted, and its minimum and its step at the block's number
abbrev pub notes : ℕ → Noted → List Term → Noted
notes b n ts = noted (foldl counted n.entry_counts (map component_of (entries_of b ts))) (set n.minimums b (least (values ts))) (set n.steps b (step_for (values ts)))

-- the same by the terms' keys
abbrev pub notes_keys : ℕ → Noted → List ℕ → Noted
notes_keys b n ks = noted (foldl counted n.entry_counts (map key.component_of ks)) (set n.minimums b (least (map value_of_term ks))) (set n.steps b (step_for (map value_of_term ks)))

-- what a block's turn answers and leaves, by the terms that its summary keeps: where it keeps none, nothing is noted
abbrev pub Turn : ℕ → List Term → Noted → Bool → Noted → Type 0
Turn b top n r n' = (r ≡ not (eqb (length top) 0)) × (n' ≡ cond (eqb (length top) 0) n (notes b n top))

unfoldable pub noted_from : ℕ → List (List Term) → Noted → Noted
noted_from b [] n = n
noted_from b (top ∷ tops) n = cond (eqb (length top) 0) n (noted_from (b + 1) tops (notes b n top))

-- what a block's turn leaves in the store, and the place after its keys: where its summary keeps no term, nothing is stored
pub record Stores (top : List Term) (at : ℕ) (store : List ℕ) (next : ℕ) (store' : List ℕ) : Type 0 where
  pub place : next ≡ cond (eqb (length top) 0) at (place_after at (length (map term_key top)) (length store))
  pub left : store' ≡ cond (eqb (length top) 0) store (sets store at (frame (length store - at) (map term_key top)))

-- the keys of one block after another, from a place on
abbrev pub stored_from : ℕ → List (List Term) → List ℕ → List ℕ
stored_from at tops store = sets store at (frames (length store - at) (keys_of (full_first tops)))
