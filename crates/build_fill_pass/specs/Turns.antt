-- What the loop over the blocks does at a block, by the keys of its terms.
use Rattle.std.specs.Prelude.{ℕ, ◌%◌, min, List, map, length}
use Rattle.documents.specs.TermKeys.{value_of_term}
use Rattle.quantizing.specs.Quantizing.{least, step_for}
use Rattle.sparse_layout.specs.Keys.{key_entry, Lent, placed_within}

-- a block's entries, by the keys of its terms
abbrev pub key_entries : ℕ → List ℕ → Lent → Lent
key_entries b ks l = placed_within (min (length l.summary_ids) (length l.codes)) l (map (key_entry (b % 65536) (least (map value_of_term ks)) (step_for (map value_of_term ks))) ks)
