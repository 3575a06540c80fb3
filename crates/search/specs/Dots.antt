-- The score of a posting as a dot product, and what stops a search at one.
use Rattle.std.specs.Prelude.{ℕ, ◌+◌, ◌≤◌, ◌<◌, ◌≡◌, true, false, List, length, Float}
use Rattle.sequences.specs.Lists.{part}
use Rattle.packing.specs.Packing.{start_of, length_of}
use Rattle.documents.specs.Documents.{Term, paired, dot}
use Rattle.documents.specs.Checks.{slices_hold}
use Rattle.refusal.specs.declared.Refusal.{Refusal}
use Rattle.refusal.specs.declared.Refusal.TheVariants.{PastTheTerms, WrongTerms}
use Rattle.search_probe.specs.Probed.{Terms}

-- the terms of the query, and those of the range of a packed number: so many from its start on
abbrev pub query_terms : Terms → List Term
query_terms t = paired t.query_components t.query_values

abbrev pub in_range : {A : Type 0} → ℕ → List A → List A
in_range p l = part (start_of p) (length_of p) l

abbrev pub range_terms : Terms → ℕ → List Term
range_terms t p = paired (in_range p t.components) (in_range p t.values)

-- x is the score of a packed number: its range ends within the documents' terms, its terms hold, and x is their dot product with the query
pub record DotOf (t : Terms) (p : ℕ) (x : Float) : Type 0 where
  pub within : start_of p + length_of p ≤ length t.components
  pub holds : slices_hold (in_range p t.components) (in_range p t.values) ≡ true
  pub is : x ≡ dot (query_terms t) (range_terms t p)

-- a packed number stops a search: its range reaches past the documents' terms (13), or its terms do not hold (14)
pub data Stop (t : Terms) (p : ℕ) (r : Refusal) : Type 0 where
  reaches_past : r ≡ PastTheTerms → length t.components < start_of p + length_of p → Stop t p r
  breaks_rules : r ≡ WrongTerms → start_of p + length_of p ≤ length t.components → slices_hold (in_range p t.components) (in_range p t.values) ≡ false → Stop t p r
