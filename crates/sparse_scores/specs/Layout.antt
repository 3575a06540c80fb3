-- The sparse layout of a list's summaries. Document 01, "Sparse layout".
use Rattle.std.specs.Prelude.{ℕ, suc, cond, length, get_or, leb, eqb, Float}
use mathlib.Core.List.{List, [], zip_with}
use Rattle.sequences.specs.Lists.{before, between}

-- the components that some summary has; where the entries of each start, and then where the last ones end; the entries, each
-- the number of a summary and a code; the minimum and the step of each summary
pub record Layout : Type 0 where
  pub summary_components : List ℕ
  pub component_offsets : List ℕ
  pub summary_ids : List ℕ
  pub codes : List ℕ
  pub minimums : List Float
  pub steps : List Float

abbrev pub arrays : List ℕ → List ℕ → List ℕ → List ℕ → List Float → List Float → Layout
arrays cs os is ks ms ss = record { summary_components = cs; component_offsets = os; summary_ids = is; codes = ks; minimums = ms; steps = ss }

pub record Entry : Type 0 where
  pub summary : ℕ
  pub code : ℕ

abbrev pub entry : ℕ → ℕ → Entry
entry s k = record { summary = s; code = k }

-- summary ids and codes side by side
unfoldable pub entries : List ℕ → List ℕ → List Entry
unfolding zip_with
entries ids codes = zip_with entry ids codes

-- the place of a component: those before it are smaller
abbrev pub place_of : ℕ → List ℕ → ℕ
place_of c cs = length (before (λ x. leb c x) cs)

-- the entries of the component c, if it stands at a place; none otherwise
unfoldable pub entries_at : Layout → ℕ → ℕ → List Entry
entries_at l place c = cond (eqb (get_or l.summary_components place (suc c)) c) (get_or (between l.component_offsets (entries l.summary_ids l.codes)) place []) []

abbrev pub entries_of : Layout → ℕ → List Entry
entries_of l c = entries_at l (place_of c l.summary_components) c
