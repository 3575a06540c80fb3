-- One term more of two slices, where these are counted by places, for whoever counts places.
use Prim.Native.Nat.{ℕ, ◌+◌, ◌<◌}
use mathlib.Core.Path.{◌≡◌, sym, ap, ◌∙◌}
use mathlib.Core.List.{List, foldl}
use lib.ListN.{length, get_or, drop}
use lib.Ieee.{Float, nan}
use Rattle.documents.specs.Documents.{term, paired}
use Rattle.summary_maximum.specs.Meeting.{Met, meets_below}
use Rattle.summary_maximum.proofs.Loops.{paired-next}

module _ (limit : ℕ) (cs : List ℕ) (vs : List Float) (w s s' : Met) (i : ℕ) where
  pub meet-step : i < length cs → length cs ≡ length vs → foldl (meets_below limit) s (drop i (paired cs vs)) ≡ w → s' ≡ meets_below limit s (term (get_or cs i 0) (get_or vs i nan)) → foldl (meets_below limit) s' (drop (i + 1) (paired cs vs)) ≡ w
  meet-step h l e q = ap (λ z. foldl (meets_below limit) z (drop (i + 1) (paired cs vs))) q ∙ ap (foldl (meets_below limit) s) (sym (paired-next cs vs i h l)) ∙ e
