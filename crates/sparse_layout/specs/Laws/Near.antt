-- Laws of Near: it holds of every summary that a layout stores.
use Rattle.std.specs.Prelude.{◌≡◌, ℕ, ◌<◌, T, List, [], map, length, get_or, slice_index_or}
use Rattle.std.proofs.Common.{arith, sym, ◌∙◌, subst}
use Rattle.std.proofs.Math.Path.{ap}
use mathlib.Core.List.{map-map}
use Rattle.std.proofs.Math.ListN.{length-map}
use Rattle.std.specs.Float.{nan}
use Rattle.std.specs.Float.Ieee.{le}
use Rattle.sequences.specs.Laws.Lists.{map_at}
use Rattle.documents.specs.Documents.{Term, term}
use Rattle.quantizing.specs.Quantizing.{least, greatest, step_for, code_of, read_back}
use Rattle.quantizing.specs.Demand3.{Drifts, least_step}
use Rattle.quantizing.specs.Promises.{value-drift}
use Rattle.sparse_scores.specs.ReadBack.{terms_of}
use Rattle.sparse_layout.specs.Layouts.{values, layout}
use Rattle.sparse_layout.specs.Passes.{Storable}
use Rattle.sparse_layout.specs.Laws.AnyOrder.{part}
use Rattle.sparse_layout.specs.Laws.ReadBack.{read_as, read_back_of, minimum-at, step-at, reads-back-rising}
use Rattle.sparse_layout.specs.Near.{value_at, StoredNear}

module _ (ss : List (List Term)) (b : ℕ) (h : Storable (slice_index_or ss b [])) where
  abbrev own : List Term
  own = slice_index_or ss b []

  comes_back : terms_of (layout ss) b ≡ read_back_of own
  comes_back = reads-back-rising ss b h.rises

  value_read : (k : ℕ) → k < length own → value_at (terms_of (layout ss) b) k ≡ read_back (least (values own)) (step_for (values own)) (code_of (least (values own)) (step_for (values own)) (value_at own k))
  unfolding read_back_of
  value_read k l = ap (λ ts. value_at ts k) comes_back ∙ ap (λ t. t.value) (map_at (read_as (least (values own)) (step_for (values own))) own k (term 0 nan) (term 0 nan) l)

  value-near : T (le least_step (step_for (values own))) → (k : ℕ) → k < length own → Drifts (least (values own)) (greatest (values own)) (step_for (values own)) (value_at own k)
      (value_at (terms_of (layout ss) b) k)
  value-near st k l =
      let v : get_or (values own) k nan ≡ value_at own k = map_at (λ t. t.value) own k (term 0 nan) nan l in
      subst (λ r. Drifts (least (values own)) (greatest (values own)) (step_for (values own)) (value_at own k) r) (sym (value_read k l))
      (subst (λ x. Drifts (least (values own)) (greatest (values own)) (step_for (values own)) x (read_back (least (values own)) (step_for (values own)) (code_of (least (values own))
      (step_for (values own)) x))) v
      (value-drift (values own) h.floats h.list st k (let e = length-map own (λ t. t.value) in omega arith)))

  -- any summary that can be stored, whatever stands beside it
  pub stored-near : StoredNear (layout ss) b (slice_index_or ss b [])
  unfolding read_back_of
  stored-near = record {
    minimum = minimum-at ss b;
    step = step-at ss b;
    as_many = ap length comes_back ∙ length-map own (read_as (least (values own)) (step_for (values own)));
    components = ap (map part) comes_back ∙ map-map part (read_as (least (values own)) (step_for (values own))) own;
    read = λ k l. rw (minimum-at ss b, step-at ss b) (value_read k l);
    near = λ st k l. rw (minimum-at ss b, step-at ss b) (value-near (rw (step-at ss b) at st) k l);
  }
