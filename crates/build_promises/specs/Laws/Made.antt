-- Laws of Made: from the contract of a build and its answer alone to Made or Unmade.
use Rattle.std.specs.Prelude.{ℕ, suc, ◌<◌, ◌≡◌, true, List, [], length, get_or, take, drop, Result, Ok, Err}
use Rattle.std.proofs.Common.{arith, ◌∙◌}
use Rattle.std.proofs.Math.Path.{refl, sym, ap, subst}
use Rattle.refusal.specs.declared.Refusal.{Refusal}
use Rattle.refusal.specs.Laws.First.{first-fault}
use Rattle.documents.specs.Documents.{Term}
use Rattle.quantizing.specs.Demand3.{F32s}
use Rattle.sparse_scores.specs.Layout.{arrays}
use Rattle.sparse_scores.specs.WellFormed.{well_formed}
use Rattle.sparse_layout.specs.Layouts.{layout}
use Rattle.sparse_layout.specs.Laws.Passes.{start-count, code-count, minimum-count, step_count}
use Rattle.sparse_layout.specs.Near.{StoredNear}
use Rattle.build_meaning.specs.declared.BuiltSizes.{BuiltSizes}
use Rattle.build_meaning.specs.Built.{Input, block_documents, Built, summaries, built}
use Rattle.build_meaning.specs.Building.{Outputs, outputs, Lent, tests, verdict_of, laid, cleared_output, cleared_scratch, filled, sizes_built, answer_by, leaves, builds}
use Rattle.build_meaning.specs.Laws.Left.{refused-leaves, accepted-leaves, in-front, past-it}
use Rattle.build_meaning.specs.Promises.{built-well-formed}
use Rattle.build_promises.specs.Laws.Greatest.{keeps-greatest}
use Rattle.build_promises.specs.Shared.{shared-by}
use Rattle.build_promises.specs.Near.{summary_at, built-near}
use Rattle.build_promises.specs.Made.{standing, past, Made, Unmade}

-- ---- a result in front of its buffers, found again by its sizes
module _ {A : Type 0} (result buffer : List A) (n : ℕ) (long : length result ≡ n) where
  front_at : take n (laid result buffer) ≡ result
  front_at = subst (λ m. take m (laid result buffer) ≡ result) long (in-front result buffer)

  past-at : drop n (laid result buffer) ≡ drop n buffer
  past-at = subst (λ m. drop m (laid result buffer) ≡ drop m buffer) long (past-it result buffer)

module _ (ss : List (List Term)) (ps os : List ℕ) (o : Outputs) where
  abbrev whole : Built
  whole = record { postings = ps; block_offsets = os; summaries = layout ss }

  stands : standing (sizes_built whole) (filled whole o) ≡ whole
  unfolding filled
  stands j = record {
    postings = front_at ps o.postings (length ps) refl j;
    block_offsets = front_at os o.block_offsets (length os) refl j;
    summaries =
        arrays (front_at (layout ss).summary_components o.summary_components (length (layout ss).summary_components) refl j) (front_at (layout ss).component_offsets o.component_offsets
        (suc (length (layout ss).summary_components)) (start-count ss) j) (front_at (layout ss).summary_ids o.summary_ids (length (layout ss).summary_ids) refl j) (front_at (layout ss).codes
        o.codes (length (layout ss).summary_ids) (sym (code-count ss)) j) (front_at (layout ss).minimums o.minimums (length (layout ss).minimums) refl j) (front_at (layout ss).steps
        o.steps (length (layout ss).minimums) (step_count ss ∙ sym (minimum-count ss)) j);
  }

  lies-past : past (sizes_built whole) (filled whole o) ≡ past (sizes_built whole) o
  unfolding filled
  lies-past j =
      outputs (past-at ps o.postings (length ps) refl j) (past-at os o.block_offsets (length os) refl j) (past-at (layout ss).summary_components o.summary_components
      (length (layout ss).summary_components) refl j) (past-at (layout ss).component_offsets o.component_offsets (suc (length (layout ss).summary_components)) (start-count ss) j)
      (past-at (layout ss).summary_ids o.summary_ids (length (layout ss).summary_ids) refl j) (past-at (layout ss).codes o.codes (length (layout ss).summary_ids) (sym (code-count ss)) j)
      (past-at (layout ss).minimums o.minimums (length (layout ss).minimums) refl j) (past-at (layout ss).steps o.steps (length (layout ss).minimums) (step_count ss
      ∙ sym (minimum-count ss)) j)

  module _ (sizes : BuiltSizes) (after : Outputs) (n : sizes ≡ sizes_built whole) (l : after ≡ filled whole o) where
    found-standing : standing sizes after ≡ whole
    found-standing = ap (λ s. standing s after) n ∙ ap (standing (sizes_built whole)) l ∙ stands

    found-past : past sizes after ≡ past sizes o
    found-past = ap (past sizes) l ∙ ap (λ s. past s (filled whole o)) n ∙ lies-past ∙ ap (λ s. past s o) (sym n)

module _ (g : Input) (lent after : Lent) where
  verdict-built : (v : Result (Unit {0}) Refusal) (sizes : BuiltSizes) → Ok sizes ≡ answer_by v (built g) → (v ≡ Ok tt) × (sizes ≡ sizes_built (built g))
  verdict-built (Ok _) sizes e = (refl, cc)
  verdict-built (Err r) sizes e = let z : ◌≡◌ {A = ℕ} 0 1 = cc in absurd (omega arith)

  verdict-refused : (v : Result (Unit {0}) Refusal) (r : Refusal) → Err r ≡ answer_by v (built g) → v ≡ Err r
  verdict-refused (Ok _) r e = let z : ◌≡◌ {A = ℕ} 0 1 = cc in absurd (omega arith)
  verdict-refused (Err x) r e = cc

  -- `leaves r after ≡ builds g lent` is the contract of `build`: it answered r, and left `after` where `lent` was
  pub unmade : (r : Result BuiltSizes Refusal) (reason : Refusal) → leaves r after ≡ builds g lent → r ≡ Err reason → Unmade g lent reason after
  unfolding builds verdict_of
  unmade r reason e a =
      let v : verdict_of g lent ≡ Err reason = verdict-refused (verdict_of g lent) reason (sym a ∙ ap (λ l. l.answer) e) in
      let l : after ≡ record { output = cleared_output lent.output; scratch = cleared_scratch lent.scratch } = ap (λ l. l.lent) e ∙ refused-leaves g lent reason v in
      record { refused = v; first = first-fault (tests g lent) reason v; output = ap (λ l. l.output) l; scratch = ap (λ l. l.scratch) l }

  -- a slice of u32 and one of f32 hold nothing else
  module _ (narrow : (k : ℕ) → get_or g.documents.components k 0 < 4294967296) (fs : F32s g.documents.values) where
    pub made : (r : Result BuiltSizes Refusal) (sizes : BuiltSizes) → leaves r after ≡ builds g lent → r ≡ Ok sizes → Made g lent sizes after
    unfolding builds built
    made r sizes e a =
        let v = verdict-built (verdict_of g lent) sizes (sym a ∙ ap (λ l. l.answer) e) in
        let n : sizes ≡ sizes_built (built g) = v.1 in
        let l : after ≡ record { output = filled (built g) lent.output; scratch = cleared_scratch lent.scratch } = ap (λ l. l.lent) e ∙ accepted-leaves g lent v.0 in
        let list : standing sizes after.output ≡ built g = found-standing (summaries g) (built g).postings (built g).block_offsets lent.output sizes after.output n (ap (λ m. m.output) l) in
        record {
          accepted = v.0;
          sizes_are = n;
          list = list;
          unchanged = found-past (summaries g) (built g).postings (built g).block_offsets lent.output sizes after.output n (ap (λ m. m.output) l);
          scratch = ap (λ m. m.scratch) l;
          shared = shared-by g g.blocking refl;
          greatest = λ b. keeps-greatest g narrow fs (get_or (block_documents g) b []);
          well_formed = subst (λ b. well_formed sizes.postings b.block_offsets b.summaries ≡ true) (sym list) (subst (λ s. well_formed s.postings (built g).block_offsets (built g).summaries
              ≡ true) (sym n) (built-well-formed g lent narrow fs v.0));
          near = λ b h. subst (λ m. StoredNear m.summaries b (summary_at g b)) (sym list) (built-near g lent narrow fs v.0 b (subst (λ s. b < s.summaries) n h));
        }
