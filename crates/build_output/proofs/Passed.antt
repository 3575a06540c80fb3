-- What the second pass leaves, from what its parts left.
use Prim.Native.Nat.{ℕ, min}
use mathlib.Core.Path.{◌≡◌, ap, ◌∙◌}
use mathlib.Core.List.{List, ◌++◌, map}
use lib.ListN.{length, take, drop, replicate}
use lib.Seq.{sets, length_front}
use lib.Ieee.{Float}
use Rattle.configuration.specs.declared.SummarizationStrategy.{SummarizationStrategy}
use Rattle.sequences.specs.Laws.Lists.{least-long, cut-is}
use Rattle.documents.specs.Documents.{Documents}
use Rattle.sparse_layout.specs.Keys.{lent, named, laid_components, laid_starts, scanned}
use Rattle.summary_terms.specs.Answers.{limit_of}
use Rattle.build_block_summary.specs.Blocks.{tops}
use Rattle.build_kept_keys.specs.Frames.{recalled}
use Rattle.build_fill_pass.specs.Filling.{Filling, filling, fill_left}
use Rattle.build_meaning.specs.Building.{zeros, float_zeros}
use Rattle.build_sizes.specs.Sized.{posting_of}
use Rattle.build_sizes.specs.Laws.Fronts.{front-is}
use Rattle.build_output.specs.Placed.{Written, written, cursors_of, filled_by, second_pass}

module _ (dimension n : ℕ) (s : SummarizationStrategy) (d : Documents) (order blocks store keys places : List ℕ) (maxima : List Float) (counts cursors : List ℕ) (w : Written)
    (cut : n ≡ min dimension (length counts)) (long : length cursors ≡ length (take n counts)) (scan : cursors ≡ scanned 0 0 (named (take n counts)) (take n counts)) (after : Filling)
    (e : after ≡ fill_left (recalled store (tops (limit_of dimension (length keys) (length places) (length maxima)) s d order blocks)) (filling keys places maxima (lent (take n (cursors ++ drop n counts)) w.summary_ids w.codes))) where
  abbrev given : List ℕ → Filling
  given c = filling keys places maxima (lent c w.summary_ids w.codes)

  filled_is : after ≡ filled_by dimension s d order blocks store (given (cursors_of dimension counts))
  filled_is = e ∙ ap (λ c. filled_by dimension s d order blocks store (given c)) (front-is counts cursors n (least-long dimension (length counts) n cut) long ∙ scan ∙ ap (λ t. scanned 0 0 (named t) t) (cut-is counts dimension n cut))

  pub passed : (postings offsets components starts : List ℕ) → postings ≡ sets w.postings 0 (map (posting_of d) order) → offsets ≡ sets w.block_offsets 0 blocks
      → components ≡ laid_components 0 0 (named (take n counts)) w.summary_components → starts ≡ laid_starts 0 0 (named (take n counts)) w.component_offsets
      → written postings offsets components starts after.entries.summary_ids after.entries.codes ≡ second_pass dimension s d order blocks store keys places maxima counts w
  passed postings offsets components starts ep eo ec es =
      λ j. written (ep j) (eo j)
      ((ec ∙ ap (λ t. laid_components 0 0 (named t) w.summary_components) (cut-is counts dimension n cut)) j)
      ((es ∙ ap (λ t. laid_starts 0 0 (named t) w.component_offsets) (cut-is counts dimension n cut)) j)
      (filled_is j).entries.summary_ids (filled_is j).entries.codes

  -- the work space is zero
  pub passed-keys : after.keys ≡ zeros keys
  passed-keys = ap (λ f. f.keys) filled_is

  pub passed-places : after.places ≡ zeros places
  passed-places = ap (λ f. f.places) filled_is

  pub passed-maxima : after.maxima ≡ float_zeros maxima
  passed-maxima = ap (λ f. f.maxima) filled_is

-- counts whose front was written twice, and that were cleared then
module _ (counts cursors moved cleared : List ℕ) (n : ℕ) (h : length cursors ≡ length (take n counts)) (k : length moved ≡ length (take n (cursors ++ drop n counts))) where
  long-is : length (moved ++ drop n (cursors ++ drop n counts)) ≡ length counts
  long-is = length_front (cursors ++ drop n counts) moved n k ∙ length_front counts cursors n h

  pub passed-long : length cleared ≡ length (moved ++ drop n (cursors ++ drop n counts)) → length cleared ≡ length counts
  passed-long e = e ∙ long-is

  pub passed-counts : cleared ≡ replicate (length (moved ++ drop n (cursors ++ drop n counts))) 0 → cleared ≡ zeros counts
  passed-counts e = e ∙ ap (λ m. replicate m 0) long-is
