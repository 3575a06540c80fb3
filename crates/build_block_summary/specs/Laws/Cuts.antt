-- The blocks between offsets, one after another.
use Rattle.std.specs.Prelude.{ℕ, suc, ◌+◌, ◌-◌, ◌≤◌, ◌<◌, ◌≡◌, refl, List, [], ◌∷◌, length, get_or, drop}
use Rattle.std.proofs.Common.{arith, add-one, sym, ap, ◌∙◌, length-drop, drop-cons}
use Rattle.sequences.specs.Lists.{part, between}
use Rattle.documents.specs.declared.TermPlaces.{TermPlaces}
use Rattle.documents.specs.Documents.{Documents}
use Rattle.documents.specs.Answers.{places_of}
use Rattle.documents.specs.Laws.Places.{part_cut, places-order, places-within}
use Rattle.configuration.specs.declared.SummarizationStrategy.{SummarizationStrategy}
use Rattle.summary_maximum.specs.Maximum.{block_terms, below}
use Rattle.summary_terms.specs.Summaries.{summary_of}
use Rattle.summary_terms.specs.Answers.{limit_of}
use Rattle.build_block_summary.specs.Blocks.{block_at, tops_of, terms_in, tops}

module _ (blocks order : List ℕ) (b : ℕ) where
  -- the block b, and those after it
  block-next : b + 1 < length blocks → between (drop b blocks) order ≡ block_at blocks order b ∷ between (drop (b + 1) blocks) order
  block-next h =
      let e : drop b blocks ≡ get_or blocks b 0 ∷ drop (suc b) blocks = drop-cons blocks b 0 (omega arith) in
      let f : drop (suc b) blocks ≡ get_or blocks (suc b) 0 ∷ drop (suc (suc b)) blocks = drop-cons blocks (suc b) 0 (omega arith) in
      rw (add-one b)
      (ap (λ l. between l order) (e ∙ ap (λ l. get_or blocks b 0 ∷ l) f)
      ∙ ap (λ l. part (get_or blocks b 0) (get_or blocks (suc b) 0 - get_or blocks b 0) order ∷ between l order) (sym f))

  block_none : length blocks ≤ b + 1 → between (drop b blocks) order ≡ []
  block_none h = let l = length-drop b blocks in short (drop b blocks) (omega arith)
    where
      short : (l : List ℕ) → length l ≤ 1 → between l order ≡ []
      short [] h = refl
      short (a ∷ []) h = refl
      short (a ∷ c ∷ l) h = let z : ⊥ = omega arith in absurd z

  -- and what their summaries keep
  module _ (limit : ℕ) (strategy : SummarizationStrategy) (d : Documents) where
    pub tops_next : b + 1 < length blocks → (here : ℕ) → here ≡ limit → tops limit strategy d order (drop b blocks) ≡ summary_of strategy (below here (block_terms d (block_at blocks order b)))
        ∷ tops limit strategy d order (drop (b + 1) blocks)
    tops_next h here e = ap (λ bs. tops_of strategy (terms_in limit d bs)) (block-next h) ∙ ap (λ n. summary_of strategy (below n (block_terms d (block_at blocks order b)))
        ∷ tops limit strategy d order (drop (b + 1) blocks)) (sym e)

    pub tops-none : length blocks ≤ b + 1 → tops limit strategy d order (drop b blocks) ≡ []
    tops-none h = ap (λ bs. tops_of strategy (terms_in limit d bs)) (block_none h)

  -- ---- where the documents of the block stand
  module _ (p : TermPlaces) (e : p ≡ places_of blocks (length order) b) where
    pub places-ordered : p.from ≤ p.to
    places-ordered = rw e (places-order blocks (length order) b)

    pub places-inside : p.to ≤ length order
    places-inside = rw e (places-within blocks (length order) b)

    pub places-part : part p.from (p.to - p.from) order ≡ block_at blocks order b
    places-part = ap (λ p. part p.from (p.to - p.from) order) e ∙ sym (part_cut (get_or blocks b 0) (get_or blocks (suc b) 0 - get_or blocks b 0) order)

-- ---- what is kept from one block to the next
-- buffers of the same lengths have the same limit
pub limit-same : (dimension keys places maxima k p m : ℕ) → k ≡ keys → p ≡ places → m ≡ maxima → limit_of dimension k p m ≡ limit_of dimension keys places maxima
limit-same dimension keys places maxima k p m e f g = λ j. limit_of dimension (e j) (f j) (g j)

pub less-left : (n b : ℕ) → b + 1 < n → n - (b + 1) < n - b
less-left n b h = omega arith

pub step-on : (n b : ℕ) → b + 1 < n → b + 1 ≤ n - 1
step-on n b h = omega arith
