-- The steps of both passes, and where they end: at the last document, or at the last place for one.
use Prim.Native.Nat.{ℕ, zero, suc, ◌+◌, ◌<◌, min}
use native.Mathlib.Omega.{arith}
use mathlib.Core.Path.{◌≡◌, sym, ap, ◌∙◌}
use mathlib.Core.Bool.{Bool, true, false, cond}
use mathlib.Core.List.{List, [], ◌∷◌, ◌++◌, zip_with}
use lib.ListN.{length, get_or, set, take, drop}
use lib.Seq.{set-get_or}
use Rattle.documents.specs.Documents.{Documents}
use Rattle.sort.specs.Ranked.{rank_in}
use Rattle.cluster_passes.specs.Ranked.{is_small}
use Rattle.cluster_passes.specs.Passes.{over}
use Rattle.cluster_passes.specs.Laws.Passes.{Over, over-read, over-step, cut-drop}
use Rattle.cluster_approximate_pass.specs.Taking.{nearly_choice, again_rank}

zip-cut : (f : ℕ → ℕ → ℕ) (ids ts : List ℕ) (n : ℕ) → n ≡ min (length ids) (length ts) → zip_with f (take n ids) ts ≡ zip_with f ids ts
unfolding zip_with
zip-cut f [] ts n e = ap (λ k. zip_with f (take k []) ts) (let z : n ≡ 0 = omega arith in z)
zip-cut f (i ∷ ids) [] n e = ap (λ k. zip_with f (take k (i ∷ ids)) []) (let z : n ≡ 0 = omega arith in z)
zip-cut f (i ∷ ids) (t ∷ ts) zero e = absurd (let z : ⊥ = omega arith in z)
zip-cut f (i ∷ ids) (t ∷ ts) (suc n) e = ap (λ l. f i t ∷ l) (zip-cut f ids ts n (omega arith))

pub over-cut : (f : ℕ → ℕ → ℕ) (ids ts ns : List ℕ) (i n : ℕ) → Over f ids ts i ns → n ≡ min (length ids) (length ts) → i ≡ n → ns ≡ over f ids ts
over-cut f ids ts ns i n o e h = o ∙ (λ j. zip_with f (take (h j) ids) ts ++ drop (h j) ts) ∙ (λ j. zip-cut f ids ts n e j ++ cut-drop ids ts n e j)

module _ (known : List ℕ) (cut first : ℕ) (competing : List ℕ) (index : Documents) (n q : ℕ) (d : Documents) (ids ts ns : List ℕ) (i : ℕ) where
  -- a document taken for the first time, by slices of the same lengths
  pub taken-first : (n' q' x : ℕ) → Over (λ i r. rank_in known (nearly_choice cut first competing index n q d i)) ids ts i ns → i < length ids → i < length ts → n' ≡ n → q' ≡ q
      → x ≡ rank_in known (nearly_choice cut first competing index n' q' d (get_or ids i 0)) → Over (λ i r. rank_in known (nearly_choice cut first competing index n q d i)) ids ts (i + 1) (set ns i x)
  taken-first n' q' x o h g en eq e =
      ap (set ns i) (e ∙ (λ j. rank_in known (nearly_choice cut first competing index (en j) (eq j) d (get_or ids i 0))))
      ∙ over-step (λ i r. rank_in known (nearly_choice cut first competing index n q d i)) ids ts ns i o h g

module _ (known counts : List ℕ) (minimum cut first : ℕ) (competing : List ℕ) (index : Documents) (n q : ℕ) (d : Documents) (ids ts ns : List ℕ) (i : ℕ) where
  -- a document whose rank comes to what it is in the end
  again-is : (x : ℕ) → Over (again_rank known counts minimum cut first competing index n q d) ids ts i ns → i < length ids → i < length ts → x ≡ again_rank known counts minimum cut first competing index n q d (get_or ids i 0) (get_or ns i 0)
      → Over (again_rank known counts minimum cut first competing index n q d) ids ts (i + 1) (set ns i x)
  again-is x o h g e =
      let f : ℕ → ℕ → ℕ = again_rank known counts minimum cut first competing index n q d in
      ap (set ns i) (e ∙ ap (f (get_or ids i 0)) (over-read f ids ts ns i o h)) ∙ over-step f ids ts ns i o h g

  -- a document taken again
  pub taken-again : (n' q' x : ℕ) (b : Bool) → Over (again_rank known counts minimum cut first competing index n q d) ids ts i ns → i < length ids → i < length ts → n' ≡ n → q' ≡ q
      → b ≡ is_small counts minimum (get_or ns i 0) → b ≡ true → x ≡ rank_in known (nearly_choice cut first competing index n' q' d (get_or ids i 0))
      → Over (again_rank known counts minimum cut first competing index n q d) ids ts (i + 1) (set ns i x)
  taken-again n' q' x b o h g en eq s t e =
      again-is x o h g
      (e ∙ (λ j. rank_in known (nearly_choice cut first competing index (en j) (eq j) d (get_or ids i 0)))
      ∙ sym (ap (λ y. cond y (rank_in known (nearly_choice cut first competing index n q d (get_or ids i 0))) (get_or ns i 0)) (sym s ∙ t)))

  -- a document that stays
  pub stayed : (b : Bool) → Over (again_rank known counts minimum cut first competing index n q d) ids ts i ns → i < length ids → i < length ts → b ≡ is_small counts minimum (get_or ns i 0) → b ≡ false
      → Over (again_rank known counts minimum cut first competing index n q d) ids ts (i + 1) ns
  stayed b o h g s t =
      sym (set-get_or ns i 0)
      ∙ again-is (get_or ns i 0) o h g (sym (ap (λ y. cond y (rank_in known (nearly_choice cut first competing index n q d (get_or ids i 0))) (get_or ns i 0)) (sym s ∙ t)))
