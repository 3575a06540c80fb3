-- The entries of a component are read back from the index.
use Rattle.std.specs.Prelude.{ℕ, zero, suc, ◌+◌, ◌-◌, ◌≤◌, ◌<◌, ◌≡◌, refl, take, drop, Float}
use Rattle.std.proofs.Common.{arith, sym, ◌∙◌, length-append, ne_eqb}
use Rattle.std.proofs.Math.Decide.{dec_lt}
use Rattle.std.proofs.Math.Path.{ap}
use mathlib.Core.List.{List, [], ◌∷◌, ◌++◌, map, append_assoc, zip_with}
use Rattle.std.proofs.Math.ListN.{length, get_or, get_or-eq_default, get_or-map}
use Rattle.std.proofs.lemmas.List.{length-map}
use Rattle.sequences.specs.Lists.{EachOf, joined, offsets_from, part, from, with_key}
use Rattle.sequences.specs.Laws.Groups.{offsets-count, offsets-map, joined-map, part-is}
use Rattle.sequences.specs.Laws.Lists.{from-length, map_at}
use Rattle.documents.specs.Documents.{term, paired, Documents, documents, terms}
use Rattle.counting_sort.specs.Laws.Counting.{bins}
use Rattle.cluster_index.specs.Index.{Entry, slot_of, component_of, weight_of, entries}
use Rattle.cluster_index.specs.Laws.Index.{index_of}
use Rattle.cluster_index.specs.Laws.Scores.{IndexFor}

-- ---- lists that are joined, read by their offsets
module _ {A : Type 0} where
  first-offset : (n : ℕ) (ls : List (List A)) → get_or (offsets_from n ls) 0 0 ≡ n
  first-offset n [] = refl
  first-offset n (l ∷ ls) = refl

  pub list_at : (front : List A) (ls : List (List A)) (back : List A) (k : ℕ) → k < length ls
      → part (get_or (offsets_from (length front) ls) k 0) (get_or (offsets_from (length front) ls) (suc k) 0 - get_or (offsets_from (length front) ls) k 0) (front ++ (joined ls ++ back)) ≡ get_or ls k []
  list_at front [] back k h = absurd (omega arith)
  list_at front (l ∷ ls) back zero h =
      ap (λ n. part (length front) (n - length front) (front ++ ((l ++ joined ls) ++ back))) (first-offset (length front + length l) ls)
      ∙ ap (λ t. part (length front) (length front + length l - length front) (front ++ t)) (append_assoc l (joined ls) back)
      ∙ part-is front l (joined ls ++ back)
  list_at front (l ∷ ls) back (suc k) h =
      let e : length (front ++ l) ≡ length front + length l = length-append front l in
      let os = offsets_from (length front + length l) ls in
      ap (λ t. part (get_or os k 0) (get_or os (suc k) 0 - get_or os k 0) (front ++ t)) (append_assoc l (joined ls) back)
      ∙ ap (part (get_or os k 0) (get_or os (suc k) 0 - get_or os k 0)) (sym (append_assoc front l (joined ls ++ back)))
      ∙ ap (λ n. part (get_or (offsets_from n ls) k 0) (get_or (offsets_from n ls) (suc k) 0 - get_or (offsets_from n ls) k 0) ((front ++ l) ++ (joined ls ++ back))) (sym e)
      ∙ list_at (front ++ l) ls back k (omega arith)

-- past the last there is nothing
pub list-past : {A B : Type 0} (ls : List (List A)) (xs : List B) (k : ℕ) → length ls ≤ k → part (get_or (offsets_from 0 ls) k 0) (get_or (offsets_from 0 ls) (suc k) 0 - get_or (offsets_from 0 ls) k 0) xs ≡ []
list-past ls xs k h =
    let c = offsets-count 0 ls in
    let e : get_or (offsets_from 0 ls) (suc k) 0 ≡ 0 = get_or-eq_default (offsets_from 0 ls) 0 (omega arith) in
    let z : get_or (offsets_from 0 ls) (suc k) 0 - get_or (offsets_from 0 ls) k 0 ≡ 0 = omega arith in
    ap (λ n. take n (drop (get_or (offsets_from 0 ls) k 0) xs)) z

-- ---- the bins
from_at : (a n k : ℕ) → k < n → get_or (from a n) k 0 ≡ a + k
from_at a zero k h = absurd (omega arith)
from_at a (suc n) zero h = omega arith
from_at a (suc n) (suc k) h = from_at (suc a) n k (omega arith) ∙ omega arith

module _ {A : Type 0} (key : A → ℕ) where
  none_above : (n k : ℕ) (xs : List A) → EachOf (λ x. key x < n) xs → n ≤ k → with_key key k xs ≡ []
  none_above n k [] e h = refl
  none_above n k (x ∷ xs) e h = let i = none_above n k xs e.1 h in rw (ne_eqb (key x) k (λ q. omega (arith, e.0)), i)

  bins-length : (n : ℕ) (xs : List A) → length (bins key n xs) ≡ n
  bins-length n xs = length-map (from 0 n) _ ∙ from-length 0 n

  bins-at : (n k : ℕ) (xs : List A) → k < n → get_or (bins key n xs) k [] ≡ with_key key k xs
  bins-at n k xs h =
      let l = from-length 0 n in
      map_at (λ k. with_key key k xs) (from 0 n) k 0 [] (omega arith) ∙ ap (λ j. with_key key j xs) (from_at 0 n k h ∙ let z : 0 + k ≡ k = omega arith in z)

paired-parts : (es : List Entry) → paired (map slot_of es) (map weight_of es) ≡ map (λ e. term (slot_of e) (weight_of e)) es
unfolding paired zip_with
paired-parts [] = refl
paired-parts (e ∷ es) = ap (λ l. term (slot_of e) (weight_of e) ∷ l) (paired-parts es)

module _ (dimension : ℕ) (d : Documents) (cs : List ℕ) (below : EachOf (λ e. component_of e < dimension) (entries d cs)) where
  bs : List (List Entry)
  bs = bins component_of dimension (entries d cs)

  module _ {C : Type 0} (g : Entry → C) (back : List C) where
    shows : (k : ℕ) → part (get_or (offsets_from 0 bs) k 0) (get_or (offsets_from 0 bs) (suc k) 0 - get_or (offsets_from 0 bs) k 0) (map g (joined bs) ++ back) ≡ map g (with_key component_of k (entries d cs))
    unfolding bs
    shows k = go (dec_lt k dimension)
      where
        n : length bs ≡ dimension
        n = bins-length component_of dimension (entries d cs)

        cut : (os : List ℕ) → offsets_from 0 (map (map g) bs) ≡ os → k < length bs
            → part (get_or os k 0) (get_or os (suc k) 0 - get_or os k 0) (map g (joined bs) ++ back) ≡ get_or (map (map g) bs) k []
        cut os e h =
            ap (λ l. part (get_or os k 0) (get_or os (suc k) 0 - get_or os k 0) (l ++ back)) (sym (joined-map g bs))
            ∙ ap (λ o. part (get_or o k 0) (get_or o (suc k) 0 - get_or o k 0) (joined (map (map g) bs) ++ back)) (sym e)
            ∙ list_at [] (map (map g) bs) back k (let m = length-map bs (map g) in omega arith)

        go : Dec (k < dimension) → part (get_or (offsets_from 0 bs) k 0) (get_or (offsets_from 0 bs) (suc k) 0 - get_or (offsets_from 0 bs) k 0) (map g (joined bs) ++ back)
            ≡ map g (with_key component_of k (entries d cs))
        go (yes h) =
            cut (offsets_from 0 bs) (offsets-map g 0 bs) (omega (arith, n))
            ∙ get_or-map (map g) bs k []
            ∙ ap (map g) (bins-at component_of dimension k (entries d cs) h)
        go (no h) =
            list-past bs (map g (joined bs) ++ back) k (omega (arith, n))
            ∙ ap (map g) (sym (none_above component_of dimension k (entries d cs) below (omega arith)))

  -- with anything after the entries, the slices read as the index of these centroids
  pub index-for : (back : List ℕ) (rear : List Float) → let i = index_of dimension d cs in IndexFor (documents i.offsets (i.components ++ back) (i.values ++ rear)) d cs
  unfolding index_of terms bs
  index-for back rear k =
      ap (λ l. paired l (part (get_or (offsets_from 0 bs) k 0) (get_or (offsets_from 0 bs) (suc k) 0 - get_or (offsets_from 0 bs) k 0) (map weight_of (joined bs) ++ rear))) (shows slot_of back k)
      ∙ ap (paired (map slot_of (with_key component_of k (entries d cs)))) (shows weight_of rear k)
      ∙ paired-parts (with_key component_of k (entries d cs))
