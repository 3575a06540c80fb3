-- The tests of an input one after another, and the pass over the listed ranges.
use Rattle.std.specs.Prelude.{Result, Ok, Err}
use Rattle.refusal.specs.declared.Refusal.{Refusal}
use Prim.Native.Nat.{ℕ, suc, ◌+◌, ◌-◌, ◌≤◌, ◌<◌, ◌/◌, min}
use native.Mathlib.Omega.{arith}
use native.Mathlib.Numerals.{add-one}
use mathlib.Core.Path.{◌≡◌, sym, ap, ◌∙◌}
use mathlib.Core.Bool.{Bool, true, false, not, ◌&&◌, ◌||◌, and-true, and_assoc}
use mathlib.Core.List.{List, [], ◌++◌}
use lib.ListN.{length, get_or, drop}
use lib.Seq.{drop-cons, drop-length}
use lib.Dec.{leb, ltb, eqb}
use lib.Ieee.{Float}
use borrow.Author.Tests.{eq-eqb, ne_eqb}
use Rattle.refusal.specs.declared.Refusal.TheVariants.{StartTooLarge, RangeTooLong, NoBlockSize, WrongCentroids, WrongDocuments, OutsideLimits, WrongTerms}
use Rattle.refusal.specs.First.{first_of}
use Rattle.configuration.specs.declared.BlockingStrategy.{BlockingStrategy}
use Rattle.configuration.specs.declared.BlockingStrategy.TheVariants.{FixedSize, RandomKmeans}
use Rattle.configuration.specs.declared.ClusteringAlgorithm.{ClusteringAlgorithm}
use Rattle.sequences.specs.Lists.{every}
use Rattle.sequences.specs.Laws.Lists.{every_append}
use Rattle.packing.specs.Packing.{start_limit, length_limit}
use Rattle.blocking.specs.Limits.{list_limit, block_limit, centroid_limit, dimension_limit}
use Rattle.blocking.specs.Blocking.{centroid_count}
use Rattle.documents.specs.Documents.{Documents, documents, count, start, size}
use Rattle.documents.specs.Checks.{offsets_hold, ids_hold, documents_hold}
use Rattle.documents.specs.declared.DocumentRange.{DocumentRange}
use Rattle.documents.specs.Answers.{range_of}
use Rattle.build_admission.specs.declared.RangesFit.{RangesFit}
use Rattle.build_admission.specs.Admission.{centroids_used, wrong_centroids, blocking_faults, starts_fit, lengths_fit, input_tests}
use Rattle.build_admission.specs.Answers.{ranges_fit}

-- ---- two lists, one after the other
pub ids-both : (n : ℕ) (a b : List ℕ) → ids_hold n (a ++ b) ≡ (ids_hold n a && ids_hold n b)
unfolding ids_hold
ids-both n a b = every_append (λ i. ltb i n) a b

pub terms-both : (n : ℕ) (d : Documents) (a b : List ℕ) → documents_hold n d (a ++ b) ≡ (documents_hold n d a && documents_hold n d b)
unfolding documents_hold
terms-both n d a b = every_append _ a b

-- ---- a check, and then the next one
pub outside-list : (n m : ℕ) → ltb list_limit m ≡ true → true ≡ (ltb list_limit m || (eqb n 0 || ltb dimension_limit n))
outside-list n m h = rw h

pub outside-dimension : (n m : ℕ) (r : Bool) → ltb list_limit m ≡ false → r ≡ (eqb n 0 || ltb dimension_limit n) → r ≡ (ltb list_limit m || (eqb n 0 || ltb dimension_limit n))
outside-dimension n m r h e = rw h e

module _ (d : Documents) (ids cs : List ℕ) where
  pub offsets-fail : offsets_hold d ≡ false → false ≡ (offsets_hold d && ids_hold (count d.offsets) (ids ++ cs))
  offsets-fail h = rw h

  module _ (n : ℕ) (number : n ≡ count d.offsets) (h : offsets_hold d ≡ true) where
    pub ids-fail : ids_hold n ids ≡ false → false ≡ (offsets_hold d && ids_hold (count d.offsets) (ids ++ cs))
    ids-fail f = rw (h, ← number, ids-both n ids cs, f)

    pub ids-left : (r : Bool) → ids_hold n ids ≡ true → r ≡ ids_hold n cs → r ≡ (offsets_hold d && ids_hold (count d.offsets) (ids ++ cs))
    ids-left r f e = rw (h, ← number, ids-both n ids cs, f) e

  pub terms-fail : (n : ℕ) → documents_hold n d ids ≡ false → false ≡ documents_hold n d (ids ++ cs)
  terms-fail n f = rw (terms-both n d ids cs, f)

  pub terms-left : (n : ℕ) (r : Bool) → documents_hold n d ids ≡ true → r ≡ documents_hold n d cs → r ≡ documents_hold n d (ids ++ cs)
  terms-left n r f e = rw (terms-both n d ids cs, f) e

-- ---- centroids
pub none-asked : (f : Float) (n l : ℕ) → n ≡ 0 → false ≡ wrong_centroids f n l
none-asked f n l e = rw (eq-eqb n 0 e)

module _ (f : Float) (n l k : ℕ) (some : n ≡ 0 → ⊥) (e : k ≡ centroid_count f n) where
  pub too_many : ltb centroid_limit k ≡ true → true ≡ wrong_centroids f n l
  too_many h = rw (ne_eqb n 0 some, ← e, h)

  pub count-asked : ltb centroid_limit k ≡ false → k < n → not (eqb l k) ≡ wrong_centroids f n l
  count-asked h p = let m : min k n ≡ k = omega arith in rw (ne_eqb n 0 some, ← e, h, m)

  pub list-asked : ltb centroid_limit k ≡ false → n ≤ k → not (eqb l n) ≡ wrong_centroids f n l
  list-asked h p = let m : min k n ≡ n = omega arith in rw (ne_eqb n 0 some, ← e, h, m)

-- ---- the way of blocking
module _ (k : BlockingStrategy) (n l size : ℕ) (e : k ≡ FixedSize size) where
  pub no_size : size ≡ 0 → Err NoBlockSize ≡ first_of (blocking_faults k n l)
  no_size z = rw (e, eq-eqb size 0 z)

  module _ (some : size ≡ 0 → ⊥) (r : Bool) (f : r ≡ ltb block_limit (n / size)) where
    pub many-blocks : r ≡ true → Err OutsideLimits ≡ first_of (blocking_faults k n l)
    many-blocks h = rw (e, ne_eqb size 0 some, ← f, h)

    pub few-blocks : r ≡ false → Ok tt ≡ first_of (blocking_faults k n l)
    few-blocks h = rw (e, ne_eqb size 0 some, ← f, h)

module _ (k : BlockingStrategy) (n l : ℕ) (f : Float) (m : ℕ) (a : ClusteringAlgorithm) (e : k ≡ RandomKmeans f m a) (r : Bool) (w : r ≡ wrong_centroids f n l) where
  pub centroids-wrong : r ≡ true → Err WrongCentroids ≡ first_of (blocking_faults k n l)
  centroids-wrong h = rw e (rw (sym w ∙ h))

  pub centroids-right : r ≡ false → Ok tt ≡ first_of (blocking_faults k n l)
  centroids-right h = rw e (rw (sym w ∙ h))

-- ---- ranges
module _ (os ids : List ℕ) (i : ℕ) (r : DocumentRange) (e : r ≡ range_of os (get_or ids i 0)) where
  abbrev d : Documents
  d = documents os [] []

  pub range-ordered : r.start.0 ≤ r.end
  range-ordered = rw e (omega arith)

  start_is : r.start.0 ≡ start d (get_or ids i 0)
  start_is = ap (λ z. z.start.0) e

  size_is : r.end - r.start.0 ≡ size d (get_or ids i 0)
  size_is = ap (λ z. z.end - z.start.0) e ∙ omega arith

  pub start-step : (o fits : Bool) → fits ≡ ltb r.start.0 start_limit → i < length ids → (o && fits && starts_fit d (drop (i + 1) ids)) ≡ (o && starts_fit d (drop i ids))
  start-step o fits f h = rw (f, add-one i, drop-cons ids i 0 h, start_is) (and_assoc o (ltb (start d (get_or ids i 0)) start_limit) (starts_fit d (drop (suc i) ids)))

  pub length-step : (o fits : Bool) → fits ≡ leb (r.end - r.start.0) length_limit → i < length ids → (o && fits && lengths_fit d (drop (i + 1) ids)) ≡ (o && lengths_fit d (drop i ids))
  length-step o fits f h = rw (f, add-one i, drop-cons ids i 0 h, size_is) (and_assoc o (leb (size d (get_or ids i 0)) length_limit) (lengths_fit d (drop (suc i) ids)))

pub every-end : {A : Type 0} (p : A → Bool) (o : Bool) (l : List A) (i : ℕ) (w : Bool) → i ≡ length l → (o && every p (drop i l)) ≡ w → o ≡ w
every-end p o l i w e h = sym (and-true o) ∙ rw (e, drop-length l) at h

pub both-fit : (os ids : List ℕ) (s l : Bool) → s ≡ starts_fit (documents os [] []) ids → l ≡ lengths_fit (documents os [] []) ids → ◌≡◌ {A = RangesFit} (record { starts = s; lengths = l }) (ranges_fit os ids)
both-fit os ids s l e f = ap (λ z. record { starts = z; lengths = l }) e ∙ ap (λ z. record { starts = starts_fit (documents os [] []) ids; lengths = z }) f

-- ---- the first fault of an input, where each check answers by its own word and u are the centroids used
module _ (n : ℕ) (k : BlockingStrategy) (d : Documents) (ids cs : List ℕ) (out : Bool) (is-out : out ≡ (ltb list_limit (length ids) || (eqb n 0 || ltb dimension_limit n))) where
  pub refuses-limits : out ≡ true → Err OutsideLimits ≡ first_of (input_tests n k d ids cs)
  unfolding input_tests
  refuses-limits o = rw (← is-out, o)

  module _ (o : out ≡ false) (us : List ℕ) (u : us ≡ centroids_used k cs) (known : Bool) (is_Known : known ≡ (offsets_hold d && ids_hold (count d.offsets) (ids ++ us))) where
    pub refuses-documents : not known ≡ true → Err WrongDocuments ≡ first_of (input_tests n k d ids cs)
    unfolding input_tests
    refuses-documents w = rw (← is-out, o, ← u, ← is_Known, w)

    module _ (w : not known ≡ false) (hold : Bool) (is-hold : hold ≡ documents_hold n d (ids ++ us)) where
      pub refuses-terms : not hold ≡ true → Err WrongTerms ≡ first_of (input_tests n k d ids cs)
      unfolding input_tests
      refuses-terms t = rw (← is-out, o, ← u, ← is_Known, w, ← is-hold, t)

      module _ (t : not hold ≡ false) (fit : RangesFit) (is-fit : fit ≡ ranges_fit d.offsets ids) where
        pub refuses-starts : not fit.starts ≡ true → Err StartTooLarge ≡ first_of (input_tests n k d ids cs)
        unfolding input_tests
        refuses-starts s = rw (← is-out, o, ← u, ← is_Known, w, ← is-hold, t, ← ap (λ r. r.starts) is-fit, s)

        pub refuses-lengths : not fit.starts ≡ false → not fit.lengths ≡ true → Err RangeTooLong ≡ first_of (input_tests n k d ids cs)
        unfolding input_tests
        refuses-lengths s l = rw (← is-out, o, ← u, ← is_Known, w, ← is-hold, t, ← ap (λ r. r.starts) is-fit, s, ← ap (λ r. r.lengths) is-fit, l)

        pub leaves-blocking : (r : Result (Unit {0}) Refusal) → not fit.starts ≡ false → not fit.lengths ≡ false → r ≡ first_of (blocking_faults k (length ids) (length cs)) → r ≡ first_of (input_tests n k d ids cs)
        unfolding input_tests
        leaves-blocking r s l e = rw (← is-out, o, ← u, ← is_Known, w, ← is-hold, t, ← ap (λ r. r.starts) is-fit, s, ← ap (λ r. r.lengths) is-fit, l) e
