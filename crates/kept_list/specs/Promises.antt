-- What the kept list promises, over the definitions alone; a push answers in document 01's numbers.
use Rattle.refusal.specs.declared.Refusal.{Refusal}
use Rattle.std.specs.Prelude.{ℕ, suc, ◌≤◌, ◌<◌, min, ◌≡◌, Bool, not, ◌&&◌, ◌||◌, cond, length, take, drop, leb, ltb, eqb, Result, Ok, Err}
use Rattle.std.proofs.Common.{arith, sym, ap, ◌∙◌, length-append, drop_at, leb-true, eq-eqb, ne_eqb}
use Rattle.std.proofs.Math.Path.{refl}
use Rattle.std.proofs.Math.Bool.{true, false}
use mathlib.Core.List.{List, [], ◌∷◌, ◌++◌, map, Memᴰ}
use Rattle.std.proofs.lemmas.List.{length-map}
use Rattle.std.proofs.lemmas.Bool.{not-false}
use Rattle.refusal.specs.declared.Refusal.TheVariants.{NothingToKeep, WrongKeptList, BufferTooShort}
use Rattle.refusal.specs.Refusals.{verdict_number}
use Rattle.refusal.specs.First.{◌gives◌, first_of}
use Rattle.refusal.specs.Laws.First.{faultless}
use Rattle.sequences.specs.Lists.{every, those, EachOf, sorted_by}
use Rattle.sequences.specs.Laws.Lists.{both}
use Rattle.float32.specs.Order.{at_most}
use Rattle.kept_list.specs.declared.Scored.{Scored}
use Rattle.kept_list.specs.Keep.{insert_after, keep, keep_all, no_later, k_best, in_order, level}
use Rattle.kept_list.specs.Order.{Order}
use Rattle.kept_list.specs.Laws.Pushing.{length-keep, keep-adds, keep-none, keep-replaces}
use Rattle.kept_list.specs.Laws.Sorted.{insert-between, sorted-keep}
use Rattle.kept_list.specs.Laws.Best.{k-best, sorted_sort}
use Rattle.kept_list.specs.Laws.Stable.{sort-stable, sort-unique}
use Rattle.kept_list.specs.Laws.LeftOut.{not_taken}
use Rattle.kept_list.specs.Entry.{same_score, better}
use Rattle.kept_list.specs.Laws.Entry.{better-is, better-order, level-same}
use Rattle.kept_list.specs.Told.{Fit}
use Rattle.kept_list.specs.Laws.Told.{numbers-kept, out-of-best}
use Rattle.kept_list.specs.Lent.{Lent, packed_of, score_of, entries, written, places, after, settled}
use Rattle.kept_list.specs.Laid.{RoomFor, settle_all}
use Rattle.kept_list.specs.Laws.Laid.{entries-written, length-beside, settled-in, settle-all}
use Rattle.kept_list.specs.WellKept.{WellKept}
use Rattle.kept_list.specs.Laws.WellKept.{well-kept, is-well-kept}
use Rattle.kept_list.specs.Push.{is_number, sound, well_kept, tests, verdict_of, left, if_accepted, pushed}

-- ---- the order: greater score first by total order; equal scores: smaller packed number first
pub order_is : (e f : Scored) → Fit e → Fit f → better e f ≡ (not (at_most e.score f.score) || (same_score e.score f.score && ltb e.packed f.packed))
order_is = better-is

-- it is a strict weak order, and of two different entries one is better
pub order-holds : Order better
order-holds = better-order

pub order-tells : (e f : Scored) → Fit e → Fit f → level better e f ≡ true → e ≡ f
order-tells = level-same

-- ---- what a push answers: the first of 11, 12 and 4 that finds a fault, and else 0
abbrev pub Answers : ℕ → Scored → Lent → ℕ → Type 0
Answers k e l n = verdict_number (pushed k e l).verdict ≡ n

module _ (k : ℕ) (e : Scored) (l : Lent) where
  pub refuses-k : k ≡ 0 → Answers k e l 11
  unfolding pushed verdict_of
  refuses-k h = rw (eq-eqb k 0 h)

  module _ (some : k ≡ 0 → ⊥) where
    pub refuses-list : well_kept k l && is_number e ≡ false → Answers k e l 12
    unfolding pushed verdict_of
    refuses-list h = rw (ne_eqb k 0 some, h)

    module _ (kept : well_kept k l && is_number e ≡ true) where
      pub refuses-buffer : places (after k l) l ≡ false → Answers k e l 4
      unfolding pushed verdict_of
      refuses-buffer h = rw (ne_eqb k 0 some, kept, h)

      pub accepts : places (after k l) l ≡ true → Answers k e l 0
      unfolding pushed verdict_of
      accepts h = rw (ne_eqb k 0 some, kept, h)

  -- none of the refusals has the number 0
  pub zero-accepts : Answers k e l 0 → (pushed k e l).verdict ≡ Ok tt
  unfolding pushed verdict_of
  zero-accepts h = go (eqb k 0) (not (well_kept k l && is_number e)) (not (places (after k l) l)) h
    where
      go : (a b c : Bool) → let v = first_of ((a gives NothingToKeep) ∷ (b gives WrongKeptList) ∷ (c gives BufferTooShort) ∷ []) in verdict_number v ≡ 0 → v ≡ Ok tt
      go true b c h = let z : ⊥ = omega (arith, h) in absurd z
      go false true c h = let z : ⊥ = omega (arith, h) in absurd z
      go false false true h = let z : ⊥ = omega (arith, h) in absurd z
      go false false false h = refl

-- ---- 1: a push onto a kept list in order without a NaN
-- what is kept: the entries not worse than the new one, it, and the worse ones; of these the first k. They are in order
-- without a NaN, min(length + 1, k) of them, and what lies past them is as it was
pub record Kept (k : ℕ) (e : Scored) (l m : Lent) : Type 0 where
  pub is : entries m ≡ take k (those (λ f. not (better e f)) (entries l) ++ (e ∷ those (better e) (entries l)))
  pub stays_sound : sound (entries m) ≡ true
  pub as_many : m.size ≡ min (suc l.size) k
  pub past_packed : drop m.size m.packed ≡ drop m.size l.packed
  pub past_scores : drop m.size m.scores ≡ drop m.size l.scores

module _ (k : ℕ) (e : Scored) (l : Lent) where
  module _ (w : WellKept k l) (n : is_number e ≡ true) where
    pub settles : places (after k l) l ≡ true → Kept k e l (settled k e l)
    settles p =
        let q = both (leb (after k l) (length l.packed)) (leb (after k l) (length l.scores)) p in
        let m = keep better k e (entries l) in
        let had = length-beside l.size l.packed l.scores w.held w.held_scores in
        let o : in_order better m ≡ true = sorted-keep better better-order k e (entries l) w.best-first in
        let u : every is_number m ≡ true = numbers-kept k e (entries l) n w.numbers in
        rw (settled-in k e l w.few (leb-true (after k l) (length l.packed) q.0) (leb-true (after k l) (length l.scores) q.1))
        record {
          is = entries-written m l ∙ ap (take k) (insert-between better better-order e (entries l) w.best-first);
          stays_sound = rw (entries-written m l, o, u);
          as_many = omega (arith, length-keep better k e (entries l), had);
          past_packed = drop_at (map packed_of m) (drop (length m) l.packed) (length m) (length-map m packed_of);
          past_scores = drop_at (map score_of m) (drop (length m) l.scores) (length m) (length-map m score_of);
        }

    -- and the next push finds no fault with what this one leaves
    pub stays-well-kept : well_kept k (settled k e l) ≡ true
    unfolding settled
    stays-well-kept = go (leb l.size k && places (after k l) l)
      where
        m : List Scored
        m = keep better k e (entries l)

        laid : WellKept k (written m l)
        laid = record {
          few = omega (arith, length-keep better k e (entries l));
          held = omega (arith, length-append (map packed_of m) (drop (length m) l.packed), length-map m packed_of);
          held_scores = omega (arith, length-append (map score_of m) (drop (length m) l.scores), length-map m score_of);
          best-first = rw (entries-written m l) (sorted-keep better better-order k e (entries l) w.best-first);
          numbers = rw (entries-written m l) (numbers-kept k e (entries l) n w.numbers);
        }

        go : (b : Bool) → well_kept k (cond b (written m l) l) ≡ true
        go true = is-well-kept k (written m l) laid
        go false = is-well-kept k l w

  pub accepted-push : Answers k e l 0 → Kept k e l (pushed k e l).list
  unfolding pushed verdict_of
  accepted-push h =
      let v = zero-accepts k e l h in
      let f = faultless (tests k e l) v in
      let w = both (well_kept k l) (is_number e) (not-false _ f.1.0) in
      rw v (settles (well-kept k l w.0) w.1 (not-false _ f.1.1.0))

-- below k a push adds; at k it replaces the worst entry if the new one is better, and else changes nothing
pub record Cases (k : ℕ) (e : Scored) : Type 0 where
  pub adds : (es : List Scored) → length es < k → keep better k e es ≡ insert_after better e es
  pub replaces : (es : List Scored) (worst : Scored) → length (es ++ (worst ∷ [])) ≡ k → better e worst ≡ true → keep better k e (es ++ (worst ∷ [])) ≡ insert_after better e es
  pub stays : (es : List Scored) (worst : Scored) → length (es ++ (worst ∷ [])) ≡ k → better e worst ≡ false → keep better k e (es ++ (worst ∷ [])) ≡ es ++ (worst ∷ [])

pub push-cases : (k : ℕ) (e : Scored) → Cases k e
push-cases k e = record { adds = keep-adds better k e; replaces = λ es w. keep-replaces better k e w es; stays = λ es w. keep-none better k e w es }

-- ---- 2: the k best, over any entries in any strict weak order
module _ {A : Type 0} (better : A → A → Bool) (O : Order better) where
  -- pushing entries onto a list in order leaves the k best of all of them
  pub leaves-k-best : (k : ℕ) (es ps : List A) → in_order better es ≡ true → length es ≤ k → keep_all better k es ps ≡ k_best better k (es ++ ps)
  leaves-k-best = k-best better O

  -- these are the first k of the one list that stands best first and has the entries of each level as they came
  pub best-first : (es : List A) → (in_order better (sorted_by (no_later better) es) ≡ true) × ((x : A) → those (level better x) (sorted_by (no_later better) es) ≡ those (level better x) es)
  best-first es = (sorted_sort better O es, λ x. sort-stable better O x es)

  pub only_one : (l m : List A) → in_order better l ≡ true → in_order better m ≡ true → ((x : A) → those (level better x) l ≡ those (level better x) m) → l ≡ m
  only_one = sort-unique better O

-- and so in lent memory
pub pushes-keep-best : (k : ℕ) (l : Lent) (ps : List Scored) → RoomFor k l → in_order better (entries l) ≡ true → entries (settle_all k l ps) ≡ k_best better k (entries l ++ ps)
pushes-keep-best k l ps r h =
    ap entries (settle-all k l ps r) ∙ entries-written (keep_all better k (entries l) ps) l
    ∙ k-best better better-order k (entries l) ps h (omega (arith, length-beside l.size l.packed l.scores (omega arith) (omega arith)))

-- ---- 3: who is not kept
-- whatever was kept or pushed and is not kept at the end: k others are kept, and each of them is better
pub worse-than-k : (k : ℕ) (es ps : List Scored) → in_order better es ≡ true → length es ≤ k → EachOf Fit (es ++ ps)
    → (d : Scored) → Memᴰ d (es ++ ps) → (Memᴰ d (keep_all better k es ps) → ⊥)
    → (length (keep_all better k es ps) ≡ k) × EachOf (λ f. better f d ≡ true) (keep_all better k es ps)
worse-than-k k es ps h n fit d m out = rw (k-best better better-order k es ps h n) (out-of-best k (es ++ ps) fit d m (rw (k-best better better-order k es ps h n) at out))

-- one that was not taken is not better than the worst
pub not-better : (k : ℕ) (e worst : Scored) (es : List Scored) → length (es ++ (worst ∷ [])) ≡ k → keep better k e (es ++ (worst ∷ [])) ≡ es ++ (worst ∷ []) → better e worst ≡ false
not-better k e worst es = not_taken better better-order k e worst es

-- ---- 4: a push that answers another number than 0
pub refused-push : (k : ℕ) (e : Scored) (l : Lent) (n : ℕ) → Answers k e l n → 0 < n → (pushed k e l).list ≡ l
unfolding pushed
refused-push k e l n a h = go (verdict_of k e l) (rw a h)
  where
    go : (v : Result (Unit {0}) Refusal) → 0 < verdict_number v → if_accepted v (settled k e l) l ≡ l
    go (Ok _) z = let w : ⊥ = omega (arith, z) in absurd w
    go (Err r) z = refl

-- ---- 5: what the contracts allow is one result
pub one-settled : (k : ℕ) (e : Scored) (l : Lent) (a b : Lent) → a ≡ settled k e l → b ≡ settled k e l → a ≡ b
one-settled k e l a b p q = p ∙ sym q

pub one-pushed : (k : ℕ) (e : Scored) (l : Lent) (r s : Result (Unit {0}) Refusal) (a b : Lent) → left r a ≡ pushed k e l → left s b ≡ pushed k e l → (r ≡ s) × (a ≡ b)
one-pushed k e l r s a b p q = (ap (λ x. x.verdict) (p ∙ sym q), ap (λ x. x.list) (p ∙ sym q))
