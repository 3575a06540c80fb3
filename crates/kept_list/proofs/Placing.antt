-- The place of a new entry, looked for from the end: past scores that are below its own, and past entries that are worse.
use Prim.Native.Nat.{ℕ, zero, suc, ◌+◌, ◌-◌, ◌≤◌, ◌<◌}
use native.Mathlib.Omega.{arith}
use mathlib.Core.Path.{◌≡◌, refl, sym, ap, ◌∙◌}
use mathlib.Core.Logic.{◌⊎◌, inl, inr}
use mathlib.Core.Bool.{true, false}
use mathlib.Core.List.{List, [], ◌∷◌, ◌++◌}
use lib.ListN.{length, get_or, set, take, drop, length-set}
use lib.Seq.{get_or-take, get_or-drop}
use lib.Ieee.{Float, nan, lt}
use Rattle.sequences.specs.Lists.{every}
use Rattle.sequences.specs.Laws.Lists.{le-or-lt, every-each, part_length}
use Rattle.sequences.specs.Laws.Each.{each_at}
use Rattle.float32.specs.Fitting.{Fitting}
use Rattle.kept_list.specs.declared.Scored.{Scored}
use Rattle.kept_list.specs.Keep.{beats, insert_after}
use Rattle.kept_list.specs.Entry.{scored, better}
use Rattle.kept_list.specs.Laws.Entry.{better-of-lt}
use Rattle.kept_list.specs.Laws.Pushing.{insert-at}
use Rattle.kept_list.specs.Lent.{lent, entry_at, entries, inserted}
use Rattle.kept_list.specs.Laws.Laid.{length-beside, entry-at}
use Rattle.kept_list.specs.Inserting.{moved_down, Worse, Found}
use Rattle.kept_list.proofs.Laying.{moved_length, moved-above, moved_none, moved-one, moved_twice, laid_in_lem, inserted-laid}

-- the entries of which a part of the scores is below are worse
part-worse : (e : Scored) (ps : List ℕ) (xs : List Float) (a i j : ℕ) → a ≤ j → j < i → i ≤ length xs → every (λ y. lt y e.score) (take (i - a) (drop a xs)) ≡ true
    → Fitting e.score (take (i - a) (drop a xs)) → better e (entry_at j ps xs) ≡ true
part-worse e ps xs a i j l m h t f =
    let w : a + (j - a) ≡ j = omega arith in
    let q : get_or (take (i - a) (drop a xs)) (j - a) nan ≡ get_or xs j nan = get_or-take (i - a) (drop a xs) (j - a) nan (omega arith) ∙ get_or-drop a xs (j - a) nan ∙ ap (λ k. get_or xs k nan) w in
    let b = each_at (λ y. lt y e.score ≡ true) (take (i - a) (drop a xs)) (j - a) nan (omega (arith, part_length a (i - a) xs (omega arith))) (every-each (λ y. lt y e.score) (take (i - a) (drop a xs)) t) in
    better-of-lt e (entry_at j ps xs) f.0 (rw q at (f.1 (j - a))) (ap (λ y. lt y e.score) (sym q) ∙ b)

-- ---- going up: what went down so far, and that it is worse
pub record Going (at : ℕ) (ps₀ : List ℕ) (xs₀ : List Float) (e : Scored) (ps : List ℕ) (xs : List Float) (i : ℕ) : Type 0 where
  pub as_many : length ps ≡ length ps₀
  pub as_many_scores : length xs ≡ length xs₀
  pub packed : ps ≡ moved_down i at ps₀
  pub scores : xs ≡ moved_down i at xs₀
  pub passed : Worse e at ps₀ xs₀ i

module _ (at : ℕ) (ps₀ : List ℕ) (xs₀ : List Float) (e : Scored) (h : at < length ps₀) (k : at < length xs₀) where
  pub go-start : Going at ps₀ xs₀ e ps₀ xs₀ at
  go-start = record {
    as_many = refl;
    as_many_scores = refl;
    packed = moved_none at ps₀;
    scores = moved_none at xs₀;
    passed = record { within = omega arith; each = λ j l u. absurd (omega arith) };
  }

  -- above the place nothing is changed
  pub same_above : (ps : List ℕ) (xs : List Float) (i j : ℕ) → Going at ps₀ xs₀ e ps xs i → j ≤ i → entry_at j ps xs ≡ entry_at j ps₀ xs₀
  same_above ps xs i j g l =
      ap (λ p. scored p (get_or xs j nan)) (ap (λ s. get_or s j 0) g.packed ∙ moved-above 0 at ps₀ h i j g.passed.within l)
      ∙ ap (scored (get_or ps₀ j 0)) (ap (λ s. get_or s j nan) g.scores ∙ moved-above nan at xs₀ k i j g.passed.within l)

  -- from there on some more went down, each of them worse
  go_on : (ps : List ℕ) (xs : List Float) (i a : ℕ) (ps' : List ℕ) (xs' : List Float) → Going at ps₀ xs₀ e ps xs i → a ≤ i → ps' ≡ moved_down a at ps₀ → xs' ≡ moved_down a at xs₀
      → ((j : ℕ) → a ≤ j → j < i → better e (entry_at j ps xs) ≡ true) → Going at ps₀ xs₀ e ps' xs' a
  go_on ps xs i a ps' xs' g l p x b =
      let w = g.passed.within in
      record {
        as_many = ap length p ∙ moved_length 0 at ps₀ h a (omega arith);
        as_many_scores = ap length x ∙ moved_length nan at xs₀ k a (omega arith);
        packed = p;
        scores = x;
        passed = record { within = omega arith; each = λ j m u. pick j m u (le-or-lt i j) };
      }
    where
      pick : (j : ℕ) → a ≤ j → j < at → (i ≤ j) ⊎ (j < i) → better e (entry_at j ps₀ xs₀) ≡ true
      pick j m u (inl n) = g.passed.each j n u
      pick j m u (inr n) = ap (better e) (sym (same_above ps xs i j g (omega arith))) ∙ b j m n

  pub go-worse : (ps : List ℕ) (xs : List Float) (i a : ℕ) (ps' : List ℕ) (xs' : List Float) → Going at ps₀ xs₀ e ps xs i → Worse e i ps xs a → ps' ≡ moved_down a i ps → xs' ≡ moved_down a i xs
      → Going at ps₀ xs₀ e ps' xs' a
  go-worse ps xs i a ps' xs' g m p x =
      let l = m.within in
      let w = g.passed.within in
      go_on ps xs i a ps' xs' g l (p ∙ moved_twice 0 at ps₀ h ps i a w l g.packed) (x ∙ moved_twice nan at xs₀ k xs i a w l g.scores) m.each

  pub go-part : (ps : List ℕ) (xs : List Float) (i a : ℕ) (ps' : List ℕ) (xs' : List Float) → Going at ps₀ xs₀ e ps xs i → a ≤ i → every (λ y. lt y e.score) (take (i - a) (drop a xs)) ≡ true
      → Fitting e.score (take (i - a) (drop a xs)) → ps' ≡ moved_down a i ps → xs' ≡ moved_down a i xs → Going at ps₀ xs₀ e ps' xs' a
  go-part ps xs i a ps' xs' g l t f p x =
      let w = g.passed.within in
      go-worse ps xs i a ps' xs' g (record { within = l; each = λ j m u. part-worse e ps xs a i j m u (omega (arith, g.as_many_scores)) t f }) p x

  pub go-one : (ps : List ℕ) (xs : List Float) (i j : ℕ) (w : Scored) → Going at ps₀ xs₀ e ps xs i → i ≡ suc j → w ≡ entry_at j ps xs → better e w ≡ true → Going at ps₀ xs₀ e (set ps i w.packed) (set xs i w.score) j
  go-one ps xs i j w g q v b =
      let s : w ≡ entry_at j ps₀ xs₀ = v ∙ same_above ps xs i j g (omega arith) in
      let m = g.passed.within in
      go_on ps xs i j (set ps i w.packed) (set xs i w.score) g (omega arith) (moved-one 0 at ps₀ h ps i j w.packed q m g.packed (ap (λ z. z.packed) s)) (moved-one nan at xs₀ k xs i j w.score q m g.scores (ap (λ z. z.score) s))
      (λ n l u. let z : n ≡ j = omega arith in ap (λ n. better e (entry_at n ps xs)) z ∙ ap (better e) (sym v) ∙ b)

  -- first one pass and then another
  pub go-twice : (ps : List ℕ) (xs : List Float) (i : ℕ) (ps' : List ℕ) (xs' : List Float) (a : ℕ) → ps ≡ moved_down i at ps₀ → xs ≡ moved_down i at xs₀ → Worse e at ps₀ xs₀ i
      → ps' ≡ moved_down a i ps → xs' ≡ moved_down a i xs → Worse e i ps xs a → Going at ps₀ xs₀ e ps' xs' a
  go-twice ps xs i ps' xs' a p x m p' x' n = go-worse ps xs i a ps' xs' (go-worse ps₀ xs₀ at i ps xs go-start m p x) n p' x'

  -- ---- the place
  pub found-top : (ps : List ℕ) (xs : List Float) (i : ℕ) → Going at ps₀ xs₀ e ps xs i → i ≤ 0 → Found e at ps₀ xs₀ i
  found-top ps xs i g z = record { passed = g.passed; stop = λ j q. absurd (omega arith) }

  pub found_below : (ps : List ℕ) (xs : List Float) (i j : ℕ) (w : Scored) → Going at ps₀ xs₀ e ps xs i → i ≡ suc j → w ≡ entry_at j ps xs → better e w ≡ false → Found e at ps₀ xs₀ i
  found_below ps xs i j w g q v b = record {
    passed = g.passed;
    stop = λ n r. let z : n ≡ j = omega arith in ap (λ n. better e (entry_at n ps₀ xs₀)) z ∙ ap (better e) (sym (v ∙ same_above ps xs i j g (omega arith))) ∙ b;
  }

  all-worse : (l : List Scored) (i : ℕ) → i ≤ length l → ((j : ℕ) → i ≤ j → j < length l → better e (get_or l j e) ≡ true) → beats better e (drop i l) ≡ true
  all-worse [] zero m b = refl
  all-worse [] (suc i) m b = absurd (omega arith)
  all-worse (f ∷ fs) zero m b = let y : better e f ≡ true = b 0 (omega arith) (omega arith) in rw (y, all-worse fs zero (omega arith) (λ j l u. b (suc j) (omega arith) (omega arith)))
  all-worse (f ∷ fs) (suc i) m b = all-worse fs i (omega arith) (λ j l u. b (suc j) (omega arith) (omega arith))

  place_is : (r : ℕ) → Found e at ps₀ xs₀ r → insert_after better e (entries (lent at ps₀ xs₀)) ≡ take r (entries (lent at ps₀ xs₀)) ++ (e ∷ drop r (entries (lent at ps₀ xs₀)))
  place_is r f =
      let m : length (entries (lent at ps₀ xs₀)) ≡ at = length-beside at ps₀ xs₀ (omega arith) (omega arith) in
      let w = f.passed.within in
      insert-at better e e (entries (lent at ps₀ xs₀)) r (omega arith)
      (all-worse (entries (lent at ps₀ xs₀)) r (omega arith) (λ j l u. ap (better e) (entry-at e at j ps₀ xs₀ (omega arith) (omega arith) (omega arith)) ∙ f.passed.each j l (omega arith)))
      (λ j q. ap (better e) (entry-at e at j ps₀ xs₀ (omega arith) (omega arith) (omega arith)) ∙ f.stop j q)

  -- up past eights and then past single ones, and the entry written there
  pub record Ended (ps : List ℕ) (xs : List Float) (r : ℕ) : Type 0 where
    pub as_many : length (set ps r e.packed) ≡ length ps₀
    pub as_many_scores : length (set xs r e.score) ≡ length xs₀
    pub gives : lent (at + 1) (set ps r e.packed) (set xs r e.score) ≡ inserted e (lent at ps₀ xs₀)

  pub go-end : (ps : List ℕ) (xs : List Float) (i : ℕ) (ps' : List ℕ) (xs' : List Float) (r : ℕ) → ps ≡ moved_down i at ps₀ → xs ≡ moved_down i at xs₀ → Worse e at ps₀ xs₀ i
      → ps' ≡ moved_down r i ps → xs' ≡ moved_down r i xs → Found e i ps xs r → Ended ps' xs' r
  go-end ps xs i ps' xs' r p x m p' x' f =
      let g : Going at ps₀ xs₀ e ps xs i = go-worse ps₀ xs₀ at i ps xs go-start m p x in
      let t : Going at ps₀ xs₀ e ps' xs' r = go-worse ps xs i r ps' xs' g f.passed p' x' in
      let w = t.passed.within in
      let l = f.passed.within in
      let o : Found e at ps₀ xs₀ r = record { passed = t.passed; stop = λ j q. ap (better e) (sym (same_above ps xs i j g (omega arith))) ∙ f.stop j q } in
      record {
        as_many = length-set ps' r e.packed ∙ t.as_many;
        as_many_scores = length-set xs' r e.score ∙ t.as_many_scores;
        gives =
            ap (λ s. lent (at + 1) s (set xs' r e.score)) (ap (λ s. set s r e.packed) t.packed ∙ laid_in_lem 0 at ps₀ h e.packed r w)
            ∙ ap (lent (at + 1) _) (ap (λ s. set s r e.score) t.scores ∙ laid_in_lem nan at xs₀ k e.score r w)
            ∙ inserted-laid e at ps₀ xs₀ r h k w (place_is r o);
      }
