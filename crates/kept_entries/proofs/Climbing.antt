-- The exchange of neighbours, over plain lists: what is left to do gives what all of it gives.
use Prim.Native.Nat.{ℕ, zero, suc, ◌+◌, ◌≤◌, ◌<◌}
use native.Mathlib.Omega.{arith}
use native.Mathlib.Numerals.{add-one}
use mathlib.Core.Path.{◌≡◌, refl, sym, ap, ◌∙◌}
use mathlib.Core.Bool.{true, false}
use mathlib.Core.List.{List, [], ◌∷◌, ◌++◌, map, map-append, append_assoc}
use lib.ListN.{length, get_or, set, take, drop, length-set}
use lib.Seq.{take-set-le, drop-set-lt, drop-cons, get_or-set_same, split_at, lt-length-set}
use lib.Ieee.{Float, nan}
use Rattle.kept_list.specs.declared.Scored.{Scored}
use Rattle.kept_list.specs.Keep.{insert_after}
use Rattle.kept_list.specs.Laws.Pushing.{insert-last, insert-before-last}
use Rattle.kept_list.specs.Entry.{better}
use Rattle.kept_list.specs.Laws.Laid.{beside_snoc, packed-beside, scores-beside, column, inserted-is}
use Rattle.kept_list.specs.Lent.{lent, entry_at, packed_of, score_of, entries, inserted}

-- ---- one column
take-two : {B : Type 0} (c : List B) (j : ℕ) (v u : B) → take j (set (set c (suc j) v) j u) ≡ take j c
take-two c j v u = take-set-le j (set c (suc j) v) j u (omega arith) ∙ take-set-le j c (suc j) v (omega arith)

drop-two : {B : Type 0} (c : List B) (j : ℕ) (v u : B) → suc j < length c → drop (suc j) (set (set c (suc j) v) j u) ≡ v ∷ drop (suc (suc j)) c
drop-two c j v u h =
    drop-set-lt (suc j) (set c (suc j) v) j u (omega arith)
    ∙ drop-cons (set c (suc j) v) (suc j) v (lt-length-set c (suc j) v h)
    ∙ ap (λ x. x ∷ drop (suc (suc j)) (set c (suc j) v)) (get_or-set_same c (suc j) v v h)
    ∙ ap (λ l. v ∷ l) (drop-set-lt (suc (suc j)) c (suc j) v (omega arith))

column-up : {B : Type 0} (f : Scored → B) (e w : Scored) (l : List Scored) (j : ℕ) (c : List B) → suc j < length c → better e w ≡ true
    → column f e l j (set (set c (suc j) (f w)) j (f e)) ≡ column f e (l ++ (w ∷ [])) (suc j) c
column-up f e w l j c h b =
    ap (λ r. map f (insert_after better e l) ++ r) (drop-two c j (f w) (f e) h)
    ∙ sym (append_assoc (map f (insert_after better e l)) (f w ∷ []) (drop (suc (suc j)) c))
    ∙ ap (λ r. r ++ drop (suc (suc j)) c) (sym (map-append f (insert_after better e l) (w ∷ [])))
    ∙ ap (λ r. map f r ++ drop (suc (suc j)) c) (sym (insert-before-last better e w l b))

column-stay : {B : Type 0} (f : Scored → B) (e w : Scored) (l : List Scored) (j : ℕ) (c : List B) (d : B) → suc j < length c → better e w ≡ false
    → map f (l ++ (w ∷ [])) ≡ take (suc j) c → get_or c (suc j) d ≡ f e → c ≡ column f e (l ++ (w ∷ [])) (suc j) c
column-stay f e w l j c d h b t g =
    split_at c (suc j) d h
    ∙ ap (λ r. take (suc j) c ++ r ∷ drop (suc (suc j)) c) g
    ∙ ap (λ r. r ++ f e ∷ drop (suc (suc j)) c) (sym t)
    ∙ sym (append_assoc (map f (l ++ (w ∷ []))) (f e ∷ []) (drop (suc (suc j)) c))
    ∙ ap (λ r. r ++ drop (suc (suc j)) c) (sym (map-append f (l ++ (w ∷ [])) (e ∷ [])))
    ∙ ap (λ r. map f r ++ drop (suc (suc j)) c) (append_assoc l (w ∷ []) (e ∷ []) ∙ sym (insert-last better e w l b))

column-top : {B : Type 0} (f : Scored → B) (e : Scored) (c : List B) (d : B) → 0 < length c → get_or c 0 d ≡ f e → c ≡ column f e [] 0 c
column-top f e c d h g = drop-cons c 0 d h ∙ ap (λ r. r ∷ drop 1 c) g

-- ---- climbing: the entry stands at i, and what is left to do gives what all of it gives
pub record Climbing (at : ℕ) (ps₀ : List ℕ) (xs₀ : List Float) (e : Scored) (ps : List ℕ) (xs : List Float) (i : ℕ) : Type 0 where
  pub within : i ≤ at
  pub room : at < length ps
  pub room_scores : at < length xs
  pub as_many : length ps ≡ length ps₀
  pub as_many_scores : length xs ≡ length xs₀
  pub here : get_or ps i 0 ≡ e.packed
  pub here_score : get_or xs i nan ≡ e.score
  pub left : column packed_of e (entries (lent i ps xs)) i ps ≡ column packed_of e (entries (lent at ps₀ xs₀)) at ps₀
  pub left_scores : column score_of e (entries (lent i ps xs)) i xs ≡ column score_of e (entries (lent at ps₀ xs₀)) at xs₀

pub climb-start : (at : ℕ) (ps : List ℕ) (xs : List Float) (e : Scored) → at < length ps → at < length xs → Climbing at (set ps at e.packed) (set xs at e.score) e (set ps at e.packed) (set xs at e.score) at
climb-start at ps xs e h k = record {
  within = omega arith;
  room = lt-length-set ps at e.packed h;
  room_scores = lt-length-set xs at e.score k;
  as_many = refl;
  as_many_scores = refl;
  here = get_or-set_same ps at e.packed 0 h;
  here_score = get_or-set_same xs at e.score nan k;
  left = refl;
  left_scores = refl;
}

module _ (at : ℕ) (ps₀ : List ℕ) (xs₀ : List Float) (e : Scored) (ps : List ℕ) (xs : List Float) where
  up : (j : ℕ) → Climbing at ps₀ xs₀ e ps xs (suc j) → better e (entry_at j ps xs) ≡ true
      → Climbing at ps₀ xs₀ e (set (set ps (suc j) (get_or ps j 0)) j e.packed) (set (set xs (suc j) (get_or xs j nan)) j e.score) j
  up j c b =
      let w = entry_at j ps xs in
      let hp : suc j < length ps = omega arith in
      let hx : suc j < length xs = omega arith in
      let same : entries (lent j (set (set ps (suc j) (get_or ps j 0)) j e.packed) (set (set xs (suc j) (get_or xs j nan)) j e.score)) ≡ entries (lent j ps xs) =
      rw (take-two ps j (get_or ps j 0) e.packed, take-two xs j (get_or xs j nan) e.score) in
      let snoc : entries (lent (suc j) ps xs) ≡ entries (lent j ps xs) ++ (w ∷ []) = beside_snoc j ps xs (omega arith) (omega arith) in
      record {
        within = omega arith;
        room = omega (arith, length-set (set ps (suc j) (get_or ps j 0)) j e.packed, length-set ps (suc j) (get_or ps j 0));
        room_scores = omega (arith, length-set (set xs (suc j) (get_or xs j nan)) j e.score, length-set xs (suc j) (get_or xs j nan));
        as_many = length-set (set ps (suc j) (get_or ps j 0)) j e.packed ∙ length-set ps (suc j) (get_or ps j 0) ∙ c.as_many;
        as_many_scores = length-set (set xs (suc j) (get_or xs j nan)) j e.score ∙ length-set xs (suc j) (get_or xs j nan) ∙ c.as_many_scores;
        here = get_or-set_same (set ps (suc j) (get_or ps j 0)) j e.packed 0 (omega (arith, length-set ps (suc j) (get_or ps j 0)));
        here_score = get_or-set_same (set xs (suc j) (get_or xs j nan)) j e.score nan (omega (arith, length-set xs (suc j) (get_or xs j nan)));
        left = rw same (column-up packed_of e w (entries (lent j ps xs)) j ps hp b ∙ ap (λ l. column packed_of e l (suc j) ps) (sym snoc) ∙ c.left);
        left_scores = rw same (column-up score_of e w (entries (lent j ps xs)) j xs hx b ∙ ap (λ l. column score_of e l (suc j) xs) (sym snoc) ∙ c.left_scores);
      }

  pub climb-up : (i j : ℕ) → i ≡ suc j → Climbing at ps₀ xs₀ e ps xs i → (w : Scored) → w ≡ entry_at j ps xs → better e w ≡ true
      → Climbing at ps₀ xs₀ e (set (set ps i w.packed) j e.packed) (set (set xs i w.score) j e.score) j
  climb-up i j q c w v b = rw (v, q) (up j (rw q at c) (rw v at b))

  done : (i : ℕ) → Climbing at ps₀ xs₀ e ps xs i → ps ≡ column packed_of e (entries (lent i ps xs)) i ps → xs ≡ column score_of e (entries (lent i ps xs)) i xs
      → lent (at + 1) ps xs ≡ inserted e (lent at ps₀ xs₀)
  done i c p x =
      let a : ps ≡ column packed_of e (entries (lent at ps₀ xs₀)) at ps₀ = p ∙ c.left in
      let b : xs ≡ column score_of e (entries (lent at ps₀ xs₀)) at xs₀ = x ∙ c.left_scores in
      ap (λ n. lent n ps xs) (add-one at) ∙ ap (λ l. lent (suc at) l xs) a ∙ ap (lent (suc at) (column packed_of e (entries (lent at ps₀ xs₀)) at ps₀)) b
      ∙ sym (inserted-is e at ps₀ xs₀ (omega arith) (omega arith))

  stay : (j : ℕ) → Climbing at ps₀ xs₀ e ps xs (suc j) → better e (entry_at j ps xs) ≡ false → lent (at + 1) ps xs ≡ inserted e (lent at ps₀ xs₀)
  stay j c b =
      let w = entry_at j ps xs in
      let hp : suc j < length ps = omega arith in
      let hx : suc j < length xs = omega arith in
      let snoc : entries (lent (suc j) ps xs) ≡ entries (lent j ps xs) ++ (w ∷ []) = beside_snoc j ps xs (omega arith) (omega arith) in
      done (suc j) c
      (rw snoc (column-stay packed_of e w (entries (lent j ps xs)) j ps 0 hp b (ap (map packed_of) (sym snoc) ∙ packed-beside (suc j) ps xs (omega arith) (omega arith)) c.here))
      (rw snoc (column-stay score_of e w (entries (lent j ps xs)) j xs nan hx b (ap (map score_of) (sym snoc) ∙ scores-beside (suc j) ps xs (omega arith) (omega arith)) c.here_score))

  pub climb-stay : (i j : ℕ) → i ≡ suc j → Climbing at ps₀ xs₀ e ps xs i → (w : Scored) → w ≡ entry_at j ps xs → better e w ≡ false → lent (at + 1) ps xs ≡ inserted e (lent at ps₀ xs₀)
  climb-stay i j q c w v b = stay j (rw q at c) (rw v at b)

  pub climb-top : (i : ℕ) → i ≤ 0 → Climbing at ps₀ xs₀ e ps xs i → lent (at + 1) ps xs ≡ inserted e (lent at ps₀ xs₀)
  climb-top zero q c = done zero c (column-top packed_of e ps 0 (omega arith) c.here) (column-top score_of e xs nan (omega arith) c.here_score)
  climb-top (suc i) q c = absurd (omega arith)

-- ---- what lay at the place before does not matter
pub laid-down : (e : Scored) (at : ℕ) (ps : List ℕ) (xs : List Float) → at < length ps → at < length xs
    → inserted e (lent at (set ps at e.packed) (set xs at e.score)) ≡ inserted e (lent at ps xs)
laid-down e at ps xs h k =
    let sp = set ps at e.packed in
    let sx = set xs at e.score in
    let same : entries (lent at sp sx) ≡ entries (lent at ps xs) = rw (take-set-le at ps at e.packed (omega arith), take-set-le at xs at e.score (omega arith)) in
    inserted-is e at sp sx (omega (arith, length-set ps at e.packed)) (omega (arith, length-set xs at e.score))
    ∙ ap (λ es. lent (suc at) (column packed_of e es at sp) (column score_of e es at sx)) same
    ∙ ap (λ r. lent (suc at) (map packed_of (insert_after better e (entries (lent at ps xs))) ++ r) (column score_of e (entries (lent at ps xs)) at sx)) (drop-set-lt (suc at) ps at e.packed (omega arith))
    ∙ ap (λ r. lent (suc at) (column packed_of e (entries (lent at ps xs)) at ps) (map score_of (insert_after better e (entries (lent at ps xs))) ++ r)) (drop-set-lt (suc at) xs at e.score (omega arith))
    ∙ sym (inserted-is e at ps xs (omega arith) (omega arith))
