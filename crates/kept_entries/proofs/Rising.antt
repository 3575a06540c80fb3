-- An entry goes up in a list of entries: what kept_list shows of the two slices, through the map between the two forms.
use Prim.Native.Nat.{ℕ, zero, suc, ◌+◌, ◌≤◌, ◌<◌}
use native.Mathlib.Omega.{arith}
use mathlib.Core.Path.{◌≡◌, refl, ap, ◌∙◌}
use mathlib.Core.Bool.{true, false}
use mathlib.Core.List.{List, [], ◌∷◌, map}
use lib.ListN.{length, get_or, set, length-map, length-set}
use Rattle.kept_list.specs.declared.Scored.{Scored}
use Rattle.kept_list.specs.Entry.{better}
use Rattle.kept_list.specs.Lent.{entry_at, packed_of, score_of, inserted}
use Rattle.kept_entries.proofs.Climbing.{Climbing, climb-start, climb-up, climb-stay, climb-top, laid-down}
use Rattle.kept_entries.specs.Entries.{no_entry, as_lent}

-- ---- a column of the entries
set-map : {B : Type 0} (f : Scored → B) (es : List Scored) (i : ℕ) (e : Scored) → map f (set es i e) ≡ set (map f es) i (f e)
set-map f [] i e = refl
set-map f (w ∷ es) zero e = refl
set-map f (w ∷ es) (suc i) e = ap (λ l. f w ∷ l) (set-map f es i e)

pub entry-is : (es : List Scored) (i : ℕ) → get_or es i no_entry ≡ entry_at i (map packed_of es) (map score_of es)
entry-is [] i = refl
entry-is (e ∷ es) zero = refl
entry-is (e ∷ es) (suc i) = entry-is es i

-- ---- the entry e stands at i, and what is left to do gives what all of it gives
pub record Rising (at : ℕ) (ys : List Scored) (e : Scored) (es : List Scored) (i : ℕ) : Type 0 where
  pub as_many : length es ≡ length ys
  pub within : i ≤ at
  pub climbing : Climbing at (set (map packed_of ys) at e.packed) (set (map score_of ys) at e.score) e (map packed_of es) (map score_of es) i

module _ (at : ℕ) (ys : List Scored) (e : Scored) (room : at < length ys) where
  in-packed : at < length (map packed_of ys)
  in-packed = omega (arith, length-map ys packed_of)

  in-scores : at < length (map score_of ys)
  in-scores = omega (arith, length-map ys score_of)

  pub rise-start : Rising at ys e (set ys at e) at
  rise-start = record {
    as_many = length-set ys at e;
    within = omega arith;
    climbing = rw (set-map packed_of ys at e, set-map score_of ys at e) (climb-start at (map packed_of ys) (map score_of ys) e in-packed in-scores);
  }

  module _ (es : List Scored) (i j : ℕ) (q : i ≡ suc j) (w : Scored) (v : w ≡ get_or es j no_entry) (r : Rising at ys e es i) where
    pub rise-up : better e w ≡ true → Rising at ys e (set (set es i w) j e) j
    rise-up t = record {
      as_many = length-set (set es i w) j e ∙ length-set es i w ∙ r.as_many;
      within = omega (arith, r.within);
      climbing =
          rw (set-map packed_of (set es i w) j e, set-map score_of (set es i w) j e, set-map packed_of es i w, set-map score_of es i w)
          (climb-up at (set (map packed_of ys) at e.packed) (set (map score_of ys) at e.score) e (map packed_of es) (map score_of es) i j q r.climbing w (v ∙ entry-is es j) t);
    }

    pub rise-stay : better e w ≡ false → as_lent (at + 1) es ≡ inserted e (as_lent at ys)
    rise-stay t =
        climb-stay at (set (map packed_of ys) at e.packed) (set (map score_of ys) at e.score) e (map packed_of es) (map score_of es) i j q r.climbing w (v ∙ entry-is es j) t
        ∙ laid-down e at (map packed_of ys) (map score_of ys) in-packed in-scores

  pub rise-top : (es : List Scored) (i : ℕ) → Rising at ys e es i → i ≤ 0 → as_lent (at + 1) es ≡ inserted e (as_lent at ys)
  rise-top es i r n =
      climb-top at (set (map packed_of ys) at e.packed) (set (map score_of ys) at e.score) e (map packed_of es) (map score_of es) i n r.climbing
      ∙ laid-down e at (map packed_of ys) (map score_of ys) in-packed in-scores
