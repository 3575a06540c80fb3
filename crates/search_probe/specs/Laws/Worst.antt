-- The worst kept score is the last one written, the least of all kept, and it never falls once k are kept.
use Rattle.std.specs.Prelude.{ℕ, suc, ◌-◌, ◌<◌, ◌≡◌, refl, true, false, List, [], ◌∷◌, ◌++◌, map, length, get_or, eqb, Float}
use Rattle.std.proofs.Common.{arith, sym, ap, ◌∙◌, subst, le-leb, ne_eqb}
use Rattle.std.proofs.lemmas.List.{length-map}
use Rattle.std.proofs.Math.ListN.{get_or-append, get_or-map}
use Rattle.std.specs.Float.{nan}
use Rattle.sequences.specs.Lists.{EachOf, last_or}
use Rattle.float32.specs.Order.{at_most}
use Rattle.float32.specs.Key.{key_of}
use Rattle.kept_list.specs.declared.Scored.{Scored}
use Rattle.kept_list.specs.Keep.{k_best, in_order}
use Rattle.kept_list.specs.Laws.Best.{sorted-k_best}
use Rattle.kept_list.specs.Entry.{scored, better}
use Rattle.kept_list.specs.Laws.Entry.{better-order}
use Rattle.kept_list.specs.Lent.{score_of}
use Rattle.kept_list.specs.Told.{Fit}
use Rattle.kept_list.specs.Laws.Worst.{BetterThanNone, each_last, last-worst, last-lowest, last-at-most, never-falls, stays-full, no-higher-score}
use Rattle.kept_list.specs.Worst.{no_higher}
use Rattle.search_blocks.specs.Turns.{worst_held}
use Rattle.search_probe.specs.Probing.{worst}

-- it is the score of the last entry
pub worst-last : (e : Scored) (es : List Scored) → worst (e ∷ es) ≡ (last_or e es).score
worst-last e es = ap score_of (last-at e es)
  where
    last-at : (e : Scored) (es : List Scored) → get_or (e ∷ es) (length (e ∷ es) - 1) (scored 0 nan) ≡ last_or e es
    last-at e [] = refl
    last-at e (f ∷ es) =
        let z : length (e ∷ f ∷ es) - 1 ≡ suc (length (f ∷ es) - 1) = omega arith in
        ap (λ n. get_or (e ∷ f ∷ es) n (scored 0 nan)) z ∙ last-at f es

-- of a list in order it stands no higher than any kept score
pub worst-lowest : (es : List Scored) → in_order better es ≡ true → EachOf (λ f. no_higher (worst es) f.score ≡ true) es
worst-lowest [] h = tt
worst-lowest (e ∷ es) h = subst (λ w. EachOf (λ f. no_higher w f.score ≡ true) (e ∷ es)) (sym (worst-last e es)) (last-lowest e es h)

-- and where an f32 holds each of them, it is at most every kept score
pub worst-at-most : (es : List Scored) → EachOf Fit es → in_order better es ≡ true → EachOf (λ f. at_most (worst es) f.score ≡ true) es
worst-at-most [] fit h = tt
worst-at-most (e ∷ es) fit h = subst (λ w. EachOf (λ f. at_most w f.score ≡ true) (e ∷ es)) (sym (worst-last e es)) (last-at-most e es fit h)

-- once k are kept it never falls
pub worst-never-falls : (k : ℕ) (es fs : List Scored) → length (k_best better k es) ≡ k → no_higher (worst (k_best better k es)) (worst (k_best better k (es ++ fs))) ≡ true
worst-never-falls k es fs h =
    go (k_best better k es) (k_best better k (es ++ fs)) (h ∙ sym (stays-full better better-order k es fs h)) (sorted-k_best better better-order k es) (λ w. never-falls better better-order k es fs w h)
  where
    go : (before after : List Scored) → length before ≡ length after → in_order better before ≡ true → ((w : Scored) → BetterThanNone better better-order w before
        → BetterThanNone better better-order w after)
        → no_higher (worst before) (worst after) ≡ true
    go [] [] l o f = le-leb (key_of nan) (key_of nan) (omega arith)
    go [] (a ∷ after) l o f = absurd (omega arith)
    go (b ∷ before) [] l o f = absurd (omega arith)
    go (b ∷ before) (a ∷ after) l o f =
        let w = last_or b before in
        let n = each_last (λ x. better w x ≡ false) a after (f w (last-worst better better-order b before o)) in
        ap (λ x. no_higher x (worst (a ∷ after))) (worst-last b before) ∙ ap (no_higher w.score) (worst-last a after) ∙ no-higher-score w (last_or a after) n

-- ---- laid down in lent memory it is the last score written
pub worst-laid : (es : List Scored) (xs : List Float) → worst_held (length es) (map score_of es ++ xs) ≡ worst es
worst-laid [] xs = refl
worst-laid (e ∷ es) xs =
    let z : eqb (suc (length es)) 0 ≡ false = ne_eqb (suc (length es)) 0 (λ e. omega arith) in
    let n : suc (length es) - 1 < length (map score_of (e ∷ es)) = omega (arith, length-map es score_of) in
    rw z (get_or-append (map score_of (e ∷ es)) xs nan (suc (length es) - 1) n ∙ get_or-map score_of (e ∷ es) (suc (length es) - 1) (scored 0 nan))
