-- Both loops find what document 01 asks for, with no condition on the values.
use Rattle.std.specs.Prelude.{ℕ, ◌≡◌, refl, Bool, true, false, not, ℤ, pos, T, ltb, Float}
use Rattle.std.proofs.Common.{arith, sym, ap, ◌∙◌, subst, inl, inr, le-ltb, ltb-false}
use Rattle.std.proofs.Math.Bool.{not-not}
use mathlib.Core.List.{List, [], ◌∷◌, ◌++◌, map, foldl, zip_with}
use Rattle.std.specs.Float.{nan, inf, fin, binary32}
use Rattle.std.specs.Float.Ieee.{fits, lt, eq, is_nan, below}
use Rattle.float32.specs.Units.{one, mag}
use Rattle.float32.specs.Order.{at_most}
use Rattle.float32.specs.Laws.OrderLaws.{at_most-refl, at_most-trans, at_most-total}
use Rattle.float32.specs.Laws.Heights.{height, lt-units, at-most-is}
use Rattle.float32.specs.Laws.Tests.{is_true, yes}
use Rattle.sequences.specs.Lists.{EachOf, those, first_or, last_or}
use Rattle.sequences.specs.Laws.Greatest.{highest, Under, Below, last-greatest, last-fold, strict-fold}
use Rattle.sequences.specs.Laws.Lists.{not-less}
use Rattle.documents.specs.Documents.{Term, Documents, terms, dot, largest}
use Rattle.documents.specs.Laws.Documents.{dot-fits}
use Rattle.cluster_nearest.specs.declared.Candidate.{Candidate}
use Rattle.cluster_nearest.specs.Nearest.{candidate, centroid_of, candidates, greatest, above_zero, nearest, nearly, if_greater, first_above, last_from, last_no_less}

-- ---- 0 is an f32
abbrev zero : Float
zero = fin false 0 (pos 0)

zero-fits : T (fits binary32 zero)
unfolding fits
zero-fits = tt

-- ---- candidates by score
abbrev pub no_more : Candidate → Candidate → Bool
no_more a b = at_most a.score b.score

abbrev pub Fits : Candidate → Type 0
Fits c = T (fits binary32 c.score)

candidates-fit : (d : Documents) (q : List Term) (cs : List ℕ) → EachOf Fits (candidates d q cs)
candidates-fit d q [] = tt
candidates-fit d q (c ∷ cs) = (dot-fits q (terms d c), candidates-fit d q cs)

same_true : (a : Candidate) → Fits a → no_more a a ≡ true
same_true a f = is_true (no_more a a) (at_most-refl a.score f)

other_way : (a b : Candidate) → Fits a → Fits b → no_more a b ≡ false → no_more b a ≡ true
other_way a b f g h = elim (at_most-total a.score b.score f g) [
  | inl x ↦ absurd (subst T h x)
  | inr y ↦ is_true (no_more b a) y
]

through : (a b c : Candidate) → Fits a → Fits b → Fits c → no_more a b ≡ true → no_more b c ≡ true → no_more a c ≡ true
through a b c f g h p q = is_true (no_more a c) (at_most-trans a.score b.score c.score f g h (yes (no_more a b) p) (yes (no_more b c) q))

last-map : (n : Candidate) (cs : List Candidate) → last_or (centroid_of n) (map centroid_of cs) ≡ centroid_of (last_or n cs)
last-map n [] = refl
last-map n (c ∷ cs) = last-map c cs

first-map : (n : Candidate) (cs : List Candidate) → first_or (centroid_of n) (map centroid_of cs) ≡ centroid_of (first_or n cs)
first-map n [] = refl
first-map n (c ∷ cs) = refl

zip-map : (F : ℕ → Float) (cs : List ℕ) (back : List Float) → zip_with candidate cs (map F cs ++ back) ≡ map (λ c. candidate c (F c)) cs
unfolding zip_with
zip-map F [] back = refl
zip-map F (c ∷ cs) back = ap (λ l. candidate c (F c) ∷ l) (zip-map F cs back)

-- ---- approximate
last-is : (first : ℕ) (cs : List Candidate) → EachOf Fits cs → last_or first (map centroid_of (greatest cs)) ≡ last_from first cs
unfolding greatest
last-is first [] e = refl
last-is first (c ∷ cs) e =
    last-map (candidate first zero) (highest no_more (c ∷ cs))
    ∙ ap centroid_of (last-fold no_more Fits same_true other_way through (candidate first zero) c cs e.0 e.1)

-- a candidate that none before it is above, and that all after it are below, is the one that is found
pub last-at : (first : ℕ) (front : List Candidate) (c : Candidate) (back : List Candidate) → EachOf Fits (front ++ (c ∷ back)) → Fits c
    → EachOf (Under no_more c) front → EachOf (Under no_more c) back → EachOf (Below no_more c) back → last_from first (front ++ (c ∷ back)) ≡ centroid_of c
unfolding greatest
last-at first front c back e f under less below =
    sym (last-is first (front ++ (c ∷ back)) e)
    ∙ last-map (candidate first zero) (highest no_more (front ++ (c ∷ back)))
    ∙ ap centroid_of (last-greatest no_more front c back (same_true c f) (candidate first zero) under less below)

pub nearly-loop : (d : Documents) (cut first : ℕ) (cs : List ℕ) (i : ℕ) (back : List Float)
    → last_no_less first cs (map (λ c. dot (largest cut (terms d i)) (terms d c)) cs ++ back) ≡ nearly d cut first cs i
unfolding nearly last_no_less
nearly-loop d cut first cs i back =
    let q = largest cut (terms d i) in
    ap (last_from first) (zip-map (λ c. dot q (terms d c)) cs back) ∙ sym (last-is first (candidates d q cs) (candidates-fit d q cs))

-- ---- exact: `>` on numbers above zero is the total order
none_left : (a b : ℕ) → ltb 0 b ≡ false → ltb a b ≡ false
none_left a b h = le-ltb a b (omega (arith, ltb-false 0 b h))

zero-below : (n : ℕ) (x : ℤ) → T (fits binary32 (fin false n x)) → lt zero (fin false n x) ≡ ltb (mag zero) (mag (fin false n x))
zero-below n x f = lt-units false false 0 n (pos 0) x zero-fits f

mag-zero : mag zero ≡ 0
unfolding mag one
mag-zero = refl

both-fin : (m n : ℕ) (e d : ℤ) → T (fits binary32 (fin false m e)) → T (fits binary32 (fin false n d)) → lt (fin false m e) (fin false n d) ≡ not (at_most (fin false n d) (fin false m e))
unfolding height
both-fin m n e d f g = lt-units false false m n e d f g ∙ sym (not-not _) ∙ ap not (not-less (mag (fin false m e)) (mag (fin false n d)))
    ∙ ap not (sym (at-most-is (fin false n d) (fin false m e) g f))

above-is : (x y : Float) → T (fits binary32 x) → T (fits binary32 y) → lt zero x ≡ true → lt zero y ≡ true → lt x y ≡ not (at_most y x)
unfolding lt at_most eq is_nan
above-is nan y f g h k = cc
above-is (inf true) y f g h k = cc
above-is (inf false) nan f g h k = cc
above-is (inf false) (inf true) f g h k = cc
above-is (inf false) (inf false) f g h k = refl
above-is (inf false) (fin true n d) f g h k = cc
above-is (inf false) (fin false n d) f g h k = refl
above-is (fin true m e) y f g h k = cc
above-is (fin false m e) nan f g h k = cc
above-is (fin false m e) (inf true) f g h k = cc
above-is (fin false m e) (inf false) f g h k = refl
above-is (fin false m e) (fin true n d) f g h k = cc
above-is (fin false m e) (fin false n d) f g h k = both-fin m n e d f g

never-above : (x y : Float) → T (fits binary32 x) → T (fits binary32 y) → lt zero x ≡ true → lt zero y ≡ false → lt x y ≡ false
unfolding lt
never-above nan y f g h k = refl
never-above (inf true) y f g h k = cc
never-above (inf false) nan f g h k = refl
never-above (inf false) (inf t) f g h k = refl
never-above (inf false) (fin t n d) f g h k = refl
never-above (fin true m e) y f g h k = cc
never-above (fin false m e) nan f g h k = refl
never-above (fin false m e) (inf t) f g h k = k
never-above (fin false m e) (fin true n d) f g h k = refl
never-above (fin false m e) (fin false n d) f g h k =
    lt-units false false m n e d f g ∙ none_left (mag (fin false m e)) (mag (fin false n d)) (ap (λ z. ltb z (mag (fin false n d))) (sym mag-zero) ∙ sym (zero-below n d g) ∙ k)

pub nearest-loop : (d : Documents) (cs : List ℕ) (i : ℕ) (back : List Float) → first_above cs (map (λ c. dot (terms d i) (terms d c)) cs ++ back) ≡ nearest d cs i
unfolding nearest greatest first_above
nearest-loop d centroids i back =
    let start = candidate (first_or 0 centroids) zero in
    let cs = candidates d (terms d i) centroids in
    ap (λ l. centroid_of (foldl if_greater start l)) (zip-map (λ c. dot (terms d i) (terms d c)) centroids back)
    ∙ ap centroid_of
    (strict-fold no_more Fits same_true other_way through (λ m c. lt m.score c.score) above_zero start
    (λ m x f g h k. above-is m.score x.score f g h k) (λ m x f g h k. never-above m.score x.score f g h k) (λ x. refl) cs (candidates-fit d (terms d i) centroids))
    ∙ sym (first-map start (highest no_more (those above_zero cs)))
