-- Laws of Laid: entries laid down in two lent slices are read back, a push there is `keep`, and pushes one after another are `keep_all`.
use Rattle.std.specs.Prelude.{ℕ, zero, suc, ◌≤◌, ◌<◌, min, ◌≡◌, refl, List, [], ◌∷◌, ◌++◌, map, length, get_or, take, drop, Float}
use Rattle.std.proofs.Common.{arith, sym, ap, ◌∙◌, length-drop, length-append, take-append-drop, take_at, le-leb}
use Rattle.std.proofs.lemmas.List.{length-map}
use Rattle.std.proofs.Math.Seq.{drop-nil}
use Rattle.kept_list.specs.declared.Scored.{Scored}
use Rattle.kept_list.specs.Keep.{insert_after, keep, keep_all}
use Rattle.kept_list.specs.Laws.Pushing.{length-insert, length-keep}
use Rattle.kept_list.specs.Entry.{scored, better}
use Rattle.kept_list.specs.Lent.{Lent, lent, entry_at, packed_of, score_of, beside, entries, written, inserted, settled}
use Rattle.kept_list.specs.Laid.{RoomFor, settle_all}

-- ---- the entries of two slices
pub beside_snoc : (j : ℕ) (ps : List ℕ) (xs : List Float) → j < length ps → j < length xs
    → beside (take (suc j) ps) (take (suc j) xs) ≡ beside (take j ps) (take j xs) ++ (entry_at j ps xs ∷ [])
beside_snoc j [] xs h k = absurd (omega arith)
beside_snoc j (p ∷ ps) [] h k = absurd (omega arith)
beside_snoc zero (p ∷ ps) (x ∷ xs) h k = refl
beside_snoc (suc j) (p ∷ ps) (x ∷ xs) h k = ap (λ (l : List Scored). scored p x ∷ l) (beside_snoc j ps xs (omega arith) (omega arith))

pub entry-at : (d : Scored) (n j : ℕ) (ps : List ℕ) (xs : List Float) → j < n → n ≤ length ps → n ≤ length xs → get_or (beside (take n ps) (take n xs)) j d ≡ entry_at j ps xs
entry-at d zero j ps xs l h k = absurd (omega arith)
entry-at d (suc n) j [] xs l h k = absurd (omega arith)
entry-at d (suc n) j (p ∷ ps) [] l h k = absurd (omega arith)
entry-at d (suc n) zero (p ∷ ps) (x ∷ xs) l h k = refl
entry-at d (suc n) (suc j) (p ∷ ps) (x ∷ xs) l h k = entry-at d n j ps xs (omega arith) (omega arith) (omega arith)

pub packed-beside : (j : ℕ) (ps : List ℕ) (xs : List Float) → j ≤ length ps → j ≤ length xs → map packed_of (beside (take j ps) (take j xs)) ≡ take j ps
packed-beside zero ps xs h k = refl
packed-beside (suc j) [] xs h k = refl
packed-beside (suc j) (p ∷ ps) [] h k = absurd (omega arith)
packed-beside (suc j) (p ∷ ps) (x ∷ xs) h k = ap (λ (l : List ℕ). p ∷ l) (packed-beside j ps xs (omega arith) (omega arith))

pub scores-beside : (j : ℕ) (ps : List ℕ) (xs : List Float) → j ≤ length ps → j ≤ length xs → map score_of (beside (take j ps) (take j xs)) ≡ take j xs
scores-beside zero ps xs h k = refl
scores-beside (suc j) [] xs h k = absurd (omega arith)
scores-beside (suc j) (p ∷ ps) [] h k = refl
scores-beside (suc j) (p ∷ ps) (x ∷ xs) h k = ap (λ (l : List Float). x ∷ l) (scores-beside j ps xs (omega arith) (omega arith))

pub length-beside : (j : ℕ) (ps : List ℕ) (xs : List Float) → j ≤ length ps → j ≤ length xs → length (beside (take j ps) (take j xs)) ≡ j
length-beside zero ps xs h k = refl
length-beside (suc j) [] xs h k = absurd (omega arith)
length-beside (suc j) (p ∷ ps) [] h k = absurd (omega arith)
length-beside (suc j) (p ∷ ps) (x ∷ xs) h k = ap suc (length-beside j ps xs (omega arith) (omega arith))

pub written_same : (n : ℕ) (ps : List ℕ) (xs : List Float) → n ≤ length ps → n ≤ length xs → written (entries (lent n ps xs)) (lent n ps xs) ≡ lent n ps xs
written_same n ps xs h k =
    let m = length-beside n ps xs h k in
    rw (m, packed-beside n ps xs h k, scores-beside n ps xs h k, take-append-drop n ps, take-append-drop n xs)

beside-maps : (es : List Scored) → beside (map packed_of es) (map score_of es) ≡ es
beside-maps [] = refl
beside-maps (e ∷ es) = ap (λ l. e ∷ l) (beside-maps es)

-- what was written is read back
pub entries-written : (es : List Scored) (l : Lent) → entries (written es l) ≡ es
entries-written es l =
    ap (λ t. beside t (take (length es) (map score_of es ++ drop (length es) l.scores))) (take_at (map packed_of es) (drop (length es) l.packed) (length es) (length-map es packed_of))
    ∙ ap (beside (map packed_of es)) (take_at (map score_of es) (drop (length es) l.scores) (length es) (length-map es score_of))
    ∙ beside-maps es

past : {B : Type 0} (f : Scored → B) (es : List Scored) (n : ℕ) → length es ≤ n → ◌≡◌ {A = List B} (drop n (map f es ++ [])) []
past f [] n h = drop-nil n
past f (e ∷ es) zero h = absurd (omega arith)
past f (e ∷ es) (suc n) h = past f es n (omega arith)

drop-over : {B : Type 0} (f : Scored → B) (es : List Scored) (c : List B) (n : ℕ) → length es ≤ n → drop n (map f es ++ drop (length es) c) ≡ drop n c
drop-over f [] c n h = refl
drop-over f (e ∷ es) c zero h = absurd (omega arith)
drop-over f (e ∷ es) [] (suc n) h = past f es n (omega arith)
drop-over f (e ∷ es) (x ∷ c) (suc n) h = drop-over f es c n (omega arith)

-- what is written over entries that are no more hides them
pub written_over : (es fs : List Scored) (l : Lent) → length fs ≤ length es → written es (written fs l) ≡ written es l
written_over es fs l h = rw (drop-over packed_of fs l.packed (length es) h, drop-over score_of fs l.scores (length es) h)

length-laid : {B : Type 0} (f : Scored → B) (es : List Scored) (c : List B) → length es ≤ length c → length (map f es ++ drop (length es) c) ≡ length c
length-laid f es c h = omega (arith, length-append (map f es) (drop (length es) c), length-map es f, length-drop (length es) c)

pub room-written : (k : ℕ) (es : List Scored) (l : Lent) → length es ≤ k → RoomFor k l → RoomFor k (written es l)
room-written k es l h r = record {
  few = h;
  packed_places = omega (arith, length-laid packed_of es l.packed (omega arith));
  score_places = omega (arith, length-laid score_of es l.scores (omega arith));
}

-- with the places that it needs, a push is `keep`
pub settled-in : (k : ℕ) (e : Scored) (l : Lent) → l.size ≤ k → min (suc l.size) k ≤ length l.packed → min (suc l.size) k ≤ length l.scores
    → settled k e l ≡ written (keep better k e (entries l)) l
unfolding settled
settled-in k e l h p x = rw (le-leb l.size k h, le-leb (min (suc l.size) k) (length l.packed) p, le-leb (min (suc l.size) k) (length l.scores) x)

pub settled_is : (k : ℕ) (e : Scored) (l : Lent) → RoomFor k l → settled k e l ≡ written (keep better k e (entries l)) l
settled_is k e l r = settled-in k e l r.few (omega arith) (omega arith)

keep_all-more : (k : ℕ) (es ps : List Scored) → length es ≤ k → length es ≤ length (keep_all better k es ps)
keep_all-more k es [] h = omega arith
keep_all-more k es (p ∷ ps) h =
    let n = length-keep better k p es in
    let i = keep_all-more k (keep better k p es) ps (omega arith) in
    omega arith

-- and pushes one after another are `keep_all`, what lies past the entries unchanged
pub settle-all : (k : ℕ) (l : Lent) (ps : List Scored) → RoomFor k l → settle_all k l ps ≡ written (keep_all better k (entries l) ps) l
settle-all k l [] r = sym (written_same l.size l.packed l.scores (omega arith) (omega arith))
settle-all k l (p ∷ ps) r =
    let es = keep better k p (entries l) in
    let n : length es ≤ k = omega (arith, length-keep better k p (entries l)) in
    ap (λ m. settle_all k m ps) (settled_is k p l r)
    ∙ settle-all k (written es l) ps (room-written k es l n r)
    ∙ ap (λ m. written (keep_all better k m ps) (written es l)) (entries-written es l)
    ∙ written_over (keep_all better k es ps) es l (keep_all-more k es ps n)

-- ---- e among the entries
-- one column: the entries with e among them, and what lies past them
abbrev pub column : {B : Type 0} → (Scored → B) → Scored → List Scored → ℕ → List B → List B
column f e es i c = map f (insert_after better e es) ++ drop (suc i) c

pub inserted-is : (e : Scored) (i : ℕ) (ps : List ℕ) (xs : List Float) → i ≤ length ps → i ≤ length xs
    → inserted e (lent i ps xs) ≡ lent (suc i) (column packed_of e (entries (lent i ps xs)) i ps) (column score_of e (entries (lent i ps xs)) i xs)
inserted-is e i ps xs h k =
    let n : length (insert_after better e (entries (lent i ps xs))) ≡ suc i = length-insert better e (entries (lent i ps xs)) ∙ ap suc (length-beside i ps xs h k) in
    ap (λ (m : ℕ). lent m (map packed_of (insert_after better e (entries (lent i ps xs))) ++ drop m ps) (map score_of (insert_after better e (entries (lent i ps xs))) ++ drop m xs)) n
