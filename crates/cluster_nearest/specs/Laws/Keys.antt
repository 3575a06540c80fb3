-- Laws of Keys: keys written and sorted in a slice, and the largest terms read back from them.
use Rattle.std.specs.Prelude.{ℕ, zero, suc, ◌+◌, ◌≤◌, ◌<◌, min, ◌≡◌, refl, List, [], ◌∷◌, ◌++◌, map, length, get_or, set, take, drop, T, Float}
use Rattle.std.proofs.Common.{arith, add-one, sym, ap, ◌∙◌, subst, append_assoc, append-nil, length-append, length-take, drop_of_length-le, take_at, drop_at, take_all, take-take}
use Rattle.std.proofs.Math.Decide.{dec_le}
use Rattle.std.proofs.lemmas.List.{length-map, set_at}
use Rattle.std.proofs.lemmas.List.Edits.{sets}
use Rattle.std.specs.Float.{nan, binary32}
use Rattle.std.specs.Float.Ieee.{fits}
use Rattle.sequences.specs.Lists.{EachOf, sorted_by}
use Rattle.sequences.specs.Laws.Sorted.{each-sorted_by}
use Rattle.sequences.specs.Laws.Each.{each_take, each-drop}
use Rattle.sequences.specs.Laws.Lists.{take-map}
use Rattle.sort.specs.Sorted.{sorted}
use Rattle.sort.specs.Laws.Insert.{length-sorted}
use Rattle.sort.specs.Laws.Keys.{sorted-keys}
use Rattle.documents.specs.Documents.{Term, term, paired, Documents, start, size, terms, greater_first, falling, largest}
use Rattle.documents.specs.TermKeys.{term_key, term_of}
use Rattle.documents.specs.Laws.TermKeys.{Held, term-key-order, term-back, held-paired}
use Rattle.documents.specs.Laws.Places.{terms-part}
use Rattle.counting_sort.specs.Laws.Loops.{zip-step}
use Rattle.cluster_nearest.specs.Keys.{KeysLeft}
use Rattle.cluster_nearest.specs.Laws.Passed.{none-past}

-- ---- keys written one after another
pub write_step : (cs : List ℕ) (vs : List Float) (ks ns : List ℕ) (i k : ℕ) → i < length cs → i < length vs → k ≡ term_key (term (get_or cs i 0) (get_or vs i nan)) → ns ≡ set ks i k
    → sets ns (i + 1) (map term_key (paired (drop (i + 1) cs) (drop (i + 1) vs))) ≡ sets ks i (map term_key (paired (drop i cs) (drop i vs)))
unfolding paired
write_step cs vs ks ns i k h g e f =
    ap (λ l. sets l (i + 1) (map term_key (paired (drop (i + 1) cs) (drop (i + 1) vs)))) (f ∙ ap (set ks i) e)
    ∙ ap (λ n. sets (set ks i (term_key (term (get_or cs i 0) (get_or vs i nan)))) n (map term_key (paired (drop (i + 1) cs) (drop (i + 1) vs)))) (add-one i)
    ∙ ap (λ l. sets ks i (map term_key l)) (sym (zip-step term cs vs i 0 nan h g))

pub write-end : (cs : List ℕ) (vs : List Float) (ks : List ℕ) (i : ℕ) → min (length cs) (length vs) ≤ i → sets ks i (map term_key (paired (drop i cs) (drop i vs))) ≡ ks
unfolding paired
write-end cs vs ks i h = ap (λ l. sets ks i (map term_key l)) (none-past term cs vs i h)

-- ---- numbers laid over a slice of any length
over-front : (p xs l : List ℕ) → sets (p ++ l) (length p) xs ≡ p ++ (take (length l) xs ++ drop (length xs) l)
over-front p [] [] = refl
over-front p [] (y ∷ l) = refl
over-front p (x ∷ xs) [] = ap (λ m. sets m (suc (length p)) xs) (past p) ∙ none xs (suc (length p)) p (omega arith)
  where
    past : (p : List ℕ) → set (p ++ []) (length p) x ≡ p ++ []
    past [] = refl
    past (z ∷ p) = ap (λ l. z ∷ l) (past p)

    none : (xs : List ℕ) (n : ℕ) (p : List ℕ) → length p ≤ n → sets (p ++ []) n xs ≡ p ++ []
    none [] n p h = refl
    none (x ∷ xs) n p h = ap (λ l. sets l (suc n) xs) (out p n h) ∙ none xs (suc n) p (omega arith)
      where
        out : (p : List ℕ) (n : ℕ) → length p ≤ n → set (p ++ []) n x ≡ p ++ []
        out [] n h = refl
        out (z ∷ p) zero h = absurd (let z : ⊥ = omega arith in z)
        out (z ∷ p) (suc n) h = ap (λ l. z ∷ l) (out p n (omega arith))
over-front p (x ∷ xs) (y ∷ l) =
    let e : length (p ++ (x ∷ [])) ≡ suc (length p) = length-append p (x ∷ []) ∙ omega arith in
    ap (λ m. sets m (suc (length p)) xs) (set_at p y l x (length p) refl ∙ sym (append_assoc p (x ∷ []) l))
    ∙ ap (λ n. sets ((p ++ (x ∷ [])) ++ l) n xs) (sym e)
    ∙ over-front (p ++ (x ∷ [])) xs l
    ∙ append_assoc p (x ∷ []) (take (length l) xs ++ drop (length xs) l)

-- ---- terms as slices hold them
pub held-terms : (d : Documents) (i : ℕ) → ((k : ℕ) → get_or d.components k 0 < 4294967296) → ((k : ℕ) → T (fits binary32 (get_or d.values k nan))) → EachOf Held (terms d i)
held-terms d i f g =
    subst (EachOf Held) (sym (terms-part d i))
    (each_take Held (size d i) (drop (start d i) (paired d.components d.values)) (each-drop Held (start d i) (paired d.components d.values) (held-paired d.components d.values f g)))

-- ---- keys laid over the front of a slice, as many as find a place
over-taken : (n : ℕ) (front keys : List ℕ) → length front ≡ min n (length keys) → take n (front ++ drop n keys) ≡ front
over-taken n front keys e = go (dec_le n (length keys))
  where
    go : Dec (n ≤ length keys) → take n (front ++ drop n keys) ≡ front
    go (yes h) = take_at front (drop n keys) n (omega arith)
    go (no h) = ap (λ l. take n (front ++ l)) (drop_of_length-le keys {i = n} (omega arith)) ∙ ap (take n) (append-nil front) ∙ take_all n front (omega arith)

over-past : (n : ℕ) (front keys : List ℕ) → length front ≡ min n (length keys) → drop n (front ++ drop n keys) ≡ drop n keys
over-past n front keys e = go (dec_le n (length keys))
  where
    go : Dec (n ≤ length keys) → drop n (front ++ drop n keys) ≡ drop n keys
    go (yes h) = drop_at front (drop n keys) n (omega arith)
    go (no h) =
        let z : drop n keys ≡ [] = drop_of_length-le keys {i = n} (omega arith) in
        ap (λ l. drop n (front ++ l)) z ∙ drop_of_length-le (front ++ []) {i = n} (omega (arith, length-append front [])) ∙ sym z

-- ---- keys written and sorted as far as the cut
pub keys-sorted : (ts : List Term) → EachOf Held ts → (cut : ℕ) (keys copied done : List ℕ) (m : ℕ) → m ≡ min (length ts) (length keys) → copied ≡ sets keys 0 (map term_key ts)
    → take cut done ≡ take cut (sorted (take m copied)) → sorted done ≡ sorted (take m copied) → KeysLeft cut ts keys (done ++ drop m copied)
unfolding falling largest
keys-sorted ts held cut keys copied done m e c s t =
    let F = take (length keys) (map term_key ts) in
    let f : F ≡ map term_key (take (length keys) ts) = take-map term_key (length keys) ts in
    let n : length (map term_key ts) ≡ length ts = length-map ts term_key in
    let w : copied ≡ F ++ drop (length ts) keys = c ∙ over-front [] (map term_key ts) keys ∙ ap (λ k. F ++ drop k keys) n in
    let l : length F ≡ m = length-take (length keys) (map term_key ts) ∙ omega arith in
    let S : sorted (take m copied) ≡ map term_key (sorted_by greater_first (take (length keys) ts)) =
    ap (λ x. sorted (take m x)) w ∙ ap sorted (take_at F (drop (length ts) keys) m l ∙ f)
    ∙ sorted-keys greater_first Held term_key term-key-order (take (length keys) ts) (each_take Held (length keys) ts held) in
    let D : drop m copied ≡ drop (length ts) keys = ap (drop m) w ∙ drop_at F (drop (length ts) keys) m l in
    let k : length done ≡ min (length ts) (length keys) = sym (length-sorted done) ∙ ap length t ∙ length-sorted (take m copied)
    ∙ ap (λ x. length (take m x)) w ∙ ap length (take_at F (drop (length ts) keys) m l) ∙ l ∙ e in
    let T : take (length ts) (done ++ drop m copied) ≡ done = ap (λ x. take (length ts) (done ++ x)) D ∙ over-taken (length ts) done keys k in
    record {
      front = ap (take cut) T ∙ s ∙ ap (take cut) S ∙ take-map term_key cut (sorted_by greater_first (take (length keys) ts));
      every = ap sorted T ∙ t ∙ S;
      past = ap (λ x. drop (length ts) (done ++ x)) D ∙ over-past (length ts) done keys k;
    }

-- ---- read back, those of the cut are the largest
back : (ts : List Term) → EachOf Held ts → map term_of (map term_key ts) ≡ ts
back [] e = refl
back (t ∷ ts) e = let a = term-back t e.0 in let b = back ts e.1 in cc

cut_at : (cut n m : ℕ) (K : List ℕ) → length K ≡ n → m ≡ min cut n → take m K ≡ take cut K
cut_at cut n m K l f = go (dec_le cut n)
  where
    go : Dec (cut ≤ n) → take m K ≡ take cut K
    go (yes h) = ap (λ z. take z K) (let z : m ≡ cut = omega arith in z)
    go (no h) = take_all m K (omega arith) ∙ sym (take_all cut K (omega arith))

pub largest-keys : (ts : List Term) → EachOf Held ts → (keys left : List ℕ) (cut n m : ℕ) → KeysLeft cut ts keys left → length left ≡ length keys → n ≡ min (length ts) (length keys)
    → m ≡ min cut n → map term_of (take m left) ≡ largest cut (take (length keys) ts)
unfolding largest falling
largest-keys ts held keys left cut n m k e f g =
    let l : length (take (length ts) left) ≡ n = length-take (length ts) left ∙ omega arith in
    let t : take m left ≡ take cut (take (length ts) left) = sym (take-take m (length ts) left (omega arith)) ∙ cut_at cut n m (take (length ts) left) l g in
    ap (map term_of) (t ∙ k.front)
    ∙ back (take cut (falling (take (length keys) ts))) (each_take Held cut (falling (take (length keys) ts)) (each-sorted_by greater_first Held (take (length keys) ts) (each_take Held (length keys) ts
    held)))
