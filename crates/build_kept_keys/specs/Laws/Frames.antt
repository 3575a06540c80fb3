-- What was stored is read back: the blocks' kept terms, each by its frame or, where it found no place, as it is.
use Prim.Native.Nat.{ℕ, zero, suc, ◌+◌, ◌-◌, ◌≤◌, ◌<◌}
use native.Mathlib.Omega.{arith}
use Rattle.std.specs.Prelude.{◌≡◌, refl, Bool, not, cond, List, [], ◌∷◌, ◌++◌, map, get_or, take, drop, set, replicate, leb, ltb, eqb}
use Rattle.std.proofs.Math.Path.{sym, ap}
use Rattle.std.proofs.Common.{◌∙◌, ⊎_elim, append_assoc, length-append, length-drop, drop_of_length-le, drop-drop, drop-cons, ltb-true, leb-true, le-leb, le-ltb, ne_eqb}
use Rattle.std.proofs.Math.Bool.{true, false}
use Rattle.std.proofs.Math.ListN.{length}
use Rattle.std.proofs.lemmas.List.{length-map, length-replicate}
use Rattle.std.proofs.Math.Seq.{sets, length-sets, take-append_seam, drop-append_seam}
use Rattle.std.proofs.lemmas.List.Edits.{sets-eq}
use Rattle.std.proofs.lemmas.Bool.{lt-leb, not-true}
use Rattle.sequences.specs.Lists.{EachOf, every, part}
use Rattle.sequences.specs.Laws.Lists.{decide, both, le-or-lt}
use Rattle.documents.specs.Documents.{Term}
use Rattle.documents.specs.TermKeys.{term_key, term_of}
use Rattle.documents.specs.Laws.TermKeys.{Held, term-back}
use Rattle.clearing.specs.Zeros.{zeros}
use Rattle.build_kept_keys.specs.Frames.{frame, place_after, frames, keys_of, kept_in, in_front, recalled_top, behind, recalled}

-- ---- stored one after another
-- no more is stored than finds a place
frames-fit : (places : ℕ) (ks : List (List ℕ)) → length (frames places ks) ≤ places
unfolding frames
frames-fit places [] = omega arith
frames-fit places (k ∷ ks) = go (frames-fit (places - suc (length k)) ks) (ltb (length k) places) refl
  where
    go : length (frames (places - suc (length k)) ks) ≤ places - suc (length k) → (z : Bool) → ltb (length k) places ≡ z
        → length (cond z (length k ∷ k ++ frames (places - suc (length k)) ks) []) ≤ places
    go i true h = let l = length-append k (frames (places - suc (length k)) ks) in let m = ltb-true (length k) places h in omega arith
    go i false h = omega arith

-- a store that is full takes no more
full-store : (ks : List (List ℕ)) → frames 0 ks ≡ []
unfolding frames
full-store [] = refl
full-store (k ∷ ks) = ap (λ z. cond z (length k ∷ k ++ frames (0 - suc (length k)) ks) []) (le-ltb (length k) 0 (omega arith))

sets-append : (store : List ℕ) (at : ℕ) (a b : List ℕ) → sets store at (a ++ b) ≡ sets (sets store at a) (at + length a) b
sets-append store at [] b = ap (λ n. sets store n b) (let e : at ≡ at + 0 = omega arith in e)
sets-append store at (x ∷ a) b = sets-append (set store at x) (suc at) a b ∙ ap (λ n. sets (sets store at (x ∷ a)) n b) (let e : suc at + length a ≡ at + suc (length a) = omega arith in e)

-- one block stored, and then those after it: together that is all of them
module _ (store : List ℕ) (at : ℕ) (k : List ℕ) (ks : List (List ℕ)) where
  stored_on : (z : Bool) → ltb (length k) (length store - at) ≡ z
      → sets (sets store at (frame (length store - at) k)) (place_after at (length k) (length store)) (frames (length store - place_after at (length k) (length store)) ks)
      ≡ sets store at (frames (length store - at) (k ∷ ks))
  unfolding frames
  stored_on true h =
      let e : at + 1 + length k ≡ at + suc (length k) = omega arith in
      let f : length store - (at + suc (length k)) ≡ length store - at - suc (length k) = omega arith in
      rw h
      (ap (λ n. sets (sets store at (length k ∷ k)) n (frames (length store - n) ks)) e
      ∙ ap (λ n. sets (sets store at (length k ∷ k)) (at + suc (length k)) (frames n ks)) f
      ∙ sym (sets-append store at (length k ∷ k) (frames (length store - at - suc (length k)) ks)))
  stored_on false h =
      let e : length store - length store ≡ 0 = omega arith in
      rw h (ap (λ n. sets store (length store) (frames n ks)) e ∙ ap (sets store (length store)) (full-store ks))

  pub frames-on : (at' : ℕ) (store' : List ℕ) → at' ≡ place_after at (length k) (length store) → store' ≡ sets store at (frame (length store - at) k)
      → sets store' at' (frames (length store' - at') ks) ≡ sets store at (frames (length store - at) (k ∷ ks))
  frames-on at' store' p q =
      (λ j. sets (q j) (p j) (frames (length (q j) - p j) ks))
      ∙ ap (λ n. sets (sets store at (frame (length store - at) k)) (place_after at (length k) (length store)) (frames (n - place_after at (length k) (length store)) ks))
      (length-sets store at (frame (length store - at) k))
      ∙ stored_on (ltb (length k) (length store - at)) refl

-- ---- read back
terms-back : (ts : List Term) → EachOf Held ts → map term_of (map term_key ts) ≡ ts
terms-back [] h = refl
terms-back (t ∷ ts) h = (λ j. term-back t h.0 j ∷ terms-back ts h.1 j)

in-front-of : (keys rest : List ℕ) → in_front (length keys ∷ keys ++ rest) ≡ length keys
in-front-of keys rest = let l = length-append keys rest in ap (λ z. cond z (length keys) 0) (le-leb (length keys) (length (keys ++ rest)) (omega arith))

-- zeros have no frame
in-front-zeros : (m n : ℕ) → in_front (drop m (replicate n 0)) ≡ 0
in-front-zeros zero zero = refl
in-front-zeros zero (suc n) = go (leb 0 (length (replicate {A = ℕ} n 0)))
  where
    go : (z : Bool) → ◌≡◌ {A = ℕ} (cond z 0 0) 0
    go true = refl
    go false = refl
in-front-zeros (suc m) zero = refl
in-front-zeros (suc m) (suc n) = in-front-zeros m n

none-back : (store : List ℕ) → in_front store ≡ 0 → (tops : List (List Term)) → recalled store tops ≡ tops
unfolding recalled
none-back store z [] = refl
none-back store z (top ∷ tops) =
    ap (λ k. cond (eqb k 0) top (map term_of (part 1 k store)) ∷ recalled (cond (eqb k 0) store (drop (suc k) store)) tops) z
    ∙ ap (λ l. top ∷ l) (none-back store z tops)

frame_back : (top : List Term) (tops : List (List Term)) (rest : List ℕ) → EachOf Held top → eqb (length top) 0 ≡ false
    → recalled (length (map term_key top) ∷ map term_key top ++ rest) (top ∷ tops) ≡ top ∷ recalled rest tops
unfolding recalled
frame_back top tops rest h e =
    let keys = map term_key top in
    let store = length keys ∷ keys ++ rest in
    ap (λ k. cond (eqb k 0) top (map term_of (part 1 k store)) ∷ recalled (cond (eqb k 0) store (drop (suc k) store)) tops) (in-front-of keys rest)
    ∙ ap (λ z. cond z top (map term_of (take (length keys) (keys ++ rest))) ∷ recalled (cond z store (drop (length keys) (keys ++ rest))) tops) (ap (λ n. eqb n 0) (length-map top term_key) ∙ e)
    ∙ (λ j. map term_of (take-append_seam keys rest j) ∷ recalled (drop-append_seam keys rest j) tops)
    ∙ ap (λ t. t ∷ recalled rest tops) (terms-back top h)

frames-back : (rest : List ℕ) → in_front rest ≡ 0 → (tops : List (List Term)) → EachOf (EachOf Held) tops → every (λ t. not (eqb (length t) 0)) tops ≡ true → (places : ℕ)
    → recalled (frames places (keys_of tops) ++ rest) tops ≡ tops
unfolding frames
frames-back rest z [] h e places = none-back rest z []
frames-back rest z (top ∷ tops) h e places =
    let b = both (not (eqb (length top) 0)) (every (λ t. not (eqb (length t) 0)) tops) e in
    go (frames-back rest z tops h.1 b.1 (places - suc (length (map term_key top)))) (not-true (eqb (length top) 0) b.0) (ltb (length (map term_key top)) places)
  where
    go : recalled (frames (places - suc (length (map term_key top))) (keys_of tops) ++ rest) tops ≡ tops → eqb (length top) 0 ≡ false → (t : Bool)
        → recalled (cond t (length (map term_key top) ∷ map term_key top ++ frames (places - suc (length (map term_key top))) (keys_of tops)) [] ++ rest) (top ∷ tops) ≡ top ∷ tops
    go i f true =
        ap (λ l. recalled (length (map term_key top) ∷ l) (top ∷ tops)) (append_assoc (map term_key top) (frames (places - suc (length (map term_key top))) (keys_of tops)) rest)
        ∙ frame_back top tops (frames (places - suc (length (map term_key top))) (keys_of tops) ++ rest) h.0 f
        ∙ ap (λ l. top ∷ l) i
    go i f false = none-back rest z (top ∷ tops)

-- of held terms, where no block keeps none
pub kept_back : (tops : List (List Term)) (store : List ℕ) → EachOf (EachOf Held) tops → every (λ t. not (eqb (length t) 0)) tops ≡ true
    → recalled (kept_in tops store) tops ≡ tops
unfolding kept_in
kept_back tops store h e =
    let f = frames (length store) (keys_of tops) in
    let l = length-replicate {A = ℕ} (length store) 0 in
    let m = frames-fit (length store) (keys_of tops) in
    ap (λ s. recalled s tops) (sets-eq f (zeros store) 0 (omega arith))
    ∙ frames-back (drop (0 + length f) (zeros store)) (in-front-zeros (0 + length f) (length store)) tops h e (length store)

-- ---- the frame at a place
module _ (at : ℕ) (store : List ℕ) where
  pub front-there : get_or store at 0 < length store - at → get_or store at 0 ≡ in_front (drop at store)
  front-there h =
      let l = length-drop (suc at) store in
      sym (ap in_front (drop-cons store at 0 (omega arith)) ∙ ap (λ z. cond z (get_or store at 0) 0) (le-leb (get_or store at 0) (length (drop (suc at) store)) (omega arith)))

  pub front-none : length store - at ≤ get_or store at 0 → 0 ≡ in_front (drop at store)
  front-none h = ⊎_elim (λ past. sym (ap in_front (drop_of_length-le store past))) within (le-or-lt (length store) at)
    where
      within : at < length store → 0 ≡ in_front (drop at store)
      within i =
          let l = length-drop (suc at) store in
          sym (ap in_front (drop-cons store at 0 i) ∙ ap (λ z. cond z (get_or store at 0) 0) (lt-leb (get_or store at 0) (length (drop (suc at) store)) (omega arith)))

  module _ (n : ℕ) (e : n ≡ in_front (drop at store)) where
    -- no frame: the block's own terms, and the store as it was
    pub none-top : n ≡ 0 → (top : List Term) → recalled_top (drop at store) top ≡ top
    none-top z top = ap (λ k. cond (eqb k 0) top (map term_of (part 1 k (drop at store)))) (sym e ∙ z)

    pub none-behind : n ≡ 0 → drop at store ≡ behind (drop at store)
    none-behind z = sym (ap (λ k. cond (eqb k 0) (drop at store) (drop (suc k) (drop at store))) (sym e ∙ z))

    module _ (z : n ≡ 0 → ⊥) where
      pub frame-fits : at + 1 + n ≤ length store
      frame-fits = go (drop at store) (length-drop at store) e
        where
          go : (l : List ℕ) → length l ≡ length store - at → n ≡ in_front l → at + 1 + n ≤ length store
          go [] i e = absurd (z e)
          go (m ∷ l) i e =
              ⊎_elim (λ t. let w = leb-true m (length l) t in let v : n ≡ m = e ∙ ap (λ b. cond b m 0) t in omega arith) (λ f. absurd (z (e ∙ ap (λ b. cond b m 0) f))) (decide (leb m (length l)))

      pub frame-top : (top : List Term) → recalled_top (drop at store) top ≡ map term_of (part (at + 1) n store)
      frame-top top =
          ap (λ k. cond (eqb k 0) top (map term_of (part 1 k (drop at store)))) (sym e)
          ∙ ap (λ b. cond b top (map term_of (part 1 n (drop at store)))) (ne_eqb n 0 z)
          ∙ ap (λ l. map term_of (take n l)) (drop-drop 1 at store)

      pub frame-behind : drop (at + 1 + n) store ≡ behind (drop at store)
      frame-behind =
          let s : at + 1 + n ≡ at + suc n = omega arith in
          ap (λ k. drop k store) s ∙ sym (drop-drop (suc n) at store)
          ∙ sym (ap (λ k. cond (eqb k 0) (drop at store) (drop (suc k) (drop at store))) (sym e) ∙ ap (λ b. cond b (drop at store) (drop (suc n) (drop at store))) (ne_eqb n 0 z))

-- ---- one block after another
pub recalled-on : (store later : List ℕ) (top : List Term) (left tops : List (List Term)) → left ≡ top ∷ tops → later ≡ behind store
    → recalled store left ≡ recalled_top store top ∷ recalled later tops
unfolding recalled
recalled-on store later top left tops e w = ap (recalled store) e ∙ ap (λ s. recalled_top store top ∷ recalled s tops) (sym w)

pub recalled-none : (store : List ℕ) (left : List (List Term)) → left ≡ [] → recalled store left ≡ []
unfolding recalled
recalled-none store left e = ap (recalled store) e
