-- A document's terms by their places in the slices.
use Rattle.std.specs.Prelude.{ℕ, zero, suc, ◌+◌, ◌-◌, ◌≤◌, min, ◌≡◌, refl, length, get_or, take, drop, Float}
use Rattle.std.proofs.Common.{arith, sym, ap, ◌∙◌, length-drop, drop_of_length-le, take_all}
use Rattle.std.proofs.Math.Decide.{dec_le}
use mathlib.Core.List.{List, [], ◌∷◌, zip_with}
use Rattle.std.proofs.Math.Seq.{take-nil}
use Rattle.sequences.specs.Lists.{part}
use Rattle.documents.specs.declared.TermPlaces.{TermPlaces}
use Rattle.documents.specs.Documents.{term, paired, Documents, start, size, terms}
use Rattle.documents.specs.Answers.{places_of}

-- ---- pairs, and parts of them
paired-nil : (cs : List ℕ) → paired cs [] ≡ []
unfolding paired zip_with
paired-nil [] = refl
paired-nil (c ∷ cs) = refl

pub paired-take : (n : ℕ) (cs : List ℕ) (vs : List Float) → paired (take n cs) (take n vs) ≡ take n (paired cs vs)
unfolding paired zip_with
paired-take zero cs vs = refl
paired-take (suc n) [] vs = refl
paired-take (suc n) (c ∷ cs) [] = refl
paired-take (suc n) (c ∷ cs) (v ∷ vs) = ap (λ l. term c v ∷ l) (paired-take n cs vs)

pub paired-drop : (n : ℕ) (cs : List ℕ) (vs : List Float) → paired (drop n cs) (drop n vs) ≡ drop n (paired cs vs)
unfolding paired zip_with
paired-drop zero cs vs = refl
paired-drop (suc n) [] vs = refl
paired-drop (suc n) (c ∷ cs) [] = paired-nil (drop n cs)
paired-drop (suc n) (c ∷ cs) (v ∷ vs) = paired-drop n cs vs

pub paired-count : (cs : List ℕ) (vs : List Float) → length (paired cs vs) ≡ min (length cs) (length vs)
unfolding paired zip_with
paired-count [] vs = omega arith
paired-count (c ∷ cs) [] = omega arith
paired-count (c ∷ cs) (v ∷ vs) = let i = paired-count cs vs in omega arith

-- a document's terms are a part of all
pub terms-part : (d : Documents) (i : ℕ) → terms d i ≡ part (start d i) (size d i) (paired d.components d.values)
unfolding terms
terms-part d i =
    paired-take (size d i) (drop (start d i) d.components) (drop (start d i) d.values)
    ∙ ap (take (size d i)) (paired-drop (start d i) d.components d.values)

-- ---- a part that is cut to what there is
pub part_cut : {A : Type 0} (s n : ℕ) (l : List A) → part s n l ≡ part (min s (length l)) (min (s + n) (length l) - min s (length l)) l
part_cut s n l = go (dec_le (length l) s) (dec_le (s + n) (length l))
  where
    go : Dec (length l ≤ s) → Dec (s + n ≤ length l) → part s n l ≡ part (min s (length l)) (min (s + n) (length l) - min s (length l)) l
    go (yes h) d =
        let e : min (s + n) (length l) - min s (length l) ≡ 0 = omega arith in
        ap (take n) (drop_of_length-le l h) ∙ take-nil n ∙ ap (λ k. take k (drop (min s (length l)) l)) (sym e)
    go (no h) (yes k) =
        let e : min (s + n) (length l) - min s (length l) ≡ n = omega arith in
        let f : min s (length l) ≡ s = omega arith in
        ap (λ k. take k (drop s l)) (sym e) ∙ ap (λ k. take (min (s + n) (length l) - min s (length l)) (drop k l)) (sym f)
    go (no h) (no k) =
        let e : min (s + n) (length l) - min s (length l) ≡ length l - s = omega arith in
        let f : min s (length l) ≡ s = omega arith in
        let m : length (drop s l) ≡ length l - s = length-drop s l in
        take_all n (drop s l) (omega arith)
        ∙ sym (take_all (min (s + n) (length l) - min s (length l)) (drop s l) (omega arith))
        ∙ ap (λ k. take (min (s + n) (length l) - min s (length l)) (drop k l)) (sym f)

-- the terms of a document are those at its places, for whatever documents
pub terms-at : (d : Documents) (i n : ℕ) → n ≡ min (length d.components) (length d.values)
    → let p = places_of d.offsets n i in terms d i ≡ paired (part p.from (p.to - p.from) d.components) (part p.from (p.to - p.from) d.values)
terms-at d i n e =
    let w = paired d.components d.values in
    let l : length w ≡ n = paired-count d.components d.values ∙ sym e in
    terms-part d i
    ∙ part_cut (start d i) (size d i) w
    ∙ ap (λ k. part (min (start d i) k) (min (start d i + size d i) k - min (start d i) k) w) l
    ∙ ap (take (min (start d i + size d i) n - min (start d i) n)) (sym (paired-drop (min (start d i) n) d.components d.values))
    ∙ sym (paired-take (min (start d i + size d i) n - min (start d i) n) (drop (min (start d i) n) d.components) (drop (min (start d i) n) d.values))

pub places-order : (offsets : List ℕ) (n i : ℕ) → (places_of offsets n i).from ≤ (places_of offsets n i).to
places-order offsets n i = go (get_or offsets i 0) (get_or offsets (suc i) 0)
  where
    go : (s e : ℕ) → min s n ≤ min (s + (e - s)) n
    go s e = omega arith

pub places-within : (offsets : List ℕ) (n i : ℕ) → (places_of offsets n i).to ≤ n
places-within offsets n i = go (get_or offsets i 0) (get_or offsets (suc i) 0)
  where
    go : (s e : ℕ) → min (s + (e - s)) n ≤ n
    go s e = omega arith

-- the same of places that are known to be these
module _ (d : Documents) (count i : ℕ) (p : TermPlaces) (e : p ≡ places_of d.offsets count i) where
  pub places-ordered : p.from ≤ p.to
  places-ordered = rw e (places-order d.offsets count i)

  pub places-in : p.to ≤ count
  places-in = rw e (places-within d.offsets count i)
