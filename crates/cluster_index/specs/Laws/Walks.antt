-- Laws of Walks: terms in two slices, walked side by side.
use Rattle.std.specs.Prelude.{ℕ, min, ◌≡◌, refl, ◌⊎◌, List, [], ◌∷◌, length, Float}
use Rattle.std.proofs.Common.{arith, ap, inl, inr}
use mathlib.Core.List.{zip_with}
use Rattle.documents.specs.declared.TermPlaces.{TermPlaces}
use Rattle.documents.specs.Documents.{term, paired, Documents}
use Rattle.documents.specs.Answers.{places_of}
use Rattle.documents.specs.Laws.Places.{terms-at, places-order, places-within}
use Rattle.cluster_index.specs.Walks.{Cut}

-- ---- two slices side by side, by what a loop over both has left of them
module _ {A B C : Type 0} (f : A → B → C) where
  pub zip-next : {xs us : List A} {ys ws : List B} {x : A} {y : B} → (xs ≡ x ∷ us) × (ys ≡ y ∷ ws) → zip_with f xs ys ≡ f x y ∷ zip_with f us ws
  unfolding zip_with
  zip-next h = λ i. zip_with f (h.0 i) (h.1 i)

  left-ends : (xs : List A) (ys : List B) → length xs ≡ 0 → zip_with f xs ys ≡ []
  unfolding zip_with
  left-ends [] ys h = refl
  left-ends (x ∷ xs) ys h = absurd (let z : ⊥ = omega arith in z)

  right-ends : (xs : List A) (ys : List B) → length ys ≡ 0 → zip_with f xs ys ≡ []
  unfolding zip_with
  right-ends [] ys h = refl
  right-ends (x ∷ xs) [] h = refl
  right-ends (x ∷ xs) (y ∷ ys) h = absurd (let z : ⊥ = omega arith in z)

  pub zip-end : {S T : Type 0} {s : S} {t : T} (xs : List A) (ys : List B) → ((u : S) × ((length xs ≡ 0) × (u ≡ s))) ⊎ ((u : T) × ((length ys ≡ 0) × (u ≡ t))) → zip_with f xs ys ≡ []
  zip-end xs ys h = elim h [
    | inl e ↦ left-ends xs ys e.1.0
    | inr e ↦ right-ends xs ys e.1.0
  ]

-- ---- components and values side by side are terms
pub walk-next : {cs ds : List ℕ} {vs ws : List Float} {c : ℕ} {v : Float} → (cs ≡ c ∷ ds) × (vs ≡ v ∷ ws) → paired cs vs ≡ term c v ∷ paired ds ws
unfolding paired
walk-next h = zip-next term h

pub walk-end : {S T : Type 0} {s : S} {t : T} (cs : List ℕ) (vs : List Float) → ((u : S) × ((length cs ≡ 0) × (u ≡ s))) ⊎ ((u : T) × ((length vs ≡ 0) × (u ≡ t))) → paired cs vs ≡ []
unfolding paired
walk-end cs vs h = zip-end term cs vs h

-- ---- a document's places
pub cut : (d : Documents) (i n : ℕ) (p : TermPlaces) → n ≡ min (length d.components) (length d.values) → p ≡ places_of d.offsets n i → Cut d i p
cut d i n p e h =
    rw h (record {
      is = ap (λ m. places_of d.offsets m i) e;
      ordered = places-order d.offsets n i;
      in_components = let w = places-within d.offsets n i in omega arith;
      in_values = let w = places-within d.offsets n i in omega arith;
      holds = terms-at d i n e;
    })
