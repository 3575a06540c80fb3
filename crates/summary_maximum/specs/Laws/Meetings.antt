-- What the one pass over a block's terms comes to: the components as first met, each with its maximum, and each one's place.
use Rattle.std.specs.Prelude.{ℕ, ◌+◌, ◌-◌, ◌≤◌, ◌<◌, ◌≡◌, Bool, true, false, ◌&&◌, ◌||◌, List, [], ◌∷◌, ◌++◌, map, length, get_or, drop, set, ltb, eqb, Float}
use native.Mathlib.Omega.{arith}
use Rattle.std.proofs.Math.Path.{refl, sym, ap, subst}
use Rattle.std.proofs.Common.{◌∙◌, true≢false, length-append, length-drop, get_or-set_same, get_or-set_other, lt-ltb, eq-eqb, eqb-true, ltb-true}
use Rattle.std.proofs.Math.Bool.{cond}
use Rattle.std.proofs.lemmas.List.{map-append, length-map, set-append_left, set-get_or, get_or_at}
use Rattle.std.proofs.Math.ListN.{length-set, get_or-append}
use Rattle.std.specs.Float.{nan}
use Rattle.std.specs.Float.Ieee.{lt}
use Rattle.std.proofs.lemmas.Bool.{eqb-false}
use Rattle.sequences.specs.Lists.{among}
use Rattle.sequences.specs.Laws.Groups.{Against, less, same, more, against}
use Rattle.sequences.specs.Laws.Lists.{or_left, or_right, among-append}
use Rattle.documents.specs.Documents.{Term}
use Rattle.summary_maximum.specs.Changes.{components, maximum_of}
use Rattle.summary_maximum.specs.Laws.Changes.{maximum-other, maximum-first, maximum-later, map_same, map-one, set_next, get_d_map}
use Rattle.summary_maximum.specs.Meeting.{Met, met, known, raised, added, meets}
use Rattle.summary_maximum.specs.Laws.Firsts.{firsts, among-firsts, firsts_more, firsts-count, Below, PlaceOf, place-among, among-place}

-- ---- the state after terms: the components F as first met, each with its maximum beside it and its place under its number
pub record Holds (K P : List ℕ) (M : List Float) (F : List ℕ) (ts : List Term) (s : Met) : Type 0 where
  pub firsts_are : firsts (components ts) ≡ F
  pub count-is : s.count ≡ length F
  pub keys_are : s.keys ≡ F ++ drop s.count K
  pub maxima_are : s.maxima ≡ map (maximum_of ts) F ++ drop s.count M
  pub placed : (k : ℕ) → k < length F → get_or s.places (get_or F k 0) 0 ≡ k
  pub elsewhere : (c : ℕ) → among c (components ts) ≡ false → get_or s.places c 0 ≡ get_or P c 0
  pub size : length s.places ≡ length P

module _ (K P : List ℕ) (M : List Float) (n : ℕ) (ResultKind : n ≤ length K) (RP : n ≤ length P) (RM : n ≤ length M) where
  pub none-met : Holds K P M [] [] (met 0 K P M)
  unfolding firsts
  none-met = record { firsts_are = refl; count-is = refl; keys_are = refl; maxima_are = refl; placed = λ k h. let z : ⊥ = omega arith in absurd z; elsewhere = λ c h. refl; size = refl }

  module _ (F : List ℕ) (ts : List Term) (t : Term) (s : Met) (H : Holds K P M F ts s) where
    all : components (ts ++ (t ∷ [])) ≡ components ts ++ (t.component ∷ [])
    all = map-append (λ t. t.component) ts (t ∷ [])

    key-at : (k : ℕ) → k < length F → get_or s.keys k 0 ≡ get_or F k 0
    key-at k h = ap (λ l. get_or l k 0) H.keys_are ∙ get_or-append F (drop s.count K) 0 k h

    -- a component that was met before
    module _ (a : among t.component (components ts) ≡ true) where
      p : PlaceOf t.component F
      p = place-among t.component F (ap (among t.component) (sym H.firsts_are) ∙ among-firsts t.component (components ts) ∙ a)

      here : get_or s.places t.component 0 ≡ p.place
      here = ap (λ c. get_or s.places c 0) (sym p.stands) ∙ H.placed p.place p.within

      is_known : known s t.component ≡ true
      is_known =
          ap (λ k. ltb k s.count && eqb (get_or s.keys k 0) t.component) here
          ∙ ap (λ b. b && eqb (get_or s.keys p.place 0) t.component) (lt-ltb p.place s.count (omega (arith, p.within, H.count-is)))
          ∙ eq-eqb (get_or s.keys p.place 0) t.component (key-at p.place p.within ∙ p.stands)

      was : get_or s.maxima p.place nan ≡ maximum_of ts t.component
      was =
          ap (λ l. get_or l p.place nan) H.maxima_are
          ∙ get_or-append (map (maximum_of ts) F) (drop s.count M) nan p.place (subst (λ m. p.place < m) (sym (length-map F (maximum_of ts))) p.within)
          ∙ get_d_map (maximum_of ts) F p.place p.within
          ∙ ap (maximum_of ts) p.stands

      others : (j : ℕ) → j < length F → (j ≡ p.place → ⊥) → maximum_of (ts ++ (t ∷ [])) (get_or F j 0) ≡ maximum_of ts (get_or F j 0)
      others j h m = maximum-other ts t (get_or F j 0) (λ e. m (sym (H.placed j h) ∙ ap (λ c. get_or s.places c 0) (sym e) ∙ here))

      now : map (maximum_of (ts ++ (t ∷ []))) F ≡ set (map (maximum_of ts) F) p.place (cond (lt (maximum_of ts t.component) t.value) t.value (maximum_of ts t.component))
      now =
          map-one (maximum_of ts) (maximum_of (ts ++ (t ∷ []))) F p.place p.within others
          ∙ ap (λ c. set (map (maximum_of ts) F) p.place (maximum_of (ts ++ (t ∷ [])) c)) p.stands
          ∙ ap (set (map (maximum_of ts) F) p.place) (maximum-later ts t a)

      raises : cond (lt (get_or s.maxima (get_or s.places t.component 0) nan) t.value) (set s.maxima (get_or s.places t.component 0) t.value) s.maxima
          ≡ map (maximum_of (ts ++ (t ∷ []))) F ++ drop s.count M
      raises =
          ap (λ k. cond (lt (get_or s.maxima k nan) t.value) (set s.maxima k t.value) s.maxima) here
          ∙ ap (λ m. cond (lt m t.value) (set s.maxima p.place t.value) s.maxima) was
          ∙ ap (λ l. cond (lt (maximum_of ts t.component) t.value) (set l p.place t.value) l) H.maxima_are
          ∙ go (lt (maximum_of ts t.component) t.value)
          ∙ ap (λ l. l ++ drop s.count M) (sym now)
        where
          kept-as-is : map (maximum_of ts) F ≡ set (map (maximum_of ts) F) p.place (maximum_of ts t.component)
          kept-as-is =
              sym (set-get_or (map (maximum_of ts) F) p.place nan)
              ∙ ap (set (map (maximum_of ts) F) p.place) (get_d_map (maximum_of ts) F p.place p.within ∙ ap (maximum_of ts) p.stands)

          go : (b : Bool) → cond b (set (map (maximum_of ts) F ++ drop s.count M) p.place t.value) (map (maximum_of ts) F ++ drop s.count M)
              ≡ set (map (maximum_of ts) F) p.place (cond b t.value (maximum_of ts t.component)) ++ drop s.count M
          go true = set-append_left (map (maximum_of ts) F) (drop s.count M) p.place t.value (subst (λ m. p.place < m) (sym (length-map F (maximum_of ts))) p.within)
          go false = ap (λ l. l ++ drop s.count M) kept-as-is

      pub met-again : Holds K P M F (ts ++ (t ∷ [])) (meets s t)
      unfolding meets
      met-again =
          subst (Holds K P M F (ts ++ (t ∷ []))) (sym (ap (λ b. cond b (raised s (get_or s.places t.component 0) t.value) (added s t.component t.value)) is_known))
          (record {
            firsts_are = ap firsts all ∙ firsts_more (components ts) t.component ∙ ap (λ b. cond b (firsts (components ts)) (firsts (components ts) ++ (t.component ∷ []))) a ∙ H.firsts_are;
            count-is = H.count-is;
            keys_are = H.keys_are;
            maxima_are = raises;
            placed = H.placed;
            elsewhere = λ c h. H.elsewhere c (or_left (among c (components ts)) (among c (t.component ∷ [])) (sym (among-append c (components ts) (t.component ∷ [])) ∙ ap (among c) (sym all) ∙ h));
            size = H.size;
          })

    -- a component that is met for the first time
    module _ (a : among t.component (components ts) ≡ false) (B : Below n (components (ts ++ (t ∷ [])))) where
      new : firsts (components (ts ++ (t ∷ []))) ≡ F ++ (t.component ∷ [])
      new = ap firsts all ∙ firsts_more (components ts) t.component ∙ ap (λ b. cond b (firsts (components ts)) (firsts (components ts) ++ (t.component ∷ []))) a
          ∙ ap (λ l. l ++ (t.component ∷ [])) H.firsts_are

      absent : (k : ℕ) → k < length F → get_or F k 0 ≡ t.component → ⊥
      absent k h e =
          true≢false (sym (among-place F k h) ∙ ap (λ c. among c F) e ∙ ap (among t.component) (sym H.firsts_are) ∙ among-firsts t.component (components ts) ∙ a)

      room : s.count < n
      room =
          let l : length (F ++ (t.component ∷ [])) ≡ length F + 1 = length-append F (t.component ∷ []) in
          let c = firsts-count n (components (ts ++ (t ∷ []))) B in
          let e = ap length new in
          omega (arith, H.count-is)

      small : t.component < n
      small = B t.component (ap (among t.component) all ∙ among-append t.component (components ts) (t.component ∷ []) ∙ ap (λ b. b || among t.component (t.component ∷ [])) a
          ∙ ap (λ b. b || false) (eq-eqb t.component t.component refl))

      is-unknown : known s t.component ≡ false
      is-unknown = go (ltb (get_or s.places t.component 0) s.count) refl (eqb (get_or s.keys (get_or s.places t.component 0) 0) t.component) refl
        where
          go : (b : Bool) → ltb (get_or s.places t.component 0) s.count ≡ b → (e : Bool) → eqb (get_or s.keys (get_or s.places t.component 0) 0) t.component ≡ e → (b && e) ≡ false
          go false p e q = refl
          go true p false q = refl
          go true p true q =
              let h : get_or s.places t.component 0 < length F = omega (arith, ltb-true (get_or s.places t.component 0) s.count p, H.count-is) in
              absurd (absent (get_or s.places t.component 0) h (sym (key-at (get_or s.places t.component 0) h) ∙ eqb-true (get_or s.keys (get_or s.places t.component 0) 0) t.component
              q))

      keys-long : length s.keys ≡ length K
      keys-long =
          let e = ap length H.keys_are ∙ length-append F (drop s.count K) in
          let d : length (drop s.count K) ≡ length K - s.count = length-drop s.count K in
          omega (arith, H.count-is, room)

      next : Met
      next = met (s.count + 1) (set s.keys s.count t.component) (set s.places t.component s.count) (set s.maxima s.count t.value)

      is-next : meets s t ≡ next
      unfolding meets next
      is-next =
          ap (λ b. cond b (raised s (get_or s.places t.component 0) t.value) (added s t.component t.value)) is-unknown
          ∙ ap (λ b. cond b (met (s.count + 1) (set s.keys s.count t.component) (set s.places t.component s.count) (set s.maxima s.count t.value)) s)
          (lt-ltb s.count (length s.keys) (omega (arith, keys-long, room)))

      keys-next : set s.keys s.count t.component ≡ (F ++ (t.component ∷ [])) ++ drop (s.count + 1) K
      keys-next = ap (λ l. set l s.count t.component) H.keys_are ∙ set_next F K s.count t.component H.count-is (omega (arith, room))

      maxima-next : set s.maxima s.count t.value ≡ map (maximum_of (ts ++ (t ∷ []))) (F ++ (t.component ∷ [])) ++ drop (s.count + 1) M
      maxima-next =
          ap (λ l. set l s.count t.value) H.maxima_are
          ∙ set_next (map (maximum_of ts) F) M s.count t.value (H.count-is ∙ sym (length-map F (maximum_of ts))) (omega (arith, room))
          ∙ ap (λ l. l ++ drop (s.count + 1) M) (
          ap (λ l. l ++ (t.value ∷ [])) (sym (map_same (maximum_of ts) (maximum_of (ts ++ (t ∷ []))) F (λ k h. maximum-other ts t (get_or F k 0) (λ e. absent k h (sym e)))))
          ∙ ap (λ v. map (maximum_of (ts ++ (t ∷ []))) F ++ (v ∷ [])) (sym (maximum-first ts t a))
          ∙ sym (map-append (maximum_of (ts ++ (t ∷ []))) F (t.component ∷ []))
          )

      placed-next : (k : ℕ) → k < length (F ++ (t.component ∷ [])) → get_or (set s.places t.component s.count) (get_or (F ++ (t.component ∷ [])) k 0) 0 ≡ k
      placed-next k h = go (against k (length F))
        where
          l : length (F ++ (t.component ∷ [])) ≡ length F + 1
          l = length-append F (t.component ∷ [])

          go : Against k (length F) → get_or (set s.places t.component s.count) (get_or (F ++ (t.component ∷ [])) k 0) 0 ≡ k
          go (less p) =
              ap (λ c. get_or (set s.places t.component s.count) c 0) (get_or-append F (t.component ∷ []) 0 k p)
              ∙ get_or-set_other s.places t.component (get_or F k 0) s.count 0 (absent k p)
              ∙ H.placed k p
          go (same p) =
              ap (λ c. get_or (set s.places t.component s.count) c 0) (get_or_at F t.component [] 0 k (sym p))
              ∙ get_or-set_same s.places t.component s.count 0 (omega (arith, small, H.size))
              ∙ H.count-is
              ∙ sym p
          go (more p) = let z : ⊥ = omega (arith, l) in absurd z

      elsewhere-next : (c : ℕ) → among c (components (ts ++ (t ∷ []))) ≡ false → get_or (set s.places t.component s.count) c 0 ≡ get_or P c 0
      elsewhere-next c h =
          let w = sym (among-append c (components ts) (t.component ∷ [])) ∙ ap (among c) (sym all) ∙ h in
          let u = or_left (among c (components ts)) (among c (t.component ∷ [])) w in
          let v = or_left (eqb c t.component) false (or_right (among c (components ts)) (among c (t.component ∷ [])) w) in
          get_or-set_other s.places t.component c s.count 0 (eqb-false c t.component v) ∙ H.elsewhere c u

      pub met-new : Holds K P M (F ++ (t.component ∷ [])) (ts ++ (t ∷ [])) (meets s t)
      unfolding next
      met-new =
          subst (Holds K P M (F ++ (t.component ∷ [])) (ts ++ (t ∷ []))) (sym is-next)
          (record {
            firsts_are = new;
            count-is = ap (λ n. n + 1) H.count-is ∙ sym (length-append F (t.component ∷ []));
            keys_are = keys-next;
            maxima_are = maxima-next;
            placed = placed-next;
            elsewhere = elsewhere-next;
            size = length-set s.places t.component s.count ∙ H.size;
          })
