-- What follows from the promises on how much is skipped and evaluated.
use Rattle.std.specs.Prelude.{ℕ, suc, ◌+◌, ◌-◌, ◌≤◌, ◌<◌, min, ◌≡◌, refl, Bool, true, false, ◌||◌, List, [], ◌∷◌, ◌++◌, map, ◌⊎◌, length, get_or, eqb, Float}
use Rattle.std.proofs.Common.{arith, sym, ap, ◌∙◌, subst, true≢false, append_assoc, inl, inr, length-append, eq-eqb}
use Rattle.std.proofs.Math.Bool.{or-true}
use Rattle.std.specs.Float.{nan, inf, fin, binary32}
use Rattle.std.specs.Float.Ieee.{lt, mul}
use Rattle.sequences.specs.Lists.{EachOf, among}
use Rattle.sequences.specs.Laws.Lists.{among-append}
use Rattle.sequences.specs.Laws.Each.{each_take}
use Rattle.kept_list.specs.declared.Scored.{Scored}
use Rattle.kept_list.specs.Entry.{better}
use Rattle.kept_list.specs.Laws.Entry.{better-order}
use Rattle.kept_list.specs.Keep.{k_best}
use Rattle.search_probe.specs.Probing.{Place, Given, State, passed, stopped, found, start_at, Reached, goes_on, stops_at, positions, worst, left}
use Rattle.search.specs.Trace.{Event, at, Turn, skipped_block, probed_block, entries_of, starts_of, places_of, position_of, events_of, skipped_in}
use Rattle.search.specs.Laws.Told.{entries-append, events-append, starts-append}
use Rattle.search.specs.Fates.{Posting, Evaluated, InSkipped, VisitedBefore, StoppedBefore}
use Rattle.search.specs.Promises.{Promises}
use Rattle.search.specs.Laws.Promises.{skips-iff}
use Rattle.kept_list.specs.Laws.Worst.{count-k_best}
use Rattle.search_promises.specs.Laws.Counts.{from-below, distinct-few, marked-count}
use Rattle.search_promises.specs.Counts.{visited_in}

count_none : (story p ts : List Turn) → story ≡ p ++ ts → ((p : List Turn) (b : ℕ) (q : List Turn) → story ≡ p ++ (skipped_block b ∷ q) → ⊥) → skipped_in ts ≡ 0
count_none story p [] e h = refl
count_none story p (skipped_block b ∷ ts) e h = absurd (h p b ts e)
count_none story p (probed_block b es ∷ ts) e h = count_none story (p ++ (probed_block b es ∷ [])) ts (e ∙ sym (append_assoc p (probed_block b es ∷ []) ts)) h

-- ---- as many places and starts as entries
places-many : (es : List Event) → length (places_of es) ≡ length (entries_of es)
places-many [] = refl
places-many (at i passed ∷ es) = places-many es
places-many (at i (stopped r) ∷ es) = places-many es
places-many (at i (found e) ∷ es) = ap suc (places-many es)

starts-many : (g : Given) (es : List Event) → length (starts_of g es) ≡ length (entries_of es)
starts-many g [] = refl
starts-many g (at i passed ∷ es) = starts-many g es
starts-many g (at i (stopped r) ∷ es) = starts-many g es
starts-many g (at i (found e) ∷ es) = ap suc (starts-many g es)

-- ---- the evaluated places are among those reached
places-each : (P : Place → Type 0) (es fs : List Event) → EachOf P (map position_of es) → EachOf P (places_of fs) → EachOf P (places_of (es ++ fs))
places-each P [] fs h k = k
places-each P (at i passed ∷ es) fs h k = places-each P es fs h.1 k
places-each P (at i (stopped r) ∷ es) fs h k = places-each P es fs h.1 k
places-each P (at i (found e) ∷ es) fs h k = (h.0, places-each P es fs h.1 k)

places-walk : (P : Place → Type 0) (story p ts : List Turn) → story ≡ p ++ ts
    → ((p : List Turn) (b : ℕ) (es : List Event) (q : List Turn) → story ≡ p ++ (probed_block b es ∷ q) → EachOf P (map position_of es)) → EachOf P (places_of (events_of ts))
places-walk P story p [] e h = tt
places-walk P story p (skipped_block b ∷ ts) e h = places-walk P story (p ++ (skipped_block b ∷ [])) ts (e ∙ sym (append_assoc p (skipped_block b ∷ []) ts)) h
places-walk P story p (probed_block b es ∷ ts) e h =
    places-each P es (events_of ts) (h p b es ts e) (places-walk P story (p ++ (probed_block b es ∷ [])) ts (e ∙ sym (append_assoc p (probed_block b es ∷ []) ts)) h)

-- ---- the start of a told event is among the starts
told-events : (story : List Turn) (b : ℕ) (v : Event) (ts : List Turn) (x y : List Event) (us : List Turn) → story ≡ ts ++ (probed_block b (x ++ (v ∷ y)) ∷ us)
    → events_of story ≡ (events_of ts ++ x) ++ (v ∷ (y ++ events_of us))
told-events story b v ts x y us e =
    ap events_of e ∙ events-append ts (probed_block b (x ++ (v ∷ y)) ∷ us) ∙ ap (λ l. events_of ts ++ l) (append_assoc x (v ∷ y) (events_of us))
    ∙ sym (append_assoc (events_of ts) x (v ∷ (y ++ events_of us)))

starts-told : (g : Given) (n : ℕ) (story : List Turn) (b : ℕ) (v : Event) (ts : List Turn) (x y : List Event) (us : List Turn) → story ≡ ts ++ (probed_block b (x ++ (v ∷ y)) ∷ us)
    → among n (starts_of g (events_of story)) ≡ (among n (starts_of g (events_of ts ++ x)) || among n (starts_of g (v ∷ (y ++ events_of us))))
starts-told g n story b v ts x y us e =
    ap (λ l. among n (starts_of g l)) (told-events story b v ts x y us e) ∙ ap (among n) (starts-append g (events_of ts ++ x) (v ∷ (y ++ events_of us)))
    ∙ among-append n (starts_of g (events_of ts ++ x)) (starts_of g (v ∷ (y ++ events_of us)))

-- ---- with a NaN for the factor the test never holds
lt-nan : (x : Float) → lt x nan ≡ false
unfolding lt
lt-nan nan = refl
lt-nan (inf s) = refl
lt-nan (fin s m e) = refl

nan-times : (x : Float) → mul binary32 nan x ≡ nan
unfolding mul
nan-times x = refl

module _ (g : Given) (bs : List ℕ) (s : State) (r : Reached) (P : Promises g bs s r) where
  abbrev pub evaluated_entries : List Scored
  evaluated_entries = entries_of (events_of P.story)

  pub nan-skips-none : g.factor ≡ nan → skipped_in P.story ≡ 0
  nan-skips-none h = count_none P.story [] P.story refl no
    where
      no : (p : List Turn) (b : ℕ) (q : List Turn) → P.story ≡ p ++ (skipped_block b ∷ q) → ⊥
      no p b q e =
          let kept = k_best better g.k (s.kept ++ entries_of (events_of p)) in
          let t = ((skips-iff g kept b).0 (P.skipped_when p b q e)).1 in
          true≢false (sym t ∙ ap (λ f. lt (get_or g.block_scores b nan) (mul binary32 f (worst kept))) h ∙ ap (lt (get_or g.block_scores b nan)) (nan-times (worst kept))
          ∙ lt-nan (get_or g.block_scores b nan))

  -- no more are evaluated than there are postings: their places differ
  pub few-evaluated : length evaluated_entries ≤ length g.postings
  few-evaluated =
      let n = length g.postings in
      let reached = places-walk (λ i. i < n) P.story [] P.story refl
      (λ p b es q e. subst (EachOf (λ i. i < n)) (sym (P.reached_in_order p b es q e))
      (each_take (λ i. i < n) (length es) (positions g b) (from-below (get_or g.block_offsets b 0) (min (get_or g.block_offsets (b + 1) 0) n - get_or g.block_offsets b 0) n (omega arith)))) in
      omega (arith, places-many (events_of P.story), distinct-few n (places_of (events_of P.story)) P.once reached)

  -- and as many visit bytes became nonzero as were evaluated
  pub counts-marks : visited_in (left r).visits ≡ visited_in s.visits + length evaluated_entries
  counts-marks =
      ap visited_in P.marks ∙ marked-count s.visits (starts_of g (events_of P.story)) P.different P.unvisited ∙ ap (λ n. visited_in s.visits + n) (starts-many g (events_of P.story))

  -- ---- with k above all that is kept and all postings
  module _ (large : length s.kept + length g.postings < g.k) where
    none-skipped : (p : List Turn) (b : ℕ) (q : List Turn) → P.story ≡ p ++ (skipped_block b ∷ q) → ⊥
    none-skipped p b q e =
        let es = s.kept ++ entries_of (events_of p) in
        let full = ((skips-iff g (k_best better g.k es) b).0 (P.skipped_when p b q e)).0 in
        let c = ap (λ l. length (entries_of l)) (ap events_of e ∙ events-append p (skipped_block b ∷ q)) in
        let d = ap length (entries-append (events_of p) (events_of q)) in
        omega (arith, few-evaluated, full, count-k_best better better-order g.k es, length-append s.kept (entries_of (events_of p)), length-append (entries_of (events_of p)) (entries_of (events_of q)))

    pub large-skips-none : skipped_in P.story ≡ 0
    large-skips-none = count_none P.story [] P.story refl none-skipped

    -- if the search came to its end, the start of each posting in a block that was unvisited is evaluated
    pub large-evaluates-all : (t : State) → r ≡ goes_on t → (p : Posting g bs) → get_or s.visits (start_at g p.place) 0 ≡ 0 → among (start_at g p.place) (starts_of g (events_of P.story)) ≡ true
    large-evaluates-all t on p z = go (among start (starts_of g (events_of P.story))) refl
      where
        start : ℕ
        start = start_at g p.place

        found_in : Evaluated g bs P.story p → among start (starts_of g (events_of P.story)) ≡ true
        found_in v =
            let m = v.1 in
            let same : eqb start start ≡ true = eq-eqb start start refl in
            starts-told g start P.story p.block (at p.place (found v.0)) m.turns_before m.events_before m.events_after m.turns_after m.told
            ∙ ap (λ b. among start (starts_of g (events_of m.turns_before ++ m.events_before)) || (b || among start (starts_of g (m.events_after ++ events_of m.turns_after)))) same
            ∙ or-true (among start (starts_of g (events_of m.turns_before ++ m.events_before)))

        else-in : InSkipped g bs P.story p ⊎ (VisitedBefore g bs s P.story p ⊎ StoppedBefore g bs r P.story p) → among start (starts_of g (events_of P.story)) ≡ true
        else-in (inl m) = absurd (none-skipped m.turns_before p.block m.turns_after m.told)
        else-in (inr (inl v)) = seen v.1
          where
            seen : (get_or s.visits start 0 ≡ 0 → ⊥) ⊎ (among start (starts_of g (events_of v.0.turns_before ++ v.0.events_before)) ≡ true) → among start (starts_of g (events_of P.story)) ≡ true
            seen (inl n) = absurd (n z)
            seen (inr a) =
                let m = v.0 in
                starts-told g start P.story p.block (at p.place passed) m.turns_before m.events_before m.events_after m.turns_after m.told
                ∙ ap (λ b. b || among start (starts_of g (m.events_after ++ events_of m.turns_after))) a
        else-in (inr (inr h)) = let q : stops_at h.reason h.stop_place h.then ≡ goes_on t = sym h.stops ∙ on in let z : ◌≡◌ {A = ℕ} 0 1 = cc in absurd (omega arith)

        go : (b : Bool) → among start (starts_of g (events_of P.story)) ≡ b → among start (starts_of g (events_of P.story)) ≡ true
        go true e = e
        go false e = else-in (P.not_evaluated p (λ v. true≢false (sym (found_in v) ∙ e)))
