-- No score that an accepted search keeps is a NaN, whatever the slices hold: those it began with are numbers (12), and the page of each
-- that was evaluated is in its bounds (14), as the query is (10).
use Rattle.std.specs.Prelude.{ℕ, ◌≡◌, refl, Bool, true, false, not, ◌&&◌, cond, List, [], ◌∷◌, get_or, set, eqb, Float, Ok}
use Rattle.std.proofs.Common.{arith, sym, ap, ◌∙◌, subst}
use Rattle.std.specs.Float.Ieee.{is_nan}
use Rattle.std.proofs.lemmas.Bool.{not-false}
use Rattle.sequences.specs.Lists.{every}
use Rattle.sequences.specs.Laws.Lists.{both}
use Rattle.refusal.specs.declared.Refusal.{Refusal}
use Rattle.refusal.specs.declared.Refusal.TheVariants.{PastTheTerms, WrongTerms}
use Rattle.refusal.specs.First.{first_of, Faultless}
use Rattle.refusal.specs.Laws.First.{faultless}
use Rattle.float32.specs.Laws.Tests.{is_true}
use Rattle.documents.specs.Documents.{dot}
use Rattle.documents.specs.Checks.{slices_hold}
use Rattle.kept_list.specs.declared.Scored.{Scored}
use Rattle.kept_list.specs.Entry.{better, scored}
use Rattle.kept_list.specs.Keep.{keep, keep_all}
use Rattle.kept_list.specs.Lent.{entries}
use Rattle.kept_list.specs.Push.{is_number, well_kept}
use Rattle.kept_list.specs.Laws.Told.{numbers-kept}
use Rattle.kept_list.specs.Laws.WellKept.{well-kept}
use Rattle.search_postings.specs.declared.RangeReading.{RangeReading}
use Rattle.search_postings.specs.declared.RangeReading.TheVariants.{ReachesPast, Breaks, Score}
use Rattle.search_probe.specs.Probing.{Given, State, passed, stopped, found, outcome, of_reading, packed_at, start_at}
use Rattle.search_probe.specs.Probed.{Terms, Lends, read_in, bytes_of, laid, opened}
use Rattle.search.specs.Searched.{Question, given_for, swept, tests}
use Rattle.search.specs.Trace.{Event, at, turns, entries_of, events_of}
use Rattle.search.specs.Laws.Told.{sweep-told}
use Rattle.search.specs.Laws.Once.{AllRight, all_right}
use Rattle.search.specs.Dots.{query_terms, in_range, range_terms}
use Rattle.search.specs.Laws.Dots.{score-is-dot}
use Rattle.search.specs.Laws.Scores.{page-score-number}
use Rattle.search_probe.specs.Laws.Laid.{laid_kept}

pub both_true : (a b : Bool) → a ≡ true → b ≡ true → (a && b) ≡ true
both_true true b h k = k
both_true false b h k = h

found-reading : (g : Given) (visits : List ℕ) (i : ℕ) (e : Scored) → outcome g visits i ≡ found e → (x : Float) × (g.read (packed_at g i) ≡ Score x) × (e ≡ scored (packed_at g i) x)
found-reading g visits i e h = go (eqb (get_or visits (start_at g i) 0) 0) (g.read (packed_at g i)) refl h
  where
    clash : passed ≡ found e → ⊥
    clash h = let z : ◌≡◌ {A = ℕ} 0 1 = cc in omega arith

    stop-clash : (r : Refusal) → stopped r ≡ found e → ⊥
    stop-clash r h = let z : ◌≡◌ {A = ℕ} 0 1 = cc in omega arith

    same : (f : Scored) → found f ≡ found e → e ≡ f
    same f h = cc

    go : (b : Bool) (r : RangeReading) → g.read (packed_at g i) ≡ r → cond (not b) passed (of_reading (packed_at g i) r) ≡ found e → (x : Float) × (g.read (packed_at g i) ≡ Score x)
        × (e ≡ scored (packed_at g i) x)
    go false r q h = absurd (clash h)
    go true ReachesPast q h = absurd (stop-clash PastTheTerms h)
    go true Breaks q h = absurd (stop-clash WrongTerms h)
    go true (Score x) q h = (x, q, same (scored (packed_at g i) x) h)

story-numbers : (g : Given) (visits : List ℕ) (es : List Event) → AllRight g visits es → ((p : ℕ) (x : Float) → g.read p ≡ Score x → not (is_nan x) ≡ true) → every is_number (entries_of es) ≡ true
story-numbers g visits [] a f = refl
story-numbers g visits (at i passed ∷ es) a f = story-numbers g visits es a.1 f
story-numbers g visits (at i (stopped r) ∷ es) a f = story-numbers g visits es a.1 f
story-numbers g visits (at i (found e) ∷ es) a f =
    let w = found-reading g visits i e a.0 in
    both_true (is_number e) (every is_number (entries_of es)) (ap is_number w.2 ∙ f (packed_at g i) w.0 w.1) (story-numbers g (set visits (start_at g i) 1) es a.1 f)

all-kept : (k : ℕ) (kept es : List Scored) → every is_number kept ≡ true → every is_number es ≡ true → every is_number (keep_all better k kept es) ≡ true
all-kept k kept [] h n = h
all-kept k kept (e ∷ es) h n = let p = both (is_number e) (every is_number es) n in all-kept k (keep better k e kept) es (numbers-kept k e kept p.0 h) p.1

-- a range that has a score has a number
range-number : (t : Terms) → slices_hold t.query_components t.query_values ≡ true → (p : ℕ) (x : Float) → read_in t p ≡ Score x → not (is_nan x) ≡ true
range-number t h p x e =
    let d = score-is-dot t p x e in
    subst (λ y. not (is_nan y) ≡ true) (sym d.is) (is_true (not (is_nan (dot (query_terms t) (range_terms t p)))) (page-score-number t.query_components t.query_values (in_range p t.components)
    (in_range p t.values) h d.holds))

module _ (q : Question) (l : Lends) (b : Bool) (accepted : first_of (tests q l b) ≡ Ok tt) where
  faults : Faultless (tests q l b)
  faults = faultless (tests q l b) accepted

  pub kept-numbers : (blocks : List ℕ) → every is_number (entries (laid q.terms l (swept q blocks l)).lent.kept) ≡ true
  kept-numbers blocks =
      let g = given_for q in
      let s = opened q.terms l in
      ap (every is_number) (laid_kept q.terms l (swept q blocks l) ∙ ap (λ (t : State). t.kept) (sweep-told g blocks s))
      ∙ all-kept q.k (entries l.kept) (entries_of (events_of (turns g blocks s))) (well-kept q.k l.kept (not-false (well_kept q.k l.kept) faults.1.1.1.1.0)).numbers
      (story-numbers g (bytes_of q.terms l.visits) (events_of (turns g blocks s)) (all_right g blocks s) (range-number q.terms (not-false (slices_hold q.terms.query_components
      q.terms.query_values) faults.1.0)))
