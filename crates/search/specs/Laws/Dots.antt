-- Laws of Dots: the score of a posting that was evaluated is the dot product of the terms of its range with the query.
use Rattle.std.specs.Prelude.{ℕ, ◌+◌, ◌-◌, ◌≡◌, refl, Bool, true, false, cond, List, length, leb, Float, Some, None}
use Rattle.std.proofs.Common.{arith, sym, subst, leb-true, leb-false}
use Rattle.sequences.specs.Lists.{part}
use Rattle.packing.specs.Packing.{start_of, length_of}
use Rattle.documents.specs.Documents.{paired, dot}
use Rattle.documents.specs.Checks.{slices_hold}
use Rattle.search_page.specs.Reading.{reading}
use Rattle.search_postings.specs.declared.RangeReading.{RangeReading}
use Rattle.search_postings.specs.declared.RangeReading.TheVariants.{ReachesPast, Breaks, Score}
use Rattle.search_postings.specs.Ranges.{of_page, range_reading}
use Rattle.refusal.specs.declared.Refusal.TheVariants.{PastTheTerms, WrongTerms}
use Rattle.search_probe.specs.Probing.{Outcome, passed, stopped, found, visited, of_reading, outcome_of}
use Rattle.search_probe.specs.Probed.{Terms, read_in}
use Rattle.search.specs.Dots.{query_terms, in_range, range_terms, DotOf, Stop, reaches_past, breaks_rules}

-- ---- what reading a range gives
abbrev pub Reads : Terms → ℕ → RangeReading → Type 0
Reads t p ReachesPast = Stop t p PastTheTerms
Reads t p Breaks = Stop t p WrongTerms
Reads t p (Score x) = DotOf t p x

pub reads : (t : Terms) (p : ℕ) → Reads t p (read_in t p)
unfolding range_reading reading
reads t p = subst (λ n. Reads t p (read n)) (sym size) (go (leb (start_of p + length_of p) (length t.components)) refl (slices_hold (in_range p t.components) (in_range p t.values)) refl)
  where
    read : ℕ → RangeReading
    read n =
        cond (leb (start_of p + length_of p) (length t.components))
        (of_page (cond (slices_hold (part (start_of p) n t.components) (part (start_of p) n t.values)) (Some (dot (query_terms t) (paired (part (start_of p) n t.components)
        (part (start_of p) n t.values)))) None)) ReachesPast

    size : start_of p + length_of p - start_of p ≡ length_of p
    size = omega arith

    go : (a : Bool) → leb (start_of p + length_of p) (length t.components) ≡ a → (b : Bool) → slices_hold (in_range p t.components) (in_range p t.values) ≡ b
        → Reads t p (cond a (of_page (cond b (Some (dot (query_terms t) (range_terms t p))) None)) ReachesPast)
    go true a true b = record { within = leb-true (start_of p + length_of p) (length t.components) a; holds = b; is = refl }
    go true a false b = breaks_rules refl (leb-true (start_of p + length_of p) (length t.components) a) b
    go false a c b = reaches_past refl (leb-false (start_of p + length_of p) (length t.components) a)

pub score-is-dot : (t : Terms) (p : ℕ) (x : Float) → read_in t p ≡ Score x → DotOf t p x
score-is-dot t p x h = subst (Reads t p) h (reads t p)

-- ---- what becomes of a posting: its entry is its packed number with its score
abbrev pub Gives : Terms → ℕ → Outcome → Type 0
Gives t p passed = Unit {0}
Gives t p (stopped r) = Stop t p r
Gives t p (found e) = (e.packed ≡ p) × DotOf t p e.score

pub outcome-gives : (t : Terms) (visits : List ℕ) (p : ℕ) → Gives t p (outcome_of (read_in t) visits p)
outcome-gives t visits p = go (visited visits p) (read_in t p) (reads t p)
  where
    go : (b : Bool) (r : RangeReading) → Reads t p r → Gives t p (cond b passed (of_reading p r))
    go true r d = tt
    go false ReachesPast d = d
    go false Breaks d = d
    go false (Score x) d = (refl, d)
