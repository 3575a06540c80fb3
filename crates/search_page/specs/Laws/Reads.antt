-- With the table and the sieve of a query whose terms hold, a page reads as it does against that query.
use Rattle.std.specs.Prelude.{◌≡◌, refl, List, map, Bool, true, false, cond, ℕ, length, eqb, ltb, Float, Some, None}
use Rattle.std.proofs.Common.{sym, ap, ◌∙◌, arith}
use Rattle.std.specs.Float.{binary32}
use Rattle.std.specs.Float.Ieee.{of_bits}
use Rattle.sequences.specs.Lists.{every, strictly_rise}
use Rattle.sequences.specs.Laws.Lists.{both}
use Rattle.float32.specs.Bound.{in_bound}
use Rattle.float32.specs.Laws.Comparisons.{zero_of}
use Rattle.documents.specs.Documents.{paired, dot}
use Rattle.documents.specs.Checks.{terms_hold, slices_hold, slices_hold_below}
use Rattle.documents.specs.Laws.Documents.{paired-components, slices-apart, slices-even, slices-below, slices-even as holds-even}
use Rattle.search_page.specs.Reading.{reading}
use Rattle.search_page.specs.Laws.Through.{table_of}
use Rattle.search_page.specs.Through.{laid_sum, sieve_of, sum_of, through, read_through}
use Rattle.search_page.specs.Laws.Laid.{laid-right, fine-start}
use Rattle.search_page.specs.Laws.Score.{Above, above_of, walked-is-dot}
use Rattle.search_page.specs.Laws.Walk.{sieve-passes, through-right}

holds-rise : (cs : List ℕ) (vs : List Float) → slices_hold cs vs ≡ true → strictly_rise (map (λ t. t.component) (paired cs vs)) ≡ true
unfolding slices_hold terms_hold
holds-rise cs vs h =
    let t = (both (eqb (length cs) (length vs)) (terms_hold (paired cs vs)) h).1 in
    (both (strictly_rise (map (λ t. t.component) (paired cs vs))) (every (λ t. in_bound t.value) (paired cs vs)) t).0

pub read_is : (qs : List ℕ) (ws : List Float) (cs : List ℕ) (vs : List Float) → slices_hold qs ws ≡ true → read_through (table_of qs ws) (sieve_of qs) qs ws cs vs ≡ reading qs ws cs vs
unfolding read_through reading of_bits
read_is qs ws cs vs h = low (slices_hold_below 32768 cs vs) refl
  where
    even : length qs ≡ length ws
    even = holds-even qs ws h

    rise : strictly_rise qs ≡ true
    rise = rw (paired-components qs ws even) at (holds-rise qs ws h)

    query_components : Above 0 (paired qs ws)
    query_components = above_of (paired qs ws) (holds-rise qs ws h)

    at : (b : Bool) → slices_hold cs vs ≡ b → cond b (Some (through (sieve_of qs) qs ws cs vs (sum_of (of_bits binary32 0) 0)).total) None ≡ cond b (Some (dot (paired qs ws) (paired cs vs))) None
    at true e =
        let a = above_of (paired cs vs) (holds-rise cs vs e) in
        ap Some (through-right (sieve_of qs) qs ws (sieve-passes qs) rise even 0 cs vs (sum_of (of_bits binary32 0) 0) a (λ k g. omega arith) ∙ walked-is-dot (paired qs ws) (paired cs vs)
        query_components a)
    at false e = refl

    low : (b : Bool) → slices_hold_below 32768 cs vs ≡ b
        → cond b (Some (laid_sum (table_of qs ws) cs vs (of_bits binary32 0))) (cond (slices_hold cs vs) (Some (through (sieve_of qs) qs ws cs vs (sum_of (of_bits binary32 0) 0)).total) None)
        ≡ cond (slices_hold cs vs) (Some (dot (paired qs ws) (paired cs vs))) None
    low true e =
        let p = both (slices_hold cs vs) (every (λ c. ltb c 32768) cs) (sym (slices-below 32768 cs vs) ∙ e) in
        let q = both (strictly_rise cs) (every in_bound vs) (sym (slices-apart cs vs (slices-even cs vs p.0)) ∙ p.0) in
        rw p.0
        (ap Some (laid-right qs ws query_components cs vs (zero_of false) p.1 q.1 fine-start ∙ walked-is-dot (paired qs ws) (paired cs vs) query_components
        (above_of (paired cs vs) (holds-rise cs vs p.0))))
    low false e = at (slices_hold cs vs) refl
