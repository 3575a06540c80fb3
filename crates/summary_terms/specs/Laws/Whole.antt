-- The whole of summarizing a block, by what its parts did.
use Rattle.std.specs.Prelude.{ℕ, ◌≤◌, ◌<◌, ◌≡◌, length, get_or, drop, T, Float}
use Rattle.std.proofs.Common.{arith, sym, ap, ◌∙◌, length-append}
use Rattle.std.proofs.Math.Path.{subst}
use mathlib.Core.List.{List, [], ◌∷◌, map, foldl}
use Rattle.std.proofs.lemmas.List.{length-map}
use Rattle.std.specs.Float.{nan, binary32}
use Rattle.std.specs.Float.Ieee.{fits}
use Rattle.sequences.specs.Lists.{EachOf}
use Rattle.documents.specs.Documents.{Term, paired, Documents, terms, start, size}
use Rattle.sequences.specs.Laws.Each.{each_append, each_take, each-drop}
use Rattle.documents.specs.Laws.Places.{terms-part}
use Rattle.documents.specs.Laws.TermKeys.{Held, held-paired}
use Rattle.configuration.specs.declared.SummarizationStrategy.{SummarizationStrategy}
use Rattle.summary_maximum.specs.Maximum.{below}
use Rattle.summary_maximum.specs.Meeting.{Met, met, meets}
use Rattle.summary_maximum.specs.Changes.{maximum_of}
use Rattle.summary_maximum.specs.Laws.Limited.{limited, each_below}
use Rattle.summary_maximum.specs.Laws.Meetings.{none-met}
use Rattle.summary_maximum.specs.Laws.After.{AfterAll, all-met}
use Rattle.summary_terms.specs.Summaries.{block_terms, summary_of}
use Rattle.summary_terms.specs.Answers.{limit_of, Summarizes}
use Rattle.summary_terms.specs.Steps.{FinishedFirst}
use Rattle.summary_terms.specs.Laws.Left.{keys-end, places-end, maxima-end, answer-end}

-- ---- terms as slices hold them
pub block_held : (d : Documents) (block : List ℕ) → ((k : ℕ) → get_or d.components k 0 < 4294967296) → ((k : ℕ) → T (fits binary32 (get_or d.values k nan))) → EachOf Held (block_terms d block)
block_held d [] f g = tt
block_held d (i ∷ block) f g =
    each_append Held (terms d i) (block_terms d block)
    (subst (EachOf Held) (sym (terms-part d i)) (each_take Held (size d i) (drop (start d i) (paired d.components d.values)) (each-drop Held (start d i) (paired d.components d.values)
    (held-paired d.components d.values f g))))
    (block_held d block f g)

-- ---- the terms below a limit, taken where each buffer has as many places
module _ (dimension limit : ℕ) (strategy : SummarizationStrategy) (d : Documents) (block K P : List ℕ) (M : List Float) (q : limit ≡ limit_of dimension (length K) (length P) (length M)) (s : Met)
    (e : s ≡ foldl meets (met 0 K P M) (below limit (block_terms d block))) where
  abbrev ts : List Term
  ts = below limit (block_terms d block)

  rooms : (limit ≤ length K) × (limit ≤ length P) × (limit ≤ length M)
  rooms = (omega arith, omega arith, omega arith)

  after : AfterAll K P M limit rooms.0 rooms.1 rooms.2 ts s
  after =
      subst (AfterAll K P M limit rooms.0 rooms.1 rooms.2 ts) (sym e)
      (all-met K P M limit rooms.0 rooms.1 rooms.2 [] ts (met 0 K P M) (record { first = []; holds = none-met K P M limit rooms.0 rooms.1 rooms.2 })
      (limited limit (block_terms d block)))

  pub keys-suffice : s.count ≤ length s.keys
  keys-suffice =
      let l = ap length after.holds.keys_are ∙ length-append after.first (drop s.count K) in
      omega (arith, after.holds.count-is)

  pub maxima-suffice : s.count ≤ length s.maxima
  maxima-suffice =
      let l = ap length after.holds.maxima_are ∙ length-append (map (maximum_of ts) after.first) (drop s.count M) in
      omega (arith, after.holds.count-is, length-map after.first (maximum_of ts))

  pub summarized : (r : ℕ) (keys places : List ℕ) (maxs : List Float) → EachOf Held (block_terms d block) → FinishedFirst strategy s r keys places maxs
      → Summarizes strategy (below (limit_of dimension (length K) (length P) (length M)) (block_terms d block)) K P M r keys places maxs
  unfolding summary_of
  summarized r keys places maxs H D =
      let E : EachOf Held ts = each_below Held limit (block_terms d block) H in
      let F = after.first in
      let A = after.holds in
      subst (λ n. Summarizes strategy (below n (block_terms d block)) K P M r keys places maxs) q
      (record {
        answer = answer-end K P M F ts E s A strategy r keys places maxs D;
        keys_left = keys-end K P M F ts E s A strategy r keys places maxs D;
        places_left = places-end K P M F ts E s A strategy r keys places maxs D;
        maxima_left = maxima-end K P M F ts E s A strategy r keys places maxs D;
      })
