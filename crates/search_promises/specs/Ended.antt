-- What a caller of a search has, by its answer: that it came to its end, was stopped, or was refused.
use Rattle.std.specs.Prelude.{ℕ, ◌≡◌, Bool, List, length, get_or}
use Rattle.refusal.specs.declared.Refusal.{Refusal}
use Rattle.refusal.specs.First.{FirstFault}
use Rattle.sparse_scores.specs.Scores.{put_in}
use Rattle.search_probe.specs.declared.Answer.{Answer}
use Rattle.search_probe.specs.declared.Answer.TheVariants as answer
use Rattle.search_probe.specs.Probing.{Place, State, goes_on, stops_at}
use Rattle.search_probe.specs.Probed.{Lends}
use Rattle.search.specs.Searched.{Question, swept, tests}
use Rattle.search.specs.Trace.{entries_of, events_of, skipped_in}
use Rattle.search.specs.Dots.{Stop}
use Rattle.search_promises.specs.Ran.{Ran}

-- a search that came to its end: so many are kept, evaluated and skipped
pub record Ended (q : Question) (l : Lends) (blocks : List ℕ) (x : Lends) (n e m : ℕ) : Type 0 where
  pub runs : Ran q l blocks x
  pub last : State
  pub on : swept q blocks l ≡ goes_on last
  pub kept_many : n ≡ x.kept.size
  pub counts_evaluated : e ≡ length (entries_of (events_of runs.promises.sweeps.story))
  pub counts_skipped : m ≡ skipped_in runs.promises.sweeps.story

-- a search that was stopped by 13 or 14 at a posting
pub record Halted (q : Question) (l : Lends) (blocks : List ℕ) (x : Lends) (r : Refusal) (i : Place) : Type 0 where
  pub runs : Ran q l blocks x
  pub last : State
  pub off : swept q blocks l ≡ stops_at r i last
  pub reason : Stop q.terms (get_or q.postings i 0) r

-- a search that was refused for its first fault: nothing has changed
pub record Refused (q : Question) (l : Lends) (places : Bool) (x : Lends) (r : Refusal) : Type 0 where
  pub fault : FirstFault (tests q l places) r
  pub unchanged : x ≡ l

-- what follows of an answer
abbrev pub Follows : Question → Lends → List ℕ → Bool → Lends → Answer → Type 0
Follows q l blocks places x (answer.Refused r) = Refused q l places x r
Follows q l blocks places x (answer.Stopped r i) = Halted q l blocks x r i
Follows q l blocks places x (answer.Found n e m) = Ended q l blocks x n e m

-- what a buffer is left with: a result at its front, unless the search was refused
abbrev pub left_in : {A : Type 0} → Answer → List A → List A → List A
left_in (answer.Refused r) result buffer = buffer
left_in (answer.Stopped r i) result buffer = put_in result buffer
left_in (answer.Found n e m) result buffer = put_in result buffer
