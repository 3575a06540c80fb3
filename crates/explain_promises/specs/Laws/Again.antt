-- What some turns leave where it was lent is taken up again by later ones: it is accepted, and it is the same state.
use Rattle.std.specs.Prelude.{ℕ, ◌+◌, ◌≤◌, ◌≡◌, false, ◌||◌, List, [], ◌∷◌, ◌++◌, length, leb, ltb, Ok}
use Rattle.std.proofs.Common.{arith, ap, ◌∙◌, length-append, length-drop, length-take-le, take_at, ltb-false, leb-false, le-ltb}
use Rattle.std.proofs.lemmas.Bool.{lt-leb}
use Rattle.sequences.specs.Laws.Lists.{neither}
use Rattle.refusal.specs.First.{first_of}
use Rattle.refusal.specs.Laws.First.{faultless, accepted-by}
use Rattle.kept_list.specs.declared.Scored.{Scored}
use Rattle.kept_list.specs.Keep.{keep, keep_all}
use Rattle.kept_list.specs.Laws.Pushing.{length-keep}
use Rattle.kept_list.specs.Entry.{better}
use Rattle.kept_list.specs.Lent.{entries, written}
use Rattle.kept_list.specs.Laid.{RoomFor}
use Rattle.kept_list.specs.Laws.Laid.{entries-written, room-written, length-beside}
use Rattle.search_probe.specs.Probing.{Given, State, state}
use Rattle.search_probe.specs.Probed.{Terms, Lends, lends, tests, bytes_of, rest_of, opened}
use Rattle.search.specs.Trace.{Turn, entries_of, starts_of, events_of, after}
use Rattle.search.specs.Laws.Told.{length_marked}

-- what is held once a state is laid down where the kept list and the visit bytes lie
abbrev pub laid_down : Terms → Lends → State → Lends
laid_down t l s = lends (written s.kept l.kept) (s.visits ++ rest_of t l.visits)

keep_all-few : (k : ℕ) (es ps : List Scored) → length es ≤ k → length (keep_all better k es ps) ≤ k
keep_all-few k es [] h = h
keep_all-few k es (p ∷ ps) h = keep_all-few k (keep better k p es) ps (omega (arith, length-keep better k p es))

module _ (k : ℕ) (t : Terms) (l : Lends) (accepted : first_of (tests k t l) ≡ Ok tt) where
  -- there is room for k entries, and a byte for each start
  places : ((ltb (length l.kept.packed) k ≡ false) × (ltb (length l.kept.scores) k ≡ false)) × (leb (length l.visits) (length t.components) ≡ false)
  places =
      let b = neither (ltb (length l.kept.packed) k || ltb (length l.kept.scores) k) (leb (length l.visits) (length t.components)) (faultless (tests k t l) accepted).1.1.1.0 in
      (neither (ltb (length l.kept.packed) k) (ltb (length l.kept.scores) k) b.0, b.1)

  room : RoomFor k l.kept
  room = record {
    few = ltb-false k l.kept.size (faultless (tests k t l) accepted).1.1.0;
    packed_places = ltb-false (length l.kept.packed) k places.0.0;
    score_places = ltb-false (length l.kept.scores) k places.0.1;
  }

  bytes : length t.components + 1 ≤ length l.visits
  bytes = omega (arith, leb-false (length l.visits) (length t.components) places.1)

  -- after some turns no more than k are kept, and there are as many bytes
  pub record Fits (s : State) : Type 0 where
    pub few : length s.kept ≤ k
    pub as_many : length s.visits ≡ length t.components + 1

  pub after-fits : (g : Given) → g.k ≡ k → (ts : List Turn) → Fits (after g (opened t l) ts)
  after-fits g e ts = record {
    few = rw e (keep_all-few k (entries l.kept) (entries_of (events_of ts)) (omega (
      arith,
      length-beside l.kept.size l.kept.packed l.kept.scores (omega (arith, room))
          (omega (arith, room)),
      room,
    )));
    as_many = length_marked (bytes_of t l.visits) (starts_of g (events_of ts)) ∙ length-take-le (length t.components + 1) l.visits bytes;
  }

  module _ (s : State) (fits : Fits s) where
    long : length (s.visits ++ rest_of t l.visits) ≡ length l.visits
    long = omega (arith, length-append s.visits (rest_of t l.visits), length-drop (length t.components + 1) l.visits, bytes, fits.as_many)

    pub accepted-again : first_of (tests k t (laid_down t l s)) ≡ Ok tt
    accepted-again =
        let f = faultless (tests k t l) accepted in
        let r = room-written k s.kept l.kept fits.few room in
        let w = written s.kept l.kept in
        let a : ltb (length w.packed) k ≡ false = le-ltb (length w.packed) k r.packed_places in
        let b : ltb (length w.scores) k ≡ false = le-ltb (length w.scores) k r.score_places in
        let c : leb (length (s.visits ++ rest_of t l.visits)) (length t.components) ≡ false =
        lt-leb (length (s.visits ++ rest_of t l.visits)) (length t.components) (omega (arith, long, bytes)) in
        accepted-by (tests k t (laid_down t l s)) (f.0, (f.1.0, (le-ltb k (length s.kept) fits.few, (rw (a, b, c), tt))))

    pub opened-again : opened t (laid_down t l s) ≡ state s.kept s.visits 0 0
    opened-again =
        ap (λ es. state es (bytes_of t (s.visits ++ rest_of t l.visits)) 0 0) (entries-written s.kept l.kept)
        ∙ ap (λ v. state s.kept v 0 0) (take_at s.visits (rest_of t l.visits) (length t.components + 1) fits.as_many)
