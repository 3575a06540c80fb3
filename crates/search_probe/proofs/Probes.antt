-- Probing as a whole: refused as its tests say, or the sweep, laid down.
use Rattle.std.specs.Prelude.{Result, Ok, Err}
use Prim.Native.Nat.{ℕ, suc, ◌+◌, ◌≤◌, ◌<◌}
use native.Mathlib.Omega.{arith}
use mathlib.Core.Path.{◌≡◌, sym, ap, ◌∙◌, fun_ext}
use mathlib.Core.Bool.{◌||◌}
use mathlib.Core.List.{List, ◌++◌}
use lib.ListN.{length, get_or, take, replicate, length-map}
use lib.Seq.{length-take-le}
use lib.Dec.{eqb, ltb, leb}
use lib.Ieee.{Float, binary32, of_bits}
use borrow.Author.Tests.{eqb-true, ltb-false, leb-false, not-false}
use Rattle.sequences.specs.Lists.{from}
use Rattle.sequences.specs.Laws.Lists.{from-length as length_from, neither}
use Rattle.refusal.specs.declared.Refusal.{Refusal}
use Rattle.refusal.specs.First.{first_of}
use Rattle.refusal.specs.Laws.First.{faultless}
use Rattle.documents.specs.Checks.{slices_hold}
use Rattle.kept_list.specs.Laid.{RoomFor}
use Rattle.search_page.specs.Through.{laying, sieve_of}
use Rattle.search_page.specs.Laws.Through.{table_of}
use Rattle.search_probe.specs.declared.Answer.{Answer}
use Rattle.search_probe.specs.declared.Answer.TheVariants.{Refused}
use Rattle.search_postings.specs.declared.Counts.{Counts}
use Rattle.search_postings.specs.declared.Stop.{Stop}
use Rattle.search_postings.specs.Ranges.{through_table}
use Rattle.search_postings.specs.Postings.{Turned, turned, counts}
use Rattle.search_blocks.specs.Turns.{held_sweep}
use Rattle.search_probe.specs.Probing.{sweep}
use Rattle.search_probe.specs.Probed.{Terms, given, Lends, lends, left, tests, bytes_of, rest_of, opened, laid, probed, listed, answer_of}
use Rattle.search_probe.proofs.Through.{Ready, through-is, ready-bytes}
use Rattle.search_probe.proofs.Laid.{laid_turn, held-is, answer-laid}

pub one-more-byte : (n m : ℕ) → suc n ≤ m → n + 1 ≤ m
one-more-byte n m h = omega arith

pub so-many-bytes : (n : ℕ) (v : List ℕ) → suc n ≤ length v → n + 1 ≡ length (take (n + 1) v)
so-many-bytes n v h = let m : n + 1 ≤ length v = omega arith in sym (length-take-le (n + 1) v m)

more_bytes : (n : ℕ) (v : List ℕ) → suc n ≤ length v → n < length (take (n + 1) v)
more_bytes n v h = omega (arith, so-many-bytes n v h)

-- so many turns are so many blocks
length-listed : (order : List ℕ) (n : ℕ) → length (listed order n) ≡ n
length-listed order n = length-map (from 0 n) (λ i. get_or order i i) ∙ length_from 0 n

-- a query laid out on zeros
pub laid_out : (table : List Float) (qs : List ℕ) (ws : List Float) → table ≡ laying (replicate 32768 (of_bits binary32 0)) qs ws → table ≡ table_of qs ws
unfolding table_of of_bits
laid_out table qs ws e = e

module _ (k : ℕ) (t : Terms) (l : Lends) (v : Result (Unit {0}) Refusal) (e : v ≡ first_of (tests k t l)) where
  pub refused-is : (f : Float) (ps os : List ℕ) (xs : List Float) (bs : List ℕ) (r : Refusal) → v ≡ Err r → left (Refused r) l ≡ probed k f t ps os xs bs l
  unfolding probed
  refused-is f ps os xs bs r h = rw (← e, h)

  module _ (h : v ≡ Ok tt) where
    pub ready_of : (table : List Float) → table ≡ table_of t.query_components t.query_values → (sieve : List ℕ) → sieve ≡ sieve_of t.query_components → Ready table sieve t.query_components t.query_values t.components t.values (length (bytes_of t l.visits))
    ready_of table laid sieve s =
        let n = faultless (tests k t l) (sym e ∙ h) in
        let b = neither (ltb (length l.kept.packed) k || ltb (length l.kept.scores) k) (leb (length l.visits) (length t.components)) n.1.1.1.0 in
        record {
          table_is = laid;
          sieve_is = s;
          query_holds = not-false (slices_hold t.query_components t.query_values) n.0;
          even = eqb-true (length t.components) (length t.values) (not-false (eqb (length t.components) (length t.values)) n.1.0);
          has-bytes = more_bytes (length t.components) l.visits (leb-false (length l.visits) (length t.components) b.1);
        }

    room_of : RoomFor k l.kept
    room_of =
        let n = faultless (tests k t l) (sym e ∙ h) in
        let b = neither (ltb (length l.kept.packed) k || ltb (length l.kept.scores) k) (leb (length l.visits) (length t.components)) n.1.1.1.0 in
        let c = neither (ltb (length l.kept.packed) k) (ltb (length l.kept.scores) k) b.0 in
        record {
          few = ltb-false k l.kept.size n.1.1.0;
          packed_places = ltb-false (length l.kept.packed) k c.0;
          score_places = ltb-false (length l.kept.scores) k c.1;
        }

    -- there are bytes for the starts from 0 to the term count
    pub bytes-are : suc (length t.components) ≤ length l.visits
    bytes-are =
        let n = faultless (tests k t l) (sym e ∙ h) in
        leb-false (length l.visits) (length t.components) (neither (ltb (length l.kept.packed) k || ltb (length l.kept.scores) k) (leb (length l.visits) (length t.components)) n.1.1.1.0).1

    pub accepted-is : (table : List Float) → table ≡ table_of t.query_components t.query_values → (sieve : List ℕ) → sieve ≡ sieve_of t.query_components → (f : Float) (ps os : List ℕ) (xs : List Float) (order : List ℕ) (n : ℕ)
        → length l.visits ≤ 18446744073709551615 → n ≤ 18446744073709551615 → (u : Result Counts Stop) (m : Lends) (a : Answer)
        → turned u m ≡ held_sweep k f (through_table table sieve t.query_components t.query_values t.components t.values) ps os xs (listed order n) (counts 0 0) (lends l.kept (bytes_of t l.visits))
        → a ≡ answer_of u m.kept.size → left a (lends m.kept (m.visits ++ rest_of t l.visits)) ≡ probed k f t ps os xs (listed order n) l
    unfolding probed
    accepted-is table laid_so sieve sieve-so f ps os xs order n v w u m a s q =
        let r = ready_of table laid_so sieve sieve-so in
        let bs = listed order n in
        let d : turned u m ≡ laid_turn l.kept (sweep (given k f t ps os xs) bs (opened t l)) =
        s
        ∙ ap (λ read. held_sweep k f read ps os xs bs (counts 0 0) (lends l.kept (bytes_of t l.visits))) (fun_ext (through-is table sieve t.query_components t.query_values t.components t.values _ r))
        ∙ held-is (given k f t ps os xs) l.kept room_of (bytes_of t l.visits) bs (ready-bytes table sieve t.query_components t.query_values t.components t.values _ r)
        (omega (arith, length-take-le (length t.components + 1) l.visits (one-more-byte (length t.components) (length l.visits) bytes-are), bytes-are)) (omega (arith, w, length-listed order n)) in
        rw (← e, h)
        (ap (λ x. left x (lends m.kept (m.visits ++ rest_of t l.visits))) q
        ∙ ap (λ (x : Turned). left (answer_of x.turn x.lent.kept.size) (lends x.lent.kept (x.lent.visits ++ rest_of t l.visits))) d
        ∙ answer-laid t l (sweep (given k f t ps os xs) bs (opened t l)))
