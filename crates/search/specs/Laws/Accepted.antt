-- What the tests of an accepted search say of the kept list and of the ranges that can be scored.
use Rattle.std.specs.Prelude.{ℕ, ◌≤◌, ◌≡◌, true, ◌&&◌, length, Float, leb}
use Rattle.std.proofs.Common.{leb-true, arith}
use Rattle.sequences.specs.Lists.{every}
use Rattle.sequences.specs.Laws.Lists.{both}
use Rattle.packing.specs.Packing.{start_of}
use Rattle.kept_list.specs.Entry.{better}
use Rattle.kept_list.specs.Keep.{in_order}
use Rattle.kept_list.specs.Lent.{Lent, entries, places}
use Rattle.kept_list.specs.Laws.Laid.{length-beside}
use Rattle.kept_list.specs.Push.{is_number, sound, well_kept}
use Rattle.search_postings.specs.declared.RangeReading.TheVariants.{Score}
use Rattle.search_probe.specs.Probed.{Terms, read_in}
use Rattle.search.specs.Laws.Dots.{score-is-dot}

pub kept-sound : (k : ℕ) (m : Lent) → well_kept k m ≡ true → (in_order better (entries m) ≡ true) × (length (entries m) ≤ k)
unfolding well_kept
kept-sound k m w =
    let a = both (leb m.size k && places m.size m) (sound (entries m)) w in
    let b = both (leb m.size k) (places m.size m) a.0 in
    let p = both (leb m.size (length m.packed)) (leb m.size (length m.scores)) b.1 in
    let n = length-beside m.size m.packed m.scores (leb-true m.size (length m.packed) p.0) (leb-true m.size (length m.scores) p.1) in
    let l = leb-true m.size k b.0 in
    ((both (in_order better (entries m)) (every is_number (entries m)) a.1).0, omega arith)

-- a range that has a score ends within the terms
pub score-ends : (t : Terms) (p : ℕ) (x : Float) → read_in t p ≡ Score x → start_of p ≤ length t.components
score-ends t p x h = let w = (score-is-dot t p x h).within in omega arith
