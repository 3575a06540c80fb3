-- A document among documents whose offsets hold: where its terms lie, and how many it has.
use Rattle.std.specs.Prelude.{ℕ, suc, ◌+◌, ◌-◌, ◌≤◌, ◌<◌, ◌≡◌, true, ◌&&◌, length, get_or, drop}
use Rattle.std.proofs.Common.{arith, sym, ap, ◌∙◌, length-drop, length-take-le, eqb-true}
use Rattle.std.proofs.Math.Dec.{eqb}
use Rattle.sequences.specs.Lists.{last_or}
use Rattle.sequences.specs.Laws.Lists.{both}
use Rattle.documents.specs.Documents.{paired, Documents, count, start, size, terms}
use Rattle.documents.specs.Checks.{offsets_hold_free, offsets_hold}
use Rattle.documents.specs.Laws.Documents.{never-falls-at, last-at, free-some, free-never-falls, paired-length}
use Rattle.documents.specs.Laws.Places.{terms-part}

module _ (d : Documents) (h : offsets_hold d ≡ true) (i : ℕ) (l : i < count d.offsets) where
  holds-free : offsets_hold_free d.offsets ≡ true
  unfolding offsets_hold
  holds-free = (both (offsets_hold_free d.offsets) (eqb (last_or 0 d.offsets) (length d.components) && eqb (length d.components) (length d.values)) h).0

  holds-rest : (eqb (last_or 0 d.offsets) (length d.components) ≡ true) × (eqb (length d.components) (length d.values) ≡ true)
  unfolding offsets_hold
  holds-rest = both (eqb (last_or 0 d.offsets) (length d.components)) (eqb (length d.components) (length d.values)) (both (offsets_hold_free d.offsets) (eqb (last_or 0 d.offsets)
      (length d.components) && eqb (length d.components) (length d.values)) h).1

  pub terms-even : length d.components ≡ length d.values
  terms-even = eqb-true (length d.components) (length d.values) holds-rest.1

  pub start-before-end : start d i ≤ get_or d.offsets (suc i) 0
  start-before-end = never-falls-at d.offsets (free-never-falls d.offsets holds-free) i (suc i) (omega arith) (omega arith)

  pub end_is : start d i + size d i ≡ get_or d.offsets (suc i) 0
  end_is = let o = start-before-end in omega arith

  pub end-within : start d i + size d i ≤ length d.components
  end-within =
      let s = free-some d.offsets holds-free in
      let e : get_or d.offsets (length d.offsets - 1) 0 ≡ length d.components = sym (last-at 0 d.offsets s) ∙ eqb-true (last_or 0 d.offsets) (length d.components) holds-rest.0 in
      let n = never-falls-at d.offsets (free-never-falls d.offsets holds-free) (suc i) (length d.offsets - 1) (omega arith) (omega arith) in
      omega (arith, end_is)

  -- it has as many terms as its range is long
  pub terms-count : length (terms d i) ≡ size d i
  terms-count =
      let w = end-within in
      let p : length (drop (start d i) (paired d.components d.values)) ≡ length (paired d.components d.values) - start d i = length-drop (start d i) (paired d.components d.values) in
      let q = paired-length d.components d.values terms-even in
      ap length (terms-part d i) ∙ length-take-le (size d i) (drop (start d i) (paired d.components d.values)) (omega arith)
