-- The check of listed documents one at a time, as its loop goes.
use Prim.Native.Nat.{ℕ, suc, ◌+◌, ◌-◌, ◌<◌, min}
use native.Mathlib.Omega.{arith}
use native.Mathlib.Numerals.{add-one}
use mathlib.Core.Path.{◌≡◌, sym, ap, ◌∙◌}
use mathlib.Core.Bool.{Bool, ◌&&◌, and-true, and_assoc}
use mathlib.Core.List.{List}
use lib.ListN.{length, get_or, take, drop, length-take, length-drop}
use lib.Seq.{drop-cons, drop-length}
use borrow.Author.Tests.{eq-eqb}
use Rattle.sequences.specs.Lists.{every}
use Rattle.documents.specs.declared.TermPlaces.{TermPlaces}
use Rattle.documents.specs.Documents.{paired, Documents, terms}
use Rattle.documents.specs.Checks.{terms_hold_below, slices_hold_below, documents_hold}
use Rattle.documents.specs.Answers.{places_of}
use Rattle.documents.specs.Laws.Places.{terms-at, places-ordered, places-in}

module _ (d : Documents) (n count : ℕ) (C : count ≡ min (length d.components) (length d.values)) (i : ℕ) (p : TermPlaces) (e : p ≡ places_of d.offsets count i) where
  -- the check of the two slices at a document's places is the check of its terms
  pub holds_at : slices_hold_below n (take (p.to - p.from) (drop p.from d.components)) (take (p.to - p.from) (drop p.from d.values)) ≡ terms_hold_below n (terms d i)
  unfolding slices_hold_below
  holds_at =
      let o = places-ordered d count i p e in
      let w = places-in d count i p e in
      let a : length (take (p.to - p.from) (drop p.from d.components)) ≡ p.to - p.from = length-take (p.to - p.from) (drop p.from d.components) ∙ ap (min (p.to - p.from)) (length-drop p.from d.components) ∙ omega arith in
      let b : length (take (p.to - p.from) (drop p.from d.values)) ≡ p.to - p.from = length-take (p.to - p.from) (drop p.from d.values) ∙ ap (min (p.to - p.from)) (length-drop p.from d.values) ∙ omega arith in
      ap (λ t. t && terms_hold_below n (paired (take (p.to - p.from) (drop p.from d.components)) (take (p.to - p.from) (drop p.from d.values)))) (eq-eqb _ _ (a ∙ sym b))
      ∙ ap (λ p. terms_hold_below n (paired (take (p.to - p.from) (drop p.from d.components)) (take (p.to - p.from) (drop p.from d.values)))) e
      ∙ ap (terms_hold_below n) (sym (terms-at d i count C))

pub listed-step : (o : Bool) (n : ℕ) (d : Documents) (ids : List ℕ) (i : ℕ) (h : Bool) → i < length ids → h ≡ terms_hold_below n (terms d (get_or ids i 0)) → (o && h && documents_hold n d (drop (i + 1) ids)) ≡ (o && documents_hold n d (drop i ids))
unfolding documents_hold
listed-step o n d ids i h l e = rw (add-one i, drop-cons ids i 0 l, e) (and_assoc o (terms_hold_below n (terms d (get_or ids i 0))) (every (λ i. terms_hold_below n (terms d i)) (drop (suc i) ids)))

pub listed-end : (o : Bool) (n : ℕ) (d : Documents) (ids : List ℕ) (i : ℕ) (w : Bool) → i ≡ length ids → (o && documents_hold n d (drop i ids)) ≡ w → o ≡ w
unfolding documents_hold
listed-end o n d ids i w e h = sym (and-true o) ∙ rw (e, drop-length ids) at h
