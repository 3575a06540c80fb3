-- One block at a time.
use Prim.Native.Nat.{ℕ, suc, ◌+◌, ◌-◌, ◌%◌, min}
use native.Mathlib.Omega.{arith}
use native.Mathlib.Numerals.{add-one}
use mathlib.Core.Path.{◌≡◌, refl, sym, ap, ◌∙◌}
use mathlib.Core.List.{List, [], ◌∷◌, map}
use lib.ListN.{length, drop, replicate}
use lib.IntN.{pos}
use mathlib.Core.Bool.{false}
use lib.Ieee.{Float, fin}
use Rattle.sequences.specs.Lists.{EachOf, part}
use Rattle.documents.specs.Documents.{Term}
use Rattle.documents.specs.TermKeys.{term_key, value_of_term, term_of}
use Rattle.documents.specs.Laws.TermKeys.{Held}
use Rattle.quantizing.specs.declared.Extent.{Extent}
use Rattle.quantizing.specs.Quantizing.{least, extent_of, step_of, step_for}
use Rattle.sparse_layout.specs.Layouts.{values, entry_of, entries_of}
use Rattle.sparse_layout.specs.Keys.{key_entry, Lent, lent, placed_within}
use Rattle.sparse_layout.specs.Laws.Written.{key-entries, key-values, placed-after}
use Rattle.clearing.specs.Zeros.{zeros, float_zeros}
use Rattle.build_kept_keys.specs.Frames.{in_front, recalled_top}
use Rattle.build_kept_keys.specs.Laws.Frames.{none-top, frame-top}
use Rattle.build_fill_pass.specs.Filling.{filling, numbered_from, fill_left, placed_in}
use Rattle.build_fill_pass.specs.Turns.{key_entries}

-- as many places as both buffers have
abbrev pub room_of : Lent → ℕ
room_of l = min (length l.summary_ids) (length l.codes)

pub same-room : (c i k c' i' k' : List ℕ) → length i' ≡ length i → length k' ≡ length k → room_of (lent c' i' k') ≡ room_of (lent c i k)
same-room c i k c' i' k' p q = λ j. min (p j) (q j)

-- ---- the entries of some keys placed
pub place_is : (b : ℕ) (ks : List ℕ) (l l' : Lent) (e : Extent) (s : Float) → e ≡ extent_of (map value_of_term ks) → s ≡ step_of e.least e.greatest → l' ≡ placed_within (room_of l) l (map (key_entry (b % 65536) e.least s) ks) → l' ≡ key_entries b ks l
place_is b ks l l' e s q t p =
    p
    ∙ ap (λ x. placed_within (room_of l) l (map (key_entry (b % 65536) x.least s) ks)) q
    ∙ ap (λ z. placed_within (room_of l) l (map (key_entry (b % 65536) (least (map value_of_term ks)) z) ks)) (t ∙ ap (λ x. step_of x.least x.greatest) q)

-- of a block's kept terms
pub entries-of-keys : (b : ℕ) (ts : List Term) (l : Lent) → EachOf Held ts → (ks : List ℕ) → ks ≡ map term_key ts → (l' : Lent) → l' ≡ key_entries b ks l → l' ≡ placed_within (room_of l) l (entries_of (b % 65536) ts)
entries-of-keys b ts l h ks k l' e =
    e ∙ ap (λ ks. key_entries b ks l) k
    ∙ ap (λ v. placed_within (room_of l) l (map (key_entry (b % 65536) (least v) (step_for v)) (map term_key ts))) (key-values ts h)
    ∙ ap (placed_within (room_of l) l) (key-entries (b % 65536) (least (values ts)) (step_for (values ts)) ts h)

-- of a frame's keys, whatever they are
frame-values : (ks : List ℕ) → map value_of_term ks ≡ values (map term_of ks)
frame-values [] = refl
frame-values (k ∷ ks) = ap (λ l. value_of_term k ∷ l) (frame-values ks)

frame-entries : (b : ℕ) (low step : Float) (ks : List ℕ) → map (key_entry b low step) ks ≡ map (entry_of b low step) (map term_of ks)
frame-entries b low step [] = refl
frame-entries b low step (k ∷ ks) = ap (λ l. key_entry b low step k ∷ l) (frame-entries b low step ks)

entries-of-frame : (b : ℕ) (ks : List ℕ) (l : Lent) → key_entries b ks l ≡ placed_within (room_of l) l (entries_of (b % 65536) (map term_of ks))
entries-of-frame b ks l =
    ap (λ v. placed_within (room_of l) l (map (key_entry (b % 65536) (least v) (step_for v)) ks)) (frame-values ks)
    ∙ ap (placed_within (room_of l) l) (frame-entries (b % 65536) (least (values (map term_of ks))) (step_for (values (map term_of ks))) ks)

-- ---- a block's turn: by its frame, or summarized anew where it has none
module _ (at : ℕ) (store : List ℕ) (n : ℕ) (e : n ≡ in_front (drop at store)) (b : ℕ) (top : List Term) (l l' : Lent) where
  pub placed-anew : n ≡ 0 → l' ≡ placed_within (room_of l) l (entries_of (b % 65536) top) → l' ≡ placed_within (room_of l) l (entries_of (b % 65536) (recalled_top (drop at store) top))
  placed-anew z q = q ∙ ap (λ t. placed_within (room_of l) l (entries_of (b % 65536) t)) (sym (none-top at store n e z top))

  pub placed-frame : (n ≡ 0 → ⊥) → l' ≡ key_entries b (part (at + 1) (at + 1 + n - (at + 1)) store) l → l' ≡ placed_within (room_of l) l (entries_of (b % 65536) (recalled_top (drop at store) top))
  placed-frame z q =
      q ∙ ap (λ k. key_entries b (part (at + 1) k store) l) (let w : at + 1 + n - (at + 1) ≡ n = omega arith in w) ∙ entries-of-frame b (part (at + 1) n store) l
      ∙ ap (λ t. placed_within (room_of l) l (entries_of (b % 65536) t)) (sym (frame-top at store n e z top))

-- ---- one block after another: placing what is left comes to the same as placing all
pub rest-on : (b n : ℕ) (top : List Term) (left tops : List (List Term)) (l end : Lent) → left ≡ top ∷ tops → room_of l ≡ n → placed_within n l (numbered_from b left) ≡ end
    → (l' : Lent) → l' ≡ placed_within (room_of l) l (entries_of (b % 65536) top) → placed_within n l' (numbered_from (b + 1) tops) ≡ end
rest-on b n top left tops l end e room R l' t =
    (λ j. placed_within n ((t ∙ ap (λ m. placed_within m l (entries_of (b % 65536) top)) room) j) (numbered_from (add-one b j) tops))
    ∙ sym (placed-after n l (entries_of (b % 65536) top) (numbered_from (suc b) tops))
    ∙ sym (ap (λ x. placed_within n l (numbered_from b x)) e)
    ∙ R

pub rest_end : (b n : ℕ) (left : List (List Term)) (l end : Lent) → left ≡ [] → placed_within n l (numbered_from b left) ≡ end → l ≡ end
rest_end b n left l end e R = sym (ap (λ x. placed_within n l (numbered_from b x)) e) ∙ R

-- the work space cleared, and the entries as they are placed
pub left-all : (tops : List (List Term)) (k p : List ℕ) (m : List Float) (l : Lent) (k₁ k' p₁ p' : List ℕ) (m₁ m' : List Float) → k' ≡ zeros k₁ → length k₁ ≡ length k → p' ≡ zeros p₁ → length p₁ ≡ length p → m' ≡ float_zeros m₁ → length m₁ ≡ length m
    → (l' : Lent) → l' ≡ placed_in l tops → filling k' p' m' l' ≡ fill_left tops (filling k p m l)
left-all tops k p m l k₁ k' p₁ p' m₁ m' a b f g h i l' q =
    λ j. filling ((a ∙ ap (λ n. replicate n 0) b) j) ((f ∙ ap (λ n. replicate n 0) g) j) ((h ∙ ap (λ n. replicate n (fin false 0 (pos 0))) i) j) (q j)
