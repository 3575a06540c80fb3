-- The work space and the room for the result, judged.
use Rattle.std.specs.Prelude.{Ok, Err}
use Prim.Native.Nat.{ℕ, ◌-◌}
use mathlib.Core.Path.{◌≡◌, sym, ap, ◌∙◌}
use mathlib.Core.Bool.{Bool, true, false, not, cond}
use mathlib.Core.List.{List, foldl}
use lib.ListN.{length}
use lib.Dec.{ltb}
use Rattle.refusal.specs.declared.Refusal.TheVariants.{OutsideLimits, BufferTooShort}
use Rattle.refusal.specs.First.{first_of}
use Rattle.blocking.specs.Limits.{block_limit}
use Rattle.sparse_layout.specs.Counted.{present_from}
use Rattle.sparse_layout.specs.Keys.{on_to}
use Rattle.build_sizes.specs.declared.OutputLengths.{OutputLengths}
use Rattle.build_sizes.specs.Sized.{dimension_outside, any_short, work_tests, judged_room, room_by, room_answer}

module _ (p o n e b : ℕ) (counts : List ℕ) (l : OutputLengths) (x : n ≡ length (present_from 0 counts)) (y : e ≡ foldl on_to 0 counts) (z : b ≡ o - 1) where
  room-is : room_by p o n e b l ≡ room_answer p o counts l
  room-is = (λ j. room_by p o (x j) (y j) (z j) l)

  pub room-refused : not (judged_room p o n e b l) ≡ true → Err BufferTooShort ≡ room_answer p o counts l
  room-refused h = sym (ap (λ t. cond t (Err BufferTooShort) (Ok (record { postings = p; block_offsets = o; summary_components = n; entries = e; summaries = b }))) h) ∙ room-is

  pub room-found : not (judged_room p o n e b l) ≡ false → Ok (record { postings = p; block_offsets = o; summary_components = n; entries = e; summaries = b }) ≡ room_answer p o counts l
  room-found h = sym (ap (λ t. cond t (Err BufferTooShort) (Ok (record { postings = p; block_offsets = o; summary_components = n; entries = e; summaries = b }))) h) ∙ room-is

-- ---- the work: each way out by its test
module _ (dimension offsets keys places maxima counts : ℕ) (o m : Bool) (eo : o ≡ dimension_outside dimension) where
  pub work-outside : o ≡ true → Err OutsideLimits ≡ first_of (work_tests dimension (offsets - 1) keys places maxima counts)
  work-outside h = let z : dimension_outside dimension ≡ true = sym eo ∙ h in rw z

  module _ (ho : o ≡ false) (b : ℕ) (eb : b ≡ offsets - 1) (em : m ≡ ltb block_limit b) where
    inner : dimension_outside dimension ≡ false
    inner = sym eo ∙ ho

    many_is : ltb block_limit (offsets - 1) ≡ m
    many_is = ap (ltb block_limit) (sym eb) ∙ sym em

    pub work-many : m ≡ true → Err OutsideLimits ≡ first_of (work_tests dimension (offsets - 1) keys places maxima counts)
    work-many h = let z : ltb block_limit (offsets - 1) ≡ true = many_is ∙ h in rw (inner, z)

    pub work-short : m ≡ false → any_short dimension keys places maxima counts ≡ true → Err BufferTooShort ≡ first_of (work_tests dimension (offsets - 1) keys places maxima counts)
    work-short h k = let z : ltb block_limit (offsets - 1) ≡ false = many_is ∙ h in rw (inner, z, k)

    pub work-accepted : m ≡ false → any_short dimension keys places maxima counts ≡ false → Ok tt ≡ first_of (work_tests dimension (offsets - 1) keys places maxima counts)
    work-accepted h k = let z : ltb block_limit (offsets - 1) ≡ false = many_is ∙ h in rw (inner, z, k)
