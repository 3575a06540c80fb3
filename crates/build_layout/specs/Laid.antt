-- What writing a list's result from its blocks answers, and what it leaves in what it is lent.
use Rattle.refusal.specs.declared.Refusal.{Refusal}
use Rattle.std.specs.Prelude.{ℕ, List, Float, Result, Ok, Err}
use Rattle.build_meaning.specs.Built.{Built}
use Rattle.build_meaning.specs.Building.{Outputs, zeros, float_zeros, cleared_output, filled, answer_by}
pub use Rattle.build_output.specs.Settled.{Left, left}
pub use Rattle.build_sizes.specs.Sized.{packed_number, posting_of, tops, dimension_outside, any_short, work_for, laid_tests}
unfoldable pub use Rattle.build_sizes.specs.Sized.{built_from, laid_verdict}

-- ---- what it leaves
-- accepted: the result in front of each output. Refused: all output zero. The work space is zero either way
abbrev pub output_by : Result (Unit {0}) Refusal → Built → Outputs → Outputs
output_by (Ok _) b o = filled b o
output_by (Err r) b o = cleared_output o

abbrev pub left_by : Result (Unit {0}) Refusal → Built → Outputs → List ℕ → List ℕ → List Float → List ℕ → Left
left_by v b o k p m c = left (answer_by v b) (output_by v b o) (zeros k) (zeros p) (float_zeros m) (zeros c)
