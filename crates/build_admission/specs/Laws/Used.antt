-- The centroids that a blocking uses are the first so many of those given.
use Rattle.std.specs.Prelude.{ℕ, ◌≡◌, List, length, take}
use Rattle.std.proofs.Math.Seq.{take-length}
use Rattle.configuration.specs.declared.BlockingStrategy.{BlockingStrategy}
use Rattle.configuration.specs.declared.BlockingStrategy.TheVariants.{FixedSize, RandomKmeans}
use Rattle.build_admission.specs.Admission.{centroids_used}
use Rattle.build_admission.specs.Answers.{taken_of}

pub used-are : (k : BlockingStrategy) (cs : List ℕ) (t : ℕ) → t ≡ taken_of k (length cs) → take t cs ≡ centroids_used k cs
used-are (FixedSize size) cs t e = rw e
used-are (RandomKmeans fraction minimum algorithm) cs t e = rw (e, take-length)

pub taken-long : (k : BlockingStrategy) (cs : List ℕ) (t : ℕ) → t ≡ taken_of k (length cs) → t ≡ length (take t cs)
taken-long (FixedSize size) cs t e = rw e
taken-long (RandomKmeans fraction minimum algorithm) cs t e = rw (e, take-length)
