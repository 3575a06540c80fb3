-- `write_offsets` sets the offsets from the start on, as far as there is room.
use mathlib.Core.Path.{refl, sym, ◌∙◌}
use Prim.Native.Nat.{min}
use lib.ListN.{length}
use Rattle.cells.specs.Laws.Copied.{copy-end}
use Rattle.build_output.proofs.Laws.{in-front}
use Rattle.build_output.proofs.write_offsets.Goals as goal

pub returns : goal.returns
returns c =
    let a = c.args in
    let n = min (length a.blocks.now) (length a.block_offsets.now) in
    c.copy.ensures ∙ sym (copy-end a.blocks.now a.block_offsets.now n refl) ∙ in-front a.blocks.now a.block_offsets.now n refl
