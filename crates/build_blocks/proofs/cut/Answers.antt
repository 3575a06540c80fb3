-- `cut` copies the ids and lays their offsets.
use lib.ListN.{length}
use Rattle.build_blocks.proofs.Laws.{written_count, never-refused, written-offsets}
use Rattle.build_blocks.proofs.cut.Goals as goal

pub copy-requires : goal.copy-requires
copy-requires c = c.requires.listed

pub returns : goal.returns
returns c =
    let a = c.args in
    let f = c.fixed_size_blocking in record {
      answer = written_count (length a.ids.now) a.block_size a.blocks.now c.requires.accepted f.result _ f.ensures.answer c.unwrap.ensures;
      order = c.copy.ensures;
      blocks = written-offsets (length a.ids.now) a.block_size a.blocks.now c.requires.accepted _ f.ensures.block_offsets;
    }

pub unwrap-requires : goal.unwrap-requires
unwrap-requires c =
    let a = c.args in let f = c.fixed_size_blocking in never-refused (length a.ids.now) a.block_size a.blocks.now c.requires.accepted f.result f.ensures.answer
