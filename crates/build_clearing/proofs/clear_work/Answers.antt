-- Each part of the work space by the call that clears it.
use borrow.Author.Rules.{rules}
use Rattle.build_clearing.proofs.clear_work.Goals as goal

pub returns : goal.returns
returns c = record {
  keys = search rules;
  places = search rules;
  maxima = search rules;
  counts = search rules;
}
