-- `show` gives the numbers of the answer.
use borrow.Author.Rules.{rules}
use Rattle.c_search.proofs.Laws.{refused-shows, stopped-shows}
use Rattle.c_search.proofs.show.Goals as goal

pub returns-in-Refused : goal.returns-in-Refused
returns-in-Refused c =
    let all = refused-shows _ _ _ c.in-Refused.is c.number.ensures in
    record {
      number = all.0;
      position = all.1.0;
      evaluated = all.1.1.0;
      skipped = all.1.1.1;
    }

pub returns-in-Stopped : goal.returns-in-Stopped
returns-in-Stopped c =
    let all = stopped-shows _ _ _ _ c.in-Stopped.is c.number-in-Stopped.ensures in
    record {
      number = all.0;
      position = all.1.0;
      evaluated = all.1.1.0;
      skipped = all.1.1.1;
    }

pub returns-in-Found : goal.returns-in-Found
returns-in-Found c = record {
  number = search rules;
  position = search rules;
  evaluated = search rules;
  skipped = search rules;
}
