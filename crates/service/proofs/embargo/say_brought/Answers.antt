-- `say_brought` meets its contract: a grant is said after those before it, and any other reply brings none. Assumes
-- nothing.
use Rattle.service.proofs.EmbargoServing.{one_brought}
use Rattle.service.proofs.embargo.say_brought.Goals as goal

pub returns-in-AnsweredGrant-clause-by_index_2 : goal.returns-in-AnsweredGrant-clause-by_index_2
returns-in-AnsweredGrant-clause-by_index_2 c =
    let is = c.in-AnsweredGrant.is in
    one_brought c.args.reply _ _ _ c.args.at c.args.words.now _ is
    (c.requires.by_index _ _ _ is)
    c.say_granting.ensures.by_index
    c.say_granting.ensures.at_after
    c.say_granting.ensures.by_index_2
