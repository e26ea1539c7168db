use Rattle.causality.proofs.LeftFacts.{each_shows}
use Rattle.causality.proofs.boards.Board.has_room.Goals as goal

pub returns-then-has_all_rows-3-clause-shows : goal.returns-then-has_all_rows-3-clause-shows
returns-then-has_all_rows-3-clause-shows g c = each_shows (g.P.Payload.rules c.args.self.now.payload).start c.args.self.now.units c.args.self.now.messages

pub returns-else-has_all_rows-3-clause-shows : goal.returns-else-has_all_rows-3-clause-shows
returns-else-has_all_rows-3-clause-shows g c = each_shows (g.P.Payload.rules c.args.self.now.payload).start c.args.self.now.units c.args.self.now.messages
