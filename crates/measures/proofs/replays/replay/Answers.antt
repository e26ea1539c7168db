use Rattle.std.proofs.Common.{ap, subst, sym}
use Rattle.causality.specs.Boards.{Makes, has_room, make_refusal, memory}
use Rattle.measures.specs.Replays.{Replayed}
use Rattle.measures.specs.Worths.{measured_payload}
use Rattle.measures.proofs.BoardLaw.{law_of_boards}
use Rattle.measures.proofs.PlayFacts.{beyond_twice}
use Rattle.measures.proofs.replays.replay.Goals as goal

pub returns-in_err-board-clause-law : goal.returns-in_err-board-clause-law
returns-in_err-board-clause-law g c = law_of_boards (g.M.Measure.meaning c.args.measure) (g.M.Measure.admits c.args.measure) (g.met.M.Measure.lawful c.args.measure)

pub play-requires-clause-new_board : goal.play-requires-clause-new_board
play-requires-clause-new_board g c =
    let a = c.args in
    let m = g.M.Measure.meaning a.measure in
    let law = law_of_boards m (g.M.Measure.admits a.measure) (g.met.M.Measure.lawful a.measure) in
    let (none, is) = c.in_ok-board.ensures.board in
    let measure = ap (λ p. p.measure) is.payload_is in
    let old = memory a.clocks.now a.flags.now a.values.now a.posts.now in
    let new = memory c.make.new.clocks c.make.new.flags c.make.new.values c.make.new.posts in
    let made : Makes (measured_payload m a.units) a.units a.messages (make_refusal a.units a.messages (has_room a.units a.messages old)) old new = c.in_ok-board.ensures.begins.makes in
    rw (measure, is.units_are, is.messages_are) (law.made a.units a.messages old new (subst (λ o. Makes (measured_payload m a.units) a.units a.messages o old new) none made))

pub returns-clause-replayed : goal.returns-clause-replayed
returns-clause-replayed g c =
    let a = c.args in
    let m = g.M.Measure.meaning a.measure in
    let (none, is) = c.in_ok-board.ensures.board in
    let measure = ap (λ p. p.measure) is.payload_is in
    let mid = memory c.make.new.clocks c.make.new.flags c.make.new.values c.make.new.posts in
    let new = memory c.play.new.clocks c.play.new.flags c.play.new.values c.play.new.posts in
    let p : Replayed m a.units a.messages a.calls.now c.play.result mid new a.answers.now c.play.new.answers = rw (sym measure, sym is.units_are, sym is.messages_are) c.play.ensures.played in
    (none, record { count_is = p.count_is; played = p.played; beyond = beyond_twice c.in_ok-board.ensures.begins.makes.beyond p.beyond; rest = p.rest })

pub returns-clause-law : goal.returns-clause-law
returns-clause-law g c = law_of_boards (g.M.Measure.meaning c.args.measure) (g.M.Measure.admits c.args.measure) (g.met.M.Measure.lawful c.args.measure)
