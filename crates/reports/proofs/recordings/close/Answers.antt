use Rattle.std.specs.Prelude.{slice_index_or}
use Rattle.std.proofs.Common.{◌≡◌, ℕ, Bool, true, Ok, rules, ap, ◌∙◌}
use Rattle.history.specs.Messages.{is_on_its_way, unsent}
use Rattle.history.specs.Board.{Contents}
use Rattle.causality.specs.Boards.{Memory, Shows, left_among, left_answer, memory}
use Rattle.history.proofs.Promises.{count_below_same}
use Rattle.reports.proofs.recordings.close.Goals as goal

-- A board whose memory shows some contents answers how many messages are on their way in them.
left_answer-shown : {V : Type 0} (start : V) (n k : ℕ) (memory : Memory V) (room : Bool) → room ≡ true → (s : Contents V) → Shows start n k memory s → left_answer k room memory.posts ≡ Ok (left_among s.posts k)
left_answer-shown start n k memory room there s shows =
    ap (λ (r : Bool). left_answer k r memory.posts) there ∙ ap (λ (t : ℕ). Ok t) (count_below_same (λ p. is_on_its_way (slice_index_or memory.posts p unsent)) (λ p. is_on_its_way (s.posts p)) k (λ p h. ap is_on_its_way (shows.posts p h)))

pub returns : goal.returns
returns g c s shows =
    let a = c.args in
    let left = left_answer-shown (g.J.Measure.meaning a.board.now.payload.measure).start a.board.now.units a.board.now.messages (memory a.clocks.now a.flags.now a.values.now a.posts.now) _ c.requires.room s shows in
    search (left, rules)
