use Rattle.std.proofs.Common.{◌≡◌, ◌<◌, ◌^◌, ◌*◌, ◌%◌, arith, rules}
use Rattle.std.proofs.lemmas.Bool.{ltb-true}
use Rattle.bitset.proofs.Promises.{member_kept, less_without}
use Rattle.measures.specs.Automata.{next}
use Rattle.measures.proofs.ImageFacts.{image_masked, image_moved, image_found, image_is}
use Rattle.measures.proofs.patterns.Pattern.image.Goals as goal

pub loop-q-init : goal.loop-q-init
loop-q-init c = record {
  states = λ p m. ltb-true p _ (member_kept c.args.set _ p _ (c.below-rest.ensures p) m).1;
  whole = image_masked (next c.args.self.now.head.labels.number c.args.self.now.table c.args.l) c.args.self.now.head.states.number c.args.set _ c.below-rest.ensures;
}

pub loop-q-smaller : goal.loop-q-smaller
loop-q-smaller c = less_without c.loop-q.rest _ c.in-Some.q c.in-Some.ensures.0.0 c.in-Some.ensures.1

pub loop-q-preserved : goal.loop-q-preserved
loop-q-preserved c =
    let f = next c.args.self.now.head.labels.number c.args.self.now.table c.args.l in
    let n = c.args.self.now.head.states.number in
    let q = c.in-Some.q in
    let within : q < n = c.loop-q.invariant.states q c.in-Some.ensures.0.0 in
    let few : c.next.result < 64 = omega arith in
    let bit : 1 * 2 ^ c.next.result % 2 ^ 64 ≡ 2 ^ c.next.result = search rules in
    record {
      states = λ p m. c.loop-q.invariant.states p (member_kept c.loop-q.rest _ p _ (c.in-Some.ensures.1 p) m).0;
      whole = rw (bit, c.next.ensures.value) (image_moved f n c.args.set c.loop-q.rest _ q c.loop-q.out within c.in-Some.ensures.0.0 c.in-Some.ensures.1 c.loop-q.invariant.whole);
    }

pub returns-clause-value : goal.returns-clause-value
returns-clause-value c =
    image_found (next c.args.self.now.head.labels.number c.args.self.now.table c.args.l) c.args.self.now.head.states.number c.args.set c.loop-q.rest c.loop-q.out c.in_default.ensures c.loop-q.invariant.whole

pub returns-clause-members : goal.returns-clause-members
returns-clause-members c =
    image_is (next c.args.self.now.head.labels.number c.args.self.now.table c.args.l) c.args.self.now.head.states.number c.args.set c.loop-q.out (returns-clause-value c)
