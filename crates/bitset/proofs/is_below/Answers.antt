use Rattle.std.proofs.Common.{arith}
use Rattle.std.proofs.lemmas.Bool.Decides.{Decides-at}
use Rattle.bitset.proofs.MemberFacts.{past_below, below_members}
use Rattle.bitset.proofs.is_below.Goals as goal

pub returns-then-n-ge64 : goal.returns-then-n-ge64
returns-then-n-ge64 c =
    let e = past_below c.args.set c.args.n (omega arith) c.if-n-ge64.true in
    record { value = e; members = Decides-at _ _ e (below_members c.args.set c.args.n) }
