-- What other crates may cite of sets. A line's file has the theorem and its proof.

-- A bit is 0 or 1.
pub use Rattle.bitset.proofs.MemberFacts.{cases_bit}
-- Two sets with the same members are equal.
pub use Rattle.bitset.proofs.MemberFacts.{same_members}
-- A word above 0 has a member.
pub use Rattle.bitset.proofs.MemberFacts.{some_member}
-- A word that has a member is above 0.
pub use Rattle.bitset.proofs.MemberFacts.{member_pos}
-- A word is below 2 ^ n exactly when its members are below n.
pub use Rattle.bitset.proofs.MemberFacts.{below_members}
-- The only number in 2 ^ p is p.
pub use Rattle.bitset.proofs.BitFacts.{bit_pow}
-- A member of a union is a member of one of the two, and a member of either is one of the union.
pub use Rattle.bitset.proofs.MemberFacts.{member_or, or_member_left, or_member_right}
-- A number is in a union exactly when it is in one of the two, as a test.
pub use Rattle.bitset.proofs.MemberFacts.{has_or}
-- A union of three is the same however it is bracketed.
pub use Rattle.bitset.proofs.BitFacts.{or_assoc}
-- A union with a word above 0 is above 0.
pub use Rattle.bitset.proofs.BitFacts.{or_pos}
-- Two sets meet exactly when they have a common member.
pub use Rattle.bitset.proofs.MemberFacts.{meets_members}
-- A set is within another exactly when each of its members is in that.
pub use Rattle.bitset.proofs.MemberFacts.{within_members}
-- A member of a part of a set, made by a test, is in the set and passes the test.
pub use Rattle.bitset.proofs.PartFacts.{member_kept}
-- A set is what is left without one of its members, and that member.
pub use Rattle.bitset.proofs.PartFacts.{put_back}
-- A set without one of its members is a smaller word.
pub use Rattle.bitset.proofs.PartFacts.{less_without}
-- The members of `those f n` are the numbers below n of which f is true.
pub use Rattle.bitset.proofs.MemberFacts.{those_members}
-- Tests that agree below n make the same set.
pub use Rattle.bitset.proofs.PositionFacts.{those_same}
-- Whether a number below n is in `those f n` is what f says of it.
pub use Rattle.bitset.proofs.PositionFacts.{has_those}
-- `those f n` is a word of n bits.
pub use Rattle.bitset.proofs.PositionFacts.{those_below}
