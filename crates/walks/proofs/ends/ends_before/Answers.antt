-- `ends_before` meets its contract: Segment and EBML header, and for a Cluster the segment's children. Assumes nothing.
use Rattle.std.proofs.Common.{arith}
use Rattle.std.proofs.lemmas.Bool.Decides.{nat_tests}
use Rattle.kinds.specs.Kinds.{member}
use Rattle.walks_rules.specs.Step.{ends_before}
use Rattle.walks.proofs.ends.ends_before.Goals as goal
use Rattle.walks.proofs.ends.ends_before.Goals.{then-next-eq-SEGMENT, else-next-eq-SEGMENT}

pub returns-then-next-eq-EBML : goal.returns-then-next-eq-EBML
unfolding ends_before member
returns-then-next-eq-EBML c =
    elim c.if-next-eq-SEGMENT.branch [
      | then-next-eq-SEGMENT w ↦ grind (arith, nat_tests)
      | else-next-eq-SEGMENT w ↦ grind (arith, nat_tests)
    ]

pub returns-then-id-eq-CLUSTER : goal.returns-then-id-eq-CLUSTER
unfolding ends_before member
returns-then-id-eq-CLUSTER c =
    elim c.if-next-eq-SEGMENT.branch [
      | then-next-eq-SEGMENT w ↦ grind (arith, nat_tests)
      | else-next-eq-SEGMENT w ↦ grind (arith, nat_tests)
    ]

pub returns-else-id-eq-CLUSTER : goal.returns-else-id-eq-CLUSTER
unfolding ends_before member
returns-else-id-eq-CLUSTER c =
    elim c.if-next-eq-SEGMENT.branch [
      | then-next-eq-SEGMENT w ↦ grind (arith, nat_tests)
      | else-next-eq-SEGMENT w ↦ grind (arith, nat_tests)
    ]
