-- `held_by` meets its contract: before the row, its header, a master's payload, a leaf's, behind it. Assumes nothing.
use Rattle.places_rules.proofs.Spots.{holder_before, holder_header, holder_master, holder_payload, holder_behind}
use Rattle.places.proofs.whose.held_by.Goals as goal

pub returns-then-row-eq-MASTER : goal.returns-then-row-eq-MASTER
returns-then-row-eq-MASTER c =
    holder_master _ _ c.if-address-row.false c.if-past-row.false c.if-row-eq-MASTER.true

pub returns-then-into-row : goal.returns-then-into-row
returns-then-into-row c =
    holder_payload _ _ c.if-address-row.false c.if-past-row.false c.if-row-eq-MASTER.false c.if-into-row.true

pub returns : goal.returns
returns c =
    holder_behind _ _ c.if-address-row.false c.if-past-row.false c.if-row-eq-MASTER.false c.if-into-row.false

pub returns-then-address-row : goal.returns-then-address-row
returns-then-address-row c = holder_before _ _ c.if-address-row.true

pub returns-then-past-row : goal.returns-then-past-row
returns-then-past-row c = holder_header _ _ c.if-address-row.false c.if-past-row.true
