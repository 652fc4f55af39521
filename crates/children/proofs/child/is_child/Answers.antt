-- `is_child` meets its contract. Assumes nothing.
use Rattle.fields_rules.proofs.Rest.{other_parent, other_id, by_kind}
use Rattle.children.proofs.child.is_child.Goals as goal

pub returns-then-row-parent : goal.returns-then-row-parent
returns-then-row-parent c = search other_parent

pub returns-then-row-id : goal.returns-then-row-id
returns-then-row-id c = search other_id

pub returns : goal.returns
returns c = search by_kind
