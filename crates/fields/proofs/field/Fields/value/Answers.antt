-- `value` meets its contract: the later of a text and bytes. Assumes nothing.
use Rattle.fields_rules.proofs.Picked.{last_fits}
use Rattle.fields_rules.proofs.Taken.{value_unset, value_binary, value_text, later_binary, later_text}
use Rattle.fields.proofs.field.Fields.value.Goals as goal

pub range_of-requires : goal.range_of-requires
range_of-requires c = let pre = c.args.self.now.readable in search last_fits

pub returns-then-first-second : goal.returns-then-first-second
returns-then-first-second c = search later_binary

pub range_of-requires-in-Some-Some : goal.range_of-requires-in-Some-Some
range_of-requires-in-Some-Some c = let pre = c.args.self.now.readable in search last_fits

pub range_of-requires-in-Some-None : goal.range_of-requires-in-Some-None
range_of-requires-in-Some-None c = let pre = c.args.self.now.readable in search last_fits

pub range_of-requires-in-None-Some : goal.range_of-requires-in-None-Some
range_of-requires-in-None-Some c = let pre = c.args.self.now.readable in search last_fits

pub returns-else-first-second : goal.returns-else-first-second
returns-else-first-second c = search later_text

pub returns-in-Some-None : goal.returns-in-Some-None
returns-in-Some-None c = search value_text

pub returns-in-None-Some : goal.returns-in-None-Some
returns-in-None-Some c = search value_binary

pub returns-in-None-None : goal.returns-in-None-None
returns-in-None-None c = search value_unset
