-- `lead_of` meets its contract: each line of the grammar, and the gaps beside them. Assumes nothing.
use native.Mathlib.Omega.{arith}
use Rattle.utf8.specs.Utf8.{utf8_char, behind}
use Rattle.utf8.proofs.Leads.{left_behind}
use Rattle.utf8.proofs.lead_of.Goals as goal

pub returns-in-224 : goal.returns-in-224
unfolding behind utf8_char
returns-in-224 c =
    let first = c.args.first in
    left_behind 0xe0 0xe0 _ tt first (omega arith) (omega arith)

pub returns-in-237 : goal.returns-in-237
unfolding behind utf8_char
returns-in-237 c =
    let first = c.args.first in
    left_behind 0xed 0xed _ tt first (omega arith) (omega arith)

pub returns-in-240 : goal.returns-in-240
unfolding behind utf8_char
returns-in-240 c =
    let first = c.args.first in
    left_behind 0xf0 0xf0 _ tt first (omega arith) (omega arith)

pub returns-in-244 : goal.returns-in-244
unfolding behind utf8_char
returns-in-244 c =
    let first = c.args.first in
    left_behind 0xf4 0xf4 _ tt first (omega arith) (omega arith)

pub returns-in-194-to-223 : goal.returns-in-194-to-223
unfolding behind utf8_char
returns-in-194-to-223 c =
    let first = c.args.first in
    left_behind 0xc2 0xdf _ tt first (omega arith) (omega arith)

pub returns-in-225-to-236 : goal.returns-in-225-to-236
unfolding behind utf8_char
returns-in-225-to-236 c =
    let first = c.args.first in
    left_behind 0xe1 0xec _ tt first (omega arith) (omega arith)

pub returns-in-238-to-239 : goal.returns-in-238-to-239
unfolding behind utf8_char
returns-in-238-to-239 c =
    let first = c.args.first in
    left_behind 0xee 0xef _ tt first (omega arith) (omega arith)

pub returns-in-241-to-243 : goal.returns-in-241-to-243
unfolding behind utf8_char
returns-in-241-to-243 c =
    let first = c.args.first in
    left_behind 0xf1 0xf3 _ tt first (omega arith) (omega arith)

pub returns-in_default : goal.returns-in_default
unfolding behind utf8_char
returns-in_default c =
    let first = c.args.first in
    left_behind 0x80 0xc1 _ tt first (omega arith) (omega arith)

pub returns-in_default-2 : goal.returns-in_default-2
unfolding behind utf8_char
returns-in_default-2 c =
    let first = c.args.first in
    left_behind 0xf5 0xff _ tt first (omega arith) (omega arith)
