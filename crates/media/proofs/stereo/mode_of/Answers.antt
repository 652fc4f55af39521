-- `mode_of` meets its contract: each number is an arm of its own. Assumes nothing.
use native.Mathlib.Omega.{arith}
use Rattle.media_rules.proofs.Numbers.{is_mode, no_mode}
use Rattle.media.proofs.stereo.mode_of.Goals as goal

pub returns-in-0 : goal.returns-in-0
returns-in-0 c = search is_mode

pub returns-in-1 : goal.returns-in-1
returns-in-1 c = search is_mode

pub returns-in-2 : goal.returns-in-2
returns-in-2 c = search is_mode

pub returns-in-3 : goal.returns-in-3
returns-in-3 c = search is_mode

pub returns-in-4 : goal.returns-in-4
returns-in-4 c = search is_mode

pub returns-in-5 : goal.returns-in-5
returns-in-5 c = search is_mode

pub returns-in-6 : goal.returns-in-6
returns-in-6 c = search is_mode

pub returns-in-7 : goal.returns-in-7
returns-in-7 c = search is_mode

pub returns-in-8 : goal.returns-in-8
returns-in-8 c = search is_mode

pub returns-in-9 : goal.returns-in-9
returns-in-9 c = search is_mode

pub returns-in-10 : goal.returns-in-10
returns-in-10 c = search is_mode

pub returns-in-11 : goal.returns-in-11
returns-in-11 c = search is_mode

pub returns-in-12 : goal.returns-in-12
returns-in-12 c = search is_mode

pub returns-in-13 : goal.returns-in-13
returns-in-13 c = search is_mode

pub returns-in-14 : goal.returns-in-14
returns-in-14 c = search is_mode

pub returns-in_default : goal.returns-in_default
returns-in_default c = no_mode c.args.number (omega arith)
