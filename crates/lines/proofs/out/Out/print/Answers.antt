-- `print`: a text that was displayed is gathered whole.
use Rattle.std.proofs.Common.{rules}
use Rattle.lines.proofs.Gathered.{takes_text}
use Rattle.lines.proofs.out.Out.print.Goals as goal

-- src/out.rt:56:5
pub returns-else-is_err-2-clause-text : goal.returns-else-is_err-2-clause-text
returns-else-is_err-2-clause-text g c = search (rules, takes_text)
