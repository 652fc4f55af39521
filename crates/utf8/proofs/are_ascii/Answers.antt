-- `are_ascii` meets its contract: the word is the eight octets, and its high bits are theirs. Assumes nothing.
use borrow.Author.Tests.{eqb-true}
use Rattle.utf8.proofs.Ascii.{eight_passed}
use Rattle.utf8.proofs.are_ascii.Goals as goal

pub returns : goal.returns
returns c = λ t s.
    eight_passed c.args.eight.now c.fits-eight s c.told-eight (rw c.from_le_bytes.ensures at (eqb-true _ 0 t))
