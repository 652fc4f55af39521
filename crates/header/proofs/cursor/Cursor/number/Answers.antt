-- `Cursor::number` meets its contract: the bytes are all there, or the recording ends. Assumes nothing.
use mathlib.Core.Path.{ap, ◌∙◌, sym}
use native.Mathlib.Omega.{arith}
use Prim.Native.Nat.{ℕ, ◌+◌}
use Rattle.header.proofs.Vints.{number_ends, number_there}
use Rattle.header.proofs.cursor.Cursor.number.Goals as goal
use Rattle.std.proofs.Common.{Some}

pub returns-in_err-left : goal.returns-in_err-left
returns-in_err-left c =
    let a = c.args in
    rw c.from_residual.ensures (sym (number_ends a.recording.now a.self.at a.n (omega (arith, c.in_err-left.ensures))), tt)

pub returns-then-left-n : goal.returns-then-left-n
returns-then-left-n c =
    let a = c.args in
    (sym (number_ends a.recording.now a.self.at a.n (omega (arith, c.in_ok-left.ensures))), tt)

pub returns : goal.returns
returns c =
    let a = c.args in (
      ap (λ (v : ℕ). Some (v, record { at = a.self.at + a.n })) c.big_endian-value.ensures.0
          ∙ sym (number_there a.recording.now a.self.at a.n (omega (arith, c.in_ok-left.ensures))),
      c.big_endian-value.ensures.1,
    )
