-- `find` meets its contract: where the search stops is the first place, or the end. Assumes nothing.
use Rattle.std.proofs.Common.{sym, ◌∙◌}
use Rattle.words.proofs.Parted.{first_at, first_none}
use Rattle.words.proofs.find.Goals as goal

pub returns-in_err-place-clause-first : goal.returns-in_err-place-clause-first
returns-in_err-place-clause-first c =
    let a = c.args in
    rw c.from_residual.ensures
    (first_none a.bytes.now a.from a.byte c.requires (sym c.in_err-place.was ∙ c.place.ensures))

pub returns-clause-first : goal.returns-clause-first
returns-clause-first c =
    first_at c.args.bytes.now c.args.from c.args.byte c.requires _ (sym c.in_ok-place.was ∙ c.place.ensures)
