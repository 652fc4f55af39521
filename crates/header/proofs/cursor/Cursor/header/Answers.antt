-- `Cursor::header` meets its contract: the id's VINT, then the size's. Assumes nothing.
use mathlib.Core.Path.{ap, ◌∙◌, sym}
use Prim.Native.Nat.{ℕ, ◌+◌}
use Rattle.std.proofs.Common.{Ok, rules}
use Rattle.std.proofs.lemmas.Result.{err_from_is_err_and}
use Rattle.refusals.specs.declared.refusal.Cause.TheVariants.{InvalidId, InvalidSize}
use Rattle.header.specs.Reads.{VintFits}
use Rattle.header.proofs.BigEndian.{fits_in}
use Rattle.header.proofs.Headers.{with_size, by_id, mapped, id_refused, size_refused, taken}
use Rattle.header.proofs.cursor.Cursor.header.Goals as goal

pub returns-in_err-id : goal.returns-in_err-id
returns-in_err-id c =
    let a = c.args in
    let p = err_from_is_err_and c.from_residual.result c.from_residual.ensures.1 in
    let m = mapped InvalidId a.self.at c.vint.result c.map_err.result _ (λ fault e k. search rules) c.map_err.ensures.cases in
    let e = id_refused a.recording.now a.self.at c.vint.result _ (sym m ∙ c.in_err-id.was) in
    rw (p.1, p.2) (sym (by_id a.recording.now a.self.at c.vint.ensures.0 ∙ e))

pub returns-in_err-size : goal.returns-in_err-size
returns-in_err-size c =
    let a = c.args in
    let id = c.in_ok-id.id in
    let v = taken InvalidId a.self.at c.vint.result c.map_err.result _ (λ fault e k. search rules) c.map_err.ensures.cases id c.in_ok-id.was in
    let p = err_from_is_err_and c.from_residual-in_err-size.result c.from_residual-in_err-size.ensures.1 in
    let m = mapped InvalidSize a.self.at c.vint-2.result c.map_err-2.result _ (λ fault e k. search rules) c.map_err-2.ensures.cases in
    let e = size_refused a.self.at id.value id.octets c.vint-2.result _ (sym m ∙ c.in_err-size.was) in
    rw (p.1, p.2)
    (sym (by_id a.recording.now a.self.at (sym v ∙ c.vint.ensures.0)
    ∙ ap (with_size a.self.at id.value id.octets) (sym c.vint-2.ensures.0) ∙ e))

pub overflow_cast-header : goal.overflow_cast-header
overflow_cast-header c =
    let a = c.args in
    let id = c.in_ok-id.id in
    let v = taken InvalidId a.self.at c.vint.result c.map_err.result _ (λ fault e k. search rules) c.map_err.ensures.cases id c.in_ok-id.was in
    let k : VintFits 4 (Ok id) = rw v at c.vint.ensures.1 in
    record { fits = fits_in id.octets 4 id.value k.0 k.1 }

pub vint_data-requires : goal.vint_data-requires
vint_data-requires c =
    let v = taken InvalidSize c.args.self.at c.vint-2.result c.map_err-2.result _ (λ fault e k. search rules) c.map_err-2.ensures.cases c.in_ok-size.size c.in_ok-size.was in
    (rw v at c.vint-2.ensures.1).0

pub returns : goal.returns
returns c =
    let a = c.args in
    let id = c.in_ok-id.id in
    let size = c.in_ok-size.size in
    let v = taken InvalidId a.self.at c.vint.result c.map_err.result _ (λ fault e k. search rules) c.map_err.ensures.cases id c.in_ok-id.was in
    let w = taken InvalidSize a.self.at c.vint-2.result c.map_err-2.result _ (λ fault e k. search rules) c.map_err-2.ensures.cases size c.in_ok-size.was in
    ap
    (λ (n : ℕ).
    Ok (record {
      place = record { at = a.self.at };
      payload = size.next;
      header = record { id = id.value; size = n; length = id.octets + size.octets };
    }))
    c.vint_data.ensures
    ∙ sym (by_id a.recording.now a.self.at (sym v ∙ c.vint.ensures.0)
    ∙ ap (with_size a.self.at id.value id.octets) (sym c.vint-2.ensures.0 ∙ w))
