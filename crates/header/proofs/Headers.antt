-- A header as two VINTs, one after the other at their places. Assumes nothing.
use mathlib.Core.Path.{◌≡◌, refl, ap, ◌∙◌, sym}
use mathlib.Core.List.{List}
use Prim.Native.Nat.{ℕ, ◌+◌}
use native.Mathlib.Nat.{add_assoc}
use lib.ListN.{drop}
use lib.Seq.{drop-drop}
use Rattle.header.specs.Vint.{Vint, vint, ends, long, vint_of, vint_data}
use Rattle.refusals.specs.Refusals.{because}
use Rattle.refusals.specs.declared.refusal.Cause.TheVariants.{InvalidId, InvalidSize}
use Rattle.header.specs.Header.{sized, named, header_of}
use Rattle.header.specs.Reads.{vint_read, vint_at, cause_of, header_read, header_at}
use Rattle.header.specs.declared.cursor.Vint.{Vint as VintRead}
use Rattle.header.specs.declared.cursor.VintFault.{VintFault}
use Rattle.std.proofs.Common.{Result, Ok, Err}
use Rattle.std.specs.Result.{MatchResult, IsErrAnd}
use Rattle.std.proofs.lemmas.Result.{err_from_is_err_and}
use Rattle.refusals.specs.declared.refusal.Cause.{Cause}
use Rattle.header.specs.declared.cursor.Headed.{Headed}
use Rattle.refusals.specs.declared.refusal.Refusal.{Refusal}

-- what follows from the VINT of the size, of a header at a place with an id of n octets
abbrev pub with_size : ℕ → ℕ → ℕ → Result VintRead VintFault → Result Headed Refusal
with_size at id n (Err fault) = Err (because (cause_of InvalidSize fault) at)
with_size at id n (Ok v) =
    Ok (record {
      place = record { at = at };
      payload = v.next;
      header = record { id = id; size = vint_data v.octets v.value; length = n + v.octets };
    })

-- what follows from the VINT of the id
abbrev pub with_id : List ℕ → ℕ → Result VintRead VintFault → Result Headed Refusal
with_id s at (Err fault) = Err (because (cause_of InvalidId fault) at)
with_id s at (Ok v) = with_size at v.value v.octets (vint_at s v.next.at 8)

-- a VINT, or the refusal that its fault is
abbrev pub refused_as : Cause → ℕ → Result VintRead VintFault → Result VintRead Refusal
refused_as more at (Ok v) = Ok v
refused_as more at (Err fault) = Err (because (cause_of more fault) at)

-- what `map_err` makes of a VINT, by a closure that gives the refusal
pub mapped : (more : Cause) (at : ℕ) (v : Result VintRead VintFault) (r : Result VintRead Refusal)
    (P : VintFault → Refusal → Type 0) → ((fault : VintFault) (e : Refusal) → P fault e → e ≡ because (cause_of more fault) at)
    → MatchResult v (λ x. r ≡ Ok x) (λ fault. IsErrAnd r (P fault)) → r ≡ refused_as more at v
mapped more at (Ok v) r P h m = m
mapped more at (Err fault) r P h m = let (e, q, p) = err_from_is_err_and r m in q ∙ ap Err (h fault e p)

pub id_refused : (s : List ℕ) (at : ℕ) (v : Result VintRead VintFault) (e : Refusal)
    → refused_as InvalidId at v ≡ Err e → with_id s at v ≡ Err e
id_refused s at (Ok v) e h = absurd cc
id_refused s at (Err fault) e h = let f : because (cause_of InvalidId fault) at ≡ e = cc in ap Err f

pub size_refused : (at id n : ℕ) (v : Result VintRead VintFault) (e : Refusal)
    → refused_as InvalidSize at v ≡ Err e → with_size at id n v ≡ Err e
size_refused at id n (Ok v) e h = absurd cc
size_refused at id n (Err fault) e h = let f : because (cause_of InvalidSize fault) at ≡ e = cc in ap Err f

-- a VINT that is taken is the one that was read
pub taken : (more : Cause) (at : ℕ) (v : Result VintRead VintFault) (r : Result VintRead Refusal)
    (P : VintFault → Refusal → Type 0) → ((fault : VintFault) (e : Refusal) → P fault e → e ≡ because (cause_of more fault) at)
    → MatchResult v (λ x. r ≡ Ok x) (λ fault. IsErrAnd r (P fault)) → (x : VintRead) → r ≡ Ok x → v ≡ Ok x
taken more at (Ok v) r P h m x q =
    let o : ◌≡◌ {A = Result VintRead Refusal} (Ok v) (Ok x) = sym m ∙ q in let f : v ≡ x = cc in ap Ok f
taken more at (Err fault) r P h m x q = let (e, o, p) = err_from_is_err_and r m in absurd cc

module _ (s : List ℕ) (at : ℕ) where
  size_from : (id n : ℕ) (v : Vint) → header_read at (sized id n v) ≡ with_size at id n (vint_read (at + n) v)
  unfolding header_read sized vint_read
  size_from id n ends = refl
  size_from id n long = refl
  size_from id n (vint m value) = rw (add_assoc at n m)

  id_from : (v : Vint) → header_read at (named (drop at s) v) ≡ with_id s at (vint_read at v)
  unfolding header_read named vint_read vint_at
  id_from ends = refl
  id_from long = refl
  id_from (vint n id) = rw (drop-drop n at s) (size_from id n (vint_of 8 (drop (at + n) s)))

  header_from : header_at s at ≡ with_id s at (vint_at s at 4)
  unfolding header_at header_of vint_at
  header_from = id_from (vint_of 4 (drop at s))

  -- the header by what the id's VINT is, and then by what the size's is
  pub by_id : {v : Result VintRead VintFault} → v ≡ vint_at s at 4 → header_at s at ≡ with_id s at v
  by_id p = header_from ∙ ap (with_id s at) (sym p)
