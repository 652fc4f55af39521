-- A body that was read, in document 01's terms, is what the public definition has. Assumes nothing.
use mathlib.Core.Path.{◌≡◌, refl, sym, ap, ◌∙◌}
use mathlib.Core.Bool.{true, false, ◌&&◌}
use lib.Dec.{leb}
use mathlib.Core.List.{List}
use Prim.Native.Nat.{ℕ}
use lib.ListN.{length}
use Rattle.header.specs.Promise.{most_bytes}
use Rattle.refusals.specs.Refusals.{because, bad_argument}
use Rattle.refusals.specs.Reply.{Reply, accepted, refusal}
use Rattle.kinds.specs.Promise.{KindPromise}
use Rattle.kinds.specs.declared.kind.Kind.{Kind}
use Rattle.kinds.proofs.Numbers.{promised_kind}
use Rattle.bodies_rules.specs.Bodies.{Told, body, refused, body_of}
use Rattle.bodies_rules.specs.Reads.{read_of, body_read}
use Rattle.bodies_rules.specs.Promise.{reply_of, body_reply}
use Rattle.bodies_rules.specs.declared.body.Body.{Body}
use Rattle.bodies_rules.specs.declared.body.Body.TheVariants.{Value, Master}
use Rattle.std.proofs.Common.{Result, Ok, Err}
use Rattle.std.specs.Result.{MatchResult, IsErrAnd}
use Rattle.std.proofs.lemmas.Result.{err_from_is_err_and}
use Rattle.refusals.specs.declared.refusal.Refusal.{Refusal}
use Rattle.refusals.specs.declared.refusal.Cause.{Cause}
use Rattle.header.specs.declared.cursor.Cursor.{Cursor}

abbrev pub read_reply : ℕ → Result (Body × Cursor) Cause → Reply Body
read_reply address (Ok (b, next)) = accepted b
read_reply address (Err cause) = refusal (because cause address)

told_back : (address at n : ℕ) (t : Told) → read_reply address (read_of at n t) ≡ reply_of address t
told_back address at n (body (Value v)) = refl
told_back address at n (body Master) = refl
told_back address at n (refused cause) = refl

-- What `map_err` makes of a body that was read, by a closure that gives the refusal at the address.
pub mapped_err : (address : ℕ) (v : Result (Body × Cursor) Cause) (r : Result (Body × Cursor) Refusal)
    (P : Cause → Refusal → Type 0) → ((cause : Cause) (e : Refusal) → P cause e → e ≡ because cause address)
    → MatchResult v (λ x. r ≡ Ok x) (λ cause. IsErrAnd r (P cause))
    → (e : Refusal) → r ≡ Err e → (cause : Cause) × (v ≡ Err cause) × (e ≡ because cause address)
mapped_err address (Ok x) r P h m e q =
    let o : ◌≡◌ {A = Result (Body × Cursor) Refusal} (Ok x) (Err e) = sym m ∙ q in absurd cc
mapped_err address (Err cause) r P h m e q =
    let (d, o, p) = err_from_is_err_and r m in
    let f : d ≡ e = cc in (cause, refl, sym f ∙ h cause d p)

pub mapped_ok : (v : Result (Body × Cursor) Cause) (r : Result (Body × Cursor) Refusal)
    (P : Cause → Refusal → Type 0) → MatchResult v (λ x. r ≡ Ok x) (λ cause. IsErrAnd r (P cause))
    → (x : Body × Cursor) → r ≡ Ok x → v ≡ Ok x
mapped_ok (Ok y) r P m x q =
    let o : ◌≡◌ {A = Result (Body × Cursor) Refusal} (Ok y) (Ok x) = sym m ∙ q in let f : y ≡ x = cc in ap Ok f
mapped_ok (Err cause) r P m x q = let (d, o, p) = err_from_is_err_and r m in absurd cc

module _ (s : List ℕ) (id parent at n address : ℕ) where
  pub reply_bad : (leb (length s) most_bytes && leb at (length s)) ≡ false
      → refusal bad_argument ≡ body_reply s id parent at n address
  unfolding body_reply
  reply_bad h = rw h

  -- What was read by the kind that the id has under the parent.
  pub reply_read :
      (k : Kind) (r : Result (Body × Cursor) Cause) → KindPromise id parent k → r ≡ body_read k s at n
      → (leb (length s) most_bytes && leb at (length s)) ≡ true
      → read_reply address r ≡ body_reply s id parent at n address
  unfolding body_read body_reply
  reply_read k r promise read h =
      let kind = promised_kind id parent k promise in
      ap (read_reply address) read ∙ told_back address at n (body_of s at n k)
      ∙ rw h (ap (λ (k : Kind). reply_of address (body_of s at n k)) kind)
