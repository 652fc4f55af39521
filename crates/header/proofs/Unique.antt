-- Any two replies that `header_at` may give to one question are equal (`OneReply`), and a refusal is one of document
-- 01's list (`RefusesListed`). Assumes nothing.
use mathlib.Core.Path.{◌≡◌, ap, ◌∙◌, sym}
use Prim.Native.Nat.{ℕ}
use native.Mathlib.Omega.{arith}
use Rattle.refusals.proofs.Listed.{listed}
use Rattle.header.specs.Promise.{header_told}
use Rattle.header.specs.Theorems.{OneReply, RefusesListed}
use Rattle.std.proofs.Common.{Result, Ok, Err}
use Rattle.header.specs.declared.cursor.Header.{Header}
use Rattle.refusals.specs.declared.refusal.Refusal.{Refusal}

-- document 01's values tell every case of the answer apart
told_once : (r r' : Result Header Refusal) → header_told r ≡ header_told r' → r ≡ r'
told_once (Ok h) (Ok h') q = ap Ok (cc)
told_once (Ok h) (Err e) q = let x : ◌≡◌ {A = ℕ} 0 1 = cc in absurd (omega arith)
told_once (Err e) (Ok h) q = let x : ◌≡◌ {A = ℕ} 0 1 = cc in absurd (omega arith)
told_once (Err e) (Err e') q = ap Err (cc)

pub header_unique : OneReply
header_unique s at r r' p q = told_once r r' (p.reply ∙ sym q.reply)

pub header_refuses_listed : RefusesListed
header_refuses_listed s at e p = listed e
