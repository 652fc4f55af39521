-- Replies in document 01's terms: what each way through the public call gives. Assumes nothing.
use mathlib.Core.Path.{◌≡◌, refl}
use mathlib.Core.List.{List}
use mathlib.Core.Bool.{true, false, ◌&&◌}
use lib.Dec.{leb}
use Prim.Native.Nat.{ℕ}
use lib.ListN.{length, drop}
use Rattle.header.specs.Header.{Heading, heading, refused, header_of}
use Rattle.refusals.specs.Refusals.{bad_argument}
use Rattle.header.specs.Reads.{header_read, header_at}
use Rattle.refusals.specs.Reply.{Reply, accepted, refusal}
use Rattle.header.specs.Promise.{most_bytes, reply_of, header_reply}
use Rattle.header.specs.declared.cursor.Header.{Header}
use Rattle.std.proofs.Common.{Result, Ok, Err}
use Rattle.header.specs.declared.cursor.Headed.{Headed}
use Rattle.refusals.specs.declared.refusal.Refusal.{Refusal}

-- what the inner reader gives, in document 01's terms
abbrev pub read_reply : Result Headed Refusal → Reply Header
read_reply (Ok e) = accepted e.header
read_reply (Err e) = refusal e

read_reply_law : (at : ℕ) (h : Heading) → read_reply (header_read at h) ≡ reply_of at h
unfolding header_read
read_reply_law at (heading h) = refl
read_reply_law at (refused e) = refl

module _ (s : List ℕ) (at : ℕ) where
  pub reply_bad : (leb (length s) most_bytes && leb at (length s)) ≡ false → refusal bad_argument ≡ header_reply s at
  unfolding header_reply
  reply_bad h = rw h

  pub reply_read : (leb (length s) most_bytes && leb at (length s)) ≡ true
      → read_reply (header_at s at) ≡ header_reply s at
  unfolding header_reply header_at
  reply_read h = rw h (read_reply_law at (header_of (drop at s)))
