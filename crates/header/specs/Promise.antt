-- What the public call `header_at` promises of its reply.
use Rattle.std.specs.Prelude.{ℕ, ◌≡◌, List, ◌&&◌, cond, length, drop, leb}
use Rattle.refusals.specs.Refusals.{because, bad_argument}
use Rattle.refusals.specs.Reply.{Reply, accepted, refusal}
use Rattle.header.specs.Header.{Heading, heading, refused, header_of}
use Rattle.header.specs.declared.cursor.Header.{Header}
use Rattle.std.specs.Prelude.{Result, Ok, Err}
use Rattle.refusals.specs.declared.refusal.Refusal.{Refusal}

-- The longest recording (document 01, Numbers that bound a call).
abbrev pub most_bytes : ℕ
most_bytes = 4294967295

-- The reply for a header at a place: a refusal is at that place.
abbrev pub reply_of : ℕ → Heading → Reply Header
reply_of at (heading h) = accepted h
reply_of at (refused cause) = refusal (because cause at)

-- The reply to the question for a header at a place: 14 for a recording that is too long or a place past its
-- end, else what stands there.
unfoldable pub header_reply : List ℕ → ℕ → Reply Header
header_reply s at =
    cond (leb (length s) most_bytes && leb at (length s)) (reply_of at (header_of (drop at s))) (refusal bad_argument)

-- Document 01's values for what `header_at` answers: id, size and length by their names, or the refusal.
abbrev pub header_told : Result Header Refusal → Reply Header
header_told (Ok h) = accepted h
header_told (Err e) = refusal e

pub record HeaderPromise (s : List ℕ) (at : ℕ) (r : Result Header Refusal) : Type 0 where
  pub reply : header_told r ≡ header_reply s at
