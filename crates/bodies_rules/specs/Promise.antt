-- What the public call `body_at` promises of its reply.
use Rattle.std.specs.Prelude.{ℕ, ◌≡◌, List, ◌&&◌, cond, length, leb}
use Rattle.refusals.specs.Refusals.{because, bad_argument}
use Rattle.refusals.specs.Reply.{Reply, accepted, refusal}
use Rattle.header.specs.Promise.{most_bytes}
use Rattle.kinds.specs.Kinds.{kind_under}
use Rattle.bodies_rules.specs.Bodies.{Told, body, refused, body_of}
use Rattle.bodies_rules.specs.declared.body.Body.{Body}
use Rattle.std.specs.Prelude.{Result, Ok, Err}
use Rattle.refusals.specs.declared.refusal.Refusal.{Refusal}

-- The reply for a body whose header is at an address: a refusal is at the header.
abbrev pub reply_of : ℕ → Told → Reply Body
reply_of address (body b) = accepted b
reply_of address (refused cause) = refusal (because cause address)

-- Document 01's values for what `body_at` answers: the body by its case, or the refusal.
abbrev pub body_told : Result Body Refusal → Reply Body
body_told (Ok b) = accepted b
body_told (Err e) = refusal e

-- The reply to the question for a body: 14 for a recording that is too long or a place past its end, else the body
-- by the kind of the id under the parent. The header's address is handed on as it is.
unfoldable pub body_reply : List ℕ → (id parent at size address : ℕ) → Reply Body
body_reply s id parent at size address =
    cond (leb (length s) most_bytes && leb at (length s)) (reply_of address (body_of s at size (kind_under id parent)))
    (refusal bad_argument)

pub record BodyPromise (s : List ℕ) (id parent at size address : ℕ) (r : Result Body Refusal) : Type 0 where
  pub reply : body_told r ≡ body_reply s id parent at size address
