-- Refusals by the names of their causes, each at its address (document 02, C-12). The definitions make none otherwise.
use Rattle.std.specs.Prelude.{ℕ}
use Rattle.refusals.specs.declared.refusal.Cause.{Cause}
use Rattle.refusals.specs.declared.refusal.Cause.TheVariants.{PastEnd, Overrun}
use Rattle.refusals.specs.declared.refusal.Cause.TheVariants.{InvalidSeekHead, StaleEntry, HeadAgain}
use Rattle.refusals.specs.declared.refusal.Cause.TheVariants.{TooManyHeads, TooDeep, NoFreeRow}
use Rattle.refusals.specs.declared.refusal.Cause.TheVariants.{BadArgument, Outside, UnknownSize}
use Rattle.refusals.specs.declared.refusal.Refusal.{Refusal}

-- Of what stands at an address: the header of the element that was being read, or where it began.
abbrev pub because : Cause → ℕ → Refusal
because c address = record { address = address; cause = c }

abbrev pub past_end : ℕ → Refusal
past_end = because PastEnd

-- An element larger than what its master had left.
abbrev pub overrun : ℕ → Refusal
overrun = because Overrun

-- The segment's start plus the position of an entry for that id exceeds 2^64-1. The address is that of the last head
-- that was read.
abbrev pub invalid_seek_head : (id : ℕ) → ℕ → Refusal
invalid_seek_head id = because (InvalidSeekHead id)

-- The sought address holds a valid header with another id.
abbrev pub stale_entry : ℕ → Refusal
stale_entry = because StaleEntry

-- A seek head is reached at an address already read as one: that address.
abbrev pub head_again : ℕ → Refusal
head_again = because HeadAgain

-- A 65th seek head would be read at that address.
abbrev pub too_many_heads : ℕ → Refusal
too_many_heads = because TooManyHeads

abbrev pub too_deep : ℕ → Refusal
too_deep = because TooDeep

abbrev pub no_free_row : ℕ → Refusal
no_free_row = because NoFreeRow

-- An unknown size on an element that has to have a known one (document 02, C-18).
abbrev pub unknown_size : ℕ → Refusal
unknown_size = because UnknownSize

-- ---- of what the caller gave: these have address 0

abbrev pub bad_argument : Refusal
bad_argument = because BadArgument 0

-- The address is outside the payload.
abbrev pub outside : Refusal
outside = because Outside 0

-- There is no k-th record or list member.
abbrev pub no_record : Refusal
no_record = because Outside 0
