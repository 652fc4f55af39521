-- Document 01's number for each cause, and the id that 8 carries (document 01, Numbers that bound a call; document 02,
-- C-18).
use Rattle.std.specs.Prelude.{ℕ}
use Rattle.refusals.specs.declared.refusal.Cause.{Cause}
use Rattle.refusals.specs.declared.refusal.Cause.TheVariants.{PastEnd, InvalidId, InvalidSize, Overrun}
use Rattle.refusals.specs.declared.refusal.Cause.TheVariants.{InvalidUint, InvalidFloat, InvalidDate, NotUtf8}
use Rattle.refusals.specs.declared.refusal.Cause.TheVariants.{InvalidSeekHead, StaleEntry, HeadAgain}
use Rattle.refusals.specs.declared.refusal.Cause.TheVariants.{TooManyHeads, TooDeep, NoFreeRow}
use Rattle.refusals.specs.declared.refusal.Cause.TheVariants.{BadArgument, Outside, UnknownSize}

abbrev pub cause_number : Cause → ℕ
cause_number PastEnd = 1
cause_number InvalidId = 2
cause_number InvalidSize = 3
cause_number Overrun = 3
cause_number InvalidUint = 4
cause_number InvalidFloat = 5
cause_number InvalidDate = 6
cause_number NotUtf8 = 7
cause_number (InvalidSeekHead id) = 8
cause_number StaleEntry = 9
cause_number HeadAgain = 10
cause_number TooManyHeads = 11
cause_number TooDeep = 12
cause_number NoFreeRow = 13
cause_number BadArgument = 14
cause_number Outside = 15
cause_number UnknownSize = 17

abbrev pub cause_id : Cause → ℕ
cause_id (InvalidSeekHead id) = id
cause_id PastEnd = 0
cause_id InvalidId = 0
cause_id InvalidSize = 0
cause_id Overrun = 0
cause_id InvalidUint = 0
cause_id InvalidFloat = 0
cause_id InvalidDate = 0
cause_id NotUtf8 = 0
cause_id StaleEntry = 0
cause_id HeadAgain = 0
cause_id TooManyHeads = 0
cause_id TooDeep = 0
cause_id NoFreeRow = 0
cause_id BadArgument = 0
cause_id Outside = 0
cause_id UnknownSize = 0
