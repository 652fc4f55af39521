-- The body of an element by its kind (document 01, Bodies; RFC 8794, section 7).
use Rattle.std.specs.Prelude.{ℕ, ◌+◌, List, cond, ◌||◌, length, take, drop, leb, eqb}
use Rattle.refusals.specs.declared.refusal.Cause.{Cause}
use Rattle.refusals.specs.declared.refusal.Cause.TheVariants.{PastEnd, InvalidUint, InvalidFloat, InvalidDate, NotUtf8}
use Rattle.header.specs.Vint.{big_endian}
use Rattle.kinds.specs.declared.kind.Kind.{Kind}
use Rattle.kinds.specs.declared.kind.Kind.TheVariants.{Master, Int, Uint, String, Utf8, Binary, Float, Date}
use Rattle.utf8.specs.Utf8.{utf8}
use Rattle.bodies_rules.specs.Numbers.{signed_of, float_of}
use Rattle.bodies_rules.specs.declared.body.Body.{Body}
use Rattle.bodies_rules.specs.declared.body.Body.TheVariants.{Value as ValueIs, Master as MasterIs}
use Rattle.bodies_rules.specs.declared.body.Value.{Value}
use Rattle.bodies_rules.specs.declared.body.Value.TheVariants.{Integer, Unsigned, Text, Bytes}
use Rattle.bodies_rules.specs.declared.body.Value.TheVariants.{Float as FloatIs, Date as DateIs}

-- A body, which is a value by its case or a master; or why there is none. Whose body it is is known to whoever read the
-- header.
pub data Told : Type 0 where
  body : Body → Told
  refused : Cause → Told

abbrev pub value : Value → Told
value v = body (ValueIs v)

abbrev pub master : Told
master = body MasterIs

module _ (s : List ℕ) (at size : ℕ) where
  -- The octets of the body.
  abbrev pub payload : List ℕ
  payload = take size (drop at s)

  -- Those octets as one big-endian number.
  abbrev pub number : ℕ
  number = big_endian payload

  -- What is told if the recording has those octets; else 1.
  abbrev pub if_there : Told → Told
  if_there t = cond (leb (at + size) (length s)) t (refused PastEnd)

  -- A text of either kind.
  abbrev pub text_of : Told
  text_of = cond (utf8 payload) (value (Text (record { at = at; length = size }))) (refused NotUtf8)

  -- The size is tested first, then the end of the recording, then the text.
  unfoldable pub body_of : Kind → Told
  body_of Master = master
  body_of Int = cond (leb size 8) (if_there (value (Integer (signed_of size number)))) (refused InvalidUint)
  body_of Uint = cond (leb size 8) (if_there (value (Unsigned number))) (refused InvalidUint)
  body_of String = if_there text_of
  body_of Utf8 = if_there text_of
  body_of Binary = if_there (value (Bytes (record { at = at; length = size })))
  body_of Float =
      cond (eqb size 4 || eqb size 8) (if_there (value (FloatIs (float_of size number)))) (refused InvalidFloat)
  body_of Date = cond (eqb size 8) (if_there (value (DateIs (signed_of size number)))) (refused InvalidDate)
