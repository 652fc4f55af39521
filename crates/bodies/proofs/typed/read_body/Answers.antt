-- `read_body` meets its contract: an arm for each kind, which hands the answer on. Assumes nothing.
use mathlib.Core.Path.{◌≡◌, refl, ap, sym, ◌∙◌}
use mathlib.Core.List.{List}
use Prim.Native.Nat.{ℕ}
use Rattle.kinds.specs.declared.kind.Kind.{Kind}
use Rattle.kinds.specs.declared.kind.Kind.TheVariants as K
use Rattle.bodies_rules.specs.Bodies.{body_of}
use Rattle.bodies_rules.specs.Reads.{body_read}
use Rattle.bodies_rules.specs.declared.body.Body.TheVariants as B
use Rattle.bodies.proofs.typed.read_body.Goals as goal
use Rattle.std.proofs.Common.{Ok}

module _ (s : List ℕ) (at n : ℕ) where
  -- The kind that was told apart is the kind.
  as_kind : {kind k : Kind} → kind ≡ k → body_read k s at n ≡ body_read kind s at n
  as_kind e = ap (λ (k : Kind). body_read k s at n) (sym e)

  master_read : Ok (B.Master, record { at = at }) ≡ body_read K.Master s at n
  unfolding body_read body_of
  master_read = refl

  -- Both text kinds are read as UTF-8.
  string_is_utf8 : body_read K.Utf8 s at n ≡ body_read K.String s at n
  unfolding body_read body_of
  string_is_utf8 = refl

pub returns-in-String : goal.returns-in-String
returns-in-String c = c.read_text.ensures ∙ string_is_utf8 _ _ _ ∙ as_kind _ _ _ c.in-String.is

pub returns-in-Master : goal.returns-in-Master
returns-in-Master c = master_read _ _ _ ∙ as_kind _ _ _ c.in-Master.is

pub returns-in-Int : goal.returns-in-Int
returns-in-Int c = c.read_int.ensures ∙ as_kind _ _ _ c.in-Int.is

pub returns-in-Uint : goal.returns-in-Uint
returns-in-Uint c = c.read_uint.ensures ∙ as_kind _ _ _ c.in-Uint.is

pub returns-in-Utf8 : goal.returns-in-Utf8
returns-in-Utf8 c = c.read_text-in-Utf8.ensures ∙ as_kind _ _ _ c.in-Utf8.is

pub returns-in-Binary : goal.returns-in-Binary
returns-in-Binary c = c.read_bytes.ensures ∙ as_kind _ _ _ c.in-Binary.is

pub returns-in-Float : goal.returns-in-Float
returns-in-Float c = c.read_float.ensures ∙ as_kind _ _ _ c.in-Float.is

pub returns-in-Date : goal.returns-in-Date
returns-in-Date c = c.read_date.ensures ∙ as_kind _ _ _ c.in-Date.is
