-- The records of Tags as tables of fields, each with its id (document 01, Records; the record types of the crate's
-- lib.rs).
use Rattle.std.specs.Prelude.{ℕ, suc, List, [], ◌∷◌, ◌++◌, true, false}
use Rattle.kinds.specs.declared.kind.Kind.TheVariants.{Master, Uint, String, Utf8}
use Rattle.elements_rules.specs.declared.row.Row.{Row}
use Rattle.fields_rules.specs.Children.{subtree, children, nth_of, rows_in}
use Rattle.fields_rules.specs.Values.{FieldValue, flag, number_in}
use Rattle.fields_rules.specs.Fields.{last_child, number_of, flag_of, content_of, language_of, value_of, count_of}
use Rattle.fields_rules.specs.declared.child.Below.{Below}
use Rattle.tags_rules.specs.declared.uid.UidList.{UidList}
use Rattle.tags_rules.specs.declared.uid.UidList.TheVariants.{Track, Edition, Chapter, Attachment}
use Rattle.std.specs.Prelude.{Option, Some, None}

-- Of a master in a recording, with the rows below it.
module _ (s : List ℕ) (parent : ℕ) (below : List Row) where
  unfoldable pub simple_of : List FieldValue
  simple_of =
      content_of s parent below 0x45A3 Utf8  -- name
      ∷ language_of s parent below 0x447A 0x447B  -- language: ISO 639, IETF
      ∷ flag_of s parent below 0x4484  -- default
      ∷ value_of s parent below 0x4487 0x4485  -- value: text, bytes
      ∷ []

  -- The target number stays as it is.
  unfoldable pub target_of : List FieldValue
  target_of =
      number_of s parent below 0x68CA  -- target number
      ∷ content_of s parent below 0x63CA String  -- target type
      ∷ count_of s parent below 0x63C5 Uint  -- track uids
      ∷ count_of s parent below 0x63C9 Uint  -- edition uids
      ∷ count_of s parent below 0x63C4 Uint  -- chapter uids
      ∷ count_of s parent below 0x63C6 Uint  -- attachment uids
      ∷ []

-- Of a master among the rows that were read: Targets is a master of its own, and the last one counts.
module _ (s : List ℕ) (rs : List Row) (parent : ℕ) where
  abbrev pub targets_in : Option (ℕ × Row) → List FieldValue
  targets_in None = flag false ∷ []
  targets_in (Some (n, r)) = flag true ∷ target_of s (suc n) (subtree rs (suc n))

  unfoldable pub targets_of : List FieldValue
  targets_of = targets_in (last_child s parent (subtree rs parent) 0x63C0 Master)

  unfoldable pub tag_of : List FieldValue
  tag_of =
      targets_of  -- whether there are targets, and what they are
      ++ (count_of s parent (subtree rs parent) 0x67C8 Master  -- simple tags
      ∷ [])

-- The id of a uid list's members.
abbrev pub member_id : UidList → ℕ
member_id Track = 0x63C5
member_id Edition = 0x63C9
member_id Chapter = 0x63C4
member_id Attachment = 0x63C6

-- The i-th member of a uid list below the master; and of a master's rows in a table.
abbrev pub member_of : UidList → ℕ → List Row → ℕ → Option (ℕ × Row)
member_of list i rs parent = nth_of i (children parent (member_id list) Uint (subtree rs parent))

abbrev pub member_in : List ℕ → Below → UidList → ℕ → Option (ℕ × Row)
member_in t b list i = nth_of i (children b.parent (member_id list) Uint (rows_in t b))

unfoldable pub uid_of : List ℕ → UidList → ℕ → List Row → ℕ → List FieldValue
uid_of s list i rs parent = number_in s (member_of list i rs parent) ∷ []
