-- Any two answers that a promise of the C face permits are equal (`OneUzPart`, `OneUzRange`, `OneUzText`,
-- `OneUzPlace`, `OneUzOwner`, `OneUzChain`, `OneUzOpen`). Assumes nothing.
use Prim.Native.Nat.{ℕ}
use mathlib.Core.Path.{sym, ap, ◌∙◌}
use Rattle.elements_rules.specs.Promise.{table_of as read_table}
use Rattle.places_rules.specs.Whose.{whose_of}
use Rattle.owner_rules.specs.Promise.{owner_reply, links_of}
use Rattle.search_rules.specs.Part.{reply_of, table_of}
use Rattle.open_rules.specs.Tables.{Sizes}
use Rattle.open_rules.specs.Promise.{reply_of as open_reply}
use Rattle.viewer_rules.specs.Modes.{search_in, asked_in, chain_in, open_in, tables_in}
use Rattle.viewer_rules.specs.Faces.{part_face, place_face, owned_face, opened_face}
use Rattle.viewer_rules.specs.Theorems.{OneUzOpen}
use Rattle.viewer_rules.specs.Theorems.{OneUzPart, OneUzRange, OneUzText, OneUzPlace, OneUzOwner, OneUzChain}

pub part_unique : OneUzPart
part_unique mode s part t u r r' t' u' l p q = (
  p.reply ∙ ap (λ (n : ℕ). part_face (reply_of (search_in mode s part n))) l ∙ sym q.reply,
  p.table ∙ ap (λ (n : ℕ). table_of n (search_in mode s part n)) l ∙ sym q.table,
)

pub range_unique : OneUzRange
range_unique s t row r r' p q = p.reply ∙ sym q.reply

pub text_unique : OneUzText
text_unique s t row r r' p q = p.reply ∙ sym q.reply

pub place_unique : OneUzPlace
place_unique mode s start size parent x t u r r' t' u' l p q = (
  p.reply ∙ ap (λ (n : ℕ). place_face (whose_of start x (asked_in mode s start size parent x n))) l ∙ sym q.reply,
  p.table ∙ ap (λ (n : ℕ). read_table start n (asked_in mode s start size parent x n)) l ∙ sym q.table,
)

pub owner_unique : OneUzOwner
owner_unique mode s start size parent x r r' p q = p.reply ∙ sym q.reply

pub chain_unique : OneUzChain
chain_unique mode s start size parent x t u r r' t' u' l p q = (
  p.reply ∙ ap (λ (n : ℕ). owned_face (owner_reply (chain_in mode s start size parent x n))) l ∙ sym q.reply,
  p.links ∙ ap (λ (n : ℕ). links_of n (chain_in mode s start size parent x n)) l ∙ sym q.links,
)

pub open_unique : OneUzOpen
open_unique mode s t u r r' t' u' l p q = (
  p.reply ∙ ap (λ (n : Sizes). opened_face (open_reply (open_in mode s n))) l ∙ sym q.reply,
  p.tables ∙ ap (λ (n : Sizes). tables_in mode s n) l ∙ sym q.tables,
)
