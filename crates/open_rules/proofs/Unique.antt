-- Any two replies and tables that the promise of `open` permits are equal (`OneOpen`), its refusals are listed
-- (`OpenRefusesListed`), and what is not found is zeros (`AllZeroed`). Assumes nothing.
use Rattle.booleans.proofs.Pairs.{ok_halves}
use Prim.Native.Nat.{ℕ}
use mathlib.Core.Path.{◌≡◌, refl, sym, ap, ◌∙◌}
use mathlib.Core.List.{List}
use mathlib.Core.Bool.{Bool}
use native.Mathlib.Omega.{arith}
use lib.ListN.{length}
use Rattle.refusals.specs.declared.refusal.Refusal.{Refusal}
use Rattle.refusals.proofs.Listed.{listed}
use Rattle.elements_rules.specs.Promise.{zeros}
use Rattle.open_rules.specs.Parts.{part_of}
use Rattle.open_rules.specs.Tables.{Tables, Sizes, sizes_of, of, shown_of, shown}
use Rattle.open_rules.specs.Opening.{Opening, read, refused}
use Rattle.open_rules.specs.Promise.{open_of, reply_of, tables_of, OpenPromise}
use Rattle.open_rules.specs.Theorems.{OneOpen, OpenRefusesListed, AllZeroed}
use Rattle.open_rules.specs.declared.parts.Which.{Which}
use Rattle.open_rules.specs.declared.parts.Which.TheVariants.{Info, Tracks, Attachments, Chapters, Tags}
use Rattle.open_rules.specs.declared.parts.Parts.{Parts}
use Rattle.std.proofs.Common.{Ok, Err}

pub open_unique : OneOpen
open_unique live s t u r r' t' u' l p q = (
  p.reply ∙ ap (λ (n : Sizes). reply_of (open_of live s n)) l ∙ sym q.reply,
  p.tables ∙ ap (λ (n : Sizes). tables_of live s n (open_of live s n)) l ∙ sym q.tables,
)

pub open_refuses_listed : OpenRefusesListed
open_refuses_listed live s t e t' p = listed e

-- ---- what a reply tells of the call

pub reply_read : (ps : Parts) (k : ℕ) (o : Opening) → Ok (ps, k) ≡ reply_of o
    → (heads : List ℕ) × (o ≡ read ps heads) × (k ≡ length heads)
reply_read ps k (read qs heads) q =
    let (a, b) = ok_halves q in (heads, ap (λ (x : Parts). read x heads) (sym a), b)
reply_read ps k (refused e) q = let z : ◌≡◌ {A = ℕ} 0 1 = cc in absurd (omega arith)

pub reply_refused : (e : Refusal) (o : Opening) → Err e ≡ reply_of o → o ≡ refused e
reply_refused e (read qs heads) q = let z : ◌≡◌ {A = ℕ} 0 1 = cc in absurd (omega arith)
reply_refused e (refused e') q = cc

-- ---- one of the five tables

-- How many numbers it has.
pub size_of : (t : Tables) (which : Which) → of (sizes_of t) which ≡ length (of t which)
size_of t Info = refl
size_of t Tracks = refl
size_of t Attachments = refl
size_of t Chapters = refl
size_of t Tags = refl

shown_at : (live : Bool) (s : List ℕ) (n : Sizes) (ps : Parts) (which : Which)
    → of (shown live s n ps) which ≡ shown_of live s n which (part_of ps which)
shown_at live s n ps Info = refl
shown_at live s n ps Tracks = refl
shown_at live s n ps Attachments = refl
shown_at live s n ps Chapters = refl
shown_at live s n ps Tags = refl

-- What the table of a part shows after an accepted call.
pub table_shown : (live : Bool) (s : List ℕ) (t : Tables) (ps : Parts) (k : ℕ) (t' : Tables)
    → OpenPromise live s t (Ok (ps, k)) t' → (which : Which)
    → of t' which ≡ shown_of live s (sizes_of t) which (part_of ps which)
unfolding tables_of
table_shown live s t ps k t' p which =
    let (heads, q, l) = reply_read ps k (open_of live s (sizes_of t)) p.reply in
    ap (λ (x : Tables). of x which) (p.tables ∙ ap (tables_of live s (sizes_of t)) q)
    ∙ shown_at live s (sizes_of t) ps which

pub all_zeroed : AllZeroed
unfolding tables_of
all_zeroed = record {
  refused = λ live s t e t' p.
      p.tables
      ∙ ap (tables_of live s (sizes_of t)) (reply_refused e (open_of live s (sizes_of t)) p.reply);
  absent = λ live s t ps k t' p which a.
      table_shown live s t ps k t' p which ∙ ap (shown_of live s (sizes_of t) which) a ∙ ap zeros (size_of t which);
}
