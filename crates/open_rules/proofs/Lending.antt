-- Five lent tables: cleared, read into, and what they show from turn to turn. Assumes nothing.
use Prim.Native.Nat.{ℕ, ◌-◌, ◌*◌}
use mathlib.Core.Path.{◌≡◌, refl, sym, ap, ◌∙◌, subst}
use mathlib.Core.List.{List}
use mathlib.Core.Bool.{Bool, true, false}
use Rattle.std.specs.Result.{is_err}
use native.Mathlib.Omega.{arith}
use Rattle.refusals.specs.declared.refusal.Refusal.{Refusal}
use Rattle.header.specs.declared.cursor.Headed.{Headed}
use Rattle.elements_rules.specs.Forest.{Forest, count}
use Rattle.elements_rules.specs.Reading.{Outcome, done}
use Rattle.elements_rules.specs.Reading.{refused as unread}
use Rattle.elements_rules.specs.Rows.{rows_at, width}
use Rattle.elements_rules.specs.Promise.{read_told, table_of, ReadPromise}
use Rattle.elements_rules.specs.Promise.{reply_of as read_reply}
use Rattle.elements_rules.specs.Contract.{ClearFrom}
use Rattle.elements_rules.proofs.Forests.{length_rows}
use Rattle.elements_rules.proofs.Tables.{rows_clear}
use Rattle.open_rules.specs.Parts.{parent_of, placed, found_part}
use Rattle.open_rules.specs.Tables.{SameLent, Tables, Sizes, five, sizes_of, of, put, zeroed, part_read, shown}
use Rattle.open_rules.specs.Opening.{Opening, read, refused}
use Rattle.open_rules.specs.Promise.{open_of, reply_of, tables_of, OpenPromise}
use Rattle.open_rules.specs.Contract.{Ready, left_of, Stands, ReadsNext, Turns, TurnsFrom, ReadInto}
use Rattle.open_rules.specs.Contract.{ClearBehind, Ran}
use Rattle.open_rules.specs.declared.lent.Lent.{Lent}
use Rattle.open_rules.specs.declared.parts.Which.{Which}
use Rattle.open_rules.specs.declared.parts.Which.TheVariants.{Info, Tracks, Attachments, Chapters, Tags}
use Rattle.open_rules.specs.declared.parts.Parts.{Parts}
use Rattle.open_rules.specs.declared.turns.Stage.{Stage}
use Rattle.open_rules.specs.declared.turns.Turn.{Turn}
use Rattle.open_rules.specs.declared.turns.Turn.TheVariants.{Read}
use Rattle.std.proofs.Common.{Result, Ok}

-- ---- five at a time

pub each_same :
    {A : Type 0} {a b c d e a' b' c' d' e' : A} → a' ≡ a → b' ≡ b → c' ≡ c → d' ≡ d → e' ≡ e
    → five a' b' c' d' e' ≡ five a b c d e
each_same p q r s t = rw (p, q, r, s, t) refl

-- Tables that are still the same ones of those that are still the same.
pub same_again : (a b c : Lent) → SameLent c b → SameLent b a → SameLent c a
same_again a b c x y = record {
  info = x.info ∙ y.info;
  tracks = x.tracks ∙ y.tracks;
  attachments = x.attachments ∙ y.attachments;
  chapters = x.chapters ∙ y.chapters;
  tags = x.tags ∙ y.tags;
  sizes = x.sizes ∙ y.sizes;
}

-- ---- one of them is read into

module _ (live : Bool) (s : List ℕ) (which : Which) (at size parent : ℕ) (k : parent ≡ parent_of which)
    (a b c d e : List ℕ) (r : Result ℕ Refusal) (t : List ℕ) where
  abbrev Into : Tables → Type 0
  Into t' = ReadInto live s which at size (five a b c d e) r t'

  as_parent : (u : List ℕ) → ReadPromise live s at size parent u r t
      → ReadPromise live s at size (parent_of which) u r t
  as_parent u p = rw k at p

  pub into_info : which ≡ Info → ReadPromise live s at size parent a r t → Into (five t b c d e)
  unfolding part_read
  into_info q p =
      let p' : ReadPromise live s at size (parent_of Info) a r t = rw q at (as_parent a p) in
      rw q (record { reply = p'.reply; tables = ap (λ (x : List ℕ). five x b c d e) p'.table })

  pub into_tracks : which ≡ Tracks → ReadPromise live s at size parent b r t → Into (five a t c d e)
  unfolding part_read
  into_tracks q p =
      let p' : ReadPromise live s at size (parent_of Tracks) b r t = rw q at (as_parent b p) in
      rw q (record { reply = p'.reply; tables = ap (λ (x : List ℕ). five a x c d e) p'.table })

  pub into_attachments : which ≡ Attachments → ReadPromise live s at size parent c r t → Into (five a b t d e)
  unfolding part_read
  into_attachments q p =
      let p' : ReadPromise live s at size (parent_of Attachments) c r t = rw q at (as_parent c p) in
      rw q (record { reply = p'.reply; tables = ap (λ (x : List ℕ). five a b x d e) p'.table })

  pub into_chapters : which ≡ Chapters → ReadPromise live s at size parent d r t → Into (five a b c t e)
  unfolding part_read
  into_chapters q p =
      let p' : ReadPromise live s at size (parent_of Chapters) d r t = rw q at (as_parent d p) in
      rw q (record { reply = p'.reply; tables = ap (λ (x : List ℕ). five a b c x e) p'.table })

  pub into_tags : which ≡ Tags → ReadPromise live s at size parent e r t → Into (five a b c d t)
  unfolding part_read
  into_tags q p =
      let p' : ReadPromise live s at size (parent_of Tags) e r t = rw q at (as_parent e p) in
      rw q (record { reply = p'.reply; tables = ap (λ (x : List ℕ). five a b c d x) p'.table })

-- The tables show a part that was put in.
put_shown : (live : Bool) (s : List ℕ) (n : Sizes) (ps : Parts) (which : Which) (at size rows : ℕ)
    → put (shown live s n ps) which (table_of at (of n which) (part_read live s n which at size))
    ≡ shown live s n (placed ps which (found_part at size rows))
put_shown live s n ps Info at size rows = refl
put_shown live s n ps Tracks at size rows = refl
put_shown live s n ps Attachments at size rows = refl
put_shown live s n ps Chapters at size rows = refl
put_shown live s n ps Tags at size rows = refl

told_rows : (n : ℕ) (o : Outcome) → read_told (Ok n) ≡ read_reply o → (f : Forest) × (o ≡ done f) × (n ≡ count f)
told_rows n (done f) q = (f, refl, cc)
told_rows n (unread e) q = let z : ◌≡◌ {A = ℕ} 0 1 = cc in absurd (omega arith)

-- ---- behind the rows

-- A table that was read into is clear behind the rows that it got.
clear_put : (which : Which) (ps : Parts) (t : Tables) (at size rows : ℕ) (u : List ℕ) → ClearFrom rows u
    → ClearBehind ps t → ClearBehind (placed ps which (found_part at size rows)) (put t which u)
clear_put Info ps t at size rows u c b = record {
  info = c;
  tracks = b.tracks;
  attachments = b.attachments;
  chapters = b.chapters;
  tags = b.tags;
}
clear_put Tracks ps t at size rows u c b = record {
  info = b.info;
  tracks = c;
  attachments = b.attachments;
  chapters = b.chapters;
  tags = b.tags;
}
clear_put Attachments ps t at size rows u c b = record {
  info = b.info;
  tracks = b.tracks;
  attachments = c;
  chapters = b.chapters;
  tags = b.tags;
}
clear_put Chapters ps t at size rows u c b = record {
  info = b.info;
  tracks = b.tracks;
  attachments = b.attachments;
  chapters = c;
  tags = b.tags;
}
clear_put Tags ps t at size rows u c b = record {
  info = b.info;
  tracks = b.tracks;
  attachments = b.attachments;
  chapters = b.chapters;
  tags = c;
}

-- The table of a payload that was read.
clear_read : (at numbers rows : ℕ) (f : Forest) → rows ≡ count f → ClearFrom rows (table_of at numbers (done f))
unfolding table_of
clear_read at numbers rows f q =
    rows_clear (rows_at at f) rows (numbers - count f * width) (q ∙ sym (length_rows 0 0 at 0 f))

-- ---- from turn to turn

-- The tables t₀ were lent cleared.
module _ (live : Bool) (s : List ℕ) (t₀ : Tables) where
  abbrev n : Sizes
  n = sizes_of t₀

  -- The call stands at a stage, with parts that are known and tables that show them.
  pub record Running (t : Tables) (stage : Stage) (ps : Parts) : Type 0 where
    pub same : sizes_of t ≡ n
    pub ready : Ready s stage
    pub stands : Stands live s n stage ps (open_of live s n)
    pub shows : t ≡ shown live s n ps
    pub clear : ClearBehind ps t

  module _ (t : Tables) (stage : Stage) (ps : Parts) (g : Running t stage ps) (turn : Result Turn Refusal)
      (u : TurnsFrom live s stage turn) where
    -- What a turn does with what the call comes to.
    turned : (x : Result Turn Refusal) → turn ≡ x → Turns live s n ps (open_of live s n) (left_of live s stage) x
    turned x q =
        subst (λ (y : Result Turn Refusal). Turns live s n ps (open_of live s n) (left_of live s stage) y) q
        (u n ps (open_of live s n) g.stands)

    module _ (which : Which) (e : Headed) (next : Stage) (x : turn ≡ Ok (Read which e next)) (r : Result ℕ Refusal)
        (t' : Tables) (i : ReadInto live s which e.payload.at e.header.size t r t') where
      abbrev at : ℕ
      at = e.payload.at

      abbrev size : ℕ
      size = e.header.size

      reads : ReadsNext live s n ps (open_of live s n) (left_of live s stage) which e next
      reads = turned (Ok (Read which e next)) x

      -- The reading is that of a table of the lent size.
      as_lent : (y : Result ℕ Refusal) → r ≡ y → read_told y ≡ read_reply (part_read live s n which at size)
      as_lent y j =
          ap read_told (sym j) ∙ i.reply
          ∙ ap (λ (m : Sizes). read_reply (part_read live s m which at size)) g.same

      pub run_again : (rows : ℕ) → r ≡ Ok rows → (ps' : Parts)
          → ps' ≡ placed ps which (found_part at size rows) → sizes_of t' ≡ sizes_of t
          → Running t' next ps'
      run_again rows j ps' k l =
          let (f, o, c) = told_rows rows (part_read live s n which at size) (as_lent (Ok rows) j) in
          let put_in : t' ≡ put t which (table_of at (of n which) (part_read live s n which at size)) = i.tables
          ∙ ap (λ (m : Sizes). put t which (table_of at (of m which) (part_read live s m which at size))) g.same in
          rw k (record {
            same = l ∙ g.same;
            ready = reads.ready;
            stands = rw c (reads.goes f o);
            shows = put_in
                ∙ ap (λ (y : Tables). put y which (table_of at (of n which) (part_read live s n which at size)))
                g.shows
                ∙ put_shown live s n ps which at size rows;
            clear = subst (ClearBehind (placed ps which (found_part at size rows)))
                (sym (put_in ∙ ap (λ (y : Outcome). put t which (table_of at (of n which) y)) o))
                (clear_put which ps t at size rows (table_of at (of n which) (done f))
                (clear_read at (of n which) rows f c) g.clear);
          })

-- ---- the public call

-- The tables t were lent, t₁ are they when they are cleared, and t₂ when all turns were taken.
module _ (live : Bool) (s : List ℕ) (t t₁ t₂ : Tables) (k : t₁ ≡ zeroed (sizes_of t)) (same : sizes_of t₁ ≡ sizes_of t)
    (r : Result (Parts × ℕ) Refusal) (g : Ran live s t₁ r t₂) where
  reply : r ≡ reply_of (open_of live s (sizes_of t))
  reply = g.reply ∙ ap (λ (m : Sizes). reply_of (open_of live s m)) same

  pub open_refused : true ≡ is_err r → (t₃ : Tables) → sizes_of t₂ ≡ sizes_of t₁ → t₃ ≡ zeroed (sizes_of t₂)
      → OpenPromise live s t r t₃
  unfolding tables_of
  open_refused q t₃ l z = record {
    reply = reply;
    tables = z ∙ ap (λ (m : Sizes). zeroed m) (l ∙ same) ∙ by (open_of live s (sizes_of t)) (q ∙ ap is_err reply);
  }
    where
      by : (o : Opening) → true ≡ is_err (reply_of o) → zeroed (sizes_of t) ≡ tables_of live s (sizes_of t) o
      by (read ps heads) w = let z : ◌≡◌ {A = ℕ} 0 1 = cc in absurd (omega arith)
      by (refused e') w = refl

  pub open_read : false ≡ is_err r → OpenPromise live s t r t₂
  unfolding tables_of
  open_read q = record {
    reply = reply;
    tables = by (open_of live s (sizes_of t)) refl (q ∙ ap is_err reply);
  }
    where
      by : (o : Opening) → open_of live s (sizes_of t) ≡ o → false ≡ is_err (reply_of o)
          → t₂ ≡ tables_of live s (sizes_of t) (open_of live s (sizes_of t))
      by (read qs hs) v w =
          g.tables qs hs (ap (open_of live s) same ∙ v) ∙ ap (λ (m : Sizes). shown live s m qs) same
          ∙ rw v refl
      by (refused e') v w = let z : ◌≡◌ {A = ℕ} 0 1 = cc in absurd (omega arith)

-- What the tables are in the end is what the caller finds in them.
pub open_ends : (live : Bool) (s : List ℕ) (t : Tables) (r : Result (Parts × ℕ) Refusal) (t' : Tables)
    → OpenPromise live s t r t' → (u : Tables) → u ≡ t' → OpenPromise live s t r u
open_ends live s t r t' p u q = record { reply = p.reply; tables = q ∙ p.tables }
