-- The public call: its limits, the walk, and the reading of what it found. Assumes nothing.
use Rattle.booleans.proofs.Pairs.{ok_halves}
use Prim.Native.Nat.{ℕ, ◌≤◌}
use mathlib.Core.Path.{◌≡◌, refl, sym, ap, ◌∙◌}
use mathlib.Core.List.{List}
use mathlib.Core.Bool.{Bool, true, false, not}
use native.Mathlib.Omega.{arith}
use lib.ListN.{length}
use borrow.Author.Tests.{le-leb}
use Rattle.refusals.specs.Refusals.{bad_argument}
use Rattle.refusals.specs.Reply.{refusal}
use Rattle.refusals.specs.declared.refusal.Refusal.{Refusal}
use Rattle.header.specs.declared.cursor.Headed.{Headed}
use Rattle.elements_rules.specs.Reading.{Outcome, done}
use Rattle.elements_rules.specs.Reading.{refused as unread}
use Rattle.elements_rules.specs.Promise.{allowed, filled, read_of, zeros, ReadPromise}
use Rattle.elements_rules.specs.Promise.{reply_of as read_reply, table_of as read_table, read_told}
use Rattle.elements_rules.proofs.Outcomes.{passes}
use Rattle.elements_rules.proofs.Limits.{within, by_start}
use Rattle.seekchain_rules.specs.Answers.{on_outcome}
use Rattle.seekchain_rules.specs.Lookup.{Lookup}
use Rattle.seekchain_rules.specs.Lookup.{found as found_at, absent as absent_at, stopped as stopped_at}
use Rattle.seekchain_rules.specs.Contract.{place_told}
use Rattle.segments_rules.specs.Segment.{lookup_of}
use Rattle.search_rules.specs.Part.{parent_of, Search, found, absent, refused, on_lookup, search_of}
use Rattle.search_rules.specs.Part.{reply_of, table_of, part_told, PartPromise}
use Rattle.search_rules.proofs.Trusty.{found_inside}
use Rattle.std.proofs.Common.{Ok, Err, Some, None}
use Rattle.std.proofs.Common.{Result, Option}
use Rattle.search_rules.specs.declared.part.Part.{Part}

-- ---- what a place told

told_stopped : (e : Refusal) (p : Lookup) → Err e ≡ place_told p → p ≡ stopped_at e
told_stopped e (found_at part heads) q = let z : ◌≡◌ {A = ℕ} 0 1 = cc in absurd (omega arith)
told_stopped e (absent_at heads) q = let z : ◌≡◌ {A = ℕ} 0 1 = cc in absurd (omega arith)
told_stopped e (stopped_at e') q = cc

told_absent : (n : ℕ) (p : Lookup) → Ok (None, n) ≡ place_told p
    → (heads : List ℕ) × (p ≡ absent_at heads) × (n ≡ length heads)
told_absent n (found_at part heads) q =
    let h = (ok_halves q).0 in let z : ◌≡◌ {A = ℕ} 0 1 = cc in absurd (omega arith)
told_absent n (absent_at heads) q = (heads, refl, (ok_halves q).1)
told_absent n (stopped_at e) q = let z : ◌≡◌ {A = ℕ} 0 1 = cc in absurd (omega arith)

told_found : (e : Headed) (n : ℕ) (p : Lookup) → Ok (Some e, n) ≡ place_told p
    → (heads : List ℕ) × (p ≡ found_at e heads) × (n ≡ length heads)
told_found e n (found_at part heads) q =
    let (a, b) = ok_halves q in
    let c : e ≡ part = cc in
    (heads, ap (λ (x : Headed). found_at x heads) (sym c), b)
told_found e n (absent_at heads) q =
    let h = (ok_halves q).0 in let z : ◌≡◌ {A = ℕ} 0 1 = cc in absurd (omega arith)
told_found e n (stopped_at r) q = let z : ◌≡◌ {A = ℕ} 0 1 = cc in absurd (omega arith)

-- ---- the limits

-- The start of a part that was found is allowed where the recording's start is.
pub allowed_at : (s : List ℕ) (at numbers : ℕ) → allowed s 0 numbers ≡ true → at ≤ length s
    → allowed s at numbers ≡ true
allowed_at s at numbers a l =
    let w = within s 0 numbers a in
    sym (by_start s at numbers w.bytes w.multiple w.few) ∙ le-leb at (length s) l

pub found_allowed : (live : Bool) (s : List ℕ) (part numbers : ℕ) (e : Headed) (n : ℕ) → allowed s 0 numbers ≡ true
    → Ok (Some e, n) ≡ place_told (lookup_of live s part) → allowed s e.payload.at numbers ≡ true
found_allowed live s part numbers e n a w =
    let (heads, q, l) = told_found e n (lookup_of live s part) w in
    allowed_at s e.payload.at numbers a (found_inside live s part e heads q)

-- ---- the search by its cases

-- What the reading of a part comes to, as a search.
abbrev pub as_search : ℕ → ℕ → List ℕ → Outcome → Search
as_search at size heads o = on_outcome o refused (found at size heads)

abbrev pub reading : (live : Bool) → List ℕ → ℕ → ℕ → Headed → List ℕ → Search
reading live s numbers parent e heads =
    as_search e.payload.at e.header.size heads (filled live s e.payload.at e.header.size parent numbers)

module _ (live : Bool) (s : List ℕ) (part numbers : ℕ) where
  search_broken : allowed s 0 numbers ≡ false → search_of live s part numbers ≡ refused bad_argument
  unfolding search_of
  search_broken a = rw a refl

  module _ (a : allowed s 0 numbers ≡ true) where
    search_none : parent_of part ≡ None → search_of live s part numbers ≡ refused bad_argument
    unfolding search_of
    search_none i = rw (a, i) refl

    search_at : (parent : ℕ) → parent_of part ≡ Some parent → (p : Lookup) → lookup_of live s part ≡ p
        → search_of live s part numbers ≡ on_lookup p (reading live s numbers parent)
    unfolding search_of
    search_at parent i p q = rw (a, i, q) refl

-- The public read of a part that was found reads it.
pub read_at : (live : Bool) (s : List ℕ) (at size parent numbers : ℕ) → allowed s at numbers ≡ true
    → read_of live s at size parent numbers ≡ filled live s at size parent numbers
unfolding read_of
read_at live s at size parent numbers a = passes _ _ _ (ap not a)

-- ---- the reply and the table

module _ (at size numbers : ℕ) (heads t' : List ℕ) where
  read_refused : (e : Refusal) (o : Outcome) → read_told (Err e) ≡ read_reply o → t' ≡ read_table at numbers o
      → (part_told (Err e) ≡ reply_of (as_search at size heads o))
      × (t' ≡ table_of numbers (as_search at size heads o))
  unfolding table_of read_table
  read_refused e (done f) q w = let z : ◌≡◌ {A = ℕ} 0 1 = cc in absurd (omega arith)
  read_refused e (unread e') q w = let x : e ≡ e' = cc in (ap refusal x, w)

  read_rows : (rows n : ℕ) → n ≡ length heads → (o : Outcome) → read_told (Ok rows) ≡ read_reply o
      → t' ≡ read_table at numbers o
      → (part_told (Ok (Some (record { at = at; size = size; rows = rows }), n)) ≡ reply_of (as_search at size heads o))
      × (t' ≡ table_of numbers (as_search at size heads o))
  unfolding table_of
  read_rows rows n l (done f) q w = (cc, w)
  read_rows rows n l (unread e) q w = let z : ◌≡◌ {A = ℕ} 0 1 = cc in absurd (omega arith)

module _ (live : Bool) (s : List ℕ) (part : ℕ) (t : List ℕ) where
  -- A reply and a table that tell what the search comes to are as promised.
  promised : (x : Search) → search_of live s part (length t) ≡ x → (r : Result (Option Part × ℕ) Refusal) (t' : List ℕ)
      → part_told r ≡ reply_of x → t' ≡ table_of (length t) x → PartPromise live s part t r t'
  promised x q r t' e w = record { reply = e ∙ sym (ap reply_of q); table = w ∙ sym (ap (table_of (length t)) q) }

  -- A refusal before anything was read into the table.
  cleared : (e e' : Refusal) (t' : List ℕ) → search_of live s part (length t) ≡ refused e' → e ≡ e'
      → t' ≡ zeros (length t)
      → PartPromise live s part t (Err e) t'
  unfolding table_of
  cleared e e' t' q i z = promised (refused e') q (Err e) t' (rw i refl) z

  pub find_broken : (e : Refusal) (t' : List ℕ) → allowed s 0 (length t) ≡ false → e ≡ bad_argument
      → t' ≡ zeros (length t) → PartPromise live s part t (Err e) t'
  find_broken e t' a i z = cleared e bad_argument t' (search_broken live s part (length t) a) i z

  module _ (a : allowed s 0 (length t) ≡ true) where
    pub find_none : (e : Refusal) (t' : List ℕ) → parent_of part ≡ None → e ≡ bad_argument
        → t' ≡ zeros (length t) → PartPromise live s part t (Err e) t'
    find_none e t' i j z = cleared e bad_argument t' (search_none live s part (length t) a i) j z

    module _ (parent : ℕ) (i : parent_of part ≡ Some parent) where
      pub find_stopped : (e : Refusal) (t' : List ℕ) → Err e ≡ place_told (lookup_of live s part)
          → t' ≡ zeros (length t) → PartPromise live s part t (Err e) t'
      find_stopped e t' w z =
          let q = search_at live s part (length t) a parent i (stopped_at e) (told_stopped e (lookup_of live s part) w) in
          cleared e e t' q refl z

      absent_promised : (n : ℕ) (heads t' : List ℕ) → lookup_of live s part ≡ absent_at heads → n ≡ length heads
          → t' ≡ zeros (length t) → PartPromise live s part t (Ok (None, n)) t'
      unfolding table_of
      absent_promised n heads t' q l z =
          promised (absent heads) (search_at live s part (length t) a parent i (absent_at heads) q) (Ok (None, n)) t'
          (ap (λ (k : ℕ). part_told (Ok (None, k))) l) z

      pub find_absent : (n : ℕ) (t' : List ℕ) → Ok (None, n) ≡ place_told (lookup_of live s part)
          → t' ≡ zeros (length t) → PartPromise live s part t (Ok (None, n)) t'
      find_absent n t' w z =
          let (heads, q, l) = told_absent n (lookup_of live s part) w in
          absent_promised n heads t' q l z

      module _ (e : Headed) (n : ℕ) (w : Ok (Some e, n) ≡ place_told (lookup_of live s part)) where
        abbrev at : ℕ
        at = e.payload.at

        abbrev size : ℕ
        size = e.header.size

        read_is : read_of live s at size parent (length t) ≡ filled live s at size parent (length t)
        read_is = read_at live s at size parent (length t) (found_allowed live s part (length t) e n a w)

        pub find_refused : (r : Refusal) (t' : List ℕ) → ReadPromise live s at size parent t (Err r) t'
            → PartPromise live s part t (Err r) t'
        find_refused r t' p =
            let (heads, q, l) = told_found e n (lookup_of live s part) w in
            let o = filled live s at size parent (length t) in
            let (x, k) = read_refused at size (length t) heads t' r o (p.reply ∙ ap read_reply read_is)
            (p.table ∙ ap (read_table at (length t)) read_is) in
            promised (as_search at size heads o)
            (search_at live s part (length t) a parent i (found_at e heads) q) (Err r) t' x k

        pub find_rows : (rows : ℕ) (t' : List ℕ) → ReadPromise live s at size parent t (Ok rows) t'
            → PartPromise live s part t (Ok (Some (record { at = at; size = size; rows = rows }), n)) t'
        find_rows rows t' p =
            let (heads, q, l) = told_found e n (lookup_of live s part) w in
            let o = filled live s at size parent (length t) in
            let (r, k) = read_rows at size (length t) heads t' rows n l o (p.reply ∙ ap read_reply read_is)
            (p.table ∙ ap (read_table at (length t)) read_is) in
            promised (as_search at size heads o)
            (search_at live s part (length t) a parent i (found_at e heads) q) (Ok (Some (record { at = at; size = size; rows = rows }), n)) t' r k
