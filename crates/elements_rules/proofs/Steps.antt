-- The steps of `element` over plain values: what is known once its row is written, and what each return then promises.
-- Assumes nothing.
use Prim.Native.Nat.{ℕ, ◌+◌, ◌/◌, ◌≤◌, ◌<◌}
use mathlib.Core.Path.{◌≡◌, sym, ap, ◌∙◌, subst}
use mathlib.Core.List.{List, [], ◌∷◌}
use mathlib.Core.Bool.{Bool, true, false, not}
use native.Mathlib.Omega.{arith}
use lib.ListN.{length}
use Rattle.refusals.specs.Refusals.{because, too_deep, no_free_row}
use Rattle.refusals.specs.declared.refusal.Cause.{Cause}
use Rattle.header.specs.declared.cursor.Cursor.{Cursor}
use Rattle.header.specs.declared.cursor.Headed.{Headed}
use Rattle.header.specs.declared.cursor.Header.{Header}
use Rattle.refusals.specs.declared.refusal.Refusal.{Refusal}
use Rattle.header.proofs.Inside.{header_there}
use Rattle.kinds.specs.Kinds.{number_of, kind_under}
use Rattle.kinds.specs.declared.kind.Kind.{Kind}
use Rattle.bodies_rules.specs.Reads.{body_read}
use Rattle.bodies_rules.specs.declared.body.Body.{Body}
use Rattle.elements_rules.specs.Reading.{Outcome, above as above', full, element_of, depths, master_body}
use Rattle.elements_rules.specs.Reading.{element_header_read}
use Rattle.elements_rules.specs.Rows.{row_of, width}
use Rattle.elements_rules.specs.Contract.{written, closed, Room, Met}
use Rattle.elements_rules.specs.declared.element.Above.{Above}
use Rattle.elements_rules.specs.declared.row.Mode.{Mode}
use Rattle.elements_rules.proofs.Parts.{step_read}
use Rattle.elements_rules.proofs.Bodies.{leaf_read}
use Rattle.elements_rules.proofs.Tables.{Kept, no_room, has_room, room_free, length_written}
use Rattle.elements_rules.proofs.Standing.{body_stands}
use Rattle.elements_rules.proofs.Reading.{element_here, el_refused, el_deep, el_full, el_master, el_bad, el_leaf}
use Rattle.elements_rules.proofs.Reading.{met_refused, met_leaf, met_broken, met_master}
use Rattle.std.proofs.Common.{Result, Ok, Err}

module _ (s : List ℕ) (mode : Mode) (t : List ℕ) (place : Cursor) (n : ℕ) (above : Above) where
  abbrev here : Outcome
  here = element_here s mode (length t / width) above.depth above.id place.at n

  -- What `element` promises of its answer.
  abbrev pub Promised : List ℕ → Result (ℕ × Cursor) Refusal → Type 0
  Promised t' r = Met s mode (place.at + 1) above.row above.depth place.at n here t t' r

  pub header_fails : (t' : List ℕ) (e : Refusal) → element_header_read mode.live s place.at ≡ Err e
      → Promised t' (Err e)
  header_fails t' e q =
      met_refused s mode _ _ _ _ n here t t' e
      (el_refused s mode (length t / width) above.depth above.id place.at n e q)

  module _ (x : Headed) (q : element_header_read mode.live s place.at ≡ Ok x) where
    abbrev h : Header
    h = x.header

    abbrev next : Cursor
    next = x.payload

    pub too_deep_law : (t' : List ℕ) → depths ≤ above.depth → Promised t' (Err (too_deep place.at))
    too_deep_law t' d =
        met_refused s mode _ _ _ _ n here t t' (too_deep place.at)
        (el_deep s mode (length t / width) above.depth above.id place.at n x q d)

    -- Where the payload begins.
    pub payload_at : (1 ≤ h.length) × (next.at ≡ place.at + h.length) × (next.at ≤ length s)
    payload_at =
        let there = header_there s place.at x (step_read mode.live s place.at x q).1 in
        (there.some, there.behind, there.inside)

    module _ (k : Kind) (d : above.depth < depths) (listed : k ≡ kind_under h.id above.id) (t₁ : List ℕ) where
      -- What was to be kept is the element's row.
      abbrev row_here : ℕ → ℕ → Bool → Type 0
      row_here id number kept =
          Kept mode t t₁ n
          (record {
            id = id;
            parent = above.row;
            address = place.at;
            header = h.length;
            payload = h.size;
            kind = number;
            depth = above.depth;
            after = n + 1;
          }) kept

      pub no_free : (number : ℕ) (kept : Bool) (t' : List ℕ) → row_here h.id number kept → not kept ≡ true
          → Promised t' (Err (no_free_row place.at))
      no_free number kept t' w z =
          let f = no_room (full mode (length t / width) n) kept w.0 z in
          met_refused s mode _ _ _ _ n here t t' (no_free_row place.at)
          (el_full s mode (length t / width) above.depth above.id place.at n x q d f)

      -- The row is written.
      pub record Wrote : Type 0 where
        pub free : full mode (length t / width) n ≡ false
        pub row :
            t₁
            ≡ written mode t n
            (row_of (element_of above.id h) above.row above.depth place.at (n + 1) ∷ [])
        pub same : length t₁ ≡ length t

      pub wrote : (number : ℕ) (kept : Bool) → number ≡ number_of k → row_here h.id number kept → not kept ≡ false
          → Wrote
      wrote number kept m w z =
          let (f, y) = has_room (full mode (length t / width) n) kept w.0 z in
          let e : number ≡ number_of (kind_under h.id above.id) = m ∙ ap number_of listed in
          let r = rw e at (w.1 y) in
          record { free = f; row = r; same = ap length r ∙ length_written mode t n _ }

      module _ (w : Wrote) where
        pub room_after : Room mode t₁ (n + 1)
        room_after kept =
            subst (λ (x : ℕ). n + 1 ≤ x / width) (sym w.same) (room_free mode t n w.free kept)

        pub body_fails : (e : Cause) → body_read k s next.at h.size ≡ Err e
            → Promised t₁ (Err (because e place.at))
        body_fails e b =
            let c = payload_at in
            let b' = rw (listed, c.1) at b in
            met_refused s mode _ _ _ _ n here t t₁ (because e place.at)
            (el_bad s mode (length t / width) above.depth above.id place.at n x q d w.free e b')

        pub leaf_met : (body : Body) (after : Cursor) → (number_of k ≡ 1 → ⊥) → n ≤ place.at
            → body_read k s next.at h.size ≡ Ok (body, after) → Promised t₁ (Ok (n + 1, after))
        leaf_met body after m l b =
            let c = payload_at in
            let b' = rw (listed, c.1) at b in
            let m' = rw listed at m in
            let a = place.at + h.length in
            let inner = master_body s mode (length t / width) (above.depth + 1) h.id a h.size (n + 1) in
            let r = leaf_read s a h.size place.at (kind_under h.id above.id) inner body after m' b' in
            let i = r.inside in
            let z : place.at + h.length + h.size ≡ place.at + (h.length + h.size) = omega arith in
            met_leaf s mode above.row above.depth place.at n (element_of above.id h) t t₁ w.row here after
            (el_leaf s mode (length t / width) above.depth above.id place.at n x q d w.free after r)
            (r.behind ∙ ap (λ (x : ℕ). record { at = x }) z) (omega arith) (omega arith) l
            (room_free mode t n w.free)

        -- What `master_body` promised of a master's payload.
        abbrev Inner : List ℕ → Result (ℕ × Cursor) Refusal → Type 0
        Inner t₂ r =
            Met s mode next.at (n + 1) (above.depth + 1) next.at (n + 1)
            (master_body s mode (length t₁ / width) (above.depth + 1) h.id next.at h.size (n + 1)) t₁ t₂ r

        module _ (m : number_of k ≡ 1) (t₂ : List ℕ) where
          master_is : here
              ≡ above' (element_of above.id h)
              (master_body s mode (length t / width) (above.depth + 1) h.id (place.at + h.length) h.size
              (n + 1))
          master_is =
              el_master s mode (length t / width) above.depth above.id place.at n x q d w.free
              (rw listed at m)

          pub master_broken : (r : Result (ℕ × Cursor) Refusal) (e : Refusal) → r ≡ Err e → Inner t₂ r → Promised t₂ r
          master_broken r e z g =
              let c = payload_at in
              let g' = rw (c.1, w.same, z) at g in
              subst (Promised t₂) (sym z)
              (met_broken s mode above.row above.depth place.at n (element_of above.id h) t t₁ w.row t₂ t₂
              here _ e master_is g')

          pub master_met : (t' : List ℕ) (r : Result (ℕ × Cursor) Refusal) (rows : ℕ) (after : Cursor) → r ≡ Ok (rows, after)
              → Inner t₂ r → t' ≡ closed mode t₂ n rows → Promised t' (Ok (rows, after))
          master_met t' r rows after z g u =
              let c = payload_at in
              let g' = rw (c.1, w.same, z) at g in
              let i = c.2 in
              met_master s mode above.row above.depth place.at n (element_of above.id h) t t₁ w.row t₂ t'
              here _ rows after master_is c.0
              (λ f e. (body_stands s mode (length t / width) (above.depth + 1) h.id (place.at + h.length)
              h.size (n + 1) f (omega arith) e).0)
              g' u
