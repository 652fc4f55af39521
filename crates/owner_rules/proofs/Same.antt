-- On each payload that the full read accepts the reply is that of the full question (`SameOwner`), and the chain is the
-- row and its parents (`ChainOfParents`). Assumes nothing.
use Prim.Native.Nat.{ℕ, ◌+◌, ◌≤◌, ◌<◌}
use mathlib.Core.Path.{◌≡◌, refl, sym, ap, ◌∙◌, subst}
use mathlib.Core.List.{List, [], ◌∷◌, ◌++◌}
use mathlib.Core.Logic.{◌⊎◌, inl, inr, ⊎_elim}
use mathlib.Core.Bool.{Bool, true, false, cond, ◌&&◌, ◌||◌, not}
use native.Mathlib.Nat.{zero-add}
use native.Mathlib.Omega.{arith}
use lib.ListN.{length, take}
use borrow.Author.Tests.{le-leb, not-false}
use Rattle.refusals.specs.Refusals.{outside}
use Rattle.refusals.specs.Reply.{accepted, refusal}
use Rattle.elements_rules.specs.Forest.{Forest, count}
use Rattle.elements_rules.specs.Reading.{Outcome, done, refused}
use Rattle.elements_rules.specs.Rows.{rows, row_at, rows_of, nth}
use Rattle.elements_rules.specs.Holds.{within, is_leaf, in_header, in_leaf}
use Rattle.elements_rules.specs.Promise.{allowed, zeros, read_of}
use Rattle.elements_rules.specs.declared.row.Row.{Row}
use Rattle.elements_rules.proofs.Limits as limits
use Rattle.elements_rules.proofs.Outcomes.{passes, refuses, of_refuse}
use Rattle.elements_rules.proofs.Forests.{length_rows}
use Rattle.elements_rules.proofs.Standing.{read_stands}
use Rattle.elements_rules.proofs.Depths.{read_low}
use Rattle.elements_rules.proofs.Numbered.{row_of_law}
use Rattle.elements_rules.proofs.Readback.{accepted_read}
use Rattle.places_rules.specs.Whose.{by_header, by_payload, holder_in, asked_of, whose_of}
use Rattle.places_rules.specs.Promise.{whose_told, WhosePromise}
use Rattle.places_rules.specs.Theorems.{Owner as RowOwner}
use Rattle.places_rules.specs.declared.whose.Holder.TheVariants.{Header as HeaderHolds, Payload as PayloadHolds}
use Rattle.places_rules.specs.declared.whose.WhoseRow.TheVariants.{Header as RowHeader, Payload as RowPayload}
use Rattle.places_rules.proofs.Unique.{replied, replied_back}
use Rattle.places_rules.proofs.Owners.{asked_done, table_rows, row_owns}
use Rattle.owner_rules.specs.Owner.{Side, header, payload, Owned, most_links, owner_at, owner_of}
use Rattle.owner_rules.specs.Promise.{owner_is, owner_reply, links_of, ChainPromise}
use Rattle.owner_rules.specs.Theorems.{by_address, SameOwner, ParentsOf, outermost, ChainOfRow, ChainOfParents}
use Rattle.owner_rules.proofs.Links.{links_owned}
use Rattle.owner_rules.proofs.Walking.{inside}
use Rattle.owner_rules.proofs.Asked.{owner_outside, owner_walks, chain_owner}
use Rattle.owner_rules.proofs.Forest.{holder_of, OwnerIn, forest_owner}
use Rattle.std.proofs.Common.{Result, Ok, Err}
use Rattle.owner_rules.specs.declared.owner.Owner.{Owner}
use Rattle.refusals.specs.declared.refusal.Refusal.{Refusal}
use Rattle.places_rules.specs.declared.whose.WhoseRow.{WhoseRow}
use Rattle.std.proofs.Common.{Some, None}

-- ---- the limits, and one row

-- A start that is allowed with a table is allowed without.
no_table : (s : List ℕ) (start numbers : ℕ) → allowed s start numbers ≡ true → allowed s start 0 ≡ true
no_table s start numbers q =
    let w = limits.within s start numbers q in
    sym (limits.by_start s start 0 w.bytes refl (omega arith)) ∙ le-leb start (length s) w.inside

second_true : (a b : Bool) → (a && b) ≡ true → b ≡ true
second_true true b q = q
second_true false b q = let z : ◌≡◌ {A = ℕ} 0 1 = cc in absurd (omega arith)

module _ (r : Row) (x : ℕ) where
  -- A row of which a side holds the address holds it.
  held : (p : Side) → holder_in r x ≡ holder_of p → (in_header r x || in_leaf r x) ≡ true
  unfolding holder_in
  held p q = go (in_header r x) (in_leaf r x) p q
    where
      go : (a b : Bool) (p : Side) → cond a (Some HeaderHolds) (cond b (Some PayloadHolds) None) ≡ holder_of p → (a || b) ≡ true
      go true b p w = refl
      go false true p w = refl
      go false false header w = let z : ◌≡◌ {A = ℕ} 0 1 = cc in absurd (omega arith)
      go false false payload w = let z : ◌≡◌ {A = ℕ} 0 1 = cc in absurd (omega arith)

  -- Which side it is, by the tests of a row.
  side_header : (p : Side) → holder_in r x ≡ holder_of p → in_header r x ≡ true → p ≡ header
  unfolding holder_in
  side_header header q a = refl
  side_header payload q a =
      let w = rw a at q in
      let z : ◌≡◌ {A = ℕ} 0 1 = cc in absurd (let y : ⊥ = omega arith in y)

  -- No byte is in a header and in a payload.
  not_both : in_header r x ≡ true → in_leaf r x ≡ true → ⊥
  not_both a b =
      let (low, high) = inside r.address r.header x a in
      let (low', high') = inside (r.address + r.header) r.payload x (second_true (is_leaf r) _ b) in
      omega arith

  side_payload : (p : Side) → holder_in r x ≡ holder_of p → in_leaf r x ≡ true → p ≡ payload
  unfolding holder_in
  side_payload payload q b = refl
  side_payload header q b = by (in_header r x) refl (rw b at q)
    where
      by : (a : Bool) → in_header r x ≡ a → cond a (Some HeaderHolds) (Some PayloadHolds) ≡ Some HeaderHolds → header ≡ payload
      by true e w = absurd (not_both e b)
      by false e w = let z : ◌≡◌ {A = ℕ} 0 1 = cc in absurd (let y : ⊥ = omega arith in y)

-- The full question's reply by a side and a row.
abbrev row_is : Side → (row total : ℕ) → Result WhoseRow Refusal
row_is header row total = Ok (RowHeader row total)
row_is payload row total = Ok (RowPayload row total)

-- ---- a payload that was read

module _
    (live : Bool) (s : List ℕ) (start size parent x : ℕ) (t : List ℕ) (w : Result WhoseRow Refusal) (t' : List ℕ) (f : Forest)
    (p : WhosePromise live s start size parent x t w t') (q : asked_of live s start size parent x (length t) ≡ done f)
  where
    abbrev rs : List Row
    rs = rows 0 0 start 0 f

    -- What the two questions say of the same row.
    record Agrees : Type 0 where
      owned : Owned
      is : owner_at live s x size 0 parent start size ≡ accepted owned
      row : ℕ
      there : row < length rs
      address : (nth rs row).address ≡ owned.address
      deep_is : (nth rs row).depth ≡ length owned.masters
      parents : ParentsOf rs (nth rs row) owned.masters
      named : w ≡ row_is owned.side row (length rs)

    -- The walk ends at a row of the tree that was read.
    walk_owner : OwnerIn live s x rs size 0 parent start size []
    walk_owner =
        let (w_in, o) = asked_done live s start size parent x (length t) f q in
        let (low, high) = inside start size x w_in in
        let (taken, stands) = read_stands live s start size parent (length t) f o in
        let shallow = read_low live s start size parent (length t) f o in
        let l = length_rows 0 0 start 0 f in
        subst (λ (y : ℕ). OwnerIn live s x rs size 0 parent start y []) taken
        (forest_owner live s x rs f parent 0 0 start 0 size [] stands (omega arith) (omega arith) low (omega arith)
        (λ j k. ap (nth rs) (zero-add j)) (omega arith) (λ r e. outermost r e))

    row_owner : RowOwner rs x w
    row_owner =
        subst (λ (us : List Row). RowOwner us x w) (table_rows live s start size parent x t w t' f p q)
        (row_owns live s start size parent x t w t' f p q)

    -- It is the one row that owns the address.
    agrees : Agrees
    agrees =
        let o = walk_owner.owned in
        let k = walk_owner.row_of_law in
        let g = row_owner in
        let same : k.row ≡ g.row = g.only k.row k.there (held (nth rs k.row) x o.side k.holds) in
        let holds : holder_in (nth rs g.row) x ≡ holder_of o.side
        = ap (λ (n : ℕ). holder_in (nth rs n) x) (sym same) ∙ k.holds in
        record {
          owned = o;
          is = walk_owner.is;
          row = k.row;
          there = k.there;
          address = k.address;
          deep_is = k.deep_is ∙ zero-add (length o.masters);
          parents = k.parents;
          named =
              ⊎_elim
              (λ e. e.0 ∙ ap (λ (n : ℕ). Ok (RowHeader n (length rs))) (sym same)
              ∙ sym (ap (λ (y : Side). row_is y k.row (length rs))
              (side_header (nth rs g.row) x o.side holds e.1)))
              (λ e. e.0 ∙ ap (λ (n : ℕ). Ok (RowPayload n (length rs))) (sym same)
              ∙ sym (ap (λ (y : Side). row_is y k.row (length rs))
              (side_payload (nth rs g.row) x o.side holds e.1)))
              g.which;
        }

    -- The row as the table holds it.
    table_row : (k : ℕ) → k < length rs → row_at t' k ≡ nth rs k
    table_row k l =
        let c = length_rows 0 0 start 0 f in
        sym (row_of_law t' (count f) k (omega arith))
        ∙ ap (λ (us : List Row). nth us k) (table_rows live s start size parent x t w t' f p q)

    was_allowed : allowed s start 0 ≡ true
    unfolding asked_of
    was_allowed = no_table s start (length t) (not-false _ (of_refuse _ _ _ q).0)

    owner_is_law : owner_of live s start size parent x ≡ accepted agrees.owned
    owner_is_law =
        owner_walks live s start size parent x was_allowed (asked_done live s start size parent x (length t) f q).0
        ∙ agrees.is

    same_reply : owner_reply (owner_of live s start size parent x) ≡ by_address t' w
    same_reply =
        let a = agrees in
        let o = a.owned in
        let row_is_law = table_row a.row a.there in
        ap owner_reply owner_is_law
        ∙ ap (λ (n : ℕ). owner_is o.side n (length o.masters))
        (sym (ap (λ (r : Row). r.address) row_is_law ∙ a.address))
        ∙ ap (owner_is o.side (row_at t' a.row).address)
        (sym (ap (λ (r : Row). r.depth) row_is_law ∙ a.deep_is))
        ∙ told o.side
        ∙ ap (by_address t') (sym a.named)
      where
        told : (y : Side)
            → owner_is y (row_at t' agrees.row).address (row_at t' agrees.row).depth
            ≡ by_address t' (row_is y agrees.row (length rs))
        told header = refl
        told payload = refl

    -- The chain into so many numbers, by the row that the full question names.
    same_chain : (row total : ℕ) → (w ≡ Ok (RowHeader row total)) ⊎ (w ≡ Ok (RowPayload row total))
        → (c : List ℕ) (r : Result Owner Refusal) (c' : List ℕ)
        → ChainPromise live s start size parent x c r c' → length c ≤ most_links
        → ChainOfRow t' total row (length c) c'
    same_chain row total e c r c' g l =
        let a = agrees in
        let o = a.owned in
        let (row_same, total_same) = which o.side a.named e in
        let n : total ≡ count f = total_same ∙ length_rows 0 0 start 0 f in
        let row_is_law : row_at t' row ≡ nth rs a.row = ap (row_at t') row_same ∙ table_row a.row a.there in
        let all_is : rows_of t' total ≡ rs = ap (rows_of t') n ∙ table_rows live s start size parent x t w t' f p q in
        record {
          masters = o.masters;
          parents =
              subst (λ (us : List Row). ParentsOf us (row_at t' row) o.masters) (sym all_is)
              (subst (λ (y : Row). ParentsOf rs y o.masters) (sym row_is_law) a.parents);
          links_are =
              g.links
              ∙ ap (links_of (length c)) (chain_owner live s start size parent x (length c) l ∙ owner_is_law)
              ∙ links_owned (length c) o
              ∙ ap (λ (y : ℕ). take (length c) ((o.masters ++ (y ∷ [])) ++ zeros (length c)))
              (sym (ap (λ (y : Row). y.address) row_is_law ∙ a.address));
        }
      where
        which : {k m : ℕ} (y : Side) → w ≡ row_is y k m → (w ≡ Ok (RowHeader row total)) ⊎ (w ≡ Ok (RowPayload row total))
            → (row ≡ k) × (total ≡ m)
        which header i (inl j) = (cc, cc)
        which payload i (inr j) = (cc, cc)
        which header i (inr j) = let z : ◌≡◌ {A = ℕ} 0 1 = cc in absurd (let y : ⊥ = omega arith in y)
        which payload i (inl j) = let z : ◌≡◌ {A = ℕ} 0 1 = cc in absurd (let y : ⊥ = omega arith in y)

-- ---- the theorems

-- The full question past a read that was accepted: its outcome by whether the address is in the payload.
module _
    (live : Bool) (s : List ℕ) (start size parent x numbers : ℕ) (f : Forest)
    (o : read_of live s start size parent numbers ≡ done f)
  where
    asked_inside : within start size x ≡ true → asked_of live s start size parent x numbers ≡ done f
    unfolding asked_of read_of
    asked_inside i =
        let (a, v) = of_refuse _ _ _ o in
        passes _ _ _ a ∙ passes _ _ _ (ap not i) ∙ v

    asked_outside : within start size x ≡ false → asked_of live s start size parent x numbers ≡ refused outside
    unfolding asked_of read_of
    asked_outside i =
        let (a, v) = of_refuse _ _ _ o in
        passes _ _ _ a ∙ refuses _ _ _ (ap not i)

    start_allowed : allowed s start 0 ≡ true
    unfolding read_of
    start_allowed = no_table s start numbers (not-false _ (of_refuse _ _ _ o).0)

pub same_owner : SameOwner
same_owner live s start size parent x t n u w t' r d p g =
    let a = accepted_read live s start size parent t n u d in
    by a.forest a.outcome (within start size x) refl
  where
    by : (f : Forest) → read_of live s start size parent (length t) ≡ done f → (b : Bool) → within start size x ≡ b
        → r ≡ by_address t' w
    by f o true i =
        g.reply
        ∙ same_reply live s start size parent x t w t' f p (asked_inside live s start size parent x (length t) f o i)
    by f o false i =
        let a = start_allowed live s start size parent x (length t) f o in
        let e = asked_outside live s start size parent x (length t) f o i in
        let none : w ≡ Err outside
        = sym (replied_back w) ∙ ap replied (p.reply ∙ ap (whose_of start x) e) in
        g.reply ∙ ap owner_reply (owner_outside live s start size parent x a i) ∙ ap (by_address t') (sym none)

pub chain_of_parents : ChainOfParents
chain_of_parents live s start size parent x t row total w t' c r c' p e g l =
    by (asked_of live s start size parent x (length t)) refl e
  where
    by : (o : Outcome) → asked_of live s start size parent x (length t) ≡ o
        → (w ≡ Ok (RowHeader row total)) ⊎ (w ≡ Ok (RowPayload row total))
        → ChainOfRow t' total row (length c) c'
    by (done f) q i = same_chain live s start size parent x t w t' f p q row total i c r c' g l
    by (refused d) q (inl i) =
        let z : accepted (by_header row total) ≡ refusal d
        = ap whose_told (sym i) ∙ p.reply ∙ ap (whose_of start x) q in
        let y : ◌≡◌ {A = ℕ} 0 1 = cc in absurd (let v : ⊥ = omega arith in v)
    by (refused d) q (inr i) =
        let z : accepted (by_payload row total) ≡ refusal d
        = ap whose_told (sym i) ∙ p.reply ∙ ap (whose_of start x) q in
        let y : ◌≡◌ {A = ℕ} 0 1 = cc in absurd (let v : ⊥ = omega arith in v)
