-- In a tree that stands the walk ends at one of its rows, and its masters are that row's parents. Assumes nothing.
use Prim.Native.Nat.{ℕ, zero, suc, ◌+◌, ◌-◌, ◌≤◌, ◌<◌}
use mathlib.Core.Path.{◌≡◌, sym, ap, ◌∙◌, subst}
use mathlib.Core.List.{List, [], ◌∷◌, ◌++◌, append-nil, append_assoc}
use mathlib.Core.Bool.{Bool}
use native.Mathlib.Omega.{arith}
use lib.ListN.{length, length-append}
use Rattle.refusals.specs.Reply.{accepted}
use Rattle.header.proofs.Inside.{header_inside}
use Rattle.kinds.specs.Kinds.{number_of}
use Rattle.elements_rules.specs.Forest.{Element, Forest, none, node, whole, span, count, deep}
use Rattle.elements_rules.specs.Reading.{depths}
use Rattle.elements_rules.specs.Rows.{row_of, rows, nth}
use Rattle.elements_rules.specs.Stands.{StandsAt, Stands}
use Rattle.elements_rules.specs.declared.row.Row.{Row}
use Rattle.elements_rules.proofs.Family.{nth_before}
use Rattle.elements_rules.proofs.Forests.{length_rows}
use Rattle.elements_rules.proofs.Parts.{taken_there}
use Rattle.places_rules.specs.Whose.{holder_in}
use Rattle.places_rules.specs.declared.whose.Holder.TheVariants.{Header as RowHeader, Payload as RowPayload}
use Rattle.places_rules.proofs.Spots.{holder_header, holder_payload}
use Rattle.owner_rules.specs.Owner.{Side, header, payload, Owned, in_master, owner_at}
use Rattle.owner_rules.specs.Way.{IsMaster}
use Rattle.owner_rules.specs.Theorems.{ParentsOf, below}
use Rattle.owner_rules.proofs.Steps.{in_header, in_payload, in_master_law, behind}
use Rattle.owner_rules.proofs.Headers.{either, master_or_not}
use Rattle.std.proofs.Common.{Option, Some}
use Rattle.places_rules.specs.declared.whose.Holder.{Holder}

-- ---- rows by their numbers

nth_behind : (rs ss : List Row) (k : ℕ) → nth (rs ++ ss) (length rs + k) ≡ nth ss k
unfolding nth
nth_behind [] ss k = ap (nth ss) (omega arith)
nth_behind (r ∷ rs) ss k =
    let e : suc (length rs) + k ≡ suc (length rs + k) = omega arith in
    ap (nth (r ∷ (rs ++ ss))) e ∙ nth_behind rs ss k

-- What of a row holds the address, where an owner is told by that side.
abbrev pub holder_of : Side → Option Holder
holder_of header = Some RowHeader
holder_of payload = Some RowPayload

module _ (live : Bool) (s : List ℕ) (x : ℕ) (all : List Row) where
  -- The row of an owner that was found below some masters.
  pub record RowOf (depth : ℕ) (outer : List ℕ) (o : Owned) : Type 0 where
    pub row : ℕ
    pub there : row < length all
    pub address : (nth all row).address ≡ o.address
    pub deep_is : (nth all row).depth ≡ depth + length o.masters
    pub holds : holder_in (nth all row) x ≡ holder_of o.side
    pub parents : ParentsOf all (nth all row) (outer ++ o.masters)

  -- The owner in elements that stand at a place, with its row.
  pub record OwnerIn (most depth parent at left : ℕ) (outer : List ℕ) : Type 0 where
    pub owned : Owned
    pub is : owner_at live s x most depth parent at left ≡ accepted owned
    pub row_of_law : RowOf depth outer owned

  -- Rows that stand in the table from row n on.
  abbrev Placed : ℕ → List Row → Type 0
  Placed n rs = (j : ℕ) → j < length rs → nth all (n + j) ≡ nth rs j

  -- One element among others, in its row.
  module _
      (parent prow depth at n : ℕ) (outer : List ℕ) (e : Element) (kids rest : Forest)
      (i : StandsAt live s parent at e kids) (first : nth all n ≡ row_of e prow depth at (n + 1 + count kids))
      (some : n < length all) (up : (r : Row) → r.parent ≡ prow → ParentsOf all r outer)
    where
      abbrev its_row : Row
      its_row = row_of e prow depth at (n + 1 + count kids)

      own_row : (p : Side) → holder_of p ≡ holder_in its_row x
          → RowOf depth outer (record { side = p; address = at; masters = [] })
      own_row p k = record {
        row = n;
        there = some;
        address = ap (λ (r : Row). r.address) first;
        deep_is = ap (λ (r : Row). r.depth) first ∙ (omega arith);
        holds = ap (λ (r : Row). holder_in r x) first ∙ sym k;
        parents =
            subst (ParentsOf all (nth all n)) (sym (append-nil outer))
            (up (nth all n) (ap (λ (r : Row). r.parent) first));
      }

      -- Its children have it as their parent, and what is above it above that.
      up_kids : (r : Row) → r.parent ≡ n + 1 → ParentsOf all r (outer ++ (at ∷ []))
      up_kids r k =
          subst (λ (a : ℕ). ParentsOf all r (outer ++ (a ∷ []))) (ap (λ (y : Row). y.address) first)
          (below r n outer some (k ∙ (omega arith)) (up (nth all n) (ap (λ (y : Row). y.parent) first)))

      -- The row of an owner among its children, with it as one master more.
      row_inside : (o : Owned) → RowOf (depth + 1) (outer ++ (at ∷ [])) o
          → RowOf depth outer (record { side = o.side; address = o.address; masters = at ∷ o.masters })
      row_inside o k =
          let deep = k.deep_is in
          record {
            row = k.row;
            there = k.there;
            address = k.address;
            deep_is = omega arith;
            holds = k.holds;
            parents = subst (ParentsOf all (nth all k.row)) (append_assoc outer (at ∷ []) o.masters) k.parents;
          }

      -- Its children take up a master's payload.
      kids_take : IsMaster e.header parent → span kids ≡ e.header.size
      kids_take m = i.taken (ap number_of i.kind ∙ m)

      abbrev left : ℕ
      left = whole e + span rest

      module _ (most : ℕ) (d : depth < depths) where
        fits : whole e ≤ left
        fits = omega arith

        -- The owner is the element itself, by its header or by its payload.
        by_header_law : at ≤ x → x < at + e.header.length → OwnerIn (suc most) depth parent at left outer
        by_header_law low a = record {
          owned = record { side = header; address = at; masters = [] };
          is = in_header live s x most depth parent at left e.header i.head d fits a;
          row_of_law = own_row header (holder_header its_row x low (omega arith));
        }

        module _ (a : at + e.header.length ≤ x) where
          by_payload_law : x < at + whole e → (IsMaster e.header parent → ⊥)
              → OwnerIn (suc most) depth parent at left outer
          by_payload_law b k =
              let one = (header_inside s at e.header (taken_there live s at e.header i.head)).0 in
              record {
                owned = record { side = payload; address = at; masters = [] };
                is = in_payload live s x most depth parent at left e.header i.head d fits a b k;
                row_of_law =
                    own_row payload
                    (holder_payload its_row x (omega arith) (omega arith)
                    (λ t. k (sym (ap number_of i.kind) ∙ t)) (omega arith));
              }

          -- The owner is among its children.
          by_kids : x < at + whole e → IsMaster e.header parent
              → OwnerIn most (depth + 1) e.header.id (at + e.header.length) (span kids) (outer ++ (at ∷ []))
              → OwnerIn (suc most) depth parent at left outer
          by_kids b k w =
              let h = e.header in
              let o = w.owned in
              record {
                owned = record { side = o.side; address = o.address; masters = at ∷ o.masters };
                is =
                    in_master_law live s x most depth parent at left h i.head d fits a b k
                    ∙ ap (λ (y : ℕ). in_master at (owner_at live s x most (depth + 1) h.id (at + h.length) y))
                    (sym (kids_take k))
                    ∙ ap (in_master at) w.is;
                row_of_law = row_inside o w.row_of_law;
              }

          -- The owner is behind it.
          by_rest : at + whole e ≤ x → OwnerIn most depth parent (at + whole e) (span rest) outer
              → OwnerIn (suc most) depth parent at left outer
          by_rest b w =
              let z : left - whole e ≡ span rest = omega arith in
              record {
                owned = w.owned;
                is =
                    behind live s x most depth parent at left e.header i.head d fits a b
                    ∙ ap (owner_at live s x most depth parent (at + whole e)) z
                    ∙ w.is;
                row_of_law = w.row_of_law;
              }

  -- The owner in a tree that stands.
  pub forest_owner :
      (f : Forest) (parent prow depth at n most : ℕ) (outer : List ℕ) → Stands live s parent at f
      → depth + deep f ≤ depths → span f ≤ most → at ≤ x → x < at + span f
      → Placed n (rows prow depth at n f) → n + count f ≤ length all
      → ((r : Row) → r.parent ≡ prow → ParentsOf all r outer)
      → OwnerIn most depth parent at (span f) outer
  unfolding Stands span deep count rows nth
  forest_owner none parent prow depth at n most outer i d m low high p c up = absurd (omega arith)
  forest_owner (node e kids rest) parent prow depth at n zero outer i d m low high p c up =
      let one = (header_inside s at e.header (taken_there live s at e.header i.0.head)).0 in
      absurd (omega arith)
  forest_owner (node e kids rest) parent prow depth at n (suc most) outer i d m low high p c up =
      let h = e.header in
      let q = i.0.head in
      let one = (header_inside s at h (taken_there live s at h q)).0 in
      let inner = rows (n + 1) (depth + 1) (at + h.length) (n + 1) kids in
      let others = rows prow depth (at + whole e) (n + 1 + count kids) rest in
      let inner_length = length_rows (n + 1) (depth + 1) (at + h.length) (n + 1) kids in
      let outer_length = length_rows prow depth (at + whole e) (n + 1 + count kids) rest in
      let both_length = length-append inner others in
      let z : n + 0 ≡ n = omega arith in
      let first : nth all n ≡ row_of e prow depth at (n + 1 + count kids)
      = ap (nth all) (sym z) ∙ p 0 (omega arith) in
      let some : n < length all = omega arith in
      let d' : depth < depths = omega arith in
      either x (at + h.length)
      (by_header_law parent prow depth at n outer e kids rest i.0 first some up most d' low)
      (λ a.
      either x (at + whole e)
      (λ b.
      master_or_not h parent
      (λ k.
      let size = kids_take parent prow depth at n outer e kids rest i.0 first some up k in
      by_kids parent prow depth at n outer e kids rest i.0 first some up most d' a b k
      (forest_owner kids h.id (n + 1) (depth + 1) (at + h.length) (n + 1) most (outer ++ (at ∷ [])) i.1
      (omega arith) (omega arith) a (omega arith)
      (λ j l.
      let u : n + 1 + j ≡ n + suc j = omega arith in
      ap (nth all) u ∙ p (suc j) (omega arith) ∙ nth_before inner others j l)
      (omega arith) (up_kids parent prow depth at n outer e kids rest i.0 first some up)))
      (by_payload_law parent prow depth at n outer e kids rest i.0 first some up most d' a b))
      (λ b.
      by_rest parent prow depth at n outer e kids rest i.0 first some up most d' a b
      (forest_owner rest parent prow depth (at + whole e) (n + 1 + count kids) most outer i.2
      (omega arith) (omega arith) b (omega arith)
      (λ j l.
      let u : n + 1 + count kids + j ≡ n + suc (count kids + j) = omega arith in
      let v : count kids + j ≡ length inner + j = omega arith in
      ap (nth all) u ∙ p (suc (count kids + j)) (omega arith) ∙ ap (nth (inner ++ others)) v
      ∙ nth_behind inner others j)
      (omega arith) up)))
