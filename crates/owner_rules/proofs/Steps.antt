-- The question at one header: what each test leads to. Assumes nothing.
use Prim.Native.Nat.{ℕ, suc, ◌+◌, ◌-◌, ◌≤◌, ◌<◌}
use mathlib.Core.Path.{◌≡◌}
use mathlib.Core.List.{List}
use mathlib.Core.Bool.{Bool}
use borrow.Author.Tests.{lt-ltb, le-ltb, le-leb, lt-leb, eq-eqb, ne_eqb}
use Rattle.refusals.specs.Refusals.{because, overrun, too_deep}
use Rattle.refusals.specs.Reply.{Reply, refusal}
use Rattle.refusals.specs.declared.refusal.Cause.{Cause}
use Rattle.header.specs.Header.{heading}
use Rattle.header.specs.Header.{refused as refused_header}
use Rattle.header.specs.declared.cursor.Header.{Header}
use Rattle.kinds.specs.Kinds.{number_of, kind_under}
use Rattle.elements_rules.specs.Reading.{element_header, depths}
use Rattle.owner_rules.specs.Owner.{Owned, header, payload, in_master, whole_of, own, owner_at}
use Rattle.owner_rules.specs.Way.{IsMaster}

module _ (live : Bool) (s : List ℕ) (x most depth parent at left : ℕ) where
  abbrev pub Here : Reply Owned → Type 0
  Here r = owner_at live s x (suc most) depth parent at left ≡ r

  pub no_header_law : (c : Cause) → element_header live s at ≡ refused_header c → Here (refusal (because c at))
  unfolding owner_at
  no_header_law c q = rw q

  module _ (h : Header) (q : element_header live s at ≡ heading h) where
    pub too_deep_law : depths ≤ depth → Here (refusal (too_deep at))
    unfolding owner_at
    too_deep_law d = rw (q, le-leb depths depth d)

    module _ (d : depth < depths) where
      pub too_large : left < whole_of h → Here (refusal (overrun at))
      unfolding owner_at
      too_large l = rw (q, lt-leb depths depth d, lt-ltb left (whole_of h) l)

      module _ (l : whole_of h ≤ left) where
        pub in_header : x < at + h.length → Here (own header at)
        unfolding owner_at
        in_header a = rw (q, lt-leb depths depth d, le-ltb left (whole_of h) l, lt-ltb x (at + h.length) a)

        module _ (a : at + h.length ≤ x) where
          pub in_payload : x < at + whole_of h → (IsMaster h parent → ⊥) → Here (own payload at)
          unfolding owner_at
          in_payload b k =
              rw (
                q,
                lt-leb depths depth d,
                le-ltb left (whole_of h) l,
                le-ltb x (at + h.length) a,
                lt-ltb x (at + whole_of h) b,
                ne_eqb (number_of (kind_under h.id parent)) 1 k,
              )

          pub in_master_law : x < at + whole_of h → IsMaster h parent
              → Here (in_master at (owner_at live s x most (depth + 1) h.id (at + h.length) h.size))
          unfolding owner_at
          in_master_law b k =
              rw (
                q,
                lt-leb depths depth d,
                le-ltb left (whole_of h) l,
                le-ltb x (at + h.length) a,
                lt-ltb x (at + whole_of h) b,
                eq-eqb (number_of (kind_under h.id parent)) 1 k,
              )

          pub behind : at + whole_of h ≤ x
              → Here (owner_at live s x most depth parent (at + whole_of h) (left - whole_of h))
          unfolding owner_at
          behind b =
              rw (
                q,
                lt-leb depths depth d,
                le-ltb left (whole_of h) l,
                le-ltb x (at + h.length) a,
                le-ltb x (at + whole_of h) b,
              )
