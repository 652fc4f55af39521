-- The walk of the code: what it has yet to find, and the chain that it has kept. Assumes nothing.
use Prim.Native.Nat.{ℕ, zero, suc, ◌+◌, ◌-◌, ◌≤◌, ◌<◌}
use mathlib.Core.Path.{◌≡◌, refl, sym, ap, ◌∙◌}
use mathlib.Core.List.{List, [], ◌∷◌, ◌++◌, append-nil, append_assoc}
use mathlib.Core.Bool.{Bool, true, false, ◌&&◌}
use native.Mathlib.Omega.{arith}
use lib.ListN.{length, take, length-append}
use lib.Dec.{leb, ltb}
use borrow.Author.Tests.{leb-true, ltb-true}
use Rattle.refusals.specs.Reply.{Reply, accepted, refusal}
use Rattle.refusals.specs.declared.refusal.Refusal.{Refusal}
use Rattle.header.proofs.Inside.{header_inside}
use Rattle.header.specs.Header.{heading}
use Rattle.header.specs.declared.cursor.Header.{Header}
use Rattle.elements_rules.specs.Reading.{element_header, depths}
use Rattle.elements_rules.specs.Holds.{within}
use Rattle.elements_rules.specs.Promise.{zeros}
use Rattle.elements_rules.proofs.Parts.{taken_there}
use Rattle.owner_rules.specs.Owner.{Side, Owned, in_master, whole_of, own, owner_at}
use Rattle.owner_rules.specs.Promise.{owner_is, owner_reply, links_of}
use Rattle.owner_rules.specs.Way.{IsMaster}
use Rattle.owner_rules.specs.Contract.{linked, WalkMet}
use Rattle.owner_rules.proofs.Steps.{in_master_law, behind}
use Rattle.owner_rules.proofs.Links.{take_zeros, length_linked, link_more}
use Rattle.std.proofs.Common.{Err}

-- What was found in masters, the outermost first.
abbrev pub around : List ℕ → Reply Owned → Reply Owned
around ms (accepted o) = accepted (record { side = o.side; address = o.address; masters = ms ++ o.masters })
around ms (refusal e) = refusal e

around_none : (r : Reply Owned) → r ≡ around [] r
around_none (accepted o) = refl
around_none (refusal e) = refl

around_more : (ms : List ℕ) (at : ℕ) (r : Reply Owned) → around ms (in_master at r) ≡ around (ms ++ (at ∷ [])) r
around_more ms at (accepted o) =
    ap (λ (ns : List ℕ). accepted (record { side = o.side; address = o.address; masters = ns }))
    (sym (append_assoc ms (at ∷ []) o.masters))
around_more ms at (refusal e) = refl

-- At a place, in so many masters: the answer is what is found from there on, in these; the address lies there, and the
-- slice, as long as the one that was lent, holds the chain so far.
pub record Walking
    (live : Bool) (s : List ℕ) (start size parent x : ℕ) (t chain : List ℕ) (at left above depth : ℕ) : Type 0 where
  pub masters : List ℕ
  pub most : ℕ
  pub goal : owner_at live s x size 0 parent start size ≡ around masters (owner_at live s x most depth above at left)
  pub enough : left ≤ most
  pub low : at ≤ x
  pub high : x < at + left
  pub deep : length masters ≡ depth
  pub few : depth ≤ depths
  pub as_long : length chain ≡ length t
  pub kept : chain ≡ take (length t) (masters ++ zeros (length t))

-- An address that is one of so many.
pub inside : (start size x : ℕ) → within start size x ≡ true → (start ≤ x) × (x < start + size)
inside start size x w = go (leb start x) refl (ltb x (start + size)) refl w
  where
    go : (a : Bool) → leb start x ≡ a → (b : Bool) → ltb x (start + size) ≡ b → (a && b) ≡ true
        → (start ≤ x) × (x < start + size)
    go true p true q e = (leb-true start x p, ltb-true x (start + size) q)
    go true p false q e = let z : ◌≡◌ {A = ℕ} 0 1 = cc in absurd (omega arith)
    go false p b q e = let z : ◌≡◌ {A = ℕ} 0 1 = cc in absurd (omega arith)

module _ (live : Bool) (s : List ℕ) (start size parent x : ℕ) (t : List ℕ) where
  pub walk_begins : within start size x ≡ true → t ≡ zeros (length t)
      → Walking live s start size parent x t t start size parent 0
  walk_begins w z =
      let i = inside start size x w in
      record {
        masters = [];
        most = size;
        goal = around_none (owner_at live s x size 0 parent start size);
        enough = omega arith;
        low = i.0;
        high = i.1;
        deep = refl;
        few = omega arith;
        as_long = refl;
        kept = z ∙ sym (take_zeros (length t) (length t) (omega arith));
      }

  module _ (c : List ℕ) (at left above depth : ℕ) (w : Walking live s start size parent x t c at left above depth) where
    -- What is found at the place, whatever bound is left.
    abbrev pub Finds : Reply Owned → Type 0
    Finds r = (most : ℕ) → owner_at live s x (suc most) depth above at left ≡ r

    -- The bound is not used up: an element is looked at, and so many are left.
    bound : {R : ℕ → Reply Owned} → ((m : ℕ) → owner_at live s x (suc m) depth above at left ≡ R m)
        → (m : ℕ) × (left ≤ suc m) × (owner_at live s x size 0 parent start size ≡ around w.masters (R m))
    bound {R} f = go w.most refl
      where
        go : (n : ℕ) → w.most ≡ n
            → (m : ℕ) × (left ≤ suc m) × (owner_at live s x size 0 parent start size ≡ around w.masters (R m))
        go zero e = let l = w.enough in let h = w.high in let k = w.low in absurd (omega arith)
        go (suc m) e = (
          m,
          (let l = w.enough in omega arith),
          w.goal ∙ ap (λ (n : ℕ). around w.masters (owner_at live s x n depth above at left)) e
              ∙ ap (around w.masters) (f m),
        )

    finds : (r : Reply Owned) → Finds r → owner_at live s x size 0 parent start size ≡ around w.masters r
    finds r f = (bound {R = λ m. r} f).2

    -- The slice with the element's own link.
    kept_chain : (c' : List ℕ) → c' ≡ linked c depth at
        → c' ≡ take (length t) ((w.masters ++ (at ∷ [])) ++ zeros (length t))
    kept_chain c' q =
        let l = take (length t) (w.masters ++ zeros (length t)) in
        q ∙ ap (λ (u : List ℕ). linked u depth at) w.kept
        ∙ ap (λ (k : ℕ). linked l k at) (sym w.deep)
        ∙ link_more (length t) w.masters at

    kept_link : (p : Side) (c' : List ℕ) → c' ≡ linked c depth at
        → c' ≡ links_of (length t) (accepted (record { side = p; address = at; masters = w.masters }))
    unfolding links_of
    kept_link p c' q = kept_chain c' q

    pub walk_refused : (e : Refusal) (c' : List ℕ) → Finds (refusal e)
        → WalkMet live s start size parent x t (Err e) c'
    walk_refused e c' f =
        let g = finds (refusal e) f in
        record {
          reply = sym (ap owner_reply g);
          links = λ o q. let z : ◌≡◌ {A = ℕ} 0 1 = cc in absurd (omega arith);
        }

    pub walk_ends : (p : Side) (c' : List ℕ) → c' ≡ linked c depth at → Finds (own p at)
        → WalkMet live s start size parent x t (owner_is p at depth) c'
    walk_ends p c' q f =
        let ms = w.masters in
        let g : owner_at live s x size 0 parent start size ≡ accepted (record { side = p; address = at; masters = ms })
        = finds (own p at) f
        ∙ ap (λ (ns : List ℕ). accepted (record { side = p; address = at; masters = ns })) (append-nil ms) in
        record {
          reply = ap (owner_is p at) (sym w.deep) ∙ sym (ap owner_reply g);
          links = λ o e. kept_link p c' q ∙ ap (links_of (length t)) (sym g ∙ e);
        }

    -- A master whose payload holds the address is gone into, and kept.
    pub walk_into : (h : Header) (c' : List ℕ) → element_header live s at ≡ heading h → depth < depths → whole_of h ≤ left
        → at + h.length ≤ x → x < at + whole_of h → IsMaster h above → c' ≡ linked c depth at
        → Walking live s start size parent x t c' (at + h.length) h.size h.id (depth + 1)
    walk_into h c' q d l a b k e =
        let ms = w.masters in
        let len = length-append ms (at ∷ []) in
        let deep = w.deep in
        let (m, enough, goal) = bound (λ m. in_master_law live s x m depth above at left h q d l a b k) in
        let one = (header_inside s at h (taken_there live s at h q)).0 in
        record {
          masters = ms ++ (at ∷ []);
          most = m;
          goal = goal ∙ around_more ms at (owner_at live s x m (depth + 1) h.id (at + h.length) h.size);
          enough = omega arith;
          low = a;
          high = omega arith;
          deep = omega arith;
          few = omega arith;
          as_long = ap length e ∙ length_linked c depth at ∙ w.as_long;
          kept = kept_chain c' e;
        }

    -- An element that ends at the address or before it is skipped.
    pub walk_past : (h : Header) → element_header live s at ≡ heading h → depth < depths → whole_of h ≤ left
        → at + whole_of h ≤ x
        → Walking live s start size parent x t c (at + whole_of h) (left - whole_of h) above depth
    walk_past h q d l b =
        let (m, enough, goal) = bound (λ m. behind live s x m depth above at left h q d l (omega arith) b) in
        let one = (header_inside s at h (taken_there live s at h q)).0 in
        let high = w.high in
        record {
          masters = w.masters;
          most = m;
          goal = goal;
          enough = omega arith;
          low = b;
          high = omega arith;
          deep = w.deep;
          few = w.few;
          as_long = w.as_long;
          kept = w.kept;
        }
