-- What follows a header: a leaf's body, or a master's elements. Assumes nothing.
use Prim.Native.Nat.{ℕ, ◌+◌, ◌<◌}
use mathlib.Core.Path.{◌≡◌, refl, sym, ap, ◌∙◌}
use mathlib.Core.List.{List}
use mathlib.Core.Bool.{Bool}
use native.Mathlib.Omega.{arith}
use Rattle.booleans.proofs.Pairs.{ok_halves}
use Rattle.header.specs.declared.cursor.Cursor.{Cursor}
use Rattle.refusals.specs.Refusals.{because}
use Rattle.refusals.specs.declared.refusal.Cause.{Cause}
use Rattle.refusals.specs.declared.refusal.Refusal.{Refusal}
use Rattle.kinds.specs.Kinds.{number_of, kind_under}
use Rattle.kinds.specs.declared.kind.Kind.{Kind}
use Rattle.bodies_rules.specs.Bodies.{Told, body, master, body_of}
use Rattle.bodies_rules.specs.Bodies.{refused as refused_body}
use Rattle.bodies_rules.specs.Reads.{read_of, body_read}
use Rattle.bodies_rules.specs.declared.body.Body.{Body}
use Rattle.bodies_rules.specs.declared.body.Body.TheVariants.{Value, Master}
use Rattle.elements_rules.specs.Forest.{none}
use Rattle.elements_rules.specs.Reading.{Outcome, refused, element_header_read, above, held, full, element_of, depths}
use Rattle.elements_rules.specs.Contract.{step_of}
use Rattle.elements_rules.proofs.Parts.{step_read}
use Rattle.elements_rules.proofs.Bodies.{master_body_law, held_refused, leaf_read}
use Rattle.elements_rules.proofs.Standing.{stands_inside, body_stands}
use Rattle.elements_rules.proofs.Reading.{el_body, told_read, told_refused}
use Rattle.seekhead_rules.specs.Seeks.{without_rows, skimmed}
use Rattle.seekhead_rules.specs.Contract.{element_at, Skimmed}
use Rattle.header.specs.declared.cursor.Headed.{Headed}
use Rattle.header.proofs.Inside.{header_there}
use Rattle.seekhead_rules.proofs.Uncounted.{body_uncounted}
use Rattle.std.proofs.Common.{Ok, Err}

-- A body that was read is that of the definition.
read_body : (at n : ℕ) (t : Told) (b : Body) (next : Cursor) → read_of at n t ≡ Ok (b, next) → body b ≡ t
read_body at n (body (Value v)) b next q = ap body (sym (ok_halves q).0)
read_body at n (body Master) b next q = ap body (sym (ok_halves q).0)
read_body at n (refused_body c) b next q = let x : ◌≡◌ {A = ℕ} 0 1 = cc in absurd (omega arith)

other_answer : {A : Type 0} {e : Refusal} {b : Body} → Err e ≡ Ok b → A
other_answer q = let z : ◌≡◌ {A = ℕ} 0 1 = cc in let z' : ⊥ = omega arith in absurd z'

module _ (live : Bool) (s : List ℕ) (depth parent : ℕ) (e : Headed)
    (there : element_header_read live s e.place.at ≡ Ok e) (d : depth < depths) where
  -- The elements of a master, and what the element is therefore.
  abbrev below : Outcome
  below = skimmed live s (depth + 1) e.header.id e

  abbrev kind : Kind
  kind = kind_under e.header.id parent

  by_body : element_at live s depth parent e.place.at
      ≡ above (element_of parent e.header)
      (held e.place.at (body_of s e.payload.at e.header.size kind) below)
  unfolding full
  by_body =
      let t = header_there s e.place.at e (step_read live s e.place.at e there).1 in
      let h = e.header in
      el_body s (without_rows live) 0 depth parent e.place.at 0 e there d refl
      ∙ rw (t.behind, body_uncounted live s 0 (depth + 1) h.id (e.place.at + h.length) h.size (0 + 1))

  pub skim_leaf_refused : (c : Cause) → Err c ≡ body_read kind s e.payload.at e.header.size
      → Skimmed live s depth parent e (Err (because c e.place.at))
  skim_leaf_refused c q = record {
    refusal = λ x w.
        let z : because c e.place.at ≡ x = cc in
        by_body ∙ ap (above (element_of parent e.header))
        (held_refused s e.payload.at e.header.size e.place.at kind c below (sym q) ∙ ap refused z);
    body = λ b w. other_answer w;
  }

  pub skim_leaf : (b : Body) (next : Cursor) → (number_of kind ≡ 1 → ⊥)
      → Ok (b, next) ≡ body_read kind s e.payload.at e.header.size → Skimmed live s depth parent e (Ok b)
  unfolding body_read
  skim_leaf b next m q =
      let l = leaf_read s e.payload.at e.header.size e.place.at kind below b next m (sym q) in
      record {
        refusal = λ x w. other_answer (sym w);
        body = λ b' w.
            let y : b ≡ b' = cc in
            record {
              kids = none;
              holds = by_body ∙ ap (above (element_of parent e.header)) l.holds;
              is = ap body (sym y) ∙ read_body e.payload.at e.header.size _ b next (sym q);
              inside = l.inside;
            };
      }

  module _ (m : number_of kind ≡ 1) where
    is_master : body_of s e.payload.at e.header.size kind ≡ master
    is_master = master_body_law s e.payload.at e.header.size kind m

    -- A master by the elements below it.
    pub by_elements : element_at live s depth parent e.place.at ≡ above (element_of parent e.header) below
    by_elements = by_body ∙ rw is_master

    pub skim_refused : (x : Refusal) → Err x ≡ step_of e.payload.at 0 below
        → Skimmed live s depth parent e (Err x)
    skim_refused x q = record {
      refusal = λ y w.
          let z : x ≡ y = cc in
          by_elements ∙ ap (above (element_of parent e.header))
          (told_refused e.payload.at 0 below x q ∙ ap refused z);
      body = λ b w. other_answer w;
    }

    pub skim_master : (n : ℕ) (next : Cursor) → Ok (n, next) ≡ step_of e.payload.at 0 below
        → Skimmed live s depth parent e (Ok Master)
    skim_master n next q =
        let (f, k, c, a) = told_read e.payload.at 0 below n next q in
        let i = (header_there s e.place.at e (step_read live s e.place.at e there).1).inside in
        let (l, st) = body_stands s (without_rows live) 0 (depth + 1) e.header.id e.payload.at e.header.size
        0 f i
        k in
        let x = stands_inside live s e.header.id e.payload.at f st in
        record {
          refusal = λ y w. other_answer (sym w);
          body = λ b w.
              let y : Master ≡ b = cc in
              record {
                kids = f;
                holds = by_elements ∙ ap (above (element_of parent e.header)) k;
                is = sym (ap body y) ∙ sym is_master;
                inside = omega arith;
              };
        }
