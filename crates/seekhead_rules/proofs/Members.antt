-- The two levels of a seek head, its children and the members of a Seek: what one of them makes, by what follows its
-- header. Assumes nothing.
use Prim.Native.Nat.{ℕ, ◌+◌}
use mathlib.Core.Path.{◌≡◌, refl, ap, ◌∙◌}
use mathlib.Core.List.{List, [], ◌∷◌, ◌++◌, append_assoc}
use mathlib.Core.Bool.{Bool}
use native.Mathlib.Nat.{add-zero}
use native.Mathlib.Omega.{arith}
use borrow.Author.Tests.{ne_eqb}
use Rattle.header.specs.declared.cursor.Header.{Header}
use Rattle.refusals.specs.declared.refusal.Refusal.{Refusal}
use Rattle.kinds.specs.Elements.{elements}
use Rattle.kinds.specs.Kinds.{number_of, kind_in, member, keeps, kind_under}
use Rattle.bodies_rules.specs.Bodies.{Told, body, body_of}
use Rattle.bodies_rules.specs.declared.body.Body.{Body}
use Rattle.elements_rules.specs.Forest.{Forest, none, node, whole, span, join}
use Rattle.elements_rules.specs.Reading.{element_header_read, above, element_of}
use Rattle.elements_rules.proofs.Parts.{step_read}
use Rattle.seekhead_rules.specs.Seeks.{segment_id, seek_head_id, seek_id, seek_body, noted, no_seek, with_members}
use Rattle.seekhead_rules.specs.Seeks.{entry_of, entries}
use Rattle.seekhead_rules.specs.Table.{latest_from}
use Rattle.seekhead_rules.specs.Contract.{element_at, Holds, one_told, seek_told, inserted}
use Rattle.seekhead_rules.specs.Contract.{with_entries, entries_more, Gathers}
use Rattle.header.specs.declared.cursor.Headed.{Headed}
use Rattle.seekhead_rules.specs.declared.seek.Seek.{Seek}
use Rattle.seekhead_rules.specs.declared.head.Wanted.{Wanted}
use Rattle.seekhead_rules.specs.declared.head.Seektable.{Seektable}
use Rattle.seekhead_rules.specs.declared.head.Entries.{Entries}
use Rattle.header.proofs.Inside.{header_there}
use Rattle.seekhead_rules.proofs.PositionLaws.{latest_append, positions_append, positions_none}
use Rattle.seekhead_rules.proofs.Levels.{Level, Lawful, told_read, told_stopped}
use Rattle.seekhead_rules.proofs.Skims.{by_elements}
use Rattle.std.proofs.Common.{Result, Ok, Err}

-- ---- what comes after what was gathered

members_join : (s : List ℕ) (at : ℕ) (f g : Forest) (seek : Seek)
    → with_members s at (join f g) seek ≡ with_members s (at + span f) g (with_members s at f seek)
unfolding join span with_members
members_join s at none g seek = rw (add-zero at)
members_join s at (node e kids rest) g seek =
    let a : at + whole e + span rest ≡ at + (whole e + span rest) = omega arith in
    rw (← a) (members_join s (at + whole e) rest g _)

entries_join : (s : List ℕ) (at : ℕ) (f g : Forest)
    → entries s at (join f g) ≡ entries s at f ++ entries s (at + span f) g
unfolding join span entries
entries_join s at none g = rw (add-zero at)
entries_join s at (node e kids rest) g =
    let a : at + whole e + span rest ≡ at + (whole e + span rest) = omega arith in
    rw (entries_join s (at + whole e) rest g, a) (simp append_assoc)

-- ---- the two levels

abbrev pub members : List ℕ → Level
members s = record {
  A = Seek;
  R = (Result Seek Refusal);
  read = Ok;
  stop = Err;
  depth = 1;
  parent = seek_id;
  make = with_members s;
}

pub members_law : (s : List ℕ) → Lawful (members s)
unfolding with_members
members_law s = record {
  one = λ a b q. (cc);
  other = λ a e q. let z : ◌≡◌ {A = ℕ} 0 1 = cc in omega arith;
  cause = λ e e' q. (cc);
  shallow = omega arith;
  nothing = λ at seek. refl;
  further = members_join s;
}

abbrev pub children : List ℕ → Wanted → Level
children s wanted = record {
  A = Seektable;
  R = (Result Seektable Refusal);
  read = Ok;
  stop = Err;
  depth = 0;
  parent = segment_id;
  make = with_entries s wanted;
}

pub children_law : (s : List ℕ) (wanted : Wanted) → Lawful (children s wanted)
unfolding with_entries entries latest_from
children_law s wanted = record {
  one = λ a b q. (cc);
  other = λ a e q. let z : ◌≡◌ {A = ℕ} 0 1 = cc in omega arith;
  cause = λ e e' q. (cc);
  shallow = omega arith;
  nothing = λ at table. rw (positions_none wanted table.parts) refl;
  further = λ at f g table.
      rw (entries_join s at f g, positions_append wanted table.parts, latest_append seek_head_id table.head) refl;
}

-- ---- what is gathered

abbrev pub level :
    {A : Type 0} → (depth parent : ℕ) → (List ℕ → ℕ → Forest → A → A) → List ℕ → Level
level {A} depth parent make s =
    record { A = A; R = (Result A Refusal); read = Ok; stop = Err; depth = depth; parent = parent; make = make s }

pub level_law :
    {A : Type 0} (depth parent : ℕ) (make : List ℕ → ℕ → Forest → A → A) → Gathers depth make
    → (s : List ℕ) → Lawful (level depth parent make s)
level_law depth parent make g s = record {
  one = λ a b q. (cc);
  other = λ a e q. let z : ◌≡◌ {A = ℕ} 0 1 = cc in omega arith;
  cause = λ e e' q. (cc);
  shallow = g.shallow;
  nothing = g.nothing s;
  further = g.further s;
}

pub members_gather : Gathers 1 with_members
members_gather = record {
  shallow = omega arith;
  nothing = λ s. (members_law s).nothing;
  further = λ s. (members_law s).further;
}

pub entries_gather : Gathers 0 entries_more
entries_gather = record {
  shallow = omega arith;
  nothing = λ s at e. ap (λ x. record { wanted = e.wanted; table = x }) ((children_law s e.wanted).nothing at e.table);
  further = λ s at f g e.
      ap (λ x. record { wanted = e.wanted; table = x }) ((children_law s e.wanted).further at f g e.table);
}

-- ---- a member of a Seek

pub member_more : (live : Bool) (s : List ℕ) (seek : Seek) (e : Headed)
    → element_header_read live s e.place.at ≡ Ok e
    → (b : Body) → Holds live s 1 seek_id e b → (r : Seek) → r ≡ noted s e (body b) seek
    → Ok r ≡ one_told 1 seek_id with_members live s seek e
unfolding with_members
member_more live s seek e q b x r w =
    let t = header_there s e.place.at e (step_read live s e.place.at e q).1 in
    rw x.holds (ap Ok (w ∙ ap (λ (y : Told). noted s e y seek) x.is
    ∙ ap (λ (y : Headed).
    noted s y (body_of s y.payload.at e.header.size (kind_under e.header.id seek_id)) seek) t.is))

-- ---- a child of a head

-- A Seek is a master wherever it stands in a head.
seek_is_master : (h : Header) → h.id ≡ seek_id → number_of (kind_under h.id segment_id) ≡ 1
unfolding kind_under member keeps kind_in elements
seek_is_master h q = rw q refl

module _ (live : Bool) (s : List ℕ) (old : Entries) (e : Headed) where
  -- What is no Seek adds nothing.
  pub other_more : (e.header.id ≡ seek_id → ⊥) → (b : Body) → Holds live s 0 segment_id e b
      → Ok old ≡ one_told 0 segment_id entries_more live s old e
  unfolding with_entries entries entry_of latest_from
  other_more o b x =
      rw (x.holds, ne_eqb e.header.id seek_id o, positions_none old.wanted old.table.parts) refl

  module _ (there : element_header_read live s e.place.at ≡ Ok e) (q : e.header.id ≡ seek_id) where
    -- A Seek is its members.
    by_members : element_at live s 0 segment_id e.place.at
        ≡ above (element_of segment_id e.header) (seek_body live s e)
    by_members =
        by_elements live s 0 segment_id e there (omega arith) (seek_is_master e.header q) ∙ rw q refl

    pub seek_refusal : (x : Refusal) → Err x ≡ seek_told live s e
        → Err x ≡ one_told 0 segment_id entries_more live s old e
    seek_refusal x w = rw (by_members, told_stopped live s (members s) (members_law s) _ x (seek_body live s e) w) refl

    its_entry : (f : Forest)
        → with_members s e.payload.at f no_seek ∷ []
        ≡ entries s e.place.at (node (element_of segment_id e.header) f none)
    unfolding entries entry_of
    its_entry f = rw (q, (header_there s e.place.at e (step_read live s e.place.at e there).1).behind) refl

    pub seek_more : (x : Seek) → Ok x ≡ seek_told live s e
        → (r : Seektable) → r ≡ inserted old.wanted old.table (x ∷ [])
        → Ok (record { wanted = old.wanted; table = r }) ≡ one_told 0 segment_id entries_more live s old e
    unfolding with_entries
    seek_more x w r i =
        let (f, k, y) = told_read live s (members s) (members_law s) _ x (seek_body live s e) w in
        rw (by_members, k) (ap (λ (r : Seektable). Ok (record { wanted = old.wanted; table = r }))
        (i ∙ ap (λ (v : Seek). inserted old.wanted old.table (v ∷ [])) y
        ∙ ap (inserted old.wanted old.table) (its_entry f)))
