-- What `open` comes to from one part that it reads to the next, over plain values. Assumes nothing.
use Rattle.booleans.proofs.Pairs.{ok_halves}
use Prim.Native.Nat.{ℕ, ◌-◌, ◌≤◌, ◌<◌}
use mathlib.Core.Path.{◌≡◌, refl, sym, ap, ◌∙◌}
use mathlib.Core.List.{List, [], ◌∷◌}
use mathlib.Core.Bool.{Bool, false}
use native.Mathlib.Omega.{arith}
use lib.ListN.{length, get_or, take, drop}
use Rattle.std.proofs.lemmas.List.{take_all}
use denote.Bor.{Bor}
use lib.Dec.{eqb}
use Rattle.refusals.specs.declared.refusal.Refusal.{Refusal}
use Rattle.header.specs.declared.cursor.Headed.{Headed}
use Rattle.elements_rules.specs.Forest.{count}
use Rattle.elements_rules.specs.Reading.{Outcome, done}
use Rattle.elements_rules.specs.Reading.{refused as unread}
use Rattle.walks_rules.specs.Contract.{Readable}
use Rattle.walks_rules.specs.Walk.{ends, over, on_passed, Walk}
use Rattle.walks_rules.specs.declared.step.Stretch.{Stretch}
use Rattle.seekhead_rules.specs.Seeks.{seek_head_id}
use Rattle.seekhead_rules.specs.Table.{positions, latest, positions_from}
use Rattle.seekhead_rules.specs.declared.seek.Seek.{Seek}
use Rattle.seekhead_rules.specs.declared.head.Positions.{Positions}
use Rattle.seekchain_rules.specs.Answers.{on_outcome}
use Rattle.seekchain_rules.specs.Heads.{Heads, Chain, chained, broken, last_head, linked_heads}
use Rattle.seekchain_rules.specs.Lookup.{Lookup, part_at}
use Rattle.seekchain_rules.specs.Lookup.{found as found_at, absent as absent_at, stopped as stopped_at}
use Rattle.seekchain_rules.specs.Contract.{heads_told, place_told, PartMet}
use Rattle.seekchain_rules.specs.declared.heads.HeadsRead.{HeadsRead}
use Rattle.segments_rules.specs.Segment.{stretch_of, past_child, aims_at, met_from}
use Rattle.segments_rules.specs.Contract.{PastIn}
use Rattle.segments_rules.specs.declared.walk.Aim.TheVariants.{Every}
use Rattle.segments_rules.specs.declared.walk.Met.TheVariants.{Head, Part as PartIs}
use Rattle.segments_rules.proofs.Meetings.{visited, first_met, after, head_met, part_met, less, passed}
use Rattle.open_rules.specs.Parts.{id_of, which_of, order, placed, found_part}
use Rattle.open_rules.specs.Tables.{Sizes, part_read}
use Rattle.open_rules.specs.Opening.{Opening, read, refused, sought_from, by_heads_all, visit, opening}
use Rattle.open_rules.specs.Opening.{taken, on_lookup, on_chain, children_from}
use Rattle.open_rules.specs.Contract.{every, link_of, Tells, left_of, StandsSought, Stands, ReadsNext, Turns}
use Rattle.open_rules.specs.Contract.{TurnsSought, TurnsHead, TurnsMet, TurnsFrom}
use Rattle.open_rules.specs.declared.parts.Which.{Which}
use Rattle.open_rules.specs.declared.parts.Which.TheVariants.{Info, Tracks, Attachments, Chapters, Tags}
use Rattle.open_rules.specs.declared.parts.Parts.{Parts}
use Rattle.open_rules.specs.declared.turns.Seeking.{Seeking}
use Rattle.open_rules.specs.declared.turns.Stage.{Stage}
use Rattle.open_rules.specs.declared.turns.Stage.TheVariants.{From, Behind, Sought}
use Rattle.open_rules.specs.declared.turns.Turn.{Turn}
use Rattle.open_rules.specs.declared.turns.Turn.TheVariants.{Read, Over}
use Rattle.std.proofs.Common.{Result, Option, Ok, Err, Some, None}
use Rattle.segments_rules.specs.declared.walk.Met.{Met}

-- A refusal is no reading.
pub never : {A : Type 0} {e : Refusal} {ps : Parts} {heads : List ℕ} → refused e ≡ read ps heads → A
never q = let z : ◌≡◌ {A = ℕ} 0 1 = cc in let z' : ⊥ = omega arith in absurd z'

-- A turn with less left.
pub turns_more : (live : Bool) (s : List ℕ) (n : Sizes) (ps : Parts) (o : Opening) (most more : ℕ) → most ≤ more
    → (t : Result Turn Refusal) → Turns live s n ps o most t → Turns live s n ps o more t
turns_more live s n ps o most more l (Ok (Read which e next)) t = record {
  fails = t.fails;
  goes = t.goes;
  fewer = let k = t.fewer in omega arith;
  ready = t.ready;
}
turns_more live s n ps o most more l (Ok (Over heads)) t = t
turns_more live s n ps o most more l (Err e) t = t

-- ---- after the heads

-- The latest position of a part among those of all five.
link_latest : (which : Which) (seeks : List Seek) → link_of (positions every seeks) which ≡ latest (id_of which) seeks
unfolding positions_from
link_latest Info seeks = refl
link_latest Tracks seeks = refl
link_latest Attachments seeks = refl
link_latest Chapters seeks = refl
link_latest Tags seeks = refl

-- The next part in turn is sought, at the latest position of its id.
module _ (live : Bool) (s : List ℕ) (n : Sizes) (seeking : Seeking) (ps : Parts) (o : Opening) (which : Which)
    (more : List Which) (heads : Heads) (t : Tells seeking heads)
    (q : o ≡ sought_from live s n seeking.start heads (which ∷ more) ps) (r : Result (Option Headed × ℕ) Refusal)
    (m : PartMet live s (id_of which) seeking.start seeking.heads seeking.last (link_of seeking.links which) r) where
  abbrev place : Lookup
  place = part_at live s (id_of which) seeking.start heads.addresses (latest (id_of which) heads.entries)

  abbrev rest : Parts → Opening
  rest qs = sought_from live s n seeking.start heads more qs

  -- Where it is.
  sought_place : r ≡ place_told place
  sought_place =
      m heads.addresses t.counted t.last
      ∙ rw (ap (λ (p : Positions). link_of p which) t.links ∙ link_latest which heads.entries) refl

  as_sought : o ≡ on_lookup live s n place (λ e. taken live s n which e ps refused rest) (rest ps)
  unfolding sought_from
  as_sought = q

  pub sought_stopped : (e : Refusal) → r ≡ Err e → o ≡ refused e
  sought_stopped e k = as_sought ∙ by place (sym k ∙ sought_place)
    where
      by : (p : Lookup) → Err e ≡ place_told p
          → on_lookup live s n p (λ e. taken live s n which e ps refused rest) (rest ps) ≡ refused e
      by (found_at a b) h = let z : ◌≡◌ {A = ℕ} 0 1 = cc in absurd (omega arith)
      by (absent_at b) h = let z : ◌≡◌ {A = ℕ} 0 1 = cc in absurd (omega arith)
      by (stopped_at e') h = cc

  pub sought_absent : (k : ℕ) → r ≡ Ok (None, k) → o ≡ rest ps
  sought_absent k h = as_sought ∙ by place (sym h ∙ sought_place)
    where
      by : (p : Lookup) → Ok (None, k) ≡ place_told p
          → on_lookup live s n p (λ e. taken live s n which e ps refused rest) (rest ps) ≡ rest ps
      by (found_at a b) h =
          let g = (ok_halves h).0 in let z : ◌≡◌ {A = ℕ} 0 1 = cc in absurd (omega arith)
      by (absent_at b) h = refl
      by (stopped_at e') h = let z : ◌≡◌ {A = ℕ} 0 1 = cc in absurd (omega arith)

  pub sought_found : (e : Headed) (k : ℕ) → r ≡ Ok (Some e, k) → (left : Bor (List Which)) → left.now ≡ more
      → (most : ℕ) → length more < most → ReadsNext live s n ps o most which e (Sought seeking left)
  sought_found e k h left l most fewer = record {
    fails = λ r p. found ∙ rw p refl;
    goes = λ f p. (heads, t, rw l (found ∙ rw p refl));
    fewer = rw l fewer;
    ready = tt;
  }
    where
      by : (p : Lookup) → Ok (Some e, k) ≡ place_told p
          → on_lookup live s n p (λ e. taken live s n which e ps refused rest) (rest ps)
          ≡ taken live s n which e ps refused rest
      by (found_at a b) h =
          let g = (ok_halves h).0 in
          let c : e ≡ a = cc in
          ap (λ (x : Headed). taken live s n which x ps refused rest) (sym c)
      by (absent_at b) h =
          let g = (ok_halves h).0 in let z : ◌≡◌ {A = ℕ} 0 1 = cc in absurd (omega arith)
      by (stopped_at e') h = let z : ◌≡◌ {A = ℕ} 0 1 = cc in absurd (omega arith)

      found : o ≡ taken live s n which e ps refused rest
      found = as_sought ∙ by place (sym h ∙ sought_place)

-- ---- from the first head on

module _ (live : Bool) (s : List ℕ) (n : Sizes) (start : ℕ) (first : Headed) (ps : Parts) (o : Opening)
    (q : o ≡ by_heads_all live s n start first ps) where
  pub heads_broken : (r : Refusal) → Err r ≡ heads_told every (linked_heads live s start first) → o ≡ refused r
  unfolding by_heads_all
  heads_broken r h = q ∙ by (linked_heads live s start first) h
    where
      by : (c : Chain) → Err r ≡ heads_told every c
          → on_chain live s n c (λ heads. sought_from live s n start heads order ps) ≡ refused r
      by (chained heads) h = let z : ◌≡◌ {A = ℕ} 0 1 = cc in absurd (omega arith)
      by (broken e) h = cc

  pub heads_read : (h : HeadsRead) → Ok h ≡ heads_told every (linked_heads live s start first)
      → StandsSought live s n (record { start = start; links = h.parts; heads = h.heads; last = h.last }) order ps o
  unfolding by_heads_all
  heads_read h k = by (linked_heads live s start first) k q
    where
      by : (c : Chain) → Ok h ≡ heads_told every c
          → o ≡ on_chain live s n c (λ heads. sought_from live s n start heads order ps)
          → StandsSought live s n (record { start = start; links = h.parts; heads = h.heads; last = h.last }) order ps
          o
      by (chained heads) k w =
          let e : h ≡ record {
            parts = positions every heads.entries;
            heads = length heads.addresses;
            last = last_head heads.addresses;
          } = cc in (
            heads,
            record {
              links = ap (λ (x : HeadsRead). x.parts) e;
              counted = sym (ap (λ (x : HeadsRead). x.heads) e);
              last = sym (ap (λ (x : HeadsRead). x.last) e);
            },
            w,
          )
      by (broken e) k w = let z : ◌≡◌ {A = ℕ} 0 1 = cc in absurd (omega arith)

-- ---- before the heads

module _ (live : Bool) (s : List ℕ) (n : Sizes) (segment : Headed) (at : ℕ) (ps : Parts) (o : Opening)
    (q : o ≡ children_from live s n segment at ps) where
  abbrev w : Walk Parts Opening
  w = opening live s n segment

  skips : (e : Headed) → eqb e.header.id seek_head_id ≡ false → aims_at Every e.header.id ≡ false
      → visit live s n segment ps e ≡ over ps
  unfolding visit aims_at
  skips e h a = rw (h, a) refl

  by_met : (m : Result (Option Met) Refusal) → met_from live s Every segment at ≡ m
      → o ≡ after live s segment Every w ps (read ps []) (λ place. refl) skips m
  by_met m k =
      q ∙ first_met live s segment Every w ps (read ps []) (λ place. refl) skips at
      ∙ ap (after live s segment Every w ps (read ps []) (λ place. refl) skips) k

  pub met_refused : (r : Refusal) → met_from live s Every segment at ≡ Err r → o ≡ refused r
  met_refused r k = by_met (Err r) k

  pub met_end : met_from live s Every segment at ≡ (Ok None) → o ≡ read ps []
  met_end k = by_met (Ok None) k

  pub met_head : (e : Headed) → met_from live s Every segment at ≡ Ok (Some (Head e))
      → o ≡ by_heads_all live s n segment.payload.at e ps
  unfolding visit
  met_head e k = by_met (Ok (Some (Head e))) k ∙ rw (head_met live s segment Every at e k).1 refl

  module _ (e : Headed) (k : met_from live s Every segment at ≡ Ok (Some (PartIs e))) where
    -- A part is read, and what stands behind it.
    abbrev passing : Parts → Opening
    passing qs =
        on_passed (past_child live s segment e) refused (λ next.
        children_from live s n segment next qs)

    met_taken : o ≡ taken live s n (which_of e.header.id) e ps refused passing
    unfolding visit aims_at
    met_taken =
        let m = part_met live s segment Every at e k in
        by_met (Ok (Some (PartIs e))) k ∙ rw (m.1, m.2)
        (by (part_read live s n (which_of e.header.id) e.payload.at e.header.size))
      where
        by : (x : Outcome)
            → visited live s segment w e
            (on_outcome x (λ r. ends (refused r)) (λ f.
            over (placed ps (which_of e.header.id) (found_part e.payload.at e.header.size (count f)))))
            ≡ on_outcome x refused (λ f.
            passing (placed ps (which_of e.header.id) (found_part e.payload.at e.header.size (count f))))
        by (done f) = refl
        by (unread r) = refl

    pub met_part : (which : Which) → which ≡ which_of e.header.id → Readable s segment
        → ReadsNext live s n ps o (left_of live s (From segment at)) which e (Behind segment e)
    met_part which x r =
        let m = part_met live s segment Every at e k in
        record {
          fails = λ u p. met_taken ∙ rw (x' p) refl;
          goes = λ f p. (
            m.0.child,
            met_taken ∙ rw (x' p) (ap (λ (v : Which).
                passing (placed ps v (found_part e.payload.at e.header.size (count f)))) (sym x)),
          );
          fewer = let l = m.0.room in omega arith;
          ready = (r, record { small = r.small; there = m.0.stepped.there });
        }
      where
        x' : {d : Outcome} → part_read live s n which e.payload.at e.header.size ≡ d
            → part_read live s n (which_of e.header.id) e.payload.at e.header.size ≡ d
        x' p = ap (λ (v : Which). part_read live s n v e.payload.at e.header.size) (sym x) ∙ p

-- ---- behind a part that was read

module _ (live : Bool) (s : List ℕ) (n : Sizes) (segment child : Headed) (ps : Parts) (o : Opening)
    (q : Stands live s n (Behind segment child) ps o) (stretch : Stretch) (j : stretch ≡ stretch_of live s segment)
    (y : Result ℕ Refusal) (m : PastIn live s stretch child y) where
  passes : (x : Result ℕ Refusal) → y ≡ x → passed live s segment child ≡ x
  passes x k = sym (m segment j) ∙ k

  pub behind_lost : (r : Refusal) → y ≡ Err r → o ≡ refused r
  behind_lost r k = q.1 ∙ rw (passes (Err r) k) refl

  pub behind_on : (next : ℕ) → y ≡ Ok next → o ≡ children_from live s n segment next ps
  behind_on next k = q.1 ∙ rw (passes (Ok next) k) refl

  -- What follows has less left.
  pub behind_turns : (next : ℕ) → y ≡ Ok next → (t : Result Turn Refusal)
      → Turns live s n ps o (left_of live s (From segment next)) t
      → Turns live s n ps o (left_of live s (Behind segment child)) t
  behind_turns next k t u =
      let l = less live s segment child.place.at child next q.0 (passes (Ok next) k) in
      turns_more live s n ps o (left_of live s (From segment next)) (left_of live s (Behind segment child))
      (omega arith) t u

-- ---- the turns

-- The first of the parts that are left, and the others.
pub first_left : (left : List Which) → 1 ≤ length left
    → left ≡ get_or left 0 Info ∷ take (length left - 1) (drop 1 left)
first_left [] l = absurd (omega arith)
first_left (which ∷ more) l = ap (λ (x : List Which). which ∷ x) (sym (take_all _ more (omega arith)))

pub none_left : (left : List Which) → length left < 1 → left ≡ []
none_left [] l = refl
none_left (which ∷ more) l = absurd (omega arith)

module _ (live : Bool) (s : List ℕ) (seeking : Seeking) (parts : List Which) where
  -- Those are left to seek by now: what the call comes to has not changed.
  pub record Seeks (left : List Which) : Type 0 where
    pub fewer : length left ≤ length parts
    pub stands :
        (n : Sizes) (ps : Parts) (o : Opening) → StandsSought live s n seeking parts ps o
        → StandsSought live s n seeking left ps o

  pub seeks_all : Seeks parts
  seeks_all = record { fewer = omega arith; stands = λ n ps o q. q }

  module _ (left : List Which) (k : Seeks left) where
    pub seek_over : left ≡ [] → TurnsSought live s seeking parts (Ok (Over seeking.heads))
    unfolding sought_from
    seek_over e n ps o q =
        let (heads, t, g) = k.stands n ps o q in
        (heads.addresses, g ∙ rw e refl, t.counted)

    module _ (which : Which) (more : List Which) (e : left ≡ which ∷ more) (id : ℕ) (y : id ≡ id_of which)
        (link : Option ℕ) (z : link ≡ link_of seeking.links which) (r : Result (Option Headed × ℕ) Refusal)
        (m : PartMet live s id seeking.start seeking.heads seeking.last link r) where
      next_met : PartMet live s (id_of which) seeking.start seeking.heads seeking.last (link_of seeking.links which) r
      next_met = rw (y, z) at m

      next_left : (n : Sizes) (ps : Parts) (o : Opening) → StandsSought live s n seeking parts ps o
          → StandsSought live s n seeking (which ∷ more) ps o
      next_left n ps o q = rw e at (k.stands n ps o q)

      fewer_left : length more < length parts
      fewer_left = let a = rw e at k.fewer in omega arith

      pub seek_stopped : (x : Refusal) → r ≡ Err x → (t : Result Turn Refusal) → t ≡ Err x
          → TurnsSought live s seeking parts t
      seek_stopped x h t w =
          rw w (λ n ps o q.
          let (heads, t, g) = next_left n ps o q in
          sought_stopped live s n seeking ps o which more heads t g r next_met x h)

      pub seek_on : (place : Option Headed) (j : ℕ) → r ≡ Ok (place, j) → place ≡ None → Seeks more
      seek_on place j h v = record {
        fewer = let a = fewer_left in omega arith;
        stands = λ n ps o q.
            let (heads, t, g) = next_left n ps o q in
            (heads, t, sought_absent live s n seeking ps o which more heads t g r next_met j (rw v at h));
      }

      pub seek_found : (place : Option Headed) (j : ℕ) → r ≡ Ok (place, j) → (x : Headed) → place ≡ Some x
          → (rest : Bor (List Which)) → rest.now ≡ more
          → TurnsSought live s seeking parts (Ok (Read which x (Sought seeking rest)))
      seek_found place j h x v rest l n ps o q =
          let (heads, t, g) = next_left n ps o q in
          sought_found live s n seeking ps o which more heads t g r next_met x j (rw v at h) rest l (length parts)
          fewer_left

module _ (live : Bool) (s : List ℕ) (start : ℕ) (first : Headed) (t : Result Turn Refusal) where
  pub head_broken : (r : Refusal) → Err r ≡ heads_told every (linked_heads live s start first) → t ≡ Err r
      → TurnsHead live s start first t
  head_broken r h y = rw y (λ n ps o q. heads_broken live s n start first ps o q r h)

  pub head_read : (h : HeadsRead) → Ok h ≡ heads_told every (linked_heads live s start first)
      → TurnsSought live s (record { start = start; links = h.parts; heads = h.heads; last = h.last }) order t
      → TurnsHead live s start first t
  head_read h k u n ps o q = u n ps o (heads_read live s n start first ps o q h k)

module _ (live : Bool) (s : List ℕ) (segment : Headed) (at : ℕ) where
  pub meet_refused : (r : Refusal) → met_from live s Every segment at ≡ Err r → (t : Result Turn Refusal) → t ≡ Err r
      → TurnsMet live s segment at t
  meet_refused r k t y = rw y (λ n ps o q. met_refused live s n segment at ps o q r k)

  pub meet_end : met_from live s Every segment at ≡ (Ok None) → TurnsMet live s segment at (Ok (Over 0))
  meet_end k n ps o q = ([], met_end live s n segment at ps o q k, refl)

  pub meet_head : (e : Headed) → met_from live s Every segment at ≡ Ok (Some (Head e)) → (t : Result Turn Refusal)
      → TurnsHead live s segment.payload.at e t → TurnsMet live s segment at t
  meet_head e k t u n ps o q =
      turns_more live s n ps o 5 (left_of live s (From segment at)) (omega arith) t
      (u n ps o (met_head live s n segment at ps o q e k))

  pub meet_part : (e : Headed) → met_from live s Every segment at ≡ Ok (Some (PartIs e)) → (which : Which)
      → which ≡ which_of e.header.id → Readable s segment
      → TurnsMet live s segment at (Ok (Read which e (Behind segment e)))
  meet_part e k which x r n ps o q = met_part live s n segment at ps o q e k which x r

module _ (live : Bool) (s : List ℕ) (stage : Stage) (t : Result Turn Refusal) where
  pub turn_from : (segment : Headed) (at : ℕ) → stage ≡ From segment at → TurnsMet live s segment at t
      → TurnsFrom live s stage t
  turn_from segment at x u = rw x u

  pub turn_sought : (seeking : Seeking) (left : Bor (List Which)) → stage ≡ Sought seeking left
      → TurnsSought live s seeking left.now t → TurnsFrom live s stage t
  turn_sought seeking left x u = rw x u

  module _ (segment child : Headed) (x : stage ≡ Behind segment child) (stretch : Stretch)
      (j : stretch ≡ stretch_of live s segment) (y : Result ℕ Refusal) (m : PastIn live s stretch child y) where
    pub turn_lost : (r : Refusal) → y ≡ Err r → t ≡ Err r → TurnsFrom live s stage t
    turn_lost r k z =
        rw (x, z) (λ n ps o q. behind_lost live s n segment child ps o q stretch j y m r k)

    pub turn_on : (next : ℕ) → y ≡ Ok next → TurnsMet live s segment next t → TurnsFrom live s stage t
    turn_on next k u =
        rw x (λ n ps o q.
        behind_turns live s n segment child ps o q stretch j y m next k t
        (u n ps o (behind_on live s n segment child ps o q stretch j y m next k)))
