-- Where `open` accepts and a head was reached, each part that was not met before it has the search's own reply and
-- table (`OpenAgrees`). Assumes nothing.
use Prim.Native.Nat.{ℕ, zero, suc, ◌≤◌}
use mathlib.Core.Path.{◌≡◌, refl, sym, ap, ◌∙◌, subst}
use mathlib.Core.List.{List, [], ◌∷◌}
use mathlib.Core.Logic.{◌⊎◌, inl, inr}
use mathlib.Core.Bool.{Bool, true, false, cond, ◌&&◌, ◌||◌}
use native.Mathlib.Omega.{arith}
use lib.ListN.{length}
use lib.Dec.{eqb}
use borrow.Author.Tests.{eqb-true}
use Rattle.header.specs.declared.cursor.Headed.{Headed}
use Rattle.kinds.specs.Kinds.{member}
use Rattle.elements_rules.specs.Forest.{count}
use Rattle.elements_rules.specs.Reading.{Outcome, done}
use Rattle.elements_rules.specs.Reading.{refused as unread}
use Rattle.elements_rules.specs.Promise.{allowed, ReadPromise}
use Rattle.walks_rules.specs.Step.{child_at, on_child}
use Rattle.walks_rules.specs.Walk.{ends, over, on_passed}
use Rattle.walks_rules.specs.Endings.{room_of}
use Rattle.seekhead_rules.specs.Seeks.{seek_head_id}
use Rattle.seekhead_rules.specs.Table.{latest}
use Rattle.seekchain_rules.specs.Answers.{on_outcome}
use Rattle.seekchain_rules.specs.Heads.{Heads, Chain, chained, broken, linked_heads}
use Rattle.seekchain_rules.specs.Lookup.{Lookup, part_at}
use Rattle.seekchain_rules.specs.Lookup.{found as found_at, absent as absent_at, stopped as stopped_at}
use Rattle.seekchain_rules.specs.Contract.{place_told}
use Rattle.seekchain_rules.specs.Theorems.{IsAt}
use Rattle.segments_rules.specs.Segment.{stretch_of, part_ids, aims_at, meets, meeting, met_from}
use Rattle.segments_rules.specs.Segment.{lookup_of}
use Rattle.segments_rules.specs.declared.walk.Aim.{Aim}
use Rattle.segments_rules.specs.declared.walk.Aim.TheVariants.{One}
use Rattle.segments_rules.specs.declared.walk.Met.TheVariants.{Head, Part as PartIs}
use Rattle.segments_rules.proofs.Meetings.{Reached, passed, visited, along_unfolds, less, head_met, search_as}
use Rattle.search_rules.specs.Part.{PartPromise}
use Rattle.search_rules.specs.Part.{parent_of as searched_under}
use Rattle.search_rules.proofs.Finding.{find_absent, find_rows}
use Rattle.open_rules.specs.Parts.{id_of, which_of, parent_of, order, no_parts, part_of, placed, found_part}
use Rattle.open_rules.specs.Tables.{Tables, Sizes, sizes_of, of, part_read}
use Rattle.open_rules.specs.Opening.{Opening, read, refused, taken, on_lookup, on_chain, sought_from, by_heads_all}
use Rattle.open_rules.specs.Opening.{visit, opening, children_from}
use Rattle.open_rules.specs.Promise.{are_allowed, open_of, OpenPromise}
use Rattle.open_rules.specs.Theorems.{as_searched, HeadFirst, OpenAgrees}
use Rattle.open_rules.specs.declared.parts.Which.{Which}
use Rattle.open_rules.specs.declared.parts.Which.TheVariants.{Info, Tracks, Attachments, Chapters, Tags}
use Rattle.open_rules.specs.declared.parts.Parts.{Parts}
use Rattle.open_rules.proofs.Going.{never}
use Rattle.open_rules.proofs.Unique.{reply_read, size_of, all_zeroed}
use Rattle.open_rules.proofs.Found.{each_part, which_of_law, looked_up, led, same_heads, opened, open_is_read}
use Rattle.std.proofs.Common.{Result, Option, Ok, Err, Some, None}
use Rattle.refusals.specs.declared.refusal.Refusal.{Refusal}
use Rattle.search_rules.specs.declared.part.Part.{Part}

-- ---- the parts by their ids

-- Another part in its place leaves a part as it was.
other_placed : (ps : Parts) (w v : Which) (p : Option Part) → eqb (id_of w) (id_of v) ≡ false
    → part_of (placed ps w p) v ≡ part_of ps v
other_placed ps w v p q = at w v ∙ ap (λ (b : Bool). cond b p (part_of ps v)) q
  where
    Ok : Which → Which → Type 0
    Ok x y = part_of (placed ps x p) y ≡ cond (eqb (id_of x) (id_of y)) p (part_of ps y)

    at : (x y : Which) → Ok x y
    at Info = each_part (Ok Info) refl refl refl refl refl
    at Tracks = each_part (Ok Tracks) refl refl refl refl refl
    at Attachments = each_part (Ok Attachments) refl refl refl refl refl
    at Chapters = each_part (Ok Chapters) refl refl refl refl refl
    at Tags = each_part (Ok Tags) refl refl refl refl refl

own_placed : (ps : Parts) (which : Which) (p : Option Part) → part_of (placed ps which p) which ≡ p
own_placed ps which p = each_part (λ v. part_of (placed ps v p) v ≡ p) refl refl refl refl refl which

none_placed : (which : Which) → part_of no_parts which ≡ None
none_placed = each_part (λ v. part_of no_parts v ≡ None) refl refl refl refl refl

id_names : (which : Which) → which_of (id_of which) ≡ which
unfolding which_of
id_names = each_part (λ v. which_of (id_of v) ≡ v) refl refl refl refl refl

same_part : (w v : Which) → eqb (id_of w) (id_of v) ≡ true → w ≡ v
same_part w v q = sym (id_names w) ∙ ap which_of (eqb-true (id_of w) (id_of v) q) ∙ id_names v

-- ---- up to the head

module _ (live : Bool) (s : List ℕ) (n : Sizes) (segment : Headed) (which : Which) (head : Headed) (qs : Parts)
    (hs : List ℕ) where
  abbrev start : ℕ
  start = segment.payload.at

  abbrev aim : Aim
  aim = One (id_of which)

  -- The head is come to with the part as it was.
  record Comes (ps : Parts) : Type 0 where
    rest : Parts
    same : part_of rest which ≡ part_of ps which
    leads : by_heads_all live s n start head rest ≡ read qs hs

  abbrev Leads : ℕ → Type 0
  Leads at =
      (ps : Parts) → met_from live s aim segment at ≡ Ok (Some (Head head))
      → children_from live s n segment at ps ≡ read qs hs
      → Comes ps

  by_turn : (at : ℕ)
      → ((e : Headed) (next : ℕ) → child_at live s (stretch_of live s segment) at ≡ Ok (Some e)
      → passed live s segment e ≡ Ok next → Leads next)
      → Leads at
  unfolding meets aims_at visit
  by_turn at more ps m k =
      by (child_at live s (stretch_of live s segment) at) refl
      (sym (along_unfolds live s segment (meeting aim) at tt) ∙ m)
      (sym (along_unfolds live s segment (opening live s n segment) at ps) ∙ k)
    where
      -- Behind a child that both pass over.
      by_pass : (e : Headed) → child_at live s (stretch_of live s segment) at ≡ Ok (Some e)
          → (rs : Parts) → part_of rs which ≡ part_of ps which → (y : Result ℕ Refusal) → passed live s segment e ≡ y
          → on_passed y Err (λ next. met_from live s aim segment next) ≡ Ok (Some (Head head))
          → on_passed y refused (λ next. children_from live s n segment next rs) ≡ read qs hs → Comes ps
      by_pass e q rs j (Ok next) p m k =
          let c = more e next q p rs m k in
          record { rest = c.rest; same = c.same ∙ j; leads = c.leads }
      by_pass e q rs j (Err r) p m k = never k

      by_read : (e : Headed) → child_at live s (stretch_of live s segment) at ≡ Ok (Some e)
          → eqb e.header.id (id_of which) ≡ false → member e.header.id part_ids ≡ true
          → on_passed (passed live s segment e) Err (λ next. met_from live s aim segment next) ≡ Ok (Some (Head head))
          → (o : Outcome)
          → visited live s segment (opening live s n segment) e
          (on_outcome o (λ r. ends (refused r)) (λ f.
          over (placed ps (which_of e.header.id) (found_part e.payload.at e.header.size (count f)))))
          ≡ read qs hs
          → Comes ps
      by_read e q c d m (done f) k =
          by_pass e q (placed ps (which_of e.header.id) (found_part e.payload.at e.header.size (count f)))
          (other_placed ps (which_of e.header.id) which (found_part e.payload.at e.header.size (count f))
          (ap (λ (x : ℕ). eqb x (id_of which)) (which_of_law e.header.id d) ∙ c))
          (passed live s segment e) refl m k
      by_read e q c d m (unread r) k = never k

      by_id : (e : Headed) → child_at live s (stretch_of live s segment) at ≡ Ok (Some e)
          → (b : Bool) → eqb e.header.id seek_head_id ≡ b → (c : Bool) → eqb e.header.id (id_of which) ≡ c
          → (d : Bool) → member e.header.id part_ids ≡ d
          → visited live s segment (meeting aim) e
          (cond b (ends (Ok (Some (Head e)))) (cond c (ends (Ok (Some (PartIs e)))) (over tt)))
          ≡ Ok (Some (Head head))
          → visited live s segment (opening live s n segment) e
          (cond b (ends (by_heads_all live s n start e ps))
          (cond d (taken live s n (which_of e.header.id) e ps (λ r. ends (refused r)) over) (over ps)))
          ≡ read qs hs
          → Comes ps
      by_id e q true h c i d j m k =
          let z : e ≡ head = cc in
          record {
            rest = ps;
            same = refl;
            leads = ap (λ (x : Headed). by_heads_all live s n start x ps) (sym z) ∙ k;
          }
      by_id e q false h true i d j m k = let z : ◌≡◌ {A = ℕ} 0 1 = cc in absurd (omega arith)
      by_id e q false h false i true j m k =
          by_read e q i j m (part_read live s n (which_of e.header.id) e.payload.at e.header.size) k
      by_id e q false h false i false j m k = by_pass e q ps refl (passed live s segment e) refl m k

      by : (x : Result (Option Headed) Refusal) → child_at live s (stretch_of live s segment) at ≡ x
          → on_child x (Ok None) Err (λ e. visited live s segment (meeting aim) e (meets aim e)) ≡ Ok (Some (Head head))
          → on_child x (read ps []) refused (λ e.
          visited live s segment (opening live s n segment) e (visit live s n segment ps e))
          ≡ read qs hs
          → Comes ps
      by (Ok (Some e)) q m k =
          by_id e q (eqb e.header.id seek_head_id) refl (eqb e.header.id (id_of which)) refl
          (member e.header.id part_ids) refl m k
      by (Ok None) q m k = let z : ◌≡◌ {A = ℕ} 0 1 = cc in absurd (omega arith)
      by (Err r) q m k = never k

  within_room : (m at : ℕ) → room_of s (stretch_of live s segment) at ≤ m → Leads at
  within_room zero at k =
      by_turn at (λ e next q p. let l = less live s segment at e next q p in absurd (omega arith))
  within_room (suc m) at k =
      by_turn at (λ e next q p.
      let l = less live s segment at e next q p in
      within_room m next (omega arith))

  comes : Leads start
  comes = within_room (room_of s (stretch_of live s segment) start) start (omega arith)

-- ---- behind the head

-- What a part is told as that was not known before, by where it is.
abbrev Told : Lookup → Option Part → Type 0
Told (found_at e heads) p = (rows : ℕ) × (p ≡ found_part e.payload.at e.header.size rows)
Told (absent_at heads) p = p ≡ None
Told (stopped_at r) p = ⊥

-- Whether a part is one of some.
abbrev among : Which → List Which → Bool
among which [] = false
among which (v ∷ more) = eqb (id_of v) (id_of which) || among which more

in_order : (which : Which) → among which order ≡ true
in_order = each_part (λ v. among v order ≡ true) refl refl refl refl refl

module _ (live : Bool) (s : List ℕ) (n : Sizes) (start : ℕ) (heads : Heads) (which : Which) where
  abbrev place : Which → Lookup
  place v = part_at live s (id_of v) start heads.addresses (latest (id_of v) heads.entries)

  abbrev left : List Which → Parts → Opening
  left parts ps = sought_from live s n start heads parts ps

  -- A part that was sought, where the call goes on.
  data Sought (v : Which) (ps : Parts) : Parts → Type 0 where
    took :
        (e : Headed) (hs : List ℕ) (rows : ℕ) → place v ≡ found_at e hs
        → Sought v ps (placed ps v (found_part e.payload.at e.header.size rows))
    none : (hs : List ℕ) → place v ≡ absent_at hs → Sought v ps ps

  record GoesOn (v : Which) (more : List Which) (ps qs : Parts) (hs : List ℕ) : Type 0 where
    rest : Parts
    how : Sought v ps rest
    leads : left more rest ≡ read qs hs

  goes_on : (v : Which) (more : List Which) (ps qs : Parts) (hs : List ℕ) → left (v ∷ more) ps ≡ read qs hs
      → GoesOn v more ps qs hs
  unfolding sought_from
  goes_on v more ps qs hs = by (place v) refl
    where
      by_read : (e : Headed) (is : List ℕ) → place v ≡ found_at e is → (o : Outcome)
          → on_outcome o refused (λ f. left more (placed ps v (found_part e.payload.at e.header.size (count f))))
          ≡ read qs hs
          → GoesOn v more ps qs hs
      by_read e is i (done f) k = record {
        rest = placed ps v (found_part e.payload.at e.header.size (count f));
        how = took e is (count f) i;
        leads = k;
      }
      by_read e is i (unread r) k = never k

      by : (x : Lookup) → place v ≡ x
          → on_lookup live s n x (λ e. taken live s n v e ps refused (left more)) (left more ps) ≡ read qs hs
          → GoesOn v more ps qs hs
      by (found_at e is) i k = by_read e is i (part_read live s n v e.payload.at e.header.size) k
      by (absent_at is) i k = record { rest = ps; how = none is i; leads = k }
      by (stopped_at r) i k = never k

  -- The part is told, or it is to be sought and not known.
  abbrev Ahead : List Which → Parts → Type 0
  Ahead parts ps =
      Told (place which) (part_of ps which) ⊎ ((part_of ps which ≡ None) × (among which parts ≡ true))

  -- Another part changes nothing, and what is sought is told.
  passes_by : (v : Which) (ps rs : Parts) → Sought v ps rs → eqb (id_of v) (id_of which) ≡ false
      → part_of rs which ≡ part_of ps which
  passes_by v ps _ (took e hs rows i) q =
      other_placed ps v which (found_part e.payload.at e.header.size rows) q
  passes_by v ps _ (none hs i) q = refl

  is_told : (ps rs : Parts) → Sought which ps rs
      → ((hs : List ℕ) → place which ≡ absent_at hs → part_of ps which ≡ None)
      → Told (place which) (part_of rs which)
  is_told ps _ (took e hs rows i) a =
      subst (λ (x : Lookup). Told x (part_of (placed ps which (found_part e.payload.at e.header.size rows)) which))
      (sym i) (rows, own_placed ps which (found_part e.payload.at e.header.size rows))
  is_told ps _ (none hs i) a = subst (λ (x : Lookup). Told x (part_of ps which)) (sym i) (a hs i)

  further : (v : Which) (more : List Which) (ps rs : Parts) → Sought v ps rs → Ahead (v ∷ more) ps → Ahead more rs
  further v more ps rs h = by (eqb (id_of v) (id_of which)) refl
    where
      -- The part is not known before it is sought.
      unknown : (b : Bool) → Told (place which) (part_of ps which) ⊎ ((part_of ps which ≡ None) × (b ≡ true))
          → (hs : List ℕ) → place which ≡ absent_at hs → part_of ps which ≡ None
      unknown b (inl t) hs i = subst (λ (x : Lookup). Told x (part_of ps which)) i t
      unknown b (inr (a, m)) hs i = a

      by : (b : Bool) → eqb (id_of v) (id_of which) ≡ b
          → Told (place which) (part_of ps which) ⊎ ((part_of ps which ≡ None) × ((b || among which more) ≡ true))
          → Ahead more rs
      by true q k =
          inl (is_told ps rs (subst (λ (x : Which). Sought x ps rs) (same_part v which q) h)
          (unknown (true || among which more) k))
      by false q (inl t) = inl (subst (Told (place which)) (sym (passes_by v ps rs h q)) t)
      by false q (inr (a, m)) = inr (passes_by v ps rs h q ∙ a, m)

  sought_told : (parts : List Which) (ps qs : Parts) (hs : List ℕ) → Ahead parts ps → left parts ps ≡ read qs hs
      → Told (place which) (part_of qs which) × (hs ≡ heads.addresses)
  unfolding sought_from
  sought_told [] ps qs hs (inl t) q =
      let z : ps ≡ qs = cc in
      (subst (λ (x : Parts). Told (place which) (part_of x which)) z t, cc)
  sought_told [] ps qs hs (inr (a, m)) q = let z : ◌≡◌ {A = ℕ} 0 1 = cc in absurd (omega arith)
  sought_told (v ∷ more) ps qs hs k q =
      let g = goes_on v more ps qs hs q in
      sought_told more g.rest qs hs (further v more ps g.rest g.how k) g.leads

-- The chain of the head, and what is sought by it.
chain_read : (live : Bool) (s : List ℕ) (n : Sizes) (start : ℕ) (head : Headed) (ps qs : Parts) (hs : List ℕ)
    → by_heads_all live s n start head ps ≡ read qs hs
    → (heads : Heads) × (linked_heads live s start head ≡ chained heads)
    × (sought_from live s n start heads order ps ≡ read qs hs)
unfolding by_heads_all
chain_read live s n start head ps qs hs q = by (linked_heads live s start head) refl q
  where
    by : (c : Chain) → linked_heads live s start head ≡ c
        → on_chain live s n c (λ heads. sought_from live s n start heads order ps) ≡ read qs hs
        → (heads : Heads) × (linked_heads live s start head ≡ chained heads)
        × (sought_from live s n start heads order ps ≡ read qs hs)
    by (chained heads) c k = (heads, c, k)
    by (broken r) c k = never k

-- ---- the search

-- It reads a part under the same parent.
same_parent : (which : Which) (parent : ℕ) → searched_under (id_of which) ≡ Some parent → parent_of which ≡ parent
unfolding searched_under
same_parent Info parent q = let z : ◌≡◌ {A = ℕ} 0 1 = cc in absurd (omega arith)
same_parent Tracks parent q = cc
same_parent Attachments parent q = cc
same_parent Chapters parent q = cc
same_parent Tags parent q = cc

both : (a b : Bool) → (a && b) ≡ true → (a ≡ true) × (b ≡ true)
both true b q = (refl, q)
both false b q = let z : ◌≡◌ {A = ℕ} 0 1 = cc in absurd (omega arith)

table_allowed : (s : List ℕ) (n : Sizes) → are_allowed s n ≡ true → (which : Which) → allowed s 0 (of n which) ≡ true
unfolding are_allowed
table_allowed s n q =
    let (a, q₁) = both (allowed s 0 n.info) _ q in
    let (b, q₂) = both (allowed s 0 n.tracks) _ q₁ in
    let (c, q₃) = both (allowed s 0 n.attachments) _ q₂ in
    let (d, e) = both (allowed s 0 n.chapters) _ q₃ in
    each_part (λ v. allowed s 0 (of n v) ≡ true) a b c d e

one_segment : {x : (Result Headed Refusal)} {e d : Headed} → x ≡ Ok e → x ≡ Ok d → e ≡ d
one_segment p q = cc

-- What the search tells where the chain of the head is as it is for `open`.
module _ (live : Bool) (s : List ℕ) (t : Tables) (ps : Parts) (k : ℕ) (t' : Tables)
    (p : OpenPromise live s t (Ok (ps, k)) t') (a : are_allowed s (sizes_of t) ≡ true) (which : Which) (parent : ℕ)
    (u : searched_under (id_of which) ≡ Some parent) (h : HeadFirst live s (id_of which)) (heads : Heads)
    (c : linked_heads live s h.segment.payload.at h.head ≡ chained heads) (l : k ≡ length heads.addresses)
  where
    abbrev id : ℕ
    id = id_of which

    abbrev is : Lookup
    is = place live s (sizes_of t) h.segment.payload.at heads which which

    reached : Reached live s h.segment h.segment.payload.at h.head
        × (eqb h.head.header.id seek_head_id ≡ true)
    reached = head_met live s h.segment (One id) h.segment.payload.at h.head h.is_first

    is_head : IsAt s seek_head_id h.head.place.at h.head
    is_head = record {
      head = reached.0.stepped.there;
      named = eqb-true h.head.header.id seek_head_id reached.1;
    }

    looks : lookup_of live s id ≡ is
    unfolding lookup_of
    looks =
        rw h.is_segment (search_as live s id h.segment (Ok (Some (Head h.head))) h.is_first
        ∙ looked_up live s (sizes_of t) h.segment h.head is_head reached.0.child heads c which)

    -- The place has the heads of the chain.
    found_heads : (e : Headed) (hs : List ℕ) → is ≡ found_at e hs → k ≡ length hs
    found_heads e hs q =
        let (n, g) = led live s (sizes_of t) h.segment h.head is_head reached.0.child heads c which
        (found_at e hs) q in
        l ∙ ap length (sym (same_heads live s (sizes_of t) h.segment h.head is_head reached.0.child heads c
        n.read))

    absent_heads : (hs : List ℕ) → is ≡ absent_at hs → k ≡ length hs
    absent_heads hs q =
        let (n, g) = led live s (sizes_of t) h.segment h.head is_head reached.0.child heads c which
        (absent_at hs) q in
        l ∙ ap length (sym (same_heads live s (sizes_of t) h.segment h.head is_head reached.0.child heads c
        n.read))

    fits : allowed s 0 (length (of t which)) ≡ true
    fits = ap (λ (m : ℕ). allowed s 0 m) (sym (size_of t which)) ∙ table_allowed s (sizes_of t) a which

    agrees : (x : Lookup) → is ≡ x → Told x (part_of ps which)
        → PartPromise live s id (of t which) (as_searched (part_of ps which) k) (of t' which)
    agrees (found_at e hs) q (rows, w) =
        subst (λ (y : Option Part). PartPromise live s id (of t which) (as_searched y k) (of t' which)) (sym w)
        (find_rows live s id (of t which) fits parent u e k
        (ap (λ (k : ℕ). Ok (Some e, k)) (found_heads e hs q) ∙ sym (ap place_told (looks ∙ q))) rows (of t' which)
        (subst (λ (y : ℕ).
        ReadPromise live s e.payload.at e.header.size y (of t which) (Ok rows) (of t' which))
        (same_parent which parent u)
        (open_is_read live s t ps k t' p which e.payload.at e.header.size rows w)))
    agrees (absent_at hs) q w =
        subst (λ (y : Option Part). PartPromise live s id (of t which) (as_searched y k) (of t' which)) (sym w)
        (find_absent live s id (of t which) fits parent u k (of t' which)
        (ap (λ (m : ℕ). Ok (None, m)) (absent_heads hs q) ∙ sym (ap place_told (looks ∙ q)))
        (all_zeroed.absent live s t ps k t' p which w))
    agrees (stopped_at r) q w = absurd w

pub open_agrees : OpenAgrees
open_agrees live s t ps k t' p which parent u h =
    let (hs, q, l) = reply_read ps k (open_of live s (sizes_of t)) p.reply in
    let o = opened live s (sizes_of t) ps hs q in
    let children = subst (λ (e : Headed).
    children_from live s (sizes_of t) e e.payload.at no_parts ≡ read ps hs)
    (one_segment o.is_segment h.is_segment) o.children in
    let c = comes live s (sizes_of t) h.segment which h.head ps hs no_parts h.is_first children in
    let (heads, i, j) = chain_read live s (sizes_of t) h.segment.payload.at h.head c.rest ps hs c.leads in
    let (told, e) = sought_told live s (sizes_of t) h.segment.payload.at heads which order c.rest ps hs
    (inr (c.same ∙ none_placed which, in_order which)) j in
    agrees live s t ps k t' p o.within which parent u h heads i (l ∙ ap length e) _ refl told
