-- What `open` says of the heads that it read and of each part that it found (`OpenIsRead`, `OpenHeads`, `OpenIsPart`).
-- Assumes nothing.
use Prim.Native.Nat.{ℕ, zero, suc}
use mathlib.Core.Path.{◌≡◌, refl, sym, ap, ◌∙◌, subst}
use mathlib.Core.List.{List, [], ◌∷◌}
use mathlib.Core.Bool.{Bool, true, false, cond, not, ◌||◌}
use native.Mathlib.Omega.{arith}
use lib.ListN.{length}
use lib.Dec.{eqb}
use borrow.Author.Tests.{eqb-true}
use Rattle.refusals.specs.Refusals.{bad_argument, overrun}
use Rattle.refusals.specs.Reply.{accepted}
use Rattle.refusals.specs.declared.refusal.Refusal.{Refusal}
use Rattle.header.specs.declared.cursor.Headed.{Headed}
use Rattle.kinds.specs.Kinds.{member}
use Rattle.elements_rules.specs.Forest.{Forest, count}
use Rattle.elements_rules.specs.Reading.{Outcome, done}
use Rattle.elements_rules.specs.Reading.{refused as unread}
use Rattle.elements_rules.specs.Promise.{read_of}
use Rattle.elements_rules.specs.Promise.{reply_of as read_reply, table_of as read_table}
use Rattle.walks_rules.specs.Answers.{on_header}
use Rattle.walks_rules.specs.Step.{child_at}
use Rattle.walks_rules.specs.Walk.{Visit, ends, over, on_visit, on_passed, Walk, walk}
use Rattle.walks_rules.specs.Endings.{pass_over, end_of, room_of}
use Rattle.walks_rules.proofs.Bounds.{turn}
use Rattle.walks_rules.proofs.Steps.{stepped_on}
use Rattle.seekhead_rules.specs.Seeks.{seek_head_id}
use Rattle.seekhead_rules.specs.Table.{latest}
use Rattle.seekhead_rules.specs.declared.seek.Seek.{Seek}
use Rattle.seekchain_rules.specs.Answers.{on_outcome}
use Rattle.seekchain_rules.specs.Heads.{Heads, Chain, chained, broken, linked_heads}
use Rattle.seekchain_rules.specs.Lookup.{Lookup, part_at, by_heads}
use Rattle.seekchain_rules.specs.Lookup.{found as found_at, absent as absent_at, stopped as stopped_at}
use Rattle.seekchain_rules.specs.Theorems.{IsAt, GoodHeads, Named, ByHeads}
use Rattle.seekchain_rules.proofs.Leads.{heads_lead}
use Rattle.segments_rules.specs.Segment.{segment_of, stretch_of, overruns, within_segment, part_ids}
use Rattle.search_rules.proofs.Trusty.{none_read}
use Rattle.open_rules.specs.Parts.{id_of, which_of, parent_of, order, no_parts, part_of, placed, found_part}
use Rattle.open_rules.specs.Tables.{Tables, Sizes, sizes_of, of, part_read, shown_of}
use Rattle.open_rules.specs.Opening.{Opening, read, refused, taken, on_lookup, on_chain, sought_from, by_heads_all}
use Rattle.open_rules.specs.Opening.{visit, opening, children_from, whole_of}
use Rattle.open_rules.specs.Promise.{are_allowed, open_of, OpenPromise}
use Rattle.open_rules.specs.Theorems.{OpenIsRead, heads_of, OpenHeads, OpenWay, met, named, OpenFoundBy}
use Rattle.open_rules.specs.Theorems.{OpenIsPart}
use Rattle.open_rules.specs.declared.parts.Which.{Which}
use Rattle.open_rules.specs.declared.parts.Which.TheVariants.{Info, Tracks, Attachments, Chapters, Tags}
use Rattle.open_rules.specs.declared.parts.Parts.{Parts}
use Rattle.open_rules.proofs.Unique.{reply_read, size_of, table_shown}
use Rattle.std.proofs.Common.{Result, Option, Ok, Err, Some, None}
use Rattle.search_rules.specs.declared.part.Part.{Part}

-- ---- a walk that keeps what is known

-- What is to hold of an answer, where a visit ends the walk with it; and of what is known, where it goes on.
abbrev Keeps : {A B : Type 0} → (A → Type 0) → (B → Type 0) → Visit A B → Type 0
Keeps Q P (ends b) = P b
Keeps Q P (over a) = Q a

module _ {A B : Type 0} (step : ℕ → Result (Option Headed) Refusal) (pass : Headed → Result ℕ Refusal) (w : Walk A B)
    (Q : A → Type 0)
    (P : B → Type 0) (stops : (e : Refusal) → P (w.stop e)) (at_the_end : (at : ℕ) (a : A) → Q a → P (w.ended at a))
    (each : (a : A) (at : ℕ) (e : Headed) → Q a → step at ≡ Ok (Some e) → Keeps Q P (w.visit a e)) where
  -- It holds of the whole walk if each visit keeps it.
  keeps : (n at : ℕ) (a : A) → Q a → P (walk step pass w n at a)
  unfolding walk
  keeps zero at a k = at_the_end at a k
  keeps (suc n) at a k = by (step at) refl (keeps n)
    where
      Onward : Type 0
      Onward = (next : ℕ) (c : A) → Q c → P (walk step pass w n next c)

      by_pass : (b : A) → Q b → (p : Result ℕ Refusal) → Onward
          → P (on_passed p w.stop (λ next. walk step pass w n next b))
      by_pass b i (Ok next) more = more next b i
      by_pass b i (Err r) more = stops r

      by_visit : (e : Headed) (v : Visit A B) → Keeps Q P v → Onward
          → P (on_visit v (λ b. b) (λ more. on_passed (pass e) w.stop (λ next. walk step pass w n next more)))
      by_visit e (ends b) i more = i
      by_visit e (over b) i more = by_pass b i (pass e) more

      by : (x : Result (Option Headed) Refusal) → step at ≡ x → Onward
          → P (turn step pass w at a x (walk step pass w n))
      by (Ok (Some e)) q more = by_visit e (w.visit a e) (each a at e k q) more
      by (Ok None) q more = at_the_end at a k
      by (Err r) q more = stops r

-- ---- the five parts

pub each_part : (P : Which → Type 0) → P Info → P Tracks → P Attachments → P Chapters → P Tags → (which : Which)
    → P which
each_part P a b c d e Info = a
each_part P a b c d e Tracks = b
each_part P a b c d e Attachments = c
each_part P a b c d e Chapters = d
each_part P a b c d e Tags = e

-- The id of a part names it.
pub which_of_law : (id : ℕ) → member id part_ids ≡ true → id_of (which_of id) ≡ id
unfolding member which_of
which_of_law id m =
    by (eqb id (id_of Info)) refl (eqb id (id_of Tracks)) refl (eqb id (id_of Attachments)) refl
    (eqb id (id_of Chapters)) refl (eqb id (id_of Tags)) refl m
  where
    by : (a : Bool) → eqb id (id_of Info) ≡ a → (b : Bool) → eqb id (id_of Tracks) ≡ b
        → (c : Bool) → eqb id (id_of Attachments) ≡ c → (d : Bool) → eqb id (id_of Chapters) ≡ d
        → (e : Bool) → eqb id (id_of Tags) ≡ e → (a || (b || (c || (d || (e || false))))) ≡ true
        → id_of (cond a Info (cond b Tracks (cond c Attachments (cond d Chapters Tags)))) ≡ id
    by true i b j c k d l e m z = sym (eqb-true id (id_of Info) i)
    by false i true j c k d l e m z = sym (eqb-true id (id_of Tracks) j)
    by false i false j true k d l e m z = sym (eqb-true id (id_of Attachments) k)
    by false i false j false k true l e m z = sym (eqb-true id (id_of Chapters) l)
    by false i false j false k false l true m z = sym (eqb-true id (id_of Tags) m)
    by false i false j false k false l false m z = let z : ◌≡◌ {A = ℕ} 0 1 = cc in absurd (omega arith)

-- ---- what is known of the parts

module _ (live : Bool) (s : List ℕ) (n : Sizes) (segment : Headed) where
  abbrev start : ℕ
  start = segment.payload.at

  -- A found part: its payload was read, and an element has it, met or named.
  pub record IsFound (heads : List ℕ) (which : Which) (at size rows : ℕ) : Type 0 where
    pub elements : Forest
    pub was_read : part_read live s n which at size ≡ done elements
    pub counted : rows ≡ count elements
    pub part : Headed
    pub payload : part.payload.at ≡ at
    pub sized : part.header.size ≡ size
    pub way : OpenWay live s (id_of which) segment part heads

  abbrev pub IsKnown : List ℕ → Which → Option Part → Type 0
  IsKnown heads which None = Unit
  IsKnown heads which (Some p) = IsFound heads which p.at p.size p.rows

  abbrev pub Known : List ℕ → Parts → Type 0
  Known heads ps = (which : Which) → IsKnown heads which (part_of ps which)

  none_known : (heads : List ℕ) → Known heads no_parts
  none_known heads = each_part (λ v. IsKnown heads v (part_of no_parts v)) tt tt tt tt tt

  placed_known : (heads : List ℕ) (ps : Parts) (which : Which) (p : Option Part) → Known heads ps
      → IsKnown heads which p → Known heads (placed ps which p)
  placed_known heads ps Info p k i =
      each_part (λ v. IsKnown heads v (part_of (placed ps Info p) v)) i (k Tracks) (k Attachments) (k Chapters) (k Tags)
  placed_known heads ps Tracks p k i =
      each_part (λ v. IsKnown heads v (part_of (placed ps Tracks p) v)) (k Info) i (k Attachments) (k Chapters) (k Tags)
  placed_known heads ps Attachments p k i =
      each_part (λ v. IsKnown heads v (part_of (placed ps Attachments p) v)) (k Info) (k Tracks) i (k Chapters) (k Tags)
  placed_known heads ps Chapters p k i =
      each_part (λ v. IsKnown heads v (part_of (placed ps Chapters p) v)) (k Info) (k Tracks) (k Attachments) i (k Tags)
  placed_known heads ps Tags p k i =
      each_part (λ v. IsKnown heads v (part_of (placed ps Tags p) v)) (k Info) (k Tracks) (k Attachments) (k Chapters) i

  -- What the call comes to: each part is known, and the heads are as they should be.
  abbrev pub Sound : Opening → Type 0
  Sound (read ps heads) = Known heads ps × GoodHeads live s heads
  Sound (refused e) = Unit

  -- ---- after a seek head

  module _ (first : Headed) (i : IsAt s seek_head_id first.place.at first)
      (child : child_at live s (stretch_of live s segment) first.place.at ≡ Ok (Some first))
      (heads : Heads) (c : linked_heads live s start first ≡ chained heads) where
    abbrev place : Which → Lookup
    place which = part_at live s (id_of which) start heads.addresses (latest (id_of which) heads.entries)

    -- It is what the search's look-up by the heads comes to.
    pub looked_up : (which : Which) → by_heads live s (id_of which) start first ≡ place which
    unfolding by_heads
    looked_up which = rw c refl

    pub led : (which : Which) (x : Lookup) → place which ≡ x → ByHeads live s (id_of which) start first x
    led which x q =
        subst (ByHeads live s (id_of which) start first) (looked_up which ∙ q)
        (heads_lead live s (id_of which) start first i)

    pub same_heads : {hs : List ℕ} {es : List Seek}
        → linked_heads live s start first ≡ chained (record { addresses = hs; entries = es }) → hs ≡ heads.addresses
    same_heads q = cc

    abbrev Good : Type 0
    Good = GoodHeads live s heads.addresses

    -- One part is sought: where the call goes on, the heads are as they should be.
    sought_sound : (which : Which) (more : List Which) (ps : Parts) → Known heads.addresses ps
        → (Good → (qs : Parts) → Known heads.addresses qs → Sound (sought_from live s n start heads more qs))
        → Sound (sought_from live s n start heads (which ∷ more) ps)
    unfolding sought_from
    sought_sound which more ps k next = by (place which) refl
      where
        by_read : (e : Headed) → OpenWay live s (id_of which) segment e heads.addresses → Good
            → (o : Outcome) → part_read live s n which e.payload.at e.header.size ≡ o
            → Sound (on_outcome o refused (λ f.
            sought_from live s n start heads more
            (placed ps which (found_part e.payload.at e.header.size (count f)))))
        by_read e way g (done f) q =
            next g (placed ps which (found_part e.payload.at e.header.size (count f)))
            (placed_known heads.addresses ps which (found_part e.payload.at e.header.size (count f)) k (record {
              elements = f;
              was_read = q;
              counted = refl;
              part = e;
              payload = refl;
              sized = refl;
              way = way;
            }))
        by_read e way g (unread r) q = tt

        by : (x : Lookup) → place which ≡ x
            → Sound (on_lookup live s n x
            (λ e. taken live s n which e ps refused (sought_from live s n start heads more))
            (sought_from live s n start heads more ps))
        by (found_at e hs) q =
            let (l, g) = led which (found_at e hs) q in
            let h = same_heads l.read in
            by_read e
            (named first i child (subst (λ (x : List ℕ). Named live s (id_of which) start first e x) h l))
            (subst (GoodHeads live s) h g)
            (part_read live s n which e.payload.at e.header.size) refl
        by (absent_at hs) q =
            let (l, g) = led which (absent_at hs) q in
            next (subst (GoodHeads live s) (same_heads l.read) g) ps k
        by (stopped_at r) q = tt

    all_sound : (parts : List Which) → Good → (ps : Parts) → Known heads.addresses ps
        → Sound (sought_from live s n start heads parts ps)
    unfolding sought_from
    all_sound [] g ps k = (k, g)
    all_sound (which ∷ more) g ps k = sought_sound which more ps k (λ h. all_sound more h)

    order_sound : (ps : Parts) → Known heads.addresses ps → Sound (sought_from live s n start heads order ps)
    order_sound ps k =
        sought_sound Info (Tracks ∷ Attachments ∷ Chapters ∷ Tags ∷ []) ps k
        (all_sound (Tracks ∷ Attachments ∷ Chapters ∷ Tags ∷ []))

  -- Before a head the parts are known whatever heads there are.
  abbrev Met : Parts → Type 0
  Met ps = (heads : List ℕ) → Known heads ps

  heads_sound : (first : Headed) → IsAt s seek_head_id first.place.at first
      → child_at live s (stretch_of live s segment) first.place.at ≡ Ok (Some first) → (ps : Parts) → Met ps
      → Sound (by_heads_all live s n start first ps)
  unfolding by_heads_all
  heads_sound first i child ps k = by (linked_heads live s start first) refl
    where
      by : (c : Chain) → linked_heads live s start first ≡ c
          → Sound (on_chain live s n c (λ heads. sought_from live s n start heads order ps))
      by (chained heads) q = order_sound first i child heads q ps (k heads.addresses)
      by (broken e) q = tt

  -- ---- before it

  visit_sound : (e : Headed) → IsAt s e.header.id e.place.at e
      → child_at live s (stretch_of live s segment) e.place.at ≡ Ok (Some e) → (ps : Parts) → Met ps
      → Keeps Met Sound (visit live s n segment ps e)
  unfolding visit
  visit_sound e i child ps k = by (eqb e.header.id seek_head_id) refl (member e.header.id part_ids) refl
    where
      which : Which
      which = which_of e.header.id

      by_read : member e.header.id part_ids ≡ true
          → (o : Outcome) → part_read live s n which e.payload.at e.header.size ≡ o
          → Keeps Met Sound (on_outcome o (λ r. ends (refused r)) (λ f.
          over (placed ps which (found_part e.payload.at e.header.size (count f)))))
      by_read m (done f) q =
          λ heads.
          placed_known heads ps which (found_part e.payload.at e.header.size (count f)) (k heads) (record {
            elements = f;
            was_read = q;
            counted = refl;
            part = e;
            payload = refl;
            sized = refl;
            way = met (record { head = i.head; named = sym (which_of_law e.header.id m) }) child;
          })
      by_read m (unread r) q = tt

      by : (b : Bool) → eqb e.header.id seek_head_id ≡ b → (c : Bool) → member e.header.id part_ids ≡ c
          → Keeps Met Sound
          (cond b (ends (by_heads_all live s n start e ps))
          (cond c (taken live s n which e ps (λ r. ends (refused r)) over) (over ps)))
      by true h c m =
          heads_sound e (record { head = i.head; named = eqb-true e.header.id seek_head_id h }) child ps k
      by false h true m = by_read m (part_read live s n which e.payload.at e.header.size) refl
      by false h false m = k

  -- An overrun ends the call with a refusal.
  kept : (v : Visit Parts Opening) (b : Bool) (r : Refusal) → Keeps Met Sound v
      → Keeps Met Sound (on_visit v ends (λ more. cond b (ends (refused r)) (over more)))
  kept (ends o) b r k = k
  kept (over ps) true r k = tt
  kept (over ps) false r k = k

  children_sound : Sound (children_from live s n segment start no_parts)
  children_sound =
      keeps (child_at live s (stretch_of live s segment)) (pass_over live s (end_of (stretch_of live s segment)))
      (within_segment live segment (opening live s n segment)) Met Sound (λ e. tt)
      (λ at ps k. (k [], none_read live s))
      (λ ps at e k q.
      let t = stepped_on live s (stretch_of live s segment) at e q in
      kept (visit live s n segment ps e) (overruns live segment e) (overrun e.place.at)
      (visit_sound e (record { head = t.there; named = refl })
      (ap (child_at live s (stretch_of live s segment)) t.begins ∙ q) ps k))
      (room_of s (stretch_of live s segment) start) start no_parts none_known

-- ---- the whole call

-- What an accepted call comes to.
pub record Opened (live : Bool) (s : List ℕ) (n : Sizes) (ps : Parts) (heads : List ℕ) : Type 0 where
  pub within : are_allowed s n ≡ true
  pub segment : Headed
  pub is_segment : segment_of live s ≡ Ok segment
  pub children : children_from live s n segment segment.payload.at no_parts ≡ read ps heads
  pub known : Known live s n segment heads ps
  pub good : GoodHeads live s heads

pub opened : (live : Bool) (s : List ℕ) (n : Sizes) (ps : Parts) (heads : List ℕ) → open_of live s n ≡ read ps heads
    → Opened live s n ps heads
unfolding open_of whole_of
opened live s n ps heads = by (are_allowed s n) refl (segment_of live s) refl
  where
    by : (b : Bool) → are_allowed s n ≡ b → (x : Result Headed Refusal) → segment_of live s ≡ x
        → cond (not b) (refused bad_argument) (on_header x refused (λ segment.
        children_from live s n segment segment.payload.at no_parts))
        ≡ read ps heads
        → Opened live s n ps heads
    by true a (Ok segment) i q =
        let (k, g) = subst (Sound live s n segment) q (children_sound live s n segment) in
        record { within = a; segment = segment; is_segment = i; children = q; known = k; good = g }
    by true a (Err r) i q = let z : ◌≡◌ {A = ℕ} 0 1 = cc in absurd (omega arith)
    by false a x i q = let z : ◌≡◌ {A = ℕ} 0 1 = cc in absurd (omega arith)

-- A part that an accepted call tells.
module _ (live : Bool) (s : List ℕ) (t : Tables) (ps : Parts) (k : ℕ) (t' : Tables)
    (p : OpenPromise live s t (Ok (ps, k)) t') (which : Which) (at size rows : ℕ)
    (x : part_of ps which ≡ found_part at size rows) where
  abbrev n : Sizes
  n = sizes_of t

  told_found : (heads : List ℕ) (o : Opened live s n ps heads) → IsFound live s n o.segment heads which at size rows
  told_found heads o = subst (IsKnown live s n o.segment heads which) x (o.known which)

  is_read : (heads : List ℕ) (o : Opened live s n ps heads)
      → (f : Forest) × (read_of live s at size (parent_of which) (length (of t which)) ≡ done f) × (rows ≡ count f)
  unfolding part_read
  is_read heads o =
      let i = told_found heads o in (
        i.elements,
        ap (λ (m : ℕ). read_of live s at size (parent_of which) m) (sym (size_of t which)) ∙ i.was_read,
        i.counted,
      )

pub open_is_read : OpenIsRead
unfolding part_read
open_is_read live s t ps k t' p which at size rows x =
    let (heads, q, l) = reply_read ps k (open_of live s (sizes_of t)) p.reply in
    let (f, r, c) = is_read live s t ps k t' p which at size rows x heads (opened live s (sizes_of t) ps heads q) in
    record {
      reply = ap accepted c ∙ sym (ap read_reply r);
      table = table_shown live s t ps k t' p which ∙ ap (shown_of live s (sizes_of t) which) x
          ∙ ap (λ (m : ℕ). read_table at m (read_of live s at size (parent_of which) m)) (size_of t which);
    }

pub open_heads : OpenHeads
unfolding heads_of
open_heads = record {
  good = λ live s n. by live s n (open_of live s n) refl;
  counted = λ live s t ps k t' p.
      let (heads, q, l) = reply_read ps k (open_of live s (sizes_of t)) p.reply in
      l ∙ sym (ap (λ (o : Opening). length (heads_of o)) q);
}
  where
    by : (live : Bool) (s : List ℕ) (n : Sizes) (o : Opening) → open_of live s n ≡ o → GoodHeads live s (heads_of o)
    by live s n (read ps heads) q = (opened live s n ps heads q).good
    by live s n (refused e) q = none_read live s

pub open_is_part : OpenIsPart
unfolding heads_of
open_is_part live s t ps k t' p which at size rows x =
    let (heads, q, l) = reply_read ps k (open_of live s (sizes_of t)) p.reply in
    let o = opened live s (sizes_of t) ps heads q in
    let i = told_found live s t ps k t' p which at size rows x heads o in
    let by : OpenFoundBy live s (id_of which) at size heads = record {
      part = i.part;
      payload = i.payload;
      sized = i.sized;
      segment = o.segment;
      is_segment = o.is_segment;
      way = i.way;
    } in
    subst (λ (hs : List ℕ). OpenFoundBy live s (id_of which) at size hs) (sym (ap heads_of q)) by
