-- What the heads are refused for is at the address, and the search came there (`HeadsHonest`). Assumes nothing.
use Prim.Native.Nat.{ℕ, zero, suc, ◌+◌, ◌^◌, ◌≤◌, ◌<◌}
use mathlib.Core.Path.{◌≡◌, refl, sym, ap, ◌∙◌, subst}
use mathlib.Core.List.{List, [], ◌∷◌, ◌++◌}
use mathlib.Core.Bool.{Bool, true, false, cond, ◌&&◌, not}
use native.Mathlib.Omega.{arith}
use lib.ListN.{length, drop, length-append, drop_of_length-le}
use lib.Dec.{leb, eqb}
use borrow.Author.Tests.{leb-true, leb-false, ltb-true, ltb-false, eqb-false}
use Rattle.refusals.specs.Refusals.{because, past_end, invalid_seek_head, stale_entry, head_again, too_many_heads}
use Rattle.refusals.specs.Refusals.{unknown_size}
use Rattle.refusals.specs.declared.refusal.Cause.{Cause}
use Rattle.refusals.specs.declared.refusal.Cause.TheVariants as C
use Rattle.refusals.specs.declared.refusal.Refusal.{Refusal}
use Rattle.header.specs.Vint.{bits, width_of, of_width, vint_of}
use Rattle.header.specs.Header.{named, header_of}
use Rattle.header.specs.Header.{refused as refused_header}
use Rattle.header.specs.Reads.{header_at}
use Rattle.header.specs.declared.cursor.Headed.{Headed}
use Rattle.header.specs.declared.cursor.Header.{Header}
use Rattle.header.proofs.Inside.{header_there, header_refused}
use Rattle.sizes.specs.Unknown.{unknown, endless}
use Rattle.kinds.specs.Kinds.{member}
use Rattle.elements_rules.specs.Forest.{Forest}
use Rattle.elements_rules.specs.Reading.{Outcome, done, refused}
use Rattle.elements_rules.specs.Faults.{Errand, to_find, to_follow, to_look_up, reads_header, barred, other_found, Far}
use Rattle.elements_rules.specs.Faults.{far_followed}
use Rattle.elements_rules.specs.Faults.{unsized as sizeless}
use Rattle.elements_rules.specs.Faults.{far_looked_up, again_followed, many_followed, Fault, FaultThere}
use Rattle.elements_rules.proofs.Faults.{header_fault, body_found}
use Rattle.seekhead_rules.specs.Seeks.{segment_id, seek_head_id, without_rows, head_of, entries}
use Rattle.seekhead_rules.specs.Table.{latest}
use Rattle.seekhead_rules.specs.declared.seek.Seek.{Seek}
use Rattle.walks_rules.specs.Answers.{on_header}
use Rattle.seekchain_rules.specs.Answers.{on_outcome}
use Rattle.walks_rules.specs.Step.{is_past, ended_by, barred_step, child_at, on_child}
use Rattle.walks_rules.specs.declared.step.Stretch.{Stretch}
use Rattle.walks_rules.specs.declared.step.Stretch.TheVariants.{Sized}
use Rattle.walks_rules.proofs.Steps.{Stepped, stepped_on, Goes, goes, past, unread, ended, unsized}
use Rattle.seekchain_rules.specs.Heads.{Heads, no_heads, with_head, Chain, chained, broken, most_heads, last_address}
use Rattle.seekchain_rules.specs.Heads.{too_far, last_head, sought, next_head, on_next, chain, linked_heads}
use Rattle.seekchain_rules.specs.Lookup.{found, stopped, on_chain, part_at, by_heads}
use Rattle.seekchain_rules.specs.Faults.{Followed, one, more, ReadNext, initial, linked, HeadsCome, in_head}
use Rattle.seekchain_rules.specs.Faults.{by_link, to_head, by_entry, to_part, HeadsHonest}
use Rattle.seekchain_rules.proofs.Seen.{last_joined}
use Rattle.seekchain_rules.proofs.Sought.{next_is}
use Rattle.std.proofs.Common.{Result, Option, Ok, Err, Some, None}

-- ---- one step

-- Past the end there is no header.
nothing : header_of [] ≡ refused_header C.PastEnd
unfolding bits width_of vint_of of_width named header_of
nothing = refl

pub past_end_law : (s : List ℕ) (at : ℕ) → length s ≤ at → header_of (drop at s) ≡ refused_header C.PastEnd
past_end_law s at l = rw (drop_of_length-le s l) nothing

-- A step that is refused: at its place, for what is there, on any errand that bars what the step bars.
pub step_fault : (live : Bool) (s : List ℕ) (stretch : Stretch) (at : ℕ) (x : Errand) → reads_header x ≡ true
    → ((h : Header) → barred x h ≡ (live && (unknown h && not (endless h.id))))
    → (e : Refusal) → child_at live s stretch at ≡ Err e
    → (is_past s stretch at ≡ false) × Fault s at x e.cause × (because e.cause at ≡ e)
unfolding barred_step
step_fault live s stretch at x reads bars e q = by (child_at live s stretch at) q (goes live s stretch at)
  where
    by : (y : Result (Option Headed) Refusal) → y ≡ Err e → Goes live s stretch at y
        → (is_past s stretch at ≡ false) × Fault s at x e.cause × (because e.cause at ≡ e)
    by (Ok (Some d)) w g = let z : ◌≡◌ {A = ℕ} 0 1 = cc in absurd (let y : ⊥ = omega arith in y)
    by (Ok None) w g = let z : ◌≡◌ {A = ℕ} 0 1 = cc in absurd (let y : ⊥ = omega arith in y)
    by (Err _) w (unread r k h) =
        let i : r ≡ e = cc in
        let (n, c) = header_refused s at e (h ∙ ap Err i) in
        (k, header_fault s at x reads e.cause n, c)
    by (Err _) w (unsized d k h o b) =
        let t = header_there s at d h in
        let i : unknown_size d.place.at ≡ e = cc in
        let j : unknown_size at ≡ e = ap unknown_size (sym t.begins) ∙ i in
        let f : Fault s at x C.UnknownSize = sizeless d.header t.head (bars d.header ∙ b) in (
          k,
          subst (λ (r : Refusal). Fault s at x r.cause) j f,
          ap (λ (r : Refusal). because r.cause at) (sym j) ∙ j,
        )

-- ---- a sought address

-- A sought address that is refused: at the address, for what is there.
sought_fault : (live : Bool) (s : List ℕ) (address id : ℕ) (Reached : ℕ → Errand → Type 0)
    → Reached address (to_find live id) → (e : Refusal) → sought live s address id ≡ Err e
    → FaultThere s Reached e
unfolding sought is_past ended_by barred_step
sought_fault live s address id Reached r e q = by (child_at live s (Sized (length s)) address) refl q
  where
    here : (c : Cause) → Fault s address (to_find live id) c → because c address ≡ e → FaultThere s Reached e
    here c f i = subst (FaultThere s Reached) i (record { errand = to_find live id; reached = r; fault = f })

    by_id : (x : Headed) → Stepped live s (Sized (length s)) address x → (b : Bool) → eqb x.header.id id ≡ b
        → cond b (Ok x) (Err (stale_entry address)) ≡ Err e → FaultThere s Reached e
    by_id x t true k w = let z : ◌≡◌ {A = ℕ} 0 1 = cc in absurd (let y : ⊥ = omega arith in y)
    by_id x t false k w =
        let i : stale_entry address ≡ e = cc in
        here C.StaleEntry
        (other_found live id
        (x.header, (header_there s address x t.here).head, t.allowed, eqb-false x.header.id id k)) i

    at_end : child_at live s (Sized (length s)) address ≡ (Ok None) → length s ≤ address
    at_end k = leb-true (length s) address (by_way (child_at live s (Sized (length s)) address) k
        (goes live s _ address))
      where
        by_way : (y : Result (Option Headed) Refusal) → y ≡ (Ok None) → Goes live s (Sized (length s)) address y → leb (length s) address ≡ true
        by_way (Ok None) w (past p) = p
        by_way (Ok None) w (ended d p h o) = let z : ◌≡◌ {A = ℕ} 0 1 = cc in absurd (let y : ⊥ = omega arith in y)
        by_way (Ok (Some d)) w g = let z : ◌≡◌ {A = ℕ} 0 1 = cc in absurd (let y : ⊥ = omega arith in y)
        by_way (Err d) w g = let z : ◌≡◌ {A = ℕ} 0 1 = cc in absurd (let y : ⊥ = omega arith in y)

    by : (x : Result (Option Headed) Refusal) → child_at live s (Sized (length s)) address ≡ x
        → on_child x (Err (past_end address)) Err (λ y.
        cond (eqb y.header.id id) (Ok y) (Err (stale_entry address)))
        ≡ Err e
        → FaultThere s Reached e
    by (Ok (Some x)) k w =
        by_id x (stepped_on live s (Sized (length s)) address x k) (eqb x.header.id id) refl w
    by (Ok None) k w =
        let i : past_end address ≡ e = cc in
        here C.PastEnd (header_fault s address (to_find live id) refl C.PastEnd (past_end_law s address (at_end k))) i
    by (Err r') k w =
        let i : r' ≡ e = cc in
        let (l, f, j) = step_fault live s (Sized (length s)) address (to_find live id) refl (λ h. refl) e
        (k ∙ ap Err i) in
        here e.cause f j

-- A position that is too far.
too_far_law : (start position : ℕ) → too_far start position ≡ true → 2 ^ 64 ≤ start + position
too_far_law start position q = let l = ltb-true last_address (start + position) q in omega arith

near : (start position : ℕ) → too_far start position ≡ false → start + position < 2 ^ 64
near start position q = let l = ltb-false last_address (start + position) q in omega arith

-- 8 is at the last of the heads.
far_head : (start position : ℕ) (before : List ℕ) (last : ℕ) → too_far start position ≡ true
    → Far (last_head (before ++ (last ∷ []))) seek_head_id (to_follow start position (before ++ (last ∷ [])))
far_head start position before last q =
    rw (last_joined before last) (far_followed start position before (too_far_law start position q))

far_part : (id start position : ℕ) (before : List ℕ) (last : ℕ) → too_far start position ≡ true
    → Far (last_head (before ++ (last ∷ []))) id (to_look_up id start position (before ++ (last ∷ [])))
far_part id start position before last q =
    rw (last_joined before last) (far_looked_up id start position before (too_far_law start position q))

-- ---- the chain

module _ (live : Bool) (s : List ℕ) (wanted start : ℕ) (first : Headed) where
  abbrev Here : Refusal → Type 0
  Here e = FaultThere s (HeadsCome live s wanted start first) e

  -- The heads with the one that is read.
  pub read_on : (heads : Heads) (head : Headed) (f : Forest) → ReadNext live s start first heads head
      → head_of live s head ≡ done f
      → Followed live s start first (with_head heads head (entries s head.payload.at f))
      (entries s head.payload.at f)
  read_on heads head f initial q = one f q
  read_on heads head f (linked hs own h p n) q = more hs own h f p n q

  -- What follows a head, where it is refused.
  next_fault : (before : List ℕ) (last : ℕ) (es own : List Seek) (e : Refusal)
      → Followed live s start first (record { addresses = before ++ (last ∷ []); entries = es }) own
      → length before < most_heads
      → next_head live s start (before ++ (last ∷ [])) (latest seek_head_id own) ≡ Err e → Here e
  unfolding next_head
  next_fault before last es own e p l q = by_link_law (latest seek_head_id own) refl q
    where
      heads : Heads
      heads = record { addresses = before ++ (last ∷ []); entries = es }

      seen : List ℕ
      seen = before ++ (last ∷ [])

      entry : (position : ℕ) → Errand
      entry position = to_follow start position seen

      here : (position : ℕ) (c : Cause) (at : ℕ) → latest seek_head_id own ≡ Some position
          → Fault s at (entry position) c → because c at ≡ e → Here e
      here position c at k f i =
          subst Here i (record { errand = entry position; reached = by_link heads own position at p k; fault = f })

      by_sought : (position : ℕ) → latest seek_head_id own ≡ Some position → too_far start position ≡ false
          → member (start + position) seen ≡ false → leb most_heads (length seen) ≡ false
          → (x : Result Headed Refusal) → sought live s (start + position) seek_head_id ≡ x → on_header x Err (λ x. Ok (Some x)) ≡ Err e
          → Here e
      by_sought position k f m n (Ok x) w r =
          let z : ◌≡◌ {A = ℕ} 0 1 = cc in absurd (let y : ⊥ = omega arith in y)
      by_sought position k f m n (Err e') w r =
          let i : e' ≡ e = cc in
          sought_fault live s (start + position) seek_head_id (HeadsCome live s wanted start first)
          (to_head heads own position p k f m n) e (w ∙ ap Err i)

      by_tests : (position : ℕ) → latest seek_head_id own ≡ Some position
          → (b : Bool) → too_far start position ≡ b → (c : Bool) → member (start + position) seen ≡ c
          → (d : Bool) → leb most_heads (length seen) ≡ d
          → cond b (Err (invalid_seek_head seek_head_id (last_head seen)))
          (cond c (Err (head_again (start + position)))
          (cond d (Err (too_many_heads (start + position)))
          (on_header (sought live s (start + position) seek_head_id) Err (λ x. Ok (Some x)))))
          ≡ Err e
          → Here e
      by_tests position k true f c m d n r =
          let i : invalid_seek_head seek_head_id (last_head seen) ≡ e = cc in
          here position (C.InvalidSeekHead seek_head_id) (last_head seen) k
          (far_head start position before last f) i
      by_tests position k false f true m d n r =
          let i : head_again (start + position) ≡ e = cc in
          here position C.HeadAgain (start + position) k
          (again_followed start position seen refl (near start position f) m) i
      by_tests position k false f false m true n r =
          let i : too_many_heads (start + position) ≡ e = cc in
          let j = leb-true most_heads (length seen) n in
          let o = length-append before (last ∷ []) in
          let t : length seen ≡ 64 = omega arith in
          here position C.TooManyHeads (start + position) k
          (many_followed start position seen refl (near start position f) m t) i
      by_tests position k false f false m false n r =
          by_sought position k f m n (sought live s (start + position) seek_head_id) refl r

      by_link_law : (link : Option ℕ) → latest seek_head_id own ≡ link → next_head live s start seen link ≡ Err e → Here e
      by_link_law None k r = let z : ◌≡◌ {A = ℕ} 0 1 = cc in absurd (let y : ⊥ = omega arith in y)
      by_link_law (Some position) k r =
          by_tests position k (too_far start position) refl (member (start + position) seen) refl
          (leb most_heads (length seen)) refl r

  -- Fewer than 64 heads were read where one more is.
  few : (heads : Heads) (head : Headed) → ReadNext live s start first heads head → length heads.addresses < most_heads
  few heads head initial = omega arith
  few heads head (linked hs own h p n) = (next_is live s start hs.addresses h (latest seek_head_id own) n).few

  -- The heads that were read to their end: the last has no entry for a further one.
  pub record Ends (all : Heads) : Type 0 where
    pub own : List Seek
    pub followed : Followed live s start first all own
    pub none : latest seek_head_id own ≡ None
    pub before : List ℕ
    pub last : ℕ
    pub joined : all.addresses ≡ before ++ (last ∷ [])

  -- No head follows where no entry names one.
  last_none : (seen : List ℕ) (link : Option ℕ) → next_head live s start seen link ≡ (Ok None) → link ≡ None
  unfolding next_head
  last_none seen None q = refl
  last_none seen (Some p) q =
      by (too_far start p) (member (start + p) seen) (leb most_heads (length seen))
      (sought live s (start + p) seek_head_id) q
    where
      by : (a b c : Bool) (x : Result Headed Refusal)
          → cond a (Err (invalid_seek_head seek_head_id (last_head seen)))
          (cond b (Err (head_again (start + p)))
          (cond c (Err (too_many_heads (start + p))) (on_header x Err (λ x. Ok (Some x)))))
          ≡ (Ok None)
          → Some p ≡ None
      by true b c x r = let z : ◌≡◌ {A = ℕ} 0 1 = cc in absurd (let y : ⊥ = omega arith in y)
      by false true c x r = let z : ◌≡◌ {A = ℕ} 0 1 = cc in absurd (let y : ⊥ = omega arith in y)
      by false false true x r = let z : ◌≡◌ {A = ℕ} 0 1 = cc in absurd (let y : ⊥ = omega arith in y)
      by false false false (Ok h) r = let z : ◌≡◌ {A = ℕ} 0 1 = cc in absurd (let y : ⊥ = omega arith in y)
      by false false false (Err e) r = let z : ◌≡◌ {A = ℕ} 0 1 = cc in absurd (let y : ⊥ = omega arith in y)

  -- What the chain comes to.
  abbrev pub Came : Chain → Type 0
  Came (chained all) = Ends all
  Came (broken e) = Here e

  -- One head after another.
  pub chain_came : (left : ℕ) (heads : Heads) (head : Headed) → ReadNext live s start first heads head
      → length heads.addresses + left ≡ most_heads → Came (chain live s start left heads head)
  unfolding chain
  chain_came zero heads head n l = let f = few heads head n in absurd (let y : ⊥ = omega arith in y)
  chain_came (suc left) heads head n l = by (head_of live s head) refl (chain_came left)
    where
      Onward : Type 0
      Onward = (all : Heads) (next : Headed) → ReadNext live s start first all next
          → length all.addresses + left ≡ most_heads → Came (chain live s start left all next)

      own : Forest → List Seek
      own f = entries s head.payload.at f

      by_next : (f : Forest) → head_of live s head ≡ done f → Onward → (x : Result (Option Headed) Refusal)
          → next_head live s start (heads.addresses ++ (head.place.at ∷ [])) (latest seek_head_id (own f)) ≡ x
          → Came (on_next x (chained (with_head heads head (own f))) broken
          (chain live s start left (with_head heads head (own f))))
      by_next f k on (Ok (Some next)) w =
          let all = with_head heads head (own f) in
          let m = length-append heads.addresses (head.place.at ∷ []) in
          on all next (linked all (own f) next (read_on heads head f n k) w) (omega arith)
      by_next f k on (Ok None) w =
          record {
            own = own f;
            followed = read_on heads head f n k;
            none = last_none (heads.addresses ++ (head.place.at ∷ [])) (latest seek_head_id (own f)) w;
            before = heads.addresses;
            last = head.place.at;
            joined = refl;
          }
      by_next f k on (Err e) w =
          next_fault heads.addresses head.place.at (heads.entries ++ own f) (own f) e
          (read_on heads head f n k) (omega arith) w

      by : (o : Outcome) → head_of live s head ≡ o → Onward
          → Came (on_outcome o broken (λ f.
          on_next (next_head live s start (heads.addresses ++ (head.place.at ∷ [])) (latest seek_head_id (own f)))
          (chained (with_head heads head (own f))) broken (chain live s start left (with_head heads head (own f)))))
      by (done f) k on =
          by_next f k on
          (next_head live s start (heads.addresses ++ (head.place.at ∷ [])) (latest seek_head_id (own f))) refl
      by (refused e) k on =
          let found =
          body_found s (without_rows live) 0 0 segment_id head.payload.at head.header.size 0 e (omega arith) k in
          record {
            errand = found.errand;
            reached = in_head heads head e.address found.errand n found.reached;
            fault = found.fault;
          }

  -- ---- the part

  part_fault : (heads : Heads) → Ends heads → (e : Refusal)
      → part_at live s wanted start heads.addresses (latest wanted heads.entries) ≡ stopped e → Here e
  unfolding part_at
  part_fault heads g e q = by_link_law (latest wanted heads.entries) refl q
    where
      by_sought : (position : ℕ) → latest wanted heads.entries ≡ Some position → too_far start position ≡ false
          → (x : Result Headed Refusal) → sought live s (start + position) wanted ≡ x
          → on_header x stopped (λ part. found part heads.addresses) ≡ stopped e → Here e
      by_sought position k f (Ok x) w r =
          let z : ◌≡◌ {A = ℕ} 0 1 = cc in absurd (let y : ⊥ = omega arith in y)
      by_sought position k f (Err e') w r =
          let i : e' ≡ e = cc in
          sought_fault live s (start + position) wanted (HeadsCome live s wanted start first)
          (to_part heads g.own position g.followed g.none k f) e (w ∙ ap Err i)

      by_far : (position : ℕ) → latest wanted heads.entries ≡ Some position
          → (b : Bool) → too_far start position ≡ b
          → cond b (stopped (invalid_seek_head wanted (last_head heads.addresses)))
          (on_header (sought live s (start + position) wanted) stopped (λ part. found part heads.addresses))
          ≡ stopped e
          → Here e
      by_far position k true f r =
          let at = last_head heads.addresses in
          let i : invalid_seek_head wanted at ≡ e = cc in
          subst Here i
          (record {
            errand = to_look_up wanted start position heads.addresses;
            reached = by_entry heads g.own position at g.followed g.none k;
            fault =
                subst (λ (z : List ℕ). Far (last_head z) wanted (to_look_up wanted start position z)) (sym g.joined)
                (far_part wanted start position g.before g.last f);
          })
      by_far position k false f r = by_sought position k f (sought live s (start + position) wanted) refl r

      by_link_law : (link : Option ℕ) → latest wanted heads.entries ≡ link
          → part_at live s wanted start heads.addresses link ≡ stopped e → Here e
      by_link_law None k r = let z : ◌≡◌ {A = ℕ} 0 1 = cc in absurd (let y : ⊥ = omega arith in y)
      by_link_law (Some position) k r = by_far position k (too_far start position) refl r

pub heads_honest : HeadsHonest
unfolding by_heads
heads_honest live s wanted start first e q =
    by (linked_heads live s start first) (chain_came live s wanted start first most_heads no_heads first initial refl) q
  where
    by : (c : Chain) → Came live s wanted start first c
        → on_chain c (λ heads. part_at live s wanted start heads.addresses (latest wanted heads.entries))
        ≡ stopped e
        → FaultThere s (HeadsCome live s wanted start first) e
    by (chained heads) g r = part_fault live s wanted start first heads g e r
    by (broken e') h r = let i : e' ≡ e = cc in subst (FaultThere s (HeadsCome live s wanted start first)) i h
