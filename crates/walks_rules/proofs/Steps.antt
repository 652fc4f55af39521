-- What a step of a walk says of its place. Assumes nothing.
use Prim.Native.Nat.{ℕ, ◌+◌, ◌-◌, ◌^◌, ◌≤◌, ◌<◌}
use mathlib.Core.Path.{◌≡◌, refl, sym, ap, ◌∙◌}
use mathlib.Core.List.{List}
use mathlib.Core.Bool.{Bool, true, false, cond, ◌||◌}
use native.Mathlib.Omega.{arith}
use lib.ListN.{length}
use lib.Dec.{leb}
use borrow.Author.Tests.{le-leb, leb-false}
use Rattle.refusals.specs.Refusals.{unknown_size}
use Rattle.refusals.specs.declared.refusal.Refusal.{Refusal}
use Rattle.header.specs.Reads.{header_at}
use Rattle.header.specs.declared.cursor.Headed.{Headed}
use Rattle.header.proofs.Inside.{header_there}
use Rattle.walks_rules.specs.Answers.{on_header}
use Rattle.walks_rules.specs.Step.{is_past, ended_by, barred_step, stepped, child_at}
use Rattle.walks_rules.specs.Endings.{end_of, room_of}
use Rattle.walks_rules.specs.declared.step.Stretch.{Stretch}
use Rattle.walks_rules.specs.declared.step.Stretch.TheVariants.{Sized, Endless}
use Rattle.std.proofs.Common.{Result, Option, Ok, Err, Some, None}

-- A place that is not past a stretch: it is before the known end, and there is room.
pub not_past : (s : List ℕ) (stretch : Stretch) (at : ℕ) → is_past s stretch at ≡ false
    → (at < end_of stretch) × (0 < room_of s stretch at)
unfolding is_past
not_past s (Sized end) at q = let l = leb-false end at q in (l, omega arith)
not_past s (Endless id end) at q = by (leb end at) refl (leb (length s) at) refl q
  where
    by : (b : Bool) → leb end at ≡ b → (c : Bool) → leb (length s) at ≡ c → (b || c) ≡ false
        → (at < end) × (0 < length s - at)
    by true x c y w = let z : ◌≡◌ {A = ℕ} 0 1 = cc in absurd (omega arith)
    by false x true y w = let z : ◌≡◌ {A = ℕ} 0 1 = cc in absurd (omega arith)
    by false x false y w =
        let l = leb-false end at x in
        let m = leb-false (length s) at y in
        (l, omega arith)

-- An element that a step gives: its header is there, before the end, and its header takes a byte at least.
pub record Stepped (live : Bool) (s : List ℕ) (stretch : Stretch) (at : ℕ) (e : Headed) : Type 0 where
  pub there : header_at s e.place.at ≡ Ok e
  pub here : header_at s at ≡ Ok e
  pub begins : e.place.at ≡ at
  pub before : at < end_of stretch
  pub room : 0 < room_of s stretch at
  pub held : ended_by stretch e.header.id ≡ false
  pub allowed : barred_step live e ≡ false
  pub onward : at < e.payload.at
  pub headed : e.payload.at ≡ at + e.header.length
  pub inside : e.payload.at ≤ length s
  pub sized : e.header.size < 2 ^ 56

module _ (live : Bool) (s : List ℕ) (stretch : Stretch) (at : ℕ) where
  -- Each way that a step goes.
  pub data Goes : Result (Option Headed) Refusal → Type 0 where
    past : is_past s stretch at ≡ true → Goes (Ok None)
    unread : (r : Refusal) → is_past s stretch at ≡ false → header_at s at ≡ Err r → Goes (Err r)
    ended :
        (e : Headed) → is_past s stretch at ≡ false → header_at s at ≡ Ok e
        → ended_by stretch e.header.id ≡ true → Goes (Ok None)
    unsized :
        (e : Headed) → is_past s stretch at ≡ false → header_at s at ≡ Ok e
        → ended_by stretch e.header.id ≡ false → barred_step live e ≡ true
        → Goes (Err (unknown_size e.place.at))
    element :
        (e : Headed) → is_past s stretch at ≡ false → header_at s at ≡ Ok e
        → ended_by stretch e.header.id ≡ false → barred_step live e ≡ false → Goes (Ok (Some e))

  pub goes : Goes (child_at live s stretch at)
  unfolding child_at
  goes = by_past (is_past s stretch at) refl
    where
      by_bar : (e : Headed) → is_past s stretch at ≡ false → header_at s at ≡ Ok e
          → ended_by stretch e.header.id ≡ false → (b : Bool) → barred_step live e ≡ b
          → Goes (cond b (Err (unknown_size e.place.at)) (Ok (Some e)))
      by_bar e k q o true z = unsized e k q o z
      by_bar e k q o false z = element e k q o z

      by_id : (e : Headed) → is_past s stretch at ≡ false → header_at s at ≡ Ok e
          → (b : Bool) → ended_by stretch e.header.id ≡ b → Goes (cond b (Ok None) (stepped live e))
      by_id e k q true o = ended e k q o
      by_id e k q false o = by_bar e k q o (barred_step live e) refl

      by_header_law : is_past s stretch at ≡ false → (x : Result Headed Refusal) → header_at s at ≡ x
          → Goes (on_header x Err (λ e. cond (ended_by stretch e.header.id) (Ok None) (stepped live e)))
      by_header_law k (Err r) q = unread r k q
      by_header_law k (Ok e) q = by_id e k q (ended_by stretch e.header.id) refl

      by_past : (b : Bool) → is_past s stretch at ≡ b
          → Goes (cond b (Ok None)
          (on_header (header_at s at) Err (λ e. cond (ended_by stretch e.header.id) (Ok None) (stepped live e))))
      by_past true k = past k
      by_past false k = by_header_law k (header_at s at) refl

  pub stepped_on : (e : Headed) → child_at live s stretch at ≡ Ok (Some e) → Stepped live s stretch at e
  stepped_on e q = by (child_at live s stretch at) q goes
    where
      by : (x : Result (Option Headed) Refusal) → x ≡ Ok (Some e) → Goes x → Stepped live s stretch at e
      by (Ok None) w g = let z : ◌≡◌ {A = ℕ} 0 1 = cc in absurd (omega arith)
      by (Err r) w g = let z : ◌≡◌ {A = ℕ} 0 1 = cc in absurd (omega arith)
      by (Ok (Some d)) w (element _ k h o b) =
          let y : d ≡ e = cc in
          let i = h ∙ ap Ok y in
          let t = header_there s at e i in
          let n = not_past s stretch at k in
          record {
            there = ap (header_at s) t.begins ∙ i;
            here = i;
            begins = t.begins;
            before = n.0;
            room = n.1;
            held = ap (λ (x : Headed). ended_by stretch x.header.id) (sym y) ∙ o;
            allowed = ap (barred_step live) (sym y) ∙ b;
            onward = omega (arith, t.behind, t.some);
            headed = t.behind;
            inside = t.inside;
            sized = t.sized;
          }

  -- Where there is no room the stretch is at its end.
  pub no_room : room_of s stretch at ≡ 0 → child_at live s stretch at ≡ (Ok None)
  unfolding child_at is_past
  no_room z = rw (by stretch z) refl
    where
      by : (x : Stretch) → room_of s x at ≡ 0 → is_past s x at ≡ true
      by (Sized end) q = le-leb end at (omega arith)
      by (Endless id end) q = rw (le-leb (length s) at (omega arith)) (go (leb end at))
        where
          go : (b : Bool) → (b || true) ≡ true
          go true = refl
          go false = refl

-- Any further place of a stretch has less room.
pub less_room : (s : List ℕ) (stretch : Stretch) (at next : ℕ) → 0 < room_of s stretch at → at < next
    → room_of s stretch next < room_of s stretch at
less_room s (Sized end) at next r l = omega arith
less_room s (Endless id end) at next r l = omega arith
