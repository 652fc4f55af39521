-- `utf8` decides the grammar (`Decides`). Assumes nothing.
use mathlib.Core.Path.{◌≡◌, refl, ap, ◌∙◌, sym, subst}
use mathlib.Core.List.{List, [], ◌∷◌, ◌++◌}
use mathlib.Core.List.Memᴰ
use mathlib.Core.List.{Memᴰ}
use mathlib.Core.Bool.{Bool, true, false, ◌&&◌, ◌||◌, cond, or-true}
use mathlib.Core.Logic.{⊎_elim}
use Prim.Native.Nat.{ℕ, ◌≤◌}
use native.Mathlib.Omega.{arith}
use lib.Dec.{leb}
use borrow.Author.Tests.{le-leb, leb-true}
use Rattle.utf8.specs.Utf8.{Range, range, within, Alternative, utf8_char, behind, any_of, goes_on, utf8}
use Rattle.utf8.specs.Grammar.{Matches, end, next, Utf8Character, Utf8Octets, none, more}
use Rattle.utf8.specs.Theorems.{Decides}

-- ---- an element of which a test holds

record Found {A : Type 0} (f : A → Bool) (l : List A) : Type 0 where
  x : A
  member : Memᴰ x l
  holds : f x ≡ true

any_found : {A : Type 0} (f : A → Bool) (l : List A) → any_of f l ≡ true → Found f l
unfolding any_of
any_found f [] e = let z : ◌≡◌ {A = ℕ} 0 1 = cc in absurd (omega arith)
any_found {A} f (y ∷ l) e = go (f y) refl (any_found f l) e
  where
    go : (t : Bool) → f y ≡ t → (any_of f l ≡ true → Found f l) → (t || any_of f l) ≡ true → Found f (y ∷ l)
    go true h r q = record { x = y; member = Memᴰ.head refl; holds = h }
    go false h r q = let k = r q in record { x = k.x; member = Memᴰ.tail k.member; holds = k.holds }

found_any : {A : Type 0} (f : A → Bool) {x : A} (l : List A) → f x ≡ true → Memᴰ x l → any_of f l ≡ true
unfolding any_of
found_any f [] h m = absurd (Memᴰ.not-nil m)
found_any f (y ∷ l) h m =
    ⊎_elim
    (λ e. let q : f y ≡ true = sym (ap f e) ∙ h in rw q)
    (λ k. let q : any_of f l ≡ true = found_any f l h k in rw q (or-true (f y)))
    (Memᴰ.cases_cons m)

-- ---- what is left behind a first octet comes of an alternative that begins with it

both : (a b : Bool) → (a && b) ≡ true → (a ≡ true) × (b ≡ true)
both true b e = (refl, e)
both false b e = let z : ◌≡◌ {A = ℕ} 0 1 = cc in absurd (omega arith)

record Begun (l : List Alternative) (b : ℕ) (rs : List Range) : Type 0 where
  low : ℕ
  high : ℕ
  member : Memᴰ (range low high ∷ rs) l
  from : low ≤ b
  to : b ≤ high

further : {l : List Alternative} {b : ℕ} {rs : List Range} (a : Alternative) → Begun l b rs → Begun (a ∷ l) b rs
further a g =
    record { low = g.low; high = g.high; member = Memᴰ.tail g.member; from = g.from; to = g.to }

begun : (l : List Alternative) (b : ℕ) (rs : List Range) → Memᴰ rs (behind l b) → Begun l b rs
unfolding behind
begun [] b rs m = absurd (Memᴰ.not-nil m)
begun ([] ∷ l) b rs m = further [] (begun l b rs m)
begun ((range low high ∷ qs) ∷ l) b rs m = go (within (range low high) b) refl (begun l b rs) m
  where
    here : within (range low high) b ≡ true → rs ≡ qs → Begun ((range low high ∷ qs) ∷ l) b rs
    here w e =
        let (f, t) = both (leb low b) (leb b high) w in
        record {
          low = low;
          high = high;
          member = Memᴰ.head (ap (λ (y : List Range). range low high ∷ y) e);
          from = leb-true low b f;
          to = leb-true b high t;
        }

    go : (t : Bool) → within (range low high) b ≡ t → (Memᴰ rs (behind l b) → Begun l b rs)
        → Memᴰ rs (cond t (qs ∷ behind l b) (behind l b)) → Begun ((range low high ∷ qs) ∷ l) b rs
    go true w r k =
        ⊎_elim (here w) (λ n. further (range low high ∷ qs) (r n)) (Memᴰ.cases_cons k)
    go false w r k = further (range low high ∷ qs) (r k)

kept : (low high b : ℕ) (rs : List Range) → low ≤ b → b ≤ high
    → (l : List Alternative) → Memᴰ (range low high ∷ rs) l → Memᴰ rs (behind l b)
unfolding behind
kept low high b rs f t [] m = absurd (Memᴰ.not-nil m)
kept low high b rs f t (a ∷ l) m =
    ⊎_elim
    (λ e. subst (λ (y : Alternative). Memᴰ rs (behind (y ∷ l) b)) e here)
    (λ k. past a (kept low high b rs f t l k))
    (Memᴰ.cases_cons m)
  where
    here : Memᴰ rs (behind ((range low high ∷ rs) ∷ l) b)
    here = rw (le-leb low b f, le-leb b high t) (Memᴰ.head refl)

    either : (u : Bool) (q : List Range) (k : List Alternative) → Memᴰ rs k → Memᴰ rs (cond u (q ∷ k) k)
    either true q k m = Memᴰ.tail m
    either false q k m = m

    past : (a : Alternative) → Memᴰ rs (behind l b) → Memᴰ rs (behind (a ∷ l) b)
    past [] m = m
    past (r ∷ q) m = either (within r b) q (behind l b) m

-- ---- from `utf8` to the grammar

record Split (rs : List Range) (t : List ℕ) : Type 0 where
  c : List ℕ
  s : List ℕ
  joined : c ++ s ≡ t
  matches : Matches rs c
  octets : Utf8Octets s

split : (t : List ℕ) (rs : List Range) → goes_on rs t ≡ true → Split rs t
unfolding goes_on
split [] [] e = record { c = []; s = []; joined = refl; matches = end; octets = none }
split (b ∷ t) [] e =
    let f = any_found (λ rs. goes_on rs t) (behind utf8_char b) e in
    let g = begun utf8_char b f.x f.member in
    let k = split t f.x f.holds in
    let char : Utf8Character (b ∷ k.c) =
    record {
      alternative = range g.low g.high ∷ f.x;
      listed = g.member;
      matches = next g.from g.to k.matches;
    } in
    record {
      c = [];
      s = b ∷ t;
      joined = refl;
      matches = end;
      octets = subst Utf8Octets (ap (λ (y : List ℕ). b ∷ y) k.joined) (more char k.octets);
    }
split [] (range low high ∷ rs) e = let z : ◌≡◌ {A = ℕ} 0 1 = cc in absurd (omega arith)
split (b ∷ t) (range low high ∷ rs) e =
    let (w, g) = both (within (range low high) b) (goes_on rs t) e in
    let (f, u) = both (leb low b) (leb b high) w in
    let k = split t rs g in
    record {
      c = b ∷ k.c;
      s = k.s;
      joined = ap (λ (y : List ℕ). b ∷ y) k.joined;
      matches = next (leb-true low b f) (leb-true b high u) k.matches;
      octets = k.octets;
    }

-- no range is left, so that what was split off is nothing
nothing : {c : List ℕ} → Matches [] c → c ≡ []
nothing end = refl

derived : (s : List ℕ) → goes_on [] s ≡ true → Utf8Octets s
derived s e =
    let k = split s [] e in
    let n : k.c ≡ [] = nothing k.matches in
    subst Utf8Octets (sym (ap (λ (y : List ℕ). y ++ k.s) n) ∙ k.joined) k.octets

-- ---- from the grammar to `utf8`

matched : {rs : List Range} {c : List ℕ} → Matches rs c → (s : List ℕ) → goes_on [] s ≡ true → goes_on rs (c ++ s) ≡ true
unfolding goes_on
matched end s h = h
matched (next {low} {high} {b} f t m) s h = rw (le-leb low b f, le-leb b high t) (matched m s h)

character : {a : Alternative} {c : List ℕ} → Matches a c → Memᴰ a utf8_char
    → (s : List ℕ) → goes_on [] s ≡ true → goes_on [] (c ++ s) ≡ true
unfolding goes_on
character end l s h = h
character (next {low} {high} {b} {rs} {c} f t m) l s h =
    found_any (λ rs. goes_on rs (c ++ s)) (behind utf8_char b) (matched m s h) (kept low high b rs f t utf8_char l)

said : {s : List ℕ} → Utf8Octets s → goes_on [] s ≡ true
unfolding goes_on
said none = refl
said (more {c} {s} k r) = character k.matches k.listed s (said r)

pub utf8_decides : Decides
unfolding utf8
utf8_decides s = (derived s, said)
