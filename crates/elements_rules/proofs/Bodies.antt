-- The body that an element holds: a master's elements, or a value, whose octets are in the recording. Assumes nothing.
use Prim.Native.Nat.{ℕ, ◌+◌, ◌≤◌}
use Rattle.booleans.proofs.Pairs.{ok_halves}
use mathlib.Core.Path.{◌≡◌, refl, ap, sym}
use mathlib.Core.List.{List}
use mathlib.Core.Bool.{Bool, true, false, cond, ◌||◌}
use native.Mathlib.Omega.{arith}
use lib.ListN.{length}
use lib.Dec.{leb, eqb}
use borrow.Author.Tests.{leb-true, eqb-true, eqb-false}
use Rattle.header.specs.declared.cursor.Cursor.{Cursor}
use Rattle.refusals.specs.Refusals.{because}
use Rattle.refusals.specs.declared.refusal.Cause.{Cause}
use Rattle.refusals.specs.declared.refusal.Cause.TheVariants as C
use Rattle.kinds.specs.Kinds.{number_of}
use Rattle.kinds.specs.declared.kind.Kind.{Kind}
use Rattle.kinds.specs.declared.kind.Kind.TheVariants as K
use Rattle.kinds.proofs.Numbers.{number_tells}
use Rattle.bodies_rules.specs.Bodies.{Told, body, value, master, body_of, if_there, payload, number}
use Rattle.bodies_rules.specs.Bodies.{refused as refused_body}
use Rattle.bodies_rules.specs.Numbers.{signed_of, float_of}
use Rattle.bodies_rules.specs.Reads.{read_of, body_read}
use Rattle.bodies_rules.specs.declared.body.Body.{Body}
use Rattle.bodies_rules.specs.declared.body.Body.TheVariants.{Value, Master}
use Rattle.bodies_rules.specs.declared.body.Value.TheVariants.{Integer, Unsigned, Float, Date, Text, Bytes}
use Rattle.utf8.specs.Utf8.{utf8}
use Rattle.elements_rules.specs.Forest.{Forest, none}
use Rattle.elements_rules.specs.Reading.{Outcome, done, refused, held}
use Rattle.elements_rules.specs.Stands.{IsValue}
use Rattle.std.proofs.Common.{Ok, Err}

-- A kind is a master's, or a leaf's.
pub by_kind : {C : Type 0} (k : Kind) → (number_of k ≡ 1 → C) → ((number_of k ≡ 1 → ⊥) → C) → C
by_kind {C} k here there = go (eqb (number_of k) 1) refl
  where
    go : (b : Bool) → eqb (number_of k) 1 ≡ b → C
    go true q = here (eqb-true (number_of k) 1 q)
    go false q = there (eqb-false (number_of k) 1 q)

-- What the body of a leaf is: a refusal, or a value whose octets are there.
pub data Leaf (s : List ℕ) (at n : ℕ) (t : Told) : Type 0 where
  a_refusal : (c : Cause) → t ≡ refused_body c → Leaf s at n t
  a_value : at + n ≤ length s → IsValue t → Leaf s at n t

module _ (s : List ℕ) (at n : ℕ) where
  tested : (b : Bool) (t : Told) (c : Cause) → Leaf s at n t → Leaf s at n (cond b t (refused_body c))
  tested true t c l = l
  tested false t c l = a_refusal c refl

  value_there : (t : Told) → IsValue t → Leaf s at n (if_there s at n t)
  value_there t v = go (leb (at + n) (length s)) refl
    where
      go : (b : Bool) → leb (at + n) (length s) ≡ b → Leaf s at n (cond b t (refused_body C.PastEnd))
      go true e = a_value (leb-true (at + n) (length s) e) v
      go false e = a_refusal C.PastEnd refl

  text_there : (u : Bool)
      → Leaf s at n (if_there s at n (cond u (value (Text (record { at = at; length = n }))) (refused_body C.NotUtf8)))
  text_there true = value_there (value (Text (record { at = at; length = n }))) tt
  text_there false =
      tested (leb (at + n) (length s)) (refused_body C.NotUtf8) C.PastEnd (a_refusal C.NotUtf8 refl)

  pub leaf_body : (k : Kind) → (number_of k ≡ 1 → ⊥) → Leaf s at n (body_of s at n k)
  unfolding body_of
  leaf_body K.Master m = absurd (m refl)
  leaf_body K.Int m =
      let v = value (Integer (signed_of n (number s at n))) in
      tested (leb n 8) (if_there s at n v) C.InvalidUint (value_there v tt)
  leaf_body K.Uint m =
      let v = value (Unsigned (number s at n)) in
      tested (leb n 8) (if_there s at n v) C.InvalidUint (value_there v tt)
  leaf_body K.String m = text_there (utf8 (payload s at n))
  leaf_body K.Utf8 m = text_there (utf8 (payload s at n))
  leaf_body K.Binary m = value_there (value (Bytes (record { at = at; length = n }))) tt
  leaf_body K.Float m =
      let v = value (Float (float_of n (number s at n))) in
      tested (eqb n 4 || eqb n 8) (if_there s at n v) C.InvalidFloat (value_there v tt)
  leaf_body K.Date m =
      let v = value (Date (signed_of n (number s at n))) in
      tested (eqb n 8) (if_there s at n v) C.InvalidDate (value_there v tt)

  pub master_body_law : (k : Kind) → number_of k ≡ 1 → body_of s at n k ≡ master
  unfolding body_of
  master_body_law k m = rw (number_tells k K.Master m)

  -- ---- what is held by what was read

  pub held_refused : (from : ℕ) (k : Kind) (c : Cause) (o : Outcome) → body_read k s at n ≡ Err c
      → held from (body_of s at n k) o ≡ refused (because c from)
  unfolding body_read
  held_refused from k c o q = go (body_of s at n k) q
    where
      go : (t : Told) → read_of at n t ≡ Err c → held from t o ≡ refused (because c from)
      go (body (Value v)) w = let x : ◌≡◌ {A = ℕ} 0 1 = cc in absurd (omega arith)
      go (body Master) w = let x : ◌≡◌ {A = ℕ} 0 1 = cc in absurd (omega arith)
      go (refused_body d) w = let x : d ≡ c = cc in ap (λ (y : Cause). refused (because y from)) x

  -- A leaf that was read: it holds no elements, its octets are there, and the next place is behind them.
  pub record LeafRead (from : ℕ) (t : Told) (o : Outcome) (next : Cursor) : Type 0 where
    pub holds : held from t o ≡ done none
    pub inside : at + n ≤ length s
    pub behind : next ≡ record { at = at + n }

  pub leaf_read : (from : ℕ) (k : Kind) (o : Outcome) (b : Body) (next : Cursor) → (number_of k ≡ 1 → ⊥)
      → body_read k s at n ≡ Ok (b, next) → LeafRead from (body_of s at n k) o next
  unfolding body_read
  leaf_read from k o b next m q = go (body_of s at n k) (leaf_body k m) q
    where
      go : (t : Told) → Leaf s at n t → read_of at n t ≡ Ok (b, next) → LeafRead from t o next
      go (body (Value v)) (a_value i y) w = record { holds = refl; inside = i; behind = sym (ok_halves w).1 }
      go (body Master) (a_value i y) w = absurd y
      go (refused_body c) l w = let x : ◌≡◌ {A = ℕ} 0 1 = cc in absurd (let y : ⊥ = omega arith in y)
      go (body d) (a_refusal c e) w = let x : ◌≡◌ {A = ℕ} 0 1 = cc in absurd (let y : ⊥ = omega arith in y)

-- ---- what an accepted outcome says of the body

pub of_held : {A : Type 0} (from : ℕ) (t : Told) (o : Outcome) (f : Forest) → held from t o ≡ done f
    → (t ≡ master → o ≡ done f → A) → (IsValue t → f ≡ none → A) → A
of_held from (body Master) o f q deeper plain = deeper refl q
of_held from (refused_body c) o f q deeper plain = let x : ◌≡◌ {A = ℕ} 0 1 = cc in absurd (let y : ⊥ = omega arith in y)
of_held from (body (Value v)) o f q deeper plain = plain tt cc
