-- Where the payload is read, exactly one row holds the address, and the reply names it (`OneRowOwns`). Assumes nothing.
use Prim.Native.Nat.{ℕ, zero, suc, ◌+◌, ◌-◌, ◌*◌, ◌≤◌, ◌<◌}
use mathlib.Core.Path.{◌≡◌, refl, sym, ap, ◌∙◌, subst}
use mathlib.Core.List.{List, [], ◌∷◌, ◌++◌}
use mathlib.Core.Logic.{◌⊎◌, inl, inr, ⊎_elim}
use mathlib.Core.Bool.{Bool, true, false, ◌||◌}
use native.Mathlib.Nat.{zero-add}
use native.Mathlib.Omega.{arith}
use lib.ListN.{length}
use borrow.Author.Tests.{not-false}
use Rattle.refusals.specs.Reply.{accepted}
use Rattle.elements_rules.specs.Forest.{Forest, count}
use Rattle.elements_rules.specs.Reading.{done}
use Rattle.elements_rules.specs.Rows.{rows, width, flatten, rows_of, nth}
use Rattle.elements_rules.specs.Holds.{within, in_header, in_leaf, one, holders}
use Rattle.elements_rules.specs.Promise.{read_of, zeros, table_of}
use Rattle.elements_rules.specs.declared.row.Row.{Row}
use Rattle.elements_rules.proofs.Forests.{length_rows}
use Rattle.elements_rules.proofs.Outcomes.{passes, of_refuse}
use Rattle.elements_rules.proofs.Partition.{covered}
use Rattle.elements_rules.proofs.Readback.{rows_back}
use Rattle.places_rules.specs.Whose.{Whose, by_header, by_payload, holder_in, whose_in, asked_of, whose_of}
use Rattle.places_rules.specs.Promise.{whose_told, WhosePromise}
use Rattle.places_rules.specs.Theorems.{Owner, OneRowOwns}
use Rattle.places_rules.specs.declared.whose.WhoseRow.TheVariants.{Header, Payload}
use Rattle.places_rules.proofs.Unique.{replied, replied_back}
use Rattle.std.proofs.Common.{Result, Ok}
use Rattle.refusals.specs.declared.refusal.Refusal.{Refusal}
use Rattle.places_rules.specs.declared.whose.WhoseRow.{WhoseRow}

-- ---- rows

abbrev holds : Row → ℕ → Bool
holds r x = in_header r x || in_leaf r x

one_holds : (a b : Bool) → (a || b) ≡ true → 1 ≤ one a + one b
one_holds true b q = omega arith
one_holds false true q = omega arith
one_holds false false q = let z : ◌≡◌ {A = ℕ} 0 1 = cc in absurd (omega arith)

-- A row that holds the address counts.
counted : (rs : List Row) (m x : ℕ) → m < length rs → holds (nth rs m) x ≡ true → 1 ≤ holders rs x
unfolding holders nth
counted [] m x l q = absurd (omega arith)
counted (r ∷ rs) zero x l q = let h = one_holds (in_header r x) (in_leaf r x) q in omega arith
counted (r ∷ rs) (suc m) x l q = let h = counted rs m x (omega arith) q in omega arith

-- Of rows whose first is row k: the one that holds the address, as the reply tells it.
record Found (rs : List Row) (k total x : ℕ) : Type 0 where
  n : ℕ
  there : n < length rs
  only : (m : ℕ) → m < length rs → holds (nth rs m) x ≡ true → m ≡ n
  which :
      ((whose_in rs k total x ≡ accepted (by_header (k + n) total)) × (in_header (nth rs n) x ≡ true))
      ⊎ ((whose_in rs k total x ≡ accepted (by_payload (k + n) total)) × (in_leaf (nth rs n) x ≡ true))

-- The first row holds it, and no row behind does.
only_first : (r : Row) (rs : List Row) (x : ℕ) → holders rs x ≡ 0
    → (m : ℕ) → m < length (r ∷ rs) → holds (nth (r ∷ rs) m) x ≡ true → m ≡ 0
unfolding nth
only_first r rs x z zero l q = refl
only_first r rs x z (suc m) l q = let h = counted rs m x (omega arith) q in absurd (omega arith)

only_later : (r : Row) (rs : List Row) (x n : ℕ) → holds r x ≡ false
    → ((m : ℕ) → m < length rs → holds (nth rs m) x ≡ true → m ≡ n)
    → (m : ℕ) → m < length (r ∷ rs) → holds (nth (r ∷ rs) m) x ≡ true → m ≡ suc n
unfolding nth
only_later r rs x n e o zero l q = let z : ◌≡◌ {A = ℕ} 0 1 = cc in absurd (omega arith)
only_later r rs x n e o (suc m) l q = ap suc (o m (omega arith) q)

module _ (r : Row) (rs : List Row) (k total x : ℕ) where
  by_header_law : in_header r x ≡ true → holders rs x ≡ 0 → Found (r ∷ rs) k total x
  unfolding whose_in holder_in nth
  by_header_law e z =
      let first : k ≡ k + 0 = omega arith in
      record {
        n = 0;
        there = omega arith;
        only = only_first r rs x z;
        which = inl (rw e (ap (λ (m : ℕ). accepted (by_header m total)) first), e);
      }

  by_payload_law : in_header r x ≡ false → in_leaf r x ≡ true → holders rs x ≡ 0 → Found (r ∷ rs) k total x
  unfolding whose_in holder_in nth
  by_payload_law d e z =
      let first : k ≡ k + 0 = omega arith in
      record {
        n = 0;
        there = omega arith;
        only = only_first r rs x z;
        which = inr (rw (d, e) (ap (λ (m : ℕ). accepted (by_payload m total)) first), e);
      }

  by_later : in_header r x ≡ false → in_leaf r x ≡ false → Found rs (k + 1) total x → Found (r ∷ rs) k total x
  unfolding whose_in holder_in nth
  by_later d e f =
      let next : k + 1 + f.n ≡ k + suc f.n = omega arith in
      record {
        n = suc f.n;
        there = omega (arith, f.there);
        only = only_later r rs x f.n (rw (d, e)) f.only;
        which =
            ⊎_elim
            (λ (h : By by_header in_header).
            inl (rw (d, e) (h.0 ∙ ap (λ (m : ℕ). accepted (by_header m total)) next), h.1))
            (λ (h : By by_payload in_leaf).
            inr (rw (d, e) (h.0 ∙ ap (λ (m : ℕ). accepted (by_payload m total)) next), h.1))
            f.which;
      }
    where
      By : (ℕ → ℕ → Whose) → (Row → ℕ → Bool) → Type 0
      By by holds_it =
          (whose_in rs (k + 1) total x ≡ accepted (by (k + 1 + f.n) total)) × (holds_it (nth rs f.n) x ≡ true)

  -- One of the ways, since the row and the rows behind it are counted once together.
  by_cases :
      (a : Bool) → in_header r x ≡ a → (b : Bool) → in_leaf r x ≡ b → one a + one b + holders rs x ≡ 1
      → (holders rs x ≡ 1 → Found rs (k + 1) total x) → Found (r ∷ rs) k total x
  by_cases true d b e q next = by_header_law d (omega arith)
  by_cases false d true e q next = by_payload_law d e (omega arith)
  by_cases false d false e q next = by_later d e (next (omega arith))

found : (rs : List Row) (k total x : ℕ) → holders rs x ≡ 1 → Found rs k total x
unfolding holders
found [] k total x q = absurd (omega arith)
found (r ∷ rs) k total x q =
    by_cases r rs k total x (in_header r x) refl (in_leaf r x) refl q (λ z. found rs (k + 1) total x z)

-- ---- the question

-- What was asked and read: the address lies in the payload, and the payload was read.
pub asked_done : (live : Bool) (s : List ℕ) (start size parent x numbers : ℕ) (f : Forest)
    → asked_of live s start size parent x numbers ≡ done f
    → (within start size x ≡ true) × (read_of live s start size parent numbers ≡ done f)
unfolding asked_of read_of
asked_done live s start size parent x numbers f q =
    let a = of_refuse _ _ _ q in
    let b = of_refuse _ _ _ a.1 in
    (not-false _ b.0, passes _ _ _ a.0 ∙ b.1)

-- The table holds the rows that were read.
pub table_rows :
    (live : Bool) (s : List ℕ) (start size parent x : ℕ) (t : List ℕ) (r : Result WhoseRow Refusal) (t' : List ℕ) (f : Forest)
    → WhosePromise live s start size parent x t r t' → asked_of live s start size parent x (length t) ≡ done f
    → rows_of t' (count f) ≡ rows 0 0 start 0 f
unfolding table_of
table_rows live s start size parent x t r t' f p q =
    let rs = rows 0 0 start 0 f in
    let w = p.table ∙ ap (table_of start (length t)) q in
    ap (λ (u : List ℕ). rows_of u (count f)) w
    ∙ ap (rows_of (flatten rs ++ zeros (length t - count f * width))) (sym (length_rows 0 0 start 0 f))
    ∙ rows_back rs (zeros (length t - count f * width))

pub row_owns : OneRowOwns
row_owns live s start size parent x t r t' f p q =
    let (i, o) = asked_done live s start size parent x (length t) f q in
    let rs = rows 0 0 start 0 f in
    let h : holders rs x ≡ 1 = covered live s start size parent (length t) f o x ∙ ap one i in
    let g = found rs 0 (count f) x h in
    let c : count f ≡ length rs = sym (length_rows 0 0 start 0 f) in
    let y : whose_told r ≡ whose_in rs 0 (count f) x = p.reply ∙ ap (whose_of start x) q in
    let k : 0 + g.n ≡ g.n = zero-add g.n in
    subst (λ (us : List Row). Owner us x r) (sym (table_rows live s start size parent x t r t' f p q))
    (record {
      row = g.n;
      there = g.there;
      only = g.only;
      which =
          ⊎_elim
          (λ d. inl (
            sym (replied_back r) ∙ ap replied (y ∙ d.0) ∙ ap (λ (m : ℕ). Ok (Header m (count f))) k
                ∙ ap (λ (m : ℕ). Ok (Header g.n m)) c,
            d.1,
          ))
          (λ d. inr (
            sym (replied_back r) ∙ ap replied (y ∙ d.0) ∙ ap (λ (m : ℕ). Ok (Payload m (count f))) k
                ∙ ap (λ (m : ℕ). Ok (Payload g.n m)) c,
            d.1,
          ))
          g.which;
    })
