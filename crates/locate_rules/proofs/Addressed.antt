-- Every address in a record is the payload's place of a row of the table (`Addressed`), for any fields. Assumes
-- nothing.
use Prim.Native.Nat.{ℕ, zero, suc, ◌+◌, ◌-◌, ◌*◌, ◌≤◌, ◌<◌}
use mathlib.Core.Path.{◌≡◌, refl, sym, ap, ◌∙◌, subst}
use mathlib.Core.List.{List, [], ◌∷◌}
use mathlib.Core.Bool.{Bool, true, false, cond}
use native.Mathlib.Omega.{arith}
use lib.ListN.{length, drop}
use lib.Dec.{ltb}
use Rattle.kinds.specs.declared.kind.Kind.{Kind}
use Rattle.kinds.specs.declared.kind.Kind.TheVariants.{Uint, String, Utf8, Binary, Float, Date}
use Rattle.elements_rules.specs.Reading.{Outcome, done, refused}
use Rattle.elements_rules.specs.Rows.{rows, width, rows_of, nth}
use Rattle.elements_rules.specs.Promise.{read_of, zeros}
use Rattle.elements_rules.specs.declared.row.Row.{Row}
use Rattle.elements_rules.proofs.Readback.{rows_back}
use Rattle.fields_rules.specs.Children.{deeper, subtree, children, last_of, nth_of}
use Rattle.fields_rules.specs.Values.{FieldValue, text, binary}
use Rattle.fields_rules.specs.Values.{number_in, flag_in, content_in, real_in, date_in, language_in, value_in}
use Rattle.fields_rules.specs.Fields.{number_of, flag_of, content_of, real_of, date_of, language_of, value_of, count_of}
use Rattle.fields_rules.proofs.Picked.{IsChild, last_is, nth_is}
use Rattle.locate_rules.specs.Steps.{reached}
use Rattle.locate_rules.specs.Asked.{Asked, found, refusing, settled, sought, asked, has_member, listed}
use Rattle.locate_rules.specs.Told.{fields}
use Rattle.locate_rules.specs.Contract.{Known}
use Rattle.locate_rules.specs.Promise.{RecordPromise}
use Rattle.locate_rules.specs.Theorems.{PayloadOf, Placed, AllPlaced, Addressed}
use Rattle.locate_rules.specs.declared.steps.Way.{Way}
use Rattle.locate_rules.proofs.Ways.{subtree_fits, reached_known}
use Rattle.std.proofs.Common.{Option, Some, None}

-- ---- a row below a master is one of the rows

nth_deeper : (depth : ℕ) (rs : List Row) (k : ℕ) → k < length (deeper depth rs) → nth (deeper depth rs) k ≡ nth rs k
unfolding deeper nth
nth_deeper depth [] k l = refl
nth_deeper depth (r ∷ rs) k l = go (ltb depth r.depth) k (λ m. nth_deeper depth rs m) l
  where
    go : (b : Bool) (k : ℕ) → ((m : ℕ) → m < length (deeper depth rs) → nth (deeper depth rs) m ≡ nth rs m)
        → k < length (cond b (r ∷ deeper depth rs) []) → nth (cond b (r ∷ deeper depth rs) []) k ≡ nth (r ∷ rs) k
    go true zero more l = refl
    go true (suc k) more l = more k (omega arith)
    go false k more l = absurd (omega arith)

nth_drop : (rs : List Row) (m k : ℕ) → nth (drop m rs) k ≡ nth rs (m + k)
unfolding nth
nth_drop rs zero k = ap (nth rs) (let e : k ≡ 0 + k = omega arith in e)
nth_drop [] (suc m) k = refl
nth_drop (r ∷ rs) (suc m) k =
    let e : suc m + k ≡ suc (m + k) = omega arith in
    nth_drop rs m k ∙ sym (ap (nth (r ∷ rs)) e)

nth_below : (rs : List Row) (parent k : ℕ) → k < length (subtree rs parent)
    → nth (subtree rs parent) k ≡ nth rs (parent + k)
unfolding subtree
nth_below rs zero k l = ap (nth rs) (let e : k ≡ 0 + k = omega arith in e)
nth_below rs (suc n) k l = nth_deeper (nth rs n).depth (drop (suc n) rs) k l ∙ nth_drop rs (suc n) k

-- ---- the fields of a master

module _ (s : List ℕ) (rs : List Row) (parent : ℕ) (l : parent ≤ length rs) where
  -- A child below the master is one of the rows.
  is_row : (id : ℕ) (kind : Kind) (n : ℕ) (r : Row) → IsChild (subtree rs parent) parent parent id kind n r
      → (n < length rs) × (nth rs n ≡ r)
  is_row id kind n r i =
      let f = subtree_fits rs parent l in
      let m : n - parent < length (subtree rs parent) = omega (arith, i.since, i.before) in
      let d : parent + (n - parent) ≡ n = omega (arith, i.since) in (
        omega (arith, i.before),
        sym (nth_below rs parent (n - parent) m ∙ ap (nth rs) d) ∙ i.row,
      )

  -- So is the last one that was found.
  pub child_row : (id : ℕ) (kind : Kind) (n : ℕ) (r : Row)
      → Some (n, r) ≡ last_of (children parent id kind (subtree rs parent)) → (n < length rs) × (nth rs n ≡ r)
  child_row id kind n r e = is_row id kind n r (last_is parent id kind (subtree rs parent) n r e)

  -- So its payload is that of a row.
  is_payload : (id : ℕ) (kind : Kind) (n : ℕ) (r : Row) → IsChild (subtree rs parent) parent parent id kind n r
      → PayloadOf rs (r.address + r.header) r.payload
  is_payload id kind n r i =
      let (there, q) = is_row id kind n r i in
      record {
        row = n;
        there = there;
        begins = ap (λ (x : Row). x.address + x.header) q;
        long = ap (λ (x : Row). x.payload) q;
      }

  pub number_placed : (c : Option (ℕ × Row)) → Placed rs (number_in s c)
  number_placed None = tt
  number_placed (Some (n, r)) = tt

  flag_placed : (c : Option (ℕ × Row)) → Placed rs (flag_in s c)
  flag_placed None = tt
  flag_placed (Some (n, r)) = tt

  real_placed : (c : Option (ℕ × Row)) → Placed rs (real_in s c)
  real_placed None = tt
  real_placed (Some (n, r)) = tt

  date_placed : (c : Option (ℕ × Row)) → Placed rs (date_in s c)
  date_placed None = tt
  date_placed (Some (n, r)) = tt

  -- A child whose payload is a row's, if it is there.
  abbrev Paid : Option (ℕ × Row) → Type 0
  Paid None = Unit
  Paid (Some (n, r)) = PayloadOf rs (r.address + r.header) r.payload

  paid : (id : ℕ) (kind : Kind) → Paid (last_of (children parent id kind (subtree rs parent)))
  paid id kind = go (last_of (children parent id kind (subtree rs parent))) refl
    where
      go : (c : Option (ℕ × Row)) → last_of (children parent id kind (subtree rs parent)) ≡ c → Paid c
      go None e = tt
      go (Some (n, r)) e = is_payload id kind n r (last_is parent id kind (subtree rs parent) n r (sym e))

  nth_paid : (id : ℕ) (kind : Kind) (k : ℕ) → Paid (nth_of k (children parent id kind (subtree rs parent)))
  nth_paid id kind k = go (nth_of k (children parent id kind (subtree rs parent))) refl
    where
      go : (c : Option (ℕ × Row)) → nth_of k (children parent id kind (subtree rs parent)) ≡ c → Paid c
      go None e = tt
      go (Some (n, r)) e = is_payload id kind n r (nth_is parent id kind (subtree rs parent) k n r (sym e))

  part_placed : (c : Option (ℕ × Row)) → Paid c → Placed rs (content_in c)
  part_placed None p = tt
  part_placed (Some (n, r)) p = p

  language_placed : (c d : Option (ℕ × Row)) → Paid c → Paid d → Placed rs (language_in c d)
  language_placed (Some (n, r)) d p q = p
  language_placed None (Some (n, r)) p q = q
  language_placed None None p q = tt

  value_placed : (c d : Option (ℕ × Row)) → Paid c → Paid d → Placed rs (value_in c d)
  value_placed None None p q = tt
  value_placed (Some (n, r)) None p q = p
  value_placed None (Some (m, x)) p q = q
  value_placed (Some (n, r)) (Some (m, x)) p q = go (ltb n m)
    where
      go : (b : Bool)
          → Placed rs
          (cond b (binary (x.address + x.header) x.payload) (text (r.address + r.header) r.payload))
      go true = q
      go false = p

  abbrev below : List Row
  below = subtree rs parent

  pub numbers : (id : ℕ) → Placed rs (number_of s parent below id)
  unfolding number_of
  numbers id = number_placed (last_of (children parent id Uint below))

  pub flags : (id : ℕ) → Placed rs (flag_of s parent below id)
  unfolding flag_of
  flags id = flag_placed (last_of (children parent id Uint below))

  pub reals : (id : ℕ) → Placed rs (real_of s parent below id)
  unfolding real_of
  reals id = real_placed (last_of (children parent id Float below))

  pub dates : (id : ℕ) → Placed rs (date_of s parent below id)
  unfolding date_of
  dates id = date_placed (last_of (children parent id Date below))

  -- A member of a list of texts or bytes.
  pub members : (id : ℕ) (kind : Kind) (k : ℕ) → Placed rs (content_in (nth_of k (children parent id kind below)))
  members id kind k = part_placed (nth_of k (children parent id kind below)) (nth_paid id kind k)

  pub parts : (id : ℕ) (kind : Kind) → Placed rs (content_of s parent below id kind)
  unfolding content_of
  parts id kind = part_placed (last_of (children parent id kind below)) (paid id kind)

  pub languages : (isos ietfs : ℕ) → Placed rs (language_of s parent below isos ietfs)
  unfolding language_of
  languages isos ietfs =
      language_placed (last_of (children parent ietfs String below)) (last_of (children parent isos String below))
      (paid ietfs String) (paid isos String)

  pub values : (texts binaries : ℕ) → Placed rs (value_of s parent below texts binaries)
  unfolding value_of
  values texts binaries =
      value_placed (last_of (children parent texts Utf8 below)) (last_of (children parent binaries Binary below))
      (paid texts Utf8) (paid binaries Binary)

  pub counts : (id : ℕ) (kind : Kind) → Placed rs (count_of s parent below id kind)
  unfolding count_of
  counts id kind = tt

-- ---- the question

-- A master that was found is one of the rows.
abbrev pub Known-in : Asked → Type 0
Known-in (found rs parent) = parent ≤ length rs
Known-in (refusing e) = Unit

settled_in : (rs : List Row) (to : Option ℕ) → Known (length rs) to → Known-in (settled rs to)
settled_in rs None k = tt
settled_in rs (Some parent) k = k

pub asked_in : (live : Bool) (s : List ℕ) (start size parent numbers : ℕ) (w : Way)
    → Known-in (asked live s start size parent numbers w)
unfolding asked
asked_in live s start size parent numbers w = go (read_of live s start size parent numbers)
  where
    go : (o : Outcome) → Known-in (sought start o (λ rs. reached rs w))
    go (refused e) = tt
    go (done f) = let rs = rows 0 0 start 0 f in settled_in rs (reached rs w) (reached_known rs w)

listed_in : (a : Asked) (member : List Row → ℕ → Option (ℕ × Row)) → Known-in a → Known-in (listed a member)
listed_in (refusing e) member k = tt
listed_in (found rs parent) member k = go (member rs parent)
  where
    go : (c : Option (ℕ × Row)) → Known-in (has_member (found rs parent) c)
    go None = tt
    go (Some (n, r)) = k

addressed :
    (values : List Row → ℕ → List FieldValue) (a : Asked) (numbers : ℕ) (vs : List FieldValue) (n : ℕ) (t' : List ℕ)
    → ((rs : List Row) (parent : ℕ) → parent ≤ length rs → AllPlaced rs (values rs parent)) → Known-in a
    → RecordPromise values a numbers (fields vs n) t' → AllPlaced (rows_of t' n) vs
addressed values (refusing e) numbers vs n t' f k p =
    let q = p.reply in
    let z : ◌≡◌ {A = ℕ} 0 1 = cc in absurd (omega arith)
addressed values (found rs parent) numbers vs n t' f k p =
    let q = p.reply in
    let e : vs ≡ values rs parent = cc in
    let m : n ≡ length rs = cc in
    let w : rows_of t' n ≡ rs = rw (p.table, m) (rows_back rs (zeros (numbers - length rs * width))) in
    subst (λ (x : List Row). AllPlaced x vs) (sym w) (subst (AllPlaced rs) (sym e) (f rs parent k))

-- A question whose values are placed among any rows is addressed.
module _ (live : Bool) (values : List Row → ℕ → List FieldValue)
    (f : (rs : List Row) (master : ℕ) → master ≤ length rs → AllPlaced rs (values rs master))
    (s : List ℕ) (start size parent : ℕ) (w : Way) where
  abbrev ask : ℕ → Asked
  ask numbers = asked live s start size parent numbers w

  pub asked_addressed : Addressed values ask
  asked_addressed numbers vs n t' =
      addressed values (ask numbers) numbers vs n t' f (asked_in live s start size parent numbers w)

  -- The same of a member of one of its lists.
  pub listed_addressed : (member : List Row → ℕ → Option (ℕ × Row)) → Addressed values (λ numbers. listed (ask numbers) member)
  listed_addressed member numbers vs n t' =
      addressed values (listed (ask numbers) member) numbers vs n t' f
      (listed_in (ask numbers) member (asked_in live s start size parent numbers w))
