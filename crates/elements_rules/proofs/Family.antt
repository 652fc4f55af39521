-- A row's parent stands before it and has one depth less (`ParentsBefore`). Assumes nothing.
use Prim.Native.Nat.{ℕ, zero, suc, ◌+◌, ◌<◌}
use mathlib.Core.Path.{◌≡◌, refl, sym, ap, ◌∙◌, subst}
use mathlib.Core.List.{List, [], ◌∷◌, ◌++◌, append_assoc, append-nil}
use mathlib.Core.Bool.{Bool}
use native.Mathlib.Omega.{arith}
use lib.ListN.{length, length-append}
use Rattle.kinds.specs.Kinds.{number_of, kind_under}
use Rattle.elements_rules.specs.Forest.{Element, Forest, none, node, whole, count}
use Rattle.elements_rules.specs.Rows.{row_of, rows, nth}
use Rattle.elements_rules.specs.Stands.{Stands}
use Rattle.elements_rules.specs.Theorems.{Under, direct, below, Family, ParentsBefore}
use Rattle.elements_rules.specs.declared.row.Row.{Row}
use Rattle.elements_rules.proofs.Forests.{length_rows}
use Rattle.elements_rules.proofs.Standing.{read_stands}
use Rattle.elements_rules.proofs.Readback.{accepted_read}

pub nth_before : (rs ss : List Row) (k : ℕ) → k < length rs → nth (rs ++ ss) k ≡ nth rs k
unfolding nth
nth_before [] ss k l = absurd (omega arith)
nth_before (r ∷ rs) ss zero l = refl
nth_before (r ∷ rs) ss (suc k) l = nth_before rs ss k (omega arith)

pub nth_seam : (rs : List Row) (r : Row) (ss : List Row) → nth (rs ++ (r ∷ ss)) (length rs) ≡ r
unfolding nth
nth_seam [] r ss = refl
nth_seam (q ∷ rs) r ss = nth_seam rs r ss

-- What the elements of one body have above them: the caller's parent, or a row before them.
data Parent (parent : ℕ) (before : List Row) (row depth id : ℕ) : Type 0 where
  caller : row ≡ 0 → depth ≡ 0 → id ≡ parent → Parent parent before row depth id
  among :
      (p : ℕ) → p < length before → row ≡ suc p → depth ≡ suc (nth before p).depth → id ≡ (nth before p).id
      → Parent parent before row depth id

module _ (live : Bool) (parent : ℕ) where
  -- More rows do not matter.
  still : (before more : List Row) (row depth id : ℕ) → Parent parent before row depth id
      → Parent parent (before ++ more) row depth id
  still before more row depth id (caller a b c) = caller a b c
  still before more row depth id (among p l a b c) =
      let e = sym (nth_before before more p l) in
      let m = length-append before more in
      among p (omega arith) a (b ∙ ap (λ (r : Row). suc r.depth) e) (c ∙ ap (λ (r : Row). r.id) e)

  under : (before : List Row) (row depth id at after : ℕ) (e : Element) → e.kind ≡ kind_under e.header.id id
      → Parent parent before row depth id → Under parent before (row_of e row depth at after)
  under before row depth id at after e k (caller a b c) =
      direct a b (ap number_of k ∙ ap (λ (i : ℕ). number_of (kind_under e.header.id i)) c)
  under before row depth id at after e k (among p l a b c) =
      below p l a b (ap number_of k ∙ ap (λ (i : ℕ). number_of (kind_under e.header.id i)) c)

  family_append : (before rs ss : List Row) → Family parent before rs → Family parent (before ++ rs) ss
      → Family parent before (rs ++ ss)
  unfolding Family
  family_append before [] ss a b = subst (λ (x : List Row). Family parent x ss) (append-nil before) b
  family_append before (r ∷ rs) ss a b =
      let e : before ++ (r ∷ rs) ≡ (before ++ (r ∷ [])) ++ rs = sym (append_assoc before (r ∷ []) rs) in
      (a.0, family_append (before ++ (r ∷ [])) rs ss a.1 (subst (λ (x : List Row). Family parent x ss) e b))

  family : (s : List ℕ) (before : List Row) (id row depth at n : ℕ) (f : Forest) → length before ≡ n
      → Parent parent before row depth id → Stands live s id at f → Family parent before (rows row depth at n f)
  unfolding Family rows Stands
  family s before id row depth at n none l p i = tt
  family s before id row depth at n (node e kids rest) l p i =
      let r = row_of e row depth at (n + 1 + count kids) in
      let with_row = before ++ (r ∷ []) in
      let seam : nth with_row n ≡ r = ap (nth with_row) (sym l) ∙ nth_seam before r [] in
      let m : length with_row ≡ n + 1 = length-append before (r ∷ []) ∙ (omega arith) in
      let inner = rows (n + 1) (depth + 1) (at + e.header.length) (n + 1) kids in
      let c = length_rows (n + 1) (depth + 1) (at + e.header.length) (n + 1) kids in
      let u : length (with_row ++ inner) ≡ n + 1 + count kids = length-append with_row inner ∙ (omega arith) in
      let here : Parent parent with_row (n + 1) (depth + 1) e.header.id
      = among n (omega arith) (omega arith)
      (sym (ap (λ (x : Row). suc x.depth) seam ∙ (omega arith)))
      (sym (ap (λ (x : Row). x.id) seam)) in (
        under before row depth id at (n + 1 + count kids) e i.0.kind p,
        family_append with_row inner _
            (family s with_row e.header.id (n + 1) (depth + 1) (at + e.header.length) (n + 1) kids m here i.1)
            (family s (with_row ++ inner) id row depth (at + whole e) (n + 1 + count kids) rest u
            (still with_row inner row depth id (still before (r ∷ []) row depth id p)) i.2),
      )

pub parents_before : ParentsBefore
parents_before live s start size parent t n t' p =
    let a = accepted_read live s start size parent t n t' p in
    let (w, i) = read_stands live s start size parent (length t) a.forest a.outcome in
    subst (λ (rs : List Row). Family parent [] rs) (sym a.rows_are)
    (family live parent s [] parent 0 0 start 0 a.forest refl (caller refl refl refl) i)
