-- What is proved of the definitions beside the contracts: the statements of the theorems.
use Rattle.std.specs.Prelude.{ℕ, ◌+◌, ◌≤◌, ◌<◌, ◌≡◌, List, Bool, true, false, length}
use Rattle.kinds.specs.declared.kind.Kind.{Kind}
use Rattle.elements_rules.specs.Rows.{rows_of, nth}
use Rattle.elements_rules.specs.Promise.{ReadPromise}
use Rattle.elements_rules.specs.declared.row.Row.{Row}
use Rattle.fields_rules.specs.Children.{subtree, fits, children_from, children, last_of}
use Rattle.fields_rules.specs.Contract.{AllJump}
use Rattle.std.specs.Prelude.{Option, Ok, Some, None}

-- The last of the rows below a master that is a direct child of this id and kind, or that none is.
pub data Last (parent id : ℕ) (kind : Kind) (below : List Row) (c : Option (ℕ × Row)) : Type 0 where
  none :
      c ≡ None → ((m : ℕ) → m < length below → fits parent id kind (nth below m) ≡ false)
      → Last parent id kind below c
  last :
      (k : ℕ) → k < length below → fits parent id kind (nth below k) ≡ true → c ≡ Some (parent + k, nth below k)
      → ((m : ℕ) → k < m → m < length below → fits parent id kind (nth below m) ≡ false)
      → Last parent id kind below c

-- A field is taken from just that row.
abbrev pub LastIsLast : Type 0
LastIsLast =
    (parent id : ℕ) (kind : Kind) (below : List Row)
    → Last parent id kind below (last_of (children parent id kind below))

-- No direct child of a master stands outside the rows below it: the rows that follow while they are deeper are all
-- that need to be looked at.
abbrev pub SubtreeIsEnough : Type 0
SubtreeIsEnough =
    (live : Bool) (s : List ℕ) (start size under : ℕ) (t : List ℕ) (n : ℕ) (t' : List ℕ)
    → ReadPromise live s start size under t (Ok n) t'
    → (parent id : ℕ) (kind : Kind) → parent ≤ n
    → children parent id kind (subtree (rows_of t' n) parent) ≡ children_from 0 parent id kind (rows_of t' n)

-- After an accepted read each row jumps over the rows below it.
abbrev pub AllJumpAfterRead : Type 0
AllJumpAfterRead =
    (live : Bool) (s : List ℕ) (start size under : ℕ) (t : List ℕ) (n : ℕ) (t' : List ℕ)
    → ReadPromise live s start size under t (Ok n) t' → AllJump t' n
