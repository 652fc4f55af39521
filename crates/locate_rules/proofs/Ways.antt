-- Steps from master to master: each that is there is one of the rows. Assumes nothing.
use Prim.Native.Nat.{ℕ, zero, suc, ◌+◌, ◌^◌, ◌≤◌, ◌<◌}
use mathlib.Core.Path.{◌≡◌, refl, sym, ap, ◌∙◌, subst}
use mathlib.Core.List.{List, [], ◌∷◌}
use mathlib.Core.Bool.{Bool, true, false, cond}
use native.Mathlib.Omega.{arith}
use lib.ListN.{length, drop, length-drop}
use lib.Dec.{ltb, eqb}
use borrow.Author.Tests.{eq-eqb, ne_eqb}
use Rattle.kinds.specs.declared.kind.Kind.{Kind}
use Rattle.kinds.specs.declared.kind.Kind.TheVariants.{Master}
use Rattle.elements_rules.specs.Rows.{rows_of, nth}
use Rattle.elements_rules.specs.Theorems.{Each, Sound}
use Rattle.elements_rules.specs.declared.row.Row.{Row}
use Rattle.elements_rules.proofs.Numbered.{length_rows_of}
use Rattle.fields_rules.specs.Children.{deeper, subtree, children, last_of, nth_of, rows_in}
use Rattle.fields_rules.specs.Contract.{BelowIs, Within, Readable}
use Rattle.fields_rules.specs.declared.child.Below.{Below}
use Rattle.fields_rules.proofs.Picked.{IsChild, last_is, nth_is}
use Rattle.locate_rules.specs.Steps.{spot_of, stepped, entered, reached}
use Rattle.locate_rules.specs.Contract.{Known, Numbered, Stands, FindMet}
use Rattle.locate_rules.specs.declared.steps.Step.{Step}
use Rattle.locate_rules.specs.declared.steps.Step.TheVariants.{Here, Only, Nth, Last}
use Rattle.locate_rules.specs.declared.steps.Way.{Way}
use Rattle.std.proofs.Common.{Option, Some, None}

-- ---- the rows below a master are some of the rows

deeper_fewer : (depth : ℕ) (rs : List Row) → length (deeper depth rs) ≤ length rs
unfolding deeper
deeper_fewer depth [] = omega arith
deeper_fewer depth (r ∷ rs) = go (ltb depth r.depth) (deeper_fewer depth rs)
  where
    go : (b : Bool) → length (deeper depth rs) ≤ length rs
        → length (cond b (r ∷ deeper depth rs) []) ≤ suc (length rs)
    go true l = omega arith
    go false l = omega arith

pub subtree_fits : (rs : List Row) (parent : ℕ) → parent ≤ length rs
    → parent + length (subtree rs parent) ≤ length rs
unfolding subtree
subtree_fits rs zero l = omega arith
subtree_fits rs (suc n) l =
    let d = deeper_fewer (nth rs n).depth (drop (suc n) rs) in
    let e = length-drop (suc n) rs in
    omega arith

each_deeper : (P : Row → Type 0) (depth : ℕ) (rs : List Row) → Each P rs → Each P (deeper depth rs)
unfolding deeper Each
each_deeper P depth [] a = tt
each_deeper P depth (r ∷ rs) a = go (ltb depth r.depth) (each_deeper P depth rs a.1)
  where
    go : (b : Bool) → Each P (deeper depth rs) → Each P (cond b (r ∷ deeper depth rs) [])
    go true e = (a.0, e)
    go false e = tt

each_drop : (P : Row → Type 0) (n : ℕ) (rs : List Row) → Each P rs → Each P (drop n rs)
unfolding Each
each_drop P zero rs a = a
each_drop P (suc n) [] a = a
each_drop P (suc n) (r ∷ rs) a = each_drop P n rs a.1

each_below : (P : Row → Type 0) (rs : List Row) (parent : ℕ) → Each P rs → Each P (subtree rs parent)
unfolding subtree
each_below P rs zero a = a
each_below P rs (suc n) a = each_deeper P (nth rs n).depth (drop (suc n) rs) (each_drop P (suc n) rs a)

-- ---- the rows of a master that stands among those that were read

module _ {s t : List ℕ} {rows : ℕ} {b : Below} (h : Stands s t rows b) where
  pub readable : Readable s t b
  readable =
      record {
        within = record {
          some = h.below.some;
          held = omega (arith, h.filled.ordered.held, h.below.held);
          steps = h.below.steps;
        };
        short = h.filled.short;
        sound =
            subst (Each (Sound s)) (sym h.below.are)
            (each_below (Sound s) (rows_of t rows) b.parent h.filled.sound);
      }

  pub within : Within t b
  within = readable.within

-- ---- a child is one of the rows

module _ (rs : List Row) (parent id : ℕ) (kind : Kind) (l : parent ≤ length rs) where
  child_known : (n : ℕ) (r : Row) → IsChild (subtree rs parent) parent parent id kind n r → suc n ≤ length rs
  child_known n r i = let f = subtree_fits rs parent l in omega (arith, i.before)

  nth_known : (k n : ℕ) (r : Row) → Some (n, r) ≡ nth_of k (children parent id kind (subtree rs parent))
      → suc n ≤ length rs
  nth_known k n r e = child_known n r (nth_is parent id kind (subtree rs parent) k n r e)

  pub last_known : (n : ℕ) (r : Row) → Some (n, r) ≡ last_of (children parent id kind (subtree rs parent))
      → suc n ≤ length rs
  last_known n r e = child_known n r (last_is parent id kind (subtree rs parent) n r e)

-- ---- a step

module _ (rs : List Row) where
  spot_known : (c : Option (ℕ × Row)) → ((n : ℕ) (r : Row) → Some (n, r) ≡ c → suc n ≤ length rs)
      → Known (length rs) (spot_of c)
  spot_known None f = tt
  spot_known (Some (n, r)) f = f n r refl

  only_known : (b : Bool) (parent : ℕ) → parent ≤ length rs → Known (length rs) (cond b (Some parent) None)
  only_known true parent l = l
  only_known false parent l = tt

  stepped_known : (parent : ℕ) (step : Step) → parent ≤ length rs → Known (length rs) (stepped rs parent step)
  stepped_known parent Here l = l
  stepped_known parent (Only k) l = only_known (eqb k 0) parent l
  stepped_known parent (Nth id k) l =
      spot_known (nth_of k (children parent id Master (subtree rs parent))) (nth_known rs parent id Master l k)
  stepped_known parent (Last id) l =
      spot_known (last_of (children parent id Master (subtree rs parent))) (last_known rs parent id Master l)

  entered_known : (from : Option ℕ) (step : Step) → Known (length rs) from → Known (length rs) (entered rs from step)
  entered_known None step l = tt
  entered_known (Some parent) step l = stepped_known parent step l

  -- Where a way leads is one of the rows.
  pub reached_known : (w : Way) → Known (length rs) (reached rs w)
  unfolding reached
  reached_known w =
      let one = entered_known (Some 0) w.first (omega arith) in
      let two = entered_known (entered rs (Some 0) w.first) w.second one in
      entered_known (entered rs (entered rs (Some 0) w.first) w.second) w.third two

-- ---- as the code has it: the rows of a table, and the spot that it came to

pub still_known : (t : List ℕ) (rows parent : ℕ) (step : Step) {to : Option ℕ} → parent ≤ rows
    → to ≡ stepped (rows_of t rows) parent step → {next : ℕ} → to ≡ Some next → next ≤ rows
still_known t rows parent step l e f =
    let c = length_rows_of t rows in
    let k = stepped_known (rows_of t rows) parent step (rw (← c) at l) in
    subst (Known rows) (sym e ∙ f) (subst (λ (m : ℕ). Known m (stepped (rows_of t rows) parent step)) c k)

module _ {t : List ℕ} {rows parent : ℕ} {b : Below} (m : BelowIs t rows parent b) where
  -- The children in the table are those below the master.
  kids : (id : ℕ) (kind : Kind) → children b.parent id kind (rows_in t b)
      ≡ children parent id kind (subtree (rows_of t rows) parent)
  kids id kind =
      ap (λ (x : ℕ). children x id kind (rows_in t b)) m.master ∙ ap (children parent id kind) m.are

  low : parent ≤ length (rows_of t rows)
  low = omega (arith, length_rows_of t rows, m.master, m.some, m.held)

  numbered : rows < 2 ^ 64 → (c : Option (ℕ × Row)) → ((n : ℕ) (r : Row) → Some (n, r) ≡ c → suc n ≤ length (rows_of t rows))
      → Numbered c
  numbered u None f = tt
  numbered u (Some (n, r)) f = omega (arith, length_rows_of t rows, f n r refl)

  module _ (id : ℕ) {c : (Option (ℕ × Row))} where
    pub nth_numbered : (k : ℕ) → rows < 2 ^ 64 → c ≡ nth_of k (children b.parent id Master (rows_in t b))
        → Numbered c
    nth_numbered k u e =
        numbered u c (λ n r q. nth_known _ parent id Master low k n r (q ∙ e ∙ ap (nth_of k) (kids id Master)))

    pub last_numbered : rows < 2 ^ 64 → c ≡ last_of (children b.parent id Master (rows_in t b)) → Numbered c
    last_numbered u e =
        numbered u c (λ n r q. last_known _ parent id Master low n r (q ∙ e ∙ ap last_of (kids id Master)))

  -- A step to a child.
  module _ {id : ℕ} {to : (Option ℕ)} {step : Step} {c : (Option (ℕ × Row))} (q : to ≡ spot_of c) where
    pub nth_step : {k : ℕ} → step ≡ Nth id k → c ≡ nth_of k (children b.parent id Master (rows_in t b))
        → to ≡ stepped (rows_of t rows) parent step
    nth_step {k} f e = rw f (q ∙ ap spot_of (e ∙ ap (nth_of k) (kids id Master)))

    pub last_step : step ≡ Last id → c ≡ last_of (children b.parent id Master (rows_in t b))
        → to ≡ stepped (rows_of t rows) parent step
    last_step f e = rw f (q ∙ ap spot_of (e ∙ ap last_of (kids id Master)))

pub spot_fits : {c : (Option (ℕ × Row))} {n : ℕ} {r : Row} → Numbered c → c ≡ Some (n, r) → n + 1 < 2 ^ 64
spot_fits l e = let g = subst Numbered e l in omega arith

pub spot_at : {c : (Option (ℕ × Row))} {n : ℕ} {r : Row} → c ≡ Some (n, r) → Some (n + 1) ≡ spot_of c
spot_at {c} {n} e = let m : n + 1 ≡ suc n = omega arith in rw (e, m)

-- A step that stays.
module _ (rs : List Row) (step : Step) (parent : ℕ) where
  pub stays : step ≡ Here → Some parent ≡ stepped rs parent step
  stays f = rw f

  pub only_here : {k : ℕ} → step ≡ Only k → k ≡ 0 → Some parent ≡ stepped rs parent step
  only_here {k} f z = rw (f, eq-eqb k 0 z)

  pub only_none : {k : ℕ} → step ≡ Only k → (k ≡ 0 → ⊥) → None ≡ stepped rs parent step
  only_none {k} f z = rw (f, ne_eqb k 0 z)

-- The way is a step for each level: it ends at the first that leads nowhere.
module _ (t : List ℕ) (rows : ℕ) (w : Way) {one : (Option ℕ)} (a : one ≡ stepped (rows_of t rows) 0 w.first) where
  abbrev from : Option ℕ → Option ℕ
  from x = entered (rows_of t rows) (entered (rows_of t rows) x w.second) w.third

  to_first : (x : Option ℕ) → one ≡ x → reached (rows_of t rows) w ≡ from x
  unfolding reached
  to_first x e = ap from (sym a ∙ e)

  pub none_first : one ≡ None → FindMet t rows w None
  none_first e = record { leads = to_first None e }

  module _ {p : ℕ} (x : one ≡ Some p) {two : (Option ℕ)} (b : two ≡ stepped (rows_of t rows) p w.second) where
    to_second : (y : Option ℕ) → two ≡ y → reached (rows_of t rows) w ≡ entered (rows_of t rows) y w.third
    to_second y e = to_first (Some p) x ∙ ap (λ (z : Option ℕ). entered (rows_of t rows) z w.third) (sym b ∙ e)

    pub none_second : two ≡ None → FindMet t rows w None
    none_second e = record { leads = to_second None e }

    module _ {q : ℕ} (y : two ≡ Some q) {to : (Option ℕ)} (c : to ≡ stepped (rows_of t rows) q w.third) where
      gone : reached (rows_of t rows) w ≡ to
      gone = to_second (Some q) y ∙ sym c

      pub none_third : to ≡ None → FindMet t rows w None
      none_third e = record { leads = gone ∙ e }

      pub leads_to : {parent : ℕ} {m : Below} → to ≡ Some parent → BelowIs t rows parent m → FindMet t rows w (Some m)
      leads_to {parent} {m} e h =
          record {
            leads = (
              gone ∙ e ∙ ap Some (sym h.master),
              subst (λ (x : ℕ). BelowIs t rows x m) (sym h.master) h,
            );
          }
