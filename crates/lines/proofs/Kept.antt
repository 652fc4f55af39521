-- What is held stays an end of what was gathered and put.
use mathlib.Core.Logic.{◌⊎◌, inl, inr}
use mathlib.Core.Path.{◌≡◌, refl, sym, ap, ◌∙◌, subst}
use Rattle.std.proofs.Common.{ℕ, List, [], ◌++◌, Option, Some, None}
use Rattle.std.proofs.lemmas.List.{append-nil, append_assoc}
use Rattle.lines.specs.Gathered.{Keeps, StaysFailed}

pub keeps_same : (a : Option (List ℕ)) → Keeps a [] a
keeps_same None = refl
keeps_same (Some held) = ([], sym (append-nil held))

-- All that was held is written away, or a write failed.
pub keeps_emptied : (a b : Option (List ℕ)) → (b ≡ Some []) ⊎ (b ≡ None) → StaysFailed a b → Keeps a [] b
keeps_emptied None b done stays = stays refl
keeps_emptied (Some held) b (inl done) stays = subst (Keeps (Some held) []) (sym done) (held, refl)
keeps_emptied (Some held) b (inr done) stays = subst (Keeps (Some held) []) (sym done) tt

pub keeps_put : (a : Option (List ℕ)) (held x : List ℕ) → a ≡ Some held → Keeps a x (Some (held ++ x))
keeps_put a held x was = subst (λ (a : Option (List ℕ)). Keeps a x (Some (held ++ x))) (sym was) ([], refl)

pub keeps_more : (a : Option (List ℕ)) (x : List ℕ) (b : Option (List ℕ)) (y : List ℕ) (c : Option (List ℕ)) → Keeps a x b → Keeps b y c → Keeps a (x ++ y) c
keeps_more None x b y c one two = subst (λ (b : Option (List ℕ)). Keeps b y c) one two
keeps_more (Some held) x None y c one two = subst (Keeps (Some held) (x ++ y)) (sym two) tt
keeps_more (Some held) x (Some mid) y None one two = tt
keeps_more (Some held) x (Some mid) y (Some rest) one two = (
  one.0 ++ two.0,
  append_assoc one.0 two.0 rest ∙ ap (λ (l : List ℕ). one.0 ++ l) two.1 ∙ sym (append_assoc one.0 mid y)
      ∙ ap (λ (l : List ℕ). l ++ y) one.1 ∙ append_assoc held x y,
)
