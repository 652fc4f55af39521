-- A refusal is one of those that the request names (`OwnerRefusals`). Assumes nothing.
use Prim.Native.Nat.{ℕ}
use mathlib.Core.Path.{◌≡◌, refl, subst}
use mathlib.Core.List.{List}
use mathlib.Core.Logic.{◌⊎◌, inl, inr}
use mathlib.Core.Bool.{Bool, true, false}
use native.Mathlib.Omega.{arith}
use Rattle.refusals.specs.Causes.{cause_number}
use Rattle.refusals.specs.declared.refusal.Cause.{Cause}
use Rattle.refusals.specs.declared.refusal.Cause.TheVariants as C
use Rattle.refusals.specs.declared.refusal.Refusal.{Refusal}
use Rattle.refusals.proofs.Listed.{listed}
use Rattle.sizes.specs.Unknown.{unknown}
use Rattle.kinds.specs.Kinds.{member}
use Rattle.elements_rules.specs.Faults.{Errand, to_header, to_body, to_element, to_owner, to_step, to_pass, to_find}
use Rattle.elements_rules.specs.Faults.{to_follow, to_look_up, unsized}
use Rattle.elements_rules.specs.Faults.{Fault, NoBody, body_of_element, body_named, Full, full_element, Other, other_found}
use Rattle.elements_rules.specs.Faults.{Far, far_followed, far_looked_up, Again, again_followed, Many, many_followed}
use Rattle.elements_rules.specs.Faults.{there, callers}
use Rattle.owner_rules.specs.Owner.{owner_of}
use Rattle.owner_rules.specs.Way.{OwnerWay, here, past, into, HonestOwner}
use Rattle.owner_rules.specs.Theorems.{owner_refusals, OwnerRefusals}
use Rattle.owner_rules.proofs.Asked.{first_true, told_refused}
use Rattle.owner_rules.proofs.Sound.{owner_honest}

abbrev Few : (live : Bool) → ℕ → Type 0
Few live n = member n (owner_refusals live) ≡ true

-- The errand on the way is always to find the owner.
pub way_errand : (live : Bool) (s : List ℕ) (x depth parent at left : ℕ) (ms : List ℕ) (a : ℕ) (e : Errand)
    → OwnerWay live s x depth parent at left ms a e
    → (under : ℕ) × (deep : ℕ) × (last : ℕ) × (e ≡ to_owner live under deep last)
way_errand live s x depth parent at left _ _ _ (here _ _ _ _ _ _) = (parent, depth, left, refl)
way_errand live s x depth parent at left ms a e (past _ _ _ _ _ _ _ h q d l b w) =
    way_errand live s x depth parent _ _ ms a e w
way_errand live s x depth parent at left _ a e (into _ _ _ _ ms _ _ h q d l b c m w) =
    way_errand live s x _ _ _ _ ms a e w

-- Whether an errand is to find the owner.
abbrev pub finds : Errand → Bool
finds to_header = false
finds (to_body id parent from size address) = false
finds (to_element mode cap parent depth rows left) = false
finds (to_owner live parent depth left) = true
finds (to_step live) = false
finds (to_pass live stops left) = false
finds (to_find live id) = false
finds (to_follow start position heads) = false
finds (to_look_up id start position heads) = false

-- The other faults are those of other errands.
pub no_body : (s : List ℕ) (at : ℕ) (c : Cause) (e : Errand) → NoBody s at c e → finds e ≡ false
no_body s at c _ (body_of_element mode cap parent depth rows left d f k) = refl
no_body s at c _ (body_named id parent from size k) = refl

pub not_full : (s : List ℕ) (at : ℕ) (e : Errand) → Full s at e → finds e ≡ false
not_full s at _ (full_element mode cap parent depth rows left d k) = refl

pub not_other : (s : List ℕ) (at : ℕ) (e : Errand) → Other s at e → finds e ≡ false
not_other s at _ (other_found live id k) = refl

pub not_far : (at id : ℕ) (e : Errand) → Far at id e → finds e ≡ false
not_far at _ _ (far_followed start position before l) = refl
not_far at id _ (far_looked_up _ start position before l) = refl

pub not_again : (at : ℕ) (e : Errand) → Again at e → finds e ≡ false
not_again at _ (again_followed start position heads k l m) = refl

pub not_many : (at : ℕ) (e : Errand) → Many at e → finds e ≡ false
not_many at _ (many_followed start position heads k l m n) = refl

pub never : {A : Type 0} → true ≡ false → A
never q = let z : ◌≡◌ {A = ℕ} 0 1 = cc in absurd (let y : ⊥ = omega arith in y)

few : (live : Bool) (s : List ℕ) (at under deep last : ℕ) (c : Cause) → Fault s at (to_owner live under deep last) c
    → Few live (cause_number c)
unfolding member
few live s at under deep last C.PastEnd f = refl
few live s at under deep last C.InvalidId f = refl
few live s at under deep last C.InvalidSize f = refl
few live s at under deep last C.Overrun f = refl
few live s at under deep last C.TooDeep f = refl
few live s at under deep last C.InvalidUint f = never (no_body s at _ _ f)
few live s at under deep last C.InvalidFloat f = never (no_body s at _ _ f)
few live s at under deep last C.InvalidDate f = never (no_body s at _ _ f)
few live s at under deep last C.NotUtf8 f = never (no_body s at _ _ f)
few live s at under deep last (C.InvalidSeekHead id) f = never (not_far at id _ f)
few live s at under deep last C.StaleEntry f = never (not_other s at _ f)
few live s at under deep last C.HeadAgain f = never (not_again at _ f)
few live s at under deep last C.TooManyHeads f = never (not_many at _ f)
few live s at under deep last C.NoFreeRow f = never (not_full s at _ f)
few live s at under deep last C.BadArgument f = absurd f
few live s at under deep last C.Outside f = absurd f
few live s at under deep last C.UnknownSize (unsized h q b) = let l = first_true live (unknown h) b in rw l

-- ---- the theorem

module _ (live : Bool) (s : List ℕ) (start size parent x : ℕ) where
  of_callers : (c : Cause) → (c ≡ C.BadArgument) ⊎ (c ≡ C.Outside) → Few live (cause_number c)
  unfolding member
  of_callers c (inl i) = rw i
  of_callers c (inr i) = rw i

  of_honest : (e : Refusal) → HonestOwner live s start size parent x e → Few live (cause_number e.cause)
  of_honest e (there k) =
      let (under, deep, last, i) =
      way_errand live s x 0 parent start size k.reached.0 e.address k.errand k.reached.1 in
      few live s e.address under deep last e.cause
      (subst (λ (y : Errand). Fault s e.address y e.cause) i k.fault)
  of_honest e (callers i z) = of_callers e.cause i

pub owner_refusals_law : OwnerRefusals
owner_refusals_law live s start size parent x e p = (
  listed e,
  of_honest live s start size parent x e
      (owner_honest live s start size parent x e
      (told_refused (owner_of live s start size parent x) e p.reply)),
)
