-- The reply is exactly the one of 14, 15, an owner and a fault on the way that holds (`OwnerExactly`). Assumes nothing.
use Prim.Native.Nat.{ℕ, zero, suc, ◌+◌, ◌-◌, ◌≤◌, ◌<◌}
use mathlib.Core.Path.{◌≡◌, refl, sym, ap, ◌∙◌}
use mathlib.Core.List.{List}
use mathlib.Core.Logic.{inl, inr}
use mathlib.Core.Bool.{Bool}
use native.Mathlib.Omega.{arith}
use Rattle.refusals.specs.Refusals.{because}
use Rattle.refusals.specs.Reply.{refusal}
use Rattle.refusals.specs.declared.refusal.Cause.{Cause}
use Rattle.refusals.specs.declared.refusal.Cause.TheVariants as C
use Rattle.header.specs.Header.{refused as refused_header}
use Rattle.header.proofs.Inside.{header_inside}
use Rattle.elements_rules.specs.Reading.{element_header, depths}
use Rattle.elements_rules.specs.Faults.{Errand, to_owner}
use Rattle.elements_rules.specs.Faults.{Fault, NoHeader, no_header, Unsized, unsized}
use Rattle.elements_rules.specs.Faults.{Larger, larger_element, larger_asked, larger_passed, Deeper, deeper_element}
use Rattle.elements_rules.specs.Faults.{deeper_asked}
use Rattle.elements_rules.proofs.Parts.{taken_there, known_taken}
use Rattle.owner_rules.specs.Owner.{in_master, whole_of, owner_at}
use Rattle.owner_rules.specs.Promise.{owner_reply, OwnerPromise}
use Rattle.owner_rules.specs.Way.{OwnerWay, here, past, into}
use Rattle.owner_rules.specs.Theorems.{OwnerAnswer, broken, away, owned, faulty, OwnerExactly}
use Rattle.owner_rules.proofs.Steps.{no_header_law, too_deep_law, too_large, in_master_law, behind}
use Rattle.owner_rules.proofs.Walking.{inside}
use Rattle.owner_rules.proofs.Asked.{owner_broken, owner_outside, owner_walks}
use Rattle.owner_rules.proofs.Sound.{owner_answers}
use Rattle.owner_rules.proofs.Found.{owned_found}
use Rattle.owner_rules.proofs.Refusals.{finds, no_body, not_full, not_other, not_far, not_again, not_many, never}
use Rattle.std.proofs.Common.{Result}
use Rattle.owner_rules.specs.declared.owner.Owner.{Owner}
use Rattle.refusals.specs.declared.refusal.Refusal.{Refusal}

-- ---- a fault, and the refusal of it

-- A header that is refused, whoever reads it, is refused in both modes.
no_head : (live : Bool) (s : List ℕ) (at : ℕ) (c : Cause) (e : Errand) → NoHeader s at c e
    → element_header live s at ≡ refused_header c
no_head live s at c e (no_header r q) = rw q

-- One whose size has to be known, and is not.
no_size : (live : Bool) (s : List ℕ) (at parent depth left : ℕ) → Unsized s at (to_owner live parent depth left)
    → element_header live s at ≡ refused_header C.UnknownSize
no_size live s at parent depth left (unsized h q b) = rw (q, b)

module _ (live : Bool) (s : List ℕ) (x most depth parent at left : ℕ) where
  abbrev Refuses : Cause → Type 0
  Refuses c = owner_at live s x (suc most) depth parent at left ≡ refusal (because c at)

  -- Each fault of an element that is asked is told at its header.
  larger : (e : Errand) → Larger s at e → e ≡ to_owner live parent depth left → Refuses C.Overrun
  larger _ (larger_element mode cap p d rows l f a b) i = never (sym (ap finds i))
  larger _ (larger_passed m stops l k) i = never (sym (ap finds i))
  larger _ (larger_asked m p d l low (h, q, g, b)) i =
      let n : m ≡ live = cc in
      let j : d ≡ depth = cc in
      let k : l ≡ left = cc in
      too_large live s x most depth parent at left h (known_taken live s at h q (rw n at g)) (omega arith) (omega arith)

  deeper : (e : Errand) → Deeper s at e → e ≡ to_owner live parent depth left → Refuses C.TooDeep
  deeper _ (deeper_element mode cap p rows l k) i = never (sym (ap finds i))
  deeper _ (deeper_asked m p l (h, q, g, u)) i =
      let n : m ≡ live = cc in
      let j : depths ≡ depth = cc in
      too_deep_law live s x most depth parent at left h (known_taken live s at h q (rw n at g)) (omega arith)

  refuses : (c : Cause) → Fault s at (to_owner live parent depth left) c → Refuses c
  refuses C.PastEnd (inl f) = no_header_law live s x most depth parent at left _ (no_head live s at _ _ f)
  refuses C.PastEnd (inr f) = never (no_body s at _ _ f)
  refuses C.InvalidId f = no_header_law live s x most depth parent at left _ (no_head live s at _ _ f)
  refuses C.InvalidSize f = no_header_law live s x most depth parent at left _ (no_head live s at _ _ f)
  refuses C.Overrun f = larger _ f refl
  refuses C.TooDeep f = deeper _ f refl
  refuses C.InvalidUint f = never (no_body s at _ _ f)
  refuses C.InvalidFloat f = never (no_body s at _ _ f)
  refuses C.InvalidDate f = never (no_body s at _ _ f)
  refuses C.NotUtf8 f = never (no_body s at _ _ f)
  refuses (C.InvalidSeekHead id) f = never (not_far at id _ f)
  refuses C.StaleEntry f = never (not_other s at _ f)
  refuses C.HeadAgain f = never (not_again at _ f)
  refuses C.TooManyHeads f = never (not_many at _ f)
  refuses C.NoFreeRow f = never (not_full s at _ f)
  refuses C.BadArgument f = absurd f
  refuses C.Outside f = absurd f
  refuses C.UnknownSize f = no_header_law live s x most depth parent at left _ (no_size live s at parent depth left f)

-- It is told from wherever the way leads to it.
way_refused :
    (live : Bool) (s : List ℕ) (x : ℕ) (c : Cause) (most depth parent at left : ℕ) (ms : List ℕ) (a : ℕ) (e : Errand)
    → OwnerWay live s x depth parent at left ms a e → Fault s a e c → left ≤ most → at ≤ x → x < at + left
    → owner_at live s x most depth parent at left ≡ refusal (because c a)
way_refused live s x c zero depth parent at left ms a e w f m low high = absurd (omega arith)
way_refused live s x c (suc most) depth parent at left _ _ _ (here _ _ _ _ _ _) f m low high =
    refuses live s x most depth parent at left c f
way_refused live s x c (suc most) depth parent at left ms a e (past _ _ _ _ _ _ _ g j d l b w) f m low high =
    let one = (header_inside s at g (taken_there live s at g j)).0 in
    behind live s x most depth parent at left g j d l (omega arith) b
    ∙ way_refused live s x c most depth parent (at + whole_of g) (left - whole_of g) ms a e w f
    (omega arith) b (omega arith)
way_refused live s x c (suc most) depth parent at left _ a e (into _ _ _ _ ms _ _ g j d l b t n w) f m low high =
    let one = (header_inside s at g (taken_there live s at g j)).0 in
    in_master_law live s x most depth parent at left g j d l b t n
    ∙ ap (in_master at)
    (way_refused live s x c most (depth + 1) g.id (at + g.length) g.size ms a e w f (omega arith) b
    (omega arith))

-- What is one of the four is the reply.
answer_told : (live : Bool) (s : List ℕ) (start size parent x : ℕ) (r : Result Owner Refusal)
    → OwnerAnswer live s start size parent x r → OwnerPromise live s start size parent x r
answer_told live s start size parent x r (broken a i) =
    record { reply = i ∙ ap owner_reply (sym (owner_broken live s start size parent x a)) }
answer_told live s start size parent x r (away a w i) =
    record { reply = i ∙ ap owner_reply (sym (owner_outside live s start size parent x a w)) }
answer_told live s start size parent x r (owned o k i) =
    record { reply = i ∙ ap owner_reply (sym (owned_found live s start size parent x o k)) }
answer_told live s start size parent x r (faulty e a w k i) =
    let (low, high) = inside start size x w in
    record {
      reply =
          i
          ∙ ap owner_reply
          (sym
          (owner_walks live s start size parent x a w
          ∙ way_refused live s x e.cause size 0 parent start size k.reached.0 e.address k.errand
          k.reached.1 k.fault (omega arith) low high));
    }

pub owner_exactly : OwnerExactly
owner_exactly live s start size parent x r =
    (owner_answers live s start size parent x r, answer_told live s start size parent x r)
