-- What the functions of `owner` promise each other.
use Rattle.std.specs.Prelude.{ℕ, ◌≡◌, List, Bool, cond, length, set, ltb}
use Rattle.refusals.specs.Reply.{accepted}
use Rattle.owner_rules.specs.Owner.{Owned, owner_at}
use Rattle.owner_rules.specs.Promise.{owner_reply, links_of}
use Rattle.std.specs.Prelude.{Result}
use Rattle.owner_rules.specs.declared.owner.Owner.{Owner}
use Rattle.refusals.specs.declared.refusal.Refusal.{Refusal}

-- The slice t with link k set, where it is long enough for it.
unfoldable pub linked : List ℕ → (k address : ℕ) → List ℕ
linked t k address = cond (ltb k (length t)) (set t k address) t

-- What the walk gives: the reply r, and of an owner the chain in t'.
pub record WalkMet
    (live : Bool) (s : List ℕ) (start size parent x : ℕ) (t : List ℕ) (r : Result Owner Refusal) (t' : List ℕ) : Type 0 where
  pub reply : r ≡ owner_reply (owner_at live s x size 0 parent start size)
  pub links :
      (o : Owned) → owner_at live s x size 0 parent start size ≡ accepted o → t' ≡ links_of (length t) (accepted o)
