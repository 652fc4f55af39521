-- What the public calls `owner` and `owner_chain` promise.
use Rattle.std.specs.Prelude.{ℕ, ◌≡◌, List, ◌++◌, Bool, length, take}
use Rattle.refusals.specs.Reply.{Reply, accepted, refusal}
use Rattle.elements_rules.specs.Promise.{zeros}
use Rattle.owner_rules.specs.Owner.{Side, header, payload, Owned, chain_to, owner_of, chain_of}
use Rattle.owner_rules.specs.declared.owner.Owner.TheVariants.{Header, Payload}
use Rattle.std.specs.Prelude.{Result, Ok, Err}
use Rattle.owner_rules.specs.declared.owner.Owner.{Owner}
use Rattle.refusals.specs.declared.refusal.Refusal.{Refusal}

-- How an owner is told: by its header's address, and by how many masters stand around it.
abbrev pub owner_is : Side → (address depth : ℕ) → Result Owner Refusal
owner_is header address depth = Ok (Header address depth)
owner_is payload address depth = Ok (Payload address depth)

abbrev pub owner_reply : Reply Owned → Result Owner Refusal
owner_reply (accepted o) = owner_is o.side o.address (length o.masters)
owner_reply (refusal e) = Err e

pub record OwnerPromise (live : Bool) (s : List ℕ) (start size parent x : ℕ) (r : Result Owner Refusal) : Type 0 where
  pub reply : r ≡ owner_reply (owner_of live s start size parent x)

-- So many numbers of the chain, from the outermost on, and zeros beyond its end; after a refusal zeros alone.
unfoldable pub links_of : (links : ℕ) → Reply Owned → List ℕ
links_of links (accepted o) = take links (chain_to o ++ zeros links)
links_of links (refusal e) = zeros links

pub record ChainPromise
    (live : Bool) (s : List ℕ) (start size parent x : ℕ) (t : List ℕ) (r : Result Owner Refusal) (t' : List ℕ) : Type 0 where
  pub reply : r ≡ owner_reply (chain_of live s start size parent x (length t))
  pub links : t' ≡ links_of (length t) (chain_of live s start size parent x (length t))
