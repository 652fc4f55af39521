-- Live mode beside old mode in the question whose byte it is (document 02, C-18): the statements of theorems, each with
-- a wrong reader that it shuts out.
use Rattle.std.specs.Prelude.{ℕ, suc, ◌≤◌, ◌≡◌, List, [], ◌∷◌, ◌⊎◌, true, false, length, take, drop}
use Rattle.refusals.specs.Refusals.{unknown_size}
use Rattle.header.specs.Header.{heading, header_of}
use Rattle.header.specs.declared.cursor.Header.{Header}
use Rattle.sizes.specs.Unknown.{unknown}
use Rattle.elements_rules.specs.Promise.{allowed}
use Rattle.elements_rules.specs.Live.{AllKnown}
use Rattle.owner_rules.specs.Owner.{Side, most_links}
use Rattle.owner_rules.specs.Promise.{owner_is, OwnerPromise, ChainPromise}
use Rattle.owner_rules.specs.Way.{OwnerComes}
use Rattle.std.specs.Prelude.{Result, Err}
use Rattle.owner_rules.specs.declared.owner.Owner.{Owner}
use Rattle.refusals.specs.declared.refusal.Refusal.{Refusal}

-- ---- 17, or what old mode says

-- In live mode the reply is 17, or that of old mode. It shuts out a live mode that takes a Cluster of unknown size up
-- to its master's end, and names its children.
abbrev pub LiveOwner : Type 0
LiveOwner =
    (s : List ℕ) (start size parent x : ℕ) (r r' : Result Owner Refusal)
    → OwnerPromise false s start size parent x r → OwnerPromise true s start size parent x r'
    → ((a : ℕ) × (r' ≡ Err (unknown_size a))) ⊎ (r' ≡ r)

-- And so is the chain. It shuts out a live mode that leaves such a Cluster out of the chain.
abbrev pub LiveChain : Type 0
LiveChain =
    (s : List ℕ) (start size parent x : ℕ) (t : List ℕ) (r r' : Result Owner Refusal) (t' u' : List ℕ)
    → ChainPromise false s start size parent x t r t' → ChainPromise true s start size parent x t r' u'
    → ((a : ℕ) × (r' ≡ Err (unknown_size a))) ⊎ ((r' ≡ r) × (u' ≡ t'))

-- ---- equal replies

-- If no header on the way of old mode has an unknown size, live mode gives the equal reply; a call that ends in 14 or
-- 15 goes no way. It shuts out a live mode that gives 17 for an unknown size behind the address, or in the payload of a
-- sibling that it skips.
abbrev pub EqualOwner : Type 0
EqualOwner =
    (s : List ℕ) (start size parent x : ℕ) (r r' : Result Owner Refusal)
    → (allowed s start 0 ≡ true → AllKnown s (OwnerComes false s start size parent x))
    → OwnerPromise false s start size parent x r → OwnerPromise true s start size parent x r' → r' ≡ r

-- And the equal chain, also where the slice is too long. It shuts out a live mode that names the same owner and leaves
-- its masters out.
abbrev pub EqualChain : Type 0
EqualChain =
    (s : List ℕ) (start size parent x : ℕ) (t : List ℕ) (r r' : Result Owner Refusal) (t' u' : List ℕ)
    → (allowed s start 0 ≡ true → length t ≤ most_links → AllKnown s (OwnerComes false s start size parent x))
    → ChainPromise false s start size parent x t r t' → ChainPromise true s start size parent x t r' u'
    → (r' ≡ r) × (u' ≡ t')

-- ---- the chain's sizes

-- At none of these addresses stands a header of unknown size.
abbrev pub KnownAt : List ℕ → List ℕ → Type 0
KnownAt s [] = Unit
KnownAt s (a ∷ more) = ((h : Header) → header_of (drop a s) ≡ heading h → unknown h ≡ false) × KnownAt s more

-- Where live mode names an owner, neither that nor a link of its chain that the slice holds has an unknown size: behind
-- as many numbers as the owner has masters, and one for itself, come zeros. It shuts out a live mode that tests the
-- size of the owner alone.
abbrev pub ChainKnown : Type 0
ChainKnown =
    (s : List ℕ) (start size parent x : ℕ) (t : List ℕ) (side : Side) (a depth : ℕ) (t' : List ℕ)
    → ChainPromise true s start size parent x t (owner_is side a depth) t' → KnownAt s (a ∷ take (suc depth) t')
