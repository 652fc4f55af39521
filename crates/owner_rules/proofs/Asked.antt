-- The question's refusals one after another, before the walk and behind it. Assumes nothing.
use Prim.Native.Nat.{ℕ, ◌≤◌, ◌<◌}
use mathlib.Core.Path.{◌≡◌, refl, sym, ap, ◌∙◌, subst}
use mathlib.Core.List.{List}
use mathlib.Core.Bool.{Bool, true, false, ◌&&◌}
use native.Mathlib.Omega.{arith}
use lib.ListN.{length}
use lib.Dec.{leb}
use borrow.Author.Tests.{le-ltb, lt-ltb, leb-true, leb-false}
use Rattle.refusals.specs.Refusals.{bad_argument, outside}
use Rattle.refusals.specs.Reply.{Reply, accepted, refusal}
use Rattle.refusals.specs.declared.refusal.Refusal.{Refusal}
use Rattle.header.specs.Promise.{most_bytes}
use Rattle.elements_rules.specs.Holds.{within}
use Rattle.elements_rules.specs.Promise.{is_table, allowed, zeros}
use Rattle.elements_rules.proofs.Limits.{by_table, no_place}
use Rattle.elements_rules.proofs.Limits as limits
use Rattle.owner_rules.specs.Owner.{Side, header, payload, Owned, most_links, owner_at, owner_of, chain_of}
use Rattle.owner_rules.specs.Promise.{owner_is, owner_reply, links_of, OwnerPromise, ChainPromise}
use Rattle.owner_rules.specs.Contract.{WalkMet}
use Rattle.std.proofs.Common.{Result, Err}
use Rattle.owner_rules.specs.declared.owner.Owner.{Owner}

-- ---- the limits of the arguments

module _ (s : List ℕ) (start links : ℕ) where
  -- Without a table the place alone is left to test.
  pub asked_place : (leb (length s) most_bytes && leb start (length s)) ≡ true
      → leb links most_links ≡ (allowed s start 0 && leb links most_links)
  unfolding is_table
  asked_place q = rw (← by_table s start 0 q)

  pub asked_none : (leb (length s) most_bytes && leb start (length s)) ≡ false
      → (leb (length s) most_bytes && leb start (length s)) ≡ (allowed s start 0 && leb links most_links)
  asked_none q = rw (← no_place s start 0 q, q)

pub first_true : (a b : Bool) → (a && b) ≡ true → a ≡ true
first_true true b q = refl
first_true false b q = q

-- Of a slice only its length is asked.
pub asked_same : (s : List ℕ) (start : ℕ) {a b : ℕ} → a ≡ b
    → (allowed s start 0 && leb a most_links) ≡ (allowed s start 0 && leb b most_links)
asked_same s start l = ap (λ (n : ℕ). allowed s start 0 && leb n most_links) l

-- ---- the questions

module _ (live : Bool) (s : List ℕ) (start size parent x : ℕ) where
  pub owner_broken : allowed s start 0 ≡ false → owner_of live s start size parent x ≡ refusal bad_argument
  unfolding owner_of
  owner_broken a = rw a

  module _ (a : allowed s start 0 ≡ true) where
    pub owner_outside : within start size x ≡ false → owner_of live s start size parent x ≡ refusal outside
    unfolding owner_of
    owner_outside w = rw (a, w)

    pub owner_walks : within start size x ≡ true
        → owner_of live s start size parent x ≡ owner_at live s x size 0 parent start size
    unfolding owner_of
    owner_walks w = rw (a, w)

  -- A chain is asked like its owner, in a slice that is not too long.
  pub chain_long : (links : ℕ) → most_links < links → chain_of live s start size parent x links ≡ refusal bad_argument
  unfolding chain_of
  chain_long links l = rw (lt-ltb most_links links l)

  pub chain_owner : (links : ℕ) → links ≤ most_links
      → chain_of live s start size parent x links ≡ owner_of live s start size parent x
  unfolding chain_of
  chain_owner links l = rw (le-ltb most_links links l)

  -- Both tests of the arguments, as the code asks them.
  pub chain_broken : (links : ℕ) → (allowed s start 0 && leb links most_links) ≡ false
      → chain_of live s start size parent x links ≡ refusal bad_argument
  chain_broken links q = go (allowed s start 0) refl (leb links most_links) refl q
    where
      go : (a : Bool) → allowed s start 0 ≡ a → (b : Bool) → leb links most_links ≡ b → (a && b) ≡ false
          → chain_of live s start size parent x links ≡ refusal bad_argument
      go a d false e w = chain_long links (leb-false links most_links e)
      go false d true e w = chain_owner links (leb-true links most_links e) ∙ owner_broken d
      go true d true e w = let z : ◌≡◌ {A = ℕ} 0 1 = cc in absurd (omega arith)

  pub both_allowed : (links : ℕ) → (allowed s start 0 && leb links most_links) ≡ true
      → (allowed s start 0 ≡ true) × (links ≤ most_links)
  both_allowed links q = go (allowed s start 0) refl (leb links most_links) refl q
    where
      go : (a : Bool) → allowed s start 0 ≡ a → (b : Bool) → leb links most_links ≡ b → (a && b) ≡ true
          → (allowed s start 0 ≡ true) × (links ≤ most_links)
      go true d true e w = (d, leb-true links most_links e)
      go true d false e w = let z : ◌≡◌ {A = ℕ} 0 1 = cc in absurd (omega arith)
      go false d b e w = let z : ◌≡◌ {A = ℕ} 0 1 = cc in absurd (omega arith)

-- The recording is within its limit.
pub bytes_allowed : (s : List ℕ) (start : ℕ) → allowed s start 0 ≡ true → length s ≤ most_bytes
bytes_allowed s start a = (limits.within s start 0 a).bytes

-- ---- what the code promises of the chain

-- What is told as a refusal is one.
pub told_refused : (o : Reply Owned) (e : Refusal) → Err e ≡ owner_reply o → o ≡ refusal e
told_refused (refusal e') e q = let i : e' ≡ e = cc in ap refusal i
told_refused (accepted o) e q = by o.side q
  where
    by : (p : Side) → Err e ≡ owner_is p o.address (length o.masters) → accepted o ≡ refusal e
    by header w = let z : ◌≡◌ {A = ℕ} 0 1 = cc in absurd (let y : ⊥ = omega arith in y)
    by payload w = let z : ◌≡◌ {A = ℕ} 0 1 = cc in absurd (let y : ⊥ = omega arith in y)

module _ (live : Bool) (s : List ℕ) (start size parent x : ℕ) (t t' : List ℕ) where
  asked_is : (r : Result Owner Refusal) (o : Reply Owned) → chain_of live s start size parent x (length t) ≡ o → r ≡ owner_reply o
      → t' ≡ links_of (length t) o → ChainPromise live s start size parent x t r t'
  asked_is r o e q z = record { reply = rw e q; links = rw e z }

  refusal_is : (e : Refusal) → chain_of live s start size parent x (length t) ≡ refusal e → t' ≡ zeros (length t)
      → ChainPromise live s start size parent x t (Err e) t'
  unfolding links_of
  refusal_is e q z = asked_is (Err e) (refusal e) q refl z

  pub asked_broken : (allowed s start 0 && leb (length t) most_links) ≡ false → t' ≡ zeros (length t)
      → ChainPromise live s start size parent x t (Err bad_argument) t'
  asked_broken q z = refusal_is bad_argument (chain_broken live s start size parent x (length t) q) z

  module _ (q : (allowed s start 0 && leb (length t) most_links) ≡ true) where
    pub asked_outside : within start size x ≡ false → t' ≡ zeros (length t)
        → ChainPromise live s start size parent x t (Err outside) t'
    asked_outside w z =
        let (a, l) = both_allowed live s start size parent x (length t) q in
        refusal_is outside
        (chain_owner live s start size parent x (length t) l ∙ owner_outside live s start size parent x a w) z

    module _ (w : within start size x ≡ true) where
      asked_walk : chain_of live s start size parent x (length t) ≡ owner_at live s x size 0 parent start size
      asked_walk =
          let (a, l) = both_allowed live s start size parent x (length t) q in
          chain_owner live s start size parent x (length t) l ∙ owner_walks live s start size parent x a w

      -- The walk is refused, and the slice cleared again.
      pub asked_refused : (u u' : List ℕ) (r : Result Owner Refusal) (e : Refusal) → WalkMet live s start size parent x u r u'
          → r ≡ Err e → t' ≡ zeros (length t) → ChainPromise live s start size parent x t r t'
      asked_refused u u' r e m i z =
          let o = owner_at live s x size 0 parent start size in
          let f = told_refused o e (sym i ∙ m.reply) in
          subst (λ (y : Result Owner Refusal). ChainPromise live s start size parent x t y t') (sym i)
          (refusal_is e (asked_walk ∙ f) z)

      -- The walk ends at an owner, with the chain in a slice as long as the one that was lent.
      pub asked_owned : (u : List ℕ) (r : Result Owner Refusal) → length u ≡ length t → WalkMet live s start size parent x u r t'
          → ((e : Refusal) → r ≡ Err e → ⊥) → ChainPromise live s start size parent x t r t'
      asked_owned u r l m n = by (owner_at live s x size 0 parent start size) refl
        where
          by : (o : Reply Owned) → owner_at live s x size 0 parent start size ≡ o
              → ChainPromise live s start size parent x t r t'
          by (accepted o) e =
              asked_is r (accepted o) (asked_walk ∙ e) (m.reply ∙ ap owner_reply e)
              (m.links o e ∙ ap (λ (k : ℕ). links_of k (accepted o)) l)
          by (refusal f) e = absurd (n f (m.reply ∙ ap owner_reply e))

-- The same without a chain.
pub owner_of_chain : (live : Bool) (s : List ℕ) (start size parent x : ℕ) (t : List ℕ) (r : Result Owner Refusal) (t' : List ℕ)
    → length t ≤ most_links → ChainPromise live s start size parent x t r t' → OwnerPromise live s start size parent x r
owner_of_chain live s start size parent x t r t' l p =
    record { reply = p.reply ∙ ap owner_reply (chain_owner live s start size parent x (length t) l) }
