-- A chain that grows by a link in a slice of zeros. Assumes nothing.
use Prim.Native.Nat.{ℕ, zero, suc, ◌≤◌, ◌<◌}
use mathlib.Core.Path.{◌≡◌, refl, sym, ap, ◌∙◌}
use mathlib.Core.List.{List, [], ◌∷◌, ◌++◌}
use mathlib.Core.Bool.{Bool, true, false}
use native.Mathlib.Omega.{arith}
use lib.ListN.{length, take, set, length-set}
use lib.Dec.{ltb}
use borrow.Author.Tests.{lt-ltb, le-ltb, ltb-true, ltb-false}
use Rattle.refusals.specs.Reply.{accepted, refusal}
use Rattle.refusals.specs.declared.refusal.Refusal.{Refusal}
use Rattle.elements_rules.specs.Promise.{zeros}
use Rattle.owner_rules.specs.Owner.{Owned, chain_to}
use Rattle.owner_rules.specs.Promise.{links_of}
use Rattle.owner_rules.specs.Contract.{linked}

-- The first n of zeros are n zeros.
pub take_zeros : (n k : ℕ) → n ≤ k → take n (zeros k) ≡ zeros n
take_zeros zero k l = refl
take_zeros (suc n) zero l = absurd (omega arith)
take_zeros (suc n) (suc k) l = ap (λ (t : List ℕ). 0 ∷ t) (take_zeros n k (omega arith))

pub link_in : (t : List ℕ) (k a : ℕ) → k < length t → linked t k a ≡ set t k a
unfolding linked
link_in t k a l = rw (lt-ltb k (length t) l)

pub link_out : (t : List ℕ) (k a : ℕ) → length t ≤ k → linked t k a ≡ t
unfolding linked
link_out t k a l = rw (le-ltb k (length t) l)

-- A link makes the slice no longer and no shorter.
pub length_linked : (t : List ℕ) (k a : ℕ) → length (linked t k a) ≡ length t
length_linked t k a = go (ltb k (length t)) refl
  where
    go : (b : Bool) → ltb k (length t) ≡ b → length (linked t k a) ≡ length t
    go true e = ap length (link_in t k a (ltb-true k (length t) e)) ∙ length-set t k a
    go false e = ap length (link_out t k a (ltb-false k (length t) e))

-- A link behind the first is a link of the rest.
link_rest : (m : ℕ) (t : List ℕ) (k a : ℕ) → linked (m ∷ t) (suc k) a ≡ m ∷ linked t k a
link_rest m t k a = go (ltb k (length t)) refl
  where
    go : (b : Bool) → ltb k (length t) ≡ b → linked (m ∷ t) (suc k) a ≡ m ∷ linked t k a
    go true e =
        let l = ltb-true k (length t) e in
        link_in (m ∷ t) (suc k) a (omega arith) ∙ ap (λ (u : List ℕ). m ∷ u) (sym (link_in t k a l))
    go false e =
        let l = ltb-false k (length t) e in
        link_out (m ∷ t) (suc k) a (omega arith) ∙ ap (λ (u : List ℕ). m ∷ u) (sym (link_out t k a l))

link_grows : (n k : ℕ) (ms : List ℕ) (a : ℕ) → n ≤ k
    → linked (take n (ms ++ zeros k)) (length ms) a ≡ take n ((ms ++ (a ∷ [])) ++ zeros k)
link_grows zero k ms a l = link_out [] (length ms) a (omega arith)
link_grows (suc n) zero ms a l = absurd (omega arith)
link_grows (suc n) (suc k) [] a l =
    link_in (0 ∷ take n (zeros k)) 0 a (omega arith)
    ∙ ap (λ (t : List ℕ). a ∷ t) (take_zeros n k (omega arith) ∙ sym (take_zeros n (suc k) (omega arith)))
link_grows (suc n) (suc k) (m ∷ ms) a l =
    link_rest m (take n (ms ++ zeros (suc k))) (length ms) a
    ∙ ap (λ (t : List ℕ). m ∷ t) (link_grows n (suc k) ms a (omega arith))

-- The slice of n numbers that holds a chain holds it with one link more.
pub link_more : (n : ℕ) (ms : List ℕ) (a : ℕ)
    → linked (take n (ms ++ zeros n)) (length ms) a ≡ take n ((ms ++ (a ∷ [])) ++ zeros n)
link_more n ms a = link_grows n n ms a (omega arith)

-- ---- the chain of an answer

pub links_owned : (n : ℕ) (o : Owned) → links_of n (accepted o) ≡ take n (chain_to o ++ zeros n)
unfolding links_of
links_owned n o = refl

pub links_refused : (n : ℕ) (e : Refusal) → links_of n (refusal e) ≡ zeros n
unfolding links_of
links_refused n e = refl
