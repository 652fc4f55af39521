-- The question in live mode beside old mode (`LiveOwner`, `LiveChain`, `EqualOwner`, `EqualChain`, `ChainKnown`).
-- Assumes nothing.
use Prim.Native.Nat.{ℕ, zero, suc, ◌+◌, ◌-◌, ◌≤◌}
use mathlib.Core.Path.{◌≡◌, refl, sym, ap, ◌∙◌, subst}
use mathlib.Core.List.{List, [], ◌∷◌, ◌++◌}
use mathlib.Core.Logic.{◌⊎◌, inl, inr}
use mathlib.Core.Bool.{Bool, true, false, cond, not}
use native.Mathlib.Omega.{arith}
use lib.ListN.{length, take, drop}
use lib.Dec.{leb, ltb}
use Rattle.refusals.specs.Refusals.{overrun, too_deep, unknown_size, bad_argument, outside}
use Rattle.refusals.specs.Reply.{Reply, refusal}
use Rattle.refusals.specs.declared.refusal.Refusal.{Refusal}
use Rattle.header.specs.Header.{Heading, heading, header_of}
use Rattle.header.specs.Header.{refused as refused_header}
use Rattle.header.specs.declared.cursor.Header.{Header}
use Rattle.sizes.specs.Unknown.{unknown}
use Rattle.elements_rules.specs.Reading.{taken, element_header, depths}
use Rattle.elements_rules.specs.Holds.{within}
use Rattle.elements_rules.specs.Promise.{allowed, zeros}
use Rattle.elements_rules.specs.Faults.{Errand, reads_header}
use Rattle.elements_rules.specs.Live.{AllKnown}
use Rattle.elements_rules.proofs.Parts.{of_taken}
use Rattle.owner_rules.specs.Owner.{Side, header, payload, Owned, on_heading, in_master, whole_of}
use Rattle.owner_rules.specs.Owner.{is_master, own, owner_at, owner_of, most_links, chain_of}
use Rattle.owner_rules.specs.Promise.{owner_is, owner_reply, links_of, OwnerPromise}
use Rattle.owner_rules.specs.Way.{OwnerWay, here, past, into, OwnerComes}
use Rattle.owner_rules.specs.Theorems.{OwnerAnswer, broken, away, owned, faulty}
use Rattle.owner_rules.specs.Live.{LiveOwner, LiveChain, EqualOwner, EqualChain, KnownAt, ChainKnown}
use Rattle.owner_rules.proofs.Asked.{owner_broken, chain_long, chain_owner, owner_of_chain}
use Rattle.owner_rules.proofs.Headers.{either}
use Rattle.owner_rules.proofs.Sound.{owner_answers}
use Rattle.owner_rules.proofs.Chains.{chains_lead}
use Rattle.owner_rules.proofs.Alone.{same_answer}
use Rattle.owner_rules.proofs.Refusals.{way_errand}
use Rattle.std.proofs.Common.{Err}

-- In live mode an answer is 17, or what it is in old mode.
data AnswerOr (old live : Reply Owned) : Type 0 where
  seventeen : (a : ℕ) → live ≡ refusal (unknown_size a) → AnswerOr old live
  equal : live ≡ old → AnswerOr old live

-- ---- one law for each combinator

moved : {o l l' : Reply Owned} → l' ≡ l → AnswerOr o l → AnswerOr o l'
moved e (seventeen a q) = seventeen a (e ∙ q)
moved e (equal q) = equal (e ∙ q)

-- The header step: 17, or the same header.
heading_or : (at : ℕ) (y : Heading) (k k' : Header → Reply Owned) → ((h : Header) → AnswerOr (k h) (k' h))
    → AnswerOr (on_heading at (taken false y) k) (on_heading at (taken true y) k')
heading_or at (refused_header c) k k' each = equal refl
heading_or at (heading h) k k' each = by (unknown h) refl
  where
    by : (b : Bool) → unknown h ≡ b → AnswerOr (k h) (on_heading at (taken true (heading h)) k')
    by true e = seventeen at (rw e)
    by false e = moved (rw e) (each h)

choice_or : (b : Bool) (o o' u u' : Reply Owned) → AnswerOr o o' → AnswerOr u u' → AnswerOr (cond b o u) (cond b o' u')
choice_or true o o' u u' l m = l
choice_or false o o' u u' l m = m

master_or : (at : ℕ) (o o' : Reply Owned) → AnswerOr o o' → AnswerOr (in_master at o) (in_master at o')
master_or at o o' (seventeen a e) = seventeen a (ap (in_master at) e)
master_or at o o' (equal e) = equal (ap (in_master at) e)

-- ---- the question

module _ (s : List ℕ) (x : ℕ) where
  walk_or : (most depth parent at left : ℕ)
      → AnswerOr (owner_at false s x most depth parent at left) (owner_at true s x most depth parent at left)
  unfolding owner_at
  walk_or zero depth parent at left = equal refl
  walk_or (suc most) depth parent at left =
      heading_or at (header_of (drop at s)) _ _ (λ h.
      choice_or (leb depths depth) (refusal (too_deep at)) _ _ _ (equal refl)
      (choice_or (ltb left (whole_of h)) (refusal (overrun at)) _ _ _ (equal refl)
      (choice_or (ltb x (at + h.length)) (own header at) _ _ _ (equal refl)
      (choice_or (ltb x (at + whole_of h)) _ _ _ _
      (choice_or (is_master h parent) _ _ (own payload at) _
      (master_or at _ _ (walk_or most (depth + 1) h.id (at + h.length) h.size)) (equal refl))
      (walk_or most depth parent (at + whole_of h) (left - whole_of h))))))

module _ (s : List ℕ) (start size parent x : ℕ) where
  owner_or : AnswerOr (owner_of false s start size parent x) (owner_of true s start size parent x)
  unfolding owner_of
  owner_or =
      choice_or (not (allowed s start 0)) (refusal bad_argument) _ _ _ (equal refl)
      (choice_or (not (within start size x)) (refusal outside) _ _ _ (equal refl)
      (walk_or s x size 0 parent start size))

  chain_or : (links : ℕ)
      → AnswerOr (chain_of false s start size parent x links) (chain_of true s start size parent x links)
  unfolding chain_of
  chain_or links = choice_or (ltb most_links links) (refusal bad_argument) _ _ _ (equal refl) owner_or

  -- Where the sizes on the way are known, live mode takes the headers there as old mode does.
  taken_same : AllKnown s (OwnerComes false s start size parent x) → (ms : List ℕ) (a : ℕ) (e : Errand)
      → OwnerWay false s x 0 parent start size ms a e → element_header true s a ≡ element_header false s a
  taken_same k ms a e w =
      let (under, deep, last, i) = way_errand false s x 0 parent start size ms a e w in
      by (header_of (drop a s)) (λ h. k a e h (ms, w) (ap reads_header i))
    where
      by : (y : Heading) → ((h : Header) → y ≡ heading h → unknown h ≡ false) → taken true y ≡ taken false y
      by (refused_header c) f = refl
      by (heading h) f = rw (f h refl)

  known_owner : (allowed s start 0 ≡ true → AllKnown s (OwnerComes false s start size parent x))
      → owner_of true s start size parent x ≡ owner_of false s start size parent x
  known_owner k = by (allowed s start 0) refl
    where
      by : (b : Bool) → allowed s start 0 ≡ b
          → owner_of true s start size parent x ≡ owner_of false s start size parent x
      by true a = sym (same_answer false true s s x start size parent a a (taken_same (k a)))
      by false a = owner_broken true s start size parent x a ∙ sym (owner_broken false s start size parent x a)

  known_chain : (links : ℕ)
      → (allowed s start 0 ≡ true → links ≤ most_links → AllKnown s (OwnerComes false s start size parent x))
      → chain_of true s start size parent x links ≡ chain_of false s start size parent x links
  known_chain links k =
      either most_links links
      (λ l. chain_long true s start size parent x links l ∙ sym (chain_long false s start size parent x links l))
      (λ l.
      chain_owner true s start size parent x links l
      ∙ known_owner (λ a. k a l)
      ∙ sym (chain_owner false s start size parent x links l))

-- ---- the theorems

pub live_owner : LiveOwner
live_owner s start size parent x r r' p q = by (owner_or s start size parent x)
  where
    by : AnswerOr (owner_of false s start size parent x) (owner_of true s start size parent x)
        → ((a : ℕ) × (r' ≡ Err (unknown_size a))) ⊎ (r' ≡ r)
    by (seventeen a e) = inl (a, q.reply ∙ ap owner_reply e)
    by (equal e) = inr (q.reply ∙ ap owner_reply e ∙ sym p.reply)

pub live_chain : LiveChain
live_chain s start size parent x t r r' t' u' p q = by (chain_or s start size parent x (length t))
  where
    by : AnswerOr (chain_of false s start size parent x (length t)) (chain_of true s start size parent x (length t))
        → ((a : ℕ) × (r' ≡ Err (unknown_size a))) ⊎ ((r' ≡ r) × (u' ≡ t'))
    by (seventeen a e) = inl (a, q.reply ∙ ap owner_reply e)
    by (equal e) =
        inr (
          q.reply ∙ ap owner_reply e ∙ sym p.reply,
          q.links ∙ ap (links_of (length t)) e ∙ sym p.links,
        )

pub equal_owner : EqualOwner
equal_owner s start size parent x r r' k p q =
    q.reply ∙ ap owner_reply (known_owner s start size parent x k) ∙ sym p.reply

pub equal_chain : EqualChain
equal_chain s start size parent x t r r' t' u' k p q =
    let e = known_chain s start size parent x (length t) k in
    (q.reply ∙ ap owner_reply e ∙ sym p.reply, q.links ∙ ap (links_of (length t)) e ∙ sym p.links)

-- ---- the chain's sizes

-- What live mode has taken at an address is of known size.
taken_known : (s : List ℕ) (a : ℕ) (g : Header) → element_header true s a ≡ heading g → (h : Header)
    → header_of (drop a s) ≡ heading h → unknown h ≡ false
taken_known s a g q h e =
    let (w, k) = of_taken true (header_of (drop a s)) g q in
    let i : heading g ≡ heading h = sym w ∙ e in
    let j : g ≡ h = cc in
    subst (λ (y : Header). unknown y ≡ false) j k

way_known : (s : List ℕ) (x depth parent at left : ℕ) (ms : List ℕ) (a : ℕ) (e : Errand) (g : Header)
    → OwnerWay true s x depth parent at left ms a e → element_header true s a ≡ heading g → KnownAt s (ms ++ (a ∷ []))
way_known s x depth parent at left _ a _ g (here _ _ _ _ _ _) q = (taken_known s a g q, tt)
way_known s x depth parent at left ms a e g (past _ _ _ _ _ _ _ h i d l b w) q =
    way_known s x depth parent _ _ ms a e g w q
way_known s x depth parent at left _ a e g (into _ _ _ _ ms _ _ h i d l b c m w) q =
    (taken_known s at h i, way_known s x _ _ _ _ ms a e g w q)

-- What a slice of any length holds of the chain.
slice_known : (s ms : List ℕ) (a : ℕ) (more : List ℕ) (links : ℕ) → KnownAt s (ms ++ (a ∷ []))
    → KnownAt s (take (suc (length ms)) (take links ((ms ++ (a ∷ [])) ++ more)))
slice_known s [] a more zero k = tt
slice_known s [] a more (suc links) k = (k.0, tt)
slice_known s (b ∷ ms) a more zero k = tt
slice_known s (b ∷ ms) a more (suc links) k = (k.0, slice_known s ms a more links k.1)

-- An owner is no refusal, and tells its address and its depth.
no_refusal : {A : Type 0} (side : Side) (a depth : ℕ) (e : Refusal) → owner_is side a depth ≡ Err e → A
no_refusal header a depth e i = let z : ◌≡◌ {A = ℕ} 0 1 = cc in absurd (let y : ⊥ = omega arith in y)
no_refusal payload a depth e i = let z : ◌≡◌ {A = ℕ} 0 1 = cc in absurd (let y : ⊥ = omega arith in y)

same_told : (side side' : Side) (a a' depth depth' : ℕ) → owner_is side a depth ≡ owner_is side' a' depth'
    → (a' ≡ a) × (depth' ≡ depth)
same_told header header a a' depth depth' i = (cc, cc)
same_told payload payload a a' depth depth' i = (cc, cc)
same_told header payload a a' depth depth' i = let z : ◌≡◌ {A = ℕ} 0 1 = cc in absurd (let y : ⊥ = omega arith in y)
same_told payload header a a' depth depth' i = let z : ◌≡◌ {A = ℕ} 0 1 = cc in absurd (let y : ⊥ = omega arith in y)

pub chain_known : ChainKnown
chain_known s start size parent x t side a depth t' p =
    either most_links (length t)
    (λ l. no_refusal side a depth bad_argument
    (p.reply ∙ ap owner_reply (chain_long true s start size parent x (length t) l)))
    (λ l.
    let g = owner_of_chain true s start size parent x t (owner_is side a depth) t' l p in
    by l g (owner_answers true s start size parent x (owner_is side a depth) g))
  where
    by : length t ≤ most_links → OwnerPromise true s start size parent x (owner_is side a depth)
        → OwnerAnswer true s start size parent x (owner_is side a depth) → KnownAt s (a ∷ take (suc depth) t')
    by l g (broken b i) = no_refusal side a depth bad_argument i
    by l g (away b w i) = no_refusal side a depth outside i
    by l g (faulty e b w k i) = no_refusal side a depth e i
    by l g (owned o k i) =
        let (same, deep) = same_told side o.side a o.address depth (length o.masters) i in
        let all = way_known s x 0 parent start size o.masters o.address _ k.head k.way k.stands in
        let told = (chains_lead true s start size parent x t (owner_is side a depth) (owner_is side a depth) t' p g
        ).links l o k in
        let slice : KnownAt s (take (suc (length o.masters)) t')
        = subst (λ (u : List ℕ). KnownAt s (take (suc (length o.masters)) u)) (sym told)
        (slice_known s o.masters o.address (zeros (length t)) (length t) all) in (
          subst (λ (b : ℕ). (h : Header) → header_of (drop b s) ≡ heading h → unknown h ≡ false) same
              (taken_known s o.address k.head k.stands),
          subst (λ (n : ℕ). KnownAt s (take (suc n) t')) deep slice,
        )
